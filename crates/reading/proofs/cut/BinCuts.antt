-- The cut of a BIN by its count: what `count` and the jump behind it find is the cut of the documents, and a whole BIN has its layout.
-- Assumes nothing.
use Prim.Native.Nat.{ℕ, zero, suc, ◌+◌, ◌-◌, ◌≤◌, ◌<◌}
use mathlib.Core.Path.{◌≡◌, refl, sym, ap, subst, ◌∙◌}
use mathlib.Core.Bool.{Bool, true, false, cond}
use mathlib.Core.List.{List, [], ◌∷◌, ◌++◌}
use native.Mathlib.Omega.{arith}
use Rattle.std.specs.Prelude.{Result, Ok, Err}
use lib.Dec.{T, leb, leb→le, le→leb}
use lib.ListN.{length, take, drop, get_or, set, length-append, length-drop, length-set}
use lib.Seq.{drop_at, drop-drop, get_or-drop, split_at, length-take-le, append_snoc, get_or-set_same, get_or-set_other}
use Rattle.text.specs.Bytes.{Bytes, bytes, every}
use Rattle.text.specs.Separators.{is_digit, printable}
use Rattle.text.specs.Bin.{bin_mark, begins_bin, count_in, attached_in, is_bin}
use Rattle.text.specs.View.{view_of, elements_of, present}
use Rattle.text.specs.Cut.{Cut, Whole, behind, cut_attached, cut_counted, cut_of}
use Rattle.text.specs.Lookup.{span_among}
use Rattle.text.specs.internal.Count.{told, count_from}
use Rattle.text.specs.declared.separators.Separators.{Separators}
use Rattle.text.specs.declared.bin.Counted.{Counted}
use Rattle.text.specs.declared.bin.Uncounted.{Uncounted}
use Rattle.text.specs.declared.bin.Uncounted.TheVariants.{Open as CountOpen, Broken as CountBroken}
use Rattle.text.proofs.Bools.{both, first_of, second_of}
use Rattle.text.proofs.Everys.{every_weaker}
use Rattle.text.proofs.Bins.{Counts, bin_parts, begins_mark, bin_made, count_made, attached_made}
use Rattle.text.proofs.BinView.{bin_view, view_bin, inspected_bin, elements_bin}
use Rattle.text.proofs.CountedCut.{some_digit, digits_counts, attached_short, attached_whole, attached_broken, counted_jump}
use Rattle.text.proofs.Counting.{Found, Finds, count_finds}
use Rattle.text.proofs.DocumentCut.{cut_marked, Splits, cut_splits}
use Rattle.elements.specs.Checks.{Keeps}
use Rattle.elements.specs.Rules.{data_checks, byte_checks, end_checks}
use Rattle.elements.specs.declared.layout.Layout.{Layout}
use Rattle.reading.specs.internal.Cutting.{LaidAs, StopsWith, bin_layout, seen_up_to, BinSegment, CutsBin, CountedBin, CutsCounted}
use Rattle.reading.specs.declared.cutting.Left.{Left}
use Rattle.reading.specs.declared.cutting.Cut.{Cut as CutOff}
use Rattle.reading.specs.declared.cutting.Uncut.{Uncut}
use Rattle.reading.specs.declared.cutting.Uncut.TheVariants.{Open, Bad, Broken}

-- rules 5 and 6 hold of every whole BIN, whatever its BIN02 holds
digit_printable : (b : ℕ) → T (is_digit b) → T (printable b)
digit_printable b h =
    let x = leb→le 48 b (first_of (leb 48 b) (leb b 57) h) in
    let y = leb→le b 57 (second_of (leb 48 b) (leb b 57) h) in
    both (leb 32 b) (leb b 126) (le→leb 32 b (omega arith)) (le→leb b 126 (omega arith))

ends_filled : (s : Bytes) (last : Bool) → 1 ≤ length s → T (cond (present (s ∷ [])) (leb 1 (length s)) last)
ends_filled [] last h = absurd (omega arith)
ends_filled (b ∷ s) last h = le→leb 1 (suc (length s)) (omega arith)

module _ (q : Separators) (g : Bytes) (h : is_bin q.element g ≡ true) where
  abbrev d : Bytes
  d = count_in q.element g

  abbrev p : Bytes
  p = attached_in q.element g

  counted : Counts d p
  counted = (bin_parts q.element g (rw h tt)).counted

  pub bin_bytes : Keeps (byte_checks (view_of q g))
  unfolding byte_checks data_checks
  bin_bytes =
      rw (view_bin q g h, inspected_bin (bin_view d p) refl)
      (tt, (both (every printable d) true (every_weaker is_digit printable digit_printable d counted.digits) tt, tt))

  pub bin_ends : Keeps (end_checks (view_of q g))
  unfolding end_checks
  bin_ends = rw (view_bin q g h) (tt, (ends_filled d true counted.some, (ends_filled p false counted.long, tt)))

-- where the elements of a BIN start
begin_at : (starts : List ℕ) (at a : ℕ) (e : ℕ) (d p : Bytes) (end : ℕ) → length starts ≡ 33 → a ≡ at + (length d + 5) → (k : ℕ) → k ≤ 2
    → get_or (set (set (set starts 0 at) 1 (at + 4)) 2 a) k 0 ≡ at + (span_among e (bytes "BIN" ∷ d ∷ p ∷ []) end k).start
begin_at starts at a e d p end l z zero u =
    get_or-set_other (set (set starts 0 at) 1 (at + 4)) 2 0 a 0 (λ x. omega arith)
    ∙ get_or-set_other (set starts 0 at) 1 0 (at + 4) 0 (λ x. omega arith)
    ∙ get_or-set_same starts 0 at 0 (omega arith) ∙ omega arith
begin_at starts at a e d p end l z (suc zero) u =
    get_or-set_other (set (set starts 0 at) 1 (at + 4)) 2 1 a 0 (λ x. omega arith)
    ∙ get_or-set_same (set starts 0 at) 1 (at + 4) 0 (simp length-set (omega arith))
begin_at starts at a e d p end l z (suc (suc zero)) u =
    get_or-set_same (set (set starts 0 at) 1 (at + 4)) 2 a 0 (simp length-set (omega arith))
    ∙ z ∙ ap (λ (n : ℕ). at + n) (omega (arith, length-append d (e ∷ [])))
begin_at starts at a e d p end l z (suc (suc (suc k))) u = absurd (omega arith)

module _ (q : Separators) (s : Bytes) (at : ℕ) (marked : T (begins_bin q.element (drop at s))) where
  abbrev mark : Bytes
  mark = bin_mark q.element

  -- behind the mark
  marked_is : drop at s ≡ mark ++ drop (at + 4) s
  marked_is = begins_mark q.element (drop at s) marked ∙ ap (λ (x : Bytes). mark ++ x) (drop-drop 4 at s)

  pub marked_inside : at + 4 ≤ length s
  marked_inside = omega (arith, ap length marked_is, length-drop at s)

  cut_is : cut_of q (drop at s) ≡ behind mark (cut_counted q 0 0 (drop (at + 4) s))
  cut_is = ap (cut_of q) marked_is ∙ cut_marked q (drop (at + 4) s)

  module _ (r : Result Counted Uncounted) (is : r ≡ count_from q.element 0 0 (at + 4) (drop (at + 4) s)) where
    finds : Finds q 0 0 (at + 4) (drop (at + 4) s) r
    finds = rw is (count_finds q 0 0 (at + 4) (drop (at + 4) s) (omega arith))

    pub count_open : r ≡ Err CountOpen → StopsWith q s at 3 0
    count_open z =
        let f = subst (λ (x : Result Counted Uncounted). Finds q 0 0 (at + 4) (drop (at + 4) s) x) z finds in
        record { upto = mark ++ drop (at + 4) s; more = []; stops = cut_is ∙ ap (behind mark) f }

    pub count_broken : r ≡ Err CountBroken → StopsWith q s at 10 1
    count_broken z =
        let f = subst (λ (x : Result Counted Uncounted). Finds q 0 0 (at + 4) (drop (at + 4) s) x) z finds in
        record { upto = mark ++ f.0; more = f.1; stops = cut_is ∙ ap (behind mark) f.2 }

    module _ (number end : ℕ) (z : r ≡ told number end) where
      abbrev f : Found q.element 0 0 (at + 4) (drop (at + 4) s) number end
      f = subst (λ (x : Result Counted Uncounted). Finds q 0 0 (at + 4) (drop (at + 4) s) x) z finds

      long : length s ≡ end + 1 + length f.rest
      long = omega (arith, ap length f.whole ∙ length-append f.count (q.element ∷ f.rest), length-drop (at + 4) s, marked_inside, f.end_is)

      -- BIN02 starts behind the separator
      pub attached_low : at + 6 ≤ end + 1
      attached_low = omega (arith, f.end_is, some_digit f.count f.digits)

      pub attached_high : end + 1 ≤ length s
      attached_high = omega (arith, long)

      rest_is : drop (end + 1) s ≡ f.rest
      rest_is =
          let past : end + 1 ≡ at + 4 + (length f.count + 1) = omega (arith, f.end_is) in
          ap (λ (n : ℕ). drop n s) past ∙ sym (drop-drop (length f.count + 1) (at + 4) s)
          ∙ ap (drop (length f.count + 1)) (f.whole ∙ sym (append_snoc f.count q.element f.rest))
          ∙ drop_at (f.count ++ (q.element ∷ [])) f.rest (length f.count + 1) (simp length-append (omega arith))

      jump : cut_of q (drop at s) ≡ behind mark (behind (f.count ++ (q.element ∷ [])) (cut_attached q number f.rest))
      jump =
          cut_is
          ∙ ap (behind mark)
          (ap (cut_counted q 0 0) f.whole ∙ counted_jump q 0 0 f.count f.rest f.free f.digits
          ∙ ap (λ (n : ℕ). behind (f.count ++ (q.element ∷ [])) (cut_attached q n f.rest)) (sym f.number_is))

      -- fewer bytes are there
      short : length s - (end + 1) ≤ number → StopsWith q s at 3 0
      short l = record {
        upto = mark ++ ((f.count ++ (q.element ∷ [])) ++ f.rest);
        more = [];
        stops = jump ∙ ap (λ (c : Cut). behind mark (behind (f.count ++ (q.element ∷ [])) c)) (attached_short q number f.rest (omega (arith, long)));
      }

      -- the byte behind them
      module _ (inside : end + 1 + number < length s) where
        abbrev front : Bytes
        front = take number f.rest

        abbrev back : Bytes
        back = drop (suc number) f.rest

        abbrev due : ℕ
        due = get_or s (end + 1 + number) 0

        front_long : length front ≡ number
        front_long = length-take-le number f.rest (omega (arith, long))

        due_is : get_or f.rest number 0 ≡ due
        due_is = ap (λ (x : Bytes). get_or x number 0) (sym rest_is) ∙ get_or-drop (end + 1) s number 0

        rest_split : f.rest ≡ front ++ due ∷ back
        rest_split = split_at f.rest number 0 (omega (arith, long)) ∙ ap (λ (b : ℕ). front ++ b ∷ back) due_is

        cut_behind : cut_of q (drop at s) ≡ behind mark (behind (f.count ++ (q.element ∷ [])) (cut_attached q (length front) (front ++ due ∷ back)))
        cut_behind =
            jump ∙ ap (λ (x : Bytes). behind mark (behind (f.count ++ (q.element ∷ [])) (cut_attached q number x))) rest_split
            ∙ ap (λ (n : ℕ). behind mark (behind (f.count ++ (q.element ∷ [])) (cut_attached q n (front ++ due ∷ back)))) (sym front_long)

        other : (due ≡ q.terminator → ⊥) → StopsWith q s at 10 2
        other n = record {
          upto = mark ++ ((f.count ++ (q.element ∷ [])) ++ (front ++ (due ∷ [])));
          more = back;
          stops = cut_behind
              ∙ ap (λ (c : Cut). behind mark (behind (f.count ++ (q.element ∷ [])) c)) (attached_broken q front due back n);
        }

        -- the terminator: a whole BIN
        abbrev segment : Bytes
        segment = mark ++ (f.count ++ q.element ∷ front)

        counts : Counts f.count front
        counts = digits_counts f.count front f.digits (sym f.number_is ∙ sym front_long)

        is_bin_lem : is_bin q.element segment ≡ true
        is_bin_lem = bin_made q.element f.count front f.free counts

        elements_are : elements_of q.element segment ≡ bytes "BIN" ∷ f.count ∷ front ∷ []
        elements_are =
            elements_bin q.element segment is_bin_lem
            ∙ (λ i. bytes "BIN" ∷ count_made q.element f.count front f.free i ∷ attached_made q.element f.count front f.free i ∷ [])

        module _ (is-due : due ≡ q.terminator) where
          cut_whole : cut_of q (drop at s) ≡ Whole segment back
          cut_whole =
              cut_behind
              ∙ ap (λ (c : Cut). behind mark (behind (f.count ++ (q.element ∷ [])) c)) (attached_whole q front due back is-due)
              ∙ ap (λ (x : Bytes). Whole (mark ++ x) back) (append_snoc f.count q.element front)

          laid : (starts : List ℕ) → length starts ≡ 33
              → LaidAs q s (set (set (set starts 0 at) 1 (at + 4)) 2 (end + 1)) (bin_layout at (end + 1 + number)) segment back
              (elements_of q.element segment) (byte_checks (view_of q segment)) (end_checks (view_of q segment))
          laid starts size = record {
            whole = subst (λ (c : Cut). Splits q (drop at s) c) cut_whole (cut_splits q (drop at s));
            place = omega (arith, length-append f.count (q.element ∷ front), front_long, f.end_is);
            data_only = bin_bytes q segment is_bin_lem;
            elements = ap length elements_are;
            begins = λ k l u.
                rw elements_are (begin_at starts at (end + 1) q.element f.count front (length segment) size (omega (arith, f.end_is)) k u);
            room = simp length-set size;
            single = λ t. absurd t;
            kept = λ t. bin_ends q segment is_bin_lem;
            unkept = λ t k. t;
          }

          whole_bin : (starts starts' : List ℕ) (layout : Layout) (left : Left) → length starts ≡ 33
              → CountedBin at number (end + 1) starts starts' layout left → BinSegment q s at starts' layout left
          whole_bin starts starts' layout left size c = record {
            segment = segment;
            more = back;
            at_is = ap (λ (x : Layout). x.at) c.layout_is;
            cut_as = rw (c.layout_is, c.starts_are) (record { cut = cut_whole; laid = laid starts size });
            left_is = c.left_is ∙ ap (λ (x : Layout). seen_up_to (x.end + 1)) (sym c.layout_is);
          }

      -- what the jump finds is the cut
      pub counted_cuts : (starts starts' : List ℕ) → length starts ≡ 33 → (n : Result CutOff Uncut) → CutsCounted s q.terminator at number (end + 1) starts starts' n
          → CutsBin q s at starts' n
      counted_cuts starts starts' size (Err Open) c = short c
      counted_cuts starts starts' size (Err (Bad place)) c = absurd c
      counted_cuts starts starts' size (Err (Broken element)) c = rw c.0 (other c.1 c.2)
      counted_cuts starts starts' size (Ok cut) c = whole_bin c.0 c.1 starts starts' cut.layout cut.left size c.2

-- The ways out of the walk of `next_plain`: at a terminator, at a bad byte, and where the bytes are used up.
-- Assumes nothing.
use Prim.Native.Nat.{ℕ, suc, ◌+◌, ◌≤◌, ◌<◌}
use mathlib.Core.Path.{◌≡◌, refl, sym, ap, ◌∙◌}
use mathlib.Core.Logic.{by_cases}
use mathlib.Core.Bool.{Bool, not, ◌&&◌}
use mathlib.Core.List.{List, [], ◌∷◌, ◌++◌, append_assoc, append-nil, head-eq_of_cons-eq}
use native.Mathlib.Omega.{arith}
use Rattle.std.specs.Prelude.{Err}
use native.Mathlib.Decide.{dec_lt}
use lib.Dec.{T, T_not, eqb, eqb→eq}
use lib.ListN.{length, take, drop, get_or, length-append, drop_of_length-le}
use lib.Seq.{drop-cons, take-append-le}
use borrow.Author.Tests.{eq-eqb, ne_eqb, lt-ltb}
use Rattle.text.specs.Bytes.{Bytes}
use Rattle.text.specs.Pieces.{pieces, closed}
use Rattle.text.specs.internal.Search.{Free, FirstAt}
use Rattle.text.specs.Lookup.{span_among}
use Rattle.text.specs.View.{plain_view}
use Rattle.text.specs.declared.separators.Separators.{Separators}
use Rattle.text.proofs.Bools.{both, first_of, second_of, apart}
use Rattle.text.proofs.Everys.{every_middle}
use Rattle.text.proofs.Pieces.{pieces_free, pieces_closed}
use Rattle.text.proofs.View.{free_append}
use Rattle.reading.specs.internal.Cutting.{layout_of, LaidAs, PlainBad, PlainSegment, CutsPlainly, Stops}
use Rattle.elements.specs.Rules.{data_checks, end_checks}
use Rattle.elements.proofs.PresentPieces.{some as filled}
use Rattle.reading.specs.declared.cutting.Uncut.{Uncut}
use Rattle.reading.specs.declared.cutting.Uncut.TheVariants.{Open, Bad, Broken}
use Rattle.reading.proofs.cut.SpecialBytes.{belongs, Permitted, refused}
use Rattle.reading.proofs.cut.Queue.{All, left_none, used_up}
use Rattle.reading.proofs.cut.Bytes.{all_every, data_kept, data_told}
use Rattle.reading.proofs.cut.Ends.{Ended, ends_kept, ends_told}
use Rattle.reading.proofs.cut.Walk.{all_append, Walk, data_good, good_free, place, next, inside, piece}
use Rattle.reading.proofs.cut.Walk.{piece_place, piece_whole, piece_free, piece_good, piece_alone, piece_well, next_ready, byte_there}

-- bytes that begin with this one
record Begun (b : ℕ) (gap : Bytes) : Type 0 where
  back : Bytes
  is : gap ≡ b ∷ back

-- where a gap and the separator behind it begin with another byte, the gap does
begun_with : (gap : Bytes) (b sep : ℕ) (l rest : Bytes) → b ∷ l ≡ gap ++ sep ∷ rest → (b ≡ sep → ⊥) → Begun b gap
begun_with [] b sep l rest e h = absurd (h (head-eq_of_cons-eq e))
begun_with (x ∷ gap) b sep l rest e h = record { back = gap; is = ap (λ (y : ℕ). y ∷ gap) (sym (head-eq_of_cons-eq e)) }

-- the place is where the piece starts exactly if the piece is empty
filled_by : (piece : Bytes) (place start : ℕ) → place ≡ start + length piece → not (eqb place start) ≡ filled piece
filled_by [] place start e = ap not (eq-eqb place start (omega arith))
filled_by (b ∷ piece) place start e = ap not (ne_eqb place start (λ z. omega arith))

-- where a piece starts, when the pieces are known
span_start : (sep : ℕ) (s : Bytes) (ps : List Bytes) (k : ℕ) → pieces sep s ≡ ps → k < length ps
    → (span_among sep (pieces sep s) (length s) k).start ≡ length (closed sep (take k ps))
span_start sep s ps k e h = rw (e, lt-ltb k (length ps) h)

-- all four tests pass
four : (a b c d : Bool) → T a → T b → T c → T d → T (((a && b) && c) && d)
four a b c d w x y z = both ((a && b) && c) d (both (a && b) c (both a b w x) y) z

module _ {q : Separators} {table : List Bool} {s : Bytes} {at : ℕ} {queue starts : List ℕ} {head tail seen count : ℕ} {ended : Bool}
    {start behind : ℕ} (w : Walk q table s at queue starts head tail seen count ended start behind) where
  module _ (some : head < tail) where
    -- the next special place
    abbrev here : ℕ
    here = place w some

    -- the last piece, up to it
    abbrev final : Bytes
    final = piece w some

    -- the bytes from `at` up to the place
    abbrev passed : Bytes
    passed = closed q.element w.gone ++ final

    -- what follows them
    passed_whole : drop at s ≡ passed ++ drop here s
    passed_whole = rw (append_assoc (closed q.element w.gone)) (piece_whole w some)

    -- their pieces
    passed_pieces : pieces q.element passed ≡ w.gone ++ (final ∷ [])
    passed_pieces =
        pieces_closed q.element w.gone final w.clean
        ∙ ap (λ (l : List Bytes). w.gone ++ l) (pieces_free q.element final (piece_free w some))

    -- they may stand in a segment
    passed_good : All (Permitted q) passed
    passed_good = all_append (Permitted q) (closed q.element w.gone) final w.good_gone (piece_good w some)

    -- they are free of the terminator
    passed_free : Free q.terminator passed
    passed_free = good_free q passed passed_good

    -- how many they are
    passed_long : here ≡ at + length passed
    passed_long = rw (length-append (closed q.element w.gone) final) (omega (arith, w.start_is, piece_place w some))

    -- the starts that are kept are those of the pieces
    passed_begins : (k : ℕ) → k ≤ 32 → k ≤ count → get_or starts k 0 ≡ at + (span_among q.element (pieces q.element passed) (length passed) k).start
    passed_begins k l u =
        w.begins k l u
        ∙ ap (λ (n : ℕ). at + n)
        (sym (span_start q.element passed (w.gone ++ (final ∷ [])) k passed_pieces (simp length-append (omega (arith, w.count_is)))
        ∙ ap (λ (ps : List Bytes). length (closed q.element ps)) (take-append-le k w.gone (final ∷ []) (omega (arith, w.count_is)))))

    -- rule 6, as the code tests it
    abbrev tested : Bool
    tested = (layout_of at here count start behind ended).ended

    -- what the test says
    tested_ended : T tested → Ended q.component w.gone final
    tested_ended t =
        let three = first_of ((ended && not (eqb here behind)) && not (eqb here start)) (not (eqb count 0)) t in
        let two = first_of (ended && not (eqb here behind)) (not (eqb here start)) three in
        let none : count ≡ 0 → ⊥ = apart count 0 (second_of ((ended && not (eqb here behind)) && not (eqb here start)) (not (eqb count 0)) t) in
        let counted : 0 < count = by_cases (dec_lt 0 count) (λ l. l) (λ l. absurd (none (omega arith))) in
        record {
          some = omega (arith, w.count_is);
          early = rw (← w.ended_is) (first_of ended (not (eqb here behind)) two);
          last_filled_lem = rw (← filled_by final here start (piece_place w some))
              (second_of (ended && not (eqb here behind)) (not (eqb here start)) three);
          last_well = rw (← piece_well w some counted) (second_of ended (not (eqb here behind)) two);
        }

    -- and what it takes to pass it
    ended_tested : Ended q.component w.gone final → T tested
    ended_tested e =
        let counted : 0 < count = omega (arith, e.some, w.count_is) in
        four ended (not (eqb here behind)) (not (eqb here start)) (not (eqb count 0))
        (rw w.ended_is e.early)
        (rw (piece_well w some counted) e.last_well)
        (rw (filled_by final here start (piece_place w some)) e.last_filled_lem)
        (rw (ne_eqb count 0 (λ z. omega arith)) tt)

    -- the terminator: the bytes up to it are the segment, and this is its layout
    laid_out : get_or s here 0 ≡ q.terminator
        → LaidAs q s starts (layout_of at here count start behind ended) passed (drop (here + 1) s) (pieces q.element passed)
        (data_checks (plain_view q passed)) (end_checks (plain_view q passed))
    laid_out e = record {
      whole = rw (← byte_there w some q.terminator e) passed_whole;
      place = passed_long;
      data_only = data_kept q passed (all_every (Permitted q) (belongs q) passed (λ b h. h.1) passed_good);
      elements = ap length passed_pieces ∙ simp length-append (omega (arith, w.count_is));
      begins = passed_begins;
      room = w.room;
      single = λ t.
          let z = eqb→eq behind at t in
          free_append q.component (closed q.element w.gone) final (w.alone z).0 (piece_alone w some z);
      kept = λ t. rw passed_pieces (ends_kept q.component w.gone final (tested_ended t));
      unkept = λ t h. T_not tested t (ended_tested (ends_told q.component w.gone final (rw passed_pieces at h)));
    }

    -- what is left of the queue serves the next cut
    pub at_end : get_or s here 0 ≡ q.terminator
        → PlainSegment q table s at queue starts (layout_of at here count start behind ended)
        (record { head = head + 1; tail = tail; seen = seen })
    at_end e = record { segment = passed; more = drop (here + 1) s; at_is = refl; free = passed_free; laid = laid_out e; ready = next_ready w some }

    module _ (no-e : get_or s here 0 ≡ q.element → ⊥) (no-c : get_or s here 0 ≡ q.component → ⊥)
        (no-t : get_or s here 0 ≡ q.terminator → ⊥) where
      -- the byte at the place may not stand in a segment
      bad : T (belongs q (get_or s here 0)) → ⊥
      bad = refused q (get_or s here 0) (rw (← w.right.tells (get_or s here 0)) (next w some).special) no-e no-c no-t

      -- a terminator follows the bad byte
      spoilt : (end : ℕ) → FirstAt s here q.terminator end → PlainBad q s at end
      spoilt end m =
          let b = begun_with m.gap (get_or s here 0) q.terminator (drop (suc here) s) m.rest
          (sym (drop-cons s here 0 (inside w some)) ∙ m.whole) no-t in
          record {
            segment = passed ++ m.gap;
            more = m.rest;
            free = free_append q.terminator passed m.gap passed_free m.free;
            spoilt = record {
              whole = passed_whole ∙ rw (m.whole, append_assoc passed);
              place = rw (length-append passed m.gap) (omega (arith, passed_long, m.place));
              broken = λ h. bad (every_middle (belongs q) passed (get_or s here 0) b.back (rw b.is at (data_told q (passed ++ m.gap) h)));
            };
          }

      -- a bad byte: the next terminator decides
      pub at_bad : (r : Uncut) → Stops s here q.terminator r → CutsPlainly q table s at queue starts (Err r)
      at_bad Open f = rw passed_whole (free_append q.terminator passed (drop here s) passed_free f)
      at_bad (Bad end) m = spoilt end m
      at_bad (Broken element) f = absurd f

  -- all bytes are seen, and the queue is used up
  pub at_last : tail ≤ head → length s ≤ seen → Free q.terminator (drop at s)
  at_last none l =
      let window = w.ready.listed.window in
      rw (w.whole, w.ready.listed.whole, drop_of_length-le s l, append-nil window)
      (free_append q.terminator (closed q.element w.gone) (w.begun ++ window) (good_free q (closed q.element w.gone) w.good_gone)
      (free_append q.terminator w.begun window (good_free q w.begun w.good_begun)
      (good_free q window (data_good w.right window (used_up w.ready.listed (left_none queue head tail none))))))

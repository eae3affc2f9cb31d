-- Two answers that the promise of reading allows are equal, with their tables. It follows from the laws of the cut alone.
-- Assumes nothing.
use Prim.Native.Nat.{ℕ, ◌+◌, ◌<◌}
use mathlib.Core.Path.{◌≡◌, sym, ap, ◌∙◌}
use mathlib.Core.Logic.{◌⊎◌, inl, inr}
use mathlib.Core.Bool.{Bool, true, false, not}
use mathlib.Core.List.{List, [], ◌∷◌, ◌++◌}
use native.Mathlib.Omega.{arith}
use lib.Dec.{T, T_not, leb}
use lib.ListN.{length}
use Rattle.std.proofs.Common.{Ok, Err}
use Rattle.text.specs.Bytes.{Bytes}
use Rattle.text.specs.Separators.{fit_separators}
use Rattle.text.specs.View.{view_of}
use Rattle.text.specs.Cut.{Cut, Whole, Stop, Placed}
use Rattle.text.proofs.Lists.{map-append}
use Rattle.text.proofs.CutLaws.{whole_once, leads_longer, leads_once}
use Rattle.rows.proofs.FittingRow.{fits_once}
use Rattle.elements.specs.Reasons.{number_of}
use Rattle.elements.specs.declared.verdict.Reason.{Reason}
use Rattle.elements.specs.declared.verdict.Reason.TheVariants.{UnfitSeparators, TooLong}
use Rattle.elements.proofs.Reasons.{same_number}
use Rattle.gate.specs.Profile.{Profile}
use Rattle.gate.specs.Segments.{tag_in_of, is_se, seen, onto}
use Rattle.gate.specs.Answers.{Answer, numbers_of}
use Rattle.gate.specs.Rules.{Sound}
use Rattle.gate.specs.Records.{Tables, Room, recorded}
use Rattle.gate.specs.Reads.{limit, cut_by, skip_by, rules_next, Stopped, Breaks, Full, RoomWith, Accepts, Refuses, Ends, Run, Read, Untouched, ReadsWithin, ReadsFit, ReadsBy}
use Rattle.gate.specs.declared.how.How.{How}
use Rattle.gate.proofs.reading.Numbers.{same_acceptance, same_refusal, refusal_once}
use Rattle.gate.proofs.reading.Laws.{broken_unsound, broken_once, onto_append, same_rows}
use Rattle.gate.proofs.reading.Passing.{numbers, next_of, room_fewer}

-- a cut is whole or stops, with one number and element
whole_no_stop : {g m u k : Bytes} {n e : ℕ} → Whole g m ≡ Stop n e u k → ⊥
whole_no_stop p = let z : ◌≡◌ {A = ℕ} 1 0 = ap is_whole p in omega (arith, z)
  where
    is_whole : Cut → ℕ
    is_whole (Whole g m) = 1
    is_whole (Stop n e u m) = 0

abbrev stop_number : Cut → ℕ
stop_number (Whole g m) = 0
stop_number (Stop n e u m) = n

abbrev stop_element : Cut → ℕ
stop_element (Whole g m) = 0
stop_element (Stop n e u m) = e

module _ (profile : Profile) (how : How) (t : Tables) (gs : List Placed) (rows : List ℕ) (end : ℕ) (rest : Bytes) where
  -- the next segment is one
  next_once : {g g' m m' : Bytes} → cut_by how rest ≡ Whole g m → cut_by how rest ≡ Whole g' m' → g ≡ g'
  next_once a b = (whole_once (sym a ∙ b)).0

  -- the three ways to be refused
  abbrev pub Fails : Reason → ℕ → Type 0
  Fails n e =
      Stopped profile how t gs rows end rest n e ⊎ (Breaks profile how t gs rows end rest n e ⊎ Full profile how t gs rows end rest n e)

  -- the next segment, with those before it, as the rules see it
  abbrev SoundNext : Bytes → ℕ → Type 0
  SoundNext g r = Sound profile rows (onto [] (seen how gs)) (view_of how.separators g) r

  -- a segment that breaks a rule is not the next one that keeps all
  not_kept : (n : Reason) (e r : ℕ) (g m : Bytes) → Breaks profile how t gs rows end rest n e → cut_by how rest ≡ Whole g m → SoundNext g r → ⊥
  not_kept n e r g m x p s =
      broken_unsound profile rows (onto [] (seen how gs)) (view_of how.separators g) n e r (rw (next_once x.next p) at x.first) s

  fails_once : (n : Reason) (e : ℕ) (n' : Reason) (e' : ℕ) → Fails n e → Fails n' e' → (n ≡ n') × (e ≡ e')
  fails_once n e n' e' (inl x) (inl y) = let p = sym x.stops ∙ y.stops in (same_number n n' (ap stop_number p), ap stop_element p)
  fails_once n e n' e' (inl x) (inr (inl y)) = absurd (whole_no_stop (sym y.next ∙ x.stops))
  fails_once n e n' e' (inl x) (inr (inr y)) = absurd (whole_no_stop (sym y.keeping.next ∙ x.stops))
  fails_once n e n' e' (inr (inl x)) (inl y) = absurd (whole_no_stop (sym x.next ∙ y.stops))
  fails_once n e n' e' (inr (inl x)) (inr (inl y)) =
      broken_once (rules_next profile how t gs rows end rest y.segment) n e n' e' (rw (next_once x.next y.next) at x.first) y.first
  fails_once n e n' e' (inr (inl x)) (inr (inr y)) = absurd (not_kept n e y.row y.segment y.keeping.more x y.keeping.next y.keeping.sound)
  fails_once n e n' e' (inr (inr x)) (inl y) = absurd (whole_no_stop (sym x.keeping.next ∙ y.stops))
  fails_once n e n' e' (inr (inr x)) (inr (inl y)) = absurd (not_kept n' e' x.row x.segment x.keeping.more y x.keeping.next x.keeping.sound)
  fails_once n e n' e' (inr (inr x)) (inr (inr y)) = (x.reason_is ∙ sym y.reason_is, x.element_is ∙ sym y.element_is)

  -- what is refused is not accepted
  not_both : (n : Reason) (e : ℕ) (k : List Placed) (w four : List ℕ) → Fails n e → Accepts profile how t gs rows end rest four k w → ⊥
  not_both n e k w four (inl x) y = whole_no_stop (sym y.keeping.next ∙ x.stops)
  not_both n e k w four (inr (inl x)) y = not_kept n e y.row y.segment y.keeping.more x y.keeping.next y.keeping.sound
  not_both n e k w four (inr (inr x)) y = x.no_room (rw (next_once x.keeping.next y.keeping.next) y.room)

  accepts_once : (four four' : List ℕ) (k k' : List Placed) (w w' : List ℕ) → Accepts profile how t gs rows end rest four k w
      → Accepts profile how t gs rows end rest four' k' w' → (four ≡ four') × (k ≡ k') × (w ≡ w')
  accepts_once four four' k k' w w' x y =
      let g = next_once x.keeping.next y.keeping.next in
      let k-once : k ≡ k' = cc (g, x.kept_is, y.kept_is) in
      let row-once : x.row ≡ y.row =
      fits_once rows (tag_in_of (view_of how.separators y.segment)) x.row y.row (rw g at x.keeping.sound.fits) y.keeping.sound.fits in (
        cc (k-once, g, x.counts, y.counts),
        k-once,
        cc (row-once, x.numbers_is, y.numbers_is),
      )

  -- the numbers of a refusal
  pub refused_fails : (n : Reason) (k b e : ℕ) (kept : List Placed) (w : List ℕ) → Refuses profile how t gs rows end rest (number_of n ∷ k ∷ b ∷ e ∷ []) kept w
      → Fails n e
  refused_fails n k b e kept w x =
      let number : number_of x.reason ≡ number_of n = cc x.place in
      let p : x.reason ≡ n = same_number x.reason n number in
      let q : x.element ≡ e = cc x.place in
      rw (p, q) at x.cause

  pub refused_segment : (n : Reason) (k b e : ℕ) (kept : List Placed) (w : List ℕ) → Refuses profile how t gs rows end rest (number_of n ∷ k ∷ b ∷ e ∷ []) kept w
      → k ≡ length gs + 1
  refused_segment n k b e kept w x = cc x.place

  pub refused_byte : (n : Reason) (k b e : ℕ) (kept : List Placed) (w : List ℕ) → Refuses profile how t gs rows end rest (number_of n ∷ k ∷ b ∷ e ∷ []) kept w → b ≡ end
  refused_byte n k b e kept w x = cc x.place

  ends_once : (r r' : Answer) (k k' : List Placed) (w w' : List ℕ) → Ends profile how t gs rows end rest r k w
      → Ends profile how t gs rows end rest r' k' w' → (r ≡ r') × (k ≡ k') × (w ≡ w')
  ends_once (Ok a) (Ok a') k k' w w' x y =
      let o = accepts_once (numbers_of (Ok a)) (numbers_of (Ok a')) k k' w w' x y in
      (same_acceptance a a' o.0, o.1, o.2)
  ends_once (Ok a) (Err f') k k' w w' x y = absurd (not_both y.reason y.element k w (numbers_of (Ok a)) y.cause x)
  ends_once (Err f) (Ok a') k k' w w' x y = absurd (not_both x.reason x.element k' w' (numbers_of (Ok a')) x.cause y)
  ends_once (Err f) (Err f') k k' w w' x y =
      let o = fails_once x.reason x.element y.reason y.element x.cause y.cause in
      (same_refusal _ _ (cc (ap number_of o.0, o.1, x.place, y.place)), x.kept_is ∙ sym y.kept_is, x.numbers_is ∙ sym y.numbers_is)

  -- whatever the answer, the next segment is not passed
  stuck : (r : Answer) (k : List Placed) (w : List ℕ) (g m : Bytes) (row : ℕ) → Ends profile how t gs rows end rest r k w → cut_by how rest ≡ Whole g m
      → SoundNext g row → RoomWith profile how t gs rows end rest g → T (not (is_se (view_of how.separators g))) → ⊥
  stuck (Ok a) k w g m row x p d o n =
      T_not (is_se (view_of how.separators x.segment)) (rw (next_once p x.keeping.next) at n) x.last
  stuck (Err f) k w g m row x p d o i = fails x.cause
    where
      fails : Fails x.reason x.element → ⊥
      fails (inl y) = whole_no_stop (sym p ∙ y.stops)
      fails (inr (inl y)) = not_kept x.reason x.element row g m y p d
      fails (inr (inr y)) = y.no_room (rw (next_once p y.keeping.next) at o)

module _ {profile : Profile} {how : How} {t : Tables} {s : Bytes} where
  -- neither of two readings passes more than the other
  not_longer : {r r' : Answer} {k k' : List Placed} {w w' : List ℕ} (a : Run profile how t s r k w) (b : Run profile how t s r' k' w')
      → length a.gs < length b.gs → ⊥
  not_longer {r} {r'} {k} {k'} {w} {w'} a b l =
      let i =
      leads_longer how.separators.terminator (cut_by how) (skip_by how) 0 s a.gs b.gs a.end b.end a.rest b.rest
      a.passed.leads b.passed.leads l in
      let v = view_of how.separators i.next.segment in
      let e : seen how b.gs ≡ seen how a.gs ++ (v ∷ seen how i.after) =
      ap (seen how) i.longer ∙ map-append (λ (g : Placed). view_of how.separators g.segment) a.gs (i.next ∷ i.after) in
      let p = next_of profile (seen how a.gs) a.rows v (seen how i.after) b.rows (numbers a.passed) (rw e at (numbers b.passed)) in
      let m : Room profile t (v ∷ onto [] (seen how a.gs)) =
      room_fewer profile t (v ∷ onto [] (seen how a.gs)) (seen how i.after) (rw (e, onto_append) at b.passed.room) in
      stuck profile how t a.gs a.rows a.end a.rest r k w i.next.segment i.more p.row a.ends i.cut_is
      (record { kept = p.kept; fits = p.fits; admitted = p.admitted }) m p.ongoing

  pub run_once : {r r' : Answer} {k k' : List Placed} {w w' : List ℕ} → Run profile how t s r k w → Run profile how t s r' k' w'
      → (r ≡ r') × (k ≡ k') × (w ≡ w')
  run_once {r} {r'} {k} {k'} {w} {w'} a b =
      let n : length a.gs ≡ length b.gs = omega (arith, not_longer a b, not_longer b a) in
      let i =
      leads_once how.separators.terminator (cut_by how) (skip_by how) 0 s a.gs b.gs a.end b.end a.rest b.rest
      a.passed.leads b.passed.leads n in
      let o : a.rows ≡ b.rows =
      same_rows a.rows b.rows (seen how b.gs) a.passed.viable b.passed.viable (rw i.0 at a.passed.tags) b.passed.tags in
      ends_once profile how t b.gs b.rows b.end b.rest r r' k k' w w' (rw (i.0, o, i.1, i.2) at a.ends) b.ends

-- the answer and the tables of a reading are one
pub reads_once : (profile : Profile) (how : How) (s : Bytes) (before : Tables) (r r' : Answer) (x x' : Tables) → ReadsBy profile how s before r x
    → ReadsBy profile how s before r' x' → (r ≡ r') × (x ≡ x')
unfolding ReadsBy
reads_once profile how s before r r' x x' a b = fit (fit_separators how.separators) a b
  where
    untouched : (n : Reason) → 0 < number_of n → Untouched (number_of n) before r x → Untouched (number_of n) before r' x' → (r ≡ r') × (x ≡ x')
    untouched n h a b = (refusal_once r r' n 0 0 0 h a.answer b.answer, a.unchanged ∙ sym b.unchanged)

    read : Read profile how s before r x → Read profile how s before r' x' → (r ≡ r') × (x ≡ x')
    read a b =
        let o = run_once a.run b.run in
        let e : recorded profile how before a.kept a.numbers ≡ recorded profile how before b.kept b.numbers =
        λ i. recorded profile how before (o.1 i) (o.2 i) in
        (o.0, a.tables ∙ e ∙ sym b.tables)

    within : (l : Bool) → ReadsWithin l profile how s before r x → ReadsWithin l profile how s before r' x' → (r ≡ r') × (x ≡ x')
    within true a b = read a b
    within false a b = untouched TooLong (omega arith) a b

    fit : (f : Bool) → ReadsFit f profile how s before r x → ReadsFit f profile how s before r' x' → (r ≡ r') × (x ≡ x')
    fit true a b = within (leb (length s) limit) a b
    fit false a b = untouched UnfitSeparators (omega arith) a b

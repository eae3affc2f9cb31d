-- The quick test: bytes tested one by one, and why no segment collides where all are harmless.
-- Assumes nothing.
use Prim.Native.Nat.{ℕ, suc, ◌+◌}
use mathlib.Core.Path.{◌≡◌, refl, sym, ap, subst, ◌∙◌}
use mathlib.Core.Logic.{◌⊎◌, inl, inr}
use mathlib.Core.Bool.{Bool, true, false, not, cond, ◌&&◌, ◌||◌}
use mathlib.Core.List.{List, [], ◌∷◌}
use native.Mathlib.Omega.{arith}
use lib.Dec.{T, eqb}
use lib.ListN.{length, take}
use Rattle.std.specs.Prelude.{None}
use Rattle.std.specs.List.{fold}
use Rattle.text.specs.Bytes.{Bytes, every}
use Rattle.text.specs.Separators.{is_separator, Fitted}
use Rattle.text.specs.Bin.{is_bin}
use Rattle.text.specs.Pieces.{closed}
use Rattle.text.specs.View.{plain_view, view_of, empty, element_of, inspected}
use Rattle.text.specs.Cut.{Placed, Whole, cut_of}
use Rattle.text.specs.declared.separators.Separators.{Separators}
use Rattle.text.proofs.Bools.{first_of, second_of, and_assoc, and_true, passes}
use Rattle.text.proofs.Everys.{every_at, every_both}
use Rattle.text.proofs.View.{plain_unseparated}
use Rattle.text.proofs.BinCut.{Plainly, cut_gives}
use Rattle.text.proofs.Writable.{plain_inspected}
use Rattle.elements.specs.Checks.{Verdict, Holds, broken, first_broken}
use Rattle.elements.proofs.FirstBroken.{each_holds}
use Rattle.gate.specs.Conditions.{used_by}
use Rattle.rewriting.specs.Rewrites.{apart_from, apart_checks, collision_checks, collision}
use Rattle.rewriting.specs.internal.CutOff.{LedStrictly, CutOff, AsCut}
use Rattle.rewriting.specs.internal.QuickTest.{harmless_byte}
use Rattle.rewriting.proofs.SegmentBytes.{texts, used_taken}
use Rattle.rewriting.proofs.CollidingBytes.{clash_from, clash_first, plain_checks, bin_apart}
use Rattle.elements.specs.declared.verdict.Reason.TheVariants.{Collision}

-- a segment that was cut off is looked into whole, if it is no whole BIN
pub as_cut : (old : Separators) → Fitted old → (s segment more : Bytes) → cut_of old s ≡ Whole segment more → AsCut old segment
as_cut old fit s segment more e n = by (cut_gives old fit s segment more e)
  where
    by : T (is_bin old.element segment) ⊎ Plainly old segment → inspected (plain_view old segment) ≡ plain_view old segment
    by (inl h) = absurd (subst (λ (b : Bool). T b) n h)
    by (inr p) = plain_inspected old fit segment p

-- a fold that asks each byte
pub fold_every : (f : ℕ → Bool) (so_far : Bool) (s : Bytes) → fold (λ (x : Bool) (b : ℕ). x && f b) so_far s ≡ so_far && every f s
fold_every f so_far [] = sym (and_true so_far)
fold_every f so_far (b ∷ s) = fold_every f (so_far && f b) s ∙ and_assoc so_far (f b) (every f s)

module _ (old new : Separators) where
  -- one byte: it separates elements, or components, or is harmless and no old separator
  spared : (e c is_new is-old : Bool) (k : ℕ) {x y x' y' : Verdict} → T (not is_new || is-old) → (x ≡ Holds → x' ≡ Holds) → (y ≡ Holds → y' ≡ Holds)
      → cond e x (cond (c || not is-old) y (broken Collision k)) ≡ Holds → cond e x' (cond (c || not is_new) y' (broken Collision k)) ≡ Holds
  spared true c is_new is-old k h f g z = f z
  spared false true is_new is-old k h f g z = g z
  spared false false false false k h f g z = g z
  spared false false true false k h f g z = absurd h
  spared false false is_new true k h f g z = let z : ◌≡◌ {A = ℕ} 0 1 = cc in absurd (omega arith)

  -- no old separator stands among the data, and so no new one
  none_either : (k : ℕ) (s : Bytes) → T (every (harmless_byte old new) s) → clash_from old old k s ≡ Holds → clash_from old new k s ≡ Holds
  none_either k [] h z = refl
  none_either k (b ∷ s) h z =
      let later = second_of (harmless_byte old new b) (every (harmless_byte old new) s) h in
      spared (eqb b old.element) (eqb b old.component) (is_separator new b) (is_separator old b) k
      (first_of (harmless_byte old new b) (every (harmless_byte old new) s) h) (none_either (suc k) s later) (none_either k s later) z

  -- a segment of harmless bytes does not collide; no data byte of it is an old separator
  harmless_plain : (segment : Bytes) → T (every (harmless_byte old new) segment) → T (every (apart_from old) (plain_view old segment))
      → first_broken (apart_checks new (plain_view old segment)) ≡ Holds
  harmless_plain segment h o =
      let v = plain_view old segment in
      let none : first_broken (apart_checks old v) ≡ Holds =
      each_holds Collision 0 (length v) (λ (k : ℕ). apart_from old (element_of v k))
      (λ k l u. passes (apart_from old (element_of v k)) (every_at (apart_from old) v empty o k (omega arith))) in
      clash_first old new segment ∙ none_either 0 segment h (sym (clash_first old old segment) ∙ none)

  module _ (old_fit : Fitted old) (new_fit : Fitted new) where
    pub harmless_holds : (s segment m : Bytes) → cut_of old s ≡ Whole segment m → T (every (harmless_byte old new) segment)
        → first_broken (collision_checks new (view_of old segment)) ≡ Holds
    harmless_holds s segment m e h = by (cut_gives old old_fit s segment m e)
      where
        by : T (is_bin old.element segment) ⊎ Plainly old segment → first_broken (collision_checks new (view_of old segment)) ≡ Holds
        by (inl b) = sym (bin_apart old new segment (passes (is_bin old.element segment) b) new_fit)
        by (inr p) =
            ap first_broken (plain_checks old new segment p.no_bin (λ n. plain_inspected old old_fit segment p))
            ∙ harmless_plain segment h (plain_unseparated old segment p.free)

    -- and so it is of all segments that were read
    pub harmless_nowhere : (n at : ℕ) (s : Bytes) (gs : List Placed) (end : ℕ) (rest : Bytes) → LedStrictly old at s gs end rest
        → T (every (harmless_byte old new) (closed old.terminator (texts gs))) → collision old new n gs ≡ None
    harmless_nowhere n at s [] end rest l h = refl
    harmless_nowhere n at s (g ∷ gs) end rest l h =
        let f = harmless_byte old new in
        let t = old.terminator in
        let behind = closed t (texts gs) in
        let halves = rw (every_both f g.segment (t ∷ behind)) at h in
        let here =
        harmless_holds s g.segment l.0 l.1 (first_of (every f g.segment) (every f (t ∷ behind)) halves) in
        let later = second_of (f t) (every f behind) (second_of (every f g.segment) (every f (t ∷ behind)) halves) in
        rw here
        (harmless_nowhere (suc n) (at + length g.segment + 1 + 0) l.0 gs end rest l.3 later)

-- what the quick test tells of the bytes that segments use
pub harmless_used : (old new : Separators) (s : Bytes) (gs : List Placed) → CutOff old s gs → Fitted new → (bytes : ℕ) → bytes ≡ used_by gs
    → every (harmless_byte old new) (take bytes s) ≡ true → collision old new 1 gs ≡ None
harmless_used old new s gs c new_fit bytes b h =
    let used : take bytes s ≡ closed old.terminator (texts gs) = rw b (used_taken old s gs c.end c.rest c.leads) in
    harmless_nowhere old new c.fit new_fit 1 0 s gs c.end c.rest c.leads (rw (← used, h) tt)

-- Two answers that the promise of a walk allows are equal, with their outputs: each case of the promise excludes the others.
-- Assumes nothing.
use Prim.Native.Nat.{ℕ, ◌≤◌}
use mathlib.Core.Path.{◌≡◌, sym, ap, ◌∙◌}
use mathlib.Core.Logic.{◌⊎◌, inl, inr, by_cases}
use mathlib.Core.List.{List}
use native.Mathlib.Omega.{arith}
use native.Mathlib.Decide.{dec_lt}
use Rattle.gate.specs.Records.{over}
use Rattle.outline.specs.declared.answer.Reason.TheVariants.{UnfitTable}
use Rattle.outline.specs.Walks.{Walked, unlisted, FitTable, room_of, Unfit, TooShort, Lists, Walks}
use Rattle.outline.proofs.Orders.{outline_once}

module _ (t : List ℕ) (count : ℕ) (before : List ℕ) where
  -- the cases behind TooMany, and those behind Unfit
  abbrev WithRoom : Walked → List ℕ → Type 0
  WithRoom r after = Unfit t count before r after ⊎ (TooShort t count before r after ⊎ Lists t count before r after)

  abbrev WithFit : Walked → List ℕ → Type 0
  WithFit r after = TooShort t count before r after ⊎ Lists t count before r after

  has_room : (r : Walked) (after : List ℕ) → WithRoom r after → count ≤ room_of t
  has_room r after (inl x) = x.room
  has_room r after (inr (inl x)) = x.room
  has_room r after (inr (inr x)) = x.room

  is_fit : (r : Walked) (after : List ℕ) → WithFit r after → FitTable t count
  is_fit r after (inl x) = x.fit
  is_fit r after (inr x) = x.fit

  -- the first unfit level is one
  first_once : (r r' : Walked) (after after' : List ℕ) (x : Unfit t count before r after) (y : Unfit t count before r' after') → x.level ≡ y.level
  first_once r r' after after' x y =
      by_cases (dec_lt x.level y.level)
      (λ l. absurd (x.unfit (y.first x.level x.from l)))
      (λ l. by_cases (dec_lt y.level x.level) (λ m. absurd (y.unfit (x.first y.level y.from m))) (λ m. omega arith))

  module _ (r r' : Walked) (after after' : List ℕ) where
    abbrev Same : Type 0
    Same = (r ≡ r') × (after ≡ after')

    fit_once : WithFit r after → WithFit r' after' → Same
    fit_once (inl x) (inl y) = (x.answer ∙ sym y.answer, x.unchanged ∙ sym y.unchanged)
    fit_once (inl x) (inr y) = absurd (omega (arith, x.shorter, y.long))
    fit_once (inr x) (inl y) = absurd (omega (arith, y.shorter, x.long))
    fit_once (inr x) (inr y) = (
      x.answer ∙ sym y.answer,
      x.written ∙ ap (over before) (outline_once t count x.order y.order x.outline y.outline) ∙ sym y.written,
    )

    room_once : WithRoom r after → WithRoom r' after' → Same
    room_once (inl x) (inl y) = (
      x.answer ∙ ap (λ (n : ℕ). unlisted UnfitTable n) (first_once r r' after after' x y) ∙ sym y.answer,
      x.unchanged ∙ sym y.unchanged,
    )
    room_once (inl x) (inr v) = absurd (x.unfit (is_fit r' after' v x.level x.from x.upto))
    room_once (inr u) (inl y) = absurd (y.unfit (is_fit r after u y.level y.from y.upto))
    room_once (inr u) (inr v) = fit_once u v

    -- the answer and the output of a walk are one
    pub walks_once : Walks t count before r after → Walks t count before r' after' → Same
    walks_once (inl x) (inl y) = (x.answer ∙ sym y.answer, x.unchanged ∙ sym y.unchanged)
    walks_once (inl x) (inr v) = absurd (omega (arith, x.exceeds, has_room r' after' v))
    walks_once (inr u) (inl y) = absurd (omega (arith, y.exceeds, has_room r after u))
    walks_once (inr u) (inr v) = room_once u v

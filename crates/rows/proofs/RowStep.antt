-- The next step from a viable list: the computed next row, unless it would be a third, is the one row that fits.
-- Assumes nothing.
use mathlib.Core.Path.{◌≡◌, refl, ◌∙◌}
use mathlib.Core.Bool.{Bool, true, false, cond, ◌&&◌}
use mathlib.Core.List.{List}
use Prim.Native.Nat.{ℕ, ◌<◌}
use native.Mathlib.Omega.{arith}
use lib.Dec.{T, eqb, eqb→eq, eqb_refl}
use Rattle.text.proofs.Bools.{both, first_of, second_of}
use Rattle.rows.specs.Rows.{Viable, list842}
use Rattle.rows.specs.RowList.{max_of}
use Rattle.rows.specs.Following.{OneFits, last_of, twice}
use Rattle.rows.proofs.NextRows.{next_of}
use Rattle.rows.proofs.FittingRow.{fits_next, next_fits, fits_range}

-- the computed next row, unless it would be a third
unfoldable pub step_of : ℕ → Bool → ℕ → ℕ
step_of r again t = cond (again && (eqb (next_of r t) r && eqb (max_of r) 2)) 0 (next_of r t)

module _ (w : List ℕ) (v : Viable list842 w) (t : ℕ) (ht : t < 34) where
  -- by the step's test: passed, no row with the tag fits; failed, the next row does, unless it is 0
  by_test : (b : Bool) → (T b → T (twice 0 false w) × (next_of (last_of 0 w) t ≡ last_of 0 w) × (max_of (last_of 0 w) ≡ 2))
      → (T (twice 0 false w) → max_of (last_of 0 w) ≡ 2 → next_of (last_of 0 w) t ≡ last_of 0 w → T b)
      → OneFits w t (cond b 0 (next_of (last_of 0 w) t))
  by_test true passed test = record {
    fits = λ n. absurd (n refl);
    alone = λ y f.
        let o = fits_next w t y f in
        let z = passed tt in
        absurd (o.1 z.0 z.2 (o.0 ∙ z.1));
  }
  by_test false passed test = record {
    fits = λ n. next_fits w v t ht n (λ p q s. test p q s);
    alone = λ y f.
        let e = (fits_next w t y f).0 in
        let k = fits_range w t y f in
        (e, λ z. omega arith);
  }

  -- the step is the one row that fits
  pub step_fits : OneFits w t (step_of (last_of 0 w) (twice 0 false w) t)
  unfolding step_of
  step_fits =
      let r = last_of 0 w in
      let a = twice 0 false w in
      let b = eqb (next_of r t) r in
      let c = eqb (max_of r) 2 in
      by_test (a && (b && c))
      (λ h.
      let q = second_of a (b && c) h in
      (first_of a (b && c) h, eqb→eq (next_of r t) r (first_of b c q), eqb→eq (max_of r) 2 (second_of b c q)))
      (λ p m e. both a (b && c) p (both b c (rw e (eqb_refl r)) (rw m tt)))

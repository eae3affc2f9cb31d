-- What fits quickly fits: a usual value of a type is of the type, and all its bytes count for its length.
-- Assumes nothing.
use Prim.Native.Nat.{ℕ, ◌≤◌}
use mathlib.Core.Path.{◌≡◌, refl, sym, ◌∙◌}
use mathlib.Core.Bool.{true, ◌&&◌}
use native.Mathlib.Omega.{arith}
use lib.Dec.{leb, eqb}
use lib.ListN.{length}
use borrow.Author.Tests.{eqb-true, eq-eqb, leb-true, le-leb}
use Rattle.text.specs.Bytes.{Bytes, between}
use Rattle.text.proofs.Tests.{and_first, and_second}
use Rattle.types.specs.Types.{is_number, figures, days_in, is_date, is_of, size_of, fits}
use Rattle.types.specs.internal.Quick.{is_short_id, is_early_date, is_short_time, is_sized, is_quick, fits_quickly}
use Rattle.types.specs.declared.kind.Kind.{Kind}
use Rattle.types.specs.declared.kind.Kind.TheVariants.{AN, ID, Set842, N0, R, DT, TM}
use Rattle.types.proofs.NumberChecks.{digits_count, digits_real}
use Rattle.types.proofs.Months.{twenty_eight}
use Rattle.types.proofs.Fitting.{fits_by}

-- a date up to the 28th
module _ (s : Bytes) where
  pub date_day : length s ≡ 8 → is_number s ≡ true → (day last : ℕ) → day ≡ figures 6 2 s → last ≡ days_in (figures 0 4 s) (figures 4 2 s)
      → leb 1 day && leb day last ≡ is_date s
  unfolding is_date
  date_day l e day last d m = rw (eq-eqb (length s) 8 l, e, d, m)

  -- every month has that day
  early_date : is_early_date s ≡ true → is_date s ≡ true
  unfolding is_early_date
  early_date e =
      let month = figures 4 2 s in
      let day = figures 6 2 s in
      let year = figures 0 4 s in
      let first = and_first (eqb (length s) 8 && is_number s && between 1 12 month) (between 1 28 day) e in
      let days = and_second (eqb (length s) 8 && is_number s && between 1 12 month) (between 1 28 day) e in
      let written = and_first (eqb (length s) 8 && is_number s) (between 1 12 month) first in
      let months = and_second (eqb (length s) 8 && is_number s) (between 1 12 month) first in
      let low = leb-true 1 month (and_first (leb 1 month) (leb month 12) months) in
      let high = leb-true month 12 (and_second (leb 1 month) (leb month 12) months) in
      let last : 28 ≤ days_in year month = twenty_eight year month (omega (arith, low)) (omega (arith, high)) in
      let early = leb-true day 28 (and_second (leb 1 day) (leb day 28) days) in
      sym (date_day (eqb-true (length s) 8 (and_first (eqb (length s) 8) (is_number s) written))
      (and_second (eqb (length s) 8) (is_number s) written) day (days_in year month) refl refl)
      ∙ rw (and_first (leb 1 day) (leb day 28) days, le-leb day (days_in year month) (omega (arith, last, early)))

-- a usual value is of the type, and every byte counts
quick_size : (kind : Kind) (s : Bytes) → is_quick kind s ≡ true → length s ≡ size_of kind s
quick_size AN s e = refl
quick_size ID s e = refl
quick_size Set842 s e = refl
quick_size N0 s e = refl
quick_size R s e = digits_count s (and_second (leb (length s) 15) (is_number s) e)
quick_size DT s e = refl
quick_size TM s e = refl

quick_of : (kind : Kind) (s : Bytes) → 1 ≤ length s → is_quick kind s ≡ true → is_of kind s ≡ true
unfolding is_short_id is_short_time
quick_of AN s l e = refl
quick_of ID s l e = and_second (leb (length s) 3) (is_of ID s) e
quick_of Set842 s l e = e
quick_of N0 s l e = e
quick_of R s l e =
    digits_real s (and_second (leb (length s) 15) (is_number s) e) l (leb-true (length s) 15 (and_first (leb (length s) 15) (is_number s) e))
quick_of DT s l e = early_date s e
quick_of TM s l e = and_second (eqb (length s) 4) (is_of TM s) e

-- the length, and then the type
module _ (kind : Kind) (least most : ℕ) (s : Bytes) where
  pub quickly_fits : fits_quickly kind least most s ≡ true → fits kind least most s ≡ true
  unfolding fits_quickly is_sized
  quickly_fits e =
      let n = length s in
      let sized = and_first (leb 1 n && leb least n && leb n most) (is_quick kind s) e in
      let quick = and_second (leb 1 n && leb least n && leb n most) (is_quick kind s) e in
      let low = and_first (leb 1 n && leb least n) (leb n most) sized in
      sym (fits_by kind least most s n (quick_size kind s quick) (leb-true least n (and_second (leb 1 n) (leb least n) low))
      (leb-true n most (and_second (leb 1 n && leb least n) (leb n most) sized)))
      ∙ quick_of kind s (leb-true 1 n (and_first (leb 1 n) (leb least n) low)) quick

-- The first bytes of a text, as the code passes them: digits, one byte, and what stands behind all digits.
-- Assumes nothing.
use Prim.Native.Nat.{suc, ◌+◌, ◌-◌, ◌≤◌}
use mathlib.Core.Path.{◌≡◌, refl, ap, ◌∙◌}
use mathlib.Core.Bool.{Bool, true, false, cond}
use mathlib.Core.List.{[], ◌∷◌, ◌++◌}
use native.Mathlib.Omega.{arith}
use lib.ListN.{length, take, drop, length-append}
use borrow.Author.Tests.{ne_eqb}
use Rattle.std.specs.List.{prefix_len}
use Rattle.text.specs.Bytes.{Bytes, byte}
use Rattle.text.specs.Separators.{is_digit}
use Rattle.text.proofs.Lists.{part_from}
use Rattle.text.proofs.Tests.{and_first}
use Rattle.types.specs.Types.{is_number}
use Rattle.types.specs.Reals.{is_negative}
use Rattle.types.proofs.Figures.{digit_bounds}
use Rattle.types.specs.internal.NumberParts.{first_digits}

-- what stands behind the digits that a text begins with
abbrev pub behind_digits : Bytes → Bytes
behind_digits s = drop (length (first_digits s)) s

pub run_digits : (s : Bytes) → is_number (first_digits s) ≡ true
run_digits [] = refl
run_digits (b ∷ s) = by (is_digit b) refl (run_digits s)
  where
    by : (d : Bool) → is_digit b ≡ d → is_number (first_digits s) ≡ true → is_number (cond d (b ∷ first_digits s) []) ≡ true
    by true e i = rw (e, i)
    by false e i = refl

pub run_whole : (s : Bytes) → first_digits s ++ behind_digits s ≡ s
run_whole [] = refl
run_whole (b ∷ s) = by (is_digit b) (run_whole s)
  where
    by : (d : Bool) → first_digits s ++ behind_digits s ≡ s
        → cond d (b ∷ first_digits s) [] ++ drop (length (cond d (b ∷ first_digits s) [])) (b ∷ s) ≡ b ∷ s
    by true i = ap (λ (l : Bytes). b ∷ l) i
    by false i = refl

pub run_inside : (s : Bytes) → length (first_digits s) ≤ length s
run_inside s = omega (arith, simp length-append at (ap length (run_whole s)))

pub run_stops : (s : Bytes) → first_digits (behind_digits s) ≡ []
run_stops [] = refl
run_stops (b ∷ s) = by (is_digit b) refl (run_stops s)
  where
    by : (d : Bool) → is_digit b ≡ d → first_digits (behind_digits s) ≡ []
        → first_digits (drop (length (cond d (b ∷ first_digits s) [])) (b ∷ s)) ≡ []
    by true e i = i
    by false e i = rw e

-- the part behind the first digits, where both are known
pub rest_part : {u w t : Bytes} → u ≡ t → w ≡ first_digits u → take (length u - length w) (drop (length w) u) ≡ behind_digits t
rest_part {u} {w} a b = part_from (length w) u ∙ rw (b, a)

-- they are as many as pass the test
pub digits_first : (s : Bytes) → take (prefix_len is_digit s) s ≡ first_digits s
digits_first [] = refl
digits_first (b ∷ s) = by (is_digit b) (digits_first s)
  where
    by : (d : Bool) → take (prefix_len is_digit s) s ≡ first_digits s
        → take (cond d (1 + prefix_len is_digit s) 0) (b ∷ s) ≡ cond d (b ∷ first_digits s) []
    by true i =
        let step : 1 + prefix_len is_digit s ≡ suc (prefix_len is_digit s) = omega arith in
        rw step (ap (λ (l : Bytes). b ∷ l) i)
    by false i = refl

-- digits begin with no sign
pub digits_positive : (s : Bytes) → is_number s ≡ true → is_negative s ≡ false
digits_positive [] e = refl
digits_positive (b ∷ s) e =
    let low = (digit_bounds b (and_first (is_digit b) (is_number s) e)).0 in
    ne_eqb b (byte "-") (λ q. omega arith)

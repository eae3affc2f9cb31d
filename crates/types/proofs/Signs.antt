-- Signs: a size with a sign in 64 bits, and a text with one.
-- Assumes nothing.
use Prim.Native.Nat.{ℕ, zero, suc, ◌<◌}
use mathlib.Core.Path.{◌≡◌, refl, ap, ◌∙◌}
use mathlib.Core.Bool.{Bool, true, false}
use mathlib.Core.List.{◌++◌}
use native.Mathlib.Omega.{arith}
use lib.IntN.{ℤ, pos, neg_ℤ, ◌-ℤ◌, +ℤ_idl}
use borrow.Author.Tests.{lt-ltb}
use mir.Syntax.{w64}
use mir.Val.{SFits, to_z, of_z}
use mir.Facts.{to_z-of_z}
use Rattle.text.specs.Bytes.{Bytes}
use Rattle.types.specs.Reals.{is_negative, unsigned}
use Rattle.types.specs.Numbers.{signed}
use Rattle.types.specs.Worth.{sign}

-- a number below 0
pub negative_fits : (n : ℕ) → n < 9223372036854775808 → SFits w64 (neg_ℤ (pos n))
negative_fits zero l = record { sfits = omega arith }
negative_fits (suc n) l = record { sfits = omega arith }

module _ (n : ℕ) (small : n < 1000000000000000) where
  pub positive_is : to_z w64 n ≡ pos n
  positive_is = rw (lt-ltb n 9223372036854775808 (omega arith))

  negated : pos 0 -ℤ to_z w64 n ≡ neg_ℤ (pos n)
  negated = ap (λ (z : ℤ). pos 0 -ℤ z) positive_is ∙ +ℤ_idl (neg_ℤ (pos n))

-- a size with a sign comes back out of its 64 bits
pub signed_stays : (negative : Bool) (n : ℕ) → n < 1000000000000000 → to_z w64 (of_z w64 (signed negative n)) ≡ signed negative n
signed_stays true n small = to_z-of_z (negative_fits n (omega arith))
signed_stays false n small = positive_is n small

-- a sign in front of a text that begins with none, unless one stands there
module _ (negative : Bool) (x : Bytes) (o : negative ≡ false → is_negative x ≡ false) where
  pub sign_is : is_negative (sign negative ++ x) ≡ negative
  sign_is = by negative refl
    where
      by : (n : Bool) → negative ≡ n → is_negative (sign n ++ x) ≡ n
      by true e = refl
      by false e = o e

  pub unsigned_is : unsigned (sign negative ++ x) ≡ x
  unsigned_is = by negative refl
    where
      by : (n : Bool) → negative ≡ n → unsigned (sign n ++ x) ≡ x
      by true e = refl
      by false e = rw (o e)

-- What a text is worth, digit by digit, is what its value, places and exponent tell.
-- Assumes nothing.
use Prim.Native.Nat.{ℕ, zero, suc, ◌+◌, ◌-◌, ◌*◌, ◌^◌, ◌≤◌}
use mathlib.Core.Path.{◌≡◌, refl, sym, ap, ◌∙◌}
use mathlib.Core.Bool.{Bool, true, false}
use mathlib.Core.List.{[], ◌∷◌}
use native.Mathlib.Omega.{arith}
use native.Mathlib.Nat.{mul_assoc, add-mul, zero-mul, pow-succ'}
use lib.IntN.{ℤ, pos, neg_ℤ, nat_abs, ◌+ℤ◌, ◌-ℤ◌, ◌*ℤ◌, +ℤ_assoc, negsuc-*ℤ-pos}
use lib.ListN.{length, length-append}
use lib.Pow.{pow-add}
use borrow.Author.Tests.{le-ltb}
use Rattle.text.specs.Bytes.{Bytes, byte, value_from, value_of}
use Rattle.types.specs.Reals.{upto, after, is_negative, mantissa, digits, places}
use Rattle.types.specs.Numbers.{exponent_in, signed}
use Rattle.types.specs.Worth.{worth, wholes, TellsWorth, AlikeInWorth}

-- what digits write behind a number
value_behind : (n : ℕ) (s : Bytes) → value_from n s ≡ n * 10 ^ length s + value_of s
value_behind n [] = omega arith
value_behind n (b ∷ s) =
    let d = b - 48 in
    let first : 0 * 10 + d ≡ d = omega arith in
    value_behind (n * 10 + d) s
    ∙ rw (first, value_behind d s, add-mul (n * 10) d (10 ^ length s), mul_assoc n 10 (10 ^ length s), pow-succ' 10 (length s)) (omega arith)

-- digits the last of which has place k
worth_value : (k : ℕ) (s : Bytes) → worth (length s + k) s ≡ value_of s * 10 ^ k
worth_value k [] = sym (zero-mul (10 ^ k))
worth_value k (b ∷ s) =
    let d = b - 48 in
    let first : 0 * 10 + d ≡ d = omega arith in
    let place : suc (length s) + k - 1 ≡ length s + k = omega arith in
    rw (place, worth_value k s, first, value_behind d s, add-mul (d * 10 ^ length s) (value_of s) (10 ^ k), pow-add 10 (length s) k)
    (ap (λ (x : ℕ). x + value_of s * 10 ^ k) (sym (mul_assoc d (10 ^ length s) (10 ^ k))))

signed_times : (negative : Bool) (v p : ℕ) → signed negative (v * p) ≡ signed negative v *ℤ pos p
signed_times false v p = refl
signed_times true zero p = rw (zero-mul p)
signed_times true (suc v) p = sym (negsuc-*ℤ-pos v p)

pub tells_worth : (s : Bytes) → TellsWorth s
tells_worth s n m e l =
    let k = m - places s in
    let count : wholes s + m ≡ length (digits s) + k =
    rw (length-append (upto (byte ".") (mantissa s)) (after (byte ".") (mantissa s))) (omega (arith, l)) in
    ap (λ (i : ℕ). signed (is_negative s) (worth i (digits s))) count
    ∙ ap (signed (is_negative s)) (worth_value k (digits s))
    ∙ signed_times (is_negative s) (value_of (digits s)) (10 ^ k)

-- m - p, and the scale of a text in units of which ten to the n make one
less : (m p : ℕ) → p ≤ m → pos m -ℤ pos p ≡ pos (m - p)
less m zero l = ap pos (omega arith)
less m (suc p) l = rw (le-ltb m (suc p) l)

scaled : (s : Bytes) (n m : ℕ) → pos n +ℤ exponent_in s ≡ pos m → places s ≤ m → pos (m - places s) ≡ pos n +ℤ (exponent_in s -ℤ pos (places s))
scaled s n m e l =
    sym (less m (places s) l) ∙ ap (λ (z : ℤ). z -ℤ pos (places s)) (sym e) ∙ +ℤ_assoc (pos n) (exponent_in s) (neg_ℤ (pos (places s)))

pub alike_in_worth : (s t : Bytes) → AlikeInWorth s t
alike_in_worth s t a n m k e f l o =
    let same : m - places s ≡ k - places t =
    ap nat_abs (scaled s n m e l ∙ ap (λ (z : ℤ). pos n +ℤ z) a.scale ∙ sym (scaled t n k f o)) in
    tells_worth s n m e l ∙ (λ i. a.value i *ℤ pos (10 ^ same i)) ∙ sym (tells_worth t n k f o)

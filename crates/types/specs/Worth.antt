-- What a text of type R is worth, said of its digits one by one, and the laws that tie the number of a text to it.
-- A digit is worth itself times ten to its place. The last digit before the point has place 0, and the places fall by one from digit to digit;
-- an exponent moves every digit by as many places. So that there are no fractions, all is counted in units of which ten to the n make one, with
-- n so large that no digit has a place below a unit's.
-- Assumes nothing.
use Rattle.std.specs.Prelude.{ℕ, ◌+◌, ◌-◌, ◌*◌, ◌^◌, ◌≤◌, ◌≡◌, Bool, true, false, cond, [], ◌∷◌, ◌++◌, ℤ, pos, ◌+ℤ◌, ◌-ℤ◌, ◌*ℤ◌, length, drop, replicate}
use Rattle.text.specs.Bytes.{Bytes, byte, among, value_of}
use Rattle.types.specs.Reals.{upto, is_negative, unsigned, mantissa, digits, places, is_real}
use Rattle.types.specs.Types.{is_number}
use Rattle.types.specs.Numbers.{signed, value_in, exponent_in, checked}

-- digits, the first of which has place n - 1
abbrev pub worth : ℕ → Bytes → ℕ
worth n [] = 0
worth n (b ∷ s) = (b - byte "0") * 10 ^ (n - 1) + worth (n - 1) s

-- how many digits stand before the point
abbrev pub wholes : Bytes → ℕ
wholes s = length (upto (byte ".") (mantissa s))

-- what the text writes where the last digit before the point has place m
abbrev pub worth_at : ℕ → Bytes → ℤ
worth_at m s = signed (is_negative s) (worth (wholes s + m) (digits s))

-- "value times ten to the exponent less the places is what the text writes": in units of which ten to the n make one, the last digit before
-- the point has the place n + exponent
abbrev pub TellsWorth : Bytes → Type 0
TellsWorth s = (n m : ℕ) → pos n +ℤ exponent_in s ≡ pos m → places s ≤ m → worth_at m s ≡ value_in s *ℤ pos (10 ^ (m - places s))

-- two texts whose numbers have one value and one scale, the exponent less the places
pub record Alike (s t : Bytes) : Type 0 where
  pub value : value_in s ≡ value_in t
  pub scale : exponent_in s -ℤ pos (places s) ≡ exponent_in t -ℤ pos (places t)

-- such texts are worth the same, in any units that are small enough for both
abbrev pub AlikeInWorth : Bytes → Bytes → Type 0
AlikeInWorth s t = Alike s t → (n m k : ℕ) → pos n +ℤ exponent_in s ≡ pos m → pos n +ℤ exponent_in t ≡ pos k → places s ≤ m → places t ≤ k
    → worth_at m s ≡ worth_at k t

-- a `-`, or none
abbrev pub sign : Bool → Bytes
sign negative = cond negative (byte "-" ∷ []) []

-- an exponent moves the point by as many digits, to the right or, with a `-`, to the left: w, f and g are the digits before, between and
-- behind the two places of the point, and x writes how many stand between
abbrev pub MovesThePoint : Bool → Bytes → Bytes → Bytes → Bytes → Type 0
MovesThePoint negative w f g x = is_number w ≡ true → is_number f ≡ true → is_number g ≡ true → is_number x ≡ true → value_of x ≡ length f
    → Alike (sign negative ++ (w ++ byte "." ∷ ((f ++ g) ++ byte "E" ∷ x))) (sign negative ++ ((w ++ f) ++ byte "." ∷ g))
    × Alike (sign negative ++ ((w ++ f) ++ byte "." ∷ (g ++ byte "E" ∷ (byte "-" ∷ x)))) (sign negative ++ (w ++ byte "." ∷ (f ++ g)))

-- the text with k zeros in front of its digits
abbrev pub padded : ℕ → Bytes → Bytes
padded k s = sign (is_negative s) ++ (replicate k (byte "0") ++ unsigned s)

-- they change nothing, within fifteen digits
abbrev pub ZerosTellNothing : Bytes → Type 0
ZerosTellNothing s = (k : ℕ) → is_real s ≡ true → k + length (digits s) ≤ 15 → checked 1 15 (padded k s) ≡ checked 1 15 s

-- the text with a point behind its digits
abbrev pub pointed : Bytes → Bytes
pointed s = sign (is_negative s) ++ (mantissa s ++ byte "." ∷ drop (length (mantissa s)) (unsigned s))

-- where it has none, that changes nothing
abbrev pub PointTellsNothing : Bytes → Type 0
PointTellsNothing s = (least most : ℕ) → among (mantissa s) (byte ".") ≡ false → checked least most (pointed s) ≡ checked least most s

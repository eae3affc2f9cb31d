-- Type R, with the exponent of document 02, Item 6: which texts are of the type.
-- A text is a `-` or none, digits with one point or none among them, and then nothing, or `E`, a `-` or none, and one or two digits. Each
-- part is read off the text by itself.
-- Assumes nothing.
use Rattle.std.specs.Prelude.{ℕ, Bool, false, not, cond, ◌&&◌, ◌||◌, [], ◌∷◌, ◌++◌, eqb, length, drop}
use Rattle.text.specs.Bytes.{Bytes, byte, between, every, among}
use Rattle.text.specs.Separators.{is_digit}

-- the text begins with the byte
abbrev pub begins : ℕ → Bytes → Bool
begins b [] = false
begins b (a ∷ s) = eqb a b

-- the text without that first byte, where it begins with it
abbrev pub past : ℕ → Bytes → Bytes
past b s = cond (begins b s) (drop 1 s) s

-- what stands before the first such byte: all, where there is none
abbrev pub upto : ℕ → Bytes → Bytes
upto b [] = []
upto b (a ∷ s) = cond (eqb a b) [] (a ∷ upto b s)

-- what stands behind it: nothing, where there is none
abbrev pub after : ℕ → Bytes → Bytes
after b [] = []
after b (a ∷ s) = cond (eqb a b) s (after b s)

-- the sign: whether the text begins with `-`
abbrev pub is_negative : Bytes → Bool
is_negative s = begins (byte "-") s

abbrev pub unsigned : Bytes → Bytes
unsigned s = past (byte "-") s

-- what stands between the sign and the `E`, or the end
abbrev pub mantissa : Bytes → Bytes
mantissa s = upto (byte "E") (unsigned s)

-- its digits, with the point left out
abbrev pub digits : Bytes → Bytes
digits s = upto (byte ".") (mantissa s) ++ after (byte ".") (mantissa s)

-- how many of them stand behind the point
abbrev pub places : Bytes → ℕ
places s = length (after (byte ".") (mantissa s))

-- whether an exponent is written
abbrev pub is_written : Bytes → Bool
is_written s = among (unsigned s) (byte "E")

-- the exponent: what stands behind the `E`
abbrev pub exponent_text : Bytes → Bytes
exponent_text s = after (byte "E") (unsigned s)

-- "an optional `-` and one or two digits"
abbrev pub is_exponent : Bytes → Bool
is_exponent t = every is_digit (unsigned t) && between 1 2 (length (unsigned t))

-- R: nothing but digits where they belong, one to fifteen of them; those of the exponent are not counted
unfoldable pub is_real : Bytes → Bool
is_real s = every is_digit (digits s) && between 1 15 (length (digits s)) && (not (is_written s) || is_exponent (exponent_text s))

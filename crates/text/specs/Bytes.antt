-- Bytes, quoted text as bytes, and the few tests on lists that every rule is written with.
-- Assumes nothing.
use Rattle.std.specs.Prelude.{ℕ, zero, suc, ◌+◌, ◌-◌, ◌*◌, Bool, true, false, ◌&&◌, ◌||◌, List, [], ◌∷◌, leb, eqb}
use Prim.Native.Char.{code}
use Prim.Native.String.{String, len, char_at}

-- bytes, each a number below 256
abbrev pub Bytes : Type 0
Bytes = List ℕ

-- the codes of n characters of the text, from place i on
abbrev pub codes : ℕ → ℕ → String → Bytes
codes zero i text = []
codes (suc n) i text = code (char_at text i) ∷ codes n (i + 1) text

-- a quoted text as bytes: bytes "RP" is 82, 80
abbrev pub bytes : String → Bytes
bytes text = codes (len text) 0 text

-- the byte that a text of one character is
abbrev pub byte : String → ℕ
byte text = code (char_at text 0)

-- lo ≤ n ≤ hi
abbrev pub between : ℕ → ℕ → ℕ → Bool
between lo hi n = leb lo n && leb n hi

-- the test passes at every one of the list
abbrev pub every : {A : Type 0} → (A → Bool) → List A → Bool
every f [] = true
every f (x ∷ l) = f x && every f l

-- the test passes at some one of the list
abbrev pub any : {A : Type 0} → (A → Bool) → List A → Bool
any f [] = false
any f (x ∷ l) = f x || any f l

-- the number stands in the list
abbrev pub among : List ℕ → ℕ → Bool
among l n = any (eqb n) l

-- two lists of bytes are the same, byte for byte
abbrev pub same : Bytes → Bytes → Bool
same [] [] = true
same [] (b ∷ t) = false
same (a ∷ s) [] = false
same (a ∷ s) (b ∷ t) = eqb a b && same s t

-- the number that digits write
abbrev pub value_from : ℕ → Bytes → ℕ
value_from n [] = n
value_from n (b ∷ s) = value_from (n * 10 + (b - byte "0")) s

abbrev pub value_of : Bytes → ℕ
value_of s = value_from 0 s

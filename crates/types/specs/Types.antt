-- The six types of document 01, "Element rules", over the bytes of one value.
-- Assumes nothing.
use Rattle.std.specs.Prelude.{ℕ, ◌%◌, Bool, true, not, cond, ◌&&◌, ◌||◌, List, [], ◌∷◌, leb, eqb, length, take, drop, get_or}
use Rattle.text.specs.Bytes.{Bytes, bytes, between, every, among, same, value_of}
use Rattle.text.specs.Separators.{is_digit, is_id_byte}
use Rattle.types.specs.Reals.{digits, is_real}
use Rattle.types.specs.declared.kind.Kind.{Kind}
use Rattle.types.specs.declared.kind.Kind.TheVariants.{AN, ID, Set842, N0, R, DT, TM}

-- ID: capital letters and digits
abbrev pub is_id : Bytes → Bool
is_id s = every is_id_byte s

-- "N0, digits."
abbrev pub is_number : Bytes → Bool
is_number s = every is_digit s

-- the number that one to ten digits write; of any other value 0
unfoldable pub number_of : Bytes → ℕ
number_of s = cond (between 1 10 (length s) && is_number s) (value_of s) 0

-- every fourth year is a leap year; of the hundreds only every fourth
abbrev pub is_leap : ℕ → Bool
is_leap year = eqb (year % 4) 0 && (not (eqb (year % 100) 0) || eqb (year % 400) 0)

-- the days of each month, from January, of a year that is no leap year
abbrev pub month_days : List ℕ
month_days = 31 ∷ 28 ∷ 31 ∷ 30 ∷ 31 ∷ 30 ∷ 31 ∷ 31 ∷ 30 ∷ 31 ∷ 30 ∷ 31 ∷ []

-- the days in a month of a year; 0 where there is no such month
unfoldable pub days_in : ℕ → ℕ → ℕ
days_in year month = cond (eqb month 2 && is_leap year) 29 (get_or (0 ∷ month_days) month 0)

-- the number that n bytes from place i on write
abbrev pub figures : ℕ → ℕ → Bytes → ℕ
figures i n s = value_of (take n (drop i s))

-- DT: eight digits, four of the year, two of the month, two of the day, that name a day of the Gregorian calendar
unfoldable pub is_date : Bytes → Bool
is_date s = eqb (length s) 8 && every is_digit s && between 1 (days_in (figures 0 4 s) (figures 4 2 s)) (figures 6 2 s)

-- TM: 4, 6, 7 or 8 digits; hours below 24, minutes and, where given, seconds below 60
unfoldable pub is_time : Bytes → Bool
is_time s =
    among (4 ∷ 6 ∷ 7 ∷ 8 ∷ []) (length s) && every is_digit s && leb (figures 0 2 s) 23 && leb (figures 2 2 s) 59 && leb (figures 4 2 s) 59

-- the value is of the type; `Set842` is the ID `842`. AN asks nothing here: its bytes are data, which rule 5 asks of every segment first
abbrev pub is_of : Kind → Bytes → Bool
is_of AN s = true
is_of ID s = is_id s
is_of Set842 s = same s (bytes "842")
is_of N0 s = is_number s
is_of R s = is_real s
is_of DT s = is_date s
is_of TM s = is_time s

-- the length that counts: of R, the digits
abbrev pub size_of : Kind → Bytes → ℕ
size_of AN s = length s
size_of ID s = length s
size_of Set842 s = length s
size_of N0 s = length s
size_of R s = length (digits s)
size_of DT s = length s
size_of TM s = length s

-- a value of the type, with the least and the most length
unfoldable pub fits : Kind → ℕ → ℕ → Bytes → Bool
fits kind least most s = between least most (size_of kind s) && is_of kind s

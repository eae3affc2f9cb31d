-- A BIN, whose second element is ended by a count and may hold any byte. Document 02, Item 1.
-- Assumes nothing.
use Rattle.std.specs.Prelude.{ℕ, ◌+◌, Bool, ◌&&◌, [], ◌∷◌, ◌++◌, leb, eqb, length, take, drop, get_or}
use Rattle.text.specs.Bytes.{Bytes, bytes, between, every, same, value_of}
use Rattle.text.specs.Separators.{is_digit}
use Rattle.text.specs.Pieces.{pieces}

-- `BIN` and the element separator
abbrev pub bin_mark : ℕ → Bytes
bin_mark e = bytes "BIN" ++ e ∷ []

-- they begin the bytes
unfoldable pub begins_bin : ℕ → Bytes → Bool
begins_bin e s = same (take 4 s) (bin_mark e)

-- BIN01: what stands behind them up to the next element separator
abbrev pub count_in : ℕ → Bytes → Bytes
count_in e segment = get_or (pieces e (drop 4 segment)) 0 []

-- BIN02: all that stands behind that separator
abbrev pub attached_in : ℕ → Bytes → Bytes
attached_in e segment = drop (length (count_in e segment) + 5) segment

-- a count of them: one to fifteen digits, which write how many there are, and there is one at least
abbrev pub counts : Bytes → Bytes → Bool
counts count attached =
    between 1 15 (length count) && every is_digit count && eqb (value_of count) (length attached) && leb 1 (length attached)

-- a whole BIN without its terminator: it begins with the mark, and its count ends with it
unfoldable pub is_bin : ℕ → Bytes → Bool
is_bin e segment = begins_bin e segment && counts (count_in e segment) (attached_in e segment)

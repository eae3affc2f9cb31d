-- Cutting the next segment off the bytes. Laws above know a cut by its shape and by two laws alone, `CutLaw` and `SkipLaw` of proofs/CutLaws, and
-- a view that is written and cut again by those of proofs/Writable; another way of cutting changes `cut_of`, `skip_of` and the proofs of these.
-- Assumes nothing.
use Rattle.std.specs.Prelude.{ℕ, suc, ◌+◌, ◌-◌, ◌*◌, ◌≡◌, Bool, not, cond, ◌&&◌, ◌||◌, List, [], ◌∷◌, ◌++◌, leb, ltb, eqb, length, take, drop, get_or}
use Rattle.text.specs.Bytes.{Bytes, byte}
use Rattle.text.specs.Separators.{is_digit, is_separator}
use Rattle.text.specs.Bin.{bin_mark, begins_bin}
use Rattle.text.specs.declared.separators.Separators.{Separators}
use Rattle.text.specs.declared.lines.LineEnds.{LineEnds}
use Rattle.text.specs.declared.lines.LineEnds.TheVariants.{Skipped, Strict}

-- what the bytes begin with: a segment, and what follows its terminator; or, where there is none, the answer's number and element, the bytes
-- that were looked at, and what follows those
pub data Cut : Type 0 where
  Whole : (segment more : Bytes) → Cut
  Stop : (number element : ℕ) (upto more : Bytes) → Cut

-- the cut with more bytes in front
abbrev pub behind : Bytes → Cut → Cut
behind front (Whole segment more) = Whole (front ++ segment) more
behind front (Stop number element upto more) = Stop number element (front ++ upto) more

-- up to the next terminator; 3 where there is none
abbrev pub cut_at_terminator : Separators → Bytes → Cut
cut_at_terminator q [] = Stop 3 0 [] []
cut_at_terminator q (b ∷ s) = cond (eqb b q.terminator) (Whole [] s) (behind (b ∷ []) (cut_at_terminator q s))

-- BIN02: n bytes of any kind, and the terminator; 3 where the bytes end before it, and 10 with element 2 at another byte in its place
unfoldable pub cut_attached : Separators → ℕ → Bytes → Cut
cut_attached q n s =
    cond (leb (length s) n) (Stop 3 0 s [])
    (cond (eqb (get_or s n 0) q.terminator) (Whole (take n s) (drop (suc n) s)) (Stop 10 2 (take (suc n) s) (drop (suc n) s)))

-- k digits that write n can begin a count: there are fewer than 15, or 15 and they write 1 at least
abbrev pub may_count : ℕ → ℕ → Bool
may_count k n = ltb k 15 || (eqb k 15 && leb 1 n)

-- BIN01, of which k digits that write n were passed, its separator, and BIN02; 10 with element 1 at the first byte that lets no count follow
abbrev pub cut_counted : Separators → ℕ → ℕ → Bytes → Cut
cut_counted q k n [] = Stop 3 0 [] []
cut_counted q k n (b ∷ s) =
    cond (eqb b q.element) (cond (leb 1 n) (behind (b ∷ []) (cut_attached q n s)) (Stop 10 1 (b ∷ []) s))
    (cond (is_digit b && may_count (suc k) (n * 10 + (b - byte "0"))) (behind (b ∷ []) (cut_counted q (suc k) (n * 10 + (b - byte "0")) s))
    (Stop 10 1 (b ∷ []) s))

-- a segment that begins with `BIN` and the element separator is ended by its count, any other by the next terminator. In other words, without
-- the order of the bytes: `CutOfBin` of specs/BinCut
unfoldable pub cut_of : Separators → Bytes → Cut
cut_of q s =
    cond (begins_bin q.element s) (behind (bin_mark q.element) (cut_counted q 0 0 (drop 4 s))) (cut_at_terminator q s)

-- Line ends, document 02, Item 3
abbrev pub CR : ℕ
CR = 13

abbrev pub LF : ℕ
LF = 10

-- at most one: 1 where the bytes begin with b and b is no separator, else 0
abbrev pub at_most_one : Separators → ℕ → Bytes → ℕ
at_most_one q b [] = 0
at_most_one q b (x ∷ s) = cond (eqb x b && not (is_separator q b)) 1 0

-- at most one CR and then at most one LF
abbrev pub line_end : Separators → Bytes → ℕ
line_end q s = at_most_one q CR s + at_most_one q LF (drop (at_most_one q CR s) s)

-- how many bytes are skipped after a terminator and before the next segment: a line end, or by the strict choice none
abbrev pub skip_of : LineEnds → Separators → Bytes → ℕ
skip_of Skipped q s = line_end q s
skip_of Strict q s = 0

-- a segment and the byte where it starts
pub record Placed : Type 0 where
  pub at : ℕ
  pub segment : Bytes

-- by this way of cutting and skipping, the segments gs lead from the bytes s, which start at `at`, to the bytes rest, which start at `end`
abbrev pub Leads : (Bytes → Cut) → (Bytes → ℕ) → ℕ → Bytes → List Placed → ℕ → Bytes → Type 0
Leads cut skip at s [] end rest = (at ≡ end) × (s ≡ rest)
Leads cut skip at s (g ∷ gs) end rest =
    (more : Bytes) × (cut s ≡ Whole g.segment more) × (g.at ≡ at)
    × Leads cut skip (at + length g.segment + 1 + skip more) (drop (skip more) more) gs end rest

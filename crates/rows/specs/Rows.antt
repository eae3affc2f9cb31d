-- The bracketed row list of document 01, "The 79 rows", and which lists of row numbers are words of it.
-- Assumes nothing.
use Rattle.std.specs.Prelude.{ℕ, ◌≤◌, ◌≡◌, Bool, true, false, List, [], ◌∷◌, ◌++◌, T, replicate}
use Rattle.rows.specs.Tags.{tag, tag_number}

-- Rows and loops in order. A row has its number, its tag, its maximum (0: repeats freely) and its mandatory mark; a loop has the number
-- and the tag of the row that opens it, its own mandatory mark and the rows and loops of its body. The last argument is what comes after.
pub data Items : Type 0 where
  end : Items
  row : (number tag maximum : ℕ) (mandatory : Bool) (rest : Items) → Items
  loop : (number tag : ℕ) (mandatory : Bool) (body rest : Items) → Items

-- this many occurrences of a row are permitted, by its maximum and by whether it is mandatory
pub record Allowed (maximum : ℕ) (mandatory : Bool) (count : ℕ) : Type 0 where
  pub within : (maximum ≡ 0 → ⊥) → count ≤ maximum
  pub present : T mandatory → 1 ≤ count

-- The rows of a pass stand in order: a row its permitted number of times, one after the other; a loop in any number of passes, at
-- least one if mandatory, each its opening row once and then a word of the body
pub data Word : Items → List ℕ → Type 0 where
  done : Word end []
  times : {n t maximum : ℕ} {mandatory : Bool} {rest : Items} {w : List ℕ} (count : ℕ)
      → Allowed maximum mandatory count → Word rest w → Word (row n t maximum mandatory rest) (replicate count n ++ w)
  skip : {n t : ℕ} {body rest : Items} {w : List ℕ} → Word rest w → Word (loop n t false body rest) w
  pass : {n t : ℕ} {mandatory : Bool} {body rest : Items} {u w : List ℕ}
      → Word body u → Word (loop n t false body rest) w → Word (loop n t mandatory body rest) (n ∷ (u ++ w))

-- some continuation makes the rows a word
abbrev pub Viable : Items → List ℕ → Type 0
Viable items w = (more : List ℕ) × Word items (w ++ more)

-- a row or a loop, and what comes after it: so a `do` block is a row list, one item a line
abbrev pub ◌>>◌ : (Items → Items) → Items → Items
◌>>◌ item rest = item rest

-- any number of times
abbrev pub free : ℕ
free = 0

-- "`/1`"
abbrev pub /1 : ℕ
/1 = 1

-- "`/2`"
abbrev pub /2 : ℕ
/2 = 2

-- a mandatory row
abbrev pub must : Bool
must = true

-- an optional row
abbrev pub may : Bool
may = false

-- the 79 rows, a loop in brackets
unfoldable pub list842 : Items
unfolding tag_number
list842 = do
  row 1 (tag "ST") /1 must
  row 2 (tag "BNR") /1 must
  row 3 (tag "REF") free may
  row 4 (tag "DTM") free may
  row 5 (tag "PID") free may
  loop 6 (tag "MEA") may do
    row 7 (tag "DTM") free may
    row 8 (tag "REF") free may
    end
  loop 9 (tag "PWK") may do
    row 10 (tag "REF") free may
    row 11 (tag "DTM") free may
    end
  loop 12 (tag "N1") may do
    row 13 (tag "N2") /2 may
    row 14 (tag "N3") /2 may
    row 15 (tag "N4") /1 may
    row 16 (tag "REF") free may
    row 17 (tag "PER") free may
    end
  loop 18 (tag "HL") must do
    row 19 (tag "LIN") /1 may
    row 20 (tag "PID") free may
    row 21 (tag "PRS") free may
    row 22 (tag "CID") free may
    row 23 (tag "DTM") free may
    row 24 (tag "REF") free may
    row 25 (tag "CS") /1 may
    row 26 (tag "QTY") free may
    row 27 (tag "TMD") /1 may
    row 28 (tag "PSD") /1 may
    row 29 (tag "PWK") free may
    loop 30 (tag "LM") may do
      row 31 (tag "LQ") free must
      end
    loop 32 (tag "MEA") may do
      row 33 (tag "DTM") free may
      row 34 (tag "REF") free may
      end
    loop 35 (tag "FA1") may do
      row 36 (tag "FA2") free must
      end
    loop 37 (tag "SPS") may do
      row 38 (tag "REF") free may
      row 39 (tag "PSD") /1 may
      loop 40 (tag "MEA") may do
        row 41 (tag "DTM") free may
        row 42 (tag "REF") free may
        end
      loop 43 (tag "STA") may do
        row 44 (tag "DTM") free may
        row 45 (tag "REF") free may
        end
      end
    loop 46 (tag "NCD") may do
      row 47 (tag "NTE") free may
      row 48 (tag "DTM") free may
      row 49 (tag "REF") free may
      row 50 (tag "QTY") free may
      row 51 (tag "AMT") free may
      row 52 (tag "MEA") free may
      row 53 (tag "RC") free may
      loop 54 (tag "EFI") may do
        row 55 (tag "BIN") /1 must
        end
      loop 56 (tag "N1") may do
        row 57 (tag "N2") /2 may
        row 58 (tag "N3") /2 may
        row 59 (tag "N4") /1 may
        row 60 (tag "REF") free may
        row 61 (tag "PER") free may
        end
      loop 62 (tag "LM") may do
        row 63 (tag "LQ") free must
        end
      loop 64 (tag "NCA") may do
        row 65 (tag "NTE") free may
        row 66 (tag "DTM") free may
        row 67 (tag "REF") free may
        loop 68 (tag "PWK") may do
          row 69 (tag "REF") free may
          row 70 (tag "DTM") free may
          end
        loop 71 (tag "N1") may do
          row 72 (tag "N2") /2 may
          row 73 (tag "N3") /2 may
          row 74 (tag "N4") /1 may
          row 75 (tag "REF") free may
          row 76 (tag "PER") free may
          end
        loop 77 (tag "LM") may do
          row 78 (tag "LQ") free must
          end
        end
      end
    end
  row 79 (tag "SE") /1 must
  end

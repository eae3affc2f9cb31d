-- The 34 tags of document 01, "The 79 rows", and their numbers.
-- Assumes nothing.
use Rattle.std.specs.Prelude.{ℕ, suc, cond, List, [], ◌∷◌}
use Prim.Native.String.{String}
use Rattle.text.specs.Bytes.{Bytes, bytes, same}

-- the 34 tags, in the order of their first row
abbrev pub tags : List Bytes
tags =
    bytes "ST" ∷ bytes "BNR" ∷ bytes "REF" ∷ bytes "DTM" ∷ bytes "PID" ∷ bytes "MEA" ∷ bytes "PWK"
    ∷ bytes "N1" ∷ bytes "N2" ∷ bytes "N3" ∷ bytes "N4" ∷ bytes "PER" ∷ bytes "HL" ∷ bytes "LIN"
    ∷ bytes "PRS" ∷ bytes "CID" ∷ bytes "CS" ∷ bytes "QTY" ∷ bytes "TMD" ∷ bytes "PSD" ∷ bytes "LM"
    ∷ bytes "LQ" ∷ bytes "FA1" ∷ bytes "FA2" ∷ bytes "SPS" ∷ bytes "STA" ∷ bytes "NCD" ∷ bytes "NTE"
    ∷ bytes "AMT" ∷ bytes "RC" ∷ bytes "EFI" ∷ bytes "BIN" ∷ bytes "NCA" ∷ bytes "SE" ∷ []

-- the place of the bytes in a list, from 0; the list's length where they do not stand in it
abbrev pub place_in : List Bytes → Bytes → ℕ
place_in [] text = 0
place_in (t ∷ ts) text = cond (same t text) 0 (suc (place_in ts text))

-- a tag's number: its place among the 34 tags, from 0; 34 for bytes that are no tag
unfoldable pub tag_number : Bytes → ℕ
tag_number text = place_in tags text

-- the number of a tag written as text
abbrev pub tag : String → ℕ
tag text = tag_number (bytes text)

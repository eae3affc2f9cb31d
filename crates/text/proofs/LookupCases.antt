-- The lookup at its corners, with the standard separators, as one table: the segment, the two numbers, where the part starts, and its bytes.
-- Assumes nothing.
use Prim.Native.Nat.{ℕ}
use Prim.Native.String.{String}
use mathlib.Core.Path.{◌≡◌, refl}
use mathlib.Core.Bool.{Bool, true, ◌&&◌}
use mathlib.Core.List.{List, [], ◌∷◌}
use lib.Dec.{eqb}
use Rattle.text.specs.Bytes.{bytes, every, same}
use Rattle.text.specs.Separators.{standard}
use Rattle.text.specs.Bin.{begins_bin, is_bin}
use Rattle.text.specs.View.{view_of, elements_of}
use Rattle.text.specs.Lookup.{element_span, part_span, part_in}

abbrev Case : Type 0
Case = String × ℕ × ℕ × ℕ × String

-- the lookup finds that part there
abbrev found : Case → Bool
found c =
    let segment = bytes c.0 in
    eqb (part_span standard segment c.1 c.2).start c.3 && same (part_in standard segment c.1 c.2) (bytes c.4)

abbrev lookups : List Case
lookups =
    -- an element of three components: part 0 is all of it, and behind the last part is its end
    ("NCA**R1**5*EA:2:G", 5, 0, 11, "EA:2:G") ∷ ("NCA**R1**5*EA:2:G", 5, 1, 11, "EA") ∷ ("NCA**R1**5*EA:2:G", 5, 2, 14, "2")
    ∷ ("NCA**R1**5*EA:2:G", 5, 3, 16, "G") ∷ ("NCA**R1**5*EA:2:G", 5, 4, 17, "")
    -- of one component, and of no bytes
    ∷ ("NCA**R1**5*EA:2:G", 2, 0, 5, "R1") ∷ ("NCA**R1**5*EA:2:G", 2, 1, 5, "R1") ∷ ("NCA**R1**5*EA:2:G", 2, 2, 7, "")
    ∷ ("NCA**R1**5*EA:2:G", 2, 3, 7, "") ∷ ("NCA**R1**5*EA:2:G", 1, 0, 4, "") ∷ ("NCA**R1**5*EA:2:G", 1, 1, 4, "") ∷ ("NCA**R1**5*EA:2:G", 1, 2, 4, "")
    -- past the last element, the segment's end
    ∷ ("NCA**R1**5*EA:2:G", 6, 0, 17, "") ∷ ("NCA**R1**5*EA:2:G", 6, 1, 17, "") ∷ ("NCA**R1**5*EA:2:G", 70, 70, 17, "")
    -- the tag is element 0, and may have components
    ∷ ("NCA**R1**5*EA:2:G", 0, 0, 0, "NCA") ∷ ("NCA**R1**5*EA:2:G", 0, 1, 0, "NCA") ∷ ("NCA**R1**5*EA:2:G", 0, 2, 3, "")
    ∷ ("A:B*C", 0, 0, 0, "A:B") ∷ ("A:B*C", 0, 1, 0, "A") ∷ ("A:B*C", 0, 2, 2, "B") ∷ ("A:B*C", 0, 3, 3, "")
    -- of a whole BIN each element is one component
    ∷ ("BIN*5*A:B*C", 2, 0, 6, "A:B*C") ∷ ("BIN*5*A:B*C", 2, 1, 6, "A:B*C") ∷ ("BIN*5*A:B*C", 2, 2, 11, "") ∷ ("BIN*5*A:B*C", 1, 1, 4, "5")
    ∷ ("BIN*5*A:B*C", 1, 2, 5, "") ∷ ("BIN*5*A:B*C", 0, 2, 3, "") ∷ ("BIN*5*A:B*C", 3, 0, 11, "")
    -- a BIN whose count does not end with it is cut
    ∷ ("BIN*4*A:B*C", 2, 0, 6, "A:B") ∷ ("BIN*4*A:B*C", 2, 1, 6, "A") ∷ ("BIN*4*A:B*C", 2, 2, 8, "B") ∷ ("BIN*4*A:B*C", 3, 1, 10, "C")
    -- no bytes, and separators alone
    ∷ ("", 0, 0, 0, "") ∷ ("", 0, 1, 0, "") ∷ ("", 1, 2, 0, "") ∷ ("*:*", 0, 1, 0, "") ∷ ("*:*", 1, 0, 1, ":") ∷ ("*:*", 1, 1, 1, "") ∷ ("*:*", 1, 2, 2, "")
    ∷ ("*:*", 1, 3, 2, "") ∷ ("*:*", 2, 0, 3, "") ∷ []

pub lookups_found : every found lookups ≡ true
unfolding part_span element_span view_of elements_of is_bin begins_bin
lookups_found = refl

-- The codes of a nonconformance report's levels, as they are printed.
-- Assumes nothing.
use Rattle.std.specs.Prelude.{ℕ, List, cond, eqb, codes}

-- the letters of HL03 for the code with that number
abbrev pub letters_of : ℕ → List ℕ
letters_of n = cond (eqb n 1) (codes "RP") (cond (eqb n 2) (codes "I") (cond (eqb n 3) (codes "F") (cond (eqb n 4) (codes "PC") (codes "SN"))))

-- what it stands for, in words
abbrev pub words_of : ℕ → List ℕ
words_of n =
    cond (eqb n 1) (codes "report")
    (cond (eqb n 2) (codes "item")
    (cond (eqb n 3) (codes "component") (cond (eqb n 4) (codes "product characteristic") (codes "serial number"))))

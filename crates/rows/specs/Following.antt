-- What may come after what, said with the words of the bracketed row list alone.
-- Assumes nothing.
use Rattle.std.specs.Prelude.{ℕ, ◌≡◌, ◌≢◌, Bool, List, [], ◌∷◌, ◌++◌, eqb}
use Rattle.rows.specs.Rows.{Viable, list842}
use Rattle.rows.specs.RowList.{tag_of}

-- row x may follow row r: somewhere in some word it stands right behind it
abbrev pub MayFollow : ℕ → ℕ → Type 0
MayFollow r x = (w : List ℕ) × Viable list842 (w ++ (r ∷ x ∷ []))

-- row x has the tag and goes on from the rows w
pub record Fits (w : List ℕ) (t x : ℕ) : Type 0 where
  pub viable : Viable list842 (w ++ (x ∷ []))
  pub tagged : tag_of x ≡ t

-- x is the one row with the tag that goes on from the rows w, and 0 exactly if there is none
pub record OneFits (w : List ℕ) (t x : ℕ) : Type 0 where
  pub fits : x ≢ 0 → Fits w t x
  pub alone : (y : ℕ) → Fits w t y → (y ≡ x) × (x ≢ 0)

-- x is the one row with the tag that may follow row r, and 0 exactly if there is none
pub record OneFollows (r t x : ℕ) : Type 0 where
  pub follows : x ≢ 0 → MayFollow r x × (tag_of x ≡ t)
  pub alone : (y : ℕ) → MayFollow r y → tag_of y ≡ t → (y ≡ x) × (x ≢ 0)

-- the last row of w, or r where w is empty
abbrev pub last_of : ℕ → List ℕ → ℕ
last_of r [] = r
last_of r (x ∷ w) = last_of x w

-- the last row of w stands right behind itself; r comes before w, and `already` is the answer for r
abbrev pub twice : ℕ → Bool → List ℕ → Bool
twice r already [] = already
twice r already (x ∷ w) = twice x (eqb x r) w

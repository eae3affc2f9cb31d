-- Bytes that have a tag's number are that tag.
-- Assumes nothing.
use mathlib.Core.Path.{◌≡◌}
use mathlib.Core.Bool.{Bool, true, false, cond}
use mathlib.Core.List.{List, [], ◌∷◌}
use Prim.Native.Nat.{ℕ, suc, ◌<◌}
use native.Mathlib.Nat.{le_of_suc-le-suc, not-suc-le-zero}
use lib.Dec.{T}
use lib.ListN.{get_or, length}
use Rattle.text.specs.Bytes.{Bytes, same}
use Rattle.text.proofs.Sames.{same_equal}
use Rattle.rows.specs.Tags.{tags, place_in, tag_number}

-- by whether the first of the list is the one
place_cases : (b : Bool) (t s : Bytes) (ts : List Bytes) (n : ℕ) → (T b → t ≡ s) → (n < length ts → get_or ts n [] ≡ s)
    → cond b 0 (suc n) < length (t ∷ ts) → get_or (t ∷ ts) (cond b 0 (suc n)) [] ≡ s
place_cases true t s ts n f g h = f tt
place_cases false t s ts n f g h = g (le_of_suc-le-suc h)

place_holds : (ts : List Bytes) (s : Bytes) → place_in ts s < length ts → get_or ts (place_in ts s) [] ≡ s
place_holds [] s h = absurd (not-suc-le-zero h)
place_holds (t ∷ ts) s h = place_cases (same t s) t s ts (place_in ts s) (same_equal t s) (place_holds ts s) h

-- bytes with a number below 34 are the tag of that number
pub tag_of_number : (s : Bytes) → tag_number s < 34 → get_or tags (tag_number s) [] ≡ s
unfolding tag_number
tag_of_number s h = place_holds tags s h

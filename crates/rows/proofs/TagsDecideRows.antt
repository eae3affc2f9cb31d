-- The tags decide the rows: two runs with the same tags take the same step at each row, since a row and a tag have one next row.
-- Assumes nothing.
use mathlib.Core.Path.{◌≡◌, refl, ap, sym, ◌∙◌}
use mathlib.Core.Bool.{Bool, false}
use mathlib.Core.List.{List, [], ◌∷◌, map, nil≢cons, head-eq_of_cons-eq, tail-eq_of_cons-eq}
use Prim.Native.Nat.{ℕ, ◌<◌}
use native.Mathlib.Omega.{arith}
use lib.Dec.{eqb, lit<}
use Rattle.rows.specs.Rows.{Viable, list842}
use Rattle.rows.specs.RowList.{tag_of}
use Rattle.rows.proofs.NextRows.{next_of}
use Rattle.rows.proofs.Followers.{follower_range}
use Rattle.rows.proofs.Local.{Runs, viable_runs, follower_follows}
use Rattle.rows.proofs.FittingRow.{follow_next}

runs_once : (w u : List ℕ) (r : ℕ) (c : Bool) → r < 80 → Runs r c w → Runs r c u → map tag_of w ≡ map tag_of u → w ≡ u
unfolding Runs
runs_once [] [] r c h s s' e = refl
runs_once [] (x ∷ u) r c h s s' e = absurd (nil≢cons e)
runs_once (x ∷ w) [] r c h s s' e = absurd (nil≢cons (sym e))
runs_once (x ∷ w) (y ∷ u) r c h s s' e =
    let f : x ≡ y =
    follow_next r x h (follower_follows r x c s.0).0 ∙ ap (next_of r) (head-eq_of_cons-eq e)
    ∙ sym (follow_next r y h (follower_follows r y c s'.0).0) in
    let k = follower_range r c x s.0 in
    let s'' : Runs x (eqb x r) u = rw f s'.1 in
    let g : w ≡ u = runs_once w u x (eqb x r) (omega arith) s.1 s'' (tail-eq_of_cons-eq e) in
    λ i. f i ∷ g i

-- two viable lists of rows with the same tags are equal
pub rows_once : (w u : List ℕ) → Viable list842 w → Viable list842 u → map tag_of w ≡ map tag_of u → w ≡ u
rows_once w u v v' e = runs_once w u 0 false (lit< tt) (viable_runs w v) (viable_runs u v') e

-- A part of a table that is stored anew: what stands before it and behind it stays.
-- Assumes nothing.
use Prim.Native.Nat.{ℕ, ◌+◌, ◌-◌, ◌≤◌}
use mathlib.Core.Path.{◌≡◌, ap, ◌∙◌}
use mathlib.Core.List.{List, ◌++◌}
use native.Mathlib.Omega.{arith}
use lib.ListN.{take, drop}
use lib.Seq.{drop-drop}
use borrow.Rule.Slice.PartMut.{put_mid}

pub part_stored : {A : Type 0} (at end : ℕ) (table part : List A) → at ≤ end → put_mid at (end - at) table part ≡ take at table ++ (part ++ drop end table)
part_stored {A} at end table part forward =
    let behind : at + (end - at) ≡ end = omega arith in
    ap (λ (rest : List A). take at table ++ (part ++ rest)) (drop-drop (end - at) at table ∙ ap (λ (n : ℕ). drop n table) behind)

-- the four numbers of a record
pub four_stored : (at : ℕ) (table numbers : List ℕ) → put_mid at (at + 4 - at) table numbers ≡ take at table ++ (numbers ++ drop (at + 4) table)
four_stored at table numbers = part_stored at (at + 4) table numbers (omega arith)

-- Entries of a table, over any width: where it has no such record they are 0; a stored record is read back, and the earlier ones stay.
-- Assumes nothing.
use Prim.Native.Nat.{ℕ, suc, ◌+◌, ◌-◌, ◌*◌, ◌/◌, ◌≤◌, ◌<◌}
use mathlib.Core.Path.{◌≡◌, refl, sym, ap, ◌∙◌}
use mathlib.Core.Logic.{by_cases}
use mathlib.Core.List.{List, ◌++◌}
use native.Mathlib.Omega.{arith}
use native.Mathlib.Decide.{dec_lt}
use native.Mathlib.Nat.{mul-le-mul_right, div-mul-le_self}
use lib.ListN.{length, take, drop, get_or, length-append, length-take, length-drop, get_or-append}
use lib.Seq.{get_or-take, get_or-append-add, take_at}
use borrow.Author.Tests.{le-leb, lt-leb}
use Rattle.finding.specs.internal.Entries.{entry_of, stored_at}

-- a record of the first `many` ends among their numbers
inside_many : (width n many k : ℕ) → 1 ≤ n → n ≤ many → k < width → (n - 1) * width + k < many * width
inside_many width n many k low high h =
    let one_more : suc (n - 1) * width ≤ many * width = mul-le-mul_right width (omega arith) in
    omega arith

module _ (width : ℕ) (table : List ℕ) (n k : ℕ) where
  -- there is no record 0
  pub entry_none : n < 1 → 0 ≡ entry_of width table n k
  entry_none h = rw (lt-leb 1 n h)

  -- the others are there
  pub entry_there : 1 ≤ n → n ≤ length table / width → get_or table ((n - 1) * width + k) 0 ≡ entry_of width table n k
  entry_there low high = rw (le-leb 1 n low, le-leb n (length table / width) high)

-- the first n records of a table are the same before and after
pub record SameRecords (width : ℕ) (before after : List ℕ) (n : ℕ) : Type 0 where
  pub size : length after ≡ length before
  pub front : take (n * width) after ≡ take (n * width) before

-- a table that does not change keeps them
pub unchanged : (width : ℕ) (table : List ℕ) (n : ℕ) → SameRecords width table table n
unchanged width table n = record { size = refl; front = refl }

-- their entries are the same
pub same_entry : {width : ℕ} {before after : List ℕ} {n : ℕ} → SameRecords width before after n → (j k : ℕ) → j ≤ n → k < width
    → entry_of width after j k ≡ entry_of width before j k
same_entry {width} {before} {after} {n} e j k h l =
    by_cases (dec_lt j 1) (λ none. sym (entry_none width after j k none) ∙ entry_none width before j k none)
    (λ some.
    let at = (j - 1) * width + k in
    let inside = inside_many width j n k (omega arith) h l in
    let entry : get_or after at 0 ≡ get_or before at 0 =
    sym (get_or-take (n * width) after at 0 inside) ∙ ap (λ (t : List ℕ). get_or t at 0) e.front ∙ get_or-take (n * width) before at 0 inside in
    rw (e.size, entry))

module _ (width : ℕ) (table : List ℕ) (n : ℕ) (numbers : List ℕ) (count : length numbers ≡ width) (room : suc n ≤ length table / width) where
  -- the record fits
  fits : n * width + width ≤ length table
  fits =
      let one_more : suc n * width ≤ length table / width * width = mul-le-mul_right width room in
      omega (arith, div-mul-le_self (length table) width)

  -- the records before it
  ahead : length (take (n * width) table) ≡ n * width
  ahead = length-take (n * width) table ∙ omega (arith, fits)

  -- they are kept
  pub stored_same : SameRecords width table (stored_at width table n numbers) n
  stored_same = record {
    size =
        simp (length-append (take (n * width) table) (numbers ++ drop (n * width + width) table), length-append numbers (drop (n * width + width) table))
        (omega (arith, fits, ahead, length-drop (n * width + width) table));
    front = take_at (take (n * width) table) (numbers ++ drop (n * width + width) table) (n * width) ahead;
  }

  -- the new record is read back
  pub stored_entry : (k : ℕ) → k < width → entry_of width (stored_at width table n numbers) (suc n) k ≡ get_or numbers k 0
  stored_entry k h =
      let back : suc n - 1 ≡ n = omega arith in
      let place : n * width + k ≡ length (take (n * width) table) + k = omega (arith, ahead) in
      let inside : k < length numbers = omega arith in
      sym (entry_there width (stored_at width table n numbers) (suc n) k (omega arith) (rw stored_same.size room))
      ∙ rw (back, place, get_or-append-add (take (n * width) table) (numbers ++ drop (n * width + width) table) k 0)
      (get_or-append numbers (drop (n * width + width) table) 0 k inside)

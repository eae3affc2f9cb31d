-- A lookup keeps its promise on each way out. Where the table is the next-row table, its entry means the computed next row, so the answer is
-- the next step, which is the one row that fits.
-- Assumes nothing.
use mathlib.Core.Path.{◌≡◌, refl, sym, ap, subst, ◌∙◌}
use mathlib.Core.Logic.{by_cases}
use mathlib.Core.Bool.{Bool, true, false, cond, ◌&&◌}
use mathlib.Core.List.{List}
use Prim.Native.Nat.{ℕ, zero, suc, ◌+◌, ◌-◌, ◌*◌, ◌<◌, ◌≤◌}
use native.Mathlib.Omega.{arith}
use native.Mathlib.Decide.{dec_lt}
use lib.Dec.{eqb}
use lib.ListN.{get_or}
use borrow.Author.Tests.{eq-eqb, ne_eqb, eqb-true, le-leb, lt-leb, le-ltb, lt-ltb}
use Rattle.std.specs.Prelude.{Option, Some, None, unwrap_or}
use Rattle.text.proofs.Bools.{cond_same}
use Rattle.text.proofs.Tables.{tab, tab_at}
use Rattle.rows.specs.Tags.{tag, tag_number}
use Rattle.rows.specs.Rows.{list842}
use Rattle.rows.specs.RowList.{row_at, max_of}
use Rattle.rows.specs.Following.{OneFits, last_of, twice}
use Rattle.rows.specs.NextTable.{entry_for, NextTable}
use Rattle.rows.proofs.NextRows.{next_of, after, edges842}
use Rattle.rows.proofs.Viability.{last_range}
use Rattle.rows.proofs.FittingRow.{next_range, fits_tag}
use Rattle.rows.proofs.NextTable.{one_follows_once, next_one}
use Rattle.rows.proofs.RowStep.{step_of, step_fits}
use Rattle.numbering.specs.RowAfter.{RowAfter, row_meant, is_third, row_after_in, entry_at}

-- the lookup at a row and a tag of the list, in any table
after_entry : (table : List ℕ) (r : ℕ) (again : Bool) (t : ℕ) → 1 ≤ r → r ≤ 79 → t < 34
    → row_after_in table r again t ≡ cond (is_third r again (entry_at table r t)) None (entry_at table r t)
unfolding row_after_in
after_entry table r again t lo hi ht = rw (ne_eqb r 0 (λ e. omega arith), le-leb r 79 hi, lt-ltb t 34 ht)

-- at the start: row 1 for ST, and nothing else
checked_start : (again : Bool) → tab 34 (λ t. unwrap_or (cond (eqb t (tag "ST")) (Some 1) None) 0) ≡ tab 34 (λ t. step_of 0 again t)
unfolding tab step_of next_of after edges842 list842 tag_number max_of row_at
checked_start false = refl
checked_start true = refl

-- a row by its number, none for 0
abbrev as_row : ℕ → Option ℕ
as_row x = cond (eqb x 0) None (Some x)

-- an entry means the row that it is entered for
entry_means : (t x : ℕ) → x < 128 → row_meant (entry_for t x) ≡ as_row x
entry_means t x h =
    by_cases (dec_lt 0 x)
    (λ some. rw (ne_eqb x 0 (λ e. omega arith), le-leb 1 x some, le-leb x 127 (omega arith)))
    (λ none. let e : x ≡ 0 = omega arith in rw (e, le-leb 1 (128 + t) (omega arith), lt-leb (128 + t) 127 (omega arith)))

-- a row that is no third
goes : (b : Bool) (n : ℕ) → unwrap_or (cond b None (Some n)) 0 ≡ cond b 0 n
goes true n = refl
goes false n = refl

next_step : (r : ℕ) (again : Bool) (n : ℕ) → unwrap_or (cond (is_third r again (as_row n)) None (as_row n)) 0 ≡ cond (again && (eqb n r && eqb (max_of r) 2)) 0 n
next_step r again zero = sym (cond_same (again && (eqb 0 r && eqb (max_of r) 2)) 0)
next_step r again (suc n) = rw (ne_eqb (suc n) 0 (λ e. omega arith)) (goes (again && (eqb (suc n) r && eqb (max_of r) 2)) (suc n))

module _ (table : List ℕ) (kept : NextTable table) where
  -- the row that the table's entry means is the computed next row
  entry_next : (r t : ℕ) → 1 ≤ r → r ≤ 79 → t < 34 → entry_at table r t ≡ as_row (next_of r t)
  entry_next r t lo hi ht =
      let e = kept.entries r t lo hi ht in
      let n = one_follows_once r t e.next (next_of r t) e.one (next_one r t lo hi ht) in
      let b = next_range r t (omega arith) ht in
      ap row_meant (e.entered ∙ ap (entry_for t) n) ∙ entry_means t (next_of r t) (omega arith)

  -- so the lookup is the next step
  after_step : (r t : ℕ) (again : Bool) → r ≤ 79 → t < 34 → unwrap_or (row_after_in table r again t) 0 ≡ step_of r again t
  unfolding row_after_in step_of
  after_step zero t again hi ht =
      tab_at 34 (λ t. unwrap_or (cond (eqb t (tag "ST")) (Some 1) None) 0) (λ t. step_of 0 again t) (checked_start again) t ht
  after_step (suc k) t again hi ht =
      rw (after_entry table (suc k) again t (omega arith) hi ht, entry_next (suc k) t (omega arith) hi ht) (next_step (suc k) again (next_of (suc k) t))

-- for a number that is no tag's there is no row
no_tag : (table : List ℕ) (r : ℕ) (again : Bool) (t : ℕ) → 34 ≤ t → row_after_in table r again t ≡ None
unfolding row_after_in tag_number
no_tag table zero again t h = rw (ne_eqb t 0 (λ e. omega arith))
no_tag table (suc k) again t h =
    by_cases (dec_lt 79 (suc k))
    (λ past. rw (ne_eqb (suc k) 0 (λ e. omega arith), lt-leb (suc k) 79 past))
    (λ within. rw (ne_eqb (suc k) 0 (λ e. omega arith), le-leb (suc k) 79 (omega arith), le-ltb t 34 h))

-- and nothing fits
none_fits : (w : List ℕ) (t x : ℕ) → 34 ≤ t → x ≡ 0 → OneFits w t x
none_fits w t x h e = record {
  fits = λ n. absurd (n e);
  alone = λ y f. absurd (let k = fits_tag w t y f in omega arith);
}

-- an answer as defined keeps the whole promise
answer_means : (table : List ℕ) (r : ℕ) (again : Bool) (t : ℕ) (x : Option ℕ) → x ≡ row_after_in table r again t → RowAfter table r again t x
answer_means table r again t x e = record {
  meaning = λ kept w v last second.
      by_cases (dec_lt t 34)
      (λ ht.
      let hi : r ≤ 79 = subst (λ (k : ℕ). k ≤ 79) last (let h = last_range w v in omega arith) in
      let g : unwrap_or x 0 ≡ step_of (last_of 0 w) (twice 0 false w) t = rw (last, second) (ap (λ (y : Option ℕ). unwrap_or y 0) e ∙ after_step table kept r t again hi ht) in
      subst (λ (k : ℕ). OneFits w t k) (sym g) (step_fits w v t ht))
      (λ past. none_fits w t (unwrap_or x 0) (omega arith) (ap (λ (y : Option ℕ). unwrap_or y 0) (e ∙ no_tag table r again t (omega arith))));
  answer = e;
}

-- the entry as it stands in the table
abbrev stands_at : List ℕ → ℕ → ℕ → ℕ
stands_at table r t = get_or table ((r - 1) * 34 + t) 0

-- the lookup's ways out, each by its tests
module _ {table : List ℕ} {r : ℕ} {again : Bool} {t : ℕ} where
  -- nothing read, and ST
  pub start_st : r ≡ 0 → t ≡ 0 → RowAfter table r again t (Some 1)
  unfolding row_after_in tag_number
  start_st e f = answer_means table r again t (Some 1) (rw (e, f))

  -- nothing read, and another tag
  pub start_other : r ≡ 0 → (t ≡ 0 → ⊥) → RowAfter table r again t None
  unfolding row_after_in tag_number
  start_other e n = answer_means table r again t None (rw (e, ne_eqb t 0 n))

  -- a row past the last
  pub row_outside : (r ≡ 0 → ⊥) → 79 < r → RowAfter table r again t None
  unfolding row_after_in
  row_outside n h = answer_means table r again t None (rw (ne_eqb r 0 n, lt-leb r 79 h))

  -- a number that is no tag's
  pub tag_outside : 34 ≤ t → RowAfter table r again t None
  tag_outside h = answer_means table r again t None (sym (no_tag table r again t h))

  module _ (lo : 1 ≤ r) (hi : r ≤ 79) (ht : t < 34) where
    by_entry : (e x : Option ℕ) → row_meant (stands_at table r t) ≡ e → cond (is_third r again e) None e ≡ x → RowAfter table r again t x
    by_entry e x is z =
        answer_means table r again t x
        (sym (after_entry table r again t lo hi ht ∙ ap (λ (y : Option ℕ). cond (is_third r again y) None y) is ∙ z))

    -- no row there
    pub no_row : stands_at table r t ≡ 0 → RowAfter table r again t None
    no_row e = by_entry None None (rw e) refl

    pub no_row_there : 128 ≤ stands_at table r t → RowAfter table r again t None
    no_row_there l = by_entry None None (rw (le-leb 1 (stands_at table r t) (omega arith), lt-leb (stands_at table r t) 127 (omega arith))) refl

    -- a row there, which means itself
    module _ (some : stands_at table r t ≡ 0 → ⊥) (h : stands_at table r t < 128) where
      by_row : (x : Option ℕ) → cond (again && (eqb (stands_at table r t) r && eqb (max_of r) 2)) None (Some (stands_at table r t)) ≡ x → RowAfter table r again t x
      by_row x z = by_entry (Some (stands_at table r t)) x (rw (le-leb 1 (stands_at table r t) (omega (arith, some)), le-leb (stands_at table r t) 127 (omega arith))) z

      -- a third of a row of maximum 2
      pub third_refused : again ≡ true → stands_at table r t ≡ r → eqb (max_of r) 2 ≡ true → RowAfter table r again t None
      third_refused p q s = by_row None (rw (p, eq-eqb (stands_at table r t) r q, s))

      -- any row but a third
      pub goes_on : (again ≡ true → stands_at table r t ≡ r → eqb (max_of r) 2 ≡ true → ⊥) → RowAfter table r again t (Some (stands_at table r t))
      goes_on n = by again (eqb (stands_at table r t) r) (eqb (max_of r) 2) refl refl refl
        where
          by : (a e m : Bool) → again ≡ a → eqb (stands_at table r t) r ≡ e → eqb (max_of r) 2 ≡ m → RowAfter table r again t (Some (stands_at table r t))
          by false e m p q s = by_row (Some (stands_at table r t)) (rw p)
          by true false m p q s = by_row (Some (stands_at table r t)) (rw (p, q))
          by true true false p q s = by_row (Some (stands_at table r t)) (rw (p, q, s))
          by true true true p q s = absurd (n p (eqb-true _ _ q) s)

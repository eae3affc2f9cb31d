-- That every code's number is small and tells the code, which codes each profile knows, and what each may do.
-- Assumes nothing.
use Prim.Native.Nat.{ℕ, zero, suc, ◌<◌}
use mathlib.Core.Path.{◌≡◌, refl, sym}
use mathlib.Core.Logic.{by_cases}
use mathlib.Core.Bool.{Bool, true, false, cond, ◌||◌}
use native.Mathlib.Omega.{arith}
use native.Mathlib.Decide.{dec_lt}
use lib.Dec.{eqb}
use borrow.Author.Tests.{ne_eqb, lt-leb}
use Rattle.text.specs.Bytes.{Bytes, bytes, between, among, same}
use Rattle.text.proofs.Tables.{tab, tab_at}
use Rattle.text.proofs.Bools.{or_assoc, or_false, and_false, eqb_swap}
use Rattle.levels.specs.Profile.{LevelProfile, six_codes, code_among, code_of, nonconformance, storage_reply, may_stand_alone, may_be_marked, may_hang}
use Rattle.levels.specs.internal.Codes.{number_or_0, numbered}

-- every code's number is small
cond_below : (b : Bool) (m n k : ℕ) → m < k → n < k → cond b m n < k
cond_below true m n k l h = l
cond_below false m n k l h = h

small_codes : (text : Bytes) → code_among six_codes text < 7
small_codes text =
    let six = cond_below (same (bytes "RB") text) 6 0 7 (omega arith) (omega arith) in
    let five = cond_below (same (bytes "SN") text) 5 _ 7 (omega arith) six in
    let four = cond_below (same (bytes "PC") text) 4 _ 7 (omega arith) five in
    let three = cond_below (same (bytes "F") text) 3 _ 7 (omega arith) four in
    let two = cond_below (same (bytes "I") text) 2 _ 7 (omega arith) three in
    cond_below (same (bytes "RP") text) 1 _ 7 (omega arith) two

code_below : (profile : LevelProfile) (text : Bytes) → code_of profile text < 7
unfolding code_of
code_below profile text =
    cond_below (among profile.codes (code_among six_codes text)) (code_among six_codes text) 0 7 (small_codes text) (omega arith)

pub code_small : (profile : LevelProfile) (text : Bytes) → code_of profile text < 8
code_small profile text = omega (arith, code_below profile text)

-- a small number is that of the code that it tells
numbers_back : (n : ℕ) → n < 7 → n ≡ number_or_0 (numbered n)
numbers_back zero l = refl
numbers_back (suc zero) l = refl
numbers_back (suc (suc zero)) l = refl
numbers_back (suc (suc (suc zero))) l = refl
numbers_back (suc (suc (suc (suc zero)))) l = refl
numbers_back (suc (suc (suc (suc (suc zero))))) l = refl
numbers_back (suc (suc (suc (suc (suc (suc zero)))))) l = refl
numbers_back (suc (suc (suc (suc (suc (suc (suc n))))))) l = absurd (omega arith)

-- and so is every code's
pub number_again : (profile : LevelProfile) (text : Bytes) → number_or_0 (numbered (code_of profile text)) ≡ code_of profile text
number_again profile text = sym (numbers_back (code_of profile text) (code_below profile text))

-- the codes that each profile knows
checked_codes : tab 6 (between 1 5) ≡ tab 6 (among nonconformance.codes)
unfolding tab
checked_codes = refl

pub report_knows : (c : ℕ) → between 1 5 c ≡ among nonconformance.codes c
report_knows c =
    by_cases (dec_lt c 6) (tab_at 6 (between 1 5) (among nonconformance.codes) checked_codes c)
    (λ n. simp (and_false, lt-leb c 5 (omega arith), ne_eqb c 1 (λ e. omega arith), ne_eqb c 2 (λ e. omega arith), ne_eqb c 3 (λ e. omega arith), ne_eqb c 4 (λ e. omega arith), ne_eqb c 5 (λ e. omega arith)))

pub reply_knows : (c : ℕ) → (eqb c 2 || eqb c 6) || eqb c 1 ≡ among storage_reply.codes c
reply_knows c = simp (or_assoc, or_false)

-- what may hang under a report, an item and a component, and that nothing hangs under others
pub under_report : (parent child : ℕ) → parent ≡ 1 → eqb child 2 ≡ may_hang nonconformance parent child
unfolding may_hang
under_report parent child e = rw (e, or_false (eqb 2 child)) (eqb_swap child 2)

pub under_item : (parent child : ℕ) → parent ≡ 2 → (eqb child 3 || eqb child 4) || eqb child 5 ≡ may_hang nonconformance parent child
unfolding may_hang
under_item parent child e = rw (e, eqb_swap child 3, eqb_swap child 4, eqb_swap child 5) (regrouped (eqb 3 child) (eqb 4 child) (eqb 5 child))
  where
    regrouped : (a b c : Bool) → (a || b) || c ≡ a || (b || (c || false))
    regrouped true b c = refl
    regrouped false true c = refl
    regrouped false false c = sym (or_false c)

pub under_component : (parent child : ℕ) → parent ≡ 3 → eqb child 4 || eqb child 5 ≡ may_hang nonconformance parent child
unfolding may_hang
under_component parent child e = rw (e, or_false (eqb 5 child), eqb_swap child 4, eqb_swap child 5)

pub under_others : (parent child : ℕ) → (parent ≡ 1 → ⊥) → (parent ≡ 2 → ⊥) → (parent ≡ 3 → ⊥) → false ≡ may_hang nonconformance parent child
unfolding may_hang
under_others parent child one two three =
    simp (ne_eqb 1 parent (λ e. one (sym e)), ne_eqb 2 parent (λ e. two (sym e)), ne_eqb 3 parent (λ e. three (sym e)))

-- in a report RP and I stand without a parent, and they and F may be marked 1; in a reply all stand without one, and none is marked
pub stands_alone : (c : ℕ) → eqb c 1 || eqb c 2 ≡ may_stand_alone nonconformance c
unfolding may_stand_alone
stands_alone c = rw (or_false (eqb c 2))

pub all_stand_alone : (c : ℕ) → (eqb c 2 || eqb c 6) || eqb c 1 ≡ may_stand_alone storage_reply c
unfolding may_stand_alone
all_stand_alone c = reply_knows c

pub is_marked : (c : ℕ) → (eqb c 1 || eqb c 2) || eqb c 3 ≡ may_be_marked nonconformance c
unfolding may_be_marked
is_marked c = rw (or_false (eqb c 3)) (or_assoc (eqb c 1) (eqb c 2) (eqb c 3))

pub none_marked : (c : ℕ) → false ≡ may_be_marked storage_reply c
unfolding may_be_marked
none_marked c = refl

pub none_hangs : (parent child : ℕ) → false ≡ may_hang storage_reply parent child
unfolding may_hang
none_hangs parent child = refl

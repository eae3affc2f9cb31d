-- The tests of an HL after those before it say of its level what the rules of levels say of it.
-- Assumes nothing.
use Prim.Native.Nat.{ℕ, suc, ◌-◌, ◌≤◌, ◌<◌}
use mathlib.Core.Path.{◌≡◌, refl, sym, ap, ◌∙◌}
use mathlib.Core.Logic.{◌⊎◌, inl, inr}
use mathlib.Core.Bool.{Bool, not, ◌&&◌, ◌||◌}
use mathlib.Core.List.{List, [], ◌∷◌}
use native.Mathlib.Omega.{arith}
use lib.Dec.{T, T_not, not_T, eqb, eqb→eq}
use lib.ListN.{length}
use Rattle.text.specs.Bytes.{Bytes, bytes, same}
use Rattle.text.proofs.Bools.{first_of, second_of, or_cases, equal_eqb, cond_cases}
use Rattle.text.proofs.Sames.{same_equal, equal_same, none_nil}
use Rattle.elements.specs.Checks.{Keeps}
use Rattle.levels.specs.Profile.{LevelProfile, code_of, may_stand_alone, may_be_marked, may_hang}
use Rattle.levels.specs.Levels.{Claim, Level, called, level_at, parent_of, level_of, levels_of}
use Rattle.levels.specs.Rules.{absent, level_checks}
use Rattle.gate.specs.Meets.{hl_at, Under}
use Rattle.levels.proofs.CalledLevel.{levels_length}
use Rattle.levels.proofs.LevelTests.{Passes, keeps_passes, passes_keeps}

-- the claims ks, latest first, are the first HL segments of cs
abbrev pub Tells : List Claim → List (ℕ × Claim) → Type 0
Tells cs [] = Unit {0}
Tells cs (k ∷ ks) = (k.1 ≡ hl_at cs (length ks)) × Tells cs ks

-- the first n HL01 differ
abbrev pub Distinct : List Claim → ℕ → Type 0
Distinct cs n = (i j : ℕ) → i < j → j < n → (hl_at cs i).id ≡ (hl_at cs j).id → ⊥

-- a mark that a level may have
abbrev pub MarkFits : LevelProfile → Claim → Type 0
MarkFits profile c = (c.mark ≡ []) ⊎ ((c.mark ≡ bytes "0") ⊎ ((c.mark ≡ bytes "1") × T (may_be_marked profile (code_of profile c.code))))

-- level j keeps the rules of "Levels", the filling of marks aside
pub record Stands (profile : LevelProfile) (cs : List Claim) (j : ℕ) : Type 0 where
  pub new : (i : ℕ) → i < j → (hl_at cs i).id ≡ (hl_at cs j).id → ⊥
  pub coded : code_of profile (hl_at cs j).code ≡ 0 → ⊥
  pub alone : (hl_at cs j).parent ≡ [] → T (may_stand_alone profile (code_of profile (hl_at cs j).code))
  pub parented : ((hl_at cs j).parent ≡ [] → ⊥) → (i : ℕ) × Under profile cs i j
  pub marked : MarkFits profile (hl_at cs j)

-- a level has its claim's code and mark
abbrev Made : LevelProfile → Claim → Level → Type 0
Made profile c l = (l.code ≡ code_of profile c.code) × (l.mark ≡ c.mark)

-- among HL01 that differ two that are equal stand at one place
pub one_place : (cs : List Claim) (n i j : ℕ) → Distinct cs n → i < n → j < n → (hl_at cs i).id ≡ (hl_at cs j).id → i ≡ j
one_place cs n i j d a b e =
    let f : i < j → ⊥ = λ l. d i j l b e in
    let g : j < i → ⊥ = λ l. d j i l a (sym e) in
    omega (arith, f, g)

-- an HL02 that is present names its parent by `called`
present_called : (c : Claim) (ls : List Level) → (c.parent ≡ [] → ⊥) → parent_of c ls ≡ called c.parent ls
present_called c ls p =
    cond_cases (λ n. n ≡ called c.parent ls) (absent c.parent) 0 (called c.parent ls)
    (λ a. absurd (p (none_nil c.parent a)))
    (λ n. refl)

-- and one that names somebody is present
parent_called : (c : Claim) (ls : List Level) (n : ℕ) → parent_of c ls ≡ suc n → (c.parent ≡ [] → ⊥) × (called c.parent ls ≡ suc n)
parent_called c ls n =
    cond_cases (λ m. m ≡ suc n → (c.parent ≡ [] → ⊥) × (called c.parent ls ≡ suc n)) (absent c.parent) 0 (called c.parent ls)
    (λ a e. absurd (omega arith))
    (λ a e. ((λ p. a (rw p tt)), e))

-- what the test of a mark says; b is whether the code may be marked
mark_says : (m : Bytes) (b : Bool) → T (absent m || same m (bytes "0") || (same m (bytes "1") && b))
    → (m ≡ []) ⊎ ((m ≡ bytes "0") ⊎ ((m ≡ bytes "1") × T b))
mark_says m b =
    or_cases (absent m || same m (bytes "0")) (same m (bytes "1") && b)
    (or_cases (absent m) (same m (bytes "0")) (λ t. inl (none_nil m t)) (λ t. inr (inl (same_equal m (bytes "0") t))))
    (λ t. inr (inr (same_equal m (bytes "1") (first_of (same m (bytes "1")) b t), second_of (same m (bytes "1")) b t)))

-- and back
says_mark : (m : Bytes) (b : Bool) → (m ≡ []) ⊎ ((m ≡ bytes "0") ⊎ ((m ≡ bytes "1") × T b))
    → T (absent m || same m (bytes "0") || (same m (bytes "1") && b))
says_mark m b (inl e) = rw e tt
says_mark m b (inr (inl e)) = rw e tt
says_mark m b (inr (inr (e, t))) = rw e t

module _ (profile : LevelProfile) (cs : List Claim) where
  -- the levels that HL segments make
  abbrev levels : List (ℕ × Claim) → List Level
  levels ks = levels_of profile ks

  -- level number i + 1 is made by HL number i
  level_made : (ks : List (ℕ × Claim)) → Tells cs ks → (i : ℕ) → i < length ks → Made profile (hl_at cs i) (level_at (suc i) (levels ks))
  level_made [] t i h = absurd (omega arith)
  level_made (k ∷ ks) t i h =
      let long = levels_length profile ks in
      cond_cases (Made profile (hl_at cs i)) (eqb (suc i) (suc (length (levels ks)))) (level_of profile k.0 k.1 (levels ks)) (level_at (suc i) (levels ks))
      (λ e.
      let here : length ks ≡ i = omega (arith, eqb→eq (suc i) (suc (length (levels ks))) e) in
      let is : k.1 ≡ hl_at cs i = t.0 ∙ ap (hl_at cs) here in
      (ap (λ (c : Claim). code_of profile c.code) is, ap (λ (c : Claim). c.mark) is))
      (λ n.
      let other : suc i ≡ suc (length (levels ks)) → ⊥ = λ e. n (equal_eqb (suc i) (suc (length (levels ks))) e) in
      level_made ks t.1 i (omega (arith, other)))

  -- the level that a text calls is an HL before with that HL01
  called_named : (ks : List (ℕ × Claim)) → Tells cs ks → (id : Bytes) (n : ℕ) → called id (levels ks) ≡ suc n → (n < length ks) × ((hl_at cs n).id ≡ id)
  called_named [] t id n e = absurd (omega arith)
  called_named (k ∷ ks) t id n e =
      let long = levels_length profile ks in
      cond_cases (λ m. m ≡ suc n → (n < suc (length ks)) × ((hl_at cs n).id ≡ id)) (same k.1.id id) (suc (length (levels ks))) (called id (levels ks))
      (λ s q.
      let here : n ≡ length ks = omega arith in
      (omega arith, ap (λ (j : ℕ). (hl_at cs j).id) here ∙ sym (ap (λ (c : Claim). c.id) t.0) ∙ same_equal k.1.id id s))
      (λ s q. let i = called_named ks t.1 id n q in (omega (arith, i.0), i.1))
      e

  -- an HL01 of an HL before calls some level
  named_called : (ks : List (ℕ × Claim)) → Tells cs ks → (id : Bytes) (i : ℕ) → i < length ks → (hl_at cs i).id ≡ id → 1 ≤ called id (levels ks)
  named_called [] t id i h e = absurd (omega arith)
  named_called (k ∷ ks) t id i h e =
      cond_cases (λ m. 1 ≤ m) (same k.1.id id) (suc (length (levels ks))) (called id (levels ks))
      (λ s. omega arith)
      (λ n.
      let other : i ≡ length ks → ⊥ = λ q. n (equal_same k.1.id id (ap (λ (c : Claim). c.id) t.0 ∙ ap (λ (j : ℕ). (hl_at cs j).id) (sym q) ∙ e)) in
      named_called ks t.1 id i (omega (arith, other)) e)

  -- where all HL01 differ that is its own level
  called_is : (ks : List (ℕ × Claim)) → Tells cs ks → Distinct cs (length ks) → (id : Bytes) (i : ℕ) → i < length ks → (hl_at cs i).id ≡ id → called id (levels ks) ≡ suc i
  called_is ks t d id i h e =
      let n = called id (levels ks) - 1 in
      let some : called id (levels ks) ≡ suc n = omega (arith, named_called ks t id i h e) in
      let q = called_named ks t id n some in
      let here : n ≡ i = one_place cs (length ks) n i d q.0 h (q.1 ∙ sym e) in
      omega arith

  -- a claim whose parent after ks is level number i + 1 names HL number i
  pub parent_named : (ks : List (ℕ × Claim)) → Tells cs ks → (c : Claim) (i : ℕ) → parent_of c (levels ks) ≡ suc i
      → (i < length ks) × ((c.parent ≡ [] → ⊥) × ((hl_at cs i).id ≡ c.parent))
  parent_named ks t c i e =
      let p = parent_called c (levels ks) i e in
      let q = called_named ks t c.parent i p.1 in
      (q.0, (p.0, q.1))

  -- and back, where all HL01 differ
  pub named_parent : (ks : List (ℕ × Claim)) → Tells cs ks → Distinct cs (length ks) → (c : Claim) (i : ℕ) → i < length ks → (c.parent ≡ [] → ⊥)
      → (hl_at cs i).id ≡ c.parent → parent_of c (levels ks) ≡ suc i
  named_parent ks t d c i h p e = present_called c (levels ks) p ∙ called_is ks t d c.parent i h e

  -- a text that is no HL01 before calls nobody
  unnamed_called : (ks : List (ℕ × Claim)) → Tells cs ks → (id : Bytes) → ((i : ℕ) → i < length ks → (hl_at cs i).id ≡ id → ⊥) → called id (levels ks) ≡ 0
  unnamed_called ks t id u =
      let n = called id (levels ks) - 1 in
      let f : called id (levels ks) ≡ suc n → ⊥ = λ e. let q = called_named ks t id n e in u n q.0 q.1 in
      omega (arith, f)

  -- HL number `length ks`, after those before it
  module _ (ks : List (ℕ × Claim)) (t : Tells cs ks) where
    -- what it says
    abbrev this : Claim
    this = hl_at cs (length ks)

    -- its code's number
    abbrev known : ℕ
    known = code_of profile this.code

    -- it names no parent
    abbrev orphan : Bool
    orphan = absent this.parent

    -- the number of the level that its HL02 calls
    abbrev asked : ℕ
    asked = called this.parent (levels ks)

    -- its parent's level
    abbrev parent : Level
    parent = level_at (parent_of this (levels ks)) (levels ks)

    -- its parent is marked 0
    abbrev shut : Bool
    shut = same parent.mark (bytes "0")

    -- the tests of its parent say that it hangs under an HL before
    tests_under : (this.parent ≡ [] → ⊥) → Passes profile (levels ks) this → (i : ℕ) × Under profile cs i (length ks)
    tests_under present p =
        let n : T orphan → ⊥ = λ x. present (none_nil this.parent x) in
        let is : parent_of this (levels ks) ≡ suc (asked - 1) = present_called this (levels ks) present ∙ omega (arith, p.named n) in
        let by = parent_named ks t this (asked - 1) is in
        let made = level_made ks t (asked - 1) by.0 in
        let under : Under profile cs (asked - 1) (length ks) = record {
          earlier = by.0;
          named = by.1.1;
          pair = rw (is, made.0) at (p.pair n);
          open_to_children = λ e. T_not shut (p.unshut n) (equal_same parent.mark (bytes "0") (rw is (made.1 ∙ e)));
        } in
        (asked - 1, under)

    -- and back, where all HL01 before differ
    under_tests : Distinct cs (length ks) → (this.parent ≡ [] → ⊥) → (i : ℕ) → Under profile cs i (length ks)
        → T (may_hang profile parent.code known) × T (not shut)
    under_tests d p i u =
        let is : parent_of this (levels ks) ≡ suc i = named_parent ks t d this i u.earlier p u.named in
        let made = level_made ks t i u.earlier in
        let unshut = not_T shut (λ x. u.open_to_children (sym made.1 ∙ (rw is at (same_equal parent.mark (bytes "0") x)))) in
        (rw (is, made.0) u.pair, unshut)

    -- the tests of an HL say that its level stands
    pub keeps_stands : Keeps (level_checks profile (levels ks) this) → Stands profile cs (length ks)
    keeps_stands k =
        let p = keeps_passes profile (levels ks) this k in
        record {
          new = λ i h e. omega (arith, p.new, named_called ks t this.id i h e);
          coded = λ e. omega (arith, p.known, e);
          alone = λ e. p.alone (rw e tt);
          parented = λ present. tests_under present p;
          marked = mark_says this.mark (may_be_marked profile known) p.mark;
        }

    -- and a level that stands keeps them, where all HL01 before differ
    pub stands_keeps : Distinct cs (length ks) → Stands profile cs (length ks) → Keeps (level_checks profile (levels ks) this)
    stands_keeps d s =
        let under : (T orphan → ⊥) → (i : ℕ) × Under profile cs i (length ks) = λ n. s.parented (λ e. n (rw e tt)) in
        let fit : (T orphan → ⊥) → T (may_hang profile parent.code known) × T (not shut) = λ n. under_tests d (λ e. n (rw e tt)) (under n).0 (under n).1 in
        passes_keeps profile (levels ks) this (record {
          new = unnamed_called ks t this.id s.new;
          known = omega (arith, s.coded);
          alone = λ x. s.alone (none_nil this.parent x);
          named = λ n. named_called ks t this.parent (under n).0 (under n).1.earlier (under n).1.named;
          pair = λ n. (fit n).0;
          unshut = λ n. (fit n).1;
          mark = says_mark this.mark (may_be_marked profile known) s.marked;
        })

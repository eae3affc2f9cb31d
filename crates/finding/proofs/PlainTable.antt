-- A level table with the codes alone in its first records: its length, one record more, and what a child that is met changes.
-- Assumes nothing.
use Prim.Native.Nat.{ℕ, zero, suc, ◌+◌, ◌-◌, ◌*◌, ◌/◌, ◌%◌, ◌≤◌, ◌<◌}
use mathlib.Core.Path.{◌≡◌, refl, ap}
use mathlib.Core.Bool.{Bool, true, false, cond}
use mathlib.Core.List.{List, [], ◌∷◌}
use native.Mathlib.Omega.{arith}
use lib.Dec.{T, leb, leb→le}
use lib.ListN.{length, get_or, set, length-set}
use Rattle.text.specs.Bytes.{between}
use Rattle.text.proofs.Bools.{first_of, second_of}
use Rattle.levels.specs.Widths.{level_width}
use Rattle.finding.specs.internal.Entries.{level_entry, stored_at}
use Rattle.finding.specs.internal.Notes.{code_in, asks_numbered, asks_in, is_owing, answered, child_met, plain}

-- the table is as long
pub plain_long : (n : ℕ) (t : List ℕ) → length (plain n t) ≡ length t
plain_long zero t = refl
plain_long (suc n) [] = plain_long n []
plain_long (suc n) (w ∷ []) = ap suc (plain_long n [])
plain_long (suc n) (w ∷ (x ∷ [])) = ap (λ (k : ℕ). suc (suc k)) (plain_long n [])
plain_long (suc n) (w ∷ (x ∷ (y ∷ []))) = ap (λ (k : ℕ). suc (suc (suc k))) (plain_long n [])
plain_long (suc n) (w ∷ (x ∷ (y ∷ (z ∷ t)))) = ap (λ (k : ℕ). suc (suc (suc (suc k)))) (plain_long n t)

-- a table that has a record, taken apart
data Opened : List ℕ → Type 0 where
  opens : (w x y z : ℕ) (t : List ℕ) → Opened (w ∷ (x ∷ (y ∷ (z ∷ t))))

opened : (t : List ℕ) → level_width ≤ length t → Opened t
opened [] h = absurd (omega arith)
opened (w ∷ []) h = absurd (omega arith)
opened (w ∷ (x ∷ [])) h = absurd (omega arith)
opened (w ∷ (x ∷ (y ∷ []))) h = absurd (omega arith)
opened (w ∷ (x ∷ (y ∷ (z ∷ t)))) h = opens w x y z t

-- the places of one record more, and of its note
next_record : (n : ℕ) → suc n * level_width ≡ suc (suc (suc (suc (n * level_width))))
next_record n = omega arith

next_note : (n : ℕ) → suc n * level_width + 3 ≡ suc (suc (suc (suc (n * level_width + 3))))
next_note n = omega arith

next_end : (n : ℕ) → suc n * level_width + level_width ≡ suc (suc (suc (suc (n * level_width + level_width))))
next_end n = omega arith

-- one record more, stored behind the first n
stored_opened : (n : ℕ) {t : List ℕ} → Opened t → (a b c note : ℕ) → n < length t / level_width
    → plain (suc n) (stored_at level_width t n (a ∷ b ∷ c ∷ note ∷ [])) ≡ stored_at level_width (plain n t) n (a ∷ b ∷ c ∷ code_in note ∷ [])
stored_opened zero (opens w x y z t) a b c note h = refl
stored_opened (suc n) (opens w x y z t) a b c note h =
    rw (next_end n, next_record n)
    (ap (λ (r : List ℕ). w ∷ x ∷ y ∷ code_in z ∷ r) (stored_opened n (opened t (omega arith)) a b c note (omega arith)))

pub plain_stored : (n : ℕ) (t : List ℕ) (a b c note : ℕ) → n < length t / level_width
    → plain (suc n) (stored_at level_width t n (a ∷ b ∷ c ∷ note ∷ [])) ≡ stored_at level_width (plain n t) n (a ∷ b ∷ c ∷ code_in note ∷ [])
plain_stored n t a b c note h = stored_opened n (opened t (omega arith)) a b c note h

-- a note with the same code in one of the first n records leaves the codes
same_codes : (n k : ℕ) {t : List ℕ} → Opened t → (note : ℕ) → k < n → k < length t / level_width
    → code_in note ≡ code_in (get_or t (k * level_width + 3) 0) → plain n (set t (k * level_width + 3) note) ≡ plain n t
same_codes zero k o note l h e = absurd (omega arith)
same_codes (suc n) zero (opens w x y z t) note l h e = ap (λ (m : ℕ). w ∷ x ∷ y ∷ m ∷ plain n t) e
same_codes (suc n) (suc k) (opens w x y z t) note l h e =
    rw (next_note k)
    (ap (λ (r : List ℕ). w ∷ x ∷ y ∷ code_in z ∷ r) (same_codes n k (opened t (omega arith)) note (omega arith) (omega arith) (rw (next_note k) at e)))

-- a note that owes a child has the number 2 for it
owing_numbered : (n : ℕ) → is_owing (asks_numbered n) ≡ true → n ≡ 2
owing_numbered zero e = cc
owing_numbered (suc zero) e = cc
owing_numbered (suc (suc zero)) e = refl
owing_numbered (suc (suc (suc n))) e = cc

pub owing_two : (note : ℕ) → is_owing (asks_in note) ≡ true → note / 8 % 4 ≡ 2
owing_two note e = owing_numbered (note / 8 % 4) e

-- an answered note has the same code
pub answered_code : (note : ℕ) → code_in (answered note) ≡ code_in note
answered_code note = by_value (is_owing (asks_in note)) refl
  where
    by_value : (b : Bool) → is_owing (asks_in note) ≡ b → code_in (answered note) ≡ code_in note
    by_value true e = rw e (omega (arith, owing_two note e))
    by_value false e = rw e

-- a child that is met leaves the length and the codes
pub met_long : (t : List ℕ) (parent : ℕ) → length (child_met t parent) ≡ length t
met_long t parent = by_value (between 1 (length t / level_width) parent)
  where
    by_value : (b : Bool) → length (cond b (set t ((parent - 1) * level_width + 3) (answered (level_entry t parent 3))) t) ≡ length t
    by_value true = length-set t ((parent - 1) * level_width + 3) (answered (level_entry t parent 3))
    by_value false = refl

pub plain_met : (n : ℕ) (t : List ℕ) (parent : ℕ) → parent ≤ n → plain n (child_met t parent) ≡ plain n t
plain_met n t parent l = by_value (between 1 (length t / level_width) parent) refl
  where
    by_value : (b : Bool) → between 1 (length t / level_width) parent ≡ b → plain n (child_met t parent) ≡ plain n t
    by_value true e =
        let inside : T (between 1 (length t / level_width) parent) = rw e tt in
        let low : 1 ≤ parent = leb→le 1 parent (first_of (leb 1 parent) (leb parent (length t / level_width)) inside) in
        let high : parent ≤ length t / level_width = leb→le parent (length t / level_width) (second_of (leb 1 parent) (leb parent (length t / level_width)) inside) in
        let at = (parent - 1) * level_width + 3 in
        rw e (same_codes n (parent - 1) (opened t (omega arith)) (answered (get_or t at 0)) (omega arith) (omega arith) (answered_code (get_or t at 0)))
    by_value false e = rw e

-- one record more is cleared
more_opened : (n : ℕ) {t : List ℕ} → Opened t → n < length t / level_width
    → set (plain n t) (n * level_width + 3) (code_in (get_or (plain n t) (n * level_width + 3) 0)) ≡ plain (suc n) t
more_opened zero (opens w x y z t) h = refl
more_opened (suc n) (opens w x y z t) h =
    rw (next_note n) (ap (λ (r : List ℕ). w ∷ x ∷ y ∷ code_in z ∷ r) (more_opened n (opened t (omega arith)) (omega arith)))

pub plain_more : (n : ℕ) (t : List ℕ) → n < length t / level_width
    → set (plain n t) (n * level_width + 3) (code_in (get_or (plain n t) (n * level_width + 3) 0)) ≡ plain (suc n) t
plain_more n t h = more_opened n (opened t (omega arith)) h

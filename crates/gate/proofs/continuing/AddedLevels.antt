-- Levels that can be put behind others: a new name, a root, and a child for a level marked 1.
-- Assumes nothing.
use Prim.Native.Nat.{ℕ, suc, ◌≤◌, ◌<◌}
use mathlib.Core.Path.{◌≡◌, refl, sym, subst}
use mathlib.Core.Bool.{Bool, true, false, not, ◌||◌}
use mathlib.Core.List.{List, [], ◌∷◌, map}
use native.Mathlib.Omega.{arith}
use native.Mathlib.Decide.{dec_lt, ℕ_discrete}
use borrow.Author.Tests.{ne_eqb}
use lib.Dec.{T, eqb, eqb→eq, leb, le→leb}
use lib.ListN.{length, length-map}
use Rattle.text.specs.Bytes.{Bytes, bytes, every, any, same}
use Rattle.text.specs.Separators.{is_digit, is_capital, Fitted, is_id_byte}
use Rattle.text.specs.View.{View}
use Rattle.text.specs.declared.separators.Separators.{Separators}
use Rattle.text.proofs.Bools.{first_of, second_of, or_left, or_right, or_cases, not_passes}
use Rattle.text.proofs.Sames.{same_equal}
use Rattle.text.proofs.Everys.{every_weaker}
use Rattle.rows.specs.Tags.{tag_number}
use Rattle.types.specs.Types.{is_id}
use Rattle.elements.specs.Checks.{Keeps}
use Rattle.rows.specs.declared.profile.ProfileName.{ProfileName}
use Rattle.rows.specs.declared.profile.ProfileName.TheVariants.{Report, Reply}
use Rattle.levels.specs.Profile.{level_profile, code_of, may_stand_alone, may_be_marked, may_hang}
use Rattle.levels.specs.Levels.{claim_of, Level, called, level_at, level_of}
use Rattle.levels.specs.Rules.{level_checks}
use Rattle.gate.specs.Segments.{tag_in_of, is_hl, levels_in}
use Rattle.gate.proofs.continuing.FreshNames.{Differs, fresh}
use Rattle.gate.proofs.continuing.AddedSegments.{levels, Text, id_bytes_text, hl_view, FewOf, report_few}
use Rattle.gate.proofs.continuing.LevelNames.{levels_hl, levels_other, level_earlier, level_latest, served}

-- there are no more levels than segments
pub levels_few : (name : ProfileName) (h : List View) → length (levels name h) ≤ length h
unfolding levels_in
levels_few name [] = omega arith
levels_few name (v ∷ h) = go (is_hl v) refl (levels_few name h)
  where
    go : (b : Bool) → is_hl v ≡ b → length (levels name h) ≤ length h → length (levels name (v ∷ h)) ≤ suc (length h)
    go true e i = rw (levels_hl name h v e) (omega arith)
    go false e i = rw (levels_other name h v e) (omega arith)

-- a name that no level has
pub record Newcomer (q : Separators) (ls : List Level) : Type 0 where
  pub name : Bytes
  pub text : Text q 1 12 name
  pub new : called name ls ≡ 0

-- a name that differs from all calls nobody
differs_called : (name : Bytes) (ls : List Level) → Differs name (map (λ (l : Level). l.id) ls) → called name ls ≡ 0
differs_called name [] d = refl
differs_called name (l ∷ ls) d =
    let rest = every (λ (s : Bytes). not (same s name)) (map (λ (l : Level). l.id) ls) in
    rw (not_passes (same l.id name) (first_of (not (same l.id name)) rest d))
    (differs_called name ls (second_of (not (same l.id name)) rest d))

module _ (q : Separators) (fit : Fitted q) where
  -- digits are text
  pub digits_text : (least most n : ℕ) (s : Bytes) → T (every is_digit s) → length s ≡ n → least ≤ n → n ≤ most → Text q least most s
  digits_text least most n s d e l m =
      id_bytes_text q fit least most s (every_weaker is_digit is_id_byte (λ b. or_right (is_capital b) (is_digit b)) s d) (omega arith) (omega arith)

  -- there is one while there are fewer than 4 ^ 12 levels
  pub newcomer : (ls : List Level) → length ls < 16777216 → Newcomer q ls
  newcomer ls h =
      let f = fresh 12 (map (λ (l : Level). l.id) ls) (rw (length-map ls (λ (l : Level). l.id)) h) in
      record {
        name = f.name;
        text = digits_text 1 12 12 f.name f.digits f.long (omega arith) (omega arith);
        new = differs_called f.name ls f.differs;
      }

  -- a code that may hang under a code that may be marked 1, in an HL with a parent
  pub record ChildCode (profile : ProfileName) (c : ℕ) : Type 0 where
    pub text : Bytes
    pub sized : Text q 1 2 text
    pub spelled : T (is_id text)
    pub few : (id parent : Bytes) → FewOf profile id parent text
    pub known : T (leb 1 (code_of (level_profile profile) text))
    pub hangs : T (may_hang (level_profile profile) c (code_of (level_profile profile) text))

  abbrev capitals : (text : Bytes) → T (every is_id_byte text) → 1 ≤ length text → length text ≤ 2 → Text q 1 2 text
  capitals text = id_bytes_text q fit 1 2 text

  -- I under RP
  code_under_rp : ChildCode Report 1
  unfolding code_of may_hang
  code_under_rp = record {
    text = bytes "I";
    sized = capitals (bytes "I") tt (omega arith) (omega arith);
    spelled = tt;
    few = λ id parent. report_few id parent (bytes "I");
    known = tt;
    hangs = tt;
  }

  -- F under I
  code_under_i : ChildCode Report 2
  unfolding code_of may_hang
  code_under_i = record {
    text = bytes "F";
    sized = capitals (bytes "F") tt (omega arith) (omega arith);
    spelled = tt;
    few = λ id parent. report_few id parent (bytes "F");
    known = tt;
    hangs = tt;
  }

  -- PC under F
  code_under_f : ChildCode Report 3
  unfolding code_of may_hang
  code_under_f = record {
    text = bytes "PC";
    sized = capitals (bytes "PC") tt (omega arith) (omega arith);
    spelled = tt;
    few = λ id parent. report_few id parent (bytes "PC");
    known = tt;
    hangs = tt;
  }

  -- every code that may be marked 1 has one; in a reply none may
  pub child_code : (profile : ProfileName) (c : ℕ) → T (may_be_marked (level_profile profile) c) → ChildCode profile c
  unfolding may_be_marked
  child_code Report c m =
      or_cases (eqb c 1) (eqb c 2 || (eqb c 3 || false)) (λ t. under c 1 t code_under_rp)
      (or_cases (eqb c 2) (eqb c 3 || false) (λ t. under c 2 t code_under_i)
      (or_cases (eqb c 3) false (λ t. under c 3 t code_under_f) (λ t. absurd t)))
      m
    where
      under : (c d : ℕ) → T (eqb c d) → ChildCode Report d → ChildCode Report c
      under c d t x = subst (ChildCode Report) (sym (eqb→eq c d t)) x
  child_code Reply c m = absurd m

-- an RP without a parent keeps the rules of levels
pub root_checks_lem : (name : ProfileName) (ls : List Level) (id : Bytes) → called id ls ≡ 0
    → Keeps (level_checks (level_profile name) ls (claim_of (hl_view id [] (bytes "RP"))))
unfolding code_of may_stand_alone
root_checks_lem Report ls id new = (rw new tt, (tt, (tt, (tt, tt))))
root_checks_lem Reply ls id new = (rw new tt, (tt, (tt, (tt, tt))))

-- and so does an HL under level m, which is marked 1
pub child_checks_lem : (name : ProfileName) (ls : List Level) (m : ℕ) (id parent code : Bytes) → 1 ≤ m → called id ls ≡ 0 → called parent ls ≡ m → 1 ≤ length parent
    → T (leb 1 (code_of (level_profile name) code)) → T (may_hang (level_profile name) (level_at m ls).code (code_of (level_profile name) code))
    → T (same (level_at m ls).mark (bytes "1")) → Keeps (level_checks (level_profile name) ls (claim_of (hl_view id parent code)))
child_checks_lem name ls m id parent code l new found some known hangs marked =
    let there : eqb (length parent) 0 ≡ false = ne_eqb (length parent) 0 (λ z. omega arith) in
    let one : (level_at m ls).mark ≡ bytes "1" = same_equal (level_at m ls).mark (bytes "1") marked in
    (rw new tt, (rw (there, found) (le→leb 1 m l), rw (there, found, one) (known, (hangs, (tt, (tt, tt))))))

-- the levels above number n are served: each that is marked 1 has a child
abbrev pub ServedAbove : ℕ → List Level → Type 0
ServedAbove n ls = (m : ℕ) → n < m → m ≤ length ls → T (served ls m (level_at m ls))

-- those above n are, where level n + 1 is served too
pub above_served : (n : ℕ) (ls : List Level) → T (served ls (suc n) (level_at (suc n) ls)) → ServedAbove (suc n) ls → ServedAbove n ls
above_served n ls t above m l h = go (ℕ_discrete m (suc n))
  where
    go : Dec (m ≡ suc n) → T (served ls m (level_at m ls))
    go (yes e) = rw e t
    go (no e) = above m (omega arith) h

-- and stay so with one level more that is not marked
pub above_more : (n : ℕ) (l : Level) (ls : List Level) → l.mark ≡ [] → ServedAbove n ls → ServedAbove n (l ∷ ls)
above_more n l ls e above m a b = go (dec_lt m (suc (length ls)))
  where
    go : Dec (m < suc (length ls)) → T (served (l ∷ ls) m (level_at m (l ∷ ls)))
    go (yes h) =
        let unmarked = not (same (level_at m ls).mark (bytes "1")) in
        let child = any (λ (child : Level). eqb child.parent m) ls in
        rw (level_earlier m l ls (omega arith))
        (or_cases unmarked child (or_left unmarked (eqb l.parent m || child))
        (λ t. or_right unmarked (eqb l.parent m || child) (or_right (eqb l.parent m) child t))
        (above m a (omega arith)))
    go (no h) =
        let i : m ≡ suc (length ls) = omega arith in
        subst (λ (k : ℕ). T (served (l ∷ ls) k (level_at k (l ∷ ls)))) (sym i)
        (subst (λ (x : Level). T (served (l ∷ ls) (suc (length ls)) x)) (sym (level_latest l ls)) (rw e tt))

-- it is an HL
pub hl_is : (id parent code : Bytes) → is_hl (hl_view id parent code) ≡ true
unfolding tag_in_of tag_number
hl_is id parent code = refl

-- the level that an HL without a mark makes
abbrev pub new_level : ProfileName → List View → Bytes → Bytes → Bytes → Level
new_level name h id parent code = level_of (level_profile name) (suc (length h)) (claim_of (hl_view id parent code)) (levels name h)

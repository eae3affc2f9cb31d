-- The rules of levels, tested at each HL after those before it and at SE, are those said at once over all HL segments.
-- Assumes nothing.
use Prim.Native.Nat.{ℕ, suc, ◌+◌, ◌<◌}
use mathlib.Core.Path.{◌≡◌, sym, ap, ◌∙◌}
use mathlib.Core.Logic.{by_cases}
use mathlib.Core.Bool.{Bool, true, false, not, cond, ◌||◌}
use mathlib.Core.List.{List, [], ◌∷◌}
use native.Mathlib.Omega.{arith}
use native.Mathlib.Decide.{dec_lt}
use lib.Dec.{T, eqb, eqb→eq}
use lib.ListN.{length}
use Rattle.text.specs.Bytes.{bytes, any, same}
use Rattle.text.specs.View.{View}
use Rattle.text.proofs.Bools.{both, first_of, second_of, or_left, or_right, or_cases, equal_eqb, not_or, or_not}
use Rattle.text.proofs.Sames.{same_equal, equal_same}
use Rattle.elements.specs.Checks.{Keeps}
use Rattle.levels.specs.Profile.{LevelProfile}
use Rattle.levels.specs.Levels.{Claim, claim_of, Level, parent_of, levels_of}
use Rattle.levels.specs.Rules.{level_checks, filled_from, filled}
use Rattle.levels.proofs.Depth.{AllKept}
use Rattle.gate.specs.Profile.{Profile}
use Rattle.gate.specs.Segments.{is_hl, onto, add_claim, claims, levels_in}
use Rattle.gate.specs.Rules.{hl_checks, From}
use Rattle.gate.specs.Meets.{put_if, hls, hl_at, LevelsMeet}
use Rattle.gate.proofs.whole.OneLevel.{Tells, Distinct, Stands, one_place, parent_named, named_parent, keeps_stands, stands_keeps}
use Rattle.levels.proofs.CalledLevel.{levels_length}

-- level j is a child of level i
abbrev Child : List Claim → ℕ → ℕ → Type 0
Child cs i j = ((hl_at cs j).parent ≡ [] → ⊥) × ((hl_at cs i).id ≡ (hl_at cs j).parent)

module _ (profile : LevelProfile) (cs : List Claim) where
  -- the levels that HL segments make
  abbrev levels : List (ℕ × Claim) → List Level
  levels ks = levels_of profile ks

  -- where each HL keeps its tests after those before it each level stands
  kept_stand : (ks : List (ℕ × Claim)) → Tells cs ks → AllKept profile ks → (j : ℕ) → j < length ks → Stands profile cs j
  kept_stand [] t a j h = absurd (omega arith)
  kept_stand (k ∷ ks) t a j h =
      by_cases (dec_lt j (length ks)) (λ l. kept_stand ks t.1 a.1 j l)
      (λ n.
      let here : length ks ≡ j = omega arith in
      rw here at (keeps_stands profile cs ks t.1 (rw t.0 at a.0)))

  -- and back
  stand_kept : (ks : List (ℕ × Claim)) → Tells cs ks → ((j : ℕ) → j < length ks → Stands profile cs j) → AllKept profile ks
  stand_kept [] t s = tt
  stand_kept (k ∷ ks) t s =
      let before : (j : ℕ) → j < length ks → Stands profile cs j = λ j h. s j (omega arith) in
      (rw t.0 (stands_keeps profile cs ks t.1 (λ i j l h. (before j h).new i l) (s (length ks) (omega arith))), stand_kept ks t.1 before)

  -- the parent of level l is level number i + 1
  abbrev under_it : ℕ → Level → Bool
  under_it i l = eqb l.parent (suc i)

  -- where there is such a level HL number i has a child
  any_child : (ks : List (ℕ × Claim)) → Tells cs ks → (i : ℕ) → T (any (under_it i) (levels ks)) → (j : ℕ) × ((j < length ks) × Child cs i j)
  any_child [] t i a = absurd a
  any_child (k ∷ ks) t i a =
      or_cases (eqb (parent_of k.1 (levels ks)) (suc i)) (any (under_it i) (levels ks))
      (λ e.
      let p = parent_named profile cs ks t.1 k.1 i (eqb→eq (parent_of k.1 (levels ks)) (suc i) e) in
      (length ks, (omega arith, rw t.0 at p.1)))
      (λ m. let c = any_child ks t.1 i m in (c.0, (omega (arith, c.1.0), c.1.1)))
      a

  -- and back, where all HL01 differ and the child comes later
  child_any : (ks : List (ℕ × Claim)) → Tells cs ks → Distinct cs (length ks) → (i j : ℕ) → i < j → j < length ks → Child cs i j → T (any (under_it i) (levels ks))
  child_any [] t d i j l h c = absurd (omega arith)
  child_any (k ∷ ks) t d i j l h c =
      let before : Distinct cs (length ks) = λ a b m n. d a b m (omega arith) in
      let one = eqb (parent_of k.1 (levels ks)) (suc i) in
      let more = any (under_it i) (levels ks) in
      by_cases (dec_lt j (length ks)) (λ m. or_right one more (child_any ks t.1 before i j l m c))
      (λ n.
      let here : j ≡ length ks = omega arith in
      let c' : Child cs i (length ks) = rw here at c in
      let is : parent_of (hl_at cs (length ks)) (levels ks) ≡ suc i = named_parent profile cs ks t.1 before (hl_at cs (length ks)) i (omega arith) c'.0 c'.1 in
      or_left one more (equal_eqb (parent_of k.1 (levels ks)) (suc i) (rw t.0 is)))

  -- the test of marks says that each level marked 1 is the parent of some of `all`
  filled_marks : (all : List Level) (ks : List (ℕ × Claim)) → Tells cs ks → T (filled_from all (levels ks)) → (i : ℕ) → i < length ks
      → (hl_at cs i).mark ≡ bytes "1" → T (any (under_it i) all)
  filled_marks all [] t f i h m = absurd (omega arith)
  filled_marks all (k ∷ ks) t f i h m =
      let long = levels_length profile ks in
      let marked = same k.1.mark (bytes "1") in
      let child = any (under_it (length (levels ks))) all in
      by_cases (dec_lt i (length ks)) (λ l. filled_marks all ks t.1 (second_of (not marked || child) (filled_from all (levels ks)) f) i l m)
      (λ n.
      let here : length ks ≡ i = omega arith in
      let is : k.1 ≡ hl_at cs i = t.0 ∙ ap (hl_at cs) here in
      let c = not_or marked child (first_of (not marked || child) (filled_from all (levels ks)) f) (equal_same k.1.mark (bytes "1") (ap (λ (c : Claim). c.mark) is ∙ m)) in
      rw (long, here) at c)

  -- and back
  marks_filled : (all : List Level) (ks : List (ℕ × Claim)) → Tells cs ks
      → ((i : ℕ) → i < length ks → (hl_at cs i).mark ≡ bytes "1" → T (any (under_it i) all)) → T (filled_from all (levels ks))
  marks_filled all [] t g = tt
  marks_filled all (k ∷ ks) t g =
      let marked = same k.1.mark (bytes "1") in
      let child = any (under_it (length (levels ks))) all in
      both (not marked || child) (filled_from all (levels ks))
      (or_not marked child (λ s.
      rw (levels_length profile ks)
      (g (length ks) (omega arith) (sym (ap (λ (c : Claim). c.mark) t.0) ∙ same_equal k.1.mark (bytes "1") s))))
      (marks_filled all ks t.1 (λ i h. g i (omega arith)))

  -- the rules over all say that each level stands
  meet_stand : LevelsMeet profile cs → (j : ℕ) → j < length cs → Stands profile cs j
  meet_stand m j h = record {
    new = λ i l. m.distinct i j l h;
    coded = m.coded j h;
    alone = m.alone j h;
    parented = m.parented j h;
    marked = m.marked j h;
  }

  -- and that a child comes later than its parent
  later_child : LevelsMeet profile cs → (i j : ℕ) → i < length cs → j < length cs → Child cs i j → i < j
  later_child m i j a b c =
      let u = m.parented j b c.0 in
      let l = u.1.earlier in
      let here : u.0 ≡ i = one_place cs (length cs) u.0 i m.distinct (omega arith) a (u.1.named ∙ sym c.1) in
      omega arith

  -- all HL segments, latest first
  module _ (ks : List (ℕ × Claim)) (t : Tells cs ks) (long : length ks ≡ length cs) where
    -- where each keeps its tests after those before it, and the marks are filled, they meet the rules over all
    pub levels_meet : AllKept profile ks → T (filled (levels ks)) → LevelsMeet profile cs
    unfolding filled
    levels_meet a f =
        let stand : (j : ℕ) → j < length cs → Stands profile cs j = λ j h. kept_stand ks t a j (omega arith) in
        record {
          distinct = λ i j l h. (stand j h).new i l;
          coded = λ j h. (stand j h).coded;
          alone = λ j h. (stand j h).alone;
          parented = λ j h. (stand j h).parented;
          marked = λ j h. (stand j h).marked;
          filled = λ i h m.
              let c = any_child ks t i (filled_marks (levels ks) ks t f i (omega arith) m) in
              (c.0, omega (arith, c.1.0), c.1.1.0, c.1.1.1);
        }

    -- and back
    pub meet_kept : LevelsMeet profile cs → AllKept profile ks
    meet_kept m = stand_kept ks t (λ j h. meet_stand m j (omega arith))

    -- and the marks are filled
    pub meet_filled : LevelsMeet profile cs → T (filled (levels ks))
    unfolding filled
    meet_filled m =
        marks_filled (levels ks) ks t (λ i h e.
        let c = m.filled i (omega arith) e in
        let later = later_child m i c.0 (omega arith) c.1 (c.2, c.3) in
        child_any ks t (rw long m.distinct) i c.0 later (omega (arith, c.1)) (c.2, c.3))

-- the HL segments cs are ks, latest first, and then those of rest
pub record Divided (cs : List Claim) (ks : List (ℕ × Claim)) (rest : List Claim) : Type 0 where
  pub tells : Tells cs ks
  pub goes : (i : ℕ) → i < length rest → hl_at cs (length ks + i) ≡ hl_at rest i
  pub count : length ks + length rest ≡ length cs

-- one segment goes over from rest to ks, if it is an HL
divided_next : (cs : List Claim) (ks : List (ℕ × Claim)) (rest : List Claim) (b : Bool) (n : ℕ) (v : View) → Divided cs ks (put_if b (claim_of v) rest)
    → Divided cs (add_claim b n v ks) rest
divided_next cs ks rest false n v d = d
divided_next cs ks rest true n v d =
    let here : length ks + 0 ≡ length ks = omega arith in
    record {
      tells = (sym (rw here at (d.goes 0 (omega arith))), d.tells);
      goes = λ i h. let here : suc (length ks) + i ≡ length ks + suc i = omega arith in rw here (d.goes (suc i) (omega arith));
      count = omega (arith, d.count);
    }

-- and then all that come after
divided_onto : (cs : List Claim) (h vs : List View) → Divided cs (claims h) (hls vs) → Divided cs (claims (onto h vs)) []
divided_onto cs h [] d = d
divided_onto cs h (v ∷ vs) d = divided_onto cs (v ∷ h) vs (divided_next cs (claims h) (hls vs) (is_hl v) (suc (length h)) v d)

-- so the claims of all segments are all HL segments, latest first
pub divided : (vs : List View) → Divided (hls vs) (claims (onto [] vs)) []
divided vs = divided_onto (hls vs) [] vs (record { tells = tt; goes = λ i h. ap (hl_at (hls vs)) (omega arith); count = omega arith })

module _ (profile : Profile) where
  -- a segment keeps the tests of an HL after those before it, if it is one
  abbrev pub Leveled : List View → View → Type 0
  Leveled h v = Keeps (hl_checks profile h v)

  -- one segment more
  kept_next : (b : Bool) (n : ℕ) (v : View) (ks : List (ℕ × Claim)) → AllKept profile.levels ks
      → Keeps (cond b (level_checks profile.levels (levels_of profile.levels ks) (claim_of v)) []) → AllKept profile.levels (add_claim b n v ks)
  kept_next true n v ks a k = (k, a)
  kept_next false n v ks a k = a

  -- and back
  next_kept : (b : Bool) (n : ℕ) (v : View) (ks : List (ℕ × Claim)) → AllKept profile.levels (add_claim b n v ks)
      → AllKept profile.levels ks × Keeps (cond b (level_checks profile.levels (levels_of profile.levels ks) (claim_of v)) [])
  next_kept true n v ks a = (a.1, a.0)
  next_kept false n v ks a = (a, tt)

  -- where each segment keeps them each HL does
  pub from_kept : (h vs : List View) → AllKept profile.levels (claims h) → From Leveled h vs → AllKept profile.levels (claims (onto h vs))
  unfolding hl_checks levels_in
  from_kept h [] a f = a
  from_kept h (v ∷ vs) a f = from_kept (v ∷ h) vs (kept_next (is_hl v) (suc (length h)) v (claims h) a f.0) f.1

  -- and back
  pub kept_from : (h vs : List View) → AllKept profile.levels (claims (onto h vs)) → AllKept profile.levels (claims h) × From Leveled h vs
  unfolding hl_checks levels_in
  kept_from h [] a = (a, tt)
  kept_from h (v ∷ vs) a =
      let i = kept_from (v ∷ h) vs a in
      let j = next_kept (is_hl v) (suc (length h)) v (claims h) i.0 in
      (j.0, (j.1, i.1))

-- The level table that a reading leaves is fit, so a walk over what an acceptance counts is never refused with 20. By its records, level after level: a
-- level's parent is found among those before it, and its depth is one more than that level's.
-- Assumes nothing.
use Prim.Native.Nat.{ℕ, suc, ◌+◌, ◌-◌, ◌*◌, ◌<◌, ◌≤◌}
use mathlib.Core.Path.{◌≡◌, refl, sym, ap, subst, ◌∙◌}
use mathlib.Core.Logic.{inl, inr, by_cases}
use mathlib.Core.List.{List, [], ◌∷◌, ◌++◌, append_assoc}
use native.Mathlib.Omega.{arith}
use native.Mathlib.Decide.{dec_lt}
use lib.ListN.{length, drop, get_or, length-append}
use lib.Seq.{get_or-append-add}
use borrow.Author.Tests.{eq-eqb, ne_eqb}
use Rattle.std.specs.Prelude.{Ok, Err}
use Rattle.text.specs.Bytes.{Bytes}
use Rattle.text.specs.View.{View}
use Rattle.text.specs.Cut.{Placed}
use Rattle.rows.specs.declared.profile.ProfileName.{ProfileName}
use Rattle.levels.specs.Widths.{level_width}
use Rattle.levels.specs.Profile.{LevelProfile, level_profile}
use Rattle.levels.specs.Levels.{Claim, Level, level_at, level_of, levels_of, record_of, records_of}
use Rattle.levels.specs.internal.Everyone.{Everyone}
use Rattle.levels.proofs.CalledLevel.{parent_below, level_nobody}
use Rattle.levels.proofs.Depth.{Within4, depth_at_most_4}
use Rattle.gate.specs.Answers.{Answer, accepted}
use Rattle.gate.specs.Profile.{Profile, profile_named, profile_of}
use Rattle.gate.specs.Segments.{seen, onto, claims, levels_in}
use Rattle.gate.specs.Rules.{Kept, From}
use Rattle.gate.specs.Records.{Tables}
use Rattle.gate.specs.Reads.{Run, Read, Reads}
use Rattle.gate.specs.declared.how.How.{How}
use Rattle.gate.proofs.whole.AllLevels.{Leveled, from_kept}
use Rattle.gate.proofs.conditions.Accepting.{accepted_transaction}
use Rattle.gate.proofs.conditions.Conditions.{accepted_proper}
use Rattle.outline.specs.Outline.{parent_in, depth_in}
use Rattle.outline.specs.declared.answer.Reason.TheVariants.{UnfitTable}
use Rattle.outline.specs.Walks.{Walked, number_of, unlisted, Top, Hangs, Fit, FitTable, room_of, Walks}

-- four numbers a level
records_length : (ls : List Level) → length (records_of ls) ≡ level_width * length ls
records_length [] = refl
records_length (l ∷ ls) = length-append (records_of ls) (record_of l) ∙ omega (arith, records_length ls)

-- number m of the record of the latest level
own_number : (l : Level) (ls : List Level) (rest : List ℕ) (m : ℕ)
    → get_or (records_of (l ∷ ls) ++ rest) (level_width * (suc (length ls) - 1) + m) 0 ≡ get_or (record_of l ++ rest) m 0
own_number l ls rest m =
    let place : level_width * (suc (length ls) - 1) + m ≡ length (records_of ls) + m = omega (arith, records_length ls) in
    ap (λ (n : ℕ). get_or (records_of (l ∷ ls) ++ rest) n 0) place
    ∙ ap (λ (t : List ℕ). get_or t (length (records_of ls) + m) 0) (append_assoc (records_of ls) (record_of l) rest)
    ∙ get_or-append-add (records_of ls) (record_of l ++ rest) m 0

-- the depth in a level's record is the level's
depth_told : (ls : List Level) (rest : List ℕ) (k : ℕ) → 1 ≤ k → k ≤ length ls → depth_in (records_of ls ++ rest) k ≡ (level_at k ls).depth
depth_told [] rest k from upto = absurd (omega arith)
depth_told (l ∷ ls) rest k from upto =
    by_cases (dec_lt k (suc (length ls)))
    (λ h.
    ap (λ (t : List ℕ). depth_in t k) (append_assoc (records_of ls) (record_of l) rest) ∙ depth_told ls (record_of l ++ rest) k from (omega arith)
    ∙ rw (ne_eqb k (suc (length ls)) (λ e. omega (arith, e))) refl)
    (λ h.
    let e : k ≡ suc (length ls) = omega arith in
    rw (eq-eqb k (suc (length ls)) e) (ap (λ (n : ℕ). depth_in (records_of (l ∷ ls) ++ rest) n) e ∙ own_number l ls rest 2))

-- a level whose parent is among those before it, and which is one deeper than that, is fit behind them
new_fit : (l : Level) (ls : List Level) (rest : List ℕ) → l.parent ≤ length ls → l.depth ≡ suc (level_at l.parent ls).depth → l.depth ≤ 4
    → Fit (records_of (l ∷ ls) ++ rest) (suc (length ls))
new_fit l ls rest earlier deeper shallow = record { shallow = rw own_depth shallow; hangs = by_cases (dec_lt 0 l.parent) (λ h. inr (hanging h)) (λ h. inl (alone (omega arith))) }
  where
    t : List ℕ
    t = records_of (l ∷ ls) ++ rest

    own_parent : parent_in t (suc (length ls)) ≡ l.parent
    own_parent = own_number l ls rest 1

    own_depth : depth_in t (suc (length ls)) ≡ l.depth
    own_depth = own_number l ls rest 2

    alone : l.parent ≡ 0 → Top t (suc (length ls))
    alone e = record {
      parent = own_parent ∙ e;
      depth = own_depth ∙ deeper ∙ ap (λ (n : ℕ). suc (level_at n ls).depth) e ∙ ap (λ (n : Level). suc n.depth) (level_nobody ls);
    }

    hanging : 0 < l.parent → Hangs t (suc (length ls))
    hanging h = record {
      parent_from = omega (arith, own_parent);
      parent_below = omega (arith, own_parent);
      depth = own_depth ∙ deeper ∙ omega (
        arith,
        ap (λ (n : ℕ). depth_in t n) own_parent,
        ap (λ (u : List ℕ). depth_in u l.parent) (append_assoc (records_of ls) (record_of l) rest),
        depth_told ls (record_of l ++ rest) l.parent h earlier,
      );
    }

-- so are all levels, whatever lies behind their records
records_fit : (profile : LevelProfile) (hs : List (ℕ × Claim)) (rest : List ℕ) → Everyone Within4 (levels_of profile hs)
    → FitTable (records_of (levels_of profile hs) ++ rest) (length (levels_of profile hs))
records_fit profile [] rest few k from upto = absurd (omega arith)
records_fit profile (h ∷ hs) rest few k from upto =
    let ls = levels_of profile hs in
    let l = level_of profile h.0 h.1 ls in
    by_cases (dec_lt k (suc (length ls)))
    (λ before.
    subst (λ (t : List ℕ). Fit t k) (sym (append_assoc (records_of ls) (record_of l) rest)) (records_fit profile hs (record_of l ++ rest) few.1 k from (omega arith)))
    (λ n.
    subst (λ (j : ℕ). Fit (records_of (l ∷ ls) ++ rest) j) (omega arith) (new_fit l ls rest (parent_below h.1 ls) refl few.0.1))

module _ (name : ProfileName) (how : How) (s : Bytes) (before : Tables) where
  abbrev profile : Profile
  profile = profile_named name

  -- every segment that has a record kept its rules
  all_kept : (r : Answer) (kept : List Placed) (numbers : List ℕ) → Run profile how before s r kept numbers → From (Kept profile) [] (seen how kept)
  all_kept (Ok a) kept numbers x = (accepted_transaction profile how before s a.segments a.levels a.bytes kept numbers x).meets.kept
  all_kept (Err r) kept numbers x = rw x.ends.kept_is x.passed.kept

  -- so each HL among them did
  leveled : (h vs : List View) → From (Kept profile) h vs → From (Leveled profile) h vs
  leveled h [] f = tt
  leveled h (v ∷ vs) f = (f.0.level, leveled (v ∷ h) vs f.1)

  -- the level table of a reading that looks at segments, accepted or refused: it has room for the levels of those that have records, and these
  -- are fit
  pub read_fit : (r : Answer) (after : Tables) (x : Read profile how s before r after) → let count = length (levels_in profile (onto [] (seen how x.kept))) in
      (count ≤ room_of after.levels) × FitTable after.levels count
  unfolding levels_in
  read_fit r after x =
      let vs = seen how x.kept in
      let hs = claims (onto [] vs) in
      let ls = levels_of (level_profile name) hs in
      let rest = drop (length (records_of ls)) before.levels in
      let kept = from_kept profile [] vs tt (leveled [] vs (all_kept r x.kept x.numbers x.run)) in
      let table : after.levels ≡ records_of ls ++ rest = ap (λ (t : Tables). t.levels) x.tables in (
        omega (arith, ap length table, length-append (records_of ls) rest, records_length ls),
        subst (λ (t : List ℕ). FitTable t (length ls)) (sym table) (records_fit (level_profile name) hs rest (depth_at_most_4 name hs kept)),
      )

-- of an accepted report these are as many levels as the answer counts
pub accepted_fit : (how : How) (s : Bytes) (before : Tables) (segments levels bytes : ℕ) (after : Tables) → Reads how s before (accepted segments levels bytes) after
    → (levels ≤ room_of after.levels) × FitTable after.levels levels
accepted_fit how s before segments levels bytes after reads =
    let x = (accepted_proper how s before segments levels bytes after reads).read in
    let count : levels ≡ length (levels_in (profile_of how) (onto [] (seen how x.kept))) = ap (λ (four : List ℕ). get_or four 2 0) x.run.ends.counts in
    subst (λ (n : ℕ). (n ≤ room_of after.levels) × FitTable after.levels n) (sym count) (read_fit how.profile how s before (accepted segments levels bytes) after x)

-- the number of a walk's answer
abbrev number_told : Walked → ℕ
number_told (Ok levels) = 0
number_told (Err u) = number_of u.reason

-- so a walk over it is never refused with 20
pub accepted_walks : (how : How) (s : Bytes) (before : Tables) (segments levels bytes : ℕ) (after : Tables) → Reads how s before (accepted segments levels bytes) after
    → (output : List ℕ) (level : ℕ) (then : List ℕ) → Walks after.levels levels output (unlisted UnfitTable level) then → ⊥
accepted_walks how s before segments levels bytes after reads output level then walks =
    let fit = accepted_fit how s before segments levels bytes after reads in
    elim walks [
      | inl w ↦ omega (arith, w.exceeds, fit.0)
      | inr u ↦ elim u [
        | inl w ↦ w.unfit (fit.1 w.level w.from w.upto)
        | inr v ↦ elim v [
          | inl w ↦ omega (arith, ap number_told w.answer)
          | inr w ↦ omega (arith, ap number_told w.answer)
        ]
      ]
    ]

-- A segment judged rule by rule, in order: where the rules before hold, the first that does not is the answer; and where all hold, the
-- segment is sound.
-- Assumes nothing.
use Prim.Native.Nat.{ℕ, ◌≤◌, ◌<◌}
use mathlib.Core.Path.{◌≡◌, refl, sym}
use mathlib.Core.Logic.{inl, inr}
use mathlib.Core.Bool.{Bool, true, false, not, cond}
use mathlib.Core.List.{List, [], ◌∷◌, ◌++◌, append_assoc, append-nil}
use lib.Dec.{T, lt→ltb}
use borrow.Author.Tests.{le-ltb}
use Rattle.text.specs.View.{View}
use Rattle.text.proofs.Bools.{passes}
use Rattle.rows.specs.Following.{Fits}
use Rattle.elements.specs.Checks.{Check, Keeps, decide, Holds, broken, first_broken}
use Rattle.elements.specs.Rules.{byte_checks, end_checks, ruled_checks}
use Rattle.elements.proofs.FirstBroken.{broken_same}
use Rattle.levels.specs.Levels.{claim_of}
use Rattle.levels.specs.Rules.{level_checks}
use Rattle.gate.specs.Profile.{Profile}
use Rattle.gate.specs.Segments.{tag_in_of, is_hl, is_se, levels_in}
use Rattle.gate.specs.Rules.{tag_checks, hl_checks, closing_checks, se_checks, Rule, as_rules, Admitted, row_rules, rules, FirstBroken, Kept}
use Rattle.gate.proofs.reading.Laws.{as_rules_append}
use Rattle.elements.specs.declared.verdict.Reason.{Reason}
use Rattle.elements.specs.declared.verdict.Reason.TheVariants.{UnknownTag, NoRow, ForeignRow}

-- the first of some tests that fails is the first of the rules that is broken, whatever rules follow
pub first_here : (cs : List Check) (rest : List Rule) (n : Reason) (e : ℕ) → first_broken cs ≡ broken n e → FirstBroken (as_rules cs ++ rest) n e
first_here [] rest n e q = absurd (holds_not_broken q)
  where
    holds_not_broken : {n : Reason} {e : ℕ} → Holds ≡ broken n e → ⊥
    holds_not_broken q = cc
first_here (c ∷ cs) rest n e q = by c.holds q (first_here cs rest n e)
  where
    by : (b : Bool) → decide c b (first_broken cs) ≡ broken n e → (first_broken cs ≡ broken n e → FirstBroken (as_rules cs ++ rest) n e)
        → FirstBroken (record { reason = c.reason; element = c.element; Holds = T b } ∷ (as_rules cs ++ rest)) n e
    by true q f = inr (tt, f q)
    by false q f = let same = broken_same c.reason c.element n e q in inl ((λ x. x), sym same.0, sym same.1)

-- rules that hold before it do not change it
pub first_after : (cs : List Check) (rest : List Rule) (n : Reason) (e : ℕ) → Keeps cs → FirstBroken rest n e → FirstBroken (as_rules cs ++ rest) n e
first_after [] rest n e k f = f
first_after (c ∷ cs) rest n e k f = inr (k.0, first_after cs rest n e k.1 f)

module _ (profile : Profile) (w : List ℕ) (h : List View) (v : View) where
  abbrev ruled : List Check
  ruled = ruled_checks profile.elements (tag_in_of v) v

  -- the rules one group after the other: from the closing rules backwards
  abbrev closing : List Rule
  closing = as_rules (se_checks profile h v)

  abbrev level_on : List Rule
  level_on = as_rules (hl_checks profile h v) ++ closing

  abbrev ruled_on : List Rule
  ruled_on = as_rules ruled ++ level_on

  grouped : rules profile w h v ≡ as_rules (byte_checks v) ++ (as_rules (tag_checks v) ++ (as_rules (end_checks v) ++ (row_rules profile w v ++ ruled_on)))
  grouped =
      rw (
        as_rules_append (byte_checks v ++ tag_checks v) (end_checks v),
        as_rules_append (byte_checks v) (tag_checks v),
        as_rules_append (ruled ++ hl_checks profile h v) (se_checks profile h v),
        as_rules_append ruled (hl_checks profile h v),
      )
      (simp append_assoc)

  -- 5
  pub bad_bytes : (n : Reason) (e : ℕ) → first_broken (byte_checks v) ≡ broken n e → FirstBroken (rules profile w h v) n e
  bad_bytes n e q = rw grouped (first_here (byte_checks v) _ n e q)

  module _ (bytes : Keeps (byte_checks v)) where
    -- 4
    pub unknown_tag : 34 ≤ tag_in_of v → FirstBroken (rules profile w h v) UnknownTag 0
    unfolding tag_checks
    unknown_tag l = rw grouped (first_after (byte_checks v) _ UnknownTag 0 bytes (inl ((λ x. rw (le-ltb (tag_in_of v) 34 l) at x), refl, refl)))

    module _ (known : tag_in_of v < 34) where
      tags : Keeps (tag_checks v)
      unfolding tag_checks
      tags = (lt→ltb (tag_in_of v) 34 known, tt)

      -- 6
      pub bad_end : (n : Reason) (e : ℕ) → first_broken (end_checks v) ≡ broken n e → FirstBroken (rules profile w h v) n e
      bad_end n e q = rw grouped (first_after (byte_checks v) _ n e bytes (first_after (tag_checks v) _ n e tags (first_here (end_checks v) _ n e q)))

      module _ (ends : Keeps (end_checks v)) where
        before_row : (rest : List Rule) (n : Reason) (e : ℕ) → FirstBroken rest n e
            → FirstBroken (as_rules (byte_checks v) ++ (as_rules (tag_checks v) ++ (as_rules (end_checks v) ++ rest))) n e
        before_row rest n e f = first_after (byte_checks v) _ n e bytes (first_after (tag_checks v) _ n e tags (first_after (end_checks v) rest n e ends f))

        -- 7
        pub no_row : ((r : ℕ) → Fits w (tag_in_of v) r → ⊥) → FirstBroken (rules profile w h v) NoRow 0
        no_row none = rw grouped (before_row _ NoRow 0 (inl ((λ x. none x.0 x.1), refl, refl)))

        -- 24
        pub not_in_profile : (r : ℕ) → Fits w (tag_in_of v) r → ((x : ℕ) → Fits w (tag_in_of v) x → Admitted profile x → ⊥) → FirstBroken (rules profile w h v) ForeignRow 0
        not_in_profile r fits none = rw grouped (before_row _ ForeignRow 0 (inr ((r, fits), inl ((λ x. none x.0 x.1 x.2), refl, refl))))

        module _ (r : ℕ) (fits : Fits w (tag_in_of v) r) (inside : Admitted profile r) where
          after_row : (n : Reason) (e : ℕ) → FirstBroken ruled_on n e → FirstBroken (rules profile w h v) n e
          after_row n e f = rw grouped (before_row (row_rules profile w v ++ ruled_on) n e (inr ((r, fits), inr ((r, fits, inside), f))))

          -- 9, 8, 10, 11
          pub bad_element : (n : Reason) (e : ℕ) → first_broken ruled ≡ broken n e → FirstBroken (rules profile w h v) n e
          bad_element n e q = after_row n e (first_here ruled level_on n e q)

          module _ (elements : Keeps ruled) where
            -- 12, 13, 14, 15 of an HL
            pub bad_level : T (is_hl v) → (n : Reason) (e : ℕ) → first_broken (level_checks profile.levels (levels_in profile h) (claim_of v)) ≡ broken n e
                → FirstBroken (rules profile w h v) n e
            unfolding hl_checks
            bad_level hl n e q =
                let q' : first_broken (hl_checks profile h v) ≡ broken n e = rw (passes (is_hl v) hl) q in
                after_row n e (first_after ruled level_on n e elements (first_here (hl_checks profile h v) closing n e q'))

            -- no HL has no level rules, and no SE no closing rules
            pub no_level : T (not (is_hl v)) → Keeps (hl_checks profile h v)
            unfolding hl_checks
            no_level x = by (is_hl v) x
              where
                by : (b : Bool) → T (not b) → Keeps (cond b (level_checks profile.levels (levels_in profile h) (claim_of v)) [])
                by true x = absurd x
                by false x = tt

            pub no_closing : T (not (is_se v)) → Keeps (se_checks profile h v)
            unfolding se_checks
            no_closing x = by (is_se v) x
              where
                by : (b : Bool) → T (not b) → Keeps (cond b (closing_checks profile h v) [])
                by true x = absurd x
                by false x = tt

            pub its_level : T (is_hl v) → Keeps (level_checks profile.levels (levels_in profile h) (claim_of v)) → Keeps (hl_checks profile h v)
            unfolding hl_checks
            its_level x k = rw (passes (is_hl v) x) k

            pub its_closing : T (is_se v) → Keeps (closing_checks profile h v) → Keeps (se_checks profile h v)
            unfolding se_checks
            its_closing x k = rw (passes (is_se v) x) k

            -- 16 and 15 of an SE
            pub bad_closing : T (not (is_hl v)) → T (is_se v) → (n : Reason) (e : ℕ) → first_broken (closing_checks profile h v) ≡ broken n e
                → FirstBroken (rules profile w h v) n e
            unfolding se_checks
            bad_closing hl se n e q =
                let q' : first_broken (se_checks profile h v) ≡ broken n e = rw (passes (is_se v) se) q in
                let f : FirstBroken level_on n e =
                first_after (hl_checks profile h v) closing n e (no_level hl) (rw append-nil at (first_here (se_checks profile h v) [] n e q')) in
                after_row n e (first_after ruled level_on n e elements f)

            -- all hold
            pub all_kept : Keeps (hl_checks profile h v) → Keeps (se_checks profile h v) → Kept profile h v
            all_kept l c = record { bytes = bytes; ends = ends; elements = elements; level = l; closing = c }

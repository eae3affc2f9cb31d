-- Answer 9 of elements that the profile wants absent: it is decided before other reasons for 9, since every such element is one of the first four and
-- has a rule.
-- Assumes nothing.
use Prim.Native.Nat.{ℕ, ◌≤◌, ◌<◌}
use mathlib.Core.Path.{◌≡◌, refl, sym, ◌∙◌}
use mathlib.Core.Logic.{◌≢◌, by_cases}
use mathlib.Core.Bool.{Bool, true, false, not, ◌&&◌, ◌||◌, true≢false}
use mathlib.Core.List.{List, [], ◌∷◌}
use native.Mathlib.Omega.{arith}
use native.Mathlib.Decide.{dec_lt}
use lib.Dec.{T, eqb, eqb→eq, leb, leb→le, ltb, ltb→lt}
use lib.ListN.{length}
use borrow.Author.Tests.{eqb-true, le-leb, ne_eqb}
use Rattle.text.specs.Bytes.{every, any}
use Rattle.text.specs.View.{Piece}
use Rattle.text.proofs.Bools.{first_of, second_of, or_cases}
use Rattle.rows.specs.Tags.{tag, tag_number}
use Rattle.rows.specs.declared.profile.ProfileName.{ProfileName}
use Rattle.rows.specs.declared.profile.ProfileName.TheVariants.{Report, Reply}
use Rattle.elements.specs.Checks.{Holds, broken}
use Rattle.elements.specs.Data.{unused_by, element_profile}
use Rattle.elements.specs.Rules.{few_by, is_unused}
use Rattle.elements.specs.internal.Verdicts.{rules_of}
use Rattle.elements.proofs.FirstBroken.{each_holds, each_broken}
use Rattle.elements.proofs.EveryTag.{few_but_five}
use Rattle.ruling.specs.internal.Early.{unused_verdict}
use Rattle.ruling.specs.internal.Usual.{AllUsed}
use Rattle.elements.specs.declared.verdict.Reason.TheVariants.{TooMany}

-- the element has a rule and is one of the first four
abbrev early : ℕ × ℕ → Bool
early x = leb x.1 (length (rules_of x.0).elements) && ltb x.1 5

-- so is every element that a profile wants absent
early_all : (profile : ProfileName) → T (every early (unused_by profile))
unfolding rules_of tag_number
early_all Report = tt
early_all Reply = tt

among_early : (xs : List (ℕ × ℕ)) (t k : ℕ) → T (every early xs) → T (any (λ (x : ℕ × ℕ). eqb x.0 t && eqb x.1 k) xs)
    → (k ≤ length (rules_of t).elements) × (k < 5)
among_early [] t k a m = absurd m
among_early (x ∷ xs) t k a m =
    let rest = any (λ (x : ℕ × ℕ). eqb x.0 t && eqb x.1 k) xs in
    let ruled = leb x.1 (length (rules_of x.0).elements) in
    let here = first_of (early x) (every early xs) a in
    or_cases (eqb x.0 t && eqb x.1 k) rest
    (λ both.
    let same_tag = eqb→eq x.0 t (first_of (eqb x.0 t) (eqb x.1 k) both) in
    let same_number = eqb→eq x.1 k (second_of (eqb x.0 t) (eqb x.1 k) both) in
    rw (← same_tag, ← same_number) (
      leb→le x.1 (length (rules_of x.0).elements) (first_of ruled (ltb x.1 5) here),
      ltb→lt x.1 5 (second_of ruled (ltb x.1 5) here),
    ))
    (among_early xs t k (second_of (early x) (every early xs) a))
    m

-- up to such an element there is no other reason for 9
pub few_so_far : (profile : ProfileName) (t k : ℕ) → T (is_unused (element_profile profile) t k) → (j : ℕ) (p : Piece) → j ≤ k
    → few_by (rules_of t) j p ≡ true
few_so_far profile t k m j p l =
    let e = among_early (unused_by profile) t k (early_all profile) m in
    rw (le-leb j (length (rules_of t).elements) (omega (arith, e.0)))
    (few_but_five t j p (λ z. omega (arith, e.1)))

-- a report wants no element absent, and of a reply's segments only the HL has such elements
pub report_used : (t : ℕ) → AllUsed Report t
report_used t k = refl

pub others_used : (profile : ProfileName) (t : ℕ) → t ≢ tag "HL" → AllUsed profile t
others_used Report t n k = refl
others_used Reply t n k = rw (ne_eqb (tag "HL") t (λ e. n (sym e)))

-- so 9 is silent of these
pub used_silent : (profile : ProfileName) (t : ℕ) (there : ℕ → Bool) (count : ℕ) → AllUsed profile t
    → Holds ≡ unused_verdict (is_unused (element_profile profile) t) there count
used_silent profile t there count used =
    sym (each_holds TooMany 1 count (λ (k : ℕ). not (is_unused (element_profile profile) t k && there k)) (λ k l u. rw (used k)))

-- What the code finds of a reply's HL: the second element, or else the fourth
module _ (there : ℕ → Bool) (count t : ℕ) where
  abbrev fine : ℕ → Bool
  fine k = not (is_unused (element_profile Reply) t k && there k)

  module _ (hl : t ≡ tag "HL") (past : (k : ℕ) → count < k → there k ≡ false) where
    -- one that is there is not past the last
    within : (k : ℕ) → there k ≡ true → k ≤ count
    within k e = by_cases (dec_lt count k) (λ l. absurd (true≢false (sym e ∙ past k l))) (λ l. omega arith)

    fine_else : (k : ℕ) → (k ≡ 2 → there 2 ≡ false) → (k ≡ 4 → there 4 ≡ false) → fine k ≡ true
    unfolding tag_number
    fine_else k two four = rw hl (by (eqb 2 k) refl (eqb 4 k) refl)
      where
        by : (a : Bool) → eqb 2 k ≡ a → (b : Bool) → eqb 4 k ≡ b → not ((a || (b || false)) && there k) ≡ true
        by true e b f = let z = eqb-true 2 k e in rw (← z, two (sym z))
        by false e true f = let z = eqb-true 4 k f in rw (← z, four (sym z))
        by false e false f = refl

    pub second_there : there 2 ≡ true → broken TooMany 2 ≡ unused_verdict (is_unused (element_profile Reply) t) there count
    unfolding tag_number
    second_there e =
        sym
        (each_broken TooMany 1 count 2 fine (λ j l u. fine_else j (λ z. absurd (omega arith)) (λ z. absurd (omega arith))) (omega arith)
        (omega (arith, within 2 e)) (rw (hl, e)))

    pub fourth_there : there 2 ≡ false → there 4 ≡ true → broken TooMany 4 ≡ unused_verdict (is_unused (element_profile Reply) t) there count
    unfolding tag_number
    fourth_there none e =
        sym
        (each_broken TooMany 1 count 4 fine (λ j l u. fine_else j (λ z. none) (λ z. absurd (omega arith))) (omega arith)
        (omega (arith, within 4 e)) (rw (hl, e)))

    pub neither_there : there 2 ≡ false → there 4 ≡ false → Holds ≡ unused_verdict (is_unused (element_profile Reply) t) there count
    neither_there two four = sym (each_holds TooMany 1 count fine (λ k l u. fine_else k (λ z. two) (λ z. four)))

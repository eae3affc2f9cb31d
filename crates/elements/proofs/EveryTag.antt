-- What holds of the rules of every tag: tests that are computed once over the profile's list.
-- Assumes nothing.
use Prim.Native.Nat.{ℕ, suc, ◌≤◌, ◌<◌}
use mathlib.Core.Path.{◌≡◌, refl, sym, ap, ◌∙◌}
use mathlib.Core.Logic.{by_cases}
use mathlib.Core.Bool.{Bool, true, false, not, cond, ◌&&◌, ◌||◌, true≢false}
use mathlib.Core.List.{List, [], ◌∷◌}
use native.Mathlib.Omega.{arith}
use native.Mathlib.Decide.{dec_lt}
use lib.Dec.{leb, ltb, eqb}
use lib.ListN.{length}
use borrow.Author.Tests.{eqb-true, ne_eqb, leb-true, lt-leb, ltb-true}
use Rattle.text.specs.Bytes.{every, among}
use Rattle.text.specs.View.{Piece, View, empty}
use Rattle.text.proofs.Tests.{and_first, and_second, all_below, at_below}
use Rattle.rows.specs.Tags.{tag_number, tag}
use Rattle.rows.specs.declared.profile.ProfileName.{ProfileName}
use Rattle.elements.specs.Data.{Shape, Simple, Composite, Element, Note, Paired, Required, Conditional, Rules, ruled_segments, element_profile}
use Rattle.elements.specs.Rules.{rule_of, few_components, is_unused, checks_by, checks_among, ruled_checks}
use Rattle.elements.specs.internal.Verdicts.{rules_among, rules_of, last_must}
use Rattle.elements.proofs.RuleNumbers.{rule_past}

-- what a test finds of every entry it finds of the rules of any tag
abbrev bare : Rules
bare = record { elements = []; notes = [] }

module _ (test : ℕ → Rules → Bool) (tag : ℕ) (plain : test tag bare ≡ true) where
  each_one : (n : ℕ) (rules rest : Rules) (t : Bool) → eqb n tag ≡ t → test n rules ≡ true → test tag rest ≡ true → test tag
      (cond t rules rest) ≡ true
  each_one n rules rest true e p q = rw (← eqb-true n tag e) p
  each_one n rules rest false e p q = q

  each_tag : (xs : List (ℕ × Rules)) → every (λ (x : ℕ × Rules). test x.0 x.1) xs ≡ true → test tag (rules_among xs tag) ≡ true
  each_tag [] e = plain
  each_tag (x ∷ xs) e =
      each_one x.0 x.1 (rules_among xs tag) (eqb x.0 tag) refl
      (and_first (test x.0 x.1) (every (λ (x : ℕ × Rules). test x.0 x.1) xs) e)
      (each_tag xs (and_second (test x.0 x.1) (every (λ (x : ℕ × Rules). test x.0 x.1) xs) e))

-- one of two tests passes
or_else : (a b : Bool) → a || b ≡ true → a ≡ false → b ≡ true
or_else true b e f = absurd (true≢false f)
or_else false b e f = e

-- at most 31 elements
abbrev small : ℕ → Rules → Bool
small n rules = leb (length rules.elements) 31

pub last_small : (tag : ℕ) → length (rules_of tag).elements ≤ 31
unfolding rules_of tag_number
last_small tag = leb-true (length (rules_of tag).elements) 31 (each_tag small tag refl ruled_segments refl)

-- a tag with rules is one of the 34
abbrev known : ℕ → Rules → Bool
known n rules = ltb n 34 || eqb (length rules.elements) 0

pub ruled_known : (t : ℕ) → 1 ≤ length (rules_of t).elements → t < 34
unfolding rules_of tag_number
ruled_known t l = by_test (ltb t 34) refl (each_tag known t (last (ltb t 34)) ruled_segments refl)
  where
    last : (a : Bool) → a || true ≡ true
    last true = refl
    last false = refl

    by_test : (a : Bool) → ltb t 34 ≡ a → a || eqb (length (rules_of t).elements) 0 ≡ true → t < 34
    by_test true e f = ltb-true t 34 e
    by_test false e f = absurd (omega (arith, eqb-true (length (rules_of t).elements) 0 f))

-- what a test finds of the rules up to the last and of no rule it finds at every number
module _ (rules : Rules) (test : ℕ → Element → Bool) (past : (k : ℕ) → test k (rule_of bare 0) ≡ true) where
  at_each : all_below (suc (length rules.elements)) (λ (k : ℕ). test k (rule_of rules k)) ≡ true → (k : ℕ) → test k (rule_of rules k) ≡ true
  at_each e k =
      by_cases (dec_lt k (suc (length rules.elements))) (λ l. at_below (suc (length rules.elements)) (λ (k : ℕ). test k (rule_of rules k)) e k l)
      (λ l. let up : length rules.elements < k = omega arith in ap (test k) (sym (rule_past rules k up)) ∙ past k)

-- past the last mandatory element nothing is mandatory, and that one is no further than the last
abbrev eager : ℕ → Rules → Bool
eager n rules =
    leb (last_must rules.elements) (length rules.elements)
    && all_below (suc (length rules.elements)) (λ (k : ℕ). leb k (last_must rules.elements) || not (rule_of rules k).must)

eager_all : (tag : ℕ) → eager tag (rules_of tag) ≡ true
unfolding rules_of tag_number
eager_all tag = each_tag eager tag refl ruled_segments refl

module _ (tag : ℕ) where
  abbrev rules : Rules
  rules = rules_of tag

  pub needed_last : last_must rules.elements ≤ length rules.elements
  needed_last =
      leb-true (last_must rules.elements) (length rules.elements)
      (and_first (leb (last_must rules.elements) (length rules.elements))
      (all_below (suc (length rules.elements)) (λ (k : ℕ). leb k (last_must rules.elements) || not (rule_of rules k).must)) (eager_all tag))

  pub unneeded : (k : ℕ) → last_must rules.elements < k → not (rule_of rules k).must ≡ true
  unneeded k l =
      or_else (leb k (last_must rules.elements)) (not (rule_of rules k).must)
      (at_each rules (λ (k : ℕ) (e : Element). leb k (last_must rules.elements) || not e.must) (λ k. last (leb k (last_must rules.elements)))
      (and_second (leb (last_must rules.elements) (length rules.elements))
      (all_below (suc (length rules.elements)) (λ (k : ℕ). leb k (last_must rules.elements) || not (rule_of rules k).must)) (eager_all tag)) k)
      (lt-leb k (last_must rules.elements) l)
    where
      last : (t : Bool) → t || true ≡ true
      last true = refl
      last false = refl

-- one value
abbrev single : Shape → Bool
single (Simple x) = true
single (Composite xs) = false

single_few : (shape : Shape) (p : Piece) → single shape ≡ true → few_components shape p ≡ true
single_few (Simple x) p e = refl
single_few (Composite xs) p e = absurd (true≢false (sym e))

-- NCA05 alone is a composite
abbrev valued : ℕ → Rules → Bool
valued n rules = all_below (suc (length rules.elements)) (λ (k : ℕ). eqb k 5 || single (rule_of rules k).shape)

valued_all : (tag : ℕ) → valued tag (rules_of tag) ≡ true
unfolding rules_of tag_number
valued_all tag = each_tag valued tag refl ruled_segments refl

pub few_but_five : (tag k : ℕ) (p : Piece) → (k ≡ 5 → ⊥) → few_components (rule_of (rules_of tag) k).shape p ≡ true
few_but_five tag k p n =
    single_few (rule_of (rules_of tag) k).shape p
    (or_else (eqb k 5) (single (rule_of (rules_of tag) k).shape)
    (at_each (rules_of tag) (λ (k : ℕ) (e : Element). eqb k 5 || single e.shape) (λ k. last (eqb k 5)) (valued_all tag) k) (ne_eqb k 5 n))
  where
    last : (t : Bool) → t || true ≡ true
    last true = refl
    last false = refl

abbrev fifth : ℕ → Rules → Bool
fifth n rules = eqb n (tag "NCA") || single (rule_of rules 5).shape

pub few_but_NCA : (t : ℕ) (p : Piece) → (t ≡ tag "NCA" → ⊥) → few_components (rule_of (rules_of t) 5).shape p ≡ true
unfolding rules_of tag_number
few_but_NCA t p n =
    single_few (rule_of (rules_of t) 5).shape p
    (or_else (eqb t (tag "NCA")) (single (rule_of (rules_of t) 5).shape) (each_tag fifth t (last (eqb t (tag "NCA"))) ruled_segments refl)
    (ne_eqb t (tag "NCA") n))
  where
    last : (t : Bool) → t || true ≡ true
    last true = refl
    last false = refl

-- an absent element 5 is never too much
abbrev roomy : ℕ → Rules → Bool
roomy n rules = few_components (rule_of rules 5).shape empty

pub few_empty : (tag : ℕ) → few_components (rule_of (rules_of tag) 5).shape empty ≡ true
unfolding rules_of tag_number
few_empty tag = each_tag roomy tag refl ruled_segments refl

-- four tags have notes
abbrev unnoted : List Note → Bool
unnoted [] = true
unnoted (n ∷ ns) = false

unnoted_none : (ns : List Note) → unnoted ns ≡ true → ns ≡ []
unnoted_none [] e = refl
unnoted_none (n ∷ ns) e = absurd (true≢false (sym e))

abbrev quiet : ℕ → Rules → Bool
quiet n rules = among (tag "N1" ∷ tag "DTM" ∷ tag "LIN" ∷ tag "NCA" ∷ []) n || unnoted rules.notes

pub no_notes : (t : ℕ) → (t ≡ tag "N1" → ⊥) → (t ≡ tag "DTM" → ⊥) → (t ≡ tag "LIN" → ⊥) → (t ≡ tag "NCA" → ⊥) → (rules_of t).notes ≡ []
unfolding rules_of tag_number
no_notes t a b c d =
    unnoted_none (rules_of t).notes
    (rw (ne_eqb t (tag "N1") a, ne_eqb t (tag "DTM") b, ne_eqb t (tag "LIN") c, ne_eqb t (tag "NCA") d) at
    (each_tag quiet t (last (among (tag "N1" ∷ tag "DTM" ∷ tag "LIN" ∷ tag "NCA" ∷ []) t)) ruled_segments refl))
  where
    last : (t : Bool) → t || true ≡ true
    last true = refl
    last false = refl

-- no note names an element past 31
abbrev pub note_within : Note → Bool
note_within (Paired ks) = every (λ (k : ℕ). leb k 31) ks
note_within (Required ks) = every (λ (k : ℕ). leb k 31) ks
note_within (Conditional k ks) = leb k 31 && every (λ (k : ℕ). leb k 31) ks

abbrev near : ℕ → Rules → Bool
near n rules = every note_within rules.notes

pub notes_small : (tag : ℕ) → every note_within (rules_of tag).notes ≡ true
unfolding rules_of tag_number
notes_small tag = each_tag near tag refl ruled_segments refl

-- the tests of a tag with rules are those of its rules; a tag without has none
checks_by_lem : (xs : List (ℕ × Rules)) (unused : ℕ → Bool) (tag : ℕ) (v : View) → (length (rules_among xs tag).elements ≡ 0 → ⊥)
    → checks_among xs unused tag v ≡ checks_by (rules_among xs tag) unused v
checks_by_lem [] unused tag v n = absurd (n refl)
checks_by_lem (x ∷ xs) unused tag v n = one (eqb x.0 tag) n (checks_by_lem xs unused tag v)
  where
    one : (t : Bool) → (length (cond t x.1 (rules_among xs tag)).elements ≡ 0 → ⊥)
        → ((length (rules_among xs tag).elements ≡ 0 → ⊥) → checks_among xs unused tag v ≡ checks_by (rules_among xs tag) unused v)
        → cond t (checks_by x.1 unused v) (checks_among xs unused tag v) ≡ checks_by (cond t x.1 (rules_among xs tag)) unused v
    one true n later = refl
    one false n later = later n

checks_none : (xs : List (ℕ × Rules)) (unused : ℕ → Bool) (tag : ℕ) (v : View) → every (λ (x : ℕ × Rules). leb 1 (length x.1.elements)) xs ≡ true
    → length (rules_among xs tag).elements ≡ 0 → checks_among xs unused tag v ≡ []
checks_none [] unused tag v e l = refl
checks_none (x ∷ xs) unused tag v e l =
    one (eqb x.0 tag) l
    (leb-true 1 (length x.1.elements)
    (and_first (leb 1 (length x.1.elements)) (every (λ (x : ℕ × Rules). leb 1 (length x.1.elements)) xs) e))
    (checks_none xs unused tag v (and_second (leb 1 (length x.1.elements)) (every (λ (x : ℕ × Rules). leb 1 (length x.1.elements)) xs) e))
  where
    one : (t : Bool) → length (cond t x.1 (rules_among xs tag)).elements ≡ 0 → 1 ≤ length x.1.elements
        → (length (rules_among xs tag).elements ≡ 0 → checks_among xs unused tag v ≡ [])
        → cond t (checks_by x.1 unused v) (checks_among xs unused tag v) ≡ []
    one true l h later = absurd (omega arith)
    one false l h later = later l

module _ (profile : ProfileName) (tag : ℕ) (v : View) where
  pub ruled_by : (length (rules_of tag).elements ≡ 0 → ⊥)
      → ruled_checks (element_profile profile) tag v ≡ checks_by (rules_of tag) (is_unused (element_profile profile) tag) v
  unfolding ruled_checks rules_of
  ruled_by n = checks_by_lem ruled_segments (is_unused (element_profile profile) tag) tag v n

  pub ruled_none : length (rules_of tag).elements ≡ 0 → ruled_checks (element_profile profile) tag v ≡ []
  unfolding ruled_checks rules_of
  ruled_none l = checks_none ruled_segments (is_unused (element_profile profile) tag) tag v refl l

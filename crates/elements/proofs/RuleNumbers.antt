-- The rules of a tag by the element's number: the tags that the code names, and numbers without a rule.
-- Assumes nothing.
use Prim.Native.Nat.{ℕ, zero, suc, ◌<◌}
use mathlib.Core.Path.{◌≡◌, refl, sym, ap}
use mathlib.Core.List.{List}
use native.Mathlib.Omega.{arith}
use lib.ListN.{length, drop, get_or, get_or-eq_default}
use Rattle.rows.specs.Tags.{tag_number, tag}
use Rattle.elements.specs.Data.{Rules, rules_n1, rules_dtm, rules_lin, rules_nca}
use Rattle.elements.specs.Rules.{unruled, rule_of}
use Rattle.elements.specs.internal.Layouts.{up_to}
use Rattle.elements.specs.internal.Verdicts.{rules_of}

-- the rules of the tags with notes
pub rules_N1 : rules_of (tag "N1") ≡ rules_n1
unfolding rules_of tag_number
rules_N1 = refl

pub rules_DTM : rules_of (tag "DTM") ≡ rules_dtm
unfolding rules_of tag_number
rules_DTM = refl

pub rules_LIN : rules_of (tag "LIN") ≡ rules_lin
unfolding rules_of tag_number
rules_LIN = refl

pub rules_NCA : rules_of (tag "NCA") ≡ rules_nca
unfolding rules_of tag_number
rules_NCA = refl

-- a number past the last has no rule
pub rule_past : (rules : Rules) (k : ℕ) → length rules.elements < k → unruled ≡ rule_of rules k
rule_past rules zero l = refl
rule_past rules (suc k) l = sym (get_or-eq_default rules.elements unruled {n = k} (omega arith))

-- two functions that are computed to the same list agree at each number below its length
pub agree_below : {A : Type 0} (n : ℕ) (d : A) (f g : ℕ → A) → up_to n f ≡ up_to n g → (k : ℕ) → k < n → f k ≡ g k
agree_below zero d f g e k l = absurd (omega arith)
agree_below {A} (suc n) d f g e zero l = ap (λ (l : List A). get_or l 0 d) e
agree_below (suc n) d f g e (suc k) l = agree_below n d (λ (k : ℕ). f (suc k)) (λ (k : ℕ). g (suc k)) (ap (drop 1) e) k (omega arith)

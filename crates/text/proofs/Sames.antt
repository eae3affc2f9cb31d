-- Laws of `same`: it passes exactly where two lists of bytes are equal.
-- Assumes nothing.
use mathlib.Core.Path.{◌≡◌, refl, sym, ◌∙◌}
use mathlib.Core.Bool.{Bool, true, false}
use mathlib.Core.List.{[], ◌∷◌}
use native.Mathlib.Omega.{arith}
use lib.Dec.{T, eqb, eqb→eq, eqb_refl}
use lib.ListN.{length}
use Rattle.text.specs.Bytes.{Bytes, same}
use Rattle.text.proofs.Bools.{both, first_of, second_of, passes, fails}

-- lists of bytes that are the same are equal
pub same_equal : (s t : Bytes) → T (same s t) → s ≡ t
same_equal [] [] h = refl
same_equal [] (b ∷ t) h = absurd h
same_equal (a ∷ s) [] h = absurd h
same_equal (a ∷ s) (b ∷ t) h = cc (eqb→eq a b (first_of (eqb a b) (same s t) h), same_equal s t (second_of (eqb a b) (same s t) h))

-- every list of bytes is the same as itself
pub same_self : (s : Bytes) → T (same s s)
same_self [] = tt
same_self (a ∷ s) = both (eqb a a) (same s s) (eqb_refl a) (same_self s)

-- equal lists of bytes are the same
pub equal_same : (s t : Bytes) → s ≡ t → T (same s t)
equal_same s t e = rw e (same_self t)

-- bytes of length 0 are none
pub none_nil : (s : Bytes) → T (eqb (length s) 0) → s ≡ []
none_nil [] h = refl
none_nil (a ∷ s) h = absurd (omega (arith, eqb→eq (length (a ∷ s)) 0 h))

-- the same as equations
pub same_true : (s t : Bytes) → s ≡ t → same s t ≡ true
same_true s t e = passes (same s t) (equal_same s t e)

pub same_false : (s t : Bytes) → (s ≡ t → ⊥) → same s t ≡ false
same_false s t n = fails (same s t) (λ h. n (same_equal s t h))

pub true_same : (s t : Bytes) → same s t ≡ true → s ≡ t
true_same s t e = same_equal s t (rw e tt)

-- a comparison of equal parts
pub same_by : {r : Bool} {a a' b b' : Bytes} → r ≡ same a b → a ≡ a' → b ≡ b' → (v : Bool) → r ≡ v → same a' b' ≡ v
same_by e p q v f = sym (e ∙ (λ i. same (p i) (q i))) ∙ f

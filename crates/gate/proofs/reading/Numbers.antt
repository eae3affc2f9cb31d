-- Four numbers name one answer, since a reason's number names no other; and NoRoom is no fault.
-- Assumes nothing.
use Prim.Native.Nat.{ℕ, ◌<◌}
use mathlib.Core.Path.{◌≡◌, sym, ap, ◌∙◌}
use mathlib.Core.Logic.{⊎_elim}
use mathlib.Core.List.{[], ◌∷◌, head-eq_of_cons-eq, tail-eq_of_cons-eq}
use native.Mathlib.Omega.{arith}
use Rattle.std.proofs.Common.{Ok, Err}
use Rattle.elements.specs.Reasons.{number_of}
use Rattle.elements.specs.declared.verdict.Reason.{Reason}
use Rattle.elements.specs.declared.verdict.Reason.TheVariants.{NoRoom}
use Rattle.elements.proofs.Reasons.{same_number}
use Rattle.gate.specs.Answers.{Answer, accepted, refused, numbers_of, Fault}
use Rattle.gate.specs.declared.answer.Accepted.{Accepted}
use Rattle.gate.specs.declared.answer.Refusal.{Refusal}

-- two acceptances with the same numbers are one
pub same_acceptance : (a a' : Accepted) → numbers_of (Ok a) ≡ numbers_of (Ok a') → ◌≡◌ {A = Answer} (Ok a) (Ok a')
same_acceptance a a' e =
    let counts = tail-eq_of_cons-eq e in
    let more = tail-eq_of_cons-eq counts in
    λ i. accepted (head-eq_of_cons-eq counts i) (head-eq_of_cons-eq more i) (head-eq_of_cons-eq (tail-eq_of_cons-eq more) i)

-- and so are two refusals
pub same_refusal : (r r' : Refusal) → numbers_of (Err r) ≡ numbers_of (Err r') → ◌≡◌ {A = Answer} (Err r) (Err r')
same_refusal r r' e =
    let rest = tail-eq_of_cons-eq e in
    let more = tail-eq_of_cons-eq rest in
    λ i. refused (same_number r.reason r'.reason (head-eq_of_cons-eq e) i) (head-eq_of_cons-eq rest i) (head-eq_of_cons-eq more i) (head-eq_of_cons-eq (tail-eq_of_cons-eq more) i)

-- an answer with the numbers of a refusal is that refusal
pub refusal_of : (r : Answer) (reason : Reason) (segment byte element : ℕ) → 0 < number_of reason
    → numbers_of r ≡ number_of reason ∷ segment ∷ byte ∷ element ∷ [] → r ≡ refused reason segment byte element
refusal_of (Ok a) reason segment byte element h e = absurd (omega (arith, head-eq_of_cons-eq e))
refusal_of (Err r) reason segment byte element h e =
    same_refusal r (record { reason = reason; segment = segment; byte = byte; element = element }) e

-- so two answers with these numbers are one
pub refusal_once : (r r' : Answer) (reason : Reason) (segment byte element : ℕ) → 0 < number_of reason
    → numbers_of r ≡ number_of reason ∷ segment ∷ byte ∷ element ∷ [] → numbers_of r' ≡ number_of reason ∷ segment ∷ byte ∷ element ∷ [] → r ≡ r'
refusal_once r r' reason segment byte element h e f =
    refusal_of r reason segment byte element h e ∙ sym (refusal_of r' reason segment byte element h f)

-- no room is no fault
pub fault_room : (reason : Reason) → Fault (number_of reason) → reason ≡ NoRoom → ⊥
fault_room reason f e = let z : number_of reason ≡ 17 = ap number_of e in ⊎_elim (λ u. omega (arith, u, z)) (λ u. omega (arith, u, z)) f.upto

-- The answers, as document 01 numbers them.
-- Assumes nothing.
use Rattle.std.specs.Prelude.{ℕ, ◌≤◌, ◌≡◌, ◌⊎◌, List, [], ◌∷◌, Result, Ok, Err}
use Rattle.elements.specs.declared.verdict.Reason.{Reason}
use Rattle.elements.specs.Reasons.{number_of}
use Rattle.rows.specs.declared.profile.ProfileName.{ProfileName}
use Rattle.rows.specs.declared.profile.ProfileName.TheVariants.{Reply}
use Rattle.gate.specs.declared.answer.Accepted.{Accepted}
use Rattle.gate.specs.declared.answer.Refusal.{Refusal}

-- an acceptance or a refusal
abbrev pub Answer : Type 0
Answer = Result Accepted Refusal

-- the acceptance with these counts
abbrev pub accepted : ℕ → ℕ → ℕ → Answer
accepted segments levels bytes = Ok (record { segments = segments; levels = levels; bytes = bytes })

-- the refusal for this reason, at this place
abbrev pub refused : Reason → ℕ → ℕ → ℕ → Answer
refused reason segment byte element = Err (record { reason = reason; segment = segment; byte = byte; element = element })

-- the four numbers of an answer: 0 with segments, levels and bytes; or the refusal with the segment, the byte where it starts, and the
-- element
abbrev pub numbers_of : Answer → List ℕ
numbers_of (Ok a) = 0 ∷ a.segments ∷ a.levels ∷ a.bytes ∷ []
numbers_of (Err r) = number_of r.reason ∷ r.segment ∷ r.byte ∷ r.element ∷ []

-- an acceptance
abbrev pub IsAccepted : Answer → Type 0
IsAccepted (Ok a) = Unit {0}
IsAccepted (Err r) = ⊥

-- the answers that blame a segment for a broken rule: 4 to 16, and 24
pub record Fault (number : ℕ) : Type 0 where
  pub from : 4 ≤ number
  pub upto : (number ≤ 16) ⊎ (number ≡ 24)

-- 24, which is given of replies alone
pub record RowNotInProfile (profile : ProfileName) (number : ℕ) : Type 0 where
  pub is : number ≡ 24
  pub reply : profile ≡ Reply

-- the list of a reading's answers: acceptance, and refusals 1 to 17, of a reply 24 too
abbrev pub Listed : ProfileName → Answer → Type 0
Listed profile (Ok a) = Unit {0}
Listed profile (Err r) = (1 ≤ number_of r.reason) × ((number_of r.reason ≤ 17) ⊎ RowNotInProfile profile (number_of r.reason))

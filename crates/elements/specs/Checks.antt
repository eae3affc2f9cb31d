-- Rules as tests in the order of the answers: each with the answer's reason and element, and the first that fails decides.
-- Assumes nothing.
use Rattle.std.specs.Prelude.{ℕ, zero, suc, Bool, true, false, List, [], ◌∷◌, T, Result, Ok, Err}
use Rattle.elements.specs.declared.verdict.Reason.{Reason}
use Rattle.elements.specs.declared.verdict.Fault.{Fault}

-- what a group of rules says of a segment: they hold, or the first that is broken has that reason and names that element
abbrev pub Verdict : Type 0
Verdict = Result (Unit {0}) Fault

pattern abbrev pub Holds : Verdict
Holds = Ok tt

abbrev pub broken : Reason → ℕ → Verdict
broken reason element = Err (record { reason = reason; element = element })

-- a test, with the answer where it fails
pub record Check : Type 0 where
  pub reason : Reason
  pub element : ℕ
  pub holds : Bool

abbrev pub check : Reason → ℕ → Bool → Check
check reason element holds = record { reason = reason; element = element; holds = holds }

-- the same test of n elements, from element a on
abbrev pub each : Reason → ℕ → ℕ → (ℕ → Bool) → List Check
each reason a zero test = []
each reason a (suc n) test = check reason a (test a) ∷ each reason (suc a) n test

-- every test of the list holds
abbrev pub Keeps : List Check → Type 0
Keeps [] = Unit {0}
Keeps (c ∷ cs) = T c.holds × Keeps cs

-- one test before others: it decides where it fails
abbrev pub decide : Check → Bool → Verdict → Verdict
decide c true later = later
decide c false later = broken c.reason c.element

-- the first test that fails, or that all hold
abbrev pub first_broken : List Check → Verdict
first_broken [] = Holds
first_broken (c ∷ cs) = decide c c.holds (first_broken cs)

-- The permitted pairs among all 25, and the answers for an HL of each kind, computed from the definitions.
-- Assumes nothing.
use Rattle.std.specs.Prelude.{ℕ, Result, Ok}
use Prim.Native.String.{String}
use mathlib.Core.Path.{◌≡◌, refl}
use mathlib.Core.Bool.{Bool, true, false}
use mathlib.Core.List.{List, [], ◌∷◌, map}
use Rattle.text.specs.Bytes.{bytes}
use Rattle.elements.specs.declared.verdict.Fault.{Fault}
use Rattle.levels.specs.Profile.{nonconformance, code, code_of, may_stand_alone, may_be_marked, may_hang}
use Rattle.levels.specs.Levels.{Claim, Level, levels_of}
use Rattle.levels.specs.Rules.{filled}
use Rattle.levels.specs.internal.Answers.{breaks, judged}
use Rattle.levels.specs.declared.judging.Entitled.{Entitled}
use Rattle.elements.specs.declared.verdict.Reason.TheVariants.{RepeatedName, UnknownParent, BadCode, BadMark}

-- the five codes of a report
abbrev five : List String
five = "RP" ∷ "I" ∷ "F" ∷ "PC" ∷ "SN" ∷ []

-- which of the five may hang under that parent
abbrev hanging : String → List Bool
hanging parent = map (λ (child : String). may_hang nonconformance (code parent) (code child)) five

-- of the 25 pairs the six of document 01 are permitted; a row for each parent RP, I, F, PC and SN, a column for each child
pub pairs_permitted : map hanging five
    ≡ (false ∷ true ∷ false ∷ false ∷ false ∷ [])
    ∷ (false ∷ false ∷ true ∷ true ∷ true ∷ [])
    ∷ (false ∷ false ∷ false ∷ true ∷ true ∷ [])
    ∷ (false ∷ false ∷ false ∷ false ∷ false ∷ [])
    ∷ (false ∷ false ∷ false ∷ false ∷ false ∷ [])
    ∷ []
unfolding may_hang
pairs_permitted = refl

-- a component does not hang directly under a report
pub no_component_under_report : may_hang nonconformance (code "RP") (code "F") ≡ false
unfolding may_hang
no_component_under_report = refl

-- which of the five stand without a parent, and which may be marked 1
pub alone_permitted : map (λ (text : String). may_stand_alone nonconformance (code text)) five ≡ true ∷ true ∷ false ∷ false ∷ false ∷ []
unfolding may_stand_alone
alone_permitted = refl

pub marks_permitted : map (λ (text : String). may_be_marked nonconformance (code text)) five ≡ true ∷ true ∷ true ∷ false ∷ false ∷ []
unfolding may_be_marked
marks_permitted = refl

-- what an HL says, as text
abbrev says : String → String → String → String → Claim
says id parent code mark = record { id = bytes id; parent = bytes parent; code = bytes code; mark = bytes mark }

-- the levels after `HL*1**RP*1` as segment 3
abbrev after_report : List Level
after_report = levels_of nonconformance ((3, says "1" "" "RP" "1") ∷ [])

-- the answers for HLs that come next
abbrev answers : List Claim → List (Result Entitled Fault)
answers cs = map (judged nonconformance after_report) cs

abbrev makes : ℕ → ℕ → ℕ → Result Entitled Fault
makes parent depth code = Ok (record { parent = parent; depth = depth; code = code })

-- an item under the report; then each answer in its order, with its element
pub answers_after_report : answers (
    says "2" "1" "I" "0"
    ∷ says "1" "1" "I" "0"
    ∷ says "2" "9" "I" "0"
    ∷ says "2" "2" "I" "0"
    ∷ says "2" "1" "XX" ""
    ∷ says "2" "" "F" ""
    ∷ says "2" "1" "F" "0"
    ∷ says "2" "1" "I" "2"
    ∷ says "2" "" "I" "1"
    ∷ [])
    ≡ makes 1 2 2
    ∷ breaks RepeatedName 1
    ∷ breaks UnknownParent 2
    ∷ breaks UnknownParent 2
    ∷ breaks BadCode 3
    ∷ breaks BadCode 3
    ∷ breaks BadCode 2
    ∷ breaks BadMark 4
    ∷ makes 0 1 2
    ∷ []
unfolding code_of may_stand_alone may_be_marked may_hang judged
answers_after_report = refl

-- a child of a parent marked 0 is refused at the child
pub answer_under_shut : judged nonconformance (levels_of nonconformance ((3, says "1" "" "RP" "0") ∷ [])) (says "2" "1" "I" "") ≡ breaks BadMark 2
unfolding code_of may_stand_alone may_be_marked may_hang judged
answer_under_shut = refl

-- a level marked 1 is filled once it has a child
pub filled_by_child : filled (levels_of nonconformance ((4, says "2" "1" "I" "0") ∷ (3, says "1" "" "RP" "1") ∷ [])) ≡ true
unfolding code_of filled
filled_by_child = refl

pub unfilled_alone : filled after_report ≡ false
unfolding code_of filled
unfilled_alone = refl

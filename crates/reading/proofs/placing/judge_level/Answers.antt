-- `judge_level` meets its contract: 12, then a level without a parent, then 13, then a level under its parent.
-- Assumes nothing.
use Prim.Native.Nat.{ℕ, zero, suc}
use mathlib.Core.Path.{◌≡◌, refl, sym, ap, ◌∙◌}
use mathlib.Core.Bool.{true, false, true≢false}
use mathlib.Core.List.{List}
use native.Mathlib.Omega.{arith}
use lib.ListN.{length}
use borrow.Author.Tests.{eqb-true, eqb-false}
use Rattle.std.specs.Prelude.{Some, None, is_some, Err}
use Rattle.text.specs.internal.Search.{Free}
use Rattle.levels.specs.Levels.{Claim, Level, called, level_at}
use Rattle.gate.specs.Profile.{profile_of}
use Rattle.levels.proofs.CalledLevel.{called_below}
use Rattle.levels.proofs.HlAnswers.{judged_used, judged_root_lem, judged_nobody, judged_child_lem}
use Rattle.reading.specs.internal.Judgements.{claim_in}
use Rattle.finding.specs.internal.Lists.{place_of}
use Rattle.finding.specs.internal.Answers.{sought, level_of_number}
use Rattle.finding.specs.internal.TablesHold.{TablesHold}
use Rattle.finding.proofs.ListSearch.{sought_called}
use Rattle.finding.proofs.HeldLevels.{told_parent}
use Rattle.reading.proofs.placing.judge_level.Goals as goal
use Rattle.reading.proofs.placing.judge_level.Goals.{Start, After-find, Else-is_empty, After-find-2}

-- a level's number, by what was found
none_found : (n : ℕ) → None ≡ level_of_number n → n ≡ 0
none_found zero e = refl
none_found (suc n) e = cc

some_found : (n x : ℕ) → Some x ≡ level_of_number n → (x ≡ n) × (x ≡ 0 → ⊥)
some_found zero x e = cc
some_found (suc n) x e = let same : x ≡ suc n = cc in (same, λ z. omega (arith, same, z))

is_number : (n : ℕ) → true ≡ is_some (level_of_number n) → n ≡ 0 → ⊥
is_number zero e = absurd (true≢false e)
is_number (suc n) e = λ z. omega (arith, z)

no_number : (n : ℕ) → false ≡ is_some (level_of_number n) → n ≡ 0
no_number zero e = refl
no_number (suc n) e = absurd (true≢false (sym e))

-- what the HL claims
abbrev claim : Start → Claim
claim c = claim_in c.args.parts.bytes.now c.args.parts.starts.now c.args.parts.layout

-- what the search for its HL01 finds, and that for its HL02, where the tables hold the levels before it
own-found : (c : After-find) (m : ℕ) (ls : List Level)
    → TablesHold c.args.parts.bytes.now c.args.how.separators.element c.args.records.segments.now c.args.records.levels.now c.args.records.lasts.now m ls
    → Free c.args.how.separators.element (claim_in c.args.parts.bytes.now c.args.parts.starts.now c.args.parts.layout).id
    → c.args.place ≡ place_of (claim_in c.args.parts.bytes.now c.args.parts.starts.now c.args.parts.layout).id
    → c.find.result ≡ level_of_number (called (claim_in c.args.parts.bytes.now c.args.parts.starts.now c.args.parts.layout).id ls)
own-found c m ls h f e =
    let a = c.args in
    c.find.ensures
    ∙ (λ i. sought a.parts.bytes.now a.how.separators.element a.records.segments.now a.records.levels.now a.records.lasts.now (e i) (c.element-id.ensures i))
    ∙ sought_called h (claim_in a.parts.bytes.now a.parts.starts.now a.parts.layout).id f

above-found : (c : After-find-2) (m : ℕ) (ls : List Level)
    → TablesHold c.args.parts.bytes.now c.args.how.separators.element c.args.records.segments.now c.args.records.levels.now c.args.records.lasts.now m ls
    → Free c.args.how.separators.element (claim_in c.args.parts.bytes.now c.args.parts.starts.now c.args.parts.layout).parent
    → c.find-2.result ≡ level_of_number (called (claim_in c.args.parts.bytes.now c.args.parts.starts.now c.args.parts.layout).parent ls)
above-found c m ls h f =
    let a = c.args in
    c.find-2.ensures
    ∙ rw (c.place_of-hung.ensures, c.element-parent.ensures) (sought_called h (claim_in a.parts.bytes.now a.parts.starts.now a.parts.layout).parent f)

pub returns-then-is_some : goal.returns-then-is_some
returns-then-is_some c = λ m ls h f e.
    let start = (goal.at.returns-then-is_some c).Start in
    let own = own-found (goal.at.returns-then-is_some c).After-find m ls h f.0 e in
    ap Err c.at_element.ensures
    ∙ judged_used (profile_of c.args.how).levels ls (claim start) (called (claim start).id ls) refl
    (is_number (called (claim start).id ls) (c.if-is_some.ensures ∙ ap is_some own))

-- an HL02 is there, where the test says so
some-parent : (c : Else-is_empty) → length (claim_in c.args.parts.bytes.now c.args.parts.starts.now c.args.parts.layout).parent ≡ 0 → ⊥
some-parent c z = eqb-false _ 0 (sym c.if-is_empty.ensures) (ap length c.element-parent.ensures ∙ z)

pub returns-then-is_empty : goal.returns-then-is_empty
returns-then-is_empty c = λ m ls h f e.
    let start = (goal.at.returns-then-is_empty c).Start in
    let own = own-found (goal.at.returns-then-is_empty c).After-find m ls h f.0 e in
    let new = no_number (called (claim start).id ls) (c.if-is_some.ensures ∙ ap is_some own) in
    rw (c.element-code.ensures, c.element-mark.ensures) at c.judge_root.ensures
    ∙ judged_root_lem (profile_of c.args.how).levels ls (claim start) new
    (ap length (sym c.element-parent.ensures) ∙ eqb-true _ 0 (sym c.if-is_empty.ensures))

pub returns-in_default : goal.returns-in_default
returns-in_default c = λ m ls h f e.
    let start = (goal.at.returns-in_default c).Start in
    let own = own-found (goal.at.returns-in_default c).After-find m ls h f.0 e in
    let new = no_number (called (claim start).id ls) (c.if-is_some.ensures ∙ ap is_some own) in
    let above = above-found (goal.at.returns-in_default c).After-find-2 m ls h f.1 in
    ap Err c.at_element-in_default.ensures
    ∙ judged_nobody (profile_of c.args.how).levels ls (claim start) new (called (claim start).parent ls) refl
    (some-parent (goal.at.returns-in_default c).Else-is_empty) (none_found (called (claim start).parent ls) (sym c.in_default.is ∙ above))

pub returns : goal.returns
returns c = λ m ls h f e.
    let start = (goal.at.returns c).Start in
    let own = own-found (goal.at.returns c).After-find m ls h f.0 e in
    let new = no_number (called (claim start).id ls) (c.if-is_some.ensures ∙ ap is_some own) in
    let above = c.in-Some.above in
    let found = some_found (called (claim start).parent ls) above (sym c.in-Some.is ∙ above-found (goal.at.returns c).After-find-2 m ls h f.1) in
    let number = found.0 in
    let some = found.1 in
    let told = told_parent h above (omega arith) (omega (arith, number, called_below (claim start).parent ls)) in
    rw (c.parent_at-found.ensures ∙ told, c.element-code.ensures, c.element-mark.ensures) at c.judge_child.ensures
    ∙ judged_child_lem (profile_of c.args.how).levels ls (claim start) new above number
    (some-parent (goal.at.returns c).Else-is_empty) some (level_at above ls) refl

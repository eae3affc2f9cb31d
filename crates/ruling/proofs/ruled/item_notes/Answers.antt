-- `item_notes` meets its contract, pair by pair.
-- Assumes nothing.
use Prim.Native.Nat.{ℕ}
use mathlib.Core.Path.{sym, ◌∙◌}
use mathlib.Core.Bool.{Bool}
use Rattle.std.proofs.lemmas.Result.{err_from_is_err_and}
use Rattle.elements.specs.internal.Layouts.{there_in}
use Rattle.ruling.proofs.Pairings.{note_found, note_silent, pairs_none, pairs_broken, pairs_more, pairs_all}
use Rattle.ruling.proofs.RuleOrder.{there_past}
use native.Mathlib.Omega.{arith}
use Rattle.ruling.proofs.ruled.item_notes.Goals as goal
use Rattle.ruling.proofs.ruled.item_notes.Goals.{Start}

-- which elements are present
abbrev there : Start → ℕ → Bool
there c = there_in c.args.parts.bytes.now c.args.parts.starts.now c.args.parts.layout

pub loop-pair-init : goal.loop-pair-init
loop-pair-init c = pairs_none _

pub returns-in_err-unless : goal.returns-in_err-unless
returns-in_err-unless c =
    let p = err_from_is_err_and c.from_residual.result c.from_residual.ensures.1 in
    let found = note_found _ c.is_paired.result _ (sym c.in_err-unless.ensures) in
    rw (p.1, p.2)
    (sym found.1
    ∙ pairs_broken (there (goal.at.returns-in_err-unless c).Start) c.loop-pair.invariant (omega arith) (sym c.is_paired.ensures ∙ found.0))

pub loop-pair-preserved : goal.loop-pair-preserved
loop-pair-preserved c =
    pairs_more (there (goal.at.loop-pair-preserved c).Start) c.loop-pair.invariant (omega arith)
    (sym c.is_paired.ensures ∙ note_silent _ c.is_paired.result (sym c.in_ok-unless.ensures))

pub returns : goal.returns
returns c =
    pairs_all (there (goal.at.returns c).Start) c.loop-pair.invariant
    (λ j l. there_past c.args.parts.bytes.now c.args.parts.starts.now c.args.parts.layout j (omega arith))

pub returns-in_ok-unless : goal.returns-in_ok-unless
returns-in_ok-unless c =
    pairs_all (there (goal.at.returns-in_ok-unless c).Start)
    (pairs_more (there (goal.at.returns-in_ok-unless c).Start) c.loop-pair.invariant (omega arith)
    (sym c.is_paired.ensures ∙ note_silent _ c.is_paired.result (sym c.in_ok-unless.ensures)))
    (λ j l. there_past c.args.parts.bytes.now c.args.parts.starts.now c.args.parts.layout j (omega arith))

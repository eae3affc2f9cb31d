-- `settle` meets its contract: each judgement is settled by a function of its own.
-- Assumes nothing.
use mathlib.Core.Path.{◌≡◌, ap, ◌∙◌}
use Rattle.std.specs.Prelude.{Ok}
use Rattle.reading.specs.internal.Judgements.{Judged}
use Rattle.reading.specs.declared.judging.Judgement.{Judgement}
use Rattle.reading.specs.declared.judging.Judgement.TheVariants.{Other, Level, Last}
use Rattle.reading.proofs.reader.Settles.{settles_broken, judged_so}
use Rattle.reading.proofs.settling.settle.Goals as goal

-- a judgement of which more is known
told : {j : Judged} {k l : Judgement} → j ≡ Ok k → k ≡ l → j ≡ Ok l
told e f = e ∙ ap Ok f

pub returns-in-Err : goal.returns-in-Err
returns-in-Err c = λ how before s gs rows g more t. settles_broken t _ c.in-Err.is _ c.refusal.ensures

pub returns-in-Ok-Other : goal.returns-in-Ok-Other
returns-in-Ok-Other c = λ how before s gs rows g more t.
    let judged : c.args.judged ≡ Ok (Other c.in-Ok-Other.row) = told c.in-Ok-Other.is (rw c.in-Ok-Other.is at c.in-Ok-Other.field-0-is) in
    c.pass_other.ensures _ _ how before s gs rows g more (judged_so t _ judged)

pub returns-in-Ok-Level : goal.returns-in-Ok-Level
returns-in-Ok-Level c = λ how before s gs rows g more t.
    let judged : c.args.judged ≡ Ok (Level c.in-Ok-Level.row c.in-Ok-Level.level) = told c.in-Ok-Level.is (rw c.in-Ok-Level.is at c.in-Ok-Level.field-0-is) in
    c.pass_level.ensures how before s gs rows g more (judged_so t _ judged)

pub returns-in-Ok-Last : goal.returns-in-Ok-Last
returns-in-Ok-Last c = λ how before s gs rows g more t.
    let judged : c.args.judged ≡ Ok (Last c.in-Ok-Last.row) = told c.in-Ok-Last.is (rw c.in-Ok-Last.is at c.in-Ok-Last.field-0-is) in
    c.close.ensures _ _ how before s gs rows g more (judged_so t _ judged)

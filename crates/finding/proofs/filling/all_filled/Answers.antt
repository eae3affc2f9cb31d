-- `all_filled` meets its contract: each level is asked, from the first one on.
-- Assumes nothing.
use Rattle.std.proofs.Common.{rules, tests}
use Prim.Native.Nat.{◌+◌}
use native.Mathlib.Omega.{arith}
use mathlib.Core.Path.{refl, ap, ◌∙◌}
use Rattle.std.proofs.lemmas.Iterator.{YieldsList-from_range}
use Rattle.std.proofs.lemmas.Iterator.Search.{all_from_yields_List}
use Rattle.finding.specs.internal.Answers.{none_owes}
use Rattle.finding.proofs.NoteLaws.{owes_none, each_owes_none}
use Rattle.finding.proofs.filling.all_filled.Goals as goal

pub returns : goal.returns
returns c =
    let n = c.level_count-total.result in
    all_from_yields_List (owes_none c.args.levels.now) _ _ _ c.all.ensures.ran (YieldsList-from_range 1 (n + 1) n refl (omega arith)) (λ x b q k. search (rules, tests))
    ∙ each_owes_none c.args.levels.now n ∙ ap (none_owes c.args.levels.now) c.level_count-total.ensures

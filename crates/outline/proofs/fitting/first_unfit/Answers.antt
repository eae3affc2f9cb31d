-- `first_unfit` meets its contract: the search stops at the first level of which the test says no.
-- Assumes nothing.
use Rattle.std.proofs.lemmas.Iterator.{first_from_Range}
use borrow.Author.Rules.{rules}
use Rattle.outline.specs.Walks.{Fit}
use Rattle.outline.proofs.FitTests.{when_no, when_yes, first_found}
use Rattle.outline.proofs.fitting.first_unfit.Goals as goal

pub returns : goal.returns
returns c =
    let t = c.args.levels.now in
    first_found t c.args.count c.find.result
    (first_from_Range _ _ _ _ (λ k. Fit t k → ⊥) (λ k. Fit t k) c.find.ensures.ran
    (λ x q k. search (rules, when_no))
    (λ x q k. (search rules, search (rules, when_yes))))

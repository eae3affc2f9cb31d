-- `fits_units` meets its contract: the components that the split gives, each with its number, pass one test.
-- Assumes nothing.
use Prim.Native.Nat.{ℕ}
use mathlib.Core.Path.{ap, ◌∙◌}
use borrow.Author.Tests.{tests}
use Rattle.std.proofs.Common.{rules}
use Rattle.std.specs.Bool.{◌==◌}
use Rattle.std.specs.Slice.Iter.{split_rest, split_done, split_callee}
use Rattle.std.proofs.lemmas.Iterator.Consumers.{YieldsList-from_enumerate}
use Rattle.std.proofs.lemmas.Iterator.Splits.{YieldsList-from_slice_split}
use Rattle.std.proofs.lemmas.Iterator.Search.{all_from_yields_List}
use Rattle.elements.proofs.ComponentPass.{unit_test, units_are}
use Rattle.elements.proofs.components.fits_units.Goals as goal

pub returns : goal.returns
returns c =
    all_from_yields_List unit_test _ _ _ c.all.ensures.ran
    (YieldsList-from_enumerate {s = c.enumerate.result}
    (YieldsList-from_slice_split {s = c.enumerate.result.iter} _ (λ (b : ℕ). b == c.args.separator) c.args.p.now
    (ap split_rest c.enumerate.ensures.source ∙ c.split.ensures.rest) (ap split_done c.enumerate.ensures.source ∙ c.split.ensures.done)
    (ap split_callee c.enumerate.ensures.source ∙ c.split.ensures.closure) (λ x b q k. search (rules, tests)))
    c.enumerate.ensures.count)
    (λ x b q k. search (rules, tests))
    ∙ units_are c.args.separator c.args.p.now

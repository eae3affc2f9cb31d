-- `is_id` meets its contract: it tests each byte.
-- Assumes nothing.
use mathlib.Core.Path.{◌∙◌}
use borrow.Author.Rules.{rules}
use Rattle.std.proofs.Common.{tests}
use Rattle.std.proofs.lemmas.Iterator.{YieldsList-from_slice}
use Rattle.std.proofs.lemmas.Iterator.Search.{all_from_yields_List}
use Rattle.text.specs.Separators.{is_id_byte}
use Rattle.text.proofs.Everys.{every_all}
use Rattle.types.proofs.values.is_id.Goals as goal

pub returns : goal.returns
returns c =
    all_from_yields_List is_id_byte _ _ c.all.result c.all.ensures.ran (YieldsList-from_slice c.args.value.now cc) (λ x b q k. search (rules, tests))
    ∙ every_all is_id_byte c.args.value.now

-- `rowlist::row_at` meets its contract: the constant is the list read off the bracketed list, by one computed check.
-- Assumes nothing.
use mathlib.Core.Path.{sym, ap, ◌∙◌}
use mathlib.Core.Logic.{⊎_elim}
use native.Mathlib.Omega.{arith}
use Rattle.rows.specs.Tags.{tag_number}
use Rattle.rows.specs.Rows.{list842}
use Rattle.rows.specs.RowList.{row_at}
use Rattle.rows.proofs.ListedRows.{row_list_agrees, row_0, row_past}
use Rattle.rowlist.proofs.row_at.Goals as goal

pub returns-then-number-eq0 : goal.returns-then-number-eq0
returns-then-number-eq0 c =
    ⊎_elim (λ e. sym (ap row_at e ∙ row_0)) (λ w. sym (row_past c.args.number w.1)) c.then-number-eq0.either

pub returns : goal.returns
unfolding list842 tag_number
returns c = row_list_agrees c.args.number (omega arith) (omega arith)

-- `numbering::next::next_table` meets its contract: the constant is the table computed from the row list, by one check of 2,686 entries.
-- Assumes nothing.
use Rattle.text.proofs.Tables.{tab}
use Rattle.rows.specs.Tags.{tag_number}
use Rattle.rows.specs.Rows.{list842}
use Rattle.rows.proofs.NextRows.{edges842, after, next_of}
use Rattle.rows.proofs.NextTable.{computed_table, computed_keeps}
use Rattle.numbering.proofs.next.next_table.Goals as goal

pub returns : goal.returns
unfolding computed_table tab next_of after edges842 list842 tag_number
returns c = computed_keeps

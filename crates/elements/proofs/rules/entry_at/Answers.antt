-- `entry_at` meets its contract: the constant is the table that the data give, by one computation.
-- Assumes nothing.
use Prim.Native.Nat.{ℕ}
use mathlib.Core.Path.{◌≡◌, ap, ◌∙◌}
use mathlib.Core.List.{List}
use lib.ListN.{get_or}
use denote.Ref.{Bor}
use Rattle.std.proofs.Common.{rules}
use Rattle.std.specs.Prelude.{Option, Some, None}
use Rattle.std.specs.Option.{option_copied, unwrap_or}
use Rattle.std.specs.Slice.{IsItemAt}
use Rattle.rows.specs.Tags.{tag_number}
use Rattle.elements.specs.internal.Table.{no_entry, rule_table}
use Rattle.elements.specs.declared.rules.Entry.{Entry}
use Rattle.elements.proofs.rules.entry_at.Goals as goal

got : (xs : List Entry) (place : ℕ) (r : Option (Bor Entry)) → IsItemAt xs place r → unwrap_or (option_copied r) no_entry ≡ get_or xs place no_entry
got xs place None h = search rules
got xs place (Some e) h = search rules

pub returns : goal.returns
unfolding rule_table tag_number
returns c =
    c.unwrap_or.ensures ∙ ap (λ (o : Option Entry). unwrap_or o no_entry) c.copied.ensures ∙ got rule_table c.args.place c.get.result c.get.ensures.lookup

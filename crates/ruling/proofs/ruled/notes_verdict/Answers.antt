-- `notes_verdict` meets its contract, tag by tag.
-- Assumes nothing.
use Rattle.elements.proofs.RuleNumbers.{rules_N1, rules_DTM, rules_LIN, rules_NCA}
use Rattle.elements.proofs.EveryTag.{no_notes}
use Rattle.rows.specs.Tags.{tag_number}
use native.Mathlib.Omega.{arith}
use Rattle.ruling.proofs.ruled.notes_verdict.Goals as goal

pub returns-in-7 : goal.returns-in-7
unfolding tag_number
returns-in-7 c = rw (c.in-7.is, rules_N1) c.party_notes.ensures

pub returns-in-3 : goal.returns-in-3
unfolding tag_number
returns-in-3 c = rw (c.in-3.is, rules_DTM) c.date_notes.ensures

pub returns-in-13 : goal.returns-in-13
unfolding tag_number
returns-in-13 c = rw (c.in-13.is, rules_LIN) c.item_notes.ensures

pub returns-in-32 : goal.returns-in-32
unfolding tag_number
returns-in-32 c = rw (c.in-32.is, rules_NCA) c.party_notes-in-32.ensures

pub returns-in_default : goal.returns-in_default
unfolding tag_number
returns-in_default c = rw (no_notes c.args.tag (λ e. omega arith) (λ e. omega arith) (λ e. omega arith) (λ e. omega arith))

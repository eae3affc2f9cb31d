-- `knows` meets its contract, profile by profile.
-- Assumes nothing.
use mathlib.Core.Path.{◌≡◌, ◌∙◌}
use mathlib.Core.Bool.{true, false, not, ◌||◌}
use lib.Dec.{eqb}
use borrow.Author.Rules.{rules}
use Rattle.text.specs.Bytes.{between}
use Rattle.levels.specs.internal.Codes.{number}
use Rattle.levels.proofs.CodeLetters.{report_knows, reply_knows}
use Rattle.levels.proofs.codes.knows.Goals as goal

pub returns-after-matches : goal.returns-after-matches
returns-after-matches c =
    let own = number c.args.code in
    let test : not c.match-matches.matches ≡ between 1 5 own = search rules in
    rw c.in-Report.is (test ∙ report_knows own)

pub returns-in-Item : goal.returns-in-Item
returns-in-Item c =
    let own = number c.args.code in
    let test : true ≡ (eqb own 2 || eqb own 6) || eqb own 1 = search rules in
    rw c.in-Reply.is (test ∙ reply_knows own)

pub returns-in_default-matches : goal.returns-in_default-matches
returns-in_default-matches c =
    let own = number c.args.code in
    let test : false ≡ (eqb own 2 || eqb own 6) || eqb own 1 = search rules in
    rw c.in-Reply.is (test ∙ reply_knows own)

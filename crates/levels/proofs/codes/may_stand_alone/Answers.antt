-- In a reply `may_stand_alone` says yes of every code that the profile knows.
-- Assumes nothing.
use mathlib.Core.Path.{◌≡◌, ◌∙◌}
use mathlib.Core.Bool.{true, false, ◌||◌}
use lib.Dec.{eqb}
use borrow.Author.Rules.{rules}
use Rattle.levels.specs.internal.Codes.{number}
use Rattle.levels.proofs.CodeLetters.{all_stand_alone}
use Rattle.levels.proofs.codes.may_stand_alone.Goals as goal

pub returns-in-Item : goal.returns-in-Item
returns-in-Item c =
    let own = number c.args.code in
    let test : true ≡ (eqb own 2 || eqb own 6) || eqb own 1 = search rules in
    rw c.in-Reply.is (test ∙ all_stand_alone own)

pub returns-in_default-matches : goal.returns-in_default-matches
returns-in_default-matches c =
    let own = number c.args.code in
    let test : false ≡ (eqb own 2 || eqb own 6) || eqb own 1 = search rules in
    rw c.in-Reply.is (test ∙ all_stand_alone own)

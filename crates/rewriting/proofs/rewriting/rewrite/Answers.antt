-- `rewrite` meets its contract.
-- Assumes nothing.
use mathlib.Core.Path.{◌≡◌, sym, ◌∙◌}
use mathlib.Core.Bool.{true}
use Rattle.std.proofs.lemmas.Result.{err_from_is_err_and}
use Rattle.text.specs.Separators.{fit_separators}
use Rattle.text.proofs.View.{fitted}
use Rattle.rewriting.proofs.AcceptedTable.{accepted_names, accepted_bytes, accepted_cut}
use Rattle.rewriting.proofs.Outcomes.{old_unfit, new_unfit, reading_refused, reading_accepted}
use Rattle.rewriting.proofs.rewriting.rewrite.Goals as goal
use Rattle.rewriting.proofs.rewriting.rewrite.Goals.{Else-not-fit-2}

-- both sets are fit
old-fits : (c : Else-not-fit-2) → fit_separators c.args.old ≡ true
old-fits c = sym c.fit.ensures ∙ c.if-not-fit.false

new-fits : (c : Else-not-fit-2) → fit_separators c.args.new ≡ true
new-fits c = sym c.fit-2.ensures ∙ c.if-not-fit-2.false

pub returns-then-not-fit : goal.returns-then-not-fit
returns-then-not-fit c =
    rw c.refused.ensures (old_unfit _ _ _ _ _ _ (sym c.fit.ensures ∙ c.if-not-fit.true))

pub returns-then-not-fit-2 : goal.returns-then-not-fit-2
returns-then-not-fit-2 c =
    rw c.refused-then-not-fit-2.ensures
    (new_unfit _ _ _ _ _ _ (sym c.fit.ensures ∙ c.if-not-fit.false) (sym c.fit-2.ensures ∙ c.if-not-fit-2.true))

pub returns-in_err-accepted : goal.returns-in_err-accepted
returns-in_err-accepted c =
    let here = (goal.at.returns-in_err-accepted c).Else-not-fit-2 in
    let given = err_from_is_err_and c.from_residual.result c.from_residual.ensures.1 in
    rw (given.1, given.2) (reading_refused _ _ _ _ _ _ (old-fits here) (new-fits here) _ _ c.in_err-accepted.ensures)

pub write_accepted-requires : goal.write_accepted-requires
write_accepted-requires c =
    let a = c.args in
    let told = c.in_ok-accepted.accepted in
    let accepted = c.in_ok-accepted.ensures in
    let here = (goal.at.write_accepted-requires c).Else-not-fit-2 in
    record {
      names_from = accepted_names a.profile a.old _ _ _ _ _ _ accepted;
      cut_off = accepted_cut a.profile a.old _ _ _ _ _ _ accepted;
      fitted = fitted a.new (rw (new-fits here) tt);
      used_value = accepted_bytes a.profile a.old _ _ _ _ _ _ accepted;
    }

pub returns : goal.returns
returns c =
    let here = (goal.at.returns c).Else-not-fit-2 in
    reading_accepted _ _ _ _ _ _ (old-fits here) (new-fits here) _ c.in_ok-accepted.accepted c.in_ok-accepted.ensures _ _ c.write_accepted.ensures

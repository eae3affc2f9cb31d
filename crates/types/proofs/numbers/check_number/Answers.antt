-- `check_number` meets its contract: sign, digits, point, digits and exponent are passed one behind the other.
-- Assumes nothing.
use Prim.Native.Nat.{ℕ, ◌+◌, ◌≤◌}
use mathlib.Core.Path.{◌≡◌, sym, ap, ◌∙◌}
use mathlib.Core.Bool.{true}
use lib.Dec.{leb}
use lib.ListN.{length}
use borrow.Author.Tests.{leb-true}
use Rattle.text.specs.Bytes.{byte, between}
use Rattle.text.proofs.Tests.{and_first, and_second}
use Rattle.types.specs.Reals.{past, unsigned}
use Rattle.types.specs.internal.NumberParts.{first_digits, exponent_of_in}
use Rattle.types.proofs.FirstDigits.{run_digits, run_inside, rest_part}
use Rattle.types.proofs.NumberChecks.{counted, whole_of, behind_of, fraction_of, rest_of, count_of, check_count, check_exponent, check_number}
use Rattle.types.proofs.numbers.check_number.Goals as goal
use Rattle.types.proofs.numbers.check_number.Goals.{After-exponent_of, After-first_digits-fraction, After-first_digits-whole, Else-not-may_have}

-- what each call hands back, read off the text
whole_is : (c : After-first_digits-fraction) → c.first_digits-whole.result.now ≡ whole_of c.args.text.now
whole_is c = c.first_digits-whole.ensures ∙ ap first_digits c.past-unsigned.ensures

behind-is : (c : After-first_digits-fraction) → c.past-behind.result.now ≡ behind_of c.args.text.now
behind-is c = c.past-behind.ensures ∙ ap (past (byte ".")) (rest_part c.past-unsigned.ensures c.first_digits-whole.ensures)

fraction-is : (c : After-first_digits-fraction) → c.first_digits-fraction.result.now ≡ fraction_of c.args.text.now
fraction-is c = c.first_digits-fraction.ensures ∙ ap first_digits (behind-is c)

exponent-is : (c : After-exponent_of) → c.past-behind.result.now ≡ behind_of c.args.text.now
    → c.exponent_of.result ≡ exponent_of_in (rest_of c.args.text.now)
exponent-is c b = c.exponent_of.ensures ∙ ap exponent_of_in (rest_part b c.first_digits-fraction.ensures)

-- the digits stand within what they were taken from
inside : (c : After-first_digits-whole) → length c.first_digits-whole.result.now ≤ length c.past-unsigned.result.now
inside c = rw c.first_digits-whole.ensures (run_inside c.past-unsigned.result.now)

inside-behind : (c : After-first_digits-fraction) → length c.first_digits-fraction.result.now ≤ length c.past-behind.result.now
inside-behind c = rw c.first_digits-fraction.ensures (run_inside c.past-behind.result.now)

-- how many there are
abbrev number : After-first_digits-fraction → ℕ
number c = length c.first_digits-whole.result.now + length c.first_digits-fraction.result.now

count_is : (c : After-first_digits-fraction) → number c ≡ count_of c.args.text.now
count_is c = rw (whole_is c, fraction-is c)

few : (c : Else-not-may_have) → length c.first_digits-whole.result.now + length c.first_digits-fraction.result.now ≤ 15
few c =
    let n = length c.first_digits-whole.result.now + length c.first_digits-fraction.result.now in
    let told = sym c.may_have.ensures ∙ c.if-not-may_have.false in
    leb-true n 15 (and_second (leb 1 n) (leb n 15) (and_first (between 1 15 n) (between c.args.least c.args.most n) told))

pub slice_bounds-past-count : goal.slice_bounds-past-count
slice_bounds-past-count c = inside (goal.at.slice_bounds-past-count c).After-first_digits-whole

pub slice_bounds-past-start : goal.slice_bounds-past-start
slice_bounds-past-start c = inside (goal.at.slice_bounds-past-start c).After-first_digits-whole

pub returns-then-not-may_have : goal.returns-then-not-may_have
returns-then-not-may_have c =
    let read = (goal.at.returns-then-not-may_have c).After-first_digits-fraction in
    check_count c.args.text.now _ _ (rw (← count_is read) (sym c.may_have.ensures ∙ c.if-not-may_have.true))

pub slice_bounds-exponent_of-count : goal.slice_bounds-exponent_of-count
slice_bounds-exponent_of-count c = inside-behind (goal.at.slice_bounds-exponent_of-count c).After-first_digits-fraction

pub slice_bounds-exponent_of-start : goal.slice_bounds-exponent_of-start
slice_bounds-exponent_of-start c = inside-behind (goal.at.slice_bounds-exponent_of-start c).After-first_digits-fraction

pub returns-in_err-exponent : goal.returns-in_err-exponent
returns-in_err-exponent c =
    let read = (goal.at.returns-in_err-exponent c).After-first_digits-fraction in
    let exponent = exponent-is (goal.at.returns-in_err-exponent c).After-exponent_of (behind-is read) in
    c.from_residual.ensures ∙ check_exponent c.args.text.now _ _ (sym exponent ∙ c.in_err-exponent.was)

pub written-requires : goal.written-requires
written-requires c =
    let read = (goal.at.written-requires c).After-first_digits-fraction in
    record {
      before = rw (whole_is read) (run_digits (unsigned c.args.text.now));
      behind = rw (fraction-is read) (run_digits (behind_of c.args.text.now));
      few = few (goal.at.written-requires c).Else-not-may_have;
    }

pub returns : goal.returns
returns c =
    let read = (goal.at.returns c).After-first_digits-fraction in
    let exponent = exponent-is (goal.at.returns c).After-exponent_of (behind-is read) in
    let number : counted c.args.least c.args.most (count_of c.args.text.now) ≡ true =
    rw (← count_is read) (sym c.may_have.ensures ∙ c.if-not-may_have.false) in
    rw (c.written.ensures, c.is_negative.ensures, whole_is read, fraction-is read)
    (check_number c.args.text.now _ _ number _ (sym exponent ∙ c.in_ok-exponent.was))

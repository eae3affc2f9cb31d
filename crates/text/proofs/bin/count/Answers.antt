use mathlib.Core.Path.{◌≡◌, sym, ◌∙◌}
use mathlib.Core.Bool.{true}
use native.Mathlib.Omega.{arith}
use lib.ListN.{get_or}
use Rattle.text.specs.Separators.{is_digit}
use Rattle.text.proofs.Counting.{number_small, digit_high, counting_more}
use Rattle.text.proofs.bin.count.Goals as goal
use Rattle.text.proofs.bin.count.Goals.{Else-not-is_digit}

digit : (c : Else-not-is_digit) → is_digit (get_or c.in-Some.rest.now c.loop-digits.digits 0) ≡ true
digit c = sym c.is_digit.ensures ∙ c.if-not-is_digit.false

pub overflow_mul-number : goal.overflow_mul-number
overflow_mul-number c = omega (arith, number_small c.loop-digits.invariant)

pub overflow_add-number : goal.overflow_add-number
overflow_add-number c =
    omega (
      arith,
      c.from.ensures,
      number_small c.loop-digits.invariant,
      digit_high c.loop-digits.invariant c.loop-digits-test.true c.if-b-element.false (digit (goal.at.overflow_add-number c).Else-not-is_digit),
    )

pub loop-digits-preserved : goal.loop-digits-preserved
loop-digits-preserved c =
    rw c.from.ensures
    (counting_more c.loop-digits.invariant c.loop-digits-test.true c.if-b-element.false (digit (goal.at.loop-digits-preserved c).Else-not-is_digit)
    (rw c.from.ensures at c.if-digits-number.false))

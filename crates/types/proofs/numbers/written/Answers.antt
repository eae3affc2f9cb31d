-- `written` meets its contract: fifteen digits write a number that fits.
-- Assumes nothing.
use Prim.Native.Nat.{ℕ}
use mathlib.Core.Path.{◌≡◌, sym, ap, ◌∙◌}
use mathlib.Core.List.{◌++◌}
use lib.IntN.{ℤ}
use lib.ListN.{length}
use mir.Syntax.{w64}
use mir.Val.{to_z, of_z}
use Rattle.types.proofs.NumberChecks.{valued_first, valued_second, digits_small}
use Rattle.types.proofs.Figures.{value_append}
use Rattle.text.specs.Bytes.{value_from, value_of}
use Rattle.types.specs.Numbers.{signed}
use Rattle.types.proofs.Signs.{signed_stays}
use Rattle.types.proofs.numbers.written.Goals as goal
use Rattle.types.proofs.numbers.written.Goals.{After-value_from-size}

-- the number of all digits
size_is : (c : After-value_from-size)
    → c.value_from-size.result ≡ value_of (c.args.whole.now ++ c.args.fraction.now)
size_is c =
    let args = c.args in
    c.value_from-size.ensures ∙ ap (λ (n : ℕ). value_from n args.fraction.now) c.value_from.ensures
    ∙ sym (value_append 0 args.whole.now args.fraction.now)

pub value_from-requires : goal.value_from-requires
value_from-requires c = valued_first c.requires

pub value_from-size-requires : goal.value_from-size-requires
value_from-size-requires c = rw c.value_from.ensures (valued_second c.requires)

pub signed-requires : goal.signed-requires
signed-requires c = rw (size_is (goal.at.signed-requires c).After-value_from-size) (digits_small c.requires)

pub returns : goal.returns
returns c =
    let args = c.args in
    let size = value_of (args.whole.now ++ args.fraction.now) in
    let value : c.signed.result ≡ signed args.negative size = c.signed.ensures ∙ ap (signed args.negative) (size_is (goal.at.returns c).After-value_from-size) in
    let stays = ap (λ (z : ℤ). to_z w64 (of_z w64 z)) value ∙ signed_stays args.negative size (digits_small c.requires) in
    λ i. record { value = stays i; places = length args.fraction.now; exponent = args.exponent }

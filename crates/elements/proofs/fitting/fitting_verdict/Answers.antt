-- `fitting_verdict` meets its contract: the pass goes as far as it has to.
-- Assumes nothing.
use Prim.Native.Nat.{◌≤◌, ◌<◌}
use mathlib.Core.Path.{◌≡◌, ap, ◌∙◌}
use lib.ListN.{length}
use Rattle.elements.specs.internal.Layouts.{components_in}
use Rattle.elements.specs.internal.Verdicts.{rules_of, last_must}
use Rattle.elements.specs.internal.Table.{extent_of}
use Rattle.elements.specs.declared.rules.Extent.{Extent}
use Rattle.elements.proofs.ByLayout.{at_past}
use Rattle.elements.proofs.EveryTag.{last_small, needed_last}
use Rattle.elements.proofs.ElementPass.{elements_reached}
use native.Mathlib.Omega.{arith}
use Rattle.elements.proofs.fitting.fitting_verdict.Goals as goal
use Rattle.elements.proofs.fitting.fitting_verdict.Goals.{After-reach-upto}

-- how far the rules reach, and the pass
last : (c : After-reach-upto) → c.extent_of-extent.result.last ≡ length (rules_of c.args.tag).elements
unfolding extent_of
last c = ap (λ (x : Extent). x.last) c.extent_of-extent.ensures

needed : (c : After-reach-upto) → c.extent_of-extent.result.needed ≡ last_must (rules_of c.args.tag).elements
unfolding extent_of
needed c = ap (λ (x : Extent). x.needed) c.extent_of-extent.ensures

within : (c : After-reach-upto) → c.extent_of-extent.result.needed ≤ c.extent_of-extent.result.last
within c = omega (arith, last c, needed c, needed_last c.args.tag)

near : (c : After-reach-upto) → c.reach-upto.result ≤ length (rules_of c.args.tag).elements
near c = omega (arith, last c, c.reach-upto.ensures.near (within c))

enough : (c : After-reach-upto) → last_must (rules_of c.args.tag).elements ≤ c.reach-upto.result
enough c = omega (arith, needed c, c.reach-upto.ensures.enough (within c))

far : (c : After-reach-upto) → c.reach-upto.result < length (rules_of c.args.tag).elements → c.args.parts.layout.count ≤ c.reach-upto.result
far c l = c.reach-upto.ensures.far (omega (arith, last c))

pub elements_verdict-requires : goal.elements_verdict-requires
elements_verdict-requires c = omega (arith, near (goal.at.elements_verdict-requires c).After-reach-upto, last_small c.args.tag)

pub returns : goal.returns
returns c =
    let there = (goal.at.returns c).After-reach-upto in
    c.elements_verdict.ensures
    ∙ elements_reached c.args.tag c.args.parts.layout.count _ (components_in c.args.parts.bytes.now c.args.parts.starts.now c.args.parts.layout c.args.component) (at_past _ _ _ _) (far there) (enough there) (near there)

-- `usual` meets its contract, tag by tag: how far the rules reach is computed.
-- Assumes nothing.
use mathlib.Core.Path.{refl}
use Rattle.rows.specs.Tags.{tag_number}
use Rattle.elements.specs.internal.Verdicts.{rules_of}
use Rattle.text.proofs.Tests.{and_first, and_second}
use Rattle.ruling.proofs.UsualSegments.{suiting}
use Rattle.ruling.proofs.UnusedElements.{report_used, others_used}
use native.Mathlib.Omega.{arith}
use Rattle.ruling.proofs.usual.usual.Goals as goal

pub returns-in-0 : goal.returns-in-0
unfolding rules_of tag_number
returns-in-0 c e = (
  rw c.in-0.is (suiting _ _ _ _ 2 c.usual_st.result refl c.usual_st.ensures e),
  others_used c.args.profile c.args.tag (λ z. omega (arith, c.in-0.is, z)),
)

pub returns-in-7 : goal.returns-in-7
unfolding rules_of tag_number
returns-in-7 c e = (
  rw c.in-7.is (suiting _ _ _ _ 4 c.usual_n1.result refl c.usual_n1.ensures e),
  others_used c.args.profile c.args.tag (λ z. omega (arith, c.in-7.is, z)),
)

pub returns-in-3 : goal.returns-in-3
unfolding rules_of tag_number
returns-in-3 c e = (
  rw c.in-3.is (suiting _ _ _ _ 3 c.usual_dtm.result refl c.usual_dtm.ensures e),
  others_used c.args.profile c.args.tag (λ z. omega (arith, c.in-3.is, z)),
)

pub returns-in-12 : goal.returns-in-12
unfolding rules_of tag_number
returns-in-12 c e =
    let report = c.wants_none_absent.ensures (and_first c.wants_none_absent.result _ e) in (
      rw c.in-12.is
          (suiting _ _ _ _ 4 c.usual_hl.result refl c.usual_hl.ensures (and_second c.wants_none_absent.result _ e)),
      rw report (report_used c.args.tag),
    )

pub returns-in-27 : goal.returns-in-27
unfolding rules_of tag_number
returns-in-27 c e = (
  rw c.in-27.is (suiting _ _ _ _ 2 c.usual_nte.result refl c.usual_nte.ensures e),
  others_used c.args.profile c.args.tag (λ z. omega (arith, c.in-27.is, z)),
)

pub returns-in-32 : goal.returns-in-32
unfolding rules_of tag_number
returns-in-32 c e = (
  rw c.in-32.is (suiting _ _ _ _ 5 c.usual_nca.result refl c.usual_nca.ensures e),
  others_used c.args.profile c.args.tag (λ z. omega (arith, c.in-32.is, z)),
)

pub returns-in-33 : goal.returns-in-33
unfolding rules_of tag_number
returns-in-33 c e = (
  rw c.in-33.is (suiting _ _ _ _ 2 c.usual_se.result refl c.usual_se.ensures e),
  others_used c.args.profile c.args.tag (λ z. omega (arith, c.in-33.is, z)),
)

-- A plain segment, whose tag has no rules: no element is asked for anything, and it is neither an HL nor an SE.
-- Assumes nothing.
use Prim.Native.Nat.{ℕ}
use mathlib.Core.Path.{◌≡◌, refl, sym, ap, ◌∙◌}
use mathlib.Core.List.{List}
use native.Mathlib.Omega.{arith}
use Rattle.std.specs.Prelude.{Ok}
use lib.ListN.{length}
use borrow.Author.Tests.{ne_eqb}
use Rattle.text.specs.Bytes.{Bytes}
use Rattle.text.specs.View.{View}
use Rattle.rows.specs.Tags.{tag, tag_number}
use Rattle.rows.specs.declared.profile.ProfileName.{ProfileName}
use Rattle.elements.specs.Data.{element_profile}
use Rattle.elements.specs.Checks.{Holds, first_broken}
use Rattle.elements.specs.Rules.{ruled_checks}
use Rattle.elements.specs.internal.Verdicts.{rules_of}
use Rattle.elements.specs.declared.layout.Layout.{Layout}
use Rattle.elements.proofs.EveryTag.{ruled_none}
use Rattle.gate.specs.declared.how.How.{How}
use Rattle.reading.specs.declared.judging.State.{State}
use Rattle.reading.specs.declared.judging.Judgement.TheVariants.{Other}
use Rattle.reading.specs.internal.Judgements.{JudgesLate}

module _ (t : ℕ) (plain : length (rules_of t).elements ≡ 0) where
  pub plain_holds : (profile : ProfileName) (v : View) → Holds ≡ first_broken (ruled_checks (element_profile profile) t v)
  plain_holds profile v = sym (ap first_broken (ruled_none profile t v plain))

  not_hl : t ≡ tag "HL" → ⊥
  unfolding rules_of tag_number
  not_hl e = let some = ap (λ (n : ℕ). length (rules_of n).elements) (sym e) ∙ plain in omega (arith, some)

  not_se : t ≡ tag "SE" → ⊥
  unfolding rules_of tag_number
  not_se e = let some = ap (λ (n : ℕ). length (rules_of n).elements) (sym e) ∙ plain in omega (arith, some)

  -- so the late rules are silent of it
  pub plain_late : (how : How) (s : Bytes) (starts : List ℕ) (layout : Layout) (state : State) (segments levels lasts : List ℕ) (row : ℕ)
      → JudgesLate how s starts layout state segments levels lasts t row (Ok (Other row))
  plain_late how s starts layout state segments levels lasts row = λ m ls h f. rw (ne_eqb t (tag "HL") not_hl, ne_eqb t (tag "SE") not_se) refl

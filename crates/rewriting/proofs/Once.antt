-- Two answers that the promise of rewriting allows are equal, with their tables and outputs.
-- Assumes nothing.
use Prim.Native.Nat.{ℕ}
use mathlib.Core.Path.{◌≡◌, sym, subst, ◌∙◌}
use mathlib.Core.Bool.{Bool, true, false}
use mathlib.Core.List.{List}
use native.Mathlib.Omega.{arith}
use lib.Dec.{leb}
use lib.ListN.{length}
use Rattle.std.specs.Prelude.{Option, Some, None, Ok, Err}
use Rattle.text.specs.Bytes.{Bytes}
use Rattle.text.specs.Separators.{fit_separators}
use Rattle.text.specs.Cut.{Placed}
use Rattle.text.specs.declared.separators.Separators.{Separators}
use Rattle.rows.specs.declared.profile.ProfileName.{ProfileName}
use Rattle.gate.specs.Profile.{profile_named}
use Rattle.gate.specs.Answers.{Answer}
use Rattle.gate.specs.Records.{Tables}
use Rattle.gate.proofs.reading.Numbers.{refusal_once}
use Rattle.gate.proofs.reading.Once.{reads_once}
use Rattle.gate.proofs.conditions.Conditions.{numbering_once}
use Rattle.rewriting.specs.Rewrites.{strictly, rewritten, collision, Outcome, OutcomeOf, AfterReading, Rewriting, Unfit, RewritesFit, Rewrites}
use Rattle.rewriting.specs.declared.collisions.Clash.{Clash}
use Rattle.elements.specs.declared.verdict.Reason.TheVariants.{UnfitSeparators, Collision, ShortOutput}

outcome_once : (x : Option Clash) (room : Bool) (told : Answer) (new output : Bytes) (r r' : Answer) (after after' : Bytes)
    → Outcome x room told new output r after → Outcome x room told new output r' after' → (r ≡ r') × (after ≡ after')
unfolding Outcome
outcome_once (Some clash) room told new output r r' after after' x y =
    (refusal_once r r' Collision clash.segment clash.byte clash.element (omega arith) x.0 y.0, x.1 ∙ sym y.1)
outcome_once None false told new output r r' after after' x y = (refusal_once r r' ShortOutput 0 0 0 (omega arith) x.0 y.0, x.1 ∙ sym y.1)
outcome_once None true told new output r r' after after' x y = (x.0 ∙ sym y.0, x.1 ∙ sym y.1)

module _ (profile : ProfileName) (old new : Separators) (s : Bytes) (before : Tables) (output : Bytes) where
  -- an accepted reading has one numbering, and the rest follows from its segments
  reading_once : (answer : Answer) (r r' : Answer) (after after' : Bytes) → AfterReading profile old new s answer output r after
      → AfterReading profile old new s answer output r' after' → (r ≡ r') × (after ≡ after')
  reading_once (Ok a) r r' after after' x y =
      let gs = (numbering_once (strictly profile old) s x.gs y.gs x.rows y.rows x.numbering y.numbering).0 in
      outcome_once (collision old new 1 y.gs) (leb a.bytes (length output)) (Ok a) (rewritten old new y.gs) output r r' after after'
      (subst (λ (gs : List Placed). OutcomeOf old new gs (Ok a) a.bytes output r after) gs
      x.outcome)
      y.outcome
  reading_once (Err refusal) r r' after after' x y = (x.0 ∙ sym y.0, x.1 ∙ sym y.1)

  -- the answer, the tables and the output of a rewriting are one
  pub rewrites_once : (r r' : Answer) (tables tables' : Tables) (after after' : Bytes) → Rewrites profile old new s before output r tables after
      → Rewrites profile old new s before output r' tables' after' → (r ≡ r') × (tables ≡ tables') × (after ≡ after')
  unfolding Rewrites
  rewrites_once r r' tables tables' after after' x y = fit (fit_separators old) (fit_separators new) x y
    where
      unfit : (e : ℕ) → Unfit e before output r tables after → Unfit e before output r' tables' after' → (r ≡ r') × (tables ≡ tables') × (after ≡ after')
      unfit e x y = (refusal_once r r' UnfitSeparators 0 0 e (omega arith) x.answer y.answer, x.tables_kept ∙ sym y.tables_kept, x.output_kept ∙ sym y.output_kept)

      read : Rewriting profile old new s before output r tables after → Rewriting profile old new s before output r' tables' after'
          → (r ≡ r') × (tables ≡ tables') × (after ≡ after')
      read x y =
          let first = reads_once (profile_named profile) (strictly profile old) s before x.answer y.answer tables tables' x.reads y.reads in
          let then =
          reading_once y.answer r r' after after' (subst (λ (a : Answer). AfterReading profile old new s a output r after) first.0 x.follows)
          y.follows in
          (then.0, first.1, then.1)

      fit : (old_fit new_fit : Bool) → RewritesFit old_fit new_fit profile old new s before output r tables after
          → RewritesFit old_fit new_fit profile old new s before output r' tables' after' → (r ≡ r') × (tables ≡ tables') × (after ≡ after')
      fit false new_fit x y = unfit 0 x y
      fit true false x y = unfit 1 x y
      fit true true x y = read x y

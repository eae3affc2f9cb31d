-- Condition 1 for rewriting: every input has an answer that the promise allows, and every answer is one of the list.
-- Assumes nothing.
use Prim.Native.Nat.{ℕ}
use mathlib.Core.Path.{refl}
use mathlib.Core.Logic.{⊎_elim, inl, inr}
use mathlib.Core.Bool.{Bool, true, false}
use mathlib.Core.List.{◌++◌}
use native.Mathlib.Omega.{arith}
use lib.Dec.{leb}
use lib.ListN.{length, drop}
use Rattle.std.specs.Prelude.{Option, Some, None, Ok, Err}
use Rattle.text.specs.Bytes.{Bytes}
use Rattle.text.specs.Separators.{fit_separators}
use Rattle.text.specs.declared.separators.Separators.{Separators}
use Rattle.rows.specs.declared.profile.ProfileName.{ProfileName}
use Rattle.gate.specs.Answers.{Answer, refused, Listed}
use Rattle.gate.specs.Records.{Tables}
use Rattle.gate.specs.Reads.{Reads}
use Rattle.gate.proofs.reading.Numbers.{refusal_of}
use Rattle.gate.proofs.conditions.Conditions.{accepted_numbered, answered}
use Rattle.gate.proofs.reading.Listing.{listed}
use Rattle.rewriting.specs.Rewrites.{strictly, rewritten, collision, Outcome, AfterReading, Unfit, RewritesFit, Rewrites}
use Rattle.rewriting.specs.declared.collisions.Clash.{Clash}
use Rattle.rewriting.specs.Conditions.{RewritingListed}
use Rattle.elements.specs.declared.verdict.Reason.TheVariants.{UnfitSeparators, Collision, ShortOutput}

-- some answer and output
outcome_some : (x : Option Clash) (room : Bool) (told : Answer) (new output : Bytes) → (r : Answer) × (after : Bytes) × Outcome x room told new output r after
unfolding Outcome
outcome_some (Some clash) room told new output = (refused Collision clash.segment clash.byte clash.element, output, (refl, refl))
outcome_some None false told new output = (refused ShortOutput 0 0 0, output, (refl, refl))
outcome_some None true told new output = (told, new ++ drop (length new) output, (refl, refl))

module _ (profile : ProfileName) (old new : Separators) (s : Bytes) (before : Tables) (output : Bytes) where
  reading_some : (answer : Answer) (tables : Tables) → Reads (strictly profile old) s before answer tables
      → (r : Answer) × (after : Bytes) × AfterReading profile old new s answer output r after
  reading_some (Ok a) tables x =
      let m = accepted_numbered (strictly profile old) s before a.segments a.levels a.bytes tables x in
      let o = outcome_some (collision old new 1 m.gs) (leb a.bytes (length output)) (Ok a) (rewritten old new m.gs) output in
      (o.0, o.1, record { gs = m.gs; rows = m.rows; numbering = m.numbering; outcome = o.2 })
  reading_some (Err refusal) tables x = (Err refusal, output, (refl, refl))

  -- every input, both sets of separators, every tables and every output have an answer that the promise allows
  pub rewriting_answered : (r : Answer) × (tables : Tables) × (after : Bytes) × Rewrites profile old new s before output r tables after
  unfolding Rewrites
  rewriting_answered = fit (fit_separators old) (fit_separators new)
    where
      fit : (old_fit new_fit : Bool)
          → (r : Answer) × (tables : Tables) × (after : Bytes) × RewritesFit old_fit new_fit profile old new s before output r tables after
      fit false new_fit = (refused UnfitSeparators 0 0 0, before, output, record { answer = refl; tables_kept = refl; output_kept = refl })
      fit true false = (refused UnfitSeparators 0 0 1, before, output, record { answer = refl; tables_kept = refl; output_kept = refl })
      fit true true =
          let a = answered (strictly profile old) s before in
          let f = reading_some a.0 a.1 a.2 in
          (f.0, a.1, f.1, record { answer = a.0; reads = a.2; follows = f.2 })

-- an answer of reading's list is one of rewriting's
wider : (profile : ProfileName) (r : Answer) → Listed profile r → RewritingListed profile r
wider profile (Ok a) x = tt
wider profile (Err refusal) x = (omega (arith, x.0), ⊎_elim (λ u. inl (omega (arith, u))) (λ u. inr u) x.1)

outcome_listed : (profile : ProfileName) (x : Option Clash) (room : Bool) (told : Answer) (new output : Bytes) (r : Answer) (after : Bytes) → RewritingListed profile told
    → Outcome x room told new output r after → RewritingListed profile r
unfolding Outcome
outcome_listed profile (Some clash) room told new output r after l x =
    rw (refusal_of r Collision clash.segment clash.byte clash.element (omega arith) x.0) (omega arith, inl (omega arith))
outcome_listed profile None false told new output r after l x = rw (refusal_of r ShortOutput 0 0 0 (omega arith) x.0) (omega arith, inl (omega arith))
outcome_listed profile None true told new output r after l x = rw x.0 l

module _ (profile : ProfileName) (old new : Separators) (s : Bytes) (before : Tables) (output : Bytes) (r : Answer) (tables : Tables) (after : Bytes) where
  reading_listed : (answer : Answer) → RewritingListed profile answer → AfterReading profile old new s answer output r after → RewritingListed profile r
  reading_listed (Ok a) h x =
      outcome_listed profile (collision old new 1 x.gs) (leb a.bytes (length output)) (Ok a) (rewritten old new x.gs) output r after h x.outcome
  reading_listed (Err refusal) h x = rw x.0 h

  -- every answer is one of the list
  pub rewriting_listed : Rewrites profile old new s before output r tables after → RewritingListed profile r
  unfolding Rewrites
  rewriting_listed x = fit (fit_separators old) (fit_separators new) x
    where
      unfit : (e : ℕ) → Unfit e before output r tables after → RewritingListed profile r
      unfit e x = rw (refusal_of r UnfitSeparators 0 0 e (omega arith) x.answer) (omega arith, inl (omega arith))

      fit : (old_fit new_fit : Bool) → RewritesFit old_fit new_fit profile old new s before output r tables after → RewritingListed profile r
      fit false new_fit x = unfit 0 x
      fit true false x = unfit 1 x
      fit true true x = reading_listed x.answer (wider profile x.answer (listed (strictly profile old) s before x.answer tables x.reads)) x.follows

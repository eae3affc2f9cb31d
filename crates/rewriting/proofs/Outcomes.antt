-- The ways in which rewriting ends, each as the promise says it.
-- Assumes nothing.
use Prim.Native.Nat.{ℕ, ◌+◌, ◌≤◌, ◌<◌}
use mathlib.Core.Path.{◌≡◌, refl, ap, ◌∙◌}
use mathlib.Core.Bool.{true, false}
use mathlib.Core.List.{List, ◌++◌}
use native.Mathlib.Omega.{arith}
use lib.ListN.{length, drop}
use borrow.Author.Tests.{le-leb, lt-leb}
use Rattle.std.specs.Prelude.{Option, Some, None, Ok, Err}
use Rattle.text.specs.Bytes.{Bytes}
use Rattle.text.specs.Separators.{fit_separators}
use Rattle.text.specs.declared.separators.Separators.{Separators}
use Rattle.rows.specs.declared.profile.ProfileName.{ProfileName}
use Rattle.gate.specs.Answers.{Answer, refused}
use Rattle.gate.specs.declared.answer.Accepted.{Accepted}
use Rattle.gate.specs.declared.answer.Refusal.{Refusal}
use Rattle.gate.specs.Records.{Tables}
use Rattle.gate.specs.Reads.{Reads}
use Rattle.rewriting.specs.Rewrites.{strictly, rewritten, collision, Outcome, OutcomeOf, Rewrites}
use Rattle.rewriting.specs.declared.collisions.Clash.{Clash}
use Rattle.rewriting.specs.internal.SegmentTable.{segments_from}
use Rattle.rewriting.specs.internal.Output.{put_at}
use Rattle.rewriting.proofs.AcceptedTable.{accepting}
use Rattle.elements.specs.declared.verdict.Reason.TheVariants.{UnfitSeparators, Collision, ShortOutput}

-- after an accepted reading: 18, 19, and the bytes written
module _ (old new : Separators) (s : Bytes) (table : List ℕ) (told : Accepted) (output : Bytes) where
  abbrev found : Option Clash
  found = collision old new 1 (segments_from s table 0 told.segments)

  abbrev again : Bytes
  again = rewritten old new (segments_from s table 0 told.segments)

  abbrev EndsSo : Answer → Bytes → Type 0
  EndsSo r after = OutcomeOf old new (segments_from s table 0 told.segments) (Ok told) told.bytes output r after

  pub collided : (clash : Clash) → Some clash ≡ found → EndsSo (refused Collision clash.segment clash.byte clash.element) output
  unfolding Outcome
  collided clash e = rw (← e) (refl, refl)

  pub too_short : None ≡ found → length output < told.bytes → EndsSo (refused ShortOutput 0 0 0) output
  unfolding Outcome
  too_short e l = rw (← e, lt-leb told.bytes (length output) l) (refl, refl)

  pub put : None ≡ found → told.bytes ≤ length output → (after : Bytes) → after ≡ put_at 0 again output → EndsSo (Ok told) after
  unfolding Outcome
  put e l after w =
      let same : 0 + length again ≡ length again = omega arith in
      rw (← e, le-leb told.bytes (length output) l) (refl, w ∙ ap (λ (k : ℕ). again ++ drop k output) same)

-- the two sets are tested, and the transaction is read
module _ (profile : ProfileName) (old new : Separators) (s : Bytes) (before : Tables) (output : Bytes) where
  pub old_unfit : fit_separators old ≡ false → Rewrites profile old new s before output (refused UnfitSeparators 0 0 0) before output
  unfolding Rewrites
  old_unfit e = rw e (record { answer = refl; tables_kept = refl; output_kept = refl })

  module _ (old-fits : fit_separators old ≡ true) where
    pub new_unfit : fit_separators new ≡ false → Rewrites profile old new s before output (refused UnfitSeparators 0 0 1) before output
    unfolding Rewrites
    new_unfit e = rw (old-fits, e) (record { answer = refl; tables_kept = refl; output_kept = refl })

    module _ (new-fits : fit_separators new ≡ true) (tables : Tables) where
      pub reading_refused : (refusal : Refusal) → Reads (strictly profile old) s before (Err refusal) tables
          → Rewrites profile old new s before output (Err refusal) tables output
      unfolding Rewrites
      reading_refused refusal x =
          rw (old-fits, new-fits) (record { answer = Err refusal; reads = x; follows = (refl, refl) })

      pub reading_accepted : (told : Accepted) → Reads (strictly profile old) s before (Ok told) tables → (r : Answer) (after : Bytes)
          → OutcomeOf old new (segments_from s tables.segments 0 told.segments) (Ok told) told.bytes output r after
          → Rewrites profile old new s before output r tables after
      unfolding Rewrites
      reading_accepted told x r after y =
          rw (old-fits, new-fits)
          (record { answer = Ok told; reads = x; follows = accepting profile old s before told.segments told.levels told.bytes tables x new output r after y })

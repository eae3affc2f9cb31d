-- Answers 1 and 2 come before anything; without them the promise is that of the segments.
-- Assumes nothing.
use Prim.Native.Nat.{◌≤◌, ◌<◌}
use mathlib.Core.Path.{◌≡◌, refl, sym, ◌∙◌}
use mathlib.Core.Bool.{Bool, true, false, not}
use lib.ListN.{length}
use borrow.Author.Tests.{le-leb, lt-leb, not-true, not-false}
use Rattle.text.specs.Bytes.{Bytes}
use Rattle.text.specs.Separators.{fit_separators}
use Rattle.gate.specs.Profile.{profile_of}
use Rattle.gate.specs.Records.{Tables}
use Rattle.gate.specs.Reads.{limit, Read, Reads, ReadsBy}
use Rattle.gate.specs.Answers.{Answer, refused}
use Rattle.gate.specs.declared.how.How.{How}
use Rattle.elements.specs.declared.verdict.Reason.TheVariants.{UnfitSeparators, TooLong}

module _ (how : How) (s : Bytes) (before : Tables) where
  -- 1, as the separators are, and as a test of them says
  pub unfit_answered : fit_separators how.separators ≡ false → Reads how s before (refused UnfitSeparators 0 0 0) before
  unfolding ReadsBy
  unfit_answered e = rw e (record { answer = refl; unchanged = refl })

  pub unfit_refuses : (b : Bool) → b ≡ fit_separators how.separators → not b ≡ true → Reads how s before (refused UnfitSeparators 0 0 0) before
  unfit_refuses b e n = unfit_answered (sym e ∙ not-true b n)

  -- 2, likewise
  pub long_answered : fit_separators how.separators ≡ true → limit < length s → Reads how s before (refused TooLong 0 0 0) before
  unfolding ReadsBy
  long_answered e l = rw (e, lt-leb (length s) limit l) (record { answer = refl; unchanged = refl })

  pub long_refuses : (b : Bool) → b ≡ fit_separators how.separators → not b ≡ false → limit < length s → Reads how s before (refused TooLong 0 0 0) before
  long_refuses b e n l = long_answered (sym e ∙ not-false b n) l

  -- the segments decide, likewise
  pub segments_answer : fit_separators how.separators ≡ true → length s ≤ limit → (r : Answer) (after : Tables)
      → Read (profile_of how) how s before r after → Reads how s before r after
  unfolding ReadsBy
  segments_answer e l r after x = rw (e, le-leb (length s) limit l) x

  pub segments_decide : (b : Bool) → b ≡ fit_separators how.separators → not b ≡ false → length s ≤ limit → (r : Answer) (after : Tables)
      → Read (profile_of how) how s before r after → Reads how s before r after
  segments_decide b e n l r after x = segments_answer (sym e ∙ not-false b n) l r after x

-- What a rewriting that is not refused has done.
-- Assumes nothing.
use Prim.Native.Nat.{ℕ, ◌≤◌}
use mathlib.Core.Path.{◌≡◌, refl, ap}
use mathlib.Core.Bool.{Bool, true, false}
use mathlib.Core.List.{List, ◌++◌, head-eq_of_cons-eq}
use native.Mathlib.Omega.{arith}
use lib.Dec.{T, leb}
use lib.ListN.{length, drop}
use borrow.Author.Tests.{leb-true}
use Rattle.std.specs.Prelude.{Option, Some, None, Ok, Err}
use Rattle.text.specs.Bytes.{Bytes}
use Rattle.text.specs.Separators.{fit_separators}
use Rattle.text.specs.Cut.{Placed}
use Rattle.text.specs.declared.separators.Separators.{Separators}
use Rattle.rows.specs.declared.profile.ProfileName.{ProfileName}
use Rattle.gate.specs.Answers.{Answer, accepted}
use Rattle.gate.specs.Records.{Tables}
use Rattle.gate.specs.Reads.{Reads}
use Rattle.gate.specs.Conditions.{Numbering}
use Rattle.rewriting.specs.Rewrites.{strictly, rewritten, collision, Outcome, AfterReading, RewritesFit, Rewrites}
use Rattle.rewriting.specs.declared.collisions.Clash.{Clash}
use Rattle.rewriting.proofs.AcceptedTable.{bytes_of}

pub record Success (profile : ProfileName) (old new : Separators) (s : Bytes) (before : Tables) (output : Bytes) (a l b : ℕ) (tables : Tables) (after : Bytes) : Type 0 where
  pub old_fit : T (fit_separators old)
  pub new_fit : T (fit_separators new)
  pub reads : Reads (strictly profile old) s before (accepted a l b) tables
  pub gs : List Placed
  pub rows : List ℕ
  pub numbering : Numbering (strictly profile old) s gs rows
  pub apart : collision old new 1 gs ≡ None
  pub room : b ≤ length output
  pub output_is : after ≡ rewritten old new gs ++ drop (length (rewritten old new gs)) output

-- 18 and 19 are ruled out
record Written (x : Option Clash) (room : Bool) (told : Answer) (new output : Bytes) (r : Answer) (after : Bytes) : Type 0 where
  none : x ≡ None
  fits : room ≡ true
  same : r ≡ told
  output_is : after ≡ new ++ drop (length new) output

outcome_written : (x : Option Clash) (room : Bool) (told : Answer) (new output : Bytes) (a l b : ℕ) (after : Bytes)
    → Outcome x room told new output (accepted a l b) after → Written x room told new output (accepted a l b) after
unfolding Outcome
outcome_written (Some clash) room told new output a l b after x = absurd (omega (arith, head-eq_of_cons-eq x.0))
outcome_written None false told new output a l b after x = absurd (omega (arith, head-eq_of_cons-eq x.0))
outcome_written None true told new output a l b after x = record { none = refl; fits = refl; same = x.0; output_is = x.1 }

module _ (profile : ProfileName) (old new : Separators) (s : Bytes) (before : Tables) (output : Bytes) (a l b : ℕ) (tables : Tables) (after : Bytes) where
  -- and the reading's refusals
  reading_success : T (fit_separators old) → T (fit_separators new) → (answer : Answer) → Reads (strictly profile old) s before answer tables
      → AfterReading profile old new s answer output (accepted a l b) after → Success profile old new s before output a l b tables after
  reading_success old_fit new_fit (Err refusal) reads x = absurd (let e = x.0 in cc)
  reading_success old_fit new_fit (Ok told) reads x =
      let w =
      outcome_written (collision old new 1 x.gs) (leb told.bytes (length output)) (Ok told) (rewritten old new x.gs) output a l b after x.outcome in
      let bytes : b ≡ told.bytes = ap bytes_of w.same in
      record {
        old_fit = old_fit;
        new_fit = new_fit;
        reads = rw w.same reads;
        gs = x.gs;
        rows = x.rows;
        numbering = x.numbering;
        apart = w.none;
        room = omega (arith, bytes, leb-true told.bytes (length output) w.fits);
        output_is = w.output_is;
      }

  pub succeeded : Rewrites profile old new s before output (accepted a l b) tables after → Success profile old new s before output a l b tables after
  unfolding Rewrites
  succeeded x = fit (fit_separators old) (fit_separators new) refl refl x
    where
      fit : (old_fit new_fit : Bool) → fit_separators old ≡ old_fit → fit_separators new ≡ new_fit
          → RewritesFit old_fit new_fit profile old new s before output (accepted a l b) tables after → Success profile old new s before output a l b tables after
      fit false new_fit p q x = absurd (omega (arith, head-eq_of_cons-eq x.answer))
      fit true false p q x = absurd (omega (arith, head-eq_of_cons-eq x.answer))
      fit true true p q x = reading_success (rw p tt) (rw q tt) x.answer x.reads x.follows

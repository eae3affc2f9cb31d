-- What the reader knows before each segment: where it stands, and that the queue serves the next cut.
-- Assumes nothing.
use Rattle.std.specs.Prelude.{ℕ, ◌≡◌, Bool, List, length}
use Rattle.text.specs.Bytes.{Bytes}
use Rattle.gate.specs.Records.{Tables}
use Rattle.reading.specs.internal.Queue.{Ready}
use Rattle.reading.specs.internal.Between.{start_at}
use Rattle.reading.specs.internal.Settling.{Stands}
use Rattle.gate.specs.declared.how.How.{How}
use Rattle.reading.specs.declared.cutting.Left.{Left}
use Rattle.reading.specs.declared.judging.State.{State}

-- `behind` is the start of the bytes, or the place behind the last terminator
pub record Going (how : How) (s : Bytes) (specials : List Bool) (before : Tables) (segments levels lasts queue starts : List ℕ) (behind : ℕ) (left : Left)
    (state : State) : Type 0 where
  pub stands : Stands how before s segments levels lasts (start_at how s behind) state
  pub ready : Ready specials s behind queue left.head left.tail left.seen
  pub room : length starts ≡ 33

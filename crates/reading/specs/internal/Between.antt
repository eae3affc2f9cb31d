-- Between two segments: where the next one starts, and that the queue serves it.
-- Assumes nothing.
use Rattle.std.specs.Prelude.{ℕ, zero, suc, ◌+◌, ◌<◌, ◌≡◌, Bool, true, List, length, drop, get_or}
use Rattle.text.specs.Bytes.{Bytes}
use Rattle.text.specs.Bin.{begins_bin}
use Rattle.gate.specs.Reads.{skip_by}
use Rattle.gate.specs.declared.how.How.{How}
use Rattle.reading.specs.internal.SpecialBytes.{is_special_in, SpecialTable}
use Rattle.reading.specs.internal.Queue.{Ready}
use Rattle.reading.specs.declared.cutting.Onward.{Onward}
use Rattle.reading.specs.declared.cutting.Left.{Left}

-- how many bytes are skipped at that place: none at the start of the bytes
abbrev pub skipped_at : How → Bytes → ℕ → ℕ
skipped_at how s zero = 0
skipped_at how s (suc n) = skip_by how (drop (suc n) s)

-- where the next segment starts: past them
abbrev pub start_at : How → Bytes → ℕ → ℕ
start_at how s place = place + skipped_at how s place

-- what is left of the queue serves a cut at `at`
abbrev pub Serves : List Bool → Bytes → ℕ → List ℕ → Left → Type 0
Serves table s at queue left = Ready table s at queue left.head left.tail left.seen

-- behind the special byte at `at` the queue serves again
abbrev pub PastSpecial : ℕ → Left → Left → Type 0
PastSpecial at left r = (table : List Bool) (s : Bytes) (queue : List ℕ) → at < length s → is_special_in table (get_or s at 0) ≡ true
    → Serves table s at queue left → Serves table s (at + 1) queue r

-- the start of the next segment, where the queue serves, and whether a BIN begins there
pub record Starts (how : How) (s : Bytes) (place : ℕ) (left : Left) (r : Onward) : Type 0 where
  pub start : r.at ≡ start_at how s place
  pub ready : (table : List Bool) (queue : List ℕ) → SpecialTable how.separators table → Serves table s place queue left
      → Serves table s r.at queue r.left
  pub bin_told : r.bin ≡ begins_bin how.separators.element (drop r.at s)

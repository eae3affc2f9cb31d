-- Whether a value fits: a length, and then the type; and the text of three bytes.
-- Assumes nothing.
use Prim.Native.Nat.{ℕ, ◌≤◌}
use mathlib.Core.Path.{◌≡◌}
use borrow.Author.Tests.{le-leb}
use Rattle.text.specs.Bytes.{Bytes}
use Rattle.types.specs.Types.{is_of, size_of, fits}
use Rattle.types.specs.declared.kind.Kind.{Kind}

-- a length, and then the type
pub fits_by : (kind : Kind) (least most : ℕ) (s : Bytes) (size : ℕ) → size ≡ size_of kind s → least ≤ size → size ≤ most
    → is_of kind s ≡ fits kind least most s
unfolding fits
fits_by kind least most s size e l m = rw (← e, le-leb least size l, le-leb size most m)

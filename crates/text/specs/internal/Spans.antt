-- Where the pieces of bytes stand, the elements of a whole BIN, by where BIN02 starts and the segment ends, and the parts of an element that is
-- one component.
-- Assumes nothing.
use Rattle.std.specs.Prelude.{ℕ, ◌+◌, ◌-◌, cond, leb, eqb, length}
use Rattle.text.specs.Bytes.{Bytes}
use Rattle.text.specs.Pieces.{pieces}
use Rattle.text.specs.Lookup.{span, span_among}
use Rattle.text.specs.declared.lookup.Span.{Span}

-- piece number n, from 0
unfoldable pub piece_span : ℕ → Bytes → ℕ → Span
piece_span sep s n = span_among sep (pieces sep s) (length s) n

abbrev pub bin_span : (attached end number : ℕ) → Span
bin_span attached end number =
    cond (eqb number 0) (span 0 3) (cond (eqb number 1) (span 4 (attached - 5)) (cond (eqb number 2) (span attached (end - attached)) (span end 0)))

-- parts 0 and 1 are all of it, and any other is the empty part at its end
unfoldable pub only_span : Span → ℕ → Span
only_span whole part = cond (leb part 1) whole (span (whole.start + whole.len) 0)

-- Where a part of a segment stands, and what the lookup hands back. Document 02, Item 8.
-- Assumes nothing.
use Rattle.std.specs.Prelude.{ℕ, zero, suc, ◌+◌, ◌≡◌, cond, List, [], ltb, length, take, drop, get_or}
use Rattle.std.specs.Borrow.{Bor}
use Rattle.text.specs.Bytes.{Bytes}
use Rattle.text.specs.Pieces.{closed}
use Rattle.text.specs.Bin.{count_in, is_bin}
use Rattle.text.specs.View.{view_of, elements_of, element_of}
use Rattle.text.specs.declared.lookup.Span.{Span}
use Rattle.text.specs.declared.separators.Separators.{Separators}

abbrev pub span : ℕ → ℕ → Span
span start len = record { start = start; len = len }

-- of pieces, number n, from 0: it starts behind the pieces before it, each with its separator; behind the last piece there is an empty part, at
-- the end
abbrev pub span_among : ℕ → List Bytes → ℕ → ℕ → Span
span_among sep ps end n = cond (ltb n (length ps)) (span (length (closed sep (take n ps))) (length (get_or ps n []))) (span end 0)

-- an element of a segment by its number; the tag is number 0
unfoldable pub element_span : ℕ → Bytes → ℕ → Span
element_span sep segment n = span_among sep (elements_of sep segment) (length segment) n

-- a span within another, from where that one starts
abbrev pub span_within : Span → Span → Span
span_within outer inner = span (outer.start + inner.start) inner.len

-- a part of a segment, by the number of its element and its own: part 0 is the whole element, part 1 the first component. Behind the last
-- component there is an empty part, at the element's end. The components are those of the view, so that BIN02 is one
unfoldable pub part_span : Separators → Bytes → (number part : ℕ) → Span
part_span q segment number zero = element_span q.element segment number
part_span q segment number (suc k) =
    span_within (element_span q.element segment number)
    (span_among q.component (element_of (view_of q segment) number) (element_span q.element segment number).len k)

-- the bytes of a span
abbrev pub part_of : Bytes → Span → Bytes
part_of s p = take p.len (drop p.start s)

-- the bytes of that part
abbrev pub part_in : Separators → Bytes → (number part : ℕ) → Bytes
part_in q segment number part = part_of segment (part_span q segment number part)

-- `part` is that span of the lent slice `whole`: the same memory, from the start on, as many bytes as the span has
pub record PartAt (whole part : Bor Bytes) (p : Span) : Type 0 where
  pub block : part.ref_ptr.0 ≡ whole.ref_ptr.0
  pub place : part.ref_ptr.1 ≡ whole.ref_ptr.1 + p.start
  pub content : part.now ≡ part_of whole.now p

-- where BIN02 of a whole BIN starts; of any other segment the end
unfoldable pub attached_from : ℕ → Bytes → ℕ
attached_from sep segment = cond (is_bin sep segment) (length (count_in sep segment) + 5) (length segment)

-- Two answers that a promise of this crate allows are equal.
-- Assumes nothing.
use mathlib.Core.Path.{◌≡◌, sym, ◌∙◌}
use denote.Ref.{Bor}
use Rattle.text.specs.Bytes.{Bytes}
use Rattle.text.specs.Lookup.{PartAt}
use Rattle.text.specs.declared.lookup.Span.{Span}

-- for every promise that equates the answer with a definition
pub equation_once : {A : Type 0} {x y z : A} → x ≡ z → y ≡ z → x ≡ y
equation_once p q = p ∙ sym q

-- a part that is handed back is the same bytes at the same place
pub part_once : (whole : Bor Bytes) (p : Span) (x y : Bor Bytes) → PartAt whole x p → PartAt whole y p → (x.ref_ptr ≡ y.ref_ptr) × (x.now ≡ y.now)
part_once whole p x y a b =
    let block = a.block ∙ sym b.block in
    let place = a.place ∙ sym b.place in
    (λ i. (block i, place i), a.content ∙ sym b.content)

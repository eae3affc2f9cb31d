-- A segment is searched for a collision byte by byte.
-- Assumes nothing.
use Prim.Native.Nat.{ℕ, ◌+◌, ◌≤◌, ◌<◌}
use mathlib.Core.Path.{◌≡◌, refl, sym, ap, ◌∙◌}
use mathlib.Core.Bool.{Bool, true, false, not, cond, ◌&&◌, ◌||◌}
use mathlib.Core.List.{[], ◌∷◌}
use native.Mathlib.Omega.{arith}
use native.Mathlib.Numerals.{add-one}
use lib.Dec.{T, eqb}
use lib.ListN.{length, get_or, drop, drop_of_length-le}
use lib.Seq.{drop-cons}
use borrow.Author.Tests.{eq-eqb, ne_eqb}
use Rattle.text.specs.Bytes.{Bytes, bytes, every}
use Rattle.text.specs.Separators.{is_digit, is_id_byte, is_separator, Fitted}
use Rattle.text.specs.Bin.{count_in, attached_in, is_bin}
use Rattle.text.specs.View.{View, plain_view, view_of, inspected}
use Rattle.text.specs.declared.separators.Separators.{Separators}
use Rattle.text.proofs.Bools.{first_of, passes}
use Rattle.text.proofs.Everys.{every_weaker}
use Rattle.text.proofs.Bins.{bin_parts}
use Rattle.text.proofs.View.{clean_unseparated}
use Rattle.text.proofs.BinView.{bin_view, view_bin, view_plain, inspected_bin}
use Rattle.text.proofs.Serving.{id_bytes_free, digit_id_byte}
use Rattle.elements.specs.Checks.{Verdict, Holds, broken, first_broken}
use Rattle.elements.proofs.Bytewise.{bad_from, each_bad}
use Rattle.rewriting.specs.Rewrites.{apart_from, apart_checks, collision_checks}
use Rattle.rewriting.specs.internal.CutOff.{AsCut}
use Rattle.elements.specs.declared.verdict.Reason.TheVariants.{Collision}

-- the first data byte that is one of these separators, where k element separators of the old set stand before
abbrev pub clash_from : (old new : Separators) (k : ℕ) → Bytes → Verdict
clash_from old new k s = bad_from Collision (λ (b : ℕ). not (is_separator new b)) old.element old.component k s

pub clash_first : (old new : Separators) (segment : Bytes) → first_broken (apart_checks new (plain_view old segment)) ≡ clash_from old new 0 segment
clash_first old new segment = each_bad Collision (λ (b : ℕ). not (is_separator new b)) old segment

-- of a segment that is no BIN every piece is tested
pub plain_checks : (old new : Separators) (segment : Bytes) → is_bin old.element segment ≡ false → AsCut old segment
    → collision_checks new (view_of old segment) ≡ apart_checks new (plain_view old segment)
unfolding collision_checks
plain_checks old new segment n c = ap (λ (v : View). apart_checks new (inspected v)) (view_plain old segment n) ∙ ap (apart_checks new) (c n)

-- of a whole BIN its tag and its count, and neither collides
pub bin_apart : (old new : Separators) (segment : Bytes) → is_bin old.element segment ≡ true → Fitted new
    → Holds ≡ first_broken (collision_checks new (view_of old segment))
unfolding collision_checks
bin_apart old new segment h fit =
    let d = count_in old.element segment in
    let digits = (bin_parts old.element segment (rw h tt)).counted.digits in
    rw (
      view_bin old segment h,
      inspected_bin (bin_view d (attached_in old.element segment)) refl,
      passes (apart_from new (bytes "BIN" ∷ [])) (id_bytes_apart new fit (bytes "BIN") tt),
      passes (apart_from new (d ∷ [])) (id_bytes_apart new fit d (every_weaker is_digit is_id_byte digit_id_byte d digits)),
    )
  where
    -- capitals and digits are no separators
    id_bytes_apart : (q : Separators) → Fitted q → (s : Bytes) → T (every is_id_byte s) → T (apart_from q (s ∷ []))
    id_bytes_apart q fit s t =
        first_of (apart_from q (s ∷ [])) true
        (clean_unseparated q ((s ∷ []) ∷ []) ((id_bytes_free q.element fit.element_serves s t, tt), tt)
        ((id_bytes_free q.component fit.component_serves s t, tt), tt) ((id_bytes_free q.terminator fit.terminator_serves s t, tt), tt))

-- a byte that does not collide, as the code tests it
tested : (x y : Bool) → x || not y ≡ not (not x && y)
tested true y = refl
tested false y = refl

module _ (old new : Separators) (segment : Bytes) where
  abbrev found : Verdict
  found = first_broken (collision_checks new (view_of old segment))

  -- no byte before i collides, and the byte at i stands in this element
  pub record ApartTo (element i : ℕ) : Type 0 where
    pub so_far : found ≡ clash_from old new element (drop i segment)
    pub few : element ≤ i

  pub apart_none : is_bin old.element segment ≡ false → AsCut old segment → ApartTo 0 0
  apart_none n c = record { so_far = ap first_broken (plain_checks old new segment n c) ∙ clash_first old new segment; few = omega arith }

  module _ {element i : ℕ} (a : ApartTo element i) where
    pub apart_all : length segment ≤ i → Holds ≡ found
    apart_all l = sym (a.so_far ∙ rw (drop_of_length-le segment {i = i} l))

    -- the byte at i
    module _ (inside : i < length segment) where
      abbrev byte : ℕ
      byte = get_or segment i 0

      pub apart_behind : byte ≡ old.element → ApartTo (element + 1) (i + 1)
      apart_behind e = record {
        so_far = a.so_far ∙ rw (add-one i, add-one element, drop-cons segment i 0 inside, eq-eqb byte old.element e);
        few = omega (arith, a.few);
      }

      module _ (other : byte ≡ old.element → ⊥) where
        by_test : (t : Bool) → not (eqb byte old.component) && is_separator new byte ≡ t
            → found ≡ cond (not t) (clash_from old new element (drop (i + 1) segment)) (broken Collision element)
        by_test t e =
            a.so_far
            ∙ rw (add-one i, drop-cons segment i 0 inside, ne_eqb byte old.element other, tested (eqb byte old.component) (is_separator new byte), e)

        pub apart_more : not (eqb byte old.component) && is_separator new byte ≡ false → ApartTo element (i + 1)
        apart_more e = record { so_far = by_test false e; few = omega (arith, a.few) }

        pub apart_not : not (eqb byte old.component) && is_separator new byte ≡ true → broken Collision element ≡ found
        apart_not e = sym (by_test true e)

-- The layout of a segment in the bytes describes the segment's own elements, up to element 31, and, where it is no BIN, its view and so the same
-- verdict.
-- Assumes nothing.
use Prim.Native.Nat.{ℕ, suc, ◌+◌, ◌-◌, ◌≤◌, ◌<◌}
use mathlib.Core.Path.{◌≡◌, refl, sym, ap, ap₂, ◌∙◌}
use mathlib.Core.Logic.{by_cases}
use mathlib.Core.Bool.{Bool, true, false, cond}
use mathlib.Core.List.{List, []}
use native.Mathlib.Omega.{arith}
use native.Mathlib.Decide.{dec_lt}
use native.Mathlib.Nat.{add-sub_cancel_left}
use lib.Dec.{ltb}
use lib.ListN.{length, take, drop, get_or, length-map, get_or-map, get_or-eq_default}
use borrow.Author.Tests.{lt-ltb, le-ltb, lt-leb, le-leb}
use Rattle.text.specs.Bytes.{Bytes}
use Rattle.text.specs.Pieces.{pieces, joined}
use Rattle.text.proofs.Pieces.{clean_at, pieces_free}
use Rattle.text.specs.internal.Search.{Free}
use Rattle.text.specs.Bin.{is_bin}
use Rattle.text.specs.View.{View, view_of, elements_of, element_of, element_count}
use Rattle.text.specs.Lookup.{element_span}
use Rattle.text.specs.declared.separators.Separators.{Separators}
use Rattle.text.specs.declared.lookup.Span.{Span}
use Rattle.text.proofs.Spans.{part_of_part}
use Rattle.text.proofs.Ends.{next_start, last_end}
use Rattle.text.proofs.BinView.{view_plain, elements_plain}
use Rattle.text.proofs.BinSpans.{elements_joined, lies_element}
use Rattle.text.proofs.View.{free_pieces}
use Rattle.elements.specs.Checks.{first_broken}
use Rattle.rows.specs.declared.profile.ProfileName.{ProfileName}
use Rattle.elements.specs.Data.{element_profile}
use Rattle.elements.specs.Rules.{ruled_checks}
use Rattle.elements.specs.internal.Layouts.{element_in, part_between, piece_in, components_by, layout_view}
use Rattle.elements.specs.declared.layout.Layout.{Layout}
use Rattle.elements.proofs.ByLayout.{part_inside, view_count, view_element, view_at, at_past}
use Rattle.ruling.proofs.UpTo31.{ruled_agree}

-- the layout is of this segment: it stands there, has so many elements, and they start where they are said to; "single" is said of none with
-- a component separator, and need not be said
pub record LaidOut (q : Separators) (s segment : Bytes) (starts : List ℕ) (layout : Layout) : Type 0 where
  pub here : take (length segment) (drop layout.at s) ≡ segment
  pub ends : layout.end ≡ layout.at + length segment
  pub inside : layout.end ≤ length s
  pub counted : suc layout.count ≡ length (elements_of q.element segment)
  pub started : (k : ℕ) → k ≤ layout.count → k ≤ 32 → get_or starts k 0 ≡ layout.at + (element_span q.element segment k).start
  pub singly : layout.single ≡ true → Free q.component segment

module _ {q : Separators} {s segment : Bytes} {starts : List ℕ} {layout : Layout} (laid : LaidOut q s segment starts layout) where
  abbrev ps : List Bytes
  ps = elements_of q.element segment

  abbrev view : View
  view = layout_view s starts layout q.component

  -- piece k lies where it says
  module _ (k : ℕ) (low : k ≤ layout.count) (high : k ≤ 31) where
    there : k < length ps
    there = omega (arith, laid.counted)

    abbrev place : Span
    place = element_span q.element segment k

    whole : length (joined q.element ps) ≡ length segment
    whole = ap length (elements_joined q.element segment)

    stop : cond (ltb k layout.count) (get_or starts (suc k) 0 - 1) layout.end ≡ layout.at + place.start + place.len
    unfolding element_span
    stop =
        by_cases (dec_lt k layout.count)
        (λ l.
        rw (lt-ltb k layout.count l)
        (omega
        (arith, laid.started (suc k) l (omega arith), next_start q.element ps (length segment) k there (omega (arith, laid.counted)))))
        (λ l.
        rw (le-ltb k layout.count (omega arith))
        (omega (arith, laid.ends, last_end q.element ps (length segment) k there (omega (arith, laid.counted)) whole)))

    own_piece : piece_in s starts layout k ≡ get_or ps k []
    own_piece =
        let lie = lies_element q.element segment k in
        let from = layout.at + place.start in
        let to = from + place.len in
        ap₂ (part_between s) (laid.started k low (omega arith)) stop
        ∙ sym (part_inside s from to (omega arith) (omega (arith, lie.inside, laid.ends, laid.inside)))
        ∙ ap (λ (n : ℕ). take n (drop from s)) (add-sub_cancel_left from place.len)
        ∙ part_of_part s layout.at segment place.start place.len laid.here lie.inside
        ∙ lie.holds

  -- the bytes of an element by the layout are the segment's own
  pub text_own : (k : ℕ) → k ≤ 31 → element_in s starts layout k ≡ get_or ps k []
  unfolding element_in
  text_own k high =
      by_cases (dec_lt layout.count k)
      (λ l. rw (lt-leb k layout.count l) (sym (get_or-eq_default ps [] {n = k} (omega (arith, laid.counted)))))
      (λ l. let low : k ≤ layout.count = omega arith in rw (le-leb k layout.count low) (own_piece k low high))

  -- where it is no BIN, its components are too
  module _ (plain : is_bin q.element segment ≡ false) where
    pieces_are : ps ≡ pieces q.element segment
    pieces_are = elements_plain q.element segment plain

    own_pieces : (k : ℕ) → components_by layout.single q.component (get_or ps k []) ≡ pieces q.component (get_or ps k [])
    own_pieces k = by_single layout.single laid.singly
      where
        by_single : (t : Bool) → (t ≡ true → Free q.component segment)
            → components_by t q.component (get_or ps k []) ≡ pieces q.component (get_or ps k [])
        by_single true f =
            sym
            (pieces_free q.component (get_or ps k [])
            (clean_at q.component ps k (rw pieces_are (free_pieces q.element q.component segment (f refl)))))
        by_single false f = refl

    own_element : (k : ℕ) → element_of (view_of q segment) k ≡ pieces q.component (get_or ps k [])
    own_element k = rw (view_plain q segment plain, pieces_are) (get_or-map (pieces q.component) (pieces q.element segment) k [])

    -- the elements agree up to 31, and their numbers do
    pub view_own : (k : ℕ) → k ≤ 31 → element_of view k ≡ element_of (view_of q segment) k
    view_own k high =
        by_cases (dec_lt layout.count k)
        (λ l.
        view_at s starts layout q.component k ∙ at_past s starts layout q.component k l
        ∙ sym (own_element k ∙ ap (pieces q.component) (get_or-eq_default ps [] {n = k} (omega (arith, laid.counted)))))
        (λ l.
        let low : k ≤ layout.count = omega arith in
        view_element s starts layout q.component k low ∙ ap (components_by layout.single q.component) (own_piece k low high)
        ∙ own_pieces k ∙ sym (own_element k))

    pub count_own : element_count view ≡ element_count (view_of q segment)
    count_own =
        view_count s starts layout q.component
        ∙ rw (view_plain q segment plain) (omega (arith, laid.counted, ap length pieces_are, length-map (pieces q.element segment) (pieces q.component)))

    -- so the verdict by the layout is that over the segment
    pub ruled_own : (profile : ProfileName) (tag : ℕ)
        → first_broken (ruled_checks (element_profile profile) tag view) ≡ first_broken (ruled_checks (element_profile profile) tag (view_of q segment))
    ruled_own profile tag = ruled_agree view (view_of q segment) count_own view_own profile tag

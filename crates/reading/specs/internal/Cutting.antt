-- What the cut of the next segment answers: the segment, rules 5 and 6 of it, and where its elements start.
-- Assumes nothing.
use Rattle.std.specs.Prelude.{ℕ, ◌+◌, ◌-◌, ◌≤◌, ◌<◌, ◌≡◌, Bool, true, false, not, ◌&&◌, List, ◌∷◌, ◌++◌, T, eqb, length, take, drop, get_or, set, Result, Ok, Err}
use Rattle.text.specs.Bytes.{Bytes}
use Rattle.text.specs.Pieces.{pieces}
use Rattle.text.specs.internal.Search.{Free, FirstAt}
use Rattle.text.specs.Bin.{is_bin}
use Rattle.text.specs.View.{plain_view, view_of, elements_of}
use Rattle.text.specs.Cut.{Whole, Stop, cut_of}
use Rattle.text.specs.Lookup.{span_among}
use Rattle.text.specs.declared.separators.Separators.{Separators}
use Rattle.elements.specs.declared.layout.Layout.{Layout}
use Rattle.elements.specs.Checks.{Check, Keeps}
use Rattle.elements.specs.Rules.{data_checks, byte_checks, end_checks}
use Rattle.reading.specs.internal.Queue.{Ready}
use Rattle.reading.specs.declared.cutting.Left.{Left}
use Rattle.reading.specs.declared.cutting.Cut.{Cut}
use Rattle.reading.specs.declared.cutting.Uncut.{Uncut}
use Rattle.reading.specs.declared.cutting.Uncut.TheVariants.{Open, Bad, Broken}

-- a segment and its terminator stand from `layout.at` on, and this is their layout: `parts` are its tag and elements, `checks` the tests of its
-- bytes, and `ends` those of rule 6
pub record LaidAs (q : Separators) (s : Bytes) (starts : List ℕ) (layout : Layout) (segment more : Bytes) (parts : List Bytes) (checks ends : List Check)
    : Type 0 where
  pub whole : drop layout.at s ≡ segment ++ q.terminator ∷ more
  pub place : layout.end ≡ layout.at + length segment
  pub data_only : Keeps checks
  -- its elements, and where they start, of the tag and the first 32
  pub elements : length parts ≡ layout.count + 1
  pub begins : (k : ℕ) → k ≤ 32 → k ≤ layout.count → get_or starts k 0 ≡ layout.at + (span_among q.element parts (length segment) k).start
  pub room : length starts ≡ 33
  -- no component separator stands in it
  pub single : T layout.single → Free q.component segment
  -- rule 6, both ways
  pub kept : T layout.ended → Keeps ends
  pub unkept : T (not layout.ended) → Keeps ends → ⊥

-- a segment and its terminator, which stands at `end`, and one of the tests of its bytes fails
pub record SpoiltAs (q : Separators) (s : Bytes) (at end : ℕ) (segment more : Bytes) (checks : List Check) : Type 0 where
  pub whole : drop at s ≡ segment ++ q.terminator ∷ more
  pub place : end ≡ at + length segment
  pub broken : Keeps checks → ⊥

-- What is cut at the next terminator and at its separators
pub record PlainBad (q : Separators) (s : Bytes) (at end : ℕ) : Type 0 where
  pub segment : Bytes
  pub more : Bytes
  pub free : Free q.terminator segment
  pub spoilt : SpoiltAs q s at end segment more (data_checks (plain_view q segment))

pub record PlainSegment (q : Separators) (table : List Bool) (s : Bytes) (at : ℕ) (queue starts : List ℕ) (layout : Layout) (left : Left) : Type 0 where
  pub segment : Bytes
  pub more : Bytes
  pub at_is : layout.at ≡ at
  pub free : Free q.terminator segment
  pub laid : LaidAs q s starts layout segment more (pieces q.element segment) (data_checks (plain_view q segment)) (end_checks (plain_view q segment))
  pub ready : Ready table s (layout.end + 1) queue left.head left.tail left.seen

-- what `next_plain` answers
abbrev pub CutsPlainly : Separators → List Bool → Bytes → ℕ → List ℕ → List ℕ → Result Cut Uncut → Type 0
CutsPlainly q table s at queue starts (Err Open) = Free q.terminator (drop at s)
CutsPlainly q table s at queue starts (Err (Bad end)) = PlainBad q s at end
CutsPlainly q table s at queue starts (Err (Broken element)) = ⊥
CutsPlainly q table s at queue starts (Ok cut) = PlainSegment q table s at queue starts cut.layout cut.left

-- What any cut gives
-- from `at` on stands a segment with its terminator at `end`, and a byte of it is neither data nor separator
pub record BadSegment (q : Separators) (s : Bytes) (at end : ℕ) : Type 0 where
  pub segment : Bytes
  pub more : Bytes
  pub cut : cut_of q (drop at s) ≡ Whole segment more
  pub plain : is_bin q.element segment ≡ false
  pub spoilt : SpoiltAs q s at end segment more (byte_checks (view_of q segment))

-- the layout is that of the segment, which is cut off there and has data bytes alone where it is looked into
pub record CutAs (q : Separators) (s : Bytes) (starts : List ℕ) (layout : Layout) (segment more : Bytes) : Type 0 where
  pub cut : cut_of q (drop layout.at s) ≡ Whole segment more
  pub laid : LaidAs q s starts layout segment more (elements_of q.element segment) (byte_checks (view_of q segment)) (end_checks (view_of q segment))

-- from `at` on stands a segment of this layout, and what is left of the queue serves the next cut
pub record GoodSegment (q : Separators) (table : List Bool) (s : Bytes) (at : ℕ) (queue starts : List ℕ) (layout : Layout) (left : Left) : Type 0 where
  pub segment : Bytes
  pub more : Bytes
  pub at_is : layout.at ≡ at
  pub cut_as : CutAs q s starts layout segment more
  pub ready : Ready table s (layout.end + 1) queue left.head left.tail left.seen

-- the cut stops with that number and element
pub record StopsWith (q : Separators) (s : Bytes) (at number element : ℕ) : Type 0 where
  pub upto : Bytes
  pub more : Bytes
  pub stops : cut_of q (drop at s) ≡ Stop number element upto more

-- what `next_segment` answers
abbrev pub Cuts : Separators → List Bool → Bytes → ℕ → List ℕ → List ℕ → Result Cut Uncut → Type 0
Cuts q table s at queue starts (Err Open) = StopsWith q s at 3 0
Cuts q table s at queue starts (Err (Bad end)) = BadSegment q s at end
Cuts q table s at queue starts (Err (Broken element)) = StopsWith q s at 10 element
Cuts q table s at queue starts (Ok cut) = GoodSegment q table s at queue starts cut.layout cut.left

-- the layout of a whole BIN with its terminator at `end`; what is seen of the bytes ends behind it
abbrev pub bin_layout : (at end : ℕ) → Layout
bin_layout at end = record { at = at; end = end; count = 2; single = false; ended = true }

abbrev pub seen_up_to : ℕ → Left
seen_up_to place = record { head = 0; tail = 0; seen = place }

-- a whole BIN from `at` on
pub record BinSegment (q : Separators) (s : Bytes) (at : ℕ) (starts : List ℕ) (layout : Layout) (left : Left) : Type 0 where
  pub segment : Bytes
  pub more : Bytes
  pub at_is : layout.at ≡ at
  pub cut_as : CutAs q s starts layout segment more
  pub left_is : left ≡ seen_up_to (layout.end + 1)

-- what `next_bin` answers
abbrev pub CutsBin : Separators → Bytes → ℕ → List ℕ → Result Cut Uncut → Type 0
CutsBin q s at starts (Err Open) = StopsWith q s at 3 0
CutsBin q s at starts (Err (Bad end)) = ⊥
CutsBin q s at starts (Err (Broken element)) = StopsWith q s at 10 element
CutsBin q s at starts (Ok cut) = BinSegment q s at starts cut.layout cut.left

-- what `next_counted` answers, where `number` bytes are due from `attached` on, and the terminator behind them: fewer are there; or another byte is;
-- or they end a BIN whose elements start so
pub record CountedBin (at number attached : ℕ) (starts starts' : List ℕ) (layout : Layout) (left : Left) : Type 0 where
  pub layout_is : layout ≡ bin_layout at (attached + number)
  pub left_is : left ≡ seen_up_to (attached + number + 1)
  pub starts_are : starts' ≡ set (set (set starts 0 at) 1 (at + 4)) 2 attached

abbrev pub CutsCounted : Bytes → ℕ → ℕ → ℕ → ℕ → List ℕ → List ℕ → Result Cut Uncut → Type 0
CutsCounted s terminator at number attached starts starts' (Err Open) = length s - attached ≤ number
CutsCounted s terminator at number attached starts starts' (Err (Bad end)) = ⊥
CutsCounted s terminator at number attached starts starts' (Err (Broken element)) =
    (element ≡ 2) × (attached + number < length s) × (get_or s (attached + number) 0 ≡ terminator → ⊥)
CutsCounted s terminator at number attached starts starts' (Ok cut) =
    (attached + number < length s) × (get_or s (attached + number) 0 ≡ terminator) × CountedBin at number attached starts starts' cut.layout cut.left

-- the bytes from `at` up to `end`
abbrev pub cut_out : Bytes → ℕ → ℕ → Bytes
cut_out s at end = take (end - at) (drop at s)

-- those of the segment that the layout names
abbrev pub segment_of : Bytes → Layout → Bytes
segment_of s layout = cut_out s layout.at layout.end

-- the layout of a segment with its terminator at `end`, its last element from `start` on, and its last component from `behind` on, which is `at`
-- where it has no component separator; `ended` says that rule 6 holds of the elements before the last
abbrev pub layout_of : (at end count start behind : ℕ) → Bool → Layout
layout_of at end count start behind ended = record {
  at = at;
  end = end;
  count = count;
  single = eqb behind at;
  ended = ((ended && not (eqb end behind)) && not (eqb end start)) && not (eqb count 0);
}

-- what `stop` answers: the first terminator from `from` on, or that there is none
abbrev pub Stops : Bytes → ℕ → ℕ → Uncut → Type 0
Stops s from terminator Open = Free terminator (drop from s)
Stops s from terminator (Bad end) = FirstAt s from terminator end
Stops s from terminator (Broken element) = ⊥

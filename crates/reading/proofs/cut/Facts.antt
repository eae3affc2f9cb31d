-- From the cut at the next terminator to the cut of the documents, and what a caller of `next_segment` needs beside its promise.
-- Assumes nothing.
use Prim.Native.Nat.{ℕ, ◌+◌, ◌≤◌, ◌<◌}
use mathlib.Core.Path.{◌≡◌, refl, sym, ap, subst, ◌∙◌}
use mathlib.Core.Logic.{◌⊎◌, inl, inr}
use mathlib.Core.Bool.{Bool, false}
use mathlib.Core.List.{List, [], ◌∷◌, ◌++◌}
use native.Mathlib.Omega.{arith}
use Rattle.std.specs.Prelude.{Result, Ok, Err}
use lib.Dec.{T}
use lib.ListN.{length, drop, length-append, length-drop}
use Rattle.text.specs.Bytes.{Bytes}
use Rattle.text.specs.Separators.{Fitted}
use Rattle.text.specs.Bin.{begins_bin, is_bin}
use Rattle.text.specs.View.{plain_view, view_of, inspected}
use Rattle.text.specs.internal.Search.{Free}
use Rattle.text.specs.Cut.{Whole, cut_of}
use Rattle.text.specs.declared.separators.Separators.{Separators}
use Rattle.text.proofs.BinView.{view_plain, elements_plain}
use Rattle.text.proofs.BinCut.{Plainly, plainly, cut_gives}
use Rattle.text.proofs.Writable.{plain_inspected}
use Rattle.text.proofs.DocumentCut.{cut_whole, cut_none}
use Rattle.elements.specs.Rules.{data_checks, byte_checks, end_checks}
use Rattle.elements.specs.declared.layout.Layout.{Layout}
use Rattle.reading.specs.internal.Queue.{left, Ready}
use Rattle.reading.specs.internal.Cutting.{PlainBad, PlainSegment, CutsPlainly, BadSegment, CutAs, GoodSegment, Cuts, CutsBin}
use Rattle.reading.specs.declared.cutting.Left.{Left}
use Rattle.reading.specs.declared.cutting.Cut.{Cut}
use Rattle.reading.specs.declared.cutting.Uncut.{Uncut}
use Rattle.reading.specs.declared.cutting.Uncut.TheVariants.{Open, Bad, Broken}
use Rattle.reading.proofs.cut.Index.{listed_none}

-- where nothing ahead is seen, an empty queue is ready
pub ready_none : (table : List Bool) (s : Bytes) (at : ℕ) (queue : List ℕ) → at ≤ length s → length queue ≡ 72 → Ready table s at queue 0 0 at
ready_none table s at queue l h = record { listed = listed_none table s at (left queue 0 0) l refl; few = omega arith; size = h }

-- the rules of a segment that does not begin like a BIN are those of its pieces
module _ (q : Separators) (fit : Fitted q) (g : Bytes) (p : Plainly q g) where
  pub bytes_plain : byte_checks (view_of q g) ≡ data_checks (plain_view q g)
  unfolding byte_checks
  bytes_plain = ap (λ v. data_checks (inspected v)) (view_plain q g p.no_bin) ∙ ap data_checks (plain_inspected q fit g p)

  ends_plain : end_checks (view_of q g) ≡ end_checks (plain_view q g)
  ends_plain = ap end_checks (view_plain q g p.no_bin)

-- and what is cut off and is no BIN is such a segment
pub plain_of : (q : Separators) → Fitted q → (s g m : Bytes) → cut_of q s ≡ Whole g m → is_bin q.element g ≡ false → Plainly q g
plain_of q fit s g m e n = by (cut_gives q fit s g m e)
  where
    by : T (is_bin q.element g) ⊎ Plainly q g → Plainly q g
    by (inl h) = absurd (subst (λ (b : Bool). T b) n h)
    by (inr p) = p

-- bytes that do not begin like a BIN: what `next_plain` answers is the cut
module _ (q : Separators) (fit : Fitted q) (s : Bytes) (at : ℕ) (unmarked : begins_bin q.element (drop at s) ≡ false) where
  plain_at : (g m : Bytes) → drop at s ≡ g ++ q.terminator ∷ m → Free q.terminator g → Plainly q g
  plain_at g m w f = plainly q fit g m (ap (begins_bin q.element) (sym w) ∙ unmarked) f

  cut_at : (g m : Bytes) → drop at s ≡ g ++ q.terminator ∷ m → Free q.terminator g → cut_of q (drop at s) ≡ Whole g m
  cut_at g m w f = ap (cut_of q) w ∙ cut_whole q g m (ap (begins_bin q.element) (sym w) ∙ unmarked) f

  plain_bad : (end : ℕ) → PlainBad q s at end → BadSegment q s at end
  plain_bad end b =
      let p = plain_at b.segment b.more b.spoilt.whole b.free in
      record {
        segment = b.segment;
        more = b.more;
        cut = cut_at b.segment b.more b.spoilt.whole b.free;
        plain = p.no_bin;
        spoilt = rw (bytes_plain q fit b.segment p) b.spoilt;
      }

  plain_good : (table : List Bool) (queue starts : List ℕ) (layout : Layout) (left : Left) → PlainSegment q table s at queue starts layout left → GoodSegment q table s at queue starts layout left
  plain_good table queue starts layout left b =
      let w : drop at s ≡ b.segment ++ q.terminator ∷ b.more = ap (λ (n : ℕ). drop n s) (sym b.at_is) ∙ b.laid.whole in
      let p = plain_at b.segment b.more w b.free in
      record {
        segment = b.segment;
        more = b.more;
        at_is = b.at_is;
        cut_as = record {
          cut = ap (λ (n : ℕ). cut_of q (drop n s)) b.at_is ∙ cut_at b.segment b.more w b.free;
          laid = rw (bytes_plain q fit b.segment p, ends_plain q fit b.segment p, elements_plain q.element b.segment p.no_bin) b.laid;
        };
        ready = b.ready;
      }

  pub plain_cuts : (table : List Bool) (queue starts : List ℕ) (r : Result Cut Uncut) → CutsPlainly q table s at queue starts r → Cuts q table s at queue starts r
  plain_cuts table queue starts (Err Open) f = record { upto = drop at s; more = []; stops = cut_none q (drop at s) unmarked f }
  plain_cuts table queue starts (Err (Bad end)) b = plain_bad end b
  plain_cuts table queue starts (Err (Broken element)) b = absurd b
  plain_cuts table queue starts (Ok cut) b = plain_good table queue starts cut.layout cut.left b

module _ {q : Separators} {s : Bytes} {starts : List ℕ} {layout : Layout} {segment more : Bytes} (c : CutAs q s starts layout segment more) where
  -- the terminator is within the bytes
  pub end_inside : layout.end < length s
  end_inside = omega (arith, c.laid.place, length-drop layout.at s, simp length-append at (ap length c.laid.whole))

-- bytes that do: what `next_bin` answers is the cut, and the queue is empty behind a BIN
pub bin_cuts : (q : Separators) (s : Bytes) (at : ℕ) (starts : List ℕ) (table : List Bool) (queue : List ℕ) → length queue ≡ 72 → (r : Result Cut Uncut)
    → CutsBin q s at starts r → Cuts q table s at queue starts r
bin_cuts q s at starts table queue size (Err Open) c = c
bin_cuts q s at starts table queue size (Err (Bad end)) c = absurd c
bin_cuts q s at starts table queue size (Err (Broken element)) c = c
bin_cuts q s at starts table queue size (Ok cut) c = record {
  segment = c.segment;
  more = c.more;
  at_is = c.at_is;
  cut_as = c.cut_as;
  ready = rw c.left_is (ready_none table s (cut.layout.end + 1) queue (omega (arith, end_inside c.cut_as)) size);
}

-- The queue between two segments: each byte of a line end is special, so that it has the first entry of what is left, or nothing is left.
-- Assumes nothing.
use Prim.Native.Nat.{ℕ, zero, suc, ◌+◌, ◌-◌, ◌≤◌, ◌<◌}
use mathlib.Core.Path.{◌≡◌, refl, sym, ap, subst, ◌∙◌}
use mathlib.Core.Bool.{Bool, true, false, not, true≢false}
use mathlib.Core.List.{List, [], ◌∷◌, ◌++◌, head-eq_of_cons-eq}
use native.Mathlib.Omega.{arith}
use lib.Dec.{eqb}
use lib.ListN.{length, drop, get_or, length-drop, drop_of_length-le}
use lib.Seq.{drop-cons, get_or-drop}
use borrow.Author.Tests.{lt-leb, ne_eqb}
use Rattle.text.specs.Bytes.{Bytes, byte}
use Rattle.text.specs.Separators.{printable}
use Rattle.text.specs.Bin.{begins_bin}
use Rattle.text.specs.Cut.{CR}
use Rattle.gate.specs.declared.how.How.{How}
use Rattle.text.specs.declared.separators.Separators.{Separators}
use Rattle.text.proofs.Bools.{passes, or_right}
use Rattle.text.proofs.LineEnds.{skip_law, past_end, skip_none, skipped_small}
use Rattle.reading.specs.internal.SpecialBytes.{special, is_special_in, SpecialTable}
use Rattle.reading.specs.internal.Queue.{SpecialPlaces, left}
use Rattle.reading.specs.internal.Between.{skipped_at, start_at, Serves, PastSpecial, Starts}
use Rattle.reading.specs.declared.cutting.Left.{Left}
use Rattle.reading.proofs.cut.Queue.{All, Data, front, left_cons}

-- a byte below 32 is special
low_special : (q : Separators) (b : ℕ) → b < 32 → special q b ≡ true
unfolding special
low_special q b l =
    passes _ (or_right (eqb b q.terminator) _ (or_right (eqb b q.component) _ (or_right (eqb b q.element) (not (printable b)) (rw (lt-leb 32 b l) tt))))

-- no BIN begins at the end of the bytes, nor with another byte than B
begins_nowhere : (e : ℕ) (s : Bytes) (at : ℕ) → length s ≤ at → false ≡ begins_bin e (drop at s)
unfolding begins_bin
begins_nowhere e s at l = rw (drop_of_length-le s l) refl

begins_other : (e : ℕ) (s : Bytes) (at : ℕ) → at < length s → (get_or s at 0 ≡ byte "B" → ⊥) → false ≡ begins_bin e (drop at s)
unfolding begins_bin
begins_other e s at l n = sym (rw (drop-cons s at 0 l, ne_eqb (get_or s at 0) (byte "B") n))

module _ (table : List Bool) (s : Bytes) (at : ℕ) (within : at < length s) (told : is_special_in table (get_or s at 0) ≡ true) where
  -- before a special byte there is no data
  no_gap : (gap rest : Bytes) → All (Data table) gap → drop at s ≡ gap ++ rest → gap ≡ []
  no_gap [] rest d w = refl
  no_gap (b ∷ gap) rest d w =
      absurd (true≢false (sym told ∙ ap (is_special_in table) (head-eq_of_cons-eq (sym (drop-cons s at 0 within) ∙ w)) ∙ d.0))

  -- so it has the first of the listed places
  listed_past : {seen p : ℕ} {places : List ℕ} → SpecialPlaces table s at seen (p ∷ places) → SpecialPlaces table s (at + 1) seen places
  listed_past {seen} {p} {places} l =
      let f = front l in
      let e : p ≡ at = f.place ∙ omega (arith, ap length (no_gap f.gap (drop p s) f.data_only f.whole)) in
      subst (λ (n : ℕ). SpecialPlaces table s (n + 1) seen places) e f.others

-- with an entry left it is that
pub past_entry : (at head tail seen : ℕ) → head < tail
    → PastSpecial at (record { head = head; tail = tail; seen = seen }) (record { head = head + 1; tail = tail; seen = seen })
past_entry at head tail seen l table s queue within told r = record {
  listed = listed_past table s at within told (subst (SpecialPlaces table s at seen) (left_cons queue head tail l (omega (arith, r.few, r.size))) r.listed);
  few = r.few;
  size = r.size;
}

-- the bytes from `at` up to `end` are special
abbrev AllSpecial : List Bool → Bytes → ℕ → ℕ → Type 0
AllSpecial table s at end = (k : ℕ) → at ≤ k → k < end → (k < length s) × (is_special_in table (get_or s k 0) ≡ true)

-- past some of them: i is the next one, and `behind` what is left of the queue there
pub record Passing (s : Bytes) (at end : ℕ) (left behind : Left) (i : ℕ) : Type 0 where
  pub from : at ≤ i
  pub upto : i ≤ end
  pub serves : (table : List Bool) (queue : List ℕ) → AllSpecial table s at end → Serves table s at queue left → Serves table s i queue behind

pub passing_more : {s : Bytes} {at end : ℕ} {left behind : Left} {i : ℕ} → Passing s at end left behind i → (next : Left) → i < end
    → PastSpecial i behind next → Passing s at end left next (i + 1)
passing_more {s} {i = i} p next l past = record {
  from = omega (arith, p.from);
  upto = omega arith;
  serves = λ table queue all r.
      let b = all i p.from l in
      past table s queue b.0 b.1 (p.serves table queue all r);
}

-- what is skipped lies within the bytes, and is no data
module _ (how : How) (s : Bytes) where
  pub skipped_within : (at : ℕ) → skipped_at how s at ≤ length s - at
  skipped_within zero = omega arith
  skipped_within (suc n) = omega (arith, (skip_law how.separators how.lines).few (drop (suc n) s), length-drop (suc n) s)

  skipped_low : (at k : ℕ) → k < skipped_at how s at → get_or (drop at s) k 0 < 32
  skipped_low zero k l = absurd (omega arith)
  skipped_low (suc n) k l = skipped_small how.separators how.lines (drop (suc n) s) k l

  -- none at the end of the bytes, nor before a byte above CR
  skipped_none_past : (at : ℕ) → length s ≤ at → skipped_at how s at ≡ 0
  skipped_none_past zero l = refl
  skipped_none_past (suc n) l = past_end how.separators how.lines s (suc n) l

  skipped_none_above : (at : ℕ) → at < length s → CR < get_or s at 0 → skipped_at how s at ≡ 0
  skipped_none_above zero l b = refl
  skipped_none_above (suc n) l b = rw (drop-cons s (suc n) 0 l) (skip_none how.separators how.lines (get_or s (suc n) 0) (drop (suc (suc n)) s) b)

module _ (how : How) (s : Bytes) (at : ℕ) where
  -- so all its bytes are special
  line_end_special : (table : List Bool) → SpecialTable how.separators table → AllSpecial table s at (start_at how s at)
  line_end_special table t k l h =
      let e : k ≡ at + (k - at) = omega arith in
      let small : get_or (drop at s) (k - at) 0 < 32 = skipped_low how s at (k - at) (omega arith) in
      let low : get_or s k 0 < 32 = rw e (rw get_or-drop at small) in
      (omega (arith, skipped_within how s at), t.tells (get_or s k 0) ∙ low_special how.separators (get_or s k 0) low)

  pub passing_all : (end : ℕ) (left behind : Left) (i : ℕ) (bin : Bool) → end ≡ start_at how s at → Passing s at end left behind i → end ≤ i
      → bin ≡ begins_bin how.separators.element (drop end s) → Starts how s at left (record { at = end; left = behind; bin = bin })
  passing_all end left behind i bin e p l told =
      let here : i ≡ end = omega (arith, p.upto) in
      record { start = e; ready = λ table queue t r. rw (← here) (p.serves table queue (rw e (line_end_special table t)) r); bin_told = told }

  -- where nothing is skipped, and no BIN begins
  stays : (left : Left) → skipped_at how s at ≡ 0 → false ≡ begins_bin how.separators.element (drop at s)
      → Starts how s at left (record { at = at; left = left; bin = false })
  stays left none told = record { start = omega (arith, none); ready = λ table queue t r. r; bin_told = told }

  pub stays_at_end : (left : Left) → length s ≤ at → Starts how s at left (record { at = at; left = left; bin = false })
  stays_at_end left l = stays left (skipped_none_past how s at l) (begins_nowhere how.separators.element s at l)

  pub stays_behind_b : (left : Left) → at < length s → byte "B" < get_or s at 0 → Starts how s at left (record { at = at; left = left; bin = false })
  stays_behind_b left l b =
      stays left (skipped_none_above how s at l (omega arith)) (begins_other how.separators.element s at l (λ e. omega (arith, e)))

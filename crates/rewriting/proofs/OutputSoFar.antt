-- An output that is written from one place on: what stands there so far, and what is still to be written.
-- Assumes nothing.
use Prim.Native.Nat.{ℕ, ◌+◌, ◌≤◌, ◌<◌}
use mathlib.Core.Path.{◌≡◌, refl, sym, ap, ◌∙◌}
use mathlib.Core.List.{[], ◌∷◌, ◌++◌, append_assoc, append-nil}
use native.Mathlib.Omega.{arith}
use native.Mathlib.Numerals.{add-one}
use lib.ListN.{length, take, drop, set, length-append, length-drop, length-take, take-append-drop}
use lib.Seq.{take_at, set_split, drop-append-add, drop-drop, length-take-le}
use Rattle.text.specs.Bytes.{Bytes}
use Rattle.rewriting.specs.internal.Output.{put_at}

-- the bytes `all` are being written from `from` on into what was `first`; the output holds those before place i, and `todo` is to follow
pub record SoFar (first : Bytes) (from : ℕ) (all output : Bytes) (i : ℕ) (todo : Bytes) : Type 0 where
  pub front : Bytes
  pub whole : front ++ todo ≡ all
  pub place : i ≡ from + length front
  pub output_is : output ≡ put_at from front first
  pub room : from + length all ≤ length first

pub put_length : (at : ℕ) (bytes output : Bytes) → at + length bytes ≤ length output → length (put_at at bytes output) ≡ length output
put_length at bytes output l = simp (length-append, length-take, length-drop) (omega arith)

-- one byte
pub put_byte : (output : Bytes) (i b : ℕ) → i < length output → set output i b ≡ put_at i (b ∷ []) output
put_byte output i b l = set_split output i b l ∙ rw add-one

-- nothing so far
put_none : (output : Bytes) (at : ℕ) → output ≡ put_at at [] output
put_none output at =
    let same : at ≡ at + 0 = omega arith in
    sym (take-append-drop at output) ∙ ap (λ (n : ℕ). take at output ++ drop n output) same

-- bytes behind bytes
pub put_behind : (output front x : Bytes) (at : ℕ) → at + length front + length x ≤ length output
    → put_at (at + length front) x (put_at at front output) ≡ put_at at (front ++ x) output
put_behind output front x at l =
    let head = take at output ++ front in
    let rest = drop (at + length front) output in
    let long : length head ≡ at + length front = length-append (take at output) front ∙ ap (λ (n : ℕ). n + length front) (length-take-le at output (omega arith)) in
    let sum : at + length (front ++ x) ≡ at + length front + length x = simp length-append (omega arith) in
    let split : put_at at front output ≡ head ++ rest = sym (append_assoc (take at output) front rest) in
    let behind : drop (at + length front + length x) (head ++ rest) ≡ drop (at + length front + length x) output =
    ap (λ (n : ℕ). drop (n + length x) (head ++ rest)) (sym long) ∙ drop-append-add head rest (length x) ∙ drop-drop (length x) (at + length front) output in
    rw (split, take_at head rest (at + length front) long, behind, sum, append_assoc, append_assoc)

pub so_far_none : (first : Bytes) (from : ℕ) (all : Bytes) → from + length all ≤ length first → SoFar first from all first from all
so_far_none first from all l = record { front = []; whole = refl; place = omega arith; output_is = put_none first from; room = l }

module _ {first : Bytes} {from : ℕ} {all output : Bytes} {i : ℕ} {todo : Bytes} (w : SoFar first from all output i todo) where
  -- what is still to be written has room
  pub so_far_room : i + length todo ≤ length first
  so_far_room = omega (arith, w.place, w.room, simp length-append at (ap length w.whole))

  pub so_far_length : length output ≡ length first
  so_far_length =
      ap length w.output_is
      ∙ put_length from w.front first (omega (arith, w.room, simp length-append at (ap length w.whole)))

  -- all is written
  pub so_far_all : todo ≡ [] → output ≡ put_at from all first
  so_far_all e =
      w.output_is ∙ ap (λ (l : Bytes). put_at from l first) (sym (append-nil w.front) ∙ ap (λ (l : Bytes). w.front ++ l) (sym e) ∙ w.whole)

  -- the next bytes are written
  pub so_far_more : (x rest output' : Bytes) (j : ℕ) → todo ≡ x ++ rest → output' ≡ put_at i x output → j ≡ i + length x
      → SoFar first from all output' j rest
  so_far_more x rest output' j e o p =
      let fits : from + length w.front + length x ≤ length first =
      omega (arith, w.place, so_far_room, simp length-append at (ap length e)) in
      record {
        front = w.front ++ x;
        whole = append_assoc w.front x rest ∙ ap (λ (l : Bytes). w.front ++ l) (sym e) ∙ w.whole;
        place = simp length-append (omega (arith, p, w.place));
        output_is = o ∙ rw (w.output_is, w.place) (put_behind first w.front x from fits);
        room = w.room;
      }

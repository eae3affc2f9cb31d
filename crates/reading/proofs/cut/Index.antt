-- Indexing: the special places are listed one byte at a time.
-- Assumes nothing.
use Prim.Native.Nat.{ℕ, suc, ◌+◌, ◌≤◌, ◌<◌}
use mathlib.Core.Path.{◌≡◌, refl, sym, ap, ◌∙◌}
use mathlib.Core.Bool.{Bool, true, false}
use mathlib.Core.List.{List, [], ◌∷◌, ◌++◌, append_assoc, append-nil}
use native.Mathlib.Omega.{arith}
use native.Mathlib.Numerals.{add-one}
use lib.ListN.{length, take, get_or, set, length-append, length-set}
use lib.Seq.{drop-cons, take-suc-set, take-set-le}
use Rattle.text.specs.Bytes.{Bytes}
use Rattle.reading.specs.internal.SpecialBytes.{is_special_in}
use Rattle.reading.specs.internal.Queue.{bit, put_where, places_of, SpecialPlaces}

-- a place before others, and more behind them
put_append : (t : Bool) (place : ℕ) (l m : List ℕ) → put_where t place l ++ m ≡ put_where t place (l ++ m)
put_append true place l m = refl
put_append false place l m = refl

-- the special places of bytes, and of bytes behind them
pub places_append : (table : List Bool) (at : ℕ) (x y : Bytes) → places_of table at (x ++ y) ≡ places_of table at x ++ places_of table (at + length x) y
places_append table at [] y = ap (λ (n : ℕ). places_of table n y) (omega arith)
places_append table at (b ∷ x) y =
    ap (put_where (is_special_in table b) at)
    (places_append table (suc at) x y ∙ ap (λ (n : ℕ). places_of table (suc at) x ++ places_of table n y) (omega arith))
    ∙ sym (put_append (is_special_in table b) at (places_of table (suc at) x) (places_of table (at + suc (length x)) y))

-- no place is listed of no bytes
pub listed_none : (table : List Bool) (s : Bytes) (at : ℕ) (places : List ℕ) → at ≤ length s → places ≡ [] → SpecialPlaces table s at at places
listed_none table s at places h e = record { window = []; whole = refl; place = omega arith; within = h; special = e }

-- the place that is stored behind the others counts where its byte is special
stored : (t : Bool) (queue : List ℕ) (m i : ℕ) → m < length queue → take (m + bit t) (set queue m i) ≡ take m queue ++ put_where t i []
unfolding bit
stored true queue m i h = rw add-one (take-suc-set queue m i h)
stored false queue m i h = let z : m + 0 ≡ m = omega arith in rw (append-nil, z) (take-set-le m queue m i (omega arith))

-- one byte more
listed_more : {table : List Bool} {s : Bytes} {from i : ℕ} (m : ℕ) (queue : List ℕ) (r : ℕ) → SpecialPlaces table s from i (take m queue) → i < length s
    → m < length queue → r ≡ bit (is_special_in table (get_or s i 0)) → SpecialPlaces table s from (i + 1) (take (m + r) (set queue m i))
listed_more {table} {s} {from} {i} m queue r l h g e = record {
  window = l.window ++ (get_or s i 0 ∷ []);
  whole = rw (append_assoc, add-one, ← drop-cons s i 0 h) l.whole;
  place = simp length-append (omega (arith, l.place));
  within = omega arith;
  special = rw e (stored (is_special_in table (get_or s i 0)) queue m i g
      ∙ ap (λ (x : List ℕ). x ++ put_where (is_special_in table (get_or s i 0)) i []) l.special
      ∙ ap (λ (n : ℕ). places_of table from l.window ++ put_where (is_special_in table (get_or s i 0)) n []) l.place
      ∙ sym (places_append table from l.window (get_or s i 0 ∷ [])));
}

-- a test counts at most 1
bit_small : (t : Bool) → bit t ≤ 1
unfolding bit
bit_small true = omega arith
bit_small false = omega arith

-- said of the number
pub at_most_one_lem : (t : Bool) {r : ℕ} → r ≡ bit t → r ≤ 1
at_most_one_lem t e = omega (arith, e, bit_small t)

-- an index that has passed the bytes from `from` up to i, and listed `number` places
pub record Counted (table : List Bool) (s : Bytes) (from i number : ℕ) (queue : List ℕ) : Type 0 where
  pub listed : SpecialPlaces table s from i (take number queue)
  pub room : number + from ≤ i
  pub size : length queue ≡ 72

module _ {table : List Bool} {s : Bytes} {from i number : ℕ} {queue : List ℕ} (c : Counted table s from i number queue) where
  -- one byte more
  pub counted_more : (r : ℕ) → i < length s → i < from + 64 → r ≡ bit (is_special_in table (get_or s i 0))
      → Counted table s from (i + 1) (number + r) (set queue number i)
  counted_more r h g e = record {
    listed = listed_more number queue r c.listed h (omega (arith, c.room, c.size)) e;
    room = omega (arith, c.room, e, bit_small (is_special_in table (get_or s i 0)));
    size = simp length-set c.size;
  }

  -- the same place, said otherwise
  pub counted_at : (j : ℕ) → i ≡ j → Counted table s from j number queue
  counted_at j e = rw e at c

-- The queue: its first place is the next special one, used up it says that only data stands up to `seen`, and an index fills it anew.
-- Assumes nothing.
use Prim.Native.Nat.{ℕ, suc, ◌+◌, ◌-◌, ◌≤◌, ◌<◌}
use mathlib.Core.Path.{◌≡◌, refl, sym, ap, ◌∙◌}
use mathlib.Core.Bool.{Bool, true, false}
use mathlib.Core.List.{List, [], ◌∷◌, ◌++◌, append_assoc, head-eq_of_cons-eq, tail-eq_of_cons-eq}
use native.Mathlib.Omega.{arith}
use native.Mathlib.Numerals.{add-one}
use lib.ListN.{length, drop, get_or, length-append, length-drop}
use lib.Seq.{drop-cons, drop-drop, drop_at}
use Rattle.text.specs.Bytes.{Bytes}
use Rattle.reading.specs.internal.SpecialBytes.{is_special_in}
use Rattle.reading.specs.internal.Queue.{put_where, places_of, SpecialPlaces, left}
use Rattle.reading.proofs.cut.Index.{places_append}

-- each of the bytes has the property
abbrev pub All : (ℕ → Type 0) → Bytes → Type 0
All P [] = Unit {0}
All P (b ∷ s) = P b × All P s

-- the table does not putWhere the byte
abbrev pub Data : List Bool → ℕ → Type 0
Data table b = is_special_in table b ≡ false

-- the first special byte of a window, and the gap before it
record Opens (table : List Bool) (at : ℕ) (window : Bytes) (p : ℕ) (places : List ℕ) : Type 0 where
  gap : Bytes
  byte : ℕ
  rest : Bytes
  whole : window ≡ gap ++ byte ∷ rest
  data_only : All (Data table) gap
  special : is_special_in table byte ≡ true
  place : p ≡ at + length gap
  others : places ≡ places_of table (suc p) rest

-- by whether the window's first byte is special
opens_by : (table : List Bool) (at b : ℕ) (w : Bytes) (p : ℕ) (places : List ℕ) (t : Bool) → is_special_in table b ≡ t
    → p ∷ places ≡ put_where t at (places_of table (suc at) w) → (p ∷ places ≡ places_of table (suc at) w → Opens table (suc at) w p places)
    → Opens table at (b ∷ w) p places
opens_by table at b w p places true h e f = record {
  gap = [];
  byte = b;
  rest = w;
  whole = refl;
  data_only = tt;
  special = h;
  place = omega (arith, head-eq_of_cons-eq e);
  others = tail-eq_of_cons-eq e ∙ ap (λ (n : ℕ). places_of table (suc n) w) (sym (head-eq_of_cons-eq e));
}
opens_by table at b w p places false h e f =
    let r = f e in
    record {
      gap = b ∷ r.gap;
      byte = r.byte;
      rest = r.rest;
      whole = ap (λ (x : Bytes). b ∷ x) r.whole;
      data_only = (h, r.data_only);
      special = r.special;
      place = omega (arith, r.place);
      others = r.others;
    }

-- a window with a special place opens so
opens : (table : List Bool) (at : ℕ) (w : Bytes) (p : ℕ) (places : List ℕ) → p ∷ places ≡ places_of table at w → Opens table at w p places
opens table at [] p places e = absurd (omega (arith, ap length e))
opens table at (b ∷ w) p places e = opens_by table at b w p places (is_special_in table b) refl e (opens table (suc at) w p places)

-- without special places a window is data: by its first byte, which is not special
data_by : (table : List Bool) (at b : ℕ) (w : Bytes) (t : Bool) → is_special_in table b ≡ t → [] ≡ put_where t at (places_of table (suc at) w)
    → ([] ≡ places_of table (suc at) w → All (Data table) w) → All (Data table) (b ∷ w)
data_by table at b w true h e f = absurd (omega (arith, ap length e))
data_by table at b w false h e f = (h, f e)

-- and byte by byte
data_of : (table : List Bool) (at : ℕ) (w : Bytes) → [] ≡ places_of table at w → All (Data table) w
data_of table at [] e = tt
data_of table at (b ∷ w) e = data_by table at b w (is_special_in table b) refl e (data_of table (suc at) w)

-- what the first place of the queue says of the bytes: data up to it, and a special byte at it
pub record Front (table : List Bool) (s : Bytes) (here p seen : ℕ) (places : List ℕ) : Type 0 where
  pub gap : Bytes
  pub whole : drop here s ≡ gap ++ drop p s
  pub place : p ≡ here + length gap
  pub data_only : All (Data table) gap
  pub inside : p < length s
  pub special : is_special_in table (get_or s p 0) ≡ true
  pub others : SpecialPlaces table s (p + 1) seen places

-- from the window to the bytes
front_by : {table : List Bool} {s : Bytes} {here p seen : ℕ} {places : List ℕ} (l : SpecialPlaces table s here seen (p ∷ places))
    (f : Opens table here l.window p places) → drop p s ≡ f.byte ∷ (f.rest ++ drop seen s)
    → drop here s ≡ f.gap ++ (f.byte ∷ (f.rest ++ drop seen s)) → Front table s here p seen places
front_by {table} {s} {here} {p} {seen} {places} l f d w =
    let h : p < length s = omega (arith, length-drop p s, ap length d) in
    let q = sym (drop-cons s p 0 h) ∙ d in
    record {
      gap = f.gap;
      whole = rw d w;
      place = f.place;
      data_only = f.data_only;
      inside = h;
      special = rw (head-eq_of_cons-eq q) f.special;
      others = record {
        window = f.rest;
        whole = rw add-one (tail-eq_of_cons-eq q);
        place = omega (arith, f.place, l.place, simp length-append at (ap length f.whole));
        within = l.within;
        special = rw add-one f.others;
      };
    }

-- what the first of the listed places says
pub front : {table : List Bool} {s : Bytes} {here p seen : ℕ} {places : List ℕ} → SpecialPlaces table s here seen (p ∷ places) → Front table s here p seen places
front {table} {s} {here} {p} {seen} {places} l =
    let f = opens table here l.window p places l.special in
    let rest = f.byte ∷ (f.rest ++ drop seen s) in
    let w : drop here s ≡ f.gap ++ rest =
    l.whole ∙ ap (λ (x : Bytes). x ++ drop seen s) f.whole ∙ append_assoc f.gap (f.byte ∷ f.rest) (drop seen s) in
    let d : drop p s ≡ rest =
    ap (λ (n : ℕ). drop n s) f.place ∙ sym (drop-drop (length f.gap) here s) ∙ ap (drop (length f.gap)) w
    ∙ drop_at f.gap rest (length f.gap) refl in
    front_by l f d w

-- the first entry of what is left
pub left_cons : (queue : List ℕ) (head tail : ℕ) → head < tail → tail ≤ length queue
    → left queue head tail ≡ get_or queue head 0 ∷ left queue (head + 1) tail
left_cons queue head tail h g =
    let z : tail - head ≡ suc (tail - (head + 1)) = omega arith in
    rw (z, drop-cons queue head 0 (omega arith), ← add-one head)

-- nothing is left
pub left_none : (queue : List ℕ) (head tail : ℕ) → tail ≤ head → left queue head tail ≡ []
left_none queue head tail h = let z : tail - head ≡ 0 = omega arith in rw z

module _ {table : List Bool} {s : Bytes} {at seen : ℕ} {places : List ℕ} (l : SpecialPlaces table s at seen places) (none : places ≡ []) where
  -- used up: only data stands up to `seen`
  pub used_up : All (Data table) l.window
  used_up = data_of table at l.window (sym none ∙ l.special)

  -- and filled anew from there
  pub refilled : {to : ℕ} {next : List ℕ} → SpecialPlaces table s seen to next → SpecialPlaces table s at to next
  refilled {to} {next} m = record {
    window = l.window ++ m.window;
    whole = rw (append_assoc, ← m.whole) l.whole;
    place = simp length-append (omega (arith, l.place, m.place));
    within = m.within;
    special = m.special ∙ ap (λ (n : ℕ). places_of table n m.window) l.place
        ∙ ap (λ (x : List ℕ). x ++ places_of table (at + length l.window) m.window) (sym none ∙ l.special)
        ∙ sym (places_append table at l.window m.window);
  }

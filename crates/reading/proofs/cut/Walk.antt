-- The walk of `next_segment` over the queue: what it holds at each turn, and what each way out of a turn makes of it.
-- Assumes nothing.
use Prim.Native.Nat.{ℕ, ◌+◌, ◌-◌, ◌≤◌, ◌<◌}
use mathlib.Core.Path.{◌≡◌, refl, sym, ap, ◌∙◌}
use mathlib.Core.Logic.{by_cases}
use mathlib.Core.Bool.{Bool, true, not, ◌&&◌, ◌||◌}
use mathlib.Core.List.{List, [], ◌∷◌, ◌++◌, append_assoc, append-nil}
use native.Mathlib.Omega.{arith}
use native.Mathlib.Decide.{dec_lt}
use native.Mathlib.Numerals.{add-one}
use lib.Dec.{eqb}
use lib.ListN.{length, take, drop, get_or, set, length-append, length-set}
use lib.Seq.{drop-cons, get_or-set_same, get_or-set_other, take-append-le, take_all}
use borrow.Author.Tests.{eq-eqb, ne_eqb}
use Rattle.text.specs.Bytes.{Bytes, every}
use Rattle.text.specs.Pieces.{closed}
use Rattle.text.proofs.Pieces.{Clean, closed_snoc, clean_snoc, free_snoc}
use Rattle.text.specs.internal.Search.{Free}
use Rattle.text.specs.Separators.{Fitted}
use Rattle.text.specs.declared.separators.Separators.{Separators}
use Rattle.text.proofs.View.{free_append}
use Rattle.reading.specs.internal.SpecialBytes.{SpecialTable}
use Rattle.reading.specs.internal.Queue.{Indexed, left, Ready}
use Rattle.reading.proofs.cut.SpecialBytes.{Permitted, no_component, no_element, data_allowed, component_allowed, element_allowed}
use Rattle.reading.proofs.cut.Queue.{All, Data, Front, front, left_cons, left_none, refilled}
use Rattle.reading.proofs.cut.Ends.{ends_in, well, ends_snoc, ends_gap, ended_more}

-- a property of the bytes holds of bytes with others behind them
pub all_append : (P : ℕ → Type 0) (x y : Bytes) → All P x → All P y → All P (x ++ y)
all_append P [] y u v = v
all_append P (b ∷ x) y u v = (u.0, all_append P x y u.1 v)

-- one property follows from another
all_map : (P Q : ℕ → Type 0) (x : Bytes) → ((b : ℕ) → P b → Q b) → All P x → All Q x
all_map P Q [] h u = tt
all_map P Q (b ∷ x) h u = (h b u.0, all_map P Q x h u.1)

-- bytes with a property are free of a byte without it
all_free : (P : ℕ → Type 0) (sep : ℕ) (x : Bytes) → ((b : ℕ) → P b → b ≡ sep → ⊥) → All P x → Free sep x
all_free P sep [] h u = tt
all_free P sep (b ∷ x) h u = (h b u.0, all_free P sep x h u.1)

-- the starts that are kept: piece k starts behind the pieces before it, each with its separator
abbrev Begins : ℕ → ℕ → List ℕ → ℕ → List Bytes → Type 0
Begins sep at starts count gone = (k : ℕ) → k ≤ 32 → k ≤ count → get_or starts k 0 ≡ at + length (closed sep (take k gone))

-- one start more
begins_more : (sep at : ℕ) (starts : List ℕ) (count : ℕ) (gone : List Bytes) (piece : Bytes) (place : ℕ) → length starts ≡ 33
    → length gone ≡ count → place ≡ at + length (closed sep (gone ++ (piece ∷ []))) → Begins sep at starts count gone
    → Begins sep at (set starts (count + 1) place) (count + 1) (gone ++ (piece ∷ []))
begins_more sep at starts count gone piece place room n p b k l u =
    by_cases (dec_lt k (count + 1))
    (λ w. rw (take-append-le k gone (piece ∷ []) (omega arith)) (get_or-set_other starts (count + 1) k place 0 (λ z. omega arith) ∙ b k l (omega arith)))
    (λ w.
    let z : k ≡ count + 1 = omega arith in
    let all : take (count + 1) (gone ++ (piece ∷ [])) ≡ gone ++ (piece ∷ []) =
    take_all (count + 1) (gone ++ (piece ∷ [])) (simp length-append (omega arith)) in
    rw (z, all) (get_or-set_same starts (count + 1) place 0 (omega arith) ∙ p))

-- the place is behind the last component separator exactly if the piece ends in it, also with data behind the piece
last_with : (c : ℕ) (piece gap : Bytes) (here behind place : ℕ) → eqb here behind ≡ ends_in c piece → behind ≤ here → place ≡ here + length gap
    → Free c gap → eqb place behind ≡ ends_in c (piece ++ gap)
last_with c piece [] here behind place e h p f =
    let z : place ≡ here = omega arith in
    rw (z, append-nil piece) e
last_with c piece (b ∷ gap) here behind place e h p f = ne_eqb place behind (λ z. omega arith) ∙ sym (ends_gap c piece b gap f)

-- after some turns: the pieces that are gone, the bytes of the one that is begun, and where the walk stands
pub record Walk (q : Separators) (table : List Bool) (s : Bytes) (at : ℕ) (queue starts : List ℕ) (head tail seen count : ℕ) (ended : Bool)
    (start behind : ℕ) : Type 0 where
  pub right : SpecialTable q table
  pub differ : Fitted q
  pub gone : List Bytes
  pub begun : Bytes
  pub here : ℕ
  pub whole : drop at s ≡ closed q.element gone ++ (begun ++ drop here s)
  pub clean : Clean q.element gone
  pub free : Free q.element begun
  pub start_is : start ≡ at + length (closed q.element gone)
  pub place : here ≡ start + length begun
  pub good_gone : All (Permitted q) (closed q.element gone)
  pub good_begun : All (Permitted q) begun
  pub count_is : length gone ≡ count
  pub begins : (k : ℕ) → k ≤ 32 → k ≤ count → get_or starts k 0 ≡ at + length (closed q.element (take k gone))
  pub room : length starts ≡ 33
  -- every element that is gone ends well
  pub ended_is : ended ≡ every (well q.component) (drop 1 gone)
  -- `behind` tells whether a component separator was met, and whether it is the last byte
  pub low : at ≤ behind
  pub high : behind ≤ here
  pub alone : behind ≡ at → Free q.component (closed q.element gone) × Free q.component begun
  pub last : 0 < count → eqb here behind ≡ ends_in q.component begun
  pub ready : Ready table s here queue head tail seen

-- before the first turn
pub walk_none : {q : Separators} {table : List Bool} {s : Bytes} {at : ℕ} {queue : List ℕ} (starts : List ℕ) {head tail seen : ℕ} → SpecialTable q table → Fitted q
    → Ready table s at queue head tail seen → length starts ≡ 33 → Walk q table s at queue (set starts 0 at) head tail seen 0 true at at
walk_none {at = at} starts right differ r h = record {
  right = right;
  differ = differ;
  gone = [];
  begun = [];
  here = at;
  whole = refl;
  clean = tt;
  free = tt;
  start_is = omega arith;
  place = omega arith;
  good_gone = tt;
  good_begun = tt;
  count_is = refl;
  begins = λ k l u. let z : k ≡ 0 = omega arith in rw z (get_or-set_same starts 0 at 0 (omega arith) ∙ omega arith);
  room = simp length-set h;
  ended_is = refl;
  low = omega arith;
  high = omega arith;
  alone = λ e. (tt, tt);
  last = λ l. absurd (omega arith);
  ready = r;
}

-- what may stand in a segment is free of the terminator
pub good_free : (q : Separators) (x : Bytes) → All (Permitted q) x → Free q.terminator x
good_free q x u = all_free (Permitted q) q.terminator x (λ b h. h.0) u

module _ {q : Separators} {table : List Bool} (right : SpecialTable q table) where
  -- data may stand in a segment
  pub data_good : (x : Bytes) → All (Data table) x → All (Permitted q) x
  data_good x u = all_map (Data table) (Permitted q) x (λ b h. data_allowed q b (rw (right.tells b) at h)) u

  -- it is free of the element separator
  data_element : (x : Bytes) → All (Data table) x → Free q.element x
  data_element x u = all_free (Data table) q.element x (λ b h. no_element q b (rw (right.tells b) at h)) u

  -- and of the component separator
  data_component : (x : Bytes) → All (Data table) x → Free q.component x
  data_component x u = all_free (Data table) q.component x (λ b h. no_component q b (rw (right.tells b) at h)) u

module _ {q : Separators} {table : List Bool} {s : Bytes} {at : ℕ} {queue starts : List ℕ} {head tail seen count : ℕ} {ended : Bool}
    {start behind : ℕ} (w : Walk q table s at queue starts head tail seen count ended start behind) where
  -- there are no more pieces than bytes
  pub count_small : count ≤ length s
  count_small =
      omega (arith, closed_long w.gone, w.count_is, w.start_is, w.place, w.ready.listed.place, w.ready.listed.within)
    where
      closed_long : (ps : List Bytes) → length ps ≤ length (closed q.element ps)
      closed_long [] = omega arith
      closed_long (p ∷ ps) = rw (length-append p (q.element ∷ closed q.element ps)) (omega (arith, closed_long ps))

  module _ (some : head < tail) where
    -- the next special place
    abbrev pub place : ℕ
    place = get_or queue head 0

    -- what it says of the bytes
    pub next : Front table s w.here place seen (left queue (head + 1) tail)
    next = front (rw (left_cons queue head tail some (omega (arith, w.ready.few, w.ready.size))) at w.ready.listed)

    -- it is a place within the bytes
    pub inside : place < length s
    inside = next.inside

    -- the piece up to it
    abbrev pub piece : Bytes
    piece = w.begun ++ next.gap

    -- where the piece ends
    pub piece_place : place ≡ start + length piece
    piece_place = simp length-append (omega (arith, w.place, next.place))

    -- what follows it
    pub piece_whole : drop at s ≡ closed q.element w.gone ++ (piece ++ drop place s)
    piece_whole = rw (append_assoc w.begun, ← next.whole) w.whole

    -- it is free of the element separator
    pub piece_free : Free q.element piece
    piece_free = free_append q.element w.begun next.gap w.free (data_element w.right next.gap next.data_only)

    -- its bytes may stand in a segment
    pub piece_good : All (Permitted q) piece
    piece_good = all_append (Permitted q) w.begun next.gap w.good_begun (data_good w.right next.gap next.data_only)

    -- it is free of the component separator where none was met
    pub piece_alone : behind ≡ at → Free q.component piece
    piece_alone e = free_append q.component w.begun next.gap (w.alone e).1 (data_component w.right next.gap next.data_only)

    -- the place is behind the last component separator exactly if an element ends in it
    piece_last : 0 < count → eqb place behind ≡ ends_in q.component piece
    piece_last l =
        last_with q.component w.begun next.gap w.here behind place (w.last l) w.high next.place
        (data_component w.right next.gap next.data_only)

    -- an element's last component is not empty exactly if the place is not behind a component separator
    pub piece_well : 0 < count → not (eqb place behind) ≡ well q.component piece
    piece_well l = ap not (piece_last l)

    -- the queue without the place is ready behind it
    pub next_ready : Ready table s (place + 1) queue (head + 1) tail seen
    next_ready = record { listed = next.others; few = w.ready.few; size = w.ready.size }

    -- the byte at the place, and what is behind it
    pub byte_there : (b : ℕ) → get_or s place 0 ≡ b → drop place s ≡ b ∷ drop (place + 1) s
    byte_there b e = rw (add-one, ← e) (drop-cons s place 0 inside)

    -- an element separator: the piece is gone
    pub on_element : get_or s place 0 ≡ q.element
        → Walk q table s at queue (set starts (count + 1) (place + 1)) (head + 1) tail seen (count + 1)
        (ended && (not (eqb place behind) || eqb count 0)) (place + 1) behind
    on_element e =
        let snoc = closed_snoc q.element w.gone piece in
        let far : place + 1 ≡ at + length (closed q.element (w.gone ++ (piece ∷ []))) =
        rw (snoc, length-append (closed q.element w.gone) (piece ++ q.element ∷ []), length-append piece (q.element ∷ []))
        (omega (arith, w.start_is, piece_place)) in
        record {
          right = w.right;
          differ = w.differ;
          gone = w.gone ++ (piece ∷ []);
          begun = [];
          here = place + 1;
          whole = rw (snoc, append_assoc (closed q.element w.gone), append_assoc piece, ← byte_there q.element e) piece_whole;
          clean = clean_snoc q.element w.gone piece w.clean piece_free;
          free = tt;
          start_is = far;
          place = omega arith;
          good_gone = rw snoc
              (all_append (Permitted q) (closed q.element w.gone) (piece ++ q.element ∷ []) w.good_gone
              (all_append (Permitted q) piece (q.element ∷ []) piece_good (element_allowed q w.differ, tt)));
          good_begun = tt;
          count_is = simp length-append (omega (arith, w.count_is));
          begins = begins_more q.element at starts count w.gone piece (place + 1) w.room w.count_is far w.begins;
          room = simp length-set w.room;
          ended_is = ended_more q.component w.gone piece ended (not (eqb place behind)) count w.count_is w.ended_is piece_well;
          low = w.low;
          high = omega (arith, w.high, next.place);
          alone = λ a. (
            rw snoc
                (free_append q.component (closed q.element w.gone) (piece ++ q.element ∷ []) (w.alone a).0
                (free_snoc q.component piece q.element (piece_alone a) w.differ.element_component)),
            tt,
          );
          last = λ l. ne_eqb (place + 1) behind (λ z. omega (arith, w.high, next.place));
          ready = next_ready;
        }

    -- a component separator: the piece goes on
    pub on_component : get_or s place 0 ≡ q.component
        → Walk q table s at queue starts (head + 1) tail seen count ended start (place + 1)
    on_component e = record {
      right = w.right;
      differ = w.differ;
      gone = w.gone;
      begun = piece ++ (q.component ∷ []);
      here = place + 1;
      whole = rw (append_assoc piece, ← byte_there q.component e) piece_whole;
      clean = w.clean;
      free = free_snoc q.element piece q.component piece_free (λ z. w.differ.element_component (sym z));
      start_is = w.start_is;
      place = rw (length-append piece (q.component ∷ [])) (omega (arith, piece_place));
      good_gone = w.good_gone;
      good_begun = all_append (Permitted q) piece (q.component ∷ []) piece_good (component_allowed q w.differ, tt);
      count_is = w.count_is;
      begins = w.begins;
      room = w.room;
      ended_is = w.ended_is;
      low = omega (arith, w.start_is, piece_place);
      high = omega arith;
      alone = λ a. absurd (omega (arith, w.start_is, piece_place));
      last = λ l. eq-eqb (place + 1) (place + 1) refl ∙ sym (ends_snoc q.component piece q.component ∙ eq-eqb q.component q.component refl);
      ready = next_ready;
    }

  -- the queue is used up, and filled anew
  pub on_refill : tail ≤ head → (to number : ℕ) (new : List ℕ) → Indexed table s seen to number new
      → Walk q table s at new starts 0 number to count ended start behind
  on_refill none to number new i = record {
    right = w.right;
    differ = w.differ;
    gone = w.gone;
    begun = w.begun;
    here = w.here;
    whole = w.whole;
    clean = w.clean;
    free = w.free;
    start_is = w.start_is;
    place = w.place;
    good_gone = w.good_gone;
    good_begun = w.good_begun;
    count_is = w.count_is;
    begins = w.begins;
    room = w.room;
    ended_is = w.ended_is;
    low = w.low;
    high = w.high;
    alone = w.alone;
    last = w.last;
    ready = record {
      listed = let z : number - 0 ≡ number = omega arith in rw z (refilled w.ready.listed (left_none queue head tail none) i.listed);
      few = i.few;
      size = i.size;
    };
  }

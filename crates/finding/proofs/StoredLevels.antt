-- Tables that hold the levels so far: before the first segment, behind a segment more, and behind one that makes a level.
-- Assumes nothing.
use Prim.Native.Nat.{ℕ, suc, ◌+◌, ◌-◌, ◌*◌, ◌/◌, ◌%◌, ◌≤◌, ◌<◌, min}
use mathlib.Core.Path.{◌≡◌, refl, sym, ap, ◌∙◌}
use mathlib.Core.Bool.{Bool, true, false, not, cond, ◌&&◌, ◌||◌}
use mathlib.Core.Logic.{by_cases}
use mathlib.Core.List.{List, [], ◌∷◌, ◌++◌, append_assoc}
use native.Mathlib.Omega.{arith}
use native.Mathlib.Decide.{dec_lt}
use lib.Dec.{eqb}
use lib.ListN.{length, take, drop, get_or, set, length-append, length-set, take-append-drop}
use lib.Seq.{drop_at, drop-drop, get_or-set_same, get_or-set_other}
use borrow.Author.Tests.{ne_eqb, eqb-true, eqb-false, le-leb}
use Rattle.text.specs.Bytes.{Bytes, bytes, same}
use Rattle.text.specs.Pieces.{pieces, joined}
use Rattle.text.proofs.Bools.{and_false, and_true}
use Rattle.text.proofs.Pieces.{Clean, joined_pieces, pieces_clean, pieces_cut, first_piece}
use Rattle.levels.specs.Widths.{segment_width, level_width}
use Rattle.levels.specs.Levels.{Level}
use Rattle.finding.specs.declared.notes.Asks.{Asks}
use Rattle.finding.specs.declared.notes.Asks.TheVariants.{Nothing, Shut, Owes}
use Rattle.finding.specs.internal.Entries.{level_entry, start_of, stored_at, deepest}
use Rattle.finding.specs.internal.Lists.{lists, place_of, last_in}
use Rattle.finding.specs.internal.Notes.{asks_number, note_of, note_with, code_in, asks_in, is_owing, link_in, asks_of, answered, child_met}
use Rattle.finding.specs.internal.Answers.{id_at}
use Rattle.finding.specs.internal.TablesHold.{has_child, still_asks, Held, HeldAll, TablesHold, HlBytes}
use Rattle.finding.proofs.TableEntries.{SameRecords, same_entry, stored_same, stored_entry}
use Rattle.finding.proofs.PlainTable.{owing_two, answered_code, met_long}
use Rattle.finding.proofs.ListSearch.{place_below, last_within}

-- the second piece stands behind the first, which has two bytes, up to the next separator, whatever follows the pieces
second_piece : (separator : ℕ) (s more : Bytes) (ps : List Bytes) → 3 ≤ length ps → length (get_or ps 0 []) ≡ 2 → Clean separator ps
    → s ≡ joined separator ps ++ more → get_or (pieces separator (drop 3 s)) 0 [] ≡ get_or ps 1 []
second_piece separator s more [] some tag clean e = absurd (omega arith)
second_piece separator s more (p ∷ []) some tag clean e = absurd (omega arith)
second_piece separator s more (p ∷ (q ∷ [])) some tag clean e = absurd (omega arith)
second_piece separator s more (p ∷ (q ∷ (r ∷ ps))) some tag clean e =
    let rest = joined separator (r ∷ ps) ++ more in
    let whole : s ≡ (p ++ separator ∷ []) ++ (q ++ separator ∷ rest) = e ∙ simp append_assoc in
    let three : length (p ++ separator ∷ []) ≡ 3 = simp length-append (omega arith) in
    ap (λ (l : Bytes). first_piece separator (drop 3 l)) whole
    ∙ rw (drop_at (p ++ separator ∷ []) (q ++ separator ∷ rest) 3 three, pieces_cut separator q rest clean.1.0)

-- so a segment tells its HL01, whatever follows it
hl_id : (s : Bytes) (separator start len : ℕ) (id : Bytes) → HlBytes s separator start len id → id_at s separator start ≡ id
hl_id s separator start len id w =
    let segment = take len (drop start s) in
    let whole : drop start s ≡ joined separator (pieces separator segment) ++ drop len (drop start s) =
    sym (take-append-drop len (drop start s)) ∙ ap (λ (l : Bytes). l ++ drop len (drop start s)) (sym (joined_pieces separator segment)) in
    ap (λ (l : Bytes). get_or (pieces separator l) 0 []) (sym (drop-drop 3 start s))
    ∙ second_piece separator (drop start s) (drop len (drop start s)) (pieces separator segment) w.some w.tag (pieces_clean separator segment) whole
    ∙ w.id_is

-- a child is met: its parent's note alone changes, and that no more than it must
record Met (levels levels' : List ℕ) (parent : ℕ) : Type 0 where
  others : (k j : ℕ) → 1 ≤ k → j < level_width → (k ≡ parent → j ≡ 3 → ⊥) → level_entry levels' k j ≡ level_entry levels k j
  note : 1 ≤ parent → level_entry levels' parent 3 ≡ answered (level_entry levels parent 3)

child_met_lem : (levels : List ℕ) (parent : ℕ) → parent ≤ length levels / level_width → Met levels (child_met levels parent) parent
child_met_lem levels parent room = by_cases (dec_lt 0 parent) some none
  where
    none : (0 < parent → ⊥) → Met levels (child_met levels parent) parent
    none h =
        let e : parent ≡ 0 = omega arith in
        rw e (record { others = λ k j low l other. refl; note = λ low. absurd (omega arith) })

    some : 0 < parent → Met levels (child_met levels parent) parent
    some h =
        let at = (parent - 1) * level_width + 3 in
        let inside : at < length levels = omega arith in
        rw (le-leb 1 parent h, le-leb parent (length levels / level_width) room) (record {
          others = λ k j low l other. rw (
            length-set levels at (answered (get_or levels at 0)),
            get_or-set_other levels at ((k - 1) * level_width + j) (answered (get_or levels at 0)) 0 (λ e. other (omega arith) (omega arith)),
          );
          note = λ low. rw (
            length-set levels at (answered (get_or levels at 0)),
            le-leb 1 parent h,
            le-leb parent (length levels / level_width) room,
            get_or-set_same levels at (answered (get_or levels at 0)) 0 inside,
          );
        })

-- a note once a child was met: the link stays, as the code does, and a child is no longer asked for
answered_link : (note : ℕ) → link_in (answered note) ≡ link_in note
answered_link note = by_value (is_owing (asks_in note)) refl
  where
    by_value : (b : Bool) → is_owing (asks_in note) ≡ b → link_in (cond b (note - 16) note) ≡ link_in note
    by_value true e = omega (arith, owing_two note e)
    by_value false e = refl

met_asks : (note : ℕ) (asks : Asks) → note / 8 % 4 ≡ asks_number asks → answered note / 8 % 4 ≡ asks_number (cond (is_owing asks) Nothing asks)
met_asks note Nothing e = rw e e
met_asks note Shut e = rw e e
met_asks note Owes e =
    let none : (note - 16) / 8 % 4 ≡ 0 = omega (arith, e) in
    rw (e, none)

answered_asks : (note : ℕ) (shut owes : Bool) → note / 8 % 4 ≡ asks_number (cond shut Shut (cond owes Owes Nothing))
    → answered note / 8 % 4 ≡ asks_number (cond shut Shut Nothing)
answered_asks note true owes e = met_asks note Shut e
answered_asks note false true e = met_asks note Owes e
answered_asks note false false e = met_asks note Nothing e

-- what is noted is read back
few_asks : (asks : Asks) → asks_number asks < 4
few_asks Nothing = omega arith
few_asks Shut = omega arith
few_asks Owes = omega arith

pub noted_code : (code asks before : ℕ) → code < 8 → code_in (note_of code asks before) ≡ code
noted_code code asks before h = omega arith

noted_asks : (code : ℕ) (asks : Asks) (before : ℕ) → note_with code asks before / 8 % 4 ≡ asks_number asks
noted_asks code asks before = omega (arith, few_asks asks)

noted_link : (code : ℕ) (asks : Asks) (before : ℕ) → before < 4294967296 → link_in (note_with code asks before) ≡ before
noted_link code asks before h = omega (arith, few_asks asks)

module _ (s : Bytes) (separator : ℕ) (segments levels : List ℕ) (m : ℕ) (all : List Level) where
  -- a level that is not there yet has no child
  no_child : (n : ℕ) (ls : List Level) → HeldAll s separator segments levels m all ls → length ls < n → has_child n ls ≡ false
  no_child n [] held h = refl
  no_child n (l ∷ ls) held h =
      let early = held.0.earlier in
      rw (ne_eqb l.parent n (λ e. omega (arith, early))) (no_child n ls held.1 (omega arith))

-- a segment more: the records so far stay
module _ (s : Bytes) (separator : ℕ) {segments segments' : List ℕ} (levels : List ℕ) {m : ℕ} (all : List Level)
    (old : SameRecords segment_width segments segments' m) where
  name_stays : (l : Level) → l.segment ≤ m → id_at s separator (start_of segments l.segment) ≡ l.id → id_at s separator (start_of segments' l.segment) ≡ l.id
  name_stays l placed named = ap (id_at s separator) (same_entry old l.segment 0 placed (omega arith)) ∙ named

  stays : (ls : List Level) → HeldAll s separator segments levels m all ls → HeldAll s separator segments' levels (suc m) all ls
  stays [] held = tt
  stays (l ∷ ls) held =
      let h = held.0 in (
        record {
          named = name_stays l h.placed h.named;
          placed = omega (arith, h.placed);
          earlier = h.earlier;
          segment_is = h.segment_is;
          depth_is = h.depth_is;
          code_is = h.code_is;
          asks_is = h.asks_is;
          link_is = h.link_is;
        },
        stays ls held.1,
      )

  -- one level more, whose parent's note says so
  module _ (levels' : List ℕ) (new : Level) (n : ℕ)
      (others : (k j : ℕ) → 1 ≤ k → k ≤ n → j < level_width → (k ≡ new.parent → j ≡ 3 → ⊥) → level_entry levels' k j ≡ level_entry levels k j)
      (note : 1 ≤ new.parent → level_entry levels' new.parent 3 ≡ answered (level_entry levels new.parent 3)) where
    -- the note of level k then
    note_then : (k : ℕ) → 1 ≤ k → k ≤ n → level_entry levels' k 3 ≡ cond (eqb new.parent k) (answered (level_entry levels k 3)) (level_entry levels k 3)
    note_then k low high = by_value (eqb new.parent k) refl
      where
        by_value : (b : Bool) → eqb new.parent k ≡ b → level_entry levels' k 3 ≡ cond b (answered (level_entry levels k 3)) (level_entry levels k 3)
        by_value true e =
            let is : new.parent ≡ k = eqb-true new.parent k e in
            rw (← is) (note (omega arith))
        by_value false e = others k 3 low high (omega arith) (λ q z. eqb-false new.parent k e (sym q))

    -- what a child does not change of it
    part_then : (part : ℕ → ℕ) → ((note : ℕ) → part (answered note) ≡ part note) → (k : ℕ) → 1 ≤ k → k ≤ n
        → part (level_entry levels' k 3) ≡ part (level_entry levels k 3)
    part_then part same-part k low high = ap part (note_then k low high) ∙ by_value (eqb new.parent k)
      where
        by_value : (b : Bool) → part (cond b (answered (level_entry levels k 3)) (level_entry levels k 3)) ≡ part (level_entry levels k 3)
        by_value true = same-part (level_entry levels k 3)
        by_value false = refl

    asks_then : (k : ℕ) → 1 ≤ k → k ≤ n → (mark : Bytes) → level_entry levels k 3 / 8 % 4 ≡ asks_number (still_asks all k mark)
        → level_entry levels' k 3 / 8 % 4 ≡ asks_number (still_asks (new ∷ all) k mark)
    asks_then k low high mark e = ap (λ (n : ℕ). n / 8 % 4) (note_then k low high) ∙ by_value (eqb new.parent k)
      where
        by_value : (b : Bool) → cond b (answered (level_entry levels k 3)) (level_entry levels k 3) / 8 % 4
            ≡ asks_number (cond (same mark (bytes "0")) Shut (cond (same mark (bytes "1") && not (b || has_child k all)) Owes Nothing))
        by_value true = rw (and_false (same mark (bytes "1"))) (answered_asks (level_entry levels k 3) (same mark (bytes "0")) (same mark (bytes "1") && not (has_child k all)) e)
        by_value false = e

    grows : (ls : List Level) → length ls ≤ n → HeldAll s separator segments levels m all ls → HeldAll s separator segments' levels' (suc m) (new ∷ all) ls
    grows [] few held = tt
    grows (l ∷ ls) few held =
        let h = held.0 in
        let k = suc (length ls) in (
          record {
            named = name_stays l h.placed h.named;
            placed = omega (arith, h.placed);
            earlier = h.earlier;
            segment_is = others k 0 (omega arith) few (omega arith) (λ e z. omega (arith, z)) ∙ h.segment_is;
            depth_is = ap (min deepest) (others k 2 (omega arith) few (omega arith) (λ e z. omega (arith, z))) ∙ h.depth_is;
            code_is = part_then code_in answered_code k (omega arith) few ∙ h.code_is;
            asks_is = asks_then k (omega arith) few l.mark h.asks_is;
            link_is = part_then link_in answered_link k (omega arith) few ∙ h.link_is;
          },
          grows ls (omega arith) held.1,
        )

-- before the first segment
pub holds_none : (s : Bytes) (separator : ℕ) (segments levels lasts : List ℕ) → length lasts ≡ lists → ((place : ℕ) → place < lists → get_or lasts place 0 ≡ 0)
    → TablesHold s separator segments levels lasts 0 []
holds_none s separator segments levels lasts long none = record { room = omega arith; each = tt; known = none; lists_long = long }

-- a segment's record begins with its start and length
module _ {s : Bytes} {separator : ℕ} {segments levels lasts : List ℕ} {m : ℕ} {ls : List Level} (t : TablesHold s separator segments levels lasts m ls)
    (start len : ℕ) (more : List ℕ) (wide : length (start ∷ len ∷ more) ≡ segment_width) (room : suc m ≤ length segments / segment_width) where
  abbrev segments_then : List ℕ
  segments_then = stored_at segment_width segments m (start ∷ len ∷ more)

  -- the segment records so far are kept
  segments_stay : SameRecords segment_width segments segments_then m
  segments_stay = stored_same segment_width segments m (start ∷ len ∷ more) wide room

  -- a segment that makes no level
  pub holds_segment : TablesHold s separator segments_then levels lasts (suc m) ls
  holds_segment = record { room = t.room; each = stays s separator levels ls segments_stay ls t.each; known = t.known; lists_long = t.lists_long }

  -- a segment that makes the level l, whose name belongs to that list
  module _ (l : Level) (number : l.segment ≡ suc m) (shallow : l.depth ≤ deepest) (coded : l.code < 8) (early : l.parent ≤ length ls)
      (level_room : suc (length ls) ≤ length levels / level_width) (few : suc (length ls) < 4294967296) (written : HlBytes s separator start len l.id) where
    abbrev place : ℕ
    place = place_of l.id % lists

    -- its record, with its note
    abbrev pub numbers : List ℕ
    numbers = suc m ∷ l.parent ∷ l.depth ∷ note_with l.code (asks_of l.mark) (get_or lasts place 0) ∷ []

    abbrev levels_then : List ℕ
    levels_then = stored_at level_width (child_met levels l.parent) (length ls) numbers

    abbrev lasts_then : List ℕ
    lasts_then = set lasts place (suc (length ls) % 4294967296)

    met : Met levels (child_met levels l.parent) l.parent
    met = child_met_lem levels l.parent (omega arith)

    room_then : suc (length ls) ≤ length (child_met levels l.parent) / level_width
    room_then = rw (met_long levels l.parent) level_room

    entry_then : (j : ℕ) → j < level_width → level_entry levels_then (suc (length ls)) j ≡ get_or numbers j 0
    entry_then j h = stored_entry level_width (child_met levels l.parent) (length ls) numbers refl room_then j h

    levels_stay : SameRecords level_width (child_met levels l.parent) levels_then (length ls)
    levels_stay = stored_same level_width (child_met levels l.parent) (length ls) numbers refl room_then

    own_place : place ≡ place_of l.id
    own_place = omega (arith, place_below l.id)

    last_one : get_or lasts place 0 ≡ last_in (place_of l.id) ls
    last_one = rw own_place (t.known (place_of l.id) (place_below l.id))

    -- it has no child yet
    asks_own : asks_of l.mark ≡ still_asks (l ∷ ls) (suc (length ls)) l.mark
    asks_own =
        rw (ne_eqb l.parent (suc (length ls)) (λ e. omega arith), no_child s separator segments levels m ls (suc (length ls)) ls t.each (omega arith), and_true (same l.mark (bytes "1")))

    own : Held s separator segments_then levels_then (suc m) (l ∷ ls) l ls
    own =
        let link : get_or lasts place 0 < 4294967296 = rw last_one (omega (arith, last_within (place_of l.id) ls)) in
        record {
          named = rw number (ap (id_at s separator) (stored_entry segment_width segments m (start ∷ len ∷ more) wide room 0 (omega arith)) ∙ hl_id s separator start len l.id written);
          placed = omega arith;
          earlier = early;
          segment_is = entry_then 0 (omega arith) ∙ sym number;
          depth_is = ap (min deepest) (entry_then 2 (omega arith)) ∙ omega arith;
          code_is = ap code_in (entry_then 3 (omega arith)) ∙ noted_code l.code (asks_number (asks_of l.mark)) (get_or lasts place 0) coded;
          asks_is = ap (λ (n : ℕ). n / 8 % 4) (entry_then 3 (omega arith)) ∙ noted_asks l.code (asks_of l.mark) (get_or lasts place 0) ∙ ap asks_number asks_own;
          link_is = ap link_in (entry_then 3 (omega arith)) ∙ noted_link l.code (asks_of l.mark) (get_or lasts place 0) link ∙ last_one;
        }

    others_then : (k j : ℕ) → 1 ≤ k → k ≤ length ls → j < level_width → (k ≡ l.parent → j ≡ 3 → ⊥) → level_entry levels_then k j ≡ level_entry levels k j
    others_then k j low high h other = same_entry levels_stay k j high h ∙ met.others k j low h other

    known_then : (q : ℕ) → q < lists → get_or lasts_then q 0 ≡ last_in q (l ∷ ls)
    known_then q h = by_value (eqb (place_of l.id) q) refl
      where
        by_value : (b : Bool) → eqb (place_of l.id) q ≡ b → get_or lasts_then q 0 ≡ cond b (suc (length ls)) (last_in q ls)
        by_value true e =
            let is : q ≡ place = omega (arith, eqb-true (place_of l.id) q e, own_place) in
            rw is (get_or-set_same lasts place (suc (length ls) % 4294967296) 0 (omega (arith, t.lists_long)) ∙ omega arith)
        by_value false e =
            get_or-set_other lasts place q (suc (length ls) % 4294967296) 0 (λ is. eqb-false (place_of l.id) q e (sym own_place ∙ sym is)) ∙ t.known q h

    pub holds_level : TablesHold s separator segments_then levels_then lasts_then (suc m) (l ∷ ls)
    holds_level = record {
      room = rw levels_stay.size room_then;
      each = (
        own,
        grows s separator levels ls segments_stay levels_then l (length ls) others_then
            (λ low. same_entry levels_stay l.parent 3 early (omega arith) ∙ met.note low) ls (omega arith) t.each,
      );
      known = known_then;
      lists_long = length-set lasts place (suc (length ls) % 4294967296) ∙ t.lists_long;
    }

-- Lent bytes and tables, and the last level of each list, that hold the levels so far.
-- Assumes nothing.
use Rattle.std.specs.Prelude.{ℕ, suc, ◌/◌, ◌%◌, ◌≤◌, ◌<◌, min, ◌≡◌, Bool, not, cond, ◌&&◌, List, [], ◌∷◌, eqb, length, take, drop, get_or}
use Rattle.text.specs.Bytes.{Bytes, bytes, any, same}
use Rattle.text.specs.Pieces.{pieces}
use Rattle.levels.specs.Widths.{level_width}
use Rattle.levels.specs.Levels.{Level}
use Rattle.finding.specs.declared.notes.Asks.{Asks}
use Rattle.finding.specs.declared.notes.Asks.TheVariants.{Nothing, Shut, Owes}
use Rattle.finding.specs.internal.Entries.{start_of, level_entry, deepest}
use Rattle.finding.specs.internal.Lists.{lists, place_of, last_in}
use Rattle.finding.specs.internal.Notes.{asks_number, code_in, link_in}
use Rattle.finding.specs.internal.Answers.{id_at}

-- whether one of the levels has level n as its parent
abbrev pub has_child : ℕ → List Level → Bool
has_child n all = any (λ (child : Level). eqb child.parent n) all

-- what the mark of level n still asks, where these are all levels: that none hangs under it, that one does, or nothing
abbrev pub still_asks : List Level → ℕ → Bytes → Asks
still_asks all n mark = cond (same mark (bytes "0")) Shut (cond (same mark (bytes "1") && not (has_child n all)) Owes Nothing)

-- the tables hold the level l behind the levels ls, which are some of `all`; its segment is one of the first m
pub record Held (s : Bytes) (separator : ℕ) (segments levels : List ℕ) (m : ℕ) (all : List Level) (l : Level) (ls : List Level) : Type 0 where
  pub named : id_at s separator (start_of segments l.segment) ≡ l.id
  pub placed : l.segment ≤ m
  pub earlier : l.parent ≤ length ls
  pub segment_is : level_entry levels (suc (length ls)) 0 ≡ l.segment
  pub depth_is : min deepest (level_entry levels (suc (length ls)) 2) ≡ l.depth
  pub code_is : code_in (level_entry levels (suc (length ls)) 3) ≡ l.code
  pub asks_is : level_entry levels (suc (length ls)) 3 / 8 % 4 ≡ asks_number (still_asks all (suc (length ls)) l.mark)
  pub link_is : link_in (level_entry levels (suc (length ls)) 3) ≡ last_in (place_of l.id) ls

-- they hold each of the levels, latest first
abbrev pub HeldAll : Bytes → ℕ → (segments levels : List ℕ) → ℕ → List Level → List Level → Type 0
HeldAll s separator segments levels m all [] = Unit {0}
HeldAll s separator segments levels m all (l ∷ ls) = Held s separator segments levels m all l ls × HeldAll s separator segments levels m all ls

-- the tables hold the levels ls, whose segments are among the first m, and `lasts` has the last level of each list
pub record TablesHold (s : Bytes) (separator : ℕ) (segments levels lasts : List ℕ) (m : ℕ) (ls : List Level) : Type 0 where
  pub room : length ls ≤ length levels / level_width
  pub each : HeldAll s separator segments levels m ls ls
  pub known : (place : ℕ) → place < lists → get_or lasts place 0 ≡ last_in place ls
  pub lists_long : length lasts ≡ lists

-- the bytes at `start`, `len` of them, are a segment with a tag of two letters, two elements at least, and this HL01
pub record HlBytes (s : Bytes) (separator start len : ℕ) (id : Bytes) : Type 0 where
  pub tag : length (get_or (pieces separator (take len (drop start s))) 0 []) ≡ 2
  pub some : 3 ≤ length (pieces separator (take len (drop start s)))
  pub id_is : get_or (pieces separator (take len (drop start s))) 1 [] ≡ id

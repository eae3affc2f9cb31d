-- The queue of special places: where the special bytes stand.
-- Assumes nothing.
use Rattle.std.specs.Prelude.{ℕ, suc, ◌+◌, ◌-◌, ◌≤◌, ◌<◌, ◌≡◌, Bool, true, false, List, [], ◌∷◌, ◌++◌, length, take, drop}
use Rattle.text.specs.Bytes.{Bytes}
use Rattle.reading.specs.internal.SpecialBytes.{is_special_in}

-- a test as a number
unfoldable pub bit : Bool → ℕ
bit true = 1
bit false = 0

-- the place before others, where the test holds
abbrev pub put_where : Bool → ℕ → List ℕ → List ℕ
put_where true place places = place ∷ places
put_where false place places = places

-- the special places of the bytes, the first byte standing at `at`
abbrev pub places_of : List Bool → ℕ → Bytes → List ℕ
places_of table at [] = []
places_of table at (b ∷ s) = put_where (is_special_in table b) at (places_of table (suc at) s)

-- these are the special places of s at or after `at`, as far as `seen`
pub record SpecialPlaces (table : List Bool) (s : Bytes) (at seen : ℕ) (places : List ℕ) : Type 0 where
  pub window : Bytes
  pub whole : drop at s ≡ window ++ drop seen s
  pub place : seen ≡ at + length window
  pub within : seen ≤ length s
  pub special : places ≡ places_of table at window

-- the first `number` entries of the queue are the special places from `from` up to `to`
pub record Indexed (table : List Bool) (s : Bytes) (from to number : ℕ) (queue : List ℕ) : Type 0 where
  pub listed : SpecialPlaces table s from to (take number queue)
  pub few : number ≤ 64
  pub size : length queue ≡ 72

-- an index from `seen` up to `to` takes at least one byte and at most 64, and stays within
pub record Window (seen len to : ℕ) : Type 0 where
  pub within : to ≤ len
  pub further : seen < to
  pub near : to ≤ seen + 64

-- what is left of the queue: the entries from `head` up to `tail`
abbrev pub left : List ℕ → ℕ → ℕ → List ℕ
left queue head tail = take (tail - head) (drop head queue)

-- the queue is ready for a cut at `at`: what is left of it is the special places at or after `at`, as far as `seen`; so `at` is within s
pub record Ready (table : List Bool) (s : Bytes) (at : ℕ) (queue : List ℕ) (head tail seen : ℕ) : Type 0 where
  pub listed : SpecialPlaces table s at seen (left queue head tail)
  pub few : tail ≤ 64
  pub size : length queue ≡ 72

-- Notes: what a longer mark asks, the records that are cleared, and the levels that owe a child.
-- Assumes nothing.
use Rattle.std.specs.List.{list_all, range_with_len}
use Prim.Native.Nat.{ℕ, zero, suc, ◌+◌, ◌*◌, ◌/◌, ◌≤◌, ◌<◌}
use mathlib.Core.Path.{◌≡◌, refl, sym, ap, ◌∙◌}
use mathlib.Core.Bool.{Bool, true, false, not, ◌&&◌}
use mathlib.Core.List.{List, [], ◌∷◌}
use native.Mathlib.Omega.{arith}
use lib.ListN.{length, get_or, set}
use Rattle.text.specs.Bytes.{Bytes}
use Rattle.text.proofs.Bools.{and_false}
use Rattle.levels.specs.Widths.{level_width}
use Rattle.finding.specs.declared.notes.Asks.TheVariants.{Nothing}
use Rattle.finding.specs.internal.Entries.{level_entry}
use Rattle.finding.specs.internal.Notes.{asks_in, asks_of, is_owing, code_in, plain}
use Rattle.finding.specs.internal.Answers.{none_owes}
use Rattle.finding.proofs.PlainTable.{plain_more}

-- a mark of two bytes or more asks nothing
pub long_mark_asks : (mark : Bytes) → 2 ≤ length mark → Nothing ≡ asks_of mark
long_mark_asks [] h = absurd (omega arith)
long_mark_asks (a ∷ []) h = absurd (omega arith)
long_mark_asks (a ∷ (b ∷ s)) h = simp and_false

-- one record more is cleared
pub cleared_more : (before now : List ℕ) (k : ℕ) → now ≡ plain k before → k < length before / level_width
    → set now (k * level_width + 3) (code_in (get_or now (k * level_width + 3) 0)) ≡ plain (k + 1) before
cleared_more before now k e h =
    let one : k + 1 ≡ suc k = omega arith in
    rw (e, one) (plain_more k before h)

-- no level owes a child: each of them owes none, from the first one on
abbrev pub owes_none : List ℕ → ℕ → Bool
owes_none levels n = not (is_owing (asks_in (level_entry levels n 3)))

all_more : (p : ℕ → Bool) (a n j : ℕ) → a + n ≡ j → list_all p (range_with_len a (suc n)) ≡ p j && list_all p (range_with_len a n)
all_more p a zero j e =
    let same : a ≡ j = omega arith in
    ap (λ (k : ℕ). p k && true) same
all_more p a (suc n) j e =
    ap (λ (b : Bool). p a && b) (all_more p (a + 1) n j (omega arith)) ∙ swapped (p a) (p j) (list_all p (range_with_len (a + 1) n))
  where
    swapped : (x y z : Bool) → x && (y && z) ≡ y && (x && z)
    swapped true y z = refl
    swapped false y z = sym (and_false y)

pub each_owes_none : (levels : List ℕ) (n : ℕ) → list_all (owes_none levels) (range_with_len 1 n) ≡ none_owes levels n
each_owes_none levels zero = refl
each_owes_none levels (suc n) =
    all_more (owes_none levels) 1 n (suc n) (omega arith) ∙ ap (λ (b : Bool). owes_none levels (suc n) && b) (each_owes_none levels n)

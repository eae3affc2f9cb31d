-- The bytes from one place up to another, as a loop goes over them.
-- Assumes nothing.
use Prim.Native.Nat.{ℕ, suc, ◌+◌, ◌-◌, ◌≤◌, ◌<◌}
use mathlib.Core.Path.{◌≡◌}
use mathlib.Core.List.{[], ◌∷◌}
use native.Mathlib.Omega.{arith}
use native.Mathlib.Numerals.{add-one}
use lib.ListN.{length, drop, get_or, length-drop}
use lib.Seq.{drop-cons, length-take-le}
use Rattle.text.specs.Bytes.{Bytes}
use Rattle.rewriting.specs.internal.Output.{stretch}

module _ (s : Bytes) (to : ℕ) where
  pub stretch_long : (i : ℕ) → to ≤ length s → length (stretch i to s) ≡ to - i
  stretch_long i l = length-take-le (to - i) (drop i s) (rw (length-drop i s) (omega arith))

  -- the byte at i is the next
  pub stretch_next : (i : ℕ) → to ≤ length s → i < to → stretch i to s ≡ get_or s i 0 ∷ stretch (i + 1) to s
  stretch_next i l m =
      let one : to - i ≡ suc (to - (i + 1)) = omega arith in
      rw (one, drop-cons s i 0 (omega arith), add-one i)

  pub stretch_none : (i : ℕ) → to ≤ i → stretch i to s ≡ []
  stretch_none i l = let none : to - i ≡ 0 = omega arith in rw none

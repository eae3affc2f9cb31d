-- `stop` meets its contract: the bytes before the first terminator are free of it, or all are.
-- Assumes nothing.
use Prim.Native.Nat.{ℕ, zero, suc, ◌+◌, ◌-◌, ◌≤◌, ◌<◌}
use mathlib.Core.Path.{◌≡◌, sym, ap, ◌∙◌}
use mathlib.Core.Bool.{false}
use mathlib.Core.List.{[], ◌∷◌, ◌++◌}
use native.Mathlib.Omega.{arith}
use lib.ListN.{length, take, drop, get_or, length-drop}
use lib.Dec.{eqb}
use lib.Seq.{take_all, split_at, length-take-le}
use borrow.Author.Tests.{eqb-false, eqb-true}
use Rattle.std.specs.Prelude.{position, Some, None}
use Rattle.std.specs.List.{position_or_len}
use Rattle.std.proofs.lemmas.Grind.{common_steps}
use Rattle.std.proofs.lemmas.List.Quantifiers.{position-Some}
use Rattle.std.proofs.lemmas.List.Sums.{fails_before_first}
use Rattle.text.specs.Bytes.{Bytes}
use Rattle.text.specs.internal.Search.{Free, FirstAt}
use Rattle.reading.proofs.cutting.stop.Goals as goal

-- bytes that differ from a byte up to a place are free of it up to there
free_upto : (byte : ℕ) (s : Bytes) (i : ℕ) → ((k : ℕ) → k < i → eqb byte (get_or s k 0) ≡ false) → Free byte (take i s)
free_upto byte s zero f = tt
free_upto byte [] (suc i) f = tt
free_upto byte (b ∷ s) (suc i) f = (λ e. eqb-false byte b (f 0 (omega arith)) (sym e), free_upto byte s i (λ k l. f (suc k) (omega arith)))

-- the first of the bytes from a place on, and none of them
module _ (s : Bytes) (from byte : ℕ) where
  rest_is : take (length s - from) (drop from s) ≡ drop from s
  rest_is = take_all (length s - from) (drop from s) (omega (arith, length-drop from s))

  first_at : (i : ℕ) → Some i ≡ position (eqb byte) (take (length s - from) (drop from s)) → FirstAt s from byte (from + i)
  first_at i e =
      let placed : position (eqb byte) (drop from s) ≡ Some i = rw rest_is at (sym e) in
      let found = position-Some (eqb byte) (drop from s) i 0 placed in
      let here : get_or (drop from s) i 0 ≡ byte = sym (eqb-true byte (get_or (drop from s) i 0) found.1) in
      record {
        gap = take i (drop from s);
        rest = drop (suc i) (drop from s);
        whole = split_at (drop from s) i 0 found.0 ∙ ap (λ (b : ℕ). take i (drop from s) ++ b ∷ drop (suc i) (drop from s)) here;
        free = free_upto byte (drop from s) i found.2;
        place = let inside = found.0 in omega (arith, length-take-le i (drop from s) (omega arith));
      }

  none_at : None ≡ position (eqb byte) (take (length s - from) (drop from s)) → Free byte (drop from s)
  none_at e =
      let placed : position (eqb byte) (drop from s) ≡ None = rw rest_is at (sym e) in
      let most : length (drop from s) ≤ position_or_len (eqb byte) (drop from s) = grind (arith, common_steps) in
      rw (take_all (length (drop from s)) (drop from s) (omega arith)) at
      (free_upto byte (drop from s) (length (drop from s)) (λ k l. fails_before_first (eqb byte) (drop from s) k 0 (omega arith)))

pub returns-in-Some : goal.returns-in-Some
returns-in-Some c = first_at c.args.s.now c.args.from c.args.terminator _ c.in-Some.ensures

pub returns-in-None : goal.returns-in-None
returns-in-None c = none_at c.args.s.now c.args.from c.args.terminator c.in-None.ensures

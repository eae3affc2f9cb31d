-- What stands before the first place of a text.
-- Assumes nothing.
use Rattle.std.proofs.Common.{arith, ℕ, ◌<◌, length, List, ◌++◌, take, drop, length-append, length-drop, length-take, take-append-drop}
use Rattle.std.proofs.lemmas.List.{drop-append-le, append_assoc}
use Rattle.std.specs.Prelude.{None}
use Rattle.std.specs.Str.Pattern.{LacksTextAt, FindsText}
use mathlib.Core.Path.{◌∙◌, ap, sym}

module _ (n s : List ℕ) (e : ℕ) (some : 0 < length n) (none : (k : ℕ) → k < e → LacksTextAt n s k) where
  -- the text is nowhere in the bytes before that place
  pub nowhere_before : FindsText n (take e s) None
  nowhere_before i le rest is =
      none
      i
      (omega (arith, some, le, ap length is, length-drop i (take e s), length-take e s, length-append n rest))
      (rest ++ drop e s)
      (ap (drop i) (sym (take-append-drop e s)) ∙ drop-append-le i (take e s) (drop e s) le ∙ ap (λ t. t ++ drop e s) is ∙ append_assoc n rest (drop e s))

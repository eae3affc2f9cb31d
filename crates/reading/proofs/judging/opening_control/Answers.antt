-- `opening_control` meets its contract.
-- Assumes nothing.
use Prim.Native.Nat.{ℕ, ◌-◌, ◌<◌}
use mathlib.Core.Path.{◌≡◌, refl, ap, ◌∙◌}
use mathlib.Core.List.{List, [], ◌∷◌}
use native.Mathlib.Omega.{arith}
use lib.ListN.{length, take, get_or}
use borrow.Author.Tests.{lt-ltb, le-ltb}
use Rattle.std.specs.List.{slice_range}
use Rattle.text.specs.Bytes.{Bytes}
use Rattle.text.specs.View.{elements_of}
use Rattle.text.proofs.Parts.{lies_part}
use Rattle.reading.specs.internal.Judgements.{opening_control}
use Rattle.reading.proofs.judging.opening_control.Goals as goal

-- the length of the first segment stands in its record
told : (first segments : List ℕ) → first ≡ take 4 segments → get_or first 1 0 ≡ get_or segments 1 0
told first segments e = ap (λ (xs : List ℕ). get_or xs 1 0) e ∙ second segments
  where
    second : (xs : List ℕ) → get_or (take 4 xs) 1 0 ≡ get_or xs 1 0
    second [] = refl
    second (x ∷ []) = refl
    second (x ∷ y ∷ xs) = refl

-- bytes from the first one on are their front
front : (n : ℕ) (s : Bytes) → slice_range s 0 n ≡ take n s
front n s = ap (λ (k : ℕ). take k s) (whole n)
  where
    whole : (m : ℕ) → m - 0 ≡ m
    whole m = omega arith

pub returns-in_default : goal.returns-in_default
unfolding opening_control
returns-in_default c =
    let none = c.in_default.ensures.lookup.0 in
    let short : length c.args.segments.now < 4 = omega (arith, none) in
    rw (lt-ltb _ _ short)

pub returns-in_default-get : goal.returns-in_default-get
unfolding opening_control
returns-in_default-get c =
    let row = c.in-Some.ensures.lookup.0 in
    let same = told _ _ row.2 in
    let none = c.in_default-get.ensures.lookup.0 in
    let short : length c.args.s.now < get_or c.args.segments.now 1 0 = omega (arith, none, same) in
    rw (le-ltb _ _ row.1, lt-ltb _ _ short)

pub returns : goal.returns
unfolding opening_control
returns c =
    let row = c.in-Some.ensures.lookup.0 in
    let same = told _ _ row.2 in
    let first = c.in-Some-get.ensures.lookup.0 in
    rw (le-ltb _ _ row.1, ← same, le-ltb _ _ first.1)
    (c.lookup.ensures.content
    ∙ (lies_part c.args.separators _ 2 0).holds
    ∙ ap (λ (s : Bytes). get_or (elements_of c.args.separators.element s) 2 []) (first.2 ∙ front _ _))

-- Two outlines of one table are equal: place by place, since of two levels that differ at one place each would have a later place in the other list,
-- and so the sooner path; and neither list goes on behind the end of the other, since every level of it has a place before.
-- Assumes nothing.
use Prim.Native.Nat.{ℕ, zero, suc, ◌≤◌, ◌<◌}
use mathlib.Core.Path.{◌≡◌, refl, sym, ◌∙◌}
use mathlib.Core.Logic.{by_cases}
use mathlib.Core.List.{List}
use native.Mathlib.Omega.{arith}
use native.Mathlib.Decide.{dec_lt}
use lib.ListN.{length, get_or}
use lib.Seq.{ext_get_or}
use Rattle.outline.specs.Outline.{path_to, At, Outline}
use Rattle.outline.proofs.Paths.{sooner_not_both, sooner_not_self}

-- the level at a place of a list
at_place : (l : List ℕ) (i : ℕ) → i < length l → At l i (get_or l i 0)
at_place l i h = record { within = h; is = refl }

-- two lists are alike before a place
abbrev Alike : List ℕ → List ℕ → ℕ → Type 0
Alike l l' i = (j : ℕ) → j < i → get_or l j 0 ≡ get_or l' j 0

-- a level of an outline has no earlier place in a list that is alike so far
not_earlier : (t : List ℕ) (count : ℕ) (l l' : List ℕ) → Outline t count l → (i j k : ℕ) → Alike l l' i → At l i k → At l' j k → i ≤ j
not_earlier t count l l' o i j k alike here there =
    by_cases (dec_lt j i)
    (λ e. absurd (sooner_not_self (path_to t k)
    (o.in_order j i k k (record { within = omega (arith, here.within); is = alike j e ∙ there.is }) here e)))
    (λ n. omega arith)

module _ (t : List ℕ) (count : ℕ) (l l' : List ℕ) (o : Outline t count l) (o' : Outline t count l') where
  -- two outlines are alike at a place where they are alike before it
  alike_here : (i : ℕ) → Alike l l' i → i < length l → i < length l' → get_or l i 0 ≡ get_or l' i 0
  alike_here i alike h h' =
      let a = get_or l i 0 in
      let b = get_or l' i 0 in
      let a-level = o.whole.only i a (at_place l i h) in
      let b-level = o'.whole.only i b (at_place l' i h') in
      let (j, a-there) = o'.whole.every a a-level.0 a-level.1 in
      let (m, b_here) = o.whole.every b b-level.0 b-level.1 in
      let j-from = not_earlier t count l l' o i j a alike (at_place l i h) a-there in
      let m-from = not_earlier t count l' l o' i m b (λ j e. sym (alike j e)) (at_place l' i h') b_here in
      by_cases (dec_lt i j)
      (λ a-later. by_cases (dec_lt i m)
      (λ b-later. absurd (sooner_not_both (path_to t a) (path_to t b) (o.in_order i m a b (at_place l i h) b_here b-later)
      (o'.in_order i j b a (at_place l' i h') a-there a-later)))
      (λ n. let e : m ≡ i = omega arith in rw e at b_here.is))
      (λ n. let e : j ≡ i = omega arith in sym (rw e at a-there.is))

  -- and so as far as both go
  alike : (i : ℕ) → i ≤ length l → i ≤ length l' → Alike l l' i
  alike zero h h' j e = absurd (omega arith)
  alike (suc i) h h' j e =
      let so_far = alike i (omega arith) (omega arith) in
      by_cases (dec_lt j i) (so_far j) (λ n. let s : i ≡ j = omega arith in rw s at (alike_here i so_far h h'))

  -- no outline is longer than another
  not_longer : length l ≤ length l'
  not_longer =
      by_cases (dec_lt (length l') (length l))
      (λ g.
      let i = length l' in
      let k = get_or l i 0 in
      let level = o.whole.only i k (at_place l i g) in
      let (j, there) = o'.whole.every k level.0 level.1 in
      omega (arith, not_earlier t count l l' o i j k (alike i (omega arith) (omega arith)) (at_place l i g) there, there.within))
      (λ n. omega arith)

-- two outlines of one table are equal
pub outline_once : (t : List ℕ) (count : ℕ) (l l' : List ℕ) → Outline t count l → Outline t count l' → l ≡ l'
outline_once t count l l' o o' =
    let le = not_longer t count l l' o o' in
    let ge = not_longer t count l' l o' o in
    ext_get_or 0 l l' (omega arith) (alike t count l l' o o' (length l) (omega arith) le)

-- Line ends between segments: both choices of skipping keep the law of skips, and what the bytes say of a line end.
-- Assumes nothing.
use Prim.Native.Nat.{ℕ, zero, suc, ◌+◌, ◌≤◌, ◌<◌}
use mathlib.Core.Path.{◌≡◌, refl, ◌∙◌}
use mathlib.Core.Logic.{◌⊎◌, inl, inr}
use mathlib.Core.Bool.{Bool, true, false, not, cond, ◌&&◌}
use mathlib.Core.List.{[], ◌∷◌, ◌++◌}
use native.Mathlib.Omega.{arith}
use lib.Dec.{T, eqb, leb, leb→le}
use lib.ListN.{length, drop, get_or, length-drop, drop_of_length-le}
use borrow.Author.Tests.{ne_eqb, eqb-true}
use Rattle.text.specs.Bytes.{Bytes, byte}
use Rattle.text.specs.Separators.{is_capital, is_separator}
use Rattle.text.specs.Cut.{CR, LF, at_most_one, line_end, skip_of}
use Rattle.text.specs.declared.lines.LineEnds.{LineEnds}
use Rattle.text.specs.declared.lines.LineEnds.TheVariants.{Skipped, Strict}
use Rattle.text.specs.declared.separators.Separators.{Separators}
use Rattle.text.proofs.Bools.{first_of}
use Rattle.text.proofs.CutLaws.{SkipLaw}

-- a capital is above both bytes of a line end
capital_above : (b : ℕ) → T (is_capital b) → CR < b
capital_above b h = let l : byte "A" ≤ b = leb→le (byte "A") b (first_of (leb (byte "A") b) (leb b (byte "Z")) h) in omega arith

module _ (q : Separators) where
  -- this byte, where it is no separator
  abbrev is_one : ℕ → ℕ → Bool
  is_one b x = eqb x b && not (is_separator q b)

  -- a line end whose first byte is a CR or not
  abbrev ending : Bool → Bytes → ℕ
  ending c s = cond c 1 0 + at_most_one q LF (drop (cond c 1 0) s)

  -- no other byte is one
  pub not_one : (b x : ℕ) (s : Bytes) → (x ≡ b → ⊥) → at_most_one q b (x ∷ s) ≡ 0
  not_one b x s n = rw (ne_eqb x b n)

  -- so no greater byte begins a line end
  pub no_line_end : (x : ℕ) (s : Bytes) → CR < x → line_end q (x ∷ s) ≡ 0
  no_line_end x s l = rw (not_one CR x s (λ e. omega arith), not_one LF x s (λ e. omega arith))

  pub one_at_most : (b : ℕ) (s : Bytes) → at_most_one q b s ≤ 1
  one_at_most b [] = omega arith
  one_at_most b (x ∷ s) = by (is_one b x)
    where
      by : (c : Bool) → cond c 1 0 ≤ 1
      by true = omega arith
      by false = omega arith

  one_few : (b : ℕ) (s : Bytes) → at_most_one q b s ≤ length s
  one_few b [] = omega arith
  one_few b (x ∷ s) = omega (arith, one_at_most b (x ∷ s))

  few : (s : Bytes) → line_end q s ≤ length s
  few s = omega (arith, one_few CR s, length-drop (at_most_one q CR s) s, one_few LF (drop (at_most_one q CR s) s))

  -- what stands behind two bytes does not matter
  behind_two : (x x' : ℕ) (y z : Bytes) → line_end q (x ∷ (x' ∷ y)) ≡ line_end q (x ∷ (x' ∷ z))
  behind_two x x' y z = by (is_one CR x)
    where
      by : (c : Bool) → ending c (x ∷ (x' ∷ y)) ≡ ending c (x ∷ (x' ∷ z))
      by true = refl
      by false = refl

  -- nor does the next byte where it stays, or is a capital
  near_none : (b b' : ℕ) (y z : Bytes) → (b' ≡ b) ⊎ T (is_capital b') → line_end q (b ∷ y) ≡ 0 → line_end q (b' ∷ z) ≡ 0
  near_none b b' y z (inr h) e = no_line_end b' z (capital_above b' h)
  near_none b b' y z (inl p) e = rw p (by (is_one CR b) e)
    where
      by : (c : Bool) → ending c (b ∷ y) ≡ 0 → ending c (b ∷ z) ≡ 0
      by true e = absurd (omega (arith, e))
      by false e = e

  near_one : (x b b' : ℕ) (y z : Bytes) → (b' ≡ b) ⊎ T (is_capital b') → line_end q (x ∷ (b ∷ y)) ≡ 1 → line_end q (x ∷ (b' ∷ z)) ≡ 1
  near_one x b b' y z o e = by (is_one CR x) o e
    where
      by : (c : Bool) → (b' ≡ b) ⊎ T (is_capital b') → ending c (x ∷ (b ∷ y)) ≡ 1 → ending c (x ∷ (b' ∷ z)) ≡ 1
      by false o e = e
      by true (inl p) e = rw p e
      by true (inr h) e = rw (not_one LF b' z (λ p. omega (arith, capital_above b' h)))

  near : (gap : Bytes) (b b' : ℕ) (y z : Bytes) → (b' ≡ b) ⊎ T (is_capital b')
      → line_end q (gap ++ b ∷ y) ≡ length gap → line_end q (gap ++ b' ∷ z) ≡ length gap
  near [] b b' y z o e = near_none b b' y z o e
  near (x ∷ []) b b' y z o e = near_one x b b' y z o e
  near (x ∷ (x' ∷ gap)) b b' y z o e = behind_two x x' (gap ++ b' ∷ z) (gap ++ b ∷ y) ∙ e

  pub skip_law : (lines : LineEnds) → SkipLaw (skip_of lines q)
  skip_law Skipped = record { few = few; near = near; none = λ b z h. no_line_end b z (capital_above b h) }
  skip_law Strict = record { few = λ s. omega arith; near = λ gap b b' y z o e. e; none = λ b z h. refl }

-- no byte above CR is skipped
pub skip_none : (q : Separators) (lines : LineEnds) (x : ℕ) (s : Bytes) → CR < x → skip_of lines q (x ∷ s) ≡ 0
skip_none q Skipped x s l = no_line_end q x s l
skip_none q Strict x s l = refl

-- What is skipped
module _ (q : Separators) where
  -- a byte that is counted is that byte
  one_is : (b x : ℕ) (s : Bytes) → 0 < at_most_one q b (x ∷ s) → x ≡ b
  one_is b x s l = by (eqb x b) refl l
    where
      by : (c : Bool) → eqb x b ≡ c → 0 < cond (c && not (is_separator q b)) 1 0 → x ≡ b
      by true e l = eqb-true x b e
      by false e l = absurd (omega arith)

  second_small : (s : Bytes) (k : ℕ) → k < at_most_one q LF s → get_or s k 0 < 32
  second_small [] k l = absurd (omega arith)
  second_small (x ∷ s) zero l = omega (arith, one_is LF x s l)
  second_small (x ∷ s) (suc k) l = absurd (omega (arith, one_at_most q LF (x ∷ s)))

  first_small : (s : Bytes) (k : ℕ) → k < line_end q s → get_or s k 0 < 32
  first_small [] k l = absurd (omega arith)
  first_small (x ∷ s) k l = by (is_one q CR x) refl k l
    where
      by : (c : Bool) → is_one q CR x ≡ c → (k : ℕ) → k < ending q c (x ∷ s) → get_or (x ∷ s) k 0 < 32
      by false e k l = second_small (x ∷ s) k (omega (arith, l))
      by true e zero l = omega (arith, one_is CR x s (rw e (omega arith)))
      by true e (suc k) l = second_small s k (omega (arith, l))

  -- no byte that is skipped is data
  pub skipped_small : (lines : LineEnds) (s : Bytes) (k : ℕ) → k < skip_of lines q s → get_or s k 0 < 32
  skipped_small Skipped s k l = first_small s k l
  skipped_small Strict s k l = absurd (omega arith)

-- past the end nothing is skipped
pub past_end : (q : Separators) (lines : LineEnds) (s : Bytes) (at : ℕ) → length s ≤ at → skip_of lines q (drop at s) ≡ 0
past_end q Skipped s at l = rw (drop_of_length-le s l)
past_end q Strict s at l = refl

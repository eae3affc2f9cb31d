-- A search from `from` on that has passed the bytes up to i without meeting the byte; and whether a byte stands among others.
-- Assumes nothing.
use Prim.Native.Nat.{ℕ, suc, ◌+◌, ◌≤◌, ◌<◌}
use mathlib.Core.Path.{◌≡◌, refl, sym, ap, ◌∙◌, subst}
use mathlib.Core.Bool.{Bool, true, false, ◌||◌, not, cond, true≢false}
use mathlib.Core.List.{[], ◌∷◌, ◌++◌, append_assoc, append-nil}
use native.Mathlib.Omega.{arith}
use native.Mathlib.Decide.{dec_lt}
use native.Mathlib.Numerals.{add-one}
use lib.ListN.{length, take, drop, get_or, length-append, drop_of_length-le, take-append-drop}
use lib.Dec.{eqb}
use lib.Seq.{drop-cons, length-take-le, take_all}
use borrow.Author.Tests.{ne_eqb, eqb-true, eqb-false, lt-ltb, le-ltb}
use Rattle.text.specs.Bytes.{Bytes, among}
use Rattle.text.specs.internal.Search.{Free, FirstAt, Finds}
use Rattle.std.specs.Prelude.{Option, Some, None, position, option_map}
use Rattle.std.specs.List.{position_or_len, slice_range}
use Rattle.std.proofs.lemmas.List.Sums.{passes_at_first}
use mathlib.Core.Logic.{by_cases}
use Rattle.text.proofs.Lists.{part_from}
use Rattle.text.proofs.Pieces.{free_snoc}

pub record Unmet (s : Bytes) (from byte i : ℕ) : Type 0 where
  pub gap : Bytes
  pub whole : drop from s ≡ gap ++ drop i s
  pub free : Free byte gap
  pub place : i ≡ from + length gap

pub passed_none : (s : Bytes) (from byte : ℕ) → Unmet s from byte from
passed_none s from byte = record { gap = []; whole = refl; free = tt; place = omega arith }

module _ {s : Bytes} {from byte i : ℕ} (p : Unmet s from byte i) where
  pub passed_more : i < length s → (get_or s i 0 ≡ byte → ⊥) → Unmet s from byte (i + 1)
  passed_more l h = record {
    gap = p.gap ++ (get_or s i 0 ∷ []);
    whole = rw (append_assoc, add-one, ← drop-cons s i 0 l) p.whole;
    free = free_snoc byte p.gap (get_or s i 0) p.free h;
    place = simp length-append (omega (arith, p.place));
  }

  pub met : i < length s → get_or s i 0 ≡ byte → FirstAt s from byte i
  met l h = record {
    gap = p.gap;
    rest = drop (suc i) s;
    whole = rw (← h, ← drop-cons s i 0 l) p.whole;
    free = p.free;
    place = p.place;
  }

  pub never_met : length s ≤ i → Free byte (drop from s)
  never_met l = rw (p.whole, drop_of_length-le s l, append-nil) p.free

-- a byte stands among bytes that are not free of it
pub free_among : (byte : ℕ) (s : Bytes) → Free byte s → among s byte ≡ false
free_among byte [] f = refl
free_among byte (b ∷ s) f = rw (ne_eqb byte b (λ e. f.0 (sym e)), free_among byte s f.1)

pub among_free : (byte : ℕ) (s : Bytes) → among s byte ≡ false → Free byte s
among_free byte [] e = tt
among_free byte (b ∷ s) e =
    let each = neither (eqb byte b) (among s byte) e in
    (λ q. eqb-false byte b each.0 (sym q), among_free byte s each.1)
  where
    neither : (x y : Bool) → x || y ≡ false → (x ≡ false) × (y ≡ false)
    neither false y e = (refl, e)
    neither true y e = absurd (true≢false e)

pub among_unfree : (byte : ℕ) (s : Bytes) → among s byte ≡ true → Free byte s → ⊥
among_unfree byte s e f = true≢false (sym e ∙ free_among byte s f)

-- before the first place of the byte there is none
gap_free : (byte : ℕ) (s : Bytes) → Free byte (take (position_or_len (eqb byte) s) s)
gap_free byte [] = tt
gap_free byte (b ∷ s) = by (eqb byte b) refl (gap_free byte s)
  where
    by : (t : Bool) → eqb byte b ≡ t → Free byte (take (position_or_len (eqb byte) s) s)
        → Free byte (take (cond (not t) (1 + position_or_len (eqb byte) s) 0) (b ∷ s))
    by true e f = tt
    by false e f =
        let n = position_or_len (eqb byte) s in
        let step : suc n ≡ 1 + n = omega arith in
        let free : Free byte (b ∷ take n s) = (λ q. eqb-false byte b e (sym q), f) in
        subst (λ (k : ℕ). Free byte (take k (b ∷ s))) step free

-- what a search from `from` on hands back, by the first place of the byte in what stands there
module _ (s : Bytes) (from byte : ℕ) where
  abbrev t : Bytes
  t = drop from s

  abbrev m : ℕ
  m = position_or_len (eqb byte) t

  first_met : m < length t → FirstAt s from byte (from + m)
  first_met l = record {
    gap = take m t;
    rest = drop (suc m) t;
    whole =
        sym (take-append-drop m t)
        ∙ ap (λ (x : Bytes). take m t ++ x)
        (drop-cons t m 0 l ∙ ap (λ (x : ℕ). x ∷ drop (suc m) t) (sym (eqb-true byte (get_or t m 0) (passes_at_first (eqb byte) t 0 l))));
    free = gap_free byte t;
    place = ap (λ (x : ℕ). from + x) (sym (length-take-le m t (omega arith)));
  }

  first_none : length t ≤ m → Free byte t
  first_none l = subst (λ (x : Bytes). Free byte x) (take_all m t l) (gap_free byte t)

  finds_place : (r : Option ℕ) → r ≡ position (eqb byte) t → Finds s from byte (option_map (λ gap. from + gap) r)
  finds_place r e =
      by_cases (dec_lt m (length t))
      (λ l.
      let some : position (eqb byte) t ≡ Some m = rw (lt-ltb m (length t) l) in
      subst (λ (x : Option ℕ). Finds s from byte (option_map (λ gap. from + gap) x)) (sym (e ∙ some)) (first_met l))
      (λ l.
      let none : position (eqb byte) t ≡ None = rw (le-ltb m (length t) (omega arith)) in
      subst (λ (x : Option ℕ). Finds s from byte (option_map (λ gap. from + gap) x)) (sym (e ∙ none)) (first_none (omega arith)))

pub finds_behind : (s rest : Bytes) (from byte gap : ℕ) → Some gap ≡ position (eqb byte) rest → rest ≡ slice_range s from (length s)
    → FirstAt s from byte (from + gap)
finds_behind s rest from byte gap e r = finds_place s from byte (Some gap) (e ∙ ap (position (eqb byte)) (r ∙ part_from from s))

pub finds_none : (s rest : Bytes) (from byte : ℕ) → None ≡ position (eqb byte) rest → rest ≡ slice_range s from (length s)
    → Free byte (drop from s)
finds_none s rest from byte e r = finds_place s from byte None (e ∙ ap (position (eqb byte)) (r ∙ part_from from s))

-- The table is filled right, and what an entry says of its byte.
-- Assumes nothing.
use Prim.Native.Nat.{ℕ, ◌+◌, ◌-◌, ◌≤◌, ◌<◌}
use mathlib.Core.Path.{◌≡◌, refl, ap, ◌∙◌}
use mathlib.Core.Logic.{by_cases}
use mathlib.Core.Bool.{Bool, true, false, not, cond, ◌||◌, true≢false, false≢true}
use mathlib.Core.List.{List, ◌++◌}
use native.Mathlib.Omega.{arith}
use native.Mathlib.Decide.{dec_lt}
use lib.Dec.{T, eqb}
use lib.ListN.{length, take, drop, get_or, set, replicate, length-append, length-drop, length-set, length-replicate, get_or-append, get_or-replicate, get_or-eq_default}
use lib.Seq.{length-take-le, get_or-take, get_or-drop, get_or-set_same, get_or-set_other}
use Rattle.std.proofs.lemmas.List.{get_or-append_right}
use borrow.Author.Tests.{eq-eqb, ne_eqb, eqb-true, eqb-false, lt-leb, le-leb}
use Rattle.text.specs.Separators.{Fitted, printable}
use Rattle.text.specs.declared.separators.Separators.{Separators}
use Rattle.text.proofs.Bools.{or_left, or_right}
use Rattle.reading.specs.internal.SpecialBytes.{special, is_special_in, SpecialTable, Fills}

-- where a part of the table has got the entry
module _ (old : List Bool) (from last : ℕ) (entry : Bool) (size : length old ≡ 256) (forward : from ≤ last) (inside : last < 256) where
  abbrev wide : ℕ
  wide = last + 1 - from

  abbrev behind : List Bool
  behind = drop (last + 1) old

  abbrev filled : List Bool
  filled = take from old ++ (replicate wide entry ++ behind)

  before : length (take from old) ≡ from
  before = length-take-le from old (omega arith)

  under : (b : ℕ) → b < from → is_special_in filled b ≡ is_special_in old b
  under b l = get_or-append (take from old) (replicate wide entry ++ behind) true b (omega (arith, before)) ∙ get_or-take from old b true l

  past : (b : ℕ) → from ≤ b → is_special_in filled b ≡ get_or (replicate wide entry ++ behind) (b - from) true
  past b l = get_or-append_right (take from old) (replicate wide entry ++ behind) from b true before l

  within : (b : ℕ) → from ≤ b → b ≤ last → is_special_in filled b ≡ entry
  within b l u =
      let short : b - from < wide = omega arith in
      past b l ∙ get_or-append (replicate wide entry) behind true (b - from) (omega (arith, length-replicate wide entry))
      ∙ get_or-replicate wide (b - from) entry true short

  above : (b : ℕ) → last < b → is_special_in filled b ≡ is_special_in old b
  above b l =
      let place : last + 1 + (b - from - wide) ≡ b = omega arith in
      past b (omega arith) ∙ get_or-append_right (replicate wide entry) behind wide (b - from) true (length-replicate wide entry) (omega arith)
      ∙ get_or-drop (last + 1) old (b - from - wide) true ∙ ap (λ (n : ℕ). get_or old n true) place

  pub fills_part : Fills old from last entry filled
  fills_part = record {
    size = simp (length-append, length-replicate, length-drop) (omega (arith, before));
    tells = λ b.
        by_cases (dec_lt b from)
        (λ w. rw (lt-leb from b w) (under b w))
        (λ w. rw (le-leb from b (omega arith))
        (by_cases (dec_lt last b)
        (λ u. rw (lt-leb b last u) (above b u))
        (λ u. rw (le-leb b last (omega arith)) (within b (omega arith) (omega arith)))));
  }

-- by the first fill all are special
all_special : (old table : List Bool) → Fills old 0 255 true table → (b : ℕ) → is_special_in table b ≡ true
all_special old table f b =
    by_cases (dec_lt b 256)
    (λ w. f.tells b ∙ rw (le-leb 0 b (omega arith), le-leb b 255 (omega arith)))
    (λ w. get_or-eq_default table true {n = b} (omega (arith, f.size)))

-- one store, by whether it is of this byte
stored_by : (table : List Bool) (i b : ℕ) (r : Bool) → eqb b i ≡ r → i < length table → is_special_in (set table i true) b ≡ r || is_special_in table b
stored_by table i b true e h = rw (eqb-true b i e) (get_or-set_same table i true true h)
stored_by table i b false e h = get_or-set_other table i b true true (eqb-false b i e)

-- one store
stored : (table : List Bool) (i b : ℕ) → i < length table → is_special_in (set table i true) b ≡ eqb b i || is_special_in table b
stored table i b h = stored_by table i b (eqb b i) refl h

-- the entry that the second fill takes away
not_special : (p : Bool) → cond p false true ≡ not p
not_special true = refl
not_special false = refl

-- the two fills and the three stores make the table
pub table_right : {k k1 k2 : List Bool} (q : Separators) → Fills k 0 255 true k1 → Fills k1 32 126 false k2
    → q.element < 256 → q.component < 256 → q.terminator < 256
    → SpecialTable q (set (set (set k2 q.element true) q.component true) q.terminator true)
unfolding special
table_right {k} {k1} {k2} q f1 f2 he hc ht = record {
  size = simp length-set f2.size;
  tells = λ b.
      stored (set (set k2 q.element true) q.component true) q.terminator b (simp length-set (omega (arith, f2.size)))
      ∙ rw (
        stored (set k2 q.element true) q.component b (simp length-set (omega (arith, f2.size))),
        stored k2 q.element b (omega (arith, f2.size)),
        f2.tells b,
        all_special k k1 f1 b,
        not_special (printable b),
      );
}

-- the byte may stand in a segment: it is data, or one of the two separators within segments
abbrev pub belongs : Separators → ℕ → Bool
belongs q b = (printable b || eqb b q.component) || eqb b q.element

-- it does, and is no terminator
abbrev pub Permitted : Separators → ℕ → Type 0
Permitted q b = (b ≡ q.terminator → ⊥) × T (belongs q b)

-- none of the tests for a special byte holds
record None (t c e p : Bool) : Type 0 where
  terminator : t ≡ false
  component : c ≡ false
  element : e ≡ false
  printed : p ≡ true

none_of : (t c e p : Bool) → t || (c || (e || not p)) ≡ false → None t c e p
none_of false false false true h = record { terminator = refl; component = refl; element = refl; printed = refl }
none_of false false false false h = absurd (true≢false h)
none_of false false true p h = absurd (true≢false h)
none_of false true e p h = absurd (true≢false h)
none_of true c e p h = absurd (true≢false h)

module _ (q : Separators) (b : ℕ) (h : special q b ≡ false) where
  -- what is not special
  allowed : None (eqb b q.terminator) (eqb b q.component) (eqb b q.element) (printable b)
  unfolding special
  allowed = none_of (eqb b q.terminator) (eqb b q.component) (eqb b q.element) (printable b) h

  -- is no component separator
  pub no_component : b ≡ q.component → ⊥
  no_component = eqb-false b q.component allowed.component

  -- nor an element separator
  pub no_element : b ≡ q.element → ⊥
  no_element = eqb-false b q.element allowed.element

  -- and may stand in a segment
  pub data_allowed : Permitted q b
  data_allowed = (
    eqb-false b q.terminator allowed.terminator,
    or_left (printable b || eqb b q.component) (eqb b q.element) (or_left (printable b) (eqb b q.component) (rw allowed.printed tt)),
  )

module _ (q : Separators) (a : Fitted q) where
  -- the component separator may stand in a segment
  pub component_allowed : Permitted q q.component
  component_allowed = (
    a.component_terminator,
    or_left (printable q.component || eqb q.component q.component) (eqb q.component q.element)
        (or_right (printable q.component) (eqb q.component q.component) (rw (eq-eqb q.component q.component refl) tt)),
  )

  -- and so may the element separator
  pub element_allowed : Permitted q q.element
  element_allowed = (
    a.element_terminator,
    or_right (printable q.element || eqb q.element q.component) (eqb q.element q.element)
        (rw (eq-eqb q.element q.element refl) tt),
  )

-- a byte that is special and no separator may not: by the tests
refused_by_lem : (t c e p : Bool) → t ≡ false → c ≡ false → e ≡ false → t || (c || (e || not p)) ≡ true → T ((p || c) || e) → ⊥
refused_by_lem false false false true ht hc he h t = false≢true h
refused_by_lem false false false false ht hc he h t = t
refused_by_lem false false true p ht hc he h t = true≢false he
refused_by_lem false true e p ht hc he h t = true≢false hc
refused_by_lem true c e p ht hc he h t = true≢false ht

-- and so for the byte
pub refused : (q : Separators) (b : ℕ) → special q b ≡ true → (b ≡ q.element → ⊥) → (b ≡ q.component → ⊥) → (b ≡ q.terminator → ⊥)
    → T (belongs q b) → ⊥
unfolding special
refused q b h he hc ht =
    refused_by_lem (eqb b q.terminator) (eqb b q.component) (eqb b q.element) (printable b) (ne_eqb b q.terminator ht)
    (ne_eqb b q.component hc) (ne_eqb b q.element he) h

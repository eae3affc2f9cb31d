-- The derivative of row lists that are read one after the other: they read x and then w exactly if one of their next rows is x and what is
-- left after that row reads w. By induction on the word, for any row list.
-- Assumes nothing.
use mathlib.Core.Path.{◌≡◌, refl, sym, ◌∙◌}
use mathlib.Core.Logic.{◌⊎◌, inl, inr}
use mathlib.Core.Bool.{Bool, true, false, not, ◌&&◌}
use mathlib.Core.List.{List, [], ◌∷◌, ◌++◌, append_assoc, nil≢cons, head-eq_of_cons-eq, tail-eq_of_cons-eq}
use Prim.Native.Nat.{ℕ, zero, suc, ◌≤◌, zero-le, suc-le-suc}
use native.Mathlib.Nat.{le_of_suc-le-suc, not-suc-le-zero, suc-ne-zero}
use native.Mathlib.Omega.{arith}
use lib.Dec.{T}
use lib.ListN.{replicate}
use Rattle.text.proofs.Bools.{both, first_of, second_of}
use Rattle.rows.specs.Rows.{Items, end, row, loop, Allowed, Word, done, times, skip, pass}
use Rattle.rows.proofs.NextRows.{Edge, again, row_edge, loop_edge, firsts, nexts}

-- words of the row lists, one after the other
abbrev pub Spells : List Items → List ℕ → Type 0
Spells [] w = w ≡ []
Spells (i ∷ is) w = (u : List ℕ) × (v : List ℕ) × Word i u × Spells is v × (u ++ v ≡ w)

-- one of the edges is such
abbrev pub OneOf : (Edge → Type 0) → List Edge → Type 0
OneOf P [] = ⊥
OneOf P (e ∷ es) = P e ⊎ OneOf P es

-- the edge is row x, and what is left after it reads w
abbrev pub Begins : ℕ → List ℕ → Edge → Type 0
Begins x w e = (e.number ≡ x) × Spells e.left w

-- any number of occurrences of a free row
any_count : (k : ℕ) → Allowed 0 false k
any_count k = record { within = λ h. absurd (h refl); present = λ t. absurd t }

up_to : {m k : ℕ} → k ≤ m → Allowed m false k
up_to h = record { within = λ _. h; present = λ t. absurd t }

-- a row taken once: what is left of it reads the others
one_taken : (n t m k : ℕ) {b : Bool} {rest : Items} {w : List ℕ} → Allowed m b (suc k) → Word rest w
    → Word (again n t m rest) (replicate k n ++ w)
one_taken n t zero k a p = times k (any_count k) p
one_taken n t (suc zero) zero a p = p
one_taken n t (suc zero) (suc k) a p = absurd (not-suc-le-zero (le_of_suc-le-suc (a.within (suc-ne-zero _))))
one_taken n t (suc (suc m)) k a p = times k (up_to (le_of_suc-le-suc (a.within (suc-ne-zero _)))) p

row_first : (P : Edge → Type 0) (n t m : ℕ) (b : Bool) (rest : Items) (is : List Items) (more : List Edge)
    → P (row_edge n t m rest is) → OneOf P (firsts (row n t m b rest) is more)
row_first P n t m true rest is more p = inl p
row_first P n t m false rest is more p = inl p

loop_first : (P : Edge → Type 0) (n t : ℕ) (b : Bool) (body rest : Items) (is : List Items) (more : List Edge)
    → P (loop_edge n t body rest is) → OneOf P (firsts (loop n t b body rest) is more)
loop_first P n t true body rest is more p = inl p
loop_first P n t false body rest is more p = inl p

module _ (is : List Items) (more : List Edge) (v : List ℕ) (q : Spells is v) (x : ℕ) (w : List ℕ)
    (later : Spells is (x ∷ w) → OneOf (Begins x w) more) where
  word_begins : {i : Items} {u : List ℕ} → Word i u → u ++ v ≡ x ∷ w → OneOf (Begins x w) (firsts i is more)
  word_begins done e = later (rw e at q)
  word_begins (times {mandatory = true} zero a p) e = absurd (not-suc-le-zero (a.present tt))
  word_begins (times {mandatory = false} zero a p) e = inr (word_begins p e)
  word_begins (times {n = n} {t = t} {maximum = m} {mandatory = b} {rest = rest} {w = w₀} (suc k) a p) e =
      row_first (Begins x w) n t m b rest is more
      (head-eq_of_cons-eq e, (replicate k n ++ w₀, v, one_taken n t m k a p, q, tail-eq_of_cons-eq e))
  word_begins (skip p) e = inr (word_begins p e)
  word_begins (pass {n = n} {t = t} {mandatory = b} {body = body} {rest = rest} {u = u} {w = w₀} p p') e =
      loop_first (Begins x w) n t b body rest is more
      (head-eq_of_cons-eq e, (u, w₀ ++ v, p, (w₀, v, p', q, refl), sym (append_assoc u w₀ v) ∙ tail-eq_of_cons-eq e))

-- what is read begins with one of the next rows
pub reads_begins : (s : List Items) (x : ℕ) (w : List ℕ) → Spells s (x ∷ w) → OneOf (Begins x w) (nexts s)
reads_begins [] x w e = absurd (nil≢cons (sym e))
reads_begins (i ∷ is) x w (u, v, p, q, e) = word_begins is (nexts is) v q x w (reads_begins is x w) p e

-- a word of a row and what comes after it, taken apart
record Parted (n m : ℕ) (b : Bool) (rest : Items) (u : List ℕ) : Type 0 where
  count : ℕ
  more : List ℕ
  allowed : Allowed m b count
  word : Word rest more
  same : replicate count n ++ more ≡ u

part : {n t m : ℕ} {b : Bool} {rest : Items} {u : List ℕ} → Word (row n t m b rest) u → Parted n m b rest u
part (times {w = w} k a p) = record { count = k; more = w; allowed = a; word = p; same = refl }

-- one more occurrence before those that are left
one_more : (n t m : ℕ) (b : Bool) (rest : Items) (u : List ℕ) → Word (again n t m rest) u → Word (row n t m b rest) (n ∷ u)
one_more n t zero b rest u p =
    let s = part p in
    rw (← s.same) (times (suc s.count) (record { within = λ h. absurd (h refl); present = λ _. suc-le-suc zero-le }) s.word)
one_more n t (suc zero) b rest u p = times 1 (record { within = λ _. suc-le-suc zero-le; present = λ _. suc-le-suc zero-le }) p
one_more n t (suc (suc m)) b rest u p =
    let s = part p in
    rw (← s.same)
    (times (suc s.count)
    (record { within = λ _. suc-le-suc (s.allowed.within (suc-ne-zero _)); present = λ _. suc-le-suc zero-le })
    s.word)

-- an optional row may stand no time
no_time : (n t m : ℕ) {rest : Items} {u : List ℕ} → Word rest u → Word (row n t m false rest) u
no_time n t m p = times 0 (record { within = λ _. zero-le; present = λ t. absurd t }) p

module _ (is : List Items) (more : List Edge) (x : ℕ) (w : List ℕ) (later : OneOf (Begins x w) more → Spells is (x ∷ w)) where
  row_reads : (n t m : ℕ) (b : Bool) (rest : Items) → Begins x w (row_edge n t m rest is) → Spells (row n t m b rest ∷ is) (x ∷ w)
  row_reads n t m b rest (e, (u, v, p, q, f)) = (n ∷ u, v, one_more n t m b rest u p, q, λ i. e i ∷ f i)

  loop_reads : (n t : ℕ) (b : Bool) (body rest : Items) → Begins x w (loop_edge n t body rest is)
      → Spells (loop n t b body rest ∷ is) (x ∷ w)
  loop_reads n t b body rest (e, (u, v, p, (u', v', p', q, f'), f)) =
      let g : u ++ u' ++ v' ≡ w = rw (append_assoc, f') f in
      (n ∷ (u ++ u'), v', pass p p', q, λ i. e i ∷ g i)

  firsts_read : (i : Items) → OneOf (Begins x w) (firsts i is more) → Spells (i ∷ is) (x ∷ w)
  firsts_read end h = ([], x ∷ w, done, later h, refl)
  firsts_read (row n t m true rest) (inl h) = row_reads n t m true rest h
  firsts_read (row n t m true rest) (inr h) = elim h [ ]
  firsts_read (row n t m false rest) (inl h) = row_reads n t m false rest h
  firsts_read (row n t m false rest) (inr h) =
      let r = firsts_read rest h in
      (r.0, r.1, no_time n t m r.2, r.3, r.4)
  firsts_read (loop n t true body rest) (inl h) = loop_reads n t true body rest h
  firsts_read (loop n t true body rest) (inr h) = elim h [ ]
  firsts_read (loop n t false body rest) (inl h) = loop_reads n t false body rest h
  firsts_read (loop n t false body rest) (inr h) =
      let r = firsts_read rest h in
      (r.0, r.1, skip r.2, r.3, r.4)

-- what begins with one of the next rows is read
pub begins_reads : (s : List Items) (x : ℕ) (w : List ℕ) → OneOf (Begins x w) (nexts s) → Spells s (x ∷ w)
begins_reads [] x w h = absurd h
begins_reads (i ∷ is) x w h = firsts_read is (nexts is) x w (begins_reads is x w) i h

-- no row of the items is mandatory
abbrev pub idle : Items → Bool
idle end = true
idle (row n t m b rest) = not b && idle rest
idle (loop n t b body rest) = not b && idle rest

-- nor any row of the row lists: they may stop here
abbrev pub idles : List Items → Bool
idles [] = true
idles (i ∷ is) = idle i && idles is

idle_word : (i : Items) → T (idle i) → Word i []
idle_word end h = done
idle_word (row n t m true rest) h = absurd h
idle_word (row n t m false rest) h = no_time n t m (idle_word rest h)
idle_word (loop n t true body rest) h = absurd h
idle_word (loop n t false body rest) h = skip (idle_word rest h)

word_idle : {i : Items} {u : List ℕ} → Word i u → u ≡ [] → T (idle i)
word_idle done e = tt
word_idle (times {mandatory = true} zero a p) e = absurd (not-suc-le-zero (a.present tt))
word_idle (times {mandatory = false} zero a p) e = word_idle p e
word_idle (times (suc k) a p) e = absurd (nil≢cons (sym e))
word_idle (skip p) e = word_idle p e
word_idle (pass p p') e = absurd (nil≢cons (sym e))

left_nil : (u v : List ℕ) → u ++ v ≡ [] → u ≡ []
left_nil [] v e = refl
left_nil (a ∷ u) v e = absurd (nil≢cons (sym e))

right_nil : (u v : List ℕ) → u ++ v ≡ [] → v ≡ []
right_nil [] v e = e
right_nil (a ∷ u) v e = absurd (nil≢cons (sym e))

-- row lists read nothing exactly if they may stop
pub nil_idles : (s : List Items) → Spells s [] → T (idles s)
nil_idles [] e = tt
nil_idles (i ∷ is) (u, v, p, q, e) =
    both (idle i) (idles is) (word_idle p (left_nil u v e)) (nil_idles is (rw (right_nil u v e) at q))

-- and back
pub idles_nil : (s : List Items) → T (idles s) → Spells s []
idles_nil [] h = refl
idles_nil (i ∷ is) h =
    ([], [], idle_word i (first_of (idle i) (idles is) h), idles_nil is (second_of (idle i) (idles is) h), refl)

some_word : (i : Items) → (u : List ℕ) × Word i u
some_word end = ([], done)
some_word (row n t m true rest) =
    let r = some_word rest in
    (n ∷ r.0, times {maximum = m} 1 (record { within = λ h. omega arith; present = λ _. suc-le-suc zero-le }) r.1)
some_word (row n t m false rest) = let r = some_word rest in (r.0, no_time n t m r.1)
some_word (loop n t true body rest) =
    let b = some_word body in
    let r = some_word rest in
    (n ∷ (b.0 ++ r.0), pass b.1 (skip r.1))
some_word (loop n t false body rest) = let r = some_word rest in (r.0, skip r.1)

-- row lists read something
pub reads_some : (s : List Items) → (w : List ℕ) × Spells s w
reads_some [] = ([], refl)
reads_some (i ∷ is) =
    let u = some_word i in
    let v = reads_some is in
    (u.0 ++ v.0, (u.0, v.0, u.1, v.1, refl))

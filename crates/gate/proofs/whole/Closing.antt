-- SE closes a transaction: where the rows are a word the last segment is an SE and no other is, so the closing tests are tests of the last
-- segment alone.
-- Assumes nothing.
use Prim.Native.Nat.{ℕ, suc, ◌+◌, ◌<◌}
use mathlib.Core.Path.{◌≡◌, refl, sym, ap, ◌∙◌}
use mathlib.Core.Bool.{false, not}
use mathlib.Core.List.{List, [], ◌∷◌, ◌++◌, map, append_assoc, nil≢cons, head-eq_of_cons-eq, tail-eq_of_cons-eq}
use native.Mathlib.Omega.{arith}
use lib.Dec.{T, T_not, not_T, eqb→eq}
use lib.ListN.{length}
use Rattle.text.specs.View.{View}
use Rattle.text.proofs.Bools.{equal_eqb, cond_cases}
use Rattle.rows.specs.Tags.{tag, tag_number}
use Rattle.rows.specs.Rows.{Word, list842}
use Rattle.rows.specs.RowList.{tag_of}
use Rattle.rows.specs.Following.{MayFollow, last_of}
use Rattle.rows.proofs.Viability.{last_snoc, Chain, word_iff, nil_no_word, ends_at_79}
use Rattle.elements.specs.Checks.{Check, Keeps}
use Rattle.gate.specs.Profile.{Profile}
use Rattle.gate.specs.Segments.{tag_in_of, is_hl, is_se, onto, claims, opening}
use Rattle.gate.specs.Rules.{closing_checks, se_checks, From}
use Rattle.gate.specs.Meets.{first_of, last_from}
use Rattle.gate.proofs.reading.RowOfSE.{row_se, tag_79}

-- an SE is no HL
se_no_hl : (v : View) → T (is_se v) → is_hl v ≡ false
unfolding tag_number
se_no_hl v s = rw (eqb→eq (tag_in_of v) (tag "SE") s)

-- nothing may follow row 79
nothing_follows : (x y : ℕ) → x ≡ 79 → MayFollow x y → ⊥
nothing_follows x y e (w, v) = ends_at_79 (w ++ (x ∷ [])) (last_snoc w 0 x ∙ e) y (rw append_assoc v)

-- the last segment is an SE and no other is
abbrev pub Closes : List View → Type 0
Closes [] = ⊥
Closes (v ∷ []) = T (is_se v)
Closes (v ∷ (u ∷ vs)) = T (not (is_se v)) × Closes (u ∷ vs)

-- it is so where each row may follow the one before and row 79 is the last
chain_closes : (x : ℕ) (w : List ℕ) (v : View) (vs : List View) → Chain (x ∷ w) → last_of x w ≡ 79 → map tag_of (x ∷ w) ≡ map tag_in_of (v ∷ vs) → Closes (v ∷ vs)
chain_closes x [] v [] c l e = equal_eqb (tag_in_of v) (tag "SE") (sym (head-eq_of_cons-eq e) ∙ ap tag_of l ∙ tag_79)
chain_closes x [] v (u ∷ vs) c l e = absurd (nil≢cons (tail-eq_of_cons-eq e))
chain_closes x (y ∷ w) v [] c l e = absurd (nil≢cons (sym (tail-eq_of_cons-eq e)))
chain_closes x (y ∷ w) v (u ∷ vs) c l e = (
  not_T (is_se v) (λ s. nothing_follows x y (row_se x (head-eq_of_cons-eq e ∙ eqb→eq (tag_in_of v) (tag "SE") s)) c.0),
  chain_closes y w u vs c.1 l (tail-eq_of_cons-eq e),
)

-- it is so where the rows are a word, which has more rows than SE's
pub word_closes : (vs : List View) (rows : List ℕ) → Word list842 rows → map tag_of rows ≡ map tag_in_of vs → Closes vs × (1 < length vs)
word_closes vs [] p e = absurd (nil_no_word p)
word_closes [] (x ∷ w) p e = absurd (nil≢cons (sym e))
word_closes (v ∷ []) (x ∷ []) p e = let q = (word_iff x []).0 p in absurd (omega (arith, q.0, q.3))
word_closes (v ∷ []) (x ∷ (y ∷ w)) p e = absurd (nil≢cons (sym (tail-eq_of_cons-eq e)))
word_closes (v ∷ (u ∷ vs)) (x ∷ w) p e = let q = (word_iff x w).0 p in (chain_closes x w v (u ∷ vs) q.1 q.3 e, omega arith)

-- the segments before the last, latest first, after those of h
abbrev pub before : List View → List View → List View
before h [] = h
before h (v ∷ []) = h
before h (v ∷ (u ∷ vs)) = before (v ∷ h) (u ∷ vs)

-- with those of h they are one less than all
before_length : (h : List View) (v : View) (vs : List View) → suc (length (before h (v ∷ vs))) ≡ length h + length (v ∷ vs)
before_length h v [] = omega arith
before_length h v (u ∷ vs) = omega (arith, before_length (v ∷ h) u vs)

-- what opens h opens them
before_opening : (u : View) (h vs : List View) → opening (before (u ∷ h) vs) ≡ opening (u ∷ h)
before_opening u h [] = refl
before_opening u h (v ∷ []) = refl
before_opening u h (v ∷ (w ∷ vs)) = before_opening v (u ∷ h) (w ∷ vs)

-- from the start on they are one less than all
pub before_count : (vs : List View) → 1 < length vs → suc (length (before [] vs)) ≡ length vs
before_count [] h = absurd (omega arith)
before_count (v ∷ vs) h = before_length [] v vs ∙ omega arith

-- from the start on they open with the first of all
pub before_first : (vs : List View) → 1 < length vs → opening (before [] vs) ≡ first_of vs
before_first [] h = absurd (omega arith)
before_first (v ∷ []) h = absurd (omega arith)
before_first (v ∷ (u ∷ vs)) h = before_opening v [] (u ∷ vs)

-- they have all the HL segments
pub before_claims : (h vs : List View) → Closes vs → claims (before h vs) ≡ claims (onto h vs)
before_claims h [] c = absurd c
before_claims h (v ∷ []) c = rw (se_no_hl v c)
before_claims h (v ∷ (u ∷ vs)) c = before_claims (v ∷ h) (u ∷ vs) c.1

module _ (profile : Profile) where
  -- a segment keeps the closing tests after those before it, if it is an SE
  abbrev pub Closed : List View → View → Type 0
  Closed h v = Keeps (se_checks profile h v)

  -- an SE has the closing tests
  se_closed : (h : List View) (v : View) → T (is_se v) → Closed h v → Keeps (closing_checks profile h v)
  unfolding se_checks
  se_closed h v s = cond_cases (λ (cs : List Check). Keeps cs → Keeps (closing_checks profile h v)) (is_se v) (closing_checks profile h v) [] (λ _ k. k) (λ n. absurd (n s))

  -- and back, whatever the segment
  closed_se : (h : List View) (v : View) → Keeps (closing_checks profile h v) → Closed h v
  unfolding se_checks
  closed_se h v k = cond_cases Keeps (is_se v) (closing_checks profile h v) [] (λ _. k) (λ _. tt)

  -- another segment has none
  closed_other : (h : List View) (v : View) → T (not (is_se v)) → Closed h v
  unfolding se_checks
  closed_other h v n = cond_cases Keeps (is_se v) (closing_checks profile h v) [] (λ s. absurd (T_not (is_se v) n s)) (λ _. tt)

  -- where all segments keep them the last does
  pub from_closing : (h vs : List View) → Closes vs → From Closed h vs → Keeps (closing_checks profile (before h vs) (last_from [] vs))
  from_closing h [] c f = absurd c
  from_closing h (v ∷ []) c f = se_closed h v c f.0
  from_closing h (v ∷ (u ∷ vs)) c f = from_closing (v ∷ h) (u ∷ vs) c.1 f.1

  -- and back
  pub closing_from : (h vs : List View) → Closes vs → Keeps (closing_checks profile (before h vs) (last_from [] vs)) → From Closed h vs
  closing_from h [] c k = absurd c
  closing_from h (v ∷ []) c k = (closed_se h v k, tt)
  closing_from h (v ∷ (u ∷ vs)) c k = (closed_other h v c.0, closing_from (v ∷ h) (u ∷ vs) c.1 k)

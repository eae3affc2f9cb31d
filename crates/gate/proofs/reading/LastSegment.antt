-- SE is row 79, and it stands last and only there: segments that were passed and then an SE are a whole transaction, and the other way round.
-- Assumes nothing.
use Prim.Native.Nat.{ℕ}
use mathlib.Core.Path.{◌≡◌, refl, sym, ap, subst, ◌∙◌}
use mathlib.Core.Bool.{not}
use mathlib.Core.List.{List, [], ◌∷◌, ◌++◌, map, append_assoc, append-nil, head-eq_of_cons-eq}
use native.Mathlib.Omega.{arith}
use lib.Dec.{T, eqb→eq, not_T}
use lib.ListN.{length, length-append}
use Rattle.text.specs.View.{View}
use Rattle.text.proofs.Lists.{map-append, same_front, splits}
use Rattle.rows.specs.Tags.{tag}
use Rattle.rows.specs.Rows.{Word, Viable, list842}
use Rattle.rows.specs.RowList.{tag_of}
use Rattle.rows.specs.Following.{Fits, last_of}
use Rattle.rows.proofs.Viability.{last_snoc, viable_word, word_last, ends_at_79, nil_no_word}
use Rattle.rows.proofs.FittingRow.{viable_before}
use Rattle.rows.proofs.Continuable.{within_more, within_front}
use Rattle.gate.specs.Profile.{Profile}
use Rattle.gate.specs.Segments.{tag_in_of, is_se, onto}
use Rattle.gate.specs.Rules.{Admitted, Kept, From}
use Rattle.gate.proofs.reading.RowOfSE.{row_se, tag_79}
use Rattle.gate.proofs.reading.Laws.{from_front, from_append, MeetsFrom}
use Rattle.gate.proofs.reading.Passing.{Numbers}

-- the row that fits an SE is 79
pub fits_se : (w : List ℕ) (v : View) (r : ℕ) → T (is_se v) → Fits w (tag_in_of v) r → r ≡ 79
fits_se w v r c f = row_se r (f.tagged ∙ eqb→eq (tag_in_of v) (tag "SE") c)

-- segments that were passed, and then an SE
pub passed_closed : (profile : Profile) (vs : List View) (rows : List ℕ) (v : View) (r : ℕ) → Numbers profile vs rows → Kept profile (onto [] vs) v
    → Fits rows (tag_in_of v) r → Admitted profile r → T (is_se v) → MeetsFrom profile (vs ++ (v ∷ [])) (rows ++ (r ∷ []))
passed_closed profile vs rows v r p k f a c = record {
  word = viable_word (rows ++ (r ∷ [])) f.viable (last_snoc rows 0 r ∙ fits_se rows v r c f);
  admitted = within_more profile.rows rows r p.admitted a;
  tags = rw (map-append, map-append, p.tags, f.tagged);
  kept = from_append (Kept profile) [] vs (v ∷ []) p.kept (k, tt);
}

-- P of each, from P wherever a segment stands
from_all : (P : View → Type 0) (h vs : List View) → ((xs : List View) (v : View) (ys : List View) → vs ≡ xs ++ (v ∷ ys) → P v) → From (λ _ v. P v) h vs
from_all P h [] f = tt
from_all P h (v ∷ vs) f = (f [] v vs refl, from_all P (v ∷ h) vs (λ xs u ys e. f (v ∷ xs) u ys (ap (λ (l : List View). v ∷ l) e)))

-- something comes after x, where more rows do
one_after : (a b : List ℕ) (x y : ℕ) → Viable list842 ((a ++ (x ∷ b)) ++ (y ∷ [])) → (z : ℕ) × Viable list842 ((a ++ (x ∷ [])) ++ (z ∷ []))
one_after a [] x y v = (y, v)
one_after a (z ∷ b) x y v =
    let u : Viable list842 (((a ++ (x ∷ [])) ++ (z ∷ [])) ++ (b ++ (y ∷ []))) = rw (append_assoc, append_assoc) (rw append_assoc at v) in
    (z, viable_before ((a ++ (x ∷ [])) ++ (z ∷ [])) (b ++ (y ∷ [])) u)

not_79 : (a b : List ℕ) (x y : ℕ) → Viable list842 ((a ++ (x ∷ b)) ++ (y ∷ [])) → x ≡ 79 → ⊥
not_79 a b x y v e = let z = one_after a b x y v in ends_at_79 (a ++ (x ∷ [])) (last_snoc a 0 x ∙ e) z.0 z.1

-- the last row of a word is 79: so the last segment is an SE, and no other is
module _ (vs : List View) (v : View) (w : List ℕ) (p : Word list842 (w ++ (79 ∷ []))) (g : map tag_of (w ++ (79 ∷ [])) ≡ map tag_in_of (vs ++ (v ∷ []))) where
  pub word_viable : Viable list842 (w ++ (79 ∷ []))
  word_viable = ([], rw append-nil p)

  pub tags_last : (map tag_of w ≡ map tag_in_of vs) × (tag_in_of v ≡ tag "SE")
  tags_last =
      let e : map tag_of w ++ (tag "SE" ∷ []) ≡ map tag_in_of vs ++ (tag_in_of v ∷ []) = rw (map-append, tag_79, map-append) at g in
      let i = same_front (map tag_of w) (tag "SE" ∷ []) (map tag_in_of vs) (tag_in_of v ∷ []) e (omega (arith, simp length-append at (ap length e))) in
      (i.0, sym (head-eq_of_cons-eq i.1))

  pub none_before : From (λ _ u. T (not (is_se u))) [] vs
  none_before = from_all (λ u. T (not (is_se u))) [] vs (λ xs u ys e. not_T (is_se u) (λ t.
      let i = splits tag_of w (map tag_in_of xs) (tag_in_of u) (map tag_in_of ys) (tags_last.0 ∙ ap (map tag_in_of) e ∙ map-append tag_in_of xs (u ∷ ys)) in
      let z : Viable list842 ((i.front ++ (i.mid ∷ i.back)) ++ (79 ∷ [])) = subst (λ (l : List ℕ). Viable list842 (l ++ (79 ∷ []))) i.whole word_viable in
      let f : Fits i.front (tag_in_of u) i.mid = record {
        viable = viable_before (i.front ++ (i.mid ∷ [])) (i.back ++ (79 ∷ [])) (rw append_assoc (rw append_assoc at z));
        tagged = i.mid_is;
      } in
      not_79 i.front i.back i.mid 79 z (fits_se i.front u i.mid t f)))

-- a transaction's segments before the last were passed
pub closed_passed : (profile : Profile) (vs : List View) (v : View) (w : List ℕ) → MeetsFrom profile (vs ++ (v ∷ [])) (w ++ (79 ∷ [])) → Numbers profile vs w
closed_passed profile vs v w m = record {
  viable = viable_before w (79 ∷ []) (word_viable vs v w m.word m.tags);
  admitted = within_front profile.rows w (79 ∷ []) m.admitted;
  tags = (tags_last vs v w m.word m.tags).0;
  kept = from_front (Kept profile) [] vs (v ∷ []) m.kept;
  ongoing = none_before vs v w m.word m.tags;
}

-- a word is some rows and then 79
pub record Ended (w : List ℕ) : Type 0 where
  pub front : List ℕ
  pub whole : w ≡ front ++ (79 ∷ [])

ended : (x : ℕ) (w : List ℕ) → last_of x w ≡ 79 → Ended (x ∷ w)
ended x [] e = record { front = []; whole = ap (λ (k : ℕ). k ∷ []) e }
ended x (y ∷ w) e = let i = ended y w e in record { front = x ∷ i.front; whole = ap (λ (l : List ℕ). x ∷ l) i.whole }

pub word_ended : (w : List ℕ) → Word list842 w → Ended w
word_ended [] p = absurd (nil_no_word p)
word_ended (x ∷ w) p = ended x w (word_last (x ∷ w) p)

-- Laws of rules in order, of segments with those before them, and of their rows; and the prefix form of condition 2.
-- Assumes nothing.
use Prim.Native.Nat.{ℕ, zero, suc, ◌+◌, ◌≤◌, ◌<◌}
use mathlib.Core.Path.{◌≡◌, refl, sym, ap, ◌∙◌}
use mathlib.Core.Logic.{inl, inr, by_cases}
use mathlib.Core.Bool.{Bool}
use mathlib.Core.List.{List, [], ◌∷◌, ◌++◌, map}
use native.Mathlib.Omega.{arith}
use native.Mathlib.Decide.{dec_lt}
use lib.Dec.{T, lt→ltb}
use lib.ListN.{length}
use Rattle.text.specs.View.{View}
use Rattle.rows.specs.Rows.{Word, Viable, list842}
use Rattle.rows.specs.RowList.{tag_of}
use Rattle.rows.specs.RowSets.{Within}
use Rattle.rows.specs.Following.{Fits}
use Rattle.rows.proofs.FittingRow.{fits_tag, fits_once}
use Rattle.rows.proofs.TagsDecideRows.{rows_once}
use Rattle.elements.specs.Checks.{Check, each, Keeps}
use Rattle.elements.specs.Rules.{byte_checks, end_checks, ruled_checks}
use Rattle.elements.specs.declared.verdict.Reason.{Reason}
use Rattle.gate.specs.Profile.{Profile}
use Rattle.gate.specs.Segments.{tag_in_of, onto, opening}
use Rattle.gate.specs.Rules.{tag_checks, hl_checks, se_checks, Rule, as_rules, row_rules, early, late, rules, Sound, FirstBroken, Kept, From}

-- tests, appended
pub keeps_split : (a b : List Check) → Keeps (a ++ b) → Keeps a × Keeps b
keeps_split [] b k = (tt, k)
keeps_split (c ∷ a) b k = let i = keeps_split a b k.1 in ((k.0, i.0), i.1)

pub keeps_both : (a b : List Check) → Keeps a → Keeps b → Keeps (a ++ b)
keeps_both [] b x y = y
keeps_both (c ∷ a) b x y = (x.0, keeps_both a b x.1 y)

-- and their rules
pub as_rules_append : (a b : List Check) → as_rules (a ++ b) ≡ as_rules a ++ as_rules b
as_rules_append [] b = refl
as_rules_append (c ∷ a) b = ap (λ (l : List Rule). record { reason = c.reason; element = c.element; Holds = T c.holds } ∷ l) (as_rules_append a b)

-- the same test of n elements holds at each
pub keeps_at : (reason : Reason) (a n : ℕ) (test : ℕ → Bool) → Keeps (each reason a n test) → (k : ℕ) → a ≤ k → k < a + n → T (test k)
keeps_at reason a zero test h k l u = absurd (omega arith)
keeps_at reason a (suc n) test h k l u =
    by_cases (dec_lt a k)
    (λ w. keeps_at reason (suc a) n test h.1 k (omega arith) (omega arith))
    (λ w. let z : a ≡ k = omega arith in rw z at h.0)

-- every rule of the list holds
abbrev pub EachHolds : List Rule → Type 0
EachHolds [] = Unit {0}
EachHolds (r ∷ rs) = r.Holds × EachHolds rs

-- rules, appended
pub holds_split : (a b : List Rule) → EachHolds (a ++ b) → EachHolds a × EachHolds b
holds_split [] b s = (tt, s)
holds_split (r ∷ a) b s = let i = holds_split a b s.1 in ((s.0, i.0), i.1)

pub holds_both : (a b : List Rule) → EachHolds a → EachHolds b → EachHolds (a ++ b)
holds_both [] b x y = y
holds_both (r ∷ a) b x y = (x.0, holds_both a b x.1 y)

pub holds_keeps : (cs : List Check) → EachHolds (as_rules cs) → Keeps cs
holds_keeps [] s = tt
holds_keeps (c ∷ cs) s = (s.0, holds_keeps cs s.1)

pub keeps_holds : (cs : List Check) → Keeps cs → EachHolds (as_rules cs)
keeps_holds [] k = tt
keeps_holds (c ∷ cs) k = (k.0, keeps_holds cs k.1)

-- where a rule is broken not all hold, and the first that is broken is one
broken_not_each : (rs : List Rule) (n : Reason) (e : ℕ) → FirstBroken rs n e → EachHolds rs → ⊥
broken_not_each [] n e f s = f
broken_not_each (r ∷ rs) n e (inl f) s = f.0 s.0
broken_not_each (r ∷ rs) n e (inr f) s = broken_not_each rs n e f.1 s.1

pub broken_once : (rs : List Rule) (n : Reason) (e : ℕ) (m : Reason) (f : ℕ) → FirstBroken rs n e → FirstBroken rs m f → (n ≡ m) × (e ≡ f)
broken_once [] n e m f a b = absurd a
broken_once (r ∷ rs) n e m f (inl a) (inl b) = (a.1 ∙ sym b.1, a.2 ∙ sym b.2)
broken_once (r ∷ rs) n e m f (inl a) (inr b) = absurd (a.0 b.0)
broken_once (r ∷ rs) n e m f (inr a) (inl b) = absurd (b.0 a.0)
broken_once (r ∷ rs) n e m f (inr a) (inr b) = broken_once rs n e m f a.1 b.1

-- a segment of which each rule of the list holds is sound, whichever row fits, and back
module _ (profile : Profile) (w : List ℕ) (h : List View) (v : View) where
  pub holds_sound : (r : ℕ) → Fits w (tag_in_of v) r → EachHolds (rules profile w h v) → Sound profile w h v r
  holds_sound r f s =
      let i = holds_split (as_rules (early v) ++ row_rules profile w v) (as_rules (late profile h v)) s in
      let j = holds_split (as_rules (early v)) (row_rules profile w v) i.0 in
      let admitted = j.1.1.0 in
      let a = keeps_split (byte_checks v ++ tag_checks v) (end_checks v) (holds_keeps (early v) j.0) in
      let ruled = ruled_checks profile.elements (tag_in_of v) v in
      let b = keeps_split (ruled ++ hl_checks profile h v) (se_checks profile h v) (holds_keeps (late profile h v) i.1) in
      let c = keeps_split ruled (hl_checks profile h v) b.0 in
      record {
        kept = record { bytes = (keeps_split (byte_checks v) (tag_checks v) a.0).0; ends = a.1; elements = c.0; level = c.1; closing = b.1 };
        fits = f;
        admitted = rw (fits_once w (tag_in_of v) admitted.0 r admitted.1 f) at admitted.2;
      }

  sound_holds : (r : ℕ) → Sound profile w h v r → EachHolds (rules profile w h v)
  unfolding tag_checks
  sound_holds r s =
      let k = s.kept in
      let ruled = ruled_checks profile.elements (tag_in_of v) v in
      let tagged : Keeps (tag_checks v) = (lt→ltb (tag_in_of v) 34 (fits_tag w (tag_in_of v) r s.fits), tt) in
      holds_both (as_rules (early v) ++ row_rules profile w v) (as_rules (late profile h v))
      (holds_both (as_rules (early v)) (row_rules profile w v)
      (keeps_holds (early v) (keeps_both (byte_checks v ++ tag_checks v) (end_checks v) (keeps_both (byte_checks v) (tag_checks v) k.bytes tagged) k.ends))
      ((r, s.fits), ((r, s.fits, s.admitted), tt)))
      (keeps_holds (late profile h v)
      (keeps_both (ruled ++ hl_checks profile h v) (se_checks profile h v) (keeps_both ruled (hl_checks profile h v) k.elements k.level) k.closing))

  -- so a segment that breaks a rule is not sound
  pub broken_unsound : (n : Reason) (e r : ℕ) → FirstBroken (rules profile w h v) n e → Sound profile w h v r → ⊥
  broken_unsound n e r f s = broken_not_each (rules profile w h v) n e f (sound_holds r s)

-- each segment with those before it
module _ (P : List View → View → Type 0) where
  pub from_at : (h xs : List View) (v : View) (ys : List View) → From P h (xs ++ (v ∷ ys)) → P (onto h xs) v
  from_at h [] v ys f = f.0
  from_at h (x ∷ xs) v ys f = from_at (x ∷ h) xs v ys f.1

  pub from_front : (h xs ys : List View) → From P h (xs ++ ys) → From P h xs
  from_front h [] ys f = tt
  from_front h (x ∷ xs) ys f = (f.0, from_front (x ∷ h) xs ys f.1)

  pub from_append : (h xs ys : List View) → From P h xs → From P (onto h xs) ys → From P h (xs ++ ys)
  from_append h [] ys f g = g
  from_append h (x ∷ xs) ys f g = (f.0, from_append (x ∷ h) xs ys f.1 g)

pub onto_append : (h xs ys : List View) → onto h (xs ++ ys) ≡ onto (onto h xs) ys
onto_append h [] ys = refl
onto_append h (x ∷ xs) ys = onto_append (x ∷ h) xs ys

pub onto_length : (h vs : List View) → length (onto h vs) ≡ length h + length vs
onto_length h [] = omega arith
onto_length h (v ∷ vs) = omega (arith, onto_length (v ∷ h) vs)

-- the first segment stays the first
pub opening_onto : (v : View) (h vs : List View) → opening (onto (v ∷ h) vs) ≡ opening (v ∷ h)
opening_onto v h [] = refl
opening_onto v h (u ∷ vs) = opening_onto u (v ∷ h) vs

-- the tags decide the rows
pub same_rows : (w w' : List ℕ) (vs : List View) → Viable list842 w → Viable list842 w' → map tag_of w ≡ map tag_in_of vs → map tag_of w' ≡ map tag_in_of vs → w ≡ w'
same_rows w w' vs a b e f = rows_once w w' a b (e ∙ sym f)

-- Condition 2 as a reader meets it: each segment keeps its rules after those before it
pub record MeetsFrom (profile : Profile) (vs : List View) (rows : List ℕ) : Type 0 where
  pub word : Word list842 rows
  pub admitted : Within profile.rows rows
  pub tags : map tag_of rows ≡ map tag_in_of vs
  pub kept : From (Kept profile) [] vs

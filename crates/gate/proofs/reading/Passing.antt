-- What the next of some segments says: it keeps its rules, a row fits it, it is no SE; and how segments that were passed grow by one.
-- Assumes nothing.
use Prim.Native.Nat.{ℕ, suc, ◌≤◌}
use mathlib.Core.Path.{◌≡◌, sym, ap, ◌∙◌}
use mathlib.Core.Bool.{Bool, true, false, not}
use mathlib.Core.List.{List, [], ◌∷◌, ◌++◌, map, append_assoc}
use native.Mathlib.Omega.{arith}
use lib.Dec.{T}
use lib.ListN.{length, length-map}
use Rattle.text.specs.Bytes.{Bytes}
use Rattle.text.specs.View.{View, view_of}
use Rattle.text.specs.Cut.{Placed}
use Rattle.text.proofs.Bools.{passes, not_passes}
use Rattle.text.proofs.Everys.{every_middle}
use Rattle.text.proofs.Lists.{map-append, splits}
use Rattle.rows.specs.Rows.{Viable, list842}
use Rattle.rows.specs.RowList.{tag_of}
use Rattle.rows.specs.RowSets.{Within}
use Rattle.rows.specs.Following.{Fits}
use Rattle.rows.proofs.FittingRow.{viable_before}
use Rattle.rows.proofs.Continuable.{within_more}
use Rattle.levels.specs.Levels.{Claim}
use Rattle.levels.proofs.CalledLevel.{levels_length}
use Rattle.gate.specs.Profile.{Profile}
use Rattle.gate.specs.Segments.{tag_in_of, is_hl, is_se, seen, onto, add_claim, claims, levels_in, belongs_to}
use Rattle.gate.specs.Rules.{Admitted, Kept, From}
use Rattle.gate.specs.Records.{Tables, Room}
use Rattle.gate.specs.Reads.{Passed}
use Rattle.gate.specs.declared.how.How.{How}
use Rattle.gate.proofs.reading.Laws.{from_at, from_append, same_rows}

-- rows that number segments, and what each of these keeps: a reading aside from where it stands and what it has room for
pub record Numbers (profile : Profile) (vs : List View) (rows : List ℕ) : Type 0 where
  pub viable : Viable list842 rows
  pub admitted : Within profile.rows rows
  pub tags : map tag_of rows ≡ map tag_in_of vs
  pub kept : From (Kept profile) [] vs
  pub ongoing : From (λ h v. T (not (is_se v))) [] vs

pub numbers : {profile : Profile} {how : How} {t : Tables} {s : Bytes} {gs : List Placed} {rows : List ℕ} {end : ℕ} {rest : Bytes}
    → Passed profile how t s gs rows end rest → Numbers profile (seen how gs) rows
numbers p = record { viable = p.viable; admitted = p.admitted; tags = p.tags; kept = p.kept; ongoing = p.ongoing }

-- each segment has one row
pub one_each : (how : How) (gs : List Placed) (rows : List ℕ) → map tag_of rows ≡ map tag_in_of (seen how gs) → length rows ≡ length gs
one_each how gs rows tags =
    sym (length-map rows tag_of) ∙ ap length tags ∙ length-map (seen how gs) tag_in_of ∙ length-map gs (λ (g : Placed). view_of how.separators g.segment)

-- the segment behind xs, of more that were passed
pub record Next (profile : Profile) (xs : List View) (w : List ℕ) (v : View) : Type 0 where
  pub row : ℕ
  pub fits : Fits w (tag_in_of v) row
  pub admitted : Admitted profile row
  pub kept : Kept profile (onto [] xs) v
  pub ongoing : T (not (is_se v))

pub next_of : (profile : Profile) (xs : List View) (w : List ℕ) (v : View) (ys : List View) (rows : List ℕ) → Numbers profile xs w
    → Numbers profile (xs ++ (v ∷ ys)) rows → Next profile xs w v
next_of profile xs w v ys rows a b =
    let i = splits tag_of rows (map tag_in_of xs) (tag_in_of v) (map tag_in_of ys) (b.tags ∙ map-append tag_in_of xs (v ∷ ys)) in
    let z : Viable list842 (i.front ++ (i.mid ∷ i.back)) = rw i.whole at b.viable in
    let f : i.front ≡ w = same_rows i.front w xs (viable_before i.front (i.mid ∷ i.back) z) a.viable i.front_is a.tags in
    record {
      row = i.mid;
      fits = record { viable = viable_before (w ++ (i.mid ∷ [])) i.back (rw (append_assoc, ← f) z); tagged = i.mid_is };
      admitted = every_middle profile.rows i.front i.mid i.back (rw i.whole at b.admitted);
      kept = from_at (Kept profile) [] xs v ys b.kept;
      ongoing = from_at (λ h v. T (not (is_se v))) [] xs v ys b.ongoing;
    }

-- one more
pub numbers_more : (profile : Profile) (vs : List View) (w : List ℕ) (v : View) (r : ℕ) → Numbers profile vs w → Kept profile (onto [] vs) v
    → Fits w (tag_in_of v) r → Admitted profile r → T (not (is_se v)) → Numbers profile (vs ++ (v ∷ [])) (w ++ (r ∷ []))
numbers_more profile vs w v r p k f a o = record {
  viable = f.viable;
  admitted = within_more profile.rows w r p.admitted a;
  tags = map-append tag_of w (r ∷ []) ∙ rw (p.tags, f.tagged) (sym (map-append tag_in_of vs (v ∷ [])));
  kept = from_append (Kept profile) [] vs (v ∷ []) p.kept (k, tt);
  ongoing = from_append (λ h v. T (not (is_se v))) [] vs (v ∷ []) p.ongoing (o, tt);
}

-- room for more segments is room for fewer
pub claim_more : (b : Bool) (n : ℕ) (v : View) (cs : List (ℕ × Claim)) → length cs ≤ length (add_claim b n v cs)
claim_more true n v cs = omega arith
claim_more false n v cs = omega arith

pub levels_number : (profile : Profile) (h : List View) → length (levels_in profile h) ≡ length (claims h)
unfolding levels_in
levels_number profile h = levels_length profile.levels (claims h)

-- there are no more levels than segments
claims_few : (h : List View) → length (claims h) ≤ length h
claims_few [] = omega arith
claims_few (v ∷ h) = by_value (is_hl v) (claims_few h)
  where
    by_value : (b : Bool) → length (claims h) ≤ length h → length (add_claim b (suc (length h)) v (claims h)) ≤ suc (length h)
    by_value true l = omega arith
    by_value false l = omega arith

pub levels_few : (profile : Profile) (h : List View) → length (levels_in profile h) ≤ length h
levels_few profile h = omega (arith, levels_number profile h, claims_few h)

-- the level that a segment belongs to
module _ (profile : Profile) (h : List View) (v : View) where
  pub belongs_se : T (is_se v) → belongs_to h v ≡ 0
  belongs_se se = rw (passes (is_se v) se)

  pub belongs_hl : T (not (is_se v)) → is_hl v ≡ true → belongs_to h v ≡ suc (length (levels_in profile h))
  belongs_hl se hl = rw (not_passes (is_se v) se, hl, levels_number profile h)

  pub belongs_other : T (not (is_se v)) → is_hl v ≡ false → belongs_to h v ≡ length (levels_in profile h)
  belongs_other se hl = rw (not_passes (is_se v) se, hl, levels_number profile h)

onto_longer : (h vs : List View) → (length h ≤ length (onto h vs)) × (length (claims h) ≤ length (claims (onto h vs)))
onto_longer h [] = (omega arith, omega arith)
onto_longer h (v ∷ vs) =
    let i = onto_longer (v ∷ h) vs in
    (omega arith, omega (arith, claim_more (is_hl v) (suc (length h)) v (claims h)))

pub room_fewer : (profile : Profile) (t : Tables) (h vs : List View) → Room profile t (onto h vs) → Room profile t h
room_fewer profile t h vs r =
    let m = onto_longer h vs in
    record {
      segments_fit = omega (arith, r.segments_fit);
      levels_fit = omega (arith, r.levels_fit, levels_number profile h, levels_number profile (onto h vs));
    }

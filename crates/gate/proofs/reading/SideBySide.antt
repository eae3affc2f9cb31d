-- Two readings side by side: behind lists of segments that look alike to the rules and to the records, segments of which the same is said give the
-- same answer and the same records.
-- Assumes nothing.
use Prim.Native.Nat.{ℕ, zero, suc, ◌+◌}
use mathlib.Core.Path.{◌≡◌, refl, sym, ap, ◌∙◌}
use mathlib.Core.Bool.{Bool, true, false, cond}
use mathlib.Core.List.{List, [], ◌∷◌, ◌++◌, map}
use native.Mathlib.Omega.{arith}
use lib.Dec.{eqb}
use lib.ListN.{length, drop, length-map}
use Rattle.text.specs.Bytes.{Bytes}
use Rattle.text.specs.View.{View, view_of}
use Rattle.text.specs.Cut.{Cut, Whole, Stop, Placed}
use Rattle.text.proofs.Lists.{map-append}
use Rattle.rows.specs.Tags.{tag}
use Rattle.elements.specs.declared.verdict.Reason.{Reason}
use Rattle.elements.specs.declared.verdict.Reason.TheVariants.{Unended, NoRoom}
use Rattle.elements.proofs.Reasons.{reason_of}
use Rattle.gate.specs.Profile.{Profile}
use Rattle.gate.specs.Segments.{tag_in_of, is_hl, is_se, seen, onto, add_claim, claims, levels_in, opening}
use Rattle.gate.specs.Rules.{hl_checks, se_checks, late}
use Rattle.gate.specs.Records.{Tables, segment_records, recorded}
use Rattle.gate.specs.Reads.{cut_by, skip_by}
use Rattle.gate.specs.declared.how.How.{How}
use Rattle.gate.proofs.reading.Laws.{onto_append, onto_length}
use Rattle.gate.proofs.reading.Reference.{Says, Fine, Bad, says, Out, has_room_of, row_said, refuse, choose, at_cut, run}

-- the views of segments, latest first
abbrev pub history : How → List Placed → List View
history how gs = onto [] (seen how gs)

-- one segment more
abbrev pub put : List Placed → ℕ → Bytes → List Placed
put gs at g = gs ++ record { at = at; segment = g } ∷ []

-- where a segment starts, how long it is, and its tag: all that its record hangs on, beside its row and the levels before it
abbrev Extent : Type 0
Extent = ℕ × ℕ × ℕ

abbrev pub extent : How → Placed → Extent
extent how g = (g.at, length g.segment, tag_in_of (view_of how.separators g.segment))

-- how many levels there are behind a segment with that tag, of so many before it
abbrev levels_behind : ℕ → ℕ → ℕ
levels_behind t n = cond (eqb t (tag "HL")) (suc n) n

levels_behind_lem : (v : View) (h : List View) → length (claims (v ∷ h)) ≡ levels_behind (tag_in_of v) (length (claims h))
levels_behind_lem v h = by (is_hl v)
  where
    by : (b : Bool) → length (add_claim b (suc (length h)) v (claims h)) ≡ cond b (suc (length (claims h))) (length (claims h))
    by true = refl
    by false = refl

-- the records by what they hang on
abbrev records_at : ℕ → List Extent → List ℕ → List ℕ
records_at n [] rows = []
records_at n (x ∷ xs) [] = []
records_at n (x ∷ xs) (r ∷ rows) =
    x.0 ∷ x.1 ∷ r ∷ cond (eqb x.2 (tag "SE")) 0 (levels_behind x.2 n) ∷ records_at (levels_behind x.2 n) xs rows

records_extents : (how : How) (h : List View) (gs : List Placed) (rows : List ℕ)
    → segment_records how h gs rows ≡ records_at (length (claims h)) (map (extent how) gs) rows
records_extents how h [] rows = refl
records_extents how h (g ∷ gs) [] = refl
records_extents how h (g ∷ gs) (r ∷ rows) =
    let v = view_of how.separators g.segment in
    rw (records_extents how (v ∷ h) gs rows, levels_behind_lem v h)

-- the first segment stays the first with one segment more
opening_same : (v : View) (h h' : List View) → length h ≡ length h' → opening h ≡ opening h' → opening (v ∷ h) ≡ opening (v ∷ h')
opening_same v [] [] l e = refl
opening_same v [] (u' ∷ h') l e = absurd (omega arith)
opening_same v (u ∷ h) [] l e = absurd (omega arith)
opening_same v (u ∷ h) (u' ∷ h') l e = e

-- lists of segments that look alike to the rules of any later segment and to the records
pub record Alike (how : How) (gs gs' : List Placed) : Type 0 where
  pub extents : map (extent how) gs ≡ map (extent how) gs'
  pub levels : claims (history how gs) ≡ claims (history how gs')
  pub first : opening (history how gs) ≡ opening (history how gs')

module _ (how : How) where
  abbrev view : Bytes → View
  view g = view_of how.separators g

  pub history_put : (gs : List Placed) (at : ℕ) (g : Bytes) → history how (put gs at g) ≡ view g ∷ history how gs
  history_put gs at g =
      ap (onto []) (map-append (λ (g : Placed). view g.segment) gs (record { at = at; segment = g } ∷ [])) ∙ onto_append [] (seen how gs) (view g ∷ [])

  pub history_length : (gs : List Placed) → length (history how gs) ≡ length gs
  history_length gs = omega (arith, onto_length [] (seen how gs), length-map gs (λ (g : Placed). view g.segment))

  pub extents_put : (gs gs' : List Placed) (at : ℕ) (g g' : Bytes) → map (extent how) gs ≡ map (extent how) gs' → length g ≡ length g'
      → tag_in_of (view g) ≡ tag_in_of (view g') → map (extent how) (put gs at g) ≡ map (extent how) (put gs' at g')
  extents_put gs gs' at g g' e l t =
      rw (map-append (extent how) gs (record { at = at; segment = g } ∷ []), map-append (extent how) gs' (record { at = at; segment = g' } ∷ []), e, l, t)

  pub alike_self : (gs : List Placed) → Alike how gs gs
  alike_self gs = record { extents = refl; levels = refl; first = refl }

  module _ (gs gs' : List Placed) (a : Alike how gs gs') where
    alike_length : length gs ≡ length gs'
    alike_length = sym (length-map gs (extent how)) ∙ ap length a.extents ∙ length-map gs' (extent how)

    alike_history : length (history how gs) ≡ length (history how gs')
    alike_history = history_length gs ∙ alike_length ∙ sym (history_length gs')

    alike_levels : (profile : Profile) → levels_in profile (history how gs) ≡ levels_in profile (history how gs')
    unfolding levels_in
    alike_levels profile = rw a.levels

    alike_room : (profile : Profile) (m n : ℕ) → has_room_of profile m n (history how gs) ≡ has_room_of profile m n (history how gs')
    alike_room profile m n = rw (alike_history, alike_levels profile)

    -- they have the same records
    pub alike_recorded : (profile : Profile) (t : Tables) (rows : List ℕ) → recorded profile how t gs rows ≡ recorded profile how t gs' rows
    alike_recorded profile t rows = rw (records_extents how [] gs rows, records_extents how [] gs' rows, a.extents, alike_levels profile)

    -- the same is said of the next segment
    alike_late : (profile : Profile) (v : View) → late profile (history how gs) v ≡ late profile (history how gs') v
    unfolding hl_checks se_checks
    alike_late profile v = rw (alike_levels profile, alike_history, a.first)

    alike_says : (profile : Profile) (w : List ℕ) (v : View) → says profile w (history how gs) v ≡ says profile w (history how gs') v
    unfolding says
    alike_says profile w v = rw (alike_late profile v)

    -- and with it they look alike
    alike_put : (at : ℕ) (g : Bytes) → Alike how (put gs at g) (put gs' at g)
    alike_put at g = record {
      extents = extents_put gs gs' at g g a.extents refl refl;
      levels = rw (history_put gs at g, history_put gs' at g, alike_history, a.levels);
      first = rw (history_put gs at g, history_put gs' at g) (opening_same (view g) (history how gs) (history how gs') alike_history a.first);
    }

-- two outcomes that look alike
pub record Same (how : How) (o o' : Out) : Type 0 where
  pub answer : o.0 ≡ o'.0
  pub kept : Alike how o.1 o'.1
  pub rows : o.2 ≡ o'.2

module _ (profile : Profile) (how : How) (segments levels : ℕ) where
  abbrev choosing : List Placed → List ℕ → ℕ → Bytes → Says → Bool → Bool → Out → Out
  choosing = choose profile how segments levels

  abbrev pub running : ℕ → List Placed → List ℕ → ℕ → Bytes → Out
  running fuel gs w at s = run profile how segments levels fuel gs w (history how gs) at s

  abbrev saying : List Placed → List ℕ → Bytes → Says
  saying gs w g = says profile w (history how gs) (view_of how.separators g)

  abbrev roomy : List Placed → Bytes → Bool
  roomy gs g = has_room_of profile segments levels (view_of how.separators g ∷ history how gs)

  -- a refusal behind lists that look alike
  pub refused_same : (gs gs' : List Placed) (w : List ℕ) (at : ℕ) (n : Reason) (e : ℕ) → Alike how gs gs'
      → Same how (refuse profile how segments levels gs w at n e) (refuse profile how segments levels gs' w at n e)
  refused_same gs gs' w at n e a = record { answer = rw (alike_length how gs gs' a); kept = a; rows = refl }

  -- the answer at segments of which the same is said
  chosen_same : (gs gs' : List Placed) (w : List ℕ) (at : ℕ) (g g' : Bytes) (d : Says) (room room' last : Bool) (o o' : Out) → Alike how gs gs'
      → length g ≡ length g' → ((r : ℕ) → d ≡ Fine r → (room ≡ room') × Alike how (put gs at g) (put gs' at g') × Same how o o')
      → Same how (choosing gs w at g d room last o) (choosing gs' w at g' d room' last o')
  chosen_same gs gs' w at g g' (Bad n e) room room' last o o' a l f = refused_same gs gs' w at n e a
  chosen_same gs gs' w at g g' (Fine r) room room' last o o' a l f = rw (f r refl).0 (by room' last (f r refl).1 (f r refl).2)
    where
      by : (room last : Bool) → Alike how (put gs at g) (put gs' at g') → Same how o o'
          → Same how (choosing gs w at g (Fine r) room last o) (choosing gs' w at g' (Fine r) room last o')
      by false last b s = refused_same gs gs' w at NoRoom 0 a
      by true false b s = s
      by true true b s = record {
        answer = rw (alike_length how (put gs at g) (put gs' at g') b, alike_levels how (put gs at g) (put gs' at g') b profile, l);
        kept = b;
        rows = refl;
      }

  -- the answer at a whole segment, with what comes behind it
  abbrev pub taken : ℕ → List Placed → List ℕ → ℕ → Bytes → ℕ → Bytes → Out
  taken fuel gs w at g next rest =
      let d = saying gs w g in
      let v = view_of how.separators g in
      choosing gs w at g d (roomy gs g) (is_se v) (run profile how segments levels fuel (put gs at g) (w ++ (row_said d ∷ [])) (v ∷ history how gs) next rest)

  pub taken_same : (fuel : ℕ) (gs gs' : List Placed) (w : List ℕ) (at : ℕ) (g g' : Bytes) (next next' : ℕ) (rest rest' : Bytes) → Alike how gs gs'
      → length g ≡ length g' → saying gs w g ≡ saying gs' w g' → is_se (view_of how.separators g) ≡ is_se (view_of how.separators g')
      → ((r : ℕ) → saying gs' w g' ≡ Fine r → Alike how (put gs at g) (put gs' at g'))
      → ((r : ℕ) → Alike how (put gs at g) (put gs' at g')
      → Same how (running fuel (put gs at g) (w ++ (r ∷ [])) next rest) (running fuel (put gs' at g') (w ++ (r ∷ [])) next' rest'))
      → Same how (taken fuel gs w at g next rest) (taken fuel gs' w at g' next' rest')
  taken_same fuel gs gs' w at g g' next next' rest rest' a l d last alike on =
      let h = history_put how gs at g in
      let h' = history_put how gs' at g' in
      let room : Alike how (put gs at g) (put gs' at g') → roomy gs g ≡ roomy gs' g' =
      λ b. ap (has_room_of profile segments levels) (sym h) ∙ alike_room how (put gs at g) (put gs' at g') b profile segments levels ∙ ap (has_room_of profile segments levels) h' in
      rw (d, last)
      (chosen_same gs gs' w at g g' (saying gs' w g') (roomy gs g) (roomy gs' g') (is_se (view_of how.separators g')) _ _ a l
      (λ r e. (room (alike r e), alike r e, rw (h, h') at (on (row_said (saying gs' w g')) (alike r e)))))

  -- behind lists that look alike the same bytes give the same
  abbrev Behind : ℕ → Type 0
  Behind fuel = (gs gs' : List Placed) (w : List ℕ) (at : ℕ) (s : Bytes) → Alike how gs gs' → Same how (running fuel gs w at s) (running fuel gs' w at s)

  behind_more : (fuel : ℕ) → Behind fuel → Behind (suc fuel)
  behind_more fuel on gs gs' w at s a = by (cut_by how s)
    where
      answer : List Placed → Cut → Out
      answer gs c = at_cut profile how segments levels (run profile how segments levels fuel) gs w (history how gs) at c

      by : (c : Cut) → Same how (answer gs c) (answer gs' c)
      by (Stop n e upto more) = refused_same gs gs' w at (reason_of n) e a
      by (Whole g more) =
          let next = at + length g + 1 + skip_by how more in
          let rest = drop (skip_by how more) more in
          taken_same fuel gs gs' w at g g next next rest rest a refl (alike_says how gs gs' a profile w (view_of how.separators g)) refl
          (λ r e. alike_put how gs gs' a at g) (λ r b. on (put gs at g) (put gs' at g) (w ++ (r ∷ [])) next rest b)

  pub behind_same : (fuel : ℕ) → Behind fuel
  behind_same zero gs gs' w at s a = refused_same gs gs' w at Unended 0 a
  behind_same (suc fuel) gs gs' w at s a = behind_more fuel (behind_same fuel) gs gs' w at s a

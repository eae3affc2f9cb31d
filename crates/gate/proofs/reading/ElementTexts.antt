-- What the reader reads off a segment's bytes is what the rules say of its view: the tag, and the text of an element of one component.
-- Assumes nothing.
use Prim.Native.Nat.{ℕ, suc, ◌≤◌, ◌<◌}
use Prim.Native.String.{String}
use mathlib.Core.Path.{◌≡◌, refl, sym, ap, subst, ◌∙◌}
use mathlib.Core.Logic.{by_cases}
use mathlib.Core.Bool.{Bool, true, false, not, cond, ◌||◌}
use mathlib.Core.List.{List, [], ◌∷◌, ◌++◌}
use native.Mathlib.Omega.{arith}
use native.Mathlib.Decide.{dec_lt}
use lib.Dec.{T}
use lib.ListN.{length, get_or, get_or-map}
use Rattle.text.specs.Bytes.{Bytes, every, same}
use Rattle.text.specs.Separators.{is_id_byte, may_serve, Fitted}
use Rattle.text.specs.Pieces.{pieces, joined}
use Rattle.text.specs.internal.Search.{Free}
use Rattle.text.specs.Bin.{is_bin}
use Rattle.text.specs.View.{Piece, View, plain_view, view_of, elements_of, present, element_of, names_bin, inspected}
use Rattle.text.specs.declared.separators.Separators.{Separators}
use Rattle.text.proofs.Bools.{first_of, second_of, passes, fails}
use Rattle.text.proofs.Sames.{same_equal}
use Rattle.text.proofs.Pieces.{joined_pieces, pieces_free}
use Rattle.text.proofs.BinView.{view_bin, view_plain, elements_bin, elements_plain, names_bin_lem, inspected_other}
use Rattle.text.proofs.Serving.{id_bytes_free}
use Rattle.rows.specs.Tags.{tag, tags, place_in, tag_number}
use Rattle.elements.specs.Data.{Value, value, Simple, Rules, rules_hl, rules_se, rules_st, element_profile}
use Rattle.types.specs.declared.kind.Kind.TheVariants.{AN, ID, N0}
use Rattle.elements.specs.Checks.{Keeps}
use Rattle.elements.specs.Rules.{is_unused, rule_of, fits_simple, fits_shape, too_many_checks, missing_checks, unfit_checks, note_checks, checks_by, ruled_checks, present_at}
use Rattle.elements.specs.declared.verdict.Reason.TheVariants.{Unfit}
use Rattle.levels.specs.Levels.{text_of, claim_of}
use Rattle.rows.specs.declared.profile.ProfileName.{ProfileName}
use Rattle.gate.specs.Segments.{piece_tag, tag_in_of}
use Rattle.gate.proofs.reading.Laws.{keeps_split, keeps_at}

-- an element of a view is the piece of the segment, cut at the component separator
pub element_piece : (q : Separators) (g : Bytes) (k : ℕ) → element_of (plain_view q g) k ≡ pieces q.component (get_or (pieces q.element g) k [])
element_piece q g k = get_or-map (pieces q.component) (pieces q.element g) k []

-- a whole BIN has that tag, so a segment with another is cut at its separators
module _ (q : Separators) (g : Bytes) where
  pub bin_tag : is_bin q.element g ≡ true → tag_in_of (view_of q g) ≡ tag "BIN"
  unfolding tag_in_of
  bin_tag h = ap (λ (v : View). piece_tag (element_of v 0)) (view_bin q g h)

  pub other_tag : (tag_in_of (view_of q g) ≡ tag "BIN" → ⊥) → is_bin q.element g ≡ false
  other_tag n = fails (is_bin q.element g) (λ t. n (bin_tag (passes (is_bin q.element g) t)))

-- and every piece of it is looked into
pub inspected_all : (v : View) → (tag_in_of v ≡ tag "BIN" → ⊥) → inspected v ≡ v
unfolding tag_in_of
inspected_all v n =
    inspected_other v (fails (names_bin (element_of v 0)) (λ t. n (ap piece_tag (names_bin_lem (element_of v 0) t))))

-- every tag is of capitals and digits
abbrev all_id_bytes : List Bytes → Bool
all_id_bytes l = every (every is_id_byte) l

checked_id_bytes : T (all_id_bytes tags)
checked_id_bytes = tt

-- bytes that are a tag hold no separator
place_id_bytes : (ts : List Bytes) (s : Bytes) → T (all_id_bytes ts) → place_in ts s < length ts → T (every is_id_byte s)
place_id_bytes [] s a h = absurd (omega arith)
place_id_bytes (t ∷ ts) s a h = by (same t s) (same_equal t s) (place_id_bytes ts s (second_of (every is_id_byte t) (all_id_bytes ts) a)) h
  where
    by : (b : Bool) → (T b → t ≡ s) → (place_in ts s < length ts → T (every is_id_byte s))
        → cond b 0 (suc (place_in ts s)) < suc (length ts) → T (every is_id_byte s)
    by true e f h =
        subst (λ (x : Bytes). T (every is_id_byte x)) (e tt) (first_of (every is_id_byte t) (all_id_bytes ts) a)
    by false e f h = f (omega arith)

tag_free : (c : ℕ) → T (may_serve c) → (s : Bytes) → tag_number s < 34 → Free c s
unfolding tag_number
tag_free c m s h = id_bytes_free c m s (place_id_bytes tags s checked_id_bytes h)

-- a number of a tag is at most 34
place_most : (ts : List Bytes) (s : Bytes) → place_in ts s ≤ length ts
place_most [] s = omega arith
place_most (t ∷ ts) s = by (same t s) (place_most ts s)
  where
    by : (b : Bool) → place_in ts s ≤ length ts → cond b 0 (suc (place_in ts s)) ≤ suc (length ts)
    by true h = omega arith
    by false h = omega arith

tag_most : (s : Bytes) → tag_number s ≤ 34
unfolding tag_number
tag_most s = place_most tags s

-- the tag of a piece that is cut at the component separator is the piece's own
piece_tag_lem : (c : ℕ) → T (may_serve c) → (s : Bytes) → piece_tag (pieces c s) ≡ tag_number s
piece_tag_lem c m s = by_cases (dec_lt (tag_number s) 34) known unknown
  where
    known : tag_number s < 34 → piece_tag (pieces c s) ≡ tag_number s
    known h = rw (pieces_free c s (tag_free c m s h))

    one_piece : (ps : List Bytes) → joined c ps ≡ s → (tag_number s < 34 → ⊥) → piece_tag ps ≡ 34
    one_piece [] e n = refl
    one_piece (t ∷ []) e n = rw e (omega (arith, tag_most s, n))
    one_piece (t ∷ (u ∷ ps)) e n = refl

    unknown : (tag_number s < 34 → ⊥) → piece_tag (pieces c s) ≡ tag_number s
    unknown n = one_piece (pieces c s) (joined_pieces c s) n ∙ omega (arith, tag_most s, n)

pub tag_of_view : (q : Separators) → Fitted q → (g : Bytes) → tag_in_of (view_of q g) ≡ tag_number (get_or (elements_of q.element g) 0 [])
unfolding tag_in_of
tag_of_view q fit g = by (is_bin q.element g) refl
  where
    by : (b : Bool) → is_bin q.element g ≡ b → piece_tag (element_of (view_of q g) 0) ≡ tag_number (get_or (elements_of q.element g) 0 [])
    by true h = rw (view_bin q g h, elements_bin q.element g h)
    by false h =
        rw (view_plain q g h, elements_plain q.element g h, element_piece q g 0)
        (piece_tag_lem q.component fit.component_serves (get_or (pieces q.element g) 0 []))

-- an element that is absent, or fits as one value, has the piece's bytes as its text
text_of_piece : (c : ℕ) (s : Bytes) (x : Value) → T (not (present (pieces c s)) || fits_simple x (pieces c s)) → text_of (pieces c s) ≡ s
text_of_piece c s x t = by (pieces c s) (joined_pieces c s) t
  where
    by : (ps : Piece) → joined c ps ≡ s → T (not (present ps) || fits_simple x ps) → text_of ps ≡ s
    by [] e t = e
    by (p ∷ []) e t = e
    by ([] ∷ (r ∷ ps)) e t = absurd t
    by ((b ∷ p) ∷ (r ∷ ps)) e t = absurd t

-- what rule 10 says of an element that is one value
pub ruled_simple : (rules : Rules) (unused : ℕ → Bool) (v : View) (x : Value) (k : ℕ) → 1 ≤ k → k ≤ length rules.elements → (rule_of rules k).shape ≡ Simple x
    → Keeps (checks_by rules unused v) → T (not (present (element_of v k)) || fits_simple x (element_of v k))
ruled_simple rules unused v x k l h e t =
    let a = (keeps_split (too_many_checks rules unused v ++ missing_checks rules v ++ unfit_checks rules v) (note_checks rules.notes (present_at v)) t).0 in
    let b = (keeps_split (too_many_checks rules unused v ++ missing_checks rules v) (unfit_checks rules v) a).1 in
    let c =
    keeps_at Unfit 1 (length rules.elements) (λ (k : ℕ). not (present (element_of v k)) || fits_shape (rule_of rules k).shape (element_of v k)) b k l (omega arith) in
    rw e at c

-- the text of such an element is the piece's bytes
simple_text : (rules : Rules) (unused : ℕ → Bool) (q : Separators) (g : Bytes) (x : Value) (k : ℕ) → 1 ≤ k → k ≤ length rules.elements → (rule_of rules k).shape ≡ Simple x
    → is_bin q.element g ≡ false → Keeps (checks_by rules unused (view_of q g)) → text_of (element_of (view_of q g) k) ≡ get_or (pieces q.element g) k []
simple_text rules unused q g x k l h e n t =
    let a = rw (view_plain q g n, element_piece q g k) at (ruled_simple rules unused (view_of q g) x k l h e t) in
    rw (view_plain q g n, element_piece q g k) (text_of_piece q.component (get_or (pieces q.element g) k []) x a)

-- the rules of HL, SE and ST segments, by either profile
abbrev pub unused_in : ProfileName → String → ℕ → Bool
unused_in name text = is_unused (element_profile name) (tag text)

module _ (name : ProfileName) (v : View) where
  pub hl_rules : ruled_checks (element_profile name) (tag "HL") v ≡ checks_by rules_hl (unused_in name "HL") v
  unfolding ruled_checks tag_number
  hl_rules = refl

  pub se_rules : ruled_checks (element_profile name) (tag "SE") v ≡ checks_by rules_se (unused_in name "SE") v
  unfolding ruled_checks tag_number
  se_rules = refl

  pub st_rules : ruled_checks (element_profile name) (tag "ST") v ≡ checks_by rules_st (unused_in name "ST") v
  unfolding ruled_checks tag_number
  st_rules = refl

-- none of the three is a BIN
pub hl_no_bin : tag "HL" ≡ tag "BIN" → ⊥
unfolding tag_number
hl_no_bin e = omega (arith, e)

pub se_no_bin : tag "SE" ≡ tag "BIN" → ⊥
unfolding tag_number
se_no_bin e = omega (arith, e)

pub st_no_bin : tag "ST" ≡ tag "BIN" → ⊥
unfolding tag_number
st_no_bin e = omega (arith, e)

abbrev Ruled : ProfileName → View → Type 0
Ruled name v = Keeps (ruled_checks (element_profile name) (tag_in_of v) v)

module _ (name : ProfileName) (q : Separators) (g : Bytes) (ruled : Ruled name (view_of q g)) where
  abbrev pub piece_of : ℕ → Bytes
  piece_of k = get_or (pieces q.element g) k []

  plain_hl : tag_in_of (view_of q g) ≡ tag "HL" → is_bin q.element g ≡ false
  plain_hl e = other_tag q g (λ z. hl_no_bin (sym e ∙ z))

  plain_se : tag_in_of (view_of q g) ≡ tag "SE" → is_bin q.element g ≡ false
  plain_se e = other_tag q g (λ z. se_no_bin (sym e ∙ z))

  plain_st : tag_in_of (view_of q g) ≡ tag "ST" → is_bin q.element g ≡ false
  plain_st e = other_tag q g (λ z. st_no_bin (sym e ∙ z))

  -- what an HL says stands in its pieces
  pub hl_claim : tag_in_of (view_of q g) ≡ tag "HL" → claim_of (view_of q g) ≡ record { id = piece_of 1; parent = piece_of 2; code = piece_of 3; mark = piece_of 4 }
  hl_claim e =
      let k : Keeps (checks_by rules_hl (unused_in name "HL") (view_of q g)) = rw (e, hl_rules) at ruled in
      let a = simple_text rules_hl (unused_in name "HL") q g (value AN 1 12) 1 (omega arith) (omega arith) refl (plain_hl e) k in
      let b = simple_text rules_hl (unused_in name "HL") q g (value AN 1 12) 2 (omega arith) (omega arith) refl (plain_hl e) k in
      let c = simple_text rules_hl (unused_in name "HL") q g (value ID 1 2) 3 (omega arith) (omega arith) refl (plain_hl e) k in
      let d = simple_text rules_hl (unused_in name "HL") q g (value ID 1 1) 4 (omega arith) (omega arith) refl (plain_hl e) k in
      λ i. record { id = a i; parent = b i; code = c i; mark = d i }

  -- and what an SE says
  pub se_count : tag_in_of (view_of q g) ≡ tag "SE" → text_of (element_of (view_of q g) 1) ≡ piece_of 1
  se_count e = simple_text rules_se (unused_in name "SE") q g (value N0 1 10) 1 (omega arith) (omega arith) refl (plain_se e) (rw (e, se_rules) at ruled)

  pub se_control : tag_in_of (view_of q g) ≡ tag "SE" → text_of (element_of (view_of q g) 2) ≡ piece_of 2
  se_control e = simple_text rules_se (unused_in name "SE") q g (value AN 4 9) 2 (omega arith) (omega arith) refl (plain_se e) (rw (e, se_rules) at ruled)

  -- the control number of an ST
  pub st_control : tag_in_of (view_of q g) ≡ tag "ST" → text_of (element_of (view_of q g) 2) ≡ piece_of 2
  st_control e = simple_text rules_st (unused_in name "ST") q g (value AN 4 9) 2 (omega arith) (omega arith) refl (plain_st e) (rw (e, st_rules) at ruled)

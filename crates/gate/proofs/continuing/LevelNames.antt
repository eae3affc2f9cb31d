-- The levels of segments that keep their rules: each has a name of its own that can be written again, and is marked `1` only with a code
-- that may be; and the text of ST02.
-- Assumes nothing.
use Prim.Native.Nat.{ℕ, suc, ◌≤◌, ◌<◌}
use mathlib.Core.Path.{◌≡◌, refl, sym, ap, subst, ◌∙◌}
use mathlib.Core.Bool.{Bool, true, false, not, ◌&&◌, ◌||◌}
use mathlib.Core.List.{List, [], ◌∷◌, ◌++◌}
use native.Mathlib.Omega.{arith}
use native.Mathlib.Decide.{dec_lt}
use borrow.Author.Tests.{eq-eqb, ne_eqb}
use lib.Dec.{T, eqb, eqb→eq, leb, leb→le}
use lib.ListN.{length, get_or-eq_default}
use Rattle.text.specs.Bytes.{Bytes, bytes, between, every, any, same}
use Rattle.text.specs.Separators.{printable}
use Rattle.text.specs.View.{Piece, View, empty, present, element_of, inspected}
use Rattle.text.specs.declared.separators.Separators.{Separators}
use Rattle.text.proofs.Bools.{both, first_of, second_of, passes, fails}
use Rattle.text.proofs.Sames.{same_equal, same_self}
use Rattle.text.proofs.Everys.{every_anywhere}
use Rattle.text.proofs.View.{unseparated}
use Rattle.rows.specs.Tags.{tag}
use Rattle.types.specs.Types.{fits}
use Rattle.elements.specs.Data.{Rules, value, rules_st, rules_hl}
use Rattle.elements.specs.Checks.{Keeps}
use Rattle.elements.specs.Rules.{data_piece, data_checks, byte_checks, too_many_checks, missing_checks, fits_simple, unfit_checks, note_checks, checks_by, present_at}
use Rattle.types.specs.declared.kind.Kind.TheVariants.{AN}
use Rattle.elements.specs.declared.verdict.Reason.TheVariants.{BadByte}
use Rattle.levels.specs.Profile.{level_profile, code_of, may_be_marked}
use Rattle.levels.specs.Levels.{text_of, claim_of, Level, called, level_at, level_of}
use Rattle.levels.specs.Rules.{level_checks, filled_from, filled}
use Rattle.rows.specs.declared.profile.ProfileName.{ProfileName}
use Rattle.gate.specs.Profile.{profile_named}
use Rattle.gate.specs.Segments.{tag_in_of, is_hl, onto, levels_in}
use Rattle.gate.specs.Rules.{hl_checks, Kept, From}
use Rattle.gate.proofs.reading.Laws.{keeps_split, keeps_at}
use Rattle.gate.proofs.continuing.AddedSegments.{levels, no_separator, Text}
use Rattle.gate.proofs.reading.ElementTexts.{unused_in, hl_rules, st_rules, hl_no_bin, st_no_bin, inspected_all}
use Rattle.levels.proofs.LevelTests.{keeps_passes}

-- of pieces that keep the rule of bytes every one is printable
element_printed : (v : View) → Keeps (data_checks v) → (k : ℕ) → T (data_piece (element_of v k))
unfolding data_checks
element_printed v b k = go (dec_lt k (length v))
  where
    go : Dec (k < length v) → T (data_piece (element_of v k))
    go (yes h) = keeps_at BadByte 0 (length v) (λ (j : ℕ). data_piece (element_of v j)) b k (omega arith) (omega arith)
    go (no h) = rw (get_or-eq_default v empty {n = k} (omega arith)) tt

-- the length of an element of one value
piece_sized : (least most : ℕ) (p : Piece) → T (present p && true) → T (not (present p) || fits_simple (value AN least most) p)
    → T (between least most (length (text_of p)))
unfolding fits
piece_sized least most [] t f = absurd t
piece_sized least most ([] ∷ []) t f = absurd t
piece_sized least most ((b ∷ s) ∷ []) t f = first_of (between least most (length (b ∷ s))) true f
piece_sized least most ([] ∷ (c ∷ p)) t f = absurd f
piece_sized least most ((b ∷ s) ∷ (c ∷ p)) t f = absurd f

-- the text of an element that is mandatory text by its segment's rules
element_text_lem : (q : Separators) (least most : ℕ) (v : View) (k : ℕ) → Keeps (data_checks v) → T (unseparated q v)
    → T (present (element_of v k) && true) → T (not (present (element_of v k)) || fits_simple (value AN least most) (element_of v k))
    → Text q least most (text_of (element_of v k))
element_text_lem q least most v k b u t f =
    let p = element_of v k in
    let s = text_of p in
    let z = piece_sized least most p t f in
    record {
      printed = every_anywhere (every printable) p [] tt (element_printed v b k) 0;
      free = every_anywhere (every (no_separator q)) p [] tt (every_anywhere (every (every (no_separator q))) v empty tt u k) 0;
      long = leb→le least (length s) (first_of (leb least (length s)) (leb (length s) most) z);
      short = leb→le (length s) most (second_of (leb least (length s)) (leb (length s) most) z);
    }

-- what is mandatory is present, and what is present fits
ruled_parts : (rules : Rules) (unused : ℕ → Bool) (v : View) → Keeps (checks_by rules unused v) → Keeps (missing_checks rules v) × Keeps (unfit_checks rules v)
ruled_parts rules unused v k =
    let many = too_many_checks rules unused v in
    let missing = missing_checks rules v in
    let unfit = unfit_checks rules v in
    let a = (keeps_split (many ++ missing ++ unfit) (note_checks rules.notes (present_at v)) k).0 in
    let b = keeps_split (many ++ missing) unfit a in
    ((keeps_split many missing b.0).1, b.1)

module _ (name : ProfileName) (q : Separators) (h : List View) (v : View) (k : Kept (profile_named name) h v) (u : T (unseparated q (inspected v))) where
  -- the rule of bytes, of a segment that is no BIN
  data_kept : inspected v ≡ v → Keeps (data_checks v)
  unfolding byte_checks
  data_kept e = rw e at k.bytes

  -- HL01 can be written again
  pub hl_text : tag_in_of v ≡ tag "HL" → Text q 1 12 (text_of (element_of v 1))
  hl_text e =
      let p = ruled_parts rules_hl (unused_in name "HL") v (rw (e, hl_rules) at k.elements) in
      let all = inspected_all v (λ z. hl_no_bin (sym e ∙ z)) in
      element_text_lem q 1 12 v 1 (data_kept all) (rw all at u) p.0.0 p.1.0

  -- and ST02
  pub st_text : tag_in_of v ≡ tag "ST" → Text q 4 9 (text_of (element_of v 2))
  st_text e =
      let p = ruled_parts rules_st (unused_in name "ST") v (rw (e, st_rules) at k.elements) in
      let all = inspected_all v (λ z. st_no_bin (sym e ∙ z)) in
      element_text_lem q 4 9 v 2 (data_kept all) (rw all at u) p.0.1.0 p.1.1.0

-- an HL makes one level more
pub levels_hl : (name : ProfileName) (h : List View) (v : View) → is_hl v ≡ true
    → levels name (v ∷ h) ≡ level_of (level_profile name) (suc (length h)) (claim_of v) (levels name h) ∷ levels name h
unfolding levels_in
levels_hl name h v e = rw e

-- another segment makes none
pub levels_other : (name : ProfileName) (h : List View) (v : View) → is_hl v ≡ false → levels name (v ∷ h) ≡ levels name h
unfolding levels_in
levels_other name h v e = rw e

-- a level that can be named as a parent, and can have a child where it is marked 1
pub record Nameable (name : ProfileName) (q : Separators) (l : Level) : Type 0 where
  pub text : Text q 1 12 l.id
  pub marked : T (same l.mark (bytes "1")) → T (may_be_marked (level_profile name) l.code)

-- levels that can all be named, each by a name of its own
abbrev pub Named : ProfileName → Separators → List Level → Type 0
Named name q [] = Unit {0}
Named name q (l ∷ ls) = Nameable name q l × (called l.id ls ≡ 0) × Named name q ls

-- no segments make no levels
pub named_none : (name : ProfileName) (q : Separators) → Named name q (levels name [])
unfolding levels_in
named_none name q = tt

-- the level with an earlier number stays
pub level_earlier : (m : ℕ) (l : Level) (ls : List Level) → m ≤ length ls → level_at m (l ∷ ls) ≡ level_at m ls
level_earlier m l ls h = rw (ne_eqb m (suc (length ls)) (λ e. omega arith))

-- the latest level has the latest number
pub level_latest : (l : Level) (ls : List Level) → level_at (suc (length ls)) (l ∷ ls) ≡ l
level_latest l ls = rw (eq-eqb (suc (length ls)) (suc (length ls)) refl)

-- level m can be named, and its name finds it
pub record NamedAt (name : ProfileName) (q : Separators) (ls : List Level) (m : ℕ) : Type 0 where
  pub nameable : Nameable name q (level_at m ls)
  pub found : called (level_at m ls).id ls ≡ m

-- a later level with a new name leaves it so
named_earlier : (name : ProfileName) (q : Separators) (l : Level) (ls : List Level) (m : ℕ) → 1 ≤ m → m ≤ length ls → called l.id ls ≡ 0 → NamedAt name q ls m
    → NamedAt name q (l ∷ ls) m
named_earlier name q l ls m a b new n =
    let other : same l.id (level_at m ls).id ≡ false =
    fails (same l.id (level_at m ls).id)
    (λ t. let e = ap (λ (s : Bytes). called s ls) (same_equal l.id (level_at m ls).id t) in omega (arith, n.found, new, e)) in
    record {
      nameable = rw (level_earlier m l ls b) n.nameable;
      found = subst (λ (x : Level). called x.id (l ∷ ls) ≡ m) (sym (level_earlier m l ls b)) (rw other n.found);
    }

-- and is so itself
named_latest : (name : ProfileName) (q : Separators) (l : Level) (ls : List Level) → Nameable name q l → NamedAt name q (l ∷ ls) (suc (length ls))
named_latest name q l ls n = record {
  nameable = rw (level_latest l ls) n;
  found = rw (level_latest l ls, passes (same l.id l.id) (same_self l.id));
}

-- so are all of them
pub named_at : (name : ProfileName) (q : Separators) (ls : List Level) → Named name q ls → (m : ℕ) → 1 ≤ m → m ≤ length ls → NamedAt name q ls m
named_at name q [] n m a b = absurd (omega arith)
named_at name q (l ∷ ls) n m a b = go (dec_lt m (suc (length ls))) (named_at name q ls n.2 m a)
  where
    go : Dec (m < suc (length ls)) → (m ≤ length ls → NamedAt name q ls m) → NamedAt name q (l ∷ ls) m
    go (yes h) f = named_earlier name q l ls m a (omega arith) n.1 (f (omega arith))
    go (no h) f =
        let e : m ≡ suc (length ls) = omega arith in
        subst (NamedAt name q (l ∷ ls)) (sym e) (named_latest name q l ls n.0)

-- the tests of an HL that keeps its rules
hl_levels : (name : ProfileName) (h : List View) (v : View) → Kept (profile_named name) h v → is_hl v ≡ true
    → Keeps (level_checks (level_profile name) (levels name h) (claim_of v))
unfolding hl_checks
hl_levels name h v k e = rw e at k.level

-- a mark 1 is admitted only of a code that may have it
mark_admitted : (mark : Bytes) (may : Bool) → T (eqb (length mark) 0 || same mark (bytes "0") || (same mark (bytes "1") && may))
    → T (same mark (bytes "1")) → T may
mark_admitted mark may h t =
    subst (λ (s : Bytes). T (eqb (length s) 0 || same s (bytes "0") || (same s (bytes "1") && may))) (same_equal mark (bytes "1") t) h

-- one segment more that keeps its rules leaves the levels named
named_more : (name : ProfileName) (q : Separators) (h : List View) (v : View) → Kept (profile_named name) h v → T (unseparated q (inspected v))
    → (b : Bool) → is_hl v ≡ b → Named name q (levels name h) → Named name q (levels name (v ∷ h))
named_more name q h v k u true e n =
    let p = keeps_passes (level_profile name) (levels name h) (claim_of v) (hl_levels name h v k e) in
    rw (levels_hl name h v e) (
      record {
        text = hl_text name q h v k u (eqb→eq (tag_in_of v) (tag "HL") (rw e tt));
        marked = mark_admitted (claim_of v).mark (may_be_marked (level_profile name) (code_of (level_profile name) (claim_of v).code)) p.mark;
      },
      p.new,
      n,
    )
named_more name q h v k u false e n = rw (levels_other name h v e) n

-- no separator stands where a view is looked into
abbrev pub bare : Separators → View → Bool
bare q v = unseparated q (inspected v)

-- the levels of segments that keep their rules are named
pub named_onto : (name : ProfileName) (q : Separators) (h vs : List View) → From (Kept (profile_named name)) h vs → T (every (bare q) vs)
    → Named name q (levels name h) → Named name q (levels name (onto h vs))
named_onto name q h [] f u n = n
named_onto name q h (v ∷ vs) f u n =
    named_onto name q (v ∷ h) vs f.1 (second_of (bare q v) (every (bare q) vs) u)
    (named_more name q h v f.0 (first_of (bare q v) (every (bare q) vs) u) (is_hl v) refl n)

-- level m has a child where it is marked 1
abbrev pub served : List Level → ℕ → Level → Bool
served all m l = not (same l.mark (bytes "1")) || any (λ (child : Level). eqb child.parent m) all

-- served levels are filled, from any one on
filled_from_lem : (all ls : List Level) → ((m : ℕ) → 1 ≤ m → m ≤ length ls → T (served all m (level_at m ls))) → T (filled_from all ls)
filled_from_lem all [] f = tt
filled_from_lem all (l ∷ ls) f =
    both (served all (suc (length ls)) l) (filled_from all ls)
    (rw (level_latest l ls) at (f (suc (length ls)) (omega arith) (omega arith)))
    (filled_from_lem all ls (λ m a b. rw (level_earlier m l ls b) at (f m a (omega arith))))

-- every mark 1 is filled if each level is served
pub served_filled : (ls : List Level) → ((m : ℕ) → 1 ≤ m → m ≤ length ls → T (served ls m (level_at m ls))) → T (filled ls)
unfolding filled
served_filled ls f = filled_from_lem ls ls f

-- Segments that can be put behind others: some that make no level, an HL and an SE, with the rules that they keep.
-- Assumes nothing.
use Prim.Native.Nat.{ℕ, zero, suc, ◌≤◌}
use Prim.Native.String.{String}
use mathlib.Core.Path.{◌≡◌, refl}
use mathlib.Core.Bool.{Bool, true, false, not, cond, ◌&&◌, ◌||◌}
use mathlib.Core.List.{List, [], ◌∷◌, ◌++◌, map}
use native.Mathlib.Omega.{arith}
use lib.Dec.{T, not_T, eqb, eqb→eq, leb, leb→le, le→leb}
use lib.ListN.{length}
use Rattle.text.specs.Bytes.{Bytes, bytes, between, every}
use Rattle.text.specs.Separators.{is_digit, is_capital, is_id_byte, is_separator, printable, Fitted}
use Rattle.text.specs.View.{View, empty, present, element_of, inspected}
use Rattle.text.specs.declared.separators.Separators.{Separators}
use Rattle.text.proofs.Bools.{both, first_of, second_of, or_right, or_cases}
use Rattle.text.proofs.Everys.{every_weaker, every_anywhere}
use Rattle.text.proofs.View.{unseparated, well_formed}
use Rattle.text.proofs.BinView.{inspected_every}
use Rattle.text.proofs.Serving.{serves_apart}
use Rattle.text.proofs.Writable.{well_counted, writes}
use Rattle.rows.specs.Tags.{tag, tag_number}
use Rattle.types.specs.Types.{is_id, is_number, fits}
use Rattle.rows.specs.declared.profile.ProfileName.{ProfileName}
use Rattle.rows.specs.declared.profile.ProfileName.TheVariants.{Report, Reply}
use Rattle.elements.specs.Data.{Rules, rules_hl, rules_se, element_profile}
use Rattle.elements.specs.Checks.{Check, each, Keeps}
use Rattle.elements.specs.Rules.{data_piece, data_checks, byte_checks, end_checks, too_many_checks, missing_checks, unfit_checks, note_checks, checks_by, ruled_checks, present_at}
use Rattle.types.specs.declared.kind.Kind.TheVariants.{AN, ID, N0}
use Rattle.elements.specs.declared.verdict.Reason.{Reason}
use Rattle.elements.specs.declared.verdict.Reason.TheVariants.{BadByte}
use Rattle.levels.specs.Profile.{level_profile}
use Rattle.levels.specs.Levels.{claim_of, Level}
use Rattle.levels.specs.Rules.{level_checks}
use Rattle.gate.specs.Profile.{profile_named}
use Rattle.gate.specs.Segments.{tag_in_of, is_hl, is_se, levels_in}
use Rattle.gate.specs.Rules.{hl_checks, closing_checks, se_checks, Kept}
use Rattle.gate.proofs.reading.Laws.{keeps_both}
use Rattle.gate.proofs.reading.ElementTexts.{unused_in}

-- the levels that segments make, by the profile of that name
abbrev pub levels : ProfileName → List View → List Level
levels name h = levels_in (profile_named name) h

-- a byte is no separator
abbrev pub no_separator : Separators → ℕ → Bool
no_separator q b = not (is_separator q b)

-- text of a length from least to most, of printable bytes that are no separators
pub record Text (q : Separators) (least most : ℕ) (s : Bytes) : Type 0 where
  pub printed : T (every printable s)
  pub free : T (every (no_separator q) s)
  pub long : least ≤ length s
  pub short : length s ≤ most

-- a segment of elements with one component each
abbrev pub line : String → List Bytes → View
line name texts = map (λ (s : Bytes). s ∷ []) (bytes name ∷ texts)

-- a narrower range lies within the printable bytes
range_printable : (lo hi b : ℕ) → 32 ≤ lo → hi ≤ 126 → T (between lo hi b) → T (printable b)
range_printable lo hi b l m h =
    let x = leb→le lo b (first_of (leb lo b) (leb b hi) h) in
    let y = leb→le b hi (second_of (leb lo b) (leb b hi) h) in
    both (leb 32 b) (leb b 126) (le→leb 32 b (omega arith)) (le→leb b 126 (omega arith))

-- capitals and digits are printable
id_byte_printable : (b : ℕ) → T (is_id_byte b) → T (printable b)
id_byte_printable b p =
    or_cases (is_capital b) (is_digit b)
    (range_printable 65 90 b (omega arith) (omega arith))
    (range_printable 48 57 b (omega arith) (omega arith))
    p

-- capitals and digits are no separators that are fit
id_byte_apart : (q : Separators) → Fitted q → (b : ℕ) → T (is_id_byte b) → T (no_separator q b)
id_byte_apart q fit b p =
    not_T (is_separator q b)
    (or_cases (eqb b q.element || eqb b q.component) (eqb b q.terminator)
    (or_cases (eqb b q.element) (eqb b q.component) (λ e. serves_apart b q.element p fit.element_serves (eqb→eq b q.element e))
    (λ e. serves_apart b q.component p fit.component_serves (eqb→eq b q.component e)))
    (λ e. serves_apart b q.terminator p fit.terminator_serves (eqb→eq b q.terminator e)))

-- text of capitals and digits
pub id_bytes_text : (q : Separators) → Fitted q → (least most : ℕ) (s : Bytes) → T (every is_id_byte s) → least ≤ length s → length s ≤ most
    → Text q least most s
id_bytes_text q fit least most s p l m = record {
  printed = every_weaker is_id_byte printable id_byte_printable s p;
  free = every_weaker is_id_byte (no_separator q) (id_byte_apart q fit) s p;
  long = l;
  short = m;
}

-- a test of each text is one of each component of the line
line_every : (f : Bytes → Bool) (texts : List Bytes) → T (every f texts) → T (every (every f) (map (λ (s : Bytes). s ∷ []) texts))
line_every f [] h = tt
line_every f (s ∷ texts) h =
    both (f s && true) (every (every f) (map (λ (s : Bytes). s ∷ []) texts)) (both (f s) true (first_of (f s) (every f texts) h) tt)
    (line_every f texts (second_of (f s) (every f texts) h))

-- a test at each element
each_by : (reason : Reason) (a n : ℕ) (test : ℕ → Bool) → ((k : ℕ) → T (test k)) → Keeps (each reason a n test)
each_by reason a zero test f = tt
each_by reason a (suc n) test f = (f a, each_by reason (suc a) n test f)

-- a line of printable texts keeps the rule of bytes
line_bytes : (name : String) (texts : List Bytes) → T (every (every printable) (bytes name ∷ texts)) → Keeps (byte_checks (line name texts))
unfolding byte_checks data_checks
line_bytes name texts h =
    let v = inspected (line name texts) in
    each_by BadByte 0 (length v) (λ (k : ℕ). data_piece (element_of v k))
    (every_anywhere data_piece v empty tt (inspected_every data_piece (line name texts) (line_every (every printable) (bytes name ∷ texts) h)))

-- an element of the line that is present ends with a byte
ends_present : (s : Bytes) (last : Bool) → 1 ≤ length s → T (cond (present (s ∷ [])) (leb 1 (length s)) last)
ends_present [] last h = absurd (omega arith)
ends_present (b ∷ s) last h = le→leb 1 (suc (length s)) (omega arith)

-- one that may be absent ends well where it is not the last
ends_inside : (s : Bytes) → T (cond (present (s ∷ [])) (leb 1 (length s)) true)
ends_inside [] = tt
ends_inside (b ∷ s) = le→leb 1 (suc (length s)) (omega arith)

-- text of one byte or more is present
text_present : (s : Bytes) → 1 ≤ length s → T (present (s ∷ []) && true)
text_present [] h = absurd (omega arith)
text_present (b ∷ s) h = tt

-- its length is in range
text_sized : (least most : ℕ) (s : Bytes) → least ≤ length s → length s ≤ most → T (between least most (length s))
text_sized least most s l m = both (leb least (length s)) (leb (length s) most) (le→leb least (length s) l) (le→leb (length s) most m)

-- text of that length fits
text_fits : (least most : ℕ) (s : Bytes) → least ≤ length s → length s ≤ most → T (fits AN least most s)
unfolding fits
text_fits least most s l m = both (between least most (length s)) true (text_sized least most s l m) tt

-- text that may be absent fits where it is present
text_fits_if : (most : ℕ) (s : Bytes) → length s ≤ most → T (not (present (s ∷ [])) || fits AN 1 most s)
text_fits_if most [] h = tt
text_fits_if most (b ∷ s) h = text_fits 1 most (b ∷ s) (omega arith) h

-- an HL without a mark
abbrev pub hl_view : Bytes → Bytes → Bytes → View
hl_view id parent code = line "HL" (id ∷ parent ∷ code ∷ [])

-- an SE
abbrev pub se_view : Bytes → Bytes → View
se_view count control = line "SE" (count ∷ control ∷ [])

-- the four rules of a ruled segment, together
ruled_kept : (rules : Rules) (unused : ℕ → Bool) (v : View) → Keeps (too_many_checks rules unused v) → Keeps (missing_checks rules v)
    → Keeps (unfit_checks rules v) → Keeps (note_checks rules.notes (present_at v)) → Keeps (checks_by rules unused v)
ruled_kept rules unused v a b c d =
    let many = too_many_checks rules unused v in
    let missing = missing_checks rules v in
    let unfit = unfit_checks rules v in
    keeps_both (many ++ missing ++ unfit) (note_checks rules.notes (present_at v)) (keeps_both (many ++ missing) unfit (keeps_both many missing a b) c) d

-- a test of three
all_three : {A : Type 0} (f : A → Bool) (x y z : A) → T (f x) → T (f y) → T (f z) → T (every f (x ∷ y ∷ z ∷ []))
all_three f x y z a b c = both (f x) (every f (y ∷ z ∷ [])) a (both (f y) (every f (z ∷ [])) b (both (f z) true c tt))

-- a test of two
all_two : {A : Type 0} (f : A → Bool) (x y : A) → T (f x) → T (f y) → T (every f (x ∷ y ∷ []))
all_two f x y a b = both (f x) (every f (y ∷ [])) a (both (f y) true b tt)

module _ (q : Separators) (fit : Fitted q) where
  -- a view that writes to bytes and is seen in them again
  line_writes : (v : View) → T (well_formed v) → T (unseparated q v) → T (well_counted v) → T (writes q v)
  line_writes v w u c =
      both (well_formed v && unseparated q (inspected v)) (well_counted v)
      (both (well_formed v) (unseparated q (inspected v)) w (inspected_every (every (every (no_separator q))) v u)) c

  -- a line holds no separator if its texts hold none
  line_free : (name : String) (texts : List Bytes) → T (every is_id_byte (bytes name)) → T (every (every (no_separator q)) texts)
      → T (unseparated q (line name texts))
  line_free name texts p h =
      line_every (every (no_separator q)) (bytes name ∷ texts)
      (both (every (no_separator q) (bytes name)) (every (every (no_separator q)) texts)
      (every_weaker is_id_byte (no_separator q) (id_byte_apart q fit) (bytes name) p) h)

  -- an HL with fit elements writes to bytes
  pub hl_writable : (id parent code : Bytes) → Text q 1 12 id → Text q 0 12 parent → Text q 1 2 code → T (writes q (hl_view id parent code))
  hl_writable id parent code a b c =
      line_writes (hl_view id parent code) tt
      (line_free "HL" (id ∷ parent ∷ code ∷ []) tt (all_three (every (no_separator q)) id parent code a.free b.free c.free)) tt

  -- and so does an SE
  pub se_writable : (count control : Bytes) → Text q 1 10 count → Text q 4 9 control → T (writes q (se_view count control))
  se_writable count control a b =
      line_writes (se_view count control) tt
      (line_free "SE" (count ∷ control ∷ []) tt (all_two (every (no_separator q)) count control a.free b.free)) tt

-- an HL has no element that must be absent: of a root that is so by either profile
abbrev pub FewOf : ProfileName → Bytes → Bytes → Bytes → Type 0
FewOf name id parent code = Keeps (too_many_checks rules_hl (unused_in name "HL") (hl_view id parent code))

pub root_few : (name : ProfileName) (id code : Bytes) → FewOf name id [] code
unfolding tag_number
root_few Report id code = (tt, (tt, (tt, tt)))
root_few Reply id code = (tt, (tt, (tt, tt)))

-- and of any by that of reports
pub report_few : (id parent code : Bytes) → FewOf Report id parent code
report_few id parent code = (tt, (tt, (tt, tt)))

-- of an SE none must be absent
se_few : (name : ProfileName) (count control : Bytes) → Keeps (too_many_checks rules_se (unused_in name "SE") (se_view count control))
unfolding tag_number
se_few Report count control = (tt, (tt, tt))
se_few Reply count control = (tt, (tt, tt))

module _ (name : ProfileName) (q : Separators) (h : List View) where
  -- an HL with fit elements keeps the rules that its levels keep
  pub hl_kept : (id parent code : Bytes) → Text q 1 12 id → Text q 0 12 parent → Text q 1 2 code → T (is_id code) → FewOf name id parent code
      → Keeps (level_checks (level_profile name) (levels name h) (claim_of (hl_view id parent code)))
      → Kept (profile_named name) h (hl_view id parent code)
  unfolding tag_in_of tag_number end_checks ruled_checks hl_checks se_checks fits
  hl_kept id parent code a b c i few k =
      let there : Keeps (missing_checks rules_hl (hl_view id parent code)) = (text_present id a.long, (tt, (text_present code c.long, (tt, tt)))) in
      let coded = both (between 1 2 (length code)) (is_id code) (text_sized 1 2 code c.long c.short) i in
      let fit : Keeps (unfit_checks rules_hl (hl_view id parent code)) =
      (text_fits_if 12 id a.short, (text_fits_if 12 parent b.short, (or_right (not (present (code ∷ []))) (fits ID 1 2 code) coded, (tt, tt)))) in
      record {
        bytes = line_bytes "HL" (id ∷ parent ∷ code ∷ []) (all_three (every printable) id parent code a.printed b.printed c.printed);
        ends = (tt, (ends_present id true a.long, (ends_inside parent, (ends_present code false c.long, tt))));
        elements = ruled_kept rules_hl (unused_in name "HL") (hl_view id parent code) few there fit tt;
        level = k;
        closing = tt;
      }

  -- an SE with fit elements keeps the rules that it closes the segments before it with
  pub se_kept : (count control : Bytes) → Text q 1 10 count → T (is_number count) → Text q 4 9 control
      → Keeps (closing_checks (profile_named name) h (se_view count control)) → Kept (profile_named name) h (se_view count control)
  unfolding tag_in_of tag_number end_checks ruled_checks hl_checks se_checks fits
  se_kept count control a n b k =
      let some : 1 ≤ length control = omega (arith, b.long) in
      let there : Keeps (missing_checks rules_se (se_view count control)) = (text_present count a.long, (text_present control some, tt)) in
      let counted = both (between 1 10 (length count)) (is_number count) (text_sized 1 10 count a.long a.short) n in
      let first = or_right (not (present (count ∷ []))) (fits N0 1 10 count) counted in
      let second = or_right (not (present (control ∷ []))) (fits AN 4 9 control) (text_fits 4 9 control b.long b.short) in
      let fit : Keeps (unfit_checks rules_se (se_view count control)) = (first, (second, tt)) in
      record {
        bytes = line_bytes "SE" (count ∷ control ∷ []) (all_two (every printable) count control a.printed b.printed);
        ends = (tt, (ends_present count true a.long, (ends_present control false some, tt)));
        elements = ruled_kept rules_se (unused_in name "SE") (se_view count control) (se_few name count control) there fit tt;
        level = tt;
        closing = k;
      }

-- the tag of an HL
pub hl_tag : (id parent code : Bytes) → tag_in_of (hl_view id parent code) ≡ tag "HL"
unfolding tag_in_of
hl_tag id parent code = refl

-- the tag of an SE
pub se_tag : (count control : Bytes) → tag_in_of (se_view count control) ≡ tag "SE"
unfolding tag_in_of
se_tag count control = refl

-- a segment that keeps its rules wherever it stands, makes no level and does not end the transaction
pub record Added (profile : ProfileName) (name : String) : Type 0 where
  pub texts : List Bytes
  pub tagged : tag_in_of (line name texts) ≡ tag name
  pub kept : (h : List View) → Kept (profile_named profile) h (line name texts)
  pub no_level : is_hl (line name texts) ≡ false
  pub written : (q : Separators) → Fitted q → T (writes q (line name texts))

-- tests that all compute to true are kept
keeps_all : (cs : List Check) → T (every (λ (c : Check). c.holds) cs) → Keeps cs
keeps_all [] h = tt
keeps_all (c ∷ cs) h =
    let rest = every (λ (c : Check). c.holds) cs in
    (first_of c.holds rest h, keeps_all cs (second_of c.holds rest h))

-- a segment whose tests compute
added : (profile : ProfileName) (name : String) (texts : List Bytes) → tag_in_of (line name texts) ≡ tag name → T (every (λ (c : Check). c.holds) (byte_checks (line name texts)))
    → T (every (λ (c : Check). c.holds) (end_checks (line name texts)))
    → T (every (λ (c : Check). c.holds) (ruled_checks (element_profile profile) (tag_in_of (line name texts)) (line name texts)))
    → is_hl (line name texts) ≡ false → is_se (line name texts) ≡ false → T (well_formed (line name texts))
    → T (well_counted (line name texts)) → T (every (every is_id_byte) (bytes name ∷ texts)) → Added profile name
unfolding hl_checks se_checks
added profile name texts t a b c i j w n p =
    let v = line name texts in
    record {
      texts = texts;
      tagged = t;
      kept = λ h. record {
        bytes = keeps_all (byte_checks v) a;
        ends = keeps_all (end_checks v) b;
        elements = keeps_all (ruled_checks (element_profile profile) (tag_in_of v) v) c;
        level = rw i tt;
        closing = rw j tt;
      };
      no_level = i;
      written = λ q fit.
          line_writes q fit v w
          (line_every (every (no_separator q)) (bytes name ∷ texts)
          (every_weaker (every is_id_byte) (every (no_separator q)) (λ s. every_weaker is_id_byte (no_separator q) (id_byte_apart q fit) s) (bytes name ∷ texts) p))
          n;
    }

-- ST*842*0001
pub added_st : (profile : ProfileName) → Added profile "ST"
unfolding tag_in_of tag_number inspected byte_checks data_checks end_checks ruled_checks fits
added_st Report = added Report "ST" (bytes "842" ∷ bytes "0001" ∷ []) refl tt tt tt refl refl tt tt tt
added_st Reply = added Reply "ST" (bytes "842" ∷ bytes "0001" ∷ []) refl tt tt tt refl refl tt tt tt

-- BNR*1
pub added_bnr : (profile : ProfileName) → Added profile "BNR"
unfolding tag_in_of tag_number inspected byte_checks data_checks end_checks ruled_checks fits
added_bnr profile = added profile "BNR" (bytes "1" ∷ []) refl tt tt tt refl refl tt tt tt

-- LQ*1
pub added_lq : (profile : ProfileName) → Added profile "LQ"
unfolding tag_in_of tag_number inspected byte_checks data_checks end_checks ruled_checks fits
added_lq profile = added profile "LQ" (bytes "1" ∷ []) refl tt tt tt refl refl tt tt tt

-- FA2*1
pub added_fa2 : (profile : ProfileName) → Added profile "FA2"
unfolding tag_in_of tag_number inspected byte_checks data_checks end_checks ruled_checks fits
added_fa2 profile = added profile "FA2" (bytes "1" ∷ []) refl tt tt tt refl refl tt tt tt

-- BIN*1*A
pub added_bin : (profile : ProfileName) → Added profile "BIN"
unfolding tag_in_of tag_number inspected byte_checks data_checks end_checks ruled_checks fits
added_bin profile = added profile "BIN" (bytes "1" ∷ bytes "A" ∷ []) refl tt tt tt refl refl tt tt tt

-- Condition 3: the segments before k can be continued to a transaction that meets every rule. What is pending comes first, then an HL without
-- a parent, then a child for each level marked 1, filled already or not, and then the SE.
-- Assumes nothing.
use Prim.Native.Nat.{ℕ, zero, suc, ◌+◌, ◌≤◌, ◌<◌}
use Prim.Native.String.{String}
use mathlib.Core.Path.{◌≡◌, refl, sym, ap, subst, ◌∙◌}
use mathlib.Core.Logic.{◌≢◌, ◌⊎◌, inl, inr}
use mathlib.Core.Bool.{Bool, true, false, not, ◌||◌}
use mathlib.Core.List.{List, [], ◌∷◌, ◌++◌, map, append_assoc, nil≢cons, head-eq_of_cons-eq, tail-eq_of_cons-eq}
use native.Mathlib.Omega.{arith}
use borrow.Author.Tests.{ne_eqb}
use lib.Dec.{T, eqb, eqb→eq, eqb_refl, ltb, lt→ltb, lit<}
use lib.ListN.{length}
use Rattle.text.specs.Bytes.{Bytes, bytes, every, any, same}
use Rattle.text.specs.View.{View, element_of}
use Rattle.text.specs.declared.separators.Separators.{Separators}
use Rattle.text.proofs.Bools.{both, first_of, or_left, or_right, apart}
use Rattle.text.proofs.Sames.{same_self}
use Rattle.text.proofs.Everys.{every_append}
use Rattle.text.proofs.Lists.{map-append}
use Rattle.text.proofs.Writable.{writes, writes_writable}
use Rattle.text.specs.Separators.{Fitted}
use Rattle.rows.specs.Tags.{tag, tag_number}
use Rattle.rows.specs.Rows.{Word, Viable, list842}
use Rattle.rows.specs.RowList.{tag_of}
use Rattle.rows.proofs.NextRows.{next_of}
use Rattle.rows.specs.Following.{Fits, last_of}
use Rattle.rows.proofs.FittingRow.{fits_tag}
use Rattle.rows.specs.RowSets.{rows_of, Within}
use Rattle.rows.specs.declared.profile.ProfileName.{ProfileName}
use Rattle.rows.proofs.Viability.{last_snoc, viable_iff, viable_nil, viable_word}
use Rattle.rows.proofs.Continuable.{hl_next, Continuable, profiles_continuable, next_goes_on, st_small, hl_small, st_first, hl_after_hl, se_after_hl, max_st, max_hl, max_se}
use Rattle.rows.proofs.Continuable.{within_more, st_admitted, hl_admitted, se_admitted}
use Rattle.types.specs.Types.{is_id}
use Rattle.elements.specs.Checks.{Keeps}
use Rattle.levels.specs.Profile.{level_profile}
use Rattle.levels.specs.Levels.{text_of, claim_of, Level, called, level_at}
use Rattle.levels.specs.Rules.{level_checks, filled}
use Rattle.gate.specs.Profile.{profile_named}
use Rattle.gate.specs.Segments.{tag_in_of, is_se, onto, opening}
use Rattle.gate.specs.Rules.{Kept, From}
use Rattle.gate.proofs.reading.Laws.{from_append, MeetsFrom, opening_onto, onto_length}
use Rattle.gate.proofs.continuing.FreshNames.{numeral}
use Rattle.gate.proofs.continuing.AddedSegments.{levels, Text, line, id_bytes_text, FewOf, root_few, hl_view, se_view, hl_writable, se_writable, hl_kept, se_kept}
use Rattle.gate.proofs.continuing.AddedSegments.{hl_tag, se_tag, Added, added_st}
use Rattle.gate.proofs.continuing.LevelNames.{bare, st_text, levels_hl, levels_other, Named, named_none, named_at, named_onto, served, served_filled}
use Rattle.gate.proofs.reading.RowOfSE.{tag_79}
use Rattle.gate.proofs.continuing.PendingRows.{tag_st, Pending, pending}
use Rattle.gate.proofs.continuing.AddedLevels.{levels_few, digits_text, newcomer, child_code, root_checks_lem, child_checks_lem, ServedAbove, above_served}
use Rattle.gate.proofs.continuing.AddedLevels.{above_more, hl_is, new_level}

-- what comes after the segments h with the rows w so that every rule is met
pub record Ending (name : ProfileName) (q : Separators) (h : List View) (w : List ℕ) : Type 0 where
  pub more : List View
  pub rows : List ℕ
  pub word : Word list842 (w ++ rows)
  pub admitted : Within (rows_of name) rows
  pub tags : map tag_of rows ≡ map tag_in_of more
  pub kept : From (Kept (profile_named name)) h more
  pub written : T (every (writes q) more)
  pub tagged : T (every (λ (v : View). ltb (tag_in_of v) 34) more)
  pub some : 0 < length more

-- one segment more before an ending
ending_before : (name : ProfileName) (q : Separators) (h : List View) (w : List ℕ) (v : View) (r : ℕ) → Kept (profile_named name) h v
    → Fits w (tag_in_of v) r → T (rows_of name r) → T (writes q v) → Ending name q (v ∷ h) (w ++ (r ∷ [])) → Ending name q h w
ending_before name q h w v r k f a u e = record {
  more = v ∷ e.more;
  rows = r ∷ e.rows;
  word = rw append_assoc at e.word;
  admitted = both (rows_of name r) (every (rows_of name) e.rows) a e.admitted;
  tags = rw (f.tagged, e.tags);
  kept = (k, e.kept);
  written = both (writes q v) (every (writes q) e.more) u e.written;
  tagged =
      both (ltb (tag_in_of v) 34) (every (λ (v : View). ltb (tag_in_of v) 34) e.more) (lt→ltb (tag_in_of v) 34 (fits_tag w (tag_in_of v) r f)) e.tagged;
  some = omega arith;
}

-- what holds of segments h with the rows w that are to be continued
record Stands (name : ProfileName) (q : Separators) (h : List View) (w : List ℕ) : Type 0 where
  viable : Viable list842 w
  admitted : Within (rows_of name) w
  some : 0 < length h
  control : Text q 4 9 (text_of (element_of (opening h) 2))
  named : Named name q (levels name h)

-- one segment more leaves the first the first
opening_before : (v : View) (h : List View) → 0 < length h → opening (v ∷ h) ≡ opening h
opening_before v [] l = absurd (omega arith)
opening_before v (u ∷ h) l = refl

-- it holds with one segment more
stands_more : (name : ProfileName) (q : Separators) (h : List View) (w : List ℕ) (v : View) (r : ℕ) → Stands name q h w → Fits w (tag_in_of v) r
    → T (rows_of name r) → Named name q (levels name (v ∷ h)) → Stands name q (v ∷ h) (w ++ (r ∷ []))
stands_more name q h w v r s f a n = record {
  viable = f.viable;
  admitted = within_more (rows_of name) w r s.admitted a;
  some = omega arith;
  control = rw (opening_before v h s.some) s.control;
  named = n;
}

module _ (name : ProfileName) (q : Separators) (fit : Fitted q) where
  -- ST, HL and SE are rows of the profile
  abbrev continues : Continuable (rows_of name)
  continues = profiles_continuable name

  -- the SE ends the transaction, where every mark 1 is filled
  se_ends : (h : List View) (w : List ℕ) → Stands name q h w → last_of 0 w ≡ 18 → T (filled (levels name h)) → suc (length h) < 10000000000 → Ending name q h w
  unfolding tag_number
  se_ends h w s last full small =
      let n = numeral 10 (suc (length h)) small in
      let control = text_of (element_of (opening h) 2) in
      let v = se_view n.text control in
      let count = digits_text q fit 1 10 10 n.text n.digits n.long (omega arith) (omega arith) in
      let f : Fits w (tag "SE") 79 =
      next_goes_on w (tag "SE") 79 s.viable (lit< tt) (rw last se_after_hl) (λ z. omega arith) (λ z. omega (arith, max_se, z)) in
      let k = se_kept name q h n.text control count n.digits s.control (rw n.worth (eqb_refl (suc (length h))), (same_self control, (full, tt))) in
      record {
        more = v ∷ [];
        rows = 79 ∷ [];
        admitted = both (rows_of name 79) true (se_admitted (rows_of name) continues) tt;
        word = viable_word (w ++ (79 ∷ [])) f.viable (last_snoc w 0 79);
        tags = rw (f.tagged, se_tag n.text control);
        kept = (k, tt);
        written = both (writes q v) true (se_writable q fit n.text control count s.control) tt;
        tagged = rw (se_tag n.text control) tt;
        some = omega arith;
      }

  -- an HL before an ending, where an HL may come
  hl_before : (h : List View) (w : List ℕ) (id parent code : Bytes) → Stands name q h w → next_of (last_of 0 w) (tag "HL") ≡ 18
      → Text q 1 12 id → Text q 0 12 parent → Text q 1 2 code → T (is_id code) → FewOf name id parent code → called id (levels name h) ≡ 0
      → Keeps (level_checks (level_profile name) (levels name h) (claim_of (hl_view id parent code)))
      → (Stands name q (hl_view id parent code ∷ h) (w ++ (18 ∷ [])) → Ending name q (hl_view id parent code ∷ h) (w ++ (18 ∷ []))) → Ending name q h w
  hl_before h w id parent code s next a b c i few new k rest =
      let v = hl_view id parent code in
      let f : Fits w (tag_in_of v) 18 =
      next_goes_on w (tag_in_of v) 18 s.viable (rw (hl_tag id parent code) hl_small) (rw (hl_tag id parent code) next) (λ z. omega arith)
      (λ z. omega (arith, max_hl, z)) in
      let n : Named name q (levels name (v ∷ h)) =
      rw (levels_hl name h v (hl_is id parent code)) (record { text = a; marked = λ t. absurd t }, new, s.named) in
      ending_before name q h w v 18 (hl_kept name q h id parent code a b c i few k) f (hl_admitted (rows_of name) continues)
      (hl_writable q fit id parent code a b c) (rest (stands_more name q h w v 18 s f (hl_admitted (rows_of name) continues) n))

  -- segments that end with an HL, of whose levels those above n are served, have an ending; each level may add a segment, and 9,000,000 is
  -- far above what is asked
  abbrev EndsUpTo : ℕ → Type 0
  EndsUpTo n = (h : List View) (w : List ℕ) → Stands name q h w → last_of 0 w ≡ 18 → n ≤ length (levels name h)
      → ServedAbove n (levels name h) → length h + n ≤ 9000000 → Ending name q h w

  -- after a child of level n + 1 that level is served too
  after_child : (n : ℕ) → EndsUpTo n → (h : List View) (w : List ℕ) (id parent code : Bytes) → 1 ≤ length parent
      → called parent (levels name h) ≡ suc n → suc n ≤ length (levels name h)
      → ServedAbove (suc n) (levels name h) → length h + suc n ≤ 9000000
      → Stands name q (hl_view id parent code ∷ h) (w ++ (18 ∷ [])) → Ending name q (hl_view id parent code ∷ h) (w ++ (18 ∷ []))
  after_child n ends h w id parent code some found l above small s =
      let ls = levels name h in
      let new = new_level name h id parent code in
      let e : levels name (hl_view id parent code ∷ h) ≡ new ∷ ls = levels_hl name h (hl_view id parent code) (hl_is id parent code) in
      let mine : T (eqb new.parent (suc n)) = rw (ne_eqb (length parent) 0 (λ z. omega arith), found) (eqb_refl (suc n)) in
      let child = any (λ (child : Level). eqb child.parent (suc n)) ls in
      let t : T (served (new ∷ ls) (suc n) (level_at (suc n) (new ∷ ls))) =
      or_right (not (same (level_at (suc n) (new ∷ ls)).mark (bytes "1"))) (eqb new.parent (suc n) || child) (or_left (eqb new.parent (suc n)) child mine) in
      ends (hl_view id parent code ∷ h) (w ++ (18 ∷ [])) s (last_snoc w 0 18) (rw e (omega arith))
      (subst (ServedAbove n) (sym e) (above_served n (new ∷ ls) t (above_more (suc n) new ls refl above)))
      (omega arith)

  -- level n + 1, marked 1, gets a child
  child_ends : (n : ℕ) → EndsUpTo n → (h : List View) (w : List ℕ) → Stands name q h w → last_of 0 w ≡ 18 → suc n ≤ length (levels name h)
      → ServedAbove (suc n) (levels name h) → length h + suc n ≤ 9000000
      → T (same (level_at (suc n) (levels name h)).mark (bytes "1")) → Ending name q h w
  child_ends n ends h w s last l above small marked =
      let ls = levels name h in
      let x = named_at name q ls s.named (suc n) (omega arith) l in
      let parent = (level_at (suc n) ls).id in
      let p = x.nameable.text in
      let new = newcomer q fit ls (omega (arith, levels_few name h)) in
      let c = child_code q fit name (level_at (suc n) ls).code (x.nameable.marked marked) in
      let b : Text q 0 12 parent = record { printed = p.printed; free = p.free; long = omega arith; short = p.short } in
      hl_before h w new.name parent c.text s (rw last hl_after_hl) new.text b c.sized c.spelled (c.few new.name parent) new.new
      (child_checks_lem name ls (suc n) new.name parent c.text (omega arith) new.new x.found p.long c.known c.hangs marked)
      (after_child n ends h w new.name parent c.text p.long x.found l above small)

  -- level n + 1 gets a child if it is marked 1
  level_ends : (n : ℕ) → EndsUpTo n → EndsUpTo (suc n)
  level_ends n ends h w s last l above small = go (same (level_at (suc n) (levels name h)).mark (bytes "1")) refl
    where
      go : (b : Bool) → same (level_at (suc n) (levels name h)).mark (bytes "1") ≡ b → Ending name q h w
      go true e = child_ends n ends h w s last l above small (rw e tt)
      go false e = ends h w s last (omega arith) (above_served n (levels name h) (rw e tt) above) (omega arith)

  -- every level marked 1 gets a child, and then the SE comes
  levels_end : (n : ℕ) → EndsUpTo n
  levels_end zero h w s last l above small = se_ends h w s last (served_filled (levels name h) above) (omega arith)
  levels_end (suc n) h w s last l above small = level_ends n (levels_end n) h w s last l above small

  -- where an HL may come, an RP without a parent comes, and then the children
  root_ends : (h : List View) (w : List ℕ) → Stands name q h w → next_of (last_of 0 w) (tag "HL") ≡ 18 → length h ≤ 4000000 → Ending name q h w
  root_ends h w s next small =
      let ls = levels name h in
      let new = newcomer q fit ls (omega (arith, levels_few name h)) in
      let v = hl_view new.name [] (bytes "RP") in
      let none : Text q 0 12 [] = record { printed = tt; free = tt; long = omega arith; short = omega arith } in
      hl_before h w new.name [] (bytes "RP") s next new.text none (id_bytes_text q fit 1 2 (bytes "RP") tt (omega arith) (omega arith)) tt (root_few name new.name (bytes "RP")) new.new
      (root_checks_lem name ls new.name new.new)
      (λ t. levels_end (length (levels name (v ∷ h))) (v ∷ h) (w ++ (18 ∷ [])) t (last_snoc w 0 18) (omega arith)
      (λ m a b. absurd (omega arith))
      (omega (arith, levels_few name (v ∷ h))))

  -- such a segment before an ending
  added_before : (h : List View) (w : List ℕ) (text : String) (p : Added name text) (x : ℕ) → Fits w (tag text) x → T (rows_of name x)
      → Ending name q (line text p.texts ∷ h) (w ++ (x ∷ [])) → Ending name q h w
  added_before h w text p x f a e = ending_before name q h w (line text p.texts) x (p.kept h) (rw p.tagged f) a (p.written q fit) e

  -- after every row but SE what is pending comes first
  pending_ends : (h : List View) (r : ℕ) (rows : List ℕ) → Stands name q h (r ∷ rows) → last_of r rows ≢ 79 → length h ≤ 3000000
      → Ending name q h (r ∷ rows)
  pending_ends h r rows s b small = go (pending name r rows s.viable s.admitted b)
    where
      w : List ℕ
      w = r ∷ rows

      go : T (hl_next (last_of 0 w)) ⊎ Pending name (last_of 0 w) → Ending name q h w
      go (inl t) = root_ends h w s (eqb→eq (next_of (last_of 0 w) (tag "HL")) 18 t) (omega arith)
      go (inr p) =
          let x = next_of (last_of 0 w) (tag p.text) in
          let v = line p.text p.segment.texts in
          let f : Fits w (tag p.text) x = next_goes_on w (tag p.text) x s.viable p.small refl p.between.some p.between.few in
          let g : Fits w (tag_in_of v) x = rw p.segment.tagged f in
          let in-profile = p.between.admitted in
          added_before h w p.text p.segment x f in-profile
          (root_ends (v ∷ h) (w ++ (x ∷ [])) (stands_more name q h w v x s g in-profile (rw (levels_other name h v p.segment.no_level) s.named))
          (rw (last_snoc w 0 x) p.between.onward) (omega arith))

  -- before the first segment an ST comes
  start_ends : Ending name q [] []
  start_ends =
      let v = line "ST" (added_st name).texts in
      let f : Fits [] (tag "ST") 1 = next_goes_on [] (tag "ST") 1 viable_nil st_small st_first (λ z. omega arith) (λ z. omega (arith, max_st, z)) in
      let free = (writes_writable q v ((added_st name).written q fit)).bare in
      let s : Stands name q (v ∷ []) (1 ∷ []) = record {
        viable = f.viable;
        admitted = within_more (rows_of name) [] 1 tt (st_admitted (rows_of name) continues);
        some = omega arith;
        control = st_text name q [] v ((added_st name).kept []) free (added_st name).tagged;
        named = rw (levels_other name [] v (added_st name).no_level) (named_none name q);
      } in
      added_before [] [] "ST" (added_st name) 1 f (st_admitted (rows_of name) continues) (pending_ends (v ∷ []) 1 [] s (λ z. omega arith) (omega arith))

-- the last row is not 79 where no segment is an SE
last_not_se : (w : List ℕ) (h vs : List View) (r : ℕ) → map tag_of w ≡ map tag_in_of vs → From (λ h v. T (not (is_se v))) h vs → r ≢ 79
    → last_of r w ≢ 79
last_not_se [] h vs r e f n = n
last_not_se (x ∷ w) h [] r e f n = absurd (nil≢cons (sym e))
last_not_se (x ∷ w) h (v ∷ vs) r e f n =
    last_not_se w (v ∷ h) vs x (tail-eq_of_cons-eq e) f.1
    (λ z. apart (tag_in_of v) (tag "SE") f.0 (sym (head-eq_of_cons-eq e) ∙ ap tag_of z ∙ tag_79))

-- segments that keep their rules, without an SE, have an ending
module _ (name : ProfileName) (q : Separators) (fit : Fitted q) where
  ends_onto : (vs : List View) (w : List ℕ) → Viable list842 w → Within (rows_of name) w → map tag_of w ≡ map tag_in_of vs
      → From (Kept (profile_named name)) [] vs → From (λ h v. T (not (is_se v))) [] vs → T (every (bare q) vs) → length vs ≤ 1048576
      → Ending name q (onto [] vs) w
  ends_onto [] [] v a e k o u few = start_ends name q fit
  ends_onto [] (r ∷ w) v a e k o u few = absurd (nil≢cons (sym e))
  ends_onto (x ∷ vs) [] v a e k o u few = absurd (nil≢cons e)
  ends_onto (x ∷ vs) (r ∷ w) v a e k o u few =
      let first : tag_in_of x ≡ tag "ST" = sym (head-eq_of_cons-eq e) ∙ ap tag_of ((viable_iff r w).0 v).0 ∙ tag_st in
      let s : Stands name q (onto [] (x ∷ vs)) (r ∷ w) = record {
        viable = v;
        admitted = a;
        some = omega (arith, onto_length (x ∷ []) vs);
        control = rw (opening_onto x [] vs) (st_text name q [] x k.0 (first_of (bare q x) (every (bare q) vs) u) first);
        named = named_onto name q [] (x ∷ vs) k u (named_none name q);
      } in
      pending_ends name q fit (onto [] (x ∷ vs)) r w s
      (last_not_se (r ∷ w) [] (x ∷ vs) 0 e o (λ z. omega arith)) (omega (arith, onto_length (x ∷ []) vs))

-- what segments are continued with to a transaction that meets every rule: views that write to bytes, each with one of the 34 tags
pub record Continued (name : ProfileName) (q : Separators) (vs : List View) (w : List ℕ) : Type 0 where
  pub more : List View
  pub rows : List ℕ
  pub meets : MeetsFrom (profile_named name) (vs ++ more) (w ++ rows)
  pub writable : T (every (writes q) more)
  pub tagged : T (every (λ (v : View). ltb (tag_in_of v) 34) more)
  pub some : 0 < length more

-- Condition 3: segments that keep their rules, of which none is an SE, can be continued to a transaction that meets every rule
pub continued : (name : ProfileName) (q : Separators) → Fitted q → (vs : List View) (w : List ℕ) → Viable list842 w → Within (rows_of name) w
    → map tag_of w ≡ map tag_in_of vs → From (Kept (profile_named name)) [] vs → From (λ h v. T (not (is_se v))) [] vs → T (every (bare q) vs)
    → length vs ≤ 1048576 → Continued name q vs w
continued name q fit vs w v a e k o u few =
    let i = ends_onto name q fit vs w v a e k o u few in
    record {
      more = i.more;
      rows = i.rows;
      meets = record {
        word = i.word;
        admitted = every_append (rows_of name) w i.rows a i.admitted;
        tags = rw (map-append tag_of w i.rows, map-append tag_in_of vs i.more, e, i.tags);
        kept = from_append (Kept (profile_named name)) [] vs i.more k i.kept;
      };
      writable = i.written;
      tagged = i.tagged;
      some = i.some;
    }

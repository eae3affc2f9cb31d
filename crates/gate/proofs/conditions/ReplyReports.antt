-- A reply without a response is a report too: where no level has the code RB, what the profile of replies accepts the profile of reports accepts, with the
-- same answer and the same tables.
-- Assumes nothing.
use Prim.Native.Nat.{ℕ, zero, suc}
use mathlib.Core.Path.{◌≡◌, refl, sym, ◌∙◌}
use mathlib.Core.Bool.{Bool, true, false, not, cond, ◌&&◌, ◌||◌}
use mathlib.Core.List.{List, [], ◌∷◌, ◌++◌}
use native.Mathlib.Omega.{arith}
use borrow.Author.Tests.{ne_eqb}
use lib.Dec.{T, T_not, eqb}
use Rattle.text.specs.Bytes.{Bytes, bytes, every, same}
use Rattle.text.specs.View.{View, element_of, element_count}
use Rattle.text.specs.Cut.{Placed}
use Rattle.text.specs.declared.lines.LineEnds.{LineEnds}
use Rattle.text.specs.declared.separators.Separators.{Separators}
use Rattle.text.proofs.Bools.{both, first_of, second_of, or_left, or_cases}
use Rattle.text.proofs.Everys.{every_weaker}
use Rattle.rows.specs.RowSets.{rows_of, Within}
use Rattle.rows.specs.declared.profile.ProfileName.TheVariants.{Report, Reply}
use Rattle.elements.specs.Data.{Rules, ruled_segments, element_profile}
use Rattle.elements.specs.Checks.{each, Keeps}
use Rattle.elements.specs.Rules.{few_by, is_unused, absent_if, too_many_checks, missing_checks, unfit_checks, note_checks, present_at, checks_by, checks_among, ruled_checks}
use Rattle.elements.specs.declared.verdict.Reason.{Reason}
use Rattle.elements.specs.declared.verdict.Reason.TheVariants.{TooMany}
use Rattle.levels.specs.Profile.{six_codes, code_among, nonconformance, storage_reply, if_known, code_of, may_stand_alone, may_be_marked, may_hang}
use Rattle.levels.specs.Levels.{Claim, claim_of, Level}
use Rattle.levels.specs.Rules.{absent, mark_fits, level_checks}
use Rattle.levels.proofs.LevelTests.{Passes, keeps_passes, passes_keeps}
use Rattle.gate.specs.Profile.{profile_named}
use Rattle.gate.specs.Segments.{tag_in_of, is_hl, seen, onto, levels_in}
use Rattle.gate.specs.Answers.{Answer, accepted}
use Rattle.gate.specs.Rules.{hl_checks, se_checks, Kept, From}
use Rattle.gate.specs.Records.{Tables}
use Rattle.gate.specs.Reads.{Reads}
use Rattle.gate.specs.Conditions.{Numbering, HasRoom}
use Rattle.gate.proofs.reading.Laws.{keeps_split, keeps_both}
use Rattle.gate.proofs.reading.Moved.{reading, records_same}
use Rattle.gate.proofs.whole.AllRules.{meets_from, from_meets}
use Rattle.gate.proofs.continuing.AddedSegments.{levels}
use Rattle.gate.proofs.continuing.LevelNames.{levels_hl, levels_other}
use Rattle.gate.proofs.conditions.Conditions.{accepted_proper, accepted_numbered, numbering_once, meets_accepted}

-- the code of a reply's level that is no RB is known to the profile of reports, by the same number, and asks for no parent there
record Agrees (n : ℕ) : Type 0 where
  equal : if_known nonconformance n ≡ if_known storage_reply n
  known : if_known nonconformance n ≡ 0 → ⊥
  alone : T (may_stand_alone nonconformance (if_known nonconformance n))

agrees : (n : ℕ) → (if_known storage_reply n ≡ 0 → ⊥) → (n ≡ 6 → ⊥) → Agrees n
unfolding may_stand_alone
agrees zero k r = absurd (k refl)
agrees (suc zero) k r = record { equal = refl; known = λ e. omega arith; alone = tt }
agrees (suc (suc zero)) k r = record { equal = refl; known = λ e. omega arith; alone = tt }
agrees (suc (suc (suc zero))) k r = absurd (k refl)
agrees (suc (suc (suc (suc zero)))) k r = absurd (k refl)
agrees (suc (suc (suc (suc (suc zero))))) k r = absurd (k refl)
agrees (suc (suc (suc (suc (suc (suc zero)))))) k r = absurd (r refl)
agrees (suc (suc (suc (suc (suc (suc (suc n))))))) k r =
    let m = suc (suc (suc (suc (suc (suc (suc n)))))) in
    absurd (k (rw (ne_eqb m 2 (λ e. omega arith), ne_eqb m 6 (λ e. omega arith), ne_eqb m 1 (λ e. omega arith))))

-- 6 is the number of RB alone
code_6 : (text : Bytes) → code_among six_codes text ≡ 6 → T (same (bytes "RB") text)
code_6 text = by (same (bytes "RP") text) (same (bytes "I") text) (same (bytes "F") text) (same (bytes "PC") text) (same (bytes "SN") text) (same (bytes "RB") text)
  where
    by : (a b c d e f : Bool) → ◌≡◌ {A = ℕ} (cond a 1 (cond b 2 (cond c 3 (cond d 4 (cond e 5 (cond f 6 0)))))) 6 → T f
    by true b c d e f q = absurd (omega arith)
    by false true c d e f q = absurd (omega arith)
    by false false true d e f q = absurd (omega arith)
    by false false false true e f q = absurd (omega arith)
    by false false false false true f q = absurd (omega arith)
    by false false false false false true q = tt
    by false false false false false false q = absurd (omega arith)

-- a level of that code
abbrev has_response : View → Bool
has_response v = is_hl v && same (bytes "RB") (claim_of v).code

-- no level of these segments is a response
abbrev pub NoResponse : List View → Type 0
NoResponse vs = T (every (λ (v : View). not (has_response v)) vs)

-- every row of a reply is one of a report
rows_wider : (w : List ℕ) → Within (rows_of Reply) w → Within (rows_of Report) w
rows_wider w a = every_weaker (rows_of Reply) (rows_of Report) (λ x m. tt) w a

-- the tests of elements that may all be present ask for less
each_weaker : (reason : Reason) (a n : ℕ) (f g : ℕ → Bool) → ((k : ℕ) → T (f k) → T (g k)) → Keeps (each reason a n f) → Keeps (each reason a n g)
each_weaker reason a zero f g h k = tt
each_weaker reason a (suc n) f g h k = (h a k.0, each_weaker reason (suc a) n f g h k.1)

by_weaker : (rules : Rules) (unused : ℕ → Bool) (v : View) → Keeps (checks_by rules unused v) → Keeps (checks_by rules (λ k. false) v)
by_weaker rules unused v k =
    let missing = missing_checks rules v in
    let unfit = unfit_checks rules v in
    let notes = note_checks rules.notes (present_at v) in
    let many = too_many_checks rules unused v in
    let fewer = too_many_checks rules (λ k. false) v in
    let a = keeps_split (many ++ missing ++ unfit) notes k in
    let b = keeps_split (many ++ missing) unfit a.0 in
    let c = keeps_split many missing b.0 in
    let few =
    each_weaker TooMany 1 (element_count v) (λ (k : ℕ). few_by rules k (element_of v k) && absent_if (unused k) (element_of v k))
    (λ (k : ℕ). few_by rules k (element_of v k) && true)
    (λ k t. both (few_by rules k (element_of v k)) true (first_of (few_by rules k (element_of v k)) (absent_if (unused k) (element_of v k)) t) tt) c.0 in
    keeps_both (fewer ++ missing ++ unfit) notes (keeps_both (fewer ++ missing) unfit (keeps_both fewer missing few c.1) b.1) a.1

among_weaker : (xs : List (ℕ × Rules)) (unused : ℕ → Bool) (t : ℕ) (v : View) → Keeps (checks_among xs unused t v)
    → Keeps (checks_among xs (λ k. false) t v)
among_weaker [] unused t v k = tt
among_weaker (x ∷ xs) unused t v k = by (eqb x.0 t) (among_weaker xs unused t v) k
  where
    by : (b : Bool) → (Keeps (checks_among xs unused t v) → Keeps (checks_among xs (λ k. false) t v))
        → Keeps (cond b (checks_by x.1 unused v) (checks_among xs unused t v))
        → Keeps (cond b (checks_by x.1 (λ k. false) v) (checks_among xs (λ k. false) t v))
    by true later k = by_weaker x.1 unused v k
    by false later k = later k

elements_wider : (t : ℕ) (v : View) → Keeps (ruled_checks (element_profile Reply) t v) → Keeps (ruled_checks (element_profile Report) t v)
unfolding ruled_checks
elements_wider t v k = among_weaker ruled_segments (is_unused (element_profile Reply) t) t v k

-- a mark that fits in a reply, `1` being none, fits in a report
mark_wider : (c : ℕ) (mark : Bytes) → T (mark_fits storage_reply c mark) → T (mark_fits nonconformance c mark)
unfolding may_be_marked
mark_wider c mark =
    let none = absent mark in
    let zero-mark = same mark (bytes "0") in
    let one = same mark (bytes "1") in
    or_cases (none || zero-mark) (one && false) (or_left (none || zero-mark) (one && may_be_marked nonconformance c))
    (λ t. absurd (second_of one false t))

-- what an HL keeps after the same levels
module _ (ls : List Level) (c : Claim) (plain : T (same (bytes "RB") c.code) → ⊥) where
  code_agrees : Passes storage_reply ls c → Agrees (code_among six_codes c.code)
  unfolding code_of
  code_agrees p = agrees (code_among six_codes c.code) (λ e. omega (arith, e, p.known)) (λ e. plain (code_6 c.code e))

  level_wider : Keeps (level_checks storage_reply ls c) → Keeps (level_checks nonconformance ls c)
  unfolding code_of may_hang
  level_wider k =
      let p = keeps_passes storage_reply ls c k in
      let a = code_agrees p in
      passes_keeps nonconformance ls c (record {
        new = p.new;
        known = omega (arith, a.known);
        alone = λ t. a.alone;
        named = p.named;
        pair = λ n. absurd (p.pair n);
        unshut = p.unshut;
        mark = mark_wider (code_of nonconformance c.code) c.mark (rw a.equal p.mark);
      })

-- one segment that keeps the rules of a reply, after segments whose levels are the same by both profiles
module _ (h : List View) (v : View) (alike : levels Reply h ≡ levels Report h) (k : Kept (profile_named Reply) h v) (plain : T (not (has_response v))) where
  no_response : is_hl v ≡ true → T (same (bytes "RB") (claim_of v).code) → ⊥
  no_response e t = T_not (has_response v) plain (rw e t)

  -- keeps those of a report
  kept_wider : Kept (profile_named Report) h v
  unfolding hl_checks se_checks
  kept_wider = record {
    bytes = k.bytes;
    ends = k.ends;
    elements = elements_wider (tag_in_of v) v k.elements;
    level = by (is_hl v) refl k.level;
    closing = rw alike at k.closing;
  }
    where
      by : (b : Bool) → is_hl v ≡ b → Keeps (cond b (level_checks storage_reply (levels Reply h) (claim_of v)) [])
          → Keeps (cond b (level_checks nonconformance (levels Report h) (claim_of v)) [])
      by true e x = level_wider (levels Report h) (claim_of v) (no_response e) (rw alike at x)
      by false e x = tt

  -- and makes the same level
  levels_alike : levels Reply (v ∷ h) ≡ levels Report (v ∷ h)
  unfolding hl_checks code_of
  levels_alike = by (is_hl v) refl k.level
    where
      by : (b : Bool) → is_hl v ≡ b → Keeps (cond b (level_checks storage_reply (levels Reply h) (claim_of v)) []) → levels Reply (v ∷ h) ≡ levels Report (v ∷ h)
      by true e x =
          let p = keeps_passes storage_reply (levels Reply h) (claim_of v) x in
          let code = (code_agrees (levels Reply h) (claim_of v) (no_response e) p).equal in
          rw (levels_hl Reply h v e, levels_hl Report h v e, alike, code)
      by false e x = rw (levels_other Reply h v e, levels_other Report h v e) alike

-- so it is of all of them
all_kept : (h vs : List View) → levels Reply h ≡ levels Report h → From (Kept (profile_named Reply)) h vs → NoResponse vs
    → From (Kept (profile_named Report)) h vs × (levels Reply (onto h vs) ≡ levels Report (onto h vs))
all_kept h [] e f n = (tt, e)
all_kept h (v ∷ vs) e f n =
    let rest = every (λ (v : View). not (has_response v)) vs in
    let plain = first_of (not (has_response v)) rest n in
    let i = all_kept (v ∷ h) vs (levels_alike h v e f.0 plain) f.1 (second_of (not (has_response v)) rest n) in
    ((kept_wider h v e f.0 plain, i.0), i.1)

none_alike : levels Reply [] ≡ levels Report []
unfolding levels_in
none_alike = refl

module _ (q : Separators) (lines : LineEnds) (s : Bytes) (gs : List Placed) (rows : List ℕ) (n : Numbering (reading Reply q lines) s gs rows)
    (plain : NoResponse (seen (reading Reply q lines) gs)) where
  abbrev vs : List View
  vs = seen (reading Reply q lines) gs

  whole : From (Kept (profile_named Report)) [] vs × (levels Reply (onto [] vs) ≡ levels Report (onto [] vs))
  whole = all_kept [] vs none_alike (meets_from (profile_named Reply) vs rows n.meets).kept plain

  -- the numbering of a reply without a response is one of a report
  pub numbering_wider : Numbering (reading Report q lines) s gs rows
  numbering_wider = record {
    end = n.end;
    rest = n.rest;
    leads = n.leads;
    meets = from_meets (profile_named Report) vs rows (record {
      word = n.meets.word.word;
      admitted = rows_wider rows n.meets.word.admitted;
      tags = n.meets.tags;
      kept = whole.0;
    });
  }

  -- and where the one is accepted the other is, with the same answer and the same tables
  pub reply_is_report : (before : Tables) (a l b : ℕ) (after : Tables) → Reads (reading Reply q lines) s before (accepted a l b) after
      → (r : Answer) (shown : Tables) → Reads (reading Report q lines) s before r shown → (r ≡ accepted a l b) × (shown ≡ after)
  reply_is_report before a l b after x r shown y =
      let how = reading Reply q lines in
      let p = accepted_proper how s before a l b after x in
      let m = accepted_numbered how s before a l b after x in
      let o = numbering_once how s m.gs gs m.rows rows m.numbering n in
      let room : HasRoom how before gs = rw o.0 at m.room in
      let wider : HasRoom (reading Report q lines) before gs = record { segments_fit = room.segments_fit; levels_fit = rw (← whole.1) room.levels_fit } in
      let first = meets_accepted how s before gs rows p.fit p.short n room (accepted a l b) after x in
      let second = meets_accepted (reading Report q lines) s before gs rows p.fit p.short numbering_wider wider r shown y in (
        second.answer ∙ rw (← whole.1) (sym first.answer),
        second.tables ∙ rw (records_same Report Reply q lines lines [] gs rows, ← whole.1) (sym first.tables),
      )

-- The next segment judged by its layout, after what the reader stands at: each way that `judge` goes says what the rules say.
-- Assumes nothing.
use Prim.Native.Nat.{ℕ, suc, ◌+◌, ◌-◌, ◌*◌, ◌≤◌, ◌<◌}
use mathlib.Core.Path.{◌≡◌, refl, sym, ap, subst, ◌∙◌}
use mathlib.Core.Bool.{Bool, true, false, not, ◌&&◌, cond}
use mathlib.Core.List.{List, [], ◌∷◌, ◌++◌}
use native.Mathlib.Omega.{arith}
use Rattle.std.specs.Prelude.{Ok, Err, Option, Some, None, unwrap_or}
use native.Mathlib.Nat.{add-sub_cancel_left}
use lib.Dec.{T, eqb, eqb→eq, leb, leb→le, ltb}
use lib.ListN.{length, take, get_or, length-append, length-drop}
use lib.Seq.{take-append_seam}
use Rattle.text.specs.Bytes.{Bytes, between, value_of}
use Rattle.text.specs.Pieces.{pieces}
use Rattle.text.specs.internal.Search.{Free}
use Rattle.text.proofs.Pieces.{clean_at, pieces_clean}
use Rattle.text.specs.Bin.{is_bin}
use Rattle.text.specs.View.{View, plain_view, view_of, elements_of, element_of}
use Rattle.text.specs.Lookup.{element_span}
use Rattle.text.specs.Cut.{Placed}
use Rattle.text.proofs.Bools.{equal_eqb, first_of, passes, fails, not_passes}
use Rattle.text.proofs.BinView.{view_plain, elements_plain}
use Rattle.text.specs.Separators.{Fitted}
use Rattle.text.specs.declared.separators.Separators.{Separators}
use Rattle.rows.specs.Tags.{tag, tag_number}
use Rattle.rows.specs.NextTable.{NextTable}
use Rattle.rows.specs.Following.{Fits, OneFits}
use Rattle.numbering.specs.RowAfter.{row_meant, entry_at, is_third, row_after_in, RowAfter}
use Rattle.rows.specs.Rows.{Viable, list842}
use Rattle.rows.specs.RowList.{tag_of, row_at}
use Rattle.rows.proofs.Viability.{viable_iff}
use Rattle.types.specs.Types.{number_of}
use Rattle.elements.specs.Data.{element_profile}
use Rattle.elements.specs.Checks.{Check, Keeps, Verdict, Holds, broken, first_broken}
use Rattle.elements.specs.declared.verdict.Fault.{Fault}
use Rattle.elements.specs.Rules.{end_checks, ruled_checks}
use Rattle.elements.specs.internal.Layouts.{layout_view, element_in}
use Rattle.elements.specs.internal.Verdicts.{rules_of}
use Rattle.elements.proofs.FirstBroken.{keeps_holds}
use Rattle.ruling.proofs.OwnView.{LaidOut, ruled_own, text_own}
use Rattle.levels.specs.Levels.{Claim, claim_of, text_of}
use Rattle.finding.proofs.HeldLevels.{told_filled}
use Rattle.levels.specs.Rules.{level_checks, filled}
use Rattle.rows.specs.declared.profile.ProfileName.{ProfileName}
use Rattle.gate.specs.Profile.{Profile, profile_of}
use Rattle.gate.specs.Segments.{tag_in_of, is_hl, is_se, seen, onto, levels_in}
use Rattle.gate.specs.Rules.{Admitted, closing_checks, rules, FirstBroken}
use Rattle.gate.specs.Records.{Tables}
use Rattle.reading.specs.internal.Standing.{Standing}
use Rattle.reading.specs.internal.Cutting.{CutAs, segment_of}
use Rattle.reading.specs.internal.Judgements.{Judged, claim_in, closing_in, broken_by, by_level_of, by_closing, late_judgement, NamesFree, JudgesLate, Judges}
use Rattle.gate.specs.declared.how.How.{How}
use Rattle.levels.specs.internal.Answers.{judged}
use Rattle.finding.specs.internal.Entries.{count_in}
use Rattle.finding.specs.internal.Lists.{place_of}
use Rattle.finding.specs.internal.Notes.{asks_of}
use Rattle.finding.specs.internal.Answers.{none_owes}
use Rattle.reading.specs.declared.judging.Judgement.TheVariants.{Other}
use Rattle.elements.specs.declared.layout.Layout.{Layout}
use Rattle.reading.specs.declared.judging.State.{State}
use Rattle.reading.proofs.reader.PlainSegments.{plain_holds, plain_late}
use Rattle.reading.proofs.reader.RuleOrder.{unknown_tag, bad_end, no_row, not_in_profile, bad_element, bad_level, bad_closing, no_level, no_closing, its_level, its_closing, all_kept}
use Rattle.gate.proofs.reading.ElementTexts.{bin_tag, other_tag, hl_no_bin, se_no_bin, tag_of_view, hl_claim, se_count, se_control}
use Rattle.reading.proofs.cut.BinCuts.{bin_ends}
use Rattle.reading.proofs.reader.OpeningControl.{control_of_first, counted_number}
use Rattle.reading.proofs.reader.Standings.{history_long}
use Rattle.elements.specs.declared.verdict.Reason.{Reason}
use Rattle.elements.specs.declared.verdict.Reason.TheVariants.{UnknownTag, NoRow, ForeignRow}

module _ {q : Separators} {s : Bytes} {starts : List ℕ} {layout : Layout} {g more : Bytes} (nt : CutAs q s starts layout g more) where
  -- the elements start where they are said to
  started : (k : ℕ) → k ≤ layout.count → k ≤ 32 → get_or starts k 0 ≡ layout.at + (element_span q.element g k).start
  unfolding element_span
  started k l h = nt.laid.begins k h l

  -- the layout is right, as the element rules take it
  right : LaidOut q s g starts layout
  right = record {
    here = ap (take (length g)) nt.laid.whole ∙ take-append_seam g (q.terminator ∷ more);
    ends = nt.laid.place;
    inside = omega (arith, nt.laid.place, length-drop layout.at s, ap length nt.laid.whole ∙ length-append g (q.terminator ∷ more));
    counted = omega (arith, nt.laid.elements);
    started = λ k l h. started k l h;
    singly = λ e. nt.laid.single (rw e tt);
  }

  -- the segment is the one that the layout names
  segment_is : segment_of s layout ≡ g
  segment_is =
      let e : layout.end - layout.at ≡ length g = ap (λ (x : ℕ). x - layout.at) nt.laid.place ∙ add-sub_cancel_left layout.at (length g) in
      rw e right.here

  -- its elements
  text_is : (k : ℕ) → k ≤ 31 → element_in s starts layout k ≡ get_or (elements_of q.element g) k []
  text_is k h = text_own right k h

  -- which are its pieces where it is no BIN
  piece_is : is_bin q.element g ≡ false → (k : ℕ) → k ≤ 31
      → element_in s starts layout k ≡ get_or (pieces q.element g) k []
  piece_is n k h = text_is k h ∙ ap (λ (ps : List Bytes). get_or ps k []) (elements_plain q.element g n)

  tag_is : Fitted q → tag_number (element_in s starts layout 0) ≡ tag_in_of (view_of q g)
  tag_is fit = ap tag_number (text_is 0 (omega arith)) ∙ sym (tag_of_view q fit g)

-- a BIN is a plain segment
plain_bin : (name : ProfileName) (v : View) → first_broken (ruled_checks (element_profile name) (tag "BIN") v) ≡ Holds
unfolding ruled_checks tag_number
plain_bin name v = refl

-- an SE's row comes behind another row
row_1 : tag_of 1 ≡ tag "SE" → ⊥
unfolding tag_of row_at list842 tag_number
row_1 e = omega (arith, e)

late_row : (rows : List ℕ) (x : ℕ) → Viable list842 (rows ++ (x ∷ [])) → tag_of x ≡ tag "SE" → 0 < length rows
late_row [] x v e = absurd (row_1 (sym (ap tag_of ((viable_iff x []).0 v).0) ∙ e))
late_row (r ∷ rows) x v e = omega arith

-- a next row is no 0
abbrev NoZero : Option ℕ → Type 0
NoZero None = Unit {0}
NoZero (Some x) = x ≡ 0 → ⊥

no_zero_of : (b : Bool) (r r' : Option ℕ) → NoZero r → NoZero r' → NoZero (cond b r r')
no_zero_of true r r' h h' = h
no_zero_of false r r' h h' = h'

no_zero_meant : (e : ℕ) → NoZero (row_meant e)
no_zero_meant e = by (between 1 127 e) refl
  where
    by : (b : Bool) → between 1 127 e ≡ b → NoZero (cond b (Some e) None)
    by true p = λ z. omega (arith, z, leb→le 1 e (first_of (leb 1 e) (leb e 127) (rw p tt)))
    by false p = tt

no_zero_after : (table : List ℕ) (r : ℕ) (again : Bool) (t : ℕ) → NoZero (row_after_in table r again t)
unfolding row_after_in
no_zero_after table r again t =
    no_zero_of (eqb r 0) _ _ (no_zero_of (eqb t (tag "ST")) _ _ (λ z. omega (arith, z)) tt)
    (no_zero_of (leb r 79 && ltb t 34) _ _ (no_zero_of (is_third r again (entry_at table r t)) _ _ tt (no_zero_meant (get_or table ((r - 1) * 34 + t) 0))) tt)

-- the verdict of tests as what they say
pub verdict_cases : {C : Type 0} (d : Verdict) → (d ≡ Holds → C) → ((n : Reason) (e : ℕ) → d ≡ broken n e → C) → C
verdict_cases Holds f g = f refl
verdict_cases (Err fault) f g = g fault.reason fault.element refl

-- 4
pub tag_refused : (q : Separators) (s : Bytes) (starts : List ℕ) (layout : Layout) (g more : Bytes) (profile : Profile) (rows : List ℕ) (h : List View)
    → CutAs q s starts layout g more → Fitted q → 34 ≤ tag_number (element_in s starts layout 0)
    → FirstBroken (rules profile rows h (view_of q g)) UnknownTag 0
tag_refused q s starts layout g more profile rows h nt fit l =
    unknown_tag profile rows h (view_of q g) nt.laid.data_only (rw (← tag_is nt fit) l)

pub judges_tag : (how : How) {s : Bytes} {starts : List ℕ} {layout : Layout} {g more : Bytes} (rows : List ℕ) (h : List View) (t : ℕ) → 34 ≤ t
    → t ≡ tag_number (element_in s starts layout 0) → Fitted how.separators → CutAs how.separators s starts layout g more
    → Judges (profile_of how) rows h (view_of how.separators g) (Err (record { reason = UnknownTag; element = 0 }))
judges_tag how {s = s} {starts = starts} {layout = layout} {g = g} {more = more} rows h t l found fit nt =
    tag_refused how.separators s starts layout g more (profile_of how) rows h nt fit (rw (← found) l)

module _ {how : How} {before : Tables} {s : Bytes} {segments levels lasts : List ℕ} {at : ℕ} {state : State} {gs : List Placed} {rows : List ℕ}
    {starts : List ℕ} {layout : Layout} {g more : Bytes} (fit : Fitted how.separators) (nt : CutAs how.separators s starts layout g more)
    (st : Standing how before s segments levels lasts at state gs rows) (t : ℕ)
    (tag-found : t ≡ tag_number (element_in s starts layout 0)) where
  abbrev v : View
  v = view_of how.separators g

  abbrev h : List View
  h = onto [] (seen how gs)

  tag_known : t ≡ tag_in_of v
  tag_known = tag-found ∙ tag_is nt fit

  -- no separator stands in the names of an HL
  names_free : t ≡ tag "HL" → NamesFree s how.separators.element starts layout
  names_free e =
      let n = other_tag how.separators g (λ z. hl_no_bin (sym (sym tag_known ∙ e) ∙ z)) in
      let free : (k : ℕ) → k ≤ 31 → Free how.separators.element (element_in s starts layout k) = λ k h.
      rw (piece_is nt n k h) (clean_at how.separators.element (pieces how.separators.element g) k (pieces_clean how.separators.element g)) in
      (free 1 (omega arith), free 2 (omega arith))

  module _ (small : t < 34) where
    known_tag : tag_in_of v < 34
    known_tag = rw (← tag_known) small

    -- 6
    -- a BIN ends well
    no_bin : T (not layout.ended) → is_bin how.separators.element g ≡ false
    no_bin open-end =
        fails (is_bin how.separators.element g)
        (λ t. nt.laid.unkept open-end (bin_ends how.separators g (passes (is_bin how.separators.element g) t)))

    pub judges_end : T (not layout.ended) → (j : Fault) → j ≡ broken_by (first_broken (end_checks (plain_view how.separators (segment_of s layout)))) → Judges (profile_of how) rows h v (Err j)
    judges_end open-end j is =
        rw (is, segment_is nt, ← view_plain how.separators g (no_bin open-end))
        (verdict_cases (first_broken (end_checks v))
        (λ e. absurd (nt.laid.unkept open-end ((keeps_holds (end_checks v)).0 e)))
        (λ n k e. rw e (bad_end (profile_of how) rows h v nt.laid.data_only known_tag n k e)))

    module _ (ended : T layout.ended) {table : List ℕ} (kept : NextTable table) where
      ends : Keeps (end_checks v)
      ends = nt.laid.kept ended

      one_fits : (r : Option ℕ) → RowAfter table state.row state.again t r → OneFits rows (tag_in_of v) (unwrap_or r 0)
      one_fits r after = rw tag_known at (after.meaning kept rows st.passed.viable st.row_is st.again_is)

      -- 7
      pub judges_row : RowAfter table state.row state.again t None → Judges (profile_of how) rows h v (Err (record { reason = NoRow; element = 0 }))
      judges_row after =
          no_row (profile_of how) rows h v nt.laid.data_only known_tag ends (λ r f. ((one_fits None after).alone r f).1 refl)

      module _ (x : ℕ) (after : RowAfter table state.row state.again t (Some x)) where
        some_row : x ≡ 0 → ⊥
        some_row = subst NoZero (sym after.answer) (no_zero_after table state.row state.again t)

        fits : Fits rows (tag_in_of v) x
        fits = (one_fits (Some x) after).fits some_row

        -- 24
        pub judges_outside : (Admitted (profile_of how) x → ⊥) → Judges (profile_of how) rows h v (Err (record { reason = ForeignRow; element = 0 }))
        judges_outside outside =
            not_in_profile (profile_of how) rows h v nt.laid.data_only known_tag ends x fits
            (λ r f a. outside (rw ((one_fits (Some x) after).alone r f).0 at a))

        module _ (inside : Admitted (profile_of how) x) where
          ruled_is : first_broken (ruled_checks (profile_of how).elements t (layout_view s starts layout how.separators.component))
              ≡ first_broken (ruled_checks (profile_of how).elements (tag_in_of v) v)
          ruled_is = by (is_bin how.separators.element g) refl
            where
              by : (b : Bool) → is_bin how.separators.element g ≡ b
                  → first_broken (ruled_checks (profile_of how).elements t (layout_view s starts layout how.separators.component))
                  ≡ first_broken (ruled_checks (profile_of how).elements (tag_in_of v) v)
              by true b =
                  let e = tag_known ∙ bin_tag how.separators g b in
                  rw (← tag_known, e) (plain_bin how.profile (layout_view s starts layout how.separators.component) ∙ sym (plain_bin how.profile v))
              by false b = ruled_own (right nt) b how.profile t ∙ ap (λ (k : ℕ). first_broken (ruled_checks (profile_of how).elements k v)) tag_known

          -- 9, 8, 10, 11
          pub judges_element : (d : Verdict)
              → d ≡ first_broken (ruled_checks (profile_of how).elements t (layout_view s starts layout how.separators.component))
              → (fault : Fault) → d ≡ Err fault → Judges (profile_of how) rows h v (Err fault)
          judges_element d is fault q =
              bad_element (profile_of how) rows h v nt.laid.data_only known_tag ends x fits inside fault.reason fault.element (sym ruled_is ∙ sym is ∙ q)

          module _ (elements : Keeps (ruled_checks (profile_of how).elements (tag_in_of v) v)) where
            -- 12, 13, 14, 15 of an HL
            its_claim : tag_in_of v ≡ tag "HL" → claim_in s starts layout ≡ claim_of v
            its_claim e =
                let n = other_tag how.separators g (λ z. hl_no_bin (sym e ∙ z)) in
                let a = piece_is nt n 1 (omega arith) in
                let b = piece_is nt n 2 (omega arith) in
                let c = piece_is nt n 3 (omega arith) in
                let d = piece_is nt n 4 (omega arith) in
                (λ i. record { id = a i; parent = b i; code = c i; mark = d i }) ∙ sym (hl_claim how.profile how.separators g elements e)

            hl_no_se : T (is_hl v) → T (not (is_se v))
            unfolding tag_number
            hl_no_se hl = rw (eqb→eq (tag_in_of v) (tag "HL") hl) tt

            by_level : T (is_hl v) → Judges (profile_of how) rows h v (by_level_of x (asks_of (claim_of v).mark) (place_of (claim_of v).id) (judged (profile_of how).levels (levels_in (profile_of how) h) (claim_of v)))
            unfolding judged
            by_level hl =
                let checks = level_checks (profile_of how).levels (levels_in (profile_of how) h) (claim_of v) in
                verdict_cases (first_broken checks)
                (λ q.
                let level = its_level (profile_of how) rows h v nt.laid.data_only known_tag ends x fits inside elements hl ((keeps_holds checks).0 q) in
                let closing = no_closing (profile_of how) rows h v nt.laid.data_only known_tag ends x fits inside elements (hl_no_se hl) in
                rw q (
                  record { kept = all_kept (profile_of how) rows h v nt.laid.data_only known_tag ends x fits inside elements level closing; fits = fits; admitted = inside },
                  passes (is_hl v) hl,
                  hl_no_se hl,
                  refl,
                  refl,
                  refl,
                ))
                (λ n k q. rw q (bad_level (profile_of how) rows h v nt.laid.data_only known_tag ends x fits inside elements hl n k q))

            -- 16 and 15 of an SE
            se_no_hl : T (is_se v) → T (not (is_hl v))
            unfolding tag_number
            se_no_hl se = rw (eqb→eq (tag_in_of v) (tag "SE") se) tt

            by_closing_lem : T (is_se v) → Judges (profile_of how) rows h v (by_closing x (first_broken (closing_checks (profile_of how) h v)))
            by_closing_lem se =
                let checks = closing_checks (profile_of how) h v in
                verdict_cases (first_broken checks)
                (λ q.
                let level = no_level (profile_of how) rows h v nt.laid.data_only known_tag ends x fits inside elements (se_no_hl se) in
                let closing = its_closing (profile_of how) rows h v nt.laid.data_only known_tag ends x fits inside elements se ((keeps_holds checks).0 q) in
                rw q (
                  record { kept = all_kept (profile_of how) rows h v nt.laid.data_only known_tag ends x fits inside elements level closing; fits = fits; admitted = inside },
                  not_passes (is_hl v) (se_no_hl se),
                  se,
                ))
                (λ n k q. rw q (bad_closing (profile_of how) rows h v nt.laid.data_only known_tag ends x fits inside elements (se_no_hl se) se n k q))

            -- an SE is not the first segment
            some_before : tag_in_of v ≡ tag "SE" → 0 < state.count
            some_before e = omega (arith, st.count_is, st.rows_are, late_row rows x fits.viable (fits.tagged ∙ e))

            its_closing_tests : tag_in_of v ≡ tag "SE"
                → closing_in s how.separators.element starts layout segments levels state ≡ closing_checks (profile_of how) h v
            its_closing_tests e =
                let n = other_tag how.separators g (λ z. se_no_bin (sym e ∙ z)) in
                let total : number_of (element_in s starts layout 1) ≡ value_of (text_of (element_of v 1)) =
                ap number_of (piece_is nt n 1 (omega arith) ∙ sym (se_count how.profile how.separators g elements e)) ∙ counted_number how.profile how.separators g elements e in
                let control : element_in s starts layout 2 ≡ text_of (element_of v 2) =
                piece_is nt n 2 (omega arith) ∙ sym (se_control how.profile how.separators g elements e) in
                let first = control_of_first how before s segments levels lasts at state gs rows (some_before e) st in
                let long : suc state.count ≡ suc (length h) = omega (arith, history_long how gs, st.count_is) in
                let owed : none_owes levels (count_in levels state.levels) ≡ filled (levels_in (profile_of how) h) =
                let all : count_in levels state.levels ≡ length (levels_in (profile_of how) h) = omega (arith, st.holds.room, st.counted) in
                ap (none_owes levels) all ∙ told_filled st.holds in
                rw (total, control, first, long, owed) refl

            -- what the layout and tables say of an HL and of an SE
            abbrev hl_says : Judged
            hl_says = by_level_of x (asks_of (element_in s starts layout 4)) (place_of (element_in s starts layout 1)) (judged (profile_of how).levels (levels_in (profile_of how) h) (claim_in s starts layout))

            abbrev se_says : Judged
            se_says = by_closing x (first_broken (closing_in s how.separators.element starts layout segments levels state))

            -- what the late rules say
            judges_late : Judges (profile_of how) rows h v (late_judgement how s starts layout state segments levels (levels_in (profile_of how) h) t x)
            judges_late = by (eqb t (tag "HL")) (eqb t (tag "SE")) refl refl
              where
                by : (a b : Bool) → eqb t (tag "HL") ≡ a → eqb t (tag "SE") ≡ b → Judges (profile_of how) rows h v (cond a hl_says (cond b se_says (Ok (Other x))))
                by true b p q =
                    let e : tag_in_of v ≡ tag "HL" = sym tag_known ∙ eqb→eq t (tag "HL") (rw p tt) in
                    subst (λ (c : Claim). Judges (profile_of how) rows h v (by_level_of x (asks_of c.mark) (place_of c.id) (judged (profile_of how).levels (levels_in (profile_of how) h) c)))
                    (sym (its_claim e)) (by_level (equal_eqb (tag_in_of v) (tag "HL") e))
                by false true p q =
                    let e : tag_in_of v ≡ tag "SE" = sym tag_known ∙ eqb→eq t (tag "SE") (rw q tt) in
                    subst (λ (cs : List Check). Judges (profile_of how) rows h v (by_closing x (first_broken cs))) (sym (its_closing_tests e)) (by_closing_lem (equal_eqb (tag_in_of v) (tag "SE") e))
                by false false p q =
                    let hl : T (not (is_hl v)) = rw (← tag_known, p) tt in
                    let se : T (not (is_se v)) = rw (← tag_known, q) tt in
                    let level = no_level (profile_of how) rows h v nt.laid.data_only known_tag ends x fits inside elements hl in
                    let closing = no_closing (profile_of how) rows h v nt.laid.data_only known_tag ends x fits inside elements se in (
                      record { kept = all_kept (profile_of how) rows h v nt.laid.data_only known_tag ends x fits inside elements level closing; fits = fits; admitted = inside },
                      not_passes (is_hl v) hl,
                      se,
                    )

          -- 12 to 16, where those hold
          pub judges_rest : (d : Verdict)
              → d ≡ first_broken (ruled_checks (profile_of how).elements t (layout_view s starts layout how.separators.component))
              → d ≡ Holds → (j : Judged) → JudgesLate how s starts layout state segments levels lasts t x j
              → Judges (profile_of how) rows h v j
          judges_rest d is q j says =
              let elements = (keeps_holds (ruled_checks (profile_of how).elements (tag_in_of v) v)).0 (sym ruled_is ∙ sym is ∙ q) in
              subst (λ (j : Judged). Judges (profile_of how) rows h v j) (sym (says state.count (levels_in (profile_of how) h) st.holds names_free)) (judges_late elements)

          -- none of these is asked of a plain segment
          pub judges_plain : length (rules_of t).elements ≡ 0 → Judges (profile_of how) rows h v (Ok (Other x))
          judges_plain plain =
              judges_rest Holds (plain_holds t plain how.profile (layout_view s starts layout how.separators.component)) refl (Ok (Other x))
              (plain_late t plain how s starts layout state segments levels lasts x)

-- A reading that computes, over the cut and with as many steps as it is given: for the worked cases, and to show that every input has an
-- answer. Nobody has to believe it: what it gives is proved to be what the promise allows.
-- Assumes nothing.
use Prim.Native.Nat.{ℕ, zero, suc, ◌+◌, ◌<◌}
use mathlib.Core.Path.{◌≡◌, refl, ap, subst, ◌∙◌}
use mathlib.Core.Logic.{◌⊎◌, inl, inr}
use mathlib.Core.Bool.{Bool, true, false, not, ◌&&◌}
use mathlib.Core.List.{List, [], ◌∷◌, ◌++◌, append_assoc, append-nil}
use native.Mathlib.Omega.{arith}
use lib.Dec.{T, leb, ltb→lt, leb→le, le→leb}
use lib.ListN.{length, drop, length-append, length-drop}
use Rattle.text.specs.Bytes.{Bytes}
use Rattle.text.specs.View.{View, view_of}
use Rattle.text.specs.Cut.{Cut, Whole, Stop, Placed}
use Rattle.text.proofs.Bools.{both, first_of, second_of}
use Rattle.text.proofs.Lists.{map-append}
use Rattle.text.proofs.DocumentCut.{Splits, cut_splits}
use Rattle.rows.specs.Rows.{Viable, list842}
use Rattle.rows.specs.Following.{Fits, OneFits, last_of, twice}
use Rattle.rows.proofs.Viability.{viable_nil}
use Rattle.rows.proofs.RowStep.{step_of, step_fits}
use Rattle.elements.specs.Checks.{Check, Keeps}
use Rattle.elements.specs.Rules.{byte_checks, end_checks}
use Rattle.elements.specs.Reasons.{number_of}
use Rattle.elements.specs.declared.verdict.Reason.{Reason}
use Rattle.elements.specs.declared.verdict.Reason.TheVariants.{Unended, NoRow, NoRoom, ForeignRow}
use Rattle.elements.proofs.Reasons.{reason_of}
use Rattle.gate.specs.Profile.{Profile}
use Rattle.gate.specs.Segments.{tag_in_of, is_se, seen, onto, levels_in}
use Rattle.gate.specs.Answers.{Answer, accepted, refused}
use Rattle.gate.specs.Rules.{tag_checks, Rule, as_rules, Admitted, row_rules, early, late, rules, Sound, FirstBroken}
use Rattle.gate.specs.Records.{Tables, Room, segment_room_of, level_room_of}
use Rattle.gate.specs.Reads.{cut_by, skip_by, Passed, Run}
use Rattle.gate.specs.declared.how.How.{How}
use Rattle.gate.proofs.reading.Laws.{EachHolds, holds_sound, keeps_split, onto_append}
use Rattle.gate.proofs.reading.Passing.{numbers, numbers_more}
use Rattle.gate.proofs.reading.Once.{Fails}
use Rattle.gate.proofs.conditions.Accepting.{led_snoc}

-- what the rules say of a segment: the row that fits, or the first that is broken
pub data Says : Type 0 where
  Fine : ℕ → Says
  Bad : Reason → ℕ → Says

-- tests in order, and what is said where all hold
abbrev pub tested : List Check → Says → Says
tested [] d = d
tested (c ∷ cs) d = elim c.holds [ true ↦ tested cs d | false ↦ Bad c.reason c.element ]

abbrev pub by_row_of : Profile → ℕ → Says → Says
by_row_of profile zero d = Bad NoRow 0
by_row_of profile (suc r) d = elim (profile.rows (suc r)) [ true ↦ d | false ↦ Bad ForeignRow 0 ]

unfoldable pub says : Profile → List ℕ → List View → View → Says
says profile w h v =
    let x = step_of (last_of 0 w) (twice 0 false w) (tag_in_of v) in
    tested (early v) (by_row_of profile x (tested (late profile h v) (Fine x)))

-- an answer, the segments with records, their rows
abbrev pub Out : Type 0
Out = Answer × List Placed × List ℕ

-- room for so many segments and levels is room for these
abbrev pub has_room_of : Profile → ℕ → ℕ → List View → Bool
has_room_of profile segments levels h = leb (length h) segments && leb (length (levels_in profile h)) levels

abbrev pub row_said : Says → ℕ
row_said (Bad n e) = 0
row_said (Fine r) = r

module _ (profile : Profile) (how : How) (segments levels : ℕ) where
  abbrev pub refuse : List Placed → List ℕ → ℕ → Reason → ℕ → Out
  refuse gs w end n e = (refused n (length gs + 1) end e, gs, w)

  abbrev pub accept : List Placed → List ℕ → ℕ → Out
  accept gs w used = (accepted (length gs) (length (levels_in profile (onto [] (seen how gs)))) used, gs, w)

  -- the answer at the segment g, or what goes on
  abbrev pub choose : List Placed → List ℕ → ℕ → Bytes → Says → Bool → Bool → Out → Out
  choose gs w end g (Bad n e) room last on = refuse gs w end n e
  choose gs w end g (Fine r) false last on = refuse gs w end NoRoom 0
  choose gs w end g (Fine r) true true on = accept (gs ++ (record { at = end; segment = g } ∷ [])) (w ++ (r ∷ [])) (end + length g + 1)
  choose gs w end g (Fine r) true false on = on

  -- the answer at a cut, where `on` goes on behind a segment
  abbrev pub at_cut : (List Placed → List ℕ → List View → ℕ → Bytes → Out) → List Placed → List ℕ → List View → ℕ → Cut → Out
  at_cut on gs w h end (Stop n e upto more) = refuse gs w end (reason_of n) e
  at_cut on gs w h end (Whole g more) =
      let v = view_of how.separators g in
      let d = says profile w h v in
      let o =
      on (gs ++ (record { at = end; segment = g } ∷ [])) (w ++ (row_said d ∷ [])) (v ∷ h) (end + length g + 1 + skip_by how more)
      (drop (skip_by how more) more) in
      choose gs w end g d (has_room_of profile segments levels (v ∷ h)) (is_se v) o

  -- from the rest on, at most `fuel` segments
  abbrev pub run : ℕ → List Placed → List ℕ → List View → ℕ → Bytes → Out
  run zero gs w h end rest = refuse gs w end Unended 0
  run (suc fuel) gs w h end rest = at_cut (run fuel) gs w h end (cut_by how rest)

-- the reading of bytes: each segment takes a byte at least
unfoldable pub compute : Profile → How → ℕ → ℕ → Bytes → Out
compute profile how segments levels s = run profile how segments levels (suc (length s)) [] [] [] 0 s

-- What the rules say is right
module _ (profile : Profile) (w : List ℕ) (v : View) where
  abbrev Right : List Rule → Says → Type 0
  Right rs (Bad n e) = FirstBroken rs n e
  Right rs (Fine x) = EachHolds rs × Fits w (tag_in_of v) x

  right_more : (r : Rule) (rs : List Rule) (d : Says) → r.Holds → Right rs d → Right (r ∷ rs) d
  right_more r rs (Bad n e) h j = inr (h, j)
  right_more r rs (Fine x) h j = ((h, j.0), j.1)

  tested_right : (cs : List Check) (rest : List Rule) (d : Says) → (Keeps cs → Right rest d) → Right (as_rules cs ++ rest) (tested cs d)
  tested_right [] rest d k = k tt
  tested_right (c ∷ cs) rest d k = by c.holds (λ x. tested_right cs rest d (λ ks. k (x, ks)))
    where
      by : (b : Bool) → (T b → Right (as_rules cs ++ rest) (tested cs d))
          → Right (record { reason = c.reason; element = c.element; Holds = T b } ∷ (as_rules cs ++ rest))
          (elim b [ true ↦ tested cs d | false ↦ Bad c.reason c.element ])
      by true f = right_more (record { reason = c.reason; element = c.element; Holds = T true }) (as_rules cs ++ rest) (tested cs d) tt (f tt)
      by false f = inl ((λ x. x), refl, refl)

  module _ (h : List View) (p : Viable list842 w) where
    -- the row is of the profile, or 24 is broken
    by_profile : (r : ℕ) → OneFits w (tag_in_of v) r → Fits w (tag_in_of v) r → (b : Bool) → profile.rows r ≡ b
        → Right (row_rules profile w v ++ as_rules (late profile h v)) (elim b [ true ↦ tested (late profile h v) (Fine r) | false ↦ Bad ForeignRow 0 ])
    by_profile r s f true e =
        let seven : Rule = record { reason = NoRow; element = 0; Holds = (r : ℕ) × Fits w (tag_in_of v) r } in
        let last : Rule = record { reason = ForeignRow; element = 0; Holds = (r : ℕ) × Fits w (tag_in_of v) r × Admitted profile r } in
        let rest = as_rules (late profile h v) in
        let d = tested (late profile h v) (Fine r) in
        right_more seven (last ∷ rest) d (r, f)
        (right_more last rest d (r, f, rw e tt) (rw append-nil at (tested_right (late profile h v) [] (Fine r) (λ _. (tt, f)))))
    by_profile r s f false e =
        inr ((r, f), inl ((λ x. let z = (s.alone x.0 x.1).0 in subst T (ap profile.rows z ∙ e) x.2), refl, refl))

    by_row : (x : ℕ) → OneFits w (tag_in_of v) x → Right (row_rules profile w v ++ as_rules (late profile h v)) (by_row_of profile x (tested (late profile h v) (Fine x)))
    by_row zero s = inl ((λ r. (s.alone r.0 r.1).1 refl), refl, refl)
    by_row (suc r) s = by_profile (suc r) s (s.fits (λ e. omega (arith, e))) (profile.rows (suc r)) refl

    pub says_right : Right (rules profile w h v) (says profile w h v)
    unfolding says tag_checks
    says_right = rw append_assoc (tested_right (early v) (row_rules profile w v ++ as_rules (late profile h v)) _ (λ k.
        let tag_known = (keeps_split (byte_checks v) (tag_checks v) (keeps_split (byte_checks v ++ tag_checks v) (end_checks v) k).0).1.0 in
        by_row (step_of (last_of 0 w) (twice 0 false w) (tag_in_of v)) (step_fits w p (tag_in_of v) (ltb→lt (tag_in_of v) 34 tag_known))))

room_so : (profile : Profile) (t : Tables) (h : List View) → T (has_room_of profile (segment_room_of t) (level_room_of t) h) → Room profile t h
room_so profile t h x = record {
  segments_fit = leb→le (length h) (segment_room_of t) (first_of (leb (length h) (segment_room_of t)) (leb (length (levels_in profile h)) (level_room_of t)) x);
  levels_fit = leb→le (length (levels_in profile h)) (level_room_of t) (second_of (leb (length h) (segment_room_of t)) (leb (length (levels_in profile h)) (level_room_of t)) x);
}

so_room : (profile : Profile) (t : Tables) (h : List View) → Room profile t h → T (has_room_of profile (segment_room_of t) (level_room_of t) h)
so_room profile t h r =
    both (leb (length h) (segment_room_of t)) (leb (length (levels_in profile h)) (level_room_of t)) (le→leb (length h) (segment_room_of t) r.segments_fit)
    (le→leb (length (levels_in profile h)) (level_room_of t) r.levels_fit)

-- a cut stops with the number of a reason
stop_number : (n : ℕ) → (n ≡ 3) ⊎ (n ≡ 10) → n ≡ number_of (reason_of n)
stop_number n (inl z) = rw z refl
stop_number n (inr z) = rw z refl

module _ (profile : Profile) (how : How) (t : Tables) (s : Bytes) where
  abbrev Good : Out → Type 0
  Good o = Run profile how t s o.0 o.1 o.2

  -- a refusal behind what was passed
  pub refused_run : (gs : List Placed) (w : List ℕ) (end : ℕ) (rest : Bytes) (n : Reason) (e : ℕ) → Passed profile how t s gs w end rest
      → Fails profile how t gs w end rest n e → Run profile how t s (refused n (length gs + 1) end e) gs w
  refused_run gs w end rest n e p f = record {
    gs = gs;
    rows = w;
    end = end;
    rest = rest;
    passed = p;
    ends = record { reason = n; element = e; cause = f; kept_is = refl; numbers_is = refl; place = refl };
  }

  -- the answer at a whole segment
  module _ (gs : List Placed) (w : List ℕ) (end : ℕ) (rest g more : Bytes) (p : Passed profile how t s gs w end rest) (next : cut_by how rest ≡ Whole g more) where
    abbrev v : View
    v = view_of how.separators g

    abbrev h : List View
    h = onto [] (seen how gs)

    abbrev gs' : List Placed
    gs' = gs ++ (record { at = end; segment = g } ∷ [])

    pub seen_more : seen how gs' ≡ seen how gs ++ (v ∷ [])
    seen_more = map-append (λ (p : Placed). view_of how.separators p.segment) gs (record { at = end; segment = g } ∷ [])

    pub passed_more : (r : ℕ) → Sound profile w h v r → T (not (is_se v)) → Room profile t (v ∷ h)
        → Passed profile how t s gs' (w ++ (r ∷ [])) (end + length g + 1 + skip_by how more) (drop (skip_by how more) more)
    passed_more r sound o room =
        let n = numbers_more profile (seen how gs) w v r (numbers p) sound.kept sound.fits sound.admitted o in
        record {
          leads = led_snoc profile how t s 0 s gs end rest g more p.leads next;
          viable = n.viable;
          admitted = n.admitted;
          tags = rw seen_more n.tags;
          kept = rw seen_more n.kept;
          ongoing = rw seen_more n.ongoing;
          room = rw (seen_more, onto_append) room;
        }

    chosen : (d : Says) (room last : Bool) (o : Out) → Right profile w v (rules profile w h v) d → has_room_of profile (segment_room_of t) (level_room_of t) (v ∷ h) ≡ room → is_se v ≡ last
        → ((r : ℕ) → d ≡ Fine r → Passed profile how t s gs' (w ++ (r ∷ [])) (end + length g + 1 + skip_by how more) (drop (skip_by how more) more) → Good o)
        → Good (choose profile how (segment_room_of t) (level_room_of t) gs w end g d room last o)
    chosen (Bad n e) room last o j y z f = refused_run gs w end rest n e p (inr (inl (record { segment = g; more = more; next = next; first = j })))
    chosen (Fine r) false last o j y z f =
        refused_run gs w end rest NoRoom 0 p
        (inr (inr (record {
          segment = g;
          row = r;
          keeping = record { more = more; next = next; sound = holds_sound profile w h v r j.1 j.0 };
          no_room = λ x. rw y at (so_room profile t (v ∷ h) x);
          reason_is = refl;
          element_is = refl;
        })))
    chosen (Fine r) true true o j y z f = record {
      gs = gs;
      rows = w;
      end = end;
      rest = rest;
      passed = p;
      ends = record {
        segment = g;
        row = r;
        keeping = record { more = more; next = next; sound = holds_sound profile w h v r j.1 j.0 };
        last = rw z tt;
        room = room_so profile t (v ∷ h) (rw y tt);
        kept_is = refl;
        numbers_is = refl;
        counts = refl;
      };
    }
    chosen (Fine r) true false o j y z f =
        f r refl (passed_more r (holds_sound profile w h v r j.1 j.0) (rw z tt) (room_so profile t (v ∷ h) (rw y tt)))

  -- with fuel for more bytes than the rest has
  abbrev Goes : ℕ → Type 0
  Goes fuel = (gs : List Placed) (w : List ℕ) (h : List View) (end : ℕ) (rest : Bytes) → h ≡ onto [] (seen how gs) → Passed profile how t s gs w end rest
      → length rest < fuel → Good (run profile how (segment_room_of t) (level_room_of t) fuel gs w h end rest)

  at_whole : (fuel : ℕ) → Goes fuel → (gs : List Placed) (w : List ℕ) (end : ℕ) (rest g more : Bytes) → Passed profile how t s gs w end rest
      → cut_by how rest ≡ Whole g more → length rest < suc fuel → Good (at_cut profile how (segment_room_of t) (level_room_of t) (run profile how (segment_room_of t) (level_room_of t) fuel) gs w (onto [] (seen how gs)) end (Whole g more))
  at_whole fuel goes gs w end rest g more p next l =
      let vw = view_of how.separators g in
      let hs = onto [] (seen how gs) in
      let gm = gs ++ (record { at = end; segment = g } ∷ []) in
      let k : rest ≡ g ++ how.separators.terminator ∷ more =
      subst (λ (c : Cut). Splits how.separators rest c) next (cut_splits how.separators rest) in
      let shorter : length (drop (skip_by how more) more) < fuel =
      rw length-drop (omega (arith, ap length k ∙ length-append g (how.separators.terminator ∷ more))) in
      chosen gs w end rest g more p next (says profile w hs vw) (has_room_of profile (segment_room_of t) (level_room_of t) (vw ∷ hs)) (is_se vw) _ (says_right profile w vw hs p.viable) refl refl
      (λ r e q.
      goes gm (w ++ (row_said (says profile w hs vw) ∷ [])) (vw ∷ hs) (end + length g + 1 + skip_by how more) (drop (skip_by how more) more)
      (rw (seen_more gs w end rest g more p next, onto_append)) (rw e q) shorter)

  goes_more : (fuel : ℕ) → Goes fuel → Goes (suc fuel)
  goes_more fuel goes gs w h end rest e p l = rw e (by (cut_by how rest) refl)
    where
      by : (c : Cut) → cut_by how rest ≡ c → Good (at_cut profile how (segment_room_of t) (level_room_of t) (run profile how (segment_room_of t) (level_room_of t) fuel) gs w (onto [] (seen how gs)) end c)
      by (Whole g more) q = at_whole fuel goes gs w end rest g more p q l
      by (Stop n x upto more) q =
          let stop : (n ≡ 3) ⊎ (n ≡ 10) = subst (λ (c : Cut). Splits how.separators rest c) q (cut_splits how.separators rest) in
          let stops = q ∙ ap (λ (k : ℕ). Stop k x upto more) (stop_number n stop) in
          refused_run gs w end rest (reason_of n) x p (inl (record { upto = upto; more = more; stops = stops }))

  goes_all : (fuel : ℕ) → Goes fuel
  goes_all zero gs w h end rest e p l = absurd (omega arith)
  goes_all (suc fuel) gs w h end rest e p l = goes_more fuel (goes_all fuel) gs w h end rest e p l

  -- nothing is passed yet
  pub passed_none : Passed profile how t s [] [] 0 s
  unfolding levels_in
  passed_none = record { leads = (refl, refl); viable = viable_nil; admitted = tt; tags = refl; kept = tt; ongoing = tt; room = record { segments_fit = omega arith; levels_fit = omega arith } }

  pub computes : Good (compute profile how (segment_room_of t) (level_room_of t) s)
  unfolding compute
  computes = goes_all (suc (length s)) [] [] [] 0 s refl passed_none (omega arith)

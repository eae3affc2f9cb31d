-- The attached bytes of a BIN change nothing of a reading: inputs that are the same but for the bytes of one BIN02, of the same count, get the same
-- answer and leave the same tables. Shown by going along both inputs, segment by segment, with the reading that computes.
-- Assumes nothing.
use Prim.Native.Nat.{ℕ, zero, suc, ◌+◌, ◌≤◌}
use mathlib.Core.Path.{◌≡◌, refl, sym, ap, subst, ◌∙◌}
use mathlib.Core.Logic.{inl}
use mathlib.Core.Bool.{Bool, true, false}
use mathlib.Core.List.{List, [], ◌∷◌, ◌++◌}
use native.Mathlib.Omega.{arith}
use lib.Dec.{T, leb}
use lib.ListN.{length, drop, length-append}
use borrow.Author.Tests.{le-leb}
use Rattle.text.specs.Bytes.{Bytes, byte, value_of}
use Rattle.text.specs.Separators.{Fitted, fit_separators}
use Rattle.text.specs.Bin.{count_in, attached_in, is_bin}
use Rattle.text.specs.View.{View, view_of, inspected}
use Rattle.text.specs.Cut.{Cut, Placed, Leads}
use Rattle.text.specs.declared.separators.Separators.{Separators}
use Rattle.text.proofs.Bools.{passes}
use Rattle.text.proofs.Lists.{same_front}
use Rattle.text.proofs.Bins.{bin_parts}
use Rattle.text.proofs.BinView.{bin_view, view_bin}
use Rattle.text.proofs.BinSpans.{bin_long}
use Rattle.text.proofs.BinCut.{bin_whole}
use Rattle.text.proofs.View.{fitted}
use Rattle.text.proofs.CutLaws.{leads_front}
use Rattle.text.proofs.DocumentCut.{cut_law}
use Rattle.text.proofs.LineEnds.{skip_law}
use Rattle.rows.specs.Rows.{list842}
use Rattle.rows.specs.Tags.{tag, tag_number}
use Rattle.rows.proofs.NextRows.{next_of, after, edges842}
use Rattle.rows.proofs.RowStep.{step_of}
use Rattle.elements.specs.Checks.{Check}
use Rattle.elements.specs.Rules.{data_checks, byte_checks, end_checks, ruled_checks}
use Rattle.elements.specs.declared.verdict.Reason.TheVariants.{Unended, NoRow}
use Rattle.gate.specs.Profile.{Profile, profile_of}
use Rattle.gate.specs.Segments.{tag_in_of, is_hl, is_se, claims, opening}
use Rattle.gate.specs.Answers.{Answer}
use Rattle.gate.specs.Rules.{tag_checks, hl_checks, se_checks, early, late}
use Rattle.gate.specs.Records.{Tables, segment_room_of, level_room_of, recorded}
use Rattle.gate.specs.Reads.{limit, cut_by, skip_by, Run, Read, ReadsWithin, ReadsFit, ReadsBy, Reads}
use Rattle.gate.specs.declared.how.How.{How}
use Rattle.gate.proofs.reading.Once.{run_once}
use Rattle.gate.proofs.reading.Reference.{Says, Fine, Bad, tested, says, Out, compute, computes}
use Rattle.gate.proofs.reading.SideBySide.{history, put, Alike, history_put, history_length, extents_put, alike_self, alike_recorded, Same, running, refused_same, taken_same, behind_same}

-- two whole BINs with the same count: they differ in their attached bytes at most
pub record SameButAttached (e : ℕ) (g g' : Bytes) : Type 0 where
  pub bin : T (is_bin e g)
  pub bin' : T (is_bin e g')
  pub counted : count_in e g ≡ count_in e g'

-- the rules of bytes, tag and ends ask of what is attached only that it is not empty
early_bin : (count attached attached' : Bytes) → 1 ≤ length attached → 1 ≤ length attached' → early (bin_view count attached) ≡ early (bin_view count attached')
unfolding byte_checks data_checks inspected tag_checks tag_in_of end_checks
early_bin count [] attached' l l' = absurd (omega arith)
early_bin count (b ∷ p) [] l l' = absurd (omega arith)
early_bin count (b ∷ p) (b' ∷ p') l l' = rw (le-leb 1 (length (b ∷ p)) l, le-leb 1 (length (b' ∷ p')) l')

-- a profile without rules for the elements of a BIN
abbrev Plain : Profile → Type 0
Plain profile = (v : View) → ruled_checks profile.elements (tag "BIN") v ≡ []

-- by such a profile nothing is tested behind its row
late_bin : (profile : Profile) → Plain profile → (h : List View) (count attached : Bytes) → late profile h (bin_view count attached) ≡ []
unfolding tag_in_of hl_checks se_checks tag_number
late_bin profile plain h count attached = rw (plain (bin_view count attached))

-- so the same is said of it, whatever is attached
says_bin : (profile : Profile) → Plain profile → (w : List ℕ) (h : List View) (count attached attached' : Bytes) → 1 ≤ length attached → 1 ≤ length attached'
    → says profile w h (bin_view count attached) ≡ says profile w h (bin_view count attached')
unfolding says tag_in_of
says_bin profile plain w h count attached attached' l l' =
    rw (early_bin count attached attached' l l', late_bin profile plain h count attached, late_bin profile plain h count attached')

-- tests do not make good what is bad
abbrev IsBad : Says → Type 0
IsBad (Fine r) = ⊥
IsBad (Bad n e) = Unit {0}

tested_bad : (cs : List Check) (d : Says) → IsBad d → IsBad (tested cs d)
tested_bad [] d h = h
tested_bad (c ∷ cs) d h = by c.holds (tested_bad cs d h)
  where
    by : (b : Bool) → IsBad (tested cs d) → IsBad (elim b [ true ↦ tested cs d | false ↦ Bad c.reason c.element ])
    by true i = i
    by false i = tt

-- a BIN is not the first segment
never_first : (profile : Profile) (h : List View) (count attached : Bytes) (r : ℕ) → says profile [] h (bin_view count attached) ≡ Fine r → ⊥
unfolding says tag_in_of tag_number step_of next_of after edges842 list842
never_first profile h count attached r z = subst (λ (d : Says). IsBad d) z (tested_bad (early (bin_view count attached)) (Bad NoRow 0) tt)

-- behind other segments the first stays, whatever is added
opening_any : (v v' : View) (h : List View) → 1 ≤ length h → opening (v ∷ h) ≡ opening (v' ∷ h)
opening_any v v' [] l = absurd (omega arith)
opening_any v v' (u ∷ h) l = refl

-- a whole BIN as bytes and as it is seen
module _ (q : Separators) (g : Bytes) (bin : T (is_bin q.element g)) where
  bin_seen : view_of q g ≡ bin_view (count_in q.element g) (attached_in q.element g)
  bin_seen = view_bin q g (passes (is_bin q.element g) bin)

  bin_starts : (y : Bytes) → g ++ y ≡ byte "B" ∷ (drop 1 g ++ y)
  bin_starts y =
      let b = (bin_parts q.element g bin).whole in
      ap (λ (u : Bytes). u ++ y) b ∙ ap (λ (u : Bytes). byte "B" ∷ (drop 1 u ++ y)) (sym b)

  -- it has its tag, so it is no HL and no SE
  bin_tag : tag_in_of (view_of q g) ≡ tag "BIN"
  unfolding tag_in_of tag_number
  bin_tag = ap tag_in_of bin_seen

  bin_no_hl : is_hl (view_of q g) ≡ false
  unfolding tag_number
  bin_no_hl = rw bin_tag refl

  bin_no_se : is_se (view_of q g) ≡ false
  unfolding tag_number
  bin_no_se = rw bin_tag refl

  bin_claims : (h : List View) → claims (view_of q g ∷ h) ≡ claims h
  bin_claims h = rw bin_no_hl

  bin_not_first : (profile : Profile) (h : List View) (r : ℕ) → says profile [] h (view_of q g) ≡ Fine r → ⊥
  bin_not_first profile h r z = never_first profile h (count_in q.element g) (attached_in q.element g) r (rw bin_seen at z)

module _ (how : How) (g g' : Bytes) (x : SameButAttached how.separators.element g g') where
  abbrev q : Separators
  q = how.separators

  same_long : length g ≡ length g'
  same_long =
      let e = q.element in
      omega (
        arith,
        bin_long e g (passes (is_bin e g) x.bin),
        bin_long e g' (passes (is_bin e g') x.bin'),
        ap length x.counted,
        ap value_of x.counted,
        (bin_parts e g x.bin).counted.value,
        (bin_parts e g' x.bin').counted.value,
      )

  same_said : (profile : Profile) → Plain profile → (w : List ℕ) (h : List View) → says profile w h (view_of q g) ≡ says profile w h (view_of q g')
  same_said profile plain w h =
      let e = q.element in
      ap (says profile w h) (bin_seen q g x.bin)
      ∙ says_bin profile plain w h (count_in e g) (attached_in e g) (attached_in e g') (bin_parts e g x.bin).counted.long (bin_parts e g' x.bin').counted.long
      ∙ ap (λ (d : Bytes). says profile w h (bin_view d (attached_in e g'))) x.counted
      ∙ ap (says profile w h) (sym (bin_seen q g' x.bin'))

  -- behind other segments the lists with the one and the other look alike
  alike_bin : (gs : List Placed) (at : ℕ) → 1 ≤ length gs → Alike how (put gs at g) (put gs at g')
  alike_bin gs at l =
      let h = history how gs in
      record {
        extents = extents_put how gs gs at g g' refl same_long (bin_tag q g x.bin ∙ sym (bin_tag q g' x.bin'));
        levels = rw (history_put how gs at g, history_put how gs at g') (bin_claims q g x.bin h ∙ sym (bin_claims q g' x.bin' h));
        first = rw (history_put how gs at g, history_put how gs at g') (opening_any (view_of q g) (view_of q g') h (omega (arith, history_length how gs)));
      }

-- segments that lead to the same place start at the same
leads_start : (cut : Bytes → Cut) (skip : Bytes → ℕ) (at at' : ℕ) (s s' : Bytes) (gs : List Placed) (end : ℕ) (r r' : Bytes)
    → Leads cut skip at s gs end r → Leads cut skip at' s' gs end r' → at ≡ at'
leads_start cut skip at at' s s' [] end r r' l l' = l.0 ∙ sym l'.0
leads_start cut skip at at' s s' (g ∷ gs) end r r' l l' = sym l.2 ∙ l'.2

module _ (profile : Profile) (plain : Plain profile) (how : How) (segments levels : ℕ) (g g' rest : Bytes)
    (x : SameButAttached how.separators.element g g') where
  -- reading on from the segments gs and their rows
  abbrev going : ℕ → List Placed → List ℕ → ℕ → Bytes → Out
  going = running profile how segments levels

  -- the bytes from the BIN on
  abbrev from : Bytes → Bytes
  from bin = bin ++ how.separators.terminator ∷ rest

  -- a BIN that is passed stands behind other segments
  passed_alike : (gs : List Placed) (w : List ℕ) (at : ℕ) → length w ≡ length gs
      → (r : ℕ) → says profile w (history how gs) (view_of how.separators g') ≡ Fine r → Alike how (put gs at g) (put gs at g')
  passed_alike gs [] at l r z = absurd (bin_not_first how.separators g' x.bin' profile (history how gs) r z)
  passed_alike gs (y ∷ w) at l r z = alike_bin how g g' x gs at (omega arith)

  -- at the BIN
  at_bin : (fuel : ℕ) (gs : List Placed) (w : List ℕ) (at : ℕ) → length w ≡ length gs
      → Same how (going (suc fuel) gs w at (from g)) (going (suc fuel) gs w at (from g'))
  at_bin fuel gs w at n =
      let q = how.separators in
      let l = same_long how g g' x in
      let next = at + length g + 1 + skip_by how rest in
      let next' = at + length g' + 1 + skip_by how rest in
      let more = drop (skip_by how rest) rest in
      rw (bin_whole q g rest x.bin, bin_whole q g' rest x.bin')
      (taken_same profile how segments levels fuel gs gs w at g g' next next' more more (alike_self how gs) l (same_said how g g' x profile plain w (history how gs))
      (bin_no_se q g x.bin ∙ sym (bin_no_se q g' x.bin')) (passed_alike gs w at n)
      (λ r b. rw l (behind_same profile how segments levels fuel (put gs at g) (put gs at g') (w ++ (r ∷ [])) next' more b)))

  -- ahead of it, where the same segments lead to it
  abbrev Led : ℕ → Bytes → List Placed → ℕ → Bytes → Type 0
  Led at s ps end bin = Leads (cut_by how) (skip_by how) at s ps end (from bin)

  abbrev Ahead : ℕ → Type 0
  Ahead fuel = (ps gs : List Placed) (w : List ℕ) (at end : ℕ) (s s' : Bytes) → Led at s ps end g → Led at s' ps end g' → length w ≡ length gs
      → Same how (going fuel gs w at s) (going fuel gs w at s')

  ahead_more : (fuel : ℕ) → Ahead fuel → Ahead (suc fuel)
  ahead_more fuel on [] gs w at end s s' l l' n = rw (l.1, l'.1) (at_bin fuel gs w at n)
  ahead_more fuel on (p ∷ ps) gs w at end s s' l l' n =
      let h = p.segment in
      let next = at + length h + 1 + skip_by how l.0 in
      let next' = at + length h + 1 + skip_by how l'.0 in
      let m = drop (skip_by how l.0) l.0 in
      let m' = drop (skip_by how l'.0) l'.0 in
      let e : next ≡ next' = leads_start (cut_by how) (skip_by how) next next' m m' ps end (from g) (from g') l.3 l'.3 in
      rw (l.1, l'.1)
      (taken_same profile how segments levels fuel gs gs w at h h next next' m m' (alike_self how gs) refl refl refl (λ r z. alike_self how (put gs at h))
      (λ r b.
      subst (λ (k : ℕ). Same how (going fuel (put gs at h) (w ++ (r ∷ [])) next m) (going fuel (put gs at h) (w ++ (r ∷ [])) k m')) e
      (on ps (put gs at h) (w ++ (r ∷ [])) next end m m' l.3 (subst (λ (k : ℕ). Led k m' ps end g') (sym e) l'.3) (simp length-append (omega (arith, n))))))

  ahead_same : (fuel : ℕ) → Ahead fuel
  ahead_same zero ps gs w at end s s' l l' n = refused_same profile how segments levels gs gs w at Unended 0 (alike_self how gs)
  ahead_same (suc fuel) ps gs w at end s s' l l' n = ahead_more fuel (ahead_same fuel) ps gs w at end s s' l l' n

-- a BIN has no rules of elements
bin_plain : (how : How) → Plain (profile_of how)
unfolding ruled_checks tag_number
bin_plain how v = refl

-- segments that lead to a byte lead to it whatever follows it
leads_still : (how : How) → Fitted how.separators → (front : Bytes) (gs : List Placed) (end b : ℕ) (y z : Bytes)
    → Leads (cut_by how) (skip_by how) 0 (front ++ b ∷ y) gs end (b ∷ y) → Leads (cut_by how) (skip_by how) 0 (front ++ b ∷ z) gs end (b ∷ z)
leads_still how fit front gs end b y z l =
    let q = how.separators in
    let f = leads_front q.terminator (cut_by how) (skip_by how) (cut_law q fit) (skip_law q how.lines) 0 (front ++ b ∷ y) gs end b y l in
    let n : length front ≡ length f.front = omega (arith, simp length-append at (ap length f.whole)) in
    subst (λ (u : Bytes). Leads (cut_by how) (skip_by how) 0 (u ++ b ∷ z) gs end (b ∷ z)) (sym (same_front front (b ∷ y) f.front (b ∷ y) f.whole n).0)
    (f.still b z (inl refl))

module _ (how : How) (front : Bytes) (gs : List Placed) (end : ℕ) (g g' rest : Bytes) (x : SameButAttached how.separators.element g g')
    (leads : Leads (cut_by how) (skip_by how) 0 (front ++ (g ++ how.separators.terminator ∷ rest)) gs end (g ++ how.separators.terminator ∷ rest)) where
  abbrev behind : Bytes
  behind = how.separators.terminator ∷ rest

  abbrev input : Bytes → Bytes
  input bin = front ++ (bin ++ behind)

  same_length : length (input g) ≡ length (input g')
  same_length = simp length-append (omega (arith, same_long how g g' x))

  -- the segments before the BIN are the same
  leads_other : Fitted how.separators → Leads (cut_by how) (skip_by how) 0 (input g') gs end (g' ++ behind)
  leads_other fit =
      let q = how.separators in
      rw (bin_starts q g' x.bin' behind)
      (leads_still how fit front gs end (byte "B") (drop 1 g ++ behind) (drop 1 g' ++ behind) (rw (bin_starts q g x.bin behind) at leads))

  computed_same : Fitted how.separators → (segments levels : ℕ)
      → Same how (compute (profile_of how) how segments levels (input g)) (compute (profile_of how) how segments levels (input g'))
  unfolding compute
  computed_same fit segments levels =
      rw (← same_length)
      (ahead_same (profile_of how) (bin_plain how) how segments levels g g' rest x (suc (length (input g))) gs [] [] 0 end (input g) (input g') leads
      (leads_other fit) refl)

  read_same : Fitted how.separators → (before : Tables) (r : Answer) (after : Tables) → Read (profile_of how) how (input g) before r after
      → Read (profile_of how) how (input g') before r after
  read_same fit before r after y =
      let profile = profile_of how in
      let o = compute profile how (segment_room_of before) (level_room_of before) (input g) in
      let o' = compute profile how (segment_room_of before) (level_room_of before) (input g') in
      let u = run_once y.run (computes profile how before (input g)) in
      let z = computed_same fit (segment_room_of before) (level_room_of before) in
      record {
        kept = o'.1;
        numbers = o'.2;
        run = subst (λ (a : Answer). Run profile how before (input g') a o'.1 o'.2) (sym (u.0 ∙ z.answer)) (computes profile how before (input g'));
        tables = y.tables ∙ (λ i. recorded profile how before (u.1 i) ((u.2 ∙ z.rows) i)) ∙ alike_recorded how o.1 o'.1 z.kept profile before o'.2;
      }

-- the bytes that are attached in a BIN, which is a segment of the input, change neither the answer nor the tables
pub attached_free : (how : How) (front : Bytes) (gs : List Placed) (end : ℕ) (g g' rest : Bytes) → SameButAttached how.separators.element g g'
    → Leads (cut_by how) (skip_by how) 0 (front ++ (g ++ how.separators.terminator ∷ rest)) gs end (g ++ how.separators.terminator ∷ rest)
    → (before : Tables) (r : Answer) (after : Tables) → Reads how (front ++ (g ++ how.separators.terminator ∷ rest)) before r after
    → Reads how (front ++ (g' ++ how.separators.terminator ∷ rest)) before r after
unfolding ReadsBy
attached_free how front gs end g g' rest x leads before r after y = fit (fit_separators how.separators) refl y
  where
    given : Bytes → Bytes
    given bin = front ++ (bin ++ how.separators.terminator ∷ rest)

    within : (b : Bool) → Fitted how.separators → ReadsWithin b (profile_of how) how (given g) before r after
        → ReadsWithin b (profile_of how) how (given g') before r after
    within true f y = read_same how front gs end g g' rest x leads f before r after y
    within false f y = y

    fit : (b : Bool) → fit_separators how.separators ≡ b → ReadsFit b (profile_of how) how (given g) before r after
        → ReadsFit b (profile_of how) how (given g') before r after
    fit true e y =
        rw (← same_length how front gs end g g' rest x leads) (within (leb (length (given g)) limit) (fitted how.separators (rw e tt)) y)
    fit false e y = y

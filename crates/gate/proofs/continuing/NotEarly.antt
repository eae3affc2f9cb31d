-- A verdict comes no sooner than it must: the segments before a fault can be continued, as bytes, to a transaction that meets every rule.
-- Assumes nothing.
use Prim.Native.Nat.{ℕ, ◌+◌, ◌≤◌, ◌<◌}
use mathlib.Core.Path.{◌≡◌, refl, sym, ap, subst, ◌∙◌}
use mathlib.Core.Logic.{◌⊎◌, inl, inr}
use mathlib.Core.Bool.{Bool, true, false}
use mathlib.Core.List.{List, [], ◌∷◌, ◌++◌, map}
use native.Mathlib.Omega.{arith}
use lib.Dec.{T, ltb, ltb→lt}
use lib.ListN.{length, take, drop, get_or, length-append, length-map}
use lib.Seq.{take_at, drop_at}
use Rattle.text.specs.Bytes.{Bytes, every}
use Rattle.text.specs.Separators.{fit_separators, is_capital, Fitted}
use Rattle.text.specs.Pieces.{joined}
use Rattle.text.specs.View.{View, view_of, written}
use Rattle.text.specs.Cut.{Cut, Whole, Placed, Leads}
use Rattle.text.specs.declared.separators.Separators.{Separators}
use Rattle.text.proofs.Bools.{both, first_of, second_of}
use Rattle.text.proofs.Lists.{map-append}
use Rattle.text.proofs.Tables.{tab, tab_at}
use Rattle.text.proofs.View.{fitted}
use Rattle.text.proofs.CutLaws.{Faulty, CutLaw, Addable, AllAddable, ended, places, past, leads_front, leads_on}
use Rattle.text.proofs.DocumentCut.{cut_law}
use Rattle.text.proofs.LineEnds.{skip_law}
use Rattle.text.proofs.Writable.{writes, writes_writable, cut_writable, writable_cut, writable_seen}
use Rattle.rows.specs.Tags.{tags, tag_number}
use Rattle.rows.proofs.TagList.{tag_of_number}
use Rattle.elements.specs.Reasons.{number_of}
use Rattle.elements.specs.declared.verdict.Reason.{Reason}
use Rattle.gate.specs.Answers.{refused, Fault}
use Rattle.gate.specs.Profile.{profile_of}
use Rattle.gate.specs.Segments.{tag_in_of, seen}
use Rattle.gate.specs.Records.{Tables}
use Rattle.gate.specs.Reads.{limit, cut_by, skip_by, Passed, Run}
use Rattle.gate.specs.Conditions.{Continues}
use Rattle.gate.specs.declared.how.How.{How}
use Rattle.gate.proofs.reading.Numbers.{fault_room}
use Rattle.gate.proofs.reading.Once.{Fails, refused_fails, refused_segment, refused_byte}
use Rattle.gate.proofs.whole.AllRules.{from_meets}
use Rattle.gate.proofs.continuing.LevelNames.{bare}
use Rattle.gate.proofs.continuing.Continuation.{Continued, continued}

-- every tag begins with a capital letter
abbrev begins_capital : Bytes → Bool
begins_capital [] = false
begins_capital (b ∷ s) = is_capital b

checked_capital : tab 34 (λ k. begins_capital (get_or tags k [])) ≡ tab 34 (λ k. true)
unfolding tab
checked_capital = refl

tag_capital : (t : Bytes) → tag_number t < 34 → T (begins_capital t)
tag_capital t h =
    subst (λ (x : Bytes). T (begins_capital x)) (tag_of_number t h)
    (rw (tab_at 34 (λ k. begins_capital (get_or tags k [])) (λ k. true) checked_capital (tag_number t) h) tt)

-- so does what is written of a view whose tag is one of the 34
record Begins (s : Bytes) : Type 0 where
  first : ℕ
  tail : Bytes
  is : s ≡ first ∷ tail
  capital : T (is_capital first)

begins_text : (t : Bytes) → T (begins_capital t) → Begins t
begins_text [] h = absurd h
begins_text (b ∷ s) h = record { first = b; tail = s; is = refl; capital = h }

begins_joined : (sep : ℕ) (t : Bytes) (ps : List Bytes) → Begins t → Begins (joined sep (t ∷ ps))
begins_joined sep t [] b = b
begins_joined sep t (p ∷ ps) b = record {
  first = b.first;
  tail = b.tail ++ sep ∷ joined sep (p ∷ ps);
  is = ap (λ (x : Bytes). x ++ sep ∷ joined sep (p ∷ ps)) b.is;
  capital = b.capital;
}

begins_written : (q : Separators) (v : View) → tag_in_of v < 34 → Begins (written q v)
unfolding tag_in_of tag_number
begins_written q [] h = absurd (omega (arith, h))
begins_written q ([] ∷ v) h = absurd (omega (arith, h))
begins_written q ((t ∷ []) ∷ v) h = begins_joined q.element t (map (joined q.component) v) (begins_text t (tag_capital t h))
begins_written q ((t ∷ (c ∷ cs)) ∷ v) h = absurd (omega (arith, h))

-- what the segments that were passed say of their views and their number
module _ (how : How) where
  abbrev q : Separators
  q = how.separators

  pub leads_few : (at : ℕ) (s : Bytes) (gs : List Placed) (end : ℕ) (rest : Bytes) → Leads (cut_by how) (skip_by how) at s gs end rest → at + length gs ≤ end
  leads_few at s [] end rest l = omega (arith, l.0)
  leads_few at s (g ∷ gs) end rest l =
      omega (arith, leads_few (at + length g.segment + 1 + skip_by how l.0) (drop (skip_by how l.0) l.0) gs end rest l.3)

  module _ (fit : Fitted q) where
    leads_bare : (at : ℕ) (s : Bytes) (gs : List Placed) (end : ℕ) (rest : Bytes) → Leads (cut_by how) (skip_by how) at s gs end rest
        → T (every (bare q) (seen how gs))
    leads_bare at s [] end rest l = tt
    leads_bare at s (g ∷ gs) end rest l =
        both (bare q (view_of q g.segment)) (every (bare q) (seen how gs))
        (cut_writable q fit s g.segment l.0 l.1).bare
        (leads_bare (at + length g.segment + 1 + skip_by how l.0) (drop (skip_by how l.0) l.0) gs end rest l.3)

    abbrev AddableBy : Bytes → Type 0
    AddableBy g = Addable q.terminator (cut_by how) (skip_by how) (cut_law q fit) (skip_law q how.lines) g

    abbrev AllAddableBy : List Bytes → Type 0
    AllAddableBy gs = AllAddable q.terminator (cut_by how) (skip_by how) (cut_law q fit) (skip_law q how.lines) gs

    added : (v : View) → T (writes q v) → tag_in_of v < 34 → AddableBy (written q v)
    added v w h =
        let b = begins_written q v h in
        record {
          first = b.first;
          tail = b.tail;
          is = b.is;
          capital = b.capital;
          cut_is = writable_cut q fit v (writes_writable q v w);
        }

    all_added : (vs : List View) → T (every (writes q) vs) → T (every (λ (v : View). ltb (tag_in_of v) 34) vs) → AllAddableBy (map (written q) vs)
    all_added [] w h = tt
    all_added (v ∷ vs) w h = (
      added v (first_of (writes q v) (every (writes q) vs) w) (ltb→lt (tag_in_of v) 34 (first_of (ltb (tag_in_of v) 34) (every (λ (v : View). ltb (tag_in_of v) 34) vs) h)),
      all_added vs (second_of (writes q v) (every (writes q) vs) w) (second_of (ltb (tag_in_of v) 34) (every (λ (v : View). ltb (tag_in_of v) 34) vs) h),
    )

    -- they are seen again where they stand
    abbrev placed : ℕ → List Bytes → List Placed
    placed at gs = places q.terminator (cut_by how) (skip_by how) (cut_law q fit) (skip_law q how.lines) at gs

    seen_placed : (at : ℕ) (vs : List View) → T (every (writes q) vs) → seen how (placed at (map (written q) vs)) ≡ vs
    seen_placed at [] w = refl
    seen_placed at (v ∷ vs) w =
        let e = writable_seen q fit v (writes_writable q v (first_of (writes q v) (every (writes q) vs) w)) in
        let i = seen_placed (at + length (written q v) + 1) vs (second_of (writes q v) (every (writes q) vs) w) in
        λ k. e k ∷ i k

    -- the continuation of what was passed, with the first byte of the rest
    module _ (t : Tables) (s : Bytes) (gs : List Placed) (rows : List ℕ) (end b : ℕ) (y : Bytes) (p : Passed (profile_of how) how t s gs rows end (b ∷ y))
        (short : length s ≤ limit) where
      abbrev Going : List View → Type 0
      Going vs = (front : Bytes) × (s ≡ front ++ b ∷ y) × (end ≡ 0 + length front)
          × Leads (cut_by how) (skip_by how) 0 (front ++ ended q.terminator (cut_by how) (skip_by how) (cut_law q fit) (skip_law q how.lines) (map (written q) vs))
          (gs ++ placed end (map (written q) vs)) (past q.terminator (cut_by how) (skip_by how) (cut_law q fit) (skip_law q how.lines) end (map (written q) vs)) []

      going : (vs : List View) → 0 < length vs → AllAddableBy (map (written q) vs) → Going vs
      going [] l a = absurd (omega arith)
      going (v ∷ vs) l a =
          leads_on q.terminator (cut_by how) (skip_by how) (cut_law q fit) (skip_law q how.lines) 0 s gs end b y p.leads (written q v) (map (written q) vs) a

      goes_on : (k : ℕ) → length gs + 1 ≡ k → Continued how.profile q (seen how gs) rows → Continues how s k end
      goes_on k n c =
          let a = all_added c.more c.writable c.tagged in
          let g = going c.more c.some a in
          let added = placed end (map (written q) c.more) in
          let all : seen how (gs ++ added) ≡ seen how gs ++ c.more =
          map-append (λ (g : Placed). view_of how.separators g.segment) gs added ∙ ap (λ (l : List View). seen how gs ++ l) (seen_placed end c.more c.writable) in
          let len : length g.0 ≡ end = omega (arith, g.2) in
          let d : drop end s ≡ b ∷ y = ap (drop end) g.1 ∙ drop_at g.0 (b ∷ y) end len in
          let f : take end s ≡ g.0 = ap (take end) g.1 ∙ take_at g.0 (b ∷ y) end len in
          record {
            passed = gs;
            number = n;
            leads = rw d p.leads;
            more = ended q.terminator (cut_by how) (skip_by how) (cut_law q fit) (skip_law q how.lines) (map (written q) c.more);
            added = added;
            rows = rows ++ c.rows;
            end = past q.terminator (cut_by how) (skip_by how) (cut_law q fit) (skip_law q how.lines) end (map (written q) c.more);
            whole = rw f g.3;
            meets = rw all (from_meets (profile_of how) (seen how gs ++ c.more) (rows ++ c.rows) c.meets);
          }

      -- so few segments stand in so few bytes
      end_within : end ≤ length s
      end_within =
          let f = leads_front q.terminator (cut_by how) (skip_by how) (cut_law q fit) (skip_law q how.lines) 0 s gs end b y p.leads in
          omega (arith, f.end_is, ap length f.whole ∙ length-append f.front (b ∷ y))

      pub continues : (k : ℕ) → length gs + 1 ≡ k → Continues how s k end
      continues k n =
          goes_on k n
          (continued how.profile q fit (seen how gs) rows p.viable p.admitted p.tags p.kept p.ongoing (leads_bare 0 s gs end (b ∷ y) p.leads)
          (rw (length-map gs (λ (g : Placed). view_of how.separators g.segment)) (omega (arith, leads_few 0 s gs end (b ∷ y) p.leads, end_within, short))))

-- a fault is found in bytes that there are
first_byte : (u m : Bytes) → 0 < length u → (b : ℕ) × (y : Bytes) × (u ++ m ≡ b ∷ y)
first_byte [] m l = absurd (omega arith)
first_byte (b ∷ u) m l = (b, u ++ m, refl)

cut_behind : (g : Bytes) (t : ℕ) (m : Bytes) → (b : ℕ) × (y : Bytes) × (g ++ t ∷ m ≡ b ∷ y)
cut_behind [] t m = (t, m, refl)
cut_behind (b ∷ g) t m = (b, g ++ t ∷ m, refl)

fault_byte : (how : How) → Fitted how.separators → (t : Tables) (s : Bytes) (n : Reason) (k b e : ℕ) (kept : List Placed) (w : List ℕ) → Fault (number_of n)
    → (r : Run (profile_of how) how t s (refused n k b e) kept w) → (x : ℕ) × (y : Bytes) × (r.rest ≡ x ∷ y)
fault_byte how fit t s n k b e kept w f r = by (refused_fails (profile_of how) how t r.gs r.rows r.end r.rest n k b e kept w r.ends)
  where
    stopped : (u m : Bytes) → (number_of n ≡ 3) ⊎ Faulty (cut_by how) r.rest (number_of n) e u m → (x : ℕ) × (y : Bytes) × (r.rest ≡ x ∷ y)
    stopped u m (inl z) = absurd (omega (arith, z, f.from))
    stopped u m (inr z) = let i = first_byte u m z.some in (i.0, i.1, z.whole ∙ i.2)

    by : Fails (profile_of how) how t r.gs r.rows r.end r.rest n e → (x : ℕ) × (y : Bytes) × (r.rest ≡ x ∷ y)
    by (inl x) =
        stopped x.upto x.more
        (subst (λ (c : Cut). CutLaw how.separators.terminator (cut_by how) r.rest c) x.stops (cut_law how.separators fit r.rest))
    by (inr (inl x)) =
        let z : CutLaw how.separators.terminator (cut_by how) r.rest (Whole x.segment x.more) =
        subst (λ (c : Cut). CutLaw how.separators.terminator (cut_by how) r.rest c) x.next (cut_law how.separators fit r.rest) in
        let i = cut_behind x.segment how.separators.terminator x.more in
        (i.0, i.1, z.0 ∙ i.2)
    by (inr (inr x)) = absurd (fault_room n f x.reason_is)

-- what was passed before a fault can be continued
pub fault_continues : (how : How) (t : Tables) (s : Bytes) (n : Reason) (k b e : ℕ) (kept : List Placed) (w : List ℕ) → T (fit_separators how.separators)
    → length s ≤ limit → Fault (number_of n) → Run (profile_of how) how t s (refused n k b e) kept w → Continues how s k b
fault_continues how t s n k b e kept w fit short f r =
    let x = fault_byte how (fitted how.separators fit) t s n k b e kept w f r in
    let p : Passed (profile_of how) how t s r.gs r.rows r.end (x.0 ∷ x.1) = rw x.2 at r.passed in
    subst (λ (place : ℕ). Continues how s k place) (sym (refused_byte (profile_of how) how t r.gs r.rows r.end r.rest n k b e kept w r.ends))
    (continues how (fitted how.separators fit) t s r.gs r.rows r.end x.0 x.1 p short k
    (sym (refused_segment (profile_of how) how t r.gs r.rows r.end r.rest n k b e kept w r.ends)))

-- The two laws of any way of cutting, `CutLaw` and `SkipLaw`, and what follows from them alone: of two ways to pass segments one begins the
-- other; segments that were passed stay so whatever follows them; segments added one after the other are cut again as they were.
-- Assumes nothing.
use Prim.Native.Nat.{ℕ, ◌+◌, ◌≤◌, ◌<◌}
use mathlib.Core.Path.{◌≡◌, refl, sym, ap, subst, ◌∙◌}
use mathlib.Core.Logic.{◌⊎◌, inl, inr}
use mathlib.Core.List.{List, [], ◌∷◌, ◌++◌, append_assoc}
use native.Mathlib.Omega.{arith}
use lib.Dec.{T}
use lib.ListN.{length, take, drop, length-append, take-append-drop}
use lib.Seq.{length-take-le, drop-append_seam}
use Rattle.text.specs.Bytes.{Bytes}
use Rattle.text.specs.Separators.{is_capital}
use Rattle.text.specs.Cut.{Cut, Whole, Stop, Placed, Leads}

-- a stop that blames a fault: it is numbered 10, and is made whatever follows the bytes that were looked at, of which there is one at least
pub record Faulty (cut : Bytes → Cut) (s : Bytes) (number element : ℕ) (upto more : Bytes) : Type 0 where
  pub is_10 : number ≡ 10
  pub whole : s ≡ upto ++ more
  pub some : 0 < length upto
  pub still : (x : Bytes) → cut (upto ++ x) ≡ Stop number element upto x

-- a cut depends on nothing beyond its end: the same segment is cut off whatever follows its terminator; and a stop is 3, or blames a fault
abbrev pub CutLaw : (terminator : ℕ) → (Bytes → Cut) → Bytes → Cut → Type 0
CutLaw t cut s (Whole segment more) = (s ≡ segment ++ t ∷ more) × ((x : Bytes) → cut (segment ++ t ∷ x) ≡ Whole segment x)
CutLaw t cut s (Stop number element upto more) = (number ≡ 3) ⊎ Faulty cut s number element upto more

-- a skip depends on no more than the byte after what is skipped, and passes over no capital letter
pub record SkipLaw (skip : Bytes → ℕ) : Type 0 where
  pub few : (s : Bytes) → skip s ≤ length s
  pub near : (gap : Bytes) (b b' : ℕ) (y z : Bytes) → (b' ≡ b) ⊎ T (is_capital b')
      → skip (gap ++ b ∷ y) ≡ length gap → skip (gap ++ b' ∷ z) ≡ length gap
  pub none : (b : ℕ) (z : Bytes) → T (is_capital b) → skip (b ∷ z) ≡ 0

-- a whole cut has one segment and one rest
pub whole_once : {g g' m m' : Bytes} → Whole g m ≡ Whole g' m' → (g ≡ g') × (m ≡ m')
whole_once p = (ap segment_of_lem p, ap more_of p)
  where
    segment_of_lem : Cut → Bytes
    segment_of_lem (Whole g m) = g
    segment_of_lem (Stop n e u m) = u

    more_of : Cut → Bytes
    more_of (Whole g m) = m
    more_of (Stop n e u m) = m

placed_once : (p q : Placed) → p.at ≡ q.at → p.segment ≡ q.segment → p ≡ q
placed_once p q a b = λ i. record { at = a i; segment = b i }

module _ (t : ℕ) (cut : Bytes → Cut) (skip : Bytes → ℕ) where
  abbrev Cuts : ℕ → Bytes → List Placed → ℕ → Bytes → Type 0
  Cuts at s gs end rest = Leads cut skip at s gs end rest

  -- gb goes on where ga ends
  pub record Longer (ga gb : List Placed) (rest : Bytes) (end : ℕ) : Type 0 where
    pub next : Placed
    pub after : List Placed
    pub more : Bytes
    pub longer : gb ≡ ga ++ (next ∷ after)
    pub cut_is : cut rest ≡ Whole next.segment more
    pub at_is : next.at ≡ end

  -- the same first segment leads to the same rest
  same_step : (at : ℕ) (h g : Placed) (ma mb : Bytes) (ga : List Placed) (ea : ℕ) (ra : Bytes) → h.segment ≡ g.segment → ma ≡ mb
      → Cuts (at + length h.segment + 1 + skip ma) (drop (skip ma) ma) ga ea ra
      → Cuts (at + length g.segment + 1 + skip mb) (drop (skip mb) mb) ga ea ra
  same_step at h g ma mb ga ea ra p q a =
      subst (λ (x : Bytes). Cuts (at + length x + 1 + skip mb) (drop (skip mb) mb) ga ea ra) p
      (subst (λ (m : Bytes). Cuts (at + length h.segment + 1 + skip m) (drop (skip m) m) ga ea ra) q a)

  -- of two ways to pass segments the shorter begins the longer
  pub leads_longer : (at : ℕ) (s : Bytes) (ga gb : List Placed) (ea eb : ℕ) (ra rb : Bytes) → Cuts at s ga ea ra → Cuts at s gb eb rb
      → length ga < length gb → Longer ga gb ra ea
  leads_longer at s ga [] ea eb ra rb a b l = absurd (omega arith)
  leads_longer at s [] (g ∷ gb) ea eb ra rb a b l =
      record { next = g; after = gb; more = b.0; longer = refl; cut_is = ap cut (sym a.1) ∙ b.1; at_is = b.2 ∙ a.0 }
  leads_longer at s (h ∷ ga) (g ∷ gb) ea eb ra rb a b l =
      let o = whole_once (sym a.1 ∙ b.1) in
      let i =
      leads_longer (at + length g.segment + 1 + skip b.0) (drop (skip b.0) b.0) ga gb ea eb ra rb
      (same_step at h g a.0 b.0 ga ea ra o.0 o.1 a.3) b.3 (omega arith) in
      let e = placed_once h g (a.2 ∙ sym b.2) o.0 in
      record { next = i.next; after = i.after; more = i.more; longer = cc (e, i.longer); cut_is = i.cut_is; at_is = i.at_is }

  -- and two of the same number are the same
  pub leads_once : (at : ℕ) (s : Bytes) (ga gb : List Placed) (ea eb : ℕ) (ra rb : Bytes) → Cuts at s ga ea ra → Cuts at s gb eb rb
      → length ga ≡ length gb → (ga ≡ gb) × (ea ≡ eb) × (ra ≡ rb)
  leads_once at s [] [] ea eb ra rb a b l = (refl, sym a.0 ∙ b.0, sym a.1 ∙ b.1)
  leads_once at s [] (g ∷ gb) ea eb ra rb a b l = absurd (omega arith)
  leads_once at s (h ∷ ga) [] ea eb ra rb a b l = absurd (omega arith)
  leads_once at s (h ∷ ga) (g ∷ gb) ea eb ra rb a b l =
      let o = whole_once (sym a.1 ∙ b.1) in
      let i =
      leads_once (at + length g.segment + 1 + skip b.0) (drop (skip b.0) b.0) ga gb ea eb ra rb
      (same_step at h g a.0 b.0 ga ea ra o.0 o.1 a.3) b.3 (omega arith) in
      let e = placed_once h g (a.2 ∙ sym b.2) o.0 in
      (cc (e, i.0), i.1, i.2)

  -- segments after segments
  pub leads_behind : (at : ℕ) (s : Bytes) (gs hs : List Placed) (mid end : ℕ) (rest last : Bytes) → Cuts at s gs mid rest
      → Cuts mid rest hs end last → Cuts at s (gs ++ hs) end last
  leads_behind at s [] hs mid end rest last a b = rw (← a.0, ← a.1) at b
  leads_behind at s (g ∷ gs) hs mid end rest last a b = (
    a.0,
    a.1,
    a.2,
    leads_behind (at + length g.segment + 1 + skip a.0) (drop (skip a.0) a.0) gs hs mid end rest last a.3 b,
  )

  module _ (laws : (s : Bytes) → CutLaw t cut s (cut s)) (skips : SkipLaw skip) where
    -- what stands before the rest, and that the same segments lead to it from the same front, as long as its first byte stays or is a capital
    pub record Front (at : ℕ) (s : Bytes) (gs : List Placed) (end b : ℕ) (y : Bytes) : Type 0 where
      pub front : Bytes
      pub whole : s ≡ front ++ b ∷ y
      pub end_is : end ≡ at + length front
      pub still : (b' : ℕ) (z : Bytes) → (b' ≡ b) ⊎ T (is_capital b') → Cuts at (front ++ b' ∷ z) gs end (b' ∷ z)

    whole_law : (s : Bytes) (r : Cut) → cut s ≡ r → (g m : Bytes) → r ≡ Whole g m
        → (s ≡ g ++ t ∷ m) × ((x : Bytes) → cut (g ++ t ∷ x) ≡ Whole g x)
    whole_law s r e g m f = subst (λ (r : Cut). CutLaw t cut s r) (e ∙ f) (laws s)

    near_front : (gap front : Bytes) (b b' : ℕ) (y z : Bytes) → (b' ≡ b) ⊎ T (is_capital b')
        → skip (gap ++ (front ++ b ∷ y)) ≡ length gap → skip (gap ++ (front ++ b' ∷ z)) ≡ length gap
    near_front gap [] b b' y z o e = skips.near gap b b' y z o e
    near_front gap (x ∷ f) b b' y z o e = skips.near gap x x (f ++ b ∷ y) (f ++ b' ∷ z) (inl refl) e

    -- one segment more in front
    front_more : (at : ℕ) (s : Bytes) (p : Placed) (ps : List Placed) (end b : ℕ) (y m : Bytes)
        → (s ≡ p.segment ++ t ∷ m) × ((x : Bytes) → cut (p.segment ++ t ∷ x) ≡ Whole p.segment x)
        → (gap : Bytes) → length gap ≡ skip m → m ≡ gap ++ drop (skip m) m → p.at ≡ at
        → (front : Bytes) → drop (skip m) m ≡ front ++ b ∷ y → end ≡ at + length p.segment + 1 + skip m + length front
        → ((b' : ℕ) (z : Bytes) → (b' ≡ b) ⊎ T (is_capital b') → Cuts (at + length p.segment + 1 + skip m) (front ++ b' ∷ z) ps end (b' ∷ z))
        → Front at s (p ∷ ps) end b y
    front_more at s p ps end b y m w gap gl gm pa front fw fe still =
        let m-is : m ≡ gap ++ (front ++ b ∷ y) = gm ∙ ap (λ (x : Bytes). gap ++ x) fw in
        let sk : skip (gap ++ (front ++ b ∷ y)) ≡ length gap = ap skip (sym m-is) ∙ sym gl in
        record {
          front = p.segment ++ t ∷ (gap ++ front);
          whole = w.0 ∙ ap (λ (x : Bytes). p.segment ++ t ∷ x) m-is ∙ rw (append_assoc, append_assoc);
          end_is = rw (length-append p.segment (t ∷ (gap ++ front)), length-append gap front) (omega (arith, fe, gl));
          still = λ b' z o.
              let n = near_front gap front b b' y z o sk in
              let q : skip (gap ++ (front ++ b' ∷ z)) ≡ skip m = n ∙ gl in (
                gap ++ (front ++ b' ∷ z),
                ap cut (rw (append_assoc, append_assoc)) ∙ w.1 (gap ++ (front ++ b' ∷ z)),
                pa,
                rw (q, ← gl, drop-append_seam gap (front ++ b' ∷ z)) (rw (← gl) at (still b' z o)),
              );
        }

    pub leads_front : (at : ℕ) (s : Bytes) (gs : List Placed) (end b : ℕ) (y : Bytes) → Cuts at s gs end (b ∷ y) → Front at s gs end b y
    leads_front at s [] end b y c = record { front = []; whole = c.1; end_is = omega (arith, c.0); still = λ b' z o. (c.0, refl) }
    leads_front at s (p ∷ ps) end b y c =
        let m = c.0 in
        let i = leads_front (at + length p.segment + 1 + skip m) (drop (skip m) m) ps end b y c.3 in
        front_more at s p ps end b y m (whole_law s (Whole p.segment m) c.1 p.segment m refl) (take (skip m) m)
        (length-take-le (skip m) m (skips.few m)) (sym (take-append-drop (skip m) m)) c.2 i.front i.whole i.end_is i.still

    -- a segment that can be added behind others: it begins with a capital letter and is cut whole
    pub record Addable (g : Bytes) : Type 0 where
      pub first : ℕ
      pub tail : Bytes
      pub is : g ≡ first ∷ tail
      pub capital : T (is_capital first)
      pub cut_is : (x : Bytes) → cut (g ++ t ∷ x) ≡ Whole g x

    abbrev pub AllAddable : List Bytes → Type 0
    AllAddable [] = Unit {0}
    AllAddable (g ∷ gs) = Addable g × AllAddable gs

    -- segments with a terminator after each, where they start, and where the last ends
    abbrev pub ended : List Bytes → Bytes
    ended [] = []
    ended (g ∷ gs) = g ++ t ∷ ended gs

    abbrev pub places : ℕ → List Bytes → List Placed
    places at [] = []
    places at (g ∷ gs) = record { at = at; segment = g } ∷ places (at + length g + 1) gs

    abbrev pub past : ℕ → List Bytes → ℕ
    past at [] = at
    past at (g ∷ gs) = past (at + length g + 1) gs

    no_skip : (gs : List Bytes) → AllAddable gs → skip (ended gs) ≡ 0
    no_skip [] a = omega (arith, skips.few [])
    no_skip (g ∷ gs) a =
        ap (λ (x : Bytes). skip (x ++ t ∷ ended gs)) a.0.is ∙ skips.none a.0.first (a.0.tail ++ t ∷ ended gs) a.0.capital

    pub leads_added : (at : ℕ) (gs : List Bytes) → AllAddable gs → Cuts at (ended gs) (places at gs) (past at gs) []
    leads_added at [] a = (refl, refl)
    leads_added at (g ∷ gs) a = (
      ended gs,
      a.0.cut_is (ended gs),
      refl,
      rw (no_skip gs a.1, add_zero (at + length g + 1)) (leads_added (at + length g + 1) gs a.1),
    )
      where
        add_zero : (n : ℕ) → n + 0 ≡ n
        add_zero n = omega arith

    -- what was passed, continued by such segments
    pub leads_on : (at : ℕ) (s : Bytes) (gs : List Placed) (end b : ℕ) (y : Bytes) → Cuts at s gs end (b ∷ y) → (h : Bytes) (hs : List Bytes)
        → AllAddable (h ∷ hs)
        → (front : Bytes) × (s ≡ front ++ b ∷ y) × (end ≡ at + length front)
        × Cuts at (front ++ ended (h ∷ hs)) (gs ++ places end (h ∷ hs)) (past end (h ∷ hs)) []
    leads_on at s gs end b y c h hs a =
        let f = leads_front at s gs end b y c in
        let m = a.0 in
        let i : h ++ t ∷ ended hs ≡ m.first ∷ (m.tail ++ t ∷ ended hs) = ap (λ (x : Bytes). x ++ t ∷ ended hs) m.is in
        let z = f.still m.first (m.tail ++ t ∷ ended hs) (inr m.capital) in (
          f.front,
          f.whole,
          f.end_is,
          leads_behind at (f.front ++ ended (h ∷ hs)) gs (places end (h ∷ hs)) end (past end (h ∷ hs)) (ended (h ∷ hs)) []
              (subst (λ (x : Bytes). Cuts at (f.front ++ x) gs end x) (sym i) z) (leads_added end (h ∷ hs) a),
        )

-- A verdict is final: a fault at a segment stands whatever follows what the cut has looked at and with any larger tables, and so does an
-- acceptance. It follows from the laws of the cut alone.
-- Assumes nothing.
use Prim.Native.Nat.{ℕ, ◌+◌, ◌<◌}
use mathlib.Core.Path.{◌≡◌, refl, sym, ap, subst, ◌∙◌}
use mathlib.Core.Logic.{◌⊎◌, inl, inr}
use mathlib.Core.List.{List, [], ◌∷◌, ◌++◌, append_assoc}
use native.Mathlib.Omega.{arith}
use lib.ListN.{length, take, drop, length-append}
use lib.Seq.{take_at, drop_at}
use Rattle.text.specs.Bytes.{Bytes}
use Rattle.text.specs.Separators.{Fitted}
use Rattle.text.specs.View.{View, view_of}
use Rattle.text.specs.Cut.{Cut, Whole, Placed}
use Rattle.text.proofs.CutLaws.{Faulty, CutLaw, Front, leads_front}
use Rattle.text.proofs.DocumentCut.{cut_law}
use Rattle.text.proofs.LineEnds.{skip_law}
use Rattle.elements.specs.Reasons.{number_of}
use Rattle.elements.specs.declared.verdict.Reason.{Reason}
use Rattle.gate.specs.Answers.{accepted, refused, Fault}
use Rattle.gate.specs.Profile.{Profile}
use Rattle.gate.specs.Segments.{seen, onto}
use Rattle.gate.specs.Records.{Tables, Room}
use Rattle.gate.specs.Reads.{cut_by, skip_by, Passed, Run}
use Rattle.gate.specs.Conditions.{Larger, looked_at, up_to_segment, BeginsWith}
use Rattle.gate.specs.declared.how.How.{How}
use Rattle.gate.proofs.reading.Numbers.{fault_room}
use Rattle.gate.proofs.reading.Once.{Fails, refused_fails, refused_byte}

-- room in a table is room in a larger one
pub room_larger : (profile : Profile) (t u : Tables) (h : List View) → Larger t u → Room profile t h → Room profile u h
room_larger profile t u h l r = record { segments_fit = omega (arith, r.segments_fit, l.segments); levels_fit = omega (arith, r.levels_fit, l.levels) }

-- what was passed is passed again where the first byte of the rest stays, in larger tables
module _ (profile : Profile) (how : How) (fit : Fitted how.separators) (t u : Tables) (larger : Larger t u) where
  passed_again : (s : Bytes) (gs : List Placed) (rows : List ℕ) (end b : ℕ) (y z : Bytes) → Passed profile how t s gs rows end (b ∷ y)
      → (f : Front how.separators.terminator (cut_by how) (skip_by how) (cut_law how.separators fit) (skip_law how.separators how.lines) 0 s gs end b y)
      → Passed profile how u (f.front ++ b ∷ z) gs rows end (b ∷ z)
  passed_again s gs rows end b y z p f = record {
    leads = f.still b z (inl refl);
    viable = p.viable;
    admitted = p.admitted;
    tags = p.tags;
    kept = p.kept;
    ongoing = p.ongoing;
    room = room_larger profile t u (onto [] (seen how gs)) larger p.room;
  }

  -- the whole part of a cut, and what it keeps
  whole_keeps : (rest g m : Bytes) → cut_by how rest ≡ Whole g m → CutLaw how.separators.terminator (cut_by how) rest (Whole g m)
  whole_keeps rest g m e = subst (λ (c : Cut). CutLaw how.separators.terminator (cut_by how) rest c) e (cut_law how.separators fit rest)

  -- bytes whose rest begins with what was looked at, which is not empty
  record Looked (s : Bytes) (gs : List Placed) (rows : List ℕ) (end : ℕ) (x old : Bytes) : Type 0 where
    pub front : Bytes
    pub whole : s ≡ front ++ (x ++ old)
    pub place : end ≡ length front
    pub again : (more : Bytes) → Passed profile how u (front ++ (x ++ more)) gs rows end (x ++ more)

  looked : (s : Bytes) (gs : List Placed) (rows : List ℕ) (end : ℕ) (x old : Bytes) → Passed profile how t s gs rows end (x ++ old) → 0 < length x
      → Looked s gs rows end x old
  looked s gs rows end [] old p l = absurd (omega arith)
  looked s gs rows end (b ∷ x) old p l =
      let f =
      leads_front how.separators.terminator (cut_by how) (skip_by how) (cut_law how.separators fit) (skip_law how.separators how.lines) 0 s gs end b
      (x ++ old) p.leads in
      record {
        front = f.front;
        whole = f.whole;
        place = omega (arith, f.end_is);
        again = λ more. passed_again s gs rows end b (x ++ old) (x ++ more) p f;
      }

  -- bytes up to the end of the segment, from the place of the answer
  upto_is : (s front x old : Bytes) (b : ℕ) → s ≡ front ++ (x ++ old) → b ≡ length front → looked_at how (cut_by how (x ++ old)) ≡ x
      → up_to_segment how s b ≡ front ++ x
  upto_is s front x old b e l k =
      let d : drop b s ≡ x ++ old = ap (drop b) e ∙ drop_at front (x ++ old) b (sym l) in
      let a : take b s ≡ front = ap (take b) e ∙ take_at front (x ++ old) b (sym l) in
      rw (a, d, k)

  -- what a fault rests on: bytes at the start of the rest, not none, that the cut has looked at; and the same fault whatever follows them
  record Rests (gs : List Placed) (rows : List ℕ) (end : ℕ) (rest : Bytes) (n : Reason) (e : ℕ) : Type 0 where
    pub x : Bytes
    pub old : Bytes
    pub some : 0 < length x
    pub rest_is : rest ≡ x ++ old
    pub looked_is : looked_at how (cut_by how (x ++ old)) ≡ x
    pub still : (more : Bytes) → Fails profile how u gs rows end (x ++ more) n e

  rests : (gs : List Placed) (rows : List ℕ) (end : ℕ) (rest : Bytes) (n : Reason) (e : ℕ) → Fault (number_of n) → Fails profile how t gs rows end rest n e
      → Rests gs rows end rest n e
  rests gs rows end rest n e fault (inl x) =
      stop x.upto x.more (subst (λ (c : Cut). CutLaw how.separators.terminator (cut_by how) rest c) x.stops (cut_law how.separators fit rest))
    where
      stop : (upto old : Bytes) → (number_of n ≡ 3) ⊎ Faulty (cut_by how) rest (number_of n) e upto old → Rests gs rows end rest n e
      stop upto old (inl y) = absurd (omega (arith, y, fault.from))
      stop upto old (inr y) = record {
        x = upto;
        old = old;
        some = y.some;
        rest_is = y.whole;
        looked_is = ap (looked_at how) (y.still old);
        still = λ more. inl (record { upto = upto; more = more; stops = y.still more });
      }
  rests gs rows end rest n e fault (inr (inl x)) =
      let g = x.segment in
      let end_mark = how.separators.terminator in
      let y = whole_keeps rest g x.more x.next in
      let cut : (z : Bytes) → cut_by how ((g ++ end_mark ∷ []) ++ z) ≡ Whole g z = λ z. ap (cut_by how) (append_assoc g (end_mark ∷ []) z) ∙ y.1 z in
      record {
        x = g ++ end_mark ∷ [];
        old = x.more;
        some = rw (length-append g (end_mark ∷ [])) (omega arith);
        rest_is = y.0 ∙ sym (append_assoc g (end_mark ∷ []) x.more);
        looked_is = ap (looked_at how) (cut x.more);
        still = λ more. inr (inl (record { segment = g; more = more; next = cut more; first = x.first }));
      }
  rests gs rows end rest n e fault (inr (inr x)) = absurd (fault_room n fault x.reason_is)

  -- a fault, in the bytes
  module _ (s : Bytes) (n : Reason) (k b e : ℕ) (kept : List Placed) (w : List ℕ) (fault : Fault (number_of n)) (r : Run profile how t s (refused n k b e) kept w) where
    on : Rests r.gs r.rows r.end r.rest n e
    on = rests r.gs r.rows r.end r.rest n e fault (refused_fails profile how t r.gs r.rows r.end r.rest n k b e kept w r.ends)

    there : Looked s r.gs r.rows r.end on.x on.old
    there = looked s r.gs r.rows r.end on.x on.old (rw on.rest_is at r.passed) on.some

    front_is : up_to_segment how s b ≡ there.front ++ on.x
    front_is =
        upto_is s there.front on.x on.old b there.whole
        (refused_byte profile how t r.gs r.rows r.end r.rest n k b e kept w r.ends ∙ there.place) on.looked_is

    -- the bytes up to the end of its segment begin the input
    pub refusal_begun : BeginsWith (up_to_segment how s b) s
    refusal_begun = (on.old, there.whole ∙ rw (front_is, append_assoc))

    -- it stands whatever follows them
    pub refusal_stands : (more : Bytes) → Run profile how u (up_to_segment how s b ++ more) (refused n k b e) kept w
    refusal_stands more =
        rw (front_is, append_assoc)
        (record {
          gs = r.gs;
          rows = r.rows;
          end = r.end;
          rest = on.x ++ more;
          passed = there.again more;
          ends = record {
            reason = n;
            element = e;
            cause = on.still more;
            kept_is = r.ends.kept_is;
            numbers_is = r.ends.numbers_is;
            place = cc r.ends.place;
          };
        })

  -- an acceptance stands
  pub acceptance_stands : (s : Bytes) (a l c : ℕ) (kept : List Placed) (w : List ℕ) → Run profile how t s (accepted a l c) kept w
      → (more : Bytes) → Run profile how u (take c s ++ more) (accepted a l c) kept w
  acceptance_stands s a l c kept w r more =
      let x = r.ends in
      let g = x.segment in
      let end_mark = how.separators.terminator in
      let old = x.keeping.more in
      let y = whole_keeps r.rest g old x.keeping.next in
      let i : r.rest ≡ (g ++ end_mark ∷ []) ++ old = y.0 ∙ sym (append_assoc g (end_mark ∷ []) old) in
      let z = looked s r.gs r.rows r.end (g ++ end_mark ∷ []) old (rw i at r.passed) (rw (length-append g (end_mark ∷ [])) (omega arith)) in
      let used : c ≡ r.end + length g + 1 = cc x.counts in
      let n : length (z.front ++ (g ++ end_mark ∷ [])) ≡ c = simp length-append (omega (arith, used, z.place)) in
      let front : take c s ≡ z.front ++ (g ++ end_mark ∷ []) =
      ap (take c) (z.whole ∙ sym (append_assoc z.front (g ++ end_mark ∷ []) old))
      ∙ take_at (z.front ++ (g ++ end_mark ∷ [])) old c n in
      rw (front, append_assoc)
      (record {
        gs = r.gs;
        rows = r.rows;
        end = r.end;
        rest = (g ++ end_mark ∷ []) ++ more;
        passed = z.again more;
        ends = record {
          segment = g;
          row = x.row;
          keeping = record { more = more; next = ap (cut_by how) (append_assoc g (end_mark ∷ []) more) ∙ y.1 more; sound = x.keeping.sound };
          last = x.last;
          room = room_larger profile t u (view_of how.separators g ∷ onto [] (seen how r.gs)) larger x.room;
          kept_is = x.kept_is;
          numbers_is = x.numbers_is;
          counts = x.counts;
        };
      })

-- Line ends taken out. A report that is read past its line ends gets the verdict, the elements, the rows and the levels that the same bytes without
-- them get strictly; only the places are others.
-- Assumes nothing.
use Prim.Native.Nat.{ℕ, ◌+◌, ◌≤◌}
use mathlib.Core.Path.{◌≡◌, refl, sym, ap, subst, ◌∙◌}
use mathlib.Core.List.{List, [], ◌∷◌, ◌++◌, map, append_assoc}
use native.Mathlib.Omega.{arith}
use lib.Dec.{T}
use lib.ListN.{length, drop, length-append, length-drop}
use borrow.Author.Tests.{le-leb}
use Rattle.std.proofs.Common.{Ok, Err}
use Rattle.text.specs.Bytes.{Bytes}
use Rattle.text.specs.Separators.{Fitted, fit_separators}
use Rattle.text.specs.Pieces.{closed}
use Rattle.text.specs.Cut.{Cut, Whole, cut_of, Placed, line_end}
use Rattle.text.specs.declared.lines.LineEnds.TheVariants.{Skipped, Strict}
use Rattle.text.specs.declared.separators.Separators.{Separators}
use Rattle.text.proofs.Bools.{passes}
use Rattle.text.proofs.View.{fitted}
use Rattle.text.proofs.CutLaws.{CutLaw}
use Rattle.text.proofs.DocumentCut.{cut_law}
use Rattle.rows.specs.declared.profile.ProfileName.{ProfileName}
use Rattle.elements.specs.Reasons.{number_of}
use Rattle.gate.specs.Profile.{Profile, profile_of}
use Rattle.gate.specs.Segments.{seen, onto, levels_in}
use Rattle.gate.specs.Answers.{Answer, accepted, refused}
use Rattle.gate.specs.Records.{Tables, recorded}
use Rattle.gate.specs.Reads.{limit, Ends, Read, ReadsBy, Reads}
use Rattle.gate.proofs.reading.Moved.{reading, passed_moved, room_moved, keeping_moved, fails_moved}
use Rattle.gate.proofs.conditions.Conditions.{reads_read}
use Rattle.gate.proofs.conditions.LineEnds.{Led, split}

-- the bytes of segments, each with its terminator, and nothing between them
abbrev pub bare : Separators → List Placed → Bytes
bare q gs = closed q.terminator (map (λ (g : Placed). g.segment) gs)

-- the segments as they stand there, from the byte `at` on
abbrev pub closed_up : ℕ → List Placed → List Placed
closed_up at [] = []
closed_up at (g ∷ gs) = record { at = at; segment = g.segment } ∷ closed_up (at + length g.segment + 1) gs

-- the same but for the numbers of bytes
abbrev pub SameVerdict : Answer → Answer → Type 0
SameVerdict (Ok a) (Ok a') = (a.segments ≡ a'.segments) × (a.levels ≡ a'.levels)
SameVerdict (Ok a) (Err r) = ⊥
SameVerdict (Err r) (Ok a) = ⊥
SameVerdict (Err r) (Err r') = (r.reason ≡ r'.reason) × (r.segment ≡ r'.segment) × (r.element ≡ r'.element)

-- what the strict reading says of bytes whose line ends are taken out
pub record TakenOut (name : ProfileName) (q : Separators) (s : Bytes) (before : Tables) (r : Answer) (after : Tables) : Type 0 where
  -- the segments before the last one that was looked at, past line ends, and the bytes from that one on
  pub gs : List Placed
  pub end : ℕ
  pub rest : Bytes
  pub led : Led q Skipped 0 s gs end rest
  -- the bytes without those line ends, read strictly, get the same verdict,
  pub answer : Answer
  pub tables : Tables
  pub reads : Reads (reading name q Strict) (bare q gs ++ rest) before answer tables
  pub verdict : SameVerdict r answer
  -- and the tables show the same segments by the same rows, with the same elements, where they stand now; and the same levels
  pub kept : List Placed
  pub rows : List ℕ
  pub shown : after ≡ recorded (profile_of (reading name q Skipped)) (reading name q Skipped) before kept rows
  pub shown_strictly : tables ≡ recorded (profile_of (reading name q Strict)) (reading name q Strict) before (closed_up 0 kept) rows
  pub elements : seen (reading name q Strict) (closed_up 0 kept) ≡ seen (reading name q Skipped) kept
  pub levels : tables.levels ≡ after.levels

seen_closed : (name : ProfileName) (q : Separators) (at : ℕ) (gs : List Placed) → seen (reading name q Strict) (closed_up at gs) ≡ seen (reading name q Skipped) gs
seen_closed name q at [] = refl
seen_closed name q at (g ∷ gs) = rw (seen_closed name q (at + length g.segment + 1) gs)

length-closed : (at : ℕ) (gs : List Placed) → length (closed_up at gs) ≡ length gs
length-closed at [] = refl
length-closed at (g ∷ gs) = rw (length-closed (at + length g.segment + 1) gs)

module _ (q : Separators) where
  bare_length : (g : Placed) (gs : List Placed) → length (bare q (g ∷ gs)) ≡ length g.segment + 1 + length (bare q gs)
  bare_length g gs = length-append g.segment (q.terminator ∷ bare q gs) ∙ omega arith

  -- one segment more
  closed_more : (at e : ℕ) (gs : List Placed) (g : Bytes) (end : ℕ) → end ≡ at + length (bare q gs)
      → closed_up at (gs ++ (record { at = e; segment = g } ∷ [])) ≡ closed_up at gs ++ (record { at = end; segment = g } ∷ [])
  closed_more at e [] g end is = let z : at ≡ end = omega (arith, is) in rw z
  closed_more at e (p ∷ gs) g end is =
      ap (λ (l : List Placed). record { at = at; segment = p.segment } ∷ l)
      (closed_more (at + length p.segment + 1) e gs g end (omega (arith, is, bare_length p gs)))

  -- the bytes without line ends are no longer
  bare_short : (at : ℕ) (s : Bytes) (gs : List Placed) (end : ℕ) (rest : Bytes) → Led q Skipped at s gs end rest → length (bare q gs ++ rest) ≤ length s
  bare_short at s [] end rest l = omega (arith, ap length l.1)
  bare_short at s (g ∷ gs) end rest l =
      let more = l.0 in
      let skip = line_end q more in
      let later = bare_short (at + length g.segment + 1 + skip) (drop skip more) gs end rest l.3 in
      let whole : length s ≡ length g.segment + 1 + length more =
      ap length (split q s g.segment more l.1) ∙ length-append g.segment (q.terminator ∷ more) ∙ omega arith in
      omega (arith, later, whole, length-drop skip more, length-append (bare q (g ∷ gs)) rest, length-append (bare q gs) rest, bare_length g gs)

  -- and the strict cut gives the same segments off them
  bare_led : Fitted q → (at from : ℕ) (s : Bytes) (gs : List Placed) (end to : ℕ) (rest : Bytes) → Led q Skipped from s gs end rest → to ≡ at + length (bare q gs)
      → Led q Strict at (bare q gs ++ rest) (closed_up at gs) to rest
  bare_led fit at from s [] end to rest l is = (omega (arith, is), refl)
  bare_led fit at from s (g ∷ gs) end to rest l is =
      let more = l.0 in
      let law : (s ≡ g.segment ++ q.terminator ∷ more) × ((x : Bytes) → cut_of q (g.segment ++ q.terminator ∷ x) ≡ Whole g.segment x) =
      subst (λ (c : Cut). CutLaw q.terminator (cut_of q) s c) l.1 (cut_law q fit s) in
      let next : at + length g.segment + 1 ≡ at + length g.segment + 1 + 0 = omega arith in (
        bare q gs ++ rest,
        ap (cut_of q) (append_assoc g.segment (q.terminator ∷ bare q gs) rest) ∙ law.1 (bare q gs ++ rest),
        refl,
        rw (← next)
            (bare_led fit (at + length g.segment + 1) (from + length g.segment + 1 + line_end q more) (drop (line_end q more) more) gs end to rest l.3
            (omega (arith, is, bare_length g gs))),
      )

-- how the reading of the bytes without line ends ends
module _ (profile : Profile) (name : ProfileName) (q : Separators) (before : Tables) (gs : List Placed) (rows : List ℕ) (end : ℕ) (rest : Bytes) where
  abbrev to : ℕ
  to = length (bare q gs)

  record EndsStrictly (r : Answer) (kept : List Placed) (numbers : List ℕ) : Type 0 where
    answer : Answer
    ends : Ends profile (reading name q Strict) before (closed_up 0 gs) rows to rest answer (closed_up 0 kept) numbers
    verdict : SameVerdict r answer

  ends_strictly : (r : Answer) (kept : List Placed) (numbers : List ℕ) → Ends profile (reading name q Skipped) before gs rows end rest r kept numbers
      → EndsStrictly r kept numbers
  ends_strictly (Ok a) kept numbers x = record {
    answer = accepted a.segments a.levels (to + length x.segment + 1);
    ends = record {
      segment = x.segment;
      row = x.row;
      keeping = keeping_moved profile name q Skipped Strict before gs (closed_up 0 gs) rows end to rest (seen_closed name q 0 gs) x.segment x.row x.keeping;
      last = x.last;
      room = room_moved profile name q Skipped Strict before gs (closed_up 0 gs) rows end to rest (seen_closed name q 0 gs) x.segment x.room;
      kept_is = ap (closed_up 0) x.kept_is ∙ closed_more q 0 end gs x.segment to (omega arith);
      numbers_is = x.numbers_is;
      counts =
          let c = x.counts in
          let n : a.segments ≡ length kept = cc in
          let l : a.levels ≡ length (levels_in profile (onto [] (seen (reading name q Skipped) kept))) = cc in
          rw (length-closed 0 kept, seen_closed name q 0 kept, n, l);
    };
    verdict = (refl, refl);
  }
  ends_strictly (Err r) kept numbers x = record {
    answer = refused r.reason r.segment to r.element;
    ends = record {
      reason = x.reason;
      element = x.element;
      cause = fails_moved profile name q Skipped Strict before gs (closed_up 0 gs) rows end to rest (seen_closed name q 0 gs) x.reason x.element x.cause;
      kept_is = ap (closed_up 0) x.kept_is;
      numbers_is = x.numbers_is;
      place =
          let c = x.place in
          let n : number_of r.reason ≡ number_of x.reason = cc in
          let k : r.segment ≡ length gs + 1 = cc in
          let e : r.element ≡ x.element = cc in
          rw (length-closed 0 gs, n, k, e);
    };
    verdict = (refl, refl, refl);
  }

-- it leaves the same levels
levels_closed : (profile : Profile) (name : ProfileName) (q : Separators) (before : Tables) (gs : List Placed) (rows : List ℕ)
    → (recorded profile (reading name q Strict) before (closed_up 0 gs) rows).levels ≡ (recorded profile (reading name q Skipped) before gs rows).levels
levels_closed profile name q before gs rows = rw (seen_closed name q 0 gs)

-- a report read past its line ends, and the same bytes without them, read strictly
pub line_ends_taken_out : (name : ProfileName) (q : Separators) (s : Bytes) → T (fit_separators q) → length s ≤ limit → (before : Tables) (r : Answer) (after : Tables)
    → Reads (reading name q Skipped) s before r after → TakenOut name q s before r after
unfolding ReadsBy
line_ends_taken_out name q s fit short before r after y =
    let profile = profile_of (reading name q Strict) in
    let read = reads_read (reading name q Skipped) s fit short before r after y in
    let x = read.run in
    let t = bare q x.gs ++ x.rest in
    let led = bare_led q (fitted q fit) 0 0 s x.gs x.end (length (bare q x.gs)) x.rest x.passed.leads (omega arith) in
    let last = ends_strictly profile name q before x.gs x.rows x.end x.rest r read.kept read.numbers x.ends in
    let tables = recorded profile (reading name q Strict) before (closed_up 0 read.kept) read.numbers in
    let strict : Read profile (reading name q Strict) t before last.answer tables =
    record {
      kept = closed_up 0 read.kept;
      numbers = read.numbers;
      run = record {
        gs = closed_up 0 x.gs;
        rows = x.rows;
        end = length (bare q x.gs);
        rest = x.rest;
        passed = passed_moved profile name q Skipped Strict before x.gs (closed_up 0 x.gs) x.rows x.end (length (bare q x.gs)) x.rest
            (seen_closed name q 0 x.gs) s t led x.passed;
        ends = last.ends;
      };
      tables = refl;
    } in
    let within : length t ≤ limit = omega (arith, short, bare_short q 0 s x.gs x.end x.rest x.passed.leads) in
    record {
      gs = x.gs;
      end = x.end;
      rest = x.rest;
      led = x.passed.leads;
      answer = last.answer;
      tables = tables;
      reads = rw (passes (fit_separators q) fit, le-leb (length t) limit within) strict;
      verdict = last.verdict;
      kept = read.kept;
      rows = read.numbers;
      shown = read.tables;
      shown_strictly = refl;
      elements = seen_closed name q 0 read.kept;
      levels = levels_closed profile name q before read.kept read.numbers ∙ sym (ap (λ (t : Tables). t.levels) read.tables);
    }

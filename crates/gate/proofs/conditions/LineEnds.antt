-- What the choice of line ends changes of a reading, and what it does not. Where no line end stands behind a segment, nothing. And read past its line
-- ends a report gets the verdict, the elements, the rows and the levels that it gets strictly once they are taken out.
-- Assumes nothing.
use Prim.Native.Nat.{ℕ, ◌+◌}
use mathlib.Core.Path.{◌≡◌, refl, ap, subst, ◌∙◌}
use mathlib.Core.Logic.{◌↔◌}
use mathlib.Core.Bool.{Bool, true, false}
use mathlib.Core.List.{List, [], ◌∷◌, ◌++◌, append_assoc}
use lib.Dec.{leb}
use lib.ListN.{length}
use Rattle.std.proofs.Common.{Ok, Err}
use Rattle.text.specs.Bytes.{Bytes}
use Rattle.text.specs.Separators.{fit_separators}
use Rattle.text.specs.Cut.{Cut, Whole, cut_of, skip_of, Placed, Leads, line_end}
use Rattle.text.specs.declared.lines.LineEnds.{LineEnds}
use Rattle.text.specs.declared.lines.LineEnds.TheVariants.{Skipped, Strict}
use Rattle.text.specs.declared.separators.Separators.{Separators}
use Rattle.text.proofs.DocumentCut.{Splits, cut_splits}
use Rattle.rows.specs.declared.profile.ProfileName.{ProfileName}
use Rattle.gate.specs.Profile.{profile_of}
use Rattle.gate.specs.Answers.{Answer}
use Rattle.gate.specs.Records.{Tables}
use Rattle.gate.specs.Reads.{limit, Ends, Read, ReadsWithin, ReadsFit, ReadsBy, Reads}
use Rattle.gate.proofs.reading.Moved.{reading, recorded_same, passed_moved, room_moved, keeping_moved, fails_moved}

-- The segments gs lead so from the bytes s by this choice
abbrev pub Led : Separators → LineEnds → ℕ → Bytes → List Placed → ℕ → Bytes → Type 0
Led q lines at s gs end rest = Leads (cut_of q) (skip_of lines q) at s gs end rest

-- a segment that is cut off stands in front of its terminator
pub split : (q : Separators) (s g more : Bytes) → cut_of q s ≡ Whole g more → s ≡ g ++ q.terminator ∷ more
split q s g more cut = subst (λ (c : Cut). Splits q s c) cut (cut_splits q s)

-- No line end
-- behind whatever segments the bytes begin with, cut strictly, there stands no line end
abbrev pub NoneFrom : Separators → ℕ → Bytes → Type 0
NoneFrom q at s = (g : Placed) (gs : List Placed) (end : ℕ) (rest : Bytes) → Led q Strict at s (g ∷ gs) end rest → line_end q rest ≡ 0

module _ (q : Separators) where
  -- one segment: none stands behind it, nor behind those that follow it
  none_behind : (at : ℕ) (s : Bytes) → NoneFrom q at s → (g : Placed) (more : Bytes) → cut_of q s ≡ Whole g.segment more → g.at ≡ at
      → (line_end q more ≡ 0) × NoneFrom q (at + length g.segment + 1 + 0) more
  none_behind at s none g more cut is = (
    none g [] (at + length g.segment + 1 + 0) more (more, cut, is, (refl, refl)),
    λ h gs end rest l. none g (h ∷ gs) end rest (more, cut, is, l),
  )

  -- so both choices cut the same segments off
  strictly_led : (at : ℕ) (s : Bytes) → NoneFrom q at s → (gs : List Placed) (end : ℕ) (rest : Bytes) → Led q Skipped at s gs end rest → Led q Strict at s gs end rest
  strictly_led at s none [] end rest l = l
  strictly_led at s none (g ∷ gs) end rest l =
      let b = none_behind at s none g l.0 l.1 l.2 in
      (l.0, l.1, l.2, strictly_led (at + length g.segment + 1 + 0) l.0 b.1 gs end rest (rw b.0 at l.3))

  skipping_led : (at : ℕ) (s : Bytes) → NoneFrom q at s → (gs : List Placed) (end : ℕ) (rest : Bytes) → Led q Strict at s gs end rest → Led q Skipped at s gs end rest
  skipping_led at s none [] end rest l = l
  skipping_led at s none (g ∷ gs) end rest l =
      let b = none_behind at s none g l.0 l.1 l.2 in
      (l.0, l.1, l.2, rw b.0 (skipping_led (at + length g.segment + 1 + 0) l.0 b.1 gs end rest l.3))

  -- from one choice to the other, where both cut the same segments off
  module _ (name : ProfileName) (lines lines' : LineEnds) (s : Bytes)
      (led : (gs : List Placed) (end : ℕ) (rest : Bytes) → Led q lines 0 s gs end rest → Led q lines' 0 s gs end rest) (before : Tables) where
    ends_same : (gs : List Placed) (rows : List ℕ) (end : ℕ) (rest : Bytes) (r : Answer) (kept : List Placed) (numbers : List ℕ)
        → Ends (profile_of (reading name q lines)) (reading name q lines) before gs rows end rest r kept numbers
        → Ends (profile_of (reading name q lines')) (reading name q lines') before gs rows end rest r kept numbers
    ends_same gs rows end rest (Ok a) kept numbers x = record {
      segment = x.segment;
      row = x.row;
      keeping = keeping_moved (profile_of (reading name q lines)) name q lines lines' before gs gs rows end end rest refl x.segment x.row x.keeping;
      last = x.last;
      room = room_moved (profile_of (reading name q lines)) name q lines lines' before gs gs rows end end rest refl x.segment x.room;
      kept_is = x.kept_is;
      numbers_is = x.numbers_is;
      counts = x.counts;
    }
    ends_same gs rows end rest (Err r) kept numbers x = record {
      reason = x.reason;
      element = x.element;
      cause = fails_moved (profile_of (reading name q lines)) name q lines lines' before gs gs rows end end rest refl x.reason x.element x.cause;
      kept_is = x.kept_is;
      numbers_is = x.numbers_is;
      place = x.place;
    }

    read_same : (r : Answer) (after : Tables) → Read (profile_of (reading name q lines)) (reading name q lines) s before r after
        → Read (profile_of (reading name q lines')) (reading name q lines') s before r after
    read_same r after y =
        let x = y.run in
        record {
          kept = y.kept;
          numbers = y.numbers;
          run = record {
            gs = x.gs;
            rows = x.rows;
            end = x.end;
            rest = x.rest;
            passed = passed_moved (profile_of (reading name q lines)) name q lines lines' before x.gs x.gs x.rows x.end x.end x.rest refl s s
                (led x.gs x.end x.rest x.passed.leads) x.passed;
            ends = ends_same x.gs x.rows x.end x.rest r y.kept y.numbers x.ends;
          };
          tables = y.tables ∙ recorded_same (profile_of (reading name q lines)) name q lines lines' before y.kept y.numbers;
        }

    reads_same : (r : Answer) (after : Tables) → Reads (reading name q lines) s before r after → Reads (reading name q lines') s before r after
    unfolding ReadsBy
    reads_same r after y = fit (fit_separators q) y
      where
        within : (b : Bool) → ReadsWithin b (profile_of (reading name q lines)) (reading name q lines) s before r after
            → ReadsWithin b (profile_of (reading name q lines')) (reading name q lines') s before r after
        within true y = read_same r after y
        within false y = y

        fit : (b : Bool) → ReadsFit b (profile_of (reading name q lines)) (reading name q lines) s before r after
            → ReadsFit b (profile_of (reading name q lines')) (reading name q lines') s before r after
        fit true y = within (leb (length s) limit) y
        fit false y = y

-- a report with no line end behind a segment gets the same answer, and leaves the same tables, by both choices
pub no_line_ends : (name : ProfileName) (q : Separators) (s : Bytes) → NoneFrom q 0 s → (before : Tables) (r : Answer) (after : Tables)
    → Reads (reading name q Skipped) s before r after ↔ Reads (reading name q Strict) s before r after
no_line_ends name q s none before r after = (
  reads_same q name Skipped Strict s (strictly_led q 0 s none) before r after,
  reads_same q name Strict Skipped s (skipping_led q 0 s none) before r after,
)

-- behind segments there is a terminator
terminator_before : (q : Separators) (at : ℕ) (s : Bytes) (g : Placed) (gs : List Placed) (end : ℕ) (rest : Bytes) → Led q Strict at s (g ∷ gs) end rest
    → (front : Bytes) × (s ≡ front ++ q.terminator ∷ rest)
terminator_before q at s g [] end rest l = (g.segment, split q s g.segment l.0 l.1 ∙ ap (λ (x : Bytes). g.segment ++ q.terminator ∷ x) l.3.1)
terminator_before q at s g (h ∷ gs) end rest l =
    let b = terminator_before q (at + length g.segment + 1 + 0) l.0 h gs end rest l.3 in (
      g.segment ++ q.terminator ∷ b.0,
      split q s g.segment l.0 l.1 ∙ ap (λ (x : Bytes). g.segment ++ q.terminator ∷ x) b.1 ∙ rw append_assoc,
    )

-- so it is where no terminator at all has one behind it
pub none_anywhere : (q : Separators) (s : Bytes) → ((front rest : Bytes) → s ≡ front ++ q.terminator ∷ rest → line_end q rest ≡ 0) → NoneFrom q 0 s
none_anywhere q s none g gs end rest l = let b = terminator_before q 0 s g gs end rest l in none b.0 rest b.1

-- The three conditions, each as one theorem, and the laws that make them up.
-- Assumes nothing.
use Prim.Native.Nat.{ℕ, ◌+◌, ◌*◌, ◌≤◌}
use mathlib.Core.Path.{◌≡◌, refl, ap, ◌∙◌}
use mathlib.Core.Logic.{◌↔◌}
use mathlib.Core.Bool.{Bool, true, false}
use mathlib.Core.List.{List, ◌++◌}
use native.Mathlib.Omega.{arith}
use lib.Dec.{T, leb}
use lib.ListN.{length, take, replicate, length-replicate}
use borrow.Author.Tests.{leb-true, le-leb}
use Rattle.std.proofs.Common.{Ok, Err}
use Rattle.text.specs.Bytes.{Bytes}
use Rattle.text.specs.Separators.{fit_separators}
use Rattle.text.specs.Cut.{Placed}
use Rattle.text.proofs.Bools.{passes}
use Rattle.text.proofs.View.{fitted}
use Rattle.elements.specs.Reasons.{number_of}
use Rattle.elements.specs.declared.verdict.Reason.{Reason}
use Rattle.elements.specs.declared.verdict.Reason.TheVariants.{UnfitSeparators, TooLong}
use Rattle.levels.specs.Widths.{segment_width, level_width}
use Rattle.gate.specs.Answers.{Answer, accepted, refused, IsAccepted, Fault}
use Rattle.gate.specs.Profile.{profile_of}
use Rattle.gate.specs.Segments.{seen}
use Rattle.gate.specs.Records.{Tables, segment_room_of, level_room_of, recorded}
use Rattle.gate.specs.Reads.{limit, Run, Read, ReadsWithin, ReadsFit, ReadsBy, Reads}
use Rattle.gate.specs.Conditions.{Condition1, Numbering, HasRoom, Numbered, Shows, Condition2, up_to_segment, BeginsWith, Final, Continues, Condition3}
use Rattle.gate.specs.declared.how.How.{How}
use Rattle.gate.proofs.reading.SideBySide.{history, history_length}
use Rattle.gate.proofs.reading.Numbers.{refusal_of}
use Rattle.gate.proofs.reading.Once.{run_once, reads_once}
use Rattle.gate.proofs.conditions.Accepting.{Transaction, accepted_transaction, transaction_accepted}
use Rattle.gate.proofs.whole.AllRules.{meets_from, from_meets}
use Rattle.gate.proofs.continuing.AddedLevels.{levels_few}
use Rattle.gate.proofs.reading.Reference.{compute, computes}
use Rattle.gate.proofs.reading.Listing.{listed}
use Rattle.gate.proofs.continuing.NotEarly.{fault_continues}
use Rattle.gate.proofs.conditions.Finality.{refusal_begun, refusal_stands, acceptance_stands}

-- with fit separators and a length within the limit the promise is that of a reading, and back
module _ (how : How) (s : Bytes) (fit : T (fit_separators how.separators)) (short : length s ≤ limit) (before : Tables) (r : Answer) (after : Tables) where
  pub reads_read : Reads how s before r after → Read (profile_of how) how s before r after
  unfolding ReadsBy
  reads_read x = rw (passes (fit_separators how.separators) fit, le-leb (length s) limit short) at x

-- an answer other than 1 and 2 comes of a reading, with fit separators and a length within the limit
pub record Proper (how : How) (s : Bytes) (before : Tables) (r : Answer) (after : Tables) : Type 0 where
  pub fit : T (fit_separators how.separators)
  pub short : length s ≤ limit
  pub read : Read (profile_of how) how s before r after

pub proper : (how : How) (s : Bytes) (before : Tables) (r : Answer) (after : Tables) → (r ≡ refused UnfitSeparators 0 0 0 → ⊥) → (r ≡ refused TooLong 0 0 0 → ⊥)
    → Reads how s before r after → Proper how s before r after
unfolding ReadsBy
proper how s before r after not-1 not-2 x = fit (fit_separators how.separators) refl x
  where
    within : (b : Bool) → leb (length s) limit ≡ b → T (fit_separators how.separators) → ReadsWithin b (profile_of how) how s before r after
        → Proper how s before r after
    within true e f y = record { fit = f; short = leb-true (length s) limit e; read = y }
    within false e f y = absurd (not-2 (refusal_of r TooLong 0 0 0 (omega arith) y.answer))

    fit : (b : Bool) → fit_separators how.separators ≡ b → ReadsFit b (profile_of how) how s before r after → Proper how s before r after
    fit true e y = within (leb (length s) limit) refl (rw e tt) y
    fit false e y = absurd (not-1 (refusal_of r UnfitSeparators 0 0 0 (omega arith) y.answer))

-- the number of an answer
number_told : Answer → ℕ
number_told (Ok a) = 0
number_told (Err r) = number_of r.reason

fault_proper : (how : How) (s : Bytes) (before : Tables) (n : Reason) (k b e : ℕ) (after : Tables) → Fault (number_of n) → Reads how s before (refused n k b e) after
    → Proper how s before (refused n k b e) after
unfolding number_told
fault_proper how s before n k b e after f x =
    proper how s before (refused n k b e) after (λ q. omega (arith, ap number_told q, f.from)) (λ q. omega (arith, ap number_told q, f.from)) x

pub accepted_proper : (how : How) (s : Bytes) (before : Tables) (a l b : ℕ) (after : Tables) → Reads how s before (accepted a l b) after
    → Proper how s before (accepted a l b) after
unfolding number_told
accepted_proper how s before a l b after x =
    proper how s before (accepted a l b) after (λ q. omega (arith, ap number_told q)) (λ q. omega (arith, ap number_told q)) x

-- an answer that a run gives is the answer of every reading of those bytes
only_answer : (how : How) (s : Bytes) (t : Tables) (r : Answer) (kept : List Placed) (w : List ℕ) → T (fit_separators how.separators) → length s ≤ limit
    → Run (profile_of how) how t s r kept w → (r' : Answer) (after : Tables) → Reads how s t r' after → r' ≡ r
only_answer how s t r kept w fit short x r' after y = (run_once (reads_read how s fit short t r' after y).run x).0

-- Condition 3: "A verdict is final". A fault stands whatever follows the segment, with any larger tables
pub refusal_final : (how : How) (s : Bytes) (before : Tables) (n : Reason) (k b e : ℕ) (after : Tables) → Fault (number_of n) → Reads how s before (refused n k b e) after
    → Final how before (up_to_segment how s b) (refused n k b e)
refusal_final how s before n k b e after f x more short u larger r' after' y =
    let p = fault_proper how s before n k b e after f x in
    only_answer how (up_to_segment how s b ++ more) u (refused n k b e) p.read.kept p.read.numbers p.fit short
    (refusal_stands (profile_of how) how (fitted how.separators p.fit) before u larger s n k b e p.read.kept p.read.numbers f p.read.run more) r' after' y

-- an acceptance stands under more bytes within the limit and under more room
pub acceptance_final : (how : How) (s : Bytes) (before : Tables) (a l b : ℕ) (after : Tables) → Reads how s before (accepted a l b) after
    → Final how before (take b s) (accepted a l b)
acceptance_final how s before a l b after x more short u larger r' after' y =
    let p = accepted_proper how s before a l b after x in
    only_answer how (take b s ++ more) u (accepted a l b) p.read.kept p.read.numbers p.fit short
    (acceptance_stands (profile_of how) how (fitted how.separators p.fit) before u larger s a l b p.read.kept p.read.numbers p.read.run more) r' after' y

-- the bytes up to a refused segment begin the input
pub refusal_begins : (how : How) (s : Bytes) (before : Tables) (n : Reason) (k b e : ℕ) (after : Tables) → Fault (number_of n) → Reads how s before (refused n k b e) after
    → BeginsWith (up_to_segment how s b) s
refusal_begins how s before n k b e after f x =
    let p = fault_proper how s before n k b e after f x in
    refusal_begun (profile_of how) how (fitted how.separators p.fit) before before (record { segments = omega arith; levels = omega arith }) s n k b e p.read.kept p.read.numbers f p.read.run

-- a refusal comes no sooner than it must: the segments before the fault can be continued to a transaction that meets every rule
pub refusal_not_early : (how : How) (s : Bytes) (before : Tables) (n : Reason) (k b e : ℕ) (after : Tables) → Fault (number_of n) → Reads how s before (refused n k b e) after
    → Continues how s k b
refusal_not_early how s before n k b e after f x =
    let p = fault_proper how s before n k b e after f x in
    fault_continues how before s n k b e p.read.kept p.read.numbers p.fit p.short f p.read.run

-- Condition 2: what is accepted is a numbering that meets every rule, with room, and the tables show it
pub accepted_numbered : (how : How) (s : Bytes) (before : Tables) (a l b : ℕ) (after : Tables) → Reads how s before (accepted a l b) after
    → Numbered how s before
accepted_numbered how s before a l b after x =
    let p = accepted_proper how s before a l b after x in
    let r = p.read in
    let t = accepted_transaction (profile_of how) how before s a l b r.kept r.numbers r.run in
    record {
      gs = r.kept;
      rows = r.numbers;
      numbering = record { end = t.end; rest = t.rest; leads = t.leads; meets = from_meets (profile_of how) (seen how r.kept) r.numbers t.meets };
      room = t.room;
    }

-- a numbering that meets every rule, with room, is a transaction
numbering_transaction : (how : How) (s : Bytes) (t : Tables) (gs : List Placed) (rows : List ℕ) → Numbering how s gs rows → HasRoom how t gs
    → Transaction (profile_of how) how t s gs rows
numbering_transaction how s t gs rows n r =
    record { end = n.end; rest = n.rest; leads = n.leads; meets = meets_from (profile_of how) (seen how gs) rows n.meets; room = r }

-- and back: with fit separators and a length within the limit, where some numbering meets every rule and there is room, the answer is that
-- acceptance, and the tables show the numbering
pub meets_accepted : (how : How) (s : Bytes) (before : Tables) (gs : List Placed) (rows : List ℕ) → T (fit_separators how.separators) → length s ≤ limit
    → Numbering how s gs rows → HasRoom how before gs → (r : Answer) (after : Tables) → Reads how s before r after → Shows how before gs rows r after
meets_accepted how s before gs rows fit short n room r after x =
    let y = reads_read how s fit short before r after x in
    let u = run_once y.run (transaction_accepted (profile_of how) how before s gs rows (numbering_transaction how s before gs rows n room)) in
    record { answer = u.0; tables = y.tables ∙ (λ i. recorded (profile_of how) how before (u.1 i) (u.2 i)) }

-- there are tables with room for any segments
roomy : ℕ → Tables
roomy n = record { segments = replicate (n * segment_width) 0; levels = replicate (n * level_width) 0 }

roomy_room : (how : How) (gs : List Placed) (n : ℕ) → length gs ≤ n → HasRoom how (roomy n) gs
unfolding roomy
roomy_room how gs n l = record {
  segments_fit = simp length-replicate (omega (arith, history_length how gs, l));
  levels_fit = simp length-replicate (omega (arith, history_length how gs, levels_few how.profile (history how gs), l));
}

-- the numbering is the only one
pub numbering_once : (how : How) (s : Bytes) (gs gs' : List Placed) (rows rows' : List ℕ) → Numbering how s gs rows → Numbering how s gs' rows'
    → (gs ≡ gs') × (rows ≡ rows')
numbering_once how s gs gs' rows rows' a b =
    let t = roomy (length gs + length gs') in
    let u =
    run_once
    (transaction_accepted (profile_of how) how t s gs rows (numbering_transaction how s t gs rows a (roomy_room how gs (length gs + length gs') (omega arith))))
    (transaction_accepted (profile_of how) how t s gs' rows'
    (numbering_transaction how s t gs' rows' b (roomy_room how gs' (length gs + length gs') (omega arith)))) in
    (u.1, u.2)

-- Condition 1: every input, every separators and every tables have an answer that the promise allows
pub answered : (how : How) (s : Bytes) (before : Tables) → (r : Answer) × (after : Tables) × Reads how s before r after
unfolding ReadsBy
answered how s before = fit (fit_separators how.separators)
  where
    within : (b : Bool) → (r : Answer) × (after : Tables) × ReadsWithin b (profile_of how) how s before r after
    within true =
        let o = compute (profile_of how) how (segment_room_of before) (level_room_of before) s in (
          o.0,
          recorded (profile_of how) how before o.1 o.2,
          record { kept = o.1; numbers = o.2; run = computes (profile_of how) how before s; tables = refl },
        )
    within false = (refused TooLong 0 0 0, before, record { answer = refl; unchanged = refl })

    fit : (b : Bool) → (r : Answer) × (after : Tables) × ReadsFit b (profile_of how) how s before r after
    fit true = within (leb (length s) limit)
    fit false = (refused UnfitSeparators 0 0 0, before, record { answer = refl; unchanged = refl })

-- Condition 1
pub condition_1 : Condition1
condition_1 = record {
  answered = answered;
  listed = listed;
  once = λ how s before r r' after after' x y. reads_once (profile_of how) how s before r r' after after' x y;
}

-- Condition 2
accepted_when : (how : How) (s : Bytes) (before : Tables) (r : Answer) (after : Tables) → T (fit_separators how.separators) → length s ≤ limit
    → Reads how s before r after → IsAccepted r ↔ Numbered how s before
accepted_when how s before (Ok a) after fit short x = (λ _. accepted_numbered how s before a.segments a.levels a.bytes after x, λ _. tt)
accepted_when how s before (Err r) after fit short x =
    (λ never. absurd never, λ m. let p = (meets_accepted how s before m.gs m.rows fit short m.numbering m.room (Err r) after x).answer in cc)

accepted_shown : (how : How) (s : Bytes) (before : Tables) (r : Answer) (after : Tables) → Reads how s before r after → IsAccepted r
    → (gs : List Placed) (rows : List ℕ) → Numbering how s gs rows → Shows how before gs rows r after
accepted_shown how s before (Ok a) after x is gs rows n =
    let p = accepted_proper how s before a.segments a.levels a.bytes after x in
    let m = accepted_numbered how s before a.segments a.levels a.bytes after x in
    let o = numbering_once how s m.gs gs m.rows rows m.numbering n in
    meets_accepted how s before gs rows p.fit p.short n (rw o.0 at m.room) (Ok a) after x
accepted_shown how s before (Err r) after x never gs rows m = absurd never

pub condition_2 : Condition2
condition_2 = record { exactly_when = accepted_when; shown = accepted_shown; one_numbering = numbering_once }

-- Condition 3
pub condition_3 : Condition3
condition_3 = record {
  refusal_final = refusal_final;
  refusal_begins = refusal_begins;
  refusal_not_early = refusal_not_early;
  acceptance_final = acceptance_final;
}

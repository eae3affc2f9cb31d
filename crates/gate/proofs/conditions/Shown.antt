-- What a reading of some bytes shows: an answer and records that the definitions compute are those of whatever the promise of reading allows.
-- Assumes nothing.
use Prim.Native.Nat.{ℕ}
use Prim.Native.String.{String}
use mathlib.Core.Path.{◌≡◌, ap, ◌∙◌}
use mathlib.Core.Bool.{Bool, true}
use mathlib.Core.List.{List, [], ◌∷◌, map}
use lib.Dec.{T, leb}
use lib.ListN.{length}
use borrow.Author.Tests.{leb-true}
use Rattle.text.specs.Bytes.{bytes}
use Rattle.text.specs.Separators.{standard, fit_separators, may_serve}
use Rattle.text.specs.declared.lines.LineEnds.{LineEnds}
use Rattle.rows.specs.declared.profile.ProfileName.{ProfileName}
use Rattle.gate.specs.Profile.{profile_named}
use Rattle.gate.specs.Answers.{Answer}
use Rattle.gate.specs.Records.{Tables, segment_records, level_records, segment_room_of, level_room_of, over}
use Rattle.gate.specs.Reads.{limit, Read, Reads}
use Rattle.gate.specs.declared.how.How.{How}
use Rattle.gate.proofs.conditions.Conditions.{reads_read}
use Rattle.gate.proofs.reading.Once.{run_once}
use Rattle.gate.proofs.reading.Reference.{compute, computes}

-- a report, the room there is, the answer, and the records
pub record Case : Type 0 where
  pub report : String
  pub segment_room : ℕ
  pub level_room : ℕ
  pub answer : Answer
  pub segments : List ℕ
  pub levels : List ℕ

-- by this profile, with the standard separators and this choice of line ends
abbrev pub usual : ProfileName → LineEnds → How
usual name lines = record { separators = standard; lines = lines; profile = name }

-- what a case says of the promise of reading
abbrev pub Shown : ProfileName → LineEnds → Case → Type 0
Shown name lines c = (before after : Tables) (r : Answer) → segment_room_of before ≡ c.segment_room → level_room_of before ≡ c.level_room
    → Reads (usual name lines) (bytes c.report) before r after
    → (r ≡ c.answer) × (after ≡ record { segments = over before.segments c.segments; levels = over before.levels c.levels })

abbrev pub AllShown : ProfileName → LineEnds → List Case → Type 0
AllShown name lines [] = Unit {0}
AllShown name lines (c ∷ cs) = Shown name lines c × AllShown name lines cs

-- What the computed reading gives of a report that is not too long, and what the case says of it
abbrev pub Outcome : Type 0
Outcome = Answer × List ℕ × List ℕ × Bool

abbrev pub outcome : ProfileName → LineEnds → Case → Outcome
outcome name lines c =
    let o = compute (profile_named name) (usual name lines) c.segment_room c.level_room (bytes c.report) in
    (o.0, segment_records (usual name lines) [] o.1 o.2, level_records (profile_named name) (usual name lines) o.1, leb (length (bytes c.report)) limit)

abbrev pub told : Case → Outcome
told c = (c.answer, c.segments, c.levels, true)

-- are the same of all cases
abbrev pub AllComputed : ProfileName → LineEnds → List Case → Type 0
AllComputed name lines cs = map (outcome name lines) cs ≡ map told cs

read_shown : (name : ProfileName) (lines : LineEnds) (c : Case) → outcome name lines c ≡ told c → (before after : Tables) (r : Answer)
    → segment_room_of before ≡ c.segment_room → level_room_of before ≡ c.level_room
    → Read (profile_named name) (usual name lines) (bytes c.report) before r after
    → (r ≡ c.answer) × (after ≡ record { segments = over before.segments c.segments; levels = over before.levels c.levels })
read_shown name lines c k before after r p q x =
    let u = run_once x.run (rw (p, q) at (computes (profile_named name) (usual name lines) before (bytes c.report))) in
    let a : segment_records (usual name lines) [] x.kept x.numbers ≡ c.segments =
    (λ i. segment_records (usual name lines) [] (u.1 i) (u.2 i)) ∙ ap (λ (o : Outcome). o.1) k in
    let b : level_records (profile_named name) (usual name lines) x.kept ≡ c.levels =
    (λ i. level_records (profile_named name) (usual name lines) (u.1 i)) ∙ ap (λ (o : Outcome). o.2) k in
    (u.0 ∙ ap (λ (o : Outcome). o.0) k, x.tables ∙ (λ i. record { segments = over before.segments (a i); levels = over before.levels (b i) }))

-- the standard separators are fit
pub standard_fit : T (fit_separators standard)
unfolding may_serve
standard_fit = tt

-- so what is computed of all cases is shown of them
pub all_shown : (name : ProfileName) (lines : LineEnds) (cs : List Case) → AllComputed name lines cs → AllShown name lines cs
all_shown name lines [] k = tt
all_shown name lines (c ∷ cs) k =
    let first : outcome name lines c ≡ told c = cc in
    let short : leb (length (bytes c.report)) limit ≡ true = ap (λ (o : Outcome). o.3) first in (
      λ before after r p q x.
          read_shown name lines c first before after r p q
          (reads_read (usual name lines) (bytes c.report) standard_fit (leb-true (length (bytes c.report)) limit short) before r after x),
      all_shown name lines cs (cc),
    )

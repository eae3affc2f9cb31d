-- Two outcomes that a promise of this crate allows are equal.
-- Assumes nothing.
use mathlib.Core.Path.{◌≡◌, sym, ap, ◌∙◌}
use mathlib.Core.List.{List}
use Prim.Native.Nat.{ℕ}
use Rattle.text.specs.Bytes.{Bytes}
use Rattle.text.specs.declared.separators.Separators.{Separators}
use Rattle.rows.specs.declared.profile.ProfileName.{ProfileName}
use Rattle.gate.specs.Answers.{numbers_of}
use Rattle.gate.specs.Profile.{profile_of}
use Rattle.gate.specs.Records.{Tables}
use Rattle.gate.specs.declared.how.How.{How}
use Rattle.gate.proofs.reading.Once.{reads_once}
use Rattle.rewriting.proofs.Once.{rewrites_once}
use Rattle.outline.proofs.Once.{walks_once}
use Rattle.exports.specs.Promises.{Told, ToldAgain, walk_numbers, ToldWalk, ToldPart}

-- the numbers of a reading, and both tables, are one
pub told_once : {how : How} {s : Bytes} {before x x' : Tables} {four four' : List ℕ} → Told how s before x four → Told how s before x' four'
    → (four ≡ four') × (x ≡ x')
told_once {how} {s} {before} {x} {x'} a b =
    let o = reads_once (profile_of how) how s before a.answer b.answer x x' a.reads b.reads in
    (a.numbers ∙ ap numbers_of o.0 ∙ sym b.numbers, o.1)

-- the numbers of a rewriting, both tables and the output are one
pub told_again_once : {profile : ProfileName} {old new : Separators} {s : Bytes} {before x x' : Tables} {output w w' : Bytes} {four four' : List ℕ}
    → ToldAgain profile old new s before output x w four → ToldAgain profile old new s before output x' w' four' → (four ≡ four') × (x ≡ x') × (w ≡ w')
told_again_once {profile} {old} {new} {s} {before} {x} {x'} {output} {w} {w'} a b =
    let o = rewrites_once profile old new s before output a.answer b.answer x x' w w' a.rewrites b.rewrites in
    (a.numbers ∙ ap numbers_of o.0 ∙ sym b.numbers, o.1, o.2)

-- the numbers of a walk, and the output, are one
pub told_walk_once : {levels : List ℕ} {count : ℕ} {before x x' : List ℕ} {two two' : List ℕ} → ToldWalk levels count before x two
    → ToldWalk levels count before x' two' → (two ≡ two') × (x ≡ x')
told_walk_once {levels} {count} {before} {x} {x'} a b =
    let o = walks_once levels count before a.answer b.answer x x' a.walks b.walks in
    (a.numbers ∙ ap walk_numbers o.0 ∙ sym b.numbers, o.1)

-- the numbers of a part are one
pub part_once : (element component : ℕ) (segment : Bytes) (number part : ℕ) (two two' : List ℕ) → ToldPart element component segment number part two
    → ToldPart element component segment number part two' → two ≡ two'
part_once element component segment number part two two' a b = a 0 ∙ sym (b 0)

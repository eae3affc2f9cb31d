-- What a call does, told of the numbers that the caller gave and gets.
-- Assumes nothing.
use Prim.Native.Nat.{ℕ}
use mathlib.Core.Path.{◌≡◌, refl, ap, ◌∙◌}
use mathlib.Core.Bool.{Bool, true, false}
use mathlib.Core.List.{List}
use lib.IntN.{ℤ}
use mir.Syntax.{w64}
use mir.Val.{to_z, of_z}
use Rattle.text.specs.Bytes.{Bytes}
use Rattle.text.specs.Lookup.{part_span}
use Rattle.text.specs.declared.separators.Separators.{Separators}
use Rattle.text.proofs.Lookups.{terminator_aside}
use Rattle.rows.specs.declared.profile.ProfileName.{ProfileName}
use Rattle.gate.specs.Answers.{Answer, numbers_of}
use Rattle.gate.specs.Records.{Tables}
use Rattle.gate.specs.Reads.{Reads}
use Rattle.gate.specs.declared.how.How.{How}
use Rattle.rewriting.specs.Rewrites.{Rewrites}
use Rattle.exports.specs.Promises.{separators_of, Told, ToldAgain, bit_of}

module _ (s : Bytes) (before after : Tables) (r : Answer) (four : List ℕ) where
  pub tell : (how how' : How) → how' ≡ how → Reads how' s before r after → four ≡ numbers_of r → Told how s before after four
  tell how how' e x n = record { answer = r; reads = rw e at x; numbers = n }

  pub tell_again : (profile profile' : ProfileName) (old old' new new' : Separators) (output written : Bytes) → profile' ≡ profile → old' ≡ old → new' ≡ new
      → Rewrites profile' old' new' s before output r after written → four ≡ numbers_of r → ToldAgain profile old new s before output after written four
  tell_again profile profile' old old' new new' output written d e f x n = record { answer = r; rewrites = rw (d, e, f) at x; numbers = n }

-- a part found with some terminator, and with these numbers of the element and the component
pub tell_part : (element component t terminator : ℕ) (segment : Bytes) (number number' part part' : ℕ) → number' ≡ number → part' ≡ part
    → part_span (separators_of element component t) segment number' part' ≡ part_span (separators_of element component terminator) segment number part
tell_part element component t terminator segment number number' part part' d e =
    rw (d, e) (terminator_aside element component t terminator segment number part)

-- 1 or 0 comes back out of its 64 bits
pub bit_stays : {z : ℤ} (b : Bool) → z ≡ bit_of b → to_z w64 (of_z w64 z) ≡ bit_of b
bit_stays {z} b e = ap (λ (x : ℤ). to_z w64 (of_z w64 x)) e ∙ stays b
  where
    stays : (b : Bool) → to_z w64 (of_z w64 (bit_of b)) ≡ bit_of b
    stays true = refl
    stays false = refl

-- The answers of a walk that goes on from the test of the room: an unfit level, an output that is too short, and the whole list.
-- Assumes nothing.
use Prim.Native.Nat.{ℕ, ◌<◌, ◌≤◌}
use mathlib.Core.Path.{◌≡◌, refl, ◌∙◌}
use mathlib.Core.Logic.{inl, inr}
use mathlib.Core.List.{List}
use native.Mathlib.Omega.{arith}
use lib.ListN.{length}
use lib.Seq.{sets}
use Rattle.outline.specs.Walks.{FitTable, Unfit, Lists, room_of, unlisted, Walks}
use Rattle.outline.specs.declared.answer.Reason.TheVariants.{UnfitTable, ShortOutput}
use Rattle.std.specs.Prelude.{Ok, Option, None, Some}
use Rattle.outline.specs.internal.Fitting.{FirstUnfit}
use Rattle.outline.specs.internal.Listing.{listed}
use Rattle.outline.proofs.ListedOrder.{listed_outline, listed_length}
use Rattle.outline.proofs.Stores.{sets_over}

-- a level that is found is the first that is unfit
pub unfit_found : (t : List ℕ) (count k : ℕ) (output : List ℕ) → count ≤ room_of t → FirstUnfit t count (Some k)
    → Unfit t count output (unlisted UnfitTable k) output
unfit_found t count k output room (from, upto, first, unfit) =
    record { room = room; level = k; from = from; upto = upto; unfit = unfit; first = first; answer = refl; unchanged = refl }

-- where none is found, and the output has fewer places than there are levels, the walk is refused with 21
pub walk_too_short : (t : List ℕ) (count : ℕ) (output : List ℕ) (k : Option ℕ) → count ≤ room_of t → FirstUnfit t count k → k ≡ None
    → length output < count → Walks t count output (unlisted ShortOutput 0) output
walk_too_short t count output k room found none shorter =
    inr (inr (inl (record { room = room; fit = rw none at found; shorter = shorter; answer = refl; unchanged = refl })))

module _ (t : List ℕ) (count : ℕ) where
  -- where none is found, all are fit
  pub unfit_none : {k : Option ℕ} → FirstUnfit t count k → k ≡ None → FitTable t count
  unfit_none found none = rw none at found

  module _ (fit : FitTable t count) (output : List ℕ) (long : count ≤ length output) where
    -- an output of as many places as there are levels has room for the list
    pub list_fits : length (listed 4 t count 0) ≤ length output
    list_fits = omega (arith, listed_length t count fit)

    -- which is the outline
    pub list_written : {output' : List ℕ} → count ≤ room_of t → output' ≡ sets output 0 (listed 4 t count 0) → Lists t count output (Ok count) output'
    list_written room e = record {
      room = room;
      fit = fit;
      long = long;
      answer = refl;
      order = listed 4 t count 0;
      outline = listed_outline t count fit;
      written = e ∙ sets_over output (listed 4 t count 0) list_fits;
    }

-- `place_of` meets its contract: the place is that of a list, and with the bytes that are left it makes the whole place.
-- Assumes nothing.
use Prim.Native.Nat.{◌<◌}
use mathlib.Core.Path.{◌≡◌}
use lib.ListN.{drop}
use Rattle.finding.specs.internal.Lists.{lists, place_from, place_of}
use Rattle.finding.proofs.lists.place_of.Given as goal

abbrev pub invariant-loop-b : goal.invariant-loop-b
invariant-loop-b l = record { low : l.place < lists; rest : place_from l.place (drop l.b-index l.id) ≡ place_of l.id }

-- `harmless` meets its contract: the fold asks every byte.
-- Assumes nothing.
use mathlib.Core.Path.{◌∙◌}
use mathlib.Core.Bool.{Bool, true, ◌&&◌}
use Prim.Native.Nat.{ℕ}
use Rattle.std.proofs.lemmas.Iterator.{YieldsList-from_slice}
use Rattle.std.proofs.lemmas.Iterator.Consumers.{fold_from_yields_List}
use borrow.Author.Rules.{rules}
use Rattle.rewriting.specs.internal.QuickTest.{harmless_byte}
use Rattle.rewriting.proofs.HarmlessBytes.{fold_every}
use Rattle.rewriting.proofs.collisions.harmless.Goals as goal

pub returns : goal.returns
returns c =
    let f = harmless_byte c.args.change.old c.args.change.new in
    let bytes = c.args.bytes.now in
    fold_from_yields_List _ (λ (so_far : Bool) (b : ℕ). so_far && f b) true c.fold.result c.fold.ensures.ran
    (YieldsList-from_slice bytes c.iter.ensures.rest)
    (λ a x b q k. search rules)
    ∙ fold_every f true bytes

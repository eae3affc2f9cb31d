-- `fill` meets its contract: the bytes of the part have got the entry, and the others stay.
-- Assumes nothing.
use Prim.Native.Nat.{ℕ, ◌+◌, ◌-◌}
use mathlib.Core.Path.{◌≡◌, ap, ◌∙◌}
use native.Mathlib.Omega.{arith}
use lib.ListN.{drop, replicate, length-drop}
use lib.Seq.{length-take-le}
use Rattle.reading.proofs.reader.Stores.{part_stored}
use Rattle.reading.proofs.cut.SpecialBytes.{fills_part}
use Rattle.reading.proofs.cutting.fill.Goals as goal

pub returns : goal.returns
returns c =
    let a = c.args in
    let r = c.requires in
    let wide = a.last + 1 - a.from in
    let part : c.fill.new.self ≡ replicate wide a.entry =
    c.fill.ensures.after (λ y same. same)
    ∙ ap (λ (n : ℕ). replicate n a.entry) (length-take-le wide (drop a.from a.specials.now) (omega (arith, length-drop a.from a.specials.now))) in
    rw (part_stored a.from (a.last + 1) a.specials.now c.fill.new.self (omega arith), part)
    (fills_part a.specials.now a.from a.last a.entry r.specials_len r.from_le_last r.last_bound)

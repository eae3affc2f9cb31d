-- `begins` meets its contract: the mark begins what stands there. The attribute's lemma answers where nothing does.
-- Assumes nothing.
use Rattle.text.proofs.Bins.{begins_with}
use Rattle.text.proofs.bin.begins.Goals as goal

pub returns : goal.returns
returns c = begins_with _ c.args.s.now c.args.at _ _ c.starts_with.ensures.value c.in-Some.ensures.lookup.0.2

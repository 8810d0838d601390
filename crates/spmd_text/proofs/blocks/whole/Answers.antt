use Rattle.std.proofs.Common.{[], arith, refl}
use Rattle.spmd_text.proofs.blocks.whole.Goals as goal

pub returns : goal.returns
returns c = (c.sequence.ensures [] c.args.list.items refl (omega (arith, c.len-count.ensures, c.args.list.ok.0))).1

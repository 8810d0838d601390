use Rattle.std.proofs.Common.{Bool, sym, subst}
use Rattle.spmd_text.specs.parts.Parts.{HasRead}
use Rattle.spmd_text.specs.parts.Statements.{end_part}
use Rattle.spmd_text.proofs.blocks.end_branch.Goals as goal

pub returns-then-not-chained-clause-reads : goal.returns-then-not-chained-clause-reads
returns-then-not-chained-clause-reads c = subst (λ (b : Bool). HasRead (end_part b) c.args.parser.now c.end_block.new.parser c.end_block.result) (sym c.if-not-chained.true) c.end_block.ensures.reads

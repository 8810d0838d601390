use Rattle.std.proofs.Common.{sym, ◌∙◌}
use Rattle.spmd_text.proofs.TextLines.{end_text_tells}
use Rattle.spmd_text.proofs.blocks.end_text.Goals as goal

pub returns-then-is-clause-line : goal.returns-then-is-clause-line
returns-then-is-clause-line c level outermost ends once =
    end_text_tells c.args.parser.now c.fail.new.self level c.begin_line.new.at outermost ends once c.begin_line.ensures.sound (sym c.is_all_read.ensures ∙ c.if-is_all_read.false)

pub returns-else-is-clause-line : goal.returns-else-is-clause-line
returns-else-is-clause-line c level outermost ends once =
    end_text_tells c.args.parser.now c.fail-else-is.new.self level c.begin_line.new.at outermost ends once c.begin_line.ensures.sound (sym c.is_all_read.ensures ∙ c.if-is_all_read.false)

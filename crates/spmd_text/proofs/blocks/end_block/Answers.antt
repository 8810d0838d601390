use Rattle.std.proofs.Common.{refl, sym}
use Rattle.spmd_text.proofs.BlockForms.{end_as}
use Rattle.spmd_text.proofs.BlockLines.{end_tells, no_end_line}
use Rattle.spmd_text.proofs.Parts.{reads_as, reads_then}
use Rattle.spmd_text.proofs.Stuck.{none_found}
use Rattle.spmd_text.proofs.blocks.end_block.Goals as goal

pub returns-then-take-clause-reads : goal.returns-then-take-clause-reads
returns-then-take-clause-reads c =
    reads_as (end_as c.args.parser.now) (reads_then (λ y. refl) (λ y here rest may e ends. refl) (c.if-take.ensures.reads refl refl) c.end_line.ensures)

pub returns-then-take-clause-line : goal.returns-then-take-clause-line
returns-then-take-clause-line c level outer ends =
    let r = reads_as (end_as c.args.parser.now) (reads_then (λ y. refl) (λ y here rest may e f. refl) (c.if-take.ensures.reads refl refl) c.end_line.ensures) in
    end_tells c.args.parser.now c.end_line.new.self level outer c.begin_line.new.at ends c.begin_line.ensures.sound
    (λ why sound wrong other beyond e. none_found r why sound wrong other (tt {0}) beyond e tt refl)

pub returns-then-is-clause-line : goal.returns-then-is-clause-line
returns-then-is-clause-line c level outer ends =
    end_tells c.args.parser.now c.fail.new.self level outer c.begin_line.new.at ends c.begin_line.ensures.sound
    (λ why sound wrong other. no_end_line c.args.parser.now.fault c.args.parser.now.rest.now (sym c.if-take.ensures.found) sound)

pub returns-else-is-clause-line : goal.returns-else-is-clause-line
returns-else-is-clause-line c level outer ends =
    end_tells c.args.parser.now c.fail-else-is.new.self level outer c.begin_line.new.at ends c.begin_line.ensures.sound
    (λ why sound wrong other. no_end_line c.args.parser.now.fault c.args.parser.now.rest.now (sym c.if-take.ensures.found) sound)

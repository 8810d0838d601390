use Rattle.std.proofs.Common.{sym}
use Rattle.clocks.specs.parts.Clocks.{block_of}
use Rattle.clocks.proofs.Listed.{named_cannot_race, single_if}
use Rattle.clocks.proofs.finders.may_race.Goals as goal

pub returns-in-Some-source : goal.returns-in-Some-source
returns-in-Some-source c = λ alone. named_cannot_race c.args.program.now (block_of c.args.names.now) c.args.call c.in-Some.known c.in-Some-pattern.pattern c.in-Some-source.field-0 c.requires (sym c.in-Some.ensures) (sym c.in-Some-pattern.ensures) c.in-Some-source.is (c.is_single.ensures.single (single_if c.is_single.result alone))

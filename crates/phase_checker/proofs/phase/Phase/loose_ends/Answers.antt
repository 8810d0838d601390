use Rattle.phase_checker.proofs.Sent.{named_has_none}
use Rattle.phase_checker.proofs.phase.Phase.loose_ends.Goals as goal

pub returns-then-names_sources : goal.returns-then-names_sources
returns-then-names_sources c = named_has_none c.args.self.now.program c.new.result.items (c.names_sources.ensures.0 c.if-names_sources.true) c.new.ensures.items

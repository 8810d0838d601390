use Rattle.std.proofs.Common.{◌+◌}
use Rattle.formula.specs.Families.{finds_message}
use Rattle.formula_tables.proofs.Kept.{kept_more}
use Rattle.formula_tables.proofs.events.push_matches.Goals as goal

pub loop-taker-preserved : goal.loop-taker-preserved
loop-taker-preserved c =
    kept_more (λ t. c.args.calls + t) (finds_message c.args.program.now) c.loop-taker.taker c.args.slots.now.items c.loop-taker.slots.items _ c.loop-taker.invariant c.in_ok-push_match.ensures

use Rattle.std.proofs.Common.{sym}
use Rattle.callorder.specs.Programs.{call_at}
use Rattle.deciding.proofs.Racing.{own_fits_rival, race_of, there_of_fit}
use Rattle.deciding.proofs.decision.named_race.Goals as goal

pub unreachable-requires-in_default-caller_at : goal.unreachable-requires-in_default-caller_at
unreachable-requires-in_default-caller_at c =
    let p = c.args.program.now in
    let send = c.in-Some-partner.send in
    there_of_fit (call_at p send) (call_at p c.args.race.finder)
    (own_fits_rival p c.args.state.now c.args.race send c.requires.rival c.requires.fit (sym c.in-Some-partner.ensures))
    c.in_default-caller_at.ensures.none

pub returns : goal.returns
returns c =
    race_of c.args.program.now c.args.state.now c.args.race c.in-Some-partner.send c.in-Some.finder c.in-Some-caller_at.found c.in-Some-caller_at-2.other
    c.requires.rival c.requires.unordered c.requires.ended c.requires.fit (sym c.in-Some-partner.ensures) c.in-Some.ensures.some c.in-Some-caller_at.ensures.some c.in-Some-caller_at-2.ensures.some

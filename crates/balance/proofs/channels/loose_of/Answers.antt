use Rattle.std.proofs.Common.{◌+◌, map, sym, subst, take}
use Rattle.std.specs.Global.{Vec}
use Rattle.balance.specs.declared.channels.TakerWildcards.{TakerWildcards}
use Rattle.balance.specs.parts.Wildcards.{channel_address_of, AreWild}
use Rattle.balance.proofs.Leaving.{loose_none_at, loose_some_at}
use Rattle.balance.proofs.channels.loose_of.Goals as goal
use Rattle.balance.proofs.channels.loose_of.Goals.{in-Some, in_default}

pub loop-place-preserved : goal.loop-place-preserved
loop-place-preserved c =
    let calls = c.args.calls.now in
    let numbers = c.args.numbers.now in
    let place = c.loop-place.place in
    let table = c.loop-place.table.items in
    elim c.match-number.branch [
      | in-Some w ↦
          subst (λ (z : Vec TakerWildcards). AreWild (take (place + 1) calls) (map channel_address_of calls) numbers z.items) (sym w.table-is)
          (loose_some_at calls numbers table place _ w.in-Some.number w.index.result.now w.loosened.result c.requires c.loop-place.invariant c.loop-place-test.true w.in-Some.is w.index.ensures w.loosened.ensures)
      | in_default w ↦
          subst (λ (z : Vec TakerWildcards). AreWild (take (place + 1) calls) (map channel_address_of calls) numbers z.items) (sym w.table-is)
          (loose_none_at calls numbers table place c.requires c.loop-place.invariant c.loop-place-test.true w.in_default.is)
    ]

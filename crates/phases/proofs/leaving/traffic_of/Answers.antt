use Rattle.std.proofs.Common.{◌+◌, map, sym, subst, take, arith}
use Rattle.std.specs.Global.{Vec}
use Rattle.phases.specs.declared.leaving.Traffic.{Traffic}
use Rattle.phases.specs.parts.Traffic.{address_of, AreTraffic}
use Rattle.phases.proofs.Traffic.{unnumbered_at, numbered_at, number_below, few_so_far, all_numbered}
use Rattle.phases.proofs.leaving.traffic_of.Goals as goal
use Rattle.phases.proofs.leaving.traffic_of.Goals.{in-Some, in_default}

pub loop-place-preserved : goal.loop-place-preserved
loop-place-preserved c =
    let calls = c.args.calls.now in
    let numbers = c.args.numbers.now in
    let place = c.loop-place.place in
    let table = c.loop-place.table.items in
    elim c.match-number.branch [
      | in-Some w ↦
          subst (λ (z : Vec Traffic). AreTraffic (take (place + 1) calls) (map address_of calls) numbers z.items) (sym w.table-is)
          (numbered_at calls numbers table place _ w.in-Some.number w.index.result.now w.counted.result c.requires.numbered c.loop-place.invariant c.loop-place-test.true w.in-Some.is w.index.ensures w.counted.ensures)
      | in_default w ↦
          subst (λ (z : Vec Traffic). AreTraffic (take (place + 1) calls) (map address_of calls) numbers z.items) (sym w.table-is)
          (unnumbered_at calls numbers table place c.requires.numbered c.loop-place.invariant c.loop-place-test.true w.in_default.is)
    ]

pub index_mut-requires : goal.index_mut-requires
index_mut-requires c =
    let below = number_below c.args.calls.now c.args.numbers.now c.loop-place.table.items c.loop-place.place c.in-Some.number c.requires.numbered c.loop-place.invariant c.loop-place-test.true c.in-Some.is in
    omega (arith, below, c.loop-place.table.ok)

pub counted-requires-clause-sent : goal.counted-requires-clause-sent
counted-requires-clause-sent c =
    let few = few_so_far c.args.calls.now c.args.numbers.now c.loop-place.table.items c.loop-place.place c.in-Some.number c.index.result.now c.requires.numbered c.loop-place.invariant c.loop-place-test.true c.in-Some.is c.index.ensures in
    let size = all_numbered c.args.calls.now c.args.numbers.now c.requires.numbered in
    omega (arith, few.0, size, c.requires.few, c.loop-place-test.true)

pub counted-requires-clause-taken : goal.counted-requires-clause-taken
counted-requires-clause-taken c =
    let few = few_so_far c.args.calls.now c.args.numbers.now c.loop-place.table.items c.loop-place.place c.in-Some.number c.index.result.now c.requires.numbered c.loop-place.invariant c.loop-place-test.true c.in-Some.is c.index.ensures in
    let size = all_numbered c.args.calls.now c.args.numbers.now c.requires.numbered in
    omega (arith, few.1, size, c.requires.few, c.loop-place-test.true)

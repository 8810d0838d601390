use Rattle.std.proofs.Common.{ℕ, ◌+◌, Option, Vec, Global, rules, arith, sym, subst}
use Rattle.interning.proofs.TableSteps.{IsLastTable, IsLastTable-start, IsLastTable-none, IsLastTable-some, held_below}
use Rattle.interning.proofs.tables.last_places.Goals as goal
use Rattle.interning.proofs.tables.last_places.Goals.{in-Some, in_default}

pub loop-place-init : goal.loop-place-init
loop-place-init c = IsLastTable-start c.args.bound c.args.numbers.now c.in_ok-last.last.items (search rules)

pub index_mut-requires : goal.index_mut-requires
index_mut-requires c =
    let below = held_below c.args.bound c.args.numbers.now c.loop-place.place c.in-Some.number c.requires c.loop-place-test.true c.in-Some.is in
    omega (arith, c.loop-place.invariant.size)

pub loop-place-preserved : goal.loop-place-preserved
loop-place-preserved c =
    elim c.match-number.branch [
      | in-Some w ↦
          let below = held_below c.args.bound c.args.numbers.now c.loop-place.place w.in-Some.number c.requires c.loop-place-test.true w.in-Some.is in
          let more = IsLastTable-some c.args.bound c.args.numbers.now c.loop-place.place w.in-Some.number c.loop-place.last.items w.in-Some.is below c.loop-place.invariant in
          subst (λ (v : Vec (Option ℕ) Global). IsLastTable c.args.bound c.args.numbers.now (c.loop-place.place + 1) v.items) (sym w.last-is) more
      | in_default w ↦
          let more = IsLastTable-none c.args.bound c.args.numbers.now c.loop-place.place c.loop-place.last.items w.in_default.is c.loop-place.invariant in
          subst (λ (v : Vec (Option ℕ) Global). IsLastTable c.args.bound c.args.numbers.now (c.loop-place.place + 1) v.items) (sym w.last-is) more
    ]

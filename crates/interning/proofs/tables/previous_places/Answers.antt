use Rattle.std.proofs.Common.{ℕ, ◌+◌, List, Option, Vec, Global, rules, arith, sym, ap, subst, ◌∙◌, length}
use Rattle.std.specs.Vec.{with_item}
use Rattle.interning.specs.Places.{IsTable, previous_of}
use Rattle.interning.proofs.TableSteps.{IsLastTable, IsLastTable-start, IsLastTable-none, IsLastTable-some, IsTable-start, IsTable-push, previous_of-some, previous_of-none, held_below}
use Rattle.interning.proofs.tables.previous_places.Goals as goal
use Rattle.interning.proofs.tables.previous_places.Goals.{in-None, in-Some}

pub loop-place-init : goal.loop-place-init
loop-place-init c = (
  IsLastTable-start (length c.args.numbers.now) c.args.numbers.now c.in_ok-last.last.items (search rules),
  IsTable-start (previous_of c.args.numbers.now) c.new-previous.result.items c.new-previous.ensures.items,
)

pub index_mut-requires : goal.index_mut-requires
index_mut-requires c =
    let below = held_below (length c.args.numbers.now) c.args.numbers.now c.loop-place.place c.in-Some.number c.requires c.loop-place-test.true c.in-Some.is in
    omega (arith, c.loop-place.invariant.0.size)

pub loop-place-preserved : goal.loop-place-preserved
loop-place-preserved c =
    elim c.match-number.branch [
      | in-None w ↦
          let table = IsLastTable-none (length c.args.numbers.now) c.args.numbers.now c.loop-place.place c.loop-place.last.items w.in-None.is c.loop-place.invariant.0 in
          let more = IsTable-push c.loop-place.place (previous_of c.args.numbers.now) c.loop-place.previous.items c.match-number.push (w.push-is ∙ previous_of-none c.args.numbers.now c.loop-place.place w.in-None.is) c.loop-place.invariant.1 in (
            subst (λ (v : Vec (Option ℕ) Global). IsLastTable (length c.args.numbers.now) c.args.numbers.now (c.loop-place.place + 1) v.items) (sym w.last-is) table,
            subst (λ (items : List (Option ℕ)). IsTable (c.loop-place.place + 1) (previous_of c.args.numbers.now) items) (sym c.in_ok-push.ensures.items) more,
          )
      | in-Some w ↦
          let below = held_below (length c.args.numbers.now) c.args.numbers.now c.loop-place.place w.in-Some.number c.requires c.loop-place-test.true w.in-Some.is in
          let table = IsLastTable-some (length c.args.numbers.now) c.args.numbers.now c.loop-place.place w.in-Some.number c.loop-place.last.items w.in-Some.is below c.loop-place.invariant.0 in
          let before = previous_of-some (length c.args.numbers.now) c.args.numbers.now c.loop-place.place w.in-Some.number c.loop-place.last.items w.index_mut.result.now w.in-Some.is below c.loop-place.invariant.0 w.index_mut.ensures.value in
          let more = IsTable-push c.loop-place.place (previous_of c.args.numbers.now) c.loop-place.previous.items c.match-number.push (w.push-is ∙ (w.replace.ensures.value ∙ before)) c.loop-place.invariant.1 in
          let written = w.last-is ∙ ap (with_item c.loop-place.last w.in-Some.number) w.replace.ensures.after in (
            subst (λ (v : Vec (Option ℕ) Global). IsLastTable (length c.args.numbers.now) c.args.numbers.now (c.loop-place.place + 1) v.items) (sym written) table,
            subst (λ (items : List (Option ℕ)). IsTable (c.loop-place.place + 1) (previous_of c.args.numbers.now) items) (sym c.in_ok-push.ensures.items) more,
          )
    ]

use Rattle.std.proofs.Common.{refl, arith}
use Rattle.phase_checker.proofs.Dealing.{entry_is, unkept_is_wrong}
use Rattle.phase_checker.proofs.joining.deal_at.Goals as goal

pub returns-then-not-deal-clause-why : goal.returns-then-not-deal-clause-why
returns-then-not-deal-clause-why c =
    let found = c.in-Some.ensures.lookup.3 in
    λ q rest. (
      refl,
      c.in-Some.phase.now,
      entry_is c.args.phases.now c.args.order.now c.args.place c.in-Some.phase.now c.requires.inside found.0 (found.1 c.in-Some.phase.now),
      λ front. let e = (c.deal.ensures.front q rest).1 front in absurd (cc),
    )

pub returns-then-place-order-clause-dealt : goal.returns-then-place-order-clause-dealt
returns-then-place-order-clause-dealt c =
    let found = c.in-Some.ensures.lookup.3 in
    λ q rest.
    record {
      phase = c.in-Some.phase.now;
      is = entry_is c.args.phases.now c.args.order.now c.args.place c.in-Some.phase.now c.requires.inside found.0 (found.1 c.in-Some.phase.now);
      front = (c.deal.ensures.front q rest).0 c.if-not-deal.false;
      rest = c.deal.ensures.rest q rest c.if-not-deal.false;
      keeps = λ more. absurd (omega (arith, more, c.if-place-order.true));
    }

pub returns-in-Ok-clause-dealt : goal.returns-in-Ok-clause-dealt
returns-in-Ok-clause-dealt c =
    let found = c.in-Some.ensures.lookup.3 in
    let is = entry_is c.args.phases.now c.args.order.now c.args.place c.in-Some.phase.now c.requires.inside found.0 (found.1 c.in-Some.phase.now) in
    λ q rest.
    record {
      phase = c.in-Some.phase.now;
      is = is;
      front = (c.deal.ensures.front q rest).0 c.if-not-deal.false;
      rest = c.deal.ensures.rest q rest c.if-not-deal.false;
      keeps = λ more. c.in-Ok.ensures.kept c.args.phases.now c.args.order.now c.requires.early is;
    }

pub returns-in-Err-clause-why : goal.returns-in-Err-clause-why
returns-in-Err-clause-why c =
    let found = c.in-Some.ensures.lookup.3 in
    let is = entry_is c.args.phases.now c.args.order.now c.args.place c.in-Some.phase.now c.requires.inside found.0 (found.1 c.in-Some.phase.now) in
    λ q rest.
    unkept_is_wrong c.args.phases.now c.args.order.now c.args.place q c.in-Some.phase.now c.in-Err.why (c.in-Err.ensures.why c.args.phases.now c.args.order.now c.requires.early is)
    (omega (arith, c.requires.inside, c.if-place-order.false)) (record { is = is; front = (c.deal.ensures.front q rest).0 c.if-not-deal.false })

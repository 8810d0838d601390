use Rattle.std.proofs.Common.{ℕ, ◌≡◌, subst, arith}
use Rattle.phases.proofs.ManyPhases.{programs_are_well_formed}
use Rattle.phases.proofs.Dealt.{AreFirst, none_yet, all_left}
use Rattle.phases.proofs.dealing.first_places.Goals as goal

pub loop-rank-init : goal.loop-rank-init
loop-rank-init c = none_yet c.args.program.now c.new-next.result.items (programs_are_well_formed _ c.args.program.now c.ranks-rank-end.ensures.kept) c.new-next.ensures.items

pub returns : goal.returns
returns c =
    let all : c.loop-rank.rank ≡ c.args.program.now.ranks = omega (arith, c.loop-rank-test.false, c.loop-rank.auto.rank-end, c.ranks-rank-end.ensures.value) in
    all_left c.args.program.now c.loop-rank.next.items c.loop-rank.place (programs_are_well_formed _ c.args.program.now c.ranks-rank-end.ensures.kept)
    (subst (λ (z : ℕ). AreFirst c.args.program.now c.loop-rank.next.items c.loop-rank.place z) all c.loop-rank.invariant)

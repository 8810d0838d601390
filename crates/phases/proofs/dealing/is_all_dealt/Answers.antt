use Rattle.std.proofs.Common.{refl, sym, ◌∙◌, arith}
use Rattle.phases.proofs.ManyPhases.{programs_are_well_formed}
use Rattle.phases.proofs.Dealt.{none_left, some_left}
use Rattle.phases.proofs.dealing.is_all_dealt.Goals as goal

pub returns-then-is_of_rank : goal.returns-then-is_of_rank
returns-then-is_of_rank c =
    λ q rest. (
      λ e. absurd (cc),
      λ none. absurd (some_left c.args.program.now q c.args.next.now c.loop-rank.rank (programs_are_well_formed _ c.args.program.now c.ranks-rank-end.ensures.kept) rest (omega (arith, c.loop-rank-test.true, c.ranks-rank-end.ensures.value)) (sym c.is_of_rank.ensures ∙ c.if-is_of_rank.true) none),
    )

pub returns : goal.returns
returns c =
    λ q rest. (
      λ e. none_left c.args.program.now q c.args.next.now rest (λ rank inside. c.loop-rank.invariant rank (omega (arith, inside, c.loop-rank-test.false, c.ranks-rank-end.ensures.value))),
      λ none. refl,
    )

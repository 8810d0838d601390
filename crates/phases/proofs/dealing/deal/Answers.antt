use Rattle.std.proofs.Common.{rules, refl, ◌∙◌, sym, arith}
use Rattle.phases.proofs.ManyPhases.{programs_are_well_formed}
use Rattle.phases.proofs.Dealt.{back_again, calls_inside, in_take, refused, taken, taken_off}
use Rattle.phases.proofs.dealing.deal.Goals as goal

pub move_on-dealt-requires : goal.move_on-dealt-requires
move_on-dealt-requires c =
    record {
      ranks = calls_inside c.args.program.now c.args.part.now c.calls-calls.result.now c.args.next.now (programs_are_well_formed _ c.args.part.now c.calls-calls.ensures.kept) c.calls-calls.ensures.value (sym c.ranks.ensures.value ∙ c.if-ranks.false ∙ c.ranks-else-ne.ensures.value) c.requires.places;
    }

pub move_back-requires-clause-ranks : goal.move_back-requires-clause-ranks
move_back-requires-clause-ranks c =
    λ place call there.
    let own =
    calls_inside c.args.program.now c.args.part.now c.calls-calls.result.now c.args.next.now (programs_are_well_formed _ c.args.part.now c.calls-calls.ensures.kept) c.calls-calls.ensures.value (sym c.ranks.ensures.value ∙ c.if-ranks.false ∙ c.ranks-else-ne.ensures.value) c.requires.places place call
    (in_take c.calls-calls.result.now c.move_on-dealt.result place call there) in
    omega (arith, own, c.move_on-dealt.ensures.moved.size)

pub returns-then-dealt-calls-clause-refused : goal.returns-then-dealt-calls-clause-refused
returns-then-dealt-calls-clause-refused c = λ e. back_again _ c.args.next.now c.move_on-dealt.new.next c.move_back.new.next c.move_on-dealt.ensures.moved c.move_back.ensures

pub returns-then-dealt-calls-clause-front : goal.returns-then-dealt-calls-clause-front
returns-then-dealt-calls-clause-front c =
    λ q rest. (
      λ e. absurd (cc),
      λ front. absurd (refused c.args.program.now q c.args.part.now c.calls-calls.result.now c.args.next.now c.move_on-dealt.new.next c.move_on-dealt.result rest
          (programs_are_well_formed _ c.args.part.now c.calls-calls.ensures.kept) c.calls-calls.ensures.value c.if-dealt-calls.true c.move_on-dealt.ensures.moved c.move_on-dealt.ensures.stops front),
    )

pub returns-clause-front : goal.returns-clause-front
returns-clause-front c =
    λ q rest. (
      λ e. taken c.args.program.now q c.args.part.now c.calls-calls.result.now c.args.next.now c.move_on-dealt.result rest (programs_are_well_formed _ c.args.program.now c.ranks-else-ne.ensures.kept) (programs_are_well_formed _ c.args.part.now c.calls-calls.ensures.kept) (search rules) (sym c.ranks.ensures.value ∙ c.if-ranks.false ∙ c.ranks-else-ne.ensures.value) c.calls-calls.ensures.value (omega (arith, c.if-dealt-calls.false, c.move_on-dealt.ensures.stand.within)) c.move_on-dealt.ensures.stand,
      λ front. refl,
    )

pub returns-clause-rest : goal.returns-clause-rest
returns-clause-rest c =
    λ q rest e.
    taken_off c.args.program.now q c.args.part.now c.calls-calls.result.now c.args.next.now c.move_on-dealt.new.next c.move_on-dealt.result rest (programs_are_well_formed _ c.args.part.now c.calls-calls.ensures.kept)
    c.calls-calls.ensures.value (omega (arith, c.if-dealt-calls.false, c.move_on-dealt.ensures.stand.within)) c.move_on-dealt.ensures.moved ((returns-clause-front c q rest).0 e)

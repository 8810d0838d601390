use Rattle.std.proofs.Common.{length, refl}
use Rattle.std.proofs.lemmas.Option.{slice_get_read}
use Rattle.session.proofs.making_up.deal_one.Goals as goal

pub returns : goal.returns
returns c =
    let part = c.in-Some.part.now in
    let programs = c.args.programs.now in
    let found = c.in-Some.ensures.lookup.3 in
    λ q rest. (
      part,
      (slice_get_read programs (length programs) c.args.number part refl found.0 (found.1 part), (c.deal.ensures.front q rest).0 c.if-not-deal.false),
      c.deal.ensures.rest q rest c.if-not-deal.false,
    )

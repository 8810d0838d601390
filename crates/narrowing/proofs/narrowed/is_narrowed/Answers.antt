use Rattle.std.proofs.Common.{refl, rules}
use Rattle.narrowing.proofs.Tested.{all_narrowed, one_more_place}
use Rattle.narrowing.proofs.narrowed.is_narrowed.Goals as goal

pub loop-place-preserved : goal.loop-place-preserved
loop-place-preserved c = one_more_place c.args.program.now c.args.other.now c.args.call c.args.way c.loop-place.place c.loop-place.invariant (c.is_narrowed_at.ensures.0 c.if-not-is_narrowed_at.false)

pub returns : goal.returns
returns c = (
  λ _yes.
      all_narrowed c.args.program.now c.args.other.now c.args.call c.args.way c.loop-place.place
      (search rules) (search rules) (cc) (search rules)
      c.loop-place.invariant,
  λ _is. refl,
)

use Rattle.std.proofs.Common.{subst}
use Rattle.callorder.specs.Programs.{MpiProgram}
use Rattle.narrowing.specs.Narrowed.{IsNarrowed}
use Rattle.choices.proofs.asking.is_narrowed_to.Goals as goal

pub returns : goal.returns
returns c is =
    subst (λ (q : MpiProgram). IsNarrowed c.args.program.now c.args.call c.args.way q) c.deref.ensures (c.is_narrowed.ensures.0 is)

use Rattle.std.proofs.Common.{refl, subst}
use Rattle.leastrun.specs.LeastBuffered.{NothingEnabled}
use Rattle.leastrun.proofs.along.run_along.Goals as goal

pub returns-clause-run : goal.returns-clause-run
returns-clause-run c =
    record {
      run = c.in_ok-walked.ensures.reached.run;
      ended = subst (NothingEnabled c.args.program.now) c.in_ok-walked.ensures.reached.now (c.in_ok-walked.ensures.ended refl);
    }

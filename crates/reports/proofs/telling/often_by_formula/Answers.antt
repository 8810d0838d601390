-- The text's program within the short limits is the one that is asked about.
use Rattle.std.proofs.Common.{IfOk, subst, sym}
use Rattle.callorder.specs.Programs.{MpiProgram}
use Rattle.frequency.specs.Frequencies.{IsFrequency}
use Rattle.frequency.specs.declared.judging.Frequency.TheVariants.{Unknown}
use Rattle.reports.proofs.Programs.{one_program}
use Rattle.reports.proofs.telling.often_by_formula.Goals as goal

pub frequency_of_program-requires-after_bounds : goal.frequency_of_program-requires-after_bounds
frequency_of_program-requires-after_bounds g c κs within =
    subst (λ (p : MpiProgram). IsFrequency p Unknown) (one_program c.args.text.now c.in-Ok.short c.args.program.now c.in-Ok.ensures.program c.requires.text) c.requires.unknown

pub returns-in-Ok : goal.returns-in-Ok
returns-in-Ok g c =
    subst (λ (p : MpiProgram). IfOk c.frequency_of_program.result (IsFrequency p)) (sym (one_program c.args.text.now c.in-Ok.short c.args.program.now c.in-Ok.ensures.program c.requires.text)) c.frequency_of_program.ensures

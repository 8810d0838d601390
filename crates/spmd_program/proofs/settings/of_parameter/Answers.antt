use Rattle.std.proofs.Common.{sym}
use Rattle.spmd_program.proofs.Parameters.{no_parameter, some_parameter}
use Rattle.spmd_program.proofs.settings.of_parameter.Goals as goal

pub returns-then-is_among : goal.returns-then-is_among
returns-then-is_among c = some_parameter c.args.text.now c.deref.result.now c.in-Some.place c.args.place (sym c.in-Some.is) c.deref.ensures.value c.if-is_among.ensures

pub returns-else-is_among : goal.returns-else-is_among
returns-else-is_among c = no_parameter c.args.text.now c.deref.result.now c.in-Some.place c.args.place (sym c.in-Some.is) c.deref.ensures.value c.if-is_among.ensures

use Rattle.std.proofs.Common.{map}
use Rattle.spmd_program.proofs.Answered.{is_misset}
use Rattle.spmd_program.proofs.unrolling.values_of.Goals as goal

pub returns-in_ok-setting_text-in-Err-clause-wrong : goal.returns-in_ok-setting_text-in-Err-clause-wrong
returns-in_ok-setting_text-in-Err-clause-wrong c =
    is_misset c.args.path.now (map (λ s. s.now) c.args.settings.now) c.args.text.now c.in_ok-values.values.items c.deref.result.now
    (record { word = c.in-Err.bad.word.now; why = c.in-Err.bad.fault }) c.in_ok-setting_text-in-Err.field-0.items
    c.in_ok-values.ensures c.deref.ensures.value c.in-Err.ensures c.in_ok-setting_text-in-Err.ensures

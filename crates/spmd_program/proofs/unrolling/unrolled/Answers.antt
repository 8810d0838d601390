use Rattle.std.proofs.Common.{◌≡◌, ◌∙◌, List, Option, Ok, ap, sym, map}
use Rattle.unroll.specs.declared.value.Value.{Value}
use Rattle.spmd_program.specs.Settings.{values_of_settings}
use Rattle.spmd_program.proofs.Answered.{misset_of, unrolled_of, wrong_of}
use Rattle.spmd_program.proofs.unrolling.unrolled.Goals as goal

pub returns-in-Err-values_of-clause-refused : goal.returns-in-Err-values_of-clause-refused
returns-in-Err-values_of-clause-refused c =
    misset_of c.args.path.now c.args.source.now c.args.ranks (map (λ s. s.now) c.args.settings.now) c.args.barriers c.in-Ok.text c.in-Err-values_of.why c.in-Ok.ensures.text c.in-Err-values_of.ensures.wrong

pub returns-clause-unrolled : goal.returns-clause-unrolled
returns-clause-unrolled c =
    let set : values_of_settings c.in-Ok.text (map (λ s. s.now) c.args.settings.now) ≡ Ok c.deref.result.now =
    c.in-Ok-values_of.ensures.values ∙ ap (λ (values : List (Option Value)). Ok values) (sym c.deref.ensures.value) in
    unrolled_of c.args.path.now c.args.source.now c.args.ranks (map (λ s. s.now) c.args.settings.now) c.args.barriers c.args.mapped c.in-Ok.text c.deref.result.now c.unrolled_with.result
    c.in-Ok.ensures.text set c.unrolled_with.ensures.unrolled

pub returns-clause-refused : goal.returns-clause-refused
returns-clause-refused c =
    let set : values_of_settings c.in-Ok.text (map (λ s. s.now) c.args.settings.now) ≡ Ok c.deref.result.now =
    c.in-Ok-values_of.ensures.values ∙ ap (λ (values : List (Option Value)). Ok values) (sym c.deref.ensures.value) in
    wrong_of c.args.path.now c.args.source.now c.args.ranks (map (λ s. s.now) c.args.settings.now) c.args.barriers c.in-Ok.text c.deref.result.now c.unrolled_with.result
    c.in-Ok.ensures.text set c.unrolled_with.ensures.refused

use Rattle.std.proofs.Common.{◌∙◌, ap, codes}
use Rattle.clap.specs.Simple.{app_of_fields}
use Rattle.clap.specs.Words.{new_app}
use Rattle.command_line.specs.CommandLine.{IsShapedAs, wants_subcommand, with_version}
use Rattle.command_line.proofs.commands.command.Goals as goal

pub returns : goal.returns
returns c =
    let top : IsShapedAs c.after_help-top.result (with_version (wants_subcommand (new_app (codes "mpiprove")))) = record {
      read_as = ap app_of_fields c.after_help-top.ensures ∙ ap app_of_fields c.subcommand_required.ensures ∙ ap wants_subcommand (ap app_of_fields c.version.ensures ∙ ap with_version c.new.ensures.app);
      own = ap (λ f. f.has_globals) c.after_help-top.ensures ∙ ap (λ f. f.has_globals) c.subcommand_required.ensures ∙ ap (λ f. f.has_globals) c.version.ensures ∙ c.new.ensures.local;
    } in
    let one = c.under-top.ensures _ _ top c.prove_command.ensures in
    let two = c.under-top-2.ensures _ _ one c.check_command.ensures in
    let three = c.under-top-3.ensures _ _ two c.replay_command.ensures in
    let four = c.under-top-4.ensures _ _ three c.encode_command.ensures in
    let five = c.under-top-5.ensures _ _ four c.explain_command.ensures in
    let six = c.under-top-6.ensures _ _ five c.export_command.ensures in
    let seven = c.under-top-7.ensures _ _ six c.trim_command.ensures in
    let eight = c.under-top-8.ensures _ _ seven c.shrink_command.ensures in
    let nine = c.under-top-9.ensures _ _ eight c.decide_command.ensures in
    let ten = c.under-top-10.ensures _ _ nine c.unroll_command.ensures in
    let eleven = c.under-top-11.ensures _ _ ten c.phases_command.ensures in
    c.under.ensures _ _ eleven c.join_command.ensures

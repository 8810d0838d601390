use Rattle.std.proofs.Common.{◌≡◌, sym, ap, ◌∙◌}
use Rattle.std.specs.List.{list_all}
use Rattle.callorder.specs.declared.calls.Call.{Call}
use Rattle.callorder.specs.Calls.{pattern_of}
use Rattle.races.specs.Races.{names_source}
use Rattle.leastrun.proofs.Listed.{all_at, all_made}
use Rattle.leastrun.proofs.sources.names_sources.Goals as goal

pub returns : goal.returns
returns c =
    let same : c.all_name_sources.result ≡ list_all (λ (call : Call). names_source (pattern_of call.kind)) c.args.program.now.calls =
    c.all_name_sources.ensures ∙ ap (list_all (λ (call : Call). names_source (pattern_of call.kind))) c.calls.ensures.value in (
      λ h place call there. all_at (λ (call : Call). names_source (pattern_of call.kind)) c.args.program.now.calls place call (sym same ∙ h) there,
      λ named. same ∙ all_made (λ (call : Call). names_source (pattern_of call.kind)) c.args.program.now.calls named,
    )

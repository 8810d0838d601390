use Rattle.std.proofs.Common.{refl, sym, ◌∙◌}
use Rattle.spmd_text.proofs.Following.{line_end_begins}
use Rattle.spmd_text.proofs.Made.{reads_kept}
use Rattle.spmd_text.proofs.Parts.{reads_as, reads_then}
use Rattle.spmd_text.proofs.Scopes.{refused_read}
use Rattle.spmd_text.proofs.StatementForms.{call_as, no_form}
use Rattle.spmd_text.proofs.Starts.{word_of_call}
use Rattle.spmd_text.proofs.calls.call.Goals as goal

pub returns-in_default : goal.returns-in_default
returns-in_default c depth calls =
    let none = sym c.form_of.ensures.form ∙ c.in_default.is in
    refused_read _ c.refuse.ensures (λ x rest sound e may ends. no_form c.args.parser.now depth c.args.line c.args.word x calls none may)

pub returns : goal.returns
returns c depth calls =
    let is = sym c.form_of.ensures.form ∙ c.in-Some.is in
    let one = c.arguments-arguments.ensures c.in-Some.ensures.right in
    let two = reads_then (λ y. refl) (λ y here rest may e ends. line_end_begins here rest e) one c.end_line.ensures in
    reads_kept (reads_as (call_as c.args.parser.now depth c.args.line c.args.word c.in-Some.form c.arguments-arguments.result calls is (word_of_call c.args.word c.in-Some.form c.arguments-arguments.result is)) two) c.keep.ensures

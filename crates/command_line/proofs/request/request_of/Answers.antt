use Rattle.std.proofs.Common.{map, string_bytes}
use Rattle.command_line.specs.Requests.{task_of}
use Rattle.command_line.proofs.CommandLines.{asked_apart, fails_by_words, names_by_parse, no_fault_of_words, refused_apart}
use Rattle.command_line.proofs.request.request_of.Goals as goal

pub returns-clause-asked : goal.returns-clause-asked
returns-clause-asked c =
    let words = map (λ w. string_bytes w) c.args.words.now in
    let task = task_of c.in_ok-request-in-Ok.request in
    asked_apart words task c.apart.result
    (names_by_parse _ words c.in-Ok.matches task c.in_ok-command.ensures.read_as c.in-Ok.ensures.ok.2 c.in_ok-request-in-Ok.ensures.request)
    (no_fault_of_words _ words _ c.in-Ok.matches c.in_ok-command.ensures.read_as c.in-Ok.is c.try_get_matches_from_mut.ensures.kinds)
    c.apart.ensures.same c.apart.ensures.apart

pub returns-clause-faults : goal.returns-clause-faults
returns-clause-faults c =
    let words = map (λ w. string_bytes w) c.args.words.now in
    let task = task_of c.in_ok-request-in-Ok.request in
    refused_apart words task c.apart.result
    (names_by_parse _ words c.in-Ok.matches task c.in_ok-command.ensures.read_as c.in-Ok.ensures.ok.2 c.in_ok-request-in-Ok.ensures.request)
    c.apart.ensures.fault

pub returns-in-Err-clause-faults : goal.returns-in-Err-clause-faults
returns-in-Err-clause-faults c =
    fails_by_words _ (map (λ w. string_bytes w) c.args.words.now) _ c.in-Err.fault c.in_ok-command.ensures.read_as c.in-Err.is c.try_get_matches_from_mut.ensures.kinds

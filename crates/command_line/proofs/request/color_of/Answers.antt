use Rattle.std.proofs.Common.{map, string_bytes}
use Rattle.std.specs.Prelude.{IfSome}
use Rattle.command_line.specs.Requests.{IsColor}
use Rattle.command_line.proofs.CommandLines.{by_parse}
use Rattle.command_line.proofs.request.color_of.Goals as goal

pub returns : goal.returns
returns c =
    by_parse (λ found. IfSome c.color_asked.result (λ when. IsColor found when.now)) _ (map (λ w. string_bytes w) c.args.words.now) c.in-Ok-try_get_matches_from_mut.matches
    c.in-Ok.ensures.read_as c.in-Ok-try_get_matches_from_mut.ensures.ok.2 c.color_asked.ensures

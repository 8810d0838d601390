use Rattle.std.proofs.Common.{◌++◌, codes}
use Rattle.explain_json.proofs.object.joined.Goals as goal

pub returns : goal.returns
returns c = record { back = c.args.below.now ++ codes "}\n"; is = c.in_ok-put_parts.ensures }

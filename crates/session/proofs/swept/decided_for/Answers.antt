use Rattle.std.proofs.Common.{map}
use Rattle.session.specs.Sweeping.{IsDecidedFor}
use Rattle.session.proofs.SweptPages.{refused_for}
use Rattle.session.proofs.swept.decided_for.Goals as goal

pub returns-in-Err-Refused : goal.returns-in-Err-Refused
returns-in-Err-Refused c =
    refused_for c.args.path.now c.args.source.now (map (λ s. s.now) c.args.settings.now) c.args.barriers c.args.json (IsDecidedFor c.args.json) c.args.ranks
    c.in-Err-Refused.field-0 c.in-Err-Refused.told c.deref.result.now c.refused_for.result c.in-Err-Refused.field-0-is c.deref.ensures.value
    c.in-Err-Refused.ensures.refused c.refused_for.ensures.text c.refused_for.ensures.status

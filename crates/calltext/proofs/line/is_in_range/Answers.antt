use Rattle.std.proofs.Common.{rules}
use Rattle.calltext.proofs.line.is_in_range.Goals as goal

pub returns-then-tag-limits : goal.returns-then-tag-limits
returns-then-tag-limits c = search rules

pub returns-else-tag-limits : goal.returns-else-tag-limits
returns-else-tag-limits c = search rules

pub returns-then-send_tag-limits : goal.returns-then-send_tag-limits
returns-then-send_tag-limits c = search rules

pub returns-else-send_tag-limits : goal.returns-else-send_tag-limits
returns-else-send_tag-limits c = search rules

pub returns-in-MatchedReceive : goal.returns-in-MatchedReceive
returns-in-MatchedReceive c = search rules

pub returns-in-MatchedReceive-2 : goal.returns-in-MatchedReceive-2
returns-in-MatchedReceive-2 c = search rules

pub returns-in-MatchedReceive-3 : goal.returns-in-MatchedReceive-3
returns-in-MatchedReceive-3 c = search rules

pub returns-in-Receive : goal.returns-in-Receive
returns-in-Receive c = search rules

use Rattle.std.proofs.lemmas.Grind.{common_steps}
use Rattle.std.proofs.Common.{rules, arith}
use Rattle.calltext.proofs.printer.put_call_numbers.Goals as goal

pub returns-in_ok-put_message-in-Send : goal.returns-in_ok-put_message-in-Send
returns-in_ok-put_message-in-Send c = search rules

pub returns-in_ok-put_pattern-in-SendReceive : goal.returns-in_ok-put_pattern-in-SendReceive
returns-in_ok-put_pattern-in-SendReceive c = grind (arith, common_steps)

pub returns-in-MatchedReceive : goal.returns-in-MatchedReceive
returns-in-MatchedReceive c = search rules

pub returns-in-MatchedReceive-2 : goal.returns-in-MatchedReceive-2
returns-in-MatchedReceive-2 c = search rules

pub returns-in-MatchedReceive-3 : goal.returns-in-MatchedReceive-3
returns-in-MatchedReceive-3 c = search rules

pub returns-in_ok-put_pattern-in-Receive : goal.returns-in_ok-put_pattern-in-Receive
returns-in_ok-put_pattern-in-Receive c = search rules

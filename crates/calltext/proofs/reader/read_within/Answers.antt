use Rattle.std.proofs.Common.{◌≤◌, length, arith, sym, subst, rules}
use Rattle.calltext.specs.Fault.{HasFaultWithin}
use Rattle.calltext.specs.Body.{views}
use Rattle.calltext.proofs.Exact.{text_wider}
use Rattle.calltext.proofs.Faults.{first_heading, second_heading, third_heading, stopped, is_text, readable}
use Rattle.calltext.specs.Grammar.{IsTextWithin, long}
use Rattle.calltext.proofs.reader.read_within.Goals as goal

pub returns-in-Err-clause-fault : goal.returns-in-Err-clause-fault
returns-in-Err-clause-fault c =
    let small : length c.args.bytes.now ≤ c.args.limits.bytes = omega arith in
    subst (HasFaultWithin c.args.limits c.args.bytes.now) (sym c.at_line.ensures) (first_heading c.args.limits c.in-Err.fault c.args.bytes.now c.requires.some small c.in-Err.ensures.err)

pub returns-in-Err-policy_line-clause-fault : goal.returns-in-Err-policy_line-clause-fault
returns-in-Err-policy_line-clause-fault c =
    let small : length c.args.bytes.now ≤ c.args.limits.bytes = omega arith in
    subst (HasFaultWithin c.args.limits c.args.bytes.now) (sym c.at_line-in-Err-policy_line.ensures)
    (second_heading c.args.limits c.in-Err-policy_line.fault c.args.bytes.now c.in-Ok.found.1.now c.in-Ok.found.0 small c.in-Ok.ensures.number.0 c.in-Ok.ensures.number.1 c.in-Ok.ensures.ok c.in-Err-policy_line.ensures.err)

pub returns-in-Err-first_rank_line-clause-fault : goal.returns-in-Err-first_rank_line-clause-fault
returns-in-Err-first_rank_line-clause-fault c =
    let small : length c.args.bytes.now ≤ c.args.limits.bytes = omega arith in
    subst (HasFaultWithin c.args.limits c.args.bytes.now) (sym c.at_line-in-Err-first_rank_line.ensures)
    (third_heading c.args.limits c.in-Err-first_rank_line.fault c.args.bytes.now c.in-Ok.found.1.now c.in-Ok-policy_line.found.1.now c.in-Ok.found.0 c.in-Ok-policy_line.found.0 small c.in-Ok.ensures.number.0 c.in-Ok.ensures.number.1
    c.in-Ok.ensures.ok c.in-Ok-policy_line.ensures.ok c.in-Err-first_rank_line.ensures.err)

pub new-requires : goal.new-requires
new-requires c =
    let small : length c.args.bytes.now ≤ c.args.limits.bytes = omega arith in
    readable long c.args.bytes.now _ (text_wider c.args.limits long c.requires.within c.args.bytes.now _ (is_text c.args.limits c.args.bytes.now c.in-Ok.found.1.now c.in-Ok-policy_line.found.1.now c.in-Ok-first_rank_line.found.now c.in-Ok.found.0 c.in-Ok-policy_line.found.0 (views c.in-Ok-ranks_from.ranks.items) small
    c.in-Ok.ensures.number.0 c.in-Ok.ensures.number.1 c.in-Ok.ensures.ok c.in-Ok-policy_line.ensures.ok c.in-Ok-first_rank_line.ensures.ok c.in-Ok-ranks_from.ensures.ok))

pub returns-in-Ok-ranks_from-clause-text : goal.returns-in-Ok-ranks_from-clause-text
returns-in-Ok-ranks_from-clause-text c =
    let small : length c.args.bytes.now ≤ c.args.limits.bytes = omega arith in
    subst (IsTextWithin c.args.limits c.args.bytes.now) (sym c.new.ensures)
    (is_text c.args.limits c.args.bytes.now c.in-Ok.found.1.now c.in-Ok-policy_line.found.1.now c.in-Ok-first_rank_line.found.now c.in-Ok.found.0 c.in-Ok-policy_line.found.0 (views c.in-Ok-ranks_from.ranks.items) small
    c.in-Ok.ensures.number.0 c.in-Ok.ensures.number.1 c.in-Ok.ensures.ok c.in-Ok-policy_line.ensures.ok c.in-Ok-first_rank_line.ensures.ok c.in-Ok-ranks_from.ensures.ok)

pub returns-in-Err-ranks_from-clause-fault : goal.returns-in-Err-ranks_from-clause-fault
returns-in-Err-ranks_from-clause-fault c =
    let small : length c.args.bytes.now ≤ c.args.limits.bytes = omega arith in
    subst (HasFaultWithin c.args.limits c.args.bytes.now) (sym c.at_line-in-Err-ranks_from.ensures)
    (stopped c.args.limits c.in-Err-ranks_from.stop.fault c.in-Err-ranks_from.stop.line c.args.bytes.now c.in-Ok.found.1.now c.in-Ok-policy_line.found.1.now c.in-Ok-first_rank_line.found.now c.in-Ok.found.0 c.in-Ok-policy_line.found.0 small
    c.in-Ok.ensures.number.0 c.in-Ok.ensures.number.1 c.in-Ok.ensures.ok c.in-Ok-policy_line.ensures.ok c.in-Ok-first_rank_line.ensures.ok c.in-Err-ranks_from.ensures.err)

pub returns-then-bytes-limits-clause-text : goal.returns-then-bytes-limits-clause-text
returns-then-bytes-limits-clause-text c = search rules

pub returns-then-bytes-limits-clause-fault : goal.returns-then-bytes-limits-clause-fault
returns-then-bytes-limits-clause-fault c = search rules

pub returns-in-Err-clause-text : goal.returns-in-Err-clause-text
returns-in-Err-clause-text c = search rules

pub returns-in-Err-policy_line-clause-text : goal.returns-in-Err-policy_line-clause-text
returns-in-Err-policy_line-clause-text c = search rules

pub returns-in-Err-first_rank_line-clause-text : goal.returns-in-Err-first_rank_line-clause-text
returns-in-Err-first_rank_line-clause-text c = search rules

pub ranks_from-requires-clause-low : goal.ranks_from-requires-clause-low
ranks_from-requires-clause-low c = search rules

pub ranks_from-requires-clause-high : goal.ranks_from-requires-clause-high
ranks_from-requires-clause-high c = search rules

pub ranks_from-requires-clause-small : goal.ranks_from-requires-clause-small
ranks_from-requires-clause-small c = search rules

pub returns-in-Ok-ranks_from-clause-fault : goal.returns-in-Ok-ranks_from-clause-fault
returns-in-Ok-ranks_from-clause-fault c = search rules

pub returns-in-Err-ranks_from-clause-text : goal.returns-in-Err-ranks_from-clause-text
returns-in-Err-ranks_from-clause-text c = search rules

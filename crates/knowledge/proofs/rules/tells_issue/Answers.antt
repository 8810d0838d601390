use Rattle.std.proofs.Common.{◌-◌, ◌≡◌, suc, sym, ◌∙◌, arith}
use Rattle.knowledge.specs.Knowledge.{column_table, with_partners}
use Rattle.knowledge.proofs.Entries.{issue_by}
use Rattle.knowledge.proofs.rules.tells_issue.Goals as goal

pub returns-else-knows : goal.returns-else-knows
returns-else-knows c =
    issue_by c.args.program.now (with_partners c.args.partners.now) (column_table c.args.finder c.args.known.now) c.args.call (c.args.call - 1) c.args.finder c.tells_return.result
    (let above = c.if-call-eq0.false in omega arith) (sym c.are_of_one_rank.ensures ∙ c.if-not-are_of_one_rank.false) (sym c.knows.ensures ∙ c.if-knows.false) c.tells_return.ensures

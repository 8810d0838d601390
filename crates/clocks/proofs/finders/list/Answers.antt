use Rattle.std.proofs.Common.{ℕ, ap, ◌∙◌, arith}
use Rattle.callorder.specs.Programs.{call_at}
use Rattle.clocks.specs.parts.Clocks.{block_of}
use Rattle.clocks.specs.parts.Finders.{group_of_call}
use Rattle.clocks.proofs.Listed.{not_listed, also_listed}
use Rattle.clocks.proofs.finders.list.Goals as goal

pub returns-then-not-may_race : goal.returns-then-not-may_race
returns-then-not-may_race c = λ known. not_listed c.args.program.now (block_of c.args.names.now) c.args.call c.args.groups.now.items (c.may_race.ensures c.if-not-may_race.true) known

pub returns : goal.returns
returns c = λ known.
    also_listed c.args.program.now (block_of c.args.names.now) c.args.call c.group_of_finder-place.result c.args.groups.now.items _
    (c.group_of_finder-place.ensures ∙ ap (λ (z : ℕ). group_of_call z (call_at c.args.program.now c.args.call)) (let size = c.len.ensures in let all = c.args.groups.now.ok in omega (arith, size, all)))
    c.in_ok-put.ensures known

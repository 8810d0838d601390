use Rattle.std.proofs.Common.{nat_lt, sym, ap, subst, ◌∙◌, rules}
use Rattle.std.proofs.lemmas.List.Sorted.{IsPartitionPoint-from_clause}
use Rattle.std.specs.List.{count_by}
use Rattle.std.specs.List.Sorted.{IsPartitionedBy}
use Rattle.callorder.specs.declared.calls.Call.{Call}
use Rattle.semantics.proofs.Firsts.{ranks_part, count_at}
use Rattle.calltext.specs.Grammar.{long}
use Rattle.semantics.proofs.state.calls_below.Goals as goal

pub returns : goal.returns
returns c =
    let below = λ (call : Call). nat_lt call.rank c.args.rank in
    let parted = subst (IsPartitionedBy below) (sym c.calls.ensures.value) (ranks_part long c.args.program.now c.args.rank c.calls.ensures.kept) in
    let point = IsPartitionPoint-from_clause below _ _ c.partition_point.ensures.partitioned parted (λ a r q k. search rules) in
    sym (count_at below _ _ point c.partition_point.ensures.bound) ∙ ap (count_by below) c.calls.ensures.value

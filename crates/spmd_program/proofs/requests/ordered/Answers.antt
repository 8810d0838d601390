use Rattle.std.proofs.Common.{subst}
use Rattle.calltext.specs.Grammar.{long}
use Rattle.callorder.specs.FirstFaults.{IsFirstCallFault, IsFirstFaultWithin}
use Rattle.callorder.specs.declared.fault.ResolveFault.{ResolveFault}
use Rattle.spmd_program.proofs.Orders.{right, wrong}
use Rattle.spmd_program.proofs.requests.ordered.Goals as goal

pub returns-in-Ok-resolve-clause-ordered : goal.returns-in-Ok-resolve-clause-ordered
returns-in-Ok-resolve-clause-ordered c =
    right c.args.program.now c.args.text.now.policy c.args.text.now.names.items c.args.ranks c.args.unrolled.now.calls.items c.in-Ok.source c.in-Ok-resolve._program
    c.requires c.in-Ok.ensures.text c.in-Ok-resolve.ensures.program

pub returns-in_ok-told-in-Err-At-clause-fault : goal.returns-in_ok-told-in-Err-At-clause-fault
returns-in_ok-told-in-Err-At-clause-fault c =
    let first : IsFirstCallFault long c.in-Ok.source c.in-Err-At.rank c.in-Err-At.place c.in-Err-At.fault =
    subst (λ (f : ResolveFault). IsFirstFaultWithin long c.in-Ok.source f) c.in-Err-At.field-0-is c.in-Err-At.ensures.fault in
    wrong c.args.path.now c.args.program.now c.args.text.now.policy c.args.text.now.names.items c.deref-in-Err-At.result.now c.args.ranks c.args.unrolled.now.turns.items
    c.deref-in-Err-At-2.result.now c.args.unrolled.now.calls.items c.deref.result.now c.in-Ok.source c.in-Err-At.rank c.in-Err-At.place c.saturating_sub.result c.in-Err-At.fault
    c.call_at-placed.result c.in_ok-told-in-Err-At.told.items c.requires c.in-Ok.ensures.text first c.deref-in-Err-At.ensures.value c.deref-in-Err-At-2.ensures.value
    c.deref.ensures.value c.saturating_sub.ensures c.call_at-placed.ensures c.in_ok-told-in-Err-At.ensures

-- What is told by parts is told by the end of an operation, and by the issue of a call.
use Rattle.std.proofs.Common.{◌≡◌, ℕ, suc, Bool, true, ◌||◌, Option, Some, sym, subst}
use Rattle.calltext.proofs.Conjunctions.{and_both}
use Rattle.calltext.specs.declared.call.Mode.{Mode}
use Rattle.calltext.specs.declared.call.Mode.TheVariants.{Standard, Synchronous, Buffered}
use Rattle.callorder.specs.declared.calls.Call.{Call}
use Rattle.callorder.specs.declared.calls.Message.{Message}
use Rattle.callorder.specs.declared.calls.Kind.{Kind}
use Rattle.callorder.specs.declared.calls.Kind.TheVariants.{Send}
use Rattle.callorder.specs.Programs.{MpiProgram, call_at, are_of_one_rank}
use Rattle.semantics.specs.Machine.{Configuration}
use Rattle.races.specs.Tells.{tells_done, tells_done_call, tells_done_kind, tells_return_call, tells_issue}
use Rattle.clocks.specs.declared.reads.DoneOperation.{DoneOperation}
use Rattle.clocks.specs.parts.Clocks.{Leads, tells_sent, tells_found, tells_read}
use Rattle.knowledge.proofs.Less.{or_both}

sent_kind_leads : (p : MpiProgram) (e : Configuration) (c : ℕ) (mode : Mode) (blocking : Bool) (message : Message) → Leads (λ knows f. tells_sent p e knows c mode f) (λ knows f. tells_done_kind p e knows c (Send mode blocking message) f)
sent_kind_leads p e c Standard blocking message knows f h = h
sent_kind_leads p e c Synchronous blocking message knows f h = h
sent_kind_leads p e c Buffered blocking message knows f h = h

pub sent_leads : (p : MpiProgram) (e : Configuration) (c : ℕ) (call : Call) (mode : Mode) (blocking : Bool) (message : Message) → Some call ≡ call_at p c → call.kind ≡ Send mode blocking message → Leads (λ knows f. tells_sent p e knows c mode f) (λ knows f. tells_done p e knows c f)
sent_leads p e c call mode blocking message there is =
    subst (λ (o : Option Call). Leads (λ knows f. tells_sent p e knows c mode f) (λ knows f. tells_done_call p e knows c o f)) there
    (subst (λ (z : Kind ℕ). Leads (λ knows f. tells_sent p e knows c mode f) (λ knows f. tells_done_kind p e knows c z f)) (sym is) (sent_kind_leads p e c mode blocking message))

pub read_leads : (p : MpiProgram) (e : Configuration) (call before : ℕ) (found : DoneOperation) → suc before ≡ call → are_of_one_rank p before call ≡ true → Leads (λ knows f. tells_found e knows found f) (λ knows f. tells_return_call p e knows before (call_at p before) f) → Leads (λ knows f. tells_read e knows (record { before = Some before; found = found }) f) (λ knows f. tells_issue p e knows call f)
read_leads p e call before found next one leads =
    subst (λ (z : ℕ). are_of_one_rank p before z ≡ true → Leads (λ knows f. tells_read e knows (record { before = Some before; found = found }) f) (λ knows f. tells_issue p e knows z f)) next
    (λ same knows f h.
    and_both (are_of_one_rank p before (suc before)) (knows before f || tells_return_call p e knows before (call_at p before) f) same
    (or_both (knows before f) (tells_found e knows found f) (knows before f) (tells_return_call p e knows before (call_at p before) f) (λ x. x) (leads knows f) h))
    one

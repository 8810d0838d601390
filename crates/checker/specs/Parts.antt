-- Parts of a verdict, as the code goes through them.
use Rattle.std.specs.Prelude.{◌≡◌, ◌==◌, ◌&&◌, ℕ, Bool, false, List, length}
use Rattle.calltext.specs.declared.fault.ReadFault.{ReadFault}
use Rattle.calltext.specs.declared.fault.ReadFault.TheVariants as reading
use Rattle.callorder.specs.declared.fault.ResolveFault.{ResolveFault}
use Rattle.callorder.specs.declared.fault.ResolveFault.TheVariants as resolving
use Rattle.candidates.specs.declared.fault.PairFault.{PairFault}
use Rattle.candidates.specs.declared.fault.PairFault.TheVariants as pairing
use Rattle.encode.specs.declared.fault.EncodeFault.{EncodeFault}
use Rattle.encode.specs.declared.fault.EncodeFault.TheVariants as encoding
use Rattle.clauses.specs.Clauses.{Conjunction}
use Rattle.refutations.specs.declared.tree_check.TreeFault.{TreeFault}
use Rattle.refutations.specs.declared.tree_check.TreeFault.TheVariants as tree
use Rattle.prooflog.specs.declared.fault.EvidenceFault.{EvidenceFault}
use Rattle.prooflog.specs.declared.fault.EvidenceFault.TheVariants as proving
use Rattle.prooflog.specs.declared.refutation.Version.TheVariants.{Two}
use Rattle.prooflog.specs.Refutations.{ClaimedRefutation}
use Rattle.trimming.specs.Needed.{Needed}
use Rattle.checker.specs.declared.reason.Reason.{Reason}
use Rattle.checker.specs.declared.reason.Reason.TheVariants as reasons
use Rattle.checker.specs.declared.reason.NoRun.{NoRun}
use Rattle.checker.specs.declared.reason.NoRun.TheVariants as runs
use Rattle.checker.specs.Verdicts.{IsARefutation, IsReason, is_of_refutation}

-- the reason for which a fault is told; want of memory is a reason of its own
abbrev pub read_reason : ReadFault → Reason
read_reason reading.Memory = reasons.Memory
read_reason fault = reasons.Read fault

abbrev pub resolve_reason : ResolveFault → Reason
resolve_reason resolving.Memory = reasons.Memory
resolve_reason fault = reasons.Resolve fault

abbrev pub evidence_reason : EvidenceFault → Reason
evidence_reason proving.Memory = reasons.Memory
evidence_reason fault = reasons.Evidence fault

abbrev pub pair_reason : PairFault → Reason
pair_reason pairing.Memory = reasons.Memory
pair_reason fault = reasons.Pairs fault

abbrev pub encode_reason : EncodeFault → Reason
encode_reason encoding.Memory = reasons.Memory
encode_reason fault = reasons.Encode fault

abbrev pub tree_reason : TreeFault → Reason
tree_reason tree.Memory = reasons.Memory
tree_reason fault = reasons.Tree fault

-- why there is no stuck run: the evidence is no schedule, or the first reason of the others
abbrev pub IsNoRun : List ℕ → List ℕ → NoRun → Type 0
IsNoRun program evidence (runs.Refused reason) = IsReason program evidence reason × (is_of_refutation reason ≡ false)
IsNoRun program evidence runs.NotASchedule = IsARefutation program evidence

-- the counts of the refutation are those of the formula
abbrev pub has_counts : ClaimedRefutation → Conjunction → Bool
has_counts claim f = (claim.variables == f.variables) && (claim.clauses == length f.clauses)

-- in version 2 each line of the refutation is needed
abbrev pub AreNeeded : ClaimedRefutation → Type 0
AreNeeded claim = claim.version ≡ Two → Needed claim.clauses claim.lines claim.nodes

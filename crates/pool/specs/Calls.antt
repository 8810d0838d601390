-- The pool after each of its calls, and why a leaf isn't split.
use Rattle.std.specs.Prelude.{ℕ, Bool, true, false, if◌then◌else◌, List, Result, Err, Option, Some, None}
use Rattle.refutations.specs.Proofs.{ProofLine}
use Rattle.semantics.specs.declared.state.Step.{Step}
use Rattle.refutations.specs.declared.batch.BatchLine.{BatchLine}
use Rattle.pool.specs.declared.entry.Operation.{Operation}
use Rattle.pool.specs.declared.entry.Operation.TheVariants.{Publish, Fetch, Close, Split, Found}
use Rattle.pool.specs.declared.entry.PublishFault.{PublishFault}
use Rattle.pool.specs.declared.entry.FetchFault.{FetchFault}
use Rattle.pool.specs.declared.entry.CloseFault.{CloseFault}
use Rattle.pool.specs.declared.entry.SplitFault.{SplitFault}
use Rattle.pool.specs.declared.entry.FoundFault.{FoundFault}
use Rattle.pool.specs.declared.entry.PublishFault.TheVariants as publish
use Rattle.pool.specs.declared.entry.FetchFault.TheVariants as fetch
use Rattle.pool.specs.declared.entry.CloseFault.TheVariants as close
use Rattle.pool.specs.declared.entry.SplitFault.TheVariants as split
use Rattle.pool.specs.declared.entry.FoundFault.TheVariants as found
use Rattle.pool.specs.declared.entry.LoggedCall.{LoggedCall}
use Rattle.pool.specs.States.{PoolWithHistory, noted, publish_item, fetch_item, close_item, split_item, found_item, PoolState, IsOpenLeaf, IsFormulaVariable, IsSplit}
use Rattle.trees.specs.Trees.{HasNoRoom}

-- the call was answered with want of memory
abbrev pub wants_memory : Operation → Bool
wants_memory (Publish count (Err publish.Memory)) = true
wants_memory (Fetch from (Err fetch.Memory)) = true
wants_memory (Close leaf number (Err close.Memory)) = true
wants_memory (Split leaf variable (Err split.Memory)) = true
wants_memory (Found count (Err found.Memory)) = true
wants_memory operation = false

-- want of memory changes nothing and is not in the history, and all else is noted
abbrev pub after_call : PoolWithHistory → LoggedCall → PoolWithHistory
after_call k item = if wants_memory item.entry.operation then k else noted k item

abbrev pub published : PoolWithHistory → ℕ → List BatchLine → Result ℕ PublishFault → PoolWithHistory
published k worker batch reply = after_call k (publish_item worker batch reply)

abbrev pub fetched : PoolWithHistory → ℕ → ℕ → Result (List ProofLine) FetchFault → PoolWithHistory
fetched k worker from reply = after_call k (fetch_item worker from reply)

abbrev pub closed : PoolWithHistory → ℕ → ℕ → ℕ → Result (Unit {0}) CloseFault → PoolWithHistory
closed k worker leaf number reply = after_call k (close_item worker leaf number reply)

abbrev pub after_split : PoolWithHistory → ℕ → ℕ → ℕ → Result (ℕ × ℕ) SplitFault → PoolWithHistory
after_split k worker leaf variable reply = after_call k (split_item worker leaf variable reply)

abbrev pub after_found : PoolWithHistory → ℕ → List Step → Result (Unit {0}) FoundFault → PoolWithHistory
after_found k worker steps reply = after_call k (found_item worker steps reply)

-- none where it can be split
abbrev pub IsSplitFault : PoolState → ℕ → ℕ → Option SplitFault → Type 0
IsSplitFault h leaf variable None = IsOpenLeaf h leaf × (HasNoRoom h.tree.nodes leaf → ⊥) × IsFormulaVariable h variable
IsSplitFault h leaf variable (Some split.Memory) = ⊥
IsSplitFault h leaf variable (Some fault) = IsSplit h leaf variable (Err fault)

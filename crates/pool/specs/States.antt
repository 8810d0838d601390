-- What a pool is, and what its calls are answered.
use Rattle.std.specs.Prelude.{◌≡◌, ◌≢◌, ℕ, ◌+◌, ◌<◌, ◌≤◌, List, [], ◌∷◌, ◌++◌, length, map, drop, replicate, Option, Some, None, unwrap_or, slice_get, slice_set, Result, Ok, Err, IfSome}
use Rattle.callorder.specs.Programs.{MpiProgram}
use Rattle.candidates.specs.Pairs.{pairs_of}
use Rattle.clauses.specs.Clauses.{Conjunction}
use Rattle.semantics.specs.declared.state.Step.{Step}
use Rattle.semantics.specs.Machine.{IsStuckRun}
use Rattle.encode.specs.Encodings.{EncodedProgram, IsEncoded}
use Rattle.refutations.specs.Derivations.{clauses_before}
use Rattle.refutations.specs.Proofs.{ProofLine}
use Rattle.refutations.specs.Refutations.{AreDerived}
use Rattle.refutations.specs.Trees.{IsRefuted}
use Rattle.trees.specs.Trees.{TreeState, IsGrownTree, IsLeaf, HasNoRoom, path_at, split_at}
use Rattle.refutations.specs.declared.batch.BatchLine.{BatchLine}
use Rattle.pool.specs.declared.entry.Operation.{Operation}
use Rattle.pool.specs.declared.entry.Operation.TheVariants.{Publish, Fetch, Close, Split, Found, Leave}
use Rattle.pool.specs.declared.entry.PublishFault.{PublishFault}
use Rattle.pool.specs.declared.entry.FetchFault.{FetchFault}
use Rattle.pool.specs.declared.entry.CloseFault.{CloseFault}
use Rattle.pool.specs.declared.entry.SplitFault.{SplitFault}
use Rattle.pool.specs.declared.entry.FoundFault.{FoundFault}
use Rattle.pool.specs.declared.entry.PublishFault.TheVariants as publish
use Rattle.pool.specs.declared.entry.FetchFault.TheVariants as fetch
use Rattle.pool.specs.declared.entry.CloseFault.TheVariants as close
use Rattle.pool.specs.declared.entry.SplitFault.TheVariants as split
use Rattle.pool.specs.declared.entry.FoundFault.TheVariants as found
use Rattle.pool.specs.declared.entry.Entry.{Entry}
use Rattle.pool.specs.declared.entry.LoggedCall.{LoggedCall}
use Rattle.pool.specs.declared.why.Why.{Why}
use Rattle.pool.specs.Replies.{resolved_lines, DeriveAfter, FailsAt, most_lines}

-- All but the history. `closed` has for each node of the tree the number of the clause that closes
-- it, and 0 where none does; `reasons` are those for which workers left, the oldest first.
pub record PoolState : Type 0 where
  pub program : MpiProgram
  pub formula : Conjunction
  pub tree : TreeState
  pub closed : List ℕ
  pub log : List ProofLine
  pub schedule : Option (List Step)
  pub reasons : List Why

-- all with the history; so many places are kept, each for one leave
pub record PoolWithHistory : Type 0 where
  pub held : PoolState
  pub history : List Entry
  pub places : ℕ

abbrev pub held_of : EncodedProgram → TreeState → List ℕ → List ProofLine → Option (List Step) → List Why → PoolState
held_of encoded tree closed log schedule reasons = record {
  program = encoded.program;
  formula = encoded.formula;
  tree = tree;
  closed = closed;
  log = log;
  schedule = schedule;
  reasons = reasons;
}

-- all leaves of the tree are open, and there is nothing else
abbrev pub opening_pool : EncodedProgram → TreeState → PoolWithHistory
opening_pool encoded tree = record { held = held_of encoded tree (replicate (length tree.nodes) 0) [] None []; history = []; places = 0 }

-- the number of the next line: the formula's clauses are numbered from 1, and the lines after them
abbrev pub next_number : PoolState → ℕ
next_number h = length h.formula.clauses + length h.log + 1

-- a leaf of the tree that no clause closes
abbrev pub IsOpenLeaf : PoolState → ℕ → Type 0
IsOpenLeaf h leaf = IsLeaf h.tree.nodes leaf × (slice_get h.closed leaf ≡ Some 0)

-- the clause or line of this number is false wherever the node's path is true
abbrev pub IsClosedBy : PoolState → ℕ → ℕ → Type 0
IsClosedBy h leaf number = IsRefuted (clauses_before h.formula h.log) (path_at h.tree.nodes leaf) number

abbrev pub IsFormulaVariable : PoolState → ℕ → Type 0
IsFormulaVariable h variable = (1 ≤ variable) × (variable ≤ h.formula.variables)

-- Each line derives from what stands before it, each closed node is refuted by its clause, and a
-- kept schedule is a stuck run. The tree is over the formula's variables, and the formula is the
-- program's.
pub record IsSoundPool (h : PoolState) : Type 0 where
  pub encoded : IsEncoded (record { program = h.program; pairs = pairs_of h.program; formula = h.formula })
  pub few_lines : length h.log ≤ most_lines
  pub grown : IsGrownTree h.tree
  pub variables : h.tree.variables ≡ h.formula.variables
  pub many : length h.closed ≡ length h.tree.nodes
  pub derived : AreDerived h.formula h.log
  pub closed : (leaf number : ℕ) → slice_get h.closed leaf ≡ Some number → number ≢ 0 → IsClosedBy h leaf number
  pub stuck : IfSome h.schedule (IsStuckRun h.program)

-- ---- one call

-- the reasons after a worker left, which has none where it is done
abbrev pub with_reason : List Why → Option Why → List Why
with_reason reasons None = reasons
with_reason reasons (Some why) = reasons ++ why ∷ []

-- What one call makes of a pool: a refused one and a fetch nothing. Of schedules the first stays
abbrev pub after_operation : PoolState → Operation → List ProofLine → List Step → PoolState
after_operation h (Publish count (Ok base)) lines steps = record h { log = h.log ++ lines }
after_operation h (Close leaf number (Ok _)) lines steps = record h { closed = slice_set h.closed leaf number }
after_operation h (Split leaf variable (Ok nodes)) lines steps =
    record h { tree = record h.tree { nodes = split_at h.tree.nodes leaf variable }; closed = h.closed ++ 0 ∷ 0 ∷ [] }
after_operation h (Found count (Ok _)) lines steps = record h { schedule = Some (unwrap_or h.schedule steps) }
after_operation h (Leave why) lines steps = record h { reasons = with_reason h.reasons why }
after_operation h operation lines steps = h

abbrev pub after_item : PoolState → LoggedCall → PoolState
after_item h item = after_operation h item.entry.operation item.lines item.steps

abbrev pub noted : PoolWithHistory → LoggedCall → PoolWithHistory
noted k item = record { held = after_item k.held item; history = k.history ++ item.entry ∷ []; places = k.places }

-- so many places are kept
abbrev pub with_places : PoolWithHistory → ℕ → PoolWithHistory
with_places k places = record k { places = places }

-- ---- the exact reply to each call

abbrev pub IsPublished : PoolState → List BatchLine → Result ℕ PublishFault → Type 0
IsPublished h batch (Ok base) =
    (base ≡ next_number h) × DeriveAfter h.formula h.log (resolved_lines (next_number h) batch) × (length h.log + length batch ≤ most_lines)
IsPublished h batch (Err publish.Memory) = Unit {0}
IsPublished h batch (Err (publish.NotDerived place)) = FailsAt h.formula h.log (resolved_lines (next_number h) batch) place
IsPublished h batch (Err publish.Full) =
    DeriveAfter h.formula h.log (resolved_lines (next_number h) batch) × (most_lines < length h.log + length batch)

abbrev pub IsFetched : PoolState → ℕ → Result (List ProofLine) FetchFault → Type 0
IsFetched h from (Ok lines) = (from ≤ length h.log) × (lines ≡ drop from h.log)
IsFetched h from (Err fetch.Memory) = Unit {0}
IsFetched h from (Err fetch.PastEnd) = length h.log < from

abbrev pub IsClosed : PoolState → ℕ → ℕ → Result (Unit {0}) CloseFault → Type 0
IsClosed h leaf number (Ok _) = IsOpenLeaf h leaf × IsClosedBy h leaf number
IsClosed h leaf number (Err close.Memory) = Unit {0}
IsClosed h leaf number (Err close.NotOpen) = IsOpenLeaf h leaf → ⊥
IsClosed h leaf number (Err close.NotRefuted) = IsOpenLeaf h leaf × (IsClosedBy h leaf number → ⊥)

abbrev pub IsSplit : PoolState → ℕ → ℕ → Result (ℕ × ℕ) SplitFault → Type 0
IsSplit h leaf variable (Ok nodes) =
    IsOpenLeaf h leaf × (nodes ≡ (length h.tree.nodes, length h.tree.nodes + 1)) × (HasNoRoom h.tree.nodes leaf → ⊥) × IsFormulaVariable h variable
IsSplit h leaf variable (Err split.Memory) = Unit {0}
IsSplit h leaf variable (Err split.NotOpen) = IsOpenLeaf h leaf → ⊥
IsSplit h leaf variable (Err split.Full) = IsOpenLeaf h leaf × HasNoRoom h.tree.nodes leaf
IsSplit h leaf variable (Err split.NoVariable) =
    IsOpenLeaf h leaf × (HasNoRoom h.tree.nodes leaf → ⊥) × (IsFormulaVariable h variable → ⊥)

abbrev pub IsFoundReply : PoolState → List Step → Result (Unit {0}) FoundFault → Type 0
IsFoundReply h steps (Ok _) = IsStuckRun h.program steps
IsFoundReply h steps (Err found.Memory) = Unit {0}
IsFoundReply h steps (Err found.NotStuck) = IsStuckRun h.program steps → ⊥

-- a reply that the history may have to a call at this point, so not want of memory. What a refused
-- batch or schedule was is not told by its entry
abbrev pub IsReply : PoolState → Operation → List ProofLine → List Step → Type 0
IsReply h (Publish count (Ok base)) lines steps =
    (length lines ≡ count) × (base ≡ next_number h) × DeriveAfter h.formula h.log lines × (length h.log + count ≤ most_lines)
IsReply h (Publish count (Err publish.Memory)) lines steps = ⊥
IsReply h (Publish count (Err (publish.NotDerived place))) lines steps = place < count
IsReply h (Publish count (Err publish.Full)) lines steps = most_lines < length h.log + count
IsReply h (Fetch from (Ok count)) lines steps = IsFetched h from (Ok lines) × (length lines ≡ count)
IsReply h (Fetch from (Err fault)) lines steps = IsFetched h from (Err fault) × (fault ≢ fetch.Memory)
IsReply h (Close leaf number reply) lines steps = IsClosed h leaf number reply × (reply ≢ Err close.Memory)
IsReply h (Split leaf variable reply) lines steps = IsSplit h leaf variable reply × (reply ≢ Err split.Memory)
IsReply h (Found count (Ok _)) lines steps = IsFoundReply h steps (Ok tt) × (length steps ≡ count)
IsReply h (Found count (Err fault)) lines steps = fault ≢ found.Memory
IsReply h (Leave why) lines steps = Unit {0}

abbrev pub IsStep : PoolState → LoggedCall → Type 0
IsStep h item = IsReply h item.entry.operation item.lines item.steps

-- the items' calls, in order, may be given these replies
abbrev pub AreLegalReplies : PoolState → List LoggedCall → Type 0
AreLegalReplies h [] = Unit {0}
AreLegalReplies h (item ∷ items) = IsStep h item × AreLegalReplies (after_item h item) items

abbrev pub after_items : PoolState → List LoggedCall → PoolState
after_items h [] = h
after_items h (item ∷ items) = after_items (after_item h item) items

-- the items are the history with its lines and its schedules. Taken in order from the opening pool,
-- they give just these replies and this pool
pub record IsLegal (opening_pool : PoolState) (items : List LoggedCall) (k : PoolWithHistory) : Type 0 where
  pub entries : k.history ≡ map (λ (item : LoggedCall). item.entry) items
  pub run : AreLegalReplies opening_pool items
  pub ends : k.held ≡ after_items opening_pool items

-- ---- the six calls, with their lines and schedules

abbrev pub item_of : ℕ → Operation → List ProofLine → List Step → LoggedCall
item_of worker operation lines steps = record { entry = record { worker = worker; operation = operation }; lines = lines; steps = steps }

-- what stands in the item of an accepted call; nothing does in that of a refused one
abbrev pub if_accepted : {A E X : Type 0} → Result A E → (A → List X) → List X
if_accepted (Ok answer) of = of answer
if_accepted (Err fault) of = []

abbrev pub publish_item : ℕ → List BatchLine → Result ℕ PublishFault → LoggedCall
publish_item worker batch reply = item_of worker (Publish (length batch) reply) (if_accepted reply (λ base. resolved_lines base batch)) []

abbrev pub count_of : Result (List ProofLine) FetchFault → Result ℕ FetchFault
count_of (Ok lines) = Ok (length lines)
count_of (Err fault) = Err fault

abbrev pub fetch_item : ℕ → ℕ → Result (List ProofLine) FetchFault → LoggedCall
fetch_item worker from reply = item_of worker (Fetch from (count_of reply)) (if_accepted reply (λ lines. lines)) []

abbrev pub close_item : ℕ → ℕ → ℕ → Result (Unit {0}) CloseFault → LoggedCall
close_item worker leaf number reply = item_of worker (Close leaf number reply) [] []

abbrev pub split_item : ℕ → ℕ → ℕ → Result (ℕ × ℕ) SplitFault → LoggedCall
split_item worker leaf variable reply = item_of worker (Split leaf variable reply) [] []

abbrev pub found_item : ℕ → List Step → Result (Unit {0}) FoundFault → LoggedCall
found_item worker steps reply = item_of worker (Found (length steps) reply) [] (if_accepted reply (λ _. steps))

abbrev pub leave_item : ℕ → Option Why → LoggedCall
leave_item worker why = item_of worker (Leave why) [] []

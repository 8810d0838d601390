-- What the lock and the seats hold, what a call adds to a seat, and what a seat knows of the log.
use Rattle.std.specs.Prelude.{◌≡◌, ℕ, ◌+◌, ◌<◌, drop, List, [], ◌∷◌, ◌++◌, length, map, All, Option, Some, slice_get, Result, Ok, Err, ◌⊎◌, ◌≤◌, take, IsTrue}
use Rattle.std.specs.List.{range_with_len}
use Rattle.refutations.specs.declared.batch.BatchLine.{BatchLine}
use Rattle.clauses.specs.Clauses.{Conjunction}
use Rattle.refutations.specs.Proofs.{ProofLine}
use Rattle.refutations.specs.Refutations.{AreDerived}
use Rattle.semantics.specs.declared.state.Step.{Step}
use Rattle.pool.specs.declared.entry.Operation.{Operation}
use Rattle.pool.specs.declared.entry.Operation.TheVariants.{Publish, Fetch, Close, Split, Found, Leave}
use Rattle.pool.specs.declared.entry.LoggedCall.{LoggedCall}
use Rattle.pool.specs.declared.entry.PublishFault.{PublishFault}
use Rattle.pool.specs.declared.entry.FetchFault.{FetchFault}
use Rattle.pool.specs.declared.entry.CloseFault.{CloseFault}
use Rattle.pool.specs.declared.entry.SplitFault.{SplitFault}
use Rattle.pool.specs.declared.entry.FoundFault.{FoundFault}
use Rattle.pool.specs.declared.entry.PublishFault.TheVariants as publish
use Rattle.pool.specs.declared.entry.FetchFault.TheVariants as fetch
use Rattle.pool.specs.declared.entry.CloseFault.TheVariants as close
use Rattle.pool.specs.declared.entry.SplitFault.TheVariants as split
use Rattle.pool.specs.declared.entry.FoundFault.TheVariants as found
use Rattle.pool.specs.declared.why.Why.{Why}
use Rattle.pool.specs.Replies.{resolved_lines, FailsAt, DeriveAfter}
use Rattle.pool.specs.States.{PoolState, PoolWithHistory, IsLegal, AreLegalReplies, after_items, publish_item, fetch_item, close_item, split_item, found_item, leave_item}
use Rattle.sharedpool.specs.Views.{items_of, AllBelow, AreDifferent}
use Rattle.pool.specs.Growth.{Tells}
use Rattle.pool.specs.Moves.{are_earlier, number_after}

-- a seat: its worker, and the items of its calls in order
pub record Chair : Type 0 where
  pub worker : ℕ
  pub mine : List LoggedCall

-- ---- the seat after each call. Want of memory leaves it as it was

-- the seat after a call that is in the history
abbrev pub told_call : Chair → LoggedCall → Chair
told_call seat item = record seat { mine = seat.mine ++ item ∷ [] }

abbrev pub told_publish : Chair → List BatchLine → Result ℕ PublishFault → Chair
told_publish seat batch (Ok base) = told_call seat (publish_item seat.worker batch (Ok base))
told_publish seat batch (Err publish.Memory) = seat
told_publish seat batch (Err (publish.NotDerived place)) = told_call seat (publish_item seat.worker batch (Err (publish.NotDerived place)))
told_publish seat batch (Err publish.Full) = told_call seat (publish_item seat.worker batch (Err publish.Full))

abbrev pub told_fetch : Chair → ℕ → Result (List ProofLine) FetchFault → Chair
told_fetch seat from (Ok lines) = told_call seat (fetch_item seat.worker from (Ok lines))
told_fetch seat from (Err fetch.Memory) = seat
told_fetch seat from (Err fetch.PastEnd) = told_call seat (fetch_item seat.worker from (Err fetch.PastEnd))

abbrev pub told_close : Chair → ℕ → ℕ → Result (Unit {0}) CloseFault → Chair
told_close seat leaf number (Ok _) = told_call seat (close_item seat.worker leaf number (Ok tt))
told_close seat leaf number (Err close.Memory) = seat
told_close seat leaf number (Err close.NotOpen) = told_call seat (close_item seat.worker leaf number (Err close.NotOpen))
told_close seat leaf number (Err close.NotRefuted) = told_call seat (close_item seat.worker leaf number (Err close.NotRefuted))

abbrev pub told_split : Chair → ℕ → ℕ → Result (ℕ × ℕ) SplitFault → Chair
told_split seat leaf variable (Ok nodes) = told_call seat (split_item seat.worker leaf variable (Ok nodes))
told_split seat leaf variable (Err split.Memory) = seat
told_split seat leaf variable (Err split.NotOpen) = told_call seat (split_item seat.worker leaf variable (Err split.NotOpen))
told_split seat leaf variable (Err split.Full) = told_call seat (split_item seat.worker leaf variable (Err split.Full))
told_split seat leaf variable (Err split.NoVariable) = told_call seat (split_item seat.worker leaf variable (Err split.NoVariable))

abbrev pub told_found : Chair → List Step → Result (Unit {0}) FoundFault → Chair
told_found seat steps (Ok _) = told_call seat (found_item seat.worker steps (Ok tt))
told_found seat steps (Err found.Memory) = seat
told_found seat steps (Err found.NotStuck) = told_call seat (found_item seat.worker steps (Err found.NotStuck))

-- a leave that is answered
abbrev pub told_leave : Chair → Option Why → Chair
told_leave seat why = told_call seat (leave_item seat.worker why)

-- ---- what a reply says of the pool, whatever others did before

-- some calls with replies that may be given lead from the opening pool to one of which this holds,
-- and those of this seat's worker among them are, in order, the seat's list
abbrev pub HoldsOver : PoolState → Chair → (PoolState → Type 0) → Type 0
HoldsOver opening seat holds = (items : List LoggedCall) × AreLegalReplies opening items × (seat.mine ≡ items_of seat.worker items) × holds (after_items opening items)

-- the log holds the lines of one call at their place
abbrev pub HoldsLinesOfCall : Conjunction → List ProofLine → Operation → List ProofLine → Type 0
HoldsLinesOfCall formula log (Publish count (Ok base)) lines =
    (before after : List ProofLine) × (log ≡ before ++ (lines ++ after)) × (base ≡ length formula.clauses + length before + 1)
HoldsLinesOfCall formula log (Publish count (Err fault)) lines = Unit {0}
HoldsLinesOfCall formula log (Fetch from (Ok count)) lines = (after : List ProofLine) × (drop from log ≡ lines ++ after)
HoldsLinesOfCall formula log (Fetch from (Err fault)) lines = Unit {0}
HoldsLinesOfCall formula log (Close leaf number reply) lines = Unit {0}
HoldsLinesOfCall formula log (Split leaf variable reply) lines = Unit {0}
HoldsLinesOfCall formula log (Found count reply) lines = Unit {0}
HoldsLinesOfCall formula log (Leave why) lines = Unit {0}

-- the log holds the lines of all these calls
abbrev pub AllHeld : Conjunction → List ProofLine → List LoggedCall → Type 0
AllHeld formula log [] = Unit {0}
AllHeld formula log (item ∷ items) = HoldsLinesOfCall formula log item.entry.operation item.lines × AllHeld formula log items

-- over a derivation from the formula that holds all lines of the seat's list, the batch's line at
-- this place is the first that doesn't derive
abbrev pub IsRefusedOver : Conjunction → List LoggedCall → List BatchLine → ℕ → Type 0
IsRefusedOver formula mine batch place =
    (log : List ProofLine) × AreDerived formula log × AllHeld formula log mine
    × FailsAt formula log (resolved_lines (length formula.clauses + length log + 1) batch) place

-- ---- the end

-- seat k is that of worker k
abbrev pub AreNumbered : List Chair → Type 0
AreNumbered seats = (k : ℕ) (seat : Chair) → k < length seats → slice_get seats k ≡ Some seat → seat.worker ≡ k

-- the workers of the seats, in order of the seats
abbrev pub workers_of : List Chair → List ℕ
workers_of seats = map (λ (seat : Chair). seat.worker) seats

-- There is one legal history. Its items of each worker, in order, are that worker's seat's list,
-- and there are no others. Each worker has one of the seats, whichever order they stand in. The
-- counts are how many entries each worker has
pub record IsFinishedPool (opening : PoolState) (seats : List Chair) (pool : PoolWithHistory) (counts : List ℕ) : Type 0 where
  pub items : List LoggedCall
  pub legal : IsLegal opening items pool
  pub different : AreDifferent (workers_of seats)
  pub below : All (λ (seat : Chair). seat.worker < length seats) seats
  pub lists : All (λ (seat : Chair). seat.mine ≡ items_of seat.worker items) seats
  pub others : AllBelow (length seats) items
  pub counts_are : counts ≡ map (λ worker. length (items_of worker items)) (range_with_len 0 (length seats))

-- each line of the view was published or told by one of these items
abbrev pub IsViewTold : Conjunction → List LoggedCall → List ProofLine → Type 0
IsViewTold formula mine view = (place : ℕ) (line : ProofLine) → slice_get view place ≡ Some line → (i : ℕ) × (item : LoggedCall) × (slice_get mine i ≡ Some item) × Tells formula item place line

-- what was told before a fetch, and after it: the same, or the lines before the place that it was
-- asked from and then those of its answer
abbrev pub GoesOnByFetch : List ProofLine → ℕ → Result (List ProofLine) FetchFault → List ProofLine → Type 0
GoesOnByFetch view from reply after = (after ≡ view) ⊎ ((lines : List ProofLine) × (reply ≡ Ok lines) × (from ≤ length view) × (after ≡ take from view ++ lines))

-- the lines of a batch derive behind these, each from what stands before it, and name nothing else
abbrev pub IsDerivedFrom : Conjunction → List ProofLine → List BatchLine → Type 0
IsDerivedFrom formula view batch =
    IsTrue (are_earlier (number_after formula view) batch) × DeriveAfter formula view (resolved_lines (number_after formula view) batch)

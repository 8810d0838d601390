-- Each call that isn't answered with want of memory is a step, and each step is noted.
use Rattle.std.proofs.Common.{◌≡◌, ◌≢◌, ◌<◌, ℕ, List, length, Result, Ok, Err, false, if◌then◌else◌, refl, sym, ap, subst}
use Rattle.std.proofs.lemmas.List.{length-map}
use Rattle.std.proofs.lemmas.Option.{slice_get_within}
use Rattle.refutations.specs.declared.batch.BatchLine.{BatchLine}
use Rattle.refutations.specs.Proofs.{ProofLine}
use Rattle.semantics.specs.declared.state.Step.{Step}
use Rattle.pool.specs.declared.entry.LoggedCall.{LoggedCall}
use Rattle.pool.specs.declared.entry.Operation.{Operation}
use Rattle.pool.specs.declared.entry.Operation.TheVariants.{Publish, Fetch, Close, Split, Found, Leave}
use Rattle.pool.specs.declared.entry.PublishFault.{PublishFault}
use Rattle.pool.specs.declared.entry.FetchFault.{FetchFault}
use Rattle.pool.specs.declared.entry.FoundFault.{FoundFault}
use Rattle.pool.specs.declared.entry.PublishFault.TheVariants as publish
use Rattle.pool.specs.declared.entry.FetchFault.TheVariants as fetch
use Rattle.pool.specs.declared.entry.CloseFault.TheVariants as close
use Rattle.pool.specs.declared.entry.SplitFault.TheVariants as split
use Rattle.pool.specs.declared.entry.FoundFault.TheVariants as found
use Rattle.pool.specs.Calls.{wants_memory, after_call}
use Rattle.pool.specs.Replies.{resolved, resolved_lines, DeriveAfter, FailsAt}
use Rattle.pool.specs.States.{PoolState, PoolWithHistory, noted, next_number, IsReply, IsStep, publish_item, IsPublished, fetch_item, IsFetched, found_item, IsFoundReply}

answered : (h : PoolState) (operation : Operation) (lines : List ProofLine) (steps : List Step) → IsReply h operation lines steps → wants_memory operation ≡ false
answered h (Publish count (Err publish.Memory)) lines steps is = absurd is
answered h (Fetch from (Err fetch.Memory)) lines steps is = absurd (is.1 refl)
answered h (Close leaf number (Err close.Memory)) lines steps is = absurd (is.1 refl)
answered h (Split leaf variable (Err split.Memory)) lines steps is = absurd (is.1 refl)
answered h (Found count (Err found.Memory)) lines steps is = absurd (is refl)
answered h operation lines steps is = refl

-- what a step makes of the pool
pub step_noted : (k : PoolWithHistory) (item : LoggedCall) → IsStep k.held item → after_call k item ≡ noted k item
step_noted k item step = ap (λ b. if b then k else noted k item) (answered k.held item.entry.operation item.lines item.steps step)

fails_within : (h : PoolState) (batch : List BatchLine) (base place : ℕ) → FailsAt h.formula h.log (resolved_lines base batch) place → place < length batch
fails_within h batch base place fails = subst (λ n. place < n) (length-map batch (resolved base)) (slice_get_within (resolved_lines base batch) place fails.line fails.there)

pub publish_step : (h : PoolState) (worker : ℕ) (batch : List BatchLine) (reply : Result ℕ PublishFault) → reply ≢ Err publish.Memory → IsPublished h batch reply → IsStep h (publish_item worker batch reply)
publish_step h worker batch (Ok base) answered is = (length-map batch (resolved base), is.0, subst (λ n. DeriveAfter h.formula h.log (resolved_lines n batch)) (sym is.0) is.1, is.2)
publish_step h worker batch (Err publish.Memory) answered is = absurd (answered refl)
publish_step h worker batch (Err (publish.NotDerived place)) answered is = fails_within h batch (next_number h) place is
publish_step h worker batch (Err publish.Full) answered is = is.1

pub fetch_step : (h : PoolState) (worker : ℕ) (from : ℕ) (reply : Result (List ProofLine) FetchFault) → reply ≢ Err fetch.Memory → IsFetched h from reply → IsStep h (fetch_item worker from reply)
fetch_step h worker from (Ok lines) answered is = (is, refl)
fetch_step h worker from (Err fault) answered is = (is, λ e. answered (ap Err e))

pub found_step : (h : PoolState) (worker : ℕ) (steps : List Step) (reply : Result (Unit {0}) FoundFault) → reply ≢ Err found.Memory → IsFoundReply h steps reply → IsStep h (found_item worker steps reply)
found_step h worker steps (Ok _) answered is = (is, refl)
found_step h worker steps (Err fault) answered is = λ e. answered (ap Err e)

-- In a legal history each call's lines keep their place, and what a seat was told stays true of all
-- that it is told later.
use Rattle.std.proofs.Common.{◌≡◌, ℕ, zero, suc, ◌+◌, ◌<◌, ◌==◌, Bool, true, false, if◌then◌else◌, List, [], ◌∷◌, ◌++◌, length, drop, Option, Some, None, slice_get, Result, Ok, Err, sym, ap, ◌∙◌, subst, append_assoc, arith}
use Rattle.std.specs.Prelude.{OnOk}
use Rattle.std.proofs.lemmas.List.{drop-append-le}
use Rattle.std.proofs.lemmas.List.Elements.{All-weaker}
use Rattle.atomic_table.specs.Seated.{TableId}
use Rattle.crossbeam_utils.specs.Seq.{cell_view}
use Rattle.refutations.specs.declared.batch.BatchLine.{BatchLine}
use Rattle.callorder.specs.Programs.{MpiProgram}
use Rattle.clauses.specs.Clauses.{Conjunction}
use Rattle.refutations.specs.Proofs.{ProofLine}
use Rattle.refutations.specs.Refutations.{AreDerived}
use Rattle.semantics.specs.declared.state.Step.{Step}
use Rattle.semantics.specs.Machine.{IsStuckRun}
use Rattle.pool.specs.declared.entry.Operation.{Operation}
use Rattle.pool.specs.declared.entry.Operation.TheVariants.{Publish, Fetch}
use Rattle.pool.specs.declared.entry.LoggedCall.{LoggedCall}
use Rattle.pool.specs.declared.entry.PublishFault.{PublishFault}
use Rattle.pool.specs.declared.entry.PublishFault.TheVariants.{NotDerived}
use Rattle.pool.specs.declared.entry.FoundFault.{FoundFault}
use Rattle.pool.specs.declared.entry.FoundFault.TheVariants.{Memory, NotStuck}
use Rattle.pool.specs.Growth.{LosesNothing}
use Rattle.pool.specs.Replies.{resolved_lines, FailsAt}
use Rattle.pool.specs.States.{PoolState, PoolWithHistory, IsSoundPool, IsReply, AreLegalReplies, IsPublished, IsFoundReply, after_item, after_operation, after_items}
use Rattle.pool.proofs.Growth.{grows, grows_once, same_program, same_formula, lose_nothing}
use Rattle.pool.proofs.Histories.{stay_sound}
use Rattle.sharedpool.specs.Laws.{NothingSeenIsLost}
use Rattle.sharedpool.specs.Views.{items_of}
use Rattle.sharedpool.specs.parts.Seats.{Token, IsSeat, IsLocked, AreNoted}
use Rattle.sharedpool.specs.Seats.{Chair, HoldsLinesOfCall, AllHeld, HoldsOver, IsRefusedOver}
use Rattle.sharedpool.proofs.Legal.{chair, holds_over}

held_now : (h : PoolState) (operation : Operation) (lines more log : List ProofLine) (steps : List Step) → IsReply h operation lines steps → log ≡ (after_operation h operation lines steps).log ++ more → HoldsLinesOfCall h.formula log operation lines
held_now h (Publish count (Ok base)) lines more log steps reply is = (h.log, more, is ∙ append_assoc h.log lines more, reply.1)
held_now h (Fetch from (Ok count)) lines more log steps reply is = (more, ap (drop from) is ∙ drop-append-le from h.log more reply.0.0 ∙ ap (λ l. l ++ more) (sym reply.0.1))
held_now h operation lines more log steps reply is = tt

all_held : (h : PoolState) (items : List LoggedCall) → AreLegalReplies h items → AllHeld h.formula (after_items h items).log items
all_held h [] run = tt
all_held h (item ∷ items) run =
    let rest = grows (after_item h item) items in
    let once = grows_once h item.entry.operation item.lines item.steps in (
      held_now h item.entry.operation item.lines rest.2 (after_items (after_item h item) items).log item.steps run.0 rest.3,
      subst (λ formula. AllHeld formula (after_items (after_item h item) items).log items) once.1 (all_held (after_item h item) items run.1),
    )

held_if : (b : Bool) (formula : Conjunction) (log : List ProofLine) (item : LoggedCall) (items : List LoggedCall) → HoldsLinesOfCall formula log item.entry.operation item.lines → AllHeld formula log items → AllHeld formula log (if b then item ∷ items else items)
held_if true formula log item items one rest = (one, rest)
held_if false formula log item items one rest = rest

mine_held : (worker : ℕ) (formula : Conjunction) (log : List ProofLine) (items : List LoggedCall) → AllHeld formula log items → AllHeld formula log (items_of worker items)
mine_held worker formula log [] held = tt
mine_held worker formula log (item ∷ items) held = held_if (item.entry.worker == worker) formula log item (items_of worker items) held.0 (mine_held worker formula log items held.1)

-- a refused batch, over a derivation that holds the seat's lines
pub refused_over : (opening : PoolState) (seat : Chair) (batch : List BatchLine) (place : ℕ) → IsSoundPool opening → HoldsOver opening seat (λ h. IsPublished h batch (Err (NotDerived place))) → IsRefusedOver opening.formula seat.mine batch place
refused_over opening seat batch place sound over =
    let items : List LoggedCall = over.0 in
    let h : PoolState = after_items opening items in
    let same : h.formula ≡ opening.formula = same_formula opening items in
    let derived = (stay_sound opening items sound over.1).derived in (
      h.log,
      subst (λ f. AreDerived f h.log) same derived,
      subst (AllHeld opening.formula h.log) (sym over.2) (mine_held seat.worker opening.formula h.log items (all_held opening items over.1)),
      subst (λ f. FailsAt f h.log (resolved_lines (length f.clauses + length h.log + 1) batch) place) same over.3,
    )

-- the same at the call that was refused
pub refused_call : (table : TableId) (opening : PoolState) (pool : PoolWithHistory) (workers worker : ℕ) (keeper later seat after_item : Token) (item : LoggedCall) (batch : List BatchLine) (result : Result ℕ PublishFault)
    → IsLocked table opening pool workers keeper → IsSeat table worker seat → AreNoted keeper later seat after_item item → IsPublished pool.held batch result
    → (place : ℕ) → result ≡ Err (NotDerived place) → IsRefusedOver opening.formula (cell_view seat).mine batch place
refused_call table opening pool workers worker keeper later seat after_item item batch result locked sits noted_as reply place is =
    refused_over opening (chair worker (cell_view seat).mine) batch place locked.sound
    (holds_over table opening pool workers worker keeper later seat after_item item (λ h. IsPublished h batch (Err (NotDerived place))) locked sits noted_as (subst (IsPublished pool.held batch) is reply))

-- ---- what a seat is told

-- one stands somewhere before the other
abbrev AreInOrder : List LoggedCall → LoggedCall → LoggedCall → Type 0
AreInOrder items one later = (i : ℕ) × (j : ℕ) × (i < j) × (slice_get items i ≡ Some one) × (slice_get items j ≡ Some later)

place_if : (b : Bool) (item later : LoggedCall) (kept items : List LoggedCall) (j : ℕ) → ((k : ℕ) → slice_get kept k ≡ Some later → (l : ℕ) × (slice_get items l ≡ Some later))
    → slice_get (if b then item ∷ kept else kept) j ≡ Some later → (l : ℕ) × (slice_get (item ∷ items) l ≡ Some later)
place_if true item later kept items zero rest there = (zero, there)
place_if true item later kept items (suc j) rest there = let found = rest j there in (suc found.0, found.1)
place_if false item later kept items j rest there = let found = rest j there in (suc found.0, found.1)

place_of : (worker : ℕ) (items : List LoggedCall) (j : ℕ) (later : LoggedCall) → slice_get (items_of worker items) j ≡ Some later → (l : ℕ) × (slice_get items l ≡ Some later)
place_of worker [] j later there = absurd (let told : ◌≡◌ {A = Option LoggedCall} None (Some later) = there in cc)
place_of worker (item ∷ items) j later there = place_if (item.entry.worker == worker) item later (items_of worker items) items j (λ k at. place_of worker items k later at) there

order_if : (b : Bool) (item one later : LoggedCall) (kept items : List LoggedCall) (i j : ℕ) → ((k : ℕ) → slice_get kept k ≡ Some later → (l : ℕ) × (slice_get items l ≡ Some later))
    → ((k l : ℕ) → k < l → slice_get kept k ≡ Some one → slice_get kept l ≡ Some later → AreInOrder items one later)
    → i < j → slice_get (if b then item ∷ kept else kept) i ≡ Some one → slice_get (if b then item ∷ kept else kept) j ≡ Some later → AreInOrder (item ∷ items) one later
order_if true item one later kept items i zero place rest low first second = absurd (omega arith)
order_if true item one later kept items zero (suc j) place rest low first second =
    let found = place j second in
    (zero, suc found.0, omega arith, first, found.1)
order_if true item one later kept items (suc i) (suc j) place rest low first second =
    let found = rest i j (omega arith) first second in
    let higher : found.0 < found.1 = found.2 in
    (suc found.0, suc found.1, omega (arith, higher), found.3, found.4)
order_if false item one later kept items i j place rest low first second =
    let found = rest i j low first second in
    let higher : found.0 < found.1 = found.2 in
    (suc found.0, suc found.1, omega (arith, higher), found.3, found.4)

-- a worker's items keep their order
order_of : (worker : ℕ) (items : List LoggedCall) (i j : ℕ) (one later : LoggedCall) → i < j → slice_get (items_of worker items) i ≡ Some one → slice_get (items_of worker items) j ≡ Some later → AreInOrder items one later
order_of worker [] i j one later low first second = absurd (let told : ◌≡◌ {A = Option LoggedCall} None (Some one) = first in cc)
order_of worker (item ∷ items) i j one later low first second =
    order_if (item.entry.worker == worker) item one later (items_of worker items) items i j
    (λ k at. place_of worker items k later at)
    (λ k l lower at next. order_of worker items k l one later lower at next)
    low first second

mine_lose_nothing : (worker : ℕ) (formula : Conjunction) (items : List LoggedCall) → LosesNothing formula items → LosesNothing formula (items_of worker items)
mine_lose_nothing worker formula items none i j one later place from line low first second =
    let found = order_of worker items i j one later low first second in
    none found.0 found.1 one later place from line found.2 found.3 found.4

pub seats_lose_nothing : NothingSeenIsLost
seats_lose_nothing opening seats pool counts finished =
    let none = lose_nothing opening finished.items finished.legal.run in
    All-weaker (λ (seat : Chair). seat.mine ≡ items_of seat.worker finished.items) (λ (seat : Chair). LosesNothing opening.formula seat.mine)
    (λ seat is. subst (LosesNothing opening.formula) (sym is) (mine_lose_nothing seat.worker opening.formula finished.items none))
    seats finished.lists

-- ---- schedules

abbrev IsAnswered : Result (Unit {0}) FoundFault → Type 0
IsAnswered (Ok _) = Unit {0}
IsAnswered (Err Memory) = ⊥
IsAnswered (Err NotStuck) = Unit {0}

abbrev FoundOver : PoolState → Chair → List Step → Result (Unit {0}) FoundFault → Type 0
FoundOver opening seat steps result = (result ≡ Err Memory → ⊥) → HoldsOver opening seat (λ h. IsFoundReply h steps result)

pub found_stuck : (opening : PoolState) (seat : Chair) (steps : List Step) (result : Result (Unit {0}) FoundFault) → FoundOver opening seat steps result → OnOk result (IsStuckRun opening.program steps)
found_stuck opening seat steps (Ok u) over =
    let found = over (λ e. subst IsAnswered e tt) in
    subst (λ (p : MpiProgram). IsStuckRun p steps) (same_program opening found.0) found.3
found_stuck opening seat steps (Err fault) over = tt

pub found_not_stuck : (opening : PoolState) (seat : Chair) (steps : List Step) (result : Result (Unit {0}) FoundFault) → FoundOver opening seat steps result → result ≡ Err NotStuck → IsStuckRun opening.program steps → ⊥
found_not_stuck opening seat steps result over is stuck =
    let refused = subst (FoundOver opening seat steps) is over (λ e. subst IsAnswered e tt) in
    refused.3 (subst (λ (p : MpiProgram). IsStuckRun p steps) (sym (same_program opening refused.0)) stuck)

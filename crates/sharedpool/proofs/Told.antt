-- What a seat was told stands in the log, and is told by whatever its list becomes.
use Rattle.std.proofs.Common.{◌≡◌, ℕ, zero, suc, ◌+◌, ◌-◌, ◌<◌, ◌≤◌, ◌==◌, Bool, true, false, if◌then◌else◌, List, [], ◌∷◌, ◌++◌, length, take, drop, Option, Result, Some, None, slice_get, Ok, Err, inl, inr, ⊎_elim, refl, sym, ap, ◌∙◌, subst, arith}
use Rattle.std.specs.Prelude.{IfSome, OnOk, OnErr}
use Rattle.std.proofs.lemmas.List.{length-take, take-append-drop}
use Rattle.std.proofs.lemmas.Bool.{cases_lt}
use Rattle.std.proofs.lemmas.Option.{slice_get_within}
use Rattle.crossbeam_utils.specs.Seq.{cell_view}
use Rattle.atomic_table.specs.Seated.{TableId}
use Rattle.refutations.specs.declared.batch.BatchLine.{BatchLine}
use Rattle.clauses.specs.Clauses.{Conjunction}
use Rattle.pages.proofs.Joined.{slice_get-front, slice_get-back}
use Rattle.refutations.specs.Proofs.{ProofLine}
use Rattle.semantics.specs.declared.state.Step.{Step}
use Rattle.pool.specs.declared.entry.LoggedCall.{LoggedCall}
use Rattle.pool.specs.declared.entry.PublishFault.{PublishFault}
use Rattle.pool.specs.declared.entry.FetchFault.{FetchFault}
use Rattle.pool.specs.declared.entry.CloseFault.{CloseFault}
use Rattle.pool.specs.declared.entry.SplitFault.{SplitFault}
use Rattle.pool.specs.declared.entry.FoundFault.{FoundFault}
use Rattle.pool.specs.declared.entry.PublishFault.TheVariants as publish
use Rattle.pool.specs.declared.entry.FetchFault.TheVariants as fetch
use Rattle.pool.specs.declared.entry.CloseFault.TheVariants as close
use Rattle.pool.specs.declared.entry.SplitFault.TheVariants as split
use Rattle.pool.specs.declared.entry.FoundFault.TheVariants as found
use Rattle.pool.specs.declared.why.Why.{Why}
use Rattle.pool.specs.Replies.{resolved_lines, DeriveAfter}
use Rattle.pool.specs.Moves.{number_after}
use Rattle.pool.specs.States.{PoolState, PoolWithHistory, next_number, fetch_item}
use Rattle.pool.proofs.Growth.{same_formula, told_stands, begins_with}
use Rattle.pool.proofs.Moves.{batches_move}
use Rattle.sharedpool.specs.Views.{items_of}
use Rattle.sharedpool.specs.parts.Seats.{Token, IsLocked}
use Rattle.sharedpool.specs.Seats.{Chair, told_publish, told_fetch, told_close, told_split, told_found, told_leave, IsViewTold, GoesOnByFetch, IsDerivedFrom}

-- ---- a longer list

pub told_more : (f : Conjunction) (mine more : List LoggedCall) (view : List ProofLine) → IsViewTold f mine view → IsViewTold f (mine ++ more) view
told_more f mine more view told place line there =
    let t = told place line there in
    (t.0, t.1, slice_get-front mine more t.0 (slice_get_within mine t.0 t.1 t.2) ∙ t.2, t.3)

pub told_published : (f : Conjunction) (seat : Chair) (batch : List BatchLine) (reply : Result ℕ PublishFault) (view : List ProofLine) → IsViewTold f seat.mine view → IsViewTold f (told_publish seat batch reply).mine view
told_published f seat batch (Err publish.Memory) view told = told
told_published f seat batch reply view told = told_more f seat.mine _ view told

pub told_closed : (f : Conjunction) (seat : Chair) (leaf number : ℕ) (reply : Result (Unit {0}) CloseFault) (view : List ProofLine) → IsViewTold f seat.mine view → IsViewTold f (told_close seat leaf number reply).mine view
told_closed f seat leaf number (Err close.Memory) view told = told
told_closed f seat leaf number reply view told = told_more f seat.mine _ view told

pub told_parted : (f : Conjunction) (seat : Chair) (leaf variable : ℕ) (reply : Result (ℕ × ℕ) SplitFault) (view : List ProofLine) → IsViewTold f seat.mine view → IsViewTold f (told_split seat leaf variable reply).mine view
told_parted f seat leaf variable (Err split.Memory) view told = told
told_parted f seat leaf variable reply view told = told_more f seat.mine _ view told

pub told_stuck : (f : Conjunction) (seat : Chair) (steps : List Step) (reply : Result (Unit {0}) FoundFault) (view : List ProofLine) → IsViewTold f seat.mine view → IsViewTold f (told_found seat steps reply).mine view
told_stuck f seat steps (Err found.Memory) view told = told
told_stuck f seat steps reply view told = told_more f seat.mine _ view told

pub told_left : (f : Conjunction) (seat after : Chair) (why : Option Why) {E : Type 0} (reply : Result (Unit {0}) E) (view : List ProofLine) → OnOk reply (after ≡ told_leave seat why) → OnErr reply (after ≡ seat)
    → IsViewTold f seat.mine view → IsViewTold f after.mine view
told_left f seat after why (Ok _) view left same told = subst (λ (s : Chair). IsViewTold f s.mine view) (sym left) (told_more f seat.mine _ view told)
told_left f seat after why (Err _) view left same told = subst (λ (s : Chair). IsViewTold f s.mine view) (sym same) told

-- ---- the log

in_all : (b : Bool) (x : LoggedCall) (mine items : List LoggedCall) (i : ℕ) (item : LoggedCall) → ((k : ℕ) → slice_get mine k ≡ Some item → (j : ℕ) × (slice_get items j ≡ Some item))
    → slice_get (if b then x ∷ mine else mine) i ≡ Some item → (j : ℕ) × (slice_get (x ∷ items) j ≡ Some item)
in_all true x mine items zero item rest there = (0, there)
in_all true x mine items (suc i) item rest there = let r = rest i there in (suc r.0, r.1)
in_all false x mine items i item rest there = let r = rest i there in (suc r.0, r.1)

-- a worker's item is one of all items
item_of_all : (worker : ℕ) (items : List LoggedCall) (i : ℕ) (item : LoggedCall) → slice_get (items_of worker items) i ≡ Some item → (j : ℕ) × (slice_get items j ≡ Some item)
item_of_all worker [] i item there = absurd (let told : ◌≡◌ {A = Option LoggedCall} None (Some item) = there in cc)
item_of_all worker (x ∷ items) i item there = in_all (x.entry.worker == worker) x (items_of worker items) items i item (λ k at. item_of_all worker items k item at) there

-- the log begins with what a seat was told
pub log_begins : (table : TableId) (opening : PoolState) (pool : PoolWithHistory) (workers : ℕ) (keeper : Token) (worker : ℕ) (mine : List LoggedCall) (view : List ProofLine) → IsLocked table opening pool workers keeper
    → mine ≡ items_of worker (cell_view keeper).all → IsViewTold opening.formula mine view → pool.held.log ≡ view ++ drop (length view) pool.held.log
log_begins table opening pool workers keeper worker mine view locked is told =
    begins_with view pool.held.log (λ place line there.
    let t = told place line there in
    let found = item_of_all worker (cell_view keeper).all t.0 t.1 (ap (λ (l : List LoggedCall). slice_get l t.0) (sym is) ∙ t.2) in
    ap (λ (h : PoolState). slice_get h.log place) locked.legal.ends ∙ told_stands opening (cell_view keeper).all t.1 found.0 place line locked.legal.run found.1 t.3)

-- a batch that derives from what a seat was told derives from the log
pub derived_behind : (table : TableId) (opening : PoolState) (pool : PoolWithHistory) (workers : ℕ) (keeper : Token) (worker : ℕ) (mine : List LoggedCall) (view : List ProofLine) (batch : List BatchLine) → IsLocked table opening pool workers keeper
    → mine ≡ items_of worker (cell_view keeper).all → IsViewTold opening.formula mine view → IsDerivedFrom opening.formula view batch
    → DeriveAfter pool.held.formula pool.held.log (resolved_lines (next_number pool.held) batch)
derived_behind table opening pool workers keeper worker mine view batch locked is told derived =
    let begins = log_begins table opening pool workers keeper worker mine view locked is told in
    let same : pool.held.formula ≡ opening.formula = ap (λ (h : PoolState). h.formula) locked.legal.ends ∙ same_formula opening (cell_view keeper).all in
    let moved = batches_move opening.formula view (drop (length view) pool.held.log) batch derived.0 derived.1 in
    subst (λ (f : Conjunction). DeriveAfter f pool.held.log (resolved_lines (number_after f pool.held.log) batch)) (sym same)
    (subst (λ (l : List ProofLine). DeriveAfter opening.formula l (resolved_lines (number_after opening.formula l) batch)) (sym begins) moved)

-- two facts of what may be there
pub both_some : {X : Type 0} (A B : Type 0) (found : Option X) → IfSome found (λ _. A) → IfSome found (λ _. B) → IfSome found (λ _. A × B)
both_some A B None one two = tt
both_some A B (Some x) one two = (one, two)

-- ---- a fetch

-- a seat that was told what stands before a place, and by an answer what stands from there on
told_on : (f : Conjunction) (mine : List LoggedCall) (worker from : ℕ) (lines view : List ProofLine) → IsViewTold f mine view → from ≤ length view → IsViewTold f (mine ++ fetch_item worker from (Ok lines) ∷ []) (take from view ++ lines)
told_on f mine worker from lines view told low place line there =
    let item : LoggedCall = fetch_item worker from (Ok lines) in
    let front : length (take from view) ≡ from = omega (arith, length-take from view, low) in
    ⊎_elim
    (λ (before : place < from).
    let inside : place < length (take from view) = omega (arith, front, before) in
    told_more f mine (item ∷ []) view told place line
    (ap (λ (l : List ProofLine). slice_get l place) (sym (take-append-drop from view))
    ∙ slice_get-front (take from view) (drop from view) place inside
    ∙ sym (slice_get-front (take from view) lines place inside)
    ∙ there))
    (λ (past : from ≤ place).
    let at : length (take from view) + (place - from) ≡ place = omega (arith, front, past) in
    let found : slice_get lines (place - from) ≡ Some line = sym (slice_get-back (take from view) lines (place - from)) ∙ ap (slice_get (take from view ++ lines)) at ∙ there in
    (length mine + 0, item, slice_get-back mine (item ∷ []) 0, record { first = from; begins = refl; past = past; there = found }))
    (cases_lt place from)

told_still : (f : Conjunction) (seat : Chair) (from : ℕ) (reply : Result (List ProofLine) FetchFault) (view : List ProofLine) → IsViewTold f seat.mine view → IsViewTold f (told_fetch seat from reply).mine view
told_still f seat from (Err fetch.Memory) view told = told
told_still f seat from reply view told = told_more f seat.mine _ view told

-- what a seat was told after a fetch
pub told_fetched : (f : Conjunction) (seat : Chair) (from : ℕ) (reply : Result (List ProofLine) FetchFault) (view after : List ProofLine) → IsViewTold f seat.mine view → GoesOnByFetch view from reply after → IsViewTold f (told_fetch seat from reply).mine after
told_fetched f seat from reply view after told goes =
    let mine : List LoggedCall = (told_fetch seat from reply).mine in
    ⊎_elim
    (λ (same : after ≡ view). subst (IsViewTold f mine) (sym same) (told_still f seat from reply view told))
    (λ (on : (lines : List ProofLine) × (reply ≡ Ok lines) × (from ≤ length view) × (after ≡ take from view ++ lines)).
    subst (IsViewTold f mine) (sym on.3)
    (subst (λ (r : Result (List ProofLine) FetchFault). IsViewTold f (told_fetch seat from r).mine (take from view ++ on.0)) (sym on.1) (told_on f seat.mine seat.worker from on.0 view told on.2)))
    goes

-- how a view goes on where memory may be wanting
pub goes_on : {E : Type 0} (view after lines : List ProofLine) (from : ℕ) (reply : Result (List ProofLine) FetchFault) (result : Result (Unit {0}) E) → reply ≡ Ok lines → from ≤ length view
    → OnOk result (after ≡ take from view ++ lines) → OnErr result (after ≡ view) → GoesOnByFetch view from reply after
goes_on view after lines from reply (Ok _) is low on same = inr (lines, is, low, on)
goes_on view after lines from reply (Err _) is low on same = inl same

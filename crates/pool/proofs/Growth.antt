-- A pool's log only grows, and the program and its formula stay. So what was told once stands there
-- for each later call.
use Rattle.std.proofs.Common.{◌≡◌, ℕ, zero, suc, ◌+◌, ◌-◌, ◌<◌, ◌≤◌, List, [], ◌∷◌, ◌++◌, length, drop, Option, Some, None, slice_get, Ok, refl, sym, ap, ◌∙◌, subst, append_assoc, append-nil, arith}
use Rattle.std.proofs.lemmas.List.{length-append}
use Rattle.std.proofs.lemmas.Option.{slice_get_within}
use Rattle.clauses.specs.Clauses.{Conjunction}
use Rattle.pages.proofs.Joined.{slice_get-front, slice_get-back}
use Rattle.refutations.specs.Proofs.{ProofLine}
use Rattle.semantics.specs.declared.state.Step.{Step}
use Rattle.pool.specs.declared.entry.Operation.{Operation}
use Rattle.pool.specs.declared.entry.Operation.TheVariants.{Publish, Fetch, Close, Split, Found}
use Rattle.pool.specs.declared.entry.LoggedCall.{LoggedCall}
use Rattle.pool.specs.Moves.{ToldStands}
use Rattle.pool.specs.Growth.{first_line_place, Tells, IsFetchAfter, LogsGrow, BasesRise, RunsLoseNothing}
use Rattle.pool.specs.States.{PoolState, IsReply, IsStep, AreLegalReplies, next_number, after_item, after_operation, after_items}

abbrev pub Grows : PoolState → PoolState → Type 0
Grows h k = (k.program ≡ h.program) × (k.formula ≡ h.formula) × (more : List ProofLine) × (k.log ≡ h.log ++ more)

same_held : (h : PoolState) → Grows h h
same_held h = (refl, refl, [], sym (append-nil h.log))

pub grows_once : (h : PoolState) (operation : Operation) (lines : List ProofLine) (steps : List Step) → Grows h (after_operation h operation lines steps)
grows_once h (Publish count (Ok base)) lines steps = (refl, refl, lines, refl)
grows_once h (Close leaf number (Ok _)) lines steps = same_held h
grows_once h (Split leaf variable (Ok nodes)) lines steps = same_held h
grows_once h (Found count (Ok _)) lines steps = same_held h
grows_once h operation lines steps = same_held h

pub grows : (h : PoolState) (items : List LoggedCall) → Grows h (after_items h items)
grows h [] = same_held h
grows h (item ∷ items) =
    let once = grows_once h item.entry.operation item.lines item.steps in
    let rest = grows (after_item h item) items in
    (rest.0 ∙ once.0, rest.1 ∙ once.1, once.2 ++ rest.2, rest.3 ∙ ap (λ l. l ++ rest.2) once.3 ∙ append_assoc h.log once.2 rest.2)

pub same_program : (h : PoolState) (items : List LoggedCall) → (after_items h items).program ≡ h.program
same_program h items = (grows h items).0

pub same_formula : (h : PoolState) (items : List LoggedCall) → (after_items h items).formula ≡ h.formula
same_formula h items = (grows h items).1

pub logs_grow : LogsGrow
logs_grow h items = ((grows h items).2, (grows h items).3)

-- ---- bases

next_grows : (h k : PoolState) → Grows h k → next_number h ≤ next_number k
next_grows h k grown =
    let clauses : length k.formula.clauses ≡ length h.formula.clauses = ap (λ (f : Conjunction). length f.clauses) grown.1 in
    let lines : length k.log ≡ length h.log + length grown.2 = ap length grown.3 ∙ length-append h.log grown.2 in
    omega arith

base_now : (h : PoolState) (item : LoggedCall) (count base : ℕ) → IsStep h item → item.entry.operation ≡ Publish count (Ok base) → (base ≡ next_number h) × (next_number (after_item h item) ≡ base + count)
base_now h item count base step is =
    let reply = subst (λ (d : Operation). IsReply h d item.lines item.steps) is step in
    let lines : length (h.log ++ item.lines) ≡ length h.log + length item.lines = length-append h.log item.lines in
    let past : next_number (after_operation h (Publish count (Ok base)) item.lines item.steps) ≡ base + count = omega (arith, reply.0, reply.1, lines) in
    (reply.1, ap (λ (d : Operation). next_number (after_operation h d item.lines item.steps)) is ∙ past)

base_later : (h : PoolState) (items : List LoggedCall) (j : ℕ) (later : LoggedCall) (count base : ℕ) → AreLegalReplies h items → slice_get items j ≡ Some later → later.entry.operation ≡ Publish count (Ok base) → next_number h ≤ base
base_later h [] j later count base run there is = absurd (let told : ◌≡◌ {A = Option LoggedCall} None (Some later) = there in cc)
base_later h (item ∷ items) zero later count base run there is =
    let same : item ≡ later = cc in
    let now = base_now h item count base run.0 (ap (λ (i : LoggedCall). i.entry.operation) same ∙ is) in
    omega (arith, now.0)
base_later h (item ∷ items) (suc j) later count base run there is =
    let grown = next_grows h (after_item h item) (grows_once h item.entry.operation item.lines item.steps) in
    let rest = base_later (after_item h item) items j later count base run.1 there is in
    omega (arith, grown, rest)

pub bases_rise : BasesRise
bases_rise h [] i j one later count next_count base next run low first second is next_is = absurd (let told : ◌≡◌ {A = Option LoggedCall} None (Some one) = first in cc)
bases_rise h (item ∷ items) i zero one later count next_count base next run low first second is next_is = absurd (omega arith)
bases_rise h (item ∷ items) zero (suc j) one later count next_count base next run low first second is next_is =
    let same : item ≡ one = cc in
    let now = base_now h item count base run.0 (ap (λ (i : LoggedCall). i.entry.operation) same ∙ is) in
    let rest = base_later (after_item h item) items j later next_count next run.1 second next_is in
    omega (arith, now.1, rest)
bases_rise h (item ∷ items) (suc i) (suc j) one later count next_count base next run low first second is next_is =
    bases_rise (after_item h item) items i j one later count next_count base next run.1 (omega arith) first second is next_is

-- ---- lines

drop_at : (from place : ℕ) (log : List ProofLine) → from ≤ place → slice_get (drop from log) (place - from) ≡ slice_get log place
drop_at zero place log low = let same : place - 0 ≡ place = omega arith in ap (slice_get log) same
drop_at (suc from) place [] low = refl
drop_at (suc from) zero (line ∷ log) low = absurd (omega arith)
drop_at (suc from) (suc place) (line ∷ log) low =
    let same : suc place - suc from ≡ place - from = omega arith in
    ap (slice_get (drop from log)) same ∙ drop_at from place log (omega arith)

-- a line keeps its place
stays : (h k : PoolState) (place : ℕ) (line : ProofLine) → Grows h k → slice_get h.log place ≡ Some line → slice_get k.log place ≡ Some line
stays h k place line grown there =
    ap (λ (l : List ProofLine). slice_get l place) grown.3
    ∙ slice_get-front h.log grown.2 place (slice_get_within h.log place line there)
    ∙ there

no_place : (first : ℕ) {A : Type 0} → ◌≡◌ {A = Option ℕ} None (Some first) → A
no_place first e = absurd (cc)

-- what a call tells stands in the log after it
stands_after : (formula : Conjunction) (h : PoolState) (operation : Operation) (lines : List ProofLine) (steps : List Step) (first place : ℕ) (line : ProofLine) → h.formula ≡ formula → IsReply h operation lines steps
    → first_line_place formula operation ≡ Some first → first ≤ place → slice_get lines (place - first) ≡ Some line → slice_get (after_operation h operation lines steps).log place ≡ Some line
stands_after formula h (Publish count (Ok base)) lines steps first place line same reply begins past there =
    let clauses : length h.formula.clauses ≡ length formula.clauses = ap (λ (f : Conjunction). length f.clauses) same in
    let told : base - (length formula.clauses + 1) ≡ first = cc in
    let at : place ≡ length h.log + (place - first) = omega (arith, told, clauses, reply.1, past) in
    ap (slice_get (h.log ++ lines)) at ∙ slice_get-back h.log lines (place - first) ∙ there
stands_after formula h (Fetch from (Ok count)) lines steps first place line same reply begins past there =
    let told : first ≡ from = cc in
    let lines_are : lines ≡ drop first h.log = reply.0.1 ∙ ap (λ n. drop n h.log) (sym told) in
    sym (drop_at first place h.log past) ∙ ap (λ (l : List ProofLine). slice_get l (place - first)) (sym lines_are) ∙ there
stands_after formula h operation lines steps first place line same reply begins past there = no_place first begins

-- what stands in the log a fetch from there or before tells
pub told_now : (formula : Conjunction) (h : PoolState) (item : LoggedCall) (place from : ℕ) (line : ProofLine) → IsStep h item → slice_get h.log place ≡ Some line → IsFetchAfter from item → from ≤ place → Tells formula item place line
told_now formula h item place from line step stands is past =
    let reply = subst (λ (d : Operation). IsReply h d item.lines item.steps) is.1 step in
    record {
      first = from;
      begins = ap (first_line_place formula) is.1;
      past = past;
      there = ap (λ (l : List ProofLine). slice_get l (place - from)) reply.0.1 ∙ drop_at from place h.log past ∙ stands;
    }

told_later : (formula : Conjunction) (h : PoolState) (items : List LoggedCall) (j : ℕ) (later : LoggedCall) (place from : ℕ) (line : ProofLine) → AreLegalReplies h items → slice_get items j ≡ Some later
    → slice_get h.log place ≡ Some line → IsFetchAfter from later → from ≤ place → Tells formula later place line
told_later formula h [] j later place from line run there stands is past = absurd (let told : ◌≡◌ {A = Option LoggedCall} None (Some later) = there in cc)
told_later formula h (item ∷ items) zero later place from line run there stands is past =
    let same : item ≡ later = cc in
    told_now formula h later place from line (subst (IsStep h) same run.0) stands is past
told_later formula h (item ∷ items) (suc j) later place from line run there stands is past =
    let grown = grows_once h item.entry.operation item.lines item.steps in
    told_later formula (after_item h item) items j later place from line run.1 there (stays h (after_item h item) place line grown stands) is past

nothing_lost : (formula : Conjunction) (h : PoolState) (items : List LoggedCall) (i j : ℕ) (one later : LoggedCall) (place from : ℕ) (line : ProofLine) → h.formula ≡ formula → AreLegalReplies h items → i < j
    → slice_get items i ≡ Some one → slice_get items j ≡ Some later → Tells formula one place line → IsFetchAfter from later → from ≤ place → Tells formula later place line
nothing_lost formula h [] i j one later place from line same run low first second tells is past = absurd (let told : ◌≡◌ {A = Option LoggedCall} None (Some one) = first in cc)
nothing_lost formula h (item ∷ items) i zero one later place from line same run low first second tells is past = absurd (omega arith)
nothing_lost formula h (item ∷ items) zero (suc j) one later place from line same run low first second tells is past =
    let here : item ≡ one = cc in
    let t : Tells formula item place line = subst (λ (x : LoggedCall). Tells formula x place line) (sym here) tells in
    let stands = stands_after formula h item.entry.operation item.lines item.steps t.first place line same run.0 t.begins t.past t.there in
    told_later formula (after_item h item) items j later place from line run.1 second stands is past
nothing_lost formula h (item ∷ items) (suc i) (suc j) one later place from line same run low first second tells is past =
    let kept = (grows_once h item.entry.operation item.lines item.steps).1 in
    nothing_lost formula (after_item h item) items i j one later place from line (kept ∙ same) run.1 (omega arith) first second tells is past

pub lose_nothing : RunsLoseNothing
lose_nothing h items run i j one later place from line low first second tells is past = nothing_lost h.formula h items i j one later place from line refl run low first second tells is past

told_stands_in : (formula : Conjunction) (h : PoolState) (items : List LoggedCall) (one : LoggedCall) (i place : ℕ) (line : ProofLine) → h.formula ≡ formula → AreLegalReplies h items → slice_get items i ≡ Some one → Tells formula one place line → slice_get (after_items h items).log place ≡ Some line
told_stands_in formula h [] one i place line same run there tells = absurd (let told : ◌≡◌ {A = Option LoggedCall} None (Some one) = there in cc)
told_stands_in formula h (item ∷ items) one zero place line same run there tells =
    let here : item ≡ one = cc in
    let t : Tells formula item place line = subst (λ (x : LoggedCall). Tells formula x place line) (sym here) tells in
    let stands = stands_after formula h item.entry.operation item.lines item.steps t.first place line same run.0 t.begins t.past t.there in
    stays (after_item h item) (after_items (after_item h item) items) place line (grows (after_item h item) items) stands
told_stands_in formula h (item ∷ items) one (suc i) place line same run there tells =
    let kept = (grows_once h item.entry.operation item.lines item.steps).1 in
    told_stands_in formula (after_item h item) items one i place line (kept ∙ same) run.1 there tells

pub told_stands : ToldStands
told_stands h items one i place line run there tells = told_stands_in h.formula h items one i place line refl run there tells

-- a list that has each item of another one at the same place begins with it
pub begins_with : {X : Type 0} (view log : List X) → ((place : ℕ) (x : X) → slice_get view place ≡ Some x → slice_get log place ≡ Some x) → log ≡ view ++ drop (length view) log
begins_with [] log all = refl
begins_with (x ∷ view) [] all = absurd (let found = all 0 x refl in cc)
begins_with (x ∷ view) (y ∷ log) all =
    let first : ◌≡◌ {A = Option _} (Some y) (Some x) = all 0 x refl in
    let same : y ≡ x = cc in
    ap (λ z. z ∷ log) same ∙ ap (λ l. x ∷ l) (begins_with view log (λ place z found. all (suc place) z found))

-- What a text means: for each rank, and for the ranks one after another, the calls that are made,
-- or the first thing that is wrong.
use Rattle.std.specs.Prelude.{ℕ, zero, suc, ◌+◌, pos, ◌+ℤ◌, int_lt, Bool, true, false, List, [], ◌∷◌, Option, Some, None, Result, Ok, Err, slice_get, if◌then◌else◌}
use Rattle.spmd_tree.specs.declared.tree.Expression.{Expression}
use Rattle.spmd_tree.specs.declared.tree.LabelForm.{LabelForm}
use Rattle.spmd_tree.specs.declared.tree.Labels.{Labels}
use Rattle.spmd_tree.specs.declared.tree.Labels.TheVariants.{Last, More'}
use Rattle.spmd_tree.specs.declared.tree.Arguments.{Arguments}
use Rattle.spmd_tree.specs.declared.tree.SpmdStatement.{SpmdStatement}
use Rattle.spmd_tree.specs.declared.tree.SpmdStatement.TheVariants as form
use Rattle.unroll.specs.declared.value.Value.{Value}
use Rattle.unroll.specs.declared.value.FaultReason.{FaultReason}
use Rattle.unroll.specs.declared.value.FaultReason.TheVariants as reason
use Rattle.unroll.specs.declared.call.Label.{Label}
use Rattle.unroll.specs.declared.call.LeftOut.{LeftOut}
use Rattle.unroll.specs.declared.machine.Scope.{Scope}
use Rattle.unroll.specs.declared.statement.Span.{Span}
use Rattle.unroll.specs.Values.{fits_number}
use Rattle.unroll.specs.Expressions.{on_found, expression_value, truth_of}
use Rattle.unroll.specs.Arguments.{Scoped, scoped_number, label_of, prepared}
use Rattle.unroll.specs.Runs.{TextRun, Outcome, Done, Failed, then_do, failed, attempt, perform, wait_part, still_first, assigned, turn_begun, loop_finished}

-- a loop is over where its variable's value is above the last one
abbrev pub is_over : Span → Bool
is_over span = int_lt span.last span.value

-- where a loop stands a step further; none beyond 64 bits
abbrev pub advanced : Span → ℕ → Option Span
advanced span step = if fits_number (span.value +ℤ pos step) then Some (record { value = span.value +ℤ pos step; last = span.last }) else None

-- where a loop begins
abbrev pub span_of : Expression → Expression → Scoped Span
span_of first last rank size values = on_found (scoped_number first rank size values) (λ a. on_found (scoped_number last rank size values) (λ b. Ok (record { value = a; last = b })))

abbrev pub has_value : Option (Option Value) → Bool
has_value None = false
has_value (Some None) = false
has_value (Some (Some v)) = true

abbrev pub assignment : Scope → ℕ → ℕ → Expression → TextRun → Outcome
assignment scope line name e run = attempt scope line run (expression_value e scope.rank scope.size run.values) (λ v. Done (assigned name v run))

abbrev pub otherwise_value : Scope → ℕ → ℕ → Option Expression → TextRun → Outcome
otherwise_value scope line name None run = failed scope line (reason.NoSetting name) run
otherwise_value scope line name (Some e) run = assignment scope line name e run

-- a parameter has the value that was set, or else its own
abbrev pub parameter : Scope → ℕ → ℕ → Option Expression → TextRun → Outcome
parameter scope line name e run = if has_value (slice_get run.values name) then Done run else otherwise_value scope line name e run

abbrev pub called : Scope → ℕ → Arguments → TextRun → Outcome
called scope line arguments run = attempt scope line run (prepared arguments scope.rank scope.size run.values) (λ c. perform scope line c run)

abbrev pub waiting_for_request : Scope → ℕ → Bool → LabelForm → TextRun → Outcome
waiting_for_request scope line first f run = attempt scope line run (label_of f scope.rank scope.size run.values) (λ l. wait_part scope line first l run)

abbrev pub first_after : Bool → Result Label FaultReason → TextRun → Bool
first_after first (Ok l) run = still_first first l run
first_after first (Err why) run = first

abbrev pub next_first : Scope → Bool → LabelForm → TextRun → Bool
next_first scope first f run = first_after first (label_of f scope.rank scope.size run.values) run

abbrev pub wait_each : Labels → Scope → ℕ → Bool → TextRun → Outcome
wait_each (Last f) scope line first run = waiting_for_request scope line first f run
wait_each (More' f p others) scope line first run = then_do (waiting_for_request scope line first f run) (λ r. wait_each others scope line (next_first scope first f run) r)

abbrev pub chosen : Bool → Outcome → Outcome → Outcome
chosen true a b = a
chosen false a b = b

abbrev pub next_turn : Option Span → Outcome → (Span → Outcome) → Outcome
next_turn None over again = over
next_turn (Some span) over again = again span

-- the turns of a loop from where it stands, n at most
abbrev pub turns : ℕ → (TextRun → Outcome) → Scope → ℕ → ℕ → ℕ → ℕ → Span → TextRun → Outcome
turns zero body scope line name step outer span run =
    if is_over span then Done (loop_finished name outer run) else failed scope line reason.TooManyTurns run
turns (suc n) body scope line name step outer span run =
    if is_over span
    then Done (loop_finished name outer run)
    else then_do (turn_begun scope line name outer span.value run) (λ r. then_do (body r) (λ s. next_turn (advanced span step) (Done (loop_finished name outer s)) (λ next. turns n body scope line name step outer next s)))

abbrev pub meaning : SpmdStatement → Scope → TextRun → Outcome
meaning form.Nothing scope run = Done run
meaning (form.Sequence' p a q b) scope run = then_do (meaning a scope run) (λ r. meaning b scope r)
meaning (form.Parameter line name e) scope run = parameter scope line name e run
meaning (form.Assign line name e) scope run = assignment scope line name e run
meaning (form.When' line chained condition p a q b) scope run =
    attempt scope line run (truth_of condition scope.rank scope.size run.values) (λ holds. chosen holds (meaning a scope run) (meaning b scope run))
meaning (form.Otherwise' p a) scope run = meaning a scope run
meaning (form.Repeat' line name first last step p body) scope run =
    attempt scope line run (span_of first last scope.rank scope.size run.values) (λ span. turns scope.most_turns (λ r. meaning body scope r) scope line name step run.turn span run)
meaning (form.Call line arguments) scope run = called scope line arguments run
meaning (form.WaitAll line requests) scope run = wait_each requests scope line true run
meaning (form.Unreached line) scope run = failed scope line reason.ErrorReached run

-- ---- all ranks

-- a rank begins: parameters have the values that were set, and nothing else has one
abbrev pub fresh : List (Option Value) → TextRun → TextRun
fresh settings run = record { values = settings; left_out = []; opened = []; meetings = run.meetings; attended = run.attended; calls = run.calls; turns = run.turns; turn = 0 }

-- a rank ends; each start that was left out has to have ended
abbrev pub ended : ℕ → List LeftOut → TextRun → Outcome
ended rank [] run = Done run
ended rank (l ∷ others) run = Failed (record { rank = rank; line = l.line; turn = l.turn; reason = reason.NeverEnded l.start.label.name }) run

abbrev pub rank_run : SpmdStatement → List (Option Value) → Scope → TextRun → Outcome
rank_run program settings scope run = then_do (meaning program scope (fresh settings run)) (λ r. ended scope.rank r.left_out r)

-- so many ranks from this one on
abbrev pub ranks_from : ℕ → SpmdStatement → List (Option Value) → ℕ → ℕ → Bool → ℕ → ℕ → TextRun → Outcome
ranks_from zero program settings rank size barriers most_calls most_turns run = Done run
ranks_from (suc n) program settings rank size barriers most_calls most_turns run =
    then_do (rank_run program settings (record { rank = rank; size = size; barriers = barriers; most_calls = most_calls; most_turns = most_turns }) run) (λ r. ranks_from n program settings (rank + 1) size barriers most_calls most_turns r)

-- nothing is unrolled yet
abbrev pub nothing_unrolled : TextRun
nothing_unrolled = record { values = []; left_out = []; opened = []; meetings = []; attended = []; calls = []; turns = []; turn = 0 }

-- the whole text, for so many ranks, where collective calls are barriers or not
abbrev pub text_run : SpmdStatement → List (Option Value) → ℕ → Bool → ℕ → ℕ → Outcome
text_run program settings size barriers most_calls most_turns = ranks_from size program settings 0 size barriers most_calls most_turns nothing_unrolled

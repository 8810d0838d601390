-- What is kept while a text is unrolled, and what one call does to it.
use Rattle.std.specs.Prelude.{ℕ, ◌+◌, ℤ, Bool, true, false, nat_lt, nat_le, List, [], ◌∷◌, ◌++◌, length, Option, Some, None, Result, Ok, Err, slice_set, if◌then◌else◌}
use Rattle.spmd_tree.specs.declared.tree.SendMode.{SendMode}
use Rattle.spmd_tree.specs.declared.tree.SendMode.TheVariants.{Standard}
use Rattle.spmd_tree.specs.declared.tree.CollectiveKind.{CollectiveKind}
use Rattle.unroll.specs.declared.value.Value.{Value}
use Rattle.unroll.specs.declared.value.Value.TheVariants.{Number}
use Rattle.unroll.specs.declared.value.FaultReason.{FaultReason}
use Rattle.unroll.specs.declared.value.FaultReason.TheVariants as reason
use Rattle.unroll.specs.declared.call.Label.{Label}
use Rattle.unroll.specs.declared.call.LeftOut.{LeftOut}
use Rattle.unroll.specs.declared.call.Start.{Start}
use Rattle.unroll.specs.declared.call.Group.{Group}
use Rattle.unroll.specs.declared.call.Meeting.{Meeting}
use Rattle.unroll.specs.declared.call.Attendance.{Attendance}
use Rattle.unroll.specs.declared.call.UnrolledCall.{UnrolledCall}
use Rattle.unroll.specs.declared.call.UnrolledCall.TheVariants as call
use Rattle.unroll.specs.declared.call.Placed.{Placed}
use Rattle.unroll.specs.declared.call.Turn.{Turn}
use Rattle.unroll.specs.declared.call.Fault.{Fault}
use Rattle.unroll.specs.declared.arguments.Prepared.{Prepared}
use Rattle.unroll.specs.declared.arguments.Prepared.TheVariants as given
use Rattle.unroll.specs.declared.machine.Scope.{Scope}
use Rattle.unroll.specs.Labels.{request, handle, is_left_out, without, is_open, opened_after}
use Rattle.unroll.specs.Groups.{is_member, root_in, meeting_of, meeting_number, meetings_with, earlier_calls, attendance_put}
use Rattle.unroll.specs.Collectives.{collective_calls, kind_for, way_of}

-- How far a text is unrolled: the values of names, the starts that were left out and have not
-- ended, those that were made, each with whether it has not ended; of all ranks so far those who met in collective calls, each at its number, who attended
-- last there, the calls in their order, and the turns of loops; and the number of the turn that is
-- going on, 0 for none.
pub record TextRun : Type 0 where
  pub values : List (Option Value)
  pub left_out : List LeftOut
  pub opened : List (Start × Bool)
  pub meetings : List Meeting
  pub attended : List Attendance
  pub calls : List Placed
  pub turns : List Turn
  pub turn : ℕ

-- What is done leaves a run; or something is wrong, which leaves the run as far as it came.
pub data Outcome : Type 0 where
  Done : TextRun → Outcome
  Failed : Fault → TextRun → Outcome

-- one thing after another, as long as nothing is wrong
abbrev pub then_do : Outcome → (TextRun → Outcome) → Outcome
then_do (Done run) go = go run
then_do (Failed fault run) go = Failed fault run

abbrev pub fault_on_line : Scope → ℕ → FaultReason → TextRun → Fault
fault_on_line scope line why run = record { rank = scope.rank; line = line; turn = run.turn; reason = why }

abbrev pub failed : Scope → ℕ → FaultReason → TextRun → Outcome
failed scope line why run = Failed (fault_on_line scope line why run) run

-- goes on with what was evaluated, or fails
abbrev pub attempt : {A : Type 0} → Scope → ℕ → TextRun → Result A FaultReason → (A → Outcome) → Outcome
attempt scope line run (Err why) go = failed scope line why run
attempt scope line run (Ok x) go = go x

-- ---- calls

-- one call more, unless there are as many as may be
abbrev pub call_put : Scope → ℕ → UnrolledCall → TextRun → Outcome
call_put scope line c run =
    if nat_lt (length run.calls) scope.most_calls
    then Done (record { values = run.values; left_out = run.left_out; opened = opened_after c run.opened; meetings = run.meetings; attended = run.attended; calls = run.calls ++ record { rank = scope.rank; line = line; turn = run.turn; call = c } ∷ []; turns = run.turns; turn = run.turn })
    else failed scope line reason.TooManyCalls run

-- a start is refused where one of its name was left out and has not ended
abbrev pub guarded : Scope → ℕ → Start → TextRun → Outcome
guarded scope line s run = if is_left_out run.left_out s then failed scope line (reason.StillOpen s.label.name) run else Done run

abbrev pub guarded_request : Scope → ℕ → Option Label → TextRun → Outcome
guarded_request scope line None run = Done run
guarded_request scope line (Some label) run = guarded scope line (request label) run

-- a start is left out; it is refused where one of its name was made and has not ended
abbrev pub left : Scope → ℕ → Start → TextRun → Outcome
left scope line s run =
    if is_open run.opened s
    then failed scope line (reason.StillOpen s.label.name) run
    else Done (record { values = run.values; left_out = run.left_out ++ record { start = s; line = line; turn = run.turn } ∷ []; opened = run.opened; meetings = run.meetings; attended = run.attended; calls = run.calls; turns = run.turns; turn = run.turn })

abbrev pub left_request : Scope → ℕ → Option Label → TextRun → Outcome
left_request scope line None run = Done run
left_request scope line (Some label) run = left scope line (request label) run

-- the end of a start that was left out is left out too
abbrev pub forgotten : Start → TextRun → TextRun
forgotten s run = record { values = run.values; left_out = without run.left_out s; opened = run.opened; meetings = run.meetings; attended = run.attended; calls = run.calls; turns = run.turns; turn = run.turn }

-- with a peer the call is made, and with null it is left out
abbrev pub with_peer : {A : Type 0} → Option A → Outcome → (A → Outcome) → Outcome
with_peer None out made = out
with_peer (Some peer) out made = made peer

-- a receive on a handle whose probe was left out is left out too, and its request with it
abbrev pub matched : Scope → ℕ → Option Label → Label → TextRun → Outcome
matched scope line r h run =
    if is_left_out run.left_out (handle h)
    then left_request scope line r (forgotten (handle h) run)
    else call_put scope line (call.MatchedReceive r h) run

abbrev pub waited : Scope → ℕ → Label → TextRun → Outcome
waited scope line r run =
    if is_left_out run.left_out (request r)
    then Done (forgotten (request r) run)
    else call_put scope line (call.Wait r) run

-- a joined send and receive with null on one side is the other side alone; with null on both sides
-- it is no call
abbrev pub joined_call : Option ℕ → ℕ → Option (Option ℕ) → Option ℕ → ℕ → Option UnrolledCall
joined_call None send_tag None receive_tag c = None
joined_call None send_tag (Some source) receive_tag c = Some (call.Receive None source receive_tag c)
joined_call (Some destination) send_tag None receive_tag c = Some (call.Send Standard None destination send_tag c)
joined_call (Some destination) send_tag (Some source) receive_tag c = Some (call.SendReceive destination send_tag source receive_tag c)

abbrev pub put_optional : Scope → ℕ → Option UnrolledCall → TextRun → Outcome
put_optional scope line None run = Done run
put_optional scope line (Some c) run = call_put scope line c run

-- these calls, one after another
abbrev pub put_each : List UnrolledCall → Scope → ℕ → TextRun → Outcome
put_each [] scope line run = Done run
put_each (c ∷ others) scope line run = then_do (call_put scope line c run) (λ r. put_each others scope line r)

-- these meet, and have a number from now on
abbrev pub with_meeting : Meeting → TextRun → TextRun
with_meeting m run = record { values = run.values; left_out = run.left_out; opened = run.opened; meetings = meetings_with run.meetings m; attended = run.attended; calls = run.calls; turns = run.turns; turn = run.turn }

-- the rank made so many of the collective calls of those with this number
abbrev pub attendance_noted : ℕ → ℕ → ℕ → TextRun → TextRun
attendance_noted number rank calls run = record { values = run.values; left_out = run.left_out; opened = run.opened; meetings = run.meetings; attended = attendance_put run.attended number (record { rank = rank; calls = calls }); calls = run.calls; turns = run.turns; turn = run.turn }

-- a collective call of those with this number, before which the rank made so many, is the calls
-- that it stands for
abbrev pub collective_put : Scope → ℕ → CollectiveKind → ℕ → Group → ℕ → ℕ → TextRun → Outcome
collective_put scope line kind root g number earlier run =
    put_each (collective_calls (kind_for scope.barriers kind) root g scope.size scope.rank (way_of kind earlier number)) scope line (attendance_noted number scope.rank (earlier + 1) run)

abbrev pub meeting_run : Scope → ℕ → CollectiveKind → ℕ → Group → ℕ → TextRun → Outcome
meeting_run scope line kind root g number run =
    if nat_le 2147483520 number
    then failed scope line reason.TooManyGroups run
    else if nat_le 67108864 (earlier_calls run.attended number scope.rank)
    then failed scope line reason.TooManyCollectives run
    else collective_put scope line kind root g number (earlier_calls run.attended number scope.rank) run

-- who makes a collective call, and its root, are of its group; those who meet have a number, in the
-- order in which they first do so, on all ranks
abbrev pub collective_run : Scope → ℕ → CollectiveKind → ℕ → Group → ℕ → TextRun → Outcome
collective_run scope line kind root g c run =
    if is_member g scope.rank
    then if is_member g root
    then meeting_run scope line kind root g (meeting_number run.meetings (meeting_of c g)) (with_meeting (meeting_of c g) run)
    else failed scope line (reason.NotInGroup root) run
    else failed scope line (reason.NotInGroup scope.rank) run

-- a send, with its peer or with null
abbrev pub sent : Scope → ℕ → SendMode → Option Label → Option ℕ → ℕ → ℕ → TextRun → Outcome
sent scope line mode label destination tag c run =
    then_do (guarded_request scope line label run) (λ r. with_peer destination (left_request scope line label r) (λ d. call_put scope line (call.Send mode label d tag c) r))

abbrev pub received : Scope → ℕ → Option Label → Option (Option ℕ) → Option ℕ → ℕ → TextRun → Outcome
received scope line label source tag c run =
    then_do (guarded_request scope line label run) (λ r. with_peer source (left_request scope line label r) (λ s. call_put scope line (call.Receive label s tag c) r))

abbrev pub matched_probed : Scope → ℕ → Label → Option (Option ℕ) → Option ℕ → ℕ → TextRun → Outcome
matched_probed scope line h source tag c run =
    then_do (guarded scope line (handle h) run) (λ r. with_peer source (left scope line (handle h) r) (λ s. call_put scope line (call.MatchedProbe h s tag c) r))

abbrev pub probed : Scope → ℕ → Option (Option ℕ) → Option ℕ → ℕ → TextRun → Outcome
probed scope line source tag c run = with_peer source (Done run) (λ s. call_put scope line (call.Probe s tag c) run)

abbrev pub perform : Scope → ℕ → Prepared → TextRun → Outcome
perform scope line (given.Send mode label destination tag c) run = sent scope line mode label destination tag c run
perform scope line (given.Receive label source tag c) run = received scope line label source tag c run
perform scope line (given.MatchedProbe h source tag c) run = matched_probed scope line h source tag c run
perform scope line (given.Probe source tag c) run = probed scope line source tag c run
perform scope line (given.Collective kind root g c) run = collective_run scope line kind (root_in g root) g c run
perform scope line (given.MatchedReceive label h) run = then_do (guarded_request scope line label run) (λ r. matched scope line label h r)
perform scope line (given.Wait label) run = waited scope line label run
perform scope line (given.SendReceive destination send_tag source receive_tag c) run = put_optional scope line (joined_call destination send_tag source receive_tag c) run

-- the first request of a `waitall`, or a further one
abbrev pub wait_call : Bool → Label → UnrolledCall
wait_call true r = call.WaitAll r
wait_call false r = call.WaitAlso r

abbrev pub wait_part : Scope → ℕ → Bool → Label → TextRun → Outcome
wait_part scope line first r run =
    if is_left_out run.left_out (request r)
    then Done (forgotten (request r) run)
    else call_put scope line (wait_call first r) run

-- the next request is the first, where this one was the first and is left out
abbrev pub still_first : Bool → Label → TextRun → Bool
still_first first r run = if is_left_out run.left_out (request r) then first else false

-- ---- names and loops

abbrev pub set_value : List (Option Value) → ℕ → Option Value → List (Option Value)
set_value values name v = if nat_lt name (length values) then slice_set values name v else values

abbrev pub assigned : ℕ → Value → TextRun → TextRun
assigned name v run = record { values = set_value run.values name (Some v); left_out = run.left_out; opened = run.opened; meetings = run.meetings; attended = run.attended; calls = run.calls; turns = run.turns; turn = run.turn }

-- a turn begins, unless there were as many as may be: the loop's variable has this value
abbrev pub turn_begun : Scope → ℕ → ℕ → ℕ → ℤ → TextRun → Outcome
turn_begun scope line name outer value run =
    if nat_lt (length run.turns) scope.most_turns
    then Done (record { values = set_value run.values name (Some (Number value)); left_out = run.left_out; opened = run.opened; meetings = run.meetings; attended = run.attended; calls = run.calls; turns = run.turns ++ record { outer = outer; name = name; value = value } ∷ []; turn = length run.turns + 1 })
    else failed scope line reason.TooManyTurns run

-- a loop ends: its variable has no value any more
abbrev pub loop_finished : ℕ → ℕ → TextRun → TextRun
loop_finished name outer run = record { values = set_value run.values name None; left_out = run.left_out; opened = run.opened; meetings = run.meetings; attended = run.attended; calls = run.calls; turns = run.turns; turn = outer }

-- Those who meet keep their numbers.
use Rattle.std.proofs.Common.{◌≡◌, ℕ, zero, suc, ◌+◌, Bool, true, false, Option, Some, None, Result, Ok, Err, List, [], ◌∷◌, ◌++◌, slice_get, nat_le, nat_lt, length, ℤ, ap, sym, ◌∙◌, refl}
use Rattle.std.proofs.lemmas.List.{append-nil, append_assoc}
use Rattle.std.specs.List.{list_any}
use Rattle.std.specs.Prelude.{if◌then◌else◌}
use Rattle.spmd_tree.specs.declared.tree.CollectiveKind.{CollectiveKind}
use Rattle.spmd_tree.specs.declared.tree.Expression.{Expression}
use Rattle.spmd_tree.specs.declared.tree.LabelForm.{LabelForm}
use Rattle.spmd_tree.specs.declared.tree.Labels.{Labels}
use Rattle.spmd_tree.specs.declared.tree.Labels.TheVariants.{Last, More'}
use Rattle.spmd_tree.specs.declared.tree.SendMode.{SendMode}
use Rattle.spmd_tree.specs.declared.tree.SpmdStatement.{SpmdStatement}
use Rattle.spmd_tree.specs.declared.tree.SpmdStatement.TheVariants as form
use Rattle.unroll.specs.declared.value.Value.{Value}
use Rattle.unroll.specs.declared.value.FaultReason.{FaultReason}
use Rattle.unroll.specs.declared.arguments.Prepared.{Prepared}
use Rattle.unroll.specs.declared.arguments.Prepared.TheVariants as given
use Rattle.unroll.specs.declared.call.Group.{Group}
use Rattle.unroll.specs.declared.call.Label.{Label}
use Rattle.unroll.specs.declared.call.LeftOut.{LeftOut}
use Rattle.unroll.specs.declared.call.Meeting.{Meeting}
use Rattle.unroll.specs.declared.call.Start.{Start}
use Rattle.unroll.specs.declared.call.UnrolledCall.{UnrolledCall}
use Rattle.unroll.specs.declared.call.UnrolledCall.TheVariants as call
use Rattle.unroll.specs.declared.machine.Scope.{Scope}
use Rattle.unroll.specs.declared.statement.Span.{Span}
use Rattle.unroll.specs.Apart.{KeepsNumbers, NumbersStay}
use Rattle.unroll.specs.Arguments.{label_of, prepared}
use Rattle.unroll.specs.Collectives.{collective_calls, kind_for, way_of}
use Rattle.unroll.specs.Expressions.{expression_value, truth_of}
use Rattle.unroll.specs.Groups.{is_member, root_in, same_meeting, meeting_of, meeting_number, earlier_calls}
use Rattle.unroll.specs.Labels.{request, handle, is_left_out, is_open}
use Rattle.unroll.specs.Runs.{TextRun, Outcome, Done, then_do, attempt, call_put, guarded, guarded_request, left, left_request, forgotten, with_peer, matched, waited, joined_call, put_optional, put_each, with_meeting, attendance_noted, meeting_run, collective_run, sent, received, matched_probed, perform, wait_call, wait_part, assigned, turn_begun, loop_finished}
use Rattle.unroll.specs.Statements.{is_over, advanced, span_of, has_value, assignment, otherwise_value, waiting_for_request, next_first, wait_each, chosen, next_turn, turns, meaning, fresh, ended, rank_run, ranks_from}
use Rattle.unroll.proofs.Apart.{OnDone, if_on, on_done, on_map, then_on}

-- an outcome keeps the numbers of a run
abbrev Keeps : TextRun → Outcome → Type 0
Keeps run o = OnDone (KeepsNumbers run) o

same_meetings : (run after : TextRun) → after.meetings ≡ run.meetings → KeepsNumbers run after
same_meetings run after e = ([], e ∙ sym (append-nil run.meetings))

further : (a b c : TextRun) → KeepsNumbers a b → KeepsNumbers b c → KeepsNumbers a c
further a b c p q = (p.0 ++ q.0, q.1 ∙ ap (λ (ms : List Meeting). ms ++ q.0) p.1 ∙ append_assoc a.meetings p.0 q.0)

goes_on : (a b : TextRun) (o : Outcome) → KeepsNumbers a b → Keeps b o → Keeps a o
goes_on a b o p q = on_map (KeepsNumbers b) (KeepsNumbers a) o (λ c r. further a b c p r) q

then_keeps : (run : TextRun) (o : Outcome) (go : TextRun → Outcome) → Keeps run o → ((r : TextRun) → Keeps r (go r)) → Keeps run (then_do o go)
then_keeps run o go p next = then_on (KeepsNumbers run) (KeepsNumbers run) o go p (λ r k. goes_on run r (go r) k (next r))

if_keeps : (run : TextRun) (b : Bool) (x y : Outcome) → Keeps run x → Keeps run y → Keeps run (if b then x else y)
if_keeps run b x y p q = if_on (KeepsNumbers run) b x y p q

attempt_keeps : {A : Type 0} (scope : Scope) (line : ℕ) (run : TextRun) (r : Result A FaultReason) (go : A → Outcome) → ((x : A) → Keeps run (go x)) → Keeps run (attempt scope line run r go)
attempt_keeps scope line run (Err why) go k = tt
attempt_keeps scope line run (Ok x) go k = k x

call_keeps : (scope : Scope) (line : ℕ) (c : UnrolledCall) (run : TextRun) → Keeps run (call_put scope line c run)
call_keeps scope line c run = if_keeps run (nat_lt (length run.calls) scope.most_calls) _ _ ([], sym (append-nil run.meetings)) tt

each_keeps : (cs : List UnrolledCall) (scope : Scope) (line : ℕ) (run : TextRun) → Keeps run (put_each cs scope line run)
each_keeps [] scope line run = same_meetings run run refl
each_keeps (c ∷ cs) scope line run = then_keeps run (call_put scope line c run) (λ r. put_each cs scope line r) (call_keeps scope line c run) (λ r. each_keeps cs scope line r)

-- ---- starts

guarded_keeps : (scope : Scope) (line : ℕ) (s : Start) (run : TextRun) → Keeps run (guarded scope line s run)
guarded_keeps scope line s run = if_keeps run (is_left_out run.left_out s) _ _ tt (same_meetings run run refl)

guarded_request_keeps : (scope : Scope) (line : ℕ) (label : Option Label) (run : TextRun) → Keeps run (guarded_request scope line label run)
guarded_request_keeps scope line None run = same_meetings run run refl
guarded_request_keeps scope line (Some label) run = guarded_keeps scope line (request label) run

left_keeps : (scope : Scope) (line : ℕ) (s : Start) (run : TextRun) → Keeps run (left scope line s run)
left_keeps scope line s run = if_keeps run (is_open run.opened s) _ _ tt ([], sym (append-nil run.meetings))

left_request_keeps : (scope : Scope) (line : ℕ) (label : Option Label) (run : TextRun) → Keeps run (left_request scope line label run)
left_request_keeps scope line None run = same_meetings run run refl
left_request_keeps scope line (Some label) run = left_keeps scope line (request label) run

peer_keeps : {A : Type 0} (run : TextRun) (peer : Option A) (out : Outcome) (made : A → Outcome) → Keeps run out → ((x : A) → Keeps run (made x)) → Keeps run (with_peer peer out made)
peer_keeps run None out made p q = p
peer_keeps run (Some x) out made p q = q x

-- ---- collective calls

added_keeps : (m : Meeting) (run : TextRun) (b : Bool) → (more : List Meeting) × ((if b then run.meetings else run.meetings ++ m ∷ []) ≡ run.meetings ++ more)
added_keeps m run true = ([], sym (append-nil run.meetings))
added_keeps m run false = (m ∷ [], refl)

meeting_keeps : (scope : Scope) (line : ℕ) (k : CollectiveKind) (root : ℕ) (g : Group) (number : ℕ) (run : TextRun) → Keeps run (meeting_run scope line k root g number run)
meeting_keeps scope line k root g number run =
    let earlier = earlier_calls run.attended number scope.rank in
    let noted = attendance_noted number scope.rank (earlier + 1) run in
    let calls = collective_calls (kind_for scope.barriers k) root g scope.size scope.rank (way_of k earlier number) in
    if_keeps run (nat_le 2147483520 number) _ _ tt
    (if_keeps run (nat_le 67108864 earlier) _ _ tt
    (goes_on run noted (put_each calls scope line noted) (same_meetings run noted refl) (each_keeps calls scope line noted)))

collective_keeps : (scope : Scope) (line : ℕ) (k : CollectiveKind) (root : ℕ) (g : Group) (c : ℕ) (run : TextRun) → Keeps run (collective_run scope line k root g c run)
collective_keeps scope line k root g c run =
    let m = meeting_of c g in
    let there = with_meeting m run in
    let number = meeting_number run.meetings m in
    if_keeps run (is_member g scope.rank) _ _
    (if_keeps run (is_member g root) _ _
    (goes_on run there (meeting_run scope line k root g number there) (added_keeps m run (list_any (same_meeting m) run.meetings)) (meeting_keeps scope line k root g number there)) tt) tt

-- ---- calls

sent_keeps : (scope : Scope) (line : ℕ) (mode : SendMode) (label : Option Label) (peer : Option ℕ) (tag c : ℕ) (run : TextRun) → Keeps run (sent scope line mode label peer tag c run)
sent_keeps scope line mode label peer tag c run =
    then_keeps run (guarded_request scope line label run) (λ r. with_peer peer (left_request scope line label r) (λ d. call_put scope line (call.Send mode label d tag c) r))
    (guarded_request_keeps scope line label run)
    (λ r. peer_keeps r peer _ _ (left_request_keeps scope line label r) (λ d. call_keeps scope line (call.Send mode label d tag c) r))

received_keeps : (scope : Scope) (line : ℕ) (label : Option Label) (peer : Option (Option ℕ)) (tag : Option ℕ) (c : ℕ) (run : TextRun) → Keeps run (received scope line label peer tag c run)
received_keeps scope line label peer tag c run =
    then_keeps run (guarded_request scope line label run) (λ r. with_peer peer (left_request scope line label r) (λ s. call_put scope line (call.Receive label s tag c) r))
    (guarded_request_keeps scope line label run)
    (λ r. peer_keeps r peer _ _ (left_request_keeps scope line label r) (λ s. call_keeps scope line (call.Receive label s tag c) r))

matched_probed_keeps : (scope : Scope) (line : ℕ) (h : Label) (peer : Option (Option ℕ)) (tag : Option ℕ) (c : ℕ) (run : TextRun) → Keeps run (matched_probed scope line h peer tag c run)
matched_probed_keeps scope line h peer tag c run =
    then_keeps run (guarded scope line (handle h) run) (λ r. with_peer peer (left scope line (handle h) r) (λ s. call_put scope line (call.MatchedProbe h s tag c) r))
    (guarded_keeps scope line (handle h) run)
    (λ r. peer_keeps r peer _ _ (left_keeps scope line (handle h) r) (λ s. call_keeps scope line (call.MatchedProbe h s tag c) r))

matched_keeps : (scope : Scope) (line : ℕ) (label : Option Label) (h : Label) (run : TextRun) → Keeps run (matched scope line label h run)
matched_keeps scope line label h run =
    if_keeps run (is_left_out run.left_out (handle h)) _ _
    (goes_on run (forgotten (handle h) run) (left_request scope line label (forgotten (handle h) run)) (same_meetings run (forgotten (handle h) run) refl) (left_request_keeps scope line label (forgotten (handle h) run)))
    (call_keeps scope line (call.MatchedReceive label h) run)

waited_keeps : (scope : Scope) (line : ℕ) (label : Label) (run : TextRun) → Keeps run (waited scope line label run)
waited_keeps scope line label run =
    if_keeps run (is_left_out run.left_out (request label)) _ _ (same_meetings run (forgotten (request label) run) refl) (call_keeps scope line (call.Wait label) run)

optional_keeps : (scope : Scope) (line : ℕ) (c : Option UnrolledCall) (run : TextRun) → Keeps run (put_optional scope line c run)
optional_keeps scope line None run = same_meetings run run refl
optional_keeps scope line (Some c) run = call_keeps scope line c run

perform_keeps : (scope : Scope) (line : ℕ) (p : Prepared) (run : TextRun) → Keeps run (perform scope line p run)
perform_keeps scope line (given.Send mode label peer tag c) run = sent_keeps scope line mode label peer tag c run
perform_keeps scope line (given.Receive label peer tag c) run = received_keeps scope line label peer tag c run
perform_keeps scope line (given.MatchedProbe h peer tag c) run = matched_probed_keeps scope line h peer tag c run
perform_keeps scope line (given.Probe peer tag c) run = peer_keeps run peer _ _ (same_meetings run run refl) (λ s. call_keeps scope line (call.Probe s tag c) run)
perform_keeps scope line (given.Collective k root g c) run = collective_keeps scope line k (root_in g root) g c run
perform_keeps scope line (given.MatchedReceive label h) run =
    then_keeps run (guarded_request scope line label run) (λ r. matched scope line label h r) (guarded_request_keeps scope line label run) (λ r. matched_keeps scope line label h r)
perform_keeps scope line (given.Wait label) run = waited_keeps scope line label run
perform_keeps scope line (given.SendReceive peer send_tag from receive_tag c) run = optional_keeps scope line (joined_call peer send_tag from receive_tag c) run

-- ---- statements

assignment_keeps : (scope : Scope) (line name : ℕ) (e : Expression) (run : TextRun) → Keeps run (assignment scope line name e run)
assignment_keeps scope line name e run =
    attempt_keeps scope line run (expression_value e scope.rank scope.size run.values) (λ v. Done (assigned name v run)) (λ v. same_meetings run (assigned name v run) refl)

otherwise_keeps : (scope : Scope) (line name : ℕ) (e : Option Expression) (run : TextRun) → Keeps run (otherwise_value scope line name e run)
otherwise_keeps scope line name None run = tt
otherwise_keeps scope line name (Some e) run = assignment_keeps scope line name e run

part_keeps : (scope : Scope) (line : ℕ) (first : Bool) (label : Label) (run : TextRun) → Keeps run (wait_part scope line first label run)
part_keeps scope line first label run =
    if_keeps run (is_left_out run.left_out (request label)) _ _ (same_meetings run (forgotten (request label) run) refl) (call_keeps scope line (wait_call first label) run)

waiting_keeps : (scope : Scope) (line : ℕ) (first : Bool) (f : LabelForm) (run : TextRun) → Keeps run (waiting_for_request scope line first f run)
waiting_keeps scope line first f run =
    attempt_keeps scope line run (label_of f scope.rank scope.size run.values) (λ l. wait_part scope line first l run) (λ l. part_keeps scope line first l run)

wait_each_keeps : (requests : Labels) (scope : Scope) (line : ℕ) (first : Bool) (run : TextRun) → Keeps run (wait_each requests scope line first run)
wait_each_keeps (Last f) scope line first run = waiting_keeps scope line first f run
wait_each_keeps (More' f p others) scope line first run =
    then_keeps run (waiting_for_request scope line first f run) (λ r. wait_each others scope line (next_first scope first f run) r)
    (waiting_keeps scope line first f run) (λ r. wait_each_keeps others scope line (next_first scope first f run) r)

chosen_keeps : (run : TextRun) (b : Bool) (x y : Outcome) → Keeps run x → Keeps run y → Keeps run (chosen b x y)
chosen_keeps run true x y p q = p
chosen_keeps run false x y p q = q

next_keeps : (run : TextRun) (next : Option Span) (over : Outcome) (again : Span → Outcome) → Keeps run over → ((s : Span) → Keeps run (again s)) → Keeps run (next_turn next over again)
next_keeps run None over again p q = p
next_keeps run (Some s) over again p q = q s

begun_keeps : (scope : Scope) (line name outer : ℕ) (value : ℤ) (run : TextRun) → Keeps run (turn_begun scope line name outer value run)
begun_keeps scope line name outer value run = if_keeps run (nat_lt (length run.turns) scope.most_turns) _ _ ([], sym (append-nil run.meetings)) tt

turns_keep : (n : ℕ) (body : TextRun → Outcome) (scope : Scope) (line name step outer : ℕ) (span : Span) (run : TextRun) → ((r : TextRun) → Keeps r (body r)) → Keeps run (turns n body scope line name step outer span run)
turns_keep zero body scope line name step outer span run k = if_keeps run (is_over span) _ _ (same_meetings run (loop_finished name outer run) refl) tt
turns_keep (suc n) body scope line name step outer span run k =
    if_keeps run (is_over span) _ _ (same_meetings run (loop_finished name outer run) refl)
    (then_keeps run (turn_begun scope line name outer span.value run) _ (begun_keeps scope line name outer span.value run)
    (λ r. then_keeps r (body r) (λ s. next_turn (advanced span step) (Done (loop_finished name outer s)) (λ next. turns n body scope line name step outer next s)) (k r)
    (λ s. next_keeps s (advanced span step) (Done (loop_finished name outer s)) (λ next. turns n body scope line name step outer next s) (same_meetings s (loop_finished name outer s) refl) (λ next. turns_keep n body scope line name step outer next s k))))

meaning_keeps : (statement : SpmdStatement) (scope : Scope) (run : TextRun) → Keeps run (meaning statement scope run)
meaning_keeps form.Nothing scope run = same_meetings run run refl
meaning_keeps (form.Sequence' p a q b) scope run = then_keeps run (meaning a scope run) (λ r. meaning b scope r) (meaning_keeps a scope run) (λ r. meaning_keeps b scope r)
meaning_keeps (form.Parameter line name e) scope run = if_keeps run (has_value (slice_get run.values name)) _ _ (same_meetings run run refl) (otherwise_keeps scope line name e run)
meaning_keeps (form.Assign line name e) scope run = assignment_keeps scope line name e run
meaning_keeps (form.When' line chained condition p a q b) scope run =
    attempt_keeps scope line run (truth_of condition scope.rank scope.size run.values) (λ holds. chosen holds (meaning a scope run) (meaning b scope run))
    (λ holds. chosen_keeps run holds (meaning a scope run) (meaning b scope run) (meaning_keeps a scope run) (meaning_keeps b scope run))
meaning_keeps (form.Otherwise' p a) scope run = meaning_keeps a scope run
meaning_keeps (form.Repeat' line name first last step p body) scope run =
    attempt_keeps scope line run (span_of first last scope.rank scope.size run.values) (λ span. turns scope.most_turns (λ r. meaning body scope r) scope line name step run.turn span run)
    (λ span. turns_keep scope.most_turns (λ r. meaning body scope r) scope line name step run.turn span run (λ r. meaning_keeps body scope r))
meaning_keeps (form.Call line arguments) scope run =
    attempt_keeps scope line run (prepared arguments scope.rank scope.size run.values) (λ c. perform scope line c run) (λ c. perform_keeps scope line c run)
meaning_keeps (form.WaitAll line requests) scope run = wait_each_keeps requests scope line true run
meaning_keeps (form.Unreached line) scope run = tt

-- ---- all ranks

ended_keeps : (rank : ℕ) (all : List LeftOut) (run : TextRun) → Keeps run (ended rank all run)
ended_keeps rank [] run = same_meetings run run refl
ended_keeps rank (l ∷ others) run = tt

rank_keeps : (program : SpmdStatement) (settings : List (Option Value)) (scope : Scope) (run : TextRun) → Keeps run (rank_run program settings scope run)
rank_keeps program settings scope run =
    goes_on run (fresh settings run) (rank_run program settings scope run) (same_meetings run (fresh settings run) refl)
    (then_keeps (fresh settings run) (meaning program scope (fresh settings run)) (λ r. ended scope.rank r.left_out r) (meaning_keeps program scope (fresh settings run)) (λ r. ended_keeps scope.rank r.left_out r))

ranks_keep : (n : ℕ) (program : SpmdStatement) (settings : List (Option Value)) (rank size : ℕ) (barriers : Bool) (most_calls most_turns : ℕ) (run : TextRun)
    → Keeps run (ranks_from n program settings rank size barriers most_calls most_turns run)
ranks_keep zero program settings rank size barriers most_calls most_turns run = same_meetings run run refl
ranks_keep (suc n) program settings rank size barriers most_calls most_turns run =
    let scope : Scope = record { rank = rank; size = size; barriers = barriers; most_calls = most_calls; most_turns = most_turns } in
    then_keeps run (rank_run program settings scope run) (λ r. ranks_from n program settings (rank + 1) size barriers most_calls most_turns r)
    (rank_keeps program settings scope run) (λ r. ranks_keep n program settings (rank + 1) size barriers most_calls most_turns r)

pub numbers_stay : NumbersStay
numbers_stay = record {
  on_a_rank = λ program scope run after e. on_done (KeepsNumbers run) (meaning program scope run) after (meaning_keeps program scope run) e;
  on_all = λ n program settings rank size barriers most_calls most_turns run after e.
      on_done (KeepsNumbers run) (ranks_from n program settings rank size barriers most_calls most_turns run) after (ranks_keep n program settings rank size barriers most_calls most_turns run) e;
}

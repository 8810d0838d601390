-- A tree means what its plain form means.
use Rattle.std.proofs.Common.{◌≡◌, ℕ, zero, suc, ◌+◌, Bool, true, List, [], ◌∷◌, ◌++◌, Option, Some, None, Ok, if◌then◌else◌, slice_get, refl, ap, sym, ◌∙◌}
use Rattle.spmd_tree.specs.declared.tree.Operator.TheVariants.{Minus}
use Rattle.std.specs.Prelude.{pos}
use Rattle.spmd_tree.specs.declared.tree.Expression.{Expression}
use Rattle.spmd_tree.specs.declared.tree.Expression.TheVariants as form
use Rattle.spmd_tree.specs.declared.tree.LabelForm.{LabelForm}
use Rattle.spmd_tree.specs.declared.tree.GroupForm.{GroupForm}
use Rattle.spmd_tree.specs.declared.tree.Labels.{Labels}
use Rattle.spmd_tree.specs.declared.tree.Labels.TheVariants.{Last, More'}
use Rattle.spmd_tree.specs.declared.tree.Arguments.{Arguments}
use Rattle.spmd_tree.specs.declared.tree.Arguments.TheVariants as call
use Rattle.spmd_tree.specs.declared.tree.SpmdStatement.{SpmdStatement}
use Rattle.spmd_tree.specs.declared.tree.SpmdStatement.TheVariants as statement
use Rattle.unroll.specs.declared.value.Value.{Value}
use Rattle.unroll.specs.declared.value.FaultReason.TheVariants as reason
use Rattle.unroll.specs.declared.arguments.Prepared.TheVariants as given
use Rattle.unroll.specs.declared.machine.Scope.{Scope}
use Rattle.unroll.specs.Values.{below}
use Rattle.unroll.specs.Expressions.{both, choice, compared, either, expression_value, number_in, on_found, operated, opposed, truth_in}
use Rattle.unroll.specs.Arguments.{found, group_of, index_of, label_of, optional_label, optional_tag, peer_of, peered, prepared, root_of, scoped_communicator, scoped_message, scoped_pattern, scoped_rank, scoped_source, scoped_step, some, sourced, stepped, tag_of}
use Rattle.unroll.specs.Runs.{Done, Failed, Outcome, TextRun, assigned, attempt, perform, then_do, wait_part}
use Rattle.unroll.specs.Statements.{chosen, ended, first_after, fresh, has_value, meaning, otherwise_value, ranks_from, span_of, turns, wait_each}
use Rattle.spmd_tree.specs.Plain.{Place, in_a_row, plain, put_call, put_expression, put_group, put_label, put_labels, put_optional, put_request, statements}
use Rattle.unroll.specs.Meanings.{PlainFormsMeanTheSame}

-- ---- expressions

value_is : (n : Place) (e : Expression) → expression_value e ≡ expression_value (put_expression n e)
value_is n (form.Binary' o p a q b) = λ i rank size values. operated o (number_in (value_is n a i rank size values)) (number_in (value_is n b i rank size values))
value_is n (form.Compare' c p a q b) = λ i rank size values. compared c (value_is n a i rank size values) (value_is n b i rank size values)
value_is n (form.Negative' p a) = λ i rank size values. operated Minus (Ok (pos 0)) (number_in (value_is n a i rank size values))
value_is n (form.Grouped' p a) = value_is n a
value_is n (form.Negation' p a) = λ i rank size values. opposed (truth_in (value_is n a i rank size values))
value_is n (form.Both' p a q b) = λ i rank size values. both (truth_in (value_is n a i rank size values)) (value_is n b i rank size values)
value_is n (form.Either' p a q b) = λ i rank size values. either (truth_in (value_is n a i rank size values)) (value_is n b i rank size values)
value_is n (form.Choice' p c q a s b) =
    λ i rank size values. choice (truth_in (value_is n c i rank size values)) (value_is n a i rank size values) (value_is n b i rank size values)
value_is n e = refl

-- ---- parts of calls

tag_is : (n : Place) (e : Expression) → tag_of e ≡ tag_of (put_expression n e)
tag_is n e = λ i rank size values. on_found (number_in (value_is n e i rank size values)) (λ m. found (below m 32768) (reason.TagRange m))

optional_tag_is : (n : Place) (e : Option Expression) → optional_tag e ≡ optional_tag (put_optional n e)
optional_tag_is n None = refl
optional_tag_is n (Some e) = λ i rank size values. some (tag_is n e i rank size values)

communicator_is : (n : Place) (e : Option Expression) → scoped_communicator e ≡ scoped_communicator (put_optional n e)
communicator_is n None = refl
communicator_is n (Some e) = λ i rank size values. on_found (number_in (value_is n e i rank size values)) (λ m. found (below m 128) (reason.CommunicatorRange m))

peer_is : (n : Place) (e : Expression) → peer_of e ≡ peer_of (put_expression n e)
peer_is n e = λ i rank size values. on_found (value_is n e i rank size values) (λ v. peered v size)

source_is : (n : Place) (e : Option Expression) → scoped_source e ≡ scoped_source (put_optional n e)
source_is n None = refl
source_is n (Some e) = λ i rank size values. on_found (peer_is n e i rank size values) (λ p. Ok (sourced p))

index_is : (n : Place) (e : Option Expression) → index_of e ≡ index_of (put_optional n e)
index_is n None = refl
index_is n (Some e) = λ i rank size values. on_found (number_in (value_is n e i rank size values)) (λ m. some (found (below m 100000) (reason.IndexRange m)))

label_is : (n : Place) (f : LabelForm) → label_of f ≡ label_of (put_label n f)
label_is n f = λ i rank size values. on_found (index_is n f.index i rank size values) (λ k. Ok (record { name = f.name; index = k }))

request_is : (n : Place) (f : Option LabelForm) → optional_label f ≡ optional_label (put_request n f)
request_is n None = refl
request_is n (Some f) = λ i rank size values. on_found (label_is n f i rank size values) (λ l. Ok (Some l))

rank_is : (n : Place) (e : Expression) → scoped_rank e ≡ scoped_rank (put_expression n e)
rank_is n e = λ i rank size values. on_found (number_in (value_is n e i rank size values)) (λ m. found (below m size) (reason.PeerRange m))

root_is : (n : Place) (e : Option Expression) → root_of e ≡ root_of (put_optional n e)
root_is n None = refl
root_is n (Some e) = λ i rank size values. some (rank_is n e i rank size values)

step_is : (n : Place) (e : Option Expression) → scoped_step e ≡ scoped_step (put_optional n e)
step_is n None = refl
step_is n (Some e) = λ i rank size values. on_found (number_in (value_is n e i rank size values)) (λ m. stepped (below m 65536) m)

group_is : (n : Place) (g : Option GroupForm) → group_of g ≡ group_of (put_group n g)
group_is n None = refl
group_is n (Some g) =
    λ i rank size values. on_found (rank_is n g.first i rank size values)
    (λ a. on_found (rank_is n g.last i rank size values) (λ b. on_found (step_is n g.step i rank size values) (λ s. Ok (record { first = a; last = b; step = s }))))

pattern_is : (n : Place) (s t c : Option Expression) → scoped_pattern s t c ≡ scoped_pattern (put_optional n s) (put_optional n t) (put_optional n c)
pattern_is n s t c =
    λ i rank size values. on_found (source_is n s i rank size values)
    (λ x. on_found (optional_tag_is n t i rank size values) (λ y. on_found (communicator_is n c i rank size values) (λ z. Ok (record { source = x; tag = y; communicator = z }))))

message_is : (n : Place) (d t : Expression) → scoped_message d t ≡ scoped_message (put_expression n d) (put_expression n t)
message_is n d t = λ i rank size values. on_found (peer_is n d i rank size values) (λ x. on_found (tag_is n t i rank size values) (λ y. Ok (record { destination = x; tag = y })))

call_is : (n : Place) (c : Arguments) → prepared c ≡ prepared (put_call n c)
call_is n (call.Send mode f d t c) =
    λ i rank size values. on_found (request_is n f i rank size values)
    (λ r. on_found (message_is n d t i rank size values) (λ m. on_found (communicator_is n c i rank size values) (λ k. Ok (given.Send mode r m.destination m.tag k))))
call_is n (call.Receive f s t c) =
    λ i rank size values. on_found (request_is n f i rank size values) (λ r. on_found (pattern_is n s t c i rank size values) (λ p. Ok (given.Receive r p.source p.tag p.communicator)))
call_is n (call.MatchedProbe h s t c) =
    λ i rank size values. on_found (label_is n h i rank size values) (λ l. on_found (pattern_is n s t c i rank size values) (λ p. Ok (given.MatchedProbe l p.source p.tag p.communicator)))
call_is n (call.Probe s t c) = λ i rank size values. on_found (pattern_is n s t c i rank size values) (λ p. Ok (given.Probe p.source p.tag p.communicator))
call_is n (call.MatchedReceive f h) =
    λ i rank size values. on_found (request_is n f i rank size values) (λ r. on_found (label_is n h i rank size values) (λ l. Ok (given.MatchedReceive r l)))
call_is n (call.Wait f) = λ i rank size values. on_found (label_is n f i rank size values) (λ r. Ok (given.Wait r))
call_is n (call.SendReceive d t s u c) =
    λ i rank size values. on_found (message_is n d t i rank size values)
    (λ m. on_found (pattern_is n s u c i rank size values) (λ p. Ok (given.SendReceive m.destination m.tag p.source p.tag p.communicator)))
call_is n (call.Collective kind root g c) =
    λ i rank size values. on_found (root_is n root i rank size values)
    (λ r. on_found (group_is n g i rank size values) (λ h. on_found (communicator_is n c i rank size values) (λ k. Ok (given.Collective kind r h k))))

-- ---- statements

waits_are : (n : Place) (l : Labels) → wait_each l ≡ wait_each (put_labels n l)
waits_are n (Last f) = λ i scope line first run. attempt scope line run (label_is n f i scope.rank scope.size run.values) (λ l. wait_part scope line first l run)
waits_are n (More' f p others) =
    λ i scope line first run. then_do (attempt scope line run (label_is n f i scope.rank scope.size run.values) (λ l. wait_part scope line first l run))
    (λ r. waits_are n others i scope line (first_after first (label_is n f i scope.rank scope.size run.values) run) r)

otherwise_is : (n : Place) (e : Option Expression) (scope : Scope) (line name : ℕ) (run : TextRun) → otherwise_value scope line name e run ≡ otherwise_value scope line name (put_optional n e) run
otherwise_is n None scope line name run = refl
otherwise_is n (Some e) scope line name run = λ i. attempt scope line run (value_is n e i scope.rank scope.size run.values) (λ v. Done (assigned name v run))

span_is : (n : Place) (first last : Expression) → span_of first last ≡ span_of (put_expression n first) (put_expression n last)
span_is n first last =
    λ i rank size values. on_found (number_in (value_is n first i rank size values)) (λ a. on_found (number_in (value_is n last i rank size values)) (λ b. Ok (record { value = a; last = b })))

then_done : (o : Outcome) → o ≡ then_do o (λ r. Done r)
then_done (Done run) = refl
then_done (Failed fault run) = refl

then_then : (o : Outcome) (f g : TextRun → Outcome) → then_do (then_do o f) g ≡ then_do o (λ r. then_do (f r) g)
then_then (Done run) f g = refl
then_then (Failed fault run) f g = refl

alone : (n : Place) (s : SpmdStatement) → meaning s ≡ meaning (in_a_row n (s ∷ []))
alone n s = λ i scope run. then_done (meaning s scope run) i

row_is : (n : Place) (xs ys : List SpmdStatement) (scope : Scope) (run : TextRun)
    → then_do (meaning (in_a_row n xs) scope run) (λ r. meaning (in_a_row n ys) scope r) ≡ meaning (in_a_row n (xs ++ ys)) scope run
row_is n [] ys scope run = refl
row_is n (x ∷ xs) ys scope run =
    then_then (meaning x scope run) (λ r. meaning (in_a_row n xs) scope r) (λ r. meaning (in_a_row n ys) scope r)
    ∙ (λ i. then_do (meaning x scope run) (λ r. row_is n xs ys scope r i))

means : (n : Place) (s : SpmdStatement) → meaning s ≡ meaning (plain n s)
means n statement.Nothing = refl
means n (statement.Sequence' p a q b) =
    (λ i scope run. then_do (means n a i scope run) (λ r. means n b i scope r)) ∙ (λ i scope run. row_is n (statements n a) (statements n b) scope run i)
means n (statement.Parameter line name e) =
    (λ i scope run. if has_value (slice_get run.values name) then Done run else otherwise_is n e scope line name run i) ∙ alone n (statement.Parameter line name (put_optional n e))
means n (statement.Assign line name e) =
    (λ i scope run. attempt scope line run (value_is n e i scope.rank scope.size run.values) (λ v. Done (assigned name v run))) ∙ alone n (statement.Assign line name (put_expression n e))
means n (statement.When' line chained c p a q b) =
    (λ i scope run. attempt scope line run (truth_in (value_is n c i scope.rank scope.size run.values)) (λ holds. chosen holds (means n a i scope run) (means n b i scope run)))
    ∙ alone n (statement.When' line chained (put_expression n c) n (plain n a) n (plain n b))
means n (statement.Otherwise' p a) = means n a ∙ alone n (statement.Otherwise' n (plain n a))
means n (statement.Repeat' line name first last step p a) =
    (λ i scope run. attempt scope line run (span_is n first last i scope.rank scope.size run.values)
    (λ span. turns scope.most_turns (λ r. means n a i scope r) scope line name step run.turn span run))
    ∙ alone n (statement.Repeat' line name (put_expression n first) (put_expression n last) step n (plain n a))
means n (statement.Call line c) =
    (λ i scope run. attempt scope line run (call_is n c i scope.rank scope.size run.values) (λ x. perform scope line x run)) ∙ alone n (statement.Call line (put_call n c))
means n (statement.WaitAll line l) = (λ i scope run. waits_are n l i scope line true run) ∙ alone n (statement.WaitAll line (put_labels n l))
means n (statement.Unreached line) = alone n (statement.Unreached line)

-- ---- all ranks

ranks_are : (k : ℕ) (s u : SpmdStatement) → meaning s ≡ meaning u → (settings : List (Option Value)) (rank size : ℕ) (barriers : Bool) (most_calls most_turns : ℕ) (run : TextRun)
    → ranks_from k s settings rank size barriers most_calls most_turns run ≡ ranks_from k u settings rank size barriers most_calls most_turns run
ranks_are zero s u is settings rank size barriers most_calls most_turns run = refl
ranks_are (suc k) s u is settings rank size barriers most_calls most_turns run =
    λ i. then_do (then_do (is i (record { rank = rank; size = size; barriers = barriers; most_calls = most_calls; most_turns = most_turns }) (fresh settings run)) (λ r. ended rank r.left_out r))
    (λ r. ranks_are k s u is settings (rank + 1) size barriers most_calls most_turns r i)

pub plain_forms_mean_the_same : PlainFormsMeanTheSame
plain_forms_mean_the_same p s u is settings size barriers most_calls most_turns =
    ranks_are size s u (means p s ∙ (ap meaning is ∙ sym (means p u))) settings 0 size barriers most_calls most_turns _

-- The arguments of a call, evaluated from left to right: the first thing that is wrong is told.
use Rattle.std.specs.Prelude.{ℕ, ◌-◌, ℤ, nat_eq, List, Option, Some, None, Result, Ok, Err, if◌then◌else◌}
use Rattle.spmd_tree.specs.declared.tree.Expression.{Expression}
use Rattle.spmd_tree.specs.declared.tree.CollectiveKind.{CollectiveKind}
use Rattle.spmd_tree.specs.declared.tree.LabelForm.{LabelForm}
use Rattle.spmd_tree.specs.declared.tree.SendMode.{SendMode}
use Rattle.spmd_tree.specs.declared.tree.GroupForm.{GroupForm}
use Rattle.spmd_tree.specs.declared.tree.Arguments.{Arguments}
use Rattle.spmd_tree.specs.declared.tree.Arguments.TheVariants as form
use Rattle.unroll.specs.declared.value.Value.{Value}
use Rattle.unroll.specs.declared.value.Value.TheVariants.{Number, Null, Truth}
use Rattle.unroll.specs.declared.value.FaultReason.{FaultReason}
use Rattle.unroll.specs.declared.value.FaultReason.TheVariants as reason
use Rattle.unroll.specs.declared.call.Label.{Label}
use Rattle.unroll.specs.declared.call.Group.{Group}
use Rattle.unroll.specs.declared.arguments.Message.{Message}
use Rattle.unroll.specs.declared.arguments.Pattern.{Pattern}
use Rattle.unroll.specs.declared.arguments.Prepared.{Prepared}
use Rattle.unroll.specs.declared.arguments.Prepared.TheVariants as given
use Rattle.unroll.specs.Values.{below}
use Rattle.unroll.specs.Expressions.{number_in, on_found, expression_value}

-- what a part of a call is, on a rank of so many, where names have these values
abbrev pub Scoped : Type 0 → Type 0
Scoped A = ℕ → ℕ → List (Option Value) → Result A FaultReason

abbrev pub scoped_number : Expression → Scoped ℤ
scoped_number e rank size values = number_in (expression_value e rank size values)

abbrev pub found : Option ℕ → FaultReason → Result ℕ FaultReason
found (Some n) why = Ok n
found None why = Err why

-- a tag is 0 to 32,767
abbrev pub tag_of : Expression → Scoped ℕ
tag_of e rank size values = on_found (scoped_number e rank size values) (λ n. found (below n 32768) (reason.TagRange n))

abbrev pub some : Result ℕ FaultReason → Result (Option ℕ) FaultReason
some r = on_found r (λ n. Ok (Some n))

abbrev pub optional_tag : Option Expression → Scoped (Option ℕ)
optional_tag None rank size values = Ok None
optional_tag (Some e) rank size values = some (tag_of e rank size values)

-- a communicator is 0 to 127; it is 0 where none is written
abbrev pub scoped_communicator : Option Expression → Scoped ℕ
scoped_communicator None rank size values = Ok 0
scoped_communicator (Some e) rank size values = on_found (scoped_number e rank size values) (λ n. found (below n 128) (reason.CommunicatorRange n))

-- a peer is null, or a rank
abbrev pub peered : Value → ℕ → Result (Option ℕ) FaultReason
peered Null size = Ok None
peered (Number n) size = some (found (below n size) (reason.PeerRange n))
peered (Truth t) size = Err reason.Kind

abbrev pub peer_of : Expression → Scoped (Option ℕ)
peer_of e rank size values = on_found (expression_value e rank size values) (λ v. peered v size)

-- null, or a peer that is there
abbrev pub sourced : Option ℕ → Option (Option ℕ)
sourced None = None
sourced (Some n) = Some (Some n)

-- a source is any rank, null, or a rank
abbrev pub scoped_source : Option Expression → Scoped (Option (Option ℕ))
scoped_source None rank size values = Ok (Some None)
scoped_source (Some e) rank size values = on_found (peer_of e rank size values) (λ p. Ok (sourced p))

-- an index is 0 to 99,999
abbrev pub index_of : Option Expression → Scoped (Option ℕ)
index_of None rank size values = Ok None
index_of (Some e) rank size values = on_found (scoped_number e rank size values) (λ n. some (found (below n 100000) (reason.IndexRange n)))

abbrev pub label_of : LabelForm → Scoped Label
label_of f rank size values = on_found (index_of f.index rank size values) (λ i. Ok (record { name = f.name; index = i }))

abbrev pub optional_label : Option LabelForm → Scoped (Option Label)
optional_label None rank size values = Ok None
optional_label (Some f) rank size values = on_found (label_of f rank size values) (λ l. Ok (Some l))

-- ---- collective calls

-- the root, and the first and the last of a group, are ranks
abbrev pub scoped_rank : Expression → Scoped ℕ
scoped_rank e rank size values = on_found (scoped_number e rank size values) (λ n. found (below n size) (reason.PeerRange n))

abbrev pub root_of : Option Expression → Scoped (Option ℕ)
root_of None rank size values = Ok None
root_of (Some e) rank size values = some (scoped_rank e rank size values)

abbrev pub stepped : Option ℕ → ℤ → Result ℕ FaultReason
stepped None n = Err (reason.GroupStep n)
stepped (Some k) n = if nat_eq k 0 then Err (reason.GroupStep n) else Ok k

-- a step is 1 to 65,535; it is 1 where none is written
abbrev pub scoped_step : Option Expression → Scoped ℕ
scoped_step None rank size values = Ok 1
scoped_step (Some e) rank size values = on_found (scoped_number e rank size values) (λ n. stepped (below n 65536) n)

-- all ranks, where no group is written
abbrev pub group_of : Option GroupForm → Scoped Group
group_of None rank size values = Ok (record { first = 0; last = size - 1; step = 1 })
group_of (Some f) rank size values =
    on_found (scoped_rank f.first rank size values) (λ a. on_found (scoped_rank f.last rank size values) (λ b. on_found (scoped_step f.step rank size values) (λ s. Ok (record { first = a; last = b; step = s }))))

-- ---- calls

-- a source, a tag and a communicator
abbrev pub scoped_pattern : Option Expression → Option Expression → Option Expression → Scoped Pattern
scoped_pattern source tag communicator rank size values =
    on_found (scoped_source source rank size values) (λ s. on_found (optional_tag tag rank size values) (λ t. on_found (scoped_communicator communicator rank size values) (λ c. Ok (record { source = s; tag = t; communicator = c }))))

-- a destination and a tag
abbrev pub scoped_message : Expression → Expression → Scoped Message
scoped_message destination tag rank size values =
    on_found (peer_of destination rank size values) (λ d. on_found (tag_of tag rank size values) (λ t. Ok (record { destination = d; tag = t })))

abbrev pub sent : SendMode → Option LabelForm → Expression → Expression → Option Expression → Scoped Prepared
sent mode request destination tag communicator rank size values =
    on_found (optional_label request rank size values) (λ r. on_found (scoped_message destination tag rank size values) (λ m. on_found (scoped_communicator communicator rank size values) (λ c. Ok (given.Send mode r m.destination m.tag c))))

abbrev pub received : Option LabelForm → Option Expression → Option Expression → Option Expression → Scoped Prepared
received request source tag communicator rank size values =
    on_found (optional_label request rank size values) (λ r. on_found (scoped_pattern source tag communicator rank size values) (λ p. Ok (given.Receive r p.source p.tag p.communicator)))

abbrev pub matched : LabelForm → Option Expression → Option Expression → Option Expression → Scoped Prepared
matched handle source tag communicator rank size values =
    on_found (label_of handle rank size values) (λ h. on_found (scoped_pattern source tag communicator rank size values) (λ p. Ok (given.MatchedProbe h p.source p.tag p.communicator)))

abbrev pub probed : Option Expression → Option Expression → Option Expression → Scoped Prepared
probed source tag communicator rank size values = on_found (scoped_pattern source tag communicator rank size values) (λ p. Ok (given.Probe p.source p.tag p.communicator))

abbrev pub matched_received : Option LabelForm → LabelForm → Scoped Prepared
matched_received request handle rank size values =
    on_found (optional_label request rank size values) (λ r. on_found (label_of handle rank size values) (λ h. Ok (given.MatchedReceive r h)))

abbrev pub waited : LabelForm → Scoped Prepared
waited request rank size values = on_found (label_of request rank size values) (λ r. Ok (given.Wait r))

abbrev pub exchanged : Expression → Expression → Option Expression → Option Expression → Option Expression → Scoped Prepared
exchanged destination send_tag source receive_tag communicator rank size values =
    on_found (scoped_message destination send_tag rank size values) (λ m. on_found (scoped_pattern source receive_tag communicator rank size values) (λ p. Ok (given.SendReceive m.destination m.tag p.source p.tag p.communicator)))

abbrev pub collected : CollectiveKind → Option Expression → Option GroupForm → Option Expression → Scoped Prepared
collected kind root group communicator rank size values =
    on_found (root_of root rank size values) (λ r. on_found (group_of group rank size values) (λ g. on_found (scoped_communicator communicator rank size values) (λ c. Ok (given.Collective kind r g c))))

abbrev pub prepared : Arguments → Scoped Prepared
prepared (form.Send mode request destination tag communicator) rank size values = sent mode request destination tag communicator rank size values
prepared (form.Receive request source tag communicator) rank size values = received request source tag communicator rank size values
prepared (form.MatchedProbe handle source tag communicator) rank size values = matched handle source tag communicator rank size values
prepared (form.Probe source tag communicator) rank size values = probed source tag communicator rank size values
prepared (form.MatchedReceive request handle) rank size values = matched_received request handle rank size values
prepared (form.Wait request) rank size values = waited request rank size values
prepared (form.SendReceive destination send_tag source receive_tag communicator) rank size values = exchanged destination send_tag source receive_tag communicator rank size values
prepared (form.Collective kind root group communicator) rank size values = collected kind root group communicator rank size values

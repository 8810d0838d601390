-- Small programs and their formulas.
use Rattle.std.specs.Prelude.{ℕ, Bool, true, false, if◌then◌else◌, List, [], ◌∷◌, map, length, Option, Some, None, ℤ, pos, neg_ℤ}
use Rattle.calltext.specs.declared.call.Mode.{Mode}
use Rattle.calltext.specs.declared.call.Mode.TheVariants.{Standard, Synchronous, Buffered}
use Rattle.calltext.specs.declared.call.Policy.{Policy}
use Rattle.calltext.specs.declared.call.Policy.TheVariants.{Any, Never, Always}
use Rattle.callorder.specs.declared.calls.Call.{Call}
use Rattle.callorder.specs.declared.calls.Kind.{Kind}
use Rattle.callorder.specs.declared.calls.Kind.TheVariants.{Send, Receive, MatchedProbe, Probe, MatchedReceive, Wait}
use Rattle.callorder.specs.Programs.{MpiProgram}
use Rattle.clauses.specs.Clauses.{Literal}
use Rattle.formula.specs.Families.{families}
use Rattle.formula.specs.Numbering.{numbered}

-- ---- programs

-- a send of this mode, blocking or not, to a rank with a tag
abbrev pub send_to : Mode → Bool → ℕ → ℕ → Kind ℕ
send_to mode blocking destination tag =
    Send mode blocking (record { destination = destination; tag = tag; communicator = 0 })

-- a blocking receive from a rank, with a tag or with any tag
abbrev pub receive_from : ℕ → Option ℕ → Kind ℕ
receive_from source tag = Receive true (record { source = Some source; tag = tag; communicator = 0 })

-- a call by its parts
abbrev pub example_call : ℕ → Kind ℕ → Call
example_call rank kind = record { rank = rank; kind = kind }

-- one rank without a call
abbrev pub no_calls : MpiProgram
no_calls = record { policy = Any; ranks = 1; calls = [] }

-- one rank that receives from itself
abbrev pub one_receive : MpiProgram
one_receive = record { policy = Any; ranks = 1; calls = example_call 0 (receive_from 0 (Some 1)) ∷ [] }

-- two ranks, a send to the other one and a receive in another communicator
abbrev pub other_communicator : MpiProgram
other_communicator =
    record {
      policy = Always;
      ranks = 2;
      calls =
          example_call 0 (Send Standard true (record { destination = 1; tag = 1; communicator = 0 })) ∷
          example_call 1 (Receive true (record { source = Some 0; tag = Some 1; communicator = 1 })) ∷ [];
    }

-- one rank that sends to itself in buffered mode
abbrev pub one_buffered_send : MpiProgram
one_buffered_send = record { policy = Any; ranks = 1; calls = example_call 0 (send_to Buffered true 0 1) ∷ [] }

-- one rank that sends to itself and then receives
abbrev pub send_to_itself : Policy → MpiProgram
send_to_itself policy =
    record { policy = policy; ranks = 1; calls = example_call 0 (send_to Standard true 0 1) ∷ example_call 0 (receive_from 0 (Some 1)) ∷ [] }

-- two ranks, each of which sends to the other one and then receives
abbrev pub head_to_head : Policy → MpiProgram
head_to_head policy =
    record {
      policy = policy;
      ranks = 2;
      calls =
          example_call 0 (send_to Standard true 1 1) ∷ example_call 0 (receive_from 1 (Some 1)) ∷
          example_call 1 (send_to Standard true 0 1) ∷ example_call 1 (receive_from 0 (Some 1)) ∷ [];
    }

-- the same with nonblocking sends, which are waited for after the receives
abbrev pub nonblocking_exchange : MpiProgram
nonblocking_exchange =
    record {
      policy = Any;
      ranks = 2;
      calls =
          example_call 0 (send_to Standard false 1 1) ∷ example_call 0 (receive_from 1 (Some 1)) ∷ example_call 0 (Wait 0) ∷
          example_call 1 (send_to Standard false 0 1) ∷ example_call 1 (receive_from 0 (Some 1)) ∷ example_call 1 (Wait 3) ∷ [];
    }

-- two sends with two tags, and a receive with any tag before a receive with the second tag
abbrev pub any_tag_first : MpiProgram
any_tag_first =
    record {
      policy = Any;
      ranks = 2;
      calls =
          example_call 0 (send_to Standard true 1 1) ∷ example_call 0 (send_to Standard true 1 2) ∷
          example_call 1 (receive_from 0 None) ∷ example_call 1 (receive_from 0 (Some 2)) ∷ [];
    }

-- three ranks: nonblocking sends and waits; a matched probe for any source, a receive for any
-- source and tag; a send
abbrev pub probe_and_wildcards : MpiProgram
probe_and_wildcards =
    record {
      policy = Never;
      ranks = 3;
      calls =
          example_call 0 (send_to Standard false 1 1) ∷ example_call 0 (send_to Synchronous false 1 1) ∷ example_call 0 (Wait 0) ∷ example_call 0 (Wait 1) ∷
          example_call 1 (MatchedProbe (record { source = None; tag = Some 1; communicator = 0 }) 6) ∷
          example_call 1 (Receive false (record { source = None; tag = None; communicator = 0 })) ∷ example_call 1 (MatchedReceive true) ∷ example_call 1 (Wait 5) ∷
          example_call 2 (send_to Standard true 1 1) ∷ [];
    }

-- ---- clauses as they are written

-- the number of a literal, negative where the literal is
abbrev pub signed_number : Literal → ℤ
signed_number l = if l.positive then pos l.variable else neg_ℤ (pos l.variable)

-- the clauses by the numbers of their literals
abbrev pub signed_clauses : List (List Literal) → List (List ℤ)
signed_clauses clauses = map (map signed_number) clauses

-- the number of a literal that is positive
abbrev pub plus : ℕ → ℤ
plus n = pos n

-- the number of a literal that is negative
abbrev pub minus : ℕ → ℤ
minus n = neg_ℤ (pos n)

-- how many clauses each family has in the formula
abbrev pub sizes : MpiProgram → List ℕ
sizes p = map (λ clauses. length (numbered p clauses)) (families p)

-- ---- what the formulas are

-- no rank is unfinished: the empty clause
abbrev pub clauses_of_no_calls : List (List ℤ)
clauses_of_no_calls = [] ∷ []

-- the receive is issued, and its rank is unfinished
abbrev pub clauses_of_one_receive : List (List ℤ)
clauses_of_one_receive = (plus 1 ∷ []) ∷ (plus 2 ∷ []) ∷ []

-- The calls are issued; the rank of the send is finished then, and so the other one is unfinished.
abbrev pub clauses_of_other_communicator : List (List ℤ)
clauses_of_other_communicator =
    (plus 1 ∷ []) ∷
    (plus 2 ∷ []) ∷
    (minus 1 ∷ minus 3 ∷ minus 4 ∷ []) ∷
    (plus 4 ∷ plus 5 ∷ []) ∷
    (plus 3 ∷ []) ∷
    []

-- the send is issued, its rank is finished then, and it is unfinished
abbrev pub clauses_of_one_buffered_send : List (List ℤ)
clauses_of_one_buffered_send = (plus 1 ∷ []) ∷ (minus 1 ∷ minus 2 ∷ []) ∷ (plus 2 ∷ []) ∷ []

-- Variables 1 and 2: the calls are issued; 3: the send is buffered; 4: the calls are matched; 5:
-- the rank is unfinished; 6 to 11: the clocks of the two issues and the match; 12, 14 and 16: their
-- order, and 13, 15 and 17: whether their first bits are the same.
abbrev pub clauses_of_send_to_itself : List (List ℤ)
clauses_of_send_to_itself =
    (plus 1 ∷ minus 2 ∷ []) ∷
    (plus 12 ∷ []) ∷
    (minus 2 ∷ plus 3 ∷ plus 4 ∷ []) ∷
    (minus 2 ∷ plus 3 ∷ minus 4 ∷ minus 16 ∷ []) ∷
    (plus 1 ∷ minus 4 ∷ []) ∷
    (plus 2 ∷ minus 4 ∷ []) ∷
    (minus 4 ∷ plus 14 ∷ []) ∷
    (minus 4 ∷ plus 16 ∷ []) ∷
    (minus 1 ∷ minus 2 ∷ plus 4 ∷ []) ∷
    (plus 1 ∷ []) ∷
    (minus 1 ∷ plus 2 ∷ minus 3 ∷ []) ∷
    (minus 1 ∷ plus 2 ∷ minus 4 ∷ []) ∷
    (minus 2 ∷ minus 4 ∷ minus 5 ∷ []) ∷
    (plus 5 ∷ []) ∷
    (minus 6 ∷ plus 8 ∷ minus 13 ∷ []) ∷
    (plus 6 ∷ minus 8 ∷ minus 13 ∷ []) ∷
    (minus 6 ∷ minus 12 ∷ plus 13 ∷ []) ∷
    (plus 8 ∷ minus 12 ∷ plus 13 ∷ []) ∷
    (plus 6 ∷ plus 12 ∷ plus 13 ∷ []) ∷
    (minus 8 ∷ plus 12 ∷ plus 13 ∷ []) ∷
    (minus 7 ∷ minus 12 ∷ minus 13 ∷ []) ∷
    (plus 9 ∷ minus 12 ∷ minus 13 ∷ []) ∷
    (plus 7 ∷ plus 12 ∷ minus 13 ∷ []) ∷
    (minus 9 ∷ plus 12 ∷ minus 13 ∷ []) ∷
    (minus 6 ∷ plus 10 ∷ minus 15 ∷ []) ∷
    (plus 6 ∷ minus 10 ∷ minus 15 ∷ []) ∷
    (minus 6 ∷ minus 14 ∷ plus 15 ∷ []) ∷
    (plus 10 ∷ minus 14 ∷ plus 15 ∷ []) ∷
    (plus 6 ∷ plus 14 ∷ plus 15 ∷ []) ∷
    (minus 10 ∷ plus 14 ∷ plus 15 ∷ []) ∷
    (minus 7 ∷ minus 14 ∷ minus 15 ∷ []) ∷
    (plus 11 ∷ minus 14 ∷ minus 15 ∷ []) ∷
    (plus 7 ∷ plus 14 ∷ minus 15 ∷ []) ∷
    (minus 11 ∷ plus 14 ∷ minus 15 ∷ []) ∷
    (minus 8 ∷ plus 10 ∷ minus 17 ∷ []) ∷
    (plus 8 ∷ minus 10 ∷ minus 17 ∷ []) ∷
    (minus 8 ∷ minus 16 ∷ plus 17 ∷ []) ∷
    (plus 10 ∷ minus 16 ∷ plus 17 ∷ []) ∷
    (plus 8 ∷ plus 16 ∷ plus 17 ∷ []) ∷
    (minus 10 ∷ plus 16 ∷ plus 17 ∷ []) ∷
    (minus 9 ∷ minus 16 ∷ minus 17 ∷ []) ∷
    (plus 11 ∷ minus 16 ∷ minus 17 ∷ []) ∷
    (plus 9 ∷ plus 16 ∷ minus 17 ∷ []) ∷
    (minus 11 ∷ plus 16 ∷ minus 17 ∷ []) ∷
    []

-- The rank that waits in its send, which isn't buffered: it is unfinished, the send is issued, and
-- the events come in the order of their numbers.
abbrev pub waiting_in_send : List Bool
waiting_in_send =
    true ∷ false ∷ false ∷ false ∷ true ∷ false ∷ false ∷ false ∷ true ∷ true ∷ false ∷ true ∷ true ∷ true ∷ false ∷ true ∷ false ∷ []

-- the clauses of all families but the last
abbrev pub clauses_of_probe_and_wildcards : List (List ℤ)
clauses_of_probe_and_wildcards =
    (plus 1 ∷ minus 2 ∷ []) ∷
    (plus 65 ∷ []) ∷
    (plus 2 ∷ minus 3 ∷ []) ∷
    (plus 77 ∷ []) ∷
    (plus 3 ∷ minus 4 ∷ []) ∷
    (plus 89 ∷ []) ∷
    (plus 5 ∷ minus 6 ∷ []) ∷
    (plus 101 ∷ []) ∷
    (plus 6 ∷ minus 7 ∷ []) ∷
    (plus 109 ∷ []) ∷
    (plus 7 ∷ minus 8 ∷ []) ∷
    (plus 121 ∷ []) ∷
    (minus 4 ∷ plus 10 ∷ plus 12 ∷ plus 13 ∷ []) ∷
    (minus 4 ∷ plus 10 ∷ minus 12 ∷ minus 93 ∷ []) ∷
    (minus 4 ∷ plus 7 ∷ plus 10 ∷ minus 12 ∷ []) ∷
    (minus 4 ∷ plus 10 ∷ minus 13 ∷ minus 97 ∷ []) ∷
    (minus 6 ∷ plus 12 ∷ plus 14 ∷ plus 16 ∷ []) ∷
    (minus 6 ∷ minus 113 ∷ []) ∷
    (plus 1 ∷ minus 12 ∷ []) ∷
    (plus 5 ∷ minus 12 ∷ []) ∷
    (minus 12 ∷ plus 69 ∷ []) ∷
    (minus 12 ∷ plus 105 ∷ []) ∷
    (plus 1 ∷ minus 13 ∷ []) ∷
    (plus 6 ∷ minus 13 ∷ []) ∷
    (minus 13 ∷ plus 73 ∷ []) ∷
    (minus 13 ∷ plus 117 ∷ []) ∷
    (plus 2 ∷ minus 14 ∷ []) ∷
    (plus 5 ∷ minus 14 ∷ []) ∷
    (minus 14 ∷ plus 81 ∷ []) ∷
    (minus 14 ∷ plus 105 ∷ []) ∷
    (plus 2 ∷ minus 15 ∷ []) ∷
    (plus 6 ∷ minus 15 ∷ []) ∷
    (minus 15 ∷ plus 85 ∷ []) ∷
    (minus 15 ∷ plus 117 ∷ []) ∷
    (plus 9 ∷ minus 16 ∷ []) ∷
    (plus 5 ∷ minus 16 ∷ []) ∷
    (minus 16 ∷ plus 125 ∷ []) ∷
    (minus 16 ∷ plus 105 ∷ []) ∷
    (plus 9 ∷ minus 17 ∷ []) ∷
    (plus 6 ∷ minus 17 ∷ []) ∷
    (minus 17 ∷ plus 129 ∷ []) ∷
    (minus 17 ∷ plus 117 ∷ []) ∷
    (minus 12 ∷ minus 13 ∷ []) ∷
    (minus 12 ∷ minus 14 ∷ []) ∷
    (minus 12 ∷ minus 16 ∷ []) ∷
    (minus 13 ∷ minus 15 ∷ []) ∷
    (minus 13 ∷ minus 17 ∷ []) ∷
    (minus 14 ∷ minus 15 ∷ []) ∷
    (minus 14 ∷ minus 16 ∷ []) ∷
    (minus 15 ∷ minus 17 ∷ []) ∷
    (minus 16 ∷ minus 17 ∷ []) ∷
    (plus 13 ∷ minus 14 ∷ []) ∷
    (minus 13 ∷ minus 14 ∷ minus 133 ∷ []) ∷
    (plus 12 ∷ minus 15 ∷ []) ∷
    (minus 12 ∷ minus 15 ∷ plus 133 ∷ []) ∷
    (minus 13 ∷ plus 14 ∷ plus 16 ∷ []) ∷
    (minus 13 ∷ plus 133 ∷ []) ∷
    (plus 12 ∷ minus 15 ∷ plus 16 ∷ []) ∷
    (minus 15 ∷ plus 133 ∷ []) ∷
    (plus 12 ∷ plus 14 ∷ minus 17 ∷ []) ∷
    (minus 17 ∷ plus 133 ∷ []) ∷
    (minus 1 ∷ minus 5 ∷ plus 12 ∷ plus 13 ∷ plus 14 ∷ plus 16 ∷ []) ∷
    (minus 1 ∷ minus 6 ∷ plus 12 ∷ plus 13 ∷ plus 15 ∷ plus 17 ∷ []) ∷
    (minus 2 ∷ minus 5 ∷ plus 12 ∷ plus 14 ∷ plus 15 ∷ plus 16 ∷ []) ∷
    (minus 2 ∷ minus 6 ∷ plus 13 ∷ plus 14 ∷ plus 15 ∷ plus 17 ∷ []) ∷
    (minus 5 ∷ minus 9 ∷ plus 12 ∷ plus 14 ∷ plus 16 ∷ plus 17 ∷ []) ∷
    (minus 6 ∷ minus 9 ∷ plus 13 ∷ plus 15 ∷ plus 16 ∷ plus 17 ∷ []) ∷
    (plus 1 ∷ []) ∷
    (minus 1 ∷ plus 2 ∷ []) ∷
    (minus 2 ∷ plus 3 ∷ []) ∷
    (minus 3 ∷ plus 4 ∷ minus 10 ∷ []) ∷
    (minus 3 ∷ plus 4 ∷ minus 7 ∷ minus 12 ∷ []) ∷
    (minus 3 ∷ plus 4 ∷ minus 13 ∷ []) ∷
    (plus 5 ∷ []) ∷
    (minus 5 ∷ plus 6 ∷ minus 12 ∷ []) ∷
    (minus 5 ∷ plus 6 ∷ minus 14 ∷ []) ∷
    (minus 5 ∷ plus 6 ∷ minus 16 ∷ []) ∷
    (minus 6 ∷ plus 7 ∷ []) ∷
    (minus 7 ∷ plus 8 ∷ []) ∷
    (plus 9 ∷ []) ∷
    (minus 4 ∷ minus 7 ∷ minus 14 ∷ minus 18 ∷ []) ∷
    (minus 4 ∷ minus 15 ∷ minus 18 ∷ []) ∷
    (minus 8 ∷ minus 13 ∷ minus 19 ∷ []) ∷
    (minus 8 ∷ minus 15 ∷ minus 19 ∷ []) ∷
    (minus 8 ∷ minus 17 ∷ minus 19 ∷ []) ∷
    (minus 9 ∷ minus 11 ∷ minus 20 ∷ []) ∷
    (minus 7 ∷ minus 9 ∷ minus 16 ∷ minus 20 ∷ []) ∷
    (minus 9 ∷ minus 17 ∷ minus 20 ∷ []) ∷
    (plus 18 ∷ plus 19 ∷ plus 20 ∷ []) ∷
    []

-- of three ranks with a matched probe and wildcards
abbrev pub sizes_of_probe_and_wildcards : List ℕ
sizes_of_probe_and_wildcards = 12 ∷ 6 ∷ 24 ∷ 9 ∷ 4 ∷ 6 ∷ 6 ∷ 13 ∷ 9 ∷ 2 ∷ 0 ∷ []

-- of two ranks that send to each other first
abbrev pub sizes_of_head_to_head : List ℕ
sizes_of_head_to_head = 4 ∷ 4 ∷ 8 ∷ 0 ∷ 0 ∷ 0 ∷ 2 ∷ 6 ∷ 3 ∷ 0 ∷ 0 ∷ []

-- of the same where each standard send is buffered
abbrev pub sizes_of_buffered_head_to_head : List ℕ
sizes_of_buffered_head_to_head = 4 ∷ 4 ∷ 8 ∷ 0 ∷ 0 ∷ 0 ∷ 2 ∷ 6 ∷ 3 ∷ 2 ∷ 0 ∷ []

-- of two ranks that exchange messages by nonblocking sends
abbrev pub sizes_of_nonblocking_exchange : List ℕ
sizes_of_nonblocking_exchange = 8 ∷ 4 ∷ 8 ∷ 0 ∷ 0 ∷ 0 ∷ 2 ∷ 6 ∷ 5 ∷ 0 ∷ 0 ∷ []

-- of two sends, and two receives of which the first takes any tag
abbrev pub sizes_of_any_tag_first : List ℕ
sizes_of_any_tag_first = 4 ∷ 4 ∷ 12 ∷ 2 ∷ 1 ∷ 2 ∷ 3 ∷ 6 ∷ 5 ∷ 0 ∷ 0 ∷ []

-- ---- clocks

-- some numbers of events, on both sides of powers of two
abbrev pub event_counts : List ℕ
event_counts = 0 ∷ 1 ∷ 2 ∷ 3 ∷ 4 ∷ 5 ∷ 8 ∷ 9 ∷ 128 ∷ 129 ∷ 1024 ∷ []

-- how many bits their clocks have
abbrev pub sizes_of_event_counts : List ℕ
sizes_of_event_counts = 0 ∷ 0 ∷ 1 ∷ 2 ∷ 2 ∷ 3 ∷ 3 ∷ 4 ∷ 7 ∷ 8 ∷ 10 ∷ []

-- two ranks: a send that isn't buffered; a probe for its message, and its receive
abbrev pub probe_and_receive : MpiProgram
probe_and_receive =
    record {
      policy = Never;
      ranks = 2;
      calls =
          example_call 0 (send_to Standard true 1 1) ∷
          example_call 1 (Probe (record { source = Some 0; tag = Some 1; communicator = 0 })) ∷
          example_call 1 (receive_from 0 (Some 1)) ∷ [];
    }

-- how many clauses each family of that program has
abbrev pub sizes_of_probe_and_receive : List ℕ
sizes_of_probe_and_receive = 2 ∷ 2 ∷ 4 ∷ 0 ∷ 0 ∷ 0 ∷ 1 ∷ 3 ∷ 4 ∷ 1 ∷ 6 ∷ []

-- The tables by which variables are numbered, with the numbers that tell events, facts and pairs of
-- events apart, and the lists of calls from which a program's clauses are made.
use Rattle.std.specs.Prelude.{◌≡◌, ℕ, ◌≤◌, List, length, map, ◌+◌, ◌*◌, ◌&&◌, nat_lt, if◌then◌else◌, ◌++◌, filter}
use Rattle.callorder.specs.Programs.{MpiProgram}
use Rattle.formula.specs.Families.{events, finds_message, sends_of}
use Rattle.formula.specs.Orders.{clock_size, used_pairs}
use Rattle.formula.specs.Numbering.{facts}
use Rattle.std.specs.List.{range_with_len}
use Rattle.candidates.specs.Pairs.{places, takers_of, pairs_of}
use Rattle.formula.specs.declared.facts.RunEvent.{RunEvent}
use Rattle.formula.specs.declared.facts.RunEvent.TheVariants.{Issue as issue_of, Match as match_of}
use Rattle.formula.specs.declared.facts.Fact.{Fact}
use Rattle.formula.specs.declared.facts.Fact.TheVariants.{Issued as issued, Buffered as buffered, Matched as matched, Unfinished as unfinished}
use Rattle.nonovertake.specs.Earlier.{EarlierCalls, earlier_of}

-- the number of an event among those of so many calls; twice as many where it isn't one of them
abbrev pub event_slot : ℕ → RunEvent → ℕ
event_slot calls (issue_of c) = if nat_lt c calls then c else calls + calls
event_slot calls (match_of t) = if nat_lt t calls then calls + t else calls + calls

-- the numbers of a program's events
abbrev pub event_slots : MpiProgram → List ℕ
event_slots p = range_with_len 0 (length p.calls) ++ map (λ t. length p.calls + t) (filter (finds_message p) (places p))

-- the number of a pair of two of so many places; past all such pairs where one isn't among them
abbrev pub pair_slot : ℕ → ℕ → ℕ → ℕ
pair_slot most a b = if nat_lt a most && nat_lt b most then a * most + b else most * most

-- The number of a fact of a program with so many calls: the issues, the buffered sends, 64 ranks,
-- the pairs, and past all of them where it isn't one of them.
abbrev pub fact_slot : ℕ → Fact → ℕ
fact_slot calls (issued c) = if nat_lt c calls then c else calls + calls + 64 + calls * calls
fact_slot calls (buffered c) = if nat_lt c calls then calls + c else calls + calls + 64 + calls * calls
fact_slot calls (unfinished r) = if nat_lt r 64 then calls + calls + r else calls + calls + 64 + calls * calls
fact_slot calls (matched s t) = calls + calls + 64 + pair_slot calls s t

-- all numbers fit
pub record IsSmall (p : MpiProgram) : Type 0 where
  pub calls : length p.calls ≤ 1024
  pub events : length (events p) ≤ 1024
  pub bits : clock_size p ≤ 10
  pub facts : length (facts p) ≤ 1051712
  pub used : length (used_pairs p) ≤ 1048576

-- the events are those of the program; facts and used pairs are told apart by their numbers; and
-- clocks have so many bits
pub record AreVariableTables (p q : MpiProgram) (fact_slots used_slots : List ℕ) (size : ℕ) : Type 0 where
  pub small : IsSmall p
  pub events_are : q ≡ p
  pub facts_are : fact_slots ≡ map (fact_slot (length p.calls)) (facts p)
  pub used_are : used_slots ≡ map (λ pair. pair_slot (length (events p)) pair.0 pair.1) (used_pairs p)
  pub size_is : size ≡ clock_size p

-- The pairs are those of the program, with what is earlier than each; and for each call the rows
-- have the takers that it fits, and the sends that fit it.
pub record AreCalls (p : MpiProgram) (pairs : List (ℕ × ℕ)) (earlier : List EarlierCalls) (takers sends : List (List ℕ)) : Type 0 where
  pub pairs_are : pairs ≡ pairs_of p
  pub earlier_are : earlier ≡ map (earlier_of p) (pairs_of p)
  pub takers_are : takers ≡ map (takers_of p) (places p)
  pub sends_are : sends ≡ map (sends_of p) (places p)

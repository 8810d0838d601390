-- The schedule of a world: the steps of the events that happen in it, by their clocks.
use Rattle.std.specs.Prelude.{ℕ, Bool, ◌&&◌, nat_lt, if◌then◌else◌, List, [], ◌∷◌, map, filter, get_or}
use Rattle.std.specs.List.{list_any}
use Rattle.callorder.specs.Programs.{MpiProgram, is_probe}
use Rattle.semantics.specs.declared.state.Step.{Step}
use Rattle.semantics.specs.declared.state.Step.TheVariants.{Issue}
use Rattle.run_laws.specs.Places.{find_step}
use Rattle.clauses.specs.Clauses.{TruthAssignment}
use Rattle.formula.specs.declared.facts.RunEvent.{RunEvent}
use Rattle.formula.specs.declared.facts.RunEvent.TheVariants.{Issue as issue_of, Match as match_of}
use Rattle.formula.specs.declared.facts.Fact.TheVariants.{Issued as issued, Buffered as buffered, Matched as matched}
use Rattle.formula.specs.declared.facts.Meaning.TheVariants.{OfFact as fact}
use Rattle.formula.specs.Families.{events, place_of_event, rank_of, is_standard, sends_of}
use Rattle.formula.specs.Numbering.{variable_of}
use Rattle.formula.specs.Laws.{clock_in}
use Rattle.formula_from_run.specs.Worlds.{World}

-- ---- the steps that events are

-- the event happens in the world: the call is issued, or the taker is matched with some send that
-- fits it
abbrev pub happens : MpiProgram → World → RunEvent → Bool
happens p world (issue_of c) = world.has (issued c)
happens p world (match_of t) = list_any (λ s. world.has (matched s t)) (sends_of p t)

-- the first send with which the taker is matched in the world
abbrev pub sender_of : MpiProgram → World → ℕ → ℕ
sender_of p world t = get_or (filter (λ s. world.has (matched s t)) (sends_of p t)) 0 0

-- the step that an event is: a send in standard mode is buffered where the world says so, no other
-- call is
abbrev pub step_of : MpiProgram → World → RunEvent → Step
step_of p world (issue_of c) = Issue (rank_of p c) (is_standard p c && world.has (buffered c))
step_of p world (match_of t) = find_step (is_probe p t) (sender_of p world t) t

-- ---- their order

-- puts an item before the first one that doesn't have a smaller key
abbrev pub insert_by : {X : Type 0} → (X → ℕ) → X → List X → List X
insert_by key x [] = x ∷ []
insert_by key x (y ∷ ys) = if nat_lt (key y) (key x) then y ∷ insert_by key x ys else x ∷ y ∷ ys

-- the items by their keys, and those of one key in the order in which they stand
abbrev pub sorted_by : {X : Type 0} → (X → ℕ) → List X → List X
sorted_by key [] = []
sorted_by key (x ∷ xs) = insert_by key x (sorted_by key xs)

-- the schedule of a world: the steps of the events that happen, by clock, and events of one clock
-- in the order of their list
abbrev pub schedule_of : MpiProgram → World → List Step
schedule_of p world = map (step_of p world) (sorted_by world.clock (filter (happens p world) (events p)))

-- ---- the world of an assignment

-- the world that an assignment tells: the values of the facts, and the clocks by their bits
abbrev pub world_in : MpiProgram → TruthAssignment → World
world_in p a = record { has = λ x. a (variable_of p (fact x)); clock = λ e. clock_in p a (place_of_event p e) }

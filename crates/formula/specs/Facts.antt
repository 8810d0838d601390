-- What the formula of a program speaks of: events of a run, facts about its end, and literals over
-- both. Calls are named by their places in the program, from 0.
use Rattle.std.specs.Prelude.{Bool, false, ◌==◌}
pub use Rattle.formula.specs.declared.facts.RunEvent.{RunEvent}
pub use Rattle.formula.specs.declared.facts.RunEvent.TheVariants.{Issue as issue_of, Match as match_of}
pub use Rattle.formula.specs.declared.facts.Fact.{Fact}
pub use Rattle.formula.specs.declared.facts.Fact.TheVariants.{Issued as issued, Buffered as buffered, Matched as matched, Unfinished as unfinished}
pub use Rattle.formula.specs.declared.facts.Meaning.{Meaning}
pub use Rattle.formula.specs.declared.facts.Meaning.TheVariants.{OfFact as fact, ClockBit as clock_bit, Before as before, SameBits as same_bits}
pub use Rattle.formula.specs.declared.facts.Statement.{Statement}
pub use Rattle.formula.specs.declared.facts.Statement.TheVariants.{Holds as is_true, Fails as is_false, Earlier as is_earlier}

-- two events are one
abbrev pub is_same_event : RunEvent → RunEvent → Bool
is_same_event (issue_of c) (issue_of d) = c == d
is_same_event (match_of c) (match_of d) = c == d
is_same_event _ _ = false

-- What the variables of a formula stand for.
use Rattle.std.specs.Prelude.{ℕ, zero, suc, List, ◌++◌, length, map, Option, None, slice_get}
use Rattle.std.specs.List.{flat_map}
use Rattle.callorder.specs.Programs.{MpiProgram}
use Rattle.formula.specs.declared.facts.Fact.{Fact}
use Rattle.formula.specs.declared.facts.Meaning.{Meaning}
use Rattle.formula.specs.declared.facts.Meaning.TheVariants.{OfFact as fact, Before as before, SameBits as same_bits}
use Rattle.formula.specs.Orders.{clock_meanings, clock_size, pair_meanings, used_pairs}
use Rattle.formula.specs.Families.{events}
use Rattle.formula.specs.Numbering.{facts, meanings}

-- the variables of facts, of the clocks of so many events with so many bits, and of pairs of events
abbrev pub meanings_by : List Fact → ℕ → ℕ → List (ℕ × ℕ) → List Meaning
meanings_by facts most size used = map fact facts ++ (clock_meanings size most ++ flat_map (pair_meanings size) used)

-- what the meanings of a formula's variables are made of: its facts, how many events there are, how
-- many bits a clock has, and the pairs of events that are compared
pub record MeaningParts : Type 0 where
  pub facts : List Fact
  pub events : ℕ
  pub size : ℕ
  pub used : List (ℕ × ℕ)

-- the meanings that are made of these parts
abbrev pub meanings_in : MeaningParts → List Meaning
meanings_in parts = meanings_by parts.facts parts.events parts.size parts.used

-- the parts of a program's meanings
abbrev pub meaning_parts_of : MpiProgram → MeaningParts
meaning_parts_of p = record { facts = facts p; events = length (events p); size = clock_size p; used = used_pairs p }

-- the variable of a pair of events at a place among those of the pair
abbrev pub of_pair : ℕ × ℕ → ℕ → Meaning
of_pair pair zero = before pair.0 pair.1
of_pair pair (suc bits) = same_bits pair.0 pair.1 (suc bits)

-- what a variable of a program's formula stands for, if there is one of this number; they are
-- numbered from 1
abbrev pub meaning_of : MpiProgram → ℕ → Option Meaning
meaning_of p zero = None
meaning_of p (suc place) = slice_get (meanings p) place

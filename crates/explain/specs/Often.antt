-- The first line of a text on a deadlock, which says whether it comes in every run.
use Rattle.std.specs.Prelude.{◌≡◌, codes, List, ◌++◌, ℕ}
use Rattle.calltext.specs.declared.call.Policy.{Policy}
use Rattle.calltext.specs.declared.call.Policy.TheVariants.{Any, Never, Always}
use Rattle.frequency.specs.declared.judging.Frequency.{Frequency}
use Rattle.frequency.specs.declared.judging.Frequency.TheVariants as frequency

-- that the deadlock comes in every run that the program's policy allows
abbrev pub always_line : Policy → List ℕ
always_line Any = codes "deadlock in every run (proved)\n"
always_line Never = codes "deadlock in every run with policy none (proved)\n"
always_line Always = codes "deadlock in every run with policy all (proved)\n"

abbrev pub often_line : Policy → Frequency → List ℕ
often_line policy frequency.Always = always_line policy
often_line policy (frequency.Sometimes steps) = codes "deadlock in some runs; others end well\n"
often_line policy frequency.Unknown = codes "deadlock in every run that was tried; whether others end well isn't known\n"

-- the text begins with these bytes
abbrev pub BeginsWithBytes : List ℕ → List ℕ → Type 0
BeginsWithBytes front text = (rest : List ℕ) × (text ≡ front ++ rest)

-- the text begins with the line, and has these bytes below it
pub record TellsBelow (line bytes text : List ℕ) : Type 0 where
  pub front : List ℕ
  pub back : List ℕ
  pub is : text ≡ line ++ (front ++ (bytes ++ back))

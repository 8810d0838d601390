-- What inner functions promise one another, beside `specs/Weights.antt`.
use Rattle.std.specs.Prelude.{ℕ, List, All}
use Rattle.callorder.specs.Programs.{MpiProgram}
use Rattle.narrowing.specs.declared.taken.ChoiceTaken.{ChoiceTaken}
use Rattle.checker.specs.Headline.{IsNeverStuck}
use Rattle.choices.specs.declared.asking.Way.{Way}
use Rattle.choices.specs.declared.asking.Way.TheVariants as ways
use Rattle.choices.specs.declared.items.Choice.{Choice}
use Rattle.choices.specs.declared.items.ChoiceNeed.{ChoiceNeed}
use Rattle.choices.specs.declared.items.ChoiceNeed.TheVariants as needs
use Rattle.choices.specs.Weights.{HangsOtherwise, IsChoiceOf, NeverWith, NoneHangs}

-- all of them are
abbrev pub AreChoicesOf : MpiProgram → List Choice → Type 0
AreChoicesOf p choices = All (IsChoiceOf p) choices

-- what is told of another way of this choice by such a text, in which it is made that way, holds
abbrev pub IsWay : List ℕ → MpiProgram → Choice → Way → Type 0
IsWay pinned p choice ways.Hangs = HangsOtherwise p choice
IsWay pinned p choice ways.Never = IsNeverStuck pinned
IsWay pinned p choice ways.Open = Unit {0}

-- what is told of this other way of the choice holds
abbrev pub IsWayWith : List ℕ → MpiProgram → Choice → ChoiceTaken → Way → Type 0
IsWayWith text p choice taken ways.Hangs = HangsOtherwise p choice
IsWayWith text p choice taken ways.Never = NeverWith text choice.line p choice.call taken
IsWayWith text p choice taken ways.Open = Unit {0}

-- what is told of the other ways of a choice
abbrev pub AreOthers : List ℕ → MpiProgram → Choice → ChoiceNeed → Type 0
AreOthers text p choice needs.Known = NoneHangs text p choice
AreOthers text p choice needs.Tried = Unit {0}
AreOthers text p choice needs.No = HangsOtherwise p choice
AreOthers text p choice needs.NotAsked = Unit {0}

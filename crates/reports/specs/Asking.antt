-- What is asked about what decided a run.
use Rattle.std.specs.Prelude.{◌≡◌, ℕ, List, [], map, codes}
use Rattle.choices.specs.Weights.{AreWeighed}
use Rattle.choices.specs.Words.{TellsChoices, need_words}
use Rattle.reports.specs.declared.asked.Asked.{Asked}
use Rattle.reports.specs.declared.asked.Asked.TheVariants as asked

-- all that is known of choices holds of the text's program
abbrev pub AreAsked : List ℕ → Asked → Type 0
AreAsked text asked.NotTold = Unit {0}
AreAsked text asked.TooLarge = Unit {0}
AreAsked text (asked.Known decided) = AreWeighed text decided.choices.items

-- what is told of it: of each of the first 12 choices what is known of it
abbrev pub TellsAsked : Asked → List ℕ → Type 0
TellsAsked asked.NotTold told = told ≡ []
TellsAsked asked.TooLarge told = told ≡ codes "what decided it:\n  asked only of programs that prove takes\n"
TellsAsked (asked.Known decided) told = TellsChoices decided.choices.items told

-- what is known of each choice, in an object
abbrev pub verdicts_of : Asked → List (List ℕ)
verdicts_of asked.NotTold = []
verdicts_of asked.TooLarge = []
verdicts_of (asked.Known decided) = map (λ weighed. need_words weighed.need) decided.choices.items

-- these words tell what is known of choices, which holds of the text's program
pub record SaysWhatDecided (text told : List ℕ) : Type 0 where
  pub asked : Asked
  pub holds : AreAsked text asked
  pub tells : TellsAsked asked told

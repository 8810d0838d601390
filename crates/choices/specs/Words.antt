-- The words on a choice, and the text on all that decided a run.
use Rattle.std.specs.Prelude.{◌≡◌, ℕ, List, [], ◌∷◌, ◌++◌, take, codes}
use Rattle.choices.specs.declared.items.ChoiceNeed.{ChoiceNeed}
use Rattle.choices.specs.declared.items.ChoiceNeed.TheVariants as needs
use Rattle.choices.specs.declared.items.Weighed.{Weighed}

-- what is said of a choice of which so much is known
abbrev pub need_words : ChoiceNeed → List ℕ
need_words needs.Known = codes "without it no run hangs (proved)"
need_words needs.Tried = codes "no run that hangs without it was found"
need_words needs.No = codes "may hang otherwise too"
need_words needs.NotAsked = codes "not asked whether it may hang otherwise"

-- the line on a choice: what the run did, and what is said of it
abbrev pub choice_line : List ℕ → ChoiceNeed → List ℕ
choice_line taken need = codes "    " ++ (taken ++ (codes "; " ++ (need_words need ++ codes "\n")))

-- a line on each of these choices, one behind the other
abbrev pub AreChoiceLines : List Weighed → List ℕ → Type 0
AreChoiceLines [] text = text ≡ []
AreChoiceLines (weighed ∷ choices) text = (taken : List ℕ) × (below : List ℕ) × AreChoiceLines choices below × (text ≡ choice_line taken weighed.need ++ below)

-- The text has a line on each of the first 12 of these choices, one behind the other.
pub record TellsChoices (choices : List Weighed) (text : List ℕ) : Type 0 where
  pub front : List ℕ
  pub lines : List ℕ
  pub back : List ℕ
  pub are : AreChoiceLines (take 12 choices) lines
  pub is : text ≡ front ++ (lines ++ back)

-- What is told of phases that are too large for a search.
use Rattle.std.specs.Prelude.{◌≡◌, ◌⊎◌, ℕ, IsTrue, List, [], ◌++◌, codes, decimal}
use Rattle.std.specs.List.{AllByRecursion, flat_map}
use Rattle.calltext.specs.Grammar.{IsTextWithin, ProgramText, long}
use Rattle.callorder.specs.Programs.{MpiProgram, are_fit}
use Rattle.deciding.specs.Decisions.{IsCaller, takes_any_source}
use Rattle.session.specs.Racing.{caller_words, call_line_numbers}
use Rattle.session.specs.declared.ties.NamedTie.{NamedTie}

-- a call that takes any source, and a send that fits it
pub record IsTie (p : MpiProgram) (tie : NamedTie) : Type 0 where
  pub free : IsTrue (takes_any_source p tie.finder.place)
  pub finder : IsCaller p tie.finder
  pub send : IsCaller p tie.send
  pub fits : IsTrue (are_fit p tie.send.place tie.finder.place)

abbrev pub size_words : ℕ → ℕ → List ℕ
size_words phase events = codes "phase " ++ (decimal phase ++ (codes " has " ++ (decimal events ++ codes " events, at most 1024: ")))

abbrev pub tie_sentence : List ℕ → List ℕ → List ℕ → List ℕ
tie_sentence size finder send = size ++ (finder ++ (codes " takes any source, and " ++ (send ++ codes " isn't known to come later\n")))

abbrev pub tie_line : List ℕ → NamedTie → List ℕ
tie_line lines tie = tie_sentence (size_words tie.phase tie.events) (caller_words lines tie.finder) (caller_words lines tie.send)

abbrev pub ties_text : List ℕ → List NamedTie → List ℕ
ties_text lines ties = flat_map (tie_line lines) ties

-- a line for each of some ties of the program, by the lines of its text
pub record AreTies (program : List ℕ) (p : MpiProgram) (told : List ℕ) : Type 0 where
  pub text : ProgramText
  pub read : IsTextWithin long program text
  pub ties : List NamedTie
  pub all : AllByRecursion (IsTie p) ties
  pub is : told ≡ ties_text (call_line_numbers text) ties

abbrev pub AreToldTies : List ℕ → MpiProgram → List ℕ → Type 0
AreToldTies program p told = (told ≡ []) ⊎ AreTies program p told

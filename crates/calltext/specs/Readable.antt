-- Which texts can be read, whatever their numbers are, and within the short limits.
use Rattle.std.specs.Prelude.{ℕ, List}
use Rattle.std.specs.List.{AllByRecursion}
use Rattle.calltext.specs.declared.limits.Limits.{Limits}
use Rattle.calltext.specs.Grammar.{HasNames, IsTextWithin, ProgramText, text_of, short}

-- Each call's names are names; this is what a program's text with numbers of any size keeps.
abbrev pub AllHaveNames : ProgramText → Type 0
AllHaveNames p = AllByRecursion (AllByRecursion HasNames) p.ranks

-- The program can be read within the limits: its text is a program's text.
abbrev pub IsReadableWithin : Limits → ProgramText → Type 0
IsReadableWithin l p = IsTextWithin l (text_of p) p

-- The bytes are the text of the program, which is within the short limits.
abbrev pub IsText : List ℕ → ProgramText → Type 0
IsText = IsTextWithin short

-- The program can be read within the short limits.
abbrev pub IsReadable : ProgramText → Type 0
IsReadable = IsReadableWithin short

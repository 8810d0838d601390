-- The first faulty line of a text. A format is a language of lists of lines, and what is wrong with
-- a text is told at the first line with which its lines can no longer be a front of any list of the
-- language. No parser is needed to say so.
use Rattle.std.specs.Prelude.{◌≡◌, ℕ, Bool, true, List, [], ◌∷◌, ◌++◌, map}
use Rattle.std.specs.List.{AllByRecursion, flat_map}
use Rattle.plaintext.specs.Plain.{line_of, IsPlain, text_lines}

-- To the end of a text stand its lines, and then the end itself, which counts as a last line with
-- no byte at all.
abbrev pub to_end : List (List ℕ) → List (List ℕ)
to_end lines = lines ++ [] ∷ []

-- The lines begin with the front.
abbrev pub BeginsWith : List (List ℕ) → List (List ℕ) → Type 0
BeginsWith front lines = (more : List (List ℕ)) × (lines ≡ front ++ more)

-- Some value that keeps the limits is written in lines that, to the end, begin with the front.
abbrev pub CanBegin : (Value : Type 0) → (Value → Type 0) → (Value → List (List ℕ)) → List (List ℕ) → Type 0
CanBegin Value Keeps lines front = (value : Value) × Keeps value × BeginsWith front (to_end (lines value))

-- Whatever can go on, each front of it can.
abbrev pub IsClosedUnderFronts : (List (List ℕ) → Type 0) → Type 0
IsClosedUnderFronts CanGoOn = (front more : List (List ℕ)) → CanGoOn (front ++ more) → CanGoOn front

-- The line after these lines is the text's first faulty one: the lines before it can go on, and
-- with it they can't.
pub record IsFirstFaultyLine (CanGoOn : List (List ℕ) → Type 0) (bytes : List ℕ) (before : List (List ℕ)) (line : List ℕ) : Type 0 where
  -- the text's lines are these, the faulty one, and others after it
  pub cut : (after : List (List ℕ)) × (text_lines bytes ≡ before ++ line ∷ after)
  pub good : CanGoOn before
  pub bad : CanGoOn (before ++ line ∷ []) → ⊥

-- the laws

-- The lines of a text, one after another, are the text.
abbrev pub LinesMakeText : Type 0
LinesMakeText = (bytes : List ℕ) → flat_map (λ line. line) (text_lines bytes) ≡ bytes

-- Where lines of plain words stand one after another, the text's lines to the end are those lines.
abbrev pub WordsMakeLines : Type 0
WordsMakeLines = (lines : List (List (List ℕ))) → AllByRecursion (AllByRecursion IsPlain) lines → text_lines (flat_map line_of lines) ≡ to_end (map line_of lines)

-- Whatever test says which lines can go on, if it passes each front of what it passes: two first
-- faulty lines of one text are the same line, after the same lines.
abbrev pub OneFaultyLine : Type 0
OneFaultyLine = (test : List (List ℕ) → Bool) (bytes : List ℕ) (before before' : List (List ℕ)) (line line' : List ℕ)
    → IsClosedUnderFronts (λ lines. test lines ≡ true)
    → IsFirstFaultyLine (λ lines. test lines ≡ true) bytes before line → IsFirstFaultyLine (λ lines. test lines ≡ true) bytes before' line'
    → (before ≡ before') × (line ≡ line')

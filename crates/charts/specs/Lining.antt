-- A run told step by step, a line for each step, by the lines of the program's text.
use Rattle.std.specs.Prelude.{codes, ℕ, Bool, true, false, List, ◌++◌, [], Option, Some, None, slice_get}
use Rattle.std.specs.List.{flat_map}
use Rattle.plaintext.specs.Plain.{numeral}
use Rattle.calltext.specs.Grammar.{ProgramText}
use Rattle.callorder.specs.Programs.{MpiProgram}
use Rattle.semantics.specs.declared.state.Step.{Step}
use Rattle.semantics.specs.Machine.{opening}
use Rattle.scene.specs.declared.acts.Act.{Act}
use Rattle.scene.specs.declared.acts.Act.TheVariants.{Issue, Match, See}
use Rattle.scene.specs.Labels.{Label, call_labels, acts_from}

-- `rank R line L`
abbrev pub told_place : Label → List ℕ
told_place told = codes "rank " ++ (numeral told.rank ++ (codes " line " ++ numeral told.line))

-- the rank and the line of a call
abbrev pub place_words : Option Label → List ℕ
place_words None = []
place_words (Some told) = told_place told

abbrev pub label_words : Option Label → List ℕ
label_words None = []
label_words (Some told) = told.words

-- what stands behind the words of a call that is issued as a buffered send, or not so
abbrev pub how_issued : Bool → List ℕ
how_issued false = []
how_issued true = codes " (buffered)"

-- `rank R line L: WORDS`, with ` (buffered)` behind it where the step buffers a send
abbrev pub issue_line : Option Label → Bool → List ℕ
issue_line told buffered = place_words told ++ (codes ": " ++ (label_words told ++ (how_issued buffered ++ codes "\n")))

-- `message of rank R line L`, what becomes of it, and `rank R line L`
abbrev pub find_line : Option Label → List ℕ → Option Label → List ℕ
find_line send link finder = codes "message of " ++ (place_words send ++ (link ++ (place_words finder ++ codes "\n")))

-- the line of a step
abbrev pub act_line : List Label → Act → List ℕ
act_line calls (Issue c buffered) = issue_line (slice_get calls c) buffered
act_line calls (Match s t) = find_line (slice_get calls s) (codes " -> ") (slice_get calls t)
act_line calls (See s f) = find_line (slice_get calls s) (codes " seen by ") (slice_get calls f)

-- the lines of the steps of a run that ends stuck, and then `stuck`
abbrev pub lined_run : List ℕ → ProgramText → MpiProgram → List Step → List ℕ
lined_run text source p steps = flat_map (act_line (call_labels text source p)) (acts_from (opening p) steps) ++ codes "stuck\n"

-- A page in HTML that stands alone: what is told of a run in words, its timeline, that of a run
-- that ends well, where there is one to be shown, and lines of the program's text.
use Rattle.std.specs.Prelude.{◌≡◌, codes, ℕ, ◌+◌, ◌-◌, ◌==◌, if◌then◌else◌, Bool, true, false, List, [], ◌∷◌, ◌++◌, length, Option, Some, None, slice_get, slice_index, unwrap_or}
use Rattle.std.specs.List.{flat_map, list_any, slice_split}
use Rattle.plaintext.specs.Plain.{numeral}
use Rattle.calltext.specs.Grammar.{ProgramText}
use Rattle.callorder.specs.Programs.{MpiProgram}
use Rattle.semantics.specs.declared.state.Step.{Step}
use Rattle.semantics.specs.Machine.{Configuration, opening, after_all, is_rank_finished}
use Rattle.scene.specs.Labels.{Label, call_labels}
use Rattle.scene.specs.Ends.{is_large}
use Rattle.charts.specs.Chart.{columns}
use Rattle.charts.specs.Picture.{IsPicture, escape}

-- ---- lines

abbrev pub mark_front : Bool → List ℕ
mark_front false = []
mark_front true = codes "<mark>"

abbrev pub mark_back : Bool → List ℕ
mark_back false = codes "\n"
mark_back true = codes "</mark>\n"

-- a line of the text, with its number, from 1; nothing of an empty one
abbrev pub listed_line : Bool → ℕ → List ℕ → List ℕ
listed_line marked number [] = []
listed_line marked number (byte ∷ words) =
    mark_front marked ++ (codes "line " ++ (numeral number ++ (codes ": " ++ (flat_map escape (byte ∷ words) ++ mark_back marked))))

-- ---- the lines that ranks wait in

-- the call that a rank issued last
abbrev pub last_call : Configuration → ℕ → ℕ
last_call m rank = slice_index m.next rank - 1

abbrev pub label_line : Option Label → List ℕ
label_line None = []
label_line (Some told) = told.line ∷ []

-- the number of the line of the call that a rank waits in; none of one that is finished
abbrev pub waited_line : MpiProgram → Configuration → List Label → ℕ → List ℕ
waited_line p m calls rank = if is_rank_finished p m rank then [] else label_line (slice_get calls (last_call m rank))

abbrev pub waited_lines : MpiProgram → Configuration → List Label → List ℕ
waited_lines p m calls = columns (waited_line p m calls) p.ranks

abbrev pub label_entry : Option Label → List ℕ
label_entry None = []
label_entry (Some told) = listed_line true told.line told.words

-- the call that a rank waits in, by its line; nothing of one that is finished
abbrev pub waited_entry : MpiProgram → Configuration → List Label → ℕ → List ℕ
waited_entry p m calls rank = if is_rank_finished p m rank then [] else label_entry (slice_get calls (last_call m rank))

-- ---- the listing

abbrev pub is_marked_line : List ℕ → ℕ → Bool
is_marked_line numbers number = list_any (λ other. other == number) numbers

-- the line at a place, from 0
abbrev pub listed_at : List ℕ → List (List ℕ) → ℕ → List ℕ
listed_at marks lines place = listed_line (is_marked_line marks (place + 1)) (place + 1) (unwrap_or (slice_get lines place) [])

abbrev pub listed : List ℕ → List (List ℕ) → List ℕ
listed marks lines = columns (listed_at marks lines) (length lines)

-- all lines of the program's text, those marked that ranks wait in; of a large program those alone,
-- rank by rank
abbrev pub listing : List ℕ → MpiProgram → Configuration → List Label → List ℕ
listing text p m calls =
    if is_large p then columns (waited_entry p m calls) p.ranks else listed (waited_lines p m calls) (slice_split (λ b. b == 10) text)

-- ---- the timelines

-- of a run that ends well its timeline, with what stands above it; nothing where its steps are not
-- given
abbrev pub IsWellPart : List ℕ → ProgramText → MpiProgram → Option (List Step) → List ℕ → Type 0
IsWellPart text source p None part = part ≡ []
IsWellPart text source p (Some steps) part =
    (drawn : List ℕ) × IsPicture text source p steps drawn × (part ≡ codes "</div>\n<h2>A run that ends well</h2>\n<div class=\"timeline\">\n" ++ drawn)

-- the timeline of the run of these steps, and below it that of a run that ends well, where its
-- steps are given
pub record AreTimelines (text : List ℕ) (source : ProgramText) (p : MpiProgram) (steps : List Step) (well : Option (List Step)) (drawn : List ℕ) : Type 0 where
  pub first : List ℕ
  pub is_first : IsPicture text source p steps first
  pub part : List ℕ
  pub is_part : IsWellPart text source p well part
  pub is : drawn ≡ first ++ part

-- ---- the page

-- what is told in words, what is drawn, and the listing, one below another
abbrev pub page_with : List ℕ → List ℕ → List ℕ → List ℕ
page_with words drawn lines =
    codes "<!DOCTYPE html>\n<html lang=\"en\">\n<head>\n<meta charset=\"utf-8\">\n<meta name=\"viewport\" content=\"width=device-width\">\n<title>mpiprove: deadlock</title>\n<style>\nbody { margin: 1.5em; font-family: \"DejaVu Sans\", Helvetica, sans-serif; }\npre { font-size: 13px; overflow-x: auto; }\n.timeline { overflow: auto; max-height: 90vh; border: 1px solid #ddd; }\n.timeline svg { overflow: visible; padding-right: 40em; }\nmark { background: #fbdada; }\n</style>\n</head>\n<body>\n<h1>Deadlock</h1>\n<pre>"
    ++ (flat_map escape words ++ (codes "</pre>\n<h2>Timeline</h2>\n<div class=\"timeline\">\n" ++ (drawn ++ (codes "</div>\n<h2>Program</h2>\n<pre>" ++ (lines ++ codes "</pre>\n</body>\n</html>\n")))))

-- The page has these words, these timelines, and lines of the program's text, those marked that
-- ranks wait in at the end of the run of `steps`.
pub record IsPage (text : List ℕ) (source : ProgramText) (p : MpiProgram) (steps : List Step) (well : Option (List Step)) (words page : List ℕ) : Type 0 where
  pub drawn : List ℕ
  pub are_timelines : AreTimelines text source p steps well drawn
  pub is : page ≡ page_with words drawn (listing text p (after_all (opening p) steps) (call_labels text source p))

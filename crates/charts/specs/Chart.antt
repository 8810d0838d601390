-- A message sequence chart: a heading, a row for each step, and a row of where each rank stands at
-- the end. Each rank has a column.
use Rattle.std.specs.Prelude.{codes, ℕ, zero, suc, ◌-◌, ◌==◌, ◌&&◌, ◌||◌, nat_le, nat_lt, Bool, true, false, if◌then◌else◌, List, [], ◌∷◌, ◌++◌, length, drop, replicate, Option, Some, None, slice_get}
use Rattle.std.specs.List.{flat_map}
use Rattle.plaintext.specs.Plain.{numeral}
use Rattle.calltext.specs.Grammar.{ProgramText}
use Rattle.callorder.specs.Programs.{MpiProgram}
use Rattle.semantics.specs.declared.state.Step.{Step}
use Rattle.semantics.specs.Machine.{Configuration, opening, after_all, is_rank_finished}
use Rattle.scene.specs.declared.acts.Act.{Act}
use Rattle.scene.specs.declared.acts.Act.TheVariants.{Issue, Match, See}
use Rattle.scene.specs.Labels.{Label, call_labels, shortened, acts_from}
use Rattle.scene.specs.Ends.{is_large}

-- How many of so many steps come before the drawn ones: of a run of a large program the last 400
-- are drawn, else all.
abbrev pub undrawn : MpiProgram → ℕ → ℕ
undrawn p steps = if is_large p then steps - 400 else 0

-- how many steps come before the drawn ones, where some do
abbrev pub undrawn_words : ℕ → List ℕ
undrawn_words count = numeral count ++ codes " steps before"

abbrev pub undrawn_line : ℕ → List ℕ
undrawn_line count = if count == 0 then [] else undrawn_words count ++ codes "\n"

abbrev pub undrawn_text : ℕ → List ℕ
undrawn_text count = if count == 0 then [] else codes "<text x=\"10\" y=\"46\" fill=\"#888\">" ++ (undrawn_words count ++ codes "</text>\n")

-- ---- columns

-- whether there are so many ranks that columns are narrow, and have no words
abbrev pub are_narrow : ℕ → Bool
are_narrow ranks = nat_lt 8 ranks

-- the width of a rank's column: 16, or 6 where columns are narrow; the last one ends with its mark
abbrev pub width_at : ℕ → ℕ → ℕ
width_at ranks rank = if ranks - 1 == rank then 0 else if are_narrow ranks then 6 else 16

-- a mark, and so much of a filling that it has this width
abbrev pub padded : List ℕ → ℕ → ℕ → List ℕ
padded mark fill width = mark ++ replicate (width - length mark) fill

-- the cells of the first ranks, so many, one after another
abbrev pub columns : (ℕ → List ℕ) → ℕ → List ℕ
columns cell zero = []
columns cell (suc rank) = columns cell rank ++ cell rank

-- ---- the heading

-- `rank R`, or `rR` where columns are narrow
abbrev pub heading_word : ℕ → List ℕ
heading_word ranks = if are_narrow ranks then codes "r" else codes "rank "

abbrev pub heading_cell : ℕ → ℕ → List ℕ
heading_cell ranks rank = padded (heading_word ranks ++ numeral rank) 32 (width_at ranks rank)

abbrev pub heading : ℕ → List ℕ
heading ranks = columns (heading_cell ranks) ranks ++ codes "\n"

-- ---- the row of an issue

-- what stands before the line's number of a call that is issued, where columns are narrow
abbrev pub letter_of : Bool → List ℕ
letter_of false = codes "i"
letter_of true = codes "b"

-- what stands before the words of a call that is issued
abbrev pub sign_of : Bool → List ℕ
sign_of false = []
sign_of true = codes "b "

-- the words of the call, cut to 15 characters, with `b ` before them where it is a buffered send;
-- where columns are narrow, `i` or `b` and the number of its line
abbrev pub issue_mark : ℕ → Label → Bool → List ℕ
issue_mark ranks told buffered =
    if are_narrow ranks then letter_of buffered ++ numeral told.line else shortened 15 (sign_of buffered ++ told.words)

-- the mark in the column of the rank that issues the call, and a line in each other one
abbrev pub issue_cell : ℕ → ℕ → List ℕ → ℕ → List ℕ
issue_cell ranks owner mark rank = padded (if rank == owner then mark else codes "|") 32 (width_at ranks rank)

abbrev pub issue_row : ℕ → ℕ → List ℕ → List ℕ
issue_row ranks owner mark = columns (issue_cell ranks owner mark) ranks ++ codes "\n"

abbrev pub issue_row_of : ℕ → Option Label → Bool → List ℕ
issue_row_of ranks None buffered = codes "\n"
issue_row_of ranks (Some told) buffered = issue_row ranks told.rank (issue_mark ranks told buffered)

-- ---- the row of a message that is taken or seen

-- an arrow from one rank's column to another's goes through the rest of this rank's column
abbrev pub is_crossed : ℕ → ℕ → ℕ → Bool
is_crossed from to rank = nat_le from rank && nat_lt rank to || nat_le to rank && nat_lt rank from

-- `o` in the sender's column, `>` or `<` in the taker's, and `@` where both are one; the arrow's
-- stroke between them, and a line elsewhere
abbrev pub find_mark : ℕ → ℕ → ℕ → ℕ → ℕ
find_mark from to stroke rank =
    if rank == from then (if from == to then 64 else 111) else if rank == to then (if nat_lt from to then 62 else 60) else if is_crossed from to rank then stroke else 124

abbrev pub find_fill : ℕ → ℕ → ℕ → ℕ → ℕ
find_fill from to stroke rank = if is_crossed from to rank then stroke else 32

abbrev pub find_cell : ℕ → ℕ → ℕ → ℕ → ℕ → List ℕ
find_cell ranks from to stroke rank = padded (find_mark from to stroke rank ∷ []) (find_fill from to stroke rank) (width_at ranks rank)

-- the lines of the send and of the call that finds it
abbrev pub find_note : ℕ → List ℕ → ℕ → List ℕ
find_note send link finder = codes "   line " ++ (numeral send ++ (link ++ (numeral finder ++ codes "\n")))

abbrev pub find_row : ℕ → Label → List ℕ → ℕ → Label → List ℕ
find_row ranks send link stroke finder =
    columns (find_cell ranks send.rank finder.rank stroke) ranks ++ find_note send.line link finder.line

abbrev pub find_row_of : ℕ → Option Label → List ℕ → ℕ → Option Label → List ℕ
find_row_of ranks None link stroke finder = codes "\n"
find_row_of ranks (Some send) link stroke None = codes "\n"
find_row_of ranks (Some send) link stroke (Some finder) = find_row ranks send link stroke finder

-- ---- all rows

-- the row of a step: a match has a stroke of `-`, a see one of `.`
abbrev pub step_row : ℕ → List Label → Act → List ℕ
step_row ranks calls (Issue c buffered) = issue_row_of ranks (slice_get calls c) buffered
step_row ranks calls (Match s t) = find_row_of ranks (slice_get calls s) (codes " -> line ") 45 (slice_get calls t)
step_row ranks calls (See s f) = find_row_of ranks (slice_get calls s) (codes " seen by line ") 46 (slice_get calls f)

-- where a rank stands at the end
abbrev pub end_word : Bool → List ℕ
end_word true = codes "done"
end_word false = codes "waits"

abbrev pub end_cell : MpiProgram → Configuration → ℕ → List ℕ
end_cell p m rank = padded (end_word (is_rank_finished p m rank)) 32 (width_at p.ranks rank)

abbrev pub end_row : MpiProgram → Configuration → List ℕ
end_row p m = columns (end_cell p m) p.ranks ++ codes "\n"

-- how many steps come before, and a row for each of the others, in order
abbrev pub rows_of : MpiProgram → List Label → List Act → List ℕ
rows_of p calls acts =
    undrawn_line (undrawn p (length acts)) ++ flat_map (step_row p.ranks calls) (drop (undrawn p (length acts)) acts)

-- the heading, a row for each step that is drawn, and the row of where each rank stands at the end
abbrev pub chart_of : List ℕ → ProgramText → MpiProgram → List Step → List ℕ
chart_of text source p steps =
    heading p.ranks
    ++ (rows_of p (call_labels text source p) (acts_from (opening p) steps) ++ end_row p (after_all (opening p) steps))

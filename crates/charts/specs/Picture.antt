-- A timeline as a picture, in SVG: a row for each rank, from the top, and time to the right.
-- Numbers are pixels; x counts from the left, y from the top.
use Rattle.std.specs.Prelude.{◌≡◌, ◌↔◌, ◌⊎◌, IsTrue, codes, ℕ, ◌+◌, ◌-◌, ◌*◌, ◌==◌, ◌&&◌, nat_le, nat_lt, not, Bool, true, false, if◌then◌else◌, is_some, List, [], ◌∷◌, ◌++◌, length, drop, take_while, Option, Some, None, slice_get, slice_index}
use Rattle.std.specs.List.{flat_map, list_any, slice_index_or}
use Rattle.std.specs.Option.{unwrap_or}
use Rattle.std.specs.Global.{Vec}
use Rattle.plaintext.specs.Plain.{numeral}
use Rattle.calltext.specs.Grammar.{ProgramText}
use Rattle.calltext.specs.declared.call.Mode.TheVariants.{Standard, Synchronous, Buffered}
use Rattle.callorder.specs.declared.calls.Call.{Call}
use Rattle.callorder.specs.declared.calls.Kind.{Kind}
use Rattle.callorder.specs.declared.calls.Kind.TheVariants.{Send, Receive, MatchedProbe, Probe, MatchedReceive, Wait}
use Rattle.callorder.specs.Calls.{message_of}
use Rattle.callorder.specs.Programs.{MpiProgram, call_at}
use Rattle.semantics.specs.declared.state.Step.{Step}
use Rattle.semantics.specs.RunEnds.{IsFinished, IsFinishedRun}
use Rattle.semantics.specs.Machine.{Configuration, opening, after_all, is_fetched, is_rank_finished, IsStuckRun}
use Rattle.waits.specs.Cycles.{HasEdge}
use Rattle.waits.specs.Waiting.{WaitsFor}
use Rattle.scene.specs.declared.acts.Act.{Act}
use Rattle.scene.specs.declared.acts.Act.TheVariants.{Issue, Match, See}
use Rattle.scene.specs.Ends.{IsCycleOrNone}
use Rattle.scene.specs.Labels.{Label, call_labels, shortened, acts_from}
use Rattle.charts.specs.declared.placing.PlacedAct.{PlacedAct}
use Rattle.charts.specs.Chart.{columns, undrawn, undrawn_text}
use Rattle.charts.specs.Columns.{AreColumns, column_of}

-- ---- places and words

-- Of three numbers the first where there are up to 14 columns, the second where there are up to 40,
-- else the third.
abbrev pub by_width : ℕ → ℕ → ℕ → ℕ → ℕ
by_width count wide middle narrow = if nat_le count 14 then wide else if nat_le count 40 then middle else narrow

-- where a column begins: columns are 64, 40 or 24 wide
abbrev pub x_of : ℕ → ℕ → ℕ
x_of count column = 80 + by_width count (64 * column) (40 * column) (24 * column)

-- how wide a box is
abbrev pub box_width : ℕ → ℕ
box_width count = by_width count 60 36 20

-- where an arrow begins or ends that stands in a column
abbrev pub tip_of : ℕ → ℕ → ℕ
tip_of count column = x_of count column + by_width count 58 34 18

-- the right edge, one column behind the last one
abbrev pub edge : ℕ → ℕ
edge count = x_of count count + (box_width count + 4)

-- 24 above the middle of a rank's row: rows are 46 high up to 16 ranks, 34 up to 64, else 22
abbrev pub y_of : ℕ → ℕ → ℕ
y_of ranks rank = if nat_le ranks 16 then 55 + 46 * rank else if nat_le ranks 64 then 49 + 34 * rank else 43 + 22 * rank

-- what stands for a character: `&`, `<` and `>` are written as entities
abbrev pub escape : ℕ → List ℕ
escape byte = if byte == 38 then codes "&amp;" else if byte == 60 then codes "&lt;" else if byte == 62 then codes "&gt;" else byte ∷ []

-- the rank, the line and the words of a call
abbrev pub told_words : Label → List ℕ
told_words told = codes "rank " ++ (numeral told.rank ++ (codes ", line " ++ (numeral told.line ++ (codes ": " ++ flat_map escape told.words))))

-- what a viewer shows where the pointer rests on the group
abbrev pub title : Label → List ℕ
title told = codes "<title>" ++ (told_words told ++ codes "</title>")

-- ---- the box of an issue

-- sends are blue, and paler where they are buffered; receives green; probes purple; waits grey
abbrev pub colour_of_kind : Kind ℕ → Bool → List ℕ
colour_of_kind (Send Buffered blocking message) buffered = codes "#d6e4f2"
colour_of_kind (Send Standard blocking message) buffered = if buffered then codes "#d6e4f2" else codes "#8fb8de"
colour_of_kind (Send Synchronous blocking message) buffered = codes "#8fb8de"
colour_of_kind (Receive blocking pattern) buffered = codes "#a3d39c"
colour_of_kind (MatchedReceive blocking) buffered = codes "#a3d39c"
colour_of_kind (MatchedProbe pattern receive) buffered = codes "#d5b3d6"
colour_of_kind (Probe pattern) buffered = codes "#d5b3d6"
colour_of_kind (Wait operation) buffered = codes "#cfcac6"

abbrev pub colour_of_call : Option Call → Bool → List ℕ
colour_of_call None buffered = []
colour_of_call (Some call) buffered = colour_of_kind call.kind buffered

-- the first word
abbrev pub verb : List ℕ → List ℕ
verb words = take_while (λ b. not (b == 32)) words

-- what stands in a call's box: its line, and where columns are wide its verb, cut to 10 characters
abbrev pub box_mark : ℕ → Label → List ℕ
box_mark count told = if nat_le count 14 then shortened 10 (numeral told.line ++ (codes " " ++ verb told.words)) else numeral told.line

abbrev pub is_left_call : MpiProgram → Configuration → ℕ → Option Call → Bool
is_left_call p m c None = false
is_left_call p m c (Some call) = is_some (message_of call.kind) && not (is_fetched p m c)

-- the call is a send whose message is not received in the configuration
abbrev pub is_left_send : MpiProgram → Configuration → ℕ → Bool
is_left_send p m c = is_left_call p m c (call_at p c)

-- a red stub at a message that is never received
abbrev pub stub : Bool → List ℕ
stub false = []
stub true = codes "<path d=\"M8 8V15M3 15H13\" stroke=\"#d62728\" stroke-width=\"2\"/>"

-- where a box stands
abbrev pub box_head : ℕ → ℕ → ℕ → ℕ → List ℕ
box_head ranks count column rank =
    codes "<g class=\"step\" transform=\"translate(" ++ (numeral (x_of count column + 2) ++ (codes "," ++ (numeral (y_of ranks rank + 24) ++ codes ")\">")))

-- a rounded box of this colour with a mark in it
abbrev pub box : ℕ → List ℕ → List ℕ → List ℕ
box count colour mark =
    codes "<rect y=\"-8\" width=\""
    ++ (numeral (box_width count) ++ (codes "\" height=\"16\" rx=\"3\" fill=\"" ++ (colour ++ (codes "\"/><text x=\"" ++ (numeral (by_width count 30 18 10) ++ (codes "\" y=\"3\" font-size=\"" ++ (numeral (by_width count 9 9 7) ++ (codes "\" text-anchor=\"middle\">" ++ (flat_map escape mark ++ codes "</text>")))))))))

abbrev pub drawn_issue : ℕ → ℕ → ℕ → Label → List ℕ → Bool → List ℕ
drawn_issue ranks count column told colour left =
    box_head ranks count column told.rank ++ (title told ++ (box count colour (box_mark count told) ++ (stub left ++ codes "</g>\n")))

-- nothing where the call is missing, as of no run
abbrev pub drawn_issue_of : ℕ → ℕ → ℕ → Option Label → List ℕ → Bool → List ℕ
drawn_issue_of ranks count column None colour left = []
drawn_issue_of ranks count column (Some told) colour left = drawn_issue ranks count column told colour left

-- the box of a step of a run that ends in this configuration, where it is an issue
abbrev pub drawn_box : MpiProgram → Configuration → List Label → ℕ → ℕ → Act → List ℕ
drawn_box p m calls count column (Issue c buffered) = drawn_issue_of p.ranks count column (slice_get calls c) (colour_of_call (call_at p c) buffered) (is_left_send p m c)
drawn_box p m calls count column (Match s t) = []
drawn_box p m calls count column (See s f) = []

abbrev pub box_of : MpiProgram → Configuration → List Label → ℕ → PlacedAct → List ℕ
box_of p m calls count step = drawn_box p m calls count step.column step.act

-- ---- the arrow of a message that is taken or seen

-- what a viewer says of a message that is taken, or seen
abbrev pub find_link : Bool → List ℕ
find_link false = codes " -&gt; "
find_link true = codes " seen by "

-- a match has a full line, and a see a dashed one
abbrev pub dash_of : Bool → List ℕ
dash_of false = []
dash_of true = codes " stroke-dasharray=\"4 3\""

-- the number of a picture in the names of its heads of arrows: a page may show one of a run that
-- gets stuck and one of a run that ends well
abbrev pub number_of : Bool → List ℕ
number_of false = codes "1"
number_of true = codes "2"

-- a message that was chosen where others fitted too is orange; behind this stands the number
abbrev pub stroke_of : Bool → List ℕ
stroke_of false = codes " fill=\"none\" stroke=\"#333\" opacity=\".75\" marker-end=\"url(#taken"
stroke_of true = codes " fill=\"none\" stroke=\"#e8870e\" stroke-width=\"2\" opacity=\".85\" marker-end=\"url(#chosen"

-- a way from so many pixels below the place y of a row to so many below that of another
abbrev pub straight : ℕ → ℕ → ℕ → ℕ → List ℕ
straight from_x from_y to_x to_y = codes "M" ++ (numeral from_x ++ (codes " " ++ (numeral from_y ++ (codes "L" ++ (numeral to_x ++ (codes " " ++ (numeral to_y ++ codes "\"")))))))

-- a way over the boxes of a row
abbrev pub hop : ℕ → ℕ → ℕ → List ℕ
hop from_x to_x y =
    codes "M" ++ (numeral from_x ++ (codes " " ++ (numeral (y + 16) ++ (codes "C" ++ (numeral from_x ++ (codes " " ++ (numeral y ++ (codes " " ++ (numeral to_x ++ (codes " " ++ (numeral y ++ (codes " " ++ (numeral to_x ++ (codes " " ++ (numeral (y + 15) ++ codes "\"")))))))))))))))

-- the way of a message from its sender's row to that of the rank that finds it, at these places
-- from the left
abbrev pub way : ℕ → ℕ → ℕ → ℕ → ℕ → List ℕ
way ranks from to from_x to_x =
    if from == to then hop from_x to_x (y_of ranks from) else if nat_lt from to then straight from_x (y_of ranks from + 32) to_x (y_of ranks to + 15) else straight from_x (y_of ranks from + 16) to_x (y_of ranks to + 33)

-- what a viewer says of a message that a call finds
abbrev pub find_title : Label → Bool → Label → List ℕ
find_title send sees finder = codes "<g class=\"step\"><title>" ++ (told_words send ++ (find_link sees ++ (told_words finder ++ codes "</title><path d=\"")))

abbrev pub drawn_find : Bool → ℕ → ℕ → ℕ → Bool → Label → Bool → Label → List ℕ
drawn_find well ranks from_x to_x chosen send sees finder =
    find_title send sees finder ++ (way ranks send.rank finder.rank from_x to_x ++ (stroke_of chosen ++ (number_of well ++ (codes ")\"" ++ (dash_of sees ++ codes "/></g>\n")))))

-- the send is issued in a column, and its message is found in another one, or the same
abbrev pub drawn_find_of : Bool → ℕ → ℕ → ℕ → ℕ → Bool → Option Label → Bool → Option Label → List ℕ
drawn_find_of well ranks count sent column chosen None sees finder = []
drawn_find_of well ranks count sent column chosen (Some send) sees None = []
drawn_find_of well ranks count sent column chosen (Some send) sees (Some finder) =
    drawn_find well ranks (tip_of count sent) (tip_of count column) chosen send sees finder

-- the message that the call finds is marked as chosen where others fitted too
abbrev pub is_chosen : List Bool → ℕ → Bool
is_chosen marks f = unwrap_or (slice_get marks f) false

-- the arrow of a step, where it is no issue, and calls are issued at these columns
abbrev pub drawn_arrow : Bool → ℕ → List Label → ℕ → (ℕ → ℕ) → List Bool → ℕ → Act → List ℕ
drawn_arrow well ranks calls count at marks column (Issue c buffered) = []
drawn_arrow well ranks calls count at marks column (Match s t) =
    drawn_find_of well ranks count (at s) column (is_chosen marks t) (slice_get calls s) false (slice_get calls t)
drawn_arrow well ranks calls count at marks column (See s f) =
    drawn_find_of well ranks count (at s) column (is_chosen marks f) (slice_get calls s) true (slice_get calls f)

abbrev pub arrow_of : Bool → ℕ → List Label → ℕ → (ℕ → ℕ) → List Bool → PlacedAct → List ℕ
arrow_of well ranks calls count at marks step = drawn_arrow well ranks calls count at marks step.column step.act

-- ---- the row of a rank

-- the name of a rank, red where it is one of the cycle
abbrev pub name_colour : Bool → List ℕ
name_colour false = codes "#222"
name_colour true = codes "#d62728"

abbrev pub is_in : List ℕ → ℕ → Bool
is_in ranks rank = list_any (λ other. other == rank) ranks

abbrev pub name : Bool → ℕ → List ℕ
name red rank = codes "<text x=\"10\" y=\"4\" font-weight=\"bold\" fill=\"" ++ (name_colour red ++ (codes "\">rank " ++ (numeral rank ++ codes "</text></g>\n")))

-- a rank that is finished has a line to the edge, and the word behind it
abbrev pub finished : ℕ → ℕ → List ℕ
finished count rank =
    codes "<title>rank "
    ++ (numeral rank ++ (codes ": finished</title><path d=\"M80 0H" ++ (numeral (edge count) ++ (codes "\" stroke=\"#ddd\"/><text x=\"" ++ (numeral (edge count + 60) ++ codes "\" y=\"4\" fill=\"#888\">finished</text>")))))

-- a red bar from a place to the edge
abbrev pub bar : ℕ → ℕ → List ℕ
bar from to =
    codes "<path d=\"M80 0H"
    ++ (numeral from ++ (codes "\" stroke=\"#ddd\"/><rect x=\"" ++ (numeral from ++ (codes "\" y=\"-11\" width=\"" ++ (numeral (to - from) ++ codes "\" height=\"22\" rx=\"3\" fill=\"#fbdada\" stroke=\"#d62728\"/>")))))

-- the line of the call that a rank waits in, and its words, cut to 40 characters
abbrev pub waits_in : ℕ → Label → List ℕ
waits_in count told =
    codes "<text x=\""
    ++ (numeral (edge count + 60) ++ (codes "\" y=\"4\" fill=\"#d62728\">line " ++ (numeral told.line ++ (codes ": " ++ (flat_map escape (shortened 40 told.words) ++ codes "</text>")))))

-- a rank that waits has a line up to that call, and from there on the bar
abbrev pub waiting : ℕ → ℕ → Option Label → List ℕ
waiting count column None = []
waiting count column (Some told) = title told ++ (bar (x_of count column) (edge count) ++ waits_in count told)

-- where a rank stands at the end: it is finished, or waits in the last call that it issued
abbrev pub rank_end : MpiProgram → Configuration → List Label → ℕ → (ℕ → ℕ) → ℕ → List ℕ
rank_end p m calls count at rank =
    if is_rank_finished p m rank then finished count rank else waiting count (at (slice_index m.next rank - 1)) (slice_get calls (slice_index m.next rank - 1))

abbrev pub row_head : ℕ → ℕ → List ℕ
row_head ranks rank = codes "<g class=\"rank\" transform=\"translate(0," ++ (numeral (y_of ranks rank + 24) ++ codes ")\">")

abbrev pub rank_row : MpiProgram → Configuration → List Label → ℕ → (ℕ → ℕ) → List ℕ → ℕ → List ℕ
rank_row p m calls count at cycle rank =
    row_head p.ranks rank ++ (rank_end p m calls count at rank ++ name (is_in cycle rank) rank)

-- ---- the cycle

-- how far an arc bends: less between neighbours
abbrev pub bend : ℕ → ℕ → ℕ
bend from to = if from + 1 == to then 40 else if to + 1 == from then 26 else if nat_lt from to then 58 else 46

-- an arc from a place to another, which is as far to the right as `past`; `far` tells how far it
-- bends
abbrev pub arc_between : ℕ → ℕ → ℕ → ℕ → ℕ → List ℕ
arc_between x past far from to =
    codes "<path d=\"M"
    ++ (numeral x ++ (codes " " ++ (numeral from ++ (codes "C" ++ (numeral far ++ (codes " " ++ (numeral from ++ (codes " " ++ (numeral far ++ (codes " " ++ (numeral to ++ (codes " " ++ (numeral past ++ (codes " " ++ (numeral to ++ codes "\" fill=\"none\" stroke=\"#d62728\" stroke-width=\"2\" marker-end=\"url(#cycle1)\"/></g>\n")))))))))))))))

abbrev pub arc_title : ℕ → ℕ → List ℕ
arc_title from to = codes "<g class=\"cycle\"><title>rank " ++ (numeral from ++ (codes " waits for rank " ++ (numeral to ++ codes "</title>")))

-- a rank of the cycle waits for another: an arc behind the edge
abbrev pub arc : ℕ → ℕ → ℕ → ℕ → List ℕ
arc ranks count from to =
    arc_title from to ++ arc_between (edge count) (edge count + 3) (edge count + bend from to) (y_of ranks from + 20) (y_of ranks to + 28)

-- the rank at a place of the cycle waits for the next one, and the last for the first
abbrev pub arc_at : ℕ → ℕ → List ℕ → ℕ → List ℕ
arc_at ranks count cycle place = arc ranks count (slice_index cycle place) (slice_index_or cycle (place + 1) (slice_index cycle 0))

-- ---- the picture

-- how the run ends, told by whether all ranks finish
abbrev pub end_words : Bool → List ℕ
end_words false = codes "ends in a deadlock"
end_words true = codes "ends well"

-- the size, the title, the heads of arrows, a white ground, and what colours mean
abbrev pub head : Bool → ℕ → ℕ → List ℕ
head well width height =
    codes "<svg xmlns=\"http://www.w3.org/2000/svg\" viewBox=\"0 0 "
    ++ (numeral width ++ (codes " " ++ (numeral height ++ (codes "\" width=\"" ++ (numeral width ++ (codes "\" height=\"" ++ (numeral height ++ (codes "\" font-family=\"DejaVu Sans,Helvetica,sans-serif\" font-size=\"12\">\n<title>Timeline of a run that " ++ (end_words well ++ (codes "</title>\n<defs><marker id=\"taken" ++ (number_of well ++ (codes "\" viewBox=\"0 0 8 8\" refX=\"7\" refY=\"4\" markerWidth=\"7\" markerHeight=\"7\" markerUnits=\"userSpaceOnUse\" orient=\"auto\"><path d=\"M0 0L8 4L0 8z\" fill=\"#333\"/></marker><marker id=\"chosen" ++ (number_of well ++ (codes "\" viewBox=\"0 0 8 8\" refX=\"7\" refY=\"4\" markerWidth=\"9\" markerHeight=\"9\" markerUnits=\"userSpaceOnUse\" orient=\"auto\"><path d=\"M0 0L8 4L0 8z\" fill=\"#e8870e\"/></marker><marker id=\"cycle" ++ (number_of well ++ (codes "\" viewBox=\"0 0 8 8\" refX=\"7\" refY=\"4\" markerWidth=\"9\" markerHeight=\"9\" markerUnits=\"userSpaceOnUse\" orient=\"auto\"><path d=\"M0 0L8 4L0 8z\" fill=\"#d62728\"/></marker></defs>\n<rect width=\"100%\" height=\"100%\" fill=\"white\"/>\n<g class=\"legend\" font-size=\"11\"><rect x=\"10\" y=\"12\" width=\"14\" height=\"12\" rx=\"3\" fill=\"#8fb8de\"/><text x=\"28\" y=\"22\">send</text><rect x=\"64\" y=\"12\" width=\"14\" height=\"12\" rx=\"3\" fill=\"#d6e4f2\"/><text x=\"82\" y=\"22\">buffered send</text><rect x=\"172\" y=\"12\" width=\"14\" height=\"12\" rx=\"3\" fill=\"#a3d39c\"/><text x=\"190\" y=\"22\">receive</text><rect x=\"242\" y=\"12\" width=\"14\" height=\"12\" rx=\"3\" fill=\"#d5b3d6\"/><text x=\"260\" y=\"22\">probe</text><rect x=\"302\" y=\"12\" width=\"14\" height=\"12\" rx=\"3\" fill=\"#cfcac6\"/><text x=\"320\" y=\"22\">wait</text><rect x=\"354\" y=\"12\" width=\"14\" height=\"12\" rx=\"3\" fill=\"#fbdada\" stroke=\"#d62728\"/><text x=\"372\" y=\"22\">never returns</text><path d=\"M460 18H480\" stroke=\"#e8870e\" stroke-width=\"2\" marker-end=\"url(#chosen" ++ (number_of well ++ (codes ")\"/><text x=\"486\" y=\"22\">others fitted too</text></g>\n"))))))))))))))))))

-- what stands above the rows
abbrev pub top : Bool → ℕ → ℕ → List ℕ
top well ranks count = head well (edge count + 460) (y_of ranks ranks + 20)

-- The parts of a picture: the head, how many steps come before the drawn ones, a row for each rank,
-- a box for each issue, in order, an arrow for each message that is taken or seen, in order, an arc
-- for each rank of the cycle, and the foot. Whether all ranks finish, so many columns, the steps in
-- them, the cycle, and the marks of those that find a chosen message are given.
abbrev pub picture_at : Bool → MpiProgram → Configuration → List Label → ℕ → (ℕ → ℕ) → List PlacedAct → List ℕ → List Bool → ℕ → List ℕ
picture_at well p m calls count at steps cycle marks before =
    top well p.ranks count
    ++ (undrawn_text before ++ (columns (rank_row p m calls count at cycle) p.ranks ++ (flat_map (box_of p m calls count) steps ++ (flat_map (arrow_of well p.ranks calls count at marks) steps ++ (columns (arc_at p.ranks count cycle) (length cycle) ++ codes "</svg>\n")))))

abbrev pub picture_with : Bool → MpiProgram → Configuration → List Label → ℕ → List PlacedAct → List ℕ → List Bool → ℕ → List ℕ
picture_with well p m calls count steps cycle marks before = picture_at well p m calls count (column_of steps) steps cycle marks before

-- the steps are a run that gets stuck, or one in which all ranks finish
abbrev pub IsRunToEnd : MpiProgram → List Step → Type 0
IsRunToEnd p steps = IsStuckRun p steps ⊎ IsFinishedRun p steps

-- The text draws the run of these steps: those that are drawn stand in columns, and the cycle is
-- one of ranks that wait for one another at the run's end, or none where there is none. Its title
-- tells whether all ranks finish. Which messages are marked as chosen is left open.
pub record IsPicture (text : List ℕ) (source : ProgramText) (p : MpiProgram) (steps : List Step) (picture : List ℕ) : Type 0 where
  pub well : Bool
  pub count : ℕ
  pub placed : List PlacedAct
  pub awaited : List (Vec ℕ)
  pub cycle : List ℕ
  pub marks : List Bool
  pub is_well : IsTrue well ↔ IsFinished p (after_all (opening p) steps)
  pub in_columns : AreColumns p (call_labels text source p) (drop (undrawn p (length (acts_from (opening p) steps))) (acts_from (opening p) steps)) count placed
  pub edges : (from to : ℕ) → HasEdge awaited from to ↔ WaitsFor p (after_all (opening p) steps) from to
  pub is_cycle : IsCycleOrNone awaited cycle
  pub drawn : picture ≡ picture_with well p (after_all (opening p) steps) (call_labels text source p) count placed cycle marks (undrawn p (length (acts_from (opening p) steps)))

-- What the words of a command line ask for.
use Rattle.std.specs.Prelude.{◌≡◌, ◌⊎◌, ◌||◌, ◌∷◌, ℕ, [], Bool, if◌then◌else◌, false, true, is_some, not, Some, None, Option, map, option_map, codes, List, slice_get}
use Rattle.std.specs.Borrow.{Bor}
use Rattle.std.specs.List.{list_any}
use Rattle.std.specs.Str.{bytes_eq}
use Rattle.std.specs.Str.Parse.{IsNumeral, digits_value, without_leading_plus}
use Rattle.clap.specs.Words.{IsAmong, Row, Text, all_of, fault_of, first_of, one_of, subcommand_of}
use Rattle.clap.specs.declared.error.kind.ErrorKind.{ErrorKind}
use Rattle.clap.specs.declared.error.kind.ErrorKind.TheVariants.{ArgumentConflict}
use Rattle.options.specs.declared.form.Form.{Form}
use Rattle.options.specs.declared.form.Form.TheVariants.{Brief, Whole, Graph, Chart, Picture, Page, Object, Messages}
use Rattle.command_line.specs.CommandLine.{command_line}
use Rattle.command_line.specs.declared.request.Request.{Request}
use Rattle.command_line.specs.declared.request.Request.TheVariants as ask

-- What may be asked for: to prove a program, with the file for the evidence, where one is named,
-- the numbers of workers, the depth and the budget, whether the progress is told, and whether the
-- answer is a JSON object; to check a program by an evidence, in so many pieces, with the answer as
-- a JSON object or not; to replay an evidence on a program, with lines of the text or not; to
-- encode a program, in the DIMACS format or not; to explain what an evidence, or where none is
-- named one run, or the answer to a search with these numbers, shows of a program, in a form, with
-- the places that the file of a map, where one is named, has for lines; to export the proof that an
-- evidence makes of a program, to a file; to trim an evidence, to a file, with the answer as a JSON
-- object or not; to make a program smaller, with the files for the smaller one and for its map,
-- where they are named; to decide a program of any length by one run, with the file for the
-- schedule of a deadlock, where one is named, whether the progress is told, and whether the answer
-- is a JSON object, and the same by phases where one run doesn't tell; to cut a program of any
-- length into phases, in a folder; to judge it by the phases and the evidence in a folder, with the
-- file for the schedule of a deadlock, where one is named, and the answer as a JSON object or not;
-- to unroll an SPMD text for so many ranks with these settings, and what is said of how collective
-- calls wait, with the files for the program and for its map, where they are named; to decide, or
-- to explain, what an SPMD text is unrolled to for the numbers of ranks that a text tells, where
-- one is given, with these settings and all else that goes with the command, and whether words
-- stand there that don't; and to decide, or to explain, each of several programs, with the file for
-- a report in JUnit's form, where one is named, and whether words stand there that don't go with
-- that.
pub data Task : Type 0 where
  to_prove : Text → Option Text → ℕ → ℕ → ℕ → Bool → Bool → Task
  to_check : Text → Text → ℕ → Bool → Task
  to_replay : Text → Text → Bool → Task
  to_encode : Text → Bool → Task
  to_explain : Text → Option Text → ℕ → ℕ → ℕ → Form → Option Text → Task
  to_export : Text → Text → Text → Task
  to_trim : Text → Text → Bool → Task
  to_shrink : Text → Option Text → Option Text → Task
  to_decide : Text → Option Text → Bool → Bool → Task
  to_unroll : Text → ℕ → List Text → Option Text → Option Text → Option Text → Task
  to_decide_phases : Text → Option Text → Bool → Bool → Task
  to_phases : Text → Text → Task
  to_join : Text → Text → Option Text → Bool → Task
  to_decide_unrolled : Text → Option Text → List Text → Option Text → Bool → Bool → Task
  to_decide_each : List Text → Option Text → Bool → Bool → Task
  to_explain_each : List Text → Option Text → ℕ → ℕ → ℕ → Form → Bool → Task
  to_explain_unrolled : Text → Option Text → List Text → Option Text → Option Text → ℕ → ℕ → ℕ → Form → Option Text → Task

-- the path of a file that may be named
abbrev pub path_of : Option (Bor Text) → Option Text
path_of = option_map (λ path. path.now)

-- what a request asks for
abbrev pub task_of : Request → Task
task_of (ask.Prove r) = to_prove r.program.now (path_of r.out) r.options.workers r.options.depth r.options.budget r.progress r.json
task_of (ask.Check r) = to_check r.program.now r.evidence.now r.pieces.number r.json
task_of (ask.Replay r) = to_replay r.program.now r.evidence.now r.lines
task_of (ask.Encode r) = to_encode r.program.now r.dimacs
task_of (ask.Explain r) =
    to_explain r.program.now (path_of r.evidence) r.options.workers r.options.depth r.options.budget r.form (path_of r.map)
task_of (ask.Export r) = to_export r.program.now r.evidence.now r.out.now
task_of (ask.Trim r) = to_trim r.evidence.now r.out.now r.json
task_of (ask.Shrink r) = to_shrink r.program.now (path_of r.out) (path_of r.map)
task_of (ask.Decide r) = to_decide r.program.now (path_of r.out) r.progress r.json
task_of (ask.DecidePhases r) = to_decide_phases r.program.now (path_of r.out) r.progress r.json
task_of (ask.Phases r) = to_phases r.program.now r.out.now
task_of (ask.Join r) = to_join r.program.now r.folder.now (path_of r.out) r.json
task_of (ask.Unroll r) =
    to_unroll r.program.now r.ranks (map (λ s. s.now) r.settings.items) (path_of r.collectives) (path_of r.out) (path_of r.map)
task_of (ask.DecideUnrolled r) =
    to_decide_unrolled r.program.now (path_of r.ranks) (map (λ s. s.now) r.settings.items) (path_of r.collectives) r.beside r.json
task_of (ask.DecideEach r) = to_decide_each (map (λ p. p.now) r.programs.items) (path_of r.junit) r.beside r.json
task_of (ask.ExplainEach r) =
    to_explain_each (map (λ p. p.now) r.programs.items) (path_of r.junit) r.options.workers r.options.depth r.options.budget r.form r.beside
task_of (ask.ExplainUnrolled r) =
    to_explain_unrolled r.program.now (path_of r.ranks) (map (λ s. s.now) r.settings.items) (path_of r.collectives) (path_of r.evidence)
    r.options.workers r.options.depth r.options.budget r.form (path_of r.map)

-- the word of a task's command
abbrev pub command_of : Task → Text
command_of (to_prove program out workers depth budget progress json) = codes "prove"
command_of (to_check program evidence pieces json) = codes "check"
command_of (to_replay program evidence lines) = codes "replay"
command_of (to_encode program dimacs) = codes "encode"
command_of (to_explain program evidence workers depth budget form map) = codes "explain"
command_of (to_export program evidence out) = codes "export"
command_of (to_trim evidence out json) = codes "trim"
command_of (to_shrink program out map) = codes "shrink"
command_of (to_decide program out progress json) = codes "decide"
command_of (to_decide_phases program out progress json) = codes "decide"
command_of (to_phases program folder) = codes "phases"
command_of (to_join program folder out json) = codes "join"
command_of (to_unroll program ranks settings collectives out map) = codes "unroll"
command_of (to_decide_unrolled program ranks settings collectives beside json) = codes "decide"
command_of (to_decide_each programs junit beside json) = codes "decide"
command_of (to_explain_each programs junit workers depth budget form beside) = codes "explain"
command_of (to_explain_unrolled program ranks settings collectives evidence workers depth budget form map) = codes "explain"

-- ---- what the words after a command give

-- they give this value
abbrev pub Gives : List Row → Text → Text → Type 0
Gives rows id value = first_of id rows ≡ Some value

-- the text is `true`
abbrev pub is_true : Option Text → Bool
is_true None = false
is_true (Some text) = bytes_eq text (codes "true")

-- the flag is set exactly where they set it
abbrev pub Flags : List Row → Text → Bool → Type 0
Flags rows id value = value ≡ is_true (one_of id rows)

-- the form of an explanation: the first of `--json`, `--html`, `--svg`, `--chart`, `--dot`,
-- `--messages` and `--all` that they set
abbrev pub form_in : List Row → Form
form_in rows =
    if is_true (one_of (codes "json") rows) then Object
    else (if is_true (one_of (codes "html") rows) then Page
    else (if is_true (one_of (codes "svg") rows) then Picture
    else (if is_true (one_of (codes "chart") rows) then Chart
    else (if is_true (one_of (codes "dot") rows) then Graph
    else (if is_true (one_of (codes "messages") rows) then Messages
    else (if is_true (one_of (codes "all") rows) then Whole
    else Brief))))))

-- the number that a text spells in decimal digits, a plus before which doesn't count
abbrev pub spelled_number : Text → ℕ
spelled_number text = digits_value 10 (without_leading_plus text)

-- the number is the one that the argument's text spells
abbrev pub Reads : List Row → Text → ℕ → Type 0
Reads rows id number =
    (text : Text) × (one_of id rows ≡ Some text) × IsNumeral 10 (without_leading_plus text) × (number ≡ spelled_number text)

-- all texts of an argument, in their order
abbrev pub texts_in : Option (List Text) → List Text
texts_in None = []
texts_in (Some texts) = texts

-- the settings of an SPMD text's parameters
abbrev pub settings_in : List Row → List Text
settings_in rows = texts_in (all_of (codes "set") rows)

abbrev pub some_setting : List Text → Bool
some_setting [] = false
some_setting (setting ∷ settings) = true

-- they ask for an SPMD text: by a number of ranks, a setting, or how collective calls wait
abbrev pub is_spmd_asked : List Row → Bool
is_spmd_asked rows =
    is_some (first_of (codes "ranks") rows) || (some_setting (settings_in rows) || is_some (first_of (codes "collectives") rows))

-- the programs that are named
abbrev pub programs_in : List Row → List Text
programs_in rows = texts_in (all_of (codes "PROGRAM") rows)

abbrev pub has_two : List Text → Bool
has_two (one ∷ (other ∷ others)) = true
has_two _ = false

-- each of several programs is to be decided: several are named, or a file for a report
abbrev pub is_several : List Row → Bool
is_several rows = has_two (programs_in rows) || is_some (first_of (codes "junit") rows)

-- the words behind the program of `explain`
abbrev pub further_in : List Row → List Text
further_in rows = texts_in (all_of (codes "EVIDENCE") rows)

-- each of several programs is to be explained: it is said so, two or more words stand behind the
-- first program, or a file for a report is named
abbrev pub is_each : List Row → Bool
is_each rows = is_true (one_of (codes "each") rows) || (has_two (further_in rows) || is_some (first_of (codes "junit") rows))

-- a form that a page of several programs may have
abbrev pub is_of_several : Form → Bool
is_of_several Brief = true
is_of_several Whole = true
is_of_several Object = true
is_of_several Messages = true
is_of_several Graph = false
is_of_several Chart = false
is_of_several Picture = false
is_of_several Page = false

-- words stand there that go with one program text alone
abbrev pub is_beside_ranks : List Row → Bool
is_beside_ranks rows = is_some (first_of (codes "out") rows) || (is_true (one_of (codes "progress") rows) || is_true (one_of (codes "phases") rows))

-- words stand there that don't go with several programs
abbrev pub is_beside_several : List Row → Bool
is_beside_several rows = is_spmd_asked rows || is_beside_ranks rows

-- a map is named, or a form is asked for, as goes with one program alone
abbrev pub is_for_one : List Row → Bool
is_for_one rows = is_some (first_of (codes "map") rows) || not (is_of_several (form_in rows))

-- words stand there that don't go with explaining several programs
abbrev pub is_beside_each : List Row → Bool
is_beside_each rows = is_spmd_asked rows || is_for_one rows

-- this stands behind `--color`, in what stands behind a command that was met
abbrev pub IsColor : Option (Text × List Row) → Text → Type 0
IsColor None when = ⊥
IsColor (Some found) when = Gives found.1 (codes "color") when

-- the values of a task are those of its command's arguments
abbrev pub HasValues : List Row → Task → Type 0
HasValues rows (to_prove program out workers depth budget progress json) =
    Gives rows (codes "PROGRAM") program × (first_of (codes "out") rows ≡ out) × Reads rows (codes "workers") workers × Reads rows (codes "depth") depth
    × Reads rows (codes "budget") budget × Flags rows (codes "progress") progress × Flags rows (codes "json") json
HasValues rows (to_check program evidence pieces json) =
    Gives rows (codes "PROGRAM") program × Gives rows (codes "EVIDENCE") evidence × Reads rows (codes "pieces") pieces × Flags rows (codes "json") json
HasValues rows (to_replay program evidence lines) =
    Gives rows (codes "PROGRAM") program × Gives rows (codes "EVIDENCE") evidence × Flags rows (codes "lines") lines
HasValues rows (to_encode program dimacs) = Gives rows (codes "PROGRAM") program × Flags rows (codes "dimacs") dimacs
HasValues rows (to_explain program evidence workers depth budget form map) =
    Gives rows (codes "PROGRAM") program × (first_of (codes "EVIDENCE") rows ≡ evidence) × Reads rows (codes "workers") workers
    × Reads rows (codes "depth") depth × Reads rows (codes "budget") budget × (form ≡ form_in rows) × (first_of (codes "map") rows ≡ map)
    × (is_spmd_asked rows ≡ false) × (is_each rows ≡ false)
HasValues rows (to_export program evidence out) =
    Gives rows (codes "PROGRAM") program × Gives rows (codes "EVIDENCE") evidence × Gives rows (codes "out") out
HasValues rows (to_trim evidence out json) =
    Gives rows (codes "EVIDENCE") evidence × Gives rows (codes "out") out × Flags rows (codes "json") json
HasValues rows (to_shrink program out map) =
    Gives rows (codes "PROGRAM") program × (first_of (codes "out") rows ≡ out) × (first_of (codes "map") rows ≡ map)
HasValues rows (to_decide program out progress json) =
    Gives rows (codes "PROGRAM") program × (first_of (codes "out") rows ≡ out)
    × Flags rows (codes "progress") progress × Flags rows (codes "json") json × (is_spmd_asked rows ≡ false) × (is_several rows ≡ false)
    × (is_true (one_of (codes "phases") rows) ≡ false)
HasValues rows (to_decide_phases program out progress json) =
    Gives rows (codes "PROGRAM") program × (first_of (codes "out") rows ≡ out)
    × Flags rows (codes "progress") progress × Flags rows (codes "json") json × (is_spmd_asked rows ≡ false) × (is_several rows ≡ false)
    × (is_true (one_of (codes "phases") rows) ≡ true)
HasValues rows (to_phases program folder) = Gives rows (codes "PROGRAM") program × Gives rows (codes "out") folder
HasValues rows (to_join program folder out json) =
    Gives rows (codes "PROGRAM") program × Gives rows (codes "FOLDER") folder × (first_of (codes "out") rows ≡ out) × Flags rows (codes "json") json
HasValues rows (to_unroll program ranks settings collectives out map) =
    Gives rows (codes "PROGRAM") program × Reads rows (codes "ranks") ranks × (settings_in rows ≡ settings) × (first_of (codes "collectives") rows ≡ collectives)
    × (first_of (codes "out") rows ≡ out) × (first_of (codes "map") rows ≡ map)
HasValues rows (to_decide_unrolled program ranks settings collectives beside json) =
    Gives rows (codes "PROGRAM") program × (first_of (codes "ranks") rows ≡ ranks) × (settings_in rows ≡ settings) × (first_of (codes "collectives") rows ≡ collectives)
    × (beside ≡ is_beside_ranks rows) × Flags rows (codes "json") json
    × (is_spmd_asked rows ≡ true) × (is_several rows ≡ false)
HasValues rows (to_decide_each programs junit beside json) =
    (programs_in rows ≡ programs) × (first_of (codes "junit") rows ≡ junit) × (beside ≡ is_beside_several rows) × Flags rows (codes "json") json
    × (is_several rows ≡ true)
HasValues rows (to_explain_each programs junit workers depth budget form beside) =
    ((program : Text) × Gives rows (codes "PROGRAM") program × (programs ≡ program ∷ further_in rows)) × (first_of (codes "junit") rows ≡ junit)
    × Reads rows (codes "workers") workers × Reads rows (codes "depth") depth × Reads rows (codes "budget") budget × (form ≡ form_in rows)
    × (beside ≡ is_beside_each rows) × (is_each rows ≡ true)
HasValues rows (to_explain_unrolled program ranks settings collectives evidence workers depth budget form map) =
    Gives rows (codes "PROGRAM") program × (first_of (codes "ranks") rows ≡ ranks) × (settings_in rows ≡ settings) × (first_of (codes "collectives") rows ≡ collectives)
    × (first_of (codes "EVIDENCE") rows ≡ evidence) × Reads rows (codes "workers") workers × Reads rows (codes "depth") depth
    × Reads rows (codes "budget") budget × (form ≡ form_in rows) × (first_of (codes "map") rows ≡ map) × (is_spmd_asked rows ≡ true)
    × (is_each rows ≡ false)

-- a command's name and its matches make this task
pub record Makes (name : Text) (rows : List Row) (task : Task) : Type 0 where
  pub command : name ≡ command_of task
  pub values : HasValues rows task

-- the same, where a command was met
abbrev pub MakesSome : Option (Text × List Row) → Task → Type 0
MakesSome None task = ⊥
MakesSome (Some found) task = Makes found.0 found.1 task

-- ---- files that are named twice

-- a file that is named, and the same text
abbrev pub is_file : Option Text → Text → Bool
is_file None text = false
is_file (Some file) text = bytes_eq file text

-- both files are named, and by the same text
abbrev pub are_one_file : Option Text → Option Text → Bool
are_one_file file None = false
are_one_file file (Some other) = is_file file other

-- A task names a file twice by the same text, so that the one content would replace the other: a
-- map that is written is named as the program or as what is written beside it, or a report as one
-- of the programs.
abbrev pub names_twice : Task → Bool
names_twice (to_shrink program out map) = is_file map program || are_one_file map out
names_twice (to_unroll program ranks settings collectives out map) = is_file map program || are_one_file map out
names_twice (to_decide_each programs junit beside json) = list_any (λ program. is_file junit program) programs
names_twice (to_explain_each programs junit workers depth budget form beside) = list_any (λ program. is_file junit program) programs
names_twice _ = false

-- ---- what the words ask for

-- the words name the task's command, and the values after it are the task's, as the command line
-- reads them
abbrev pub NamesTask : List Text → Task → Type 0
NamesTask words task = MakesSome (subcommand_of command_line words) task

-- and they have no fault, nor name a file twice
pub record AskFor (words : List Text) (task : Task) : Type 0 where
  pub named : NamesTask words task
  pub faultless : fault_of command_line words ≡ []
  pub apart : names_twice task ≡ false

-- words are refused as a fault of usage, or are a question, by this kind of error: of their own
-- faults or questions, or for a file that is named twice
abbrev pub IsRefusedBy : List Text → ErrorKind → Type 0
IsRefusedBy words kind =
    IsAmong kind (fault_of command_line words) ⊎ ((kind ≡ ArgumentConflict) × ((task : Task) × NamesTask words task × (names_twice task ≡ true)))

-- what words ask for is one
abbrev pub OneTaskIsAsked : Type 0
OneTaskIsAsked = (words : List Text) (one other : Task) → AskFor words one → AskFor words other → one ≡ other

-- and their second word is that of its command
abbrev pub CommandIsSecond : Type 0
CommandIsSecond = (words : List Text) (task : Task) → AskFor words task → slice_get words 1 ≡ Some (command_of task)

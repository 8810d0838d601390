-- What the explanation of an answer says.
use Rattle.std.specs.Prelude.{◌≡◌, ℕ, List, [], ◌++◌, codes, decimal, length, nat_lt, Bool, true, false, if◌then◌else◌, Option, Some, None}
use Rattle.std.specs.List.{filter}
use Rattle.options.specs.declared.form.Form.{Form}
use Rattle.options.specs.declared.form.Form.TheVariants as forms
use Rattle.calltext.specs.Grammar.{IsTextWithin, ProgramText, long, short}
use Rattle.calltext.specs.declared.limits.Limits.{Limits}
use Rattle.callorder.specs.Programs.{MpiProgram}
use Rattle.callorder.specs.Resolving.{IsTextOf, IsTextOfWithin}
use Rattle.semantics.specs.Machine.{IsStuckRun}
use Rattle.semantics.specs.declared.state.Step.{Step}
use Rattle.charts.specs.Chart.{chart_of}
use Rattle.explain.specs.Losing.{TellsLosses}
use Rattle.explain.specs.Messages.{IsMessages}
use Rattle.explain.specs.Often.{TellsBelow, often_line}
use Rattle.explain_json.specs.Objects.{IsObject}
use Rattle.frequency.specs.declared.judging.Frequency.{Frequency}
use Rattle.frequency.specs.declared.judging.Frequency.TheVariants as often
use Rattle.frequency.specs.Frequencies.{IsFrequency}
use Rattle.charts.specs.Picture.{IsPicture}
use Rattle.htmlpage.specs.Page.{IsPage}
use Rattle.refutations.specs.declared.tree.Node.{Node}
use Rattle.refutations.specs.declared.tree.Node.TheVariants.{Split, Leaf}
use Rattle.prooflog.specs.Grammar.{IsEvidenceText}
use Rattle.prooflog.specs.Refutations.{ClaimedRefutation}
use Rattle.prooflog.specs.declared.evidence.Evidence.TheVariants.{Refutation}
use Rattle.checker.specs.Headline.{Shows}
use Rattle.checker.specs.Verdicts.{IsReason, RefutesProgram}
use Rattle.reports.specs.Asking.{AreAsked, SaysWhatDecided, verdicts_of}
use Rattle.reports.specs.declared.asked.Asked.{Asked}
use Rattle.reports.specs.Sizes.{wildcards_with_choice, messages, open_sends, wildcards}
use Rattle.reports.specs.declared.explained.Explained.{Explained}
use Rattle.reports.specs.declared.explained.Explained.TheVariants as told

abbrev pub is_leaf : Node → Bool
is_leaf (Split variable) = false
is_leaf (Leaf number) = true

-- how many of the nodes are leaves
abbrev pub leaves : List Node → ℕ
leaves nodes = length (filter is_leaf nodes)

-- what stands round the numbers: at the beginning, before each name, between a name and its number,
-- behind that, and at the end
pub record Marks : Type 0 where
  pub begin : List ℕ
  pub front : List ℕ
  pub middle : List ℕ
  pub back : List ℕ
  pub foot : List ℕ

-- by forms: lines; comments of a graph without a node; lines of a picture; lines of a page; members
-- of an object
abbrev pub line_marks : Marks
line_marks = record { begin = codes "no deadlock\n"; front = []; middle = codes " "; back = codes "\n"; foot = [] }

abbrev pub graph_marks : Marks
graph_marks = record {
  begin = codes "// no deadlock\n";
  front = codes "// ";
  middle = codes " ";
  back = codes "\n";
  foot = codes "digraph waits {\n}\n";
}

abbrev pub picture_marks : Marks
picture_marks = record {
  begin = codes "<svg xmlns=\"http://www.w3.org/2000/svg\" width=\"480\" height=\"180\" font-family=\"monospace\" font-size=\"13\">\n<text y=\"8\">\n<tspan x=\"8\" dy=\"16\">no deadlock</tspan>\n";
  front = codes "<tspan x=\"8\" dy=\"16\">";
  middle = codes " ";
  back = codes "</tspan>\n";
  foot = codes "</text>\n</svg>\n";
}

abbrev pub page_marks : Marks
page_marks = record {
  begin = codes "<!DOCTYPE html>\n<html lang=\"en\">\n<head>\n<meta charset=\"utf-8\">\n<title>mpiprove: no deadlock</title>\n</head>\n<body>\n<h1>No deadlock</h1>\n<pre>";
  front = [];
  middle = codes " ";
  back = codes "\n";
  foot = codes "</pre>\n</body>\n</html>\n";
}

abbrev pub object_marks : Marks
object_marks = record {
  begin = codes "{\"answer\":\"no deadlock\",\"status\":0";
  front = codes ",\"";
  middle = codes "\":";
  back = [];
  foot = codes "}\n";
}

abbrev pub marks_of : Form → Marks
marks_of forms.Brief = line_marks
marks_of forms.Whole = line_marks
marks_of forms.Chart = line_marks
marks_of forms.Graph = graph_marks
marks_of forms.Picture = picture_marks
marks_of forms.Page = page_marks
marks_of forms.Object = object_marks
marks_of forms.Messages = line_marks

-- a name and a number
abbrev pub count_line : Marks → List ℕ → ℕ → List ℕ
count_line m name count = m.front ++ (name ++ (m.middle ++ (decimal count ++ m.back)))

-- the lines on a program tell its numbers of ranks, calls and messages, and those of wildcards with
-- a choice and of sends that the policy leaves open
abbrev pub size_lines : Marks → MpiProgram → List ℕ
size_lines m p =
    count_line m (codes "ranks") p.ranks ++
    (count_line m (codes "calls") (length p.calls) ++ count_line m (codes "messages") (messages p.calls))

abbrev pub open_line : Marks → MpiProgram → List ℕ
open_line m p = count_line m (codes "sends that may be buffered or not") (open_sends p.policy p.calls)

abbrev pub choice_lines : Marks → MpiProgram → List ℕ
choice_lines m p = count_line m (codes "wildcards with a choice") (wildcards_with_choice p.calls) ++ open_line m p

-- the lines on a refutation tell its numbers of variables, clauses, lines and leaves
abbrev pub claim_lines : Marks → ClaimedRefutation → List ℕ
claim_lines m claim =
    count_line m (codes "variables") claim.variables ++
    (count_line m (codes "clauses") claim.clauses ++
    (count_line m (codes "lines") (length claim.lines) ++
    count_line m (codes "leaves") (leaves claim.nodes)))

-- the text on a program and what refutes it tells the numbers of both
abbrev pub numbers_text : Marks → MpiProgram → ClaimedRefutation → List ℕ
numbers_text m p claim = m.begin ++ (size_lines m p ++ (choice_lines m p ++ (claim_lines m claim ++ m.foot)))

abbrev pub counts_text : Form → MpiProgram → ClaimedRefutation → List ℕ
counts_text form = numbers_text (marks_of form)

-- the words begin with how often the program gets stuck, and tell below that what is known of
-- choices, which holds
pub record Says (program : List ℕ) (p : MpiProgram) (often : Frequency) (words : List ℕ) : Type 0 where
  pub decided : List ℕ
  pub holds : SaysWhatDecided program decided
  pub tells : TellsBelow (often_line p.policy often) decided words

-- the text says so, and the program gets stuck so often
abbrev pub SaysHowOften : List ℕ → MpiProgram → List ℕ → Type 0
SaysHowOften program p text = (often : Frequency) × IsFrequency p often × Says program p often text

-- the steps of a run that ends well, where one is known
abbrev pub well_steps : Frequency → Option (List Step)
well_steps often.Always = None
well_steps (often.Sometimes steps) = Some steps.items
well_steps often.Unknown = None

-- The page has such a text, draws the run of these steps, and exactly where the text says that
-- other runs end well it draws one, too.
pub record IsExplainedPage (program : List ℕ) (source : ProgramText) (p : MpiProgram) (steps : List Step) (page : List ℕ) : Type 0 where
  pub often : Frequency
  pub is_often : IsFrequency p often
  pub words : List ℕ
  pub says : Says program p often words
  pub is_page : IsPage program source p steps (well_steps often) words page

-- The object says how often the program gets stuck, which is so, and what is known of choices, which
-- holds.
pub record IsExplainedObject (program : List ℕ) (p : MpiProgram) (text : List ℕ) : Type 0 where
  pub often : Frequency
  pub is_often : IsFrequency p often
  pub asked : Asked
  pub holds : AreAsked program asked
  pub is_object : IsObject often (verdicts_of asked) text

-- the text draws the run of these steps, as a chart or as a picture, where the form is one of
-- these, and as a text or an object says how often the program gets stuck, and what is known of
-- choices; a page does both; and messages have a line for each rank that waits
abbrev pub IsDrawnFrom : Form → List ℕ → ProgramText → MpiProgram → List Step → List ℕ → Type 0
IsDrawnFrom forms.Chart program source p steps text = text ≡ chart_of program source p steps
IsDrawnFrom forms.Picture program source p steps text = IsPicture program source p steps text
IsDrawnFrom forms.Page program source p steps text = IsExplainedPage program source p steps text
IsDrawnFrom forms.Brief program source p steps text = SaysHowOften program p text
IsDrawnFrom forms.Whole program source p steps text = SaysHowOften program p text
IsDrawnFrom forms.Graph program source p steps text = Unit {0}
IsDrawnFrom forms.Object program source p steps text = IsExplainedObject program p text
IsDrawnFrom forms.Messages program source p steps text = IsMessages program source p steps text

-- so, of what the program's text says within limits
abbrev pub IsDrawnWithin : Limits → Form → List ℕ → MpiProgram → List Step → List ℕ → Type 0
IsDrawnWithin l form program p steps text = (source : ProgramText) × IsTextWithin l program source × IsDrawnFrom form program source p steps text

abbrev pub IsDrawn : Form → List ℕ → MpiProgram → List Step → List ℕ → Type 0
IsDrawn = IsDrawnWithin short

-- the steps are a run, that ends stuck, of the program of a text of any length, and the text draws
-- it
abbrev pub IsRunDrawn : Form → List ℕ → List Step → List ℕ → Type 0
IsRunDrawn form program steps text = (p : MpiProgram) × IsTextOfWithin long program p × IsStuckRun p steps × IsDrawnWithin long form program p steps text

-- The line on wildcards: of a program of at most 1,024 calls it tells how many have a choice, and
-- of a larger one how many there are.
abbrev pub wildcard_line : Marks → MpiProgram → List ℕ
wildcard_line m p =
    if nat_lt 1024 (length p.calls) then count_line m (codes "wildcards") (wildcards p.calls) else count_line m (codes "wildcards with a choice") (wildcards_with_choice p.calls)

-- the text on a program without a refutation tells its numbers
abbrev pub sizes_text : Marks → MpiProgram → List ℕ
sizes_text m p = m.begin ++ (size_lines m p ++ (wildcard_line m p ++ (open_line m p ++ m.foot)))

-- what a form adds below the numbers of a program, none of whose runs gets stuck: a text tells the
-- messages that no receive takes
abbrev pub IsAddedBelow : Form → MpiProgram → List ℕ → Type 0
IsAddedBelow forms.Brief p added = TellsLosses p added
IsAddedBelow forms.Whole p added = TellsLosses p added
IsAddedBelow forms.Chart p added = added ≡ []
IsAddedBelow forms.Graph p added = added ≡ []
IsAddedBelow forms.Picture p added = added ≡ []
IsAddedBelow forms.Page p added = added ≡ []
IsAddedBelow forms.Object p added = added ≡ []
IsAddedBelow forms.Messages p added = added ≡ []

-- the text tells these numbers, and below them what the form adds
abbrev pub TellsNumbers : Form → MpiProgram → List ℕ → List ℕ → Type 0
TellsNumbers form p numbers text = (added : List ℕ) × IsAddedBelow form p added × (text ≡ numbers ++ added)

-- the text tells the numbers of the program of a text of any length
abbrev pub TellsSizes : Form → List ℕ → List ℕ → Type 0
TellsSizes form program text = (p : MpiProgram) × IsTextOfWithin long program p × TellsNumbers form p (sizes_text (marks_of form) p) text

-- A text that tells sizes comes where the evidence refutes the program, and tells those of the
-- program that the one text is of and of the refutation that the other is of; a text on a deadlock
-- where the evidence shows one, whose run a chart and a picture draw; and a refusal has a verdict's
-- reason.
abbrev pub Explains : Form → List ℕ → List ℕ → Explained → Type 0
Explains form program evidence (told.NoDeadlock text) =
    RefutesProgram program evidence × ((p : MpiProgram) × (claim : ClaimedRefutation) × IsTextOf program p × IsEvidenceText evidence (Refutation claim) × TellsNumbers form p (counts_text form p claim) text.items)
Explains form program evidence (told.Deadlock text) = (shown : Shows program evidence) × IsDrawn form program shown.p shown.steps text.items
Explains form program evidence (told.Refused reason) = IsReason program evidence reason

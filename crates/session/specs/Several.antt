-- The pages of `decide` and `explain` for several programs.
use Rattle.std.specs.Prelude.{◌≡◌, ◌⊎◌, ◌==◌, ℕ, Bool, List, [], ◌∷◌, ◌++◌, codes, drop, if◌then◌else◌, map, Option, Some, Result}
use Rattle.std.specs.List.{Contains}
use Rattle.serde_json.specs.Data.{string}
use Rattle.serde_json.specs.Written.{compact_text}
use Rattle.files.specs.Contents.{AreAll}
use Rattle.deciding.specs.Decisions.{IsDecided}
use Rattle.deciding.specs.declared.decision.Decision.{Decision}
use Rattle.deciding.specs.declared.texts.Undecided.{Undecided}
use Rattle.options.specs.declared.form.Form.{Form}
use Rattle.options.specs.declared.form.Form.TheVariants as forms
use Rattle.junit.specs.Report.{Case, IsOf, report_text}
use Rattle.junit.specs.declared.report.TestOutcome.{TestOutcome}
use Rattle.junit.specs.declared.report.TestOutcome.TheVariants.{Passed, Failed, Broken}
use Rattle.session.specs.Explaining.{IsDecidedFirst}
use Rattle.session.specs.Pages.{IsDecisionPage, IsUnreadFile, IsWritten}
use Rattle.session.specs.declared.several.Answers.{Answers}
use Rattle.shrinking.specs.Mapping.{shown_byte}
use Rattle.session.specs.Sweeping.{Row, form_of_answer, gravest}

-- ---- rows

-- the rows are of such pages, for these paths, one after another
abbrev pub AreRowsOf : (List ℕ → List ℕ → ℕ → Type 0) → List (List ℕ) → List Row → Type 0
AreRowsOf IsPage [] [] = Unit {0}
AreRowsOf IsPage (path ∷ paths) (row ∷ rows) = IsPage path row.page row.status × AreRowsOf IsPage paths rows
AreRowsOf IsPage _ _ = ⊥

-- what stands between a path and its page: messages begin a line of their own
abbrev pub parting : Form → List ℕ
parting forms.Messages = codes ":\n"
parting _ = codes ": "

-- a row: the path stands before its page, in a JSON object as the first member, and else with a
-- question mark for each byte that isn't printable ASCII
abbrev pub file_row : Form → List ℕ → List ℕ → List ℕ
file_row forms.Object path page = codes "{\"program\":" ++ (compact_text (string path) ++ (codes "," ++ drop 1 page))
file_row form path page = codes "program " ++ (map shown_byte path ++ (parting form ++ page))

abbrev pub file_rows : Form → List (List ℕ) → List Row → List ℕ
file_rows form (path ∷ paths) (row ∷ rows) = file_row form path row.page ++ file_rows form paths rows
file_rows form _ _ = []

-- ---- a report of tests

-- what an answer counts as in a report of tests
abbrev pub outcome_of : ℕ → TestOutcome
outcome_of status = if status == 0 then Passed else (if status == 1 then Failed else Broken)

-- the tests of rows, for these paths
abbrev pub cases_of : List (List ℕ) → List Row → List Case
cases_of (path ∷ paths) (row ∷ rows) = record { name = path; outcome = outcome_of row.status; text = row.page } ∷ cases_of paths rows
cases_of _ _ = []

-- ---- pages

-- a page for several programs: a row each, in their order, and the gravest status; a report of them
-- is written to the file that is named for it
pub record IsOfEach (IsPage : List ℕ → List ℕ → ℕ → Type 0) (tells : Bool) (old new : List ℕ → Option (List ℕ)) (form : Form) (junit : Option (List ℕ))
    (paths : List (List ℕ)) (text : List ℕ) (status : ℕ) : Type 0 where
  pub rows : List Row
  pub are : AreRowsOf IsPage paths rows
  pub is_text : text ≡ file_rows form paths rows
  pub is_status : status ≡ gravest rows
  pub reported : IsWritten tells old new junit (report_text (cases_of paths rows))

-- what is told of the programs at these paths, in rows and in a report
pub record ArePathsAnswered (IsPage : List ℕ → List ℕ → ℕ → Type 0) (form : Form) (paths : List (List ℕ)) (answers : Answers) : Type 0 where
  pub rows : List Row
  pub are : AreRowsOf IsPage paths rows
  pub is_text : answers.text.items ≡ file_rows form paths rows
  pub is_status : answers.status ≡ gravest rows
  pub is_report : IsOf (cases_of paths rows) answers.report

-- the page of what one run decides of the program of a file
abbrev pub IsDecidedIn : (List ℕ → Option (List ℕ)) → Bool → List ℕ → List ℕ → ℕ → Type 0
IsDecidedIn held json path page status =
    (program : List ℕ) × (d : Result Decision Undecided) × AreAll (held path) program × IsDecided program d × IsDecisionPage json program d page status

-- the page of `decide` for several programs
abbrev pub IsDecidedEach : Bool → (List ℕ → Option (List ℕ)) → (List ℕ → Option (List ℕ)) → List (List ℕ) → Option (List ℕ) → Bool → List ℕ → ℕ → Type 0
IsDecidedEach tells old new paths junit json text status = IsOfEach (IsDecidedIn old json) tells old new (form_of_answer json) junit paths text status

-- the page of `explain`, without an evidence, for the program of a file
abbrev pub IsExplainedIn : (List ℕ → Option (List ℕ)) → ℕ → Form → List ℕ → List ℕ → ℕ → Type 0
IsExplainedIn held budget form path page status = IsDecidedFirst (held path) budget form page status

-- the page of `explain` for several programs
abbrev pub IsExplainedEach : Bool → (List ℕ → Option (List ℕ)) → (List ℕ → Option (List ℕ)) → List (List ℕ) → Option (List ℕ) → ℕ → Form → List ℕ → ℕ → Type 0
IsExplainedEach tells old new paths junit budget form text status = IsOfEach (IsExplainedIn old budget form) tells old new form junit paths text status

-- the file that failed is one of these, it isn't told to be read, and no file has changed
abbrev pub IsOneUnread : (List ℕ → Bool) → List (List ℕ) → (List ℕ → Option (List ℕ)) → (List ℕ → Option (List ℕ)) → List ℕ → Type 0
IsOneUnread reads paths old new path = Contains paths path × IsUnreadFile reads path × (new ≡ old)

-- the file that failed is one of these; or it is the one that is named for a report
abbrev pub IsFileOfEach : (List ℕ → Bool) → List (List ℕ) → Option (List ℕ) → (List ℕ → Option (List ℕ)) → (List ℕ → Option (List ℕ)) → List ℕ → Type 0
IsFileOfEach reads paths junit old new path = IsOneUnread reads paths old new path ⊎ (junit ≡ Some path)

-- what is told of words that don't go with several programs
abbrev pub beside_several : List ℕ
beside_several = codes "error: one program alone goes with --out, --progress, --phases, --ranks, --set and --collectives\n"

abbrev pub beside_each : List ℕ
beside_each = codes "error: one program alone goes with --map, --dot, --chart, --svg, --html, --ranks, --set and --collectives\n"

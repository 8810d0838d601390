-- A report of tests in JUnit's form.
use Rattle.std.specs.Prelude.{◌≡◌, ◌==◌, ◌||◌, ◌-◌, ℕ, Bool, true, false, nat_lt, if◌then◌else◌, List, [], ◌∷◌, ◌++◌, codes, length, filter, take}
use Rattle.std.specs.List.{flat_map}
use Rattle.plaintext.specs.Plain.{numeral, text_lines}
use Rattle.junit.specs.declared.report.TestOutcome.{TestOutcome}
use Rattle.junit.specs.declared.report.TestOutcome.TheVariants.{Passed, Failed, Broken}
use Rattle.junit.specs.declared.report.Report.{Report}

-- a question mark stands for a byte that is no printable ASCII
abbrev pub printable_byte : ℕ → List ℕ
printable_byte byte = if nat_lt byte 32 || nat_lt 126 byte then 63 ∷ [] else byte ∷ []

-- what stands for a byte: an entity where it has a meaning of its own in XML; LF stays
abbrev pub escaped_byte : ℕ → List ℕ
escaped_byte byte =
    if byte == 38 then codes "&amp;" else if byte == 60 then codes "&lt;" else if byte == 62 then codes "&gt;"
    else if byte == 34 then codes "&quot;" else if byte == 10 then 10 ∷ [] else printable_byte byte

abbrev pub escaped : List ℕ → List ℕ
escaped = flat_map escaped_byte

-- a test: its name, what came of it, and the text that tells it
pub record Case : Type 0 where
  pub name : List ℕ
  pub outcome : TestOutcome
  pub text : List ℕ

-- the first of these lines, without the LF that parts it from the next one
abbrev pub first_of_lines : List (List ℕ) → List ℕ
first_of_lines [] = []
first_of_lines (line ∷ []) = line
first_of_lines (line ∷ (next ∷ others)) = take (length line - 1) line

abbrev pub first_text_line : List ℕ → List ℕ
first_text_line text = first_of_lines (text_lines text)

-- an element with a text, and the first line of that as its message
abbrev pub element : List ℕ → List ℕ → List ℕ
element tag text =
    codes "<" ++ (tag ++ (codes " message=\"" ++ (escaped (first_text_line text) ++ (codes "\">" ++ (escaped text ++ (codes "</" ++ (tag ++ codes ">")))))))

-- what is told of a test that didn't pass
abbrev pub outcome_text : TestOutcome → List ℕ → List ℕ
outcome_text Passed text = []
outcome_text Failed text = element (codes "failure") text
outcome_text Broken text = element (codes "error") text

abbrev pub case_text : Case → List ℕ
case_text c =
    codes "<testcase classname=\"mpiprove\" name=\"" ++ (escaped c.name ++ (codes "\">" ++ (outcome_text c.outcome c.text ++ codes "</testcase>\n")))

abbrev pub is_failed : TestOutcome → Bool
is_failed Passed = false
is_failed Failed = true
is_failed Broken = false

abbrev pub is_broken : TestOutcome → Bool
is_broken Passed = false
is_broken Failed = false
is_broken Broken = true

-- how many tests there are, how many failed, and how many told of an error
abbrev pub failures : List Case → ℕ
failures cases = length (filter (λ c. is_failed c.outcome) cases)

abbrev pub errors : List Case → ℕ
errors cases = length (filter (λ c. is_broken c.outcome) cases)

-- the report of these tests
abbrev pub report_text : List Case → List ℕ
report_text cases =
    codes "<?xml version=\"1.0\" encoding=\"UTF-8\"?>\n<testsuite name=\"mpiprove\" tests=\"" ++ (numeral (length cases)
    ++ (codes "\" failures=\"" ++ (numeral (failures cases) ++ (codes "\" errors=\"" ++ (numeral (errors cases)
    ++ (codes "\">\n" ++ (flat_map case_text cases ++ codes "</testsuite>\n")))))))

-- the report is of these tests so far
pub record IsOf (cases : List Case) (report : Report) : Type 0 where
  pub text : report.cases.items ≡ flat_map case_text cases
  pub tests : report.tests ≡ length cases
  pub failed : report.failures ≡ failures cases
  pub broken : report.errors ≡ errors cases

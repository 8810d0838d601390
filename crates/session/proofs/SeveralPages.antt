-- What the pages of several programs tell.
use Rattle.std.proofs.Common.{◌≡◌, ◌∙◌, ◌⊎◌, ◌<◌, ◌+◌, arith, ap, inl, inr, sym, subst, refl, ℕ, suc, zero, List, [], ◌∷◌, ◌++◌, length, Bool, false, Some, None, Option, Result, Ok, Err, get_or, append_assoc, map, take}
use Rattle.std.specs.List.{Contains}
use Rattle.std.proofs.lemmas.List.{append-nil, map-append, take_more}
use Rattle.std.specs.Borrow.{Bor}
use Rattle.std.proofs.lemmas.List.Sums.{fold-append}
use Rattle.calltext.specs.Grammar.{long}
use Rattle.semantics.specs.Headline.{IsNeverStuckWithin, IsStuckRunWithin}
use Rattle.semantics.specs.declared.state.Step.{Step}
use Rattle.options.specs.declared.form.Form.{Form}
use Rattle.options.specs.declared.form.Form.TheVariants as forms
use Rattle.junit.specs.Report.{Case, IsOf, report_text}
use Rattle.session.specs.Pages.{IsWritten}
use Rattle.session.specs.Several.{ArePathsAnswered, AreRowsOf, IsDecidedIn, IsExplainedIn, IsOfEach, cases_of, file_row, file_rows, outcome_of}
use Rattle.session.specs.Sweeping.{Row, graver}
use Rattle.std.specs.Prelude.{IfOk, OnOk}
use Rattle.session.specs.declared.commands.Stop.{Stop}
use Rattle.session.specs.declared.page.Page.{Page}
use Rattle.session.specs.declared.several.Answers.{Answers}
use Rattle.session.proofs.DeadlockLines.{PageTells}
use Rattle.session.proofs.Deadlocks.{all_are}
use Rattle.session.proofs.DecidedPages.{decided_hangs, decided_safe}
use Rattle.session.proofs.ExplainedPages.{first_never, first_shows}
use Rattle.session.proofs.SweptPages.{graver_one, graver_zero, third_of_deadlock, unscheduled, worst_from}

-- ---- the gravest of several

here_in : (path : List ℕ) (paths : List (List ℕ)) → Contains (path ∷ paths) path
here_in path paths = (0, omega arith, refl)

behind_in : (first : List ℕ) (paths : List (List ℕ)) (path : List ℕ) → Contains paths path → Contains (first ∷ paths) path
behind_in first paths path (k, low, is) = (suc k, omega (arith, low), is)

first_or_behind : (first : List ℕ) (paths : List (List ℕ)) (path : List ℕ) → Contains (first ∷ paths) path → (first ≡ path) ⊎ Contains paths path
first_or_behind first paths path (zero, low, is) = inl is
first_or_behind first paths path (suc k, low, is) = inr (k, omega (arith, low), is)

record HasRowOf (IsPage : List ℕ → List ℕ → ℕ → Type 0) (paths : List (List ℕ)) (status : ℕ) : Type 0 where
  path : List ℕ
  named : Contains paths path
  page : List ℕ
  is_page : IsPage path page status

one_grave_of : (IsPage : List ℕ → List ℕ → ℕ → Type 0) (own status : ℕ) (paths : List (List ℕ)) (rows : List Row) → AreRowsOf IsPage paths rows
    → worst_from status rows ≡ own → (status ≡ own) ⊎ HasRowOf IsPage paths own
one_grave_of IsPage own status [] [] are e = inl e
one_grave_of IsPage own status (path ∷ paths) (row ∷ rows) are e =
    elim (one_grave_of IsPage own (graver status row.status) paths rows are.1 e) [
      | inl here ↦ elim (graver_one status row.status own here) [
        | inl before ↦ inl before
        | inr is ↦ inr (record { path = path; named = here_in path paths; page = row.page; is_page = subst (IsPage path row.page) is are.0 })
      ]
      | inr behind ↦ inr (record { path = behind.path; named = behind_in path paths behind.path behind.named; page = behind.page; is_page = behind.is_page })
    ]
one_grave_of IsPage own status [] (row ∷ rows) are e = absurd are
one_grave_of IsPage own status (path ∷ paths) [] are e = absurd are

none_grave_of : (IsPage : List ℕ → List ℕ → ℕ → Type 0) (status : ℕ) (paths : List (List ℕ)) (rows : List Row) → AreRowsOf IsPage paths rows
    → worst_from status rows ≡ 0 → (status ≡ 0) × ((path : List ℕ) → Contains paths path → (page : List ℕ) × IsPage path page 0)
none_grave_of IsPage status [] [] are e = (e, λ path named. absurd (omega (arith, named.1)))
none_grave_of IsPage status (path ∷ paths) (row ∷ rows) are e =
    let behind = none_grave_of IsPage (graver status row.status) paths rows are.1 e in
    let here = graver_zero status row.status behind.0 in (
      here.0,
      λ other named. elim (first_or_behind path paths other named) [
        | inl same ↦ (row.page, subst (λ (p : List ℕ). IsPage p row.page 0) same (subst (IsPage path row.page) here.1 are.0))
        | inr later ↦ behind.1 other later
      ],
    )
none_grave_of IsPage status [] (row ∷ rows) are e = absurd are
none_grave_of IsPage status (path ∷ paths) [] are e = absurd are

pub decided_in_hangs : (held : List ℕ → Option (List ℕ)) (json : Bool) (path page program : List ℕ) → IsDecidedIn held json path page 1 → held path ≡ Some program
    → (steps : List Step) × IsStuckRunWithin long program steps
decided_in_hangs held json path page program (given, d, all, is, decision) holds =
    subst (λ (p : List ℕ). (steps : List Step) × IsStuckRunWithin long p steps) (all_are (held path) given program all holds)
    (decided_hangs false (λ p. Some given) (λ p. Some given) [] None json page 1 given
    (given, d, refl, is, unscheduled false (λ p. Some given) d, decision) (inl refl) refl)

pub decided_in_safe : (held : List ℕ → Option (List ℕ)) (json : Bool) (path page program : List ℕ) → IsDecidedIn held json path page 0 → held path ≡ Some program
    → IsNeverStuckWithin long program
decided_in_safe held json path page program (given, d, all, is, decision) holds =
    subst (λ (p : List ℕ). IsNeverStuckWithin long p) (all_are (held path) given program all holds)
    (decided_safe false (λ p. Some given) (λ p. Some given) [] None json page 0 given
    (given, d, refl, is, unscheduled false (λ p. Some given) d, decision) (inl refl) refl)

third_of_files : (form : Form) (paths : List (List ℕ)) (rows : List Row) → get_or (file_rows form paths rows) 2 0 ≡ 97 → ⊥
third_of_files form [] rows e = omega (arith, e)
third_of_files form (path ∷ paths) [] e = omega (arith, e)
third_of_files forms.Brief (path ∷ paths) (row ∷ rows) e = omega (arith, e)
third_of_files forms.Whole (path ∷ paths) (row ∷ rows) e = omega (arith, e)
third_of_files forms.Graph (path ∷ paths) (row ∷ rows) e = omega (arith, e)
third_of_files forms.Chart (path ∷ paths) (row ∷ rows) e = omega (arith, e)
third_of_files forms.Picture (path ∷ paths) (row ∷ rows) e = omega (arith, e)
third_of_files forms.Page (path ∷ paths) (row ∷ rows) e = omega (arith, e)
third_of_files forms.Object (path ∷ paths) (row ∷ rows) e = omega (arith, e)
third_of_files forms.Messages (path ∷ paths) (row ∷ rows) e = omega (arith, e)

-- ---- what they tell of one of them

-- a program of one of these paths has a run that gets stuck
pub record HangsOneOf (held : List ℕ → Option (List ℕ)) (paths : List (List ℕ)) : Type 0 where
  pub path : List ℕ
  pub named : Contains paths path
  pub hangs : (program : List ℕ) → held path ≡ Some program → (steps : List Step) × IsStuckRunWithin long program steps

-- pages that tell the truth of the program at their path
pub record AreTrue (held : List ℕ → Option (List ℕ)) (IsPage : List ℕ → List ℕ → ℕ → Type 0) : Type 0 where
  pub hang : (path page program : List ℕ) → IsPage path page 1 → held path ≡ Some program → (steps : List Step) × IsStuckRunWithin long program steps
  pub safe : (path page program : List ℕ) → IsPage path page 0 → held path ≡ Some program → IsNeverStuckWithin long program

pub decided_true : (held : List ℕ → Option (List ℕ)) (json : Bool) → AreTrue held (IsDecidedIn held json)
decided_true held json = record {
  hang = λ path page program is holds. decided_in_hangs held json path page program is holds;
  safe = λ path page program is holds. decided_in_safe held json path page program is holds;
}

pub explained_true : (held : List ℕ → Option (List ℕ)) (budget : ℕ) (form : Form) → AreTrue held (IsExplainedIn held budget form)
explained_true held budget form = record {
  hang = λ path page program is holds. first_shows (held path) budget form page 1 program is (inl refl) holds;
  safe = λ path page program is holds. first_never (held path) budget form page program is holds;
}

module _ {IsPage : List ℕ → List ℕ → ℕ → Type 0} (tells : Bool) (old new : List ℕ → Option (List ℕ)) (form : Form) (junit : Option (List ℕ))
    (paths : List (List ℕ)) (text : List ℕ) (true_of : AreTrue old IsPage) where
  pub each_hangs : (status : ℕ) → IsOfEach IsPage tells old new form junit paths text status → PageTells text status → HangsOneOf old paths
  each_hangs status each (inl one) =
      elim (one_grave_of IsPage 1 0 paths each.rows each.are (sym each.is_status ∙ one)) [
        | inl never ↦ absurd (omega (arith, never))
        | inr row ↦ record { path = row.path; named = row.named; hangs = λ program holds. true_of.hang row.path row.page program row.is_page holds }
      ]
  each_hangs status each (inr begins) =
      absurd (third_of_files form paths each.rows (ap (λ (t : List ℕ). get_or t 2 0) (sym each.is_text ∙ begins.2) ∙ third_of_deadlock begins.0 begins.1))

  pub each_safe : IsOfEach IsPage tells old new form junit paths text 0 → (path program : List ℕ) → Contains paths path → old path ≡ Some program
      → IsNeverStuckWithin long program
  each_safe each path program named holds =
      let row = (none_grave_of IsPage 0 paths each.rows each.are (sym each.is_status)).1 path named in
      true_of.safe path row.0 program row.1 holds

-- ---- rows of programs, one by one

are_more_of : (IsPage : List ℕ → List ℕ → ℕ → Type 0) (paths : List (List ℕ)) (rows : List Row) (path : List ℕ) (row : Row) → AreRowsOf IsPage paths rows
    → IsPage path row.page row.status → AreRowsOf IsPage (paths ++ path ∷ []) (rows ++ row ∷ [])
are_more_of IsPage [] [] path row are page = (page, tt)
are_more_of IsPage (first ∷ paths) (one ∷ rows) path row are page = (are.0, are_more_of IsPage paths rows path row are.1 page)
are_more_of IsPage [] (one ∷ rows) path row are page = absurd are
are_more_of IsPage (first ∷ paths) [] path row are page = absurd are

rows_more : (IsPage : List ℕ → List ℕ → ℕ → Type 0) (form : Form) (paths : List (List ℕ)) (rows : List Row) (path : List ℕ) (row : Row) → AreRowsOf IsPage paths rows
    → file_rows form (paths ++ path ∷ []) (rows ++ row ∷ []) ≡ file_rows form paths rows ++ file_row form path row.page
rows_more IsPage form [] [] path row are = append-nil (file_row form path row.page)
rows_more IsPage form (first ∷ paths) (one ∷ rows) path row are =
    ap (λ (l : List ℕ). file_row form first one.page ++ l) (rows_more IsPage form paths rows path row are.1)
    ∙ sym (append_assoc (file_row form first one.page) (file_rows form paths rows) (file_row form path row.page))
rows_more IsPage form [] (one ∷ rows) path row are = absurd are
rows_more IsPage form (first ∷ paths) [] path row are = absurd are

cases_more : (IsPage : List ℕ → List ℕ → ℕ → Type 0) (paths : List (List ℕ)) (rows : List Row) (path : List ℕ) (row : Row) → AreRowsOf IsPage paths rows
    → cases_of (paths ++ path ∷ []) (rows ++ row ∷ []) ≡ cases_of paths rows ++ record { name = path; outcome = outcome_of row.status; text = row.page } ∷ []
cases_more IsPage [] [] path row are = refl
cases_more IsPage (first ∷ paths) (one ∷ rows) path row are =
    ap (λ (l : List Case). record { name = first; outcome = outcome_of one.status; text = one.page } ∷ l) (cases_more IsPage paths rows path row are.1)
cases_more IsPage [] (one ∷ rows) path row are = absurd are
cases_more IsPage (first ∷ paths) [] path row are = absurd are

-- the tests of a report have the names of the programs
pub names_are : (IsPage : List ℕ → List ℕ → ℕ → Type 0) (paths : List (List ℕ)) (rows : List Row) → AreRowsOf IsPage paths rows
    → map (λ (c : Case). c.name) (cases_of paths rows) ≡ paths
names_are IsPage [] [] are = refl
names_are IsPage (path ∷ paths) (row ∷ rows) are = ap (λ (l : List (List ℕ)). path ∷ l) (names_are IsPage paths rows are.1)
names_are IsPage [] (row ∷ rows) are = absurd are
names_are IsPage (path ∷ paths) [] are = absurd are

pub none_answered : (IsPage : List ℕ → List ℕ → ℕ → Type 0) (form : Form) (answers : Answers) → answers.text.items ≡ [] → answers.status ≡ 0 → IsOf [] answers.report
    → ArePathsAnswered IsPage form [] answers
none_answered IsPage form answers empty sound is = record { rows = []; are = tt; is_text = empty; is_status = sound; is_report = is }

pub one_answered : (IsPage : List ℕ → List ℕ → ℕ → Type 0) (form : Form) (paths : List (List ℕ)) (path page : List ℕ) (own : ℕ) (answers more : Answers)
    → (far : ArePathsAnswered IsPage form paths answers) → IsPage path page own → more.text.items ≡ answers.text.items ++ file_row form path page
    → more.status ≡ graver answers.status own
    → IsOf (cases_of paths far.rows ++ record { name = path; outcome = outcome_of own; text = page } ∷ []) more.report
    → ArePathsAnswered IsPage form (paths ++ path ∷ []) more
one_answered IsPage form paths path page own answers more far is added graved reported =
    let row : Row = record { page = page; status = own } in
    record {
      rows = far.rows ++ row ∷ [];
      are = are_more_of IsPage paths far.rows path row far.are is;
      is_text = added ∙ ap (λ (l : List ℕ). l ++ file_row form path page) far.is_text ∙ sym (rows_more IsPage form paths far.rows path row far.are);
      is_status = graved ∙ ap (λ (s : ℕ). graver s own) far.is_status ∙ sym (fold-append (λ status row. graver status row.status) 0 far.rows (row ∷ []));
      is_report = subst (λ (cases : List Case). IsOf cases more.report) (sym (cases_more IsPage paths far.rows path row far.are)) reported;
    }

-- so are the first of these programs, and one more
pub next_answered : (IsPage : List ℕ → List ℕ → ℕ → Type 0) (form : Form) (paths : List (Bor (List ℕ))) (index : ℕ) (d : Bor (List ℕ)) (answers : Answers)
    → index < length paths → ArePathsAnswered IsPage form (map (λ p. p.now) (take index paths) ++ (get_or paths index d).now ∷ []) answers
    → ArePathsAnswered IsPage form (map (λ p. p.now) (take (index + 1) paths)) answers
next_answered IsPage form paths index d answers low told =
    subst (λ (ps : List (List ℕ)). ArePathsAnswered IsPage form ps answers)
    (sym (ap (map (λ (p : Bor (List ℕ)). p.now)) (take_more paths index d low)
    ∙ map-append (λ (p : Bor (List ℕ)). p.now) (take index paths) (get_or paths index d ∷ []))) told

pub reported : (IsPage : List ℕ → List ℕ → ℕ → Type 0) (tells : Bool) (old new : List ℕ → Option (List ℕ)) (form : Form) (junit : Option (List ℕ))
    (paths : List (List ℕ)) (answers : Answers) (r : Result Page Stop) → (far : ArePathsAnswered IsPage form paths answers)
    → IfOk r (λ page. page.text.items ≡ answers.text.items) → IfOk r (λ page. page.status ≡ answers.status)
    → OnOk r (IsWritten tells old new junit (report_text (cases_of paths far.rows)))
    → IfOk r (λ page. IsOfEach IsPage tells old new form junit paths page.text.items page.status)
reported IsPage tells old new form junit paths answers (Ok page) far same_text same_status written =
    record { rows = far.rows; are = far.are; is_text = same_text ∙ far.is_text; is_status = same_status ∙ far.is_status; reported = written }
reported IsPage tells old new form junit paths answers (Err stop) far same_text same_status written = same_text

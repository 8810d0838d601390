-- The law of runs for several programs.
use Rattle.std.proofs.Common.{◌≡◌, ◌≢◌, ◌⊎◌, ◌<◌, arith, ap, inl, inr, refl, map, ℕ, List, Bool, Some, Option}
use Rattle.std.specs.Prelude.{IsTrue}
use Rattle.clap.specs.Words.{Text}
use Rattle.options.specs.declared.form.Form.{Form}
use Rattle.junit.specs.Report.{Case, report_text}
use Rattle.session.specs.Endings.{EndsSeveral, FailsEarly}
use Rattle.session.specs.Pages.{ChangesAtMost}
use Rattle.session.specs.Runs.{SessionRun}
use Rattle.session.specs.Several.{IsOfEach, beside_each, beside_several, cases_of}
use Rattle.session.specs.Sweeping.{form_of_answer}
use Rattle.session.specs.SweepLaws.{EachRunIsRight}
use Rattle.session.proofs.PhaseLaws.{file_kept, task_or_same}
use Rattle.session.proofs.RunLaws.{page_printed}
use Rattle.session.proofs.SeveralPages.{decided_true, each_hangs, each_safe, explained_true, names_are}
use Rattle.session.proofs.TaskEnds.{task_ends}

-- a run with a status below 4 ended by its page
each_end : (run : SessionRun) (beside : Bool) (told : List ℕ) {X : Type 0} {Y : Type 0} → EndsSeveral run beside told (X × Y) ⊎ FailsEarly run → run.status < 4 → Y
each_end run beside told (inl (inl (stands, same, complains))) low = absurd (omega (arith, complains.0, low))
each_end run beside told (inl (inr (alone, ends))) low = ends.1
each_end run beside told (inr fails) low = absurd (omega (arith, fails.0, low))

kept : (run : SessionRun) (beside : Bool) (told : List ℕ) (junit : Option (List ℕ)) {Y : Type 0} (path : List ℕ)
    → EndsSeveral run beside told (ChangesAtMost junit run.before run.after × Y) ⊎ (run.after ≡ run.before) → junit ≢ Some path → run.after path ≡ run.before path
kept run beside told junit path (inl (inl (stands, same, complains))) other = ap (λ (held : List ℕ → Option (List ℕ)). held path) same
kept run beside told junit path (inl (inr (alone, ends))) other = file_kept junit run.before run.after path ends.0 other
kept run beside told junit path (inr same) other = ap (λ (held : List ℕ → Option (List ℕ)). held path) same

-- the report that a page has
report_of : (run : SessionRun) {IsPage : List ℕ → List ℕ → ℕ → Type 0} (programs : List Text) (file : Text) {form : Form} (text : List ℕ) (status : ℕ)
    → IsOfEach IsPage run.tells.writes run.before run.after form (Some file) programs text status → IsTrue run.tells.writes
    → (cases : List Case) × (map (λ (c : Case). c.name) cases ≡ programs) × (run.after file ≡ Some (report_text cases))
report_of run {IsPage = IsPage} programs file text status each writes =
    (cases_of programs each.rows, names_are IsPage programs each.rows each.are, each.reported writes)

pub each_run : EachRunIsRight
each_run = record {
  safe = λ run programs junit path program ends asks zero named held. elim asks [
    | inl decides ↦
        let page = page_printed 0 (omega arith) (inl (each_end run decides.0 beside_several (task_ends run ends decides.2) (omega (arith, zero)))) zero in
        each_safe run.tells.writes run.before run.after (form_of_answer decides.1) junit programs page.0 (decided_true run.before decides.1) page.1 path program named held
    | inr explains ↦
        let page = page_printed 0 (omega arith) (inl (each_end run explains.4 beside_each (task_ends run ends explains.5) (omega (arith, zero)))) zero in
        each_safe run.tells.writes run.before run.after explains.3 junit programs page.0 (explained_true run.before explains.2 explains.3) page.1 path program named held
  ];
  stuck = λ run programs junit ends asks one. elim asks [
    | inl decides ↦
        let page = page_printed 1 (omega arith) (inl (each_end run decides.0 beside_several (task_ends run ends decides.2) (omega (arith, one)))) one in
        let hangs = each_hangs run.tells.writes run.before run.after (form_of_answer decides.1) junit programs page.0 (decided_true run.before decides.1) 1 page.1 (inl refl) in
        (hangs.path, hangs.named, hangs.hangs)
    | inr explains ↦
        let page = page_printed 1 (omega arith) (inl (each_end run explains.4 beside_each (task_ends run ends explains.5) (omega (arith, one)))) one in
        let hangs = each_hangs run.tells.writes run.before run.after explains.3 junit programs page.0 (explained_true run.before explains.2 explains.3) 1 page.1 (inl refl) in
        (hangs.path, hangs.named, hangs.hangs)
  ];
  reported = λ run programs file ends asks writes low. elim asks [
    | inl decides ↦
        let page = page_printed run.status low (inl (each_end run decides.0 beside_several (task_ends run ends decides.2) low)) refl in
        report_of run programs file page.0 run.status page.1 writes
    | inr explains ↦
        let page = page_printed run.status low (inl (each_end run explains.4 beside_each (task_ends run ends explains.5) low)) refl in
        report_of run programs file page.0 run.status page.1 writes
  ];
  others = λ run programs junit path ends asks other. elim asks [
    | inl decides ↦ kept run decides.0 beside_several junit path (task_or_same run ends decides.2) other
    | inr explains ↦ kept run explains.4 beside_each junit path (task_or_same run ends explains.5) other
  ];
}

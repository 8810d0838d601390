-- A command ends by its page, by want of memory or by a file that failed.
use Rattle.std.proofs.Common.{◌≡◌, IfErr, IfOk, ℕ, List, Bool, Result, Ok, Err, subst}
use Rattle.session.specs.parts.Pages.{StopsBy}
use Rattle.session.specs.parts.Runs.{Finishes, on_outputs}
use Rattle.session.specs.Runs.{Ends, SessionRun, by_file, by_memory, by_page}
use Rattle.session.specs.declared.commands.Stop.{Stop}
use Rattle.session.specs.declared.commands.Stop.TheVariants as stop
use Rattle.session.specs.declared.page.Page.{Page}
use Rattle.session.specs.declared.page.Want.{Want}

pub ended : {run : SessionRun} {IsPage : List ℕ → ℕ → Type 0} {IsFile : List ℕ → Type 0} {w : Want} {json : Bool} (page : Result Page Stop)
    → IfOk page (λ p. IsPage p.text.items p.status) → IfErr page (StopsBy IsFile run.before run.after)
    → Finishes (on_outputs run.out_before run.out_after run.errors_before run.errors_after run.status) page w json → Ends run IsPage IsFile w json
ended (Ok page) is stops ends = by_page page.text.items page.status is ends
ended (Err stop.Memory) is stops ends = by_memory stops ends
ended (Err (stop.File path)) is stops ends = by_file path.now stops ends

-- the same, where what is wanted and the form are known by equations
pub ended_as : {run : SessionRun} {IsPage : List ℕ → ℕ → Type 0} {IsFile : List ℕ → Type 0} {w v : Want} {json object : Bool} (page : Result Page Stop)
    → w ≡ v → json ≡ object → IfOk page (λ p. IsPage p.text.items p.status) → IfErr page (StopsBy IsFile run.before run.after)
    → Finishes (on_outputs run.out_before run.out_after run.errors_before run.errors_after run.status) page w json → Ends run IsPage IsFile v object
ended_as {run = run} {IsPage = IsPage} {IsFile = IsFile} {w = w} {object = object} page wanted formed is stops ends =
    subst (λ (x : Want). Ends run IsPage IsFile x object) wanted
    (subst (λ (j : Bool). Ends run IsPage IsFile w j) formed (ended page is stops ends))

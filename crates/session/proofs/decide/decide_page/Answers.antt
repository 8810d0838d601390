-- The page tells what is decided of the whole program.
use Rattle.std.proofs.Common.{◌≡◌, ◌∙◌, IfErr, IfOk, OnOk, Bool, List, ℕ, Result, Ok, Err, inl, inr, Some, true, false, option_map, subst, sym}
use Rattle.std.specs.Prelude.{Option}
use Rattle.files.specs.Contents.{AreAll}
use Rattle.deciding.specs.Decisions.{IsDecided}
use Rattle.deciding.specs.declared.decision.Decision.{Decision}
use Rattle.deciding.specs.declared.decision.Decision.TheVariants as decisions
use Rattle.deciding.specs.declared.texts.Undecided.{Undecided}
use Rattle.session.specs.Endings.{IsFollowedRun}
use Rattle.session.specs.parts.Pages.{IsScheduleFile, StopsBy}
use Rattle.session.specs.Pages.{IsDecideFile, IsDecidedPage, IsDecisionPage, IsScheduled}
use Rattle.session.specs.declared.commands.Stop.{Stop}
use Rattle.session.specs.declared.commands.Stop.TheVariants as stop
use Rattle.session.specs.declared.page.Page.{Page}
use Rattle.session.proofs.decide.decide_page.Goals as goal

page_decided : (tells : Bool) (old between new : List ℕ → Option (List ℕ)) (path : List ℕ) (out : Option (List ℕ)) (json : Bool) (program : List ℕ) (d : Result Decision Undecided)
    (page : Result Page Stop) → between ≡ old → AreAll (old path) program → IsDecided program d → OnOk page (IsScheduled tells between new out d)
    → IfOk page (λ p. IsDecisionPage json program d p.text.items p.status) → IfOk page (λ p. IsDecidedPage tells old new path out json p.text.items p.status)
page_decided tells old between new path out json program d (Ok p) same all is scheduled told =
    (program, d, all, is, subst (λ (held : List ℕ → Option (List ℕ)). IsScheduled tells held new out d) same scheduled, told)
page_decided tells old between new path out json program d (Err e) same all is scheduled told = told

file_decided : (reads : List ℕ → Bool) (old new : List ℕ → Option (List ℕ)) (path : List ℕ) (out : Option (List ℕ)) (program : List ℕ) (d : Result Decision Undecided) (file : List ℕ)
    → AreAll (old path) program → IsDecided program d → IsScheduleFile d out file → IsDecideFile reads path out old new file
file_decided reads old new path out program (Ok decisions.NoDeadlock) file all is named = absurd named
file_decided reads old new path out program (Ok (decisions.Deadlock steps)) file all is named = inr (named, (program, steps.items, all, is))
file_decided reads old new path out program (Ok (decisions.Race race)) file all is named = absurd named
file_decided reads old new path out program (Err why) file all is named = absurd named

stops_decided : (reads : List ℕ → Bool) (old between new : List ℕ → Option (List ℕ)) (path : List ℕ) (out : Option (List ℕ)) (program : List ℕ) (d : Result Decision Undecided)
    (page : Result Page Stop) → between ≡ old → AreAll (old path) program → IsDecided program d → IfErr page (StopsBy (IsScheduleFile d out) between new)
    → IfErr page (StopsBy (IsDecideFile reads path out old new) old new)
stops_decided reads old between new path out program d (Ok p) same all is stops = stops
stops_decided reads old between new path out program d (Err stop.Memory) same all is stops = stops ∙ same
stops_decided reads old between new path out program d (Err (stop.File file)) same all is stops = file_decided reads old new path out program d file.now all is stops

pub returns-clause-page : goal.returns-clause-page
returns-clause-page g c =
    let held = g.F.FileSet.held c.args.files.now in
    page_decided g.F.FileSet.tells_written held (g.F.FileSet.held c.read_whole.new.files) (g.F.FileSet.held c.decision_page.new.files) c.args.asked.program.now
    (option_map (λ path. path.now) c.args.asked.out) c.args.asked.json c.deref.result.now c.decide_text-decision.result c.decision_page.result
    c.in_ok-text.ensures.same (subst (AreAll (held c.args.asked.program.now)) (sym c.deref.ensures.value) c.in_ok-text.ensures.bytes)
    c.decide_text-decision.ensures.decided c.decision_page.ensures.scheduled
    (subst (λ (bytes : List ℕ). IfOk c.decision_page.result (λ p. IsDecisionPage c.args.asked.json bytes c.decide_text-decision.result p.text.items p.status))
    (c.deref-2.ensures.value ∙ sym c.deref.ensures.value) c.decision_page.ensures.page)

pub returns-clause-stop : goal.returns-clause-stop
returns-clause-stop g c =
    let held = g.F.FileSet.held c.args.files.now in
    stops_decided (g.F.FileSet.reads c.args.files.now) held (g.F.FileSet.held c.read_whole.new.files) (g.F.FileSet.held c.decision_page.new.files) c.args.asked.program.now
    (option_map (λ path. path.now) c.args.asked.out) c.deref.result.now c.decide_text-decision.result c.decision_page.result
    c.in_ok-text.ensures.same (subst (AreAll (held c.args.asked.program.now)) (sym c.deref.ensures.value) c.in_ok-text.ensures.bytes)
    c.decide_text-decision.ensures.decided c.decision_page.ensures.stop

followed_decided : (progress : Bool) (file : Option (List ℕ)) (text : List ℕ) (told_old told_new : Option (List ℕ)) → AreAll file text
    → IsFollowedRun progress (Some text) told_old told_new → IsFollowedRun progress file told_old told_new
followed_decided true file text told_old told_new all (inl none) = inl none
followed_decided true file text told_old told_new all (inr told) =
    inr (told.0, subst (AreAll file) (sym told.1) all, told.2)
followed_decided false file text told_old told_new all none = none

pub returns-clause-followed : goal.returns-clause-followed
returns-clause-followed g c =
    let held = g.F.FileSet.held c.args.files.now in
    followed_decided c.args.asked.progress (held c.args.asked.program.now) c.deref.result.now _ _
    (subst (AreAll (held c.args.asked.program.now)) (sym c.deref.ensures.value) c.in_ok-text.ensures.bytes) c.decide_text-decision.ensures.followed

-- One program more, until the last.
use Rattle.std.proofs.Common.{◌∙◌, ◌+◌, ◌≤◌, [], get_or, length, map, subst, sym, take, ℕ, List, Option}
use Rattle.std.specs.Prelude.{OnOk}
use Rattle.std.proofs.lemmas.List.{take_all}
use Rattle.std.specs.Borrow.{Bor}
use Rattle.session.specs.Several.{ArePathsAnswered, IsExplainedIn, cases_of}
use Rattle.junit.specs.Report.{report_text}
use Rattle.command_line.specs.Requests.{path_of}
use Rattle.session.specs.Pages.{IsWritten}
use Rattle.session.proofs.SeveralPages.{next_answered, one_answered, reported}
use Rattle.session.proofs.several.explain_each_page.Goals as goal

pub loop-path-preserved : goal.loop-path-preserved
loop-path-preserved g c =
    let held = g.F.FileSet.held c.args.files.now in
    let page = c.in_ok-page.page in
    let programs = c.deref-path-items.result.now in
    let index = c.loop-path.path-index in
    let none : Bor (List ℕ) = record { ref_ptr = (0, 0); now = [] } in
    let path : Bor (List ℕ) = get_or programs index none in
    let budget = c.args.asked.now.options.budget in
    let form = c.args.asked.now.form in
    let same = sym c.deref-path-items.ensures.value in
    let far = subst (λ (l : List (Bor (List ℕ))). ArePathsAnswered (IsExplainedIn held budget form) form (map (λ p. p.now) (take index l)) c.loop-path.answers) same c.loop-path.invariant.2 in
    let paths = map (λ (p : Bor (List ℕ)). p.now) (take index programs) in (
      c.in_ok-page.ensures.same ∙ c.loop-path.invariant.0,
      c.in_ok-page.ensures.same_reads ∙ c.loop-path.invariant.1,
      subst (λ (l : List (Bor (List ℕ))). ArePathsAnswered (IsExplainedIn held budget form) form (map (λ p. p.now) (take (index + 1) l)) c.add.new.self) (sym same)
          (next_answered (IsExplainedIn held budget form) form programs index none c.add.new.self c.loop-path-test.true
          (one_answered (IsExplainedIn held budget form) form paths path.now page.text.items page.status c.loop-path.answers c.add.new.self far
          (subst (λ (files : List ℕ → Option (List ℕ)). IsExplainedIn files budget form path.now page.text.items page.status) c.loop-path.invariant.0 c.in_ok-page.ensures.page)
          c.in_ok-add.ensures.text c.in_ok-add.ensures.status (c.in_ok-add.ensures.report (cases_of paths far.rows) far.is_report))),
    )

pub returns-clause-page : goal.returns-clause-page
returns-clause-page g c =
    let held = g.F.FileSet.held c.args.files.now in
    let new = g.F.FileSet.held c.reported_page.new.files in
    let items = c.args.asked.now.programs.items in
    let junit = path_of c.args.asked.now.junit in
    let index = c.loop-path.path-index in
    let budget = c.args.asked.now.options.budget in
    let form = c.args.asked.now.form in
    let long_enough = subst (λ (l : List (Bor (List ℕ))). length l ≤ index) c.deref-path-items.ensures.value c.loop-path-test.false in
    let far = subst (λ (l : List (Bor (List ℕ))). ArePathsAnswered (IsExplainedIn held budget form) form (map (λ p. p.now) l) c.loop-path.answers) (take_all index items long_enough) c.loop-path.invariant.2 in
    let cases = cases_of (map (λ (p : Bor (List ℕ)). p.now) items) far.rows in
    reported (IsExplainedIn held budget form) g.F.FileSet.tells_written held new form junit (map (λ (p : Bor (List ℕ)). p.now) items) c.loop-path.answers c.reported_page.result far
    c.reported_page.ensures.text c.reported_page.ensures.status
    (subst (λ (files : List ℕ → Option (List ℕ)). OnOk c.reported_page.result (IsWritten g.F.FileSet.tells_written files new junit (report_text cases))) c.loop-path.invariant.0
    (c.reported_page.ensures.written cases far.is_report))

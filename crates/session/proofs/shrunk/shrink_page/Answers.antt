-- Where a program was made smaller, its text is told or written, or its file failed.
use Rattle.std.proofs.Common.{◌≡◌, ◌∙◌, IfErr, IfOk, OnOk, Bool, ℕ, List, Result, Ok, Err, inl, inr, sym, subst}
use Rattle.std.specs.Prelude.{Option}
use Rattle.files.specs.Contents.{AreAll}
use Rattle.shrinking.specs.declared.halving.NotShrunkLong.{NotShrunkLong}
use Rattle.shrinking.specs.declared.halving.NotShrunkLong.TheVariants as unshrunk
use Rattle.shrinking.specs.Left.{AreLeft}
use Rattle.shrinking.specs.Mapping.{map_text}
use Rattle.command_line.specs.Requests.{path_of}
use Rattle.session.specs.parts.Pages.{StopsBy}
use Rattle.session.specs.parts.Shrinking.{IsNotSmaller, IsUnshrunkPage}
use Rattle.session.specs.Shrinking.{AreWritten, Hangs, IsMadeSmaller, IsShrinkFile, IsShrunkTo, IsSmaller, IsSmallerPage}
use Rattle.session.specs.Unrolling.{IsNamedPath}
use Rattle.session.specs.declared.commands.Stop.{Stop}
use Rattle.session.specs.declared.commands.Stop.TheVariants as stop
use Rattle.session.specs.declared.page.Page.{Page}
use Rattle.session.proofs.SmallerPrograms.{smaller_hangs}
use Rattle.session.proofs.shrunk.shrink_page.Goals as goal

-- the page of a smaller program
page_written : (tells : Bool) (old between new : List ℕ → Option (List ℕ)) (path : List ℕ) (out map : Option (List ℕ)) (program smaller lines : List ℕ) (page : Result Page Stop)
    → between ≡ old → AreAll (old path) program → IsSmaller program smaller → AreLeft program smaller lines
    → OnOk page (AreWritten tells between new out map smaller (map_text path smaller lines))
    → IfOk page (λ p. IsSmallerPage out smaller lines p.text.items) → IfOk page (λ p. p.status ≡ 1)
    → IfOk page (λ p. IsMadeSmaller tells old new path out map p.text.items p.status)
page_written tells old between new path out map program smaller lines (Ok p) same all shrunk left written is status = (
  program,
  all,
  inl (record {
    smaller = smaller;
    lines = lines;
    is = shrunk;
    left = left;
    written = subst (λ (held : List ℕ → Option (List ℕ)). AreWritten tells held new out map smaller (map_text path smaller lines)) same written;
    page = is;
    one = status;
  }),
)
page_written tells old between new path out map program smaller lines (Err e) same all shrunk left written is status = is

-- a file that failed after that
stops_written : (reads : List ℕ → Bool) (old between new : List ℕ → Option (List ℕ)) (path : List ℕ) (out map : Option (List ℕ)) (program : List ℕ) (page : Result Page Stop)
    → between ≡ old → AreAll (old path) program → Hangs program → IfErr page (StopsBy (IsNamedPath out map) between new)
    → IfErr page (StopsBy (IsShrinkFile reads path out map old new) old new)
stops_written reads old between new path out map program (Ok p) same all hangs stops = stops
stops_written reads old between new path out map program (Err stop.Memory) same all hangs stops = stops ∙ same
stops_written reads old between new path out map program (Err (stop.File file)) same all hangs stops = inr (stops, (program, all, hangs))

-- and where there is none
untold : (tells : Bool) (old between : List ℕ → Option (List ℕ)) (path : List ℕ) (out map : Option (List ℕ)) (program : List ℕ) (why : NotShrunkLong) (text : List ℕ) (status : ℕ)
    → between ≡ old → IsNotSmaller program why → IsUnshrunkPage why text status → IsShrunkTo tells old between path out map program text status
untold tells old between path out map program unshrunk.NothingHangs text status same is page = inr (inl (is, same, page.0, page.1))
untold tells old between path out map program (unshrunk.Undecided why) text status same is page = inr (inr (why, is, same, page))

pub returns-in-Ok-clause-page : goal.returns-in-Ok-clause-page
returns-in-Ok-clause-page g c =
    let held = g.F.FileSet.held c.args.files.now in
    let asked = c.args.asked in
    let shrunk = c.in-Ok.shrunk in
    let all = subst (AreAll (held asked.program.now)) (sym c.deref.ensures.value) c.in_ok-text.ensures.bytes in
    page_written g.F.FileSet.tells_written held (g.F.FileSet.held c.read_whole.new.files) (g.F.FileSet.held c.smaller_page.new.files) asked.program.now
    (path_of asked.out) (path_of asked.map) c.deref.result.now shrunk.text.items shrunk.lines.items c.smaller_page.result c.in_ok-text.ensures.same all
    c.in-Ok.ensures.smaller c.in-Ok.ensures.left c.smaller_page.ensures.written c.smaller_page.ensures.page c.smaller_page.ensures.status

pub returns-in-Ok-clause-stop : goal.returns-in-Ok-clause-stop
returns-in-Ok-clause-stop g c =
    let held = g.F.FileSet.held c.args.files.now in
    let asked = c.args.asked in
    let all = subst (AreAll (held asked.program.now)) (sym c.deref.ensures.value) c.in_ok-text.ensures.bytes in
    stops_written (g.F.FileSet.reads c.args.files.now) held (g.F.FileSet.held c.read_whole.new.files) (g.F.FileSet.held c.smaller_page.new.files)
    asked.program.now (path_of asked.out) (path_of asked.map) c.deref.result.now c.smaller_page.result c.in_ok-text.ensures.same all
    (smaller_hangs c.deref.result.now c.in-Ok.shrunk.text.items c.in-Ok.ensures.smaller) c.smaller_page.ensures.stop

pub returns-clause-page : goal.returns-clause-page
returns-clause-page g c =
    let held = g.F.FileSet.held c.args.files.now in
    let asked = c.args.asked in
    let page = c.in_ok-unshrunk_page-in-Err.field-0 in (
      c.deref.result.now,
      subst (AreAll (held asked.program.now)) (sym c.deref.ensures.value) c.in_ok-text.ensures.bytes,
      untold g.F.FileSet.tells_written held (g.F.FileSet.held c.read_whole.new.files) asked.program.now (path_of asked.out) (path_of asked.map) c.deref.result.now
          c.in-Err.why page.text.items page.status c.in_ok-text.ensures.same c.in-Err.ensures.why c.in_ok-unshrunk_page-in-Err.ensures,
    )

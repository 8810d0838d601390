-- What inner functions promise one another, beside `specs/Runs.antt`.
use Rattle.std.specs.Prelude.{ℕ, Bool, false, List, [], Option, None, Result, Ok, Err}
use Rattle.session.specs.Lines.{file_line, memory_line}
use Rattle.session.specs.declared.commands.Stop.{Stop}
use Rattle.session.specs.declared.commands.Stop.TheVariants as stop
use Rattle.session.specs.declared.page.Page.{Page}
use Rattle.session.specs.declared.page.Want.{Want}
use Rattle.session.specs.Runs.{Complains, PrintsAlone, SessionRun}

-- a run of which the outputs and the status alone matter, without words and files
abbrev pub on_outputs : Option (List ℕ) → Option (List ℕ) → Option (List ℕ) → Option (List ℕ) → ℕ → SessionRun
on_outputs out_before out_after errors_before errors_after status = record {
  words = [];
  tells = record { writes = false; reads = λ path. false; terminal = false };
  before = λ path. None;
  after = λ path. None;
  out_before = out_before;
  out_after = out_after;
  errors_before = errors_before;
  errors_after = errors_after;
  status = status;
}

-- a page is printed; or want of memory is told, with the status 4; or which file failed is told on
-- standard error, with the status 5
abbrev pub Finishes : SessionRun → Result Page Stop → Want → Bool → Type 0
Finishes run (Ok page) want json = PrintsAlone run page.text.items page.status
Finishes run (Err stop.Memory) want json = PrintsAlone run (memory_line want json) 4
Finishes run (Err (stop.File path)) want json = Complains run (file_line path.now) 5

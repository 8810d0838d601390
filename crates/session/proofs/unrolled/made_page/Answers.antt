-- The program is handed over, and then its map.
use Rattle.std.proofs.Common.{◌∙◌, ℕ, List, Some, refl, sym, subst, ap}
use Rattle.std.specs.Prelude.{Option}
use Rattle.std.specs.Borrow.{Bor}
use Rattle.command_line.specs.Requests.{path_of}
use Rattle.session.specs.Pages.{IsWritten}
use Rattle.session.proofs.unrolled.made_page.Goals as goal

pub returns-in_ok-write_map-in-None-clause-written : goal.returns-in_ok-write_map-in-None-clause-written
returns-in_ok-write_map-in-None-clause-written g c =
    let held = g.F.FileSet.held c.args.files.now in (
      held,
      subst (λ (out : Option (Bor (List ℕ))). IsWritten g.F.FileSet.tells_written held held (path_of out) c.args.made.program.items) (sym c.in-None.is) refl,
      c.write_map.ensures.others,
      c.in_ok-write_map-in-None.ensures.written,
    )

pub returns-in_ok-write_map-in-Some-clause-written : goal.returns-in_ok-write_map-in-Some-clause-written
returns-in_ok-write_map-in-Some-clause-written g c =
    let held = g.F.FileSet.held c.args.files.now in
    let between = g.F.FileSet.held c.write-in-Some.new.files in (
      between,
      subst (λ (out : Option (Bor (List ℕ))). IsWritten g.F.FileSet.tells_written held between (path_of out) c.args.made.program.items) (sym c.in-Some.is)
          (λ tells. c.in_ok-write-in-Some.ensures.taken tells ∙ ap Some c.of.ensures),
      c.write_map-in-Some.ensures.others,
      c.in_ok-write_map-in-Some.ensures.written,
    )

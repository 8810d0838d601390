-- What a text is unrolled to is handed over; or what is wrong with it is told.
use Rattle.std.proofs.Common.{◌≡◌, ◌∙◌, IfErr, IfOk, OnOk, Bool, ℕ, List, Result, Ok, Err, Some, None, inl, inr, refl, sym, subst, option_map, map}
use Rattle.std.specs.Prelude.{Option, is_some}
use Rattle.std.specs.Borrow.{Bor}
use Rattle.files.specs.Contents.{AreAll}
use Rattle.command_line.specs.Requests.{path_of}
use Rattle.spmd_program.specs.Unrolling.{IsRefusal, IsUnrolling, TellsRefusal}
use Rattle.session.specs.parts.Pages.{StopsBy}
use Rattle.session.specs.Unrolling.{AreWritten, IsNamedPath, IsProgramPage, IsUnrollFile, IsUnrolledPage}
use Rattle.session.specs.declared.commands.Stop.{Stop}
use Rattle.session.specs.declared.commands.Stop.TheVariants as stop
use Rattle.session.specs.declared.page.Page.{Page}
use Rattle.session.proofs.unrolled.unroll_page.Goals as goal

some_path : (path : Option (Bor (List ℕ))) → is_some (path_of path) ≡ is_some path
some_path None = refl
some_path (Some path) = refl

-- what was unrolled, by the settings and the map that are asked for
unrolled_as : (path source : List ℕ) (ranks : ℕ) (given settings : List (Bor (List ℕ))) (barriers mapped : Bool) (map_path : Option (Bor (List ℕ))) (program : List ℕ) (made : Option (List ℕ))
    → given ≡ settings → mapped ≡ is_some map_path → IsUnrolling path source ranks (map (λ s. s.now) given) barriers mapped program made
    → IsUnrolling path source ranks (map (λ s. s.now) settings) barriers (is_some (path_of map_path)) program made
unrolled_as path source ranks given settings barriers mapped map_path program made same some is =
    subst (λ (m : Bool). IsUnrolling path source ranks (map (λ s. s.now) settings) barriers m program made) (some ∙ sym (some_path map_path))
    (subst (λ (ss : List (Bor (List ℕ))). IsUnrolling path source ranks (map (λ s. s.now) ss) barriers mapped program made) same is)

-- the page of a text that is unrolled
page_made : (tells : Bool) (old between new : List ℕ → Option (List ℕ)) (path : List ℕ) (ranks : ℕ) (settings : List (List ℕ)) (barriers : Bool) (out map : Option (List ℕ)) (source program : List ℕ) (made : Option (List ℕ))
    (page : Result Page Stop) → between ≡ old → AreAll (old path) source → IsUnrolling path source ranks settings barriers (is_some map) program made
    → IfOk page (λ p. IsProgramPage out program p.text.items) → IfOk page (λ p. p.status ≡ 0) → OnOk page (AreWritten tells between new out map program made)
    → IfOk page (λ p. IsUnrolledPage tells old new path ranks settings barriers out map p.text.items p.status)
page_made tells old between new path ranks settings barriers out map source program made (Ok p) same all is text status written = (
  source,
  all,
  inl (
    record {
      program = program;
      made = made;
      unrolled = is;
      written = subst (λ (held : List ℕ → Option (List ℕ)). AreWritten tells held new out map program made) same written;
      page = text;
    },
    status,
  ),
)
page_made tells old between new path ranks settings barriers out map source program made (Err e) same all is text status written = text

-- a file that failed after that
stops_made : (reads : List ℕ → Bool) (old between new : List ℕ → Option (List ℕ)) (path : List ℕ) (ranks : ℕ) (settings : List (List ℕ)) (barriers : Bool) (out map : Option (List ℕ)) (source program : List ℕ) (made : Option (List ℕ))
    (page : Result Page Stop) → between ≡ old → AreAll (old path) source → IsUnrolling path source ranks settings barriers (is_some map) program made
    → IfErr page (StopsBy (IsNamedPath out map) between new) → IfErr page (StopsBy (IsUnrollFile reads path ranks settings barriers out map old new) old new)
stops_made reads old between new path ranks settings barriers out map source program made (Ok p) same all is stops = stops
stops_made reads old between new path ranks settings barriers out map source program made (Err stop.Memory) same all is stops = stops ∙ same
stops_made reads old between new path ranks settings barriers out map source program made (Err (stop.File file)) same all is stops = inr (stops, (source, program, made, all, is))

pub returns-in-Ok-clause-page : goal.returns-in-Ok-clause-page
returns-in-Ok-clause-page g c =
    let held = g.F.FileSet.held c.args.files.now in
    let asked = c.args.asked.now in
    let all = subst (AreAll (held asked.program.now)) (sym c.deref.ensures.value) c.in_ok-source.ensures.bytes in
    page_made g.F.FileSet.tells_written held (g.F.FileSet.held c.read_whole.new.files) (g.F.FileSet.held c.made_page.new.files) asked.program.now asked.ranks
    (map (λ s. s.now) asked.settings.items) c.args.barriers (path_of asked.out) (path_of asked.map) c.deref.result.now c.in-Ok.made.program.items
    (option_map (λ m. m.items) c.in-Ok.made.map) c.made_page.result c.in_ok-source.ensures.same all (unrolled_as asked.program.now c.deref.result.now asked.ranks c.deref-2.result.now asked.settings.items c.args.barriers c.is_some.result asked.map
    c.in-Ok.made.program.items (option_map (λ m. m.items) c.in-Ok.made.map) c.deref-2.ensures.value c.is_some.ensures c.in-Ok.ensures.unrolled) c.made_page.ensures.page c.made_page.ensures.status c.made_page.ensures.written

pub returns-in-Ok-clause-stop : goal.returns-in-Ok-clause-stop
returns-in-Ok-clause-stop g c =
    let held = g.F.FileSet.held c.args.files.now in
    let asked = c.args.asked.now in
    let all = subst (AreAll (held asked.program.now)) (sym c.deref.ensures.value) c.in_ok-source.ensures.bytes in
    stops_made (g.F.FileSet.reads c.args.files.now) held (g.F.FileSet.held c.read_whole.new.files) (g.F.FileSet.held c.made_page.new.files) asked.program.now asked.ranks
    (map (λ s. s.now) asked.settings.items) c.args.barriers (path_of asked.out) (path_of asked.map) c.deref.result.now c.in-Ok.made.program.items
    (option_map (λ m. m.items) c.in-Ok.made.map) c.made_page.result c.in_ok-source.ensures.same all (unrolled_as asked.program.now c.deref.result.now asked.ranks c.deref-2.result.now asked.settings.items c.args.barriers c.is_some.result asked.map
    c.in-Ok.made.program.items (option_map (λ m. m.items) c.in-Ok.made.map) c.deref-2.ensures.value c.is_some.ensures c.in-Ok.ensures.unrolled) c.made_page.ensures.stop

pub returns-clause-page : goal.returns-clause-page
returns-clause-page g c =
    let held = g.F.FileSet.held c.args.files.now in
    let asked = c.args.asked.now in
    let page = c.in_ok-refused_page-in-Err-Refused.field-0 in (
      c.deref.result.now,
      subst (AreAll (held asked.program.now)) (sym c.deref.ensures.value) c.in_ok-source.ensures.bytes,
      inr (
        c.deref-in-Err-Refused.result.now,
        subst (λ (t : List ℕ). IsRefusal asked.program.now c.deref.result.now asked.ranks (map (λ s. s.now) asked.settings.items) c.args.barriers t)
            (sym c.deref-in-Err-Refused.ensures.value)
            (subst (λ (ss : List (Bor (List ℕ))). IsRefusal asked.program.now c.deref.result.now asked.ranks (map (λ s. s.now) ss) c.args.barriers c.in-Err-Refused.told.items)
            c.deref-2.ensures.value
            (subst (TellsRefusal (IsRefusal asked.program.now c.deref.result.now asked.ranks (map (λ s. s.now) c.deref-2.result.now) c.args.barriers)) c.in-Err-Refused.field-0-is
            c.in-Err-Refused.ensures.refused)),
        c.in_ok-source.ensures.same,
        c.in_ok-refused_page-in-Err-Refused.ensures.text,
        c.in_ok-refused_page-in-Err-Refused.ensures.status,
      ),
    )

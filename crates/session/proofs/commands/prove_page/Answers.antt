-- The answer is one to the whole program, and where the program's file failed, nothing was told.
use Rattle.std.proofs.Common.{◌≡◌, ◌∙◌, IfErr, IfOk, OnOk, Bool, true, false, ℕ, List, Result, Ok, Err, inl, inr, option_map, refl, subst, sym}
use Rattle.std.specs.Prelude.{Option}
use Rattle.prover.specs.Answers.{IsAnswer, FinishesIfUnknown}
use Rattle.prover.specs.declared.answer.Answer.{Answer}
use Rattle.progress.proofs.Tellings.{none_told}
use Rattle.session.specs.Endings.{IsFollowed}
use Rattle.session.specs.Lines.{IsLine, told_of_answer}
use Rattle.session.specs.parts.Pages.{IsEvidenceFile, StopsBy}
use Rattle.session.specs.Pages.{IsHandedOut, IsProveFile, IsProved}
use Rattle.session.specs.parts.Texts.{AreAlikePrograms, StandsFor}
use Rattle.session.specs.declared.commands.Stop.{Stop}
use Rattle.session.specs.declared.commands.Stop.TheVariants as stop
use Rattle.session.specs.declared.page.Page.{Page}
use Rattle.session.proofs.WholeAnswers.{whole_answer, whole_finish}
use Rattle.session.proofs.commands.prove_page.Goals as goal

-- the page of an answer
page_told : (tells : Bool) (old between new : List ℕ → Option (List ℕ)) (path : List ℕ) (out : Option (List ℕ)) (budget : ℕ) (json : Bool) (read : List ℕ) (a : Answer)
    (page : Result Page Stop) → between ≡ old → StandsFor AreAlikePrograms (old path) read → IsAnswer read a → FinishesIfUnknown budget read a
    → OnOk page (IsHandedOut tells between new out a) → IfOk page (λ p. IsLine (told_of_answer a) json p.text.items p.status)
    → IfOk page (λ p. IsProved tells old new path out budget json p.text.items p.status)
page_told tells old between new path out budget json read a (Ok p) same (whole, all, alike) is finishes handed line = (
  whole,
  a,
  all,
  whole_answer read whole a alike is,
  whole_finish budget read whole a alike finishes,
  subst (λ (held : List ℕ → Option (List ℕ)). IsHandedOut tells held new out a) same handed,
  line,
)
page_told tells old between new path out budget json read a (Err e) same stands is finishes handed line = line

-- a file that failed after that
stops_told : (reads : List ℕ → Bool) (old between new : List ℕ → Option (List ℕ)) (path : List ℕ) (out : Option (List ℕ)) (read : List ℕ) (a : Answer)
    (page : Result Page Stop) → between ≡ old → StandsFor AreAlikePrograms (old path) read → IsAnswer read a
    → IfErr page (StopsBy (IsEvidenceFile a out) between new) → IfErr page (StopsBy (IsProveFile reads path out old new) old new)
stops_told reads old between new path out read a (Ok p) same stands is stops = stops
stops_told reads old between new path out read a (Err stop.Memory) same stands is stops = stops ∙ same
stops_told reads old between new path out read a (Err (stop.File file)) same (whole, all, alike) is stops =
    inr (stops.0, (whole, a, all, whole_answer read whole a alike is, stops.1))

-- a search that never began told nothing
unfollowed : (progress terminal : Bool) (known : Option (List ℕ)) → IsFollowed progress terminal known known
unfollowed true terminal known = (known, none_told known, inl refl)
unfollowed false true known = inl refl
unfollowed false false known = refl

pub returns-in_err-text-clause-followed : goal.returns-in_err-text-clause-followed
returns-in_err-text-clause-followed g c = unfollowed c.args.asked.progress c.args.is_terminal (g.E.Write.contents c.args.err.now)

pub returns-clause-page : goal.returns-clause-page
returns-clause-page g c =
    let held = g.F.FileSet.held c.args.files.now in
    page_told g.F.FileSet.tells_written held (g.F.FileSet.held c.read_program.new.files) (g.F.FileSet.held c.answer_page.new.files) c.args.asked.program.now
    (option_map (λ path. path.now) c.args.asked.out) c.args.asked.options.budget c.args.asked.json c.deref.result.now c.search-answer.result c.answer_page.result
    c.in_ok-text.ensures.same (subst (StandsFor AreAlikePrograms (held c.args.asked.program.now)) (sym c.deref.ensures.value) c.in_ok-text.ensures.bytes)
    c.search-answer.ensures.answers c.search-answer.ensures.finishes c.answer_page.ensures.handed c.answer_page.ensures.line

pub returns-clause-stop : goal.returns-clause-stop
returns-clause-stop g c =
    let held = g.F.FileSet.held c.args.files.now in
    stops_told (g.F.FileSet.reads c.args.files.now) held (g.F.FileSet.held c.read_program.new.files) (g.F.FileSet.held c.answer_page.new.files) c.args.asked.program.now
    (option_map (λ path. path.now) c.args.asked.out) c.deref.result.now c.search-answer.result c.answer_page.result
    c.in_ok-text.ensures.same (subst (StandsFor AreAlikePrograms (held c.args.asked.program.now)) (sym c.deref.ensures.value) c.in_ok-text.ensures.bytes)
    c.search-answer.ensures.answers c.answer_page.ensures.stop

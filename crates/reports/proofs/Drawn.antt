-- What is drawn of what was read is drawn of what the text says.
use Rattle.std.proofs.Common.{◌≡◌, IfOk, List, ℕ, Result, Ok, Err, subst}
use Rattle.std.specs.Prelude.{IfSome}
use Rattle.std.specs.Global.{Vec}
use Rattle.std.specs.declared.alloc.AllocError.{AllocError}
use Rattle.calltext.specs.Grammar.{IsTextWithin, ProgramText, long}
use Rattle.callorder.specs.Programs.{MpiProgram}
use Rattle.callorder.specs.Resolving.{IsTextOfWithin}
use Rattle.semantics.specs.RunEnds.{IsFinishedRun}
use Rattle.semantics.specs.Machine.{IsStuckRun}
use Rattle.semantics.specs.declared.state.Step.{Step}
use Rattle.options.specs.declared.form.Form.{Form}
use Rattle.options.specs.declared.form.Form.TheVariants as forms
use Rattle.explain.specs.Often.{TellsBelow, often_line}
use Rattle.explain_json.specs.Objects.{IsObject}
use Rattle.frequency.specs.declared.judging.Frequency.{Frequency}
use Rattle.frequency.specs.declared.judging.Frequency.TheVariants as frequency
use Rattle.frequency.specs.Frequencies.{IsFrequency}
use Rattle.htmlpage.specs.Page.{IsPage}
use Rattle.reports.specs.Asking.{AreAsked, TellsAsked, verdicts_of}
use Rattle.reports.specs.declared.asked.Asked.{Asked}
use Rattle.reports.specs.Explanations.{IsDrawnFrom, TellsNumbers, IsRunDrawn, Says, SaysHowOften, TellsSizes, well_steps, marks_of, sizes_text}

pub run_drawn : (r : Result (Vec ℕ) AllocError) (form : Form) (text : List ℕ) (source : ProgramText) (p : MpiProgram) (steps : List Step) → IsTextOfWithin long text p
    → IsStuckRun p steps → IsTextWithin long text source → IfOk r (λ told. IsDrawnFrom form text source p steps told.items)
    → IfOk r (λ told. IsRunDrawn form text steps told.items)
run_drawn (Ok told) form text source p steps of stuck is told_is = (p, of, stuck, (source, is, told_is))
run_drawn (Err e) form text source p steps of stuck is told_is = told_is

pub sizes_told : (r : Result (Vec ℕ) AllocError) (form : Form) (text : List ℕ) (p : MpiProgram) → IsTextOfWithin long text p
    → IfOk r (λ told. TellsNumbers form p (sizes_text (marks_of form) p) told.items) → IfOk r (λ told. TellsSizes form text told.items)
sizes_told (Ok told) form text p of is = (p, of, is)
sizes_told (Err e) form text p of is = is

-- words that tell so often, and what is told of what was asked, say that
pub words_say : (r : Result (Vec ℕ) AllocError) (text : List ℕ) (p : MpiProgram) (often : Frequency) (asked : Asked) (decided : List ℕ) → AreAsked text asked → TellsAsked asked decided
    → IfOk r (λ told. TellsBelow (often_line p.policy often) decided told.items) → IfOk r (λ told. Says text p often told.items)
words_say (Ok told) text p often asked decided holds tells is = record { decided = decided; holds = record { asked = asked; holds = holds; tells = tells }; tells = is }
words_say (Err e) text p often asked decided holds tells is = is

-- a text that says how often the program gets stuck says that
pub says_how_often : (r : Result (Vec ℕ) AllocError) (text : List ℕ) (p : MpiProgram) (often : Frequency) → IsFrequency p often
    → IfOk r (λ told. Says text p often told.items) → IfOk r (λ told. SaysHowOften text p told.items)
says_how_often (Ok told) text p often is says = (often, is, says)
says_how_often (Err e) text p often is says = says

-- an object that says so, and what is known of what was asked
pub object_drawn : (r : Result (Vec ℕ) AllocError) (text : List ℕ) (source : ProgramText) (p : MpiProgram) (steps : List Step) (often : Frequency) (asked : Asked) (verdicts : List (List ℕ))
    → IsFrequency p often → AreAsked text asked → verdicts ≡ verdicts_of asked
    → IfOk r (λ told. IsObject often verdicts told.items) → IfOk r (λ told. IsDrawnFrom forms.Object text source p steps told.items)
object_drawn (Ok told) text source p steps often asked verdicts is holds same shown =
    record { often = often; is_often = is; asked = asked; holds = holds; is_object = subst (λ (some : List (List ℕ)). IsObject often some told.items) same shown }
object_drawn (Err e) text source p steps often asked verdicts is holds same shown = shown

-- steps of a run that ends well are told only of one
pub ends_well : (p : MpiProgram) (often : Frequency) → IsFrequency p often → IfSome (well_steps often) (IsFinishedRun p)
ends_well p frequency.Always is = tt
ends_well p (frequency.Sometimes steps) is = is
ends_well p frequency.Unknown is = tt

-- a page of such a text, which draws the run, and the one that ends well
pub page_drawn : (r : Result (Vec ℕ) AllocError) (text : List ℕ) (source : ProgramText) (p : MpiProgram) (steps : List Step) (often : Frequency) (words : List ℕ)
    → IsFrequency p often → Says text p often words
    → IfOk r (λ page. IsPage text source p steps (well_steps often) words page.items) → IfOk r (λ page. IsDrawnFrom forms.Page text source p steps page.items)
page_drawn (Ok page) text source p steps often words is says shown = record { often = often; is_often = is; words = words; says = says; is_page = shown }
page_drawn (Err e) text source p steps often words is says shown = shown

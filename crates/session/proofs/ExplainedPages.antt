-- What the page of an explanation without an evidence tells.
use Rattle.std.proofs.Common.{◌≡◌, ◌⊎◌, ◌<◌, ℕ, List, Option, Result, Ok, Err, None, Some, inl, inr, refl, sym, subst, arith}
use Rattle.calltext.specs.Grammar.{long, short}
use Rattle.callorder.specs.Programs.{MpiProgram}
use Rattle.callorder.specs.Resolving.{IsTextOf, IsTextOfWithin}
use Rattle.callorder.proofs.FirstFaults.{same_program_within}
use Rattle.semantics.specs.Headline.{IsNeverStuckWithin, IsStuckRunWithin}
use Rattle.semantics.specs.declared.state.Step.{Step}
use Rattle.deciding.specs.Decisions.{HasRace, IsDecided}
use Rattle.deciding.specs.declared.decision.Decision.{Decision}
use Rattle.deciding.specs.declared.decision.Decision.TheVariants as decisions
use Rattle.deciding.specs.declared.decision.CallerRace.{CallerRace}
use Rattle.deciding.specs.declared.texts.Undecided.{Undecided}
use Rattle.checker.specs.Headline.{IsNeverStuck, Shows}
use Rattle.checker.specs.declared.reason.Reason.{Reason}
use Rattle.prover.specs.Answers.{IsAnswer, CanFinish, FinishesIfUnknown}
use Rattle.prover.specs.declared.answer.Answer.{Answer}
use Rattle.prover.specs.declared.answer.Answer.TheVariants as answers
use Rattle.options.specs.declared.form.Form.{Form}
use Rattle.session.specs.declared.told.Outcome.TheVariants as told
use Rattle.session.specs.Explaining.{IsAnswerPage, IsDecidedFirst, IsDecisionExplained, IsExplainPage, is_object}
use Rattle.session.proofs.DeadlockLines.{PageTells, line_tells, line_tells_safety, race_untold, sizes_untold}
use Rattle.session.proofs.Deadlocks.{all_are, answer_finishes, explanation_decides, explanation_never, found_decides, found_never, found_shows, undecided_above, undecided_untold, unknown_differs, unknown_is_unsafe}

-- what holds of a program within the short limits holds of it within the long ones
wide : (program : List ℕ) (p : MpiProgram) → IsTextOf program p → IsTextOfWithin long program p
wide program p is = (same_program_within short long program p (record { bytes = omega arith; ranks = omega arith; peer = omega arith; tag = omega arith; communicator = omega arith; calls = omega arith }) is).0

shown_long : (program evidence : List ℕ) → Shows program evidence → (steps : List Step) × IsStuckRunWithin long program steps
shown_long program evidence shown = (shown.steps, record { p = shown.p; text = wide program shown.p shown.text; stuck = shown.stuck })

never_long : (program : List ℕ) → IsNeverStuck program → IsNeverStuckWithin long program
never_long program is = record { p = is.p; text = wide program is.p is.text; never = is.never }

-- ---- the page of an answer

answer_shows : (form : Form) (program : List ℕ) (race : CallerRace) (a : Answer) (text : List ℕ) (status : ℕ) → IsAnswerPage form program race a text status
    → PageTells text status → (steps : List Step) × IsStuckRunWithin long program steps
answer_shows form program race (answers.NoDeadlock evidence) text status page tells =
    shown_long program evidence (found_shows form program evidence text status page tells)
answer_shows form program race (answers.Deadlock evidence) text status page tells =
    shown_long program evidence (found_shows form program evidence text status page tells)
answer_shows form program race (answers.Unknown why) text status page tells =
    let other : told.Unknown why ≡ told.Deadlock = line_tells (told.Unknown why) (is_object form) text status page tells in absurd (unknown_differs why other)
answer_shows form program race (answers.Refused reason) text status page tells = absurd (race_untold (is_object form) program race text status page tells)

answer_never : (form : Form) (program : List ℕ) (race : CallerRace) (a : Answer) (text : List ℕ) → IsAnswerPage form program race a text 0 → IsNeverStuckWithin long program
answer_never form program race (answers.NoDeadlock evidence) text page = never_long program (found_never form program evidence text page)
answer_never form program race (answers.Deadlock evidence) text page = never_long program (found_never form program evidence text page)
answer_never form program race (answers.Unknown why) text page =
    absurd (unknown_is_unsafe why (line_tells_safety (told.Unknown why) (is_object form) text 0 page (inl refl)))
answer_never form program race (answers.Refused reason) text page = absurd (omega (arith, page.same))

-- some run of the program finishes, or it is refused by a search
abbrev FinishesOrRefused : List ℕ → Type 0
FinishesOrRefused program = CanFinish program ⊎ ((reason : Reason) × IsAnswer program (answers.Refused reason))

answer_page_finishes : (form : Form) (budget : ℕ) (program : List ℕ) (race : CallerRace) (a : Answer) (text : List ℕ) → IsAnswerPage form program race a text 2 → 0 < budget
    → IsAnswer program a → FinishesIfUnknown budget program a → FinishesOrRefused program
answer_page_finishes form budget program race (answers.Unknown why) text page some is finishes =
    inl (answer_finishes budget program (answers.Unknown why) (sym page.3) some finishes)
answer_page_finishes form budget program race (answers.NoDeadlock evidence) text page some is finishes = absurd (found_decides form program evidence text page)
answer_page_finishes form budget program race (answers.Deadlock evidence) text page some is finishes = absurd (found_decides form program evidence text page)
answer_page_finishes form budget program race (answers.Refused reason) text page some is finishes = inr (reason, is)

-- ---- the page of a decision

pub decision_shows : (form : Form) (budget : ℕ) (program : List ℕ) (d : Result Decision Undecided) (text : List ℕ) (status : ℕ) → IsDecided program d
    → IsDecisionExplained budget form program d text status → PageTells text status → (steps : List Step) × IsStuckRunWithin long program steps
decision_shows form budget program (Ok decisions.NoDeadlock) text status is page tells =
    absurd (sizes_untold form page.0.0 text status page.0.2 page.1 tells)
decision_shows form budget program (Ok (decisions.Deadlock steps)) text status is page tells = (steps.items, is)
decision_shows form budget program (Ok (decisions.Race race)) text status is page tells =
    answer_shows form program race page.0 text status page.3 tells
decision_shows form budget program (Err why) text status is page tells = absurd (undecided_untold (is_object form) why text status page tells)

pub decision_never : (form : Form) (budget : ℕ) (program : List ℕ) (d : Result Decision Undecided) (text : List ℕ) → IsDecided program d
    → IsDecisionExplained budget form program d text 0 → IsNeverStuckWithin long program
decision_never form budget program (Ok decisions.NoDeadlock) text is page = is
decision_never form budget program (Ok (decisions.Deadlock steps)) text is page = absurd (omega (arith, page.1))
decision_never form budget program (Ok (decisions.Race race)) text is page = answer_never form program race page.0 text page.3
decision_never form budget program (Err why) text is page = absurd (omega (arith, undecided_above (is_object form) why text 0 page))

-- what the status 2 shows of a program
abbrev IsUnknown : List ℕ → Type 0
IsUnknown program = ((race : CallerRace) × HasRace program race) × FinishesOrRefused program

decision_finishes : (form : Form) (budget : ℕ) (program : List ℕ) (d : Result Decision Undecided) (text : List ℕ) → IsDecided program d
    → IsDecisionExplained budget form program d text 2 → 0 < budget → IsUnknown program
decision_finishes form budget program (Ok decisions.NoDeadlock) text is page some = absurd (omega (arith, page.1))
decision_finishes form budget program (Ok (decisions.Deadlock steps)) text is page some = absurd (omega (arith, page.1))
decision_finishes form budget program (Ok (decisions.Race race)) text is page some =
    ((race, is), answer_page_finishes form budget program race page.0 text page.3 some page.1 page.2)
decision_finishes form budget program (Err why) text is page some = absurd (omega (arith, undecided_above (is_object form) why text 2 page))

-- ---- the page of `explain`

pub first_shows : (file : Option (List ℕ)) (budget : ℕ) (form : Form) (text : List ℕ) (status : ℕ) (program : List ℕ)
    → IsDecidedFirst file budget form text status → PageTells text status → file ≡ Some program → (steps : List Step) × IsStuckRunWithin long program steps
first_shows file budget form text status program page tells held =
    subst (λ (p : List ℕ). (steps : List Step) × IsStuckRunWithin long p steps) (all_are file page.0 program page.2 held)
    (decision_shows form budget page.0 page.1 text status page.3 page.4 tells)

pub first_never : (file : Option (List ℕ)) (budget : ℕ) (form : Form) (text program : List ℕ) → IsDecidedFirst file budget form text 0 → file ≡ Some program
    → IsNeverStuckWithin long program
first_never file budget form text program page held =
    subst (λ (p : List ℕ). IsNeverStuckWithin long p) (all_are file page.0 program page.2 held) (decision_never form budget page.0 page.1 text page.3 page.4)

pub given_never : (held : List ℕ → Option (List ℕ)) (path e : List ℕ) (budget : ℕ) (form : Form) (text program : List ℕ)
    → IsExplainPage held path (Some e) budget form text 0 → held path ≡ Some program → IsNeverStuck program
given_never held path e budget form text program page holds =
    subst IsNeverStuck (all_are (held path) page.0 program page.3 holds) (explanation_never form page.0 page.1 page.2 text page.5 page.6)

pub explained_finishes : (held : List ℕ → Option (List ℕ)) (path : List ℕ) (e : Option (List ℕ)) (budget : ℕ) (form : Form) (text program : List ℕ)
    → IsExplainPage held path e budget form text 2 → 0 < budget → held path ≡ Some program
    → (e ≡ None) × ((race : CallerRace) × HasRace program race) × (CanFinish program ⊎ ((reason : Reason) × IsAnswer program (answers.Refused reason)))
explained_finishes held path None budget form text program page some holds =
    let known = subst IsUnknown (all_are (held path) page.0 program page.2 holds) (decision_finishes form budget page.0 page.1 text page.3 page.4 some) in
    (refl, known.0, known.1)
explained_finishes held path (Some e) budget form text program page some holds = absurd (explanation_decides form page.2 text page.6)

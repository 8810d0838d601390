-- How a run ended, by its page or by what was told in its place.
use Rattle.std.proofs.Common.{◌≡◌, ◌∙◌, ◌<◌, ◌⊎◌, arith, ap, inl, inr, refl, sym, subst, ℕ, List, Bool, Some, Option}
use Rattle.checker.specs.Verdicts.{Judges}
use Rattle.checker.specs.declared.reason.Reason.TheVariants as reasons
use Rattle.checker.specs.declared.reason.Verdict.{Verdict}
use Rattle.checker.specs.declared.reason.Verdict.TheVariants as verdicts
use Rattle.checker.proofs.OneVerdicts.{right_or_memory}
use Rattle.session.specs.Asking.{TellsDeadlock, TellsSafety}
use Rattle.session.specs.Endings.{FailsEarly}
use Rattle.session.specs.Lines.{early_line, memory_line, told_of_verdict, told_status}
use Rattle.session.specs.Pages.{IsCheckedPage}
use Rattle.session.specs.Runs.{Complains, Ends, Prints, PrintsAlone, SessionRun, by_file, by_memory, by_page}
use Rattle.session.specs.declared.page.Want.{Want}
use Rattle.session.specs.declared.page.Want.TheVariants as want
use Rattle.session.proofs.DeadlockLines.{PageTells, PageTellsSafety, deadlock_page, deadlock_untold, safety_page, safety_untold}
use Rattle.session.proofs.Deadlocks.{read_as_held}

-- a run that complains with another status tells no deadlock
pub complaint_untold : (run : SessionRun) (text : List ℕ) (own : ℕ) → (own ≡ 1 → ⊥) → Complains run text own → TellsDeadlock run → ⊥
complaint_untold run text own other complains tells = deadlock_untold run (λ one. other (sym complains.0 ∙ one)) complains.1 tells

-- where a run told a deadlock, its command ended by a page that tells it
pub page_that_told : {run : SessionRun} {IsPage : List ℕ → ℕ → Type 0} {IsFile : List ℕ → Type 0} {w : Want} {json : Bool}
    → Ends run IsPage IsFile w json ⊎ FailsEarly run → TellsDeadlock run → (text : List ℕ) × (status : ℕ) × IsPage text status × PageTells text status
page_that_told (inl ends) says = deadlock_page ends says
page_that_told {run = run} (inr fails) says = absurd (complaint_untold run early_line 4 (λ one. omega (arith, one)) fails says)

-- and where it told that there is none, by a page that tells that
pub page_that_reassured : {run : SessionRun} {IsPage : List ℕ → ℕ → Type 0} {IsFile : List ℕ → Type 0} {w : Want} {json : Bool}
    → Ends run IsPage IsFile w json ⊎ FailsEarly run → TellsSafety run
    → (text : List ℕ) × (status : ℕ) × IsPage text status × PageTellsSafety text status
page_that_reassured (inl ends) says = safety_page ends says
page_that_reassured {run = run} (inr fails) says = absurd (safety_untold run (λ zero. omega (arith, fails.0, zero)) fails.1 says)

-- a run with a status below 4 printed the whole of its command's page
pub page_printed : {run : SessionRun} {IsPage : List ℕ → ℕ → Type 0} {IsFile : List ℕ → Type 0} {w : Want} {json : Bool} (own : ℕ) → own < 4
    → Ends run IsPage IsFile w json ⊎ FailsEarly run → run.status ≡ own → (text : List ℕ) × IsPage text own × PrintsAlone run text own
page_printed {IsPage = IsPage} own low (inl (by_page text status page prints)) is = elim prints.0 [
  | inl whole ↦ (text, subst (IsPage text) (sym whole.0 ∙ is) page, (inl (is, whole.1), prints.1))
  | inr part ↦ absurd (omega (arith, low, is, part.0))
]
page_printed own low (inl (by_memory same prints)) is = elim prints.0 [
  | inl whole ↦ absurd (omega (arith, low, is, whole.0))
  | inr part ↦ absurd (omega (arith, low, is, part.0))
]
page_printed own low (inl (by_file path file complains)) is = absurd (omega (arith, low, is, complains.0))
page_printed own low (inr fails) is = absurd (omega (arith, low, is, fails.0))

-- the same, of a page whose text is known
pub text_printed : {run : SessionRun} {IsPage : List ℕ → ℕ → Type 0} {IsFile : List ℕ → Type 0} {w : Want} {json : Bool} (own : ℕ) → own < 4
    → (line : List ℕ) → ((text : List ℕ) → IsPage text own → text ≡ line)
    → Ends run IsPage IsFile w json ⊎ FailsEarly run → run.status ≡ own → PrintsAlone run line own
text_printed {run = run} own low line known ends is =
    let page = page_printed own low ends is in
    subst (λ (text : List ℕ). PrintsAlone run text own) (known page.0 page.1) page.2

-- the end of a task that changes no file
pub ended : {A B F : Type 0} → (A × B) ⊎ F → B ⊎ F
ended (inl both) = inl both.1
ended (inr fails) = inr fails

-- the end of a task that tells something before its answer
pub followed : (run : SessionRun) {X : Type 0} {Follows : Option (List ℕ) → Type 0} {IsPage : List ℕ → ℕ → Type 0} {IsFile : List ℕ → Type 0} {json : Bool}
    → (X × ((told : Option (List ℕ)) × Follows told × Ends (record run { errors_before = told }) IsPage IsFile want.Unknown json)) ⊎ FailsEarly run
    → (told : Option (List ℕ))
    × (Ends (record run { errors_before = told }) IsPage IsFile want.Unknown json ⊎ FailsEarly (record run { errors_before = told }))
followed run (inl ends) = (ends.1.0, inl ends.1.2)
followed run (inr fails) = (run.errors_before, inr fails)

-- ---- statuses

-- the status of the answer, or that of want of memory or of a file or an output that fails
abbrev IsOwnOrFails : ℕ → ℕ → Type 0
IsOwnOrFails own status = (status ≡ own) ⊎ ((status ≡ 4) ⊎ (status ≡ 5))

own_printed : (own : ℕ) (run : SessionRun) (text : List ℕ) (status : ℕ) → Prints run text status → (status ≡ own) ⊎ (status ≡ 4)
    → IsOwnOrFails own run.status
own_printed own run text status (inl whole) (inl is) = inl (whole.0 ∙ is)
own_printed own run text status (inl whole) (inr four) = inr (inl (whole.0 ∙ four))
own_printed own run text status (inr part) is = inr (inr part.0)

-- a run of a command whose page has this status or 4
pub own_ended : {run : SessionRun} {IsPage : List ℕ → ℕ → Type 0} {IsFile : List ℕ → Type 0} {w : Want} {json : Bool} (own : ℕ)
    → Ends run IsPage IsFile w json ⊎ FailsEarly run
    → ((text : List ℕ) (status : ℕ) → IsPage text status → (status ≡ own) ⊎ (status ≡ 4)) → IsOwnOrFails own run.status
own_ended {run = run} own (inl (by_page text status page prints)) is = own_printed own run text status prints.0 (is text status page)
own_ended {run = run} {w = w} {json = json} own (inl (by_memory same prints)) is = own_printed own run (memory_line w json) 4 prints.0 (inr refl)
own_ended own (inl (by_file path file complains)) is = inr (inr complains.0)
own_ended own (inr fails) is = inr (inl fails.0)

abbrev status_of : Verdict → ℕ
status_of v = told_status (told_of_verdict v)

verdict_status : (v right : Verdict) → (v ≡ right) ⊎ (v ≡ verdicts.Refused reasons.Memory) → (status_of v ≡ status_of right) ⊎ (status_of v ≡ 4)
verdict_status v right (inl e) = inl (ap status_of e)
verdict_status v right (inr e) = inr (ap status_of e)

same_status : (own a b : ℕ) → a ≡ b → (b ≡ own) ⊎ (b ≡ 4) → (a ≡ own) ⊎ (a ≡ 4)
same_status own a b e (inl is) = inl (e ∙ is)
same_status own a b e (inr four) = inr (e ∙ four)

-- the page of a check has the status of the right verdict, or that of want of memory
pub checked_status : (right : Verdict) → (right ≡ verdicts.Refused reasons.Memory → ⊥) → (program_file evidence_file : Option (List ℕ)) (json : Bool) (text : List ℕ) (status : ℕ)
    (program evidence : List ℕ) → program_file ≡ Some program → evidence_file ≡ Some evidence → Judges program evidence right
    → IsCheckedPage program_file evidence_file json text status → (status ≡ status_of right) ⊎ (status ≡ 4)
checked_status right some program_file evidence_file json text status program evidence held_p held_e judges page =
    let same = read_as_held (λ p e. Judges p e right) program_file evidence_file page.0 page.1 program evidence page.3 page.4 held_p held_e judges in
    same_status (status_of right) status (status_of page.2) page.6.3 (verdict_status page.2 right (right_or_memory page.0 page.1 page.2 right page.5 same some))

-- What the page of a decision tells.
use Rattle.std.proofs.Common.{◌≡◌, ◌<◌, ℕ, Bool, List, Option, Ok, Err, Some, subst, arith}
use Rattle.calltext.specs.Grammar.{long}
use Rattle.semantics.specs.Headline.{IsNeverStuckWithin, IsStuckRunWithin}
use Rattle.semantics.specs.declared.state.Step.{Step}
use Rattle.deciding.specs.Decisions.{HasRace, schedule_text}
use Rattle.deciding.specs.declared.decision.CallerRace.{CallerRace}
use Rattle.deciding.specs.declared.decision.Decision.TheVariants as decisions
use Rattle.deciding.specs.declared.texts.Undecided.{Undecided}
use Rattle.deciding.specs.declared.texts.Undecided.TheVariants as undecided
use Rattle.session.specs.Lines.{told_of_undecided, told_status}
use Rattle.session.specs.Pages.{IsDecidedPage, IsWritten}
use Rattle.session.specs.declared.told.Outcome.TheVariants as told
use Rattle.session.proofs.DeadlockLines.{PageTells, PageTellsSafety, line_tells, line_tells_safety, race_untold, race_unsafe}
use Rattle.session.proofs.Deadlocks.{all_are}

-- why a program isn't decided is told as neither answer, and with a status above
pub not_stuck : (why : Undecided) → told_of_undecided why ≡ told.Deadlock → ⊥
not_stuck undecided.Memory e = cc
not_stuck (undecided.Read fault) e = cc
not_stuck (undecided.Resolve fault) e = cc

pub not_safe : (why : Undecided) → told_of_undecided why ≡ told.NoDeadlock → ⊥
not_safe undecided.Memory e = cc
not_safe (undecided.Read fault) e = cc
not_safe (undecided.Resolve fault) e = cc

pub undecided_above : (why : Undecided) → 2 < told_status (told_of_undecided why)
undecided_above undecided.Memory = omega arith
undecided_above (undecided.Read fault) = omega arith
undecided_above (undecided.Resolve fault) = omega arith

-- a page that tells a deadlock is of a program with a run that gets stuck
pub decided_hangs : (tells : Bool) (before after : List ℕ → Option (List ℕ)) (p : List ℕ) (out : Option (List ℕ)) (json : Bool) (text : List ℕ) (status : ℕ) (program : List ℕ)
    → IsDecidedPage tells before after p out json text status → PageTells text status → before p ≡ Some program → (steps : List Step) × IsStuckRunWithin long program steps
decided_hangs tells before after p out json text status program (given, Ok decisions.NoDeadlock, all, is, scheduled, page) says held =
    let other : told.NoDeadlock ≡ told.Deadlock = line_tells told.NoDeadlock json text status page says in absurd cc
decided_hangs tells before after p out json text status program (given, Ok (decisions.Deadlock steps), all, is, scheduled, page) says held =
    (steps.items, subst (λ (bytes : List ℕ). IsStuckRunWithin long bytes steps.items) (all_are (before p) given program all held) is)
decided_hangs tells before after p out json text status program (given, Ok (decisions.Race race), all, is, scheduled, page) says held =
    absurd (race_untold json given race text status page says)
decided_hangs tells before after p out json text status program (given, Err why, all, is, scheduled, page) says held =
    absurd (not_stuck why (line_tells (told_of_undecided why) json text status page says))

-- one with the status 1 has its schedule written
pub decided_written : (tells : Bool) (before after : List ℕ → Option (List ℕ)) (p : List ℕ) (out : Option (List ℕ)) (json : Bool) (text : List ℕ) (program : List ℕ)
    → IsDecidedPage tells before after p out json text 1 → before p ≡ Some program
    → (steps : List Step) × IsStuckRunWithin long program steps × IsWritten tells before after out (schedule_text steps)
decided_written tells before after p out json text program (given, Ok decisions.NoDeadlock, all, is, scheduled, page) held = absurd (omega (arith, page.3))
decided_written tells before after p out json text program (given, Ok (decisions.Deadlock steps), all, is, scheduled, page) held =
    (steps.items, subst (λ (bytes : List ℕ). IsStuckRunWithin long bytes steps.items) (all_are (before p) given program all held) is, scheduled)
decided_written tells before after p out json text program (given, Ok (decisions.Race race), all, is, scheduled, page) held =
    absurd (omega (arith, page.same))
decided_written tells before after p out json text program (given, Err why, all, is, scheduled, page) held = absurd (omega (arith, page.3, undecided_above why))

-- a page that tells that there is none is of a program that never gets stuck
pub decided_safe : (tells : Bool) (before after : List ℕ → Option (List ℕ)) (p : List ℕ) (out : Option (List ℕ)) (json : Bool) (text : List ℕ) (status : ℕ) (program : List ℕ)
    → IsDecidedPage tells before after p out json text status → PageTellsSafety text status → before p ≡ Some program → IsNeverStuckWithin long program
decided_safe tells before after p out json text status program (given, Ok decisions.NoDeadlock, all, is, scheduled, page) says held =
    subst (λ (bytes : List ℕ). IsNeverStuckWithin long bytes) (all_are (before p) given program all held) is
decided_safe tells before after p out json text status program (given, Ok (decisions.Deadlock steps), all, is, scheduled, page) says held =
    let other : told.Deadlock ≡ told.NoDeadlock = line_tells_safety told.Deadlock json text status page says in absurd cc
decided_safe tells before after p out json text status program (given, Ok (decisions.Race race), all, is, scheduled, page) says held =
    absurd (race_unsafe json given race text status page says)
decided_safe tells before after p out json text status program (given, Err why, all, is, scheduled, page) says held =
    absurd (not_safe why (line_tells_safety (told_of_undecided why) json text status page says))

-- one with the status 2 is of a program with a race
pub decided_race : (tells : Bool) (before after : List ℕ → Option (List ℕ)) (p : List ℕ) (out : Option (List ℕ)) (json : Bool) (text : List ℕ) (program : List ℕ)
    → IsDecidedPage tells before after p out json text 2 → before p ≡ Some program → (race : CallerRace) × HasRace program race
decided_race tells before after p out json text program (given, Ok decisions.NoDeadlock, all, is, scheduled, page) held = absurd (omega (arith, page.3))
decided_race tells before after p out json text program (given, Ok (decisions.Deadlock steps), all, is, scheduled, page) held = absurd (omega (arith, page.3))
decided_race tells before after p out json text program (given, Ok (decisions.Race race), all, is, scheduled, page) held =
    (race, subst (λ (bytes : List ℕ). HasRace bytes race) (all_are (before p) given program all held) is)
decided_race tells before after p out json text program (given, Err why, all, is, scheduled, page) held = absurd (omega (arith, page.3, undecided_above why))

-- The list of events: where the issues stand in it.
use Rattle.std.proofs.Common.{◌≡◌, ℕ, ◌<◌, true, false, length, arith}
use Rattle.std.proofs.lemmas.Bool.Decides.{nat_tests}
use Rattle.std.proofs.lemmas.List.Sums.{position_or_len_is}
use Rattle.callorder.specs.Programs.{MpiProgram}
use Rattle.formula.specs.declared.facts.RunEvent.TheVariants.{Issue as issue_of}
use Rattle.formula.specs.Facts.{is_same_event}
use Rattle.formula.specs.Families.{events, event_at, place_of_event}
use Rattle.formula.proofs.Events.{issue_at, events_size}

pub place_of_issue : (p : MpiProgram) (c : ℕ) → c < length p.calls → place_of_event p (issue_of c) ≡ c
place_of_issue p c below =
    position_or_len_is (is_same_event (issue_of c)) (events p) c (issue_of 0) (omega (arith, events_size p)) others (λ _. own)
  where
    own : is_same_event (issue_of c) (event_at p c) ≡ true
    own = rw (issue_at p c below) (grind (arith, nat_tests))

    others : (k : ℕ) → k < c → is_same_event (issue_of c) (event_at p k) ≡ false
    others k h = rw (issue_at p k (omega arith)) (grind (arith, nat_tests))

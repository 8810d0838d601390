-- The schedule of a world in which the clauses of a program hold is a stuck run.
use Rattle.std.proofs.Common.{◌≡◌, ℕ, ◌≤◌, Bool, true, false, not, ◌&&◌, List, [], ◌∷◌, map, refl, sym, ap, subst}
use Rattle.std.specs.List.{filter}
use Rattle.callorder.specs.ProgramRules.{IsProgram}
use Rattle.callorder.specs.Programs.{MpiProgram, are_fit, is_probe, takes, sees}
use Rattle.semantics.specs.declared.state.Step.TheVariants.{Issue}
use Rattle.semantics.specs.Machine.{Configuration, IsEnabled, IsRun, IsStuckRun, opening, after, after_all, can_issue}
use Rattle.formula.specs.declared.facts.RunEvent.{RunEvent}
use Rattle.formula.specs.declared.facts.RunEvent.TheVariants.{Issue as issue_of, Match as match_of}
use Rattle.formula.specs.declared.facts.Fact.TheVariants.{Buffered as buffered, Matched as matched}
use Rattle.formula.specs.Facts.{is_same_event}
use Rattle.formula.specs.Families.{events, families, rank_of, rank_of_call, is_standard}
use Rattle.formula.proofs.Elements.{Each, and_both}
use Rattle.run_laws.specs.Places.{find_step}
use Rattle.formula_from_run.specs.Worlds.{World, clauses_hold}
use Rattle.formula_from_run.proofs.Starts.{there_within}
use Rattle.run_from_formula.specs.Schedules.{happens, step_of, sender_of, schedule_of}
use Rattle.run_from_formula.specs.Laws.{WorldsAreStuckRuns}
use Rattle.run_from_formula.proofs.Along.{each_passes}
use Rattle.run_from_formula.proofs.Sorted.{Rises, rises_sorted, IsOnce}
use Rattle.run_from_formula.proofs.Happening.{is_in, by_clock, Happens, all_happen, each_once}
use Rattle.run_from_formula.proofs.Consequences.{Hold, Consequences, consequences, is_left, without_unfinished}
use Rattle.run_from_formula.proofs.Stages.{IsStage, opening_stage}
use Rattle.run_from_formula.proofs.Issuing.{issue_enabled, stage_after_issue}
use Rattle.run_from_formula.proofs.Matching.{sender_is, match_enabled, stage_after_match, see_enabled, stage_after_see}
use Rattle.run_from_formula.proofs.Ends.{end_stuck}

module _ (p : MpiProgram) (world : World) (is : IsProgram p) (says : Consequences p world) where
  find : (m : Configuration) (t : ℕ) (rest : List RunEvent) → are_fit p (sender_of p world t) t ≡ true → world.has (matched (sender_of p world t) t) ≡ true → IsStage p world m (match_of t ∷ rest) → Each (λ y. world.clock (match_of t) ≤ world.clock y) rest → is_in rest (match_of t) ≡ false → (b : Bool) → is_probe p t ≡ b → IsEnabled p m (find_step b (sender_of p world t) t) × IsStage p world (after m (find_step b (sender_of p world t) t)) rest
  find m t rest fit does stage later once true e =
      let seen : sees p (sender_of p world t) t ≡ true = and_both _ _ fit e in
      (see_enabled p world says m rest (sender_of p world t) t seen does stage later, stage_after_see p world says m rest (sender_of p world t) t seen does stage later once)
  find m t rest fit does stage later once false e =
      let taken : takes p (sender_of p world t) t ≡ true = and_both _ _ fit (ap not e) in
      (match_enabled p world says m rest (sender_of p world t) t taken does stage later, stage_after_match p world says m rest (sender_of p world t) t taken does stage later once)

  -- a step whose turn has come is enabled, and leads to the next stage
  turn : (m : Configuration) (e : RunEvent) (rest : List RunEvent) → Happens p world e → IsStage p world m (e ∷ rest) → Each (λ y. world.clock e ≤ world.clock y) rest → is_in rest e ≡ false → IsEnabled p m (step_of p world e) × IsStage p world (after m (step_of p world e)) rest
  turn m (issue_of c) rest happens stage later once =
      let call = there_within p.calls c happens.listed in
      let rank : call.0.rank ≡ rank_of p c = ap rank_of_call (sym call.1) in
      let choice = is_standard p c && world.has (buffered c) in
      let enabled = issue_enabled p world is says m rest c call.0 call.1 happens.does stage later in
      let then_stage = stage_after_issue p world is says m rest c call.0 call.1 happens.does stage later once in
      (subst (λ (r : ℕ). can_issue p m r choice ≡ true) rank enabled, subst (λ (r : ℕ). IsStage p world (after m (Issue r choice)) rest) rank then_stage)
  turn m (match_of t) rest happens stage later once =
      let sender = sender_is p world t happens.does in
      find m t rest sender.1 sender.0 stage later once (is_probe p t) refl

  turns : (m : Configuration) (left : List RunEvent) → Each (Happens p world) left → Rises world.clock left → IsOnce is_same_event left → IsStage p world m left → IsRun p m (map (step_of p world) left) × IsStage p world (after_all m (map (step_of p world) left)) []
  turns m [] happens rises once stage = (tt, stage)
  turns m (e ∷ rest) happens rises once stage =
      let first = turn m e rest happens.0 stage rises.0 once.0 in
      let others = turns (after m (step_of p world e)) rest happens.1 rises.1 once.1 first.1 in
      ((first.0, others.0), others.1)

-- the schedule is a run, and at its end no event is left
pub schedule_runs : (p : MpiProgram) (world : World) → IsProgram p → Consequences p world → IsRun p (opening p) (schedule_of p world) × IsStage p world (after_all (opening p) (schedule_of p world)) []
schedule_runs p world is says =
    turns p world is says (opening p) (by_clock p world) (all_happen p world) (rises_sorted world.clock (filter (happens p world) (events p))) (each_once p world) (opening_stage p world is)

pub schedule_is_stuck : (p : MpiProgram) (world : World) → IsProgram p → Each (Hold world) (families p) → IsStuckRun p (schedule_of p world)
schedule_is_stuck p world is each =
    let parts = without_unfinished p (Hold world) each in
    let says = consequences p world parts.0 in
    let run = schedule_runs p world is says in
    record { run = run.0; stuck = end_stuck p world is says (after_all (opening p) (schedule_of p world)) run.1 (is_left p world parts.1) }

pub worlds_are_stuck_runs : WorldsAreStuckRuns
worlds_are_stuck_runs p world is hold = schedule_is_stuck p world is (each_passes (clauses_hold world) (families p) hold)

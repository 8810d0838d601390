-- Where nothing satisfies the formula of the runs that finish, each run gets stuck.
use Rattle.std.proofs.Common.{◌≡◌, ℕ, zero, suc, ◌<◌, ◌≤◌, ◌⊎◌, inl, inr, true, false, List, [], ◌∷◌, ◌++◌, slice_index, refl, sym, ap, ◌∙◌, subst, arith}
use Rattle.std.proofs.lemmas.Bool.{cases_eq}
use Rattle.callorder.specs.ProgramRules.{IsProgram}
use Rattle.callorder.specs.Programs.{MpiProgram}
use Rattle.semantics.specs.declared.state.Step.{Step}
use Rattle.semantics.specs.RunEnds.{IsFinished, IsFinishedRun}
use Rattle.semantics.specs.Machine.{Configuration, opening, after, after_all, IsRun, IsStuckRun, is_rank_finished}
use Rattle.races.proofs.Steps.{is_or_not}
use Rattle.races.proofs.Passing.{kept_run, part_all}
use Rattle.races.proofs.Climb.{no_more, finished_too}
use Rattle.always.specs.Always.{IsEndedRun}
use Rattle.always.proofs.Ending.{each_run_ends}
use Rattle.formula_from_run.specs.Laws.{assignment_of}
use Rattle.finishing.specs.Laws.{UnsatisfiableGetStuck}
use Rattle.finishing.proofs.Satisfied.{finished_runs_satisfy_formula}

-- ---- a run that finishes can be gone on with, and still finishes

after_both : (m : Configuration) (steps more : List Step) → after_all m (steps ++ more) ≡ after_all (after_all m steps) more
after_both m [] more = refl
after_both m (x ∷ steps) more = after_both (after m x) steps more

run_of_rest : (p : MpiProgram) (m : Configuration) (steps more : List Step) → IsRun p m (steps ++ more) → IsRun p (after_all m steps) more
run_of_rest p m [] more run = run
run_of_rest p m (x ∷ steps) more run = run_of_rest p (after m x) steps more run.1

pub still_finished : (p : MpiProgram) (steps more : List Step) → IsProgram p → IsFinishedRun p steps → IsRun p (opening p) (steps ++ more) → IsFinishedRun p (steps ++ more)
still_finished p steps more is finished run =
    let e = after_all (opening p) steps in
    let kept = kept_run p steps is.rank_order finished.run in
    let rest : IsRun p e more = run_of_rest p (opening p) steps more run in
    let part = part_all p e more kept rest in
    let upto = no_more p e e more kept rest finished.finished (λ rank. same_place (slice_index e.next rank)) in
    let there : IsFinished p (after_all e more) = λ rank below. finished_too p e (after_all e more) rank part (upto rank) (finished.finished rank below) in
    record { run = run; finished = subst (IsFinished p) (sym (after_both (opening p) steps more)) there }
  where
    same_place : (n : ℕ) → n ≤ n
    same_place n = omega arith

-- ---- a run that nothing can follow finishes or is stuck

record Unfinished (p : MpiProgram) (m : Configuration) (ranks : ℕ) : Type 0 where
  rank : ℕ
  below : rank < ranks
  unfinished : is_rank_finished p m rank ≡ false

unfinished_or_all : (p : MpiProgram) (m : Configuration) (ranks : ℕ) → Unfinished p m ranks ⊎ ((rank : ℕ) → rank < ranks → is_rank_finished p m rank ≡ true)
unfinished_or_all p m zero = inr (λ rank below. absurd (omega (arith, below)))
unfinished_or_all p m (suc n) =
    elim (is_or_not (is_rank_finished p m n)) [
      | inr off ↦ inl (record { rank = n; below = omega arith; unfinished = off })
      | inl on ↦
          elim (unfinished_or_all p m n) [
            | inl w ↦ inl (record { rank = w.rank; below = omega (arith, w.below); unfinished = w.unfinished })
            | inr all ↦ inr (λ rank below. elim (cases_eq rank n) [
              | inl is ↦ ap (is_rank_finished p m) is ∙ on
              | inr differ ↦ all rank (omega (arith, below, differ))
            ])
          ]
    ]

stuck_if_unfinished : (p : MpiProgram) (steps : List Step) → IsEndedRun p steps → (IsFinishedRun p steps → ⊥) → IsStuckRun p steps
stuck_if_unfinished p steps over never =
    elim (unfinished_or_all p (after_all (opening p) steps) p.ranks) [
      | inl w ↦ record { run = over.run; stuck = record { rank = w.rank; in_range = w.below; unfinished = w.unfinished; none_enabled = over.ended } }
      | inr all ↦ absurd (never (record { run = over.run; finished = all }))
    ]

-- ---- the law

pub unsatisfiable_get_stuck : UnsatisfiableGetStuck
unsatisfiable_get_stuck p is never =
    record {
      never_finishes = λ steps finished. let goes_on = each_run_ends p steps is.rank_order finished.run in
          unfinished (steps ++ goes_on.0) goes_on.1 (still_finished p steps goes_on.0 is finished goes_on.1.run);
      always_sticks = λ steps over. stuck_if_unfinished p steps over (unfinished steps over);
      ends = λ steps run. each_run_ends p steps is.rank_order run;
    }
  where
    unfinished : (steps : List Step) → IsEndedRun p steps → IsFinishedRun p steps → ⊥
    unfinished steps over finished = never (assignment_of p steps) (finished_runs_satisfy_formula p steps is finished over)

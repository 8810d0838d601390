-- A choice that is known to be needed is made so in each run that ends stuck.
use Rattle.std.proofs.Common.{◌≡◌, ℕ, List, sym, subst}
use Rattle.callorder.specs.Programs.{MpiProgram}
use Rattle.callorder.specs.Resolving.{IsTextOf}
use Rattle.callorder.proofs.FirstFaults.{one_program_of_bytes}
use Rattle.semantics.specs.declared.state.Step.{Step}
use Rattle.semantics.specs.Machine.{IsStuckRun, opening, after_all}
use Rattle.narrowing.specs.declared.taken.ChoiceTaken.{ChoiceTaken}
use Rattle.narrowing.specs.Laws.{NeverStuckSo, IsTakenSo}
use Rattle.narrowing.proofs.Never.{taken_where_never_otherwise}
use Rattle.checker.proofs.Headlines.{is_program}
use Rattle.choices.specs.declared.items.Choice.{Choice}
use Rattle.choices.specs.Weights.{IsKnownToBeNeeded, NeverWith, KnownIsTaken}

-- of the program in which the call leaves open no more than this way no run ends stuck
never_so : (text : List ℕ) (number : ℕ) (p : MpiProgram) (call : ℕ) (taken : ChoiceTaken) → NeverWith text number p call taken → NeverStuckSo p call taken
never_so text number p call taken never =
    record {
      narrowed = never.is_narrowed.narrowed;
      is = never.is_narrowed.is_narrowed;
      never = λ steps stuck.
          let same : never.is_narrowed.narrowed ≡ never.never.p = one_program_of_bytes never.pinned never.is_narrowed.narrowed never.never.p never.is_narrowed.is_text never.never.text in
          never.never.never steps (subst (λ (q : MpiProgram). IsStuckRun q steps) same stuck);
    }

pub known_is_taken : KnownIsTaken
known_is_taken text choice p steps weighed is_text stuck =
    let known : IsKnownToBeNeeded text choice = weighed.1 in
    let same : p ≡ known.p = one_program_of_bytes text p known.p is_text known.is_text in
    let there : IsStuckRun known.p steps = subst (λ (q : MpiProgram). IsStuckRun q steps) same stuck in
    subst (λ (q : MpiProgram). IsTakenSo q (after_all (opening q) steps) choice.call choice.taken) (sym same)
    (taken_where_never_otherwise known.p choice.call choice.taken choice.others.items steps (is_program text known.p known.is_text) known.is_choice.leaves known.is_choice.ways known.none.some
    (λ k d below. never_so text choice.line known.p choice.call _ (known.none.never k d below)) there)

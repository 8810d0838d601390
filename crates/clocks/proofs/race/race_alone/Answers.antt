use Rattle.std.proofs.Common.{ℕ, List, sym, subst}
use Rattle.clocks.specs.parts.Clocks.{IsSingle, block_of}
use Rattle.clocks.proofs.Extending.{unordered_alone}
use Rattle.clocks.proofs.Shown.{rivals_if_single}
use Rattle.clocks.proofs.race.race_alone.Goals as goal

pub returns-clause-rival : goal.returns-clause-rival
returns-clause-rival c = rivals_if_single c.args.program.now (block_of c.as_slice.result.now) c.args.state.now c.race_by.result
    (subst (λ (z : List ℕ). (call : ℕ) → IsSingle (block_of z) call) (sym c.as_slice.ensures.value) c.no_names-names.ensures.single)
    c.race_by.ensures.rival

pub returns-clause-unordered : goal.returns-clause-unordered
returns-clause-unordered c = unordered_alone c.args.program.now (block_of c.as_slice.result.now) c.args.state.now c.race_by.result
    (subst (λ (z : List ℕ). (call : ℕ) → IsSingle (block_of z) call) (sym c.as_slice.ensures.value) c.no_names-names.ensures.single)
    c.race_by.ensures.unordered

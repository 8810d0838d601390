use Rattle.std.proofs.Common.{ℕ, ◌≤◌, length, ap, sym, subst, arith}
use Rattle.clocks.specs.parts.Clocks.{block_of}
use Rattle.clocks.proofs.Shown.{taken_from, fits_within}
use Rattle.clocks.proofs.classes.end_open.Goals as goal

pub returns-in-None : goal.returns-in-None
returns-in-None c = λ finder from fit.
    let size = ap length c.calls.ensures.value in
    absurd (omega (arith, from, size, fits_within c.args.program.now c.args.other finder fit))

pub returns-in-Some : goal.returns-in-Some
returns-in-Some c = λ finder from fit. taken_from c.args.program.now (block_of c.args.names.now) c.args.state.now c.args.other c.in-Some.taker finder c.requires (sym c.in-Some.ensures) (subst (λ (z : ℕ). z ≤ finder) c.name.ensures from)

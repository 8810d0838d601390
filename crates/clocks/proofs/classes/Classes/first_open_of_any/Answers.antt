use Rattle.std.proofs.Common.{ℕ, ◌<◌, sym, subst}
use Rattle.clocks.specs.parts.Clocks.{block_of}
use Rattle.clocks.proofs.Shown.{any_fit, open_below}
use Rattle.clocks.proofs.classes.Classes.first_open_of_any.Goals as goal

pub returns-in-Some-partner : goal.returns-in-Some-partner
returns-in-Some-partner c = λ finder below any fit.
    let w = c.is_earlier_of_any.ensures c.if-not-is_earlier_of_any.false in
    record {
      earlier = c.in-Some.earlier;
      before = w.0;
      one = w.1;
      fit = any_fit c.args.program.now c.in-Some.earlier c.args.other finder w.2 w.1 any fit;
      later = open_below c.args.program.now (block_of c.args.names.now) c.args.state.now c.in-Some.earlier c.in-Some-partner.taker finder c.requires (sym c.in-Some-partner.ensures) (subst (λ (z : ℕ). finder < z) c.name.ensures below);
    }

use Rattle.std.proofs.Common.{ℕ, List, sym, subst}
use Rattle.clocks.specs.parts.Finders.{IsParting, IsRising}
use Rattle.clocks.proofs.finders.Finders.before.Goals as goal

pub place_of-requires : goal.place_of-requires
place_of-requires c = subst (λ (z : List ℕ). IsRising z) (sym c.calls.ensures) c.requires

pub returns : goal.returns
returns c = subst (λ (z : List ℕ). IsParting z c.args.call c.place_of.result) c.calls.ensures c.place_of.ensures

use Rattle.std.proofs.Common.{◌≡◌, map, take}
use Rattle.charts.specs.declared.placing.PlacedAct.{PlacedAct}
use Rattle.charts.specs.parts.Placing.{ArePlacedIn}
use Rattle.charts.proofs.placing.columns_of.Given as goal

abbrev pub invariant-loop-act : goal.invariant-loop-act
invariant-loop-act l =
    record {
      placed : ArePlacedIn l.program l.calls l.columns;
      acts : map (λ (step : PlacedAct). step.act) l.columns.steps.items ≡ take l.act-index l.acts;
    }

use Rattle.std.proofs.Common.{ℕ, List, ◌↔◌, ◌∙◌, subst, sym}
use Rattle.std.specs.Global.{Vec}
use Rattle.semantics.specs.Machine.{Configuration}
use Rattle.waits.specs.Cycles.{HasEdge}
use Rattle.waits.specs.Waiting.{WaitsFor}
use Rattle.scene.specs.Ends.{AreStandings}
use Rattle.scene.proofs.ending.scene_of.Goals as goal

pub cycle_of-requires : goal.cycle_of-requires
cycle_of-requires c =
    subst (λ (l : List (Vec ℕ)). (from to : ℕ) → HasEdge l from to → HasEdge c.deref-3.result.now from to) (sym c.deref-4.ensures.value)
    (subst (λ (l : List (Vec ℕ)). (from to : ℕ) → HasEdge c.in_ok-lasting.lasting.items from to → HasEdge l from to) (c.deref-2.ensures.value ∙ sym c.deref-3.ensures.value) c.in_ok-lasting.ensures)

pub returns-clause-awaited : goal.returns-clause-awaited
returns-clause-awaited c =
    subst (λ (m : Configuration). (from to : ℕ) → HasEdge c.in_ok-awaited.awaited.items from to ↔ WaitsFor c.args.program.now m from to) c.in_ok-state.ensures.end c.in_ok-awaited.ensures.edges

pub returns-clause-standings : goal.returns-clause-standings
returns-clause-standings c =
    subst (λ (m : Configuration). AreStandings c.args.program.now m c.args.program.now.ranks c.in_ok-standings.standings.items) c.in_ok-state.ensures.end c.in_ok-standings.ensures

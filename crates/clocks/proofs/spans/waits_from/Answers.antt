use Rattle.clocks.proofs.spans.waits_from.Goals as goal

pub returns-in_default : goal.returns-in_default
returns-in_default c = (λ e. let never : ⊥ = cc in absurd never, λ waits. absurd (c.in_default.ensures.none waits.receive waits.wait))

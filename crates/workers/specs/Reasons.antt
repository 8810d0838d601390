-- For which reason a worker leaves.
use Rattle.std.specs.Prelude.{◌≡◌, ◌↔◌}
use Rattle.pool.specs.declared.why.Why.{Why}
use Rattle.pool.specs.declared.why.Why.TheVariants as why

-- want of memory and a full log are told as what they are, and whatever else as something left open
pub record IsStopReason (is_memory is_full : Type 0) (reason : Why) : Type 0 where
  pub memory : (reason ≡ why.Memory) ↔ is_memory
  pub full : (reason ≡ why.Full) ↔ is_full
  pub not_budget : reason ≡ why.Budget → ⊥

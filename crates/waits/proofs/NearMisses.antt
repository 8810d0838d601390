-- Near misses where no call without a partner fits.
use Rattle.std.proofs.Common.{◌≡◌, ℕ, Bool, false, if◌then◌else◌, [], sym, ap}
use Rattle.callorder.specs.Programs.{MpiProgram}
use Rattle.semantics.specs.Machine.{Configuration}
use Rattle.waits.specs.Misses.{has_unmatched_fit, near_misses, unmatched_misses}

pub near_where_none_fits : (p : MpiProgram) (m : Configuration) (c : ℕ) → has_unmatched_fit p m c ≡ false → unmatched_misses p m c ≡ near_misses p m c
near_where_none_fits p m c none = sym (ap (λ (has : Bool). if has then [] else unmatched_misses p m c) none)

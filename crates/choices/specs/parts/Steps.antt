-- What a step changes of a send.
use Rattle.std.specs.Prelude.{◌==◌, ℕ, Bool, false, Option, Some, None, slice_get, if◌then◌else◌}
use Rattle.semantics.specs.declared.state.Step.{Step}
use Rattle.semantics.specs.declared.state.Step.TheVariants.{Issue, Match, See}
use Rattle.semantics.specs.Machine.{Configuration}

-- whether it is this place
abbrev pub is_at : Option ℕ → ℕ → Bool
is_at None call = false
is_at (Some next) call = next == call

-- whether the call is a buffered send after the step, which it was before or not
abbrev pub buffered_after : Configuration → Step → ℕ → Bool → Bool
buffered_after m (Issue rank buffered) call before = if is_at (slice_get m.next rank) call then buffered else before
buffered_after m (Match send taker) call before = before
buffered_after m (See send probe) call before = before

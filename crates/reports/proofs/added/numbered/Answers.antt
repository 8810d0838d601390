use Rattle.std.proofs.Common.{◌∙◌, ℕ, List, ◌++◌, ap}
use Rattle.std.specs.Prelude.{string_bytes}
use Rattle.reports.proofs.added.numbered.Goals as goal

pub returns : goal.returns
returns c = (string_bytes c.in_ok-added.added, c.in_ok-added.ensures, c.in_ok-extend_from_slice.ensures.items ∙ ap (λ (l : List ℕ). c.args.numbers.items ++ l) c.as_bytes.ensures.value)

use Rattle.std.proofs.Common.{◌≡◌, ◌+◌, map, take}
use Rattle.std.specs.Prelude.{string_bytes}
use Rattle.session.specs.Phasing.{order_lines}
use Rattle.session.proofs.cut_files.order_text.Given as goal

abbrev pub invariant-loop-place : goal.invariant-loop-place
invariant-loop-place l = string_bytes l.text ≡ order_lines (map (λ number. number + 1) (take l.place-index l.order))

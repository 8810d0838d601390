use Rattle.std.proofs.Common.{◌≡◌, take}
use Rattle.std.specs.Prelude.{string_bytes}
use Rattle.session.specs.Ties.{ties_text}
use Rattle.session.proofs.ties.ties_text.Given as goal

-- the lines so far
abbrev pub invariant-loop-tie : goal.invariant-loop-tie
invariant-loop-tie l = string_bytes l.text ≡ ties_text l.lines (take l.tie-index l.ties)

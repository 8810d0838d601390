use Rattle.std.proofs.Common.{map, take}
use Rattle.explain_json.specs.Objects.{AreDecided}
use Rattle.explain_json.proofs.object.decided_text.Given as goal

abbrev pub invariant-loop-place : goal.invariant-loop-place
invariant-loop-place l = AreDecided (take l.place (map (λ d. d.verdict.now) l.deciders)) l.out.items

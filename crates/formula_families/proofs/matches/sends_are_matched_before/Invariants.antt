use Rattle.std.proofs.Common.{◌≡◌, ◌++◌, take}
use Rattle.std.specs.List.{flat_map}
use Rattle.formula.specs.Families.{send_is_matched_before}
use Rattle.formula_families.proofs.matches.sends_are_matched_before.Given as goal

abbrev pub invariant-loop-earlier : goal.invariant-loop-earlier
invariant-loop-earlier l = l.clauses ≡ l.initial.clauses ++ flat_map (send_is_matched_before l.source l.pair.0 l.pair.1) (take l.earlier-index l.earlier-items)

use Rattle.std.proofs.lemmas.Grind.{common_steps}
use Rattle.std.proofs.Common.{◌<◌, ℕ, [], map, length, arith, ap, ◌∙◌}
use Rattle.std.proofs.lemmas.List.{get_or-map, length-map}
use Rattle.calltext.specs.Names.{is_name}
use Rattle.calltext.proofs.CallReads.{not_names}
use Rattle.calltext.proofs.name.names_of.Goals as goal

pub returns-in-None-clause-none : goal.returns-in-None-clause-none
returns-in-None-clause-none c names =
    let i : ℕ = c.loop-word.word-index in
    let lt : i < length c.args.words.now = omega (arith, c.loop-word-test.true) in
    let other = c.in-None.ensures.none in
    not_names (map (λ w. w.now) c.args.words.now) i (omega (arith, lt, length-map c.args.words.now (λ w. w.now)))
    (ap is_name (get_or-map (λ w. w.now) c.args.words.now i (record { ref_ptr = (0, 0); now = [] }) [] lt) ∙ other) names.1

pub loop-word-preserved : goal.loop-word-preserved
loop-word-preserved c = grind (arith, common_steps)

pub returns-then-is_empty-clause-none : goal.returns-then-is_empty-clause-none
returns-then-is_empty-clause-none c = grind (arith, common_steps)

pub returns-clause-some : goal.returns-clause-some
returns-clause-some c = grind (arith, common_steps)

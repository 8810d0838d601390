use Rattle.std.proofs.Common.{◌≡◌, ◌∙◌, IsTrue, List, ℕ, ap, sym, subst, map, length, arith}
use Rattle.std.proofs.lemmas.Bool.{false≢true}
use Rattle.std.proofs.lemmas.List.{length-map}
use Rattle.refutations.specs.Proofs.{are_numbers}
use Rattle.pool.specs.parts.Batches.{capped_move}
use Rattle.pool.specs.Moves.{moved_hint}
use Rattle.pool.proofs.Renumbered.{moved_are_capped, written_back}
use Rattle.pool.proofs.derived.moved_line.Goals as goal

pub unreachable-requires : goal.unreachable-requires
unreachable-requires c =
    let first = c.args.first in
    let base = c.args.base in
    let given = c.into_parts-clause.result.1 in
    let same : c.as_mut_slice.result.now ≡ c.args.line.hints = c.as_mut_slice.ensures.value ∙ c.into_parts-clause.ensures.hints in
    let hints : c.move_hints.new.numbers ≡ map (moved_hint first base) c.args.line.hints =
    c.move_hints.ensures ∙ ap (map (capped_move first base)) same ∙ moved_are_capped first base c.args.line.hints c.requires in
    let many : length c.move_hints.new.numbers ≡ given.len = omega (arith, ap length hints, length-map c.args.line.hints (moved_hint first base), ap length c.into_parts-clause.ensures.hints, given.ok) in
    let back = written_back c.move_hints.new.numbers given.items given.len many (omega (arith, given.ok)) in
    let numbers : IsTrue (are_numbers c.move_hints.new.numbers) = subst (λ (l : List ℕ). IsTrue (are_numbers l)) (sym hints) c.requires in
    false≢true (c.in-None.ensures.when.1 (subst (λ (l : List ℕ). IsTrue (are_numbers l)) (sym back) numbers))

pub returns : goal.returns
returns c =
    let first = c.args.first in
    let base = c.args.base in
    let given = c.into_parts-clause.result.1 in
    let same : c.as_mut_slice.result.now ≡ c.args.line.hints = c.as_mut_slice.ensures.value ∙ c.into_parts-clause.ensures.hints in
    let hints : c.move_hints.new.numbers ≡ map (moved_hint first base) c.args.line.hints = c.move_hints.ensures ∙ ap (map (capped_move first base)) same ∙ moved_are_capped first base c.args.line.hints c.requires in
    let many : length c.move_hints.new.numbers ≡ given.len = omega (arith, ap length hints, length-map c.args.line.hints (moved_hint first base), ap length c.into_parts-clause.ensures.hints, given.ok) in
    let back = written_back c.move_hints.new.numbers given.items given.len many (omega (arith, given.ok)) in
    c.in-Some.ensures.made ∙ (λ i. record { literals = c.into_parts-clause.ensures.clause i; hints = (back ∙ hints) i })

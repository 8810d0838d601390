use Rattle.std.proofs.Common.{◌≡◌, ◌∙◌, IsTrue, List, ℕ, ap, sym, subst, map, length, arith}
use Rattle.std.proofs.lemmas.Bool.{false≢true}
use Rattle.std.proofs.lemmas.List.{length-map}
use Rattle.refutations.specs.Proofs.{are_numbers}
use Rattle.trimming.specs.Needed.{renumber}
use Rattle.trimming.proofs.Ranges.{numbers_renumbered, written_back}
use Rattle.trimming.proofs.renumbering.Renumbering.line.Goals as goal

pub unreachable-requires : goal.unreachable-requires
unreachable-requires c =
    let new = renumber c.args.self.now.clauses c.args.self.now.flags in
    let given = c.into_parts-clause.result.1 in
    let same : c.as_mut_slice.result.now ≡ c.args.line.hints = c.as_mut_slice.ensures.value ∙ c.into_parts-clause.ensures.hints in
    let hints : c.renumber.new.numbers ≡ map new c.args.line.hints = c.renumber.ensures ∙ ap (map new) same in
    let many : length c.renumber.new.numbers ≡ given.len = omega (arith, ap length hints, length-map c.args.line.hints new, ap length c.into_parts-clause.ensures.hints, given.ok) in
    let back = written_back c.renumber.new.numbers given.items given.len many (omega (arith, given.ok)) in
    let numbers : IsTrue (are_numbers c.renumber.new.numbers) =
    subst (λ (l : List ℕ). IsTrue (are_numbers l)) (sym hints) (numbers_renumbered c.args.self.now.clauses c.args.self.now.flags c.args.line.hints c.into_parts-clause.ensures.numbers) in
    false≢true (c.in-None.ensures.when.1 (subst (λ (l : List ℕ). IsTrue (are_numbers l)) (sym back) numbers))

use Rattle.std.proofs.Common.{◌++◌, ◌∷◌, [], ap, ◌∙◌}
use Rattle.std.specs.List.{flat_map}
use Rattle.prooflog.specs.Refutations.{literal_word}
use Rattle.exports.proofs.Texts.{clause_text}
use Rattle.exports.proofs.dimacs.put_clause.Goals as goal

pub returns : goal.returns
returns c =
    let old = c.args.out.now.items in
    clause_text old c.put_literals.new.out.items c.extend_from_slice.new.self.items c.args.clause.now
    (c.in_ok-put_literals.ensures ∙ ap (λ ls. old ++ flat_map (λ l. literal_word l ++ 32 ∷ []) ls) c.literals.ensures.same) c.in_ok-extend_from_slice.ensures.items

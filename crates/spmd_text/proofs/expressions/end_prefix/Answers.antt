use Rattle.std.proofs.Common.{◌∙◌, subst, List}
use Rattle.spmd_text.specs.declared.joints.Prefix.{Prefix}
use Rattle.spmd_text.specs.declared.piece.Token.{Token}
use Rattle.spmd_text.specs.parts.Growing.{ends_prefix}
use Rattle.spmd_text.specs.parts.Reading.{StandsBefore}
use Rattle.spmd_text.proofs.Alike.{alike_condition}
use Rattle.spmd_text.proofs.Going.{stands_same}
use Rattle.spmd_text.proofs.expressions.end_prefix.Goals as goal

pub returns-in-Not-clause-ended : goal.returns-in-Not-clause-ended
returns-in-Not-clause-ended c = λ a here rest stands alike ends.
    let e = subst (λ (x : Prefix). ends_prefix x a here rest) c.in-Not.is ends in
    let same = c.want.ensures.right (alike_condition c.args.inner.now a alike ∙ e.1) in
    subst (λ (x : List Token). StandsBefore c.want.new.parser x) e.0 (stands_same c.args.parser.now c.want.new.parser here same stands)

pub returns-in-Minus-clause-ended : goal.returns-in-Minus-clause-ended
returns-in-Minus-clause-ended c = λ a here rest stands alike ends.
    let e = subst (λ (x : Prefix). ends_prefix x a here rest) c.in-Minus.is ends in
    let same = c.want-in-Minus.ensures.right (alike_condition c.args.inner.now a alike ∙ e.1) in
    subst (λ (x : List Token). StandsBefore c.want-in-Minus.new.parser x) e.0 (stands_same c.args.parser.now c.want-in-Minus.new.parser here same stands)

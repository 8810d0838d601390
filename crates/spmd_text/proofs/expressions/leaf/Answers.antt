use Rattle.std.proofs.Common.{nat_eq, true, ◌≡◌, ◌∙◌, sym, ap, Some, None}
use Rattle.std.proofs.lemmas.Bool.{false≢true}
use Rattle.spmd_text.specs.declared.piece.Piece.{Piece}
use Rattle.spmd_text.specs.Words.{code}
use Rattle.spmd_text.specs.declared.parser.Parser.{Parser}
use Rattle.spmd_text.specs.declared.piece.Piece.TheVariants as piece
use Rattle.spmd_text.specs.declared.piece.Word.TheVariants as word
use Rattle.spmd_text.specs.parts.Growing.{leaf_of}
use Rattle.spmd_text.specs.parts.Reading.{next, behind_next, syntax_form}
use Rattle.spmd_text.proofs.Beginning.{leaf_at}
use Rattle.spmd_text.proofs.Found.{leaf_begun}
use Rattle.spmd_text.proofs.expressions.leaf.Goals as goal
use Rattle.spmd_text.proofs.expressions.leaf.Goals.{else-parser-via-then-parser+else-is, else-parser-via-else-parser}

pub returns-in-None-clause-leaf : goal.returns-in-None-clause-leaf
returns-in-None-clause-leaf c = λ depth a rest ahead operand leaf.
    let l = leaf_at c.args.parser.now depth a rest ahead operand leaf in
    let never : None ≡ Some a = sym c.in-None.is ∙ (c.leaf_of.ensures ∙ (ap leaf_of c.piece.ensures ∙ l.found)) in
    absurd cc

pub returns-in-Some-clause-leaf : goal.returns-in-Some-clause-leaf
returns-in-Some-clause-leaf c = λ depth a rest ahead operand leaf.
    let l = leaf_at c.args.parser.now depth a rest ahead operand leaf in
    let is : Some c.in-Some.leaf ≡ Some a = sym c.in-Some.is ∙ (c.leaf_of.ensures ∙ (ap leaf_of c.piece.ensures ∙ l.found)) in
    let same : c.in-Some.leaf ≡ a = cc in
    (record { sound = c.step.ensures.fault ∙ ahead.sound; left = c.step.ensures.left ∙ ap behind_next l.here }, ap syntax_form same)

pub returns-in-Some-clause-sound : goal.returns-in-Some-clause-sound
returns-in-Some-clause-sound c = λ least depth sound.
    let old : Parser = c.args.parser.now in
    let rank : old.in_parameter ≡ true → next old ≡ piece.Word word.Rank → ⊥ = λ inside is.
    elim c.else-parser.branch [
      | else-parser-via-then-parser+else-is w ↦ false≢true (sym w.if-is.false ∙ (w.is.ensures ∙ ap (λ (p : Piece). nat_eq (code p) 18) is))
      | else-parser-via-else-parser w ↦ false≢true (sym w.if-parser.false ∙ inside)
    ] in
    leaf_begun old c.step.new.self c.in-Some.leaf least depth (sym (ap leaf_of c.piece.ensures) ∙ (sym c.leaf_of.ensures ∙ c.in-Some.is)) c.step.ensures.left rank

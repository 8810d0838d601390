use Rattle.std.proofs.Common.{◌++◌, [], ◌∷◌, ap, sym}
use Rattle.prooflog.proofs.Headings.{no_heading}
use Rattle.prooflog.proofs.reader.version_of.Goals as goal

pub returns-clause-none : goal.returns-clause-none
returns-clause-none c =
    no_heading c.args.line.now (λ e. let t = c.is_word.ensures.1 e in let f = c.if-is_word.false in cc) (λ e. let t = c.is_word-2.ensures.1 e in let f = c.if-is_word-2.false in cc)

pub returns-then-is_word-clause-some : goal.returns-then-is_word-clause-some
returns-then-is_word-clause-some c = ap (λ word. word ++ 10 ∷ []) (sym (c.is_word.ensures.0 c.if-is_word.true))

pub returns-then-is_word-2-clause-some : goal.returns-then-is_word-2-clause-some
returns-then-is_word-2-clause-some c = ap (λ word. word ++ 10 ∷ []) (sym (c.is_word-2.ensures.0 c.if-is_word-2.true))

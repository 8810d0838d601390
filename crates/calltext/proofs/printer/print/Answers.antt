use Rattle.std.proofs.Common.{◌≡◌, ◌++◌, ℕ, List, length, take, arith, ap, sym, ◌∙◌, subst}
use Rattle.std.proofs.lemmas.Grind.{common_steps}
use Rattle.calltext.specs.Readable.{IsText}
use Rattle.calltext.specs.Grammar.{text_of, ProgramText}
use Rattle.calltext.specs.Body.{views}
use Rattle.calltext.specs.parts.Body.{heads, ranks_text}
use Rattle.calltext.proofs.PrintLaws.{text_is, one_more}
use Rattle.calltext.proofs.printer.print.Goals as goal

pub loop-rank-preserved : goal.loop-rank-preserved
loop-rank-preserved c =
    one_more (heads (length c.args.source.now.ranks) c.args.source.now.policy) c.loop-rank.out.items c.put_rank.new.out.items c.ranks-ranks.result.now c.loop-rank.rank c.index-ranks-rank.result c.deref.result.now
    c.loop-rank-test.true c.index-ranks-rank.is c.deref.ensures.value c.loop-rank.invariant c.in_ok-put_rank.ensures

pub returns : goal.returns
returns c =
    let p : ProgramText = c.args.source.now in
    let xs = c.ranks-ranks.result.now in
    let whole : take c.loop-rank.rank xs ≡ xs = grind (arith, common_steps) in
    let ranks : views xs ≡ p.ranks = c.ranks-ranks.ensures.lines in
    let text : c.loop-rank.out.items ≡ text_of p = c.loop-rank.invariant ∙ ap (λ t. heads (length p.ranks) p.policy ++ ranks_text 0 (views t)) whole ∙ ap (λ t. heads (length p.ranks) p.policy ++ ranks_text 0 t) ranks ∙ text_is p in
    subst (λ (t : List ℕ). IsText t p) (sym text) c.ranks-ranks.ensures.readable

pub overflow_cast-ranks : goal.overflow_cast-ranks
overflow_cast-ranks c = grind (arith, common_steps)

pub loop-rank-init : goal.loop-rank-init
loop-rank-init c = grind (arith, common_steps)

pub overflow_cast-rank : goal.overflow_cast-rank
overflow_cast-rank c = grind (arith, common_steps)

use Rattle.std.proofs.Common.{◌≡◌, ◌++◌, ◌∷◌, [], map, take, get_or, List, Option, IfNone, IfSome, ap, sym, subst, ◌∙◌, arith}
use Rattle.std.proofs.lemmas.Grind.{common_steps}
use Rattle.refutations.specs.declared.batch.BatchLine.{BatchLine}
use Rattle.refutations.specs.Derivations.{Derives}
use Rattle.refutations.specs.Proofs.{ProofLine}
use Rattle.pool.specs.Replies.{resolved}
use Rattle.pool.proofs.Derivations.{lines_more, batch_more, batch_fails, all_derive}
use Rattle.pool.proofs.extend.checked_lines.Goals as goal

pub returns-in-Ok-None-clause-stopped : goal.returns-in-Ok-None-clause-stopped
returns-in-Ok-None-clause-stopped c =
    let f = c.args.formula.now in
    let log = c.args.log.now in
    let of = resolved c.args.base in
    let i = c.loop-place.invariant in
    let told = subst (λ (found : Option ProofLine). IfNone found (Derives f (log ++ c.as_slice.result.now) (of c.index-batch-place.result) → ⊥)) c.in-Ok-None.field-0-is c.in-Ok-None.ensures.not_derived in
    batch_fails f log of c.args.batch.now c.loop-place.place c.index-batch-place.result (omega arith) i.derive
    (λ derived. told (subst (λ (l : BatchLine). Derives f (log ++ c.as_slice.result.now) (of l)) (sym c.index-batch-place.is)
    (subst (λ (ls : List ProofLine). Derives f (log ++ ls) (of (get_or c.args.batch.now c.loop-place.place c.index-batch-place.result))) (sym (c.as_slice.ensures.value ∙ i.so_far)) derived)))

pub loop-place-preserved : goal.loop-place-preserved
loop-place-preserved c =
    let f = c.args.formula.now in
    let log = c.args.log.now in
    let of = resolved c.args.base in
    let i = c.loop-place.invariant in
    let read = c.index-batch-place.result in
    let batch = c.args.batch.now in
    let place = c.loop-place.place in
    let there = get_or batch place read in
    let made : c.in-Ok-Some.line ≡ of there =
    subst (λ (found : Option ProofLine). IfSome found (λ l. l ≡ of read)) c.in-Ok-Some.field-0-is c.in-Ok-Some.ensures.made ∙ ap of c.index-batch-place.is
    in
    let told : Derives f (log ++ c.as_slice.result.now) (of read) =
    subst (λ (found : Option ProofLine). IfSome found (λ _. Derives f (log ++ c.as_slice.result.now) (of read))) c.in-Ok-Some.field-0-is c.in-Ok-Some.ensures.derived
    in
    let derived : Derives f (log ++ map of (take place batch)) (of there) =
    subst (λ (ls : List ProofLine). Derives f (log ++ ls) (of there)) (c.as_slice.ensures.value ∙ i.so_far)
    (subst (λ (l : BatchLine). Derives f (log ++ c.as_slice.result.now) (of l)) c.index-batch-place.is told)
    in
    record {
      so_far = c.in-Ok.ensures.items ∙ ap (λ (ls : List ProofLine). ls ++ c.in-Ok-Some.line ∷ []) i.so_far ∙ sym (lines_more of batch place read c.in-Ok-Some.line (omega arith) made);
      derive = batch_more f log of batch place read (omega arith) i.derive derived;
      size = c.checked_line.ensures.size ∙ i.size;
    }

pub returns-clause-derive : goal.returns-clause-derive
returns-clause-derive c =
    all_derive c.args.formula.now c.args.log.now (resolved c.args.base) c.args.batch.now c.loop-place.place (omega arith) c.loop-place.invariant.derive

pub checked_line-requires-clause-few : goal.checked_line-requires-clause-few
checked_line-requires-clause-few c = grind (arith, common_steps)

pub returns-clause-lines : goal.returns-clause-lines
returns-clause-lines c = grind (arith, common_steps)

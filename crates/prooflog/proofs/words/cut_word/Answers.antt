use Rattle.std.proofs.Common.{◌≡◌, ◌+◌, ◌-◌, ◌++◌, ◌∷◌, false, eqb, take, drop, length, ap, sym, subst, refl, ◌∙◌, arith, get_or}
use Rattle.std.specs.Prelude.{All}
use Rattle.std.proofs.lemmas.Grind.{common_steps}
use Rattle.std.proofs.lemmas.List.{take_more}
use Rattle.std.proofs.lemmas.List.Elements.{All-push}
use Rattle.std.proofs.lemmas.List.Splits.{slice_split_none, slice_split_at}
use Rattle.prooflog.specs.parts.Reading.{words_of}
use Rattle.prooflog.proofs.words.cut_word.Goals as goal

pub loop-i-preserved : goal.loop-i-preserved
loop-i-preserved c =
    let bs = c.args.line.now in
    let i = c.loop-i.i in
    let other : eqb (get_or bs i 0) 32 ≡ false = grind arith in
    subst (λ xs. All (λ byte. eqb byte 32 ≡ false) xs) (sym (take_more bs i 0 (omega arith))) (All-push (λ byte. eqb byte 32 ≡ false) (take i bs) (get_or bs i 0) c.loop-i.invariant other)

pub returns-then-byte-eq32-clause-words : goal.returns-then-byte-eq32-clause-words
returns-then-byte-eq32-clause-words c =
    let bs = c.args.line.now in
    let i = c.loop-i.i in
    let whole : bs ≡ take i bs ++ 32 ∷ take (length bs - (i + 1)) (drop (i + 1) bs) = grind (arith, common_steps) in
    ap words_of whole ∙ slice_split_at (λ byte. eqb byte 32) (take i bs) 32 (take (length bs - (i + 1)) (drop (i + 1) bs)) c.loop-i.invariant refl

pub returns-clause-words : goal.returns-clause-words
returns-clause-words c =
    let bs = c.args.line.now in
    let whole : take c.loop-i.i bs ≡ bs = grind (arith, common_steps) in
    slice_split_none (λ byte. eqb byte 32) bs (subst (λ xs. All (λ byte. eqb byte 32 ≡ false) xs) whole c.loop-i.invariant)

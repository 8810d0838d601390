use Rattle.std.proofs.Common.{◌<◌, ◌++◌, ◌∷◌, [], ℕ, List, length, get_or, sym, ap, ◌∙◌, arith}
use Rattle.std.proofs.lemmas.Grind.{common_steps}
use Rattle.std.proofs.lemmas.List.{take_more, take_more_set}
use Rattle.calltext.proofs.name.Name.new.Goals as goal

pub loop-place-preserved : goal.loop-place-preserved
loop-place-preserved c =
    let word : List ℕ = c.args.word.now in
    let place : ℕ = c.loop-place.place in
    let letter : ℕ = get_or word place 0 in
    let within : place < length word = c.loop-place-test.true in
    let room : place < length c.loop-place.letters = omega (arith, within, c.requires.short, c.loop-place.invariant.size) in
    record {
      size = grind (arith, common_steps, c.loop-place.invariant.size);
      copied =
          take_more_set c.loop-place.letters place letter room
          ∙ ap (λ (front : List ℕ). front ++ letter ∷ []) c.loop-place.invariant.copied
          ∙ sym (take_more word place 0 within);
    }

use Rattle.std.proofs.Common.{arith}
use Rattle.choices.proofs.WordByWord.{told_item}
use Rattle.choices.proofs.wording.put_words.Goals as goal

pub loop-place-preserved : goal.loop-place-preserved
loop-place-preserved c =
    told_item (λ w. w.now) c.args.source c.args.tag c.args.at c.loop-place.place c.args.words.now _ c.args.out.now.items c.loop-place.out.items
    c.put_word.new.out.items (omega arith) c.loop-place.invariant c.in_ok-put_word.ensures

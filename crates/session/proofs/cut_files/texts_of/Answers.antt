use Rattle.std.proofs.Common.{[], ◌∷◌, ◌++◌}
use Rattle.session.proofs.CutTexts.{texts_more}
use Rattle.session.proofs.cut_files.texts_of.Goals as goal

pub loop-text-preserved : goal.loop-text-preserved
loop-text-preserved c =
    let (parts, so_far, have) = c.loop-text.invariant in
    let text = c.in-Some.text in
    let one = c.in_ok-put.ensures parts so_far in
    (parts ++ record { text = text.items; job = one.0 } ∷ [], one.1, texts_more parts c.loop-text.yielded text one.0 have)

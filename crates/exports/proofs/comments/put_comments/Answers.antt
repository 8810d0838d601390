use Rattle.std.proofs.Common.{◌++◌, ◌+◌, sym, ap, ◌∙◌}
use Rattle.callorder.specs.Programs.{MpiProgram}
use Rattle.formula.specs.Families.{events}
use Rattle.exports.specs.Dimacs.{comment_line}
use Rattle.exports.proofs.Texts.{next_comment}
use Rattle.exports.proofs.comments.put_comments.Goals as goal

pub put_comment-requires : goal.put_comment-requires
put_comment-requires c = c.requires ∙ ap events (sym c.program.ensures.same)

pub loop-place-preserved : goal.loop-place-preserved
loop-place-preserved c =
    let p = c.args.encoded.now.program in
    next_comment p c.args.out.now.items c.loop-place.out.items c.put_comment.new.out.items c.loop-place.place c.in-Some.meaning c.loop-place.invariant (sym c.meaning.ensures ∙ c.in-Some.is)
    (c.in_ok-put_comment.ensures ∙ ap (λ (q : MpiProgram). c.loop-place.out.items ++ comment_line q (c.loop-place.place + 1) c.in-Some.meaning) c.program.ensures.same)

use Rattle.std.proofs.Common.{◌∙◌, ap, sym}
use Rattle.spmd_text.specs.declared.joints.Prefix.{Prefix}
use Rattle.spmd_text.specs.parts.Joints.{Place}
use Rattle.spmd_text.specs.parts.Growing.{enclosed}
use Rattle.spmd_text.proofs.Alike.{put_enclosed}
use Rattle.spmd_text.proofs.joints.enclosed.Goals as goal
use Rattle.spmd_text.proofs.joints.enclosed.Goals.{in-Not, in-Minus, in-Parentheses}

pub returns : goal.returns
returns c =
    let box = c.in_ok-inner.inner in
    let p : Place = record { ptr = box.ptr; alloc = box.alloc; value = tt } in
    let made_as = λ (kind : Prefix). enclosed kind p box.value in
    let put = put_enclosed c.args.prefix p box.value c.args.inner c.match-prefix.result c.in_ok-inner.ensures.ok in (
      p,
      elim c.match-prefix.branch [
        | in-Not w ↦ put (w.result-is ∙ sym (ap made_as w.in-Not.is))
        | in-Minus w ↦ put (w.result-is ∙ sym (ap made_as w.in-Minus.is))
        | in-Parentheses w ↦ put (w.result-is ∙ sym (ap made_as w.in-Parentheses.is))
      ],
    )

use Rattle.std.proofs.Common.{◌∙◌, ap, sym}
use Rattle.spmd_text.specs.declared.joints.Joint.{Joint}
use Rattle.spmd_text.specs.parts.Joints.{Place, joined_parts}
use Rattle.spmd_text.proofs.Alike.{put_joined}
use Rattle.spmd_text.proofs.joints.pair.Goals as goal
use Rattle.spmd_text.proofs.joints.pair.Goals.{in-Or, in-And, in-Compared, in-Between}

pub returns : goal.returns
returns c =
    let a = c.in_ok-a.a in
    let b = c.in_ok-a.b in
    let p : Place = record { ptr = a.ptr; alloc = a.alloc; value = tt } in
    let q : Place = record { ptr = b.ptr; alloc = b.alloc; value = tt } in
    let made_as = λ (j : Joint). joined_parts j p a.value q b.value in
    let put = put_joined c.args.joint p q a.value b.value c.args.a c.args.b c.match-joint.result c.in_ok-a.ensures.0 c.in_ok-a.ensures.1 in (
      p,
      q,
      elim c.match-joint.branch [
        | in-Or w ↦ put (w.result-is ∙ sym (ap made_as w.in-Or.is))
        | in-And w ↦ put (w.result-is ∙ sym (ap made_as w.in-And.is))
        | in-Compared w ↦ put (w.result-is ∙ sym (ap made_as w.in-Compared.is))
        | in-Between w ↦ put (w.result-is ∙ sym (ap made_as w.in-Between.is))
      ],
    )

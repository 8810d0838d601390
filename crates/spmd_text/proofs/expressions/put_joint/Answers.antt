use Rattle.std.proofs.Common.{◌≡◌, ◌∙◌, sym}
use Rattle.spmd_tree.specs.declared.tree.Expression.{Expression}
use Rattle.spmd_text.specs.parts.Joints.{joined_parts, Place}
use Rattle.spmd_text.specs.parts.Reading.{Alike}
use Rattle.spmd_text.proofs.Alike.{alike_condition, alike_joined, ok_more, ok_so}
use Rattle.spmd_text.proofs.Going.{sound_before, stands_same}
use Rattle.spmd_text.proofs.Growing.{joins_so}
use Rattle.spmd_text.proofs.expressions.put_joint.Goals as goal

pub returns-clause-joined : goal.returns-clause-joined
returns-clause-joined c = λ a b p q rest stands l r fit.
    let kind = alike_condition c.args.right b r ∙ ((joins_so c.args.joint a b fit).right_kind ∙ sym c.joins_conditions.ensures) in
    let here = stands_same c.args.parser.now c.want.new.parser rest (c.want.ensures.right kind) stands in
    let made =
    ok_more c.pair.result (λ (made : Expression). (p : Place) × (q : Place) × (made ≡ joined_parts c.args.joint p c.args.left q c.args.right)) (λ (made : Expression). Alike made (joined_parts c.args.joint p a q b))
    (λ made h. alike_joined c.args.joint h.0 c.args.left h.1 c.args.right made a b p q h.2 l r) c.pair.ensures in
    c.keep_made.ensures.kept (joined_parts c.args.joint p a q b) rest here made

pub returns-clause-sound : goal.returns-clause-sound
returns-clause-sound c = λ sound.
    let k = c.keep_made.ensures.sound sound in
    let w = c.want.ensures.sound (sound_before c.want.new.parser c.keep_made.new.parser c.keep_made.ensures.goes sound) in
    let made = ok_so c.pair.result c.keep_made.result (λ (made : Expression). (p : Place) × (q : Place) × (made ≡ joined_parts c.args.joint p c.args.left q c.args.right)) k.0 c.pair.ensures in
    record { p = made.0; q = made.1; is = made.2; same = k.1 ∙ w.0; kind = w.1 ∙ c.joins_conditions.ensures }

use Rattle.std.proofs.Common.{◌≡◌, ◌∙◌}
use Rattle.spmd_tree.specs.declared.tree.Expression.{Expression}
use Rattle.spmd_tree.specs.declared.tree.Expression.TheVariants as form
use Rattle.spmd_text.specs.parts.Joints.{Place}
use Rattle.spmd_text.specs.parts.Reading.{Alike}
use Rattle.spmd_text.proofs.Alike.{alike_choice, alike_condition, ok_more, ok_so}
use Rattle.spmd_text.proofs.Going.{sound_before, stands_same}
use Rattle.spmd_text.proofs.expressions.chosen.Goals as goal

pub returns-clause-chosen : goal.returns-clause-chosen
returns-clause-chosen c = λ d a b p q s rest stands cond yes no yes_number no_number.
    let first = stands_same c.args.parser.now c.want.new.parser rest (c.want.ensures.right (alike_condition c.args.yes a yes ∙ yes_number)) stands in
    let here = stands_same c.want.new.parser c.want-2.new.parser rest (c.want-2.ensures.right (alike_condition c.args.no b no ∙ no_number)) first in
    let made =
    ok_more c.choice.result (λ (made : Expression). (p : Place) × (q : Place) × (s : Place) × (made ≡ form.Choice' p c.args.condition q c.args.yes s c.args.no)) (λ (made : Expression). Alike made (form.Choice' p d q a s b))
    (λ made h. alike_choice h.0 c.args.condition h.1 c.args.yes h.2 c.args.no made d a b p q s h.3 cond yes no) c.choice.ensures in
    c.keep_made.ensures.kept (form.Choice' p d q a s b) rest here made

pub returns-clause-sound : goal.returns-clause-sound
returns-clause-sound c = λ sound.
    let k = c.keep_made.ensures.sound sound in
    let after = sound_before c.want-2.new.parser c.keep_made.new.parser c.keep_made.ensures.goes sound in
    let second = c.want-2.ensures.sound after in
    let first = c.want.ensures.sound (sound_before c.want.new.parser c.want-2.new.parser c.want-2.ensures.goes after) in
    let made = ok_so c.choice.result c.keep_made.result (λ (made : Expression). (p : Place) × (q : Place) × (s : Place) × (made ≡ form.Choice' p c.args.condition q c.args.yes s c.args.no)) k.0 c.choice.ensures in
    record { p = made.0; q = made.1; s = made.2; is = made.3; same = k.1 ∙ (second.0 ∙ first.0); yes_number = first.1; no_number = second.1 }

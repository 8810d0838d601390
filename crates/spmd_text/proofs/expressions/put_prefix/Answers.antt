use Rattle.std.proofs.Common.{◌≡◌, subst, sym}
use Rattle.spmd_tree.specs.declared.tree.Expression.{Expression}
use Rattle.spmd_text.specs.declared.parser.Parser.{Parser}
use Rattle.spmd_text.specs.parts.Growing.{ends_prefix}
use Rattle.spmd_text.proofs.Going.{sound_before}
use Rattle.spmd_text.specs.parts.Growing.{enclosed}
use Rattle.spmd_text.specs.parts.Joints.{Place}
use Rattle.spmd_text.specs.parts.Reading.{Alike}
use Rattle.spmd_text.proofs.Alike.{alike_enclosed, ok_more, ok_so}
use Rattle.spmd_text.proofs.expressions.put_prefix.Goals as goal

pub returns-clause-prefixed : goal.returns-clause-prefixed
returns-clause-prefixed c = λ a p here rest stands alike ends.
    let made =
    ok_more c.enclosed.result (λ (made : Expression). (p : Place) × (made ≡ enclosed c.args.prefix p c.args.inner)) (λ (made : Expression). Alike made (enclosed c.args.prefix p a))
    (λ made h. alike_enclosed c.args.prefix h.0 c.args.inner made a p h.1 alike) c.enclosed.ensures in
    c.keep_made.ensures.kept (enclosed c.args.prefix p a) rest (c.end_prefix.ensures.ended a here rest stands alike ends) made

pub returns-clause-sound : goal.returns-clause-sound
returns-clause-sound c = λ sound.
    let k = c.keep_made.ensures.sound sound in
    let e = c.end_prefix.ensures.sound (sound_before c.end_prefix.new.parser c.keep_made.new.parser c.keep_made.ensures.goes sound) in
    let made = ok_so c.enclosed.result c.keep_made.result (λ (made : Expression). (p : Place) × (made ≡ enclosed c.args.prefix p c.args.inner)) k.0 c.enclosed.ensures in
    record { p = made.0; is = made.1; ends = subst (λ (s : Parser). ends_prefix c.args.prefix c.args.inner c.args.parser.now.rest.now s.rest.now) (sym k.1) e }

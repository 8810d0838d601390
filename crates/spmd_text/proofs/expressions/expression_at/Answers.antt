use Rattle.std.proofs.Common.{◌≡◌, List, None, true, ◌∙◌, Bool, false, Some, ap, sym, subst, inr, arith}
use Rattle.spmd_text.specs.declared.parser.Parser.{Parser}
use Rattle.spmd_text.specs.Spelling.{after_value, after_expression, fits_binding, only}
use Rattle.spmd_tree.specs.declared.tree.Expression.{Expression}
use Rattle.spmd_text.specs.declared.piece.Token.{Token}
use Rattle.spmd_text.specs.parts.Joints.{stops}
use Rattle.spmd_text.specs.Limits.{IsTreeWithin}
use Rattle.spmd_text.specs.parts.Found.{WasRead}
use Rattle.spmd_text.specs.parts.Reading.{Alike, Finds}
use Rattle.spmd_text.proofs.Alike.{alike_condition}
use Rattle.spmd_text.proofs.Found.{number_fits}
use Rattle.spmd_text.proofs.Going.{found_then, sound_before, stands_same}
use Rattle.spmd_text.proofs.Parts.{found_as, keeps_of, keeps_on}
use Rattle.spmd_text.proofs.Growing.{fits_so, least_close, only_so}
use Rattle.spmd_text.proofs.expressions.expression_at.Goals as goal

pub returns : goal.returns
returns c = record {
  goes = keeps_on (keeps_of c.expression-read.ensures.goes) (keeps_of c.want.ensures.goes);
  finds = λ e rest sound spelled within stop. found_as (λ alike. tt) (complete e rest sound spelled within stop);
  stands = λ sound. (sound_so sound).0;
  may = λ sound. (sound_so sound).1;
}
  where
    complete : (e : Expression) (rest : List Token) → c.args.parser.now.fault ≡ None → after_value e (Some c.args.parser.now.rest.now) ≡ Some rest → IsTreeWithin 32 c.args.parser.now.in_parameter e → stops 4 rest ≡ true
        → Finds c.want.new.parser rest (Alike c.expression-read.result e)
    complete e rest sound spelled within stop =
        let parts = only_so (fits_binding e 4 false) (after_expression e (Some c.args.parser.now.rest.now)) rest spelled in
        let so = fits_so e 4 false parts.0 in
        found_then c.expression-read.new.parser c.want.new.parser rest rest (Alike c.expression-read.result e) (Alike c.expression-read.result e)
        (c.expression-read.ensures.complete e rest (record { sound = sound; spelled = parts.1; within = within }) (record { close = least_close e 4 (omega arith) so.0; number = λ h. so.1; ends = stop }))
        c.want.ensures.goes.sticks
        (λ stands alike. inr (stands_same c.expression-read.new.parser c.want.new.parser rest (c.want.ensures.right (alike_condition c.expression-read.result e alike ∙ so.1)) stands, alike))

    sound_so : c.want.new.parser.fault ≡ None → (after_value c.expression-read.result (Some c.args.parser.now.rest.now) ≡ Some c.want.new.parser.rest.now) × IsTreeWithin 32 c.args.parser.now.in_parameter c.expression-read.result
    sound_so sound =
        let old : Parser = c.args.parser.now in
        let wanted = c.want.ensures.sound sound in
        let before = sound_before c.expression-read.new.parser c.want.new.parser c.want.ensures.goes sound in
        let read = subst (λ (s : Parser). WasRead old.rest.now old.in_parameter s 4 32 c.expression-read.result) (sym wanted.0) (c.expression-read.ensures.sound before (omega arith)) in
        let fit = number_fits c.expression-read.result read.close wanted.1 in
        (ap (only (fits_binding c.expression-read.result 4 false)) read.spelled ∙ ap (λ (b : Bool). only b (Some c.want.new.parser.rest.now)) fit, read.within)

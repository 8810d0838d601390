use Rattle.std.proofs.Common.{◌≡◌, ◌∙◌, [], arith, sym}
use Rattle.std.specs.Prelude.{string_bytes}
use Rattle.std.proofs.lemmas.Bool.{eqb-true}
use Rattle.std.proofs.lemmas.Result.{IfOk-weaker}
use Rattle.explain.specs.Losing.{TellsLosses, lost_heading}
use Rattle.explain.specs.Often.{BeginsWithBytes}
use Rattle.reports.proofs.Losses.{empty_list, not_empty}
use Rattle.reports.proofs.added.losses.Goals as goal

pub returns-then-is_empty : goal.returns-then-is_empty
returns-then-is_empty c =
    let zero : c.in_ok-channels.channels.len ≡ 0 = eqb-true c.in_ok-channels.channels.len 0 (sym c.is_empty.ensures ∙ c.if-is_empty.true) in
    record {
      losing = c.in_ok-channels.channels.items;
      are = c.in_ok-channels.ensures;
      none = λ e. c.new.ensures.bytes;
      some = λ filled. absurd (filled (empty_list _ (omega (arith, c.in_ok-channels.channels.ok, zero))));
    }

pub returns : goal.returns
returns c =
    let filled : c.in_ok-channels.channels.items ≡ [] → ⊥ = λ e. not_empty c.in_ok-channels.channels.items c.in_ok-channels.channels.len (sym c.is_empty.ensures ∙ c.if-is_empty.false) (omega (arith, c.in_ok-channels.channels.ok)) e in
    IfOk-weaker c.lost_messages.result (λ told. BeginsWithBytes lost_heading (string_bytes told)) (λ told. TellsLosses c.args.program.now (string_bytes told))
    (λ told begins. record { losing = c.in_ok-channels.channels.items; are = c.in_ok-channels.ensures; none = λ e. absurd (filled e); some = λ _. begins })
    c.lost_messages.ensures

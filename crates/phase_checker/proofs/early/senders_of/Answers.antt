use Rattle.std.proofs.Common.{◌+◌, List, refl, sym, ◌∙◌, subst, arith}
use Rattle.std.specs.List.{list_any}
use Rattle.std.proofs.lemmas.Option.{slice_get_read}
use Rattle.callorder.specs.declared.calls.Call.{Call}
use Rattle.phase_checker.specs.declared.senders.Senders.{Senders}
use Rattle.phase_checker.specs.parts.Early.{is_sent, IsRaisedToPlace}
use Rattle.phase_checker.proofs.Tables.{IsSendersTo, read_at, senders_done, senders_more, senders_passed}
use Rattle.phase_checker.proofs.early.senders_of.Goals as goal
use Rattle.phase_checker.proofs.early.senders_of.Goals.{in-Some+in_ok-put_calls, in_default}

pub loop-number-preserved : goal.loop-number-preserved
loop-number-preserved c =
    let phases = c.args.phases.now in
    let last = c.in_ok-last.last.items in
    let old = c.loop-number.senders in
    let count = c.loop-number.number in
    let phase = c.index-phases-number.result in
    let here = slice_get_read phases _ count phase refl (omega arith) c.index-phases-number.is in
    let at = read_at _ c.args.order.now last count c.index.result.now c.in_ok-last.ensures (omega arith) c.index.ensures in
    elim c.match-index.branch [
      | in-Some+in_ok-put_calls w ↦
          let more = w.put_calls.new.self in
          let raised = subst (λ (z : List Call). IsRaisedToPlace (λ key. list_any (is_sent key) z) w.in-Some.place old more) w.calls.ensures w.in_ok-put_calls.ensures in
          subst (λ (z : Senders). IsSendersTo phases last z (count + 1)) (sym w.senders-is)
          (senders_more phases last old count c.loop-number.invariant phase here more w.in-Some.place (at ∙ w.in-Some.is) raised)
      | in_default w ↦
          subst (λ (z : Senders). IsSendersTo phases last z (count + 1)) (sym w.senders-is)
          (senders_passed phases last old count c.loop-number.invariant (at ∙ w.in_default.is))
    ]

pub returns : goal.returns
returns c =
    senders_done c.args.phases.now c.in_ok-last.last.items c.loop-number.senders c.loop-number.number c.loop-number.invariant c.args.order.now c.in_ok-last.ensures (omega arith)

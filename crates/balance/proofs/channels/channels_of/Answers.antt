use Rattle.std.proofs.Common.{◌≡◌, ◌<◌, ◌∙◌, ℕ, List, Option, Some, None, map, get_or, length, ap, sym, subst}
use Rattle.callorder.specs.declared.calls.Call.{Call}
use Rattle.callorder.specs.Programs.{MpiProgram}
use Rattle.balance.specs.declared.channels.ChannelAddress.{ChannelAddress}
use Rattle.balance.specs.Balance.{channel_at}
use Rattle.balance.specs.parts.Wildcards.{channel_address_of, AreWild, AreNumbersOfNames}
use Rattle.balance.proofs.Leaving.{none_at, some_at, one_listed}
use Rattle.balance.proofs.channels.channels_of.Goals as goal
use Rattle.balance.proofs.channels.channels_of.Goals.{in-None, in-Some}

-- the program that has these calls
abbrev with_calls : MpiProgram → List Call → MpiProgram
with_calls p calls = record { policy = p.policy; ranks = p.ranks; calls = calls }

pub loop-place-preserved : goal.loop-place-preserved
loop-place-preserved c =
    let calls = c.calls-calls.result.now in
    let numbers = c.in_ok-numbers.numbers.items in
    let table = c.in_ok-table.table.items in
    let place = c.loop-place.place in
    let p = c.args.program.now in
    let q = with_calls p calls in
    let numbered : AreNumbersOfNames (map channel_address_of calls) numbers = subst (λ (z : List (Option ChannelAddress)). AreNumbersOfNames z numbers) c.in_ok-addresses.ensures c.in_ok-numbers.ensures in
    let loose : AreWild calls (map channel_address_of calls) numbers table = subst (λ (z : List (Option ℕ)). AreWild calls (map channel_address_of calls) z table) c.deref.ensures.value c.in_ok-table.ensures in
    let back = ap (λ (z : List Call). channel_at (with_calls p z) place) c.calls-calls.ensures.value in
    let items = c.deref-number-items.ensures.value in
    let below = c.loop-place-test.true in
    one_listed p c.loop-place.channels.items c.push.new.self.items c.match-number.push place c.loop-place.invariant c.in_ok-push.ensures.items
    (elim c.match-number.branch [
      | in-None w ↦
          w.push-is ∙ sym (none_at q numbers place numbered (subst (λ (z : List (Option ℕ)). place < length z) items below) (subst (λ (z : List (Option ℕ)). get_or z place None ≡ None) items w.in-None.is)) ∙ back
      | in-Some w ↦
          w.push-is ∙ some_at q numbers table place _ w.in-Some.number w.index.result.now w.channel_in.result numbered loose
          (subst (λ (z : List (Option ℕ)). place < length z) items below)
          (subst (λ (z : List (Option ℕ)). get_or z place None ≡ Some w.in-Some.number) items w.in-Some.is) w.index.ensures w.channel_in.ensures ∙ back
    ])

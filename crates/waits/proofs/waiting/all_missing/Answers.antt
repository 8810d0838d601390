use Rattle.std.proofs.Common.{◌≡◌, Some, get_or, slice_get, arith}
use Rattle.std.proofs.lemmas.Bool.{both_ways}
use Rattle.std.proofs.lemmas.Option.{slice_get-get_or}
use Rattle.calltext.specs.Grammar.{long}
use Rattle.callorder.specs.Programs.{call_at}
use Rattle.waits.proofs.ComingSends.{all_of, one_of, past_of, rising_at}
use Rattle.waits.proofs.waiting.all_missing.Goals as goal
use Rattle.waits.proofs.waiting.all_missing.Goals.{then-is_missing+in_ok-push, else-is_missing}

pub loop-place-preserved : goal.loop-place-preserved
loop-place-preserved c =
    let p = c.args.program.now in
    let m = c.args.state.now in
    let xs = c.senders_to-among.result.now in
    let place = c.loop-place.place in
    let at : slice_get xs place ≡ Some (get_or xs place 0) = slice_get-get_or xs place 0 (omega (arith, c.loop-place-test.true)) in
    elim c.if-is_missing.branch [
      | then-is_missing+in_ok-push w ↦
          rw w.ranks-is (one_of p m c.args.operation xs place (get_or xs place 0) c.loop-place.ranks.items w.push.new.self.items (rising_at p m c.args.senders.now xs (call_at p c.args.operation) c.requires.senders c.senders_to-among.ensures) at w.in_ok-push.ensures.items (c.is_missing.ensures.0 w.if-is_missing.true) c.loop-place.invariant)
      | else-is_missing w ↦
          rw w.ranks-is (past_of p m c.args.operation xs place (get_or xs place 0) c.loop-place.ranks.items at (λ missing. both_ways _ w.if-is_missing.false (c.is_missing.ensures.1 missing)) c.loop-place.invariant)
    ]

pub returns-clause-ranks : goal.returns-clause-ranks
returns-clause-ranks c =
    all_of long c.args.program.now c.args.state.now c.args.operation c.loop-place.place c.args.senders.now c.senders_to-among.result.now c.loop-place.ranks.items c.calls-calls.ensures.kept c.requires.senders c.requires.looks c.senders_to-among.ensures
    (omega (arith, c.loop-place-test.false)) c.loop-place.invariant

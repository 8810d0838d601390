use Rattle.std.proofs.Common.{sym, ◌∙◌}
use Rattle.calltext.specs.Grammar.{long}
use Rattle.waits.proofs.ComingSends.{one_coming}
use Rattle.waits.proofs.senders.add_call.Goals as goal

pub returns : goal.returns
returns c = λ known.
    one_coming long c.args.program.now c.args.state.now c.args.place c.in-Some.call c.in-Some-message.message c.args.senders.now.items c.add.new.senders.items c.calls-calls.ensures.kept (sym c.call.ensures ∙ c.in-Some.is)
    (sym c.message.ensures ∙ c.in-Some-message.is) c.in_ok-add.ensures known

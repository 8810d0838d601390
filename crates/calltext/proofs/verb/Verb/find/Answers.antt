use Rattle.std.proofs.Common.{◌≢◌, arith}
use Rattle.calltext.specs.declared.verb.Verb.{Verb}
use Rattle.calltext.specs.parts.Verbs.{verbs}
use Rattle.calltext.specs.Verbs.{verb_word}
use Rattle.calltext.proofs.Verbs.{of_each}
use Rattle.calltext.proofs.verb.Verb.find.Goals as goal

pub returns-clause-none : goal.returns-clause-none
unfolding verbs
returns-clause-none c v e = of_each (λ (w : Verb). verb_word w ≢ c.args.word.now) (λ i lt. c.loop-verb.invariant i (omega (arith, lt, c.loop-verb-test.false))) v e

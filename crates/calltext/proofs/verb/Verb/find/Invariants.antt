use Rattle.std.proofs.Common.{◌≢◌, ◌<◌, ℕ, get_or}
use Rattle.calltext.specs.declared.verb.Verb.TheVariants as verb
use Rattle.calltext.specs.parts.Verbs.{verbs}
use Rattle.calltext.specs.Verbs.{verb_word}
use Rattle.calltext.proofs.verb.Verb.find.Given as goal

abbrev pub invariant-loop-verb : goal.invariant-loop-verb
invariant-loop-verb l = (i : ℕ) → i < l.verb-index → verb_word (get_or verbs i verb.Wait) ≢ l.word

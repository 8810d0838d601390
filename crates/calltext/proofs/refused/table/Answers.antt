use Rattle.std.proofs.Common.{refl}
use Rattle.calltext.specs.RefusedWords.{refused_words}
use Rattle.calltext.proofs.refused.table.Goals as goal

pub returns-clause-words : goal.returns-clause-words
unfolding refused_words
returns-clause-words c = refl

pub returns-clause-count : goal.returns-clause-count
unfolding refused_words
returns-clause-count c = refl

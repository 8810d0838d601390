use Rattle.session.proofs.TaskEnds.{plain_words_are_answered}
use Rattle.session.proofs.laws.plain_words_are_answered.Goals as goal

pub returns : goal.returns
returns c = plain_words_are_answered

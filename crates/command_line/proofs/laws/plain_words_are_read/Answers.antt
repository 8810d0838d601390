use Rattle.command_line.proofs.PlainWords.{plain_words_are_read}
use Rattle.command_line.proofs.laws.plain_words_are_read.Goals as goal

pub returns : goal.returns
returns c = plain_words_are_read

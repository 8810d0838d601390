use Rattle.command_line.proofs.OptionWords.{option_words_are_read}
use Rattle.command_line.proofs.laws.option_words_are_read.Goals as goal

pub returns : goal.returns
returns c = option_words_are_read

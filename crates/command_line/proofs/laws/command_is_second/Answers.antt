use Rattle.command_line.proofs.SecondWords.{command_is_second}
use Rattle.command_line.proofs.laws.command_is_second.Goals as goal

pub returns : goal.returns
returns c = λ words task asks. command_is_second words task asks.named asks.faultless

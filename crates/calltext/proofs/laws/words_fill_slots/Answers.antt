use Rattle.calltext.proofs.Slots as slots
use Rattle.calltext.proofs.laws.words_fill_slots.Goals as goal

pub returns : goal.returns
returns c = slots.words_fill_slots

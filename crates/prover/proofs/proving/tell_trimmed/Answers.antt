use Rattle.prover.proofs.proving.tell_trimmed.Goals as goal

pub returns-in-Ok : goal.returns-in-Ok
returns-in-Ok g c = λ p text within on is_text. c.tell.ensures p text (c.shorten.ensures p on) is_text

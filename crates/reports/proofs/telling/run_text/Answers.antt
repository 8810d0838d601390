use Rattle.std.proofs.Common.{inl}
use Rattle.reports.proofs.telling.run_text.Goals as goal

pub picture-requires : goal.picture-requires
picture-requires g c = inl c.requires.stuck

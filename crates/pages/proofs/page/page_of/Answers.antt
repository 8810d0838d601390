use Rattle.std.proofs.Common.{rules}
use Rattle.pages.proofs.page.page_of.Goals as goal

pub returns-in-Ok-clause-made : goal.returns-in-Ok-clause-made
returns-in-Ok-clause-made c = search rules

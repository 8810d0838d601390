use Rattle.std.proofs.Common.{◌≡◌, take, drop}
use Rattle.pages.proofs.page.shared.Given as goal

abbrev pub invariant-loop-page : goal.invariant-loop-page
invariant-loop-page l = l.shared.items ≡ take l.page-index (drop l.from l.pages)

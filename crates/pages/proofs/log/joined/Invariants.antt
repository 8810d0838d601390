use Rattle.std.proofs.Common.{◌≡◌}
use Rattle.pages.specs.Pages.{joined_pages}
use Rattle.pages.proofs.log.joined.Given as goal

abbrev pub invariant-loop-page : goal.invariant-loop-page
invariant-loop-page l = l.lines.items ≡ joined_pages l.yielded

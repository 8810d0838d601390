use Rattle.std.proofs.Common.{◌∙◌, refl}
use Rattle.junit.proofs.report.Report.text.Goals as goal

pub returns : goal.returns
returns c = λ cases is. c.in_ok-put_parts.ensures ∙ rw (c.new-text.ensures.items, c.deref.ensures.value, is.text, is.tests, is.failed, is.broken) refl

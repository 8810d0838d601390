use Rattle.std.proofs.Common.{◌≡◌, ◌+◌, ◌∙◌, Bool, List, true, Some, ap, length, slice_get, subst, arith, rules}
use Rattle.trimming.specs.Needed.{needed}
use Rattle.trimming.proofs.MarkLaws.{all_needed}
use Rattle.trimming.proofs.unneeded.first_unneeded.Goals as goal

pub returns-clause-none : goal.returns-clause-none
returns-clause-none c =
    let marks : c.in_ok-marks.marks.items ≡ needed c.args.tree.now (c.args.clauses + 1) c.args.lines.now = search rules in
    let read : c.deref-mark-items.result.now ≡ needed c.args.tree.now (c.args.clauses + 1) c.args.lines.now = c.deref-mark-items.ensures.value ∙ marks in
    all_needed (needed c.args.tree.now (c.args.clauses + 1) c.args.lines.now)
    (λ j h. subst (λ (l : List Bool). slice_get l j ≡ Some true) read (c.loop-place.invariant j (omega (arith, h, ap length read))))

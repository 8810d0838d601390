use Rattle.std.proofs.Common.{◌≡◌, ◌≤◌, ◌++◌, length, sym, subst, arith, rules}
use Rattle.std.specs.Option.{IfSome}
use Rattle.std.proofs.lemmas.Grind.{common_steps}
use Rattle.std.proofs.lemmas.List.{length-append}
use Rattle.prooflog.specs.parts.Reading.{HaveReached, IsTextPart}
use Rattle.prooflog.proofs.Parts.{one_more_part}
use Rattle.prooflog.proofs.ahead.with_part.Goals as goal

pub returns-in-Ok : goal.returns-in-Ok
returns-in-Ok c =
    let part = c.in-Some.field-0 in
    let is : IsTextPart c.args.bytes.now c.in-Some.field-0 = subst (λ found. IfSome found (IsTextPart c.args.bytes.now)) c.in-Some.is c.requires.part in
    let here : c.in-Some.field-0.start ≡ c.args.used = grind (arith, common_steps, c.if-start-used.false) in
    let reached : HaveReached c.args.bytes.now part.start c.args.lines.now.items = subst (λ place. HaveReached c.args.bytes.now place c.args.lines.now.items) (sym here) c.requires.reached in
    let few : length (c.args.lines.now.items ++ c.in-Some.field-0.lines.items) ≤ 1000000 = grind (arith, common_steps, c.len.ensures, c.len-else-start-used.ensures, c.if-len-gt-MOST_LINES.false, length-append c.args.lines.now.items c.in-Some.field-0.lines.items) in
    subst (HaveReached c.args.bytes.now part.end) (sym c.in-Ok.ensures.items) (one_more_part c.args.bytes.now part.start part.end c.args.lines.now.items part.lines.items reached is.forward is.within is.whole few)

pub returns-in_default : goal.returns-in_default
returns-in_default c = search rules

pub overflow_add-len : goal.overflow_add-len
overflow_add-len c = search rules

pub returns-then-start-used : goal.returns-then-start-used
returns-then-start-used c = search rules

pub returns : goal.returns
returns c = search rules

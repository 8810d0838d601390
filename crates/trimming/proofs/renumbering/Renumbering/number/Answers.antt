use Rattle.std.proofs.Common.{◌≡◌, ◌+◌, ◌-◌, ap, ◌∙◌, length, min, refl, arith}
use Rattle.trimming.specs.Needed.{renumber}
use Rattle.trimming.specs.parts.Marks.{Staying}
use Rattle.trimming.proofs.Counting.{count_first_most, count_read, length-running, renumber_later}
use Rattle.trimming.proofs.renumbering.Renumbering.number.Goals as goal

pub index-count-requires : goal.index-count-requires
index-count-requires c =
    omega (arith, c.min.ensures, c.len.ensures, ap length c.self.invariant, length-running 0 c.self.inside.stays.items, c.self.inside.before.ok.0, c.self.inside.stays.ok.0)

pub overflow_cast-result : goal.overflow_cast-result
overflow_cast-result c =
    let flags = c.self.inside.stays.items in
    let place = c.args.number - c.self.inside.clauses - 1 in
    let size : c.len.result ≡ length flags = omega (arith, c.len.ensures, c.self.inside.stays.ok.0) in
    let count = count_read c.self.inside.clauses c.args.number flags c.self.inside.before.items c.min.result c.index-count.result.now c.self.invariant (c.min.ensures ∙ ap (min place) size) c.index-count.ensures in
    omega (arith, count, count_first_most place flags, c.if-number-self.false, c.ranges.number.fits)

pub overflow_add-result : goal.overflow_add-result
overflow_add-result c =
    let flags = c.self.inside.stays.items in
    let place = c.args.number - c.self.inside.clauses - 1 in
    let size : c.len.result ≡ length flags = omega (arith, c.len.ensures, c.self.inside.stays.ok.0) in
    let count = count_read c.self.inside.clauses c.args.number flags c.self.inside.before.items c.min.result c.index-count.result.now c.self.invariant (c.min.ensures ∙ ap (min place) size) c.index-count.ensures in
    omega (arith, count, count_first_most place flags, c.if-number-self.false, c.ranges.number.fits)

pub overflow_add-result-2 : goal.overflow_add-result-2
overflow_add-result-2 c =
    let flags = c.self.inside.stays.items in
    let place = c.args.number - c.self.inside.clauses - 1 in
    let size : c.len.result ≡ length flags = omega (arith, c.len.ensures, c.self.inside.stays.ok.0) in
    let count = count_read c.self.inside.clauses c.args.number flags c.self.inside.before.items c.min.result c.index-count.result.now c.self.invariant (c.min.ensures ∙ ap (min place) size) c.index-count.ensures in
    omega (arith, count, count_first_most place flags, c.if-number-self.false, c.ranges.number.fits)

pub returns : goal.returns
returns c =
    let flags = c.self.inside.stays.items in
    let place = c.args.number - c.self.inside.clauses - 1 in
    let size : c.len.result ≡ length flags = omega (arith, c.len.ensures, c.self.inside.stays.ok.0) in
    let count = count_read c.self.inside.clauses c.args.number flags c.self.inside.before.items c.min.result c.index-count.result.now c.self.invariant (c.min.ensures ∙ ap (min place) size) c.index-count.ensures in
    ap (λ n. c.self.inside.clauses + n + 1) count
    ∙ renumber_later c.self.inside.clauses flags c.args.number place c.if-number-self.false refl
    ∙ ap (λ (s : Staying). renumber s.clauses s.flags c.args.number) c.self.view_is

use Rattle.std.proofs.Common.{◌≡◌, ◌-◌, suc, replicate, length, false, true, Bool, List, ℕ, Some, slice_get, sym, ap, subst, ◌∙◌, refl, rules, arith}
use Rattle.std.proofs.lemmas.Option.{slice_get_read}
use Rattle.trimming.specs.parts.Marks.{AreMarked, mark_all, mark_leaves}
use Rattle.trimming.proofs.MarkLaws.{marked_leaves, marked_needed, marked_unneeded_at, marked_all}
use Rattle.trimming.proofs.marks.needed_lines.Goals as goal

pub loop-place-init : goal.loop-place-init
loop-place-init c =
    let items : c.in_ok-marks.marks.items ≡ replicate (length c.args.lines.now) false = search rules in
    marked_leaves c.args.clauses c.args.lines.now c.args.nodes.now c.mark_leaves.new.marks.items
    (c.mark_leaves.ensures ∙ ap (λ (l : List Bool). mark_leaves c.args.clauses (length c.args.lines.now) l c.args.nodes.now) items)

pub loop-place-preserved-then-index : goal.loop-place-preserved-then-index
loop-place-preserved-then-index c =
    let place = c.loop-place.place - 1 in
    let next : c.loop-place.place ≡ suc place = omega arith in
    let was = subst (λ (n : ℕ). AreMarked c.args.clauses c.args.lines.now c.args.nodes.now c.loop-place.marks.items n) next c.loop-place.invariant in
    let line = c.index-lines-place.result in
    let at : slice_get c.args.lines.now place ≡ Some line = slice_get_read c.args.lines.now (length c.args.lines.now) place line refl (omega arith) c.index-lines-place.is in
    let marked : slice_get c.loop-place.marks.items place ≡ Some true =
    slice_get_read c.loop-place.marks.items (length c.loop-place.marks.items) place c.index.result.now refl (omega (arith, was.size)) c.index.ensures ∙ ap Some c.if-index.true in
    let is : c.mark_all.new.marks.items ≡ mark_all c.args.clauses place c.loop-place.marks.items line.hints =
    c.mark_all.ensures ∙ ap (mark_all c.args.clauses place c.loop-place.marks.items) c.hints.ensures.same in
    subst (λ (l : List Bool). AreMarked c.args.clauses c.args.lines.now c.args.nodes.now l place) (sym is)
    (marked_needed c.args.clauses c.args.lines.now c.args.nodes.now c.loop-place.marks.items place line was at marked)

pub loop-place-preserved : goal.loop-place-preserved
loop-place-preserved c =
    let place = c.loop-place.place - 1 in
    let next : c.loop-place.place ≡ suc place = omega arith in
    let was = subst (λ (n : ℕ). AreMarked c.args.clauses c.args.lines.now c.args.nodes.now c.loop-place.marks.items n) next c.loop-place.invariant in
    let marked : slice_get c.loop-place.marks.items place ≡ Some false =
    slice_get_read c.loop-place.marks.items (length c.loop-place.marks.items) place c.index.result.now refl (omega (arith, was.size)) c.index.ensures ∙ ap Some c.if-index.false in
    marked_unneeded_at c.args.clauses c.args.lines.now c.args.nodes.now c.loop-place.marks.items place was (omega arith) marked

pub returns : goal.returns
returns c =
    let none : c.loop-place.place ≡ 0 = omega arith in
    marked_all c.args.clauses c.args.lines.now c.args.nodes.now c.loop-place.marks.items
    (subst (λ (n : ℕ). AreMarked c.args.clauses c.args.lines.now c.args.nodes.now c.loop-place.marks.items n) none c.loop-place.invariant)

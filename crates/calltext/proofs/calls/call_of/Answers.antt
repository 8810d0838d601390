use Rattle.std.proofs.Common.{map, drop, arith, ◌∙◌, rules}
use Rattle.std.proofs.lemmas.Grind.{common_steps}
use Rattle.calltext.proofs.Verbs.{no_verb}
use Rattle.calltext.proofs.CallReads.{read_none, read_some}
use Rattle.calltext.proofs.calls.call_of.Goals as goal

pub returns-in_default-find-clause-none : goal.returns-in_default-find-clause-none
returns-in_default-find-clause-none c call names e = no_verb _ (map (λ w. w.now) (drop 1 c.args.words.now)) c.in_default-find.ensures.none call (e ∙ grind (arith, common_steps))

pub returns-clause-none : goal.returns-clause-none
returns-clause-none c = read_none c.in-Some.verb _ (map (λ w. w.now) c.args.words.now) c.in_ok-call.call c.in_ok-call.ensures (grind (arith, common_steps, c.in-Some.ensures.some))

pub returns-clause-some : goal.returns-clause-some
returns-clause-some c = read_some c.in-Some.verb _ (map (λ w. w.now) c.args.words.now) c.in_ok-call.call c.in_ok-call.ensures (grind (arith, common_steps, c.in-Some.ensures.some))

pub returns-in_default-clause-none : goal.returns-in_default-clause-none
returns-in_default-clause-none c = grind (arith, common_steps)

pub returns-in_default-clause-some : goal.returns-in_default-clause-some
returns-in_default-clause-some c = search rules

pub slice_bounds-operands-count : goal.slice_bounds-operands-count
slice_bounds-operands-count c = search rules

pub bounds-words-0 : goal.bounds-words-0
bounds-words-0 c = search rules

pub slice_bounds-operands-start : goal.slice_bounds-operands-start
slice_bounds-operands-start c = search rules

pub slice_bounds-operands-end : goal.slice_bounds-operands-end
slice_bounds-operands-end c = search rules

pub slice_bounds-find-end : goal.slice_bounds-find-end
slice_bounds-find-end c = search rules

pub returns-in_default-find-clause-some : goal.returns-in_default-find-clause-some
returns-in_default-find-clause-some c = search rules

-- All calls are named.
use Rattle.std.proofs.Common.{◌≡◌, ◌∙◌, ◌≤◌, ap, arith, sym, subst, ℕ, List, [], None, length}
use Rattle.clocks.specs.parts.Spans.{AreNamedUpTo}
use Rattle.clocks.proofs.SpanNames.{all_spans, all_widest, growing_within, none_named}
use Rattle.clocks.proofs.spans.names_of.Goals as goal

pub loop-place-init : goal.loop-place-init
loop-place-init c = subst (λ (names : List ℕ). AreNamedUpTo c.args.program.now c.args.state.now 0 names None) (sym c.new-names.ensures.items) (none_named c.args.program.now c.args.state.now)

pub go_on-growing-requires-clause-named : goal.go_on-growing-requires-clause-named
go_on-growing-requires-clause-named c = record { old = c.loop-place.names.items; are = c.loop-place.invariant; is = c.in_ok-push.ensures.items }

pub loop-place-preserved : goal.loop-place-preserved
loop-place-preserved c = c.go_on-growing.ensures

pub close-requires : goal.close-requires
close-requires c = growing_within c.args.program.now c.args.state.now c.loop-place.place c.loop-place.names.items c.loop-place.growing c.loop-place.invariant

pub returns-clause-spans : goal.returns-clause-spans
returns-clause-spans c =
    all_spans c.args.program.now c.args.state.now c.loop-place.place c.loop-place.names.items c.close.new.names.items c.loop-place.growing c.loop-place.invariant c.close.ensures.names

pub returns-clause-widest : goal.returns-clause-widest
returns-clause-widest c =
    all_widest c.args.program.now c.args.state.now c.loop-place.place c.loop-place.names.items c.close.new.names.items c.loop-place.growing c.loop-place.invariant c.close.ensures.names
    (omega (arith, c.loop-place-test.false, ap length c.calls-place-end.ensures.value))

-- The growing span goes on, or ends.
use Rattle.std.proofs.Common.{◌≡◌, ◌∙◌, ◌<◌, ◌≤◌, ◌+◌, ap, arith, sym, subst, ℕ, List, [], ◌∷◌, ◌++◌, Option, Some, None, length, length-append}
use Rattle.std.specs.Prelude.{IfNone, IfSome}
use Rattle.std.proofs.lemmas.Option.{same_Some}
use Rattle.callorder.specs.Programs.{MpiProgram}
use Rattle.semantics.specs.Machine.{Configuration}
use Rattle.clocks.specs.Spans.{IsStretch, MayBegin, MayFollow}
use Rattle.clocks.specs.parts.Clocks.{block_of}
use Rattle.clocks.specs.parts.Spans.{AreNamedUpTo, AreNamedWith, IsClosed, IsOpen, IsOpenSpan}
use Rattle.clocks.specs.declared.spans.Span.{Span}
use Rattle.clocks.proofs.SpanNames.{begins_anew, block_push, closed_anew, goes_on, none_reach}
use Rattle.clocks.proofs.spans.go_on.Goals as goal
use Rattle.clocks.proofs.spans.go_on.Goals.{in-Some+in_default-grown, in_default}

pub returns-in-Some-grown : goal.returns-in-Some-grown
returns-in-Some-grown c =
    let p = c.args.program.now in
    let e = c.args.state.now in
    let named = c.requires.named in
    let are : AreNamedUpTo p e c.args.place named.old (Some c.in-Some.span) = subst (AreNamedUpTo p e c.args.place named.old) c.in-Some.is named.are in
    subst (λ (names : List ℕ). AreNamedUpTo p e (c.args.place + 1) names (Some c.in-Some-grown.longer)) (sym named.is)
    (goes_on p e c.args.place named.old c.in-Some.span c.in-Some-grown.longer are c.in-Some-grown.ensures.some.0 c.in-Some-grown.ensures.some.1)

pub returns : goal.returns
returns c =
    let stays : (span : Span) → c.match-growing.growing ≡ Some span → MayFollow c.args.program.now span.first c.args.place → ⊥
    = elim c.match-growing.branch [
      | in-Some+in_default-grown w ↦ λ span some follows.
          let same : span ≡ w.in-Some.span = same_Some _ _ (sym some ∙ w.growing-is) in
          w.in_default-grown.ensures.none (subst (λ (s : Span). MayFollow c.args.program.now s.first c.args.place) same follows)
      | in_default w ↦ λ span some follows. w.in_default.not-Some span (sym w.growing-is ∙ some)
    ] in
    let growing : c.match-growing.growing ≡ c.args.growing = elim c.match-growing.branch [
      | in-Some+in_default-grown w ↦ w.growing-is ∙ sym w.in-Some.is
      | in_default w ↦ w.growing-is
    ] in
    closed_anew c.args.program.now c.args.state.now c.args.place c.requires.named c.match-growing.growing growing stays c.close.new.names.items c.begun.result c.close.ensures.count
    c.close.ensures.names c.begun.ensures.some c.begun.ensures.none

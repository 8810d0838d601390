-- The span's calls have its first one's name.
use Rattle.std.proofs.Common.{◌≡◌, ◌∙◌, Some, ap, arith, length, subst, sym}
use Rattle.std.proofs.lemmas.Option.{same_Some}
use Rattle.clocks.specs.declared.spans.Span.{Span}
use Rattle.clocks.specs.parts.Spans.{IsWithin}
use Rattle.clocks.proofs.spans.close.Goals as goal

pub returns-clause-names : goal.returns-clause-names
returns-clause-names c =
    let within = subst (IsWithin (length c.args.names.now.items)) c.in-Some.is c.requires in
    let at : (span : Span) → c.args.span ≡ Some span → span ≡ c.in-Some.span = λ span some. same_Some _ _ (sym some ∙ c.in-Some.is) in
    record {
      inner = λ span some mixed d low high.
          let is = at span some in
          let first : span.first ≡ c.in-Some.span.first = ap (λ (s : Span). s.first) is in
          let last : span.last ≡ c.in-Some.span.last = ap (λ (s : Span). s.last) is in
          c.loop-place.invariant.1 d (omega (arith, low, first)) (omega (arith, high, last, c.loop-place-test.false)) ∙ sym first;
      other = λ d out.
          c.loop-place.invariant.2 d
          (λ low high. out c.in-Some.span c.in-Some.is (grind (arith, c.if-not-span.false)) low (omega (arith, high, c.loop-place.auto.place-end within.0)));
    }

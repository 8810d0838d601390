use Rattle.std.proofs.Common.{◌≡◌, ◌-◌, IsTrue, ℕ, subst, sym, arith, drop, get_or, length, take}
use Rattle.std.proofs.lemmas.List.{length-take-le, take-append-drop}
use Rattle.places.specs.Marks.{IsOfName}
use Rattle.places.proofs.marks.stem_of.Goals as goal

pub returns-then-not-is_of_name : goal.returns-then-not-is_of_name
returns-then-not-is_of_name c =
    let text = c.args.text.now in
    let end = length text - c.loop-count.count in
    let size : length (take end text) ≡ end = length-take-le end text (omega arith) in
    record {
      name = drop end text;
      parts = sym (take-append-drop end text);
      letters = λ k from below. c.loop-count.invariant k (omega (arith, from, size)) below;
      last = λ some is. let here = subst (λ (n : ℕ). IsOfName (get_or text (n - 1) 0)) size is in let there : IsTrue c.is_of_name.result = c.is_of_name.ensures.1 here in absurd (cc (c.if-not-is_of_name.true));
    }

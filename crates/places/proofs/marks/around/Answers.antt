use Rattle.std.proofs.Common.{◌≡◌, ◌≢◌, ◌++◌, ◌∙◌, List, ℕ, Some, None, ap, ap₂, sym, arith, drop, length}
use Rattle.std.proofs.lemmas.Bool.Decides.{Decides-eqb}
use Rattle.std.proofs.lemmas.List.{take-append-drop}
use Rattle.std.proofs.lemmas.Slice.Eq.{strip_prefix_is}
use Rattle.std.proofs.Math.Seq.{drop-append_seam}
use Rattle.places.proofs.marks.around.Goals as goal

pub returns-in-Some-clause-some : goal.returns-in-Some-clause-some
returns-in-Some-clause-some c =
    let text = c.args.text.now in
    let rest = c.split_at.result.1.now in
    let parts : rest ≡ c.args.mark.now ++ c.in-Some.behind.now = strip_prefix_is Decides-eqb rest c.args.mark.now (Some c.in-Some.behind) c.in-Some.ensures.cases in
    record {
      parts = sym (take-append-drop c.loop-at.at text) ∙ ap₂ (λ (a b : List ℕ). a ++ b) (sym c.split_at.ensures.front) (sym c.split_at.ensures.back ∙ parts);
      first = λ a b is. omega (arith, c.split_at.ensures.front_len, c.loop-at.invariant a b is);
    }

pub loop-at-preserved : goal.loop-at-preserved
loop-at-preserved c = λ a b is.
    let none = strip_prefix_is Decides-eqb c.split_at.result.1.now c.args.mark.now None c.in_default.ensures.cases in
    let other : c.loop-at.at ≢ length a = λ same.
    none b (c.split_at.ensures.back ∙ ap (λ (n : ℕ). drop n c.args.text.now) same ∙ ap (λ (l : List ℕ). drop (length a) l) is ∙ drop-append_seam a (c.args.mark.now ++ b)) in
    omega (arith, other, c.loop-at.invariant a b is)

use Rattle.std.proofs.Common.{rules, ◌≡◌, ◌≢◌, ◌++◌, ◌∙◌, IsTrue, List, ℕ, Some, None, ap, ap₂, subst, sym, arith, drop, length, take}
use Rattle.std.proofs.lemmas.Bool.Decides.{Decides-eqb}
use Rattle.std.proofs.lemmas.List.{length-append, take-append-drop}
use Rattle.std.proofs.lemmas.Slice.Eq.{strip_prefix_is}
use Rattle.std.proofs.Math.Seq.{drop-append_seam, take-append_seam}
use Rattle.places.specs.Marks.{EndsInName}
use Rattle.places.proofs.marks.naming.Goals as goal
use Rattle.places.proofs.marks.naming.Goals.{in-Some+else-not-ends_in_name, in_default}

pub returns-then-not-ends_in_name-clause-some : goal.returns-then-not-ends_in_name-clause-some
returns-then-not-ends_in_name-clause-some c =
    let text = c.args.text.now in
    let rest = c.split_at.result.1.now in
    let parts : rest ≡ c.args.mark.now ++ c.in-Some.behind.now = strip_prefix_is Decides-eqb rest c.args.mark.now (Some c.in-Some.behind) c.in-Some.ensures.cases in
    record {
      names = record {
        parts = sym (take-append-drop c.loop-at.at text) ∙ ap₂ (λ (a b : List ℕ). a ++ b) (sym c.split_at.ensures.front) (sym c.split_at.ensures.back ∙ parts);
        free = λ ends. let there : IsTrue c.ends_in_name.result = c.ends_in_name.ensures.1 ends in absurd (cc (c.if-not-ends_in_name.true));
      };
      first = λ a b is. omega (arith, c.split_at.ensures.front_len, c.loop-at.invariant a b is);
    }

pub loop-at-preserved : goal.loop-at-preserved
loop-at-preserved c = λ a b is.
    let text = c.args.text.now in
    let other : c.loop-at.at ≢ length a = λ same.
    elim c.match-strip_prefix.branch [
      | in-Some+else-not-ends_in_name w ↦
          let front : c.split_at.result.0.now ≡ a =
          c.split_at.ensures.front ∙ ap (λ (n : ℕ). take n text) same ∙ ap (λ (l : List ℕ). take (length a) l) is.parts ∙ take-append_seam a (c.args.mark.now ++ b) in
          let there : IsTrue w.ends_in_name.result = search rules in
          let here : EndsInName c.split_at.result.0.now = w.ends_in_name.ensures.0 there in
          is.free (subst (λ (l : List ℕ). EndsInName l) front here)
      | in_default w ↦
          strip_prefix_is Decides-eqb c.split_at.result.1.now c.args.mark.now None w.in_default.ensures.cases b
          (c.split_at.ensures.back ∙ ap (λ (n : ℕ). drop n text) same ∙ ap (λ (l : List ℕ). drop (length a) l) is.parts ∙ drop-append_seam a (c.args.mark.now ++ b))
    ] in
    omega (arith, other, c.loop-at.invariant a b is)

pub returns-clause-none : goal.returns-clause-none
returns-clause-none c = λ front behind names. let past = c.loop-at.invariant front behind names in let size = ap length names.parts in omega (arith, past, size, length-append front (c.args.mark.now ++ behind))

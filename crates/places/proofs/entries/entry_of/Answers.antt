-- The line is cut in one way alone.
use Rattle.std.proofs.Common.{◌≡◌, ◌∙◌, ◌++◌, List, ℕ, Some, None, ap, sym, drop, arith, codes}
use Rattle.std.proofs.lemmas.Bool.Decides.{Decides-eqb}
use Rattle.std.proofs.lemmas.Slice.Eq.{strip_prefix_is}
use Rattle.places.proofs.Digits.{if_none, no_digit, one_cut}
use Rattle.places.proofs.entries.entry_of.Goals as goal

pub returns-in_err-rest-2-clause-none : goal.returns-in_err-rest-2-clause-none
returns-in_err-rest-2-clause-none c = if_none c.from_residual-in_err-rest-2.result _ (λ digits words of.
    let line = c.args.line.now in
    let rest = c.in_ok-rest.rest.now in
    let behind = c.digits_of.result.1.now in
    let more = of.0 ++ (codes ", " ++ words) in
    let is : line ≡ codes "line " ++ rest = strip_prefix_is Decides-eqb line (codes "line ") (Some c.in_ok-rest.rest) c.in_ok-rest.ensures.cases in
    let none = strip_prefix_is Decides-eqb behind (codes ": rank ") None c.in_err-rest-2.ensures.cases in
    let cut = one_cut rest c.digits_of.result.0.now digits behind (codes ": rank " ++ more) c.digits_of.ensures.digits of.1 c.digits_of.ensures.all (no_digit 58 (codes " rank " ++ more) (λ h. omega (arith, h.1)))
    c.digits_of.ensures.parts (ap (λ (l : List ℕ). drop 5 l) (sym is ∙ of.3)) in
    none more cut.1)

pub returns-in_err-words-clause-none : goal.returns-in_err-words-clause-none
returns-in_err-words-clause-none c = if_none c.from_residual-in_err-words.result _ (λ digits words of.
    let line = c.args.line.now in
    let rest = c.in_ok-rest.rest.now in
    let behind = c.digits_of.result.1.now in
    let second = c.in_ok-rest-2.rest.now in
    let last = c.digits_of-2.result.1.now in
    let more = of.0 ++ (codes ", " ++ words) in
    let is : line ≡ codes "line " ++ rest = strip_prefix_is Decides-eqb line (codes "line ") (Some c.in_ok-rest.rest) c.in_ok-rest.ensures.cases in
    let then : behind ≡ codes ": rank " ++ second = strip_prefix_is Decides-eqb behind (codes ": rank ") (Some c.in_ok-rest-2.rest) c.in_ok-rest-2.ensures.cases in
    let none = strip_prefix_is Decides-eqb last (codes ", ") None c.in_err-words.ensures.cases in
    let cut = one_cut rest c.digits_of.result.0.now digits behind (codes ": rank " ++ more) c.digits_of.ensures.digits of.1 c.digits_of.ensures.all (no_digit 58 (codes " rank " ++ more) (λ h. omega (arith, h.1)))
    c.digits_of.ensures.parts (ap (λ (l : List ℕ). drop 5 l) (sym is ∙ of.3)) in
    let next = one_cut second c.digits_of-2.result.0.now of.0 last (codes ", " ++ words) c.digits_of-2.ensures.digits of.2 c.digits_of-2.ensures.all (no_digit 44 (codes " " ++ words) (λ h. omega (arith, h.0)))
    c.digits_of-2.ensures.parts (ap (λ (l : List ℕ). drop 7 l) (sym then ∙ cut.1)) in
    none words next.1)

pub returns-clause-some : goal.returns-clause-some
returns-clause-some c =
    let line = c.args.line.now in
    let rest = c.in_ok-rest.rest.now in
    let behind = c.digits_of.result.1.now in
    let second = c.in_ok-rest-2.rest.now in
    let last = c.digits_of-2.result.1.now in
    let is : line ≡ codes "line " ++ rest = strip_prefix_is Decides-eqb line (codes "line ") (Some c.in_ok-rest.rest) c.in_ok-rest.ensures.cases in
    let then : behind ≡ codes ": rank " ++ second = strip_prefix_is Decides-eqb behind (codes ": rank ") (Some c.in_ok-rest-2.rest) c.in_ok-rest-2.ensures.cases in
    let end : last ≡ codes ", " ++ c.in_ok-words.words.now = strip_prefix_is Decides-eqb last (codes ", ") (Some c.in_ok-words.words) c.in_ok-words.ensures.cases in (
      c.digits_of-2.result.0.now,
      c.digits_of.ensures.digits,
      c.digits_of-2.ensures.digits,
      is ∙ ap (λ (l : List ℕ). codes "line " ++ l) (c.digits_of.ensures.parts
          ∙ ap (λ (l : List ℕ). c.digits_of.result.0.now ++ l) (then ∙ ap (λ (l : List ℕ). codes ": rank " ++ l) (c.digits_of-2.ensures.parts ∙ ap (λ (l : List ℕ). c.digits_of-2.result.0.now ++ l) end))),
    )

use Rattle.std.proofs.Common.{◌≡◌, ℕ, ◌-◌, ◌≤◌, ◌↔◌, Bool, true, false, List, ◌∷◌, Option, Some, None, length, take, drop, get_or, min, refl, ap, sym, ◌∙◌, arith}
use Rattle.std.specs.Option.{IfSome, IsSome}
use Rattle.std.proofs.lemmas.Grind.{common_steps}
use Rattle.plaintext.specs.Plain.{numeral}
use Rattle.clauses.specs.Clauses.{Literal}
use Rattle.prooflog.specs.parts.Reading.{IsReadLiteral}
use Rattle.prooflog.proofs.ProofWords.{signed_word, digit_first}
use Rattle.prooflog.proofs.proof_line.literal_of.Goals as goal

abbrev literal : ℕ → Bool → Literal
literal n sign = record { variable = n; positive = sign }

-- what is made of a number that was read up to a limit is the literal of that number, where there
-- is one
read_literal : (found : Option Literal) (read n : ℕ) (sign : Bool) → IfSome found (λ l. l ≡ literal read sign) → IsSome found ↔ ((1 ≤ read) × (read ≤ 2147483647)) → read ≡ min n 2147483648 → IsReadLiteral found (literal n sign)
read_literal None read n sign made when e = λ is. let t = when.1 (omega (arith, e, is), omega (arith, e, is)) in cc
read_literal (Some l) read n sign made when e =
    let fits = when.0 refl in
    (made ∙ ap (λ (x : ℕ). literal x sign) (omega (arith, e, fits)), (omega (arith, e, fits), omega (arith, e, fits)))

-- what begins with `-` is a negative literal's word or none
no_signed : (sign : Bool) (n : ℕ) (w v : List ℕ) → w ≡ 45 ∷ v → ((m : ℕ) → numeral m ≡ v → ⊥) → signed_word sign n ≡ w → ⊥
no_signed true n w v e none is = omega (arith, digit_first n, ap (λ (l : List ℕ). get_or l 0 0) (is ∙ e))
no_signed false n w v e none is = none n (tail (is ∙ e))
  where
    tail : 45 ∷ numeral n ≡ 45 ∷ v → numeral n ≡ v
    tail p = cc

pub returns-in_default-clause-none : goal.returns-in_default-clause-none
returns-in_default-clause-none c = λ l is.
    let w = c.args.word.now in
    let whole : w ≡ 45 ∷ take (length w - 1) (drop 1 w) = grind (arith, common_steps) in
    no_signed l.positive l.variable w (take (length w - 1) (drop 1 w)) whole c.in_default.ensures.none is

pub returns-then-word-eq45-clause-some : goal.returns-then-word-eq45-clause-some
returns-then-word-eq45-clause-some c =
    let w = c.args.word.now in
    let whole : w ≡ 45 ∷ take (length w - 1) (drop 1 w) = grind (arith, common_steps) in
    let n = c.in-Some.ensures.some in
    (literal n.0 false, ap (λ (ds : List ℕ). 45 ∷ ds) n.1 ∙ sym whole, read_literal c.make.result c.in-Some.variable n.0 false c.make.ensures.made c.make.ensures.when n.2)

pub returns-clause-some : goal.returns-clause-some
returns-clause-some c =
    let n = c.in-Some-number_of.ensures.some in
    (literal n.0 true, n.1, read_literal c.make-2.result c.in-Some-number_of.variable n.0 true c.make-2.ensures.made c.make-2.ensures.when n.2)

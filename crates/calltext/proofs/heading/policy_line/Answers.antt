use Rattle.std.proofs.lemmas.Grind.{common_steps}
use Rattle.std.proofs.Common.{◌≡◌, ℕ, List, map, ◌++◌, ◌∷◌, [], rules, ap, sym, ◌∙◌, arith}
use Rattle.std.specs.Str.{IsAscii}
use Rattle.plaintext.specs.Plain.{text_lines}
use Rattle.plaintext.proofs.Cuts.{parts, line_is}
use Rattle.calltext.specs.Grammar.{policy_words}
use Rattle.calltext.proofs.Lines.{policy_line_words}
use Rattle.plaintext.proofs.Ascii.{ascii_line}
use Rattle.calltext.proofs.heading.policy_line.Goals as goal

pub returns-in_default-policy_of-clause-err : goal.returns-in_default-policy_of-clause-err
returns-in_default-policy_of-clause-err c =
    let line : List ℕ = c.in-Some.line.now in
    let seen : map (λ w. w.now) c.deref.result.now ≡ parts line = ap (map (λ w. w.now)) c.deref.ensures.value ∙ c.in_ok-words.ensures in
    let ascii : IsAscii line = search rules in
    (line ++ 10 ∷ [], text_lines c.in-Some.rest.now, c.in-Some.ensures.some, (ascii_line line ascii, λ (p, e). c.in_default-policy_of.ensures.none p (policy_line_words p line e ∙ sym seen)))

pub returns-clause-ok : goal.returns-clause-ok
returns-clause-ok c =
    let line : List ℕ = c.in-Some.line.now in
    let seen : map (λ w. w.now) c.deref.result.now ≡ parts line = ap (map (λ w. w.now)) c.deref.ensures.value ∙ c.in_ok-words.ensures in
    c.in-Some.ensures.some ∙ ap (λ (l : List ℕ). l ∷ text_lines c.in-Some.rest.now) (sym (line_is (policy_words c.in-Some-policy_of.policy) line (c.in-Some-policy_of.ensures.some ∙ seen)))

pub returns-then-not-is_ascii-clause-err : goal.returns-then-not-is_ascii-clause-err
returns-then-not-is_ascii-clause-err c = grind (arith, common_steps)

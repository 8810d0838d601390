use Rattle.std.proofs.lemmas.Grind.{common_steps}
use Rattle.std.proofs.Common.{◌≡◌, ℕ, List, map, ◌++◌, ◌∷◌, [], arith, rules, ap, sym, ◌∙◌}
use Rattle.std.specs.Str.{IsAscii}
use Rattle.plaintext.specs.Plain.{line_of, text_lines}
use Rattle.plaintext.proofs.Cuts.{parts, line_is}
use Rattle.calltext.specs.Grammar.{ranks_words}
use Rattle.calltext.specs.parts.Item.{IsRanksLine, AreRanksWithin}
use Rattle.calltext.proofs.Lines.{unended_wrong, ranks_line_words, ranks_injective}
use Rattle.plaintext.proofs.Ascii.{ascii_line}
use Rattle.calltext.proofs.heading.ranks_line.Goals as goal

pub returns-in_default-clause-err : goal.returns-in_default-clause-err
returns-in_default-clause-err c = unended_wrong IsRanksLine (AreRanksWithin c.args.limits) c.unended.result c.args.bytes.now c.in_default.ensures.none c.unended.ensures (λ (n, e). (ranks_words n, e))

pub returns-in_default-ranks_of-clause-err : goal.returns-in_default-ranks_of-clause-err
returns-in_default-ranks_of-clause-err c =
    let line : List ℕ = c.in-Some.line.now in
    let seen : map (λ w. w.now) c.deref.result.now ≡ parts line = ap (map (λ w. w.now)) c.deref.ensures.value ∙ c.in_ok-words.ensures in
    let ascii : IsAscii line = search rules in
    (line ++ 10 ∷ [], text_lines c.in-Some.rest.now, c.in-Some.ensures.some, (ascii_line line ascii, λ (n, e). c.in_default-ranks_of.ensures.none n (ranks_line_words n line e ∙ sym seen)))

pub returns-then-ranks-lt1-clause-err : goal.returns-then-ranks-lt1-clause-err
returns-then-ranks-lt1-clause-err c =
    let line : List ℕ = c.in-Some.line.now in
    let seen : map (λ w. w.now) c.deref.result.now ≡ parts line = ap (map (λ w. w.now)) c.deref.ensures.value ∙ c.in_ok-words.ensures in
    let ascii : IsAscii line = search rules in
    let n = c.in-Some-ranks_of.ensures.some in
    let spelled : line_of (ranks_words n.0) ≡ line ++ 10 ∷ [] = line_is (ranks_words n.0) line (n.1 ∙ seen) in
    (line ++ 10 ∷ [], text_lines c.in-Some.rest.now, c.in-Some.ensures.some, (ascii_line line ascii, (n.0, spelled), λ (m, low, high, e). let same : m ≡ n.0 = ranks_injective m n.0 (ranks_line_words m line e ∙ sym (n.1 ∙ seen)) in grind (arith, same, n.2, low, high)))

pub returns-clause-ok : goal.returns-clause-ok
returns-clause-ok c =
    let line : List ℕ = c.in-Some.line.now in
    let seen : map (λ w. w.now) c.deref.result.now ≡ parts line = ap (map (λ w. w.now)) c.deref.ensures.value ∙ c.in_ok-words.ensures in
    let n = c.in-Some-ranks_of.ensures.some in
    let same : c.in-Some-ranks_of.ranks ≡ n.0 = omega (arith, n.2) in
    c.in-Some.ensures.some ∙ ap (λ (l : List ℕ). l ∷ text_lines c.in-Some.rest.now) (sym (line_is (ranks_words c.in-Some-ranks_of.ranks) line (ap ranks_words same ∙ n.1 ∙ seen)))

pub returns-then-not-is_ascii-clause-err : goal.returns-then-not-is_ascii-clause-err
returns-then-not-is_ascii-clause-err c = grind (arith, common_steps)

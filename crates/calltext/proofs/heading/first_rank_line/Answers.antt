use Rattle.std.proofs.lemmas.Grind.{common_steps}
use Rattle.std.proofs.Common.{◌≡◌, ℕ, true, List, map, ◌++◌, ◌∷◌, [], rules, ap, sym, ◌∙◌, arith}
use Rattle.std.specs.Str.{IsAscii}
use Rattle.plaintext.specs.Plain.{text_lines}
use Rattle.plaintext.proofs.Cuts.{parts, line_is}
use Rattle.calltext.specs.Grammar.{rank_words}
use Rattle.calltext.specs.parts.Item.{IsFirstRankLine}
use Rattle.calltext.proofs.Lines.{unended_wrong, rank_line_words}
use Rattle.plaintext.proofs.Ascii.{ascii_line}
use Rattle.calltext.proofs.heading.first_rank_line.Goals as goal

pub returns-in_default-clause-err : goal.returns-in_default-clause-err
returns-in_default-clause-err c = unended_wrong IsFirstRankLine IsFirstRankLine c.unended.result c.args.bytes.now c.in_default.ensures.none c.unended.ensures (λ e. (rank_words 0, e))

pub returns-then-not-is_rank-clause-err : goal.returns-then-not-is_rank-clause-err
returns-then-not-is_rank-clause-err c =
    let line : List ℕ = c.in-Some.line.now in
    let seen : map (λ w. w.now) c.deref.result.now ≡ parts line = ap (map (λ w. w.now)) c.deref.ensures.value ∙ c.in_ok-words.ensures in
    let ascii : IsAscii line = search rules in
    (line ++ 10 ∷ [], text_lines c.in-Some.rest.now, c.in-Some.ensures.some, (ascii_line line ascii, λ e. absurd (let t : c.is_rank.result ≡ true = c.is_rank.ensures.1 (rank_line_words 0 line e ∙ sym seen) in let f = c.if-not-is_rank.true in cc)))

pub returns-clause-ok : goal.returns-clause-ok
returns-clause-ok c =
    let line : List ℕ = c.in-Some.line.now in
    let seen : map (λ w. w.now) c.deref.result.now ≡ parts line = ap (map (λ w. w.now)) c.deref.ensures.value ∙ c.in_ok-words.ensures in
    c.in-Some.ensures.some ∙ ap (λ (l : List ℕ). l ∷ text_lines c.in-Some.rest.now) (sym (line_is (rank_words 0) line (c.is_rank.ensures.0 c.if-not-is_rank.false ∙ seen)))

pub returns-then-not-is_ascii-clause-err : goal.returns-then-not-is_ascii-clause-err
returns-then-not-is_ascii-clause-err c = grind (arith, common_steps)

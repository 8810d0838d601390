use Rattle.std.proofs.Common.{◌≡◌, ◌≢◌, ◌<◌, ℕ, List, [], get_or, length, arith, ap, sym, ◌∙◌, true, false}
use Rattle.std.proofs.lemmas.List.{get_or-map, length-map}
use borrow.Author.Count.{below_more}
use Rattle.calltext.specs.RefusedWords.{refused_word}
use Rattle.calltext.proofs.refused.RefusedWord.find.Goals as goal

pub loop-index-preserved : goal.loop-index-preserved
loop-index-preserved c =
    let i : ℕ = c.loop-index.index in
    let word : List ℕ = c.args.word.now in
    let lt : i < length c.table-words.result = omega (arith, ap length c.table-words.ensures.words, length-map c.table-words.result (λ w. w.now), c.table-words.ensures.count, c.loop-index-test.true) in
    let spelled : refused_word i ≡ (get_or c.table-words.result i (record { ref_ptr = (0, 0); now = [] })).now =
    ap (λ (words : List (List ℕ)). get_or words i []) (sym c.table-words.ensures.words) ∙ get_or-map (λ w. w.now) c.table-words.result i (record { ref_ptr = (0, 0); now = [] }) [] lt in
    below_more (λ (k : ℕ). refused_word k ≢ word) i c.loop-index.invariant
    (λ e. let t : c.is_word.result ≡ true = c.is_word.ensures.1 (sym e ∙ spelled) in let f : c.is_word.result ≡ false = c.if-is_word.false in cc)

use Rattle.std.proofs.lemmas.Grind.{common_steps}
use Rattle.std.proofs.Common.{◌≡◌, ◌≢◌, ◌<◌, ℕ, true, List, length, map, ◌∷◌, rules, ap, sym, ◌∙◌, arith}
use Rattle.std.specs.Str.{IsAscii}
use Rattle.plaintext.proofs.Cuts.{parts, line_is}
use Rattle.calltext.specs.Grammar.{call_words, rank_words, HasNames, IsInRange}
use Rattle.calltext.specs.RefusedWords.{refused_word, refused_words}
use Rattle.calltext.specs.declared.call.CallLine.{CallLine}
use Rattle.plaintext.proofs.Ascii.{ascii_line}
use Rattle.calltext.proofs.Lines.{no_call_line, rank_line_words, no_refused_line, item_call, item_range}
use Rattle.calltext.proofs.CallReads.{some_of, none_of}
use Rattle.calltext.proofs.line.item_of.Goals as goal

pub returns-then-is_in_range-clause-ok : goal.returns-then-is_in_range-clause-ok
returns-then-is_in_range-clause-ok c =
    let seen : map (λ w. w.now) c.deref.result.now ≡ parts c.args.line.now = ap (map (λ w. w.now)) c.deref.ensures.value ∙ c.in_ok-words.ensures in
    item_call c.args.limits c.args.line.now _ c.in-Some.call c.requires.limits seen (some_of _ _ _ c.in-Some.is c.in_ok-found.ensures.some) (c.is_in_range.ensures.0 c.if-is_in_range.true)

pub returns-in-Some-clause-err : goal.returns-in-Some-clause-err
returns-in-Some-clause-err c =
    let seen : map (λ w. w.now) c.deref.result.now ≡ parts c.args.line.now = ap (map (λ w. w.now)) c.deref.ensures.value ∙ c.in_ok-words.ensures in
    let ascii : IsAscii c.args.line.now = search rules in
    let no : IsInRange c.args.limits c.in-Some.call → ⊥ = λ fits. absurd (let t : c.is_in_range.result ≡ true = c.is_in_range.ensures.1 fits in let f = c.if-is_in_range.false in cc) in
    let x = item_range c.args.limits c.args.line.now _ c.in-Some.call seen (some_of _ _ _ c.in-Some.is c.in_ok-found.ensures.some) no in
    (ascii_line c.args.line.now ascii, x.0, x.1, x.2, x.3)

pub returns-then-rank_follows-clause-ok : goal.returns-then-rank_follows-clause-ok
returns-then-rank_follows-clause-ok c =
    let seen : map (λ w. w.now) c.deref-2.result.now ≡ parts c.args.line.now = ap (map (λ w. w.now)) c.deref-2.ensures.value ∙ c.in_ok-words.ensures in
    let follows = c.rank_follows.ensures.0 c.if-rank_follows.true in
    (follows.0, line_is (rank_words c.args.next) c.args.line.now (follows.1 ∙ seen))

pub returns-in-Some-refused_in-clause-err : goal.returns-in-Some-refused_in-clause-err
returns-in-Some-refused_in-clause-err c =
    let line : List ℕ = c.args.line.now in
    let seen : map (λ w. w.now) c.deref.result.now ≡ parts line = ap (map (λ w. w.now)) c.deref.ensures.value ∙ c.in_ok-words.ensures in
    let seen2 : map (λ w. w.now) c.deref-2.result.now ≡ parts line = ap (map (λ w. w.now)) c.deref-2.ensures.value ∙ c.in_ok-words.ensures in
    let seen3 : map (λ w. w.now) c.deref-3.result.now ≡ parts line = ap (map (λ w. w.now)) c.deref-3.ensures.value ∙ c.in_ok-words.ensures in
    let ascii : IsAscii line = search rules in
    let no_call : (x : CallLine) → HasNames x → call_words x ≢ parts line = λ x names e. none_of _ _ c.in_default.is c.in_ok-found.ensures.none x names (e ∙ sym seen) in
    let found = c.in-Some-refused_in.ensures.some in (
      ascii_line line ascii,
      no_call_line line no_call,
      λ lt e. absurd (let t : c.rank_follows.result ≡ true = c.rank_follows.ensures.1 (lt, rank_line_words c.args.next line e ∙ sym seen2) in let f = c.if-rank_follows.false in cc),
      (found.0, found.1, sym (line_is (refused_word c.in-Some-refused_in.word ∷ found.1) line (found.2 ∙ seen3))),
    )

pub returns-clause-err : goal.returns-clause-err
returns-clause-err c =
    let line : List ℕ = c.args.line.now in
    let seen : map (λ w. w.now) c.deref.result.now ≡ parts line = ap (map (λ w. w.now)) c.deref.ensures.value ∙ c.in_ok-words.ensures in
    let seen2 : map (λ w. w.now) c.deref-2.result.now ≡ parts line = ap (map (λ w. w.now)) c.deref-2.ensures.value ∙ c.in_ok-words.ensures in
    let seen3 : map (λ w. w.now) c.deref-3.result.now ≡ parts line = ap (map (λ w. w.now)) c.deref-3.ensures.value ∙ c.in_ok-words.ensures in
    let ascii : IsAscii line = search rules in
    let no_call : (x : CallLine) → HasNames x → call_words x ≢ parts line = λ x names e. none_of _ _ c.in_default.is c.in_ok-found.ensures.none x names (e ∙ sym seen) in
    let no_word : (w : ℕ) (others : List (List ℕ)) → w < length refused_words → refused_word w ∷ others ≢ parts line = λ w others lt e. c.in_default-refused_in.ensures.none w others lt (e ∙ sym seen3) in (
      ascii_line line ascii,
      no_call_line line no_call,
      λ lt e. absurd (let t : c.rank_follows.result ≡ true = c.rank_follows.ensures.1 (lt, rank_line_words c.args.next line e ∙ sym seen2) in let f = c.if-rank_follows.false in cc),
      no_refused_line line no_word,
    )

pub returns-then-not-is_ascii-clause-ok : goal.returns-then-not-is_ascii-clause-ok
returns-then-not-is_ascii-clause-ok c = search rules

pub returns-then-not-is_ascii-clause-err : goal.returns-then-not-is_ascii-clause-err
returns-then-not-is_ascii-clause-err c = grind (arith, common_steps)

pub returns-then-is_in_range-clause-err : goal.returns-then-is_in_range-clause-err
returns-then-is_in_range-clause-err c = search rules

pub returns-in-Some-clause-ok : goal.returns-in-Some-clause-ok
returns-in-Some-clause-ok c = search rules

pub rank_follows-requires : goal.rank_follows-requires
rank_follows-requires c = search rules

pub returns-then-rank_follows-clause-err : goal.returns-then-rank_follows-clause-err
returns-then-rank_follows-clause-err c = search rules

pub returns-in-Some-refused_in-clause-ok : goal.returns-in-Some-refused_in-clause-ok
returns-in-Some-refused_in-clause-ok c = search rules

pub returns-clause-ok : goal.returns-clause-ok
returns-clause-ok c = search rules

use Rattle.std.proofs.Common.{◌≡◌, refl, ap, ◌∙◌, rules}
use Rattle.std.specs.Prelude.{codes}
use Rattle.std.specs.Option.{option_copied}
use Rattle.refutations.specs.Proofs.{ProofLine}
use Rattle.prooflog.specs.Refutations.{proof_words}
use Rattle.prooflog.specs.parts.Reading.{words_of, words_after}
use Rattle.prooflog.proofs.LinesRead.{told, untold, proof_line, spelled, no_hints, no_variables, no_line, made_line}
use Rattle.prooflog.proofs.proof_line.proof_line_of.Goals as goal

pub returns-in_default-2-clause-why : goal.returns-in_default-2-clause-why
returns-in_default-2-clause-why c =
    let read = told _ c.in-Some.read _ c.in-Some.is c.in_ok-read.ensures.some in
    let none = untold _ _ c.in_default-2.is c.in_ok-hints.ensures.none in
    no_hints (words_of c.args.line.now) (words_after (option_copied c.cut_word.result.1)) (words_after (option_copied c.in-Some.read.hints)) c.cut_word.result.0.now read.0 c.cut_word.ensures.words read.1 none

pub returns-then-not-read-clause-why : goal.returns-then-not-read-clause-why
returns-then-not-read-clause-why c =
    let read = told _ c.in-Some.read _ c.in-Some.is c.in_ok-read.ensures.some in
    let hints = told _ c.in-Some-2.hints _ c.in-Some-2.is c.in_ok-hints.ensures.some in
    let is : c.cut_word.result.0.now ≡ codes "line" = c.is_word.ensures.0 c.if-not-is_word.false in (
      proof_line read.0 hints.0,
      spelled (words_of c.args.line.now) (words_after (option_copied c.cut_word.result.1)) (words_after (option_copied c.in-Some.read.hints)) c.cut_word.result.0.now read.0 hints.0 c.cut_word.ensures.words is read.1 hints.1,
      no_variables c.in-Some.read.in_range c.in-Some.read.literals.items read.0 hints.0 read.2 c.if-not-read.true,
    )

pub returns-in-Some-from_vecs-clause-found : goal.returns-in-Some-from_vecs-clause-found
returns-in-Some-from_vecs-clause-found c =
    let read = told _ c.in-Some.read _ c.in-Some.is c.in_ok-read.ensures.some in
    let hints = told _ c.in-Some-2.hints _ c.in-Some-2.is c.in_ok-hints.ensures.some in
    let is : c.cut_word.result.0.now ≡ codes "line" = c.is_word.ensures.0 c.if-not-is_word.false in
    let made = made_line c.in-Some.read.in_range c.in-Some.read.literals.items read.0 c.in-Some-2.hints.items hints.0 c.in-Some-from_vecs.line read.2 c.if-not-read.false hints.2 (c.in-Some-from_vecs.ensures.when.0 refl)
    c.in-Some-from_vecs.ensures.made in (
      ap (λ (line : ProofLine). proof_words line) made.0
          ∙ spelled (words_of c.args.line.now) (words_after (option_copied c.cut_word.result.1)) (words_after (option_copied c.in-Some.read.hints)) c.cut_word.result.0.now read.0 hints.0 c.cut_word.ensures.words is read.1 hints.1,
      made.1,
    )

pub returns-in-None-clause-why : goal.returns-in-None-clause-why
returns-in-None-clause-why c =
    let read = told _ c.in-Some.read _ c.in-Some.is c.in_ok-read.ensures.some in
    let hints = told _ c.in-Some-2.hints _ c.in-Some-2.is c.in_ok-hints.ensures.some in
    let is : c.cut_word.result.0.now ≡ codes "line" = c.is_word.ensures.0 c.if-not-is_word.false in (
      proof_line read.0 hints.0,
      spelled (words_of c.args.line.now) (words_after (option_copied c.cut_word.result.1)) (words_after (option_copied c.in-Some.read.hints)) c.cut_word.result.0.now read.0 hints.0 c.cut_word.ensures.words is read.1 hints.1,
      no_line c.in-Some.read.in_range c.in-Some.read.literals.items read.0 c.in-Some-2.hints.items hints.0 read.2 c.if-not-read.false hints.2 (λ fits. let t = c.in-None.ensures.when.1 fits in cc),
    )

pub returns-then-not-is_word-clause-found : goal.returns-then-not-is_word-clause-found
returns-then-not-is_word-clause-found c = search rules

pub returns-then-not-is_word-clause-why : goal.returns-then-not-is_word-clause-why
returns-then-not-is_word-clause-why c = search rules

pub returns-in_default-clause-found : goal.returns-in_default-clause-found
returns-in_default-clause-found c = search rules

pub returns-in_default-clause-why : goal.returns-in_default-clause-why
returns-in_default-clause-why c = search rules

pub returns-in_default-2-clause-found : goal.returns-in_default-2-clause-found
returns-in_default-2-clause-found c = search rules

pub returns-then-not-read-clause-found : goal.returns-then-not-read-clause-found
returns-then-not-read-clause-found c = search rules

pub returns-in-Some-from_vecs-clause-why : goal.returns-in-Some-from_vecs-clause-why
returns-in-Some-from_vecs-clause-why c = search rules

pub returns-in-None-clause-found : goal.returns-in-None-clause-found
returns-in-None-clause-found c = search rules

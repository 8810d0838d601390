use Rattle.std.proofs.Common.{◌≡◌, ◌+◌, ◌*◌, ◌-◌, ◌/◌, ◌%◌, ◌≤◌, ◌++◌, ℕ, List, length, take, drop, refl, ap, sym, ◌∙◌, arith}
use Rattle.std.proofs.lemmas.List.{length-drop}
use Rattle.refutations.specs.Proofs.{ProofLine}
use Rattle.pages.proofs.Fronts.{spliced, appended, ok_as}
use Rattle.pages.proofs.log.Log.follow.Goals as goal

pub share-requires-clause-few : goal.share-requires-clause-few
share-requires-clause-few c =
    let lines : length c.args.lines.now ≡ length c.parts-hidden.result.0.now - c.parts-hidden.result.1 = ap length c.parts-hidden.ensures.same ∙ length-drop c.parts-hidden.result.1 c.parts-hidden.result.0.now in
    omega (arith, lines, c.if-hidden-place.true, c.if-len-from.false, c.len.ensures.same, c.len.ensures.small, c.len-2.ensures.same, c.requires)

pub returns-then-are_first-clause-followed : goal.returns-then-are_first-clause-followed
returns-then-are_first-clause-followed c =
    let old : List ProofLine = c.args.self.now in
    let from : ℕ = c.args.from in
    let log : List ProofLine = c.parts-hidden.result.0.now in
    let before : c.args.from - c.args.from % 256 ≡ c.args.from / 256 * 256 = omega arith in
    let at : c.args.from / 256 * 256 + c.args.from % 256 ≡ c.args.from = omega arith in
    let same : take (from % 256) (drop (from / 256 * 256) old) ≡ take (from % 256) log = ap (λ n. take (from % 256) (drop n old)) (sym before) ∙ c.if-are_first.ensures.same refl in
    ok_as c.share.result c.share.new.self (take (from / 256 * 256) old ++ log) (take from old ++ c.args.lines.now) c.share.ensures.shared
    (spliced (from / 256 * 256) (from % 256) old log same
    ∙ ap (λ n. take n old ++ drop (from % 256) log) at
    ∙ ap (λ n. take from old ++ drop n log) (sym c.if-hidden-place.true)
    ∙ ap (λ (l : List ProofLine). take from old ++ l) (sym c.parts-hidden.ensures.same))

pub returns-then-are_first-2-clause-followed : goal.returns-then-are_first-2-clause-followed
returns-then-are_first-2-clause-followed c =
    let old : List ProofLine = c.args.self.now in
    let lines : List ProofLine = c.args.lines.now in
    let from : ℕ = c.args.from in
    let held = c.len.result - c.args.from in
    let held_is : c.len.result - c.args.from ≡ length c.args.self.now - c.args.from = ap (λ n. n - c.args.from) c.len.ensures.same in
    let within : c.len.result - c.args.from ≤ c.len-then-are_first-2.result = omega (arith, c.if-are_first-2.ensures.within refl, c.len-then-are_first-2.ensures.same) in
    ok_as c.append_counted.result c.append_counted.new.self (old ++ take (c.len-then-are_first-2.result - held) (drop held lines)) (take from old ++ lines)
    (ok_as c.append_counted.result c.append_counted.new.self (old ++ c.in_ok-copies.field-0.items) (old ++ take (c.len-then-are_first-2.result - held) (drop held lines)) c.append_counted.ensures.appended (ap (λ (l : List ProofLine). old ++ l) c.in_ok-copies.ensures))
    (appended from held c.len-then-are_first-2.result old lines held_is within c.len-then-are_first-2.ensures.same (c.if-are_first-2.ensures.same refl))

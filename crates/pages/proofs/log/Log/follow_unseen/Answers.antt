use Rattle.std.proofs.Common.{◌≡◌, ◌+◌, ◌*◌, ◌-◌, ◌/◌, ◌%◌, ◌≤◌, ◌++◌, ℕ, List, length, take, drop, ap, sym, ◌∙◌, arith}
use Rattle.std.proofs.lemmas.List.{length-drop}
use Rattle.refutations.specs.Proofs.{ProofLine}
use Rattle.pages.proofs.Fronts.{ok_then, drop_front}
use Rattle.pages.proofs.log.Log.follow_unseen.Goals as goal

pub share-requires-clause-few : goal.share-requires-clause-few
share-requires-clause-few c =
    let lines : length c.args.lines.now ≡ length c.parts-hidden.result.0.now - c.parts-hidden.result.1 = ap length c.parts-hidden.ensures.same ∙ length-drop c.parts-hidden.result.1 c.parts-hidden.result.0.now in
    omega (arith, lines, c.if-hidden-from.true, c.if-len-min.false, c.min.ensures, c.len.ensures.same, c.len-2.ensures.small, c.len-2.ensures.same, c.requires)

pub returns-then-hidden-from-clause-behind : goal.returns-then-hidden-from-clause-behind
returns-then-hidden-from-clause-behind c =
    let old : List ProofLine = c.args.self.now in
    let from : ℕ = c.args.from in
    let log : List ProofLine = c.parts-hidden.result.0.now in
    let at : from / 256 * 256 + from % 256 ≡ from = omega arith in
    let within : from / 256 * 256 ≤ length old = omega (arith, c.requires) in
    ok_then c.share.result (λ (e : c.share.new.self ≡ take (from / 256 * 256) old ++ log).
    ap (drop from) e
    ∙ ap (λ n. drop n (take (from / 256 * 256) old ++ log)) (sym at)
    ∙ drop_front (from / 256 * 256) (from % 256) old log within
    ∙ ap (λ n. drop n log) (sym c.if-hidden-from.true)
    ∙ sym c.parts-hidden.ensures.same) c.share.ensures.shared

use Rattle.std.proofs.Common.{◌≡◌, ◌*◌, ◌-◌, ◌/◌, ◌++◌, List, take, drop, ap, ◌∙◌, arith}
use Rattle.refutations.specs.Proofs.{ProofLine}
use Rattle.pages.proofs.Fronts.{copied_behind, ok_as}
use Rattle.pages.proofs.log.Log.copy_behind.Goals as goal

pub returns-clause-copied : goal.returns-clause-copied
returns-clause-copied c =
    let old = c.args.self.now in
    let lines = c.args.lines.now in
    let from = c.args.from in
    let tail : c.in_ok-later.later ≡ take (from - from / 256 * 256) (drop (from / 256 * 256) old) ++ take (c.len.result - 0) (drop 0 lines) =
    c.in_ok-later.ensures ∙ c.in_ok-append.ensures.items
    ∙ ap (λ (l : List ProofLine). l ++ c.in_ok-copies.field-0.items) c.in_ok-tail.ensures
    ∙ ap (λ (l : List ProofLine). take (from - from / 256 * 256) (drop (from / 256 * 256) old) ++ l) c.in_ok-copies.ensures in
    ok_as c.share.result c.share.new.self (take (from / 256 * 256) old ++ c.in_ok-later.later) (take from old ++ lines) c.share.ensures.shared
    (ap (λ (l : List ProofLine). take (from / 256 * 256) old ++ l) tail ∙ copied_behind (from / 256 * 256) from c.len.result old lines (omega arith) c.len.ensures.same)

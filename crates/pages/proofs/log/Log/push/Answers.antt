use Rattle.std.proofs.Common.{◌≡◌, ◌++◌, ◌∷◌, [], ◌+◌, ◌≤◌, length, ap, length-append, ◌∙◌, arith}
use Rattle.pages.proofs.Joined.{length-paged, paged_more}
use Rattle.pages.proofs.log.Log.push.Goals as goal

pub invariant_of-self-2 : goal.invariant_of-self-2
invariant_of-self-2 c =
    let log = c.self.inside in
    let before = length-paged 256 log.pages.items log.last.items c.self.invariant.full in
    let same : c.in-Ok.page ≡ log.last.items ++ c.args.line ∷ [] = cc (c.in-Ok.ensures.made, c.replace-last.ensures.value, c.in_ok-push.ensures.items) in
    let lines : length c.in-Ok.page ≡ length log.last.items + 1 = ap length same ∙ length-append log.last.items (c.args.line ∷ []) in
    let least : 256 ≤ length log.last.items + 1 = omega (arith, c.len.ensures, c.in_ok-push.ensures.len, log.last.ok) in
    let full : length c.in-Ok.page ≡ 256 = omega (arith, c.self.invariant.is_open) in
    let is_empty : c.replace-last.new.dest.items ≡ [] = cc (c.replace-last.ensures.after, c.new.ensures.items) in
    rw (c.in_ok-push-2.ensures.items, is_empty)
    (paged_more 256 log.pages.items log.last.items (c.in-Ok.page ∷ []) [] c.self.invariant (full, tt) (omega arith) (omega (arith, c.requires, ap length c.self.view_is)))

use Rattle.std.proofs.Common.{◌≡◌, suc, ◌∷◌, ◌+◌, ◌*◌, ◌<◌, ◌^◌, length, ap, ◌∙◌, arith, length-append}
use Rattle.pages.proofs.Joined.{length-paged, paged_more}
use Rattle.pages.proofs.log.Log.append_counted.Goals as goal

pub invariant_of-self-2 : goal.invariant_of-self-2
invariant_of-self-2 c =
    let log = c.self.inside in
    let later = c.later.inside in
    let first = c.split_off.new.self in
    let tail = c.in_ok-split_off.field-0 in
    let page = ap length c.in_ok-page.ensures.made ∙ length-append log.last.items first.items in
    let full : length c.in_ok-page.page ≡ 256 = omega (arith, page, c.in_ok-split_off.ensures.len, c.len-3.ensures, first.ok, log.last.ok, c.self.invariant.is_open) in
    let before = ap length c.self.view_is in
    let behind = ap length (c.later.view_is ∙ c.in_ok-later.ensures) in
    let all = length-paged 256 log.pages.items log.last.items c.self.invariant.full in
    let others = length-paged 256 later.pages.items later.last.items c.later.invariant.full in
    let few : (length log.pages.items + suc (length later.pages.items)) * 256 + length later.last.items < 2 ^ 63 =
    omega (arith, before, behind, all, others, c.in_ok-split_off.ensures.tail_len, c.len-3.ensures, c.len-2.ensures.same, c.len-2.ensures.small, c.len.ensures, c.if-len.false, c.if-len-room.false, tail.ok, log.last.ok, c.self.invariant.is_open) in
    rw (c.push_pages.ensures, c.in_ok-reserve.ensures.items)
    (paged_more 256 log.pages.items log.last.items (c.in_ok-page.page ∷ later.pages.items) later.last.items c.self.invariant (full, c.later.invariant.full) c.later.invariant.is_open few)

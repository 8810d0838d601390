use Rattle.std.proofs.Common.{◌≡◌, ◌++◌, ◌+◌, ◌-◌, ◌*◌, ◌/◌, ◌%◌, ◌≤◌, List, length, drop, ap, ◌∙◌, arith}
use Rattle.refutations.specs.Proofs.{ProofLine}
use Rattle.pages.specs.Pages.{joined_pages}
use Rattle.pages.proofs.Joined.{length-paged, drop-in_page, drop-after_pages}
use Rattle.pages.proofs.log.Log.after.Goals as goal

pub returns-then-page-len : goal.returns-then-page-len
returns-then-page-len c =
    let log = c.self.inside in
    let place = c.args.from in
    let pages : c.in_ok-pages.pages.items ≡ drop (place / 256) log.pages.items = c.in_ok-pages.ensures ∙ ap (drop (place / 256)) c.deref.ensures.value in
    let last : c.in_ok-last.last.items ≡ log.last.items = c.in_ok-last.ensures ∙ c.deref-then-page-len.ensures.value in
    let at : place / 256 * 256 + place % 256 ≡ place = omega arith in
    let within : place / 256 ≤ length log.pages.items = omega (arith, c.if-page-len.true, c.len.ensures, log.pages.ok) in
    rw (c.make.ensures, pages, last)
    (drop-in_page 256 (place / 256) (place % 256) log.pages.items log.last.items c.self.invariant.full within
    ∙ ap (λ n. drop n (joined_pages log.pages.items ++ log.last.items)) at
    ∙ ap (λ (lines : List ProofLine). drop place lines) c.self.view_is)

pub copied-requires-2 : goal.copied-requires-2
copied-requires-2 c =
    let log = c.self.inside in
    omega (arith, c.requires, length-paged 256 log.pages.items log.last.items c.self.invariant.full, ap length c.self.view_is, c.len-2.ensures, c.deref-2.ensures.len, log.pages.ok, log.last.ok)

pub returns : goal.returns
returns c =
    let log = c.self.inside in
    let place = c.args.from in
    let pages = c.len-2.ensures in
    let at : place - c.len-2.result * 256 ≡ place - length log.pages.items * 256 = omega (arith, c.len-2.ensures, log.pages.ok) in
    let last : c.in_ok-last-2.last.items ≡ drop (place - length log.pages.items * 256) log.last.items =
    c.in_ok-last-2.ensures ∙ ap (drop (place - c.len-2.result * 256)) c.deref-2.ensures.value ∙ ap (λ n. drop n log.last.items) at in
    let most : length log.pages.items * 256 ≤ place = omega (arith, c.if-page-len.false, c.len.ensures, log.pages.ok) in
    rw (c.make-2.ensures, c.new.ensures.items, last)
    (drop-after_pages 256 place log.pages.items log.last.items c.self.invariant.full most
    ∙ ap (λ (lines : List ProofLine). drop place lines) c.self.view_is)

use Rattle.std.proofs.Common.{◌≡◌, ◌*◌, ◌+◌, ◌-◌, ◌/◌, ◌%◌, ◌≤◌, List, ◌++◌, Some, length, ap, ◌∙◌, sym, arith}
use Rattle.std.specs.List.{slice_get}
use Rattle.pages.specs.Pages.{joined_pages}
use Rattle.pages.proofs.Joined.{got, get-in_page, get-after_pages}
use Rattle.pages.proofs.log.Log.held_at.Goals as goal
use Rattle.refutations.specs.Proofs.{ProofLine}

pub returns-in-Some : goal.returns-in-Some
returns-in-Some c =
    let log = c.self.inside in
    let place = c.args.place in
    let found : slice_get log.pages.items (place / 256) ≡ Some c.in-Some.page.now =
    sym (got c.deref.result.now log.pages.items (place / 256) (Some c.in-Some.page) c.in-Some.ensures.lookup c.deref.ensures.value) in
    let at : place / 256 * 256 + place % 256 ≡ place = omega arith in
    c.get-in-Some.ensures
    ∙ sym (get-in_page 256 (place / 256) (place % 256) log.pages.items log.last.items c.in-Some.page.now c.self.invariant.full found (omega arith))
    ∙ ap (slice_get (joined_pages log.pages.items ++ log.last.items)) at
    ∙ ap (λ (lines : List ProofLine). slice_get lines place) c.self.view_is

pub returns-in-None : goal.returns-in-None
returns-in-None c =
    let log = c.self.inside in
    let place = c.args.place in
    let past : length c.deref.result.now ≤ place / 256 = c.in-None.ensures.lookup.3 in
    let most : length log.pages.items * 256 ≤ place = omega (arith, past, ap length c.deref.ensures.value) in
    let at : place - c.len.result * 256 ≡ place - length log.pages.items * 256 = omega (arith, c.len.ensures, log.pages.ok) in
    got c.deref-in-None.result.now log.last.items (place - c.len.result * 256) c.get-in-None.result c.get-in-None.ensures.lookup c.deref-in-None.ensures.value
    ∙ ap (slice_get log.last.items) at
    ∙ sym (get-after_pages 256 place log.pages.items log.last.items c.self.invariant.full most)
    ∙ ap (λ (lines : List ProofLine). slice_get lines place) c.self.view_is

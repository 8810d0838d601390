use Rattle.std.proofs.Common.{◌≡◌, ◌*◌, ◌+◌, ◌++◌, ◌≤◌, ◌<◌, ◌^◌, List, length, take, ap, sym, subst, ◌∙◌, arith}
use Rattle.refutations.specs.Proofs.{ProofLine}
use Rattle.pages.specs.Pages.{joined_pages, IsPaged}
use Rattle.pages.proofs.Joined.{paged_behind, lines_behind}
use Rattle.pages.proofs.log.Log.share.Goals as goal

pub invariant_of-self-2 : goal.invariant_of-self-2
invariant_of-self-2 c =
    let log = c.self.inside in
    let other = c.other.inside in
    let least : c.args.kept * 256 ≤ length (joined_pages log.pages.items ++ log.last.items) = omega (arith, c.requires.within, ap length c.self.view_is) in
    let few : c.args.kept * 256 + length (joined_pages other.pages.items ++ other.last.items) < 2 ^ 63 = omega (arith, c.requires.few, ap length c.other.view_is) in
    let later : c.in_ok-later.later.items ≡ other.pages.items = c.in_ok-later.ensures ∙ c.deref.ensures.value in
    let last : c.in_ok-last.last.items ≡ other.last.items = c.in_ok-last.ensures ∙ c.deref-2.ensures.value in
    let pages : c.put_behind.new.pages.items ≡ take c.args.kept log.pages.items ++ other.pages.items =
    c.put_behind.ensures ∙ ap (λ (l : List (List ProofLine)). take c.args.kept l ++ c.in_ok-later.later.items) c.in_ok-reserve.ensures.items
    ∙ ap (λ (l : List (List ProofLine)). take c.args.kept log.pages.items ++ l) later in
    subst (λ (l : List ProofLine). IsPaged 256 c.put_behind.new.pages.items l) (sym last)
    (subst (λ (l : List (List ProofLine)). IsPaged 256 l other.last.items) (sym pages)
    (paged_behind c.args.kept log.pages.items log.last.items other.pages.items other.last.items c.self.invariant c.other.invariant least few))

pub returns-clause-shared : goal.returns-clause-shared
returns-clause-shared c =
    let log = c.self.inside in
    let other = c.other.inside in
    let least : c.args.kept * 256 ≤ length (joined_pages log.pages.items ++ log.last.items) = omega (arith, c.requires.within, ap length c.self.view_is) in
    let later : c.in_ok-later.later.items ≡ other.pages.items = c.in_ok-later.ensures ∙ c.deref.ensures.value in
    let last : c.in_ok-last.last.items ≡ other.last.items = c.in_ok-last.ensures ∙ c.deref-2.ensures.value in
    let pages : c.put_behind.new.pages.items ≡ take c.args.kept log.pages.items ++ other.pages.items =
    c.put_behind.ensures ∙ ap (λ (l : List (List ProofLine)). take c.args.kept l ++ c.in_ok-later.later.items) c.in_ok-reserve.ensures.items
    ∙ ap (λ (l : List (List ProofLine)). take c.args.kept log.pages.items ++ l) later in
    ap (λ (l : List (List ProofLine)). joined_pages l ++ c.in_ok-last.last.items) pages
    ∙ ap (λ (l : List ProofLine). joined_pages (take c.args.kept log.pages.items ++ other.pages.items) ++ l) last
    ∙ lines_behind c.args.kept log.pages.items log.last.items other.pages.items other.last.items c.self.invariant least
    ∙ ap (λ (l : List ProofLine). take (c.args.kept * 256) l ++ (joined_pages other.pages.items ++ other.last.items)) c.self.view_is
    ∙ ap (λ (l : List ProofLine). take (c.args.kept * 256) c.args.self.now ++ l) c.other.view_is

use Rattle.std.proofs.Common.{ℕ, List, ◌++◌, ap, ◌∙◌}
use Rattle.htmlpage.specs.Page.{listing, page_with}
use Rattle.htmlpage.proofs.paging.page_of.Goals as goal

pub returns : goal.returns
returns c =
    let whole : List ℕ = page_with c.args.words.now c.args.drawn.now (listing c.args.text.now c.args.program.now c.args.end.now c.args.calls.now) in
    c.in_ok-put_page.ensures ∙ ap (λ (l : List ℕ). l ++ whole) c.new-out.ensures.items

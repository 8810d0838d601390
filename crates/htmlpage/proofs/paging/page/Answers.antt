use Rattle.std.proofs.Common.{◌≡◌, ◌∙◌}
use Rattle.scene.specs.Labels.{call_labels}
use Rattle.htmlpage.specs.Page.{listing, page_with}
use Rattle.htmlpage.proofs.paging.page.Goals as goal

pub returns : goal.returns
returns c =
    let p = c.args.program.now in
    let labels_are : c.deref.result.now ≡ call_labels c.args.text.now c.args.source.now p = c.deref.ensures.value ∙ c.in_ok-calls.ensures in
    record {
      drawn = c.in_ok-drawn.drawn.items;
      are_timelines = c.in_ok-drawn.ensures;
      is = c.in_ok-out.ensures ∙ (λ i. page_with c.args.words.now (c.deref-2.ensures.value i) (listing c.args.text.now p (c.in_ok-played.ensures.end i) (labels_are i)));
    }

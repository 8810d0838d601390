use Rattle.std.specs.List.{flat_map}
use Rattle.charts.specs.Picture.{escape}
use Rattle.charts.proofs.Parts.{seven_parts}
use Rattle.htmlpage.specs.Page.{listing}
use Rattle.htmlpage.proofs.paging.put_page.Goals as goal

pub returns : goal.returns
returns c =
    seven_parts c.args.out.now.items _ (flat_map escape c.args.words.now) _ c.args.drawn.now _ (listing c.args.text.now c.args.program.now c.args.end.now c.args.calls.now) _
    c.put_text.new.out.items c.put_escaped.new.out.items c.put_text-2.new.out.items c.extend_from_slice.new.self.items c.put_text-3.new.out.items c.put_listing.new.out.items c.put_text-4.new.out.items
    c.in_ok-put_text.ensures c.in_ok-put_escaped.ensures c.in_ok-put_text-2.ensures c.in_ok-extend_from_slice.ensures.items c.in_ok-put_text-3.ensures c.in_ok-put_listing.ensures c.in_ok-put_text-4.ensures

use Rattle.std.proofs.Common.{inl}
use Rattle.htmlpage.proofs.paging.timelines.Goals as goal

pub picture-requires : goal.picture-requires
picture-requires c = inl c.requires.stuck

pub returns : goal.returns
returns c =
    record {
      first = c.in_ok-drawn.drawn.items;
      is_first = c.in_ok-drawn.ensures;
      part = c.in_ok-put_well_part.ensures.0;
      is_part = c.in_ok-put_well_part.ensures.1;
      is = c.in_ok-put_well_part.ensures.2;
    }

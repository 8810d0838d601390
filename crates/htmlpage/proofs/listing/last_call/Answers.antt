use Rattle.std.proofs.Common.{ℕ, ◌-◌, Option, ap, ◌∙◌}
use Rattle.std.specs.Option.{unwrap_or}
use Rattle.std.proofs.lemmas.Option.{unwrap_or-slice_get}
use Rattle.htmlpage.proofs.listing.last_call.Goals as goal

pub returns : goal.returns
returns c =
    c.saturating_sub.ensures ∙ ap (λ (n : ℕ). n - 1) (c.unwrap_or-next.ensures ∙ ap (λ (o : Option ℕ). unwrap_or o 0) c.next_of.ensures ∙ unwrap_or-slice_get c.args.end.now.next c.args.rank 0)

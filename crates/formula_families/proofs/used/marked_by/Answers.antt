use Rattle.std.proofs.Common.{[], ◌++◌, length, sym, ap, ◌∙◌, subst}
use Rattle.std.specs.List.{filter, flat_map}
use Rattle.std.proofs.lemmas.List.Concat.{flat_map-append}
use Rattle.formula.specs.Families.{events, first_families, last_families}
use Rattle.formula.specs.Orders.{event_pairs, is_among}
use Rattle.formula_families.specs.parts.Blocks.{AreMarks, orders_of_family}
use Rattle.formula_families.proofs.FamilyBlocks.{stated_by_families}
use Rattle.formula_families.proofs.used.marked_by.Goals as goal

pub returns : goal.returns
returns c =
    let p = c.args.source.now in
    let orders_in = flat_map (orders_of_family p) in
    let orders = orders_in c.first_families.result.now ++ orders_in c.last_families.result.now in
    let most = c.len.ensures ∙ ap (λ z. length (events z)) c.requires.one in
    let stated =
    ap (λ l. orders_in l ++ orders_in c.last_families.result.now) c.first_families.ensures ∙ (ap (λ l. orders_in first_families ++ orders_in l) c.last_families.ensures ∙
    (sym (flat_map-append (orders_of_family p) first_families last_families) ∙ stated_by_families p)) in
    let marked = c.in_ok-mark_families-2.ensures (orders_in c.first_families.result.now) (c.in_ok-mark_families.ensures [] c.requires.none) in
    c.in_ok-used.ensures orders (subst (λ n. AreMarks n orders c.mark_families-2.new.marks) (sym most) marked) ∙
    (ap (λ n. filter (is_among orders) (event_pairs n)) most ∙ ap (λ l. filter (is_among l) (event_pairs (length (events p)))) stated)

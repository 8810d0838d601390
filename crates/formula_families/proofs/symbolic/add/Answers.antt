use Rattle.std.proofs.Common.{◌≡◌, ◌++◌, ℕ, List, length, sym, ap, ◌∙◌, subst, arith}
use Rattle.std.proofs.lemmas.List.{length-append}
use Rattle.formula_families.specs.PackedLists.{parts, AreEnds}
use Rattle.formula_families.proofs.Cuts.{ends_more, parts_more}
use Rattle.formula_families.proofs.symbolic.add.Goals as goal

pub returns-in-Ok-clause-ends : goal.returns-in-Ok-clause-ends
returns-in-Ok-clause-ends g c =
    let old = c.args.entries.now.items in
    let now = c.extend_from_slice.new.self.items in
    let ends = c.args.ends.now.items in
    let items = c.in_ok-extend_from_slice.ensures.items in
    let whole : c.len.result ≡ length now = c.len.ensures ∙ c.extend_from_slice.new.self.ok.0 in
    let more = ends_more 0 (length old) c.len.result ends c.requires (omega (arith, whole, ap length items, length-append old c.args.part.now)) in
    subst (λ (n : ℕ). AreEnds 0 c.push.new.self.items n) whole (subst (λ (l : List ℕ). AreEnds 0 l c.len.result) (sym c.in-Ok.ensures.items) more)

pub returns-in-Ok-clause-added : goal.returns-in-Ok-clause-added
returns-in-Ok-clause-added g c =
    let old = c.args.entries.now.items in
    let part = c.args.part.now in
    let ends = c.args.ends.now.items in
    let items = c.in_ok-extend_from_slice.ensures.items in
    let whole : c.len.result ≡ length c.extend_from_slice.new.self.items = c.len.ensures ∙ c.extend_from_slice.new.self.ok.0 in
    ap (λ l. parts l 0 c.push.new.self.items) items ∙
    (ap (λ (l : List ℕ). parts (old ++ part) 0 l) c.in-Ok.ensures.items ∙
    parts_more old part 0 c.len.result ends c.requires (whole ∙ ap length items))

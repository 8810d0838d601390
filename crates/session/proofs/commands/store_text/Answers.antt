-- One more part is written.
use Rattle.std.proofs.Common.{ℕ, ◌+◌, List, ◌++◌, ◌∷◌, drop, sym, ap, ◌∙◌, append_assoc}
use Rattle.std.specs.List.{flat_map}
use Rattle.std.proofs.KnownBytes.{Appends-trans}
use Rattle.std.proofs.lemmas.List.{drop_more}
use Rattle.std.proofs.lemmas.List.Concat.{flat_map-cons}
use Rattle.session.proofs.commands.store_text.Goals as goal

pub loop-part-preserved : goal.loop-part-preserved
loop-part-preserved g c =
    let (written, split, appended) = c.loop-part.invariant in
    let more = c.parts.result.1.now in
    let part = c.part-item.result in
    let rest = drop (c.loop-part.part-index + 1) more in
    let behind : List ℕ = flat_map (λ p. p.items) rest in
    let next = drop_more more c.loop-part.part-index part c.loop-part-test.true ∙ ap (λ p. p ∷ rest) (sym c.part-item.is) in (
      written ++ c.as_slice.result.now,
      split ∙ ap (λ parts. written ++ flat_map (λ p. p.items) parts) next ∙ ap (λ (t : List ℕ). written ++ t) (flat_map-cons (λ p. p.items) part rest)
          ∙ ap (λ (t : List ℕ). written ++ (t ++ behind)) (sym c.as_slice.ensures.value) ∙ sym (append_assoc written c.as_slice.result.now behind),
      Appends-trans _ _ _ _ _ appended c.in_ok-store-2.ensures.all,
    )

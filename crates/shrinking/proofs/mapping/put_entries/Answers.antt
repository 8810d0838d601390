use Rattle.std.proofs.Common.{Bor, List, ℕ, ◌∙◌, ◌+◌, ◌++◌, [], ap, append_assoc, arith, drop, map, sym}
use Rattle.std.proofs.lemmas.List.{append-nil, drop_all, get_or-map, length-map}
use Rattle.shrinking.specs.Mapping.{entries}
use Rattle.shrinking.proofs.Entries.{entries_end, entries_more}
use Rattle.shrinking.proofs.mapping.put_entries.Goals as goal

pub loop-place-preserved : goal.loop-place-preserved
loop-place-preserved c =
    let texts = map {A = Bor (List ℕ)} {B = List ℕ} (λ line. line.now) c.args.lines.now in
    let within = c.in-Some.ensures.lookup.3.0 in
    let is = get_or-map (λ (line : Bor (List ℕ)). line.now) c.args.lines.now c.loop-place.place c.in-Some.line.now [] within
    ∙ ap (λ (line : Bor (List ℕ)). line.now) (sym c.in-Some.ensures.lookup.1) in
    let rest = entries c.args.path.now (c.loop-place.place + 1 + 1) c.in_ok-ranks.ranks (drop (c.loop-place.place + 1) texts) (drop (c.loop-place.place + 1) c.args.numbers.now) in (
      ap (λ (out : List ℕ). out ++ rest) c.in_ok-ranks.ensures.written
          ∙ append_assoc c.loop-place.out.items _ rest
          ∙ ap (λ (more : List ℕ). c.loop-place.out.items ++ more)
          (sym (entries_more c.args.path.now (c.loop-place.place + 1) c.loop-place.ranks c.in_ok-ranks.ranks c.loop-place.place texts c.args.numbers.now c.in-Some.line.now.now
          (omega (arith, within, length-map {A = Bor (List ℕ)} {B = List ℕ} c.args.lines.now (λ line. line.now))) c.loop-place-test.true is c.in_ok-ranks.ensures.ranks))
          ∙ c.loop-place.invariant.0,
      omega (arith, c.in_ok-ranks.ensures.few, c.loop-place.invariant.1),
    )

pub returns : goal.returns
returns c =
    let texts = map {A = Bor (List ℕ)} {B = List ℕ} (λ line. line.now) c.args.lines.now in
    sym (append-nil c.loop-place.out.items)
    ∙ ap (λ (more : List ℕ). c.loop-place.out.items ++ more)
    (sym (entries_end c.args.path.now (c.loop-place.place + 1) c.loop-place.ranks (drop c.loop-place.place texts))
    ∙ ap (λ (ns : List ℕ). entries c.args.path.now (c.loop-place.place + 1) c.loop-place.ranks (drop c.loop-place.place texts) ns)
    (sym (drop_all c.loop-place.place c.args.numbers.now c.loop-place-test.false)))
    ∙ c.loop-place.invariant.0

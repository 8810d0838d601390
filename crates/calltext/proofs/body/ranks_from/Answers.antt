use Rattle.std.proofs.Common.{◌≡◌, ℕ, ◌+◌, ◌<◌, [], ◌∷◌, ◌++◌, length, arith, ap, sym, subst, ◌∙◌, rules}
use Rattle.std.proofs.lemmas.Grind.{common_steps}
use Rattle.std.proofs.lemmas.List.{map_push, length-map}
use Rattle.plaintext.specs.Plain.{line_of}
use Rattle.calltext.specs.Grammar.{rank_words}
use Rattle.calltext.specs.declared.line.Item.TheVariants as items
use Rattle.calltext.specs.parts.Item.{IsItem}
use Rattle.calltext.proofs.BodyLaws.{SoFar-call, SoFar-rank, SoFar-unended}
use Rattle.calltext.specs.parts.Body.{IsStopped}
use Rattle.calltext.specs.Body.{views}
use Rattle.calltext.specs.declared.body.Stopped.{Stopped}
use Rattle.calltext.proofs.body.ranks_from.Goals as goal
use Rattle.calltext.proofs.body.ranks_from.Goals.{in-Call+in_ok-push-in-Call, in-Rank+in_ok-push-in-Rank}

pub loop-line-preserved : goal.loop-line-preserved
loop-line-preserved c =
    record {
      so_far =
          elim c.match-item.branch [
            | in-Call+in_ok-push-in-Call w ↦
                let item : IsItem c.args.limits (items.Call w.in-Call.call) (c.len.result + 1) c.args.total (c.in-Some.line.now ++ 10 ∷ []) = subst (λ x. IsItem c.args.limits x (c.len.result + 1) c.args.total (c.in-Some.line.now ++ 10 ∷ [])) w.in-Call.is c.in-Ok.ensures.ok in
                rw (w.ranks-is, w.calls-is, w.in_ok-push-in-Call.ensures.items) (SoFar-call c.args.limits c.args.total c.args.bytes.now c.loop-line.rest.now c.in-Some.after.now c.loop-line.number (views c.loop-line.ranks.items) c.loop-line.calls.items w.in-Call.call (c.in-Some.line.now ++ 10 ∷ []) c.loop-line.invariant.so_far c.in-Some.ensures.some item.0 item.1)
            | in-Rank+in_ok-push-in-Rank w ↦
                let item : IsItem c.args.limits items.Rank (c.len.result + 1) c.args.total (c.in-Some.line.now ++ 10 ∷ []) = subst (λ x. IsItem c.args.limits x (c.len.result + 1) c.args.total (c.in-Some.line.now ++ 10 ∷ [])) w.in-Rank.is c.in-Ok.ensures.ok in
                let next : c.len.result + 1 ≡ length (views c.loop-line.ranks.items) + 1 = (let len = length-map c.loop-line.ranks.items (λ x. x.items) in grind (arith, common_steps, c.len.ensures)) in
                let lt : length (views c.loop-line.ranks.items) + 1 < c.args.total = omega (arith, next, item.0) in
                let spelled : line_of (rank_words (length (views c.loop-line.ranks.items) + 1)) ≡ c.in-Some.line.now ++ 10 ∷ [] = ap (λ (k : ℕ). line_of (rank_words k)) (sym next) ∙ item.1 in
                let ranks : views c.match-item.ranks.items ≡ views c.loop-line.ranks.items ++ c.loop-line.calls.items ∷ [] = rw (w.ranks-is, w.in_ok-push-in-Rank.ensures.items, w.replace-full.ensures.value) (map_push _ c.loop-line.ranks.items c.loop-line.calls) in
                let calls : c.match-item.calls.items ≡ [] = rw (w.calls-is, w.replace-full.ensures.after) w.new.ensures.items in
                rw (ranks, calls) (SoFar-rank c.args.limits c.args.total c.args.bytes.now c.loop-line.rest.now c.in-Some.after.now c.loop-line.number (views c.loop-line.ranks.items) c.loop-line.calls.items (c.in-Some.line.now ++ 10 ∷ []) c.loop-line.invariant.so_far c.in-Some.ensures.some lt spelled)
          ];
      room = omega (arith, c.loop-line.invariant.room, c.in-Some.ensures.shorter);
    }

pub returns-then-not-is_empty-clause-err : goal.returns-then-not-is_empty-clause-err
returns-then-not-is_empty-clause-err c =
    subst (λ (stop : Stopped). IsStopped c.args.limits stop.fault stop.line c.args.total c.args.bytes.now) (sym c.at-then-not-is_empty.ensures)
    (SoFar-unended c.args.limits c.unended.result c.args.total c.args.bytes.now c.loop-line.rest.now c.loop-line.number (views c.loop-line.ranks.items) c.loop-line.calls.items
    c.loop-line.invariant.so_far c.in_default.ensures.none c.unended.ensures (λ e. absurd (grind (arith, ap length e))))

pub loop-line-init : goal.loop-line-init
loop-line-init c = search rules

pub overflow_cast-len : goal.overflow_cast-len
overflow_cast-len c = grind (arith, common_steps)

pub overflow_add-len : goal.overflow_add-len
overflow_add-len c = grind (arith, common_steps)

pub item_of-requires : goal.item_of-requires
item_of-requires c = grind (arith, common_steps)

pub returns-in-Err-clause-ok : goal.returns-in-Err-clause-ok
returns-in-Err-clause-ok c = search rules

pub returns-in-Err-clause-err : goal.returns-in-Err-clause-err
returns-in-Err-clause-err c = grind (arith, common_steps)

pub overflow_add-number : goal.overflow_add-number
overflow_add-number c = search rules

pub loop-line-smaller : goal.loop-line-smaller
loop-line-smaller c = search rules

pub returns-then-not-is_empty-clause-ok : goal.returns-then-not-is_empty-clause-ok
returns-then-not-is_empty-clause-ok c = search rules

pub overflow_cast-len-2 : goal.overflow_cast-len-2
overflow_cast-len-2 c = grind (arith, common_steps)

pub returns-then-len-total-clause-ok : goal.returns-then-len-total-clause-ok
returns-then-len-total-clause-ok c = search rules

pub returns-then-len-total-clause-err : goal.returns-then-len-total-clause-err
returns-then-len-total-clause-err c = grind (arith, common_steps)

pub returns-clause-ok : goal.returns-clause-ok
returns-clause-ok c = grind (arith, common_steps)

pub returns-clause-err : goal.returns-clause-err
returns-clause-err c = search rules

use Rattle.std.proofs.Common.{◌≡◌, ◌++◌, ◌∷◌, [], ℕ, length, ◌+◌, List, arith, ap, sym, ◌∙◌, subst, get_or, vec_len, append_assoc, append-nil}
use Rattle.std.proofs.lemmas.List.{map-append, nil_from_length}
use Rattle.std.proofs.lemmas.List.Elements.{All-from_recursion, All-push}
use Rattle.std.specs.Global.{Vec}
use Rattle.std.specs.List.{AllZip}
use Rattle.steal.specs.declared.seats.OwnerSeat.{OwnerSeat}
use Rattle.steal.specs.declared.seats.ThiefSeat.{ThiefSeat}
use Rattle.steal.specs.declared.supply.Supply.{Supply}
use Rattle.steal.specs.parts.Rows.{thief_rows, AreFreshThieves}
use Rattle.steal.specs.Seats.{stolen_by, IsThiefOf}
use Rattle.steal.proofs.Rows.{fresh_rows, fresh_dealt}
use Rattle.steal.proofs.Supplies.{are_supplies, are_fresh}
use Rattle.steal.proofs.supply.dealt.Goals as goal

ended : (done rest owners : List OwnerSeat) → done ++ rest ≡ owners → rest ≡ [] → done ≡ owners
ended done rest owners all none = sym (append-nil done) ∙ ap (λ (l : List OwnerSeat). done ++ l) (sym none) ∙ all

pub last_of_each-requires : goal.last_of_each-requires
last_of_each-requires c k d lt =
    let rest = c.next.new.self.rest.items in
    let row = get_or c.loop-own.rows.items k d in
    let size : length row.items ≡ length (c.in-Some.own ∷ rest) =
    subst (λ (l : List OwnerSeat). length row.items ≡ length l) c.in-Some.ensures.steps.0
    (All-from_recursion (λ (r : Vec ThiefSeat). length r.items ≡ length c.loop-own.own-iterator.rest.items) c.loop-own.rows.items (fresh_rows _ c.args.owners.items c.loop-own.rows.items c.loop-own.invariant.rows) k d lt) in
    omega (arith, size, row.ok.0)

pub loop-own-preserved : goal.loop-own-preserved
loop-own-preserved c =
    let own = c.in-Some.own in
    let rest = c.next.new.self.rest.items in
    let supplies = c.loop-own.supplies.items in
    let thieves = c.in_ok-left.thieves in
    let one : length c.loop-own.own-iterator.rest.items ≡ length rest + 1 = omega (arith, ap length c.in-Some.ensures.steps.0) in
    let before = subst (λ (n : ℕ). AllZip (AreFreshThieves n) c.args.owners.items (thief_rows c.loop-own.rows.items)) one c.loop-own.invariant.rows in
    let step = fresh_dealt (length rest) c.args.owners.items c.in_ok-left.ensures before in
    rw c.in_ok-push.ensures.items
    record {
      all = append_assoc c.loop-own.yielded (own ∷ []) rest ∙ ap (λ (l : List OwnerSeat). c.loop-own.yielded ++ l) (sym c.in-Some.ensures.steps.0) ∙ c.loop-own.invariant.all;
      owners = map-append (λ (s : Supply). s.own) supplies _ ∙ ap (λ (l : List OwnerSeat). l ++ own ∷ []) c.loop-own.invariant.owners;
      thieves = All-push (λ (s : Supply). AllZip IsThiefOf c.args.owners.items s.thieves.items × (stolen_by s.thieves.items ≡ [])) supplies _ c.loop-own.invariant.thieves (step.1, step.2);
      rows = step.0;
    }

pub returns-clause-supplies : goal.returns-clause-supplies
returns-clause-supplies c =
    let none : c.loop-own.own-iterator.rest.items ≡ [] = nil_from_length c.loop-own.own-iterator.rest.items (sym c.loop-own.own-iterator.rest.ok.0 ∙ c.in-None.ensures.steps.0) in
    let all = c.loop-own.invariant.owners ∙ ended c.loop-own.yielded c.loop-own.own-iterator.rest.items c.args.owners.items c.loop-own.invariant.all none in
    are_supplies (vec_len c.args.owners) c.args.owners.items c.loop-own.supplies.items all c.args.owners.ok.0 c.requires.owners c.loop-own.invariant.thieves

pub returns-clause-fresh : goal.returns-clause-fresh
returns-clause-fresh c =
    let none : c.loop-own.own-iterator.rest.items ≡ [] = nil_from_length c.loop-own.own-iterator.rest.items (sym c.loop-own.own-iterator.rest.ok.0 ∙ c.in-None.ensures.steps.0) in
    let all = c.loop-own.invariant.owners ∙ ended c.loop-own.yielded c.loop-own.own-iterator.rest.items c.args.owners.items c.loop-own.invariant.all none in
    are_fresh (vec_len c.args.owners) c.args.owners.items c.loop-own.supplies.items all c.args.owners.ok.0 c.requires.owners c.loop-own.invariant.thieves

use Rattle.std.proofs.Common.{◌≡◌, ◌==◌, ◌++◌, ℕ, Bool, List, count_by, length, ap, arith}
use Rattle.std.proofs.lemmas.List.{length-map}
use Rattle.std.proofs.lemmas.List.Elements.{All-map}
use Rattle.std.proofs.lemmas.Result.{IfOk-weaker}
use Rattle.std.specs.Global.{Vec}
use Rattle.std.specs.List.{flat_map}
use Rattle.steal.specs.declared.seats.OwnerSeat.{OwnerSeat}
use Rattle.steal.specs.declared.seats.ThiefSeat.{ThiefSeat}
use Rattle.steal.specs.declared.supply.Supply.{Supply}
use Rattle.steal.specs.Hands.{occurrences}
use Rattle.steal.specs.parts.Rows.{thief_rows}
use Rattle.steal.specs.Seats.{popped, pushed, stolen_by, thief_count}
use Rattle.steal.specs.Supplies.{given_by, taken_by_supplies, owners_of, AreThieves}
use Rattle.steal.proofs.Moves.{count_by-append}
use Rattle.steal.proofs.Supplies.{given_by-owners, count_taken_by}
use Rattle.steal.proofs.supply.settle_all.Goals as goal

pub left_of_all-requires-clause-rows : goal.left_of_all-requires-clause-rows
left_of_all-requires-clause-rows c =
    let supplies = c.args.supplies.items in
    rw (c.in_ok-owners.ensures.rows, c.in_ok-owners.ensures.owners) (All-map (AreThieves (owners_of supplies)) (λ (s : Supply). s.thieves.items) supplies (λ k d lt. (c.requires k d lt).0))

pub left_of_all-requires-clause-counts : goal.left_of_all-requires-clause-counts
left_of_all-requires-clause-counts c =
    let supplies = c.args.supplies.items in
    let rows = c.in_ok-owners.rows in
    rw c.in_ok-owners.ensures.owners
    (All-map (λ (o : OwnerSeat). thief_count o ≡ rows.len) (λ (s : Supply). s.own) supplies
    (λ k d lt.
    omega (arith, (c.requires k d lt).1, rows.ok.0, ap length c.in_ok-owners.ensures.rows, length-map rows.items (λ (r : Vec ThiefSeat). r.items), length-map supplies (λ (s : Supply). s.thieves.items))))

pub returns : goal.returns
returns c =
    let supplies = c.args.supplies.items in
    let owners = c.in_ok-owners.owners.items in
    let rows = thief_rows c.in_ok-owners.rows.items in
    let all = flat_map popped owners ++ flat_map stolen_by rows in
    IfOk-weaker c.left_of_all.result (λ (left : Vec ℕ). (cube : ℕ) → occurrences cube (flat_map pushed owners) ≡ occurrences cube (all ++ left.items))
    (λ (left : Vec ℕ). (cube : ℕ) → occurrences cube (given_by supplies) ≡ occurrences cube (taken_by_supplies supplies ++ left.items))
    (λ left settled cube.
    let p : ℕ → Bool = λ x. x == cube in
    omega (
      arith,
      settled cube,
      ap (count_by p) (given_by-owners supplies),
      count_taken_by p supplies,
      ap (λ (l : List OwnerSeat). count_by p (flat_map pushed l)) c.in_ok-owners.ensures.owners,
      ap (λ (l : List OwnerSeat). count_by p (flat_map popped l)) c.in_ok-owners.ensures.owners,
      ap (λ (l : List (List ThiefSeat)). count_by p (flat_map stolen_by l)) c.in_ok-owners.ensures.rows,
      count_by-append p all left.items,
      count_by-append p (flat_map popped owners) (flat_map stolen_by rows),
      count_by-append p (taken_by_supplies supplies) left.items,
    ))
    c.left_of_all.ensures

use Rattle.std.proofs.Common.{◌≡◌, ◌==◌, ◌++◌, ◌∷◌, [], ℕ, Bool, List, get_or, subst, arith}
use Rattle.std.proofs.lemmas.List.{nil_from_length}
use Rattle.std.proofs.lemmas.Slice.Zip.{AllZip-long}
use Rattle.std.specs.Global.{Vec}
use Rattle.std.specs.List.{flat_map}
use Rattle.steal.specs.declared.seats.OwnerSeat.{OwnerSeat}
use Rattle.steal.specs.declared.seats.ThiefSeat.{ThiefSeat}
use Rattle.steal.specs.parts.Rows.{thief_rows}
use Rattle.steal.specs.Seats.{popped, pushed, stolen_by, IsThiefOf}
use Rattle.steal.specs.Supplies.{AreThieves}
use Rattle.steal.proofs.Places.{All-from_map}
use Rattle.steal.proofs.Settling.{IsEven, even_ended, even_more, others_counts, others_thieves, seats_count, seats_thieves}
use Rattle.steal.proofs.supply.left_of_all.Goals as goal

pub last_of_each-requires : goal.last_of_each-requires
last_of_each-requires c k d lt =
    let owners = c.loop-owner.owners in
    let row = get_or c.loop-owner.rows.items k d in
    let thieves = All-from_map (AreThieves owners.items) (λ (r : Vec ThiefSeat). r.items) c.loop-owner.rows.items c.loop-owner.invariant.rows k d lt in
    omega (arith, AllZip-long IsThiefOf owners.items row.items thieves, row.ok.0, owners.ok.0, c.in-Some.ensures.len)

pub left_of-requires-clause-of : goal.left_of-requires-clause-of
left_of-requires-clause-of c =
    seats_thieves c.loop-owner.owners.items c.pop.new.self.items c.in-Some.owner c.loop-owner.rows.items c.in_ok-others.others.items c.in_ok-others.thieves.items c.in-Some.ensures.items
    c.loop-owner.invariant.rows c.loop-owner.invariant.counts c.in_ok-others.ensures

pub left_of-requires-clause-complete : goal.left_of-requires-clause-complete
left_of-requires-clause-complete c =
    let count = seats_count c.loop-owner.owners.items c.pop.new.self.items c.in-Some.owner c.loop-owner.rows.items c.in_ok-others.others.items c.in_ok-others.thieves.items c.in-Some.ensures.items c.loop-owner.invariant.rows c.loop-owner.invariant.counts c.in_ok-others.ensures in
    omega (arith, count, c.in_ok-others.thieves.ok.0)

pub loop-owner-preserved : goal.loop-owner-preserved
loop-owner-preserved c =
    let all = c.loop-owner.owners.items in
    let owners = c.pop.new.self.items in
    let owner = c.in-Some.owner in
    let rows = c.loop-owner.rows.items in
    let others = c.in_ok-others.others.items in
    let seats = c.in_ok-others.thieves.items in
    let is : all ≡ owners ++ owner ∷ [] = c.in-Some.ensures.items in
    let cut = c.in_ok-others.ensures in
    let before = c.loop-owner.invariant in
    let left = c.loop-owner.left.items in
    let given = flat_map pushed c.args.owners.items in
    let taken = flat_map popped c.args.owners.items ++ flat_map stolen_by (thief_rows c.args.rows.items) in
    rw (c.in_ok-extend_from_slice.ensures.items, c.as_slice.ensures.value)
    record {
      rows = others_thieves all owners owner rows others seats is before.rows before.counts cut;
      counts = others_counts all owners owner rows others seats is before.rows before.counts cut;
      even = λ cube.
          let p : ℕ → Bool = λ x. x == cube in
          even_more p given taken owners owner left c.in_ok-cubes.cubes.items cut (c.in_ok-cubes.ensures cube)
          (subst (λ (l : List OwnerSeat). IsEven p given taken l (thief_rows rows) left) is (before.even cube));
    }

pub returns : goal.returns
returns c cube =
    let given = flat_map pushed c.args.owners.items in
    let taken = flat_map popped c.args.owners.items ++ flat_map stolen_by (thief_rows c.args.rows.items) in
    let last = c.loop-owner.invariant in
    let owners = c.loop-owner.owners in
    let none : owners.items ≡ [] = nil_from_length owners.items (omega (arith, owners.ok.0, c.in_default.ensures.cases)) in
    even_ended (λ x. x == cube) given taken owners.items (thief_rows c.loop-owner.rows.items) c.loop-owner.left.items none last.rows (last.even cube)

use Rattle.std.proofs.Common.{◌+◌, BuildHasherDefault, FoldHasher, HashSet, sym, subst}
use Rattle.std.specs.HashSet.{contains}
use Rattle.std.proofs.lemmas.Option.{slice_get-get_or}
use Rattle.sealing.specs.declared.sides.Wanted.{Wanted}
use Rattle.sealing.specs.parts.Sides.{same_wanted, AreAsked}
use Rattle.sealing.proofs.Numbered.{not_asked, one_asked}
use Rattle.sealing.proofs.asked.asked_by.Goals as goal
use Rattle.sealing.proofs.asked.asked_by.Goals.{in-Some+in_ok-insert, in_default}

pub loop-call-preserved : goal.loop-call-preserved
loop-call-preserved c =
    let calls = c.args.calls.now in
    let n = c.loop-call.call-index in
    let old = contains same_wanted c.loop-call.asked in
    elim c.match-wanted_of.branch [
      | in-Some+in_ok-insert w ↦
          subst (λ (z : HashSet Wanted (BuildHasherDefault FoldHasher)). AreAsked calls (n + 1) (contains same_wanted z)) (sym w.asked-is)
          (one_asked calls n old (contains same_wanted w.insert.new.self) _ w.in-Some.wanted (slice_get-get_or calls n _ c.loop-call-test.true)
          (sym w.in-Some.ensures) w.in_ok-insert.ensures.updates.0 c.loop-call.invariant)
      | in_default w ↦
          subst (λ (z : HashSet Wanted (BuildHasherDefault FoldHasher)). AreAsked calls (n + 1) (contains same_wanted z)) (sym w.asked-is)
          (not_asked calls n old _ (slice_get-get_or calls n _ c.loop-call-test.true) (sym w.in_default.ensures) c.loop-call.invariant)
    ]

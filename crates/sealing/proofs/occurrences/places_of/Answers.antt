use Rattle.std.proofs.Common.{◌≡◌, ℕ, ◌+◌, None, Some, BuildHasherDefault, FoldHasher, HashMap, length, sym, ap, subst, ◌∙◌, arith}
use Rattle.std.specs.HashMap.{get}
use Rattle.std.proofs.lemmas.Option.{slice_get-get_or}
use Rattle.sealing.specs.declared.occurrences.Occurrence.{Occurrence}
use Rattle.sealing.specs.parts.Sides.{same_occurrence, ArePlaces}
use Rattle.sealing.proofs.Numbered.{unplaced, placed}
use Rattle.sealing.proofs.occurrences.places_of.Goals as goal
use Rattle.sealing.proofs.occurrences.places_of.Goals.{in-Some+in_ok-insert, in_default}

pub loop-place-preserved : goal.loop-place-preserved
loop-place-preserved c =
    let list = c.args.occurrences.now in
    let n = c.loop-place.place in
    let old = get same_occurrence c.loop-place.places in
    elim c.match-occurrence.branch [
      | in-Some+in_ok-insert w ↦
          subst (λ (z : HashMap Occurrence ℕ (BuildHasherDefault FoldHasher)). ArePlaces list (n + 1) (get same_occurrence z)) (sym w.places-is)
          (placed list n old (get same_occurrence w.insert.new.self) w.in-Some.one
          (slice_get-get_or list n None c.loop-place-test.true ∙ ap Some w.in-Some.is) w.in_ok-insert.ensures.updates.0 c.loop-place.invariant)
      | in_default w ↦
          subst (λ (z : HashMap Occurrence ℕ (BuildHasherDefault FoldHasher)). ArePlaces list (n + 1) (get same_occurrence z)) (sym w.places-is)
          (unplaced list n old (slice_get-get_or list n None c.loop-place-test.true ∙ ap Some w.in_default.is) c.loop-place.invariant)
    ]

pub returns : goal.returns
returns c =
    let list = c.args.occurrences.now in
    let all : c.loop-place.place ≡ length list = omega (arith, c.loop-place-test.false, c.loop-place.auto.place-end) in
    subst (λ (z : ℕ). ArePlaces list z (get same_occurrence c.loop-place.places)) all c.loop-place.invariant

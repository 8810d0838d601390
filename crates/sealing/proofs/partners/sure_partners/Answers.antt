use Rattle.std.proofs.Common.{List, Option, length, map, ap, subst, ◌∙◌}
use Rattle.std.specs.HashMap.{get}
use Rattle.std.specs.HashSet.{contains}
use Rattle.std.proofs.lemmas.Result.{IfOk-weaker}
use Rattle.callorder.specs.declared.calls.Call.{Call}
use Rattle.sealing.specs.declared.occurrences.Occurrence.{Occurrence}
use Rattle.sealing.specs.parts.Sides.{partner_in, same_occurrence, same_wanted, AreAsked, AreOccurrences, ArePlaces}
use Rattle.sealing.proofs.Pairs.{sure_so, all_sure}
use Rattle.sealing.proofs.partners.sure_partners.Goals as goal

pub returns-clause-sure : goal.returns-clause-sure
returns-clause-sure c =
    let asked = contains same_wanted c.in_ok-asked.asked in
    let places = get same_occurrence c.in_ok-places.places in
    let list = c.in_ok-occurrences.occurrences.items in
    IfOk-weaker c.partners_in.result _ _
    (λ partners made. sure_so c.args.program.now asked places list partners.items
    (subst (λ (z : List Call). AreAsked z (length z) asked) c.calls-calls.ensures.value c.in_ok-asked.ensures)
    (subst (λ (z : List (Option Occurrence)). ArePlaces z (length z) places) c.deref.ensures.value c.in_ok-places.ensures)
    (subst (λ (z : List Call). AreOccurrences z (length z) list) c.calls-calls.ensures.value c.in_ok-occurrences.ensures)
    (made ∙ ap (λ (z : List (Option Occurrence)). map (partner_in asked places) z) c.deref-2.ensures.value))
    c.partners_in.ensures

pub returns-clause-all : goal.returns-clause-all
returns-clause-all c =
    let asked = contains same_wanted c.in_ok-asked.asked in
    let places = get same_occurrence c.in_ok-places.places in
    let list = c.in_ok-occurrences.occurrences.items in
    IfOk-weaker c.partners_in.result _ _
    (λ partners made. all_sure c.args.program.now asked places list partners.items
    (subst (λ (z : List Call). AreAsked z (length z) asked) c.calls-calls.ensures.value c.in_ok-asked.ensures)
    (subst (λ (z : List (Option Occurrence)). ArePlaces z (length z) places) c.deref.ensures.value c.in_ok-places.ensures)
    (subst (λ (z : List Call). AreOccurrences z (length z) list) c.calls-calls.ensures.value c.in_ok-occurrences.ensures)
    (made ∙ ap (λ (z : List (Option Occurrence)). map (partner_in asked places) z) c.deref-2.ensures.value))
    c.partners_in.ensures

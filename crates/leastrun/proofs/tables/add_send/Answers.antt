use Rattle.std.proofs.Common.{◌≡◌, ◌<◌, ℕ, Some, None, Option, slice_get, length, inl, inr, sym, ap, subst, ◌∙◌, arith}
use Rattle.std.proofs.lemmas.Bool.{cases_eq}
use Rattle.std.proofs.lemmas.Option.{slice_get_within, slice_get-get_or}
use Rattle.races.proofs.Steps.{same_some}
use Rattle.leastrun.specs.declared.slot.PatternForm.{PatternForm}
use Rattle.leastrun.specs.parts.Slots.{send_slot}
use Rattle.leastrun.specs.parts.Queues.{StandsIn}
use Rattle.leastrun.proofs.Queued.{grown_more, added_here, added_there}
use Rattle.leastrun.proofs.Slotting.{no_send_slot, same_form}
use Rattle.leastrun.proofs.tables.add_send.Goals as goal

pub loop-place-preserved : goal.loop-place-preserved
loop-place-preserved c =
    let forms = c.args.forms.now in
    let place = c.loop-place.place in
    let call = c.args.call in
    let known = c.args.known.now in
    let slot_is = sym c.send_slot.ensures ∙ c.in-Some.is in
    record {
      grown = grown_more c.args.sends.now c.loop-place.sends c.add.new.self c.in-Some.slot call c.loop-place.invariant.grown c.in_ok-add.ensures;
      there = λ i q form low listed slot. elim (cases_eq i place) [
        | inl same ↦
            let here : slice_get forms place ≡ Some form = ap (slice_get forms) (sym same) ∙ listed in
            let alike = same_form form _ (sym here ∙ slice_get-get_or forms place _ c.loop-place-test.true) in
            let is : c.in-Some.slot ≡ q = same_some c.in-Some.slot q (sym slot_is ∙ ap (λ (z : PatternForm). send_slot z known) (sym alike) ∙ slot) in
            subst (λ (z : ℕ). StandsIn c.add.new.self z call) is (added_here c.loop-place.sends c.add.new.self c.in-Some.slot call c.in_ok-add.ensures)
        | inr differ ↦ added_there c.loop-place.sends c.add.new.self c.in-Some.slot call q call c.in_ok-add.ensures (c.loop-place.invariant.there i q form (omega (arith, low, differ)) listed slot)
      ];
    }

pub returns-in_default-clause-there : goal.returns-in_default-clause-there
returns-in_default-clause-there c i q form listed slot =
    let off : send_slot form c.args.known.now ≡ None = no_send_slot _ form c.args.known.now (sym c.send_slot.ensures ∙ c.in_default.is) in
    let never : ◌≡◌ {A = Option ℕ} None (Some q) = sym off ∙ slot in
    absurd (cc)

pub returns-clause-there : goal.returns-clause-there
returns-clause-there c i q form listed slot =
    let low : i < length c.args.forms.now = slice_get_within c.args.forms.now i form listed in
    c.loop-place.invariant.there i q form (grind (arith, low, c.loop-place-test.false)) listed slot

use Rattle.std.proofs.Common.{◌≡◌, ◌↔◌, ℕ, Option, sym, ap, ◌∙◌, rules}
use Rattle.std.specs.Option.{option_map}
use Rattle.callorder.specs.declared.calls.Call.{Call}
use Rattle.callorder.specs.Programs.{MpiProgram, call_at}
use Rattle.narrowing.specs.declared.taken.ChoiceTaken.{ChoiceTaken}
use Rattle.narrowing.specs.Narrowed.{narrowed_call, IsNarrowedAt}
use Rattle.narrowing.proofs.narrowed.is_narrowed_at.Goals.{then-place-call, else-place-call}
use Rattle.narrowing.proofs.narrowed.is_narrowed_at.Goals as goal

-- at the call that is meant
narrowed_there : (p q : MpiProgram) (call : ℕ) (way : ChoiceTaken) (place : ℕ) (found wanted : Option Call) → place ≡ call → found ≡ call_at q place → wanted ≡ option_map (narrowed_call way) (call_at p place) → found ≡ wanted ↔ IsNarrowedAt p call way q place
narrowed_there p q call way place found wanted there is want =
    (λ same. record { same = λ differ. absurd (differ there); narrowed = λ _. sym is ∙ same ∙ want }, λ narrowed. is ∙ narrowed.narrowed there ∙ sym want)

-- at another call
same_elsewhere : (p q : MpiProgram) (call : ℕ) (way : ChoiceTaken) (place : ℕ) (found wanted : Option Call) → (place ≡ call → ⊥) → found ≡ call_at q place → wanted ≡ call_at p place → found ≡ wanted ↔ IsNarrowedAt p call way q place
same_elsewhere p q call way place found wanted other is want =
    (λ same. record { same = λ _. sym is ∙ same ∙ want; narrowed = λ there. absurd (other there) }, λ narrowed. is ∙ narrowed.same other ∙ sym want)

pub returns : goal.returns
returns c =
    let by_place : c.call.result ≡ c.if-place-call.wanted ↔ IsNarrowedAt c.args.program.now c.args.call c.args.way c.args.other.now c.args.place =
    elim c.if-place-call.branch [
      | then-place-call w ↦
          let made : w.map-wanted.result ≡ option_map (narrowed_call c.args.way) c.call-old.result = search rules in
          narrowed_there c.args.program.now c.args.other.now c.args.call c.args.way c.args.place c.call.result c.if-place-call.wanted w.if-place-call.true c.call.ensures (w.wanted-is ∙ made ∙ ap (option_map (narrowed_call c.args.way)) c.call-old.ensures)
      | else-place-call w ↦
          same_elsewhere c.args.program.now c.args.other.now c.args.call c.args.way c.args.place c.call.result c.if-place-call.wanted w.if-place-call.false c.call.ensures (w.wanted-is ∙ c.call-old.ensures)
    ] in
    (λ holds. by_place.0 (c.is_same.ensures.0 holds), λ narrowed. c.is_same.ensures.1 (by_place.1 narrowed))

-- The call that is named is needed of a rank that this one waits for.
use Rattle.std.proofs.Common.{◌≡◌, ◌∙◌, ◌⊎◌, ℕ, List, [], ◌++◌, OnOk, Result, Ok, Err, Some, ap, inr, refl, subst, slice_get}
use Rattle.std.specs.Prelude.{Contains}
use Rattle.std.specs.Global.{Vec}
use Rattle.std.proofs.lemmas.List.Elements.{Contains-get_or}
use Rattle.std.proofs.lemmas.Option.{get_or_from_slice_get, slice_get_within}
use Rattle.callorder.specs.Programs.{MpiProgram}
use Rattle.semantics.specs.Machine.{Configuration}
use Rattle.waits.specs.Cycles.{HasEdge, awaited_by}
use Rattle.waits.specs.Waiting.{WaitsFor, operation_of_call}
use Rattle.scene.specs.Labels.{Label}
use Rattle.scene.specs.Ends.{IsNeeded}
use Rattle.explain.specs.Messages.{NamesNeeded, need_words}
use Rattle.explain.proofs.waiting.put_needed.Goals as goal

contains_at : (xs : List ℕ) (i x : ℕ) → slice_get xs i ≡ Some x → Contains xs x
contains_at xs i x is = subst (λ (y : ℕ). Contains xs y) (get_or_from_slice_get xs i x 0 is) (Contains-get_or xs i 0 (slice_get_within xs i x is))

named : {E : Type 0} (r : Result (Unit {0}) E) (labels : List Label) (p : MpiProgram) (m : Configuration) (rank call : ℕ) (edges : List (Vec ℕ)) (ranks old new : List ℕ)
    (operation other : ℕ) (label : Label) → ((from to : ℕ) → HasEdge edges from to → WaitsFor p m from to) → ranks ≡ awaited_by edges rank → operation ≡ operation_of_call p call
    → (place : ℕ) × (needed : ℕ) × (slice_get ranks place ≡ Some other) × IsNeeded p m operation other needed × (slice_get labels needed ≡ Some label)
    → OnOk r (new ≡ old ++ need_words label other)
    → OnOk r ((need : List ℕ) × ((need ≡ []) ⊎ NamesNeeded labels p m rank call need) × (new ≡ old ++ need))
named (Ok x) labels p m rank call edges ranks old new operation other label waits are is (place, needed, at, needs, told) text = (
  need_words label other,
  inr (record {
    other = other;
    needed = needed;
    label = label;
    awaited = waits rank other (subst (λ (l : List ℕ). Contains l other) are (contains_at ranks place other at));
    is_needed = subst (λ (o : ℕ). IsNeeded p m o other needed) is needs;
    is_label = told;
    text_is = refl;
  }),
  text,
)
named (Err e) labels p m rank call edges ranks old new operation other label waits are is found text = text

pub returns-in-Some : goal.returns-in-Some
returns-in-Some c =
    named c.put_need.result c.args.scene.now.labels.items c.args.program.now c.args.scene.now.state c.args.rank c.args.call c.args.scene.now.awaited.items
    c.awaited_by.result.now c.args.out.now.items c.put_need.new.out.items c.operation_of-operation.result c.in-Some.other c.in-Some.label.now c.requires
    (c.awaited_by.ensures ∙ ap (λ (edges : List (Vec ℕ)). awaited_by edges c.args.rank) c.deref.ensures.value) c.operation_of-operation.ensures
    c.in-Some.ensures c.put_need.ensures

use Rattle.std.proofs.Common.{◌≡◌, ℕ, List, Result, Ok, Err, IfOk, map, sym, subst}
use Rattle.std.specs.Global.{Vec}
use Rattle.std.specs.declared.alloc.AllocError.{AllocError}
use Rattle.frequency.specs.declared.judging.Frequency.{Frequency}
use Rattle.explain_json.specs.declared.object.Decider.{Decider}
use Rattle.explain_json.specs.Objects.{AreDecided, IsJoined, IsObject, object_head}
use Rattle.explain_json.proofs.object.object_text.Goals as goal

told_object : (r : Result (Vec ℕ) AllocError) (often : Frequency) (verdicts : List (List ℕ)) (head above decided : List ℕ) → head ≡ object_head often → AreDecided verdicts decided
    → IfOk r (λ text. IsJoined head above decided text.items) → IfOk r (λ text. IsObject often verdicts text.items)
told_object (Ok text) often verdicts head above decided is are joined = record { above = above; decided = decided; are = are; joined = subst (λ (h : List ℕ). IsJoined h above decided text.items) is joined }
told_object (Err e) often verdicts head above decided is are joined = joined

pub returns : goal.returns
returns c =
    let given = c.args.deciders.now.choices.items in
    let are : AreDecided (map (λ d. d.verdict.now) given) c.in_ok-decided.decided.items =
    subst (λ (items : List Decider). AreDecided (map (λ d. d.verdict.now) items) c.in_ok-decided.decided.items) c.deref.ensures.value c.in_ok-decided.ensures in
    told_object c.joined.result c.args.frequency.now _ _ _ _ c.in_ok-head.ensures (subst (AreDecided (map (λ d. d.verdict.now) given)) (sym c.deref-3.ensures.value) are) c.joined.ensures

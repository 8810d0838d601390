use Rattle.std.proofs.Common.{refl, sym, ◌∙◌, ◌≡◌, subst, List, Some}
use Rattle.callorder.specs.declared.calls.Call.{Call}
use Rattle.callorder.specs.Programs.{call_at}
use Rattle.leastrun.specs.declared.slot.PatternForm.{PatternForm}
use Rattle.leastrun.specs.parts.Waiting.{IsFinderIn, IsSendIn}
use Rattle.leastrun.proofs.Slotting.{same_at}
use Rattle.leastrun.proofs.tables.Tables.add.Goals as goal

pub returns : goal.returns
returns c =
    let p = c.args.program.now in
    let here : call_at p c.args.call ≡ Some c.in-Some.known = sym c.call.ensures ∙ c.in-Some.is in
    record {
      forms = refl {A = List PatternForm} {a = c.args.self.now.forms.items};
      sends = c.in_ok-add_send.ensures.grown;
      finders = c.in_ok-add_finder.ensures.grown;
      sent = λ other there.
          subst (λ (z : Call). IsSendIn c.args.self.now.forms.items c.add_send.new.sends z c.args.call) (same_at p c.args.call c.in-Some.known other here there)
          (subst (λ (z : List PatternForm). IsSendIn z c.add_send.new.sends c.in-Some.known c.args.call) c.deref.ensures.value c.in_ok-add_send.ensures.there);
      sought = λ other there.
          subst (λ (z : Call). IsFinderIn c.add_finder.new.finders z c.args.call) (same_at p c.args.call c.in-Some.known other here there) c.in_ok-add_finder.ensures.there;
    }

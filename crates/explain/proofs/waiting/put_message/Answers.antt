use Rattle.std.proofs.Common.{◌∙◌, List, [], ◌∷◌, ◌++◌, ap, refl, sym, slice_get, append_assoc}
use Rattle.std.proofs.lemmas.Option.{slice_get_read}
use Rattle.scene.specs.Labels.{Label}
use Rattle.explain.specs.Messages.{wait_words}
use Rattle.explain.proofs.waiting.put_message.Goals as goal

pub returns : goal.returns
returns c = λ label is.
    let (need, needs, put) = c.in_ok-put_needed.ensures in
    let told = c.in-Some.label.now in (
      wait_words told c.args.rank ++ (need ++ 10 ∷ []),
      record {
        label = told;
        is_label = ap (λ (labels : List Label). slice_get labels c.args.call) (sym c.deref.ensures.value) ∙ slice_get_read c.deref.result.now _ c.args.call told refl c.in-Some.ensures.lookup.3.0 c.in-Some.ensures.lookup.1;
        need = need;
        needs = needs;
        text_is = refl;
      },
      simp (append_assoc, c.in_ok-push.ensures.items, put, c.in_ok-put_wait.ensures) refl,
    )

use Rattle.std.proofs.Common.{◌∙◌, ap, refl, ℕ, List}
use Rattle.std.specs.Global.{Vec}
use Rattle.session.specs.Racing.{race_text}
use Rattle.session.proofs.decide.race_page.Goals as goal

pub returns : goal.returns
returns c = record {
  source = c.in-Ok.source;
  read = c.in-Ok.ensures.text;
  is = ap (λ (v : Vec ℕ). v.items) c.into_bytes-text.ensures.value ∙ c.in_ok-words.ensures
      ∙ ap (λ (l : List ℕ). race_text c.args.json l c.args.race) (c.deref.ensures.value ∙ c.in_ok-lines.ensures);
  same = refl;
}

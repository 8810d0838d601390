use Rattle.std.proofs.Common.{rules, ◌≡◌, ◌++◌, ◌∙◌, List, ap, codes, subst, take, append_assoc}
use Rattle.std.specs.Prelude.{string_bytes}
use Rattle.choices.specs.declared.items.Weighed.{Weighed}
use Rattle.choices.specs.Words.{AreChoiceLines}
use Rattle.choices.proofs.telling.told.Goals as goal

pub returns : goal.returns
returns c =
    let front = codes "what decided it:\n" ++ c.extent_text.result.now in
    let lines = string_bytes c.in_ok-choices.choices in
    let back = string_bytes c.in_ok-behind.behind in
    let is : string_bytes c.push_str-3.new.self ≡ (front ++ lines) ++ back = search rules in
    record {
      front = front;
      lines = lines;
      back = back;
      are = subst (λ (some : List Weighed). AreChoiceLines some lines) (c.first_of.ensures ∙ ap (take 12) c.deref-2.ensures.value) c.in_ok-choices.ensures;
      is = is ∙ append_assoc front lines back;
    }

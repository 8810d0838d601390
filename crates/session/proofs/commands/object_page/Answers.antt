-- The object has the words of the refusal, and what helps.
use Rattle.std.proofs.Common.{◌∙◌, ap, codes, string_bytes, ℕ, List}
use Rattle.std.specs.Global.{Vec}
use Rattle.session.specs.Lines.{object_with, told_status}
use Rattle.session.specs.declared.told.Outcome.TheVariants as told
use Rattle.session.proofs.commands.object_page.Goals as goal

pub returns : goal.returns
returns c =
    let words = string_bytes c.in_ok-words.words in
    let help = string_bytes c.in_ok-help.help in
    let own = told_status (told.Refused c.args.reason.now) in (
      words,
      help,
      c.in_ok-words.ensures,
      ap (λ (v : Vec ℕ). v.items) c.into_bytes-text.ensures.value
          ∙ c.in_ok-object_with.ensures
          ∙ ap (λ (s : ℕ). object_with c.deref.result.now s (codes "help") c.deref-2.result.now) c.status-status.ensures
          ∙ ap (λ (w : List ℕ). object_with w own (codes "help") c.deref-2.result.now) c.deref.ensures
          ∙ ap (λ (h : List ℕ). object_with words own (codes "help") h) c.deref-2.ensures,
      c.status-status.ensures,
    )

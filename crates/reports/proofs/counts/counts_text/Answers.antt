use Rattle.std.proofs.Common.{◌≡◌, ◌++◌, ◌∙◌, ℕ, List, IfOk, subst}
use Rattle.reports.specs.Explanations.{Marks, counts_text, numbers_text}
use Rattle.reports.specs.parts.Numbers.{marked_text, texts_of}
use Rattle.reports.proofs.counts.counts_text.Goals as goal

pub returns : goal.returns
returns c =
    let m : Marks = texts_of c.marks_of.result in
    let claim = c.args.refutation.now in
    let told : marked_text m c.size_counts-sizes.result c.choice_counts-choices.result c.claim_counts-claim.result ≡ counts_text c.args.form c.args.program.now claim =
    (λ i. m.begin ++ (c.size_counts-sizes.ensures m i ++ (c.choice_counts-choices.ensures m i ++ (c.claim_counts-claim.ensures m i ++ m.foot))))
    ∙ (λ i. numbers_text (c.marks_of.ensures i) (c.deref-program.ensures i) claim) in
    subst (λ (t : List ℕ). IfOk c.marked_text.result (λ text. text.items ≡ t)) told c.marked_text.ensures

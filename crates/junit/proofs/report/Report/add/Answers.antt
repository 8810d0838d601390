use Rattle.std.proofs.Common.{◌∙◌, ◌+◌, ap, ℕ}
use Rattle.junit.specs.Report.{Case, is_broken, is_failed}
use Rattle.junit.proofs.Cases.{counted, not_counted, one_more, text_behind}
use Rattle.junit.proofs.report.Report.add.Goals as goal

pub returns-in_ok-self-in-Failed : goal.returns-in_ok-self-in-Failed
returns-in_ok-self-in-Failed c = λ cases is.
    let added : Case = record { name = c.args.name.now; outcome = c.args.outcome; text = c.args.text.now } in
    record {
      text = text_behind cases added _ _ is.text c.in_ok-put_case.ensures;
      tests = c.in_ok-self.ensures ∙ ap (λ (n : ℕ). n + 1) is.tests ∙ one_more cases added;
      failed = c.in_ok-self-in-Failed.ensures ∙ ap (λ (n : ℕ). n + 1) is.failed ∙ counted (λ c. is_failed c.outcome) cases added (ap is_failed c.in-Failed.is);
      broken = is.broken ∙ not_counted (λ c. is_broken c.outcome) cases added (ap is_broken c.in-Failed.is);
    }

pub returns-in_ok-self-in-Broken : goal.returns-in_ok-self-in-Broken
returns-in_ok-self-in-Broken c = λ cases is.
    let added : Case = record { name = c.args.name.now; outcome = c.args.outcome; text = c.args.text.now } in
    record {
      text = text_behind cases added _ _ is.text c.in_ok-put_case.ensures;
      tests = c.in_ok-self.ensures ∙ ap (λ (n : ℕ). n + 1) is.tests ∙ one_more cases added;
      failed = is.failed ∙ not_counted (λ c. is_failed c.outcome) cases added (ap is_failed c.in-Broken.is);
      broken = c.in_ok-self-in-Broken.ensures ∙ ap (λ (n : ℕ). n + 1) is.broken ∙ counted (λ c. is_broken c.outcome) cases added (ap is_broken c.in-Broken.is);
    }

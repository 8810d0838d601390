-- The page is that of the answer which was found.
use Rattle.std.proofs.Common.{IfOk, List, ℕ, Result, Ok, Err}
use Rattle.std.specs.declared.alloc.AllocError.{AllocError}
use Rattle.deciding.specs.declared.decision.CallerRace.{CallerRace}
use Rattle.prover.specs.Answers.{IsAnswer, FinishesIfUnknown}
use Rattle.prover.specs.declared.answer.Answer.{Answer}
use Rattle.options.specs.declared.form.Form.{Form}
use Rattle.session.specs.Explaining.{IsAnswerPage, IsSearched}
use Rattle.session.specs.declared.page.Page.{Page}
use Rattle.session.proofs.explained.searched_page.Goals as goal

searched : (r : Result Page AllocError) (budget : ℕ) (form : Form) (program : List ℕ) (race : CallerRace) (a : Answer) → IsAnswer program a → FinishesIfUnknown budget program a
    → IfOk r (λ page. IsAnswerPage form program race a page.text.items page.status) → IfOk r (λ page. IsSearched budget form program race page.text.items page.status)
searched (Ok page) budget form program race a answers finishes is = (a, answers, finishes, is)
searched (Err e) budget form program race a answers finishes is = is

pub returns : goal.returns
returns g c =
    searched c.answer_explained.result c.args.options.budget c.args.form c.args.text.now c.args.race c.prove-answer.result c.prove-answer.ensures.answers c.prove-answer.ensures.finishes
    c.answer_explained.ensures

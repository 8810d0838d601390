-- A run whose words ask for a task ends as the task does, or by want of memory before it is known.
use Rattle.std.proofs.Common.{◌⊎◌, inl, inr, subst}
use Rattle.command_line.specs.Requests.{AskFor, Task}
use Rattle.command_line.proofs.PlainWords.{plain_words_are_read}
use Rattle.command_line.proofs.ReadTasks.{asked_unrefused, one_task_is_asked}
use Rattle.session.specs.AnyLaws.{PlainWordsAreAnswered}
use Rattle.session.specs.Endings.{EndsUnasked, FailsEarly, SessionEnds, TaskEnds}
use Rattle.session.specs.Runs.{SessionRun}

unrefused : (run : SessionRun) (task : Task) → AskFor run.words task → EndsUnasked run → FailsEarly run
unrefused run task asks ends = elim ends.1 [
  | inl memory ↦ memory
  | inr explained ↦ absurd (asked_unrefused run.words task explained.0 asks explained.1)
]

pub task_ends : (run : SessionRun) {task : Task} → SessionEnds run → AskFor run.words task → TaskEnds run task ⊎ FailsEarly run
task_ends run {task = task} (inl asked) asks = inl (subst (TaskEnds run) (one_task_is_asked run.words asked.0 task asked.1 asks) asked.2)
task_ends run {task = task} (inr unasked) asks = inr (unrefused run task asks unasked)

pub plain_words_are_answered : PlainWordsAreAnswered
plain_words_are_answered run task ends plain =
    let asks = plain_words_are_read run.words task plain in
    elim (task_ends run ends asks) [
      | inl ends ↦ inl (asks, ends)
      | inr fails ↦ inr fails
    ]

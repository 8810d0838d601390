-- The evidence that is explained is the answer's.
use Rattle.session.proofs.explained.answer_explained.Goals as goal

pub returns-in-NoDeadlock : goal.returns-in-NoDeadlock
returns-in-NoDeadlock g c = rw c.in-NoDeadlock.is c.found_page.ensures

pub returns-in-Deadlock : goal.returns-in-Deadlock
returns-in-Deadlock g c = rw c.in-Deadlock.is c.found_page-in-Deadlock.ensures

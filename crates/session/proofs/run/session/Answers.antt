-- A run ends as the task that its words ask for, and an error that is explained is one of the
-- faults of the words.
use Rattle.std.proofs.Common.{◌≡◌, ◌⊎◌, refl, inl, inr, map, string_bytes, List}
use Rattle.clap.specs.Words.{Text, kind_of}
use Rattle.clap.specs.declared.error.kind.ErrorKind.{ErrorKind}
use Rattle.clap.specs.declared.error.kind.ErrorKind.TheVariants.{OutOfMemory}
use Rattle.command_line.specs.Requests.{IsRefusedBy, task_of}
use Rattle.session.specs.Endings.{EndsByError, ExplainsUsage, FailsEarly}
use Rattle.session.specs.parts.Runs.{on_outputs}
use Rattle.session.specs.Runs.{SessionRun}
use Rattle.session.proofs.run.session.Goals as goal

unasked : (words : List Text) (run : SessionRun) (kind : ErrorKind) → (kind ≡ OutOfMemory) ⊎ IsRefusedBy words kind
    → EndsByError run kind → FailsEarly run ⊎ ((k : ErrorKind) × IsRefusedBy words k × ExplainsUsage run k)
unasked words run kind fault (inl memory) = inl memory
unasked words run kind (inl memory) (inr explained) = absurd (explained.0 memory)
unasked words run kind (inr refused) (inr explained) = inr (kind, refused, explained.1)

pub returns-in-Err : goal.returns-in-Err
returns-in-Err g c =
    let run = on_outputs (g.O.Write.contents c.args.out.now) (g.O.Write.contents c.explain.new.out) (g.E.Write.contents c.args.err.now)
    (g.E.Write.contents c.explain.new.err) c.explain.result in
    inr (refl, unasked (map (λ w. string_bytes w) c.args.words.now) run (kind_of c.in-Err.error) c.in-Err.ensures.faults c.explain.ensures)

pub returns-in-Ok : goal.returns-in-Ok
returns-in-Ok g c = inl (task_of c.in-Ok.request, c.in-Ok.ensures.asked, c.answer.ensures (map (λ w. string_bytes w) c.args.words.now))

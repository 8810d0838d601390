-- The stages of a decision are told one after the other.
use Rattle.std.proofs.Common.{◌≡◌, ◌∙◌, ◌⊎◌, ◌++◌, ℕ, List, [], ◌∷◌, Option, ap, inl, inr, subst, sym, append-nil, append_assoc, length}
use Rattle.std.specs.Io.KnownBytes.{Appends}
use Rattle.std.proofs.KnownBytes.{Appends-trans}
use Rattle.calltext.specs.Grammar.{long}
use Rattle.callorder.specs.Programs.{MpiProgram}
use Rattle.callorder.specs.Resolving.{IsTextOfWithin}
use Rattle.semantics.specs.declared.state.Step.{Step}
use Rattle.leastrun.specs.LeastBuffered.{IsLeastBufferedRun}
use Rattle.files.specs.Contents.{AppendsPart}
use Rattle.deciding.specs.Stages.{IsRead, TellsStages, stage_line}
use Rattle.deciding.specs.declared.stages.Stage.{Stage}
use Rattle.deciding.specs.declared.stages.Stage.TheVariants as stages

abbrev AppendsSome : Option (List ℕ) → Option (List ℕ) → List ℕ → Type 0
AppendsSome old new bytes = Appends old new bytes ⊎ AppendsPart old new bytes

pub one_told : (program : List ℕ) (p : MpiProgram) (stage : Stage) (old new : Option (List ℕ)) → IsTextOfWithin long program p → IsRead p stage
    → AppendsSome old new (stage_line stage) → TellsStages program old new
one_told program p stage old new text read told =
    (stage ∷ [], (p, text, read, _), subst (AppendsSome old new) (sym (append-nil (stage_line stage))) told)

then_some : (old mid new : Option (List ℕ)) (first second : List ℕ) → Appends old mid first → AppendsSome mid new second → AppendsSome old new (first ++ second)
then_some old mid new first second whole (inl all) = inl (Appends-trans old mid new first second whole all)
then_some old mid new first second whole (inr (written, rest, is, some, begun)) =
    inr (first ++ written, rest, ap (λ (l : List ℕ). first ++ l) is ∙ sym (append_assoc first written rest), some, Appends-trans old mid new first written whole begun)

pub two_told : (program : List ℕ) (p : MpiProgram) (stage : Stage) (run : List Step) (count : ℕ) (old mid new : Option (List ℕ)) → IsTextOfWithin long program p → IsRead p stage
    → IsLeastBufferedRun p run → count ≡ length run → Appends old mid (stage_line stage) → AppendsSome mid new (stage_line (stages.Ran count)) → TellsStages program old new
two_told program p stage run count old mid new text read least many whole told =
    let ran = stages.Ran count in (
      stage ∷ ran ∷ [],
      (p, text, read, (run, least, many)),
      subst (λ (l : List ℕ). AppendsSome old new (stage_line stage ++ l)) (sym (append-nil (stage_line ran)))
          (then_some old mid new (stage_line stage) (stage_line ran) whole told),
    )

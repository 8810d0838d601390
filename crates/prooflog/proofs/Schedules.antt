-- What the loop over the lines of a schedule's steps keeps, and where it stops.
use Rattle.std.proofs.Common.{◌≡◌, ◌≢◌, ℕ, ◌+◌, ◌-◌, ◌<◌, ◌≤◌, List, [], ◌∷◌, ◌++◌, length, get_or, take, map, refl, sym, ap, subst, ◌∙◌, append_assoc, arith, inl, inr, ◌⊎◌}
use Rattle.std.specs.Prelude.{codes, All}
use Rattle.std.specs.List.{flat_map}
use Rattle.std.proofs.Math.Seq.{get_or-append_seam}
use Rattle.std.proofs.lemmas.List.{map_push, length-append, length-map, length-take, take_more, flat_map_more, get_or-map}
use Rattle.std.proofs.lemmas.List.Concat.{flat_map-cons}
use Rattle.std.proofs.lemmas.List.Folds.{flat_map-map}
use Rattle.std.proofs.lemmas.List.Elements.{All-push, All-map}
use Rattle.plaintext.specs.Plain.{text_lines}
use Rattle.plaintext.specs.Fronts.{to_end, BeginsWith}
use Rattle.plaintext.proofs.Cuts.{no_line_of}
use Rattle.semantics.specs.declared.state.Step.{Step}
use Rattle.prooflog.specs.declared.evidence.Evidence.TheVariants.{Schedule}
use Rattle.prooflog.specs.declared.fault.EvidenceFault.TheVariants.{Syntax, Range, TooLarge}
use Rattle.prooflog.specs.declared.refutation.Version.TheVariants.{One}
use Rattle.prooflog.specs.declared.step.WrittenStep.{WrittenStep}
use Rattle.prooflog.specs.Steps.{written, step_words, step_line, IsStepInRange, IsSchedule, schedule_line}
use Rattle.prooflog.specs.Refutations.{item_line, items}
use Rattle.prooflog.specs.Grammar.{Written, as_schedule, as_refutation, heading_line, refutation_line, written_lines, IsEvidenceText}
use Rattle.prooflog.specs.Fault.{IsRanged, IsFew, CanGoOnAsEvidence}
use Rattle.prooflog.specs.parts.Reading.{HasFaultAfter}
use Rattle.prooflog.proofs.StepLines.{step_line_injective, step_line_nonempty}
use Rattle.prooflog.proofs.Fronts.{Next, next_or_end, stops_syntax, stops_range, stops_large}
use Rattle.prooflog.proofs.Exact.{kinds_differ, below_heading}

-- the lines above the steps
abbrev pub above_steps : List (List ℕ)
above_steps = heading_line One ∷ schedule_line ∷ []

-- what begins with the lines of some steps is a schedule, and goes on with another step or ends
pub record NextStep (w : Written) (done : List WrittenStep) (line : List ℕ) : Type 0 where
  pub all : List WrittenStep
  pub is : w ≡ as_schedule all
  pub next : Next step_line all done line ⊎ ((line ≡ []) × (all ≡ done))

next_step : (w : Written) (done : List WrittenStep) (line : List ℕ) → BeginsWith ((above_steps ++ map step_line done) ++ line ∷ []) (to_end (written_lines w)) → NextStep w done line
next_step (as_schedule ss) done line (more, e) =
    let below = below_heading One One (map step_line ss ++ [] ∷ []) ((map step_line done ++ line ∷ []) ++ more) schedule_line schedule_line e in
    record { all = ss; is = refl; next = next_or_end step_line step_line_injective step_line_nonempty ss done line more (below.1 ∙ append_assoc (map step_line done) (line ∷ []) more) }
next_step (as_refutation r) done line (more, e) =
    absurd (kinds_differ r.variables r.clauses (sym (below_heading r.version One (map item_line (items r) ++ [] ∷ []) ((map step_line done ++ line ∷ []) ++ more) (refutation_line r.variables r.clauses) schedule_line e).0))

-- one of the steps is in range where all are
step_in_all : (all done : List WrittenStep) (step : WrittenStep) (others : List WrittenStep) → all ≡ done ++ step ∷ others → All IsStepInRange all → IsStepInRange step
step_in_all all done step others cut in_range =
    subst IsStepInRange (ap (λ (ws : List WrittenStep). get_or ws (length done) step) cut ∙ get_or-append_seam done step others step)
    (in_range (length done) step (omega (arith, ap length cut, length-append done (step ∷ others))))

-- ---- the loop

pub record SoFar (bytes rest : List ℕ) (number : ℕ) (steps : List Step) : Type 0 where
  pub cut : text_lines bytes ≡ map step_line (map written steps) ++ text_lines rest
  pub limits : IsSchedule steps
  pub place : number ≡ 3 + length steps

pub begun : (bytes : List ℕ) → SoFar bytes bytes 3 []
begun bytes = record { cut = refl; limits = record { few = omega arith; in_range = λ k d lt. absurd (omega arith) }; place = refl }

pub one_more : (bytes rest after : List ℕ) (number : ℕ) (steps : List Step) (step : Step) (line : List ℕ) → SoFar bytes rest number steps → text_lines rest ≡ line ∷ text_lines after
    → step_line (written step) ≡ line → IsStepInRange (written step) → length steps < 4096 → SoFar bytes after (number + 1) (steps ++ step ∷ [])
one_more bytes rest after number steps step line so next spelled fits few =
    let done : List WrittenStep = map written steps in
    let pushed : map written (steps ++ step ∷ []) ≡ done ++ written step ∷ [] = map_push written steps step in
    record {
      cut = so.cut ∙ ap (λ (ls : List (List ℕ)). map step_line done ++ ls) (next ∙ ap (λ (l : List ℕ). l ∷ text_lines after) (sym spelled))
          ∙ sym (append_assoc (map step_line done) (step_line (written step) ∷ []) (text_lines after))
          ∙ ap (λ (ls : List (List ℕ)). ls ++ text_lines after) (sym (ap (map step_line) pushed ∙ map_push step_line done (written step)));
      limits = record {
        few = omega (arith, few, length-map (steps ++ step ∷ []) written, length-append steps (step ∷ []));
        in_range = subst (All IsStepInRange) (sym pushed) (All-push IsStepInRange done (written step) so.limits.in_range fits);
      };
      place = omega (arith, so.place, length-append steps (step ∷ []));
    }

module _ (bytes rest : List ℕ) (number : ℕ) (steps : List Step) (so : SoFar bytes rest number steps) (line : List ℕ) (after : List (List ℕ)) (next : text_lines rest ≡ line ∷ after) where
  done : List WrittenStep
  done = map written steps

  before : List (List ℕ)
  before = map step_line (map written steps)

  cut : text_lines bytes ≡ map step_line (map written steps) ++ line ∷ after
  cut = so.cut ∙ ap (λ (ls : List (List ℕ)). map step_line (map written steps) ++ ls) next

  good : CanGoOnAsEvidence (above_steps ++ map step_line (map written steps))
  good =
      let few : length (take (length (above_steps ++ map step_line (map written steps)) - 2) (map written steps)) ≤ 4096 =
      omega (arith, so.limits.few, length-take (length (above_steps ++ map step_line (map written steps)) - 2) (map written steps)) in
      (as_schedule (map written steps), (so.limits.in_range, few), ([] ∷ [], refl))

  at : number ≡ length above_steps + length (map step_line (map written steps)) + 1
  at = omega (arith, so.place, length-map (map written steps) step_line, length-map steps written)

  with_step : (step : WrittenStep) → step_line step ≡ line → BeginsWith ((above_steps ++ map step_line (map written steps)) ++ line ∷ []) (to_end (written_lines (as_schedule (map written steps ++ step ∷ []))))
  with_step step spelled =
      ([] ∷ [], ap (λ (ls : List (List ℕ)). to_end (heading_line One ∷ schedule_line ∷ ls)) (map_push step_line (map written steps) step ∙ ap (λ (l : List ℕ). map step_line (map written steps) ++ l ∷ []) spelled))

  pub stop_syntax : ((step : WrittenStep) → step_line step ≢ line) → line ≢ [] → HasFaultAfter above_steps bytes (Syntax number)
  stop_syntax no_step no_end = stops_syntax above_steps bytes (map step_line (map written steps)) line after cut good number at (λ (w, keeps, begins). elim (next_step w (map written steps) line begins).next [
    | inl x ↦ no_step x.value x.spelled
    | inr x ↦ no_end x.0
  ])

  pub stop_range : (step : WrittenStep) → step_line step ≡ line → (IsStepInRange step → ⊥) → HasFaultAfter above_steps bytes (Range number)
  stop_range step spelled over =
      stops_range above_steps bytes (map step_line (map written steps)) line after cut good number at (as_schedule (map written steps ++ step ∷ []), tt, with_step step spelled) (λ (w, keeps, begins).
      let found = next_step w (map written steps) line begins in
      elim found.next [
        | inl x ↦ over (subst IsStepInRange (step_line_injective x.value step (x.spelled ∙ sym spelled)) (step_in_all found.all (map written steps) x.value x.others x.cut (subst IsRanged found.is keeps)))
        | inr x ↦ step_line_nonempty step (spelled ∙ x.0)
      ])

  pub stop_large : (step : WrittenStep) → step_line step ≡ line → IsStepInRange step → 4096 ≤ length steps → HasFaultAfter above_steps bytes TooLarge
  stop_large step spelled fits full =
      stops_large above_steps bytes (map step_line (map written steps)) line after cut good (as_schedule (map written steps ++ step ∷ []), All-push IsStepInRange (map written steps) step so.limits.in_range fits, with_step step spelled) (λ (w, keeps, begins).
      let found = next_step w (map written steps) line begins in
      let front : List (List ℕ) = (above_steps ++ map step_line (map written steps)) ++ line ∷ [] in
      let few : length (take (length front - 2) found.all) ≤ 4096 = subst (IsFew (length front)) found.is keeps.1 in
      elim found.next [
        | inl x ↦ omega (arith, few, full, length-take (length front - 2) found.all, ap length x.cut, length-append (map written steps) (x.value ∷ x.others), length-append (map step_line (map written steps)) (line ∷ []), length-map (map written steps) step_line, length-map steps written)
        | inr x ↦ step_line_nonempty step (spelled ∙ x.0)
      ])

-- a last line that lacks its LF
pub unended : (bytes rest : List ℕ) (number : ℕ) (steps : List Step) → SoFar bytes rest number steps → text_lines rest ≡ rest ∷ [] → rest ≢ [] → HasFaultAfter above_steps bytes (Syntax number)
unended bytes rest number steps so one some = stop_syntax bytes rest number steps so rest [] one (λ step e. no_line_of rest (step_words step) one e) some

-- ---- schedules as the machine has them

pub is_schedule : (steps : List Step) → length steps ≤ 4096 → All (λ step. IsStepInRange (written step)) steps → IsSchedule steps
is_schedule steps few all = record { few = omega (arith, few, length-map steps written); in_range = All-map IsStepInRange written steps all }

pub step_at : (steps : List Step) → IsSchedule steps → (k : ℕ) (d : Step) → k < length steps → IsStepInRange (written (get_or steps k d))
step_at steps s k d lt = subst IsStepInRange (get_or-map written steps k d (written d) lt) (s.in_range k (written d) (omega (arith, lt, length-map steps written)))

pub few_steps : (steps : List Step) → IsSchedule steps → length steps ≤ 4096
few_steps steps s = omega (arith, s.few, length-map steps written)

-- one more step is written
pub one_written : (head : List ℕ) (steps : List Step) (k : ℕ) (d : Step) → k < length steps
    → (head ++ flat_map step_line (map written (take k steps))) ++ step_line (written (get_or steps k d)) ≡ head ++ flat_map step_line (map written (take (k + 1) steps))
one_written head steps k d lt =
    flat_map_more step_line head (map written (take k steps)) (written (get_or steps k d))
    ∙ ap (λ (ws : List WrittenStep). head ++ flat_map step_line ws) (sym (ap (map written) (take_more steps k d lt) ∙ map_push written (take k steps) (get_or steps k d)))

-- the text of a schedule
pub schedule_text : (steps : List Step) (out : List ℕ) → IsSchedule steps → out ≡ (codes "evidence 1" ++ 10 ∷ codes "schedule" ++ 10 ∷ []) ++ flat_map step_line (map written steps) → IsEvidenceText out (Schedule steps)
schedule_text steps out limits e =
    let lines : List (List ℕ) = map step_line (map written steps) in
    record {
      limits = limits;
      text = e ∙ ap (λ (text : List ℕ). heading_line One ++ (schedule_line ++ text)) (sym (flat_map-map (λ line. line) step_line (map written steps)))
          ∙ ap (λ (text : List ℕ). heading_line One ++ text) (sym (flat_map-cons (λ line. line) schedule_line lines))
          ∙ sym (flat_map-cons (λ line. line) (heading_line One) (schedule_line ∷ lines));
    }

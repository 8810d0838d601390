-- Nothing waits in the opening configuration.
use Rattle.std.proofs.Common.{◌≡◌, ℕ, ◌<◌, true, false, List, [], length, slice_get, Some, None, ap, subst, arith}
use Rattle.std.proofs.lemmas.Option.{slice_get_within}
use Rattle.calltext.specs.Grammar.{long}
use Rattle.callorder.specs.ProgramRules.{IsProgramWithin}
use Rattle.callorder.specs.Programs.{MpiProgram}
use Rattle.semantics.specs.Machine.{Configuration, opening, is_issued}
use Rattle.semantics.specs.declared.state.Step.{Step}
use Rattle.semantics.specs.declared.state.Step.TheVariants.{Issue}
use Rattle.races.proofs.Passing.{none_issued}
use Rattle.races.proofs.Telling.{programs_are_in_order}
use Rattle.leastrun.specs.declared.rows.SlotRows.{SlotRows}
use Rattle.leastrun.specs.declared.tables.Tables.{Tables}
use Rattle.leastrun.specs.declared.walk.Buffering.{Buffering}
use Rattle.leastrun.specs.declared.walk.Buffering.TheVariants.{Least, Most}
use Rattle.leastrun.specs.LeastBuffered.{BuffersSo}
use Rattle.leastrun.specs.parts.Slots.{HasForms}
use Rattle.leastrun.specs.parts.Queues.{row}
use Rattle.leastrun.specs.parts.Waiting.{AreInOrder, IsKept, NoOpenPair}
use Rattle.leastrun.proofs.Openings.{open_parts}

abbrev empty : List ℕ
empty = []

nothing_there : (entries : List ℕ) (i e : ℕ) → entries ≡ [] → slice_get entries i ≡ Some e → ⊥
nothing_there entries i e none there =
    let none_there : slice_get empty i ≡ Some e = subst (λ (z : List ℕ). slice_get z i ≡ Some e) none there in
    let low : i < 0 = slice_get_within empty i e none_there in
    absurd (let never : ⊥ = omega (arith, low) in never)

order_of_none : (p : MpiProgram) (m : Configuration) (rows : SlotRows) → ((q : ℕ) → row rows q ≡ []) → AreInOrder p m rows
order_of_none p m rows none =
    record {
      issued = λ q i e there. absurd (nothing_there (row rows q) i e (none q) there);
      ordered = λ q i j d e first second below one. absurd (nothing_there (row rows q) i d (none q) first);
    }

pub kept_opening : (p : MpiProgram) (t : Tables) → IsProgramWithin long p → HasForms p t.forms.items → ((q : ℕ) → row t.sends q ≡ []) → ((q : ℕ) → row t.finders q ≡ []) → IsKept p None (opening p) t
kept_opening p t is forms no_sends no_finders =
    record {
      all_forms = forms;
      sent = λ c call opened old there. absurd (none_issued p c (programs_are_in_order long p is).0 (open_parts p (opening p) c opened).0);
      sought = λ c call opened old there. absurd (none_issued p c (programs_are_in_order long p is).0 (open_parts p (opening p) c opened).0);
      send_order = order_of_none p (opening p) t.sends no_sends;
      finder_order = order_of_none p (opening p) t.finders no_finders;
    }

pub none_open_at_first : (p : MpiProgram) (m : Configuration) → IsProgramWithin long p → m ≡ opening p → NoOpenPair p m
none_open_at_first p m is now s f pair = none_issued p s (programs_are_in_order long p is).0 (subst (λ (z : Configuration). is_issued p z s ≡ true) now pair.send_issued)

no_step : (steps : List Step) (place : ℕ) (step : Step) → steps ≡ [] → slice_get steps place ≡ Some step → ⊥
no_step steps place step none there =
    let low : place < length steps = slice_get_within steps place step there in
    omega (arith, low, ap length none)

pub none_yet : (buffering : Buffering) (p : MpiProgram) (steps : List Step) → steps ≡ [] → BuffersSo buffering p steps
none_yet Least p steps none = λ place rank there. absurd (no_step steps place (Issue rank true) none there)
none_yet Most p steps none = λ place rank there can. no_step steps place (Issue rank false) none there

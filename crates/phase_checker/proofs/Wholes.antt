-- No run of a program that phases make up gets stuck.
use Rattle.std.proofs.Common.{◌≡◌, ℕ, suc, ◌+◌, ◌<◌, inl, inr, List, [], ◌∷◌, length, take, slice_get, refl, sym, ap, ◌∙◌, subst, arith}
use Rattle.std.proofs.lemmas.Grind.{not_there}
use Rattle.std.proofs.lemmas.List.{take_all}
use Rattle.std.proofs.lemmas.Option.{same_Some}
use Rattle.calltext.specs.Grammar.{long, short}
use Rattle.callorder.specs.declared.calls.Call.{Call}
use Rattle.callorder.specs.Calls.{message_of}
use Rattle.callorder.specs.ProgramRules.{IsProgramWithin}
use Rattle.callorder.specs.Programs.{MpiProgram, call_at}
use Rattle.callorder.specs.Resolving.{IsTextOfWithin}
use Rattle.callorder.proofs.FirstFaults.{same_program_within}
use Rattle.callorder.proofs.ProgramsMade.{expansion_is_program}
use Rattle.semantics.specs.Headline.{NoStuckRun}
use Rattle.semantics.specs.Machine.{first_call}
use Rattle.phases.specs.CallPlaces.{IsFrom, IsPart, IsWellFormed, moved_call}
use Rattle.phases.specs.Rests.{behind}
use Rattle.phases.proofs.ManyPhases.{programs_are_well_formed}
use Rattle.phases.proofs.Joined.{joined_is_cut}
use Rattle.phases.proofs.Parts.{message_moved}
use Rattle.phases.proofs.Rests.{empty_is_never_stuck, front_is_joined, last_phase}
use Rattle.sealing.specs.declared.loose.Loose.{Loose}
use Rattle.sealing.specs.Sealing.{IsLooseSend}
use Rattle.sealing.proofs.Sealed.{one_sealed_phase_more}
use Rattle.sealing.proofs.Seals.{no_loose_send_seals}
use Rattle.checker.specs.Headline.{IsNeverStuck}
use Rattle.phase_checker.specs.declared.phase.Phase.{Phase}
use Rattle.phase_checker.specs.Dealing.{Dealt, IsAt, KeepsToItself}
use Rattle.phase_checker.specs.Laws.{JoinedAreNeverStuck}

-- each phase of the order but the last keeps to itself
abbrev Keep : List Phase → List ℕ → Type 0
Keep phases order = (at : ℕ) (phase : Phase) → at < length order → at + 1 < length order → IsAt phases order at phase → KeepsToItself phases order at phase

-- what a phase's type keeps may be used where nothing but a contradiction is shown
with_program : (phase : Phase) (p : MpiProgram) → (IsWellFormed phase.program → NoStuckRun p) → NoStuckRun p
with_program phase p from steps stuck = not_there phase.program_kept (λ kept. from (programs_are_well_formed long phase.program kept) steps stuck)

-- ---- sends of what is left

-- a send of a part of a program is one of the same message there
part_sends : (entry : Loose) (p part : MpiProgram) (moved : ℕ → ℕ) → IsPart p part moved → (s : IsLooseSend entry p)
    → IsFrom part moved s.place → IsLooseSend entry part
part_sends entry p part moved is s from =
    let same : moved_call (moved from.call.rank) from.call ≡ s.call =
    same_Some (moved_call (moved from.call.rank) from.call) s.call (sym (is.calls from.place from.call from.there) ∙ ap (call_at p) (sym from.is) ∙ s.there) in
    record {
      place = from.place;
      call = from.call;
      message = s.message;
      there = from.there;
      sends = sym (message_moved (moved from.call.rank) from.call.kind) ∙ ap (λ (z : Call). message_of z.kind) same ∙ s.sends;
      source = ap (λ (z : Call). z.rank) same ∙ s.source;
      destination = s.destination;
      communicator = s.communicator;
      tag = s.tag;
    }

none_sends : (entry : Loose) (p : MpiProgram) → p.calls ≡ [] → IsLooseSend entry p → ⊥
none_sends entry p none s = let never = ap (λ (z : List Call). slice_get z s.place) (sym none) ∙ s.there in cc

later_at : (phases : List Phase) (number : ℕ) (order : List ℕ) (place : ℕ) (phase : Phase) → IsAt phases order place phase
    → IsAt phases (number ∷ order) (suc place) phase
later_at phases number order place phase is = record { number = is.number; entry = is.entry; there = is.there }

-- each send of a program that is dealt to phases is one of a phase
sends_of_phases : (phases : List Phase) (order : List ℕ) (p left : MpiProgram) (entry : Loose) → IsWellFormed p → Dealt phases p order left → left.calls ≡ []
    → ((later : ℕ) (other : Phase) → IsAt phases order later other → IsLooseSend entry other.program → ⊥) → IsLooseSend entry p → ⊥
sends_of_phases phases [] p left entry is_p e none never s = none_sends entry p (ap (λ (z : MpiProgram). z.calls) e ∙ none) s
sends_of_phases phases (number ∷ order) p left entry is_p (rest, taken, dealt) none never s =
    not_there taken.phase.program_kept
    (λ kept.
    let d = taken.phase.program in
    let is_d = programs_are_well_formed long d kept in
    let j = front_is_joined p d is_p is_d taken.front in
    let cut = joined_is_cut p d (behind p d) is_p is_d j.1 j.0 in
    elim (cut.each s.place s.call s.there) [
      | inl from ↦
          never 0 taken.phase (record { number = number; entry = refl; there = taken.there }) (part_sends entry p d (first_call (behind p d)) cut.first s from)
      | inr from ↦
          sends_of_phases phases order rest left entry (subst IsWellFormed (sym taken.left) j.1) dealt none
          (λ later other is sends. never (suc later) other (later_at phases number order later other is) sends)
          (subst (IsLooseSend entry) (sym taken.left) (part_sends entry p (behind p d) (λ rank. first_call d (rank + 1)) cut.second s from))
    ])

-- ---- runs

keep_later : (phases : List Phase) (number : ℕ) (order : List ℕ) → Keep phases (number ∷ order) → Keep phases order
keep_later phases number order keep at phase below more is =
    let whole = keep (suc at) phase (omega (arith, below)) (omega (arith, more)) (later_at phases number order at phase is) in
    record {
      late = λ early. whole.late (record {
        entry = early.entry;
        loose = early.loose;
        later = suc early.later;
        behind = omega (arith, early.behind);
        other = early.other;
        is = later_at phases number order early.later early.other early.is;
        sends = early.sends;
      });
      even = whole.even;
    }

made_up : (phases : List Phase) (order : List ℕ) (p left : MpiProgram) → IsWellFormed p → Dealt phases p order left → Keep phases order → left.calls ≡ [] → NoStuckRun p
made_up phases [] p left is_p e keep none = empty_is_never_stuck p (ap (λ (z : MpiProgram). z.calls) e ∙ none)
made_up phases (number ∷ []) p left is_p (rest, taken, e) keep none =
    let nothing : (behind p taken.phase.program).calls ≡ [] = ap (λ (z : MpiProgram). z.calls) (sym taken.left ∙ e) ∙ none in
    with_program taken.phase p (λ is_d. last_phase p taken.phase.program is_p is_d taken.front nothing taken.phase.never)
made_up phases (number ∷ second ∷ others) p left is_p (rest, taken, dealt) keep none =
    with_program taken.phase p
    (λ is_d.
    let d = taken.phase.program in
    let j = front_is_joined p d is_p is_d taken.front in
    let keeps = keep 0 taken.phase (omega arith) (omega arith) (record { number = number; entry = refl; there = taken.there }) in
    let is_rest = subst IsWellFormed (sym taken.left) j.1 in
    let never : NoStuckRun rest = made_up phases (second ∷ others) rest left is_rest dealt (keep_later phases number (second ∷ others) keep) none in
    let sealed =
    no_loose_send_seals d (behind p d) is_d j.1 (j.0.ranks_second ∙ sym j.0.ranks_first)
    (λ entry loose sends.
    sends_of_phases phases (second ∷ others) rest left entry is_rest dealt none
    (λ later other is s. keeps.late (record {
      entry = entry;
      loose = loose;
      later = suc later;
      behind = omega arith;
      other = other;
      is = later_at phases number (second ∷ others) later other is;
      sends = s;
    }))
    (subst (IsLooseSend entry) (sym taken.left) sends)) in
    one_sealed_phase_more p d is_p is_d taken.front taken.phase.never keeps.even sealed (subst NoStuckRun taken.left never))

is_program : (text : List ℕ) (p : MpiProgram) → IsTextOfWithin long text p → IsWellFormed p
is_program text p of =
    programs_are_well_formed long p
    (subst (IsProgramWithin long) (sym of.is_program.is) (expansion_is_program long of.text of.is_text.fits.some of.is_text.fits.ranks of.is_program.no_fault))

pub joined_are_never_stuck : JoinedAreNeverStuck
joined_are_never_stuck text phases order joined =
    let whole : take (length order) order ≡ order = take_all (length order) order (omega arith) in
    let dealt : Dealt phases joined.p order joined.left = subst (λ (z : List ℕ). Dealt phases joined.p z joined.left) whole joined.all.dealt in
    record {
      p = joined.p;
      text = joined.is_text;
      never = made_up phases order joined.p joined.left (is_program text joined.p joined.is_text) dealt joined.all.keep joined.nothing;
    }

-- ---- texts of checked programs

-- a program that a text has within the long limits never gets stuck where the one that it has
-- within the short ones doesn't
pub never_within_long : (text : List ℕ) (p : MpiProgram) → IsNeverStuck text → IsTextOfWithin long text p → NoStuckRun p
never_within_long text p is of =
    let wide = same_program_within short long text is.p (record { bytes = omega arith; ranks = omega arith; peer = omega arith; tag = omega arith; communicator = omega arith; calls = omega arith }) is.text in
    subst NoStuckRun (sym (wide.1 p of)) is.never

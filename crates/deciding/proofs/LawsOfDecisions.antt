-- What holds of each decision.
use Rattle.std.proofs.Common.{◌≡◌, ℕ, Bool, true, false, not, List, Option, Some, None, refl, subst, arith}
use Rattle.calltext.specs.Grammar.{long, short}
use Rattle.callorder.specs.Calls.{pattern_of}
use Rattle.callorder.specs.Programs.{MpiProgram, call_at}
use Rattle.callorder.specs.Resolving.{IsTextOf, IsTextOfWithin}
use Rattle.callorder.specs.declared.calls.Call.{Call}
use Rattle.callorder.proofs.FirstFaults.{one_program_of_bytes_within, same_program_within}
use Rattle.semantics.specs.Headline.{NoStuckRun}
use Rattle.semantics.specs.Machine.{IsStuckRun}
use Rattle.races.specs.Races.{names_source, NamesSources}
use Rattle.deciding.specs.Decisions.{takes_any_source_call, IsRace}
use Rattle.deciding.specs.Laws.{JustifiedRunsAreDecided, LoneSendersAreDecided, NamedSourcesAreDecided, ShortTextsAreDecided}
use Rattle.deciding.specs.declared.decision.CallerRace.{CallerRace}

not_both : (b : Bool) → b ≡ true → not b ≡ true → ⊥
not_both true named free = cc
not_both false named free = cc

no_free : (p : MpiProgram) (race : CallerRace) → NamesSources p → IsRace p race → ⊥
no_free p race named is = go (call_at p race.finder.place) refl is.free
  where
    go : (found : Option Call) → call_at p race.finder.place ≡ found → takes_any_source_call found ≡ true → ⊥
    go None there free = cc
    go (Some call) there free = not_both (names_source (pattern_of call.kind)) (named race.finder.place call there) free

pub named_sources_are_decided : NamedSourcesAreDecided
named_sources_are_decided program race p decided text named =
    let same : decided.p ≡ p = one_program_of_bytes_within long program decided.p p decided.text text in
    no_free p race named (subst (λ (q : MpiProgram). IsRace q race) same decided.calls)

pub lone_senders_are_decided : LoneSendersAreDecided
lone_senders_are_decided program race p decided text lone =
    let same : decided.p ≡ p = one_program_of_bytes_within long program decided.p p decided.text text in
    let is : IsRace p race = subst (λ (q : MpiProgram). IsRace q race) same decided.calls in
    let one = lone race.finder.place race.found.place race.other.place is.found_fits is.other_fits in
    cc (one, is.apart)

pub justified_runs_are_decided : JustifiedRunsAreDecided
justified_runs_are_decided program race p decided text tables =
    let same : decided.p ≡ p = one_program_of_bytes_within long program decided.p p decided.text text in
    let is : IsRace p race = subst (λ (q : MpiProgram). IsRace q race) same decided.calls in
    let untold = is.untold in
    let table = tables untold.run untold.finished untold.choice in
    let known : table.knows race.other.place race.finder.place ≡ true =
    table.shows race.finder.place race.found.place race.other.place untold.matched is.found_fits is.other_fits is.apart
    (λ taker partner before. untold.later taker partner (omega (arith, before))) in
    let unknown = untold.unordered table.knows table.justified in
    cc (known, unknown)

-- the program of a text within the short limits is that within the long ones
same_long : (program : List ℕ) (p q : MpiProgram) → IsTextOf program p → IsTextOfWithin long program q → q ≡ p
same_long program p q is wide = (same_program_within short long program p (record { bytes = omega arith; ranks = omega arith; peer = omega arith; tag = omega arith; communicator = omega arith; calls = omega arith }) is).1 q wide

pub short_texts_are_decided : ShortTextsAreDecided
short_texts_are_decided = record {
  never = λ program p is decided. record {
    p = p;
    text = is;
    never = subst NoStuckRun (same_long program p decided.p is decided.text) decided.never;
  };
  stuck = λ program p steps is decided. subst (λ (q : MpiProgram). IsStuckRun q steps) (same_long program p decided.p is decided.text) decided.stuck;
}

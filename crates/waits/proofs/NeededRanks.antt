-- Ranks whose calls could bring a match, and those that a rank waits for.
use Rattle.std.proofs.Common.{◌≡◌, ℕ, ◌+◌, ◌<◌, ◌≤◌, ◌⊎◌, inl, inr, Bool, nat_lt, IsTrue, List, [], Option, Some, None, length, get_or, slice_get, slice_index, refl, sym, ◌∙◌, ap, subst, ◌↔◌, arith}
use Rattle.std.specs.Prelude.{IfOk, IfSome, Contains, Result, Ok, Err}
use Rattle.std.proofs.lemmas.Bool.{cases_eq, cases_lt, or_cases, and_parts, eqb-true, eq-eqb, both_ways, le-ltb, lt-ltb, true≢false}
use Rattle.std.proofs.lemmas.Option.{slice_get-get_or, slice_get_within, same_Some, none-some}
use Rattle.calltext.specs.declared.limits.Limits.{Limits}
use Rattle.callorder.specs.declared.calls.Call.{Call}
use Rattle.callorder.specs.declared.calls.Kind.{Kind}
use Rattle.callorder.specs.declared.calls.Kind.TheVariants.{Send}
use Rattle.callorder.specs.declared.calls.Message.{Message}
use Rattle.callorder.specs.declared.calls.Pattern.{Pattern}
use Rattle.callorder.specs.Calls.{message_of, pattern_of, covers, fits_between, both_hold, holds_of, fits}
use Rattle.callorder.specs.ProgramRules.{IsProgramWithin}
use Rattle.callorder.specs.Programs.{MpiProgram, call_at, is_of_rank}
use Rattle.semantics.specs.Machine.{Configuration, is_issued, is_issued_call}
use Rattle.waits.specs.Waiting.{WaitsIn, WaitsFor, IsMissing, IsNeededBy, IsOnlyPeer, fits_with, operation_of_call}
use Rattle.waits.proofs.NeededCalls.{own_rank}
use Rattle.waits.proofs.StuckRanks.{one_call}

-- ---- whether a rank has a call that fits and is not issued

-- no call of the rank from one place to another fits
abbrev pub NoneFits : MpiProgram → ℕ → ℕ → ℕ → ℕ → Type 0
NoneFits p o rank low high = (e : ℕ) → low ≤ e → e < high → IsTrue (is_of_rank (call_at p e) rank) → IsTrue (fits_with p o e) → ⊥

issued_call : (m : Configuration) (e rank : ℕ) (known : Option Call) → IsTrue (is_of_rank known rank) → holds_of (is_issued_call m e) known ≡ nat_lt e (slice_index m.next rank)
issued_call m e rank None own = absurd (true≢false (sym own))
issued_call m e rank (Some call) own = ap (λ (r : ℕ). nat_lt e (slice_index m.next r)) (eqb-true call.rank rank own)

-- a call of the rank is issued where it stands before the rank's next one
issued_of : (p : MpiProgram) (m : Configuration) (e rank : ℕ) → IsTrue (is_of_rank (call_at p e) rank) → is_issued p m e ≡ nat_lt e (slice_index m.next rank)
issued_of p m e rank own = issued_call m e rank (call_at p e) own

pub found_missing : (p : MpiProgram) (m : Configuration) (o rank next place : ℕ) → next ≡ slice_index m.next rank → next ≤ place → IsTrue (is_of_rank (call_at p place) rank) → IsTrue (fits_with p o place) → IsMissing p m o rank
found_missing p m o rank next place is from own fit =
    record { call = place; own = own; fit = fit; not_issued = issued_of p m place rank own ∙ le-ltb place (slice_index m.next rank) (omega (arith, is, from)) }

pub none_missing : (p : MpiProgram) (m : Configuration) (o rank next place : ℕ) → next ≡ slice_index m.next rank → NoneFits p o rank next place → ((e : ℕ) → place ≤ e → IsTrue (is_of_rank (call_at p e) rank) → ⊥) → IsMissing p m o rank → ⊥
none_missing p m o rank next place is none past missing =
    elim (cases_lt missing.call place) [
      | inl before ↦ elim (cases_lt missing.call (slice_index m.next rank)) [
        | inl issued ↦ both_ways _ missing.not_issued (issued_of p m missing.call rank missing.own ∙ lt-ltb missing.call (slice_index m.next rank) issued)
        | inr ahead ↦ none missing.call (omega (arith, is, ahead)) before missing.own missing.fit
      ]
      | inr after ↦ past missing.call after missing.own
    ]

-- behind a call of a higher rank there is none of the rank
pub later_ranks : (l : Limits) (p : MpiProgram) (rank place : ℕ) (call : Call) → IsProgramWithin l p → call_at p place ≡ Some call → rank < call.rank → (e : ℕ) → place ≤ e → IsTrue (is_of_rank (call_at p e) rank) → ⊥
later_ranks l p rank place call is there higher e after own =
    let known = own_rank (call_at p e) rank own in
    let order = is.rank_order place e call known.0 after there known.1 in
    absurd (omega (arith, order, higher, known.2))

pub past_all : (p : MpiProgram) (rank place : ℕ) → length p.calls ≤ place → (e : ℕ) → place ≤ e → IsTrue (is_of_rank (call_at p e) rank) → ⊥
past_all p rank place end e after own =
    let known = own_rank (call_at p e) rank own in
    absurd (omega (arith, end, after, slice_get_within p.calls e known.0 known.1))

pub one_more_unfit : (p : MpiProgram) (o rank low place : ℕ) → (IsTrue (is_of_rank (call_at p place) rank) → IsTrue (fits_with p o place) → ⊥) → NoneFits p o rank low place → NoneFits p o rank low (place + 1)
one_more_unfit p o rank low place here before e from below own fit =
    elim (cases_eq e place) [
      | inl same ↦ here (subst (λ (k : ℕ). IsTrue (is_of_rank (call_at p k) rank)) same own) (subst (λ (k : ℕ). IsTrue (fits_with p o k)) same fit)
      | inr differ ↦ before e from (omega (arith, below, differ)) own fit
    ]

pub there_at : (calls all : List Call) (c : ℕ) (d : Call) → calls ≡ all → c < length calls → slice_get all c ≡ Some (get_or calls c d)
there_at calls all c d same within =
    subst (λ (l : List Call). slice_get l c ≡ Some (get_or calls c d)) same (slice_get-get_or calls c d within)

-- ---- the peer that a call names

no_fit : (sender taker : ℕ) (message : Option Message) (pattern : Option Pattern) → pattern ≡ None → IsTrue (fits_between sender message taker pattern) → ⊥
no_fit sender taker None pattern none fit = true≢false (sym fit)
no_fit sender taker (Some message) None none fit = true≢false (sym fit)
no_fit sender taker (Some message) (Some pattern) none fit = absurd (cc)

pub no_send_fit : (sender taker : ℕ) (message : Option Message) (pattern : Option Pattern) → message ≡ None → IsTrue (fits_between sender message taker pattern) → ⊥
no_send_fit sender taker None pattern none fit = true≢false (sym fit)
no_send_fit sender taker (Some message) pattern none fit = absurd (cc)

pub sent_to : (sender taker : ℕ) (message : Message) (pattern : Option Pattern) → IsTrue (fits_between sender (Some message) taker pattern) → message.destination ≡ taker
sent_to sender taker message None fit = absurd (true≢false (sym fit))
sent_to sender taker message (Some pattern) fit = eqb-true message.destination taker (and_parts _ _ (and_parts _ _ (and_parts _ _ fit).0).0).0

covered : (source : Option ℕ) (s sender : ℕ) → source ≡ Some s → IsTrue (covers source sender) → s ≡ sender
covered None s sender some covers_it = absurd (cc)
covered (Some x) s sender some covers_it = sym (same_Some x s some) ∙ eqb-true x sender covers_it

sent_by : (sender taker s : ℕ) (message : Option Message) (pattern : Pattern) → pattern.source ≡ Some s → IsTrue (fits_between sender message taker (Some pattern)) → s ≡ sender
sent_by sender taker s None pattern from fit = absurd (true≢false (sym fit))
sent_by sender taker s (Some message) pattern from fit =
    covered pattern.source s sender from (and_parts _ _ (and_parts _ _ fit).0).1

kind_has_one : (kind : Kind ℕ) (message : Message) → message_of kind ≡ Some message → pattern_of kind ≡ None
kind_has_one (Send mode blocking own) message some = refl
kind_has_one kind message some = absurd (none-some message some)

kind_looks : (kind : Kind ℕ) (pattern : Pattern) → pattern_of kind ≡ Some pattern → message_of kind ≡ None
kind_looks (Send mode blocking own) pattern some = absurd (none-some pattern some)
kind_looks kind pattern some = refl

-- what fits with a call of the program, by both calls
pub fit_parts : (p : MpiProgram) (c e rank : ℕ) (known : Call) → call_at p c ≡ Some known → IsTrue (fits_with p c e) → IsTrue (is_of_rank (call_at p e) rank)
    → (other : Call) × (other.rank ≡ rank) × (IsTrue (both_hold fits (Some known) (Some other)) ⊎ IsTrue (both_hold fits (Some other) (Some known)))
fit_parts p c e rank known there fit own =
    let other = own_rank (call_at p e) rank own in
    elim (or_cases _ _ fit) [
      | inl sends ↦ (other.0, other.2, inl (subst (λ (x : Option Call). IsTrue (both_hold fits x (Some other.0))) there (subst (λ (x : Option Call). IsTrue (both_hold fits (call_at p c) x)) other.1 (and_parts _ _ sends).0)))
      | inr takes ↦ (other.0, other.2, inr (subst (λ (x : Option Call). IsTrue (both_hold fits (Some other.0) x)) there (subst (λ (x : Option Call). IsTrue (both_hold fits x (call_at p c))) other.1 takes)))
    ]

pub send_names_peer : (p : MpiProgram) (c : ℕ) (known : Call) (message : Message) → call_at p c ≡ Some known → message_of known.kind ≡ Some message → IsOnlyPeer p c message.destination
send_names_peer p c known message there sends e rank fit own =
    let parts = fit_parts p c e rank known there fit own in
    elim parts.2 [
      | inl to ↦ sym (sent_to known.rank parts.0.rank message (pattern_of parts.0.kind) (subst (λ (x : Option Message). IsTrue (fits_between known.rank x parts.0.rank (pattern_of parts.0.kind))) sends to) ∙ parts.1)
      | inr by ↦ absurd (no_fit parts.0.rank known.rank (message_of parts.0.kind) (pattern_of known.kind) (kind_has_one known.kind message sends) by)
    ]

source_names_peer : (p : MpiProgram) (c s : ℕ) (known : Call) (pattern : Pattern) → call_at p c ≡ Some known → pattern_of known.kind ≡ Some pattern → pattern.source ≡ Some s → IsOnlyPeer p c s
source_names_peer p c s known pattern there looks from e rank fit own =
    let parts = fit_parts p c e rank known there fit own in
    elim parts.2 [
      | inl to ↦ absurd (no_send_fit known.rank parts.0.rank (message_of known.kind) (pattern_of parts.0.kind) (kind_looks known.kind pattern looks) to)
      | inr by ↦ sym (sent_by parts.0.rank known.rank s (message_of parts.0.kind) pattern from (subst (λ (x : Option Pattern). IsTrue (fits_between parts.0.rank (message_of parts.0.kind) known.rank x)) looks by) ∙ parts.1)
    ]

pub finder_names_peer : (p : MpiProgram) (c : ℕ) (known : Call) (pattern : Pattern) → call_at p c ≡ Some known → pattern_of known.kind ≡ Some pattern → IfSome pattern.source (IsOnlyPeer p c)
finder_names_peer p c known pattern there looks = by_source pattern.source refl
  where
    by_source : (source : Option ℕ) → pattern.source ≡ source → IfSome source (IsOnlyPeer p c)
    by_source None from = tt
    by_source (Some s) from = source_names_peer p c s known pattern there looks from

-- ---- the ranks that have such a call

pub if_ok : {X E : Type 0} (P Q : X → Type 0) (result : Result X E) → ((x : X) → P x → Q x) → IfOk result P → IfOk result Q
if_ok P Q (Ok x) so holds = so x holds
if_ok P Q (Err e) so holds = holds

pub own_call : (p : MpiProgram) (c : ℕ) (call : Call) → call_at p c ≡ Some call → IsTrue (is_of_rank (call_at p c) call.rank)
own_call p c call there = ap (λ (x : Option Call). is_of_rank x call.rank) there ∙ eq-eqb call.rank call.rank refl

pub own_other : (p : MpiProgram) (c : ℕ) (call : Call) (other : ℕ) → call_at p c ≡ Some call → IsTrue (is_of_rank (call_at p c) other) → other ≡ call.rank
own_other p c call other there own =
    let known = own_rank (call_at p c) other own in
    let same : call ≡ known.0 = same_Some call known.0 (sym there ∙ known.1) in
    sym known.2 ∙ ap (λ (x : Call). x.rank) (sym same)

-- a list of one rank, where it is wanted
pub one_rank : (peer : ℕ) (wanted : Bool) (P : ℕ → Type 0) (ranks : List ℕ) → ((other : ℕ) → Contains ranks other ↔ (IsTrue wanted × (other ≡ peer))) → (IsTrue wanted ↔ P peer) → ((other : ℕ) → P other → other ≡ peer) → (other : ℕ) → Contains ranks other ↔ P other
one_rank peer wanted P ranks has holds only other = (
  λ there. subst P (sym ((has other).0 there).1) (holds.0 ((has other).0 there).0),
  λ right.
      let same = only other right in
      (has other).1 (holds.1 (subst P same right), same),
)

-- ---- for whom a rank waits

pub waits_for_needed : (p : MpiProgram) (m : Configuration) (rank call o : ℕ) (ranks : List ℕ) → WaitsIn p m rank call → o ≡ operation_of_call p call → ((other : ℕ) → Contains ranks other ↔ IsNeededBy p m o other)
    → (other : ℕ) → Contains ranks other ↔ WaitsFor p m rank other
waits_for_needed p m rank call o ranks waits is needs other = (
  λ within. record { call = call; waits = waits; needed = subst (λ (x : ℕ). IsNeededBy p m x other) is ((needs other).0 within) },
  λ found.
      let same : operation_of_call p found.call ≡ o = ap (operation_of_call p) (one_call p m rank found.call call found.waits waits) ∙ sym is in
      (needs other).1 (subst (λ (x : ℕ). IsNeededBy p m x other) same found.needed),
)

pub waits_for_nobody : (p : MpiProgram) (m : Configuration) (rank : ℕ) (ranks : List ℕ) → ranks ≡ [] → ((call : ℕ) → WaitsIn p m rank call → ⊥) → (other : ℕ) → Contains ranks other ↔ WaitsFor p m rank other
waits_for_nobody p m rank ranks none free other =
    (λ within. absurd (omega (arith, (subst (λ (xs : List ℕ). Contains xs other) none within).1)), λ found. absurd (free found.call found.waits))

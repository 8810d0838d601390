-- Where no run of the other ways of a choice ends stuck, each run that does made it as it was made.
use Rattle.std.proofs.Common.{◌≡◌, ℕ, ◌⊎◌, inl, inr, Bool, true, false, not, IsTrue, List, [], ◌∷◌, Option, Some, None, is_some, length, refl, sym, ap, ◌∙◌, subst, arith}
use Rattle.std.specs.Prelude.{All}
use Rattle.std.specs.Option.{option_map}
use Rattle.std.proofs.lemmas.Option.{same_Some}
use Rattle.std.proofs.lemmas.List.Elements.{All-contains}
use Rattle.callorder.specs.declared.calls.Call.{Call}
use Rattle.callorder.specs.declared.calls.Message.{Message}
use Rattle.callorder.specs.Calls.{message_of, pattern_of, fits_between, both_hold, fits}
use Rattle.callorder.specs.ProgramRules.{IsProgram}
use Rattle.callorder.specs.Programs.{MpiProgram, call_at, are_fit}
use Rattle.semantics.specs.declared.state.Step.{Step}
use Rattle.semantics.specs.Machine.{IsStuckRun, opening, after_all, is_issued, is_buffered, is_matched, partner_of}
use Rattle.formula_from_run.proofs.Pairings.{received, take_all}
use Rattle.narrowing.specs.declared.taken.ChoiceTaken.{ChoiceTaken}
use Rattle.narrowing.specs.declared.taken.ChoiceTaken.TheVariants as taken
use Rattle.narrowing.specs.Ways.{way_to, way_to_call, AreOtherMessages, IsOtherMessage}
use Rattle.narrowing.specs.Laws.{NeverStuckSo, IsOpenSend, HasFound, TakenWhereNeverOtherwise}
use Rattle.narrowing.proofs.Messages.{stuck_run_so}
use Rattle.narrowing.proofs.Sends.{way_of, stuck_run_of_send}

-- a send that fits a call has a rank and a tag
way_of_fit : (x y : Option Call) → both_hold fits x y ≡ true → (s : ℕ) × (t : ℕ) × (way_to_call x ≡ Some (taken.Message s t))
way_of_fit None y fit = absurd (cc)
way_of_fit (Some x) None fit = absurd (cc)
way_of_fit (Some x) (Some y) fit = at (message_of x.kind) fit
  where
    at : (o : Option Message) → fits_between x.rank o y.rank (pattern_of y.kind) ≡ true → (s : ℕ) × (t : ℕ) × (option_map (λ (message : Message). taken.Message x.rank message.tag) o ≡ Some (taken.Message s t))
    at None h = absurd (cc)
    at (Some message) h = (x.rank, message.tag, refl)

-- a run that ends stuck, in which the call found no message but this one, has no place where such
-- runs are never stuck
excluded : (p : MpiProgram) (call : ℕ) (way : ChoiceTaken) (steps : List Step) (send : ℕ) → IsStuckRun p steps → NeverStuckSo p call way → are_fit p send call ≡ true → way_to p send ≡ Some way → ((x : ℕ) → partner_of (after_all (opening p) steps) call ≡ Some x → way_to p x ≡ Some way) → ⊥
excluded p call way steps send stuck never fit is so =
    let found = way_of_fit (call_at p send) (call_at p call) fit in
    let same : way ≡ taken.Message found.0 found.1 = same_Some way (taken.Message found.0 found.1) (sym is ∙ found.2) in
    let never' : NeverStuckSo p call (taken.Message found.0 found.1) = subst (NeverStuckSo p call) same never in
    never'.never steps (stuck_run_so p never'.narrowed call found.0 found.1 never'.is steps stuck (λ x e. so x e ∙ ap Some same))

-- what a call that a send fits has found in the end fits it
found_fits : (p : MpiProgram) (steps : List Step) (call send x : ℕ) → IsStuckRun p steps → are_fit p send call ≡ true → partner_of (after_all (opening p) steps) call ≡ Some x → are_fit p x call ≡ true
found_fits p steps call send x stuck fit e =
    let matched : is_matched (after_all (opening p) steps) call ≡ true = ap is_some e in
    let r = received p steps call send (length steps) stuck.run fit (subst (λ (l : List Step). is_matched (after_all (opening p) l) call ≡ true) (sym (take_all steps)) matched) in
    let same : r.send ≡ x = same_Some r.send x (sym r.pair.taker_kept ∙ e) in
    subst (λ (z : ℕ). are_fit p z call ≡ true) same r.pair.can.fit

message_found : (p : MpiProgram) (call : ℕ) (way : ChoiceTaken) (others : List ChoiceTaken) (steps : List Step) → AreOtherMessages p call way others → (others ≡ [] → ⊥) → All (λ other. NeverStuckSo p call other) others → IsStuckRun p steps → HasFound p (after_all (opening p) steps) call way
message_found p call way [] steps ways some never stuck = absurd (some refl)
message_found p call way (first ∷ rest) steps ways some never stuck = at (partner_of (after_all (opening p) steps) call) refl
  where
    other : IsOtherMessage p call way first
    other = ways.each 0 first (omega arith)

    at : (o : Option ℕ) → partner_of (after_all (opening p) steps) call ≡ o → HasFound p (after_all (opening p) steps) call way
    at None e = absurd (excluded p call first steps other.send stuck (never 0 first (omega arith)) other.fit other.is (λ x found. absurd (cc)))
    at (Some x) e =
        let fit = found_fits p steps call other.send x stuck other.fit e in
        let w = way_of_fit (call_at p x) (call_at p call) fit in
        elim (ways.all x (taken.Message w.0 w.1) fit w.2) [
          | inl same ↦ record { send = x; found = e; is = w.2 ∙ ap Some same }
          | inr among ↦
              absurd (excluded p call (taken.Message w.0 w.1) steps x stuck (All-contains (λ o. NeverStuckSo p call o) (first ∷ rest) (taken.Message w.0 w.1) never among) fit w.2 (λ y found. let same : x ≡ y = same_Some x y (sym e ∙ found) in subst (λ (z : ℕ). way_to p z ≡ Some (taken.Message w.0 w.1)) same w.2))
        ]

-- where no run of the other way of a send ends stuck, it is issued and taken so in each that does
send_so : (p : MpiProgram) (c : ℕ) (b : Bool) (steps : List Step) → IsProgram p → IsOpenSend p c → NeverStuckSo p c (way_of (not b)) → IsStuckRun p steps → IsTrue (is_issued p (after_all (opening p) steps) c) × (is_buffered (after_all (opening p) steps) c ≡ b)
send_so p c b steps program send never stuck = at (is_issued p (after_all (opening p) steps) c) (is_buffered (after_all (opening p) steps) c) refl refl
  where
    none : (is_issued p (after_all (opening p) steps) c ≡ true → is_buffered (after_all (opening p) steps) c ≡ not b) → ⊥
    none so = let found = stuck_run_of_send p never.narrowed c (not b) never.is program send steps stuck so in never.never found.0 found.1

    same_or_not : (x y : Bool) → (x ≡ y) ⊎ (x ≡ not y)
    same_or_not true true = inl refl
    same_or_not true false = inr refl
    same_or_not false true = inr refl
    same_or_not false false = inl refl

    at : (issued buffered : Bool) → is_issued p (after_all (opening p) steps) c ≡ issued → is_buffered (after_all (opening p) steps) c ≡ buffered → IsTrue (is_issued p (after_all (opening p) steps) c) × (is_buffered (after_all (opening p) steps) c ≡ b)
    at false buffered e f = absurd (none (λ issued. absurd (cc)))
    at true buffered e f =
        elim (same_or_not buffered b) [
          | inl same ↦ (e, f ∙ same)
          | inr other ↦ absurd (none (λ issued. f ∙ other))
        ]

pub taken_where_never_otherwise : TakenWhereNeverOtherwise
taken_where_never_otherwise p call taken.Buffered others steps program leaves ways some never stuck =
    send_so p call true steps program leaves (subst (λ (l : List ChoiceTaken). All (λ other. NeverStuckSo p call other) l) ways never 0 taken.NotBuffered (omega arith)) stuck
taken_where_never_otherwise p call taken.NotBuffered others steps program leaves ways some never stuck =
    send_so p call false steps program leaves (subst (λ (l : List ChoiceTaken). All (λ other. NeverStuckSo p call other) l) ways never 0 taken.Buffered (omega arith)) stuck
taken_where_never_otherwise p call (taken.Message s t) others steps program leaves ways some never stuck = message_found p call (taken.Message s t) others steps ways some never stuck

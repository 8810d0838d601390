-- A call that finds messages with a source and a tag in the place of stars: each run in which it
-- found such a message, or none, is one of the narrowed program.
use Rattle.std.proofs.Common.{◌≡◌, ℕ, zero, suc, ◌<◌, inl, inr, Bool, true, false, not, List, Option, Some, None, take, slice_get, refl, sym, ap, ◌∙◌, subst}
use Rattle.std.specs.Option.{option_map}
use Rattle.std.specs.Prelude.{◌&&◌, ◌||◌, ◌==◌, slice_index}
use Rattle.std.proofs.lemmas.Bool.{cases_eq, eq-eqb}
use Rattle.calltext.specs.declared.call.Policy.{Policy}
use Rattle.calltext.specs.declared.call.Mode.TheVariants.{Standard, Synchronous, Buffered}
use Rattle.calltext.proofs.Conjunctions.{and_true, and_both}
use Rattle.callorder.specs.declared.calls.Call.{Call}
use Rattle.callorder.specs.declared.calls.Kind.{Kind}
use Rattle.callorder.specs.declared.calls.Kind.TheVariants.{Send, Receive, MatchedProbe, Probe, MatchedReceive, Wait}
use Rattle.callorder.specs.declared.calls.Message.{Message}
use Rattle.callorder.specs.declared.calls.Pattern.{Pattern}
use Rattle.callorder.specs.Calls.{message_of, pattern_of, is_probe_kind, covers, fits_between, both_hold, holds_of, fits}
use Rattle.callorder.specs.Programs.{MpiProgram, call_at, is_of_rank, are_fit, is_probe, takes, kind_holds}
use Rattle.semantics.specs.declared.state.Step.{Step}
use Rattle.semantics.specs.declared.state.Step.TheVariants.{Issue, Match, See}
use Rattle.semantics.specs.Machine.{Configuration, CanFind, IsEnabled, IsRun, IsStuck, IsStuckRun, opening, after_all, is_issued, is_buffered, partner_of, fetches, fetches_partner, is_fetched, is_done, is_done_kind, is_returned, is_returned_kind, has_returned_before, may_be, can_issue, can_issue_next, can_issue_call, has_next, is_rank_finished}
use Rattle.semantics.proofs.Runs.{IsRun-at}
use Rattle.run_laws.specs.Laws.{IsOpenPair}
use Rattle.run_laws.proofs.Descent.{some_match_or_see_is_enabled}
use Rattle.formula_from_run.proofs.Pairings.{finding}
use Rattle.narrowing.specs.declared.taken.ChoiceTaken.TheVariants as taken
use Rattle.narrowing.specs.Narrowed.{without_star, named_pattern, narrowed_kind, narrowed_call, IsNarrowed}
use Rattle.narrowing.specs.Ways.{way_to, way_to_call}
use Rattle.narrowing.proofs.Alike.{same_call, same_issued, same_of_rank, same_one_rank, same_opening, same_has_next, run_from_each}

-- ---- kinds

probe_kept : (s t : ℕ) (k : Kind ℕ) → is_probe_kind (narrowed_kind (taken.Message s t) k) ≡ is_probe_kind k
probe_kept s t (Wait operation) = refl
probe_kept s t kind = refl

message_kept : (s t : ℕ) (k : Kind ℕ) → message_of (narrowed_kind (taken.Message s t) k) ≡ message_of k
message_kept s t (Wait operation) = refl
message_kept s t kind = refl

may_be_kept : (s t : ℕ) (policy : Policy) (k : Kind ℕ) (b : Bool) → may_be policy (narrowed_kind (taken.Message s t) k) b ≡ may_be policy k b
may_be_kept s t policy (Wait operation) b = refl
may_be_kept s t policy kind b = refl

-- ---- what fits

covered : (wanted : Option ℕ) (number x : ℕ) → covers (without_star wanted number) x ≡ true → covers wanted x ≡ true
covered None number x h = refl
covered (Some wanted) number x h = h

covered_now : (wanted : Option ℕ) (number x : ℕ) → number ≡ x → covers wanted x ≡ true → covers (without_star wanted number) x ≡ true
covered_now None number x e h = eq-eqb number x e
covered_now (Some wanted) number x e h = h

fits_less : (r q s t : ℕ) (message : Message) (pattern : Pattern) → fits_between r (Some message) q (Some (named_pattern s t pattern)) ≡ true → fits_between r (Some message) q (Some pattern) ≡ true
fits_less r q s t message pattern h =
    let d = and_true _ _ h in
    let c = and_true _ _ d.0 in
    and_both _ _ (and_both _ _ c.0 (covered pattern.source s r c.1)) (covered pattern.tag t message.tag d.1)

fits_so : (r q s t : ℕ) (message : Message) (pattern : Pattern) → s ≡ r → t ≡ message.tag → fits_between r (Some message) q (Some pattern) ≡ true → fits_between r (Some message) q (Some (named_pattern s t pattern)) ≡ true
fits_so r q s t message pattern rank tag h =
    let d = and_true _ _ h in
    let c = and_true _ _ d.0 in
    and_both _ _ (and_both _ _ c.0 (covered_now pattern.source s r rank c.1)) (covered_now pattern.tag t message.tag tag d.1)

-- what fits the narrowed call fits the call
between : (r q s t : ℕ) (message : Option Message) (k : Kind ℕ) → fits_between r message q (pattern_of (narrowed_kind (taken.Message s t) k)) ≡ true → fits_between r message q (pattern_of k) ≡ true
between r q s t None k h = h
between r q s t (Some message) (Receive blocking pattern) h = fits_less r q s t message pattern h
between r q s t (Some message) (MatchedProbe pattern receive) h = fits_less r q s t message pattern h
between r q s t (Some message) (Probe pattern) h = fits_less r q s t message pattern h
between r q s t (Some message) kind h = h

-- a message of this rank with this tag that fits the call fits the narrowed one
between_so : (r q s t : ℕ) (message : Option Message) (k : Kind ℕ) → option_map (λ (x : Message). taken.Message r x.tag) message ≡ Some (taken.Message s t) → fits_between r message q (pattern_of k) ≡ true → fits_between r message q (pattern_of (narrowed_kind (taken.Message s t) k)) ≡ true
between_so r q s t None k way h = absurd (cc)
between_so r q s t (Some message) (Receive blocking pattern) way h = fits_so r q s t message pattern (cc) (cc) h
between_so r q s t (Some message) (MatchedProbe pattern receive) way h = fits_so r q s t message pattern (cc) (cc) h
between_so r q s t (Some message) (Probe pattern) way h = fits_so r q s t message pattern (cc) (cc) h
between_so r q s t (Some message) kind way h = h

send_kept : (s t : ℕ) (y : Option Call) (call : Call) → both_hold fits (Some (narrowed_call (taken.Message s t) call)) y ≡ both_hold fits (Some call) y
send_kept s t None call = refl
send_kept s t (Some y) call = ap (λ (o : Option Message). fits_between call.rank o y.rank (pattern_of y.kind)) (message_kept s t call.kind)

finder_less : (s t : ℕ) (x y : Option Call) → both_hold fits x (option_map (narrowed_call (taken.Message s t)) y) ≡ true → both_hold fits x y ≡ true
finder_less s t None y h = h
finder_less s t (Some x) None h = h
finder_less s t (Some x) (Some y) h = between x.rank y.rank s t (message_of x.kind) y.kind h

finder_so : (s t : ℕ) (x y : Option Call) → way_to_call x ≡ Some (taken.Message s t) → both_hold fits x y ≡ true → both_hold fits x (option_map (narrowed_call (taken.Message s t)) y) ≡ true
finder_so s t None y way h = h
finder_so s t (Some x) None way h = h
finder_so s t (Some x) (Some y) way h = between_so x.rank y.rank s t (message_of x.kind) y.kind way h

-- ---- both programs

-- the second program is the first one, but that the call finds no message but those of this rank
-- with this tag
record Both (p q : MpiProgram) (c s t : ℕ) : Type 0 where
  narrowed : IsNarrowed p c (taken.Message s t) q

sender_same : (p q : MpiProgram) (c s t : ℕ) → Both p q c s t → (x f : ℕ) → are_fit q x f ≡ both_hold fits (call_at p x) (call_at q f)
sender_same p q c s t n x f = same_call Bool (λ o. both_hold fits o (call_at q f)) p q c (taken.Message s t) n.narrowed (send_kept s t (call_at q f)) x

fit_elsewhere : (p q : MpiProgram) (c s t : ℕ) → Both p q c s t → (x f : ℕ) → (f ≡ c → ⊥) → are_fit q x f ≡ are_fit p x f
fit_elsewhere p q c s t n x f differ = sender_same p q c s t n x f ∙ ap (both_hold fits (call_at p x)) (n.narrowed.elsewhere f differ)

fit_here : (p q : MpiProgram) (c s t : ℕ) → Both p q c s t → (x : ℕ) → are_fit q x c ≡ both_hold fits (call_at p x) (option_map (narrowed_call (taken.Message s t)) (call_at p c))
fit_here p q c s t n x = sender_same p q c s t n x c ∙ ap (both_hold fits (call_at p x)) n.narrowed.there

fit_within : (p q : MpiProgram) (c s t : ℕ) → Both p q c s t → (x f : ℕ) → are_fit q x f ≡ true → are_fit p x f ≡ true
fit_within p q c s t n x f h =
    elim (cases_eq f c) [
      | inl e ↦
          let here : are_fit q x c ≡ true = subst (λ (z : ℕ). are_fit q x z ≡ true) e h in
          subst (λ (z : ℕ). are_fit p x z ≡ true) (sym e) (finder_less s t (call_at p x) (call_at p c) (sym (fit_here p q c s t n x) ∙ here))
      | inr differ ↦ sym (fit_elsewhere p q c s t n x f differ) ∙ h
    ]

fit_so : (p q : MpiProgram) (c s t : ℕ) → Both p q c s t → (x : ℕ) → way_to p x ≡ Some (taken.Message s t) → are_fit p x c ≡ true → are_fit q x c ≡ true
fit_so p q c s t n x way h = fit_here p q c s t n x ∙ finder_so s t (call_at p x) (call_at p c) way h

same_probe : (p q : MpiProgram) (c s t : ℕ) → Both p q c s t → (f : ℕ) → is_probe q f ≡ is_probe p f
same_probe p q c s t n f = same_call Bool (kind_holds is_probe_kind) p q c (taken.Message s t) n.narrowed (λ call. probe_kept s t call.kind) f

takes_within : (p q : MpiProgram) (c s t : ℕ) → Both p q c s t → (x f : ℕ) → takes q x f ≡ true → takes p x f ≡ true
takes_within p q c s t n x f h =
    let parts = and_true (are_fit q x f) (not (is_probe q f)) h in
    and_both (are_fit p x f) (not (is_probe p f)) (fit_within p q c s t n x f parts.0) (ap not (sym (same_probe p q c s t n f)) ∙ parts.1)

same_is_issued : (p q : MpiProgram) (c s t : ℕ) → Both p q c s t → (m : Configuration) (d : ℕ) → is_issued q m d ≡ is_issued p m d
same_is_issued p q c s t n m d = same_issued p q c (taken.Message s t) n.narrowed m d

-- ---- when calls return

fetches_same : (p q : MpiProgram) (c s t : ℕ) → Both p q c s t → (m : Configuration) (x : Option Call) → kind_holds (fetches q m) x ≡ kind_holds (fetches p m) x
fetches_same p q c s t n m None = refl
fetches_same p q c s t n m (Some call) = at call.kind
  where
    at : (k : Kind ℕ) → fetches q m k ≡ fetches p m k
    at (MatchedProbe pattern receive) = same_is_issued p q c s t n m receive
    at kind = refl

fetches_kept : (s t : ℕ) (p : MpiProgram) (m : Configuration) (k : Kind ℕ) → fetches p m (narrowed_kind (taken.Message s t) k) ≡ fetches p m k
fetches_kept s t p m (Wait operation) = refl
fetches_kept s t p m kind = refl

same_fetched : (p q : MpiProgram) (c s t : ℕ) → Both p q c s t → (m : Configuration) (d : ℕ) → is_fetched q m d ≡ is_fetched p m d
same_fetched p q c s t n m d = at (partner_of m d)
  where
    at : (o : Option ℕ) → holds_of (fetches_partner q m) o ≡ holds_of (fetches_partner p m) o
    at None = refl
    at (Some u) = fetches_same p q c s t n m (call_at q u) ∙ same_call Bool (kind_holds (fetches p m)) p q c (taken.Message s t) n.narrowed (λ call. fetches_kept s t p m call.kind) u

done_same : (p q : MpiProgram) (c s t : ℕ) → Both p q c s t → (m : Configuration) (d : ℕ) (k : Kind ℕ) → is_done_kind q m d k ≡ is_done_kind p m d k
done_same p q c s t n m d (Send Standard blocking message) = ap (λ (b : Bool). is_buffered m d || b) (same_fetched p q c s t n m d)
done_same p q c s t n m d (Send Synchronous blocking message) = same_fetched p q c s t n m d
done_same p q c s t n m d (Send Buffered blocking message) = refl
done_same p q c s t n m d (Receive blocking pattern) = refl
done_same p q c s t n m d (MatchedProbe pattern receive) = refl
done_same p q c s t n m d (Probe pattern) = refl
done_same p q c s t n m d (MatchedReceive blocking) = refl
done_same p q c s t n m d (Wait operation) = refl

done_kept : (s t : ℕ) (p : MpiProgram) (m : Configuration) (d : ℕ) (k : Kind ℕ) → is_done_kind p m d (narrowed_kind (taken.Message s t) k) ≡ is_done_kind p m d k
done_kept s t p m d (Wait operation) = refl
done_kept s t p m d kind = refl

same_done : (p q : MpiProgram) (c s t : ℕ) → Both p q c s t → (m : Configuration) (d : ℕ) → is_done q m d ≡ is_done p m d
same_done p q c s t n m d = at (call_at q d) ∙ same_call Bool (kind_holds (is_done_kind p m d)) p q c (taken.Message s t) n.narrowed (λ call. done_kept s t p m d call.kind) d
  where
    at : (x : Option Call) → kind_holds (is_done_kind q m d) x ≡ kind_holds (is_done_kind p m d) x
    at None = refl
    at (Some call) = done_same p q c s t n m d call.kind

returned_same : (p q : MpiProgram) (c s t : ℕ) → Both p q c s t → (m : Configuration) (d : ℕ) (k : Kind ℕ) → is_returned_kind q m d k ≡ is_returned_kind p m d k
returned_same p q c s t n m d (Send mode blocking message) = ap (λ (b : Bool). not blocking || b) (same_done p q c s t n m d)
returned_same p q c s t n m d (Receive blocking pattern) = ap (λ (b : Bool). not blocking || b) (same_done p q c s t n m d)
returned_same p q c s t n m d (MatchedProbe pattern receive) = same_done p q c s t n m d
returned_same p q c s t n m d (Probe pattern) = same_done p q c s t n m d
returned_same p q c s t n m d (MatchedReceive blocking) = refl
returned_same p q c s t n m d (Wait operation) = same_done p q c s t n m operation

returned_kept : (s t : ℕ) (p : MpiProgram) (m : Configuration) (d : ℕ) (k : Kind ℕ) → is_returned_kind p m d (narrowed_kind (taken.Message s t) k) ≡ is_returned_kind p m d k
returned_kept s t p m d (Wait operation) = refl
returned_kept s t p m d kind = refl

same_returned : (p q : MpiProgram) (c s t : ℕ) → Both p q c s t → (m : Configuration) (d : ℕ) → is_returned q m d ≡ is_returned p m d
same_returned p q c s t n m d = at (call_at q d) ∙ same_call Bool (kind_holds (is_returned_kind p m d)) p q c (taken.Message s t) n.narrowed (λ call. returned_kept s t p m d call.kind) d
  where
    at : (x : Option Call) → kind_holds (is_returned_kind q m d) x ≡ kind_holds (is_returned_kind p m d) x
    at None = refl
    at (Some call) = returned_same p q c s t n m d call.kind

same_before : (p q : MpiProgram) (c s t : ℕ) → Both p q c s t → (m : Configuration) (rank d : ℕ) → has_returned_before q m rank d ≡ has_returned_before p m rank d
same_before p q c s t n m rank zero = refl
same_before p q c s t n m rank (suc d) =
    ap (λ (b : Bool). not b || is_returned q m d) (same_of_rank p q c (taken.Message s t) n.narrowed d rank)
    ∙ ap (λ (b : Bool). not (is_of_rank (call_at p d) rank) || b) (same_returned p q c s t n m d)

-- ---- what can be issued and found

same_issue : (p q : MpiProgram) (c s t : ℕ) → Both p q c s t → (m : Configuration) (rank : ℕ) (b : Bool) → can_issue q m rank b ≡ can_issue p m rank b
same_issue p q c s t n m rank b = next (slice_get m.next rank)
  where
    call_same : (d : ℕ) (x : Option Call) → holds_of (can_issue_call q m rank b d) x ≡ holds_of (can_issue_call p m rank b d) x
    call_same d None = refl
    call_same d (Some call) =
        ap (λ (y : Bool). ((call.rank == rank) && y) && may_be q.policy call.kind b) (same_before p q c s t n m rank d)
        ∙ ap (λ (policy : Policy). ((call.rank == rank) && has_returned_before p m rank d) && may_be policy call.kind b) n.narrowed.policy

    next : (o : Option ℕ) → holds_of (can_issue_next q m rank b) o ≡ holds_of (can_issue_next p m rank b) o
    next None = refl
    next (Some d) =
        call_same d (call_at q d)
        ∙ same_call Bool (holds_of (can_issue_call p m rank b d)) p q c (taken.Message s t) n.narrowed (λ call. ap (λ (y : Bool). ((call.rank == rank) && has_returned_before p m rank d) && y) (may_be_kept s t p.policy call.kind b)) d

find_kept : (p q : MpiProgram) (c s t : ℕ) → Both p q c s t → (m : Configuration) (x f : ℕ) → (f ≡ c → way_to p x ≡ Some (taken.Message s t)) → CanFind p m x f → CanFind q m x f
find_kept p q c s t n m x f so can =
    record {
      send_issued = same_is_issued p q c s t n m x ∙ can.send_issued;
      finder_issued = same_is_issued p q c s t n m f ∙ can.finder_issued;
      send_open = can.send_open;
      finder_open = can.finder_open;
      fit = elim (cases_eq f c) [
        | inl e ↦ subst (λ (z : ℕ). are_fit q x z ≡ true) (sym e) (fit_so p q c s t n x (so e) (subst (λ (z : ℕ). are_fit p x z ≡ true) e can.fit))
        | inr differ ↦ fit_elsewhere p q c s t n x f differ ∙ can.fit
      ];
      sends = λ e below one fit. can.sends e below (sym (same_one_rank p q c (taken.Message s t) n.narrowed e x) ∙ one) (fit_within p q c s t n e f fit);
      takers = λ e below one takes. can.takers e below (sym (same_one_rank p q c (taken.Message s t) n.narrowed e f) ∙ one) (takes_within p q c s t n x e takes);
    }

open_pair : (p q : MpiProgram) (c s t : ℕ) → Both p q c s t → (m : Configuration) (x f : ℕ) → CanFind q m x f → IsOpenPair p m x f
open_pair p q c s t n m x f can =
    record {
      send_issued = sym (same_is_issued p q c s t n m x) ∙ can.send_issued;
      finder_issued = sym (same_is_issued p q c s t n m f) ∙ can.finder_issued;
      send_open = can.send_open;
      finder_open = can.finder_open;
      fit = fit_within p q c s t n x f can.fit;
    }

-- ---- runs

same_finished : (p q : MpiProgram) (c s t : ℕ) → Both p q c s t → (m : Configuration) (rank : ℕ) → is_rank_finished q m rank ≡ is_rank_finished p m rank
same_finished p q c s t n m rank =
    ap (λ (b : Bool). not b && has_returned_before q m rank (slice_index m.next rank)) (same_has_next p q c (taken.Message s t) n.narrowed m rank)
    ∙ ap (λ (b : Bool). not (has_next p m rank) && b) (same_before p q c s t n m rank (slice_index m.next rank))

stuck_kept : (p q : MpiProgram) (c s t : ℕ) → Both p q c s t → (m : Configuration) → IsStuck p m → IsStuck q m
stuck_kept p q c s t n m stuck =
    record {
      rank = stuck.rank;
      in_range = subst (λ (k : ℕ). stuck.rank < k) (sym n.narrowed.ranks) stuck.in_range;
      unfinished = same_finished p q c s t n m stuck.rank ∙ stuck.unfinished;
      none_enabled = none;
    }
  where
    found : (x f : ℕ) → CanFind q m x f → ⊥
    found x f can = let some = some_match_or_see_is_enabled p m x f (open_pair p q c s t n m x f can) in stuck.none_enabled _ some.enabled

    none : (step : Step) → IsEnabled q m step → ⊥
    none (Issue rank b) can = stuck.none_enabled (Issue rank b) (sym (same_issue p q c s t n m rank b) ∙ can)
    none (Match x f) can = found x f can.1
    none (See x f) can = found x f can.1

-- what the call found in the end, if anything, is a message of this rank with this tag
abbrev FoundSo : MpiProgram → List Step → ℕ → ℕ → ℕ → Type 0
FoundSo p steps c s t = (x : ℕ) → partner_of (after_all (opening p) steps) c ≡ Some x → way_to p x ≡ Some (taken.Message s t)

run_kept : (p q : MpiProgram) (c s t : ℕ) → Both p q c s t → (steps : List Step) → IsRun p (opening p) steps → FoundSo p steps c s t → IsRun q (opening p) steps
run_kept p q c s t n steps run so = run_from_each q (opening p) steps (λ i x there. kept i x there (IsRun-at p (opening p) steps i x run there))
  where
    kept : (i : ℕ) (x : Step) → slice_get steps i ≡ Some x → IsEnabled p (after_all (opening p) (take i steps)) x → IsEnabled q (after_all (opening p) (take i steps)) x
    kept i (Issue rank b) there can = same_issue p q c s t n (after_all (opening p) (take i steps)) rank b ∙ can
    kept i (Match x f) there can =
        (ap not (same_probe p q c s t n f) ∙ can.0, find_kept p q c s t n (after_all (opening p) (take i steps)) x f (λ e. so x (subst (λ (z : ℕ). partner_of (after_all (opening p) steps) z ≡ Some x) e (finding p steps x f i false run there).taker_kept)) can.1)
    kept i (See x f) there can =
        (same_probe p q c s t n f ∙ can.0, find_kept p q c s t n (after_all (opening p) (take i steps)) x f (λ e. so x (subst (λ (z : ℕ). partner_of (after_all (opening p) steps) z ≡ Some x) e (finding p steps x f i true run there).taker_kept)) can.1)

-- a run that ends stuck, in which the call found no message but such a one, is one of the narrowed
-- program
pub stuck_run_so : (p q : MpiProgram) (c s t : ℕ) → IsNarrowed p c (taken.Message s t) q → (steps : List Step) → IsStuckRun p steps → ((x : ℕ) → partner_of (after_all (opening p) steps) c ≡ Some x → way_to p x ≡ Some (taken.Message s t)) → IsStuckRun q steps
stuck_run_so p q c s t narrowed steps stuck so =
    let n : Both p q c s t = record { narrowed = narrowed } in
    let same = same_opening p q c (taken.Message s t) narrowed in
    record {
      run = subst (λ (m : Configuration). IsRun q m steps) (sym same) (run_kept p q c s t n steps stuck.run so);
      stuck = subst (λ (m : Configuration). IsStuck q (after_all m steps)) (sym same) (stuck_kept p q c s t n (after_all (opening p) steps) stuck.stuck);
    }

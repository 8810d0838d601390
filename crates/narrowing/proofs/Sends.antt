-- A standard send in buffered mode, or synchronous: each run in which it was buffered, or not, or
-- wasn't issued, is one of the narrowed program, but that the step that issues it buffers nothing
-- by choice.
use Rattle.std.proofs.Common.{◌≡◌, ℕ, zero, suc, ◌+◌, ◌<◌, ◌≤◌, inl, inr, Bool, true, false, not, List, [], ◌∷◌, Option, Some, None, is_some, length, get_or, slice_get, refl, sym, ap, ◌∙◌, subst, arith, length-set, get_or-set_same, get_or-set_other}
use Rattle.std.specs.Option.{option_map, unwrap_or}
use Rattle.std.specs.Prelude.{◌&&◌, ◌||◌, ◌==◌, nat_lt, slice_index, slice_set}
use Rattle.std.proofs.lemmas.Bool.{cases_eq, cases_lt, eqb-true}
use Rattle.std.proofs.lemmas.Bool.Decides.{nat_tests}
use Rattle.std.proofs.lemmas.List.{set_past}
use Rattle.std.proofs.lemmas.Option.{same_Some, get_or_from_slice_get, unwrap_or-slice_get}
use Rattle.calltext.specs.declared.call.Policy.{Policy}
use Rattle.calltext.specs.declared.call.Mode.TheVariants.{Standard, Synchronous, Buffered}
use Rattle.calltext.proofs.Conjunctions.{and_true, and_both}
use Rattle.callorder.specs.declared.calls.Call.{Call}
use Rattle.callorder.specs.declared.calls.Kind.{Kind}
use Rattle.callorder.specs.declared.calls.Kind.TheVariants.{Send, Receive, MatchedProbe, Probe, MatchedReceive, Wait}
use Rattle.callorder.specs.declared.calls.Message.{Message}
use Rattle.callorder.specs.Calls.{message_of, pattern_of, operation_of, is_probe_kind, fits_between, both_hold, holds_of, fits}
use Rattle.callorder.specs.ProgramRules.{IsProgram}
use Rattle.callorder.specs.Programs.{MpiProgram, call_at, is_of_rank, are_fit, is_probe, takes, kind_holds}
use Rattle.semantics.specs.declared.state.Step.{Step}
use Rattle.semantics.specs.declared.state.Step.TheVariants.{Issue, Match, See}
use Rattle.semantics.specs.Machine.{Configuration, CanFind, IsEnabled, IsRun, IsStuck, IsStuckRun, opening, after, after_all, is_issued, is_issued_call, is_matched, is_buffered, partner_of, fetches, fetches_partner, is_fetched, is_done, is_done_kind, is_returned, is_returned_kind, has_returned_before, may_be, can_issue, can_issue_next, can_issue_call, is_rank_finished}
use Rattle.semantics.proofs.Lengths.{issued_grows, issues, Issues}
use Rattle.narrowing.specs.declared.taken.ChoiceTaken.{ChoiceTaken}
use Rattle.narrowing.specs.declared.taken.ChoiceTaken.TheVariants as taken
use Rattle.narrowing.specs.Narrowed.{narrowed_kind, narrowed_call, IsNarrowed}
use Rattle.narrowing.specs.Laws.{IsOpenSend}
use Rattle.narrowing.proofs.Alike.{same_call, same_issued, same_of_rank, same_one_rank, same_opening}

-- ---- kinds

-- the way of a send that was buffered, or not
abbrev pub way_of : Bool → ChoiceTaken
way_of true = taken.Buffered
way_of false = taken.NotBuffered

probe_kept : (b : Bool) (k : Kind ℕ) → is_probe_kind (narrowed_kind (way_of b) k) ≡ is_probe_kind k
probe_kept true (Send Standard blocking message) = refl
probe_kept true (Send Synchronous blocking message) = refl
probe_kept true (Send Buffered blocking message) = refl
probe_kept true (Receive blocking pattern) = refl
probe_kept true (MatchedProbe pattern receive) = refl
probe_kept true (Probe pattern) = refl
probe_kept true (MatchedReceive blocking) = refl
probe_kept true (Wait operation) = refl
probe_kept false (Send Standard blocking message) = refl
probe_kept false (Send Synchronous blocking message) = refl
probe_kept false (Send Buffered blocking message) = refl
probe_kept false (Receive blocking pattern) = refl
probe_kept false (MatchedProbe pattern receive) = refl
probe_kept false (Probe pattern) = refl
probe_kept false (MatchedReceive blocking) = refl
probe_kept false (Wait operation) = refl

message_kept : (b : Bool) (k : Kind ℕ) → message_of (narrowed_kind (way_of b) k) ≡ message_of k
message_kept true (Send Standard blocking message) = refl
message_kept true (Send Synchronous blocking message) = refl
message_kept true (Send Buffered blocking message) = refl
message_kept true (Receive blocking pattern) = refl
message_kept true (MatchedProbe pattern receive) = refl
message_kept true (Probe pattern) = refl
message_kept true (MatchedReceive blocking) = refl
message_kept true (Wait operation) = refl
message_kept false (Send Standard blocking message) = refl
message_kept false (Send Synchronous blocking message) = refl
message_kept false (Send Buffered blocking message) = refl
message_kept false (Receive blocking pattern) = refl
message_kept false (MatchedProbe pattern receive) = refl
message_kept false (Probe pattern) = refl
message_kept false (MatchedReceive blocking) = refl
message_kept false (Wait operation) = refl

pattern_kept : (b : Bool) (k : Kind ℕ) → pattern_of (narrowed_kind (way_of b) k) ≡ pattern_of k
pattern_kept true (Send Standard blocking message) = refl
pattern_kept true (Send Synchronous blocking message) = refl
pattern_kept true (Send Buffered blocking message) = refl
pattern_kept true (Receive blocking pattern) = refl
pattern_kept true (MatchedProbe pattern receive) = refl
pattern_kept true (Probe pattern) = refl
pattern_kept true (MatchedReceive blocking) = refl
pattern_kept true (Wait operation) = refl
pattern_kept false (Send Standard blocking message) = refl
pattern_kept false (Send Synchronous blocking message) = refl
pattern_kept false (Send Buffered blocking message) = refl
pattern_kept false (Receive blocking pattern) = refl
pattern_kept false (MatchedProbe pattern receive) = refl
pattern_kept false (Probe pattern) = refl
pattern_kept false (MatchedReceive blocking) = refl
pattern_kept false (Wait operation) = refl

fetches_kept : (b : Bool) (p : MpiProgram) (m : Configuration) (k : Kind ℕ) → fetches p m (narrowed_kind (way_of b) k) ≡ fetches p m k
fetches_kept true p m (Send Standard blocking message) = refl
fetches_kept true p m (Send Synchronous blocking message) = refl
fetches_kept true p m (Send Buffered blocking message) = refl
fetches_kept true p m (Receive blocking pattern) = refl
fetches_kept true p m (MatchedProbe pattern receive) = refl
fetches_kept true p m (Probe pattern) = refl
fetches_kept true p m (MatchedReceive blocking) = refl
fetches_kept true p m (Wait operation) = refl
fetches_kept false p m (Send Standard blocking message) = refl
fetches_kept false p m (Send Synchronous blocking message) = refl
fetches_kept false p m (Send Buffered blocking message) = refl
fetches_kept false p m (Receive blocking pattern) = refl
fetches_kept false p m (MatchedProbe pattern receive) = refl
fetches_kept false p m (Probe pattern) = refl
fetches_kept false p m (MatchedReceive blocking) = refl
fetches_kept false p m (Wait operation) = refl

-- ---- both programs

-- The second program is the first one, but that this standard send, which the policy leaves open,
-- is in buffered mode, or synchronous.
record Both (p q : MpiProgram) (c : ℕ) (b : Bool) : Type 0 where
  narrowed : IsNarrowed p c (way_of b) q
  program : IsProgram p
  send : IsOpenSend p c

abbrev send_of : (p : MpiProgram) (c : ℕ) → IsOpenSend p c → Call
send_of p c send = record { rank = send.rank; kind = Send Standard send.blocking send.message }

narrowed_there : (p q : MpiProgram) (c : ℕ) (b : Bool) (n : Both p q c b) → call_at q c ≡ Some (narrowed_call (way_of b) (send_of p c n.send))
narrowed_there p q c b n = n.narrowed.there ∙ ap (option_map (narrowed_call (way_of b))) n.send.there

fit_send : (b : Bool) (y : Option Call) (call : Call) → both_hold fits (Some (narrowed_call (way_of b) call)) y ≡ both_hold fits (Some call) y
fit_send b None call = refl
fit_send b (Some y) call = ap (λ (o : Option Message). fits_between call.rank o y.rank (pattern_of y.kind)) (message_kept b call.kind)

fit_finder : (b : Bool) (x : Option Call) (call : Call) → both_hold fits x (Some (narrowed_call (way_of b) call)) ≡ both_hold fits x (Some call)
fit_finder b None call = refl
fit_finder b (Some x) call = ap (fits_between x.rank (message_of x.kind) call.rank) (pattern_kept b call.kind)

same_fit : (p q : MpiProgram) (c : ℕ) (b : Bool) → Both p q c b → (x f : ℕ) → are_fit q x f ≡ are_fit p x f
same_fit p q c b n x f =
    same_call Bool (λ o. both_hold fits o (call_at q f)) p q c (way_of b) n.narrowed (fit_send b (call_at q f)) x
    ∙ same_call Bool (both_hold fits (call_at p x)) p q c (way_of b) n.narrowed (fit_finder b (call_at p x)) f

same_probe : (p q : MpiProgram) (c : ℕ) (b : Bool) → Both p q c b → (f : ℕ) → is_probe q f ≡ is_probe p f
same_probe p q c b n f = same_call Bool (kind_holds is_probe_kind) p q c (way_of b) n.narrowed (λ call. probe_kept b call.kind) f

same_takes : (p q : MpiProgram) (c : ℕ) (b : Bool) → Both p q c b → (x f : ℕ) → takes q x f ≡ takes p x f
same_takes p q c b n x f =
    ap (λ (z : Bool). z && not (is_probe q f)) (same_fit p q c b n x f) ∙ ap (λ (z : Bool). are_fit p x f && not z) (same_probe p q c b n f)

-- ---- both configurations

-- the same but for what is said of the buffer of this call
record IsLike (c : ℕ) (m k : Configuration) : Type 0 where
  next : k.next ≡ m.next
  partner : k.partner ≡ m.partner
  count : length k.buffered ≡ length m.buffered
  buffered : (d : ℕ) → (d ≡ c → ⊥) → is_buffered k d ≡ is_buffered m d

-- where the call is issued, it is buffered, or not
abbrev IsSo : MpiProgram → ℕ → Bool → Configuration → Type 0
IsSo p c b m = is_issued p m c ≡ true → is_buffered m c ≡ b

like_issued : (p q : MpiProgram) (c : ℕ) (b : Bool) → Both p q c b → (m k : Configuration) → IsLike c m k → (d : ℕ) → is_issued q k d ≡ is_issued p m d
like_issued p q c b n m k like d = same_issued p q c (way_of b) n.narrowed k d ∙ at (call_at p d)
  where
    at : (x : Option Call) → holds_of (is_issued_call k d) x ≡ holds_of (is_issued_call m d) x
    at None = refl
    at (Some call) = ap (λ (l : List ℕ). nat_lt d (slice_index l call.rank)) like.next

like_partner : (c : ℕ) (m k : Configuration) → IsLike c m k → (d : ℕ) → partner_of k d ≡ partner_of m d
like_partner c m k like d = ap (λ (l : List (Option ℕ)). unwrap_or (slice_get l d) None) like.partner

like_matched : (c : ℕ) (m k : Configuration) → IsLike c m k → (d : ℕ) → is_matched k d ≡ is_matched m d
like_matched c m k like d = ap is_some (like_partner c m k like d)

-- ---- when calls return

like_fetches : (p q : MpiProgram) (c : ℕ) (b : Bool) → Both p q c b → (m k : Configuration) → IsLike c m k → (x : Option Call) → kind_holds (fetches q k) x ≡ kind_holds (fetches p m) x
like_fetches p q c b n m k like None = refl
like_fetches p q c b n m k like (Some call) = at call.kind
  where
    at : (kind : Kind ℕ) → fetches q k kind ≡ fetches p m kind
    at (MatchedProbe pattern receive) = like_issued p q c b n m k like receive
    at kind = refl

like_fetched : (p q : MpiProgram) (c : ℕ) (b : Bool) → Both p q c b → (m k : Configuration) → IsLike c m k → (d : ℕ) → is_fetched q k d ≡ is_fetched p m d
like_fetched p q c b n m k like d = ap (holds_of (fetches_partner q k)) (like_partner c m k like d) ∙ at (partner_of m d)
  where
    at : (o : Option ℕ) → holds_of (fetches_partner q k) o ≡ holds_of (fetches_partner p m) o
    at None = refl
    at (Some u) = like_fetches p q c b n m k like (call_at q u) ∙ same_call Bool (kind_holds (fetches p m)) p q c (way_of b) n.narrowed (λ call. fetches_kept b p m call.kind) u

-- the send itself
done_here : (p q : MpiProgram) (c : ℕ) (b : Bool) → Both p q c b → (m k : Configuration) → IsLike c m k → is_buffered m c ≡ b → is_done q k c ≡ is_done p m c
done_here p q c b n m k like so =
    ap (kind_holds (is_done_kind q k c)) (narrowed_there p q c b n) ∙ at b n.send.blocking n.send.message ∙ ap (λ (z : Bool). z || is_fetched q k c) (sym so)
    ∙ ap (λ (z : Bool). is_buffered m c || z) (like_fetched p q c b n m k like c) ∙ sym (ap (kind_holds (is_done_kind p m c)) n.send.there)
  where
    at : (z blocking : Bool) (message : Message) → is_done_kind q k c (narrowed_kind (way_of z) (Send Standard blocking message)) ≡ (z || is_fetched q k c)
    at true blocking message = refl
    at false blocking message = refl

-- another call
done_elsewhere : (p q : MpiProgram) (c : ℕ) (b : Bool) → Both p q c b → (m k : Configuration) → IsLike c m k → (d : ℕ) → (d ≡ c → ⊥) → is_done q k d ≡ is_done p m d
done_elsewhere p q c b n m k like d differ = ap (kind_holds (is_done_kind q k d)) (n.narrowed.elsewhere d differ) ∙ at (call_at p d)
  where
    of_kind : (kind : Kind ℕ) → is_done_kind q k d kind ≡ is_done_kind p m d kind
    of_kind (Send Standard blocking message) = ap (λ (z : Bool). z || is_fetched q k d) (like.buffered d differ) ∙ ap (λ (z : Bool). is_buffered m d || z) (like_fetched p q c b n m k like d)
    of_kind (Send Synchronous blocking message) = like_fetched p q c b n m k like d
    of_kind (Send Buffered blocking message) = refl
    of_kind (Receive blocking pattern) = like_matched c m k like d
    of_kind (MatchedProbe pattern receive) = like_matched c m k like d
    of_kind (Probe pattern) = like_matched c m k like d
    of_kind (MatchedReceive blocking) = refl
    of_kind (Wait operation) = refl

    at : (x : Option Call) → kind_holds (is_done_kind q k d) x ≡ kind_holds (is_done_kind p m d) x
    at None = refl
    at (Some call) = of_kind call.kind

like_done : (p q : MpiProgram) (c : ℕ) (b : Bool) → Both p q c b → (m k : Configuration) → IsLike c m k → IsSo p c b m → (d : ℕ) → is_issued p m d ≡ true → is_done q k d ≡ is_done p m d
like_done p q c b n m k like so d issued =
    elim (cases_eq d c) [
      | inl e ↦ subst (λ (z : ℕ). is_done q k z ≡ is_done p m z) (sym e) (done_here p q c b n m k like (so (subst (λ (z : ℕ). is_issued p m z ≡ true) e issued)))
      | inr differ ↦ done_elsewhere p q c b n m k like d differ
    ]

-- what an issued wait waits for is issued
operation_issued : (p : MpiProgram) (m : Configuration) (d o : ℕ) (call : Call) → IsProgram p → call_at p d ≡ Some call → call.kind ≡ Wait o → is_issued p m d ≡ true → is_issued p m o ≡ true
operation_issued p m d o call program there is issued =
    let named = program.waits.named d o call there (ap operation_of is) in
    let earlier : o < d = program.waits_later d o call there (ap operation_of is) in
    let here : nat_lt d (slice_index m.next call.rank) ≡ true = sym (ap (holds_of (is_issued_call m d)) there) ∙ issued in
    let moved : nat_lt d (slice_index m.next named.0.rank) ≡ true = subst (λ (z : ℕ). nat_lt d (slice_index m.next z) ≡ true) (sym named.2) here in
    ap (holds_of (is_issued_call m o)) named.1 ∙ below o d (slice_index m.next named.0.rank) earlier moved
  where
    below : (x y z : ℕ) → x < y → nat_lt y z ≡ true → nat_lt x z ≡ true
    below x y z h e = grind (arith, nat_tests)

like_returned : (p q : MpiProgram) (c : ℕ) (b : Bool) → Both p q c b → (m k : Configuration) → IsLike c m k → IsSo p c b m → (d : ℕ) → is_issued p m d ≡ true → is_returned q k d ≡ is_returned p m d
like_returned p q c b n m k like so d issued =
    elim (cases_eq d c) [
      | inl e ↦
          let here : is_done q k d ≡ is_done p m d = like_done p q c b n m k like so d issued in
          subst (λ (z : ℕ). is_returned q k z ≡ is_returned p m z) (sym e)
          (ap (kind_holds (is_returned_kind q k c)) (narrowed_there p q c b n) ∙ at b n.send.blocking n.send.message
          ∙ ap (λ (z : Bool). not n.send.blocking || z) (subst (λ (z : ℕ). is_done q k z ≡ is_done p m z) e here) ∙ sym (ap (kind_holds (is_returned_kind p m c)) n.send.there))
      | inr differ ↦ ap (kind_holds (is_returned_kind q k d)) (n.narrowed.elsewhere d differ) ∙ other (call_at p d) refl
    ]
  where
    at : (z blocking : Bool) (message : Message) → is_returned_kind q k c (narrowed_kind (way_of z) (Send Standard blocking message)) ≡ (not blocking || is_done q k c)
    at true blocking message = refl
    at false blocking message = refl

    of_kind : (call : Call) → call_at p d ≡ Some call → (kind : Kind ℕ) → call.kind ≡ kind → is_returned_kind q k d kind ≡ is_returned_kind p m d kind
    of_kind call there (Send mode blocking message) is = ap (λ (z : Bool). not blocking || z) (like_done p q c b n m k like so d issued)
    of_kind call there (Receive blocking pattern) is = ap (λ (z : Bool). not blocking || z) (like_done p q c b n m k like so d issued)
    of_kind call there (MatchedProbe pattern receive) is = like_done p q c b n m k like so d issued
    of_kind call there (Probe pattern) is = like_done p q c b n m k like so d issued
    of_kind call there (MatchedReceive blocking) is = refl
    of_kind call there (Wait operation) is = like_done p q c b n m k like so operation (operation_issued p m d operation call n.program there is issued)

    other : (x : Option Call) → call_at p d ≡ x → kind_holds (is_returned_kind q k d) x ≡ kind_holds (is_returned_kind p m d) x
    other None there = refl
    other (Some call) there = of_kind call there call.kind refl

-- the call before a rank's next one, if it is of that rank, is issued
issued_before : (p : MpiProgram) (m : Configuration) (rank d : ℕ) → slice_index m.next rank ≡ suc d → is_of_rank (call_at p d) rank ≡ true → is_issued p m d ≡ true
issued_before p m rank d next own = at (call_at p d) own
  where
    at : (x : Option Call) → is_of_rank x rank ≡ true → holds_of (is_issued_call m d) x ≡ true
    at None h = absurd (cc)
    at (Some call) h =
        let e : call.rank ≡ rank = eqb-true call.rank rank h in
        let there : slice_index m.next call.rank ≡ suc d = ap (slice_index m.next) e ∙ next in
        grind (arith, nat_tests)

like_before : (p q : MpiProgram) (c : ℕ) (b : Bool) → Both p q c b → (m k : Configuration) → IsLike c m k → IsSo p c b m → (rank d : ℕ) → slice_index m.next rank ≡ d → has_returned_before q k rank d ≡ has_returned_before p m rank d
like_before p q c b n m k like so rank zero next = refl
like_before p q c b n m k like so rank (suc d) next =
    ap (λ (z : Bool). not z || is_returned q k d) (same_of_rank p q c (way_of b) n.narrowed d rank) ∙ by (is_of_rank (call_at p d) rank) refl
  where
    by : (own : Bool) → is_of_rank (call_at p d) rank ≡ own → (not own || is_returned q k d) ≡ (not own || is_returned p m d)
    by true e = like_returned p q c b n m k like so d (issued_before p m rank d next e)
    by false e = refl

-- ---- steps

-- the call that the rank issues next, with what is asked of it
can_issue_at : (p : MpiProgram) (m : Configuration) (r : ℕ) (b : Bool) → can_issue p m r b ≡ true → (i : Issues p m r) → holds_of (can_issue_call p m r b i.place) (Some i.call) ≡ true
can_issue_at p m r b can i = sym (ap (holds_of (can_issue_next p m r b)) i.next ∙ ap (holds_of (can_issue_call p m r b i.place)) i.there) ∙ can

next_is : (p : MpiProgram) (m : Configuration) (r : ℕ) (i : Issues p m r) → slice_index m.next r ≡ i.place
next_is p m r i = get_or_from_slice_get m.next r i.place 0 i.next

-- it can be issued in the other program too, where the other call that stands there may be issued
-- so
issue_to : (p q : MpiProgram) (c : ℕ) (b : Bool) → Both p q c b → (m k : Configuration) → IsLike c m k → IsSo p c b m → (r : ℕ) (one other : Bool) (i : Issues p m r) (call : Call) → call_at q i.place ≡ Some call → call.rank ≡ i.call.rank → may_be q.policy call.kind other ≡ true → can_issue p m r one ≡ true → can_issue q k r other ≡ true
issue_to p q c b n m k like so r one other i call there own may can =
    let parts = and_true _ _ (can_issue_at p m r one can i) in
    let first = and_true _ _ parts.0 in
    let rank : (call.rank == r) ≡ true = ap (λ (z : ℕ). z == r) own ∙ first.0 in
    let before : has_returned_before q k r i.place ≡ true = like_before p q c b n m k like so r i.place (next_is p m r i) ∙ first.1 in
    ap (λ (l : List ℕ). holds_of (can_issue_next q k r other) (slice_get l r)) like.next ∙ ap (holds_of (can_issue_next q k r other)) i.next ∙ ap (holds_of (can_issue_call q k r other i.place)) there
    ∙ and_both _ _ (and_both _ _ rank before) may

-- a call but for the send
issue_elsewhere : (p q : MpiProgram) (c : ℕ) (b : Bool) → Both p q c b → (m k : Configuration) → IsLike c m k → IsSo p c b m → (r : ℕ) (one : Bool) (i : Issues p m r) → (i.place ≡ c → ⊥) → can_issue p m r one ≡ true → can_issue q k r one ≡ true
issue_elsewhere p q c b n m k like so r one i differ can =
    let may = (and_true _ _ (can_issue_at p m r one can i)).1 in
    issue_to p q c b n m k like so r one one i i.call (n.narrowed.elsewhere i.place differ ∙ i.there) refl (ap (λ (z : Policy). may_be z i.call.kind one) n.narrowed.policy ∙ may) can

-- the send, of which nothing is left open any more
issue_here : (p q : MpiProgram) (c : ℕ) (b : Bool) → Both p q c b → (m k : Configuration) → IsLike c m k → IsSo p c b m → (r : ℕ) (one : Bool) (i : Issues p m r) → i.place ≡ c → can_issue p m r one ≡ true → can_issue q k r false ≡ true
issue_here p q c b n m k like so r one i e can =
    let there : call_at q i.place ≡ Some (narrowed_call (way_of b) (send_of p c n.send)) = subst (λ (z : ℕ). call_at q z ≡ Some (narrowed_call (way_of b) (send_of p c n.send))) (sym e) (narrowed_there p q c b n) in
    let old : call_at p i.place ≡ Some (send_of p c n.send) = subst (λ (z : ℕ). call_at p z ≡ Some (send_of p c n.send)) (sym e) n.send.there in
    let same : send_of p c n.send ≡ i.call = same_Some (send_of p c n.send) i.call (sym old ∙ i.there) in
    issue_to p q c b n m k like so r one false i (narrowed_call (way_of b) (send_of p c n.send)) there (ap (λ (x : Call). x.rank) same) (may b q.policy n.send.blocking n.send.message) can
  where
    may : (z : Bool) (policy : Policy) (blocking : Bool) (message : Message) → may_be policy (narrowed_kind (way_of z) (Send Standard blocking message)) false ≡ true
    may true policy blocking message = refl
    may false policy blocking message = refl

find_to : (p q : MpiProgram) (c : ℕ) (b : Bool) → Both p q c b → (m k : Configuration) → IsLike c m k → (x f : ℕ) → CanFind p m x f → CanFind q k x f
find_to p q c b n m k like x f can =
    record {
      send_issued = like_issued p q c b n m k like x ∙ can.send_issued;
      finder_issued = like_issued p q c b n m k like f ∙ can.finder_issued;
      send_open = like_matched c m k like x ∙ can.send_open;
      finder_open = like_matched c m k like f ∙ can.finder_open;
      fit = same_fit p q c b n x f ∙ can.fit;
      sends = λ e below one fit. like_matched c m k like e ∙ can.sends e below (sym (same_one_rank p q c (way_of b) n.narrowed e x) ∙ one) (sym (same_fit p q c b n e f) ∙ fit);
      takers = λ e below one takes. like_matched c m k like e ∙ can.takers e below (sym (same_one_rank p q c (way_of b) n.narrowed e f) ∙ one) (sym (same_takes p q c b n x e) ∙ takes);
    }

find_from : (p q : MpiProgram) (c : ℕ) (b : Bool) → Both p q c b → (m k : Configuration) → IsLike c m k → (x f : ℕ) → CanFind q k x f → CanFind p m x f
find_from p q c b n m k like x f can =
    record {
      send_issued = sym (like_issued p q c b n m k like x) ∙ can.send_issued;
      finder_issued = sym (like_issued p q c b n m k like f) ∙ can.finder_issued;
      send_open = sym (like_matched c m k like x) ∙ can.send_open;
      finder_open = sym (like_matched c m k like f) ∙ can.finder_open;
      fit = sym (same_fit p q c b n x f) ∙ can.fit;
      sends = λ e below one fit. sym (like_matched c m k like e) ∙ can.sends e below (same_one_rank p q c (way_of b) n.narrowed e x ∙ one) (same_fit p q c b n e f ∙ fit);
      takers = λ e below one takes. sym (like_matched c m k like e) ∙ can.takers e below (same_one_rank p q c (way_of b) n.narrowed e f ∙ one) (same_takes p q c b n x e ∙ takes);
    }

-- ---- what steps leave

set_alike : (xs ys : List Bool) (i d : ℕ) (one other : Bool) → length ys ≡ length xs → (d ≡ i → other ≡ one) → unwrap_or (slice_get ys d) false ≡ unwrap_or (slice_get xs d) false → unwrap_or (slice_get (slice_set ys i other) d) false ≡ unwrap_or (slice_get (slice_set xs i one) d) false
set_alike xs ys i d one other long same old =
    unwrap_or-slice_get (slice_set ys i other) d false ∙ both ∙ sym (unwrap_or-slice_get (slice_set xs i one) d false)
  where
    old' : get_or ys d false ≡ get_or xs d false
    old' = sym (unwrap_or-slice_get ys d false) ∙ old ∙ unwrap_or-slice_get xs d false

    both : get_or (slice_set ys i other) d false ≡ get_or (slice_set xs i one) d false
    both =
        elim (cases_eq d i) [
          | inl e ↦ elim (cases_lt i (length xs)) [
            | inl within ↦
                subst (λ (z : ℕ). get_or (slice_set ys i other) z false ≡ get_or (slice_set xs i one) z false) (sym e)
                (get_or-set_same ys i other false (subst (λ (z : ℕ). i < z) (sym long) within) ∙ same e ∙ sym (get_or-set_same xs i one false within))
            | inr past ↦ ap (λ (l : List Bool). get_or l d false) (set_past ys i other (subst (λ (z : ℕ). z ≤ i) (sym long) past)) ∙ old' ∙ sym (ap (λ (l : List Bool). get_or l d false) (set_past xs i one past))
          ]
          | inr differ ↦ get_or-set_other ys i d other false differ ∙ old' ∙ sym (get_or-set_other xs i d one false differ)
        ]

-- both issue the same call, the same way unless it is the send
like_issue : (p : MpiProgram) (c : ℕ) (m k : Configuration) → IsLike c m k → (r : ℕ) (one other : Bool) (i : Issues p m r) → ((i.place ≡ c → ⊥) → other ≡ one) → IsLike c (after m (Issue r one)) (after k (Issue r other))
like_issue p c m k like r one other i same =
    record {
      next = ap (λ (l : List ℕ). slice_set l r (slice_index l r + 1)) like.next;
      partner = like.partner;
      count = length-set k.buffered (slice_index k.next r) other ∙ like.count ∙ sym (length-set m.buffered (slice_index m.next r) one);
      buffered = λ d differ.
          ap (λ (z : ℕ). unwrap_or (slice_get (slice_set k.buffered z other) d) false) (ap (λ (l : List ℕ). slice_index l r) like.next)
          ∙ set_alike m.buffered k.buffered (slice_index m.next r) d one other like.count (λ e. same (λ here. differ (e ∙ next_is p m r i ∙ here))) (like.buffered d differ);
    }

like_match : (c : ℕ) (m k : Configuration) → IsLike c m k → (x f : ℕ) → IsLike c (after m (Match x f)) (after k (Match x f))
like_match c m k like x f =
    record { next = like.next; partner = ap (λ (l : List (Option ℕ)). slice_set (slice_set l x (Some f)) f (Some x)) like.partner; count = like.count; buffered = like.buffered }

like_see : (c : ℕ) (m k : Configuration) → IsLike c m k → (x f : ℕ) → IsLike c (after m (See x f)) (after k (See x f))
like_see c m k like x f =
    record { next = like.next; partner = ap (λ (l : List (Option ℕ)). slice_set l f (Some x)) like.partner; count = like.count; buffered = like.buffered }

not_below : (x y : ℕ) → nat_lt x y ≡ true → y ≡ x → ⊥
not_below x y h e = absurd (grind (arith, nat_tests))

-- whether an issued call is buffered stays as it is
buffer_kept : (p : MpiProgram) (m : Configuration) (x : Step) (c : ℕ) → IsEnabled p m x → is_issued p m c ≡ true → is_buffered (after m x) c ≡ is_buffered m c
buffer_kept p m (Issue r b) c enabled issued =
    let i = issues p m r b enabled in
    let differ : c ≡ slice_index m.next r → ⊥ = λ e. not_next i (e ∙ next_is p m r i) in
    unwrap_or-slice_get (slice_set m.buffered (slice_index m.next r) b) c false ∙ get_or-set_other m.buffered (slice_index m.next r) c b false differ ∙ sym (unwrap_or-slice_get m.buffered c false)
  where
    not_next : (i : Issues p m r) → c ≡ i.place → ⊥
    not_next i e =
        let here : is_issued p m i.place ≡ true = subst (λ (z : ℕ). is_issued p m z ≡ true) e issued in
        let lower : nat_lt i.place (slice_index m.next i.call.rank) ≡ true = sym (ap (holds_of (is_issued_call m i.place)) i.there) ∙ here in
        let equal : slice_index m.next i.call.rank ≡ i.place = ap (slice_index m.next) i.own ∙ next_is p m r i in
        not_below i.place (slice_index m.next i.call.rank) lower equal
buffer_kept p m (Match x f) c enabled issued = refl
buffer_kept p m (See x f) c enabled issued = refl

so_before : (p : MpiProgram) (c : ℕ) (b : Bool) (m : Configuration) (steps : List Step) → IsRun p m steps → IsSo p c b (after_all m steps) → IsSo p c b m
so_before p c b m [] run so = so
so_before p c b m (x ∷ steps) run so = λ issued. sym (buffer_kept p m x c run.0 issued) ∙ so_before p c b (after m x) steps run.1 so (issued_grows p m x c issued)

-- ---- runs

-- a run of the other program that ends alike
record Follows (q : MpiProgram) (c : ℕ) (m k : Configuration) (steps : List Step) : Type 0 where
  others : List Step
  run : IsRun q k others
  like : IsLike c (after_all m steps) (after_all k others)

first_step : (q : MpiProgram) (c : ℕ) (m k : Configuration) (x y : Step) (steps : List Step) → IsEnabled q k y → Follows q c (after m x) (after k y) steps → Follows q c m k (x ∷ steps)
first_step q c m k x y steps can rest = record { others = y ∷ rest.others; run = (can, rest.run); like = rest.like }

follow : (p q : MpiProgram) (c : ℕ) (b : Bool) → Both p q c b → (steps : List Step) (m k : Configuration) → IsLike c m k → IsRun p m steps → IsSo p c b (after_all m steps) → Follows q c m k steps
follow p q c b n [] m k like run so = record { others = []; run = tt; like = like }
follow p q c b n (Issue r one ∷ steps) m k like run so =
    let i = issues p m r one run.0 in
    let now = so_before p c b m (Issue r one ∷ steps) run so in
    elim (cases_eq i.place c) [
      | inl e ↦
          first_step q c m k (Issue r one) (Issue r false) steps (issue_here p q c b n m k like now r one i e run.0)
          (follow p q c b n steps (after m (Issue r one)) (after k (Issue r false)) (like_issue p c m k like r one false i (λ differ. absurd (differ e))) run.1 so)
      | inr differ ↦
          first_step q c m k (Issue r one) (Issue r one) steps (issue_elsewhere p q c b n m k like now r one i differ run.0)
          (follow p q c b n steps (after m (Issue r one)) (after k (Issue r one)) (like_issue p c m k like r one one i (λ other. refl)) run.1 so)
    ]
follow p q c b n (Match x f ∷ steps) m k like run so =
    first_step q c m k (Match x f) (Match x f) steps (ap not (same_probe p q c b n f) ∙ run.0.0, find_to p q c b n m k like x f run.0.1)
    (follow p q c b n steps (after m (Match x f)) (after k (Match x f)) (like_match c m k like x f) run.1 so)
follow p q c b n (See x f ∷ steps) m k like run so =
    first_step q c m k (See x f) (See x f) steps (same_probe p q c b n f ∙ run.0.0, find_to p q c b n m k like x f run.0.1)
    (follow p q c b n steps (after m (See x f)) (after k (See x f)) (like_see c m k like x f) run.1 so)

-- ---- where nothing goes on

like_finished : (p q : MpiProgram) (c : ℕ) (b : Bool) → Both p q c b → (m k : Configuration) → IsLike c m k → IsSo p c b m → (rank : ℕ) → is_rank_finished q k rank ≡ is_rank_finished p m rank
like_finished p q c b n m k like so rank =
    ap (λ (l : List ℕ). not (is_of_rank (call_at q (slice_index l rank)) rank) && has_returned_before q k rank (slice_index l rank)) like.next
    ∙ ap (λ (z : Bool). not z && has_returned_before q k rank (slice_index m.next rank)) (same_of_rank p q c (way_of b) n.narrowed (slice_index m.next rank) rank)
    ∙ ap (λ (z : Bool). not (is_of_rank (call_at p (slice_index m.next rank)) rank) && z) (like_before p q c b n m k like so rank (slice_index m.next rank) refl)

-- what can be issued in the narrowed program can be in the other one, in some way
issue_from : (p q : MpiProgram) (c : ℕ) (b : Bool) → Both p q c b → (m k : Configuration) → IsLike c m k → IsSo p c b m → (r : ℕ) (other : Bool) → can_issue q k r other ≡ true → (one : Bool) × (can_issue p m r one ≡ true)
issue_from p q c b n m k like so r other can =
    elim (cases_eq j.place c) [
      | inl e ↦
          let there : call_at p j.place ≡ Some (send_of p c n.send) = subst (λ (z : ℕ). call_at p z ≡ Some (send_of p c n.send)) (sym e) n.send.there in
          let new : call_at q j.place ≡ Some (narrowed_call (way_of b) (send_of p c n.send)) = subst (λ (z : ℕ). call_at q z ≡ Some (narrowed_call (way_of b) (send_of p c n.send))) (sym e) (narrowed_there p q c b n) in
          let same : j.call ≡ narrowed_call (way_of b) (send_of p c n.send) = same_Some j.call (narrowed_call (way_of b) (send_of p c n.send)) (sym j.there ∙ new) in
          (false, from false (send_of p c n.send) there (sym (ap (λ (x : Call). x.rank) same)) (ap (λ (z : Policy). may_be z (Send Standard n.send.blocking n.send.message) false) n.send.policy))
      | inr differ ↦ (other, from other j.call (sym (n.narrowed.elsewhere j.place differ) ∙ j.there) refl (ap (λ (z : Policy). may_be z j.call.kind other) (sym n.narrowed.policy) ∙ parts.1))
    ]
  where
    j : Issues q k r
    j = issues q k r other can

    parts : ((j.call.rank == r && has_returned_before q k r j.place) ≡ true) × (may_be q.policy j.call.kind other ≡ true)
    parts = and_true _ _ (can_issue_at q k r other can j)

    next : slice_get m.next r ≡ Some j.place
    next = ap (λ (l : List ℕ). slice_get l r) (sym like.next) ∙ j.next

    from : (one : Bool) (call : Call) → call_at p j.place ≡ Some call → call.rank ≡ j.call.rank → may_be p.policy call.kind one ≡ true → can_issue p m r one ≡ true
    from one call there own may =
        let first = and_true _ _ parts.0 in
        let rank : (call.rank == r) ≡ true = ap (λ (z : ℕ). z == r) own ∙ first.0 in
        let before : has_returned_before p m r j.place ≡ true = sym (like_before p q c b n m k like so r j.place (get_or_from_slice_get m.next r j.place 0 next)) ∙ first.1 in
        ap (holds_of (can_issue_next p m r one)) next ∙ ap (holds_of (can_issue_call p m r one j.place)) there ∙ and_both _ _ (and_both _ _ rank before) may

stuck_alike : (p q : MpiProgram) (c : ℕ) (b : Bool) → Both p q c b → (m k : Configuration) → IsLike c m k → IsSo p c b m → IsStuck p m → IsStuck q k
stuck_alike p q c b n m k like so stuck =
    record {
      rank = stuck.rank;
      in_range = subst (λ (z : ℕ). stuck.rank < z) (sym n.narrowed.ranks) stuck.in_range;
      unfinished = like_finished p q c b n m k like so stuck.rank ∙ stuck.unfinished;
      none_enabled = none;
    }
  where
    none : (step : Step) → IsEnabled q k step → ⊥
    none (Issue r other) can = let found = issue_from p q c b n m k like so r other can in stuck.none_enabled (Issue r found.0) found.1
    none (Match x f) can = stuck.none_enabled (Match x f) (ap not (sym (same_probe p q c b n f)) ∙ can.0, find_from p q c b n m k like x f can.1)
    none (See x f) can = stuck.none_enabled (See x f) (sym (same_probe p q c b n f) ∙ can.0, find_from p q c b n m k like x f can.1)

-- a run that ends stuck, in which the send was buffered, or not, or wasn't issued, has one of the
-- narrowed program beside it
pub stuck_run_of_send : (p q : MpiProgram) (c : ℕ) (b : Bool) → IsNarrowed p c (way_of b) q → IsProgram p → IsOpenSend p c → (steps : List Step) → IsStuckRun p steps → (is_issued p (after_all (opening p) steps) c ≡ true → is_buffered (after_all (opening p) steps) c ≡ b) → (others : List Step) × IsStuckRun q others
stuck_run_of_send p q c b narrowed program send steps stuck so =
    let n : Both p q c b = record { narrowed = narrowed; program = program; send = send } in
    let same = same_opening p q c (way_of b) narrowed in
    let begun : IsLike c (opening p) (opening p) = record { next = refl; partner = refl; count = refl; buffered = λ d differ. refl } in
    let found = follow p q c b n steps (opening p) (opening p) begun stuck.run so in
    let ended = stuck_alike p q c b n (after_all (opening p) steps) (after_all (opening p) found.others) found.like so stuck.stuck in (
      found.others,
      record {
        run = subst (λ (m : Configuration). IsRun q m found.others) (sym same) found.run;
        stuck = subst (λ (m : Configuration). IsStuck q (after_all m found.others)) (sym same) ended;
      },
    )

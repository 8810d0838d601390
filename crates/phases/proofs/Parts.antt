-- What holds of a part's calls in the whole: where they stand, and when they are issued, done and
-- returned.
use Rattle.std.proofs.Common.{◌≡◌, ℕ, zero, suc, ◌+◌, ◌<◌, ◌≤◌, inl, inr, Bool, true, false, not, ◌&&◌, ◌||◌, ◌==◌, List, Option, Some, None, is_some, length, get_or, slice_get, slice_set, refl, sym, ap, ◌∙◌, subst, arith, get_or-set_other, get_or-set_same}
use Rattle.std.proofs.lemmas.Bool.{cases_eq, eqb-true, eq-eqb}
use Rattle.std.proofs.lemmas.List.{length-set}
use Rattle.std.proofs.lemmas.Option.{same_Some, slice_get_within, unwrap_or-slice_get}
use Rattle.calltext.proofs.Conjunctions.{and_true, and_both}
use Rattle.calltext.specs.declared.call.Policy.{Policy}
use Rattle.calltext.specs.declared.call.Policy.TheVariants.{Any, Never, Always}
use Rattle.calltext.specs.declared.call.Mode.TheVariants.{Standard, Synchronous, Buffered}
use Rattle.callorder.specs.declared.calls.Call.{Call}
use Rattle.callorder.specs.declared.calls.Kind.{Kind}
use Rattle.callorder.specs.declared.calls.Kind.TheVariants.{Send, Receive, MatchedProbe, Probe, MatchedReceive, Wait}
use Rattle.callorder.specs.declared.calls.Message.{Message}
use Rattle.callorder.specs.Calls.{message_of, pattern_of, operation_of, receive_of, is_probe_kind, fits_between, both_hold, holds_of, fits}
use Rattle.callorder.specs.Programs.{MpiProgram, call_at, is_of_rank, are_of_one_rank, are_fit, is_probe, takes, kind_holds, have_one_rank}
use Rattle.callorder.proofs.Lookups.{slice_get-none_past}
use Rattle.semantics.specs.Machine.{Configuration, CanFind, is_issued, is_matched, is_buffered, is_fetched, is_done, is_done_kind, is_returned, is_returned_kind, fetches, fetches_partner, has_returned_before, may_be, can_issue, can_issue_next, can_issue_call}
use Rattle.semantics.proofs.Lengths.{matched_is}
use Rattle.run_laws.specs.Laws.{IsOpenPair}
use Rattle.phases.specs.CallPlaces.{IsPart, IsFrom, IsWellFormed, moved_kind, moved_call}

-- ---- calls of a rank

pub of_rank : (o : Option Call) (r : ℕ) → is_of_rank o r ≡ true → (x : Call) × (o ≡ Some x) × (x.rank ≡ r)
of_rank None r e = absurd (cc)
of_rank (Some x) r e = (x, refl, eqb-true x.rank r e)

pub rank_is : (o : Option Call) (x : Call) (r : ℕ) → o ≡ Some x → x.rank ≡ r → is_of_rank o r ≡ true
rank_is o x r there own = ap (λ (z : Option Call). is_of_rank z r) there ∙ eq-eqb x.rank r own

pub one_there : (o : Option Call) (b : Call) → both_hold have_one_rank o (Some b) ≡ true → (y : Call) × (o ≡ Some y) × (y.rank ≡ b.rank)
one_there None b e = absurd (cc)
one_there (Some y) b e = (y, refl, sym (eqb-true b.rank y.rank e))

-- ---- the call before

not_or : (a b : Bool) → (a ≡ true → b ≡ true) → (not a || b) ≡ true
not_or true b h = h refl
not_or false b h = refl

or_not : (a b : Bool) → (not a || b) ≡ true → a ≡ true → b ≡ true
or_not true b h e = h
or_not false b h e = absurd (cc)

pub before_to : (p : MpiProgram) (m : Configuration) (r c : ℕ) → has_returned_before p m r c ≡ true → (k : ℕ) → c ≡ k + 1 → is_of_rank (call_at p k) r ≡ true → is_returned p m k ≡ true
before_to p m r zero h k e own = absurd (omega (arith, e))
before_to p m r (suc c) h k e own =
    let same : c ≡ k = omega (arith, e) in
    or_not (is_of_rank (call_at p k) r) (is_returned p m k) (subst (λ (z : ℕ). (not (is_of_rank (call_at p z) r) || is_returned p m z) ≡ true) same h) own

pub before_from : (p : MpiProgram) (m : Configuration) (r c : ℕ) → ((k : ℕ) → c ≡ k + 1 → is_of_rank (call_at p k) r ≡ true → is_returned p m k ≡ true) → has_returned_before p m r c ≡ true
before_from p m r zero h = refl
before_from p m r (suc c) h = not_or (is_of_rank (call_at p c) r) (is_returned p m c) (h c (omega arith))

-- ---- what an enabled issue asks for

pub record IssueParts (p : MpiProgram) (m : Configuration) (r : ℕ) (b : Bool) : Type 0 where
  pub place : ℕ
  pub call : Call
  pub next : slice_get m.next r ≡ Some place
  pub there : call_at p place ≡ Some call
  pub own : call.rank ≡ r
  pub before : has_returned_before p m r place ≡ true
  pub may : may_be p.policy call.kind b ≡ true

issue_call : (p : MpiProgram) (m : Configuration) (r : ℕ) (b : Bool) (c : ℕ) → slice_get m.next r ≡ Some c → (o : Option Call) → call_at p c ≡ o → holds_of (can_issue_call p m r b c) o ≡ true → IssueParts p m r b
issue_call p m r b c next None there h = absurd (cc)
issue_call p m r b c next (Some call) there h =
    let outer = and_true ((call.rank == r) && has_returned_before p m r c) (may_be p.policy call.kind b) h in
    let inner = and_true (call.rank == r) (has_returned_before p m r c) outer.0 in
    record { place = c; call = call; next = next; there = there; own = eqb-true call.rank r inner.0; before = inner.1; may = outer.1 }

issue_next : (p : MpiProgram) (m : Configuration) (r : ℕ) (b : Bool) (o : Option ℕ) → slice_get m.next r ≡ o → holds_of (can_issue_next p m r b) o ≡ true → IssueParts p m r b
issue_next p m r b None next h = absurd (cc)
issue_next p m r b (Some c) next h = issue_call p m r b c next (call_at p c) refl h

pub issue_parts : (p : MpiProgram) (m : Configuration) (r : ℕ) (b : Bool) → can_issue p m r b ≡ true → IssueParts p m r b
issue_parts p m r b h = issue_next p m r b (slice_get m.next r) refl h

pub issue_made : (p : MpiProgram) (m : Configuration) (r : ℕ) (b : Bool) (c : ℕ) (call : Call) → slice_get m.next r ≡ Some c → call_at p c ≡ Some call → call.rank ≡ r → has_returned_before p m r c ≡ true → may_be p.policy call.kind b ≡ true → can_issue p m r b ≡ true
issue_made p m r b c call next there own before may =
    ap (holds_of (can_issue_next p m r b)) next ∙ ap (holds_of (can_issue_call p m r b c)) there
    ∙ and_both ((call.rank == r) && has_returned_before p m r c) (may_be p.policy call.kind b) (and_both (call.rank == r) (has_returned_before p m r c) (eq-eqb call.rank r own) before) may

-- ---- a moved call does the same

pub message_moved : (d : ℕ) (k : Kind ℕ) → message_of (moved_kind d k) ≡ message_of k
message_moved d (Wait operation) = refl
message_moved d kind = refl

pub pattern_moved : (d : ℕ) (k : Kind ℕ) → pattern_of (moved_kind d k) ≡ pattern_of k
pattern_moved d (Wait operation) = refl
pattern_moved d kind = refl

probe_moved_kind : (d : ℕ) (k : Kind ℕ) → is_probe_kind (moved_kind d k) ≡ is_probe_kind k
probe_moved_kind d (Wait operation) = refl
probe_moved_kind d kind = refl

pub may_be_moved : (policy : Policy) (d : ℕ) (k : Kind ℕ) (b : Bool) → may_be policy (moved_kind d k) b ≡ may_be policy k b
may_be_moved policy d (Send mode blocking message) b = refl
may_be_moved policy d (Receive blocking pattern) b = refl
may_be_moved Any d (MatchedProbe pattern receive) b = refl
may_be_moved Never d (MatchedProbe pattern receive) b = refl
may_be_moved Always d (MatchedProbe pattern receive) b = refl
may_be_moved policy d (Probe pattern) b = refl
may_be_moved policy d (MatchedReceive blocking) b = refl
may_be_moved Any d (Wait operation) b = refl
may_be_moved Never d (Wait operation) b = refl
may_be_moved Always d (Wait operation) b = refl

-- ---- partners

-- the partner in the whole is the part's, which is one of its calls
abbrev pub SamePartner : MpiProgram → (ℕ → ℕ) → Option ℕ → Option ℕ → Type 0
SamePartner q moved None None = Unit {0}
SamePartner q moved None (Some t) = ⊥
SamePartner q moved (Some x) None = ⊥
SamePartner q moved (Some x) (Some t) = (call : Call) × (call_at q t ≡ Some call) × (x ≡ t + moved call.rank)

same_some : (q : MpiProgram) (moved : ℕ → ℕ) (a b : Option ℕ) → SamePartner q moved a b → is_some a ≡ is_some b
same_some q moved None None s = refl
same_some q moved None (Some t) s = absurd s
same_some q moved (Some x) None s = absurd s
same_some q moved (Some x) (Some t) s = refl

-- what a configuration of the whole and one of the part have in common
pub record IsSeen (p q : MpiProgram) (moved : ℕ → ℕ) (m n : Configuration) : Type 0 where
  pub issued : (c : ℕ) (call : Call) → call_at q c ≡ Some call → is_issued p m (c + moved call.rank) ≡ is_issued q n c
  pub buffered : (c : ℕ) (call : Call) → call_at q c ≡ Some call → get_or m.buffered (c + moved call.rank) false ≡ get_or n.buffered c false
  pub partner : (c : ℕ) (call : Call) → call_at q c ≡ Some call → SamePartner q moved (get_or m.partner (c + moved call.rank) None) (get_or n.partner c None)

-- ---- one entry changed at a place and in the part

pub set_in_both : {A : Type 0} (R : A → A → Type 0) (xs ys : List A) (N n C c : ℕ) (v w d : A) → N < length xs → n < length ys → (C ≡ N → c ≡ n) → (c ≡ n → C ≡ N) → R (get_or xs C d) (get_or ys c d) → R v w → R (get_or (slice_set xs N v) C d) (get_or (slice_set ys n w) c d)
set_in_both {A} R xs ys N n C c v w d inside within back on old new =
    elim (cases_eq c n) [
      | inl e ↦
          subst (λ (z : A). R z (get_or (slice_set ys n w) c d)) (sym (ap (λ (z : ℕ). get_or (slice_set xs N v) z d) (on e) ∙ get_or-set_same xs N v d inside))
          (subst (λ (z : A). R v z) (sym (ap (λ (z : ℕ). get_or (slice_set ys n w) z d) e ∙ get_or-set_same ys n w d within)) new)
      | inr differ ↦
          subst (λ (z : A). R z (get_or (slice_set ys n w) c d)) (sym (get_or-set_other xs N C v d (λ e. differ (back e))))
          (subst (λ (z : A). R (get_or xs C d) z) (sym (get_or-set_other ys n c w d differ)) old)
    ]

module _ (p q : MpiProgram) (moved : ℕ → ℕ) (part : IsPart p q moved) where
  pub fit_moved : (s t : ℕ) (a b : Call) → call_at q s ≡ Some a → call_at q t ≡ Some b → are_fit p (s + moved a.rank) (t + moved b.rank) ≡ are_fit q s t
  fit_moved s t a b at_s at_t =
      ap (λ (z : Option Call). both_hold fits z (call_at p (t + moved b.rank))) (part.calls s a at_s)
      ∙ ap (both_hold fits (Some (moved_call (moved a.rank) a))) (part.calls t b at_t)
      ∙ ap (λ (z : Option Message). fits_between a.rank z b.rank (pattern_of (moved_kind (moved b.rank) b.kind))) (message_moved (moved a.rank) a.kind)
      ∙ ap (fits_between a.rank (message_of a.kind) b.rank) (pattern_moved (moved b.rank) b.kind)
      ∙ sym (ap (both_hold fits (Some a)) at_t)
      ∙ sym (ap (λ (z : Option Call). both_hold fits z (call_at q t)) at_s)

  pub probe_moved : (t : ℕ) (b : Call) → call_at q t ≡ Some b → is_probe p (t + moved b.rank) ≡ is_probe q t
  probe_moved t b at_t =
      ap (kind_holds is_probe_kind) (part.calls t b at_t) ∙ probe_moved_kind (moved b.rank) b.kind ∙ sym (ap (kind_holds is_probe_kind) at_t)

  pub one_rank_moved : (s t : ℕ) (a b : Call) → call_at q s ≡ Some a → call_at q t ≡ Some b → are_of_one_rank p (s + moved a.rank) (t + moved b.rank) ≡ are_of_one_rank q s t
  one_rank_moved s t a b at_s at_t =
      ap (λ (z : Option Call). both_hold have_one_rank z (call_at p (t + moved b.rank))) (part.calls s a at_s)
      ∙ ap (both_hold have_one_rank (Some (moved_call (moved a.rank) a))) (part.calls t b at_t)
      ∙ sym (ap (both_hold have_one_rank (Some a)) at_t)
      ∙ sym (ap (λ (z : Option Call). both_hold have_one_rank z (call_at q t)) at_s)

  pub rank_moved : (c r : ℕ) (call : Call) → call_at q c ≡ Some call → call.rank ≡ r → is_of_rank (call_at p (c + moved r)) r ≡ true
  rank_moved c r call there own =
      rank_is (call_at p (c + moved r)) (moved_call (moved call.rank) call) r (ap (λ (z : ℕ). call_at p (c + moved z)) (sym own) ∙ part.calls c call there) own

  -- the rank of a call of the whole is that of the part's call
  pub rank_of_place : (c r : ℕ) (call : Call) → call_at q c ≡ Some call → is_of_rank (call_at p (c + moved call.rank)) r ≡ true → call.rank ≡ r
  rank_of_place c r call there h =
      let x = of_rank (call_at p (c + moved call.rank)) r h in
      let same : moved_call (moved call.rank) call ≡ x.0 = same_Some _ _ (sym (part.calls c call there) ∙ x.1) in
      ap (λ (z : Call). z.rank) same ∙ x.2

  -- the rank of the part's call that stands there
  pub from_rank : (k r : ℕ) → (f : IsFrom q moved k) → is_of_rank (call_at p k) r ≡ true → f.call.rank ≡ r
  from_rank k r f own = rank_of_place f.place r f.call f.there (subst (λ (z : ℕ). is_of_rank (call_at p z) r ≡ true) f.is own)

  -- the part's call may be issued so where that of the whole may
  pub may_in_part : (c : ℕ) (y call : Call) (b : Bool) → call_at q c ≡ Some y → call_at p (c + moved y.rank) ≡ Some call → may_be p.policy call.kind b ≡ true → may_be q.policy y.kind b ≡ true
  may_in_part c y call b at_c there may =
      let k : moved_call (moved y.rank) y ≡ call = same_Some (moved_call (moved y.rank) y) call (sym (part.calls c y at_c) ∙ there) in
      ap (λ (z : Policy). may_be z y.kind b) part.policy ∙ sym (may_be_moved p.policy (moved y.rank) y.kind b) ∙ ap (λ (z : Call). may_be p.policy z.kind b) k ∙ may

  pub may_in_whole : (y : Call) (b : Bool) → may_be q.policy y.kind b ≡ true → may_be p.policy (moved_kind (moved y.rank) y.kind) b ≡ true
  may_in_whole y b may = may_be_moved p.policy (moved y.rank) y.kind b ∙ ap (λ (z : Policy). may_be z y.kind b) (sym part.policy) ∙ may

  -- no two calls of the part stand at one place
  pub one_place : (c d : ℕ) (a b : Call) → call_at q c ≡ Some a → call_at q d ≡ Some b → c + moved a.rank ≡ d + moved b.rank → c ≡ d
  one_place c d a b at_c at_d same =
      let r : a.rank ≡ b.rank = ap (λ (z : Call). z.rank) (same_Some (moved_call (moved a.rank) a) (moved_call (moved b.rank) b) (sym (part.calls c a at_c) ∙ ap (call_at p) same ∙ part.calls d b at_d)) in
      omega (arith, same, ap moved r)

  pub same_place : (c d : ℕ) (a b : Call) → call_at q c ≡ Some a → call_at q d ≡ Some b → c ≡ d → c + moved a.rank ≡ d + moved b.rank
  same_place c d a b at_c at_d same =
      let e : a ≡ b = same_Some a b (sym at_c ∙ ap (call_at q) same ∙ at_d) in
      omega (arith, same, ap (λ (z : Call). moved z.rank) e)

  -- what a match writes, and what a see writes
  pub match_written : (m n : Configuration) (s t : ℕ) (a b : Call) → call_at q s ≡ Some a → call_at q t ≡ Some b → length m.partner ≡ length p.calls → length n.partner ≡ length q.calls
      → (c : ℕ) (call : Call) → call_at q c ≡ Some call → SamePartner q moved (get_or m.partner (c + moved call.rank) None) (get_or n.partner c None)
      → SamePartner q moved (get_or (slice_set (slice_set m.partner (s + moved a.rank) (Some (t + moved b.rank))) (t + moved b.rank) (Some (s + moved a.rank))) (c + moved call.rank) None) (get_or (slice_set (slice_set n.partner s (Some t)) t (Some s)) c None)
  match_written m n s t a b at_s at_t size size' c call there old =
      let S = s + moved a.rank in
      let T = t + moved b.rank in
      set_in_both (SamePartner q moved) (slice_set m.partner S (Some T)) (slice_set n.partner s (Some t)) T t (c + moved call.rank) c (Some S) (Some s) None
      (omega (arith, size, length-set m.partner S (Some T), slice_get_within p.calls T _ (part.calls t b at_t))) (omega (arith, size', length-set n.partner s (Some t), slice_get_within q.calls t b at_t))
      (one_place c t call b there at_t) (same_place c t call b there at_t)
      (set_in_both (SamePartner q moved) m.partner n.partner S s (c + moved call.rank) c (Some T) (Some t) None
      (omega (arith, size, slice_get_within p.calls S _ (part.calls s a at_s))) (omega (arith, size', slice_get_within q.calls s a at_s))
      (one_place c s call a there at_s) (same_place c s call a there at_s) old (b, at_t, refl))
      (a, at_s, refl)

  pub see_written : (m n : Configuration) (s t : ℕ) (a b : Call) → call_at q s ≡ Some a → call_at q t ≡ Some b → length m.partner ≡ length p.calls → length n.partner ≡ length q.calls
      → (c : ℕ) (call : Call) → call_at q c ≡ Some call → SamePartner q moved (get_or m.partner (c + moved call.rank) None) (get_or n.partner c None)
      → SamePartner q moved (get_or (slice_set m.partner (t + moved b.rank) (Some (s + moved a.rank))) (c + moved call.rank) None) (get_or (slice_set n.partner t (Some s)) c None)
  see_written m n s t a b at_s at_t size size' c call there old =
      let S = s + moved a.rank in
      let T = t + moved b.rank in
      set_in_both (SamePartner q moved) m.partner n.partner T t (c + moved call.rank) c (Some S) (Some s) None
      (omega (arith, size, slice_get_within p.calls T _ (part.calls t b at_t))) (omega (arith, size', slice_get_within q.calls t b at_t))
      (one_place c t call b there at_t) (same_place c t call b there at_t) old (a, at_s, refl)

  module _ (program : IsWellFormed q) (m n : Configuration) (seen : IsSeen p q moved m n) where
    pub matched_moved : (c : ℕ) (call : Call) → call_at q c ≡ Some call → is_matched m (c + moved call.rank) ≡ is_matched n c
    matched_moved c call there = matched_is m (c + moved call.rank) ∙ same_some q moved _ _ (seen.partner c call there) ∙ sym (matched_is n c)

    receive_issued : (c o : ℕ) (call : Call) → call_at q c ≡ Some call → receive_of call.kind ≡ Some o → is_issued p m (o + moved call.rank) ≡ is_issued q n o
    receive_issued c o call there names =
        let other = program.probes.named c o call there names in
        subst (λ (z : ℕ). is_issued p m (o + moved z) ≡ is_issued q n o) other.2 (seen.issued o other.0 other.1)

    fetches_moved : (d : ℕ) (k : Kind ℕ) → ((o : ℕ) → receive_of k ≡ Some o → is_issued p m (o + d) ≡ is_issued q n o) → fetches p m (moved_kind d k) ≡ fetches q n k
    fetches_moved d (MatchedProbe pattern receive) h = h receive refl
    fetches_moved d kind h = refl

    fetches_same : (a b : Option ℕ) → SamePartner q moved a b → holds_of (fetches_partner p m) a ≡ holds_of (fetches_partner q n) b
    fetches_same None None s = refl
    fetches_same None (Some t) s = absurd s
    fetches_same (Some x) None s = absurd s
    fetches_same (Some x) (Some t) s =
        let call = s.0 in
        ap (λ (z : ℕ). kind_holds (fetches p m) (call_at p z)) s.2
        ∙ ap (kind_holds (fetches p m)) (part.calls t call s.1)
        ∙ fetches_moved (moved call.rank) call.kind (λ o names. receive_issued t o call s.1 names)
        ∙ sym (ap (kind_holds (fetches q n)) s.1)

    fetched_moved : (c : ℕ) (call : Call) → call_at q c ≡ Some call → is_fetched p m (c + moved call.rank) ≡ is_fetched q n c
    fetched_moved c call there =
        ap (holds_of (fetches_partner p m)) (unwrap_or-slice_get m.partner (c + moved call.rank) None)
        ∙ fetches_same _ _ (seen.partner c call there)
        ∙ sym (ap (holds_of (fetches_partner q n)) (unwrap_or-slice_get n.partner c None))

    buffered_moved : (c : ℕ) (call : Call) → call_at q c ≡ Some call → is_buffered m (c + moved call.rank) ≡ is_buffered n c
    buffered_moved c call there =
        unwrap_or-slice_get m.buffered (c + moved call.rank) false ∙ seen.buffered c call there ∙ sym (unwrap_or-slice_get n.buffered c false)

    done_kind_moved : (d c e : ℕ) (k : Kind ℕ) → is_buffered m c ≡ is_buffered n e → is_fetched p m c ≡ is_fetched q n e → is_matched m c ≡ is_matched n e → is_done_kind p m c (moved_kind d k) ≡ is_done_kind q n e k
    done_kind_moved d c e (Send Standard blocking message) b f h = ap (λ (z : Bool). z || is_fetched p m c) b ∙ ap (λ (z : Bool). is_buffered n e || z) f
    done_kind_moved d c e (Send Synchronous blocking message) b f h = f
    done_kind_moved d c e (Send Buffered blocking message) b f h = refl
    done_kind_moved d c e (Receive blocking pattern) b f h = h
    done_kind_moved d c e (MatchedProbe pattern receive) b f h = h
    done_kind_moved d c e (Probe pattern) b f h = h
    done_kind_moved d c e (MatchedReceive blocking) b f h = refl
    done_kind_moved d c e (Wait operation) b f h = refl

    done_moved : (c : ℕ) (call : Call) → call_at q c ≡ Some call → is_done p m (c + moved call.rank) ≡ is_done q n c
    done_moved c call there =
        ap (kind_holds (is_done_kind p m (c + moved call.rank))) (part.calls c call there)
        ∙ done_kind_moved (moved call.rank) (c + moved call.rank) c call.kind (buffered_moved c call there) (fetched_moved c call there) (matched_moved c call there)
        ∙ sym (ap (kind_holds (is_done_kind q n c)) there)

    returned_kind_moved : (d c e : ℕ) (k : Kind ℕ) → is_done p m c ≡ is_done q n e → ((o : ℕ) → operation_of k ≡ Some o → is_done p m (o + d) ≡ is_done q n o) → is_returned_kind p m c (moved_kind d k) ≡ is_returned_kind q n e k
    returned_kind_moved d c e (Send mode blocking message) h w = ap (λ (z : Bool). not blocking || z) h
    returned_kind_moved d c e (Receive blocking pattern) h w = ap (λ (z : Bool). not blocking || z) h
    returned_kind_moved d c e (MatchedProbe pattern receive) h w = h
    returned_kind_moved d c e (Probe pattern) h w = h
    returned_kind_moved d c e (MatchedReceive blocking) h w = refl
    returned_kind_moved d c e (Wait operation) h w = w operation refl

    operation_done : (c o : ℕ) (call : Call) → call_at q c ≡ Some call → operation_of call.kind ≡ Some o → is_done p m (o + moved call.rank) ≡ is_done q n o
    operation_done c o call there names =
        let other = program.waits.named c o call there names in
        subst (λ (z : ℕ). is_done p m (o + moved z) ≡ is_done q n o) other.2 (done_moved o other.0 other.1)

    pub returned_moved : (c : ℕ) (call : Call) → call_at q c ≡ Some call → is_returned p m (c + moved call.rank) ≡ is_returned q n c
    returned_moved c call there =
        ap (kind_holds (is_returned_kind p m (c + moved call.rank))) (part.calls c call there)
        ∙ returned_kind_moved (moved call.rank) (c + moved call.rank) c call.kind (done_moved c call there) (λ o names. operation_done c o call there names)
        ∙ sym (ap (kind_holds (is_returned_kind q n c)) there)

    pub returned_from : (k : ℕ) → (f : IsFrom q moved k) → is_returned q n f.place ≡ true → is_returned p m k ≡ true
    returned_from k f h = ap (is_returned p m) f.is ∙ returned_moved f.place f.call f.there ∙ h

    -- the call before a part's call has returned there too
    pub before_in_part : (r c : ℕ) → has_returned_before p m r (c + moved r) ≡ true → has_returned_before q n r c ≡ true
    before_in_part r c h =
        before_from q n r c (λ k e own. let x = of_rank (call_at q k) r own in by k e x.0 x.1 x.2)
      where
        by : (k : ℕ) → c ≡ k + 1 → (x : Call) → call_at q k ≡ Some x → x.rank ≡ r → is_returned q n k ≡ true
        by k e x there own =
            let same : k + moved x.rank ≡ k + moved r = ap (λ (z : ℕ). k + moved z) own in
            let returned : is_returned p m (k + moved r) ≡ true = before_to p m r (c + moved r) h (k + moved r) (omega (arith, e)) (rank_moved k r x there own) in
            sym (returned_moved k x there) ∙ ap (is_returned p m) same ∙ returned

    -- what may be found in the whole may be found in the part
    pub find_in_part : (s t : ℕ) (a b : Call) → call_at q s ≡ Some a → call_at q t ≡ Some b → CanFind p m (s + moved a.rank) (t + moved b.rank) → CanFind q n s t
    find_in_part s t a b at_s at_t can =
        record {
          send_issued = sym (seen.issued s a at_s) ∙ can.send_issued;
          finder_issued = sym (seen.issued t b at_t) ∙ can.finder_issued;
          send_open = sym (matched_moved s a at_s) ∙ can.send_open;
          finder_open = sym (matched_moved t b at_t) ∙ can.finder_open;
          fit = sym (fit_moved s t a b at_s at_t) ∙ can.fit;
          sends = λ e below same fit. let y = one_there (call_at q e) a (ap (both_hold have_one_rank (call_at q e)) (sym at_s) ∙ same) in send e y.0 y.1 y.2 below same fit;
          takers = λ e below same taken. let y = one_there (call_at q e) b (ap (both_hold have_one_rank (call_at q e)) (sym at_t) ∙ same) in taker e y.0 y.1 y.2 below same taken;
        }
      where
        send : (e : ℕ) (y : Call) → call_at q e ≡ Some y → y.rank ≡ a.rank → e < s → are_of_one_rank q e s ≡ true → are_fit q e t ≡ true → is_matched n e ≡ true
        send e y at_e own below same fit =
            sym (matched_moved e y at_e) ∙ can.sends (e + moved y.rank) (omega (arith, below, ap moved own)) (one_rank_moved e s y a at_e at_s ∙ same) (fit_moved e t y b at_e at_t ∙ fit)

        taker : (e : ℕ) (y : Call) → call_at q e ≡ Some y → y.rank ≡ b.rank → e < t → are_of_one_rank q e t ≡ true → takes q s e ≡ true → is_matched n e ≡ true
        taker e y at_e own below same taken =
            let parts = and_true (are_fit q s e) (not (is_probe q e)) taken in
            sym (matched_moved e y at_e) ∙ can.takers (e + moved y.rank) (omega (arith, below, ap moved own)) (one_rank_moved e t y b at_e at_t ∙ same) (and_both (are_fit p (s + moved a.rank) (e + moved y.rank)) (not (is_probe p (e + moved y.rank))) (fit_moved s e a y at_s at_e ∙ parts.0) (ap not (probe_moved e y at_e) ∙ parts.1))

    -- what may be found in the part is open in the whole
    pub open_in_whole : (s t : ℕ) (a b : Call) → call_at q s ≡ Some a → call_at q t ≡ Some b → CanFind q n s t → IsOpenPair p m (s + moved a.rank) (t + moved b.rank)
    open_in_whole s t a b at_s at_t can =
        record {
          send_issued = seen.issued s a at_s ∙ can.send_issued;
          finder_issued = seen.issued t b at_t ∙ can.finder_issued;
          send_open = matched_moved s a at_s ∙ can.send_open;
          finder_open = matched_moved t b at_t ∙ can.finder_open;
          fit = fit_moved s t a b at_s at_t ∙ can.fit;
        }

-- ---- the calls that fit

fit_there : (a b : Option Call) → both_hold fits a b ≡ true → ((x : Call) × (a ≡ Some x)) × ((y : Call) × (b ≡ Some y))
fit_there None b holds = absurd (cc)
fit_there (Some x) None holds = absurd (cc)
fit_there (Some x) (Some y) holds = ((x, refl), (y, refl))

pub fit_calls_there : (p : MpiProgram) (s t : ℕ) → are_fit p s t ≡ true → ((x : Call) × (call_at p s ≡ Some x)) × ((y : Call) × (call_at p t ≡ Some y))
fit_calls_there p s t fit = fit_there (call_at p s) (call_at p t) fit

-- what stands between two calls of a rank is of that rank
between_as : (p : MpiProgram) → IsWellFormed p → (r e k s : ℕ) (y z : Call) → e ≤ k → k ≤ s → call_at p e ≡ Some y → y.rank ≡ r → call_at p s ≡ Some z → z.rank ≡ r → (o : Option Call) → call_at p k ≡ o → is_of_rank (call_at p k) r ≡ true
between_as p is r e k s y z low high at_e own at_s own' None at_k =
    absurd (omega (arith, slice_get-none_past p.calls k at_k, slice_get_within p.calls s z at_s))
between_as p is r e k s y z low high at_e own at_s own' (Some w) at_k =
    rank_is (call_at p k) w r at_k (omega (arith, is.rank_order e k y w low at_e at_k, is.rank_order k s w z high at_k at_s))

pub of_rank_between : (p : MpiProgram) → IsWellFormed p → (r e k s : ℕ) → e ≤ k → k ≤ s → is_of_rank (call_at p e) r ≡ true → is_of_rank (call_at p s) r ≡ true → is_of_rank (call_at p k) r ≡ true
of_rank_between p is r e k s low high at_e at_s =
    let y = of_rank (call_at p e) r at_e in
    let z = of_rank (call_at p s) r at_s in
    between_as p is r e k s y.0 z.0 low high y.1 y.2 z.1 z.2 (call_at p k) refl

-- ---- sizes

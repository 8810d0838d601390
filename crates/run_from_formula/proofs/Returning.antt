-- The call before one whose issue has its turn has returned.
use Rattle.std.proofs.Common.{◌≡◌, ℕ, zero, suc, ◌+◌, ◌-◌, ◌<◌, ◌≤◌, Bool, true, false, ◌||◌, if◌then◌else◌, List, [], ◌∷◌, Option, Some, None, is_some, length, refl, sym, ap, ◌∙◌, subst, arith}
use Rattle.std.proofs.lemmas.Bool.{eqb-true, eq-eqb}
use Rattle.std.proofs.lemmas.Option.{slice_get_within}
use Rattle.calltext.specs.declared.call.Mode.TheVariants.{Standard, Synchronous, Buffered}
use Rattle.calltext.specs.Grammar.{short}
use Rattle.callorder.specs.declared.calls.Call.{Call}
use Rattle.callorder.specs.declared.calls.Kind.{Kind}
use Rattle.callorder.specs.declared.calls.Kind.TheVariants.{Send, Receive, MatchedProbe, Probe, MatchedReceive, Wait}
use Rattle.callorder.specs.declared.calls.Pattern.{Pattern}
use Rattle.callorder.specs.Calls.{receive_of, pattern_of, is_probe_kind, both_hold, holds_of, fits}
use Rattle.callorder.specs.ProgramRules.{IsProgram}
use Rattle.callorder.specs.Programs.{MpiProgram, call_at, are_of_one_rank, is_probe, kind_holds, have_one_rank}
use Rattle.semantics.specs.Machine.{Configuration, is_issued, is_buffered, is_fetched, partner_of, fetches, fetches_partner, is_returned}
use Rattle.semantics.proofs.RankOrder.{one_rank_between}
use Rattle.formula.specs.declared.facts.RunEvent.{RunEvent}
use Rattle.formula.specs.declared.facts.RunEvent.TheVariants.{Issue as issue_of, Match as match_of}
use Rattle.formula.specs.declared.facts.Fact.TheVariants.{Issued as issued, Buffered as buffered}
use Rattle.formula.specs.declared.facts.Statement.TheVariants.{Holds as is_true}
use Rattle.formula.specs.declared.facts.Condition.{Condition}
use Rattle.formula.specs.declared.facts.Condition.TheVariants.{AtOnce as at_once, IfMatched as if_matched, IfFetched as if_fetched, IfBufferedOrFetched as if_buffered_or_fetched}
use Rattle.formula.specs.Families.{is_standard, is_standard_call, is_standard_kind, previous_of_rank, receive_of_call, receive_on_handle, event_of_fetch, when_done, when_done_call, when_done_kind, when_returned, when_returned_call, when_returned_kind, is_returned_before}
use Rattle.formula.proofs.Elements.{Each, or_left, or_right}
use Rattle.formula_from_run.specs.Worlds.{World}
use Rattle.formula_from_run.proofs.Matches.{fit_within, no_probe}
use Rattle.run_laws.proofs.Descent.{takes_fit}
use Rattle.formula_from_run.proofs.Returns.{condition_holds, returned_is, no_pattern}
use Rattle.formula_from_run.proofs.Starts.{there_within}
use Rattle.formula_from_run.proofs.Waits.{names_issued, done_names, blocking_names}
use Rattle.run_from_formula.proofs.Consequences.{Hold, Consequences, FetchedBefore, fetched_before, matched_before}
use Rattle.run_from_formula.proofs.Stages.{IsStage, issued_by, sent_by, received_by}

-- ---- calls of one rank

one_rank_both : (x y z : Option Call) → both_hold have_one_rank x z ≡ true → both_hold have_one_rank y z ≡ true → both_hold have_one_rank x y ≡ true
one_rank_both None y z h k = absurd (cc)
one_rank_both (Some x) None z h k = absurd (cc)
one_rank_both (Some x) (Some y) None h k = absurd (cc)
one_rank_both (Some x) (Some y) (Some z) h k =
    let a : z.rank ≡ x.rank = eqb-true z.rank x.rank h in
    let b : z.rank ≡ y.rank = eqb-true z.rank y.rank k in
    eq-eqb y.rank x.rank (sym b ∙ a)

pub previous_is : (p : MpiProgram) (c : ℕ) → are_of_one_rank p c (suc c) ≡ true → previous_of_rank p (suc c) ≡ Some c
previous_is p c same = ap (λ (b : Bool). if b then Some c else None) same

-- ---- a send that a condition names is a standard one

standard_kind : (k : Kind ℕ) (o s : ℕ) → when_done_kind k o ≡ if_buffered_or_fetched s → is_standard_kind k ≡ true
standard_kind (Send Standard blocking message) o s e = refl
standard_kind (Send Synchronous blocking message) o s e = absurd (cc)
standard_kind (Send Buffered blocking message) o s e = absurd (cc)
standard_kind (Receive blocking pattern) o s e = absurd (cc)
standard_kind (MatchedProbe pattern receive) o s e = absurd (cc)
standard_kind (Probe pattern) o s e = absurd (cc)
standard_kind (MatchedReceive blocking) o s e = absurd (cc)
standard_kind (Wait operation) o s e = absurd (cc)

standard_call : (x : Option Call) (o s : ℕ) → when_done_call x o ≡ if_buffered_or_fetched s → is_standard_call x ≡ true
standard_call None o s e = absurd (cc)
standard_call (Some x) o s e = standard_kind x.kind o s e

standard_done : (p : MpiProgram) (o s : ℕ) → when_done p o ≡ if_buffered_or_fetched s → is_standard p s ≡ true
standard_done p o s e =
    let same : o ≡ s = done_names (call_at p o) o s e in
    subst (λ (z : ℕ). is_standard p z ≡ true) same (standard_call (call_at p o) o s e)

standard_returned : (p : MpiProgram) (c s : ℕ) (k : Kind ℕ) → when_returned_kind p k c ≡ if_buffered_or_fetched s → is_standard p s ≡ true
standard_returned p c s (Send mode blocking message) e = standard_done p c s (blocking_names blocking (when_done p c) s e)
standard_returned p c s (Receive blocking pattern) e = standard_done p c s (blocking_names blocking (when_done p c) s e)
standard_returned p c s (MatchedProbe pattern receive) e = standard_done p c s e
standard_returned p c s (Probe pattern) e = standard_done p c s e
standard_returned p c s (MatchedReceive blocking) e = absurd (cc)
standard_returned p c s (Wait operation) e = standard_done p operation s e

pub names_standard : (p : MpiProgram) (c s : ℕ) (call : Call) → call_at p c ≡ Some call → when_returned p c ≡ if_buffered_or_fetched s → is_standard p s ≡ true
names_standard p c s call there e = standard_returned p c s call.kind (subst (λ (z : Option Call). when_returned_call p z c ≡ if_buffered_or_fetched s) there e)

-- ---- issues of one rank

when_probe : (p : MpiProgram) (t receive : ℕ) (call : Call) (pattern : Pattern) → call_at p t ≡ Some call → call.kind ≡ MatchedProbe pattern receive → when_returned p t ≡ if_matched t
when_probe p t receive call pattern there kind =
    ap (λ (z : Option Call). when_returned_call p z t) there ∙
    ap (λ (k : Kind ℕ). when_returned_kind p k t) kind ∙
    ap (λ (z : Option Call). when_done_call z t) there ∙
    ap (λ (k : Kind ℕ). when_done_kind k t) kind

module _ (p : MpiProgram) (world : World) (is : IsProgram p) (says : Consequences p world) where
  -- where a call is issued, an earlier one of its rank is, and no later
  chain : (n e c : ℕ) → c ≡ e + n → c < length p.calls → are_of_one_rank p e c ≡ true → world.has (issued c) ≡ true → (world.has (issued e) ≡ true) × (world.clock (issue_of e) ≤ world.clock (issue_of c))
  chain zero e c at below same i =
      let one : c ≡ e = omega (arith, at) in
      let clocks : world.clock (issue_of c) ≡ world.clock (issue_of e) = ap (λ (z : ℕ). world.clock (issue_of z)) one in
      (subst (λ (z : ℕ). world.has (issued z) ≡ true) one i, omega (arith, clocks))
  chain (suc n) e zero at below same i = absurd (omega (arith, at))
  chain (suc n) e (suc k) at below same i =
      let before : k ≡ e + n = omega (arith, at) in
      let here : are_of_one_rank p k (suc k) ≡ true = one_rank_between short p is e k (suc k) (omega (arith, before)) (omega arith) same in
      let step = says.order (suc k) k below (previous_is p k here) in
      let rest = chain n e k before (omega (arith, below)) (one_rank_both (call_at p e) (call_at p k) (call_at p (suc k)) same here) (step.both i) in
      (rest.0, omega (arith, rest.1, step.before))

  -- a matched probe is matched before the receive on its handle is issued
  probe_first : (t receive : ℕ) (call : Call) (pattern : Pattern) → call_at p t ≡ Some call → call.kind ≡ MatchedProbe pattern receive → world.has (issued receive) ≡ true → (receive < length p.calls) × (world.clock (match_of t) < world.clock (issue_of receive))
  probe_first t receive call pattern there kind i =
      let named : receive_of call.kind ≡ Some receive = ap receive_of kind in
      let other = is.probes.named t receive call there named in
      let after_it = is.receives_later t receive call there named in
      let below = slice_get_within p.calls receive other.0 other.1 in
      let ranks : both_hold have_one_rank (Some call) (Some other.0) ≡ true = eq-eqb other.0.rank call.rank other.2 in
      let same : both_hold have_one_rank (call_at p t) (call_at p receive) ≡ true = rw (there, other.1) ranks in
      let rest = one_rank_between short p is t (suc t) receive (omega arith) (omega (arith, after_it)) same in
      let pair = one_rank_both (call_at p t) (call_at p (suc t)) (call_at p receive) same rest in
      let reach = chain (receive - suc t) (suc t) receive (omega (arith, after_it)) below rest i in
      let waits = says.returns (suc t) t (omega (arith, after_it, below)) (previous_is p t pair) in
      let w = matched_before p world (suc t) t (subst (λ (k : Condition). Hold world (is_returned_before p (suc t) k)) (when_probe p t receive call pattern there kind) waits) reach.0 in
      (below, omega (arith, w.earlier, reach.1))

-- ---- what a call waits for

fetched_from : (p : MpiProgram) (m : Configuration) (s t : ℕ) (call : Call) (k : Kind ℕ) → partner_of m s ≡ Some t → call_at p t ≡ Some call → call.kind ≡ k → fetches p m k ≡ true → is_fetched p m s ≡ true
fetched_from p m s t call k partner there kind h =
    ap (holds_of (fetches_partner p m)) partner ∙ ap (kind_holds (fetches p m)) there ∙ ap (fetches p m) kind ∙ h

module _ (p : MpiProgram) (world : World) (is : IsProgram p) (says : Consequences p world) (m : Configuration) (left : List RunEvent) (c : ℕ) (stage : IsStage p world m left) (later : Each (λ y. world.clock (issue_of c) ≤ world.clock y) left) where
  fetched_kind : (s : ℕ) (w : FetchedBefore p world c s) (call : Call) → call_at p w.taker ≡ Some call → (k : Kind ℕ) → call.kind ≡ k → is_fetched p m s ≡ true
  fetched_kind s w call there (Receive blocking pattern) kind =
      let none : receive_on_handle p w.taker ≡ None = ap receive_of_call there ∙ ap receive_of kind in
      let earlier : world.clock (match_of w.taker) < world.clock (issue_of c) = subst (λ (o : Option ℕ). world.clock (event_of_fetch o w.taker) < world.clock (issue_of c)) none w.earlier in
      fetched_from p m s w.taker call (Receive blocking pattern) (sent_by p world m left (issue_of c) stage later s w.taker w.fits w.paired earlier) there kind refl
  fetched_kind s w call there (MatchedProbe pattern receive) kind =
      let handle : receive_on_handle p w.taker ≡ Some receive = ap receive_of_call there ∙ ap receive_of kind in
      let i = w.received receive handle in
      let earlier : world.clock (issue_of receive) < world.clock (issue_of c) = subst (λ (o : Option ℕ). world.clock (event_of_fetch o w.taker) < world.clock (issue_of c)) handle w.earlier in
      let first = probe_first p world is says w.taker receive call pattern there kind i in
      let partner = sent_by p world m left (issue_of c) stage later s w.taker w.fits w.paired (omega (arith, first.1, earlier)) in
      fetched_from p m s w.taker call (MatchedProbe pattern receive) partner there kind (issued_by p world m left (issue_of c) stage later receive first.0 i earlier)
  fetched_kind s w call there (Probe pattern) kind =
      absurd (
      let yes : is_probe p w.taker ≡ true = ap (kind_holds is_probe_kind) there ∙ ap is_probe_kind kind in
      let no_see = no_probe p s w.taker w.fits in
      cc
      )
  fetched_kind s w call there (Send mode blocking message) kind = absurd (no_pattern call (call_at p s) (ap pattern_of kind) (subst (λ (z : Option Call). both_hold fits (call_at p s) z ≡ true) there (takes_fit p s w.taker w.fits)))
  fetched_kind s w call there (MatchedReceive blocking) kind = absurd (no_pattern call (call_at p s) (ap pattern_of kind) (subst (λ (z : Option Call). both_hold fits (call_at p s) z ≡ true) there (takes_fit p s w.taker w.fits)))
  fetched_kind s w call there (Wait operation) kind = absurd (no_pattern call (call_at p s) (ap pattern_of kind) (subst (λ (z : Option Call). both_hold fits (call_at p s) z ≡ true) there (takes_fit p s w.taker w.fits)))

  fetched_now : (s : ℕ) → FetchedBefore p world c s → is_fetched p m s ≡ true
  fetched_now s w =
      let call = there_within p.calls w.taker (fit_within p s w.taker (takes_fit p s w.taker w.fits)).1 in
      fetched_kind s w call.0 call.1 call.0.kind refl

  -- a send that may be buffered
  buffered_or_fetched : (s : ℕ) (b : Bool) → world.has (buffered s) ≡ b → is_issued p m s ≡ true → is_standard p s ≡ true → Hold world (is_returned_before p c (if_buffered_or_fetched s)) → world.has (issued c) ≡ true → (is_buffered m s || is_fetched p m s) ≡ true
  buffered_or_fetched s true e there standard h i = or_left (is_buffered m s) (is_fetched p m s) (stage.flags s there standard ∙ e)
  buffered_or_fetched s false e there standard h i =
      let off : (world.has (buffered s) || false) ≡ false = ap (λ (z : Bool). z || false) e in
      or_right (is_buffered m s) (is_fetched p m s) (fetched_now s (fetched_before p world c s (is_true (buffered s) ∷ []) off h i))

  holds_before : (k : Condition) → ((s : ℕ) → k ≡ if_buffered_or_fetched s → (is_issued p m s ≡ true) × (is_standard p s ≡ true)) → Hold world (is_returned_before p c k) → world.has (issued c) ≡ true → condition_holds p m k ≡ true
  holds_before at_once names h i = refl
  holds_before (if_matched taker) names h i =
      let w = matched_before p world c taker h i in
      ap is_some (received_by p world m left (issue_of c) stage later w.send taker w.fits w.paired w.earlier)
  holds_before (if_fetched s) names h i = fetched_now s (fetched_before p world c s [] refl h i)
  holds_before (if_buffered_or_fetched s) names h i = buffered_or_fetched s (world.has (buffered s)) refl (names s refl).0 (names s refl).1 h i

  -- the call before has returned
  pub has_returned : (d : ℕ) → c ≡ suc d → c < length p.calls → are_of_one_rank p d (suc d) ≡ true → world.has (issued c) ≡ true → (is_issued p m d ≡ true) × (is_returned p m d ≡ true)
  has_returned d at below same i =
      let prev : previous_of_rank p c ≡ Some d = subst (λ (z : ℕ). previous_of_rank p z ≡ Some d) (sym at) (previous_is p d same) in
      let d_below : d < length p.calls = omega (arith, at, below) in
      let call = there_within p.calls d d_below in
      let order = says.order c d below prev in
      let there = issued_by p world m left (issue_of c) stage later d d_below (order.both i) order.before in (
        there,
        returned_is p m d call.0 is call.1 ∙
            holds_before (when_returned p d) (λ s e. (names_issued p m d s call.0 is call.1 e there, names_standard p d s call.0 call.1 e)) (says.returns c d below prev) i,
      )

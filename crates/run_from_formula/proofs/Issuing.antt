-- A call whose issue has its turn may be issued, and what stands then.
use Rattle.std.proofs.Common.{◌≡◌, ◌≢◌, ℕ, zero, suc, ◌+◌, ◌<◌, ◌≤◌, inl, inr, Bool, true, false, not, ◌&&◌, ◌||◌, ◌==◌, nat_lt, List, ◌∷◌, Option, Some, None, length, slice_get, slice_set, slice_index, get_or, refl, sym, ap, ◌∙◌, subst, arith, length-set, get_or-set_same, get_or-set_other}
use Rattle.std.proofs.Math.Bool.{and-false}
use Rattle.std.proofs.lemmas.Bool.{cases_eq, eqb-true, eq-eqb, and_parts}
use Rattle.std.proofs.lemmas.Bool.Decides.{nat_tests}
use Rattle.std.proofs.lemmas.Option.{slice_get-get_or, slice_get_within, unwrap_or-slice_get}
use Rattle.calltext.specs.declared.call.Mode.TheVariants.{Standard}
use Rattle.calltext.specs.declared.call.Policy.{Policy}
use Rattle.calltext.specs.declared.call.Policy.TheVariants.{Any, Never, Always}
use Rattle.callorder.specs.declared.calls.Call.{Call}
use Rattle.callorder.specs.declared.calls.Kind.{Kind}
use Rattle.callorder.specs.declared.calls.Kind.TheVariants.{Send}
use Rattle.callorder.specs.ProgramRules.{IsProgram}
use Rattle.callorder.specs.Programs.{MpiProgram, call_at, is_of_rank, have_one_rank}
use Rattle.callorder.specs.Calls.{both_hold, holds_of, fits}
use Rattle.semantics.specs.declared.state.Step.TheVariants.{Issue}
use Rattle.semantics.specs.Machine.{Configuration, first_call, after, is_issued, is_issued_call, is_buffered, has_returned_before, may_be, can_issue, can_issue_next, can_issue_call}
use Rattle.semantics.proofs.Lengths.{Issues}
use Rattle.formula.specs.declared.facts.RunEvent.{RunEvent}
use Rattle.formula.specs.declared.facts.RunEvent.TheVariants.{Issue as issue_of}
use Rattle.formula.specs.declared.facts.Fact.TheVariants.{Issued as issued, Buffered as buffered}
use Rattle.formula.specs.Families.{is_standard, is_standard_call, is_standard_kind, buffered_under}
use Rattle.formula.proofs.Elements.{Each, and_both, or_left, or_right}
use Rattle.formula_from_run.specs.Worlds.{World}
use Rattle.formula_from_run.proofs.Flags.{now_issued, other_unmoved}
use Rattle.formula_from_run.proofs.Ranks.{not_false}
use Rattle.formula_from_run.proofs.Starts.{there_within}
use Rattle.run_from_formula.proofs.Along.{or_only}
use Rattle.run_from_formula.proofs.Consequences.{Hold, Consequences}
use Rattle.run_from_formula.proofs.Happening.{is_in}
use Rattle.run_from_formula.proofs.Stages.{done_then, IsStage, before_first}
use Rattle.run_from_formula.proofs.Returning.{has_returned}

-- ---- the choice of buffering

-- what the policy's clause says is what the policy allows
allowed : (world : World) (c : ℕ) (policy : Policy) (k : Kind ℕ) → (is_standard_kind k ≡ true → Hold world (buffered_under policy c)) → may_be policy k (is_standard_kind k && world.has (buffered c)) ≡ true
allowed world c Any (Send Standard blocking message) says = refl
allowed world c Never (Send Standard blocking message) says = or_only _ (and_parts (not (world.has (buffered c)) || false) true (says refl)).0
allowed world c Always (Send Standard blocking message) says = or_only _ (and_parts (world.has (buffered c) || false) true (says refl)).0
allowed world c policy k says = refl

-- ---- the place of the rank

-- a call behind one of another rank is the first of its rank
first_start : (p : MpiProgram) (d : ℕ) (before call : Call) → IsProgram p → call_at p d ≡ Some before → call_at p (suc d) ≡ Some call → is_of_rank (call_at p d) call.rank ≡ false → suc d ≤ first_call p call.rank
first_start p d before call is there next apart =
    let le = is.rank_order d (suc d) before call (omega arith) there next in
    let differ : (before.rank == call.rank) ≡ false = sym (ap (λ (z : Option Call). is_of_rank z call.rank) there) ∙ apart in
    before_first p call.rank d before is there (grind (arith, nat_tests))

-- an issue leaves other calls as they are
other_issued : (m : Configuration) (r c d : ℕ) (b : Bool) (x : Option Call) → r < length m.next → slice_index m.next r ≡ c → d ≢ c → holds_of (is_issued_call (after m (Issue r b)) d) x ≡ holds_of (is_issued_call m d) x
other_issued m r c d b None within at differ = refl
other_issued m r c d b (Some x) within at differ =
    elim (cases_eq x.rank r) [
      | inl e ↦
          let moved : slice_index (slice_set m.next r (slice_index m.next r + 1)) x.rank ≡ slice_index m.next r + 1 = ap (slice_index (slice_set m.next r (slice_index m.next r + 1))) e ∙ get_or-set_same m.next r (slice_index m.next r + 1) 0 within in
          let here : slice_index m.next x.rank ≡ slice_index m.next r = ap (slice_index m.next) e in
          rw (moved, here, at) (grind (arith, nat_tests))
      | inr apart ↦ ap (nat_lt d) (get_or-set_other m.next r x.rank (slice_index m.next r + 1) 0 apart)
    ]

module _ (p : MpiProgram) (world : World) (is : IsProgram p) (says : Consequences p world) (m : Configuration) (rest : List RunEvent) (c : ℕ) (call : Call) (there : call_at p c ≡ Some call) (does : world.has (issued c) ≡ true) (stage : IsStage p world m (issue_of c ∷ rest)) (later : Each (λ y. world.clock (issue_of c) ≤ world.clock y) rest) where
  not_yet : is_issued p m c ≡ false
  not_yet =
      stage.issues c (slice_get_within p.calls c call there) ∙
      ap (λ (b : Bool). world.has (issued c) && not (b || is_in rest (issue_of c))) (eq-eqb c c refl) ∙
      and-false (world.has (issued c))

  after_call : (d : ℕ) (b : Bool) → c ≡ suc d → is_of_rank (call_at p d) call.rank ≡ b → (suc d ≤ slice_index m.next call.rank) × (has_returned_before p m call.rank (suc d) ≡ true)
  after_call d true at same =
      let below : c < length p.calls = slice_get_within p.calls c call there in
      let before = there_within p.calls d (omega (arith, at, below)) in
      let here : call_at p (suc d) ≡ Some call = subst (λ (z : ℕ). call_at p z ≡ Some call) at there in
      let rank : before.0.rank ≡ call.rank = eqb-true before.0.rank call.rank (subst (λ (z : Option Call). is_of_rank z call.rank ≡ true) before.1 same) in
      let ranks : both_hold have_one_rank (Some before.0) (Some call) ≡ true = eq-eqb call.rank before.0.rank (sym rank) in
      let one : both_hold have_one_rank (call_at p d) (call_at p (suc d)) ≡ true = rw (before.1, here) ranks in
      let back = has_returned p world is says m (issue_of c ∷ rest) c stage (omega arith, later) d at below one does in
      let past : nat_lt d (slice_index m.next before.0.rank) ≡ true = subst (λ (z : Option Call). holds_of (is_issued_call m d) z ≡ true) before.1 back.0 in
      let own : nat_lt d (slice_index m.next call.rank) ≡ true = subst (λ (z : ℕ). nat_lt d (slice_index m.next z) ≡ true) rank past in
      (grind (arith, nat_tests), or_right (not (is_of_rank (call_at p d) call.rank)) _ back.1)
  after_call d false at apart =
      let below : c < length p.calls = slice_get_within p.calls c call there in
      let before = there_within p.calls d (omega (arith, at, below)) in
      let here : call_at p (suc d) ≡ Some call = subst (λ (z : ℕ). call_at p z ≡ Some call) at there in
      let first = first_start p d before.0 call is before.1 here apart in
      let started = stage.started call.rank (is.in_range c call there).own in
      (omega (arith, first, started), or_left (not (is_of_rank (call_at p d) call.rank)) _ (not_false _ apart))

  ready_at : (n : ℕ) → c ≡ n → (n ≤ slice_index m.next call.rank) × (has_returned_before p m call.rank n ≡ true)
  ready_at zero at = (omega arith, refl)
  ready_at (suc d) at = after_call d (is_of_rank (call_at p d) call.rank) at refl

  rank_within : call.rank < length m.next
  rank_within = omega (arith, stage.size.next, (is.in_range c call there).own)

  next_at : slice_index m.next call.rank ≡ c
  next_at =
      let ready = ready_at c refl in
      let open_yet : nat_lt c (slice_index m.next call.rank) ≡ false = subst (λ (z : Option Call). holds_of (is_issued_call m c) z ≡ false) there not_yet in
      let most : slice_index m.next call.rank ≤ c = grind (arith, nat_tests) in
      omega (arith, ready.0, most)

  next_there : slice_get m.next call.rank ≡ Some c
  next_there = slice_get-get_or m.next call.rank 0 rank_within ∙ ap Some next_at

  abbrev issue : Issues p m call.rank
  issue = record { place = c; call = call; next = next_there; there = there; own = refl }

  -- as a buffered send, or not, as the world says
  abbrev choice : Bool
  choice = is_standard p c && world.has (buffered c)

  pub issue_enabled : can_issue p m call.rank choice ≡ true
  issue_enabled =
      let below : c < length p.calls = slice_get_within p.calls c call there in
      let kind : is_standard p c ≡ is_standard_kind call.kind = ap is_standard_call there in
      let may : may_be p.policy call.kind (is_standard_kind call.kind && world.has (buffered c)) ≡ true = allowed world c p.policy call.kind (λ h. says.policy c below (kind ∙ h)) in
      let may_here : may_be p.policy call.kind choice ≡ true = subst (λ (z : Bool). may_be p.policy call.kind (z && world.has (buffered c)) ≡ true) (sym kind) may in
      let one : holds_of (can_issue_call p m call.rank choice c) (Some call) ≡ true = and_both _ _ (and_both _ _ (eq-eqb call.rank call.rank refl) (ready_at c refl).1) may_here in
      let two : holds_of (can_issue_call p m call.rank choice c) (call_at p c) ≡ true = subst (λ (z : Option Call). holds_of (can_issue_call p m call.rank choice c) z ≡ true) (sym there) one in
      subst (λ (z : Option ℕ). holds_of (can_issue_next p m call.rank choice) z ≡ true) (sym next_there) two

  -- ---- the stage after it

  started_on : (q : ℕ) → q < p.ranks → first_call p q ≤ slice_index (after m (Issue call.rank choice)).next q
  started_on q below =
      elim (cases_eq q call.rank) [
        | inl e ↦ subst (λ (z : ℕ). first_call p z ≤ slice_index (after m (Issue call.rank choice)).next z) (sym e) (omega (arith, stage.started call.rank (is.in_range c call there).own, get_or-set_same m.next call.rank (slice_index m.next call.rank + 1) 0 rank_within))
        | inr apart ↦ omega (arith, stage.started q below, get_or-set_other m.next call.rank q (slice_index m.next call.rank + 1) 0 apart)
      ]

  own_at : (k : ℕ) → first_call p call.rank ≤ k → k < slice_index (after m (Issue call.rank choice)).next call.rank → is_of_rank (call_at p k) call.rank ≡ true
  own_at k from above =
      elim (cases_eq k c) [
        | inl e ↦ ap (λ (z : ℕ). is_of_rank (call_at p z) call.rank) e ∙ ap (λ (z : Option Call). is_of_rank z call.rank) there ∙ eq-eqb call.rank call.rank refl
        | inr differ ↦ stage.own call.rank k (is.in_range c call there).own from (omega (arith, above, differ, next_at, get_or-set_same m.next call.rank (slice_index m.next call.rank + 1) 0 rank_within))
      ]

  own_calls : (q k : ℕ) → q < p.ranks → first_call p q ≤ k → k < slice_index (after m (Issue call.rank choice)).next q → is_of_rank (call_at p k) q ≡ true
  own_calls q k below from above =
      elim (cases_eq q call.rank) [
        | inl e ↦ subst (λ (z : ℕ). first_call p z ≤ k → k < slice_index (after m (Issue call.rank choice)).next z → is_of_rank (call_at p k) z ≡ true) (sym e) (own_at k) from above
        | inr apart ↦ stage.own q k below from (omega (arith, above, get_or-set_other m.next call.rank q (slice_index m.next call.rank + 1) 0 apart))
      ]

  issues_then : is_in rest (issue_of c) ≡ false → (d : ℕ) → d < length p.calls → is_issued p (after m (Issue call.rank choice)) d ≡ (world.has (issued d) && not (is_in rest (issue_of d)))
  issues_then once d below =
      elim (cases_eq d c) [
        | inl e ↦
            let now : is_issued p (after m (Issue call.rank choice)) c ≡ true = now_issued p m call.rank choice issue in
            let said : (world.has (issued c) && not (is_in rest (issue_of c))) ≡ true = and_both _ _ does (not_false _ once) in
            subst (λ (z : ℕ). is_issued p (after m (Issue call.rank choice)) z ≡ (world.has (issued z) && not (is_in rest (issue_of z)))) (sym e) (now ∙ sym said)
        | inr differ ↦
            let unlike : (d == c) ≡ false = grind (arith, nat_tests) in
            other_issued m call.rank c d choice (call_at p d) rank_within next_at differ ∙
            stage.issues d below ∙
            ap (λ (b : Bool). world.has (issued d) && not (b || is_in rest (issue_of d))) unlike
      ]

  flags_then : (s : ℕ) → is_issued p (after m (Issue call.rank choice)) s ≡ true → is_standard p s ≡ true → is_buffered (after m (Issue call.rank choice)) s ≡ world.has (buffered s)
  flags_then s i standard =
      elim (cases_eq s c) [
        | inl e ↦
            let within : slice_index m.next call.rank < length m.buffered = omega (arith, next_at, stage.size.buffered, slice_get_within p.calls c call there) in
            let flag : is_standard p c ≡ true = ap (is_standard p) (sym e) ∙ standard in
            unwrap_or-slice_get (slice_set m.buffered (slice_index m.next call.rank) choice) s false ∙
            ap (λ (z : ℕ). get_or (slice_set m.buffered (slice_index m.next call.rank) choice) z false) (e ∙ sym next_at) ∙
            get_or-set_same m.buffered (slice_index m.next call.rank) choice false within ∙
            ap (λ (b : Bool). b && world.has (buffered c)) flag ∙
            ap (λ (z : ℕ). world.has (buffered z)) (sym e)
        | inr differ ↦
            other_unmoved p m call.rank choice s issue differ ∙
            stage.flags s (sym (other_issued m call.rank c s choice (call_at p s) rank_within next_at differ) ∙ i) standard
      ]

  pub stage_after_issue : is_in rest (issue_of c) ≡ false → IsStage p world (after m (Issue call.rank choice)) rest
  stage_after_issue once =
      record {
        size = record {
          next = length-set m.next call.rank (slice_index m.next call.rank + 1) ∙ stage.size.next;
          buffered = length-set m.buffered (slice_index m.next call.rank) choice ∙ stage.size.buffered;
          partner = stage.size.partner;
        };
        started = started_on;
        own = own_calls;
        issues = issues_then once;
        flags = flags_then;
        sends = stage.sends;
        takers = stage.takers;
        fits = stage.fits;
        done = done_then p world m (issue_of c) rest stage later;
      }

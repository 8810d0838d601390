-- Where no event is left, the configuration is stuck if some rank is unfinished.
use Rattle.std.proofs.Common.{◌≡◌, ℕ, zero, suc, ◌+◌, ◌<◌, ◌≤◌, inl, inr, Bool, true, false, not, ◌&&◌, ◌||◌, ◌==◌, nat_lt, if◌then◌else◌, [], ◌∷◌, map, Option, Some, None, is_some, length, slice_index, refl, sym, ap, ◌∙◌, subst, arith}
use Rattle.std.specs.List.{filter, list_any}
use Rattle.std.proofs.Math.Bool.{and-true}
use Rattle.std.proofs.lemmas.Bool.{cases_lt, and_parts, eq-eqb}
use Rattle.std.proofs.lemmas.Bool.Decides.{nat_tests}
use Rattle.std.proofs.lemmas.Option.{slice_get_within}
use Rattle.callorder.specs.declared.calls.Call.{Call}
use Rattle.callorder.specs.ProgramRules.{IsProgram}
use Rattle.callorder.specs.Programs.{MpiProgram, call_at, is_of_rank, are_fit, takes, are_of_one_rank, kind_holds}
use Rattle.callorder.specs.Calls.{holds_of, fits}
use Rattle.semantics.specs.Machine.{Configuration, CanFind, IsStuck, first_call, is_issued, is_issued_call, is_buffered, is_fetched, is_matched, partner_of, is_returned, has_returned_before, may_be, can_issue, can_issue_next, can_issue_call, is_rank_finished, fetches}
use Rattle.semantics.proofs.Lengths.{Issues, issues}
use Rattle.semantics.proofs.Runs.{IsStuck-made}
use Rattle.candidates.specs.Pairs.{places}
use Rattle.formula.specs.declared.facts.Fact.TheVariants.{Issued as issued, Buffered as buffered, Matched as matched, Unfinished as unfinished}
use Rattle.formula.specs.declared.facts.Statement.{Statement}
use Rattle.formula.specs.declared.facts.Statement.TheVariants.{Holds as is_true, Fails as is_false}
use Rattle.formula.specs.declared.facts.Condition.{Condition}
use Rattle.formula.specs.declared.facts.Condition.TheVariants.{AtOnce as at_once, IfMatched as if_matched, IfFetched as if_fetched, IfBufferedOrFetched as if_buffered_or_fetched}
use Rattle.formula.specs.Families.{SymbolicClause, is_standard, rank_of, receive_on_handle, when_returned, where_fetched, where_returned, where_returned_under, unless_issued}
use Rattle.formula_from_run.specs.Worlds.{World, is_right, clause_holds, clauses_hold}
use Rattle.formula_from_run.proofs.AfterReturns.{fetch_there, handle_issued}
use Rattle.formula_from_run.proofs.Flags.{next_is, not_yet}
use Rattle.formula_from_run.proofs.Matches.{fit_within, is_that-some, is_that-from}
use Rattle.run_laws.proofs.Descent.{takes_fit}
use Rattle.formula_from_run.proofs.Ranks.{beyond, true_from_not}
use Rattle.formula_from_run.proofs.Returns.{condition_holds, returned_is, NamesRightly, names_rightly}
use Rattle.formula_from_run.proofs.Starts.{there_within, one_rank}
use Rattle.formula_from_run.proofs.Waits.{names_issued}
use Rattle.run_from_formula.proofs.Along.{or_then, or_then_then, or_only, or_first, each_passes, kept_at}
use Rattle.run_from_formula.proofs.Consequences.{Hold, IsLeft, Consequences}
use Rattle.run_from_formula.proofs.Returning.{previous_is, names_standard}
use Rattle.run_from_formula.proofs.Stages.{IsStage, before_first, first_most}
use Rattle.formula.proofs.Times.{each_of_map}

-- ---- what the end says of the world

within_if_issued : (p : MpiProgram) (m : Configuration) (c : ℕ) (x : Option Call) → call_at p c ≡ x → holds_of (is_issued_call m c) x ≡ true → c < length p.calls
within_if_issued p m c None e h = absurd (cc)
within_if_issued p m c (Some x) e h = slice_get_within p.calls c x e

some_there : (o : Option ℕ) → is_some o ≡ true → (u : ℕ) × (o ≡ Some u)
some_there None h = absurd (cc)
some_there (Some u) h = (u, refl)

-- a clause of a list, at one of the items from which they are made
clause_at : (world : World) (p : MpiProgram) (clause : ℕ → SymbolicClause) (keep : ℕ → Bool) → Hold world (map clause (filter keep (places p))) → (k : ℕ) → k < length p.calls → keep k ≡ true → clause_holds world (clause k) ≡ true
clause_at world p clause keep h k below passes =
    kept_at (λ x. clause_holds world (clause x) ≡ true) keep (length p.calls)
    (each_of_map (λ c. clause_holds world c ≡ true) clause (filter keep (places p)) (each_passes (clause_holds world) (map clause (filter keep (places p))) h)) k below passes

module _ (p : MpiProgram) (world : World) (is : IsProgram p) (says : Consequences p world) (m : Configuration) (stage : IsStage p world m []) where
  issued_end : (c : ℕ) → is_issued p m c ≡ true → world.has (issued c) ≡ true
  issued_end c h = sym (and-true (world.has (issued c))) ∙ sym (stage.issues c (within_if_issued p m c (call_at p c) refl h)) ∙ h

  pub issued_said : (c : ℕ) → c < length p.calls → world.has (issued c) ≡ true → is_issued p m c ≡ true
  issued_said c below h = stage.issues c below ∙ and-true (world.has (issued c)) ∙ h

  pub sent_said : (s t : ℕ) → takes p s t ≡ true → world.has (matched s t) ≡ true → partner_of m s ≡ Some t
  sent_said s t fit h = is_that-some (partner_of m s) t (stage.sends s t fit ∙ and-true (world.has (matched s t)) ∙ h)

  pub received_said : (s t : ℕ) → are_fit p s t ≡ true → world.has (matched s t) ≡ true → partner_of m t ≡ Some s
  received_said s t fit h = is_that-some (partner_of m t) s (stage.takers s t fit ∙ and-true (world.has (matched s t)) ∙ h)

  sent_end : (s t : ℕ) → takes p s t ≡ true → partner_of m s ≡ Some t → world.has (matched s t) ≡ true
  sent_end s t fit e = sym (and-true (world.has (matched s t))) ∙ sym (stage.sends s t fit) ∙ is_that-from (partner_of m s) t e

  received_end : (s t : ℕ) → are_fit p s t ≡ true → partner_of m t ≡ Some s → world.has (matched s t) ≡ true
  received_end s t fit e = sym (and-true (world.has (matched s t))) ∙ sym (stage.takers s t fit) ∙ is_that-from (partner_of m t) s e

  -- ---- what follows where a call has returned

  unless_off : (t : ℕ) (o : Option ℕ) → receive_on_handle p t ≡ o → kind_holds (fetches p m) (call_at p t) ≡ true → list_any (is_right world) (unless_issued o) ≡ false
  unless_off t None e h = refl
  unless_off t (Some receive) e h =
      let i = issued_end receive (handle_issued p m t receive h e) in
      ap (λ (b : Bool). not b || false) i

  after_fetch : (c s : ℕ) (x : Statement) → Hold world (where_fetched p c s x) → world.has (issued c) ≡ true → ((u : ℕ) → are_fit p u s ≡ true → ⊥) → is_fetched p m s ≡ true → is_right world x ≡ true
  after_fetch c s x h i no_taker fetched =
      let f = fetch_there p m (partner_of m s) fetched in
      let fit : takes p s f.0 ≡ true = elim (stage.fits s f.0 f.1) [ inl fits ↦ fits | inr fits ↦ absurd (no_taker f.0 fits) ] in
      let here = clause_at world p (λ taker. is_false (issued c) ∷ is_false (matched s taker) ∷ x ∷ unless_issued (receive_on_handle p taker)) (takes p s) h f.0 (fit_within p s f.0 (takes_fit p s f.0 fit)).1 fit in
      or_first (is_right world x) (list_any (is_right world) (unless_issued (receive_on_handle p f.0))) (or_then_then (world.has (issued c)) (world.has (matched s f.0)) _ here i (sent_end s f.0 fit f.1)) (unless_off f.0 (receive_on_handle p f.0) refl f.2)

  after_flag : (c s : ℕ) (x : Statement) (b : Bool) → is_buffered m s ≡ b → Hold world (where_returned_under p c x (if_buffered_or_fetched s)) → world.has (issued c) ≡ true → ((u : ℕ) → are_fit p u s ≡ true → ⊥) → is_issued p m s ≡ true → is_standard p s ≡ true → (b || is_fetched p m s) ≡ true → is_right world x ≡ true
  after_flag c s x true e h i no_taker there standard k =
      let one = (and_parts (clause_holds world (is_false (issued c) ∷ is_false (buffered s) ∷ x ∷ [])) _ h).0 in
      or_only _ (or_then_then (world.has (issued c)) (world.has (buffered s)) _ one i (sym (stage.flags s there standard) ∙ e))
  after_flag c s x false e h i no_taker there standard k =
      after_fetch c s x (and_parts (clause_holds world (is_false (issued c) ∷ is_false (buffered s) ∷ x ∷ [])) (clauses_hold world (where_fetched p c s x)) h).1 i no_taker k

  after_condition : (c : ℕ) (x : Statement) (k : Condition) → Hold world (where_returned_under p c x k) → world.has (issued c) ≡ true → NamesRightly p k → ((s : ℕ) → k ≡ if_buffered_or_fetched s → (is_issued p m s ≡ true) × (is_standard p s ≡ true)) → condition_holds p m k ≡ true → is_right world x ≡ true
  after_condition c x at_once h i rightly names holds = or_only _ (or_then (world.has (issued c)) _ (and_parts (clause_holds world (is_false (issued c) ∷ x ∷ [])) true h).0 i)
  after_condition c x (if_matched t) h i rightly names holds =
      let w = some_there (partner_of m t) holds in
      let fit : are_fit p w.0 t ≡ true = elim (stage.fits t w.0 w.1) [ inl fits ↦ absurd (rightly w.0 (takes_fit p t w.0 fits)) | inr fits ↦ fits ] in
      let here = clause_at world p (λ send. is_false (issued c) ∷ is_false (matched send t) ∷ x ∷ []) (λ send. are_fit p send t) h w.0 (fit_within p w.0 t fit).0 fit in
      or_only _ (or_then_then (world.has (issued c)) (world.has (matched w.0 t)) _ here i (received_end w.0 t fit w.1))
  after_condition c x (if_fetched s) h i rightly names holds = after_fetch c s x h i rightly holds
  after_condition c x (if_buffered_or_fetched s) h i rightly names holds =
      let named = names s refl in
      after_flag c s x (is_buffered m s) refl h i rightly named.0 named.1 holds

  -- where an issued call has returned, the statement of its clauses is right
  after_return : (c : ℕ) (x : Statement) → Hold world (where_returned p c x) → is_issued p m c ≡ true → is_returned p m c ≡ true → is_right world x ≡ true
  after_return c x h there returned =
      let call = there_within p.calls c (within_if_issued p m c (call_at p c) refl there) in
      after_condition c x (when_returned p c) h (issued_end c there) (names_rightly p c call.0 is call.1)
      (λ s e. (names_issued p m c s call.0 is call.1 e there, names_standard p c s call.0 call.1 e))
      (sym (returned_is p m c call.0 is call.1) ∙ returned)

  -- ---- no step is enabled

  next_said : (d r : ℕ) (call : Call) (b : Bool) → call_at p (suc d) ≡ Some call → call.rank ≡ r → slice_index m.next r ≡ suc d → has_returned_before p m r (suc d) ≡ true → are_of_one_rank p d (suc d) ≡ b → world.has (issued (suc d)) ≡ true
  next_said d r call false there own next back apart =
      says.first (suc d) (slice_get_within p.calls (suc d) call there) (ap (λ (b : Bool). if b then Some d else None) apart)
  next_said d r call true there own next back same =
      let other = one_rank (call_at p d) (call_at p (suc d)) call there same in
      let rank : other.0.rank ≡ r = other.2 ∙ own in
      let of_rank : is_of_rank (call_at p d) r ≡ true = ap (λ (z : Option Call). is_of_rank z r) other.1 ∙ eq-eqb other.0.rank r rank in
      let returned = or_then (is_of_rank (call_at p d) r) (is_returned p m d) back of_rank in
      let at : slice_index m.next other.0.rank ≡ suc d = ap (slice_index m.next) rank ∙ next in
      let past : nat_lt d (slice_index m.next other.0.rank) ≡ true = rw at (grind (arith, nat_tests)) in
      let there_issued : is_issued p m d ≡ true = ap (holds_of (is_issued_call m d)) other.1 ∙ past in
      after_return d (is_true (issued (suc d))) (says.next (suc d) d (slice_get_within p.calls (suc d) call there) (previous_is p d same)) there_issued returned

  place_said : (c r : ℕ) (call : Call) → call_at p c ≡ Some call → call.rank ≡ r → slice_index m.next r ≡ c → has_returned_before p m r c ≡ true → world.has (issued c) ≡ true
  place_said zero r call there own next back = says.first 0 (slice_get_within p.calls 0 call there) refl
  place_said (suc d) r call there own next back = next_said d r call (are_of_one_rank p d (suc d)) there own next back refl

  back_before : (r : ℕ) (b : Bool) → can_issue p m r b ≡ true → (w : Issues p m r) → has_returned_before p m r w.place ≡ true
  back_before r b h w =
      let one : holds_of (can_issue_call p m r b w.place) (call_at p w.place) ≡ true = subst (λ (z : Option ℕ). holds_of (can_issue_next p m r b) z ≡ true) w.next h in
      let two : holds_of (can_issue_call p m r b w.place) (Some w.call) ≡ true = subst (λ (z : Option Call). holds_of (can_issue_call p m r b w.place) z ≡ true) w.there one in
      let front = (and_parts (w.call.rank == r && has_returned_before p m r w.place) (may_be p.policy w.call.kind b) two).0 in
      (and_parts (w.call.rank == r) (has_returned_before p m r w.place) front).1

  no_issue : (r : ℕ) (b : Bool) → can_issue p m r b ≡ true → ⊥
  no_issue r b h =
      let w = issues p m r b h in
      let said = place_said w.place r w.call w.there w.own (next_is p m r w) (back_before r b h w) in
      let there = issued_said w.place (slice_get_within p.calls w.place w.call w.there) said in
      let not_there = not_yet p m r w in
      cc

  no_find : (s t : ℕ) → CanFind p m s t → ⊥
  no_find s t can =
      elim (says.pairs s t can.fit (issued_end s can.send_issued) (issued_end t can.finder_issued)) [
        | inl w ↦
            let taken : is_matched m s ≡ true = ap is_some (sent_said s w.taker w.fits w.paired) in
            let free = can.send_open in
            cc
        | inr w ↦
            let taken : is_matched m t ≡ true = ap is_some (received_said w.send t w.fits w.paired) in
            let free = can.finder_open in
            cc
      ]

  -- ---- some rank is unfinished

  -- what stands from a rank's first call up to one of its calls is of the rank
  of_rank_up_to : (n c : ℕ) (call : Call) → call_at p c ≡ Some call → n ≤ c → first_call p call.rank ≤ n → is_of_rank (call_at p n) call.rank ≡ true
  of_rank_up_to n c call there most first =
      let within : c < length p.calls = slice_get_within p.calls c call there in
      let other = there_within p.calls n (omega (arith, within, most)) in
      let le = is.rank_order n c other.0 call most other.1 there in
      elim (cases_lt other.0.rank call.rank) [
        | inl lower ↦
            let from = before_first p call.rank n other.0 is other.1 lower in
            absurd (omega (arith, from, first))
        | inr no_lower ↦ ap (λ (z : Option Call). is_of_rank z call.rank) other.1 ∙ eq-eqb other.0.rank call.rank (omega (arith, le, no_lower))
      ]

  -- a rank with no next call has gone past its last one
  next_past : (c : ℕ) (call : Call) → call_at p c ≡ Some call → are_of_one_rank p c (c + 1) ≡ false → is_of_rank (call_at p (slice_index m.next call.rank)) call.rank ≡ false → slice_index m.next call.rank ≡ suc c
  next_past c call there last none =
      let in_range = (is.in_range c call there).own in
      let started = stage.started call.rank in_range in
      elim (cases_lt c (slice_index m.next call.rank)) [
        | inr up_to ↦
            let one = of_rank_up_to (slice_index m.next call.rank) c call there up_to started in
            absurd (cc)
        | inl past ↦ elim (cases_lt (suc c) (slice_index m.next call.rank)) [
          | inr at_most ↦ omega (arith, past, at_most)
          | inl further ↦
              let one = stage.own call.rank (suc c) in_range (omega (arith, first_most p c call is there)) further in
              let other = beyond p c (suc c) call is there last (omega arith) in
              absurd (cc)
        ]
      ]

  not_finished : (c : ℕ) (call : Call) → call_at p c ≡ Some call → are_of_one_rank p c (c + 1) ≡ false → Hold world (where_returned p c (is_false (unfinished (rank_of p c)))) → world.has (unfinished (rank_of p c)) ≡ true → (b : Bool) → is_rank_finished p m call.rank ≡ b → b ≡ false
  not_finished c call there last h left false e = refl
  not_finished c call there last h left true e =
      let parts = and_parts (not (is_of_rank (call_at p (slice_index m.next call.rank)) call.rank)) (has_returned_before p m call.rank (slice_index m.next call.rank)) e in
      let next = next_past c call there last (true_from_not _ parts.0) in
      let back : has_returned_before p m call.rank (suc c) ≡ true = subst (λ (z : ℕ). has_returned_before p m call.rank z ≡ true) next parts.1 in
      let of_rank : is_of_rank (call_at p c) call.rank ≡ true = ap (λ (z : Option Call). is_of_rank z call.rank) there ∙ eq-eqb call.rank call.rank refl in
      let past : nat_lt c (slice_index m.next call.rank) ≡ true = rw next (grind (arith, nat_tests)) in
      let wrong : not (world.has (unfinished (rank_of p c))) ≡ true = after_return c (is_false (unfinished (rank_of p c))) h (ap (holds_of (is_issued_call m c)) there ∙ past) (or_then (is_of_rank (call_at p c) call.rank) (is_returned p m c) back of_rank) in
      let right : not (world.has (unfinished (rank_of p c))) ≡ false = ap not left in
      absurd (cc)

  pub end_stuck : IsLeft p world → IsStuck p m
  end_stuck w =
      let call = there_within p.calls w.call w.within in
      IsStuck-made p m call.0.rank (is.in_range w.call call.0 call.1).own (not_finished w.call call.0 call.1 w.last w.not_returned w.rank_left (is_rank_finished p m call.0.rank) refl) no_issue no_find

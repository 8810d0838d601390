-- What the clauses of the families say of calls and pairs, where they hold in a world.
use Rattle.std.proofs.Common.{◌≡◌, ℕ, ◌+◌, ◌<◌, ◌⊎◌, inl, inr, Bool, true, false, not, ◌&&◌, ◌||◌, ◌==◌, nat_lt, List, [], ◌∷◌, ◌++◌, map, length, Option, Some, None, refl, sym, ap, ◌∙◌, subst, arith}
use Rattle.std.specs.List.{filter, flat_map, list_any, list_all}
use Rattle.std.proofs.lemmas.Bool.{and_parts, and_from, cases_lt, ltb-true}
use Rattle.std.proofs.lemmas.Bool.Decides.{nat_tests}
use Rattle.std.proofs.lemmas.List.Folds.{list_any-append, list_all-append}
use Rattle.callorder.specs.Programs.{MpiProgram, are_fit, is_probe, takes, sees, are_of_one_rank}
use Rattle.candidates.specs.Pairs.{places, takers_of}
use Rattle.nonovertake.specs.Earlier.{earlier_sends, earlier_takers}
use Rattle.formula.specs.declared.facts.RunEvent.TheVariants.{Issue as issue_of, Match as match_of}
use Rattle.formula.specs.declared.facts.Fact.TheVariants.{Issued as issued, Matched as matched, Unfinished as unfinished}
use Rattle.formula.specs.declared.facts.Statement.TheVariants.{Holds as is_true, Fails as is_false, Earlier as is_earlier}
use Rattle.formula.specs.declared.facts.Condition.TheVariants.{IfMatched as if_matched}
use Rattle.formula.specs.Families.{without_later_sends, seen_before_taken, see_clauses, SymbolicClause, sends_of, is_standard, previous_of_rank, last_calls, rank_of, fetch_of, receive_on_handle, when_returned, where_returned, issued_after, issued_after_return_of, handle_is_received_on, is_fetched_before, is_returned_before, issued_before_match, without_later_pairs, send_is_matched_before, taker_is_matched_before, pair_does_not_wait, issue_does_not_wait, buffered_under, standard_sends, said, last_families, families, calls_are_matched_once, some_rank_is_unfinished, no_pair_waits, no_issue_waits}
use Rattle.formula.proofs.Named.{families_of_order, families_of_end}
use Rattle.formula.proofs.Elements.{Each, each_append, each_parts, each_both, each_from_all, each_filter, each_range}
use Rattle.formula_from_run.specs.Worlds.{World, is_right, clause_holds, clauses_hold}
use Rattle.formula_from_run.proofs.Matches.{fit_within}
use Rattle.run_laws.proofs.Descent.{takes_fit}
use Rattle.formula_from_run.proofs.Ranks.{true_from_not}
use Rattle.run_from_formula.proofs.Along.{or_then, or_then_then, or_only, or_first, each_passes, each_of_kept, kept_at, each_kept, found_mapped, at_call, at_pair, at_seeing_pair, takers_take, sends_fit}
use Rattle.formula.proofs.Times.{each_of_map}

-- the clauses hold in the world
abbrev pub Hold : World → List SymbolicClause → Type 0
Hold world clauses = clauses_hold world clauses ≡ true

-- ---- the call before is issued earlier

pub record IsAfter (world : World) (c d : ℕ) : Type 0 where
  pub both : world.has (issued c) ≡ true → world.has (issued d) ≡ true
  pub before : world.clock (issue_of d) < world.clock (issue_of c)

is_after : (world : World) (c d : ℕ) → Hold world (issued_after c (Some d)) → IsAfter world c d
is_after world c d h =
    let one = and_parts (clause_holds world (is_false (issued c) ∷ is_true (issued d) ∷ [])) _ h in
    let two = and_parts (clause_holds world (is_earlier (issue_of d) (issue_of c) ∷ [])) true one.1 in
    record {
      both = λ i. or_only _ (or_then (world.has (issued c)) _ one.0 i);
      before = ltb-true _ _ (or_only _ two.0);
    }

-- ---- what a call waits for is done before it is issued

-- a taker with which the send is matched, and which fetches the message before the call is issued
pub record FetchedBefore (p : MpiProgram) (world : World) (c send : ℕ) : Type 0 where
  pub taker : ℕ
  pub fits : takes p send taker ≡ true
  pub paired : world.has (matched send taker) ≡ true
  pub earlier : world.clock (fetch_of p taker) < world.clock (issue_of c)
  pub received : (receive : ℕ) → receive_on_handle p taker ≡ Some receive → world.has (issued receive) ≡ true

handle_received : (world : World) (c send t receive : ℕ) (otherwise : SymbolicClause) (o : Option ℕ) → list_any (is_right world) otherwise ≡ false → Hold world (handle_is_received_on c send t otherwise o) → world.has (issued c) ≡ true → world.has (matched send t) ≡ true → o ≡ Some receive → world.has (issued receive) ≡ true
handle_received world c send t receive otherwise None off h i m e = absurd (cc)
handle_received world c send t receive otherwise (Some other) off h i m e =
    let same : other ≡ receive = cc in
    let parts = and_parts (clause_holds world ((is_false (issued c) ∷ is_false (matched send t) ∷ is_true (issued other) ∷ []) ++ otherwise)) true h in
    let other_issued = or_first (world.has (issued other)) (list_any (is_right world) otherwise) (or_then_then (world.has (issued c)) (world.has (matched send t)) _ parts.0 i m) off in
    subst (λ (z : ℕ). world.has (issued z) ≡ true) same other_issued

abbrev of_taker : MpiProgram → ℕ → ℕ → SymbolicClause → ℕ → List SymbolicClause
of_taker p c send otherwise t =
    ((is_false (issued c) ∷ is_false (matched send t) ∷ is_earlier (fetch_of p t) (issue_of c) ∷ []) ++ otherwise) ∷
    handle_is_received_on c send t otherwise (receive_on_handle p t)

-- unless the rest of the clauses is right
pub fetched_before : (p : MpiProgram) (world : World) (c send : ℕ) (otherwise : SymbolicClause) → list_any (is_right world) otherwise ≡ false → Hold world (is_fetched_before p c send otherwise) → world.has (issued c) ≡ true → FetchedBefore p world c send
fetched_before p world c send otherwise off h i =
    let statements = map (λ t. is_true (matched send t)) (takers_of p send) in
    let parts = and_parts (clause_holds world (is_false (issued c) ∷ (statements ++ otherwise))) (clauses_hold world (flat_map (of_taker p c send otherwise) (takers_of p send))) h in
    let some : list_any (is_right world) (statements ++ otherwise) ≡ true = or_then (world.has (issued c)) _ parts.0 i in
    let first : list_any (is_right world) statements ≡ true = or_first (list_any (is_right world) statements) (list_any (is_right world) otherwise) (sym (list_any-append (is_right world) statements otherwise) ∙ some) off in
    let each = each_from_all (clause_holds world) (of_taker p c send otherwise) (takers_of p send) parts.1 in
    let found = found_mapped (λ t. Hold world (of_taker p c send otherwise t) × (takes p send t ≡ true)) (is_right world) (λ t. is_true (matched send t)) (takers_of p send) (each_both (λ t. Hold world (of_taker p c send otherwise t)) (λ t. takes p send t ≡ true) (takers_of p send) each (takers_take p send)) first in
    let of_found = and_parts (clause_holds world ((is_false (issued c) ∷ is_false (matched send found.0) ∷ is_earlier (fetch_of p found.0) (issue_of c) ∷ []) ++ otherwise)) (clauses_hold world (handle_is_received_on c send found.0 otherwise (receive_on_handle p found.0))) found.2.0 in
    record {
      taker = found.0;
      fits = found.2.1;
      paired = found.1;
      earlier = ltb-true _ _ (or_first _ (list_any (is_right world) otherwise) (or_then_then (world.has (issued c)) (world.has (matched send found.0)) _ of_found.0 i found.1) off);
      received = λ receive e. handle_received world c send found.0 receive otherwise (receive_on_handle p found.0) off of_found.1 i found.1 e;
    }

-- a send with which the taker is matched before the call is issued
pub record MatchedBefore (p : MpiProgram) (world : World) (c taker : ℕ) : Type 0 where
  pub send : ℕ
  pub fits : are_fit p send taker ≡ true
  pub paired : world.has (matched send taker) ≡ true
  pub earlier : world.clock (match_of taker) < world.clock (issue_of c)

pub matched_before : (p : MpiProgram) (world : World) (c taker : ℕ) → Hold world (is_returned_before p c (if_matched taker)) → world.has (issued c) ≡ true → MatchedBefore p world c taker
matched_before p world c taker h i =
    let statements = map (λ s. is_true (matched s taker)) (sends_of p taker) in
    let one = and_parts (clause_holds world (is_false (issued c) ∷ statements)) _ h in
    let two = and_parts (clause_holds world (is_false (issued c) ∷ is_earlier (match_of taker) (issue_of c) ∷ [])) true one.1 in
    let found = found_mapped (λ s. are_fit p s taker ≡ true) (is_right world) (λ s. is_true (matched s taker)) (sends_of p taker) (sends_fit p taker) (or_then (world.has (issued c)) _ one.0 i) in
    record {
      send = found.0;
      fits = found.2;
      paired = found.1;
      earlier = ltb-true _ _ (or_only _ (or_then (world.has (issued c)) _ two.0 i));
    }

-- ---- a pair that is matched

-- both calls are issued before
pub record IssuedBefore (world : World) (s t : ℕ) : Type 0 where
  pub send : world.has (issued s) ≡ true
  pub taker : world.has (issued t) ≡ true
  pub send_before : world.clock (issue_of s) < world.clock (match_of t)
  pub taker_before : world.clock (issue_of t) < world.clock (match_of t)

issued_before : (world : World) (s t : ℕ) → Hold world (issued_before_match s t) → world.has (matched s t) ≡ true → IssuedBefore world s t
issued_before world s t h m =
    let one = and_parts (clause_holds world (is_false (matched s t) ∷ is_true (issued s) ∷ [])) _ h in
    let two = and_parts (clause_holds world (is_false (matched s t) ∷ is_true (issued t) ∷ [])) _ one.1 in
    let three = and_parts (clause_holds world (is_false (matched s t) ∷ is_earlier (issue_of s) (match_of t) ∷ [])) _ two.1 in
    let four = and_parts (clause_holds world (is_false (matched s t) ∷ is_earlier (issue_of t) (match_of t) ∷ [])) true three.1 in
    record {
      send = or_only _ (or_then (world.has (matched s t)) _ one.0 m);
      taker = or_only _ (or_then (world.has (matched s t)) _ two.0 m);
      send_before = ltb-true _ _ (or_only _ (or_then (world.has (matched s t)) _ three.0 m));
      taker_before = ltb-true _ _ (or_only _ (or_then (world.has (matched s t)) _ four.0 m));
    }

-- ---- once

not_both : (a b : Bool) → (not a || (not b || false)) ≡ true → a ≡ true → b ≡ true → ⊥
not_both a b h e f = let g : false ≡ true = or_then_then a b false h e f in absurd (cc)

abbrev not_with_taker : ℕ → ℕ → ℕ → SymbolicClause
not_with_taker s t other = is_false (matched s t) ∷ is_false (matched s other) ∷ []

abbrev not_with_send : ℕ → ℕ → ℕ → SymbolicClause
not_with_send s t other = is_false (matched s t) ∷ is_false (matched other t) ∷ []

pub split_hold : (world : World) (a b : List SymbolicClause) → Hold world (a ++ b) → Hold world a × Hold world b
split_hold world a b h = and_parts (clauses_hold world a) (clauses_hold world b) (sym (list_all-append (clause_holds world) a b) ∙ h)

once_parts : (p : MpiProgram) (world : World) (s t : ℕ) → Hold world (without_later_pairs p s t) → Hold world (map (not_with_taker s t) (filter (nat_lt t) (takers_of p s))) × Hold world (without_later_sends p s t)
once_parts p world s t h = split_hold world (map (not_with_taker s t) (filter (nat_lt t) (takers_of p s))) (without_later_sends p s t) h

-- what each of two filters lets through
kept_twice_at : (P : ℕ → Type 0) (keep more : ℕ → Bool) (p : MpiProgram) → Each P (filter more (filter keep (places p))) → (k : ℕ) → k < length p.calls → keep k ≡ true → more k ≡ true → P k
kept_twice_at P keep more p h k below passes also =
    kept_at (λ x. more x ≡ true → P x) keep (length p.calls) (each_of_kept P more (filter keep (places p)) h) k below passes also

no_later_taker : (p : MpiProgram) (world : World) (s t u : ℕ) → Hold world (calls_are_matched_once p) → t < u → takes p s t ≡ true → takes p s u ≡ true → world.has (matched s t) ≡ true → world.has (matched s u) ≡ true → ⊥
no_later_taker p world s t u h below fit fits m n =
    let within = fit_within p s t (takes_fit p s t fit) in
    let parts = once_parts p world s t (at_pair p (clause_holds world) (without_later_pairs p) h s t within.0 within.1 fit) in
    let each = each_of_map (λ clause. clause_holds world clause ≡ true) (not_with_taker s t) (filter (nat_lt t) (takers_of p s)) (each_passes (clause_holds world) (map (not_with_taker s t) (filter (nat_lt t) (takers_of p s))) parts.0) in
    let here = kept_twice_at (λ other. clause_holds world (not_with_taker s t other) ≡ true) (takes p s) (nat_lt t) p each u (fit_within p s u (takes_fit p s u fits)).1 fits (grind (arith, nat_tests)) in
    not_both (world.has (matched s t)) (world.has (matched s u)) here m n

no_later_send : (p : MpiProgram) (world : World) (s u t : ℕ) → Hold world (without_later_sends p s t) → s < u → are_fit p u t ≡ true → world.has (matched s t) ≡ true → world.has (matched u t) ≡ true → ⊥
no_later_send p world s u t h below fits m n =
    let each = each_of_map (λ clause. clause_holds world clause ≡ true) (not_with_send s t) (filter (nat_lt s) (sends_of p t)) (each_passes (clause_holds world) (map (not_with_send s t) (filter (nat_lt s) (sends_of p t))) h) in
    let here = kept_twice_at (λ other. clause_holds world (not_with_send s t other) ≡ true) (λ other. are_fit p other t) (nat_lt s) p each u (fit_within p u t fits).0 fits (grind (arith, nat_tests)) in
    not_both (world.has (matched s t)) (world.has (matched u t)) here m n

one_taker : (p : MpiProgram) (world : World) → Hold world (calls_are_matched_once p) → (s t u : ℕ) → takes p s t ≡ true → takes p s u ≡ true → world.has (matched s t) ≡ true → world.has (matched s u) ≡ true → t ≡ u
one_taker p world h s t u fit fits m n =
    elim (cases_lt t u) [
      | inl below ↦ absurd (no_later_taker p world s t u h below fit fits m n)
      | inr rest ↦ elim (cases_lt u t) [
        | inl above ↦ absurd (no_later_taker p world s u t h above fits fit n m)
        | inr also ↦ omega (arith, rest, also)
      ]
    ]

one_send : (p : MpiProgram) (world : World) (s u t : ℕ) → Hold world (without_later_sends p s t) → Hold world (without_later_sends p u t) → are_fit p s t ≡ true → are_fit p u t ≡ true → world.has (matched s t) ≡ true → world.has (matched u t) ≡ true → s ≡ u
one_send p world s u t h k fit fits m n =
    elim (cases_lt s u) [
      | inl below ↦ absurd (no_later_send p world s u t h below fits m n)
      | inr rest ↦ elim (cases_lt u s) [
        | inl above ↦ absurd (no_later_send p world u s t k above fit n m)
        | inr also ↦ omega (arith, rest, also)
      ]
    ]

-- ---- non-overtaking

-- the earlier send is matched with a taker before the match of this one
pub record SentBefore (p : MpiProgram) (world : World) (e t : ℕ) : Type 0 where
  pub taker : ℕ
  pub fits : takes p e taker ≡ true
  pub paired : world.has (matched e taker) ≡ true
  pub earlier : world.clock (match_of taker) < world.clock (match_of t)

abbrev after_other : ℕ → ℕ → ℕ → ℕ → SymbolicClause
after_other s t e other = is_false (matched s t) ∷ is_false (matched e other) ∷ is_earlier (match_of other) (match_of t) ∷ []

sent_before : (p : MpiProgram) (world : World) (s t e : ℕ) → Hold world (send_is_matched_before p s t e) → world.has (matched s t) ≡ true → SentBefore p world e t
sent_before p world s t e h m =
    let others = filter (λ other. not (other == t)) (takers_of p e) in
    let statements = map (λ other. is_true (matched e other)) others in
    let parts = and_parts (clause_holds world (is_false (matched s t) ∷ statements)) (clauses_hold world (map (after_other s t e) others)) h in
    let each = each_of_map (λ clause. clause_holds world clause ≡ true) (after_other s t e) others (each_passes (clause_holds world) (map (after_other s t e) others) parts.1) in
    let fits = each_kept (λ other. takes p e other ≡ true) (λ other. not (other == t)) (takers_of p e) (takers_take p e) in
    let found = found_mapped (λ other. (clause_holds world (after_other s t e other) ≡ true) × (takes p e other ≡ true)) (is_right world) (λ other. is_true (matched e other)) others (each_both (λ other. clause_holds world (after_other s t e other) ≡ true) (λ other. takes p e other ≡ true) others each fits) (or_then (world.has (matched s t)) _ parts.0 m) in
    record {
      taker = found.0;
      fits = found.2.1;
      paired = found.1;
      earlier = ltb-true _ _ (or_only _ (or_then_then (world.has (matched s t)) (world.has (matched e found.0)) _ found.2.0 m found.1));
    }

-- the earlier taker is matched with a send before the match of this one
pub record ReceivedBefore (p : MpiProgram) (world : World) (e t : ℕ) : Type 0 where
  pub send : ℕ
  pub fits : are_fit p send e ≡ true
  pub paired : world.has (matched send e) ≡ true
  pub earlier : world.clock (match_of e) < world.clock (match_of t)

received_before : (p : MpiProgram) (world : World) (s t e : ℕ) → Hold world (taker_is_matched_before p s t e) → world.has (matched s t) ≡ true → ReceivedBefore p world e t
received_before p world s t e h m =
    let others = filter (λ other. not (other == s)) (sends_of p e) in
    let statements = map (λ other. is_true (matched other e)) others in
    let one = and_parts (clause_holds world (is_false (matched s t) ∷ statements)) _ h in
    let two = and_parts (clause_holds world (is_false (matched s t) ∷ is_earlier (match_of e) (match_of t) ∷ [])) true one.1 in
    let fits = each_kept (λ other. are_fit p other e ≡ true) (λ other. not (other == s)) (sends_of p e) (sends_fit p e) in
    let found = found_mapped (λ other. are_fit p other e ≡ true) (is_right world) (λ other. is_true (matched other e)) others fits (or_then (world.has (matched s t)) _ one.0 m) in
    record {
      send = found.0;
      fits = found.2;
      paired = found.1;
      earlier = ltb-true _ _ (or_only _ (or_then (world.has (matched s t)) _ two.0 m));
    }

at_earlier_send : (p : MpiProgram) (world : World) (s t e : ℕ) → Hold world (flat_map (send_is_matched_before p s t) (earlier_sends p s t)) → world.has (matched s t) ≡ true → e < s → are_of_one_rank p e s ≡ true → are_fit p e t ≡ true → SentBefore p world e t
at_earlier_send p world s t e here m below same fits =
    let each = each_from_all (clause_holds world) (send_is_matched_before p s t) (earlier_sends p s t) here in
    sent_before p world s t e (kept_at (λ other. Hold world (send_is_matched_before p s t other)) (λ other. are_of_one_rank p other s && are_fit p other t) s each e below (and_from (are_of_one_rank p e s) (are_fit p e t) same fits)) m

at_earlier_taker : (p : MpiProgram) (world : World) (s t e : ℕ) → Hold world (flat_map (taker_is_matched_before p s t) (earlier_takers p s t)) → world.has (matched s t) ≡ true → e < t → are_of_one_rank p e t ≡ true → takes p s e ≡ true → ReceivedBefore p world e t
at_earlier_taker p world s t e here m below same fits =
    let each = each_from_all (clause_holds world) (taker_is_matched_before p s t) (earlier_takers p s t) here in
    received_before p world s t e (kept_at (λ other. Hold world (taker_is_matched_before p s t other)) (λ other. are_of_one_rank p other t && takes p s other) t each e below (and_from (are_of_one_rank p e t) (takes p s e) same fits)) m

-- ---- the end

-- a taker with which the send is matched
pub record IsSent (p : MpiProgram) (world : World) (s : ℕ) : Type 0 where
  pub taker : ℕ
  pub fits : takes p s taker ≡ true
  pub paired : world.has (matched s taker) ≡ true

-- a send with which the taker is matched
pub record IsReceived (p : MpiProgram) (world : World) (t : ℕ) : Type 0 where
  pub send : ℕ
  pub fits : are_fit p send t ≡ true
  pub paired : world.has (matched send t) ≡ true

pub either_of : (a b : Bool) → (a || b) ≡ true → (a ≡ true) ⊎ (b ≡ true)
either_of true b h = inl refl
either_of false b h = inr h

one_is_matched : (p : MpiProgram) (world : World) (s t : ℕ) → Hold world (pair_does_not_wait p s t) → world.has (issued s) ≡ true → world.has (issued t) ≡ true → IsSent p world s ⊎ IsReceived p world t
one_is_matched p world s t h i j =
    let sent = map (λ other. is_true (matched s other)) (takers_of p s) in
    let received = map (λ other. is_true (matched other t)) (sends_of p t) in
    let parts = and_parts (clause_holds world (is_false (issued s) ∷ is_false (issued t) ∷ (sent ++ received))) true h in
    let some : list_any (is_right world) (sent ++ received) ≡ true = or_then_then (world.has (issued s)) (world.has (issued t)) _ parts.0 i j in
    elim (either_of (list_any (is_right world) sent) (list_any (is_right world) received) (sym (list_any-append (is_right world) sent received) ∙ some)) [
      | inl a ↦
          let found = found_mapped (λ other. takes p s other ≡ true) (is_right world) (λ other. is_true (matched s other)) (takers_of p s) (takers_take p s) a in
          inl (record { taker = found.0; fits = found.2; paired = found.1 })
      | inr b ↦
          let found = found_mapped (λ other. are_fit p other t ≡ true) (is_right world) (λ other. is_true (matched other t)) (sends_of p t) (sends_fit p t) b in
          inr (record { send = found.0; fits = found.2; paired = found.1 })
    ]

-- a rank that is unfinished, by its last call
pub record IsLeft (p : MpiProgram) (world : World) : Type 0 where
  pub call : ℕ
  pub within : call < length p.calls
  pub last : are_of_one_rank p call (call + 1) ≡ false
  pub rank_left : world.has (unfinished (rank_of p call)) ≡ true
  pub not_returned : Hold world (where_returned p call (is_false (unfinished (rank_of p call))))

pub is_left : (p : MpiProgram) (world : World) → Hold world (some_rank_is_unfinished p) → IsLeft p world
is_left p world h =
    let clauses = λ (c : ℕ). where_returned p c (is_false (unfinished (rank_of p c))) in
    let statements = map (λ c. is_true (unfinished (rank_of p c))) (last_calls p) in
    let returned = flat_map clauses (last_calls p) in
    let parts = and_parts (clauses_hold world returned) _ (sym (list_all-append (clause_holds world) returned (statements ∷ [])) ∙ h) in
    let some = and_parts (clause_holds world statements) true parts.1 in
    let lasts = each_filter (λ c. (c < length p.calls) × (not (are_of_one_rank p c (c + 1)) ≡ true)) (λ c. not (are_of_one_rank p c (c + 1))) (places p) (each_range (λ c. not (are_of_one_rank p c (c + 1)) ≡ true → (c < length p.calls) × (not (are_of_one_rank p c (c + 1)) ≡ true)) 0 (length p.calls) (λ c from below last. (omega (arith, below), last))) in
    let found = found_mapped (λ c. Hold world (clauses c) × ((c < length p.calls) × (not (are_of_one_rank p c (c + 1)) ≡ true))) (is_right world) (λ c. is_true (unfinished (rank_of p c))) (last_calls p) (each_both (λ c. Hold world (clauses c)) (λ c. (c < length p.calls) × (not (are_of_one_rank p c (c + 1)) ≡ true)) (last_calls p) (each_from_all (clause_holds world) clauses (last_calls p) parts.0) lasts) some.0 in
    record {
      call = found.0;
      within = found.2.1.0;
      last = true_from_not (are_of_one_rank p found.0 (found.0 + 1)) found.2.1.1;
      rank_left = found.1;
      not_returned = found.2.0;
    }

-- ---- what is said of a send and a finder that fits it

pub record PairSays (p : MpiProgram) (world : World) (s f : ℕ) : Type 0 where
  pub before : Hold world (issued_before_match s f)
  pub later : Hold world (without_later_sends p s f)
  pub sends : Hold world (flat_map (send_is_matched_before p s f) (earlier_sends p s f))
  pub takers : Hold world (flat_map (taker_is_matched_before p s f) (earlier_takers p s f))
  pub waits : Hold world (pair_does_not_wait p s f)

pub record SeeSays (p : MpiProgram) (world : World) (s f : ℕ) : Type 0 where
  pub pair : PairSays p world s f
  pub seen : Hold world (seen_before_taken p s f)

see_says : (p : MpiProgram) (world : World) (s f : ℕ) → Hold world (see_clauses p s f) → SeeSays p world s f
see_says p world s f h =
    let five = flat_map (taker_is_matched_before p s f) (earlier_takers p s f) in
    let four = flat_map (send_is_matched_before p s f) (earlier_sends p s f) in
    let six = pair_does_not_wait p s f in
    let three = without_later_sends p s f in
    let two = seen_before_taken p s f in
    let a = split_hold world (issued_before_match s f) (two ++ (three ++ (four ++ (five ++ six)))) h in
    let b = split_hold world two (three ++ (four ++ (five ++ six))) a.1 in
    let c = split_hold world three (four ++ (five ++ six)) b.1 in
    let d = split_hold world four (five ++ six) c.1 in
    let e = split_hold world five six d.1 in
    record { pair = record { before = a.0; later = c.0; sends = d.0; takers = e.0; waits = e.1 }; seen = b.0 }

taken_before : (p : MpiProgram) (world : World) (s f t : ℕ) → Hold world (seen_before_taken p s f) → takes p s t ≡ true → world.has (matched s f) ≡ true → world.has (matched s t) ≡ true → world.clock (match_of f) < world.clock (match_of t)
taken_before p world s f t h taken m n =
    let clause = λ (u : ℕ). is_false (matched s f) ∷ is_false (matched s u) ∷ is_earlier (match_of f) (match_of u) ∷ [] in
    let each = each_of_map (λ c. clause_holds world c ≡ true) clause (takers_of p s) (each_passes (clause_holds world) (map clause (takers_of p s)) h) in
    let here = kept_at (λ u. clause_holds world (clause u) ≡ true) (takes p s) (length p.calls) each t (fit_within p s t (takes_fit p s t taken)).1 taken in
    ltb-true _ _ (or_only _ (or_then_then (world.has (matched s f)) (world.has (matched s t)) _ here m n))

-- ---- all families

-- all but the one that says that some rank is unfinished
abbrev pub families_of_ended_runs : MpiProgram → List (List SymbolicClause)
families_of_ended_runs p = families_of_order p ++ (no_pair_waits p ∷ no_issue_waits p ∷ []) ++ map (said p) last_families

pub without_unfinished : (p : MpiProgram) (P : List SymbolicClause → Type 0) → Each P (families p) → Each P (families_of_ended_runs p) × P (some_rank_is_unfinished p)
without_unfinished p P h =
    let parts = each_parts P (families_of_order p) (families_of_end p ++ map (said p) last_families) h in (
      each_append P (families_of_order p) (no_pair_waits p ∷ no_issue_waits p ∷ map (said p) last_families) parts.0 (parts.1.0, (parts.1.1.0, parts.1.1.1.1)),
      parts.1.1.1.0,
    )

-- What they say. Nothing is said of whether some rank is unfinished.
pub record Consequences (p : MpiProgram) (world : World) : Type 0 where
  pub order : (c d : ℕ) → c < length p.calls → previous_of_rank p c ≡ Some d → IsAfter world c d
  pub returns : (c d : ℕ) → c < length p.calls → previous_of_rank p c ≡ Some d → Hold world (is_returned_before p c (when_returned p d))
  pub issues : (s t : ℕ) → are_fit p s t ≡ true → world.has (matched s t) ≡ true → IssuedBefore world s t
  pub one_taker : (s t u : ℕ) → takes p s t ≡ true → takes p s u ≡ true → world.has (matched s t) ≡ true → world.has (matched s u) ≡ true → t ≡ u
  pub one_send : (s u t : ℕ) → are_fit p s t ≡ true → are_fit p u t ≡ true → world.has (matched s t) ≡ true → world.has (matched u t) ≡ true → s ≡ u
  pub sends : (s t e : ℕ) → are_fit p s t ≡ true → world.has (matched s t) ≡ true → e < s → are_of_one_rank p e s ≡ true → are_fit p e t ≡ true → SentBefore p world e t
  pub takers : (s t e : ℕ) → are_fit p s t ≡ true → world.has (matched s t) ≡ true → e < t → are_of_one_rank p e t ≡ true → takes p s e ≡ true → ReceivedBefore p world e t
  pub seen : (s f t : ℕ) → sees p s f ≡ true → takes p s t ≡ true → world.has (matched s f) ≡ true → world.has (matched s t) ≡ true → world.clock (match_of f) < world.clock (match_of t)
  pub pairs : (s t : ℕ) → are_fit p s t ≡ true → world.has (issued s) ≡ true → world.has (issued t) ≡ true → IsSent p world s ⊎ IsReceived p world t
  pub first : (c : ℕ) → c < length p.calls → previous_of_rank p c ≡ None → world.has (issued c) ≡ true
  pub next : (c d : ℕ) → c < length p.calls → previous_of_rank p c ≡ Some d → Hold world (where_returned p d (is_true (issued c)))
  pub policy : (s : ℕ) → s < length p.calls → is_standard p s ≡ true → Hold world (buffered_under p.policy s)

issued_first : (world : World) (p : MpiProgram) (c : ℕ) → Hold world (issue_does_not_wait p c None) → world.has (issued c) ≡ true
issued_first world p c h = or_only _ (and_parts (clause_holds world (is_true (issued c) ∷ [])) true h).0

at_see : (p : MpiProgram) (world : World) → Each (Hold world) (families_of_ended_runs p) → (s f : ℕ) → sees p s f ≡ true → Hold world (see_clauses p s f)
at_see p world each s f seen =
    let within = fit_within p s f (and_parts (are_fit p s f) (is_probe p f) seen).0 in
    at_seeing_pair p (clause_holds world) (see_clauses p) each.1.1.1.1.1.1.1.1.1.0 s f within.0 within.1 seen

pair_says : (p : MpiProgram) (world : World) → Each (Hold world) (families_of_ended_runs p) → (s f : ℕ) → are_fit p s f ≡ true → PairSays p world s f
pair_says p world each s f fit = by (is_probe p f) refl
  where
    by : (b : Bool) → is_probe p f ≡ b → PairSays p world s f
    by true e = (see_says p world s f (at_see p world each s f (and_from (are_fit p s f) (is_probe p f) fit e))).pair
    by false e =
        let within = fit_within p s f fit in
        let taken : takes p s f ≡ true = and_from (are_fit p s f) (not (is_probe p f)) fit (ap not e) in
        record {
          before = at_pair p (clause_holds world) issued_before_match each.1.1.0 s f within.0 within.1 taken;
          later = (once_parts p world s f (at_pair p (clause_holds world) (without_later_pairs p) each.1.1.1.0 s f within.0 within.1 taken)).1;
          sends = at_pair p (clause_holds world) (λ send taker. flat_map (send_is_matched_before p send taker) (earlier_sends p send taker)) each.1.1.1.1.0 s f within.0 within.1 taken;
          takers = at_pair p (clause_holds world) (λ send taker. flat_map (taker_is_matched_before p send taker) (earlier_takers p send taker)) each.1.1.1.1.1.0 s f within.0 within.1 taken;
          waits = at_pair p (clause_holds world) (pair_does_not_wait p) each.1.1.1.1.1.1.0 s f within.0 within.1 taken;
        }

pub consequences : (p : MpiProgram) (world : World) → Each (Hold world) (families_of_ended_runs p) → Consequences p world
consequences p world each =
    let at = λ (clauses : ℕ → List SymbolicClause) (family : list_all (clause_holds world) (flat_map clauses (places p)) ≡ true) (c : ℕ) (below : c < length p.calls). at_call p (clause_holds world) clauses family c below in
    let says = pair_says p world each in
    record {
      order = λ c d below e. is_after world c d (subst (λ (z : Option ℕ). Hold world (issued_after c z)) e (at (λ c. issued_after c (previous_of_rank p c)) each.0 c below));
      returns = λ c d below e. subst (λ (z : Option ℕ). Hold world (issued_after_return_of p c z)) e (at (λ c. issued_after_return_of p c (previous_of_rank p c)) each.1.0 c below);
      issues = λ s t fit m. issued_before world s t (says s t fit).before m;
      one_taker = one_taker p world each.1.1.1.0;
      one_send = λ s u t fit fits m n. one_send p world s u t (says s t fit).later (says u t fits).later fit fits m n;
      sends = λ s t e fit m below same fits. at_earlier_send p world s t e (says s t fit).sends m below same fits;
      takers = λ s t e fit m below same fits. at_earlier_taker p world s t e (says s t fit).takers m below same fits;
      seen = λ s f t seen taken m n. taken_before p world s f t (see_says p world s f (at_see p world each s f seen)).seen taken m n;
      pairs = λ s t fit i j. one_is_matched p world s t (says s t fit).waits i j;
      first = λ c below e. issued_first world p c (subst (λ (z : Option ℕ). Hold world (issue_does_not_wait p c z)) e (at (λ c. issue_does_not_wait p c (previous_of_rank p c)) each.1.1.1.1.1.1.1.0 c below));
      next = λ c d below e. subst (λ (z : Option ℕ). Hold world (issue_does_not_wait p c z)) e (at (λ c. issue_does_not_wait p c (previous_of_rank p c)) each.1.1.1.1.1.1.1.0 c below);
      policy = λ s below standard. kept_at (λ other. Hold world (buffered_under p.policy other)) (is_standard p) (length p.calls) (each_from_all (clause_holds world) (buffered_under p.policy) (standard_sends p) each.1.1.1.1.1.1.1.1.0) s below standard;
    }

-- A run that goes on by one step, a run that is gone through step by step, and where no step is
-- enabled.
use Rattle.std.proofs.Common.{◌≡◌, ℕ, ◌+◌, ◌*◌, ◌<◌, ◌≤◌, ◌==◌, Bool, true, false, not, List, [], ◌∷◌, ◌++◌, length, get_or, take, Option, Some, None, slice_get, is_some, refl, sym, ◌∙◌, ap, subst, ◌⊎◌, inl, inr, arith}
use Rattle.std.specs.List.{Contains, filter, range_with_len}
use Rattle.std.specs.Prelude.{IsPermutation, IfNone}
use Rattle.std.proofs.lemmas.Bool.{eqb-true, and_from}
use Rattle.std.proofs.lemmas.Option.{slice_get-get_or, slice_get_within}
use Rattle.std.proofs.lemmas.List.Elements.{All-nil, All-contains}
use Rattle.std.proofs.lemmas.List.Sorted.{Contains-permutation}
use Rattle.callorder.specs.declared.calls.Call.{Call}
use Rattle.callorder.specs.declared.calls.Message.{Message}
use Rattle.callorder.specs.declared.calls.Pattern.{Pattern}
use Rattle.callorder.specs.declared.calls.Kind.{Kind}
use Rattle.callorder.specs.Calls.{message_of, pattern_of, is_probe_kind, fits_between, both_hold, holds_of, fits}
use Rattle.callorder.specs.Programs.{MpiProgram, call_at, is_probe, kind_holds}
use Rattle.semantics.specs.declared.state.Step.{Step}
use Rattle.semantics.specs.declared.state.Step.TheVariants.{Issue, Match, See}
use Rattle.semantics.specs.RunEnds.{IsFinishedRun}
use Rattle.semantics.specs.Configurations.{is_open_call, IsConfigurationOf}
use Rattle.semantics.specs.Machine.{Configuration, opening, after, after_all, is_issued, is_matched, is_rank_finished, can_issue_next, CanFind, IsEnabled, IsRun, IsStuckRun}
use Rattle.semantics.specs.StuckParts.{NoIssue}
use Rattle.semantics.proofs.Lengths.{runs_are_short}
use Rattle.semantics.proofs.Runs.{after_all-push, IsRun-push, IsRun-at}
use Rattle.run_laws.specs.Places.{find_step}
use Rattle.prover.specs.parts.Walks.{IsWalk, NothingButSees, NoStepEnabled, NoFindBy, NoIssueBy, finds, is_other, is_open_send, is_open_send_call, is_open_finder, is_open_finder_call}
use Rattle.prover.proofs.Elements.{contains_below}

pub now_more : (m : Configuration) (steps next : List Step) (step : Step) (s t : Configuration) → s ≡ after_all m steps → t ≡ after s step → next ≡ steps ++ step ∷ [] → t ≡ after_all m next
now_more m steps next step s t now one more =
    one ∙ ap (λ (x : Configuration). after x step) now ∙ sym (after_all-push m steps step) ∙ ap (after_all m) (sym more)

pub run_more : (p : MpiProgram) (m : Configuration) (steps next : List Step) (step : Step) (s : Configuration) → s ≡ after_all m steps → IsRun p m steps → IsEnabled p s step → next ≡ steps ++ step ∷ [] → IsRun p m next
run_more p m steps next step s now run enabled more =
    subst (IsRun p m) (sym more) (IsRun-push p m steps step run (subst (λ (x : Configuration). IsEnabled p x step) now enabled))

pub enabled_there : (p : MpiProgram) (m : Configuration) (steps : List Step) (k : ℕ) (d : Step) (s : Configuration) → IsRun p m steps → k < length steps → s ≡ after_all m (take k steps) → IsEnabled p s (get_or steps k d)
enabled_there p m steps k d s run within now =
    subst (λ (x : Configuration). IsEnabled p x (get_or steps k d)) (sym now) (IsRun-at p m steps k (get_or steps k d) run (slice_get-get_or steps k d within))

-- ---- where no step is enabled

either : (b : Bool) → (b ≡ true) ⊎ (b ≡ false)
either true = inl refl
either false = inr refl

issues_in_range : (p : MpiProgram) (m : Configuration) (rank : ℕ) (buffered : Bool) (c : Option ℕ) → slice_get m.next rank ≡ c → holds_of (can_issue_next p m rank buffered) c ≡ true → rank < length m.next
issues_in_range p m rank buffered None there can = absurd cc
issues_in_range p m rank buffered (Some c) there can = slice_get_within m.next rank c there

true_where_not_false : (b : Bool) → not b ≡ false → b ≡ true
true_where_not_false true e = refl
true_where_not_false false e = absurd cc

is_held : (held : Option ℕ) (rank : ℕ) → is_other held rank ≡ false → held ≡ Some rank
is_held None rank e = absurd cc
is_held (Some other) rank e = ap (λ (x : ℕ). Some x) (eqb-true other rank (true_where_not_false (other == rank) e))

-- no call can be issued where none of these ranks can issue, nor the one that is held back
no_issue : (p : MpiProgram) (m : Configuration) (held : Option ℕ) (ranks : List ℕ) → IsConfigurationOf p m → IsPermutation (filter (is_other held) (range_with_len 0 p.ranks)) ranks
    → ((rank : ℕ) → Contains ranks rank → NoIssueBy p m rank) → ((rank : ℕ) → held ≡ Some rank → NoIssueBy p m rank) → NoIssue p m
no_issue p m held ranks of others others_wait held_waits rank buffered can =
    let below : rank < p.ranks = omega (arith, issues_in_range p m rank buffered (slice_get m.next rank) refl can, of.next) in
    elim (either (is_other held rank)) [
      | inl other ↦ others_wait rank (Contains-permutation (filter (is_other held) (range_with_len 0 p.ranks)) ranks rank others (contains_below (is_other held) p.ranks rank below other)) buffered can
      | inr same ↦ held_waits rank (is_held held rank same) buffered can
    ]

-- nothing but a see is enabled where no rank can issue and nothing can be matched
pub nothing_but_sees : (p : MpiProgram) (m : Configuration) (held : Option ℕ) (ranks : List ℕ) → IsConfigurationOf p m → IsPermutation (filter (is_other held) (range_with_len 0 p.ranks)) ranks
    → ((rank : ℕ) → Contains ranks rank → NoIssueBy p m rank) → ((rank : ℕ) → held ≡ Some rank → NoIssueBy p m rank) → NoFindBy p m false → NothingButSees p m
nothing_but_sees p m held ranks of others others_wait held_waits no_match =
    record { issues = no_issue p m held ranks of others others_wait held_waits; matches = no_match }

-- no step is enabled where no probe can see a message either
pub nothing_enabled : (p : MpiProgram) (m : Configuration) → NothingButSees p m → NoFindBy p m true → NoStepEnabled p m
nothing_enabled p m rest no_see (Issue rank buffered) can = rest.issues rank buffered can
nothing_enabled p m rest no_see (Match s t) can = rest.matches s t can
nothing_enabled p m rest no_see (See s f) can = no_see s f can

between_some : (sender : ℕ) (message : Option Message) (taker : ℕ) (pattern : Option Pattern) → fits_between sender message taker pattern ≡ true → (is_some message ≡ true) × (is_some pattern ≡ true)
between_some sender None taker pattern e = absurd cc
between_some sender (Some message) taker None e = absurd cc
between_some sender (Some message) taker (Some pattern) e = (refl, refl)

finds_where : (sees : Bool) (kind : Kind ℕ) → is_some (pattern_of kind) ≡ true → is_probe_kind kind ≡ sees → finds sees kind ≡ true
finds_where true kind some is = is
finds_where false kind some is = and_from (is_some (pattern_of kind)) (not (is_probe_kind kind)) some (ap not is)

module _ (p : MpiProgram) (m : Configuration) (sees : Bool) (s f : ℕ) (send_open : is_open_call p m s ≡ true) (finder_open : is_open_call p m f ≡ true) where
  both_open : (a b : Option Call) → call_at p s ≡ a → call_at p f ≡ b → both_hold fits a b ≡ true → kind_holds is_probe_kind b ≡ sees
      → (s < length p.calls) × (is_open_send_call p m s a ≡ true) × (f < length p.calls) × (is_open_finder_call p m sees f b ≡ true)
  both_open None b at_s at_f fit kind = absurd cc
  both_open (Some x) None at_s at_f fit kind = absurd cc
  both_open (Some x) (Some y) at_s at_f fit kind =
      let some = between_some x.rank (message_of x.kind) y.rank (pattern_of y.kind) fit in (
        slice_get_within p.calls s x at_s,
        and_from (is_some (message_of x.kind)) (is_open_call p m s) some.0 send_open,
        slice_get_within p.calls f y at_f,
        and_from (finds sees y.kind) (is_open_call p m f) (finds_where sees y.kind some.1 kind) finder_open,
      )

not_matched : (b : Bool) → b ≡ false → not b ≡ true
not_matched b e = ap not e

false_where_not : (b : Bool) → not b ≡ true → b ≡ false
false_where_not true e = absurd cc
false_where_not false e = refl

-- what the step by which a finder finds a send asks for
find_parts : (p : MpiProgram) (m : Configuration) (sees : Bool) (s f : ℕ) → IsEnabled p m (find_step sees s f) → (is_probe p f ≡ sees) × CanFind p m s f
find_parts p m true s f enabled = enabled
find_parts p m false s f enabled = (false_where_not (is_probe p f) enabled.0, enabled.1)

-- what is found is an issued send that is not matched, and by an issued finder that has found
-- nothing
both_listed : (p : MpiProgram) (m : Configuration) (sees : Bool) (s f : ℕ) → IsEnabled p m (find_step sees s f)
    → (s < length p.calls) × (is_open_send p m s ≡ true) × (f < length p.calls) × (is_open_finder p m sees f ≡ true)
both_listed p m sees s f enabled =
    let parts = find_parts p m sees s f enabled in
    let can = parts.1 in
    let send_open : is_open_call p m s ≡ true = and_from (is_issued p m s) (not (is_matched m s)) can.send_issued (not_matched (is_matched m s) can.send_open) in
    let finder_open : is_open_call p m f ≡ true = and_from (is_issued p m f) (not (is_matched m f)) can.finder_issued (not_matched (is_matched m f) can.finder_open) in
    both_open p m sees s f send_open finder_open (call_at p s) (call_at p f) refl refl can.fit parts.0

-- each finder that may find a send is listed
finder_listed : (p : MpiProgram) (m : Configuration) (sees : Bool) (finders in_turn : List ℕ) → finders ≡ filter (is_open_finder p m sees) (range_with_len 0 (length p.calls)) → IsPermutation finders in_turn
    → (s f : ℕ) → IsEnabled p m (find_step sees s f) → Contains in_turn f
finder_listed p m sees finders in_turn all moved s f enabled =
    let both = both_listed p m sees s f enabled in
    Contains-permutation finders in_turn f moved (subst (λ (fs : List ℕ). Contains fs f) (sym all) (contains_below (is_open_finder p m sees) (length p.calls) f both.2 both.3))

-- what is known where there is none
pub if_none : {A : Type 0} (o : Option A) (P : Type 0) (b : Bool) → b ≡ is_some o → b ≡ false → IfNone o P → P
if_none None P b is not_some there = there
if_none (Some x) P b is not_some there = let both : true ≡ false = sym is ∙ not_some in absurd cc

-- and what follows from it
pub on_none : {A : Type 0} (o : Option A) (P Q : Type 0) → (P → Q) → IfNone o P → IfNone o Q
on_none None P Q follows there = follows there
on_none (Some x) P Q follows there = tt

-- where no send was found among the calls in turn, there is none that can be found
pub none_found : (p : MpiProgram) (m : Configuration) (sees : Bool) (sends sends_in_turn sends_seen finders finders_in_turn finders_seen : List ℕ) (found : Option Step)
    → sends ≡ filter (is_open_send p m) (range_with_len 0 (length p.calls)) → IsPermutation sends sends_in_turn → sends_seen ≡ sends_in_turn
    → finders ≡ filter (is_open_finder p m sees) (range_with_len 0 (length p.calls)) → IsPermutation finders finders_in_turn → finders_seen ≡ finders_in_turn
    → IfNone found ((send finder : ℕ) → Contains sends_seen send → Contains finders_seen finder → IsEnabled p m (find_step sees send finder) → ⊥) → IfNone found (NoFindBy p m sees)
none_found p m sees sends sends_in_turn sends_seen finders finders_in_turn finders_seen found all_sends sends_moved sends_are all_finders finders_moved finders_are none =
    on_none found _ _ (λ no s f enabled.
    let both = both_listed p m sees s f enabled in
    let send : Contains sends s = subst (λ (ss : List ℕ). Contains ss s) (sym all_sends) (contains_below (is_open_send p m) (length p.calls) s both.0 both.1) in
    no s f
    (subst (λ (ss : List ℕ). Contains ss s) (sym sends_are) (Contains-permutation sends sends_in_turn s sends_moved send))
    (subst (λ (fs : List ℕ). Contains fs f) (sym finders_are) (finder_listed p m sees finders finders_in_turn all_finders finders_moved s f enabled))
    enabled) none

nothing_in : (xs : List ℕ) → length xs ≡ 0 → xs ≡ []
nothing_in [] e = refl
nothing_in (x ∷ xs) e = absurd (omega (arith, e))

-- where there is no finder in turn, none can find a send
pub none_there : (p : MpiProgram) (m : Configuration) (sees : Bool) (finders in_turn : List ℕ) → finders ≡ filter (is_open_finder p m sees) (range_with_len 0 (length p.calls)) → IsPermutation finders in_turn → length in_turn ≡ 0
    → NoFindBy p m sees
none_there p m sees finders in_turn all moved empty s f enabled =
    All-contains (λ (y : ℕ). ⊥) [] f (All-nil (λ (y : ℕ). ⊥)) (subst (λ (fs : List ℕ). Contains fs f) (nothing_in in_turn empty) (finder_listed p m sees finders in_turn all moved s f enabled))

-- ---- how walks end

-- no run has so many steps
pub too_long : (p : MpiProgram) (steps : List Step) (turn : ℕ) → IsRun p (opening p) steps → length steps ≡ turn → 2 * length p.calls + 1 ≤ turn → ⊥
too_long p steps turn run size long = omega (arith, runs_are_short p steps run, size, long)

-- a walk that does not end stuck ends finished
pub walk_finishes : (p : MpiProgram) (steps : List Step) → IsWalk p steps → (IsStuckRun p steps → ⊥) → IsFinishedRun p steps
walk_finishes p steps walk not_stuck = record {
  run = walk.run;
  finished = λ rank below. elim (either (is_rank_finished p (after_all (opening p) steps) rank)) [
    | inl finished ↦ finished
    | inr unfinished ↦ absurd (not_stuck (record { run = walk.run; stuck = record { rank = rank; in_range = below; unfinished = unfinished; none_enabled = walk.ended } }))
  ];
}

-- The configuration at each stage of a schedule, told by the world and by the events that are left.
use Rattle.std.proofs.Common.{◌≡◌, ℕ, zero, suc, ◌<◌, ◌≤◌, ◌⊎◌, Bool, true, false, not, ◌&&◌, ◌||◌, nat_lt, List, [], ◌∷◌, Option, Some, None, is_some, length, replicate, slice_get, slice_index, refl, sym, ap, ◌∙◌, subst, arith}
use Rattle.std.specs.Option.{unwrap_or}
use Rattle.std.proofs.lemmas.Bool.Decides.{nat_tests}
use Rattle.std.proofs.lemmas.List.FromFn.{get_or-map-range_with_len}
use Rattle.std.proofs.lemmas.Option.{slice_get_within}
use Rattle.callorder.specs.declared.calls.Call.{Call}
use Rattle.callorder.specs.declared.calls.Message.{Message}
use Rattle.callorder.specs.declared.calls.Pattern.{Pattern}
use Rattle.callorder.specs.Calls.{fits_between, message_of, pattern_of, both_hold, holds_of, fits}
use Rattle.callorder.specs.ProgramRules.{IsProgram}
use Rattle.callorder.specs.Programs.{MpiProgram, call_at, is_of_rank, are_fit, takes}
use Rattle.semantics.specs.Configurations.{IsConfigurationOf}
use Rattle.semantics.specs.Machine.{Configuration, first_call, opening, is_issued, is_issued_call, is_buffered, partner_of}
use Rattle.semantics.proofs.Runs.{IsConfigurationOf-opening}
use Rattle.run_laws.proofs.Issued.{issued_before}
use Rattle.candidates.specs.Pairs.{places}
use Rattle.formula.specs.declared.facts.RunEvent.{RunEvent}
use Rattle.formula.specs.declared.facts.RunEvent.TheVariants.{Issue as issue_of, Match as match_of}
use Rattle.formula.specs.declared.facts.Fact.TheVariants.{Issued as issued, Buffered as buffered, Matched as matched}
use Rattle.formula.specs.Families.{is_standard, finds_message, call_finds_message}
use Rattle.formula.proofs.Elements.{Each, and_both, any_filter, any_range}
use Rattle.formula_from_run.specs.Worlds.{World, is_that}
use Rattle.formula_from_run.proofs.Matches.{fit_within, is_that-some}
use Rattle.formula_from_run.proofs.Starts.{first_from}
use Rattle.run_from_formula.specs.Schedules.{happens}
use Rattle.run_from_formula.proofs.Happening.{IsListed, is_in, by_clock, found_by_clock, not_left, same_event}
use Rattle.run_laws.proofs.Descent.{takes_fit}
use Rattle.formula.specs.Facts.{is_same_event}

-- What is issued, buffered and matched is what the world says of the events that aren't left. Each
-- rank has gone through its own calls alone.
pub record IsStage (p : MpiProgram) (world : World) (m : Configuration) (left : List RunEvent) : Type 0 where
  pub size : IsConfigurationOf p m
  pub started : (r : ℕ) → r < p.ranks → first_call p r ≤ slice_index m.next r
  pub own : (r k : ℕ) → r < p.ranks → first_call p r ≤ k → k < slice_index m.next r → is_of_rank (call_at p k) r ≡ true
  pub issues : (c : ℕ) → c < length p.calls → is_issued p m c ≡ (world.has (issued c) && not (is_in left (issue_of c)))
  pub flags : (s : ℕ) → is_issued p m s ≡ true → is_standard p s ≡ true → is_buffered m s ≡ world.has (buffered s)
  pub sends : (s t : ℕ) → takes p s t ≡ true → is_that (partner_of m s) t ≡ (world.has (matched s t) && not (is_in left (match_of t)))
  pub takers : (s t : ℕ) → are_fit p s t ≡ true → is_that (partner_of m t) s ≡ (world.has (matched s t) && not (is_in left (match_of t)))
  pub fits : (x y : ℕ) → partner_of m x ≡ Some y → (takes p x y ≡ true) ⊎ (are_fit p y x ≡ true)
  pub done : (e : RunEvent) → IsListed p e → happens p world e ≡ true → is_in left e ≡ false → Each (λ y. world.clock e ≤ world.clock y) left

-- ---- pairs that fit

pattern_there : (r q : ℕ) (message : Option Message) (pattern : Option Pattern) → fits_between r message q pattern ≡ true → is_some pattern ≡ true
pattern_there r q None pattern h = absurd (cc)
pattern_there r q (Some message) None h = absurd (cc)
pattern_there r q (Some message) (Some pattern) h = refl

taker_there : (x y : Option Call) → both_hold fits x y ≡ true → call_finds_message y ≡ true
taker_there None y h = absurd (cc)
taker_there (Some x) None h = absurd (cc)
taker_there (Some x) (Some y) h = pattern_there x.rank y.rank (message_of x.kind) (pattern_of y.kind) h

pub fit_taker : (p : MpiProgram) (s t : ℕ) → are_fit p s t ≡ true → finds_message p t ≡ true
fit_taker p s t fit = taker_there (call_at p s) (call_at p t) fit

-- a matched pair's match happens
pub match_happens : (p : MpiProgram) (world : World) (s t : ℕ) → are_fit p s t ≡ true → world.has (matched s t) ≡ true → happens p world (match_of t) ≡ true
match_happens p world s t fit m =
    any_filter (λ other. world.has (matched other t)) (λ other. are_fit p other t) (places p) ∙
    any_range (λ other. are_fit p other t && world.has (matched other t)) 0 (length p.calls) s (omega arith) (omega (arith, (fit_within p s t fit).0)) (and_both (are_fit p s t) (world.has (matched s t)) fit m)

-- ---- the first calls of ranks

-- a call of a lower rank stands before a rank's first call
pub before_first : (p : MpiProgram) (r d : ℕ) (before : Call) → IsProgram p → call_at p d ≡ Some before → before.rank < r → suc d ≤ first_call p r
before_first p r d before is there lower =
    first_from r p.calls (suc d) (omega (arith, slice_get_within p.calls d before there))
    (λ e x below at. let up = is.rank_order e d x before (omega (arith, below)) at there in omega (arith, up, lower))

opening_next : (p : MpiProgram) (r : ℕ) → r < p.ranks → slice_index (opening p).next r ≡ first_call p r
opening_next p r below = get_or-map-range_with_len (first_call p) 0 p.ranks r r 0 below (omega arith)

-- ---- the opening stage

left_out : (a b : Bool) → (a ≡ true → b ≡ true) → false ≡ (a && not b)
left_out true b h = ap not (sym (h refl))
left_out false b h = refl

unissued : (p : MpiProgram) → IsProgram p → (c : ℕ) (b : Bool) → is_issued p (opening p) c ≡ b → b ≡ false
unissued p is c true e = absurd (let w = issued_before p [] 0 c is.rank_order tt e in omega (arith, w.before))
unissued p is c false e = refl

-- no call stands before its rank's first one
pub first_most : (p : MpiProgram) (c : ℕ) (call : Call) → IsProgram p → call_at p c ≡ Some call → first_call p call.rank ≤ c
first_most p c call is there =
    let off : nat_lt c (slice_index (opening p).next call.rank) ≡ false = subst (λ (z : Option Call). holds_of (is_issued_call (opening p) c) z ≡ false) there (unissued p is c (is_issued p (opening p) c) refl) in
    let first = opening_next p call.rank (is.in_range c call there).own in
    let most : slice_index (opening p).next call.rank ≤ c = grind (arith, nat_tests) in
    omega (arith, first, most)

all_alike : (o : Option ℕ) (n c : ℕ) → unwrap_or (slice_get (replicate n o) c) o ≡ o
all_alike o zero c = refl
all_alike o (suc n) zero = refl
all_alike o (suc n) (suc c) = all_alike o n c

pub opening_stage : (p : MpiProgram) (world : World) → IsProgram p → IsStage p world (opening p) (by_clock p world)
opening_stage p world is =
    record {
      size = IsConfigurationOf-opening p (opening p) refl;
      started = λ r below. omega (arith, opening_next p r below);
      own = λ r k below from above. absurd (omega (arith, opening_next p r below, from, above));
      issues = λ c below. unissued p is c (is_issued p (opening p) c) refl ∙ left_out _ _ (found_by_clock p world (issue_of c) below);
      flags = λ s issued standard. absurd (let e = unissued p is s true issued in cc);
      sends = λ s t taken. ap (λ (o : Option ℕ). is_that o t) (all_alike None (length p.calls) s) ∙ unmatched s t (takes_fit p s t taken);
      takers = λ s t fit. ap (λ (o : Option ℕ). is_that o s) (all_alike None (length p.calls) t) ∙ unmatched s t fit;
      fits = λ x y e. absurd (let none = all_alike None (length p.calls) x in cc);
      done = λ e listed does out. absurd (let there = found_by_clock p world e listed does in cc);
    }
  where
    unmatched : (s t : ℕ) → are_fit p s t ≡ true → false ≡ (world.has (matched s t) && not (is_in (by_clock p world) (match_of t)))
    unmatched s t fit =
        left_out _ _ (λ m. found_by_clock p world (match_of t) ((fit_within p s t fit).1, fit_taker p s t fit) (match_happens p world s t fit m))

-- ---- what happens earlier than all that is left

still : (a b : Bool) → a ≡ true → b ≡ false → (a && not b) ≡ true
still true true e f = absurd (cc)
still true false e f = refl
still false b e f = absurd (cc)

module _ (p : MpiProgram) (world : World) (m : Configuration) (left : List RunEvent) (e : RunEvent) (stage : IsStage p world m left) (later : Each (λ y. world.clock e ≤ world.clock y) left) where
  pub issued_by : (c : ℕ) → c < length p.calls → world.has (issued c) ≡ true → world.clock (issue_of c) < world.clock e → is_issued p m c ≡ true
  issued_by c below i earlier = stage.issues c below ∙ still _ _ i (not_left world e (issue_of c) left later earlier)

  pub sent_by : (s t : ℕ) → takes p s t ≡ true → world.has (matched s t) ≡ true → world.clock (match_of t) < world.clock e → partner_of m s ≡ Some t
  sent_by s t fit h earlier = is_that-some (partner_of m s) t (stage.sends s t fit ∙ still _ _ h (not_left world e (match_of t) left later earlier))

  pub received_by : (s t : ℕ) → are_fit p s t ≡ true → world.has (matched s t) ≡ true → world.clock (match_of t) < world.clock e → partner_of m t ≡ Some s
  received_by s t fit h earlier = is_that-some (partner_of m t) s (stage.takers s t fit ∙ still _ _ h (not_left world e (match_of t) left later earlier))

-- ---- what has happened is no later than what is left

done_step : (world : World) (head e : RunEvent) (rest : List RunEvent) (b : Bool) → is_same_event e head ≡ b → Each (λ y. world.clock head ≤ world.clock y) rest → (is_in (head ∷ rest) e ≡ false → Each (λ y. world.clock e ≤ world.clock y) (head ∷ rest)) → is_in rest e ≡ false → Each (λ y. world.clock e ≤ world.clock y) rest
done_step world head e rest true same later done out =
    subst (λ (z : RunEvent). Each (λ y. world.clock z ≤ world.clock y) rest) (sym (same_event e head same)) later
done_step world head e rest false same later done out = (done (ap (λ (b : Bool). b || is_in rest e) same ∙ out)).1

pub done_then : (p : MpiProgram) (world : World) (m : Configuration) (head : RunEvent) (rest : List RunEvent) → IsStage p world m (head ∷ rest) → Each (λ y. world.clock head ≤ world.clock y) rest → (e : RunEvent) → IsListed p e → happens p world e ≡ true → is_in rest e ≡ false → Each (λ y. world.clock e ≤ world.clock y) rest
done_then p world m head rest stage later e listed does out =
    done_step world head e rest (is_same_event e head) refl later (stage.done e listed does) out

-- A batch that was derived behind a log, behind a longer one.
use Rattle.std.proofs.Common.{◌≡◌, ℕ, zero, suc, ◌+◌, ◌<◌, ◌≤◌, Bool, true, List, [], ◌∷◌, ◌++◌, length, take, map, get_or, Some, IsTrue, refl, sym, ap, ◌∙◌, subst, append_assoc, arith, inl, inr, slice_get}
use Rattle.std.specs.List.{list_all}
use Rattle.std.proofs.Math.Seq.{take-append-add}
use Rattle.std.proofs.lemmas.Bool.{and_parts, cases_Bool, ltb-true}
use Rattle.std.proofs.lemmas.List.Folds.{list_all-append, list_all_at}
use Rattle.std.proofs.lemmas.List.{map-append, take-map, length-append, length-map}
use Rattle.pages.proofs.Joined.{slice_get-front, slice_get-back}
use Rattle.refutations.specs.declared.batch.BatchLine.{BatchLine}
use Rattle.refutations.specs.declared.batch.Hint.{Hint}
use Rattle.refutations.specs.declared.batch.Hint.TheVariants.{Known, Own}
use Rattle.clauses.specs.Clauses.{Literal, Conjunction, is_within}
use Rattle.refutations.specs.Propagation.{PartialValues, assign}
use Rattle.refutations.specs.Derivations.{clauses_before, clause_numbered, assumed, Propagates, IsConflict, Derives}
use Rattle.refutations.specs.Proofs.{ProofLine}
use Rattle.pool.specs.Replies.{resolved, resolved_hint, DeriveFirst, DeriveAfter}
use Rattle.pool.specs.Moves.{is_earlier, are_earlier, number_after, BatchesMove}
use Rattle.pool.proofs.Derivations.{derive_none, batch_more, all_derive, line_at}

abbrev Clauses : Type 0
Clauses = List (List Literal)

-- the clause that a hint names stands behind more clauses, too
named_moved : (front more own : Clauses) (hint : Hint) (clause : List Literal) → is_earlier (length front + 1) hint ≡ true → clause_numbered (front ++ own) (resolved_hint (length front + 1) hint) ≡ Some clause → clause_numbered ((front ++ more) ++ own) (resolved_hint (length front + length more + 1) hint) ≡ Some clause
named_moved front more own (Known zero) clause early e = absurd (cc)
named_moved front more own (Known (suc place)) clause early e =
    let within : place < length front = omega (arith, ltb-true (suc place) (length front + 1) early) in
    slice_get-front (front ++ more) own place (omega (arith, length-append front more, within))
    ∙ slice_get-front front more place within
    ∙ sym (slice_get-front front own place within)
    ∙ e
named_moved front more own (Own place) clause early e =
    let before : length front + 1 + place ≡ suc (length front + place) = omega arith in
    let behind : length front + length more + 1 + place ≡ suc (length (front ++ more) + place) = omega (arith, length-append front more) in
    ap (clause_numbered ((front ++ more) ++ own)) behind
    ∙ slice_get-back (front ++ more) own place
    ∙ sym (slice_get-back front own place)
    ∙ sym (ap (clause_numbered (front ++ own)) before)
    ∙ e

units_moved : (variables : ℕ) (front more own : Clauses) (known end : PartialValues) (hints : List Hint) → list_all (is_earlier (length front + 1)) hints ≡ true → Propagates variables (front ++ own) known (map (resolved_hint (length front + 1)) hints) end → Propagates variables ((front ++ more) ++ own) known (map (resolved_hint (length front + length more + 1)) hints) end
units_moved variables front more own known end [] early units = units
units_moved variables front more own known end (hint ∷ hints) early (l, unit, further) =
    let both = and_parts (is_earlier (length front + 1) hint) (list_all (is_earlier (length front + 1)) hints) early in (
      l,
      record {
        clause = unit.clause;
        named = named_moved front more own hint unit.clause both.0 unit.named;
        others_false = unit.others_false;
        unassigned = unit.unassigned;
      },
      units_moved variables front more own (assign known l) end hints both.1 further,
    )

-- the last of a mapped list
record LastOf {X : Type 0} (of : X → ℕ) (xs : List X) (front : List ℕ) (last : ℕ) : Type 0 where
  init : List X
  end : X
  cut : xs ≡ init ++ end ∷ []
  same : map of init ≡ front
  is : of end ≡ last

last_of : {X : Type 0} (of : X → ℕ) (xs : List X) (front : List ℕ) (last : ℕ) → map of xs ≡ front ++ last ∷ [] → LastOf of xs front last
last_of of [] [] last e = absurd (cc)
last_of of [] (y ∷ ys) last e = absurd (cc)
last_of of (x ∷ []) [] last e = record { init = []; end = x; cut = refl; same = refl; is = cc }
last_of of (x ∷ z ∷ xs) [] last e = absurd (cc)
last_of of (x ∷ xs) (y ∷ ys) last e =
    let rest : map of xs ≡ ys ++ last ∷ [] = cc in
    let head : of x ≡ y = cc in
    let l = last_of of xs ys last rest in
    record {
      init = x ∷ l.init;
      end = l.end;
      cut = ap (λ ts. x ∷ ts) l.cut;
      same = ap (λ ts. of x ∷ ts) l.same ∙ ap (λ n. n ∷ ys) head;
      is = l.is;
    }

-- the hints' end: all but the last propagate, and the last is the conflict
record ReachedBy (variables : ℕ) (clauses : Clauses) (start : PartialValues) (hints : List ℕ) : Type 0 where
  init : List ℕ
  end : ℕ
  known : PartialValues
  cut : hints ≡ init ++ end ∷ []
  units : Propagates variables clauses start init known
  conflict : IsConflict clauses known end

derives_by : (f : Conjunction) (later : List ProofLine) (line : ProofLine) → IsTrue (is_within f.variables line.literals) → ReachedBy f.variables (clauses_before f later) (assumed line) line.hints → Derives f later line
derives_by f later line within r =
    record {
      within = within;
      reached = record { front = r.init; hint = r.end; others = []; known = r.known; cut = r.cut; units = r.units };
      conflict = r.conflict;
      is_last = refl;
    }

derives_moved : (f : Conjunction) (front more own : Clauses) (earlier later : List ProofLine) (line : BatchLine) → list_all (is_earlier (length front + 1)) line.hints.items ≡ true → clauses_before f earlier ≡ front ++ own → clauses_before f later ≡ (front ++ more) ++ own → Derives f earlier (resolved (length front + 1) line) → Derives f later (resolved (length front + length more + 1) line)
derives_moved f front more own earlier later line early before after d =
    let r0 : Hint → ℕ = resolved_hint (length front + 1) in
    let r1 : Hint → ℕ = resolved_hint (length front + length more + 1) in
    let l = last_of r0 line.hints.items d.reached.front d.reached.hint (d.reached.cut ∙ ap (λ (os : List ℕ). d.reached.front ++ d.reached.hint ∷ os) d.is_last) in
    let start : PartialValues = assumed (resolved (length front + 1) line) in
    let all_early : list_all (is_earlier (length front + 1)) (l.init ++ l.end ∷ []) ≡ true = ap (list_all (is_earlier (length front + 1))) (sym l.cut) ∙ early in
    let both = and_parts (list_all (is_earlier (length front + 1)) l.init) (list_all (is_earlier (length front + 1)) (l.end ∷ [])) (sym (list_all-append (is_earlier (length front + 1)) l.init (l.end ∷ [])) ∙ all_early) in
    let last_early = and_parts (is_earlier (length front + 1) l.end) true both.1 in
    let units : Propagates f.variables (front ++ own) start (map r0 l.init) d.reached.known =
    subst (λ (hs : List ℕ). Propagates f.variables (front ++ own) start hs d.reached.known) (sym l.same)
    (subst (λ (cs : Clauses). Propagates f.variables cs start d.reached.front d.reached.known) before d.reached.units)
    in
    let conflict : IsConflict (front ++ own) d.reached.known d.reached.hint = subst (λ (cs : Clauses). IsConflict cs d.reached.known d.reached.hint) before d.conflict in
    derives_by f later (resolved (length front + length more + 1) line) d.within (
    subst (λ (cs : Clauses). ReachedBy f.variables cs start (map r1 line.hints.items)) (sym after)
    (record {
      init = map r1 l.init;
      end = r1 l.end;
      known = d.reached.known;
      cut = ap (map r1) l.cut ∙ map-append r1 l.init (l.end ∷ []);
      units = units_moved f.variables front more own start d.reached.known l.init both.0 units;
      conflict = record {
        clause = conflict.clause;
        named = named_moved front more own l.end conflict.clause last_early.0 (ap (clause_numbered (front ++ own)) l.is ∙ conflict.named);
        all_false = conflict.all_false;
      };
    }))

-- a place of a list all of which pass
passes : {X : Type 0} (p : X → Bool) (xs : List X) (i : ℕ) (d : X) → i < length xs → list_all p xs ≡ true → p (get_or xs i d) ≡ true
passes p xs i d within all =
    elim (cases_Bool (p (get_or xs i d))) [
      | inl yes_it ↦ yes_it
      | inr fails ↦ let none = list_all_at p xs i d within fails in absurd (cc)
    ]

abbrev literals_of : List ProofLine → Clauses
literals_of lines = map (λ (l : ProofLine). l.literals) lines

abbrev clauses_of : List BatchLine → Clauses
clauses_of batch = map (λ (l : BatchLine). l.clause) batch

resolved_literals : (base : ℕ) (batch : List BatchLine) → literals_of (map (resolved base) batch) ≡ clauses_of batch
resolved_literals base [] = refl
resolved_literals base (line ∷ batch) = ap (λ (cs : Clauses). line.clause ∷ cs) (resolved_literals base batch)

-- the clauses before a line of a batch: those before the batch, and those of its own lines
before_line : (f : Conjunction) (log : List ProofLine) (base : ℕ) (batch : List BatchLine) → clauses_before f (log ++ map (resolved base) batch) ≡ clauses_before f log ++ clauses_of batch
before_line f log base batch =
    ap (λ (cs : Clauses). f.clauses ++ cs) (map-append (λ (l : ProofLine). l.literals) log (map (resolved base) batch) ∙ ap (λ (cs : Clauses). literals_of log ++ cs) (resolved_literals base batch))
    ∙ sym (append_assoc f.clauses (literals_of log) (clauses_of batch))

more_before : (f : Conjunction) (log more : List ProofLine) → clauses_before f (log ++ more) ≡ clauses_before f log ++ literals_of more
more_before f log more =
    ap (λ (cs : Clauses). f.clauses ++ cs) (map-append (λ (l : ProofLine). l.literals) log more)
    ∙ sym (append_assoc f.clauses (literals_of log) (literals_of more))

-- one line of the batch
the_line : (f : Conjunction) (log : List ProofLine) (base : ℕ) (batch : List BatchLine) (count : ℕ) (d : BatchLine) → count < length batch → DeriveAfter f log (map (resolved base) batch) → Derives f (log ++ map (resolved base) (take count batch)) (resolved base (get_or batch count d))
the_line f log base batch count d within derive =
    let of : BatchLine → ProofLine = resolved base in
    let found : slice_get (log ++ map of batch) (length log + count) ≡ Some (of (get_or batch count d)) = slice_get-back log (map of batch) count ∙ line_at of batch count d within in
    let derived = derive (length log + count) (of (get_or batch count d)) (omega arith) (omega (arith, within, length-map batch of)) found in
    let earlier : take (length log + count) (log ++ map of batch) ≡ log ++ map of (take count batch) = take-append-add log (map of batch) count ∙ ap (λ (ls : List ProofLine). log ++ ls) (take-map of count batch) in
    subst (λ (ls : List ProofLine). Derives f ls (of (get_or batch count d))) earlier derived

first_moved : (f : Conjunction) (log more : List ProofLine) (batch : List BatchLine) (d : BatchLine) → are_earlier (length (clauses_before f log) + 1) batch ≡ true → DeriveAfter f log (map (resolved (length (clauses_before f log) + 1)) batch) → (count : ℕ) → count ≤ length batch → DeriveFirst f (log ++ more) (map (resolved (length (clauses_before f log) + length (literals_of more) + 1)) batch) count
first_moved f log more batch d early derive zero most = derive_none f (log ++ more) (map (resolved (length (clauses_before f log) + length (literals_of more) + 1)) batch)
first_moved f log more batch d early derive (suc count) most =
    let front : Clauses = clauses_before f log in
    let base : ℕ = length front + length (literals_of more) + 1 in
    let within : count < length batch = omega (arith, most) in
    let line : BatchLine = get_or batch count d in
    let own : Clauses = clauses_of (take count batch) in
    let hints_early = passes (λ (l : BatchLine). list_all (is_earlier (length front + 1)) l.hints.items) batch count d within early in
    let moved = derives_moved f front (literals_of more) own (log ++ map (resolved (length front + 1)) (take count batch)) ((log ++ more) ++ map (resolved base) (take count batch)) line hints_early (before_line f log (length front + 1) (take count batch)) (before_line f (log ++ more) base (take count batch) ∙ ap (λ (cs : Clauses). cs ++ own) (more_before f log more)) (the_line f log (length front + 1) batch count d within derive) in
    let one_more = batch_more f (log ++ more) (resolved base) batch count d within (first_moved f log more batch d early derive count (omega (arith, most))) moved in
    subst (λ (n : ℕ). DeriveFirst f (log ++ more) (map (resolved base) batch) n) (omega arith) one_more

number_of_front : (f : Conjunction) (log : List ProofLine) → number_after f log ≡ length (clauses_before f log) + 1
number_of_front f log = omega (arith, length-append f.clauses (literals_of log), length-map log (λ (l : ProofLine). l.literals))

number_behind : (f : Conjunction) (log more : List ProofLine) → number_after f (log ++ more) ≡ length (clauses_before f log) + length (literals_of more) + 1
number_behind f log more = omega (arith, number_of_front f log, length-append log more, length-map more (λ (l : ProofLine). l.literals))

pub batches_move : BatchesMove
batches_move f log more [] early derive = derive_none f (log ++ more) []
batches_move f log more (d ∷ batch) early derive =
    let all : List BatchLine = d ∷ batch in
    let early_too : are_earlier (length (clauses_before f log) + 1) all ≡ true = subst (λ (n : ℕ). are_earlier n all ≡ true) (number_of_front f log) early in
    let derive_too : DeriveAfter f log (map (resolved (length (clauses_before f log) + 1)) all) = subst (λ (n : ℕ). DeriveAfter f log (map (resolved n) all)) (number_of_front f log) derive in
    let moved = first_moved f log more all d early_too derive_too (length all) (omega arith) in
    subst (λ (n : ℕ). DeriveAfter f (log ++ more) (map (resolved n) all)) (sym (number_behind f log more))
    (all_derive f (log ++ more) (resolved (length (clauses_before f log) + length (literals_of more) + 1)) all (length all) refl moved)

-- Derivations that grow.
use Rattle.std.proofs.Common.{◌≡◌, ℕ, zero, suc, ◌+◌, ◌<◌, List, [], ◌∷◌, ◌++◌, length, take, map, get_or, Option, Some, slice_get, sym, ap, ◌∙◌, subst, append_assoc, arith, inl, inr}
use Rattle.std.specs.Option.{option_map}
use Rattle.std.proofs.Math.Seq.{take-append-add}
use Rattle.std.proofs.lemmas.Bool.{cases_eq, cases_lt}
use Rattle.std.proofs.lemmas.List.{take_more, take-append-le, map-append, take-map, length-append, length-map}
use Rattle.std.proofs.lemmas.Option.{slice_get-get_or, slice_get-map, slice_get_within}
use Rattle.callorder.proofs.Lookups.{slice_get_of_append}
use Rattle.pages.proofs.Joined.{slice_get-front}
use Rattle.clauses.specs.Clauses.{Literal, Conjunction}
use Rattle.refutations.specs.Derivations.{clauses_before, clause_numbered, Derives}
use Rattle.refutations.specs.Proofs.{ProofLine}
use Rattle.refutations.specs.Refutations.{AreDerived}
use Rattle.refutations.specs.Trees.{IsRefuted}
use Rattle.pool.specs.Replies.{DeriveFirst, DeriveAfter, FailsAt}

-- no line yet
pub derive_none : (f : Conjunction) (log lines : List ProofLine) → DeriveFirst f log lines 0
derive_none f log lines place line low high at = absurd (omega arith)

-- one line more
pub derive_more : (f : Conjunction) (log lines : List ProofLine) (count : ℕ) (line : ProofLine) → DeriveFirst f log lines count → slice_get lines count ≡ Some line → Derives f (log ++ take count lines) line → DeriveFirst f log lines (count + 1)
derive_more f log lines count line before there derived place found low high at =
    elim (cases_eq place (length log + count)) [
      | inr other ↦ before place found low (omega arith) at
      | inl here ↦
          let at_here : slice_get (log ++ lines) (length log + count) ≡ Some found = ap (slice_get (log ++ lines)) (sym here) ∙ at in
          let is_line : found ≡ line =
          elim (slice_get_of_append log lines (length log + count) found at_here) [
            | inl early ↦ absurd (omega (arith, early.1))
            | inr late ↦
                let same : late.0 ≡ count = omega (arith, late.1) in
                let told : ◌≡◌ {A = Option ProofLine} (Some found) (Some line) = sym late.2 ∙ ap (slice_get lines) same ∙ there in
                cc
          ]
          in
          let front : take place (log ++ lines) ≡ log ++ take count lines = ap (λ (n : ℕ). take n (log ++ lines)) here ∙ take-append-add log lines count in
          subst (λ (earlier : List ProofLine). Derives f earlier found) (sym front)
          (subst (λ (l : ProofLine). Derives f (log ++ take count lines) l) (sym is_line) derived)
    ]

-- a log goes on by lines that derive
pub derived_append : (f : Conjunction) (log lines : List ProofLine) → AreDerived f log → DeriveAfter f log lines → AreDerived f (log ++ lines)
derived_append f log lines first further place line low high at =
    elim (cases_lt place (length log)) [
      | inl early ↦
          subst (λ (earlier : List ProofLine). Derives f earlier line) (sym (take-append-le place log lines (omega arith)))
          (first place line low early (sym (slice_get-front log lines place early) ∙ at))
      | inr late ↦ further place line late (omega (arith, length-append log lines)) at
    ]

-- a line of a mapped list
pub line_at : {X : Type 0} (of : X → ProofLine) (batch : List X) (place : ℕ) (d : X) → place < length batch → slice_get (map of batch) place ≡ Some (of (get_or batch place d))
line_at of batch place d within = slice_get-map of batch place ∙ ap (option_map of) (slice_get-get_or batch place d within)

-- the lines so far, and one more
pub lines_more : {X : Type 0} (of : X → ProofLine) (batch : List X) (place : ℕ) (d : X) (line : ProofLine) → place < length batch → line ≡ of (get_or batch place d)
    → map of (take (place + 1) batch) ≡ map of (take place batch) ++ line ∷ []
lines_more of batch place d line within is =
    ap (map of) (take_more batch place d within) ∙ map-append of (take place batch) (get_or batch place d ∷ []) ∙ ap (λ l. map of (take place batch) ++ l ∷ []) (sym is)

-- one line of a batch more derives
pub batch_more : {X : Type 0} (f : Conjunction) (log : List ProofLine) (of : X → ProofLine) (batch : List X) (place : ℕ) (d : X) → place < length batch → DeriveFirst f log (map of batch) place → Derives f (log ++ map of (take place batch)) (of (get_or batch place d)) → DeriveFirst f log (map of batch) (place + 1)
batch_more f log of batch place d within before derived =
    derive_more f log (map of batch) place (of (get_or batch place d)) before (line_at of batch place d within)
    (subst (λ (ls : List ProofLine). Derives f (log ++ ls) (of (get_or batch place d))) (sym (take-map of place batch)) derived)

-- the line that stops a batch
pub batch_fails : {X : Type 0} (f : Conjunction) (log : List ProofLine) (of : X → ProofLine) (batch : List X) (place : ℕ) (d : X) → place < length batch → DeriveFirst f log (map of batch) place → (Derives f (log ++ map of (take place batch)) (of (get_or batch place d)) → ⊥) → FailsAt f log (map of batch) place
batch_fails f log of batch place d within before not_derived =
    record {
      before = before;
      line = of (get_or batch place d);
      there = line_at of batch place d within;
      not_derived = λ derived. not_derived (subst (λ (ls : List ProofLine). Derives f (log ++ ls) (of (get_or batch place d))) (take-map of place batch) derived);
    }

pub all_derive : {X : Type 0} (f : Conjunction) (log : List ProofLine) (of : X → ProofLine) (batch : List X) (count : ℕ) → count ≡ length batch → DeriveFirst f log (map of batch) count → DeriveAfter f log (map of batch)
all_derive f log of batch count e before = subst (λ (n : ℕ). DeriveFirst f log (map of batch) n) (e ∙ sym (length-map batch of)) before

-- ---- a longer log names the same clauses

named_more : (clauses more : List (List Literal)) (number : ℕ) (clause : List Literal) → clause_numbered clauses number ≡ Some clause → clause_numbered (clauses ++ more) number ≡ Some clause
named_more clauses more zero clause e = absurd (cc)
named_more clauses more (suc place) clause e = slice_get-front clauses more place (slice_get_within clauses place clause e) ∙ e

clauses_more : (f : Conjunction) (log lines : List ProofLine) → clauses_before f log ++ map (λ (l : ProofLine). l.literals) lines ≡ clauses_before f (log ++ lines)
clauses_more f log lines =
    append_assoc f.clauses (map (λ (l : ProofLine). l.literals) log) (map (λ (l : ProofLine). l.literals) lines)
    ∙ ap (λ (cs : List (List Literal)). f.clauses ++ cs) (sym (map-append (λ (l : ProofLine). l.literals) log lines))

pub refuted_more : (f : Conjunction) (log lines : List ProofLine) (path : List Literal) (number : ℕ) → IsRefuted (clauses_before f log) path number → IsRefuted (clauses_before f (log ++ lines)) path number
refuted_more f log lines path number r =
    subst (λ (cs : List (List Literal)). IsRefuted cs path number) (clauses_more f log lines)
    (record {
      clause = r.clause;
      named = named_more (clauses_before f log) (map (λ (l : ProofLine). l.literals) lines) number r.clause r.named;
      refuted = r.refuted;
    })

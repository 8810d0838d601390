-- What changes leave sound.
use Rattle.std.proofs.Common.{◌≡◌, ◌≢◌, ℕ, zero, suc, ◌+◌, ◌<◌, ◌≤◌, true, false, List, [], ◌∷◌, ◌++◌, length, set, get_or, replicate, Option, Some, None, slice_get, refl, sym, ap, ◌∙◌, subst, arith, inl, inr, ◌⊎◌, ⊎_elim}
use Rattle.std.proofs.lemmas.Bool.{cases_eq}
use Rattle.std.proofs.lemmas.List.{length-append, length-set, length-map, length-replicate, get_or_append_left, get_or-set_same, get_or-set_other}
use Rattle.callorder.proofs.Lookups.{slice_get_of_append}
use Rattle.clauses.specs.Clauses.{Literal, Conjunction}
use Rattle.encode.specs.Encodings.{EncodedProgram}
use Rattle.formula.specs.Families.{events}
use Rattle.formula.specs.Numbering.{formula_of}
use Rattle.refutations.specs.Derivations.{clauses_before}
use Rattle.refutations.specs.Proofs.{ProofLine}
use Rattle.refutations.specs.Trees.{branch, IsRefuted}
use Rattle.trees.specs.declared.tree.NodeKind.TheVariants.{Leaf, Split}
use Rattle.trees.specs.Trees.{TreeNode, TreeState, leaf_with, path_at, IsLeaf, split_at, HasNoRoom, IsGrownTree}
use Rattle.trees.proofs.Splits.{kind_within, length_after}
use Rattle.trees.proofs.Grown.{state_grown_after}
use Rattle.refutations.specs.declared.batch.BatchLine.{BatchLine}
use Rattle.pool.specs.Counts.{open_count}
use Rattle.pool.specs.declared.why.Why.{Why}
use Rattle.pool.specs.Replies.{resolved, resolved_lines, DeriveAfter, most_lines}
use Rattle.pool.specs.States.{PoolState, IsSoundPool, IsClosedBy, next_number, opening_pool, held_of}
use Rattle.pool.proofs.Derivations.{derived_append, refuted_more}
use Rattle.pool.proofs.OpenLeaves.{count_split, count_append}

-- a place after one was set
at_set : (xs : List ℕ) (k x at y : ℕ) → slice_get (set xs k x) at ≡ Some y → ((at ≡ k) × (x ≡ y)) ⊎ (slice_get xs at ≡ Some y)
at_set [] k x at y e = inr e
at_set (first ∷ xs) zero x zero y e = inl (refl, cc)
at_set (first ∷ xs) zero x (suc at) y e = inr e
at_set (first ∷ xs) (suc k) x zero y e = inr e
at_set (first ∷ xs) (suc k) x (suc at) y e = ⊎_elim (λ (both : (at ≡ k) × (x ≡ y)). inl (ap suc both.0, both.1)) (λ old. inr old) (at_set xs k x at y e)

two_zeros : (j n : ℕ) → slice_get (0 ∷ 0 ∷ []) j ≡ Some n → n ≡ 0
two_zeros zero n e = cc
two_zeros (suc zero) n e = cc
two_zeros (suc (suc j)) n e = absurd (let told : ◌≡◌ {A = Option ℕ} None (Some n) = e in cc)

all_zeros : (count j n : ℕ) → slice_get (replicate count 0) j ≡ Some n → n ≡ 0
all_zeros zero j n e = absurd (let told : ◌≡◌ {A = Option ℕ} None (Some n) = e in cc)
all_zeros (suc count) zero n e = let told : ◌≡◌ {A = Option ℕ} (Some 0) (Some n) = e in cc
all_zeros (suc count) (suc j) n e = all_zeros count j n e

pub not_zero : (clauses : List (List Literal)) (path : List Literal) (number : ℕ) → IsRefuted clauses path number → number ≢ 0
not_zero clauses path zero r e = absurd (let told : ◌≡◌ {A = Option (List Literal)} None (Some r.clause) = r.named in cc)
not_zero clauses path (suc n) r e = absurd (omega arith)

-- the reasons are all the same to it
pub sound_with : (h : PoolState) (reasons : List Why) → IsSoundPool h → IsSoundPool (record h { reasons = reasons })
sound_with h reasons s =
    record {
      encoded = s.encoded;
      few_lines = s.few_lines;
      grown = s.grown;
      variables = s.variables;
      many = s.many;
      derived = s.derived;
      closed = s.closed;
      stuck = s.stuck;
    }

pub sound_close : (h : PoolState) (leaf number : ℕ) → IsSoundPool h → IsClosedBy h leaf number → IsSoundPool (record h { closed = set h.closed leaf number })
sound_close h leaf number s refuted =
    record {
      encoded = s.encoded;
      few_lines = s.few_lines;
      grown = s.grown;
      variables = s.variables;
      many = length-set h.closed leaf number ∙ s.many;
      derived = s.derived;
      closed = λ at known e other. ⊎_elim
          (λ (both : (at ≡ leaf) × (number ≡ known)). subst (λ (n : ℕ). IsClosedBy h at n) both.1 (subst (λ (l : ℕ). IsClosedBy h l number) (sym both.0) refuted))
          (λ old. s.closed at known old other)
          (at_set h.closed leaf number at known e);
      stuck = s.stuck;
    }

pub sound_publish : (h : PoolState) (lines log : List ProofLine) → log ≡ h.log ++ lines → IsSoundPool h → DeriveAfter h.formula h.log lines → length h.log + length lines ≤ most_lines → IsSoundPool (record h { log = log })
sound_publish h lines log is s derive few =
    subst (λ (l : List ProofLine). IsSoundPool (record h { log = l })) (sym is)
    (record {
      encoded = s.encoded;
      few_lines = omega (arith, length-append h.log lines, few);
      grown = s.grown;
      variables = s.variables;
      many = s.many;
      derived = derived_append h.formula h.log lines s.derived derive;
      closed = λ leaf number e other. refuted_more h.formula h.log lines (path_at h.tree.nodes leaf) number (s.closed leaf number e other);
      stuck = s.stuck;
    })

-- ---- a split

path_kept : (nodes : List TreeNode) (place v k : ℕ) → place < length nodes → k < length nodes → path_at (split_at nodes place v) k ≡ path_at nodes k
path_kept nodes place v k there low =
    let path = path_at nodes place in
    let made : TreeNode = record { path = path; kind = Split v (length nodes) (length nodes + 1) } in
    let two : List TreeNode = leaf_with (branch v true path) ∷ leaf_with (branch v false path) ∷ [] in
    let d = leaf_with [] in
    let before : k < length (set nodes place made) = omega (arith, length-set nodes place made) in
    ap (λ (n : TreeNode). n.path) (get_or_append_left (set nodes place made) two d k before)
    ∙ elim (cases_eq k place) [
      | inl here ↦
          ap (λ (j : ℕ). (get_or (set nodes place made) j d).path) here
          ∙ ap (λ (n : TreeNode). n.path) (get_or-set_same nodes place made d there)
          ∙ sym (ap (path_at nodes) here)
      | inr other ↦ ap (λ (n : TreeNode). n.path) (get_or-set_other nodes place k made d other)
    ]

pub sound_split : (h : PoolState) (leaf v : ℕ) → IsSoundPool h → IsLeaf h.tree.nodes leaf → 1 ≤ v → v ≤ h.formula.variables → (HasNoRoom h.tree.nodes leaf → ⊥) → IsSoundPool (record h { tree = record h.tree { nodes = split_at h.tree.nodes leaf v }; closed = h.closed ++ 0 ∷ 0 ∷ [] })
sound_split h leaf v s is low high room =
    let nodes = h.tree.nodes in
    let there = kind_within nodes leaf Leaf is in
    record {
      encoded = s.encoded;
      few_lines = s.few_lines;
      grown = state_grown_after h.tree h.tree.variables nodes (split_at nodes leaf v) leaf v refl s.grown is low (omega (arith, s.variables, high)) room refl;
      variables = s.variables;
      many = omega (arith, length-append h.closed (0 ∷ 0 ∷ []), s.many, length_after nodes leaf v there);
      derived = s.derived;
      closed = λ k number e other.
          elim (slice_get_of_append h.closed (0 ∷ 0 ∷ []) k number e) [
            | inl early ↦
                subst (λ (path : List Literal). IsRefuted (clauses_before h.formula h.log) path number) (sym (path_kept nodes leaf v k there (omega (arith, early.1, s.many))))
                (s.closed k number early.0 other)
            | inr late ↦ absurd (other (two_zeros late.0 number late.2))
          ];
      stuck = s.stuck;
    }

-- the same for a tree and numbers that are these
pub sound_split_to : (h : PoolState) (leaf v : ℕ) (tree : TreeState) (numbers : List ℕ) → tree ≡ record h.tree { nodes = split_at h.tree.nodes leaf v } → numbers ≡ h.closed ++ 0 ∷ 0 ∷ [] → IsSoundPool (record h { tree = record h.tree { nodes = split_at h.tree.nodes leaf v }; closed = h.closed ++ 0 ∷ 0 ∷ [] }) → IsSoundPool (record h { tree = tree; closed = numbers })
sound_split_to h leaf v tree numbers one two s =
    subst (λ (t : TreeState). IsSoundPool (record h { tree = t; closed = numbers })) (sym one)
    (subst (λ (ns : List ℕ). IsSoundPool (record h { tree = record h.tree { nodes = split_at h.tree.nodes leaf v }; closed = ns })) (sym two) s)

pub count_after_split : (nodes : List TreeNode) (closed : List ℕ) (leaf v : ℕ) → length closed ≡ length nodes → IsLeaf nodes leaf → slice_get closed leaf ≡ Some 0 → open_count (split_at nodes leaf v) (closed ++ 0 ∷ 0 ∷ []) ≡ open_count nodes closed + 1
count_after_split nodes closed leaf v many is was =
    let path = path_at nodes leaf in
    let made : TreeNode = record { path = path; kind = Split v (length nodes) (length nodes + 1) } in
    let two : List TreeNode = leaf_with (branch v true path) ∷ leaf_with (branch v false path) ∷ [] in
    let both : open_count two (0 ∷ 0 ∷ []) ≡ 2 = refl in
    omega (
      arith,
      count_append (set nodes leaf made) two closed (0 ∷ 0 ∷ []) (length-set nodes leaf made ∙ sym many),
      count_split nodes closed leaf made v (length nodes) (length nodes + 1) is was refl,
      both,
    )

-- ---- the opening

pub sound_opening : (e : EncodedProgram) (tree : TreeState) → e.formula ≡ formula_of e.program → length (events e.program) ≤ 1024 → length e.formula.clauses ≤ 4000000 → IsGrownTree tree → tree.variables ≡ e.formula.variables → IsSoundPool (opening_pool e tree).held
sound_opening e tree formula few_events few_clauses grown variables =
    record {
      encoded = record { pairs_are = refl; formula_is = formula; few_events = few_events; few_clauses = few_clauses };
      few_lines = omega arith;
      grown = grown;
      variables = variables;
      many = length-replicate (length tree.nodes) 0;
      derived = λ place line low high at. absurd (omega arith);
      closed = λ leaf number at other. absurd (other (all_zeros (length tree.nodes) leaf number at));
      stuck = tt;
    }

pub sound_opened : (e : EncodedProgram) (tree : TreeState) (numbers : List ℕ) (log : List ProofLine) (reasons : List Why) → numbers ≡ replicate (length tree.nodes) 0 → log ≡ [] → reasons ≡ [] → IsSoundPool (opening_pool e tree).held → IsSoundPool (held_of e tree numbers log None reasons)
sound_opened e tree numbers log reasons one two three s =
    subst (λ (ns : List ℕ). IsSoundPool (held_of e tree ns log None reasons)) (sym one)
    (subst (λ (ls : List ProofLine). IsSoundPool (held_of e tree (replicate (length tree.nodes) 0) ls None reasons)) (sym two)
    (subst (λ (rs : List Why). IsSoundPool (held_of e tree (replicate (length tree.nodes) 0) [] None rs)) (sym three) s))

-- ---- what a batch is answered

pub published_ok : (h : PoolState) (f : Conjunction) (log : List ProofLine) (slice batch : List BatchLine) (base : ℕ) → f ≡ h.formula → log ≡ h.log → slice ≡ batch → base ≡ next_number h → DeriveAfter f log (resolved_lines base slice) → DeriveAfter h.formula h.log (resolved_lines (next_number h) batch)
published_ok h f log slice batch base one two three four derive =
    subst (λ (b : ℕ). DeriveAfter h.formula h.log (resolved_lines b batch)) four
    (subst (λ (b : List BatchLine). DeriveAfter h.formula h.log (resolved_lines base b)) three
    (subst (λ (l : List ProofLine). DeriveAfter h.formula l (resolved_lines base slice)) two
    (subst (λ (x : Conjunction). DeriveAfter x log (resolved_lines base slice)) one derive)))

pub known_ok : (h : PoolState) (f : Conjunction) (log : List ProofLine) (slice batch : List BatchLine) (base : ℕ) → f ≡ h.formula → log ≡ h.log → slice ≡ batch → base ≡ next_number h → DeriveAfter h.formula h.log (resolved_lines (next_number h) batch) → DeriveAfter f log (resolved_lines base slice)
known_ok h f log slice batch base one two three four derive =
    subst (λ (x : Conjunction). DeriveAfter x log (resolved_lines base slice)) (sym one)
    (subst (λ (l : List ProofLine). DeriveAfter h.formula l (resolved_lines base slice)) (sym two)
    (subst (λ (b : List BatchLine). DeriveAfter h.formula h.log (resolved_lines base b)) (sym three)
    (subst (λ (b : ℕ). DeriveAfter h.formula h.log (resolved_lines b batch)) (sym four) derive)))

pub lines_count : (base : ℕ) (slice batch : List BatchLine) → slice ≡ batch → length (resolved_lines base slice) ≡ length batch
lines_count base slice batch e = length-map slice (resolved base) ∙ ap length e

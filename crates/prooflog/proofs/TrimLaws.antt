-- What is trimmed is within the limits, and accepted where it was.
use Rattle.std.proofs.Common.{◌≡◌, ℕ, ◌+◌, ◌⊎◌, inl, inr, Bool, true, ◌&&◌, Result, Ok, Err, List, [], ◌∷◌, map, refl, sym, ap, ◌∙◌, subst, arith}
use Rattle.std.specs.List.{list_all}
use Rattle.std.proofs.lemmas.Bool.{and_parts, and_from}
use Rattle.std.proofs.lemmas.List.{length-map}
use Rattle.clauses.specs.Clauses.{rises, is_within}
use Rattle.refutations.specs.declared.tree.Node.{Node}
use Rattle.refutations.specs.declared.tree.Node.TheVariants.{Split, Leaf}
use Rattle.refutations.specs.Proofs.{ProofLine, are_numbers}
use Rattle.refutations.specs.Refutations.{Accepts}
use Rattle.trimming.specs.Needed.{are_named, needed, kept, renumber, renumbered_line, renumbered_node, trimmed_lines, trimmed_nodes}
use Rattle.trimming.proofs.Ranges.{numbers_renumbered, nodes_renumbered, trees_renumbered, length_kept, kept_pass}
use Rattle.trimming.proofs.TrimLaws.{trimmed_are_accepted, trimmed_are_needed}
use Rattle.prooflog.specs.declared.evidence.Evidence.{Evidence}
use Rattle.prooflog.specs.declared.evidence.Evidence.TheVariants.{Refutation}
use Rattle.prooflog.specs.declared.refutation.Version.TheVariants.{Two}
use Rattle.prooflog.specs.Refutations.{ClaimedRefutation, IsRefutation, is_line_in_range, is_depth, depths}
use Rattle.prooflog.specs.Trims.{trimmed_of, EachKeepsAccepted, KeepsAccepted}

line_in_range : (clauses : ℕ) (flags : List Bool) (line : ProofLine) → is_line_in_range line ≡ true → is_line_in_range (renumbered_line (renumber clauses flags) line) ≡ true
line_in_range clauses flags line h =
    let literals = is_within 2147483647 line.literals && rises line.literals in
    let parts = and_parts literals (are_numbers line.hints) h in
    and_from literals (are_numbers (map (renumber clauses flags) line.hints)) parts.0 (numbers_renumbered clauses flags line.hints parts.1)

lines_in_range : (clauses : ℕ) (flags : List Bool) (lines : List ProofLine) → list_all is_line_in_range lines ≡ true → list_all is_line_in_range (map (renumbered_line (renumber clauses flags)) lines) ≡ true
lines_in_range clauses flags [] h = refl
lines_in_range clauses flags (line ∷ lines) h =
    let parts = and_parts (is_line_in_range line) (list_all is_line_in_range lines) h in
    and_from (is_line_in_range (renumbered_line (renumber clauses flags) line)) (list_all is_line_in_range (map (renumbered_line (renumber clauses flags)) lines))
    (line_in_range clauses flags line parts.0) (lines_in_range clauses flags lines parts.1)

depths_renumbered : (new : ℕ → ℕ) (roots : List ℕ) (nodes : List Node) → depths roots (map (renumbered_node new) nodes) ≡ depths roots nodes
depths_renumbered new [] nodes = refl
depths_renumbered new (d ∷ roots) [] = refl
depths_renumbered new (d ∷ roots) (Split v ∷ nodes) = ap (λ (l : List ℕ). d ∷ l) (depths_renumbered new ((d + 1) ∷ (d + 1) ∷ roots) nodes)
depths_renumbered new (d ∷ roots) (Leaf k ∷ nodes) = ap (λ (l : List ℕ). d ∷ l) (depths_renumbered new roots nodes)

pub trimmed_within : (r : ClaimedRefutation) → IsRefutation r → IsRefutation (trimmed_of r)
trimmed_within r limits =
    let flags = needed r.nodes (r.clauses + 1) r.lines in
    let new = renumber r.clauses flags in (
      record {
        variables = limits.0.variables;
        clauses = limits.0.clauses;
        lines = lines_in_range r.clauses flags (kept flags r.lines) (kept_pass is_line_in_range flags r.lines limits.0.lines);
        numbered = nodes_renumbered r.clauses flags r.nodes limits.0.numbered;
        is_tree = trees_renumbered new 1 r.nodes ∙ limits.0.is_tree;
      },
      record {
        few_lines = omega (arith, limits.1.few_lines, length_kept flags r.lines, length-map (kept flags r.lines) (renumbered_line new));
        few_nodes = omega (arith, limits.1.few_nodes, length-map r.nodes (renumbered_node new));
        shallow = ap (list_all is_depth) (depths_renumbered new (0 ∷ []) r.nodes) ∙ limits.1.shallow;
      },
    )

pub keeps_accepted : (claim : ClaimedRefutation) → KeepsAccepted claim (trimmed_of claim)
keeps_accepted claim f variables clauses accepts = (
  subst (λ (c : ℕ). Accepts f (trimmed_lines c claim.lines claim.nodes) (trimmed_nodes c claim.lines claim.nodes)) clauses (trimmed_are_accepted f claim.lines claim.nodes accepts),
  trimmed_are_needed claim.clauses claim.lines claim.nodes,
)

-- ---- the same of parts that are these

pub named_as : (r : ClaimedRefutation) (clauses : ℕ) (given : List ProofLine) (tree : List Node) → clauses ≡ r.clauses → given ≡ r.lines → tree ≡ r.nodes → are_named clauses given tree ≡ are_named r.clauses r.lines r.nodes
named_as r clauses given tree one two three = λ i. are_named (one i) (two i) (three i)

pub made_of_parts : (r : ClaimedRefutation) (variables clauses : ℕ) (given lines : List ProofLine) (tree nodes : List Node) → variables ≡ r.variables → clauses ≡ r.clauses → given ≡ r.lines → tree ≡ r.nodes
    → lines ≡ trimmed_lines clauses given tree → nodes ≡ trimmed_nodes clauses given tree
    → record { version = Two; variables = variables; clauses = clauses; lines = lines; nodes = nodes } ≡ trimmed_of r
made_of_parts r variables clauses given lines tree nodes zero one two three is are =
    let same_lines : lines ≡ trimmed_lines r.clauses r.lines r.nodes = is ∙ (λ i. trimmed_lines (one i) (two i) (three i)) in
    let same_nodes : nodes ≡ trimmed_nodes r.clauses r.lines r.nodes = are ∙ (λ i. trimmed_nodes (one i) (two i) (three i)) in
    λ i. record { version = Two; variables = zero i; clauses = one i; lines = same_lines i; nodes = same_nodes i }

pub each_keeps_accepted : (evidence : Evidence) (claim trimmed : ClaimedRefutation) → evidence ≡ Refutation claim → trimmed ≡ trimmed_of claim → EachKeepsAccepted evidence (Refutation trimmed)
each_keeps_accepted evidence claim trimmed is made =
    subst (λ (e : Evidence). EachKeepsAccepted e (Refutation trimmed)) (sym is) (subst (λ (r : ClaimedRefutation). KeepsAccepted claim r) (sym made) (keeps_accepted claim))

-- what succeeded didn't fail
pub never_both : {X : Type 0} {E : Type 0} {a b : E} (r : Result X E) (x : X) → r ≡ Ok x → (r ≡ Err a) ⊎ (r ≡ Err b) → ⊥
never_both r x ok (inl fails) = let both = sym ok ∙ fails in cc
never_both r x ok (inr fails) = let both = sym ok ∙ fails in cc

abbrev fault_or : {X E : Type 0} → E → Result X E → E
fault_or e (Ok x) = e
fault_or e (Err told) = told

-- one fault is told of whatever type the value has
pub same_fault : {X Y E : Type 0} (told fault : E) → ◌≡◌ {A = Result X E} (Err told) (Err fault) → ◌≡◌ {A = Result Y E} (Err told) (Err fault)
same_fault told fault same = ap (λ r. Err (fault_or told r)) same

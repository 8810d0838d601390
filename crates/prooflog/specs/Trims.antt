-- A refutation without lines that are not needed.
use Rattle.std.specs.Prelude.{◌≡◌, false, length}
use Rattle.clauses.specs.Clauses.{Conjunction}
use Rattle.refutations.specs.Refutations.{Accepts}
use Rattle.trimming.specs.Needed.{Needed, are_named, trimmed_lines, trimmed_nodes}
use Rattle.prooflog.specs.declared.evidence.Evidence.{Evidence}
use Rattle.prooflog.specs.declared.evidence.Evidence.TheVariants.{Schedule, Refutation}
use Rattle.prooflog.specs.declared.refutation.Version.TheVariants.{Two}
use Rattle.prooflog.specs.Refutations.{ClaimedRefutation}

-- The refutation with the lines that are needed alone, in their order. The numbers of lines are
-- closed up, and each hint and leaf has its clause's new number. It has version 2.
abbrev pub trimmed_of : ClaimedRefutation → ClaimedRefutation
trimmed_of r = record {
  version = Two;
  variables = r.variables;
  clauses = r.clauses;
  lines = trimmed_lines r.clauses r.lines r.nodes;
  nodes = trimmed_nodes r.clauses r.lines r.nodes;
}

-- the one evidence is a refutation, and the other one is that refutation without the lines that are
-- not needed
abbrev pub IsTrimmed : Evidence → Evidence → Type 0
IsTrimmed evidence trimmed = (claim : ClaimedRefutation) × (evidence ≡ Refutation claim) × (trimmed ≡ Refutation (trimmed_of claim))

-- for each formula with the counts of the one refutation, where that one is accepted the other one
-- is, and then each of its lines is needed
abbrev pub KeepsAccepted : ClaimedRefutation → ClaimedRefutation → Type 0
KeepsAccepted claim other =
    (f : Conjunction) → f.variables ≡ claim.variables → length f.clauses ≡ claim.clauses → Accepts f claim.lines claim.nodes
    → Accepts f other.lines other.nodes × Needed other.clauses other.lines other.nodes

-- the same of evidences
abbrev pub EachKeepsAccepted : Evidence → Evidence → Type 0
EachKeepsAccepted (Refutation claim) (Refutation other) = KeepsAccepted claim other
EachKeepsAccepted (Refutation claim) (Schedule steps) = ⊥
EachKeepsAccepted (Schedule steps) other = ⊥

-- a hint of the refutation names neither a clause nor an earlier line, or a leaf names neither a
-- clause nor a line
abbrev pub HasStrayNumber : Evidence → Type 0
HasStrayNumber (Refutation claim) = are_named claim.clauses claim.lines claim.nodes ≡ false
HasStrayNumber (Schedule steps) = ⊥

abbrev pub IsNotRefutation : Evidence → Type 0
IsNotRefutation (Refutation claim) = ⊥
IsNotRefutation (Schedule steps) = Unit {0}

-- Refutations whose text begins with given lines.
use Rattle.std.proofs.Common.{◌≡◌, ℕ, List, [], ◌∷◌, ◌++◌, map, refl, ap, ◌∙◌, append_assoc, ◌⊎◌}
use Rattle.std.proofs.lemmas.List.{map-append}
use Rattle.plaintext.specs.Fronts.{to_end, BeginsWith}
use Rattle.prooflog.specs.declared.refutation.Version.{Version}
use Rattle.prooflog.specs.declared.refutation.Version.TheVariants.{One}
use Rattle.prooflog.specs.Steps.{step_line, schedule_line}
use Rattle.prooflog.specs.Refutations.{ClaimedRefutation, Item, item_line, items}
use Rattle.prooflog.specs.Grammar.{Written, as_schedule, as_refutation, refutation_line, written_lines}
use Rattle.prooflog.specs.parts.Reading.{opening_lines}
use Rattle.prooflog.proofs.ProofWords.{item_line_injective, item_line_nonempty}
use Rattle.prooflog.proofs.Fronts.{Next, next_or_end}
use Rattle.prooflog.proofs.Exact.{kinds_differ, below_heading}

-- a refutation begins with the lines of its first items
pub begins_items : (r : ClaimedRefutation) (done more : List Item) → items r ≡ done ++ more → BeginsWith (opening_lines r.version r.variables r.clauses ++ map item_line done) (to_end (written_lines (as_refutation r)))
begins_items r done more e = (
  map item_line more ++ [] ∷ [],
  ap (λ (is : List Item). opening_lines r.version r.variables r.clauses ++ (map item_line is ++ [] ∷ [])) e
      ∙ ap (λ (ls : List (List ℕ)). opening_lines r.version r.variables r.clauses ++ (ls ++ [] ∷ [])) (map-append item_line done more)
      ∙ ap (λ (ls : List (List ℕ)). opening_lines r.version r.variables r.clauses ++ ls) (append_assoc (map item_line done) (map item_line more) ([] ∷ [])),
)

-- what begins with the lines of some items is a refutation, and goes on with another item or ends
pub record NextItem (w : Written) (done : List Item) (line : List ℕ) : Type 0 where
  pub all : ClaimedRefutation
  pub is : w ≡ as_refutation all
  pub next : Next item_line (items all) done line ⊎ ((line ≡ []) × (items all ≡ done))

pub next_item : (w : Written) (version : Version) (v c : ℕ) (done : List Item) (line : List ℕ) → BeginsWith ((opening_lines version v c ++ map item_line done) ++ line ∷ []) (to_end (written_lines w)) → NextItem w done line
next_item (as_schedule ss) version v c done line (more, e) =
    absurd (kinds_differ v c (below_heading One version (map step_line ss ++ [] ∷ []) ((map item_line done ++ line ∷ []) ++ more) schedule_line (refutation_line v c) e).0)
next_item (as_refutation r) version v c done line (more, e) =
    let below = below_heading r.version version (map item_line (items r) ++ [] ∷ []) ((map item_line done ++ line ∷ []) ++ more) (refutation_line r.variables r.clauses) (refutation_line v c) e in
    record { all = r; is = refl; next = next_or_end item_line item_line_injective item_line_nonempty (items r) done line more (below.1 ∙ append_assoc (map item_line done) (line ∷ []) more) }

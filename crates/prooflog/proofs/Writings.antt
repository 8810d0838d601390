-- What the writer's parts make, one after another, is the text of a refutation.
use Rattle.std.proofs.Common.{◌≡◌, ℕ, ◌+◌, ◌<◌, List, [], ◌∷◌, ◌++◌, length, get_or, take, map, sym, ap, ◌∙◌, append_assoc}
use Rattle.std.specs.Prelude.{codes}
use Rattle.std.specs.List.{flat_map, join_with_byte}
use Rattle.std.proofs.lemmas.Grind.{flat_map-append}
use Rattle.std.proofs.lemmas.List.{append-nil, map_push, take_more}
use Rattle.std.proofs.lemmas.List.Concat.{flat_map-cons}
use Rattle.std.proofs.lemmas.List.Folds.{flat_map-map}
use Rattle.plaintext.specs.Plain.{numeral, spaced}
use Rattle.plaintext.proofs.Spaced.{spaced-append, spaced-join}
use Rattle.refutations.specs.Proofs.{ProofLine}
use Rattle.prooflog.specs.declared.evidence.Evidence.TheVariants.{Refutation}
use Rattle.prooflog.specs.declared.refutation.Version.{Version}
use Rattle.prooflog.specs.declared.refutation.Version.TheVariants.{One, Two}
use Rattle.prooflog.specs.Refutations.{ClaimedRefutation, a_proof, the_tree, a_node, literal_word, item_line, items, IsRefutation}
use Rattle.refutations.specs.declared.tree.Node.{Node}
use Rattle.prooflog.specs.Grammar.{heading_line, refutation_line, IsEvidenceText}
use Rattle.prooflog.specs.parts.Reading.{front_text, lines_text, tree_text}

-- ---- words

-- one more word is written
pub one_spaced : {A : Type 0} (spell : A → List ℕ) (head : List ℕ) (xs : List A) (k : ℕ) (d : A) → k < length xs
    → (head ++ spaced (map spell (take k xs))) ++ spaced (spell (get_or xs k d) ∷ []) ≡ head ++ spaced (map spell (take (k + 1) xs))
one_spaced spell head xs k d lt =
    append_assoc head (spaced (map spell (take k xs))) (spaced (spell (get_or xs k d) ∷ []))
    ∙ ap (λ (t : List ℕ). head ++ t) (sym (spaced-append (map spell (take k xs)) (spell (get_or xs k d) ∷ [])))
    ∙ ap (λ (ws : List (List ℕ)). head ++ spaced ws) (sym (ap (map spell) (take_more xs k d lt) ∙ map_push spell (take k xs) (get_or xs k d)))

-- a space and a word are a spaced word
pub space_word : (out word : List ℕ) → (out ++ 32 ∷ []) ++ word ≡ out ++ spaced (word ∷ [])
space_word out word = append_assoc out (32 ∷ []) word ∙ ap (λ (t : List ℕ). out ++ 32 ∷ t) (sym (append-nil word))

-- the line of a proof line
pub proof_text : (out : List ℕ) (line : ProofLine)
    → ((((out ++ codes "line") ++ spaced (map literal_word line.literals)) ++ codes " :") ++ spaced (map numeral line.hints)) ++ 10 ∷ [] ≡ out ++ item_line (a_proof line)
proof_text out line =
    let a : List ℕ = spaced (map literal_word line.literals) in
    let b : List ℕ = spaced (map numeral line.hints) in
    let others : List (List ℕ) = map literal_word line.literals ++ codes ":" ∷ map numeral line.hints in
    let words : a ++ (codes " :" ++ b) ≡ spaced others = sym (spaced-append (map literal_word line.literals) (codes ":" ∷ map numeral line.hints)) in
    ap (λ (t : List ℕ). t ++ 10 ∷ []) (
    append_assoc ((out ++ codes "line") ++ a) (codes " :") b ∙ append_assoc (out ++ codes "line") a (codes " :" ++ b) ∙ ap (λ (t : List ℕ). (out ++ codes "line") ++ t) words
    ∙ append_assoc out (codes "line") (spaced others) ∙ ap (λ (t : List ℕ). out ++ t) (sym (spaced-join (codes "line") others))
    )
    ∙ append_assoc out (join_with_byte 32 (codes "line" ∷ others)) (10 ∷ [])

-- ---- lines

-- the two headings of a refutation
headings_text : (version : Version) (v c : ℕ) → ((((heading_line version ++ codes "refutation ") ++ numeral v) ++ 32 ∷ []) ++ numeral c) ++ 10 ∷ [] ≡ heading_line version ++ refutation_line v c
headings_text One v c = ap (λ (t : List ℕ). heading_line One ++ (codes "refutation " ++ (t ++ 10 ∷ []))) (append_assoc (numeral v) (32 ∷ []) (numeral c))
headings_text Two v c = ap (λ (t : List ℕ). heading_line Two ++ (codes "refutation " ++ (t ++ 10 ∷ []))) (append_assoc (numeral v) (32 ∷ []) (numeral c))

-- the headings, one part of them after another
pub front_written : (out : List ℕ) (version : Version) (v c : ℕ)
    → (((((out ++ heading_line version) ++ codes "refutation ") ++ numeral v) ++ 32 ∷ []) ++ numeral c) ++ 10 ∷ [] ≡ out ++ (heading_line version ++ refutation_line v c)
front_written out version v c =
    let h : List ℕ = heading_line version in
    let word : List ℕ = h ++ codes "refutation " in
    let first : List ℕ = word ++ numeral v in
    let space : List ℕ = first ++ 32 ∷ [] in
    let second : List ℕ = space ++ numeral c in
    ap (λ (t : List ℕ). (((t ++ numeral v) ++ 32 ∷ []) ++ numeral c) ++ 10 ∷ []) (append_assoc out h (codes "refutation "))
    ∙ ap (λ (t : List ℕ). ((t ++ 32 ∷ []) ++ numeral c) ++ 10 ∷ []) (append_assoc out word (numeral v))
    ∙ ap (λ (t : List ℕ). (t ++ numeral c) ++ 10 ∷ []) (append_assoc out first (32 ∷ []))
    ∙ ap (λ (t : List ℕ). t ++ 10 ∷ []) (append_assoc out space (numeral c))
    ∙ append_assoc out second (10 ∷ []) ∙ ap (λ (t : List ℕ). out ++ t) (headings_text version v c)

-- the tree behind its line
pub tree_written : (out : List ℕ) (nodes : List Node) → (out ++ (codes "tree" ++ 10 ∷ [])) ++ flat_map item_line (map a_node nodes) ≡ out ++ tree_text nodes
tree_written out nodes =
    append_assoc out (item_line the_tree) (flat_map item_line (map a_node nodes)) ∙ ap (λ (t : List ℕ). out ++ t) (sym (flat_map-cons item_line the_tree (map a_node nodes)))

-- the text of a refutation
pub refutation_text : (r : ClaimedRefutation) (out : List ℕ) → IsRefutation r → out ≡ (front_text r ++ lines_text r.lines) ++ tree_text r.nodes → IsEvidenceText out (Refutation r)
refutation_text r out limits e =
    let heading : List ℕ = heading_line r.version in
    let second : List ℕ = refutation_line r.variables r.clauses in
    let above : List ℕ = lines_text r.lines in
    let below : List ℕ = tree_text r.nodes in
    let body : above ++ below ≡ flat_map (λ line. line) (map item_line (items r)) =
    sym (flat_map-append item_line (map a_proof r.lines) (the_tree ∷ map a_node r.nodes)) ∙ sym (flat_map-map (λ line. line) item_line (items r)) in
    record {
      limits = limits;
      text = e ∙ append_assoc (front_text r) above below ∙ append_assoc heading second (above ++ below) ∙ ap (λ (t : List ℕ). heading ++ (second ++ t)) body
          ∙ ap (λ (text : List ℕ). heading ++ text) (sym (flat_map-cons (λ line. line) second (map item_line (items r))))
          ∙ sym (flat_map-cons (λ line. line) heading (second ∷ map item_line (items r)));
    }

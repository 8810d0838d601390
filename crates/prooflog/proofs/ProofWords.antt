-- Words of a refutation's lines: they are plain, and a line has one proof line, node or `tree`.
use Rattle.std.proofs.Common.{◌≡◌, ℕ, ◌<◌, ◌≤◌, Bool, true, false, List, [], ◌∷◌, ◌++◌, length, get_or, map, if◌then◌else◌, refl, sym, ap, arith}
use Rattle.std.specs.Prelude.{codes}
use Rattle.std.specs.List.{AllByRecursion}
use Rattle.std.proofs.lemmas.Str.Parse.{digit_from_value}
use Rattle.plaintext.specs.Plain.{numeral, IsPlain}
use Rattle.plaintext.proofs.Numerals.{IsPlain-numeral, AllDigits-numeral, AllDigits_at, numeral_injective, numeral_nonempty}
use Rattle.plaintext.proofs.Ascii.{plain_by_test, all_append}
use Rattle.plaintext.proofs.Texts.{line_of_injective}
use Rattle.plaintext.proofs.FirstFaults.{heads}
use Rattle.clauses.specs.Clauses.{Literal}
use Rattle.refutations.specs.Proofs.{ProofLine}
use Rattle.refutations.specs.declared.tree.Node.{Node}
use Rattle.refutations.specs.declared.tree.Node.TheVariants.{Split, Leaf}
use Rattle.prooflog.specs.Refutations.{literal_word, proof_words, node_words, Item, a_proof, the_tree, a_node, item_words, item_line}

-- ---- words of literals

first_of : (v w : List ℕ) → v ≡ w → get_or v 0 0 ≡ get_or w 0 0
first_of v w e = ap (λ (l : List ℕ). get_or l 0 0) e

-- a numeral begins with a digit
pub digit_first : (n : ℕ) → (48 ≤ get_or (numeral n) 0 0) × (get_or (numeral n) 0 0 ≤ 57)
digit_first n = let d = digit_from_value (get_or (numeral n) 0 0) (AllDigits_at (numeral n) 0 (AllDigits-numeral n) (numeral_nonempty n)) in (omega (arith, d), omega (arith, d))

-- the word of a sign and a variable
abbrev pub signed_word : Bool → ℕ → List ℕ
signed_word sign n = if sign then numeral n else 45 ∷ numeral n

same_signed : (p q : Bool) (m n : ℕ) → signed_word p m ≡ signed_word q n → (m ≡ n) × (p ≡ q)
same_signed true true m n e = (numeral_injective m n e, refl)
same_signed true false m n e = absurd (omega (arith, digit_first m, first_of (numeral m) (45 ∷ numeral n) e))
same_signed false true m n e = absurd (omega (arith, digit_first n, first_of (45 ∷ numeral m) (numeral n) e))
same_signed false false m n e = (numeral_injective m n (heads 45 45 (numeral m) (numeral n) e).1, refl)

pub literal_injective : (l k : Literal) → literal_word l ≡ literal_word k → l ≡ k
literal_injective l k e = let s = same_signed l.positive k.positive l.variable k.variable e in λ i. record { variable = s.0 i; positive = s.1 i }

plain_signed : (sign : Bool) (n : ℕ) → IsPlain (signed_word sign n)
plain_signed true n = IsPlain-numeral n
plain_signed false n = ((omega arith, omega arith), IsPlain-numeral n)

no_colon_signed : (sign : Bool) (n : ℕ) → signed_word sign n ≡ codes ":" → ⊥
no_colon_signed true n e = omega (arith, digit_first n, first_of (numeral n) (codes ":") e)
no_colon_signed false n e = omega (arith, first_of (45 ∷ numeral n) (codes ":") e)

-- a literal's word is no colon
pub no_colon : (l : Literal) → literal_word l ≡ codes ":" → ⊥
no_colon l e = no_colon_signed l.positive l.variable e

-- ---- words of proof lines

plain_literals : (ls : List Literal) → AllByRecursion IsPlain (map literal_word ls)
plain_literals [] = tt
plain_literals (l ∷ ls) = (plain_signed l.positive l.variable, plain_literals ls)

pub plain_numerals : (ns : List ℕ) → AllByRecursion IsPlain (map numeral ns)
plain_numerals [] = tt
plain_numerals (n ∷ ns) = (IsPlain-numeral n, plain_numerals ns)

pub numerals_injective : (ms ns : List ℕ) → map numeral ms ≡ map numeral ns → ms ≡ ns
numerals_injective [] [] e = refl
numerals_injective [] (n ∷ ns) e = absurd cc
numerals_injective (m ∷ ms) [] e = absurd cc
numerals_injective (m ∷ ms) (n ∷ ns) e =
    let h = heads (numeral m) (numeral n) (map numeral ms) (map numeral ns) e in
    let first = numeral_injective m n h.0 in
    let others = numerals_injective ms ns h.1 in
    λ i. first i ∷ others i

-- literals before a colon, and what follows it, are told by the words
pub same_literals : (ls ks : List Literal) (xs ys : List (List ℕ)) → map literal_word ls ++ codes ":" ∷ xs ≡ map literal_word ks ++ codes ":" ∷ ys → (ls ≡ ks) × (xs ≡ ys)
same_literals [] [] xs ys e = (refl, (heads (codes ":") (codes ":") xs ys e).1)
same_literals [] (k ∷ ks) xs ys e = absurd (no_colon k (sym (heads (codes ":") (literal_word k) xs (map literal_word ks ++ codes ":" ∷ ys) e).0))
same_literals (l ∷ ls) [] xs ys e = absurd (no_colon l (heads (literal_word l) (codes ":") (map literal_word ls ++ codes ":" ∷ xs) ys e).0)
same_literals (l ∷ ls) (k ∷ ks) xs ys e =
    let h = heads (literal_word l) (literal_word k) (map literal_word ls ++ codes ":" ∷ xs) (map literal_word ks ++ codes ":" ∷ ys) e in
    let first = literal_injective l k h.0 in
    let others = same_literals ls ks xs ys h.1 in
    ((λ i. first i ∷ others.0 i), others.1)

pub proof_injective : (a b : ProofLine) → proof_words a ≡ proof_words b → a ≡ b
proof_injective a b e =
    let h = heads (codes "line") (codes "line") (map literal_word a.literals ++ codes ":" ∷ map numeral a.hints) (map literal_word b.literals ++ codes ":" ∷ map numeral b.hints) e in
    let s = same_literals a.literals b.literals (map numeral a.hints) (map numeral b.hints) h.1 in
    let hints = numerals_injective a.hints b.hints s.1 in
    λ i. record { literals = s.0 i; hints = hints i }

-- ---- words of nodes

pub node_injective : (a b : Node) → node_words a ≡ node_words b → a ≡ b
node_injective (Split m) (Split n) e =
    let h = heads _ _ _ _ e in
    ap (λ (x : ℕ). Split x) (numeral_injective m n (heads (numeral m) (numeral n) [] [] h.1).0)
node_injective (Split m) (Leaf n) e = absurd (omega (arith, first_of (codes "split") (codes "leaf") (heads _ _ _ _ e).0))
node_injective (Leaf m) (Split n) e = absurd (omega (arith, first_of (codes "leaf") (codes "split") (heads _ _ _ _ e).0))
node_injective (Leaf m) (Leaf n) e =
    let h = heads _ _ _ _ e in
    ap (λ (x : ℕ). Leaf x) (numeral_injective m n (heads (numeral m) (numeral n) [] [] h.1).0)

plain_node : (n : Node) → AllByRecursion IsPlain (node_words n)
plain_node (Split v) = (plain_by_test (codes "split") refl, (IsPlain-numeral v, tt))
plain_node (Leaf k) = (plain_by_test (codes "leaf") refl, (IsPlain-numeral k, tt))

-- ---- items

pub plain_item : (i : Item) → AllByRecursion IsPlain (item_words i)
plain_item (a_proof line) =
    (plain_by_test (codes "line") refl, all_append IsPlain (map literal_word line.literals) (codes ":" ∷ map numeral line.hints) (plain_literals line.literals) (plain_by_test (codes ":") refl, plain_numerals line.hints))
plain_item the_tree = (plain_by_test (codes "tree") refl, tt)
plain_item (a_node n) = plain_node n

some_node_words : (n : Node) → 0 < length (node_words n)
some_node_words (Split v) = omega arith
some_node_words (Leaf k) = omega arith

pub some_item_words : (i : Item) → 0 < length (item_words i)
some_item_words (a_proof line) = omega arith
some_item_words the_tree = omega arith
some_item_words (a_node n) = some_node_words n

-- the first letter of an item's first word
first_letter : (v w : List ℕ) (vs ws : List (List ℕ)) → v ∷ vs ≡ w ∷ ws → get_or v 0 0 ≡ get_or w 0 0
first_letter v w vs ws e = first_of v w (heads v w vs ws e).0

item_injective : (a b : Item) → item_words a ≡ item_words b → a ≡ b
item_injective (a_proof l) (a_proof k) e = ap (λ (x : ProofLine). a_proof x) (proof_injective l k e)
item_injective (a_proof l) the_tree e = absurd (omega (arith, first_letter _ _ _ _ e))
item_injective (a_proof l) (a_node (Split v)) e = absurd (omega (arith, first_letter _ _ _ _ e))
item_injective (a_proof l) (a_node (Leaf k)) e = absurd (omega (arith, ap (λ (w : List ℕ). get_or w 1 0) (heads _ _ _ _ e).0))
item_injective the_tree (a_proof k) e = absurd (omega (arith, first_letter _ _ _ _ e))
item_injective the_tree the_tree e = refl
item_injective the_tree (a_node (Split v)) e = absurd (omega (arith, first_letter _ _ _ _ e))
item_injective the_tree (a_node (Leaf k)) e = absurd (omega (arith, first_letter _ _ _ _ e))
item_injective (a_node (Split v)) (a_proof k) e = absurd (omega (arith, first_letter _ _ _ _ e))
item_injective (a_node (Leaf v)) (a_proof k) e = absurd (omega (arith, ap (λ (w : List ℕ). get_or w 1 0) (heads _ _ _ _ e).0))
item_injective (a_node (Split v)) the_tree e = absurd (omega (arith, first_letter _ _ _ _ e))
item_injective (a_node (Leaf v)) the_tree e = absurd (omega (arith, first_letter _ _ _ _ e))
item_injective (a_node m) (a_node n) e = ap (λ (x : Node). a_node x) (node_injective m n e)

-- a line has one item
pub item_line_injective : (a b : Item) → item_line a ≡ item_line b → a ≡ b
item_line_injective a b e = item_injective a b (line_of_injective (item_words a) (item_words b) (some_item_words a) (some_item_words b) (plain_item a) (plain_item b) e)

ended : (line : List ℕ) → line ++ 10 ∷ [] ≡ [] → ⊥
ended [] e = cc
ended (b ∷ line) e = cc

pub item_line_nonempty : (i : Item) → item_line i ≡ [] → ⊥
item_line_nonempty i e = ended _ e

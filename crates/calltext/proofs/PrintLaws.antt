-- The printer's pieces make the text.
use Rattle.std.proofs.Common.{◌≡◌, ℕ, ◌+◌, List, [], ◌∷◌, ◌++◌, length, refl, sym, ap, ◌∙◌, ◌<◌, get_or, take, append_assoc, arith, add-zero}
use Rattle.std.specs.List.{flat_map}
use Rattle.std.proofs.lemmas.Grind.{flat_map-append}
use Rattle.std.proofs.lemmas.List.Concat.{flat_map-cons}
use Rattle.std.proofs.lemmas.List.{append-nil, take_more, map_push, length-map, length-take}
use Rattle.std.specs.Global.{Vec}
use Rattle.plaintext.specs.Plain.{line_of, spaced}
use Rattle.plaintext.proofs.Spaced.{spaced-append, spaced-join}
use Rattle.calltext.specs.declared.call.CallLine.{CallLine}
use Rattle.calltext.specs.Body.{views}
use Rattle.calltext.specs.Grammar.{ProgramText, call_words, rank_words, ranks_words, policy_words, rank_lines, text_of}
use Rattle.calltext.specs.parts.Body.{rank_text, ranks_text, heads}
use Rattle.calltext.specs.parts.Verbs.{name_words, number_words, operands}
use Rattle.calltext.specs.Verbs.{verb_of, verb_word}
use Rattle.calltext.proofs.Verbs.{call_words_are}
use Rattle.calltext.proofs.Blocks.{call_lines}

-- one more word
pub spaced_more : (base out out' : List ℕ) (words : List (List ℕ)) (i : ℕ) (word : List ℕ) → i < length words → word ≡ get_or words i word
    → out ≡ base ++ spaced (take i words) → out' ≡ out ++ spaced (word ∷ []) → out' ≡ base ++ spaced (take (i + 1) words)
spaced_more base out out' words i word lt is so wrote =
    wrote ∙ ap (λ (t : List ℕ). t ++ spaced (word ∷ [])) so ∙ append_assoc base (spaced (take i words)) (spaced (word ∷ []))
    ∙ ap (λ (t : List ℕ). base ++ t) (sym (spaced-append (take i words) (word ∷ [])) ∙ ap (λ (w : List ℕ). spaced (take i words ++ w ∷ [])) is ∙ ap spaced (sym (take_more words i word lt)))

-- a line is its verb, its operands with a space before each, and an LF
pub call_line : (out : List ℕ) (c : CallLine) → (((out ++ verb_word (verb_of c)) ++ spaced (name_words c)) ++ spaced (number_words c)) ++ 10 ∷ [] ≡ out ++ line_of (call_words c)
call_line out c =
    let word : List ℕ = verb_word (verb_of c) in
    let rest : List ℕ = spaced (operands c) in
    ap (λ (t : List ℕ). t ++ 10 ∷ []) (append_assoc (out ++ word) (spaced (name_words c)) (spaced (number_words c)) ∙ ap (λ (t : List ℕ). (out ++ word) ++ t) (sym (spaced-append (name_words c) (number_words c))))
    ∙ append_assoc (out ++ word) rest (10 ∷ []) ∙ append_assoc out word (rest ++ 10 ∷ []) ∙ ap (λ (t : List ℕ). out ++ t) (sym (append_assoc word rest (10 ∷ [])))
    ∙ ap (λ (t : List ℕ). out ++ (t ++ 10 ∷ [])) (sym (spaced-join word (operands c)))
    ∙ ap (λ (ws : List (List ℕ)). out ++ line_of ws) (sym (call_words_are c))

pub ranks_text-push : (r : ℕ) (ranks : List (List CallLine)) (calls : List CallLine) → ranks_text r (ranks ++ calls ∷ []) ≡ ranks_text r ranks ++ rank_text (r + length ranks) calls
ranks_text-push r [] calls = append-nil (rank_text r calls) ∙ ap (λ (k : ℕ). rank_text k calls) (sym (add-zero r))
ranks_text-push r (x ∷ ranks) calls =
    ap (λ (t : List ℕ). rank_text r x ++ t) (ranks_text-push (r + 1) ranks calls ∙ ap (λ (k : ℕ). ranks_text (r + 1) ranks ++ rank_text k calls) (omega arith))
    ∙ sym (append_assoc (rank_text r x) (ranks_text (r + 1) ranks) (rank_text (r + length (x ∷ ranks)) calls))

calls_joined : (calls : List CallLine) → flat_map (λ line. line) (call_lines calls) ≡ flat_map (λ c. line_of (call_words c)) calls
calls_joined [] = refl
calls_joined (c ∷ calls) = flat_map-cons (λ line. line) (line_of (call_words c)) (call_lines calls) ∙ ap (λ (t : List ℕ). line_of (call_words c) ++ t) (calls_joined calls) ∙ sym (flat_map-cons (λ x. line_of (call_words x)) c calls)

ranks_joined : (r : ℕ) (ranks : List (List CallLine)) → flat_map (λ line. line) (rank_lines r ranks) ≡ ranks_text r ranks
ranks_joined r [] = refl
ranks_joined r (calls ∷ ranks) =
    flat_map-cons (λ line. line) (line_of (rank_words r)) (call_lines calls ++ rank_lines (r + 1) ranks)
    ∙ ap (λ (t : List ℕ). line_of (rank_words r) ++ t) (flat_map-append (λ line. line) (call_lines calls) (rank_lines (r + 1) ranks) ∙ ap (λ (t : List ℕ). t ++ flat_map (λ line. line) (rank_lines (r + 1) ranks)) (calls_joined calls) ∙ ap (λ (t : List ℕ). flat_map (λ c. line_of (call_words c)) calls ++ t) (ranks_joined (r + 1) ranks))
    ∙ sym (append_assoc (line_of (rank_words r)) (flat_map (λ c. line_of (call_words c)) calls) (ranks_text (r + 1) ranks))

pub text_is : (p : ProgramText) → heads (length p.ranks) p.policy ++ ranks_text 0 p.ranks ≡ text_of p
text_is p =
    let a : List ℕ = line_of (ranks_words (length p.ranks)) in
    let b : List ℕ = line_of (policy_words p.policy) in
    append_assoc a b (ranks_text 0 p.ranks)
    ∙ ap (λ (t : List ℕ). a ++ (b ++ t)) (sym (ranks_joined 0 p.ranks))
    ∙ ap (λ (t : List ℕ). a ++ t) (sym (flat_map-cons (λ line. line) b (rank_lines 0 p.ranks)))
    ∙ sym (flat_map-cons (λ line. line) a (b ∷ rank_lines 0 p.ranks))

-- one more rank is written
pub one_more : (head out out' : List ℕ) (items : List (Vec CallLine)) (i : ℕ) (x : Vec CallLine) (calls : List CallLine) → i < length items → x ≡ get_or items i x → calls ≡ x.items
    → out ≡ head ++ ranks_text 0 (views (take i items)) → out' ≡ out ++ rank_text i calls → out' ≡ head ++ ranks_text 0 (views (take (i + 1) items))
one_more head out out' items i x calls lt is seen so wrote =
    let more : take (i + 1) items ≡ take i items ++ x ∷ [] = take_more items i x lt ∙ ap (λ (y : Vec CallLine). take i items ++ y ∷ []) (sym is) in
    let grown : views (take (i + 1) items) ≡ views (take i items) ++ x.items ∷ [] = ap views more ∙ map_push _ (take i items) x in
    let at : 0 + length (views (take i items)) ≡ i = omega (arith, length-map (take i items) (λ (r : Vec CallLine). r.items), length-take i items) in
    wrote
    ∙ ap (λ (t : List ℕ). t ++ rank_text i calls) so
    ∙ append_assoc head (ranks_text 0 (views (take i items))) (rank_text i calls)
    ∙ ap (λ (cs : List CallLine). head ++ (ranks_text 0 (views (take i items)) ++ rank_text i cs)) seen
    ∙ ap (λ (t : List ℕ). head ++ t) (sym (ap (ranks_text 0) grown ∙ ranks_text-push 0 (views (take i items)) x.items ∙ ap (λ (k : ℕ). ranks_text 0 (views (take i items)) ++ rank_text k x.items) at))

-- Call lines as verbs and operands. The verbs' words differ: the place of a word in their list is
-- its verb's own.
use Rattle.std.proofs.Common.{◌≡◌, ◌≢◌, ℕ, zero, suc, ◌+◌, ◌*◌, ◌<◌, ◌≤◌, Bool, true, false, List, [], ◌∷◌, ◌++◌, Some, None, length, get_or, map, refl, sym, ap, subst, ◌∙◌, arith}
use Rattle.std.specs.Prelude.{codes, ◌&&◌, ◌||◌, nat_le, nat_lt, position, bytes_eq, unwrap_or}
use Rattle.std.specs.List.{list_all}
use Rattle.std.proofs.lemmas.List.{append-nil, get_or_append_left, length-append}
use Rattle.plaintext.specs.Plain.{line_of, IsPlain}
use Rattle.plaintext.proofs.Ascii.{plain_by_test}
use Rattle.plaintext.proofs.FirstFaults.{heads}
use Rattle.calltext.proofs.Conjunctions.{and_true}
use Rattle.calltext.specs.declared.call.CallLine.{CallLine}
use Rattle.calltext.specs.declared.call.CallLine.TheVariants.{Send, Receive, MatchedProbe, Probe, MatchedReceive, Wait, WaitAll, SendReceive}
use Rattle.calltext.specs.declared.call.Mode.TheVariants.{Standard, Synchronous, Buffered}
use Rattle.calltext.specs.declared.verb.Verb.{Verb}
use Rattle.calltext.specs.declared.verb.Verb.TheVariants as verb
use Rattle.calltext.specs.Grammar.{call_words, HasNames, rank_words}
use Rattle.calltext.specs.parts.Verbs.{verbs, request_words, operands, AreNoOperands}
use Rattle.calltext.specs.Verbs.{verb_of, verb_word}
use Rattle.calltext.specs.Names.{AreNames}

pub call_words_are : (c : CallLine) → call_words c ≡ verb_word (verb_of c) ∷ operands c
call_words_are (Send Standard None d t k) = refl
call_words_are (Send Standard (Some r) d t k) = refl
call_words_are (Send Synchronous None d t k) = refl
call_words_are (Send Synchronous (Some r) d t k) = refl
call_words_are (Send Buffered None d t k) = refl
call_words_are (Send Buffered (Some r) d t k) = refl
call_words_are (Receive None s t k) = refl
call_words_are (Receive (Some r) s t k) = refl
call_words_are (MatchedProbe h s t k) = refl
call_words_are (Probe s t k) = refl
call_words_are (MatchedReceive None h) = refl
call_words_are (MatchedReceive (Some r) h) = refl
call_words_are (Wait r) = refl
call_words_are (WaitAll rs) = ap (λ (ws : List (List ℕ)). codes "waitall" ∷ ws) (sym (append-nil rs))
call_words_are (SendReceive d t s u k) = refl

-- ---- the words of verbs

place_of : List ℕ → ℕ
place_of word = unwrap_or (position (λ other. bytes_eq other word) (map verb_word verbs)) 0

at_place : ℕ → Verb
at_place i = get_or verbs i verb.Wait

known : (v : Verb) → (at_place (place_of (verb_word v)) ≡ v) × (place_of (verb_word v) < length verbs)
unfolding verbs place_of at_place
known (verb.Send Standard false) = (refl, omega arith)
known (verb.Send Synchronous false) = (refl, omega arith)
known (verb.Send Buffered false) = (refl, omega arith)
known (verb.Send Standard true) = (refl, omega arith)
known (verb.Send Synchronous true) = (refl, omega arith)
known (verb.Send Buffered true) = (refl, omega arith)
known (verb.Receive false) = (refl, omega arith)
known (verb.Receive true) = (refl, omega arith)
known verb.MatchedProbe = (refl, omega arith)
known verb.Probe = (refl, omega arith)
known (verb.MatchedReceive false) = (refl, omega arith)
known (verb.MatchedReceive true) = (refl, omega arith)
known verb.Wait = (refl, omega arith)
known verb.WaitAll = (refl, omega arith)
known verb.SendReceive = (refl, omega arith)

pub verb_word_injective : (v w : Verb) → verb_word v ≡ verb_word w → v ≡ w
verb_word_injective v w e = sym (known v).0 ∙ ap (λ (word : List ℕ). at_place (place_of word)) e ∙ (known w).0

-- what holds of each place's verb holds of each verb
pub of_each : (P : Verb → Type 0) → ((i : ℕ) → i < length verbs → P (get_or verbs i verb.Wait)) → (v : Verb) → P v
unfolding at_place
of_each P each v = subst P (known v).0 (each (place_of (verb_word v)) (known v).1)

tested : (test : List ℕ → Bool) (vs : List Verb) → list_all (λ v. test (verb_word v)) vs ≡ true → (i : ℕ) → i < length vs → test (verb_word (get_or vs i verb.Wait)) ≡ true
tested test [] e i lt = absurd (omega arith)
tested test (v ∷ vs) e zero lt = (and_true (test (verb_word v)) (list_all (λ v. test (verb_word v)) vs) e).0
tested test (v ∷ vs) e (suc i) lt = tested test vs (and_true (test (verb_word v)) (list_all (λ v. test (verb_word v)) vs) e).1 i (omega arith)

plain_test : List ℕ → Bool
plain_test word = list_all (λ b. nat_le 33 b && nat_lt b 128) word

pub plain_verb : (v : Verb) → IsPlain (verb_word v)
unfolding verbs plain_test
plain_verb v = plain_by_test (verb_word v) (of_each (λ w. plain_test (verb_word w) ≡ true) (tested plain_test verbs refl) v)

-- ---- no call's line is another's

-- the first two bytes, as one number
key : List ℕ → ℕ
key word = get_or word 0 0 * 256 + get_or word 1 0

-- the word doesn't begin as `rank`
rank_test : List ℕ → Bool
rank_test word = nat_le 2 (length word) && (nat_lt (key word) 29281 || nat_lt 29281 (key word))

no_rank : (v : Verb) → rank_test (verb_word v) ≡ true
unfolding verbs rank_test key
no_rank v = of_each (λ w. rank_test (verb_word w) ≡ true) (tested rank_test verbs refl) v

line_at : (word : List ℕ) (others : List (List ℕ)) (i : ℕ) → i < length word → get_or (line_of (word ∷ others)) i 0 ≡ get_or word i 0
line_at word [] i lt = get_or_append_left word (10 ∷ []) 0 i lt
line_at word (v ∷ others) i lt =
    let rest : List ℕ = 32 ∷ Rattle.std.specs.List.join_with_byte 32 (v ∷ others) in
    get_or_append_left (word ++ rest) (10 ∷ []) 0 i (omega (arith, length-append word rest)) ∙ get_or_append_left word rest 0 i lt

other_number : (m n : ℕ) → (nat_lt m n || nat_lt n m) ≡ true → m ≡ n → ⊥
other_number m n t e = grind (arith, t, e)

pub call_no_rank : (c : CallLine) (r : ℕ) → line_of (call_words c) ≡ line_of (rank_words r) → ⊥
unfolding rank_test key
call_no_rank c r e =
    let word : List ℕ = verb_word (verb_of c) in
    let same : line_of (word ∷ operands c) ≡ line_of (rank_words r) = ap line_of (sym (call_words_are c)) ∙ e in
    let test = and_true (nat_le 2 (length word)) (nat_lt (key word) 29281 || nat_lt 29281 (key word)) (no_rank (verb_of c)) in
    let long : 2 ≤ length word = grind (arith, test.0) in
    let first : get_or word 0 0 ≡ 114 = sym (line_at word (operands c) 0 (omega arith)) ∙ ap (λ (l : List ℕ). get_or l 0 0) same in
    let second : get_or word 1 0 ≡ 97 = sym (line_at word (operands c) 1 (omega arith)) ∙ ap (λ (l : List ℕ). get_or l 1 0) same in
    other_number (key word) 29281 test.1 (omega (arith, first, second))

pub call_no_end : (c : CallLine) → line_of (call_words c) ≡ [] → ⊥
call_no_end c e = omega (arith, ap length e, length-append (Rattle.std.specs.List.join_with_byte 32 (call_words c)) (10 ∷ []))

-- ---- where no operands are read

none_of : (c : CallLine) → HasNames c → AreNoOperands (verb_of c) (operands c) → ⊥
none_of (Send m r d t k) names none = none r d t k names refl refl
none_of (Receive r s t k) names none = none r s t k names refl refl
none_of (MatchedProbe h s t k) names none = none h s t k names refl
none_of (Probe s t k) names none = none s t k refl
none_of (MatchedReceive r h) names none = none r h names.0 names.1 refl (sym (append-nil (request_words r ++ h ∷ [])))
none_of (Wait r) names none = none r names refl
none_of (WaitAll rs) names none = none (subst AreNames (sym (append-nil rs)) names)
none_of (SendReceive d t s u k) names none = none d t s u k refl

pub no_call : (v : Verb) (words : List (List ℕ)) → AreNoOperands v words → (c : CallLine) → HasNames c → call_words c ≢ verb_word v ∷ words
no_call v words none c names e =
    let h = heads (verb_word (verb_of c)) (verb_word v) (operands c) words (sym (call_words_are c) ∙ e) in
    let same : verb_of c ≡ v = verb_word_injective (verb_of c) v h.0 in
    none_of c names (subst (λ (w : Verb). AreNoOperands w (operands c)) (sym same) (subst (λ (ws : List (List ℕ)). AreNoOperands v ws) (sym h.1) none))

pub no_verb : (word : List ℕ) (words : List (List ℕ)) → ((v : Verb) → verb_word v ≢ word) → (c : CallLine) → call_words c ≢ word ∷ words
no_verb word words none c e = none (verb_of c) (heads (verb_word (verb_of c)) word (operands c) words (sym (call_words_are c) ∙ e)).0

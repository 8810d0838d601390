-- The words of each line, and what a line is by its words.
use Rattle.std.proofs.Common.{◌≡◌, ◌≢◌, ℕ, ◌<◌, ◌≤◌, true, List, [], ◌∷◌, ◌++◌, Option, Some, None, length, refl, sym, ap, subst, ◌∙◌, arith}
use Rattle.std.specs.Prelude.{codes, ◌&&◌, nat_le}
use Rattle.std.specs.List.{AllByRecursion}
use Rattle.std.proofs.lemmas.List.{append-nil}
use Rattle.plaintext.specs.Plain.{numeral, line_of, text_lines, IsPlain}
use Rattle.plaintext.proofs.Numerals.{IsPlain-numeral, numeral_injective}
use Rattle.plaintext.proofs.Cuts.{no_line_of, parts, words_are, line_is, first_part}
use Rattle.plaintext.proofs.Ascii.{plain_by_test}
use Rattle.plaintext.proofs.Texts.{capped_small}
use Rattle.calltext.specs.declared.call.CallLine.{CallLine}
use Rattle.calltext.specs.declared.call.CallLine.TheVariants.{Send, Receive, MatchedProbe, Probe, MatchedReceive, Wait, WaitAll, SendReceive}
use Rattle.calltext.specs.declared.call.Policy.{Policy}
use Rattle.calltext.specs.declared.call.Policy.TheVariants as policies
use Rattle.calltext.specs.Grammar.{or_star, communicator_words, call_words, policy_words, ranks_words, rank_words, UpTo, IsCommunicator, HasNames, IsInRange, CallFits}
use Rattle.calltext.specs.Names.{is_name, is_letter, is_letter_or_digit, are_letters_or_digits}
use Rattle.calltext.specs.parts.Verbs.{operands, request_words, message_words, pattern_words, IsRequest}
use Rattle.calltext.specs.Verbs.{verb_of}
use Rattle.calltext.specs.RefusedWords.{refused_word, refused_words}
use Rattle.calltext.specs.parts.Capped.{capped_option, capped_call}
use Rattle.calltext.specs.declared.line.CallLineFault.{CallLineFault}
use Rattle.calltext.specs.declared.line.CallLineFault.TheVariants as wrong
use Rattle.calltext.specs.WiderLimits.{AreLimits}
use Rattle.calltext.specs.declared.limits.Limits.{Limits}
use Rattle.calltext.specs.parts.Item.{IsRefused, IsUnended, BeginsWrong}
use Rattle.calltext.proofs.Conjunctions.{and_true}
use Rattle.calltext.proofs.RefusedLaws.{plain_refused}
use Rattle.calltext.proofs.Verbs.{call_words_are, plain_verb}

-- ---- the words are plain

plain_star : (n : Option ℕ) → IsPlain (or_star n)
plain_star None = plain_by_test (codes "*") refl
plain_star (Some n) = IsPlain-numeral n

plain_comm : (n : Option ℕ) → AllByRecursion IsPlain (communicator_words n)
plain_comm None = tt
plain_comm (Some n) = (plain_by_test (codes "comm") refl, (IsPlain-numeral n, tt))

plain_letter : (c : ℕ) → is_letter_or_digit c ≡ true → (33 ≤ c) × (c < 128)
plain_letter c e = grind (arith, e)

plain_letters : (letters : List ℕ) → are_letters_or_digits letters ≡ true → IsPlain letters
plain_letters [] e = tt
plain_letters (c ∷ letters) e =
    let both = and_true (is_letter_or_digit c) (are_letters_or_digits letters) e in
    (plain_letter c both.0, plain_letters letters both.1)

plain_name : (name : List ℕ) → is_name name ≡ true → IsPlain name
plain_name [] e = absurd cc
plain_name (c ∷ others) e =
    let short = and_true (is_letter c && are_letters_or_digits others) (nat_le (length others) 15) e in
    let letters = and_true (is_letter c) (are_letters_or_digits others) short.0 in
    (plain_letter c (grind (arith, letters.0)), plain_letters others letters.1)

plain_names : (names : List (List ℕ)) → AllByRecursion (λ name. is_name name ≡ true) names → AllByRecursion IsPlain names
plain_names [] h = tt
plain_names (name ∷ names) h = (plain_name name h.0, plain_names names h.1)

plain_request : (request : Option (List ℕ)) (others : List (List ℕ)) → IsRequest request → AllByRecursion IsPlain others → AllByRecursion IsPlain (request_words request ++ others)
plain_request None others h plain = plain
plain_request (Some r) others h plain = (plain_name r h, plain)

plain_operands : (c : CallLine) → HasNames c → AllByRecursion IsPlain (operands c)
plain_operands (Send m r d t k) names = plain_request r (message_words d t k) names (IsPlain-numeral d, (IsPlain-numeral t, plain_comm k))
plain_operands (Receive r s t k) names = plain_request r (pattern_words s t k) names (plain_star s, (plain_star t, plain_comm k))
plain_operands (MatchedProbe h s t k) names = (plain_name h names, (plain_star s, (plain_star t, plain_comm k)))
plain_operands (Probe s t k) names = (plain_star s, (plain_star t, plain_comm k))
plain_operands (MatchedReceive r h) names = subst (AllByRecursion IsPlain) (sym (append-nil (request_words r ++ h ∷ []))) (plain_request r (h ∷ []) names.0 (plain_name h names.1, tt))
plain_operands (Wait r) names = (plain_name r names, tt)
plain_operands (WaitAll rs) names = subst (AllByRecursion IsPlain) (sym (append-nil rs)) (plain_names rs names.1)
plain_operands (SendReceive d t s u k) names = (IsPlain-numeral d, (IsPlain-numeral t, (plain_star s, (plain_star u, plain_comm k))))

pub plain_call : (c : CallLine) → HasNames c → AllByRecursion IsPlain (call_words c)
plain_call c names = subst (AllByRecursion IsPlain) (sym (call_words_are c)) (plain_verb (verb_of c), plain_operands c names)

pub plain_rank : (r : ℕ) → AllByRecursion IsPlain (rank_words r)
plain_rank r = (plain_by_test (codes "rank") refl, (IsPlain-numeral r, tt))

pub plain_ranks : (r : ℕ) → AllByRecursion IsPlain (ranks_words r)
plain_ranks r = (plain_by_test (codes "ranks") refl, (IsPlain-numeral r, tt))

pub plain_policy : (p : Policy) → AllByRecursion IsPlain (policy_words p)
plain_policy policies.Any = (plain_by_test (codes "policy") refl, (plain_by_test (codes "any") refl, tt))
plain_policy policies.Never = (plain_by_test (codes "policy") refl, (plain_by_test (codes "none") refl, tt))
plain_policy policies.Always = (plain_by_test (codes "policy") refl, (plain_by_test (codes "all") refl, tt))

pub some_words : (c : CallLine) → 0 < length (call_words c)
some_words c = omega (arith, ap length (call_words_are c))

-- ---- a line that is no such line

pub no_call_line : (line : List ℕ) → ((c : CallLine) → HasNames c → call_words c ≢ parts line) → (c : CallLine) → HasNames c → line_of (call_words c) ≢ line ++ 10 ∷ []
no_call_line line none c names e = none c names (words_are (call_words c) line (some_words c) (plain_call c names) e)

pub rank_line_words : (r : ℕ) (line : List ℕ) → line_of (rank_words r) ≡ line ++ 10 ∷ [] → rank_words r ≡ parts line
rank_line_words r line e = words_are (rank_words r) line (omega arith) (plain_rank r) e

pub no_refused_line : (line : List ℕ) → ((place : ℕ) (others : List (List ℕ)) → place < length refused_words → refused_word place ∷ others ≢ parts line) → (place : ℕ) → IsRefused place (line ++ 10 ∷ []) → ⊥
no_refused_line line none place (lt, others, e) =
    let first = first_part (refused_word place) others line (plain_refused place lt) e in
    none place first.0 lt (sym first.1)

-- ---- numbers told up to a limit

upto_capped : (most : ℕ) (n : Option ℕ) → most < 2147483648 → UpTo most (capped_option n) → capped_option n ≡ n
upto_capped most None h fits = refl
upto_capped most (Some n) h fits = ap (λ (x : ℕ). Some x) (capped_small n most h fits)

comm_capped : (most : ℕ) (n : Option ℕ) → most < 2147483648 → IsCommunicator most (capped_option n) → capped_option n ≡ n
comm_capped most None h fits = refl
comm_capped most (Some n) h fits = ap (λ (x : ℕ). Some x) (capped_small n most h fits.1)

-- the limits are below what each larger number is told as
record AreSmall (l : Limits) : Type 0 where
  peer : l.peer < 2147483648
  tag : l.tag < 2147483648
  communicator : l.communicator < 2147483648

small_limits : (l : Limits) → AreLimits l → AreSmall l
small_limits l are = record { peer = omega (arith, are.within.peer); tag = omega (arith, are.within.tag); communicator = omega (arith, are.within.communicator) }

pattern_capped : (l : Limits) (s t k : Option ℕ) → AreSmall l → UpTo l.peer (capped_option s) × UpTo l.tag (capped_option t) × IsCommunicator l.communicator (capped_option k) → (capped_option s ≡ s) × (capped_option t ≡ t) × (capped_option k ≡ k)
pattern_capped l s t k are fits = (upto_capped l.peer s are.peer fits.0, upto_capped l.tag t are.tag fits.1, comm_capped l.communicator k are.communicator fits.2)

pub capped_same : (l : Limits) (c : CallLine) → AreLimits l → IsInRange l (capped_call c) → capped_call c ≡ c
capped_same l (Send m r d t k) are fits =
    let small = small_limits l are in
    let a = capped_small d l.peer small.peer fits.0 in
    let b = capped_small t l.tag small.tag fits.1 in
    let e = comm_capped l.communicator k small.communicator fits.2 in
    rw (a, b, e) refl
capped_same l (Receive r s t k) are fits =
    let same = pattern_capped l s t k (small_limits l are) fits in
    rw (same.0, same.1, same.2) refl
capped_same l (MatchedProbe h s t k) are fits =
    let same = pattern_capped l s t k (small_limits l are) fits in
    rw (same.0, same.1, same.2) refl
capped_same l (Probe s t k) are fits =
    let same = pattern_capped l s t k (small_limits l are) fits in
    rw (same.0, same.1, same.2) refl
capped_same l (MatchedReceive r h) are fits = refl
capped_same l (Wait r) are fits = refl
capped_same l (WaitAll rs) are fits = refl
capped_same l (SendReceive d t s u k) are fits =
    let small = small_limits l are in
    let a = capped_small d l.peer small.peer fits.0 in
    let b = capped_small t l.tag small.tag fits.1 in
    let x = upto_capped l.peer s small.peer fits.2 in
    let y = upto_capped l.tag u small.tag fits.3 in
    let e = comm_capped l.communicator k small.communicator fits.4 in
    rw (a, b, x, y, e) refl

upto_fits : (most : ℕ) (n : Option ℕ) → UpTo most n → UpTo most (capped_option n)
upto_fits most None fits = tt
upto_fits most (Some n) fits = omega arith

comm_fits : (most : ℕ) (n : Option ℕ) → IsCommunicator most n → IsCommunicator most (capped_option n)
comm_fits most None fits = tt
comm_fits most (Some n) fits = (omega arith, omega arith)

capped_fits : (l : Limits) (c : CallLine) → IsInRange l c → IsInRange l (capped_call c)
capped_fits l (Send m r d t k) fits = (omega (arith, fits.0), omega (arith, fits.1), comm_fits l.communicator k fits.2)
capped_fits l (Receive r s t k) fits = (upto_fits l.peer s fits.0, upto_fits l.tag t fits.1, comm_fits l.communicator k fits.2)
capped_fits l (MatchedProbe h s t k) fits = (upto_fits l.peer s fits.0, upto_fits l.tag t fits.1, comm_fits l.communicator k fits.2)
capped_fits l (Probe s t k) fits = (upto_fits l.peer s fits.0, upto_fits l.tag t fits.1, comm_fits l.communicator k fits.2)
capped_fits l (MatchedReceive r h) fits = tt
capped_fits l (Wait r) fits = tt
capped_fits l (WaitAll rs) fits = tt
capped_fits l (SendReceive d t s u k) fits = (omega (arith, fits.0), omega (arith, fits.1), upto_fits l.peer s fits.2, upto_fits l.tag u fits.3, comm_fits l.communicator k fits.4)

-- ---- what a line is, by its words

pub item_call : (l : Limits) (line : List ℕ) (words : List (List ℕ)) (found : CallLine) → AreLimits l → words ≡ parts line → (c : CallLine) × HasNames c × (call_words c ≡ words) × (found ≡ capped_call c) → IsInRange l found
    → CallFits l found × (line_of (call_words found) ≡ line ++ 10 ∷ [])
item_call l line words found are seen (c, names, spelled, capped) fits =
    let same : found ≡ c = capped ∙ capped_same l c are (subst (IsInRange l) capped fits) in
    ((subst HasNames (sym same) names, fits), line_is (call_words found) line (ap call_words same ∙ spelled ∙ seen))

pub item_range : (l : Limits) (line : List ℕ) (words : List (List ℕ)) (found : CallLine) → words ≡ parts line → (c : CallLine) × HasNames c × (call_words c ≡ words) × (found ≡ capped_call c) → (IsInRange l found → ⊥)
    → (c : CallLine) × HasNames c × (line_of (call_words c) ≡ line ++ 10 ∷ []) × (IsInRange l c → ⊥)
item_range l line words found seen (c, names, spelled, capped) over =
    (c, names, line_is (call_words c) line (spelled ∙ seen), λ fits. over (subst (IsInRange l) (sym capped) (capped_fits l c fits)))

-- ---- headings

pub unended_wrong : (shape within : List ℕ → Type 0) (fault : CallLineFault) (bytes : List ℕ) → text_lines bytes ≡ bytes ∷ [] → IsUnended fault bytes
    → (shape bytes → (words : List (List ℕ)) × (line_of words ≡ bytes)) → BeginsWrong shape within fault bytes
unended_wrong shape within wrong.Memory bytes one u lined = absurd u
unended_wrong shape within wrong.NotAscii bytes one u lined = (bytes, [], one, u)
unended_wrong shape within wrong.Syntax bytes one u lined = (bytes, [], one, (u, λ s. let l = lined s in no_line_of bytes l.0 one l.1))
unended_wrong shape within (wrong.OutOfProfile w) bytes one u lined = absurd u
unended_wrong shape within wrong.Range bytes one u lined = absurd u

pub ranks_line_words : (n : ℕ) (line : List ℕ) → line_of (ranks_words n) ≡ line ++ 10 ∷ [] → ranks_words n ≡ parts line
ranks_line_words n line e = words_are (ranks_words n) line (omega arith) (plain_ranks n) e

pub policy_line_words : (p : Policy) (line : List ℕ) → line_of (policy_words p) ≡ line ++ 10 ∷ [] → policy_words p ≡ parts line
policy_line_words p line e = words_are (policy_words p) line (omega arith) (plain_policy p) e

pub ranks_injective : (m n : ℕ) → ranks_words m ≡ ranks_words n → m ≡ n
ranks_injective m n e = let k : numeral m ≡ numeral n = cc in numeral_injective m n k

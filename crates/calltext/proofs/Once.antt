-- A call has one line, and the lines of a program are ASCII lines of words.
use Rattle.std.proofs.Common.{◌≡◌, ℕ, ◌+◌, List, [], ◌∷◌, ◌++◌, Option, Some, None, length, get_or, map, refl, sym, ap, subst, ◌∙◌, arith}
use Rattle.std.specs.Str.{IsNotAscii}
use Rattle.std.specs.List.{AllByRecursion}
use Rattle.std.proofs.lemmas.List.{append-nil}
use Rattle.std.proofs.lemmas.Str.Parse.{digit_from_value}
use Rattle.plaintext.specs.Plain.{numeral, line_of, text_lines, IsPlain}
use Rattle.plaintext.specs.Fronts.{to_end}
use Rattle.plaintext.proofs.Numerals.{numeral_injective, AllDigits-numeral, AllDigits_at, numeral_nonempty}
use Rattle.plaintext.proofs.FirstFaults.{heads}
use Rattle.plaintext.proofs.Ascii.{AllAscii, all_append, ascii_words, ascii_among}
use Rattle.plaintext.proofs.Texts.{IsLine, is_line, line_of_injective, lines_joined}
use Rattle.calltext.specs.declared.call.CallLine.{CallLine}
use Rattle.calltext.specs.declared.call.CallLine.TheVariants.{Send, Receive, MatchedProbe, Probe, MatchedReceive, Wait, WaitAll, SendReceive}
use Rattle.calltext.specs.declared.verb.Verb.{Verb}
use Rattle.calltext.specs.declared.verb.Verb.TheVariants as verb
use Rattle.calltext.specs.Readable.{AllHaveNames}
use Rattle.calltext.specs.Grammar.{ProgramText, or_star, communicator_words, call_words, policy_words, ranks_words, rank_words, rank_lines, program_lines, text_of, HasNames, CallFits, Fits}
use Rattle.calltext.specs.declared.limits.Limits.{Limits}
use Rattle.calltext.specs.parts.Verbs.{operands, request_words, message_words, pattern_words}
use Rattle.calltext.specs.Verbs.{is_started, verb_of, verb_word}
use Rattle.calltext.proofs.Verbs.{call_words_are, verb_word_injective}
use Rattle.calltext.proofs.Lines.{plain_call, plain_rank, plain_ranks, plain_policy, some_words}

-- ---- one line

star_no_numeral : (n : ℕ) → numeral n ≡ or_star None → ⊥
star_no_numeral n e =
    let d = AllDigits_at (numeral n) 0 (AllDigits-numeral n) (numeral_nonempty n) in
    omega (arith, digit_from_value (get_or (numeral n) 0 0) d, ap (λ (l : List ℕ). get_or l 0 0) e)

star_injective : (a b : Option ℕ) → or_star a ≡ or_star b → a ≡ b
star_injective None None e = refl
star_injective None (Some n) e = absurd (star_no_numeral n (sym e))
star_injective (Some n) None e = absurd (star_no_numeral n e)
star_injective (Some m) (Some n) e = ap (λ (x : ℕ). Some x) (numeral_injective m n e)

comm_injective : (a b : Option ℕ) → communicator_words a ≡ communicator_words b → a ≡ b
comm_injective None None e = refl
comm_injective None (Some n) e = absurd cc
comm_injective (Some n) None e = absurd cc
comm_injective (Some m) (Some n) e = let k : numeral m ≡ numeral n = cc in ap (λ (x : ℕ). Some x) (numeral_injective m n k)

pub request_injective : (q r : Option (List ℕ)) (xs ys : List (List ℕ)) → is_started q ≡ is_started r → request_words q ++ xs ≡ request_words r ++ ys → (q ≡ r) × (xs ≡ ys)
request_injective None None xs ys s e = (refl, e)
request_injective None (Some r) xs ys s e = absurd cc
request_injective (Some q) None xs ys s e = absurd cc
request_injective (Some q) (Some r) xs ys s e = let h = heads q r xs ys e in (ap (λ (x : List ℕ). Some x) h.0, h.1)

message_injective : (d d' t t' : ℕ) (k k' : Option ℕ) → message_words d t k ≡ message_words d' t' k' → (d ≡ d') × (t ≡ t') × (k ≡ k')
message_injective d d' t t' k k' e =
    let a = heads (numeral d) (numeral d') _ _ e in
    let b = heads (numeral t) (numeral t') _ _ a.1 in
    (numeral_injective d d' a.0, numeral_injective t t' b.0, comm_injective k k' b.1)

pattern_injective : (s s' t t' k k' : Option ℕ) → pattern_words s t k ≡ pattern_words s' t' k' → (s ≡ s') × (t ≡ t') × (k ≡ k')
pattern_injective s s' t t' k k' e =
    let a = heads (or_star s) (or_star s') _ _ e in
    let b = heads (or_star t) (or_star t') _ _ a.1 in
    (star_injective s s' a.0, star_injective t t' b.0, comm_injective k k' b.1)

-- a call of this verb with these operands is the given one
abbrev IsOnly : Verb → List (List ℕ) → CallLine → Type 0
IsOnly (verb.Send m started) words c = (r : Option (List ℕ)) (d t : ℕ) (k : Option ℕ) → is_started r ≡ started → request_words r ++ message_words d t k ≡ words → Send m r d t k ≡ c
IsOnly (verb.Receive started) words c = (r : Option (List ℕ)) (s t k : Option ℕ) → is_started r ≡ started → request_words r ++ pattern_words s t k ≡ words → Receive r s t k ≡ c
IsOnly verb.MatchedProbe words c = (h : List ℕ) (s t k : Option ℕ) → h ∷ pattern_words s t k ≡ words → MatchedProbe h s t k ≡ c
IsOnly verb.Probe words c = (s t k : Option ℕ) → pattern_words s t k ≡ words → Probe s t k ≡ c
IsOnly (verb.MatchedReceive started) words c = (r : Option (List ℕ)) (h : List ℕ) → is_started r ≡ started → request_words r ++ h ∷ [] ≡ words → MatchedReceive r h ≡ c
IsOnly verb.Wait words c = (r : List ℕ) → r ∷ [] ≡ words → Wait r ≡ c
IsOnly verb.WaitAll words c = (rs : List (List ℕ)) → rs ≡ words → WaitAll rs ≡ c
IsOnly verb.SendReceive words c = (d t : ℕ) (s u k : Option ℕ) → numeral d ∷ numeral t ∷ pattern_words s u k ≡ words → SendReceive d t s u k ≡ c

only : (b : CallLine) → IsOnly (verb_of b) (operands b) b
only (Send m r d t k) = λ r' d' t' k' s e.
    let x = request_injective r' r (message_words d' t' k') (message_words d t k) s e in
    let y = message_injective d' d t' t k' k x.1 in
    rw (x.0, y.0, y.1, y.2) refl
only (Receive r s t k) = λ r' s' t' k' same e.
    let x = request_injective r' r (pattern_words s' t' k') (pattern_words s t k) same e in
    let y = pattern_injective s' s t' t k' k x.1 in
    rw (x.0, y.0, y.1, y.2) refl
only (MatchedProbe h s t k) = λ h' s' t' k' e.
    let x = heads h' h _ _ e in
    let y = pattern_injective s' s t' t k' k x.1 in
    rw (x.0, y.0, y.1, y.2) refl
only (Probe s t k) = λ s' t' k' e.
    let x = pattern_injective s' s t' t k' k e in
    rw (x.0, x.1, x.2) refl
only (MatchedReceive r h) = λ r' h' same e.
    let x = request_injective r' r (h' ∷ []) (h ∷ []) same (e ∙ append-nil (request_words r ++ h ∷ [])) in
    let y = heads h' h [] [] x.1 in
    rw (x.0, y.0) refl
only (Wait r) = λ r' e. let x = heads r' r [] [] e in rw x.0 refl
only (WaitAll rs) = λ rs' e. ap (λ (x : List (List ℕ)). WaitAll x) (e ∙ append-nil rs)
only (SendReceive d t s u k) = λ d' t' s' u' k' e.
    let x = heads (numeral d') (numeral d) _ _ e in
    let y = heads (numeral t') (numeral t) _ _ x.1 in
    let z = pattern_injective s' s u' u k' k y.1 in
    let p = numeral_injective d' d x.0 in
    let q = numeral_injective t' t y.0 in
    rw (p, q, z.0, z.1, z.2) refl

as_only : (a c : CallLine) → IsOnly (verb_of a) (operands a) c → a ≡ c
as_only (Send m r d t k) c h = h r d t k refl refl
as_only (Receive r s t k) c h = h r s t k refl refl
as_only (MatchedProbe x s t k) c h = h x s t k refl
as_only (Probe s t k) c h = h s t k refl
as_only (MatchedReceive r x) c h = h r x refl (sym (append-nil (request_words r ++ x ∷ [])))
as_only (Wait r) c h = h r refl
as_only (WaitAll rs) c h = h rs (sym (append-nil rs))
as_only (SendReceive d t s u k) c h = h d t s u k refl

pub call_injective : (a b : CallLine) → call_words a ≡ call_words b → a ≡ b
call_injective a b e =
    let h = heads (verb_word (verb_of a)) (verb_word (verb_of b)) (operands a) (operands b) (sym (call_words_are a) ∙ e ∙ call_words_are b) in
    let same : verb_of a ≡ verb_of b = verb_word_injective (verb_of a) (verb_of b) h.0 in
    as_only a b (subst (λ (v : Verb). IsOnly v (operands a) b) (sym same) (subst (λ (ws : List (List ℕ)). IsOnly (verb_of b) ws b) (sym h.1) (only b)))

pub call_line_injective : (a b : CallLine) → HasNames a → HasNames b → line_of (call_words a) ≡ line_of (call_words b) → a ≡ b
call_line_injective a b p q e = call_injective a b (line_of_injective (call_words a) (call_words b) (some_words a) (some_words b) (plain_call a p) (plain_call b q) e)

-- ---- the lines of a program are ASCII lines of words

-- an ASCII line, and one line
abbrev pub IsWordLine : List ℕ → Type 0
IsWordLine line = IsLine line × AllAscii line

word_line : (words : List (List ℕ)) → AllByRecursion IsPlain words → IsWordLine (line_of words)
word_line words plain = (is_line words plain, ascii_words words plain)

word_calls : (calls : List CallLine) → AllByRecursion HasNames calls → AllByRecursion IsWordLine (map (λ c. line_of (call_words c)) calls)
word_calls [] names = tt
word_calls (c ∷ calls) names = (word_line (call_words c) (plain_call c names.0), word_calls calls names.1)

word_ranks : (i : ℕ) (ranks : List (List CallLine)) → AllByRecursion (AllByRecursion HasNames) ranks → AllByRecursion IsWordLine (rank_lines i ranks)
word_ranks i [] names = tt
word_ranks i (r ∷ ranks) names =
    (word_line (rank_words i) (plain_rank i), all_append IsWordLine (map (λ c. line_of (call_words c)) r) (rank_lines (i + 1) ranks) (word_calls r names.0) (word_ranks (i + 1) ranks names.1))

word_lines : (p : ProgramText) → AllHaveNames p → AllByRecursion IsWordLine (program_lines p)
word_lines p names = (word_line (ranks_words (length p.ranks)) (plain_ranks (length p.ranks)), (word_line (policy_words p.policy) (plain_policy p.policy), word_ranks 0 p.ranks names))

firsts : (lines : List (List ℕ)) → AllByRecursion IsWordLine lines → AllByRecursion IsLine lines
firsts [] h = tt
firsts (l ∷ lines) h = (h.0.0, firsts lines h.1)

seconds : (lines : List (List ℕ)) → AllByRecursion IsWordLine lines → AllByRecursion AllAscii lines
seconds [] h = tt
seconds (l ∷ lines) h = (h.0.1, seconds lines h.1)

-- the lines of a program's text are the program's, and then the end
pub text_of_lines : (p : ProgramText) → AllHaveNames p → text_lines (text_of p) ≡ to_end (program_lines p)
text_of_lines p names = lines_joined (program_lines p) (firsts (program_lines p) (word_lines p names))

pub ascii_in_program : (p : ProgramText) (before : List (List ℕ)) (line : List ℕ) (more : List (List ℕ)) → AllHaveNames p → to_end (program_lines p) ≡ (before ++ line ∷ []) ++ more → IsNotAscii line → ⊥
ascii_in_program p before line more names e =
    ascii_among (to_end (program_lines p)) before line more (all_append AllAscii (program_lines p) ([] ∷ []) (seconds (program_lines p) (word_lines p names)) (tt, tt)) e

-- ---- what fits has names

call_names : (l : Limits) (calls : List CallLine) → AllByRecursion (CallFits l) calls → AllByRecursion HasNames calls
call_names l [] fit = tt
call_names l (c ∷ calls) fit = (fit.0.0, call_names l calls fit.1)

pub rank_names : (l : Limits) (ranks : List (List CallLine)) → AllByRecursion (AllByRecursion (CallFits l)) ranks → AllByRecursion (AllByRecursion HasNames) ranks
rank_names l [] fit = tt
rank_names l (r ∷ ranks) fit = (call_names l r fit.0, rank_names l ranks fit.1)

pub have_names : (l : Limits) (p : ProgramText) → Fits l p → AllHaveNames p
have_names l p fits = rank_names l p.ranks fits.calls

-- A text has one value, bytes have one fault, and never both.
use Rattle.std.proofs.Common.{◌≡◌, ◌≢◌, ℕ, ◌+◌, ◌<◌, ◌≤◌, List, [], ◌∷◌, ◌++◌, Option, None, Some, length, get_or, refl, sym, ap, subst, ◌∙◌, append_assoc, arith, inl, inr, ◌⊎◌}
use Rattle.std.specs.List.{AllByRecursion, join_with_byte}
use Rattle.plaintext.specs.Plain.{line_of, text_lines}
use Rattle.plaintext.specs.Fronts.{to_end, IsClosedUnderFronts, IsFirstFaultyLine}
use Rattle.plaintext.proofs.Cuts.{first_part}
use Rattle.plaintext.proofs.Ascii.{ascii_clash}
use Rattle.plaintext.proofs.Texts.{line_of_injective}
use Rattle.plaintext.proofs.FirstFaults.{heads, same_line, no_faulty_line, closed_begin, begins_whole}
use Rattle.calltext.specs.declared.call.CallLine.{CallLine}
use Rattle.calltext.specs.declared.call.CallLine.TheVariants.{Send, Receive, MatchedProbe, Probe, MatchedReceive, Wait, WaitAll, SendReceive}
use Rattle.calltext.specs.declared.call.Policy.{Policy}
use Rattle.calltext.specs.declared.call.Policy.TheVariants as policies
use Rattle.calltext.specs.declared.fault.ReadFault.{ReadFault}
use Rattle.calltext.specs.declared.fault.ReadFault.TheVariants as faults
use Rattle.calltext.specs.Readable.{AllHaveNames, IsText}
use Rattle.calltext.specs.Grammar.{ProgramText, call_words, ranks_words, policy_word, policy_words, rank_words, rank_lines, program_lines, HasNames, Fits, IsTextWithin, UpTo, IsCommunicator, IsInRange, CallFits, short}
use Rattle.calltext.specs.Fault.{CanGoOn, Why, HasFaultWithin, HasFault}
use Rattle.calltext.specs.WiderLimits.{IsWithin}
use Rattle.calltext.specs.declared.limits.Limits.{Limits}
use Rattle.calltext.specs.RefusedWords.{refused_word, refused_words}
use Rattle.calltext.proofs.Places.{refused_word_injective}
use Rattle.calltext.proofs.RefusedLaws.{plain_refused}
use Rattle.calltext.proofs.Lines.{plain_policy}
use Rattle.calltext.proofs.Once.{call_line_injective, have_names, text_of_lines}
use Rattle.calltext.proofs.Blocks.{AllKeep, call_lines}
use Rattle.calltext.proofs.Verbs.{call_no_rank, call_no_end}

-- ---- lines have one value

calls_injective : (i : ℕ) (cs ds : List CallLine) (us vs : List (List CallLine)) → (rank_lines (i + 1) us ++ [] ∷ [] ≡ rank_lines (i + 1) vs ++ [] ∷ [] → us ≡ vs)
    → AllByRecursion HasNames cs → AllByRecursion HasNames ds → call_lines cs ++ (rank_lines (i + 1) us ++ [] ∷ []) ≡ call_lines ds ++ (rank_lines (i + 1) vs ++ [] ∷ []) → cs ∷ us ≡ ds ∷ vs
calls_injective i [] [] us vs ih p q e = ap (λ (r : List (List CallLine)). [] ∷ r) (ih e)
calls_injective i (c ∷ cs) [] us [] ih p q e = absurd (call_no_end c (heads _ _ _ _ e).0)
calls_injective i (c ∷ cs) [] us (b ∷ vs) ih p q e = absurd (call_no_rank c (i + 1) (heads _ _ _ _ e).0)
calls_injective i [] (d ∷ ds) [] vs ih p q e = absurd (call_no_end d (sym (heads _ _ _ _ e).0))
calls_injective i [] (d ∷ ds) (a ∷ us) vs ih p q e = absurd (call_no_rank d (i + 1) (sym (heads _ _ _ _ e).0))
calls_injective i (c ∷ cs) (d ∷ ds) us vs ih p q e =
    let h = heads (line_of (call_words c)) (line_of (call_words d)) (call_lines cs ++ (rank_lines (i + 1) us ++ [] ∷ [])) (call_lines ds ++ (rank_lines (i + 1) vs ++ [] ∷ [])) e in
    let one : c ≡ d = call_line_injective c d p.0 q.0 h.0 in
    let rest : cs ∷ us ≡ ds ∷ vs = calls_injective i cs ds us vs ih p.1 q.1 h.1 in
    cc

ranks_injective : (i : ℕ) (us vs : List (List CallLine)) → AllKeep HasNames us → AllKeep HasNames vs → rank_lines i us ++ [] ∷ [] ≡ rank_lines i vs ++ [] ∷ [] → us ≡ vs
ranks_injective i [] [] p q e = refl
ranks_injective i [] (b ∷ vs) p q e = absurd cc
ranks_injective i (a ∷ us) [] p q e = absurd cc
ranks_injective i (a ∷ us) (b ∷ vs) p q e =
    calls_injective i a b us vs (λ f. ranks_injective (i + 1) us vs p.1 q.1 f) p.0 q.0
    (sym (append_assoc (call_lines a) (rank_lines (i + 1) us) ([] ∷ [])) ∙ (heads (line_of (rank_words i)) (line_of (rank_words i)) _ _ e).1 ∙ append_assoc (call_lines b) (rank_lines (i + 1) vs) ([] ∷ []))

policy_key : (p q : Policy) → policy_word p ≡ policy_word q → p ≡ q
policy_key policies.Any policies.Any e = refl
policy_key policies.Never policies.Never e = refl
policy_key policies.Always policies.Always e = refl
policy_key policies.Any policies.Never e = absurd (omega (arith, ap (λ (l : List ℕ). get_or l 1 0) e))
policy_key policies.Any policies.Always e = absurd (omega (arith, ap (λ (l : List ℕ). get_or l 1 0) e))
policy_key policies.Never policies.Any e = absurd (omega (arith, ap (λ (l : List ℕ). get_or l 1 0) e))
policy_key policies.Never policies.Always e = absurd (omega (arith, ap (λ (l : List ℕ). get_or l 1 0) e))
policy_key policies.Always policies.Any e = absurd (omega (arith, ap (λ (l : List ℕ). get_or l 1 0) e))
policy_key policies.Always policies.Never e = absurd (omega (arith, ap (λ (l : List ℕ). get_or l 1 0) e))

second_word : (a b x y : List ℕ) → a ∷ x ∷ [] ≡ b ∷ y ∷ [] → x ≡ y
second_word a b x y e = cc

policy_line_injective : (p q : Policy) → line_of (policy_words p) ≡ line_of (policy_words q) → p ≡ q
policy_line_injective p q e = policy_key p q (second_word _ _ (policy_word p) (policy_word q) (line_of_injective (policy_words p) (policy_words q) (omega arith) (omega arith) (plain_policy p) (plain_policy q) e))

pub lines_of_text : (limits : Limits) (bytes : List ℕ) (p : ProgramText) → IsTextWithin limits bytes p → text_lines bytes ≡ to_end (program_lines p)
lines_of_text limits bytes p t = ap text_lines t.text ∙ text_of_lines p (have_names limits p t.fits)

pub one_program : (p q : ProgramText) → AllHaveNames p → AllHaveNames q → to_end (program_lines p) ≡ to_end (program_lines q) → p ≡ q
one_program p q names names' e =
    let one = heads (line_of (ranks_words (length p.ranks))) (line_of (ranks_words (length q.ranks))) _ _ e in
    let two = heads (line_of (policy_words p.policy)) (line_of (policy_words q.policy)) _ _ one.1 in
    let policy : p.policy ≡ q.policy = policy_line_injective p.policy q.policy two.0 in
    let ranks : p.ranks ≡ q.ranks = ranks_injective 0 p.ranks q.ranks names names' two.1 in
    λ i. record { policy = policy i; ranks = ranks i }

pub one_value_within : (limits : Limits) (bytes : List ℕ) (p q : ProgramText) → IsTextWithin limits bytes p → IsTextWithin limits bytes q → p ≡ q
one_value_within limits bytes p q s t = one_program p q (have_names limits p s.fits) (have_names limits q t.fits) (sym (lines_of_text limits bytes p s) ∙ lines_of_text limits bytes q t)

pub one_value : (bytes : List ℕ) (p q : ProgramText) → IsText bytes p → IsText bytes q → p ≡ q
one_value = one_value_within short

-- ---- a text has no fault

closed : (limits : Limits) → IsClosedUnderFronts (CanGoOn limits)
closed limits = closed_begin ProgramText (Fits limits) program_lines

no_first_fault : (limits : Limits) (bytes : List ℕ) (p : ProgramText) (before : List (List ℕ)) (line : List ℕ) → IsTextWithin limits bytes p → IsFirstFaultyLine (CanGoOn limits) bytes before line → ⊥
no_first_fault limits bytes p before line t f = no_faulty_line (CanGoOn limits) bytes before line (closed limits) (begins_whole ProgramText (Fits limits) program_lines p bytes t.fits (lines_of_text limits bytes p t)) f

pub text_has_no_fault_within : (limits : Limits) (bytes : List ℕ) (p : ProgramText) (fault : ReadFault) → IsTextWithin limits bytes p → HasFaultWithin limits bytes fault → fault ≡ faults.Memory
text_has_no_fault_within limits bytes p faults.Memory t h = refl
text_has_no_fault_within limits bytes p faults.TooLarge t h = absurd (omega (arith, t.small, h))
text_has_no_fault_within limits bytes p (faults.NotAscii k) t h = absurd (no_first_fault limits bytes p h.1 h.2 t h.3)
text_has_no_fault_within limits bytes p (faults.Syntax k) t h = absurd (no_first_fault limits bytes p h.1 h.2 t h.3)
text_has_no_fault_within limits bytes p (faults.OutOfProfile k w) t h = absurd (no_first_fault limits bytes p h.1 h.2 t h.3)
text_has_no_fault_within limits bytes p (faults.Range k) t h = absurd (no_first_fault limits bytes p h.1 h.2 t h.3)

pub text_has_no_fault : (bytes : List ℕ) (p : ProgramText) (fault : ReadFault) → IsText bytes p → HasFault bytes fault → fault ≡ faults.Memory
text_has_no_fault = text_has_no_fault_within short

-- ---- bytes have one fault

-- a line's first word stands at one place
one_refused : (line : List ℕ) (v w : ℕ) (xs ys : List (List ℕ)) → v < length refused_words → w < length refused_words → line ≡ line_of (refused_word v ∷ xs) → line ≡ line_of (refused_word w ∷ ys) → v ≡ w
one_refused line v w xs ys p q e f =
    let content : List ℕ = join_with_byte 32 (refused_word v ∷ xs) in
    let a = first_part (refused_word v) xs content (plain_refused v p) refl in
    let b = first_part (refused_word w) ys content (plain_refused w q) (sym e ∙ f) in
    refused_word_injective v w p q (heads (refused_word v) (refused_word w) a.0 b.0 (sym a.1 ∙ b.1)).0

-- why a line is faulty is one thing
one_why : (a b : ReadFault) (before : List (List ℕ)) (line : List ℕ) → Why a before line → Why b before line → a ≡ b
one_why (faults.NotAscii j) (faults.NotAscii k) before line v w = ap (λ (x : ℕ). faults.NotAscii x) (v.0 ∙ sym w.0)
one_why (faults.NotAscii j) (faults.Syntax k) before line v w = absurd (ascii_clash line v.1 w.1)
one_why (faults.NotAscii j) (faults.OutOfProfile k x) before line v w = absurd (ascii_clash line v.1 w.1)
one_why (faults.NotAscii j) (faults.Range k) before line v w = absurd (ascii_clash line v.1 w.1)
one_why (faults.Syntax j) (faults.NotAscii k) before line v w = absurd (ascii_clash line w.1 v.1)
one_why (faults.Syntax j) (faults.Syntax k) before line v w = ap (λ (x : ℕ). faults.Syntax x) (v.0 ∙ sym w.0)
one_why (faults.Syntax j) (faults.OutOfProfile k x) before line v w = absurd (v.2 x w.2)
one_why (faults.Syntax j) (faults.Range k) before line v w = absurd (v.3 w.2)
one_why (faults.OutOfProfile j x) (faults.NotAscii k) before line v w = absurd (ascii_clash line w.1 v.1)
one_why (faults.OutOfProfile j x) (faults.Syntax k) before line v w = absurd (w.2 x v.2)
one_why (faults.OutOfProfile j x) (faults.OutOfProfile k y) before line v w =
    let same : x ≡ y = one_refused line x y v.2.2 w.2.2 v.2.1 w.2.1 v.2.3 w.2.3 in
    let at : j ≡ k = v.0 ∙ sym w.0 in
    cc
one_why (faults.OutOfProfile j x) (faults.Range k) before line v w = absurd (v.3 w.2)
one_why (faults.Range j) (faults.NotAscii k) before line v w = absurd (ascii_clash line w.1 v.1)
one_why (faults.Range j) (faults.Syntax k) before line v w = absurd (w.3 v.2)
one_why (faults.Range j) (faults.OutOfProfile k x) before line v w = absurd (w.3 v.2)
one_why (faults.Range j) (faults.Range k) before line v w = ap (λ (x : ℕ). faults.Range x) (v.0 ∙ sym w.0)
one_why faults.Memory b before line v w = absurd v
one_why faults.TooLarge b before line v w = absurd v
one_why a faults.Memory before line v w = absurd w
one_why a faults.TooLarge before line v w = absurd w

-- a fault of a line
OfLine : Limits → List ℕ → ReadFault → Type 0
OfLine limits bytes fault = (length bytes ≤ limits.bytes) × (before : List (List ℕ)) × (line : List ℕ) × IsFirstFaultyLine (CanGoOn limits) bytes before line × Why fault before line

one_of_line : (limits : Limits) (bytes : List ℕ) (a b : ReadFault) → OfLine limits bytes a → OfLine limits bytes b → a ≡ b
unfolding OfLine
one_of_line limits bytes a b (s, x, l, f, v) (t, y, m, g, w) =
    let same = same_line (CanGoOn limits) bytes x y l m (closed limits) f g in
    one_why a b x l v (subst (λ (k : List ℕ). Why b x k) (sym same.1) (subst (λ (k : List (List ℕ)). Why b k m) (sym same.0) w))

cases : (limits : Limits) (bytes : List ℕ) (a : ReadFault) → HasFaultWithin limits bytes a → a ≢ faults.Memory → OfLine limits bytes a ⊎ ((a ≡ faults.TooLarge) × (limits.bytes < length bytes))
unfolding OfLine
cases limits bytes faults.Memory h n = absurd (n refl)
cases limits bytes faults.TooLarge h n = inr (refl, h)
cases limits bytes (faults.NotAscii k) h n = inl h
cases limits bytes (faults.Syntax k) h n = inl h
cases limits bytes (faults.OutOfProfile k w) h n = inl h
cases limits bytes (faults.Range k) h n = inl h

size : (limits : Limits) (bytes : List ℕ) (a : ReadFault) → OfLine limits bytes a → length bytes ≤ limits.bytes
unfolding OfLine
size limits bytes a h = h.0

pub one_fault_within : (limits : Limits) (bytes : List ℕ) (a b : ReadFault) → HasFaultWithin limits bytes a → HasFaultWithin limits bytes b → a ≢ faults.Memory → b ≢ faults.Memory → a ≡ b
one_fault_within limits bytes a b h k m n =
    elim (cases limits bytes a h m) [
      | inl x ↦ elim (cases limits bytes b k n) [
        | inl y ↦ one_of_line limits bytes a b x y
        | inr y ↦ absurd (omega (arith, size limits bytes a x, y.1))
      ]
      | inr x ↦ elim (cases limits bytes b k n) [
        | inl y ↦ absurd (omega (arith, size limits bytes b y, x.1))
        | inr y ↦ x.0 ∙ sym y.0
      ]
    ]

pub one_fault : (bytes : List ℕ) (a b : ReadFault) → HasFault bytes a → HasFault bytes b → a ≢ faults.Memory → b ≢ faults.Memory → a ≡ b
one_fault = one_fault_within short

-- ---- wider limits

upto_wider : (a b : ℕ) (n : Option ℕ) → a ≤ b → UpTo a n → UpTo b n
upto_wider a b None le fits = tt
upto_wider a b (Some n) le fits = omega arith

comm_wider : (a b : ℕ) (n : Option ℕ) → a ≤ b → IsCommunicator a n → IsCommunicator b n
comm_wider a b None le fits = tt
comm_wider a b (Some n) le fits = (fits.0, omega (arith, fits.1))

module _ (one other : Limits) (within : IsWithin one other) where
  pattern_wider : (s t k : Option ℕ) → UpTo one.peer s × UpTo one.tag t × IsCommunicator one.communicator k → UpTo other.peer s × UpTo other.tag t × IsCommunicator other.communicator k
  pattern_wider s t k fits = (upto_wider one.peer other.peer s within.peer fits.0, upto_wider one.tag other.tag t within.tag fits.1, comm_wider one.communicator other.communicator k within.communicator fits.2)

  range_wider : (c : CallLine) → IsInRange one c → IsInRange other c
  range_wider (Send m r d t k) fits = (omega (arith, within.peer, fits.0), omega (arith, within.tag, fits.1), comm_wider one.communicator other.communicator k within.communicator fits.2)
  range_wider (Receive r s t k) fits = pattern_wider s t k fits
  range_wider (MatchedProbe h s t k) fits = pattern_wider s t k fits
  range_wider (Probe s t k) fits = pattern_wider s t k fits
  range_wider (MatchedReceive r h) fits = tt
  range_wider (Wait r) fits = tt
  range_wider (WaitAll rs) fits = tt
  range_wider (SendReceive d t s u k) fits = let p = pattern_wider s u k (fits.2, fits.3, fits.4) in (omega (arith, within.peer, fits.0), omega (arith, within.tag, fits.1), p.0, p.1, p.2)

  calls_wider : (calls : List CallLine) → AllByRecursion (CallFits one) calls → AllByRecursion (CallFits other) calls
  calls_wider [] fit = tt
  calls_wider (c ∷ calls) fit = ((fit.0.0, range_wider c fit.0.1), calls_wider calls fit.1)

  ranks_wider : (ranks : List (List CallLine)) → AllByRecursion (AllByRecursion (CallFits one)) ranks → AllByRecursion (AllByRecursion (CallFits other)) ranks
  ranks_wider [] fit = tt
  ranks_wider (r ∷ ranks) fit = (calls_wider r fit.0, ranks_wider ranks fit.1)

  pub text_wider : (bytes : List ℕ) (p : ProgramText) → IsTextWithin one bytes p → IsTextWithin other bytes p
  text_wider bytes p t = record {
    fits = record { some = t.fits.some; ranks = omega (arith, t.fits.ranks, within.ranks); calls = ranks_wider p.ranks t.fits.calls };
    small = omega (arith, t.small, within.bytes);
    text = t.text;
  }

pub same_text_within : (one other : Limits) (bytes : List ℕ) (p : ProgramText) → IsWithin one other → IsTextWithin one bytes p → IsTextWithin other bytes p × ((q : ProgramText) → IsTextWithin other bytes q → q ≡ p)
same_text_within one other bytes p within t = let wide = text_wider one other within bytes p t in (wide, λ q u. one_value_within other bytes q p u wide)

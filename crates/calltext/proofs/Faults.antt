-- From what is wrong with a line in its place to the fault of the whole text.
use Rattle.std.proofs.Common.{◌≡◌, ◌≢◌, ℕ, zero, suc, ◌+◌, ◌-◌, ◌<◌, ◌≤◌, List, [], ◌∷◌, ◌++◌, length, refl, sym, ap, subst, ◌∙◌, append_assoc, arith, inl, inr}
use Rattle.std.specs.Prelude.{⊤}
use Rattle.std.specs.Str.{IsAscii, IsNotAscii}
use Rattle.std.specs.List.{AllByRecursion}
use Rattle.std.proofs.lemmas.List.{append-nil, length-append, map_push}
use Rattle.plaintext.specs.Plain.{line_of, text_lines}
use Rattle.plaintext.specs.Fronts.{to_end, BeginsWith}
use Rattle.plaintext.proofs.Texts.{line_of_injective, text_joined}
use Rattle.plaintext.proofs.FirstFaults.{heads, closed_begin}
use Rattle.calltext.specs.declared.call.CallLine.{CallLine}
use Rattle.calltext.specs.declared.call.Policy.{Policy}
use Rattle.calltext.specs.declared.call.Policy.TheVariants as policies
use Rattle.calltext.specs.declared.line.CallLineFault.{CallLineFault}
use Rattle.calltext.specs.declared.line.CallLineFault.TheVariants as wrong
use Rattle.calltext.specs.Readable.{AllHaveNames, IsReadableWithin}
use Rattle.calltext.specs.Grammar.{ProgramText, call_words, ranks_words, policy_words, rank_words, rank_lines, program_lines, HasNames, IsInRange, CallFits, Fits, IsTextWithin}
use Rattle.calltext.specs.Fault.{HasShape, CanGoOn, IsOutOfProfile, HasFaultWithin}
use Rattle.calltext.specs.parts.Item.{IsWrong, IsRanksLine, AreRanksWithin, IsPolicyLine, IsFirstRankLine, IsWrongHeading, BeginsWrong}
use Rattle.calltext.specs.parts.Body.{HasRanks, StopsAt, IsStopped}
use Rattle.calltext.specs.AtLine.{at_line}
use Rattle.calltext.specs.declared.limits.Limits.{Limits}
use Rattle.calltext.proofs.Lines.{plain_ranks, ranks_injective}
use Rattle.calltext.proofs.Once.{call_line_injective, ascii_in_program, have_names, rank_names}
use Rattle.calltext.proofs.Blocks.{AllFit, AllKeep, call_lines, Follows, after_ranks, rank_lines-append}
use Rattle.calltext.proofs.Verbs.{call_no_rank, call_no_end}

-- ---- what is wrong with a line after the lines before it

abbrev pub Judged : Limits → CallLineFault → List (List ℕ) → List ℕ → Type 0
Judged limits wrong.Memory before line = ⊤
Judged limits wrong.NotAscii before line = IsNotAscii line
Judged limits wrong.Syntax before line = IsAscii line × ((place : ℕ) → IsOutOfProfile before line place → ⊥) × (HasShape (before ++ line ∷ []) → ⊥)
Judged limits (wrong.OutOfProfile w) before line = IsAscii line × IsOutOfProfile before line w × (HasShape (before ++ line ∷ []) → ⊥)
Judged limits wrong.Range before line = IsAscii line × HasShape (before ++ line ∷ []) × (CanGoOn limits (before ++ line ∷ []) → ⊥)

shape_from : (limits : Limits) (lines : List (List ℕ)) → CanGoOn limits lines → HasShape lines
shape_from limits lines (p, fits, begins) = (p, have_names limits p fits, begins)

pub judged_fault : (limits : Limits) (fault : CallLineFault) (bytes : List ℕ) (before : List (List ℕ)) (line : List ℕ) (after : List (List ℕ)) (k : ℕ) → length bytes ≤ limits.bytes
    → text_lines bytes ≡ before ++ line ∷ after → k ≡ length before + 1 → CanGoOn limits before → Judged limits fault before line → HasFaultWithin limits bytes (at_line fault k)
judged_fault limits wrong.Memory bytes before line after k small cut at good j = tt
judged_fault limits wrong.NotAscii bytes before line after k small cut at good j =
    (small, before, line, record { cut = (after, cut); good = good; bad = λ (p, fits, (more, e)). ascii_in_program p before line more (have_names limits p fits) e j }, (at, j))
judged_fault limits wrong.Syntax bytes before line after k small cut at good j =
    (small, before, line, record { cut = (after, cut); good = good; bad = λ g. j.2 (shape_from limits (before ++ line ∷ []) g) }, (at, j.0, j.1, j.2))
judged_fault limits (wrong.OutOfProfile w) bytes before line after k small cut at good j =
    (small, before, line, record { cut = (after, cut); good = good; bad = λ g. j.2 (shape_from limits (before ++ line ∷ []) g) }, (at, j.0, j.1, j.2))
judged_fault limits wrong.Range bytes before line after k small cut at good j =
    (small, before, line, record { cut = (after, cut); good = good; bad = j.2 }, (at, j.0, j.1))

-- ---- programs that begin with given lines

pub empties : ℕ → List (List CallLine)
empties zero = []
empties (suc k) = [] ∷ empties k

length-empties : (k : ℕ) → length (empties k) ≡ k
unfolding empties
length-empties zero = refl
length-empties (suc k) = ap suc (length-empties k)

keep-empties : (P : CallLine → Type 0) (done : List (List CallLine)) (k : ℕ) → AllKeep P done → AllKeep P (done ++ empties k)
unfolding empties
keep-empties P [] zero keep = tt
keep-empties P [] (suc k) keep = (tt, keep-empties P [] k tt)
keep-empties P (d ∷ done) k keep = (keep.0, keep-empties P done k keep.1)

pub filled : ℕ → Policy → List (List CallLine) → ProgramText
filled n policy done = record { policy = policy; ranks = done ++ empties (n - length done) }

length-filled : (n : ℕ) (policy : Policy) (done : List (List CallLine)) → length done ≤ n → length (filled n policy done).ranks ≡ n
unfolding filled
length-filled n policy done le = omega (arith, length-append done (empties (n - length done)), length-empties (n - length done))

pub filled_begins : (n : ℕ) (policy : Policy) (done : List (List CallLine)) → length done ≤ n → BeginsWith (line_of (ranks_words n) ∷ line_of (policy_words policy) ∷ rank_lines 0 done) (to_end (program_lines (filled n policy done)))
unfolding filled
filled_begins n policy done le =
    let e : List (List CallLine) = empties (n - length done) in (
      rank_lines (0 + length done) e ++ [] ∷ [],
      ap (λ (k : ℕ). line_of (ranks_words k) ∷ line_of (policy_words policy) ∷ (rank_lines 0 (done ++ e) ++ [] ∷ [])) (length-filled n policy done le)
          ∙ ap (λ (ls : List (List ℕ)). line_of (ranks_words n) ∷ line_of (policy_words policy) ∷ (ls ++ [] ∷ [])) (rank_lines-append 0 done e)
          ∙ ap (λ (ls : List (List ℕ)). line_of (ranks_words n) ∷ line_of (policy_words policy) ∷ ls) (append_assoc (rank_lines 0 done) (rank_lines (0 + length done) e) ([] ∷ [])),
    )

filled_fits : (limits : Limits) (n : ℕ) (policy : Policy) (done : List (List CallLine)) → 1 ≤ n → n ≤ limits.ranks → length done ≤ n → AllFit limits done → Fits limits (filled n policy done)
unfolding filled
filled_fits limits n policy done low high le fit = record {
  some = omega (arith, length-filled n policy done le);
  ranks = omega (arith, length-filled n policy done le);
  calls = keep-empties (CallFits limits) done (n - length done) fit;
}

filled_names : (n : ℕ) (policy : Policy) (done : List (List CallLine)) → AllKeep HasNames done → AllHaveNames (filled n policy done)
unfolding filled
filled_names n policy done names = keep-empties HasNames done (n - length done) names

pub good_body : (limits : Limits) (n : ℕ) (policy : Policy) (done : List (List CallLine)) → 1 ≤ n → n ≤ limits.ranks → length done ≤ n → AllFit limits done → CanGoOn limits (line_of (ranks_words n) ∷ line_of (policy_words policy) ∷ rank_lines 0 done)
good_body limits n policy done low high le fit = (filled n policy done, filled_fits limits n policy done low high le fit, filled_begins n policy done le)

-- a front of what can go on can go on
front : (limits : Limits) (x y : List (List ℕ)) → CanGoOn limits (x ++ y) → CanGoOn limits x
front limits = closed_begin ProgramText (Fits limits) program_lines

good_nothing : (limits : Limits) → 1 ≤ limits.ranks → CanGoOn limits []
good_nothing limits some = front limits [] (line_of (ranks_words 1) ∷ line_of (policy_words policies.Any) ∷ []) (good_body limits 1 policies.Any [] (omega arith) some (omega arith) tt)

good_ranks : (limits : Limits) (n : ℕ) → 1 ≤ n → n ≤ limits.ranks → CanGoOn limits (line_of (ranks_words n) ∷ [])
good_ranks limits n low high = front limits (line_of (ranks_words n) ∷ []) (line_of (policy_words policies.Any) ∷ []) (good_body limits n policies.Any [] low high (omega arith) tt)

-- ---- the headings

ranks_line_injective : (m n : ℕ) → line_of (ranks_words m) ≡ line_of (ranks_words n) → m ≡ n
ranks_line_injective m n e = ranks_injective m n (line_of_injective (ranks_words m) (ranks_words n) (omega arith) (omega arith) (plain_ranks m) (plain_ranks n) e)

pub first_heading : (limits : Limits) (fault : CallLineFault) (bytes : List ℕ) → 1 ≤ limits.ranks → length bytes ≤ limits.bytes → BeginsWrong IsRanksLine (AreRanksWithin limits) fault bytes → HasFaultWithin limits bytes (at_line fault 1)
first_heading limits fault bytes some small (line, after, cut, w) = judged_fault limits fault bytes [] line after 1 small cut (omega arith) (good_nothing limits some) (judge fault w)
  where
    begins : (p : ProgramText) (more : List (List ℕ)) → to_end (program_lines p) ≡ ([] ++ line ∷ []) ++ more → line_of (ranks_words (length p.ranks)) ≡ line
    begins p more e = (heads (line_of (ranks_words (length p.ranks))) line _ more e).0

    judge : (fault : CallLineFault) → IsWrongHeading IsRanksLine (AreRanksWithin limits) fault line → Judged limits fault [] line
    judge wrong.Memory w = tt
    judge wrong.NotAscii w = w
    judge wrong.Syntax w = (w.0, λ x o. omega (arith, o.0), λ (p, _, (more, e)). w.1 (length p.ranks, begins p more e))
    judge (wrong.OutOfProfile x) w = absurd w
    judge wrong.Range (ascii, (n, spelled), over) = (
      ascii,
      (filled n policies.Any [], filled_names n policies.Any [] tt, (line_of (policy_words policies.Any) ∷ (filled_begins n policies.Any [] (omega arith)).0, (filled_begins n policies.Any [] (omega arith)).1 ∙ ap (λ (l : List ℕ). l ∷ line_of (policy_words policies.Any) ∷ (filled_begins n policies.Any [] (omega arith)).0) spelled)),
      λ (p, fits, (more, e)). over (length p.ranks, fits.some, fits.ranks, begins p more e),
    )

pub second_heading : (limits : Limits) (fault : CallLineFault) (bytes rest : List ℕ) (n : ℕ) → length bytes ≤ limits.bytes → 1 ≤ n → n ≤ limits.ranks → text_lines bytes ≡ line_of (ranks_words n) ∷ text_lines rest
    → BeginsWrong IsPolicyLine IsPolicyLine fault rest → HasFaultWithin limits bytes (at_line fault 2)
second_heading limits fault bytes rest n small low high first (line, after, cut, w) =
    judged_fault limits fault bytes (line_of (ranks_words n) ∷ []) line after 2 small (first ∙ ap (λ (ls : List (List ℕ)). line_of (ranks_words n) ∷ ls) cut) (omega arith) (good_ranks limits n low high) (judge fault w)
  where
    judge : (fault : CallLineFault) → IsWrongHeading IsPolicyLine IsPolicyLine fault line → Judged limits fault (line_of (ranks_words n) ∷ []) line
    judge wrong.Memory w = tt
    judge wrong.NotAscii w = w
    judge wrong.Syntax w = (w.0, λ x o. omega (arith, o.0), λ (p, _, (more, e)). w.1 (p.policy, (heads (line_of (policy_words p.policy)) line _ more (heads _ (line_of (ranks_words n)) _ _ e).1).0))
    judge (wrong.OutOfProfile x) w = absurd w
    judge wrong.Range w = absurd (w.2 w.1)

pub third_heading : (limits : Limits) (fault : CallLineFault) (bytes rest rest2 : List ℕ) (n : ℕ) (policy : Policy) → length bytes ≤ limits.bytes → 1 ≤ n → n ≤ limits.ranks
    → text_lines bytes ≡ line_of (ranks_words n) ∷ text_lines rest → text_lines rest ≡ line_of (policy_words policy) ∷ text_lines rest2
    → BeginsWrong IsFirstRankLine IsFirstRankLine fault rest2 → HasFaultWithin limits bytes (at_line fault 3)
third_heading limits fault bytes rest rest2 n policy small low high first second (line, after, cut, w) =
    judged_fault limits fault bytes (line_of (ranks_words n) ∷ line_of (policy_words policy) ∷ []) line after 3 small
    (first ∙ ap (λ (ls : List (List ℕ)). line_of (ranks_words n) ∷ ls) (second ∙ ap (λ (ls : List (List ℕ)). line_of (policy_words policy) ∷ ls) cut)) (omega arith) (good_body limits n policy [] low high (omega arith) tt) (judge fault w)
  where
    first_rank : (ranks : List (List CallLine)) (more : List (List ℕ)) → 0 < length ranks → rank_lines 0 ranks ++ [] ∷ [] ≡ line ∷ more → line_of (rank_words 0) ≡ line
    first_rank [] more lt e = absurd (omega arith)
    first_rank (r ∷ ranks) more lt e = (heads (line_of (rank_words 0)) line _ more e).0

    begins : (p : ProgramText) (more : List (List ℕ)) → to_end (program_lines p) ≡ ((line_of (ranks_words n) ∷ line_of (policy_words policy) ∷ []) ++ line ∷ []) ++ more → line_of (rank_words 0) ≡ line
    begins p more e =
        let one = heads (line_of (ranks_words (length p.ranks))) (line_of (ranks_words n)) _ _ e in
        let two = heads (line_of (policy_words p.policy)) (line_of (policy_words policy)) _ _ one.1 in
        first_rank p.ranks more (omega (arith, ranks_line_injective (length p.ranks) n one.0)) two.1

    judge : (fault : CallLineFault) → IsWrongHeading IsFirstRankLine IsFirstRankLine fault line → Judged limits fault (line_of (ranks_words n) ∷ line_of (policy_words policy) ∷ []) line
    judge wrong.Memory w = tt
    judge wrong.NotAscii w = w
    judge wrong.Syntax w = (w.0, λ x o. omega (arith, o.0), λ (p, _, (more, e)). w.1 (begins p more e))
    judge (wrong.OutOfProfile x) w = absurd w
    judge wrong.Range w = absurd (w.2 w.1)

-- ---- the ranks

-- a call more in the last rank
push_call : List (List CallLine) → CallLine → List (List CallLine)
push_call [] c = []
push_call (d ∷ []) c = (d ++ c ∷ []) ∷ []
push_call (d ∷ e ∷ done) c = d ∷ push_call (e ∷ done) c

length-push_call : (done : List (List CallLine)) (c : CallLine) → length (push_call done c) ≡ length done
unfolding push_call
length-push_call [] c = refl
length-push_call (d ∷ []) c = refl
length-push_call (d ∷ e ∷ done) c = ap suc (length-push_call (e ∷ done) c)

rank_lines-push_call : (i : ℕ) (done : List (List CallLine)) (c : CallLine) → 0 < length done → rank_lines i (push_call done c) ≡ rank_lines i done ++ line_of (call_words c) ∷ []
unfolding push_call
rank_lines-push_call i [] c some = absurd (omega arith)
rank_lines-push_call i (d ∷ []) c some =
    ap (λ (ls : List (List ℕ)). line_of (rank_words i) ∷ ls) (append-nil (call_lines (d ++ c ∷ [])) ∙ map_push (λ x. line_of (call_words x)) d c ∙ ap (λ (ls : List (List ℕ)). ls ++ line_of (call_words c) ∷ []) (sym (append-nil (call_lines d))))
rank_lines-push_call i (d ∷ e ∷ done) c some =
    ap (λ (ls : List (List ℕ)). line_of (rank_words i) ∷ (call_lines d ++ ls)) (rank_lines-push_call (i + 1) (e ∷ done) c (omega arith))
    ∙ ap (λ (ls : List (List ℕ)). line_of (rank_words i) ∷ ls) (sym (append_assoc (call_lines d) (rank_lines (i + 1) (e ∷ done)) (line_of (call_words c) ∷ [])))

calls_push : (P : CallLine → Type 0) (calls : List CallLine) (c : CallLine) → AllByRecursion P calls → P c → AllByRecursion P (calls ++ c ∷ [])
calls_push P [] c keep h = (h, tt)
calls_push P (d ∷ calls) c keep h = (keep.0, calls_push P calls c keep.1 h)

names-push_call : (done : List (List CallLine)) (c : CallLine) → AllKeep HasNames done → HasNames c → AllKeep HasNames (push_call done c)
unfolding push_call
names-push_call [] c keep h = tt
names-push_call (d ∷ []) c keep h = (calls_push HasNames d c keep.0 h, tt)
names-push_call (d ∷ e ∷ done) c keep h = (keep.0, names-push_call (e ∷ done) c keep.1 h)

pub in_ranks : (limits : Limits) (fault : CallLineFault) (k : ℕ) (bytes rest rest2 rest3 : List ℕ) (n : ℕ) (policy : Policy) → length bytes ≤ limits.bytes → 1 ≤ n → n ≤ limits.ranks
    → text_lines bytes ≡ line_of (ranks_words n) ∷ text_lines rest → text_lines rest ≡ line_of (policy_words policy) ∷ text_lines rest2 → text_lines rest2 ≡ line_of (rank_words 0) ∷ text_lines rest3
    → StopsAt limits fault k n rest3 → HasFaultWithin limits bytes (at_line fault k)
in_ranks limits fault k bytes rest rest2 rest3 n policy small low high first second third stop =
    judged_fault limits fault bytes before line stop.after k small
    (first ∙ ap (λ (ls : List (List ℕ)). line_of (ranks_words n) ∷ ls) (second ∙ ap (λ (ls : List (List ℕ)). line_of (policy_words policy) ∷ ls) (third ∙ stop.cut)))
    (omega (arith, stop.place)) (good_body limits n policy done low high stop.within stop.fit) (judge fault stop.why)
  where
    done : List (List CallLine)
    done = stop.done

    line : List ℕ
    line = stop.line

    before : List (List ℕ)
    before = line_of (ranks_words n) ∷ line_of (policy_words policy) ∷ rank_lines 0 done

    follows : (P : CallLine → Type 0) (p : ProgramText) (more : List (List ℕ)) → to_end (program_lines p) ≡ (before ++ line ∷ []) ++ more
        → (length p.ranks ≡ n) × Follows P (AllKeep P p.ranks) (0 + length done) (length done) (length p.ranks) line
    follows P p more e =
        let one = heads (line_of (ranks_words (length p.ranks))) (line_of (ranks_words n)) _ _ e in
        let two = heads (line_of (policy_words p.policy)) (line_of (policy_words policy)) _ _ one.1 in
        (ranks_line_injective (length p.ranks) n one.0, after_ranks P 0 p.ranks done line more stop.some (two.1 ∙ append_assoc (rank_lines 0 done) (line ∷ []) more))

    nothing : ((c : CallLine) → HasNames c → line_of (call_words c) ≢ line) → (length done < n → line_of (rank_words (length done)) ≢ line) → HasShape (before ++ line ∷ []) → ⊥
    nothing no_call no_rank (p, names, (more, e)) =
        let f = follows HasNames p more e in
        elim f.1 [
          | inl x ↦ no_call x.0 (x.2 names) x.1
          | inr y ↦ elim y [
            | inl x ↦ no_rank (omega (arith, f.0, x.1)) (ap (λ (j : ℕ). line_of (rank_words j)) (omega arith) ∙ x.0)
            | inr x ↦ omega (arith, f.0, x.1, stop.early x.0)
          ]
        ]

    shaped : (c : CallLine) → HasNames c → line_of (call_words c) ≡ line → HasShape (before ++ line ∷ [])
    shaped c names spelled =
        let begins = filled_begins n policy (push_call done c) (omega (arith, length-push_call done c, stop.within)) in
        (filled n policy (push_call done c), filled_names n policy (push_call done c) (names-push_call done c (rank_names limits done stop.fit) names), (begins.0, begins.1 ∙ ap (λ (ls : List (List ℕ)). line_of (ranks_words n) ∷ line_of (policy_words policy) ∷ (ls ++ begins.0)) (rank_lines-push_call 0 done c stop.some ∙ ap (λ (l : List ℕ). rank_lines 0 done ++ l ∷ []) spelled)))

    over : (c : CallLine) → HasNames c → line_of (call_words c) ≡ line → (IsInRange limits c → ⊥) → CanGoOn limits (before ++ line ∷ []) → ⊥
    over c names spelled unfit (p, fits, (more, e)) =
        let f = follows (CallFits limits) p more e in
        elim f.1 [
          | inl x ↦ let fit = x.2 fits.calls in unfit (subst (IsInRange limits) (call_line_injective x.0 c fit.0 names (x.1 ∙ sym spelled)) fit.1)
          | inr y ↦ elim y [
            | inl x ↦ call_no_rank c (0 + length done) (spelled ∙ sym x.0)
            | inr x ↦ call_no_end c (spelled ∙ x.0)
          ]
        ]

    judge : (fault : CallLineFault) → IsWrong limits fault (length done) n line → Judged limits fault before line
    judge wrong.Memory w = tt
    judge wrong.NotAscii w = w
    judge wrong.Syntax w = (w.0, λ x o. w.3 x (o.1, o.2, o.3), nothing w.1 w.2)
    judge (wrong.OutOfProfile x) w = (w.0, (long done stop.some, w.3.0, w.3.1, w.3.2), nothing w.1 w.2)
      where
        long : (done : List (List CallLine)) → 0 < length done → 3 ≤ length (line_of (ranks_words n) ∷ line_of (policy_words policy) ∷ rank_lines 0 done)
        long [] some = absurd (omega arith)
        long (d ∷ ds) some = omega arith
    judge wrong.Range w = (w.0, shaped w.1 w.2 w.3, over w.1 w.2 w.3 w.4)

pub stopped : (limits : Limits) (fault : CallLineFault) (k : ℕ) (bytes rest rest2 rest3 : List ℕ) (n : ℕ) (policy : Policy) → length bytes ≤ limits.bytes → 1 ≤ n → n ≤ limits.ranks
    → text_lines bytes ≡ line_of (ranks_words n) ∷ text_lines rest → text_lines rest ≡ line_of (policy_words policy) ∷ text_lines rest2 → text_lines rest2 ≡ line_of (rank_words 0) ∷ text_lines rest3
    → IsStopped limits fault k n rest3 → HasFaultWithin limits bytes (at_line fault k)
stopped limits wrong.Memory k bytes rest rest2 rest3 n policy small low high first second third stop = tt
stopped limits wrong.NotAscii k bytes rest rest2 rest3 n policy small low high first second third stop = in_ranks limits wrong.NotAscii k bytes rest rest2 rest3 n policy small low high first second third stop
stopped limits wrong.Syntax k bytes rest rest2 rest3 n policy small low high first second third stop = in_ranks limits wrong.Syntax k bytes rest rest2 rest3 n policy small low high first second third stop
stopped limits (wrong.OutOfProfile w) k bytes rest rest2 rest3 n policy small low high first second third stop = in_ranks limits (wrong.OutOfProfile w) k bytes rest rest2 rest3 n policy small low high first second third stop
stopped limits wrong.Range k bytes rest rest2 rest3 n policy small low high first second third stop = in_ranks limits wrong.Range k bytes rest rest2 rest3 n policy small low high first second third stop

-- ---- a text

pub is_text : (limits : Limits) (bytes rest rest2 rest3 : List ℕ) (n : ℕ) (policy : Policy) (ranks : List (List CallLine)) → length bytes ≤ limits.bytes → 1 ≤ n → n ≤ limits.ranks
    → text_lines bytes ≡ line_of (ranks_words n) ∷ text_lines rest → text_lines rest ≡ line_of (policy_words policy) ∷ text_lines rest2 → text_lines rest2 ≡ line_of (rank_words 0) ∷ text_lines rest3
    → HasRanks limits n rest3 ranks → IsTextWithin limits bytes (record { policy = policy; ranks = ranks })
is_text limits bytes rest rest2 rest3 n policy ranks small low high first second third has =
    let p : ProgramText = record { policy = policy; ranks = ranks } in
    let whole : text_lines bytes ≡ to_end (program_lines p) =
    first ∙ ap (λ (ls : List (List ℕ)). line_of (ranks_words n) ∷ ls) (second ∙ ap (λ (ls : List (List ℕ)). line_of (policy_words policy) ∷ ls) (third ∙ has.cut))
    ∙ ap (λ (k : ℕ). line_of (ranks_words k) ∷ line_of (policy_words policy) ∷ (rank_lines 0 ranks ++ [] ∷ [])) (sym has.count) in
    record {
      fits = record { some = omega (arith, has.count); ranks = omega (arith, has.count); calls = has.fit };
      small = small;
      text = text_joined bytes (program_lines p) whole;
    }

-- what has a text can be read
pub readable : (limits : Limits) (bytes : List ℕ) (p : ProgramText) → IsTextWithin limits bytes p → IsReadableWithin limits p
readable limits bytes p t = subst (λ (b : List ℕ). IsTextWithin limits b p) t.text t

-- The numbers of the lines that calls stand in.
use Rattle.std.proofs.Common.{◌≡◌, ℕ, zero, suc, ◌+◌, ◌^◌, ◌<◌, ◌≤◌, List, [], ◌∷◌, ◌++◌, Some, length, map, replicate, take, get_or, slice_get, refl, sym, ◌∙◌, ap, arith}
use Rattle.std.specs.List.{sum_by, flat_map, join_with_byte}
use Rattle.std.specs.Option.{option_map}
use Rattle.std.proofs.lemmas.List.{map-append, append_assoc, append-nil, length-append, length-map, length-take-le, take_more}
use Rattle.std.proofs.lemmas.List.Sums.{sum_by-cons, sum_by_more, sum_by_more_le}
use Rattle.std.proofs.lemmas.List.Concat.{flat_map-append}
use Rattle.std.proofs.lemmas.Option.{slice_get_within, get_or_from_slice_get, slice_get-map, same_Some, none-some}
use Rattle.plaintext.specs.Plain.{line_of}
use Rattle.calltext.specs.declared.call.CallLine.{CallLine}
use Rattle.calltext.specs.declared.call.CallLine.TheVariants.{Send, Receive, MatchedProbe, Probe, MatchedReceive, Wait, WaitAll, SendReceive}
use Rattle.calltext.specs.Readable.{IsReadableWithin}
use Rattle.calltext.specs.Grammar.{ProgramText, call_words, rank_words, ranks_words, policy_words, rank_lines, program_lines, long}
use Rattle.callorder.specs.Expansion.{NamedPart, parts_of, parts_of_lines, parts_of_ranks, wait_for}
use Rattle.scene.specs.Lines.{heading_of, line_of_part, LinesAreNumbered}

-- ---- the numbers of one line's calls

waits_numbered : (heading rank place : ℕ) (requests : List (List ℕ)) → map (λ x. heading + x.part.place) (map (wait_for rank place) requests) ≡ replicate (length (map (wait_for rank place) requests)) (heading + place)
waits_numbered heading rank place [] = refl
waits_numbered heading rank place (request ∷ others) = ap (λ (l : List ℕ). (heading + place) ∷ l) (waits_numbered heading rank place others)

line_numbered : (heading rank place : ℕ) (line : CallLine) → map (λ x. heading + x.part.place) (parts_of rank place line) ≡ replicate (length (parts_of rank place line)) (heading + place)
line_numbered heading rank place (Send mode request destination tag communicator) = refl
line_numbered heading rank place (Receive request source tag communicator) = refl
line_numbered heading rank place (MatchedProbe handle source tag communicator) = refl
line_numbered heading rank place (Probe source tag communicator) = refl
line_numbered heading rank place (MatchedReceive request handle) = refl
line_numbered heading rank place (Wait request) = refl
line_numbered heading rank place (WaitAll requests) = waits_numbered heading rank place requests
line_numbered heading rank place (SendReceive destination send_tag source receive_tag communicator) = refl

-- ---- one more line, and one more rank

lines-append : (rank place : ℕ) (xs : List CallLine) (line : CallLine) → parts_of_lines rank place (xs ++ line ∷ []) ≡ parts_of_lines rank place xs ++ parts_of rank (place + length xs) line
lines-append rank place [] line = append-nil (parts_of rank place line) ∙ ap (λ (k : ℕ). parts_of rank k line) (let e : place ≡ place + 0 = omega arith in e)
lines-append rank place (x ∷ xs) line =
    ap (λ (l : List NamedPart). parts_of rank place x ++ l) (lines-append rank (place + 1) xs line)
    ∙ sym (append_assoc (parts_of rank place x) (parts_of_lines rank (place + 1) xs) (parts_of rank (place + 1 + length xs) line))
    ∙ ap (λ (k : ℕ). (parts_of rank place x ++ parts_of_lines rank (place + 1) xs) ++ parts_of rank k line) (let e : place + 1 + length xs ≡ place + suc (length xs) = omega arith in e)

ranks-append : (rank : ℕ) (xs : List (List CallLine)) (lines : List CallLine) → parts_of_ranks rank (xs ++ lines ∷ []) ≡ parts_of_ranks rank xs ++ parts_of_lines (rank + length xs) 1 lines
ranks-append rank [] lines = append-nil (parts_of_lines rank 1 lines) ∙ ap (λ (k : ℕ). parts_of_lines k 1 lines) (let e : rank ≡ rank + 0 = omega arith in e)
ranks-append rank (x ∷ xs) lines =
    ap (λ (l : List NamedPart). parts_of_lines rank 1 x ++ l) (ranks-append (rank + 1) xs lines)
    ∙ sym (append_assoc (parts_of_lines rank 1 x) (parts_of_ranks (rank + 1) xs) (parts_of_lines (rank + 1 + length xs) 1 lines))
    ∙ ap (λ (k : ℕ). (parts_of_lines rank 1 x ++ parts_of_ranks (rank + 1) xs) ++ parts_of_lines k 1 lines) (let e : rank + 1 + length xs ≡ rank + suc (length xs) = omega arith in e)

-- the numbers of a rank's lines so far, and of one more
abbrev pub numbers_of : ℕ → ℕ → List CallLine → List ℕ
numbers_of heading rank lines = map (λ x. heading + x.part.place) (parts_of_lines rank 1 lines)

pub numbers_more : (heading rank index count : ℕ) (lines : List CallLine) (line : CallLine) (old before after : List ℕ) → index < length lines → line ≡ get_or lines index line
    → ((r place : ℕ) → count ≡ length (parts_of r place line)) → before ≡ old ++ numbers_of heading rank (take index lines) → after ≡ before ++ replicate count (heading + index + 1)
    → after ≡ old ++ numbers_of heading rank (take (index + 1) lines)
numbers_more heading rank index count lines line old before after within there counts so_far more =
    let place : 1 + length (take index lines) ≡ index + 1 = omega (arith, length-take-le index lines (omega arith)) in
    let parts : parts_of_lines rank 1 (take (index + 1) lines) ≡ parts_of_lines rank 1 (take index lines) ++ parts_of rank (index + 1) line =
    ap (parts_of_lines rank 1) (take_more lines index line within)
    ∙ lines-append rank 1 (take index lines) (get_or lines index line)
    ∙ ap (λ (k : ℕ). parts_of_lines rank 1 (take index lines) ++ parts_of rank k (get_or lines index line)) place
    ∙ ap (λ (l : CallLine). parts_of_lines rank 1 (take index lines) ++ parts_of rank (index + 1) l) (sym there)
    in
    let here : replicate count (heading + index + 1) ≡ map (λ x. heading + x.part.place) (parts_of rank (index + 1) line) =
    ap (λ (n : ℕ). replicate n (heading + index + 1)) (counts rank (index + 1))
    ∙ ap (replicate (length (parts_of rank (index + 1) line))) (let e : heading + index + 1 ≡ heading + (index + 1) = omega arith in e)
    ∙ sym (line_numbered heading rank (index + 1) line)
    in
    more
    ∙ ap (λ (l : List ℕ). l ++ replicate count (heading + index + 1)) so_far
    ∙ append_assoc old (numbers_of heading rank (take index lines)) (replicate count (heading + index + 1))
    ∙ ap (λ (l : List ℕ). old ++ (numbers_of heading rank (take index lines) ++ l)) here
    ∙ ap (λ (l : List ℕ). old ++ l) (sym (map-append (λ x. heading + x.part.place) (parts_of_lines rank 1 (take index lines)) (parts_of rank (index + 1) line)))
    ∙ ap (λ (l : List NamedPart). old ++ map (λ x. heading + x.part.place) l) (sym parts)

-- ---- the numbers of a rank's calls

waits_ranked : (text : ProgramText) (rank place : ℕ) (requests : List (List ℕ)) → map (line_of_part text) (map (wait_for rank place) requests) ≡ map (λ x. heading_of text rank + x.part.place) (map (wait_for rank place) requests)
waits_ranked text rank place [] = refl
waits_ranked text rank place (request ∷ others) = ap (λ (l : List ℕ). (heading_of text rank + place) ∷ l) (waits_ranked text rank place others)

line_ranked : (text : ProgramText) (rank place : ℕ) (line : CallLine) → map (line_of_part text) (parts_of rank place line) ≡ map (λ x. heading_of text rank + x.part.place) (parts_of rank place line)
line_ranked text rank place (Send mode request destination tag communicator) = refl
line_ranked text rank place (Receive request source tag communicator) = refl
line_ranked text rank place (MatchedProbe handle source tag communicator) = refl
line_ranked text rank place (Probe source tag communicator) = refl
line_ranked text rank place (MatchedReceive request handle) = refl
line_ranked text rank place (Wait request) = refl
line_ranked text rank place (WaitAll requests) = waits_ranked text rank place requests
line_ranked text rank place (SendReceive destination send_tag source receive_tag communicator) = refl

lines_ranked : (text : ProgramText) (rank place : ℕ) (lines : List CallLine) → map (line_of_part text) (parts_of_lines rank place lines) ≡ map (λ x. heading_of text rank + x.part.place) (parts_of_lines rank place lines)
lines_ranked text rank place [] = refl
lines_ranked text rank place (line ∷ others) =
    map-append (line_of_part text) (parts_of rank place line) (parts_of_lines rank (place + 1) others)
    ∙ ap (λ (l : List ℕ). l ++ map (line_of_part text) (parts_of_lines rank (place + 1) others)) (line_ranked text rank place line)
    ∙ ap (λ (l : List ℕ). map (λ x. heading_of text rank + x.part.place) (parts_of rank place line) ++ l) (lines_ranked text rank (place + 1) others)
    ∙ sym (map-append (λ x. heading_of text rank + x.part.place) (parts_of rank place line) (parts_of_lines rank (place + 1) others))

-- the numbers so far, after one more rank
pub ranks_more : (text : ProgramText) (rank heading : ℕ) (lines : List CallLine) (before after : List ℕ) → slice_get text.ranks rank ≡ Some lines → heading ≡ heading_of text rank
    → before ≡ map (line_of_part text) (parts_of_ranks 0 (take rank text.ranks)) → after ≡ before ++ numbers_of heading rank lines → after ≡ map (line_of_part text) (parts_of_ranks 0 (take (rank + 1) text.ranks))
ranks_more text rank heading lines before after there is so_far more =
    let within : rank < length text.ranks = slice_get_within text.ranks rank lines there in
    let it : get_or text.ranks rank lines ≡ lines = get_or_from_slice_get text.ranks rank lines lines there in
    let count : 0 + length (take rank text.ranks) ≡ rank = omega (arith, length-take-le rank text.ranks (omega arith)) in
    let parts : parts_of_ranks 0 (take (rank + 1) text.ranks) ≡ parts_of_ranks 0 (take rank text.ranks) ++ parts_of_lines rank 1 lines =
    ap (parts_of_ranks 0) (take_more text.ranks rank lines within)
    ∙ ranks-append 0 (take rank text.ranks) (get_or text.ranks rank lines)
    ∙ ap (λ (k : ℕ). parts_of_ranks 0 (take rank text.ranks) ++ parts_of_lines k 1 (get_or text.ranks rank lines)) count
    ∙ ap (λ (l : List CallLine). parts_of_ranks 0 (take rank text.ranks) ++ parts_of_lines rank 1 l) it
    in
    more
    ∙ ap (λ (k : ℕ). before ++ numbers_of k rank lines) is
    ∙ ap (λ (l : List ℕ). l ++ numbers_of (heading_of text rank) rank lines) so_far
    ∙ ap (λ (l : List ℕ). map (line_of_part text) (parts_of_ranks 0 (take rank text.ranks)) ++ l) (sym (lines_ranked text rank 1 lines))
    ∙ sym (map-append (line_of_part text) (parts_of_ranks 0 (take rank text.ranks)) (parts_of_lines rank 1 lines))
    ∙ ap (map (line_of_part text)) (sym parts)

pub heading_more : (text : ProgramText) (rank : ℕ) (lines : List CallLine) → slice_get text.ranks rank ≡ Some lines → heading_of text (rank + 1) ≡ heading_of text rank + (length lines + 1)
heading_more text rank lines there =
    let within : rank < length text.ranks = slice_get_within text.ranks rank lines there in
    let it : length (get_or text.ranks rank lines) ≡ length lines = ap (λ (l : List CallLine). length l) (get_or_from_slice_get text.ranks rank lines lines there) in
    omega (arith, sum_by_more (λ (l : List CallLine). length l) text.ranks rank lines within, it)

-- ---- a text is no shorter than its lines are many

calls_within : (calls : List CallLine) → length calls ≤ length (flat_map (λ line. line) (map (λ c. line_of (call_words c)) calls))
calls_within [] = omega arith
calls_within (call ∷ others) =
    omega (arith, calls_within others, length-append (line_of (call_words call)) (flat_map (λ line. line) (map (λ c. line_of (call_words c)) others)), length-append (join_with_byte 32 (call_words call)) (10 ∷ []))

ranks_within : (rank : ℕ) (ranks : List (List CallLine)) → sum_by (λ l. length l) ranks ≤ length (flat_map (λ line. line) (rank_lines rank ranks))
ranks_within rank [] = omega arith
ranks_within rank (calls ∷ others) =
    let own : List (List ℕ) = map (λ c. line_of (call_words c)) calls in
    let more : List (List ℕ) = rank_lines (rank + 1) others in
    let whole : length (flat_map (λ line. line) (own ++ more)) ≡ length (flat_map (λ line. line) own) + length (flat_map (λ line. line) more) =
    ap (λ (l : List ℕ). length l) (flat_map-append (λ (line : List ℕ). line) own more) ∙ length-append (flat_map (λ line. line) own) (flat_map (λ line. line) more)
    in
    omega (arith, calls_within calls, ranks_within (rank + 1) others, whole, length-append (line_of (rank_words rank)) (flat_map (λ line. line) (own ++ more)), sum_by-cons (λ (l : List CallLine). length l) calls others)

pub heading_within : (text : ProgramText) (rank : ℕ) (lines : List CallLine) → IsReadableWithin long text → slice_get text.ranks rank ≡ Some lines → heading_of text rank + length lines + 1 < 2 ^ 64
heading_within text rank lines readable there =
    let within : rank < length text.ranks = slice_get_within text.ranks rank lines there in
    let it : length (get_or text.ranks rank lines) ≡ length lines = ap (λ (l : List CallLine). length l) (get_or_from_slice_get text.ranks rank lines lines there) in
    let front : List ℕ = line_of (ranks_words (length text.ranks)) in
    let policy : List ℕ = line_of (policy_words text.policy) in
    let rest : List ℕ = flat_map (λ line. line) (rank_lines 0 text.ranks) in
    omega (arith, readable.small, readable.fits.ranks, sum_by_more_le (λ (l : List CallLine). length l) text.ranks rank lines within, it, ranks_within 0 text.ranks, length-append front (policy ++ rest), length-append policy rest)

-- ---- the lines with these numbers

slice_get_front : {X : Type 0} (xs ys : List X) (k : ℕ) (x : X) → slice_get xs k ≡ Some x → slice_get (xs ++ ys) k ≡ Some x
slice_get_front [] ys k x there = absurd (none-some x there)
slice_get_front (y ∷ xs) ys zero x there = there
slice_get_front (y ∷ xs) ys (suc k) x there = slice_get_front xs ys k x there

slice_get_behind : {X : Type 0} (xs ys : List X) (k : ℕ) → slice_get (xs ++ ys) (length xs + k) ≡ slice_get ys k
slice_get_behind [] ys k = ap (slice_get ys) (let e : 0 + k ≡ k = omega arith in e)
slice_get_behind (x ∷ xs) ys k =
    ap (slice_get (x ∷ (xs ++ ys))) (let e : suc (length xs) + k ≡ suc (length xs + k) = omega arith in e) ∙ slice_get_behind xs ys k

line_there : (calls : List CallLine) (place : ℕ) (line : CallLine) → slice_get calls place ≡ Some line → slice_get (map (λ c. line_of (call_words c)) calls) place ≡ Some (line_of (call_words line))
line_there calls place line there =
    slice_get-map (λ (c : CallLine). line_of (call_words c)) calls place ∙ ap (option_map (λ (c : CallLine). line_of (call_words c))) there

in_ranks : (first : ℕ) (ranks : List (List CallLine)) (rank place : ℕ) (lines : List CallLine) (line : CallLine) → slice_get ranks rank ≡ Some lines → slice_get lines place ≡ Some line
    → slice_get (rank_lines first ranks) (1 + rank + sum_by (λ l. length l) (take rank ranks) + place) ≡ Some (line_of (call_words line))
in_ranks first [] rank place lines line of there = absurd (none-some lines of)
in_ranks first (calls ∷ others) zero place lines line of there =
    let own : calls ≡ lines = same_Some calls lines of in
    let here : slice_get calls place ≡ Some line = ap (λ (l : List CallLine). slice_get l place) own ∙ there in
    ap (slice_get (rank_lines first (calls ∷ others))) (let e : 1 + 0 + 0 + place ≡ suc place = omega arith in e)
    ∙ slice_get_front (map (λ c. line_of (call_words c)) calls) (rank_lines (first + 1) others) place (line_of (call_words line)) (line_there calls place line here)
in_ranks first (calls ∷ others) (suc rank) place lines line of there =
    let own : List (List ℕ) = map (λ c. line_of (call_words c)) calls in
    let inner : ℕ = 1 + rank + sum_by (λ l. length l) (take rank others) + place in
    let sums : sum_by (λ l. length l) (calls ∷ take rank others) ≡ length calls + sum_by (λ l. length l) (take rank others) = sum_by-cons (λ (l : List CallLine). length l) calls (take rank others) in
    let index : 1 + suc rank + sum_by (λ l. length l) (calls ∷ take rank others) + place ≡ suc (length own + inner) = omega (arith, sums, length-map calls (λ c. line_of (call_words c))) in
    ap (slice_get (rank_lines first (calls ∷ others))) index
    ∙ slice_get_behind own (rank_lines (first + 1) others) inner
    ∙ in_ranks (first + 1) others rank place lines line of there

pub lines_are_numbered : LinesAreNumbered
lines_are_numbered text rank place lines line of there =
    let inner : ℕ = 1 + rank + sum_by (λ l. length l) (take rank text.ranks) + place in
    let index : heading_of text rank + place ≡ suc (suc inner) = omega arith in
    ap (slice_get (program_lines text)) index ∙ in_ranks 0 text.ranks rank place lines line of there

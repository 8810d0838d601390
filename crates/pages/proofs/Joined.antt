-- Full pages one after another: how many lines they have, where a line stands, and what is left
-- after the first ones.
use Rattle.std.proofs.Common.{◌≡◌, ℕ, zero, suc, ◌+◌, ◌-◌, ◌*◌, ◌<◌, ◌≤◌, ◌^◌, List, [], ◌∷◌, ◌++◌, Option, Some, None, Bor, length, drop, take, refl, sym, ap, ◌∙◌, append_assoc, arith, length-append}
use Rattle.std.specs.Option.{option_map}
use Rattle.std.specs.Slice.{IsItemAt}
use Rattle.std.proofs.lemmas.Option.{slice_get_past, slice_get_read}
use Rattle.std.proofs.Math.Seq.{drop-append-add}
use Rattle.std.proofs.lemmas.Grind.{flat_map-append}
use Rattle.std.proofs.lemmas.List.{drop-drop, length-take}
use Rattle.std.specs.List.{slice_get}
use Rattle.pages.specs.Pages.{joined_pages, AreFull, IsPaged}
use Rattle.pages.proofs.Fronts.{take-append-add}

pub length-joined : {X : Type 0} (size : ℕ) (pages : List (List X)) → AreFull size pages → length (joined_pages pages) ≡ length pages * size
length-joined size [] full = grind arith
length-joined size (page ∷ pages) full =
    let e = length-joined size pages full.1 in
    let a = length-append page (joined_pages pages) in
    let f = full.0 in
    grind arith

pub length-paged : {X : Type 0} (size : ℕ) (pages : List (List X)) (last : List X) → AreFull size pages → length (joined_pages pages ++ last) ≡ length pages * size + length last
length-paged size pages last full =
    let e = length-joined size pages full in
    length-append (joined_pages pages) last ∙ ap (λ n. n + length last) e

pub AreFull-append : {X : Type 0} (size : ℕ) (pages others : List (List X)) → AreFull size pages → AreFull size others → AreFull size (pages ++ others)
AreFull-append size [] others full rest = rest
AreFull-append size (page ∷ pages) others full rest = (full.0, AreFull-append size pages others full.1 rest)

-- looking up in an append
pub slice_get-front : {X : Type 0} (xs ys : List X) (i : ℕ) → i < length xs → slice_get (xs ++ ys) i ≡ slice_get xs i
slice_get-front [] ys i lt = absurd (omega arith)
slice_get-front (x ∷ xs) ys zero lt = refl
slice_get-front (x ∷ xs) ys (suc i) lt = slice_get-front xs ys i (omega arith)

pub slice_get-back : {X : Type 0} (xs ys : List X) (i : ℕ) → slice_get (xs ++ ys) (length xs + i) ≡ slice_get ys i
slice_get-back [] ys i = let e : 0 + i ≡ i = omega arith in ap (slice_get ys) e
slice_get-back (x ∷ xs) ys i =
    let e : suc (length xs) + i ≡ suc (length xs + i) = omega arith in
    ap (slice_get (x ∷ (xs ++ ys))) e ∙ slice_get-back xs ys i

-- what is left after the first pages
pub drop-pages : {X : Type 0} (size i : ℕ) (pages : List (List X)) (last : List X) → AreFull size pages → i ≤ length pages → drop (i * size) (joined_pages pages ++ last) ≡ joined_pages (drop i pages) ++ last
drop-pages size zero pages last full le =
    let e : 0 * size ≡ 0 = grind arith in
    ap (λ n. drop n (joined_pages pages ++ last)) e
drop-pages size (suc i) [] last full le = absurd (omega arith)
drop-pages {X} size (suc i) (page ∷ pages) last full le =
    let f = full.0 in
    let e : suc i * size ≡ length page + i * size = grind arith in
    ap (λ n. drop n ((page ++ joined_pages pages) ++ last)) e
    ∙ ap (λ (l : List X). drop (length page + i * size) l) (append_assoc page (joined_pages pages) last)
    ∙ drop-append-add page (joined_pages pages ++ last) (i * size)
    ∙ drop-pages size i pages last full.1 (omega arith)

-- the line at a place of a page
pub get-in_page : {X : Type 0} (size i j : ℕ) (pages : List (List X)) (last page : List X) → AreFull size pages → slice_get pages i ≡ Some page → j < size → slice_get (joined_pages pages ++ last) (i * size + j) ≡ slice_get page j
get-in_page size i j [] last page full e lt = cc
get-in_page {X} size zero j (first ∷ pages) last page full e lt =
    let f = full.0 in
    let s : first ≡ page = cc in
    let at : 0 * size + j ≡ j = grind arith in
    ap (slice_get ((first ++ joined_pages pages) ++ last)) at
    ∙ slice_get-front (first ++ joined_pages pages) last j (omega (arith, length-append first (joined_pages pages)))
    ∙ slice_get-front first (joined_pages pages) j (omega arith)
    ∙ ap (λ (l : List X). slice_get l j) s
get-in_page {X} size (suc i) j (first ∷ pages) last page full e lt =
    let f = full.0 in
    let at : suc i * size + j ≡ length first + (i * size + j) = grind arith in
    ap (slice_get ((first ++ joined_pages pages) ++ last)) at
    ∙ ap (λ (l : List X). slice_get l (length first + (i * size + j))) (append_assoc first (joined_pages pages) last)
    ∙ slice_get-back first (joined_pages pages ++ last) (i * size + j)
    ∙ get-in_page size i j pages last page full.1 e lt

-- the line at a place after the full pages
pub get-after_pages : {X : Type 0} (size place : ℕ) (pages : List (List X)) (last : List X) → AreFull size pages → length pages * size ≤ place → slice_get (joined_pages pages ++ last) place ≡ slice_get last (place - length pages * size)
get-after_pages {X} size place pages last full le =
    let e : place ≡ length (joined_pages pages) + (place - length pages * size) = omega (arith, length-joined size pages full) in
    ap (slice_get (joined_pages pages ++ last)) e ∙ slice_get-back (joined_pages pages) last (place - length pages * size)

-- what a slice's `get` answers
pub got : {X : Type 0} (xs ys : List X) (i : ℕ) (found : Option (Bor X)) → IsItemAt xs i found → xs ≡ ys → option_map (λ (item : Bor X). item.now) found ≡ slice_get ys i
got {X} xs ys i None item e = sym (slice_get_past xs i item.3) ∙ ap (λ (l : List X). slice_get l i) e
got {X} xs ys i (Some x) item e = sym (slice_get_read xs (length xs) i x.now refl item.3.0 item.1) ∙ ap (λ (l : List X). slice_get l i) e

-- more pages, and other lines after them
pub paged_more : {X : Type 0} (size : ℕ) (pages : List (List X)) (last : List X) (others : List (List X)) (rest : List X) → IsPaged size pages last → AreFull size others → length rest < size → (length pages + length others) * size + length rest < 2 ^ 63 → IsPaged size (pages ++ others) rest
paged_more {X} size pages last others rest paged full is_open few = record {
  full = AreFull-append size pages others paged.full full;
  is_open = is_open;
  few = (let e : length (pages ++ others) * size + length rest ≡ (length pages + length others) * size + length rest = ap (λ n. n * size + length rest) (length-append pages others) in omega arith);
}

-- what is left after a place of a page
pub drop-in_page : {X : Type 0} (size i j : ℕ) (pages : List (List X)) (last : List X) → AreFull size pages → i ≤ length pages → drop j (joined_pages (drop i pages) ++ last) ≡ drop (i * size + j) (joined_pages pages ++ last)
drop-in_page {X} size i j pages last full le =
    ap (λ (l : List X). drop j l) (sym (drop-pages size i pages last full le)) ∙ drop-drop j (i * size) (joined_pages pages ++ last)

-- what is left after a place after the full pages
pub drop-after_pages : {X : Type 0} (size place : ℕ) (pages : List (List X)) (last : List X) → AreFull size pages → length pages * size ≤ place → drop (place - length pages * size) last ≡ drop place (joined_pages pages ++ last)
drop-after_pages {X} size place pages last full le =
    let e : length (joined_pages pages) + (place - length pages * size) ≡ place = omega (arith, length-joined size pages full) in
    sym (drop-append-add (joined_pages pages) last (place - length pages * size)) ∙ ap (λ n. drop n (joined_pages pages ++ last)) e

-- the first pages
AreFull-take : {X : Type 0} (size i : ℕ) (pages : List (List X)) → AreFull size pages → AreFull size (take i pages)
AreFull-take size zero pages full = tt
AreFull-take size (suc i) [] full = tt
AreFull-take size (suc i) (page ∷ pages) full = (full.0, AreFull-take size i pages full.1)

take-pages : {X : Type 0} (size i : ℕ) (pages : List (List X)) (last : List X) → AreFull size pages → i ≤ length pages → take (i * size) (joined_pages pages ++ last) ≡ joined_pages (take i pages)
take-pages size zero pages last full le =
    let e : 0 * size ≡ 0 = grind arith in
    ap (λ n. take n (joined_pages pages ++ last)) e
take-pages size (suc i) [] last full le = absurd (omega arith)
take-pages {X} size (suc i) (page ∷ pages) last full le =
    let f = full.0 in
    let e : suc i * size ≡ length page + i * size = grind arith in
    ap (λ n. take n ((page ++ joined_pages pages) ++ last)) e
    ∙ ap (λ (l : List X). take (length page + i * size) l) (append_assoc page (joined_pages pages) last)
    ∙ take-append-add page (joined_pages pages ++ last) (i * size)
    ∙ ap (λ (l : List X). page ++ l) (take-pages size i pages last full.1 (omega arith))

-- pages that are kept, of as many lines as there are at least
kept_within : {X : Type 0} (kept : ℕ) (pages : List (List X)) (last : List X) → IsPaged 256 pages last → kept * 256 ≤ length (joined_pages pages ++ last) → kept ≤ length pages
kept_within kept pages last paged least = omega (arith, length-paged 256 pages last paged.full, paged.is_open, least)

-- the first pages and then others with their last lines
pub paged_behind : {X : Type 0} (kept : ℕ) (pages : List (List X)) (last : List X) (others : List (List X)) (rest : List X)
    → IsPaged 256 pages last → IsPaged 256 others rest → kept * 256 ≤ length (joined_pages pages ++ last) → kept * 256 + length (joined_pages others ++ rest) < 2 ^ 63
    → IsPaged 256 (take kept pages ++ others) rest
paged_behind {X} kept pages last others rest paged other least few = record {
  full = AreFull-append 256 (take kept pages) others (AreFull-take 256 kept pages paged.full) other.full;
  is_open = other.is_open;
  few = (
      let within = kept_within kept pages last paged least in
      let front : length (take kept pages) ≡ kept = omega (arith, length-take kept pages, within) in
      let all = length-append (take kept pages) others in
      omega (arith, length-paged 256 others rest other.full, front, all, few)
      );
}

pub lines_behind : {X : Type 0} (kept : ℕ) (pages : List (List X)) (last : List X) (others : List (List X)) (rest : List X)
    → IsPaged 256 pages last → kept * 256 ≤ length (joined_pages pages ++ last)
    → joined_pages (take kept pages ++ others) ++ rest ≡ take (kept * 256) (joined_pages pages ++ last) ++ (joined_pages others ++ rest)
lines_behind {X} kept pages last others rest paged least =
    ap (λ (l : List X). l ++ rest) (flat_map-append (λ (page : List X). page) (take kept pages) others)
    ∙ append_assoc (joined_pages (take kept pages)) (joined_pages others) rest
    ∙ ap (λ (l : List X). l ++ (joined_pages others ++ rest)) (sym (take-pages 256 kept pages last paged.full (kept_within kept pages last paged least)))

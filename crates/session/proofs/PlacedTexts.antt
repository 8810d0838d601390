-- A line that begins a text with the places of a map begins the text without them.
use Rattle.std.proofs.Common.{◌≡◌, ◌∙◌, ◌⊎◌, ◌<◌, ◌+◌, ◌-◌, ℕ, zero, suc, Bool, true, false, not, ◌&&◌, ◌||◌, ◌==◌, if◌then◌else◌, cond, List, [], ◌∷◌, ◌++◌, Option, Some, None, inl, inr, refl, ap, sym, subst, arith, codes, append_assoc, append-nil, get_or, drop, take, length, map, length-append, eq-eqb, eqb-true, nat_lt}
use Rattle.std.specs.List.{ends_with, find, flat_map, list_any, slice_split}
use Rattle.std.proofs.lemmas.Bool.{ltb-false, ltb-true, not-true}
use Rattle.std.proofs.lemmas.Bool.Decides.{Decides-eqb}
use Rattle.std.proofs.lemmas.List.{get_or-append-add, get_or-map, get_or-take, get_or_append_left, length-map, length-take-le}
use Rattle.std.proofs.lemmas.Option.{same_Some}
use Rattle.std.proofs.lemmas.Slice.Eq.{ends_is}
use Rattle.std.proofs.Math.Nat.{add-suc}
use Rattle.std.proofs.Math.Seq.{get_or-append_seam}
use Rattle.calltext.proofs.Conjunctions.{and_true}
use Rattle.options.specs.declared.form.Form.{Form}
use Rattle.options.specs.declared.form.Form.TheVariants as forms
use Rattle.places.specs.Sources.{is_gap, is_source_name, is_source, last_digits, source_of}
use Rattle.places.specs.Woven.{AreCut, IsAtSource, IsNamedIf, Piece, is_in_place, kept_of, marker, plain_byte, source_text, told_of}

-- the list has no letter i, which stands before each number of a line
abbrev pub clean : List ℕ → Bool
clean [] = true
clean (b ∷ bytes) = not (b == 105) && clean bytes

-- each colon stands behind a quote
abbrev pub is_quoted : List ℕ → Bool
is_quoted [] = true
is_quoted (b ∷ bytes) = (not (get_or bytes 0 0 == 58) || b == 34) && is_quoted bytes

-- A line that neither names a line nor has a source in it, and ends with an LF.
pub record IsUnplaced (line : List ℕ) : Type 0 where
  pub unmarked : clean line ≡ true
  pub unnamed : is_quoted line ≡ true
  pub ends : get_or line (length line - 1) 0 ≡ 10

clean_behind : (xs ys : List ℕ) → clean (xs ++ ys) ≡ true → clean ys ≡ true
clean_behind [] ys h = h
clean_behind (x ∷ xs) ys h = clean_behind xs ys (and_true (not (x == 105)) (clean (xs ++ ys)) h).1

marked_unclean : (form : Form) (rest : List ℕ) → clean (marker form ++ rest) ≡ true → ⊥
marked_unclean forms.Object rest h = cc
marked_unclean forms.Brief rest h = cc
marked_unclean forms.Whole rest h = cc
marked_unclean forms.Graph rest h = cc
marked_unclean forms.Chart rest h = cc
marked_unclean forms.Picture rest h = cc
marked_unclean forms.Page rest h = cc
marked_unclean forms.Messages rest h = cc

quote_before : (bytes : List ℕ) → is_quoted bytes ≡ true → (i : ℕ) → get_or bytes (suc i) 0 ≡ 58 → get_or bytes i 0 ≡ 34
quote_before [] h i colon = absurd (omega (arith, colon))
quote_before (b ∷ bytes) h zero colon =
    one (get_or bytes 0 0 == 58) (eq-eqb _ _ colon) (and_true (not (get_or bytes 0 0 == 58) || b == 34) (is_quoted bytes) h).0
  where
    one : (c : Bool) → c ≡ true → (not c || b == 34) ≡ true → b ≡ 34
    one true is quoted = eqb-true b 34 quoted
    one false is quoted = absurd cc
quote_before (b ∷ bytes) h (suc i) colon = quote_before bytes (and_true (not (get_or bytes 0 0 == 58) || b == 34) (is_quoted bytes) h).1 i colon

-- ---- sources

-- what is told for a byte
abbrev plain : ℕ → ℕ
plain byte = if nat_lt byte 32 || nat_lt 126 byte then 63 else byte

plain_text : (bytes : List ℕ) → flat_map plain_byte bytes ≡ map plain bytes
plain_text [] = refl
plain_text (b ∷ bytes) = ap (λ (l : List ℕ). l ++ flat_map plain_byte bytes) (one (nat_lt b 32 || nat_lt 126 b)) ∙ ap (λ (l : List ℕ). plain b ∷ l) (plain_text bytes)
  where
    one : (c : Bool) → (if c then 63 ∷ [] else b ∷ []) ≡ (if c then 63 else b) ∷ []
    one true = refl
    one false = refl

plain_high : (b : ℕ) → plain b ≡ 10 → ⊥
plain_high b is = by (nat_lt b 32) (nat_lt 126 b) refl is
  where
    by : (c d : Bool) → nat_lt b 32 ≡ c → (if c || d then 63 else b) ≡ 10 → ⊥
    by true d low e = omega (arith, e)
    by false true low e = omega (arith, e)
    by false false low e = absurd (omega (arith, e, ltb-false b 32 low))

plain_quote : (b : ℕ) → plain b ≡ 34 → b ≡ 34
plain_quote b is = by (nat_lt b 32 || nat_lt 126 b) is
  where
    by : (c : Bool) → (if c then 63 else b) ≡ 34 → b ≡ 34
    by true e = absurd (omega (arith, e))
    by false e = e

plain_at : (bytes : List ℕ) (i : ℕ) → i < length bytes → get_or (flat_map plain_byte bytes) i 0 ≡ plain (get_or bytes i 0)
plain_at bytes i within = ap (λ (l : List ℕ). get_or l i 0) (plain_text bytes) ∙ get_or-map plain bytes i 0 0 within

plain_length : (bytes : List ℕ) → length (flat_map plain_byte bytes) ≡ length bytes
plain_length bytes = ap length (plain_text bytes) ∙ length-map bytes plain

no_quote_at : (bytes : List ℕ) → list_any (λ byte. byte == 34) bytes ≡ false → (i : ℕ) → get_or bytes i 0 ≡ 34 → ⊥
no_quote_at [] none i is = omega (arith, is)
no_quote_at (b ∷ bytes) none zero is = by (b == 34) (eq-eqb _ _ is) none
  where
    by : (c : Bool) → c ≡ true → (c || list_any (λ byte. byte == 34) bytes) ≡ false → ⊥
    by true e h = cc
    by false e h = cc
no_quote_at (b ∷ bytes) none (suc i) is = no_quote_at bytes (by (b == 34) none) i is
  where
    by : (c : Bool) → (c || list_any (λ byte. byte == 34) bytes) ≡ false → list_any (λ byte. byte == 34) bytes ≡ false
    by true h = absurd cc
    by false h = h

-- a source has a colon, and before it a byte that isn't a quote
abbrev HasName : List ℕ → Type 0
HasName part = (i : ℕ) × (suc i < length part) × (get_or part (suc i) 0 ≡ 58) × (get_or part i 0 ≡ 34 → ⊥)

name_in : (front : List ℕ) → is_source_name front ≡ true → HasName front
name_in front h =
    let (long, others) = and_true (nat_lt 1 (length front)) (ends_with (λ x y. x == y) front (codes ":") && not (list_any (λ byte. byte == 34) front)) h in
    let (ends, none) = and_true (ends_with (λ x y. x == y) front (codes ":")) (not (list_any (λ byte. byte == 34) front)) others in
    let many : 1 < length front = ltb-true 1 (length front) long in
    let is : front ≡ take (length front - 1) front ++ codes ":" = (ends_is Decides-eqb front (codes ":") true (sym ends)).0 refl in
    let size : length (take (length front - 1) front) ≡ suc (length front - 2) = length-take-le (length front - 1) front (omega arith) ∙ omega (arith, many) in
    let colon : get_or front (suc (length front - 2)) 0 ≡ 58 =
    ap (λ (l : List ℕ). get_or l (suc (length front - 2)) 0) is
    ∙ ap (λ (n : ℕ). get_or (take (length front - 1) front ++ codes ":") n 0) (sym size)
    ∙ get_or-append_seam (take (length front - 1) front) 58 [] 0 in
    (length front - 2, omega (arith, many), colon, no_quote_at front (not-true (list_any (λ byte. byte == 34) front) none) (length front - 2))

name_of_source : (part : List ℕ) → is_source part ≡ true → HasName part
name_of_source part h =
    let n = length part - last_digits part in
    let front = take n part in
    let (i, within, colon, other) = name_in front (and_true (nat_lt 0 (last_digits part)) (is_source_name front) h).1 in
    let few : length front ≡ n = length-take-le n part (omega arith) in (
      i,
      omega (arith, within, few),
      sym (get_or-take n part (suc i) 0 (omega (arith, within, few))) ∙ colon,
      λ quote. other (get_or-take n part i 0 (omega (arith, within, few)) ∙ quote),
    )

-- what is told for a source doesn't stand in an unplaced line
no_source_in : (line front source more : List ℕ) → IsUnplaced line → is_source source ≡ true → line ≡ front ++ (flat_map plain_byte source ++ more) → ⊥
no_source_in line front source more is named whole =
    let (i, within, colon, other) = name_of_source source named in
    let at : (j : ℕ) → j < length source → get_or line (length front + j) 0 ≡ plain (get_or source j 0) = λ j low.
    ap (λ (l : List ℕ). get_or l (length front + j) 0) whole ∙ get_or-append-add front (flat_map plain_byte source ++ more) j 0
    ∙ get_or_append_left (flat_map plain_byte source) more 0 j (omega (arith, low, plain_length source)) ∙ plain_at source j low in
    let is_colon : get_or line (suc (length front + i)) 0 ≡ 58 =
    ap (λ (n : ℕ). get_or line n 0) (sym (add-suc (length front) i)) ∙ at (suc i) within ∙ ap plain colon in
    other (plain_quote (get_or source i 0) (sym (at i (omega (arith, within))) ∙ quote_before line is.unnamed (length front + i) is_colon))

-- nor does such a line end in one
no_end_in : (line front source end more : List ℕ) (b : ℕ) → IsUnplaced line → line ≡ front ++ b ∷ end → flat_map plain_byte source ≡ (b ∷ end) ++ more → ⊥
no_end_in line front source end more b is whole told =
    let i = length end in
    let size : length line - 1 ≡ length front + i = omega (arith, ap length whole, length-append front (b ∷ end)) in
    let last : get_or (b ∷ end) i 0 ≡ 10 =
    sym (get_or-append-add front (b ∷ end) i 0) ∙ ap (λ (l : List ℕ). get_or l (length front + i) 0) (sym whole) ∙ ap (λ (n : ℕ). get_or line n 0) (sym size) ∙ is.ends in
    let within : i < length source = omega (arith, plain_length source, ap length told, length-append (b ∷ end) more) in
    plain_high (get_or source i 0) (sym (plain_at source i within) ∙ ap (λ (l : List ℕ). get_or l i 0) told ∙ get_or_append_left (b ∷ end) more 0 i (omega arith) ∙ last)

-- ---- beginnings

-- of two parts that make one list, the one begins with the other
abbrev Cut : List ℕ → List ℕ → List ℕ → List ℕ → Type 0
Cut xs ys zs ws = ((m : List ℕ) × (zs ≡ xs ++ m) × (ys ≡ m ++ ws)) ⊎ ((m : List ℕ) × (xs ≡ zs ++ m))

cut : (xs ys zs ws : List ℕ) → xs ++ ys ≡ zs ++ ws → Cut xs ys zs ws
cut [] ys zs ws e = inl (zs, refl, e)
cut (x ∷ xs) ys [] ws e = inr (x ∷ xs, refl)
cut (x ∷ xs) ys (z ∷ zs) ws e = longer (cut xs ys zs ws (ap (λ (l : List ℕ). drop 1 l) e))
  where
    same : x ≡ z
    same = ap (λ (l : List ℕ). get_or l 0 0) e

    longer : Cut xs ys zs ws → Cut (x ∷ xs) ys (z ∷ zs) ws
    longer (inl (m, first, rest)) = inl (m, ap (λ (b : ℕ). b ∷ zs) (sym same) ∙ ap (λ (l : List ℕ). x ∷ l) first, rest)
    longer (inr (m, first)) = inr (m, ap (λ (b : ℕ). b ∷ xs) same ∙ ap (λ (l : List ℕ). z ∷ l) first)

abbrev pub Begins : List ℕ → List ℕ → Type 0
Begins line text = (more : List ℕ) × (text ≡ line ++ more)

-- a line that begins a part and what is told behind it begins that part
begins_marked : (form : Form) (front digits line rest behind : List ℕ) → IsUnplaced line → Cut (front ++ (marker form ++ digits)) behind line rest
    → Begins line (front ++ (marker form ++ digits))
begins_marked form front digits line rest behind is (inr begins) = begins
begins_marked form front digits line rest behind is (inl (m, first, behind_is)) =
    let text : line ≡ front ++ (marker form ++ (digits ++ m)) =
    first ∙ append_assoc front (marker form ++ digits) m ∙ ap (λ (l : List ℕ). front ++ l) (append_assoc (marker form) digits m) in
    absurd (marked_unclean form (digits ++ m) (clean_behind front (marker form ++ (digits ++ m)) (subst (λ (l : List ℕ). clean l ≡ true) text is.unmarked)))

-- a line that begins a front and what is told behind it for a source begins the front
begins_source : (front source line rest behind : List ℕ) → IsUnplaced line → is_source source ≡ true → front ++ (flat_map plain_byte source ++ behind) ≡ line ++ rest → Begins line front
begins_source front source line rest behind is named e = by (cut front (flat_map plain_byte source ++ behind) line rest e)
  where
    inside : (b : ℕ) (end : List ℕ) → line ≡ front ++ b ∷ end → Cut (flat_map plain_byte source) behind (b ∷ end) rest → ⊥
    inside b end first (inl (m, whole, behind_is)) = no_source_in line front source m is named (first ∙ ap (λ (l : List ℕ). front ++ l) whole)
    inside b end first (inr (m, part)) = no_end_in line front source end m b is first part

    by : Cut front (flat_map plain_byte source ++ behind) line rest → Begins line front
    by (inr begins) = begins
    by (inl ([], first, behind_is)) = ([], sym (append-nil front) ∙ sym first ∙ sym (append-nil line))
    by (inl (b ∷ end, first, behind_is)) = absurd (inside b end first (cut (flat_map plain_byte source) behind (b ∷ end) rest behind_is))

begins_more : (line front behind : List ℕ) → Begins line front → Begins line (front ++ behind)
begins_more line front behind (more, is) = (more ++ behind, ap (λ (l : List ℕ). l ++ behind) is ∙ append_assoc line more behind)

found_passes : (parts : List (List ℕ)) (source : List ℕ) → find is_source parts ≡ Some source → is_source source ≡ true
found_passes [] source is = absurd cc
found_passes (part ∷ parts) source is = by (is_source part) refl (found_passes parts source) is
  where
    by : (c : Bool) → is_source part ≡ c → (find is_source parts ≡ Some source → is_source source ≡ true) → cond c (Some part) (find is_source parts) ≡ Some source
        → is_source source ≡ true
    by true passes later same = subst (λ (l : List ℕ). is_source l ≡ true) (same_Some part source same) passes
    by false passes later more = later more

messages : (form : Form) → true ≡ is_in_place form → forms.Messages ≡ form
messages forms.Messages is = refl
messages forms.Brief is = absurd cc
messages forms.Whole is = absurd cc
messages forms.Graph is = absurd cc
messages forms.Chart is = absurd cc
messages forms.Picture is = absurd cc
messages forms.Page is = absurd cc
messages forms.Object is = absurd cc

-- so of a part that names a line, and what is told in its place
begins_named : (in_place : Bool) (form : Form) (map front digits named line rest behind : List ℕ) → in_place ≡ is_in_place form → IsUnplaced line → IsNamedIf in_place form map digits named
    → front ++ (named ++ behind) ≡ line ++ rest → Begins line (front ++ (marker form ++ digits))
begins_named false form map front digits named line rest behind same is (added, said, told) e =
    begins_marked form front digits line rest (added ++ behind) is
    (cut (front ++ (marker form ++ digits)) (added ++ behind) line rest (beside front (marker form) digits added behind ∙ ap (λ (l : List ℕ). front ++ (l ++ behind)) (sym told) ∙ e))
  where
    beside : (a b c d f : List ℕ) → (a ++ (b ++ c)) ++ (d ++ f) ≡ a ++ ((b ++ (c ++ d)) ++ f)
    beside a b c d f = simp append_assoc refl
begins_named true form map front digits named line rest behind same is said e = by said
  where
    at : (found : Option (List ℕ)) → ((source : List ℕ) → found ≡ Some source → is_source source ≡ true) → named ≡ source_text found digits
        → Begins line (front ++ (marker form ++ digits))
    at (Some source) passes told =
        begins_more line front (marker form ++ digits) (begins_source front source line rest behind is (passes source refl) (ap (λ (l : List ℕ). front ++ (l ++ behind)) (sym told) ∙ e))
    at None passes told =
        subst (λ (f : Form). Begins line (front ++ (marker f ++ digits))) (messages form same)
        (begins_marked forms.Messages front digits line rest behind is
        (cut (front ++ (marker forms.Messages ++ digits)) behind line rest (append_assoc front (marker forms.Messages ++ digits) behind ∙ ap (λ (l : List ℕ). front ++ (l ++ behind)) (sym told) ∙ e)))

    by : IsAtSource map digits named → Begins line (front ++ (marker form ++ digits))
    by (inl (words, has, told)) = at (source_of words) (found_passes (slice_split is_gap words)) told
    by (inr (none, told)) = at None (λ source never. absurd cc) told

-- a line that begins a text with places begins the text without them
pub woven_begins : (form : Form) (map : List ℕ) (pieces : List Piece) (tail line rest : List ℕ) → AreCut form map pieces tail → IsUnplaced line
    → told_of pieces ++ tail ≡ line ++ rest → Begins line (kept_of pieces ++ tail)
woven_begins form map [] tail line rest are is e = (rest, e)
woven_begins form map (piece ∷ pieces) tail line rest are is e =
    let placed = are.0 in
    let behind = told_of pieces ++ tail in
    let told : placed.front ++ (placed.named ++ behind) ≡ line ++ rest =
    sym (append_assoc placed.front placed.named behind) ∙ ap (λ (l : List ℕ). l ++ behind) (sym placed.told_is) ∙ sym (append_assoc piece.told (told_of pieces) tail) ∙ e in
    let (more, begins) = begins_named (is_in_place form) form map placed.front placed.digits placed.named line rest behind refl is placed.names told in
    let (all, whole) = begins_more line piece.kept (kept_of pieces ++ tail) (more, placed.ends ∙ begins) in
    (all, append_assoc piece.kept (kept_of pieces) tail ∙ whole)

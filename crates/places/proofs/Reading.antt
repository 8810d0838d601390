-- Line by line a map is read.
use Rattle.std.proofs.Common.{◌≡◌, ◌≢◌, ◌∙◌, ◌⊎◌, ◌+◌, ◌<◌, ◌≤◌, ℕ, zero, suc, Bool, true, false, List, [], ◌∷◌, ◌++◌, Option, Some, None, ap, inl, inr, refl, sym, subst, arith, append_assoc, codes, drop, get_or, length}
use Rattle.std.specs.Prelude.{slice_get, ◌↔◌}
use Rattle.std.specs.Bool.{IsTrue}
use Rattle.std.specs.List.{Contains}
use Rattle.std.proofs.lemmas.List.{append_cancel_left, append_cancel_right, length-append}
use Rattle.std.proofs.lemmas.List.Elements.{Contains-append_cases, Contains-append_left, Contains-append_right}
use Rattle.std.proofs.lemmas.Option.{slice_get_within}
use Rattle.plaintext.specs.Plain.{numeral, text_lines}
use Rattle.plaintext.proofs.Cuts.{no_line_of}
use Rattle.plaintext.proofs.Numerals.{numeral_injective}
use Rattle.places.specs.Maps.{AreOf, CanAllStand, HasLineOf, IsLineOf, IsMapFault, IsMapOf, IsRemark, MayStand, entry_line}
use Rattle.places.specs.parts.Noting.{HasNoPlace, IsLeft, IsTakenLine, IsTakenIf, Notes}
use Rattle.places.specs.declared.entries.MapEntry.{MapEntry}
use Rattle.places.specs.declared.map.MapFault.TheVariants as faults
use Rattle.places.proofs.Digits.{no_digit, same_digits}
use Rattle.places.proofs.Faults.{Stand, false_true, go_on, later_faulty, name_line, split_more, stand_more, stand_none, title}

-- a line says one thing of one line
pub one_line_of : (line d w e v : List ℕ) → IsLineOf line d w → IsLineOf line e v → (d ≡ e) × (w ≡ v)
one_line_of line d w e v (r, are, ranks, is) (s, others, more, also) =
    let front = λ (q x : List ℕ). codes ": rank " ++ (q ++ (codes ", " ++ x)) in
    let cut = same_digits d e (front r w) (front s v) are others (no_digit 58 (drop 1 (front r w)) (λ h. omega (arith, h.1))) (no_digit 58 (drop 1 (front s v)) (λ h. omega (arith, h.1)))
    (append_cancel_left (codes "line ") (d ++ front r w) (e ++ front s v) (sym is ∙ also)) in
    let next = same_digits r s (codes ", " ++ w) (codes ", " ++ v) ranks more (no_digit 44 (codes " " ++ w) (λ h. omega (arith, h.0))) (no_digit 44 (codes " " ++ v) (λ h. omega (arith, h.0)))
    (append_cancel_left (codes ": rank ") (r ++ (codes ", " ++ w)) (s ++ (codes ", " ++ v)) cut.1) in
    (cut.0, append_cancel_left (codes ", ") w v next.1)

first_byte : (line more : List ℕ) (b : ℕ) → line ≡ b ∷ more → get_or line 0 0 ≡ b
first_byte line more b is = ap (λ (l : List ℕ). get_or l 0 0) is

other_front : (line d w more : List ℕ) (b : ℕ) → IsLineOf line d w → line ≡ b ∷ more → 108 ≢ b → ⊥
other_front line d w more b of is other =
    other (sym (first_byte line (drop 1 (entry_line d of.0 w)) 108 of.3) ∙ first_byte line more b is)

pub no_remark : (line d w : List ℕ) → IsLineOf line d w → IsRemark line → ⊥
no_remark line d w of (inl r) = other_front line d w (codes "ext " ++ r.0) 116 of r.1 (λ e. omega (arith, e))
no_remark line d w of (inr (inl r)) = other_front line d w (codes "ote: " ++ r.0) 110 of r.1 (λ e. omega (arith, e))
no_remark line d w of (inr (inr (inl r))) = other_front line d w (codes "ile " ++ r.0) 102 of r.1 (λ e. omega (arith, e))
no_remark line d w of (inr (inr (inr (inl r)))) = other_front line d w (codes "omm " ++ r.0) 99 of r.1 (λ e. omega (arith, e))
no_remark line d w of (inr (inr (inr (inr (inl r))))) = other_front line d w (codes "ag " ++ r.0) 116 of r.1 (λ e. omega (arith, e))
no_remark line d w of (inr (inr (inr (inr (inr r))))) = other_front line d w (codes "nd") 101 of r (λ e. omega (arith, e))

pub taken_entry : (b : Bool) (old new : List (Option MapEntry)) (line : List ℕ) (entry : MapEntry) → IsLineOf line entry.number.now entry.words.now
    → (b ≡ true → Notes old new entry) → (b ≡ false → HasNoPlace old entry.number.now) → IsTakenIf b old new line
taken_entry true old new line entry of noted none = inl (entry, of, noted refl)
taken_entry false old new line entry of noted none = (
  λ remark. no_remark line entry.number.now entry.words.now of remark,
  λ digits words other. subst (λ (d : List ℕ). HasNoPlace old d) (one_line_of line entry.number.now entry.words.now digits words of other).0 (none refl),
)

pub taken_remark : (b : Bool) (old new : List (Option MapEntry)) (line : List ℕ) → new ≡ old → ((digits words : List ℕ) → IsLineOf line digits words → ⊥)
    → IsTrue b ↔ IsRemark line → IsTakenIf b old new line
taken_remark true old new line same none is = inr (is.0 refl, none, same)
taken_remark false old new line same none is = (λ remark. false_true (is.1 remark), λ digits words of. absurd (none digits words of))

-- ---- one more line

-- nothing stands in a list with one element but that
alone : (x y : List ℕ) → Contains (x ∷ []) y → y ≡ x
alone x y (k, within, is) =
    let zero_is : k ≡ 0 = omega (arith, within) in
    sym is ∙ ap (λ (n : ℕ). get_or (x ∷ []) n y) zero_is

-- an entry among lines with one more is one among them, or that one
pub among_more : (seen : List (List ℕ)) (line d w : List ℕ) → HasLineOf (seen ++ (line ++ 10 ∷ []) ∷ []) d w → HasLineOf seen d w ⊎ IsLineOf line d w
among_more seen line d w (other, there, of) = elim (Contains-append_cases seen ((line ++ 10 ∷ []) ∷ []) (other ++ 10 ∷ []) there) [
  | inl before ↦ inl (other, before, of)
  | inr last ↦ inr (subst (λ (l : List ℕ). IsLineOf l d w) (append_cancel_right other line (10 ∷ []) (alone (line ++ 10 ∷ []) (other ++ 10 ∷ []) last)) of)
]

among_before : (seen more : List (List ℕ)) (d w : List ℕ) → HasLineOf seen d w → HasLineOf (seen ++ more) d w
among_before seen more d w (line, there, of) = (line, Contains-append_left seen more (line ++ 10 ∷ []) there, of)

among_last : (seen : List (List ℕ)) (line d w : List ℕ) → IsLineOf line d w → HasLineOf (seen ++ (line ++ 10 ∷ []) ∷ []) d w
among_last seen line d w of = (line, Contains-append_right seen ((line ++ 10 ∷ []) ∷ []) (line ++ 10 ∷ []) (0, omega arith, refl), of)

-- the place of an entry is not one that is free
not_free : (entries : List (Option MapEntry)) (n m : ℕ) (entry : MapEntry) → slice_get entries n ≡ Some None → slice_get entries m ≡ Some (Some entry) → m ≡ n → ⊥
not_free entries n m entry free there same =
    let e : Some None ≡ Some (Some entry) = sym free ∙ sym (ap (λ (k : ℕ). slice_get entries k) same) ∙ there in
    cc

pub of_remark : (seen : List (List ℕ)) (line : List ℕ) (old new : List (Option MapEntry)) → AreOf seen old → new ≡ old → ((digits words : List ℕ) → IsLineOf line digits words → ⊥)
    → AreOf (seen ++ (line ++ 10 ∷ []) ∷ []) new
of_remark seen line old new are same none = subst (λ (l : List (Option MapEntry)). AreOf (seen ++ (line ++ 10 ∷ []) ∷ []) l) (sym same) (record {
  said = λ n entry there.
      let (has, number) = are.said n entry there in
      (among_before seen ((line ++ 10 ∷ []) ∷ []) entry.number.now entry.words.now has, number);
  all = λ d w has. elim (among_more seen line d w has) [
    | inl before ↦ are.all d w before
    | inr of ↦ absurd (none d w of)
  ];
})

pub of_entry : (seen : List (List ℕ)) (line : List ℕ) (old new : List (Option MapEntry)) (entry : MapEntry) → AreOf seen old → IsLineOf line entry.number.now entry.words.now → Notes old new entry
    → ((m n : ℕ) → (m ≡ n) ⊎ (m ≢ n)) → AreOf (seen ++ (line ++ 10 ∷ []) ∷ []) new
of_entry seen line old new entry are of notes same_or = record {
  said = λ m found there. elim (same_or m notes.n) [
    | inl same ↦ the_one m found there same
    | inr other ↦ (
        let (has, number) = are.said m found (sym (notes.others m other) ∙ there) in
        (among_before seen ((line ++ 10 ∷ []) ∷ []) found.number.now found.words.now has, number)
        )
  ];
  all = λ d w has. elim (among_more seen line d w has) [
    | inl before ↦ (
        let (m, found, there, small, number, words) = are.all d w before in
        (m, found, notes.others m (not_free old notes.n m found notes.free there) ∙ there, small, number, words)
        )
    | inr now ↦ (
        let same = one_line_of line entry.number.now entry.words.now d w of now in
        (notes.n, entry, notes.noted, notes.small, same.0, same.1)
        )
  ];
}
  where
    the_one : (m : ℕ) (found : MapEntry) → slice_get new m ≡ Some (Some found) → m ≡ notes.n
        → HasLineOf (seen ++ (line ++ 10 ∷ []) ∷ []) found.number.now found.words.now × (numeral m ≡ found.number.now)
    the_one m found there same =
        let both : Some (Some found) ≡ Some (Some entry) = sym there ∙ ap (λ (k : ℕ). slice_get new k) same ∙ notes.noted in
        let is : entry ≡ found = cc in
        subst (λ (e : MapEntry). HasLineOf (seen ++ (line ++ 10 ∷ []) ∷ []) e.number.now e.words.now × (numeral m ≡ e.number.now)) is
        (among_last seen line entry.number.now entry.words.now of, ap numeral same ∙ notes.number_is)

-- ---- whether a line may stand

pub may_remark : (text : List ℕ) (seen : List (List ℕ)) (line : List ℕ) → IsRemark line → MayStand text (title ∷ name_line text ∷ seen) (line ++ 10 ∷ [])
may_remark text seen line remark = inr (line, refl, inl remark)

pub may_entry : (text : List ℕ) (seen : List (List ℕ)) (line : List ℕ) (old new : List (Option MapEntry)) (entry : MapEntry) → AreOf seen old → IsLineOf line entry.number.now entry.words.now
    → Notes old new entry → length old ≡ length (text_lines text) → MayStand text (title ∷ name_line text ∷ seen) (line ++ 10 ∷ [])
may_entry text seen line old new entry are of notes long = inr (
  line,
  refl,
  inr (record {
    n = notes.n;
    words = entry.words.now;
    says = subst (λ (d : List ℕ). IsLineOf line d entry.words.now) (sym notes.number_is) of;
    some = notes.some;
    within = omega (arith, slice_get_within old notes.n None notes.free, long);
    small = notes.small;
    first = λ others has.
        let (m, found, there, small, number, words) = are.all (numeral notes.n) others has in
        let at = are.said m found there in
        not_free old notes.n m found notes.free there (numeral_injective m notes.n (at.1 ∙ number));
  }),
)

pub may_not : (text : List ℕ) (seen : List (List ℕ)) (line : List ℕ) (old : List (Option MapEntry)) → AreOf seen old → length old ≡ length (text_lines text) → IsLeft old line
    → MayStand text (title ∷ name_line text ∷ seen) (line ++ 10 ∷ []) → ⊥
may_not text seen line old are long left (inl end) = omega (arith, ap (λ (l : List ℕ). length l) end.0, some_byte line)
  where
    some_byte : (l : List ℕ) → 0 < length (l ++ 10 ∷ [])
    some_byte [] = omega arith
    some_byte (b ∷ l) = omega arith
may_not text seen line old are long left (inr (words, is, inl remark)) =
    left.0 (subst (λ (l : List ℕ). IsRemark l) (sym (append_cancel_right line words (10 ∷ []) is)) remark)
may_not text seen line old are long left (inr (words, is, inr new)) =
    let of : IsLineOf line (numeral new.n) new.words = subst (λ (l : List ℕ). IsLineOf l (numeral new.n) new.words) (sym (append_cancel_right line words (10 ∷ []) is)) new.says in
    let (found, there) = left.1 (numeral new.n) new.words of new.n refl new.some new.small (omega (arith, new.within, long)) in
    let (has, number) = are.said new.n found there in
    new.first found.words.now (subst (λ (d : List ℕ). HasLineOf seen d found.words.now) (sym number) has)

-- ---- all of it

pub same_or : (m n : ℕ) → (m ≡ n) ⊎ (m ≢ n)
same_or zero zero = inl refl
same_or zero (suc n) = inr (λ e. omega (arith, e))
same_or (suc m) zero = inr (λ e. omega (arith, e))
same_or (suc m) (suc n) = elim (same_or m n) [
  | inl same ↦ inl (ap (λ (k : ℕ). suc k) same)
  | inr other ↦ inr (λ e. other (omega (arith, e)))
]

pub of_none : (entries : List (Option MapEntry)) → ((n : ℕ) (entry : MapEntry) → slice_get entries n ≡ Some (Some entry) → ⊥) → AreOf [] entries
of_none entries none = record { said = λ n entry there. absurd (none n entry there); all = λ d w (line, there, of). absurd (omega (arith, there.1)) }

-- the line that was read last
abbrev pub LastIs : List (List ℕ) → List ℕ → Type 0
LastIs seen last = ((seen ≡ []) × (last ≡ [])) ⊎ ((front : List (List ℕ)) × (seen ≡ front ++ (last ++ 10 ∷ []) ∷ []))

-- what is known of a map that was read to here
pub record Read (text map rest last : List ℕ) (number : ℕ) (entries : List (Option MapEntry)) : Type 0 where
  pub seen : List (List ℕ)
  pub lines : text_lines map ≡ title ∷ name_line text ∷ (seen ++ text_lines rest)
  pub counts : number ≡ length seen + 2
  pub room : number + length rest ≤ length map
  pub stand : Stand text seen
  pub last_is : LastIs seen last
  pub are : AreOf seen entries
  pub long : length entries ≡ length (text_lines text)

pub read_none : (text map rest : List ℕ) (entries : List (Option MapEntry)) → text_lines map ≡ title ∷ name_line text ∷ text_lines rest → length rest + 2 ≤ length map
    → ((n : ℕ) (entry : MapEntry) → slice_get entries n ≡ Some (Some entry) → ⊥) → length entries ≡ length (text_lines text) → Read text map rest [] 2 entries
read_none text map rest entries lines room none long = record {
  seen = [];
  lines = lines;
  counts = refl;
  room = omega (arith, room);
  stand = stand_none text;
  last_is = inl (refl, refl);
  are = of_none entries none;
  long = long;
}

taken_may : (text : List ℕ) (seen : List (List ℕ)) (line : List ℕ) (old new : List (Option MapEntry)) → AreOf seen old → length old ≡ length (text_lines text) → IsTakenLine old new line
    → MayStand text (title ∷ name_line text ∷ seen) (line ++ 10 ∷ []) × AreOf (seen ++ (line ++ 10 ∷ []) ∷ []) new × (length new ≡ length old)
taken_may text seen line old new are long (inl (entry, of, notes)) =
    (may_entry text seen line old new entry are of notes long, of_entry seen line old new entry are of notes same_or, notes.as_long)
taken_may text seen line old new are long (inr (remark, none, same)) =
    (may_remark text seen line remark, of_remark seen line old new are same none, ap (λ (l : List (Option MapEntry)). length l) same)

pub read_more : (text map rest last line behind : List ℕ) (number : ℕ) (old new : List (Option MapEntry)) → Read text map rest last number old
    → text_lines rest ≡ (line ++ 10 ∷ []) ∷ text_lines behind → length behind < length rest → IsTakenLine old new line → Read text map behind line (number + 1) new
read_more text map rest last line behind number old new r next shorter taken =
    let (may, are, long) = taken_may text r.seen line old new r.are r.long taken in
    record {
      seen = r.seen ++ (line ++ 10 ∷ []) ∷ [];
      lines = r.lines ∙ ap (λ (l : List (List ℕ)). title ∷ name_line text ∷ l)
          (ap (λ (l : List (List ℕ)). r.seen ++ l) next ∙ sym (append_assoc r.seen ((line ++ 10 ∷ []) ∷ []) (text_lines behind)));
      counts = omega (arith, r.counts, length-append r.seen ((line ++ 10 ∷ []) ∷ []));
      room = omega (arith, r.room, shorter);
      stand = stand_more text r.seen (line ++ 10 ∷ []) r.stand may;
      last_is = inr (r.seen, refl);
      are = are;
      long = long ∙ r.long;
    }

pub left_faulty : (text map rest last line behind : List ℕ) (number : ℕ) (old : List (Option MapEntry)) → Read text map rest last number old
    → text_lines rest ≡ (line ++ 10 ∷ []) ∷ text_lines behind → IsLeft old line → IsMapFault text map (faults.Line (number + 1))
left_faulty text map rest last line behind number old r next left = (
  line ++ 10 ∷ [],
  later_faulty text map (number + 1) r.seen (line ++ 10 ∷ []) (text_lines behind)
      (r.lines ∙ ap (λ (l : List (List ℕ)). title ∷ name_line text ∷ (r.seen ++ l)) next)
      (omega (arith, r.counts)) r.stand (may_not text r.seen line old r.are r.long left),
  λ e. omega (arith, e, r.counts),
)

-- the last of some lines is one alone
last_one : (xs ys : List (List ℕ)) (a b : List ℕ) → xs ++ a ∷ [] ≡ ys ++ b ∷ [] → a ≡ b
last_one xs ys a b is = elim (split_more xs a ys b [] is) [
  | inl at ↦ at.1
  | inr at ↦ absurd (too_long xs ys a b at.0 at.1 is)
]
  where
    too_long : (xs ys : List (List ℕ)) (a b : List ℕ) (more : List (List ℕ)) → xs ≡ ys ++ b ∷ more → xs ++ a ∷ [] ≡ ys ++ b ∷ [] → ⊥
    too_long xs ys a b more is all =
        omega (arith, ap (λ (l : List (List ℕ)). length l) is, ap (λ (l : List (List ℕ)). length l) all, length-append xs (a ∷ []), length-append ys (b ∷ []), length-append ys (b ∷ more))

no_end : (text : List ℕ) (seen : List (List ℕ)) (rest last : List ℕ) → LastIs seen last → text_lines rest ≡ rest ∷ [] → (last ≡ codes "end" → rest ≡ [] → ⊥)
    → MayStand text (title ∷ name_line text ∷ seen) rest → ⊥
no_end text seen rest last (inl at) one other (inl (none, ends)) = no_push ends.0 (sym ends.1 ∙ at.0)
  where
    no_push : (front : List (List ℕ)) → front ++ (codes "end" ++ 10 ∷ []) ∷ [] ≡ [] → ⊥
    no_push [] e = cc
    no_push (x ∷ front) e = cc
no_end text seen rest last (inr at) one other (inl (none, ends)) =
    other (append_cancel_right last (codes "end") (10 ∷ []) (last_one at.0 ends.0 (last ++ 10 ∷ []) (codes "end" ++ 10 ∷ []) (sym at.1 ∙ ends.1))) none
no_end text seen rest last is one other (inr (words, ends, either)) = no_line_of rest (words ∷ []) one (sym ends)

pub end_faulty : (text map rest last : List ℕ) (number : ℕ) (entries : List (Option MapEntry)) → Read text map rest last number entries
    → text_lines rest ≡ rest ∷ [] → (last ≡ codes "end" → rest ≡ [] → ⊥) → IsMapFault text map (faults.Line (number + 1))
end_faulty text map rest last number entries r one other = (
  rest,
  later_faulty text map (number + 1) r.seen rest [] (r.lines ∙ ap (λ (l : List (List ℕ)). title ∷ name_line text ∷ (r.seen ++ l)) one)
      (omega (arith, r.counts)) r.stand (no_end text r.seen rest last r.last_is one other),
  λ e. omega (arith, e, r.counts),
)

of_end : (seen : List (List ℕ)) (entries : List (Option MapEntry)) → AreOf seen entries → AreOf (seen ++ [] ∷ []) entries
of_end seen entries are = record {
  said = λ n entry there.
      let (has, number) = are.said n entry there in
      (among_before seen ([] ∷ []) entry.number.now entry.words.now has, number);
  all = λ d w (line, there, of). elim (Contains-append_cases seen ([] ∷ []) (line ++ 10 ∷ []) there) [
    | inl before ↦ are.all d w (line, before, of)
    | inr last ↦ absurd (no_byte line (alone [] (line ++ 10 ∷ []) last))
  ];
}
  where
    no_byte : (line : List ℕ) → line ++ 10 ∷ [] ≡ [] → ⊥
    no_byte [] e = cc
    no_byte (b ∷ line) e = cc

pub read_whole : (text map rest last : List ℕ) (number : ℕ) (entries : List (Option MapEntry)) → Read text map rest last number entries
    → text_lines rest ≡ rest ∷ [] → last ≡ codes "end" → rest ≡ [] → IsMapOf text map × AreOf (drop 2 (text_lines map)) entries
read_whole text map rest last number entries r one end none = (
  subst (λ (l : List (List ℕ)). CanAllStand text l) (sym lines) (go_on text (r.seen ++ [] ∷ []) (stand_more text r.seen [] r.stand (inl (refl, ends r.last_is)))),
  subst (λ (l : List (List ℕ)). AreOf (drop 2 l) entries) (sym lines) (of_end r.seen entries r.are),
)
  where
    lines : text_lines map ≡ title ∷ name_line text ∷ (r.seen ++ [] ∷ [])
    lines = r.lines ∙ ap (λ (l : List (List ℕ)). title ∷ name_line text ∷ (r.seen ++ l)) (one ∙ ap (λ (l : List ℕ). l ∷ []) none)

    ends : LastIs r.seen last → (front : List (List ℕ)) × (r.seen ≡ front ++ (codes "end" ++ 10 ∷ []) ∷ [])
    ends (inl at) = absurd (no_last last (sym at.1 ∙ end))
      where
        no_last : (l : List ℕ) → [] ≡ codes "end" → ⊥
        no_last l e = cc
    ends (inr at) = (at.0, at.1 ∙ ap (λ (l : List ℕ). at.0 ++ (l ++ 10 ∷ []) ∷ []) end)

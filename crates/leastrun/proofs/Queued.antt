-- Rows that grow at their ends, and rows that lose a front.
use Rattle.std.proofs.Common.{◌≡◌, ℕ, ◌+◌, ◌≤◌, ◌⊎◌, inl, inr, true, false, ◌==◌, List, [], ◌∷◌, ◌++◌, length, slice_get, Option, Some, refl, sym, ◌∙◌, ap, subst, arith}
use Rattle.std.specs.Option.{option_to_list}
use Rattle.std.proofs.lemmas.Bool.{eqb-true}
use Rattle.callorder.proofs.Lookups.{slice_get_of_append}
use Rattle.semantics.specs.Machine.{Configuration, is_matched}
use Rattle.races.proofs.Steps.{is_or_not}
use Rattle.leastrun.specs.declared.rows.SlotRows.{SlotRows}
use Rattle.leastrun.specs.parts.Queues.{row, StandsIn, IsAdded, IsGrown, IsSkipped, IsPassed}
use Rattle.leastrun.proofs.Entries.{get_front, get_behind, get_end, only_one, no_shorter}

-- ---- a call is added

row_added : (old new : SlotRows) (slot c q : ℕ) → IsAdded old new slot c → (row new q ≡ row old q ++ c ∷ []) ⊎ (row new q ≡ row old q)
row_added old new slot c q added =
    elim (is_or_not (slot == q)) [
      | inl same ↦ inl (subst (λ (z : ℕ). row new z ≡ row old z ++ c ∷ []) (eqb-true slot q same) added.here)
      | inr differ ↦ inr (added.elsewhere q differ)
    ]

added_stays : (old new : SlotRows) (slot c : ℕ) → IsAdded old new slot c → (q i e : ℕ) → slice_get (row old q) i ≡ Some e → slice_get (row new q) i ≡ Some e
added_stays old new slot c added q i e there =
    elim (row_added old new slot c q added) [
      | inl more ↦ subst (λ (z : List ℕ). slice_get z i ≡ Some e) (sym more) (get_front (row old q) (c ∷ []) i e there)
      | inr same ↦ subst (λ (z : List ℕ). slice_get z i ≡ Some e) (sym same) there
    ]

added_more : (old new : SlotRows) (slot c : ℕ) → IsAdded old new slot c → (q i e : ℕ) → slice_get (row new q) i ≡ Some e → (slice_get (row old q) i ≡ Some e) ⊎ ((length (row old q) ≤ i) × (e ≡ c))
added_more old new slot c added q i e there =
    elim (row_added old new slot c q added) [
      | inl more ↦ elim (slice_get_of_append (row old q) (c ∷ []) i e (subst (λ (z : List ℕ). slice_get z i ≡ Some e) more there)) [
        | inl front ↦ inl front.0
        | inr back ↦ let last = only_one c e back.0 back.2 in inr (omega (arith, back.1), last.1)
      ]
      | inr same ↦ inl (subst (λ (z : List ℕ). slice_get z i ≡ Some e) same there)
    ]

pub added_here : (old new : SlotRows) (slot c : ℕ) → IsAdded old new slot c → StandsIn new slot c
added_here old new slot c added =
    (length (row old slot), subst (λ (z : List ℕ). slice_get z (length (row old slot)) ≡ Some c) (sym added.here) (get_end (row old slot) c))

pub added_there : (old new : SlotRows) (slot c q d : ℕ) → IsAdded old new slot c → StandsIn old q d → StandsIn new q d
added_there old new slot c q d added stands = (stands.0, added_stays old new slot c added q stands.0 d stands.1)

pub grown_same : (rows : SlotRows) (c : ℕ) → IsGrown rows rows c
grown_same rows c = record { stays = λ q i e there. there; more = λ q i e there. inl there }

pub grown_more : (old rows new : SlotRows) (slot c : ℕ) → IsGrown old rows c → IsAdded rows new slot c → IsGrown old new c
grown_more old rows new slot c grown added =
    record {
      stays = λ q i e there. added_stays rows new slot c added q i e (grown.stays q i e there);
      more = λ q i e there. elim (added_more rows new slot c added q i e there) [
        | inl before ↦ grown.more q i e before
        | inr last ↦ let size = no_shorter (row old q) (row rows q) (grown.stays q) in inr (omega (arith, size, last.0), last.1)
      ];
    }

pub grown_there : (old new : SlotRows) (c q d : ℕ) → IsGrown old new c → StandsIn old q d → StandsIn new q d
grown_there old new c q d grown stands = (stands.0, grown.stays q stands.0 d stands.1)

-- ---- a front is passed

pub skipped_none : (m : Configuration) (row : List ℕ) → IsSkipped m row row
skipped_none m row = ([], refl, λ i e there. absurd (cc))

snoc : (xs : List ℕ) (x : ℕ) (ys : List ℕ) → xs ++ x ∷ ys ≡ (xs ++ x ∷ []) ++ ys
snoc [] x ys = refl
snoc (z ∷ xs) x ys = ap (λ (l : List ℕ). z ∷ l) (snoc xs x ys)

pub skipped_more : (m : Configuration) (old row new : List ℕ) (x : ℕ) → IsSkipped m old row → row ≡ x ∷ new → is_matched m x ≡ true → IsSkipped m old new
skipped_more m old row new x skipped first matched = (
  skipped.0 ++ x ∷ [],
  skipped.1 ∙ ap (λ (l : List ℕ). skipped.0 ++ l) first ∙ snoc skipped.0 x new,
  λ i e there. elim (slice_get_of_append skipped.0 (x ∷ []) i e there) [
    | inl front ↦ skipped.2 i e front.0
    | inr back ↦ subst (λ (z : ℕ). is_matched m z ≡ true) (sym (only_one x e back.0 back.2).1) matched
  ],
)

pub passed_same : (m : Configuration) (rows : SlotRows) → IsPassed m rows rows
passed_same m rows = record { stays = λ q c free stands. stands; behind = λ q. (0, λ i e there. let same : 0 + i ≡ i = omega arith in subst (λ (z : ℕ). slice_get (row rows q) z ≡ Some e) (sym same) there) }

pub passed_more : (m : Configuration) (old rows new : SlotRows) → IsPassed m old rows → IsPassed m rows new → IsPassed m old new
passed_more m old rows new first second =
    record {
      stays = λ q c free stands. second.stays q c free (first.stays q c free stands);
      behind = λ q.
          let one = first.behind q in
          let two = second.behind q in (
            one.0 + two.0,
            λ i e there.
                let same : one.0 + (two.0 + i) ≡ one.0 + two.0 + i = omega arith in
                subst (λ (z : ℕ). slice_get (row old q) z ≡ Some e) same (one.1 (two.0 + i) e (two.1 i e there)),
          );
    }

skipped_stays : (m : Configuration) (old new : List ℕ) (c : ℕ) → IsSkipped m old new → is_matched m c ≡ false → (i : ℕ) × (slice_get old i ≡ Some c) → (i : ℕ) × (slice_get new i ≡ Some c)
skipped_stays m old new c skipped free stands =
    elim (slice_get_of_append skipped.0 new stands.0 c (subst (λ (z : List ℕ). slice_get z stands.0 ≡ Some c) skipped.1 stands.1)) [
      | inl front ↦ let taken : is_matched m c ≡ true = skipped.2 stands.0 c front.0 in absurd (cc)
      | inr back ↦ (back.0, back.2)
    ]

skipped_behind : (m : Configuration) (old new : List ℕ) → IsSkipped m old new → (n : ℕ) × ((i e : ℕ) → slice_get new i ≡ Some e → slice_get old (n + i) ≡ Some e)
skipped_behind m old new skipped = (
  length skipped.0,
  λ i e there. subst (λ (z : List ℕ). slice_get z (length skipped.0 + i) ≡ Some e) (sym skipped.1) (get_behind skipped.0 new i e there),
)

passed_made : (m : Configuration) (old new : SlotRows) (slot : ℕ) → IsSkipped m (row old slot) (row new slot) → ((q : ℕ) → (slot == q) ≡ false → row new q ≡ row old q) → IsPassed m old new
passed_made m old new slot skipped elsewhere =
    record {
      stays = λ q c free stands. skipped_stays m (row old q) (row new q) c (each q) free stands;
      behind = λ q. skipped_behind m (row old q) (row new q) (each q);
    }
  where
    each : (q : ℕ) → IsSkipped m (row old q) (row new q)
    each q =
        elim (is_or_not (slot == q)) [
          | inl same ↦ subst (λ (z : ℕ). IsSkipped m (row old z) (row new z)) (eqb-true slot q same) skipped
          | inr differ ↦ subst (λ (z : List ℕ). IsSkipped m (row old q) z) (sym (elsewhere q differ)) (skipped_none m (row old q))
        ]

pub passed_at : (m : Configuration) (old new : SlotRows) (slot : ℕ) (was now : List ℕ) → row old slot ≡ was → row new slot ≡ now → IsSkipped m was now → ((q : ℕ) → (slot == q) ≡ false → row new q ≡ row old q) → IsPassed m old new
passed_at m old new slot was now before after skipped elsewhere =
    passed_made m old new slot (subst (λ (z : List ℕ). IsSkipped m z (row new slot)) (sym before) (subst (λ (z : List ℕ). IsSkipped m was z) (sym after) skipped)) elsewhere

-- what stands first and is taken off
pub first_of : (old new : List ℕ) (taken : Option ℕ) (x : ℕ) → slice_get old 0 ≡ Some x → old ≡ option_to_list taken ++ new → taken ≡ slice_get old 0 → old ≡ x ∷ new
first_of old new taken x front parts is =
    parts ∙ ap (λ (o : Option ℕ). option_to_list o ++ new) (is ∙ front)

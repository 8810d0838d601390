-- Names that get numbers one after another: each stands among the keys at its number, and no two
-- keys are equal.
use Rattle.std.proofs.Common.{◌≡◌, ◌⊎◌, ℕ, zero, suc, ◌+◌, ◌<◌, ◌≤◌, Bool, true, false, cond, ◌||◌, List, [], ◌∷◌, ◌++◌, Option, None, Some, length, get_or, slice_get, refl, sym, ap, subst, ◌∙◌, arith, inl, inr}
use Rattle.std.specs.Cmp.{IsEquivalence}
use Rattle.std.specs.List.{IsDistinct, list_any}
use Rattle.std.proofs.lemmas.Bool.{cases_eq, cases_lt}
use Rattle.std.proofs.lemmas.List.{length-append}
use Rattle.std.proofs.lemmas.Map.Keys.{apart_from_distinct}
use Rattle.std.proofs.lemmas.Option.{slice_get_within, slice_get-get_or, get_or_from_slice_get, same_Some}
use Rattle.indexmap.specs.IndexSet.{insert_key}
use Rattle.interning.specs.Places.{IsNumbering}

-- the number is where a key equal to the name stands; no name has no number
abbrev pub IsNumbered : {K : Type 0} → (K → K → Bool) → List K → Option K → Option ℕ → Type 0
IsNumbered eq keys None number = number ≡ None
IsNumbered {K} eq keys (Some name) number = (n : ℕ) × (number ≡ Some n) × (key : K) × (slice_get keys n ≡ Some key) × (eq name key ≡ true)

-- the keys and the numbers after these names
pub record AreNumbered {K : Type 0} (eq : K → K → Bool) (keys : List K) (names : List (Option K)) (numbers : List (Option ℕ)) : Type 0 where
  pub size : length numbers ≡ length names
  pub few : length keys ≤ length names
  pub distinct : IsDistinct eq keys
  pub each : (place : ℕ) (name : Option K) → slice_get names place ≡ Some name → (number : Option ℕ) × (slice_get numbers place ≡ Some number) × IsNumbered eq keys name number
  pub used : (n : ℕ) → n < length keys → (place : ℕ) × (slice_get numbers place ≡ Some (Some n))
  pub in_order : (place number smaller : ℕ) → slice_get numbers place ≡ Some (Some number) → smaller < number → (earlier : ℕ) × (earlier < place) × (slice_get numbers earlier ≡ Some (Some smaller))

-- before the first name
pub AreNumbered-start : {K : Type 0} (eq : K → K → Bool) (keys : List K) (numbers : List (Option ℕ)) → keys ≡ [] → numbers ≡ [] → IsDistinct eq keys → AreNumbered eq keys [] numbers
AreNumbered-start eq keys numbers no_keys no_numbers distinct = record {
  size = ap length no_numbers;
  few = omega (arith, ap length no_keys);
  distinct = distinct;
  each = λ place name there. absurd (cc);
  used = λ n below. absurd (omega (arith, ap length no_keys));
  in_order = λ place number smaller there below. absurd (cc);
}

-- what stands in a list with one more at the end
pub in_pushed : {X : Type 0} (xs : List X) (x y : X) (place : ℕ) → slice_get (xs ++ x ∷ []) place ≡ Some y → (slice_get xs place ≡ Some y) ⊎ ((place ≡ length xs) × (y ≡ x))
in_pushed [] x y zero there = inr (refl, sym (same_Some x y there))
in_pushed [] x y (suc place) there = absurd (cc)
in_pushed (z ∷ xs) x y zero there = inl there
in_pushed (z ∷ xs) x y (suc place) there =
    elim (in_pushed xs x y place there) [
      | inl front ↦ inl front
      | inr last ↦ inr (ap suc last.0, last.1)
    ]

pub pushed_front : {X : Type 0} (xs : List X) (x y : X) (place : ℕ) → slice_get xs place ≡ Some y → slice_get (xs ++ x ∷ []) place ≡ Some y
pushed_front [] x y place there = absurd (cc)
pushed_front (z ∷ xs) x y zero there = there
pushed_front (z ∷ xs) x y (suc place) there = pushed_front xs x y place there

pub pushed_last : {X : Type 0} (xs : List X) (x : X) (place : ℕ) → place ≡ length xs → slice_get (xs ++ x ∷ []) place ≡ Some x
pushed_last [] x zero here = refl
pushed_last [] x (suc place) here = absurd (omega arith)
pushed_last (z ∷ xs) x zero here = absurd (omega arith)
pushed_last (z ∷ xs) x (suc place) here = pushed_last xs x place (omega arith)

-- one more name and its number, where the keys that stand stay where they stand
pub AreNumbered-push : {K : Type 0} (eq : K → K → Bool) (keys more : List K) (names : List (Option K)) (numbers : List (Option ℕ)) (name : Option K) (number : Option ℕ)
    → ((n : ℕ) (key : K) → slice_get keys n ≡ Some key → slice_get more n ≡ Some key) → length more ≤ length keys + 1 → IsDistinct eq more → IsNumbered eq more name number
    → ((n : ℕ) → length keys ≤ n → n < length more → number ≡ Some n)
    → AreNumbered eq keys names numbers → AreNumbered eq more (names ++ name ∷ []) (numbers ++ number ∷ [])
AreNumbered-push {K} eq keys more names numbers name number stay few distinct here new_used so_far = record {
  size = omega (arith, so_far.size, length-append names (name ∷ []), length-append numbers (number ∷ []));
  few = omega (arith, so_far.few, length-append names (name ∷ []));
  distinct = distinct;
  each = λ place one there. elim (in_pushed names name one place there) [
    | inl front ↦
        let old = so_far.each place one front in
        (old.0, pushed_front numbers number old.0 place old.1, still eq keys more stay one old.0 old.2)
    | inr last ↦ (number, pushed_last numbers number place (last.0 ∙ sym so_far.size), subst (λ (o : Option K). IsNumbered eq more o number) (sym last.1) here)
  ];
  used = λ n below. elim (cases_lt n (length keys)) [
    | inl old ↦ let u = so_far.used n old in (u.0, pushed_front numbers number (Some n) u.0 u.1)
    | inr new ↦ (length numbers, pushed_last numbers number (length numbers) refl ∙ ap (λ (o : Option ℕ). Some o) (new_used n new below))
  ];
  in_order = λ place at smaller there below. elim (in_pushed numbers number (Some at) place there) [
    | inl front ↦ let e = so_far.in_order place at smaller front below in (e.0, e.1, pushed_front numbers number (Some smaller) e.0 e.2)
    | inr last ↦
        let u = so_far.used smaller (smaller_is_old name at (sym last.1) smaller below here) in
        (u.0, omega (arith, last.0, slice_get_within numbers u.0 (Some smaller) u.1), pushed_front numbers number (Some smaller) u.0 u.1)
  ];
}
  where
    smaller_is_old : (name : Option K) (at : ℕ) → number ≡ Some at → (smaller : ℕ) → smaller < at → IsNumbered eq more name number → smaller < length keys
    smaller_is_old None at is smaller below none = absurd cc
    smaller_is_old (Some one) at is smaller below h =
        let same : h.0 ≡ at = same_Some h.0 at (sym h.1 ∙ is) in
        omega (arith, few, slice_get_within more h.0 h.2 h.3)

    still : {K : Type 0} (eq : K → K → Bool) (keys more : List K) → ((n : ℕ) (key : K) → slice_get keys n ≡ Some key → slice_get more n ≡ Some key) → (name : Option K) (number : Option ℕ) → IsNumbered eq keys name number → IsNumbered eq more name number
    still eq keys more stay None number h = h
    still eq keys more stay (Some name) number h = (h.0, h.1, h.2, stay h.0 h.2 h.3, h.4)

-- keys that stand stay where they stand when one is inserted
pub insert_key-stays : {K : Type 0} (eq : K → K → Bool) (keys : List K) (k : K) (n : ℕ) (key : K) → slice_get keys n ≡ Some key → slice_get (insert_key eq keys k) n ≡ Some key
insert_key-stays {K} eq keys k n key there = by (list_any (eq k) keys)
  where
    by : (b : Bool) → slice_get (cond b keys (keys ++ k ∷ [])) n ≡ Some key
    by true = there
    by false = pushed_front keys k key n there

pub insert_key-few : {K : Type 0} (eq : K → K → Bool) (keys : List K) (k : K) → length (insert_key eq keys k) ≤ length keys + 1
insert_key-few {K} eq keys k = by (list_any (eq k) keys)
  where
    by : (b : Bool) → length (cond b keys (keys ++ k ∷ [])) ≤ length keys + 1
    by true = omega arith
    by false = omega (arith, length-append keys (k ∷ []))

or_right : (b c : Bool) → c ≡ true → (b || c) ≡ true
or_right true c e = refl
or_right false c e = e

any_at : {K : Type 0} (test : K → Bool) (keys : List K) (n : ℕ) (key : K) → slice_get keys n ≡ Some key → test key ≡ true → list_any test keys ≡ true
any_at test [] n key there passes = absurd cc
any_at test (x ∷ keys) zero key there passes = ap (λ (b : Bool). b || list_any test keys) (ap test (same_Some x key there) ∙ passes)
any_at {K} test (x ∷ keys) (suc n) key there passes = or_right (test x) (list_any test keys) (any_at test keys n key there passes)

-- a key that is new stands at the end
pub insert_key-new : {K : Type 0} (eq : K → K → Bool) (keys : List K) (k : K) (n : ℕ) (key : K) → slice_get (insert_key eq keys k) n ≡ Some key → eq k key ≡ true
    → (i : ℕ) → length keys ≤ i → i < length (insert_key eq keys k) → n ≡ i
insert_key-new {K} eq keys k n key there equal i past within = by (list_any (eq k) keys) refl there within
  where
    by : (b : Bool) → list_any (eq k) keys ≡ b → slice_get (cond b keys (keys ++ k ∷ [])) n ≡ Some key → i < length (cond b keys (keys ++ k ∷ [])) → n ≡ i
    by true known at below = absurd (omega arith)
    by false known at below = elim (in_pushed keys k key n at) [
      | inl front ↦ absurd (let both : true ≡ false = sym (any_at (eq k) keys n key front equal) ∙ known in cc)
      | inr last ↦ omega (arith, last.0, length-append keys (k ∷ []))
    ]

-- distinct keys that are equal stand at one place
one_place : {K : Type 0} (eq : K → K → Bool) → IsEquivalence eq → (keys : List K) → IsDistinct eq keys → (m n : ℕ) (a b : K) → slice_get keys m ≡ Some a → slice_get keys n ≡ Some b → eq a b ≡ true → m ≡ n
one_place eq laws keys distinct m n a b at_m at_n equal =
    elim (cases_eq m n) [
      | inl e ↦ e
      | inr differ ↦
          let m_in = slice_get_within keys m a at_m in
          let n_in = slice_get_within keys n b at_n in
          let a_is = get_or_from_slice_get keys m a a at_m in
          let b_is = get_or_from_slice_get keys n b a at_n in
          elim (cases_lt m n) [
            | inl below ↦ absurd (let apart = apart_from_distinct eq keys m n a distinct below n_in in cc)
            | inr above ↦ absurd (let apart = apart_from_distinct eq keys n m a distinct (omega arith) m_in in let turn = laws.symm a b in cc)
          ]
    ]

-- what the names' numbers are
number_of : {K : Type 0} (eq : K → K → Bool) (keys : List K) (names : List (Option K)) (numbers : List (Option ℕ)) → AreNumbered eq keys names numbers → (i : ℕ) (a : K) (m : ℕ) → slice_get names i ≡ Some (Some a) → slice_get numbers i ≡ Some (Some m) → (key : K) × (slice_get keys m ≡ Some key) × (eq a key ≡ true)
number_of eq keys names numbers so_far i a m named numbered =
    let at = so_far.each i (Some a) named in
    let same : Some m ≡ Some at.2.0 = same_Some (Some m) (Some at.2.0) (cc) in
    let is : m ≡ at.2.0 = same_Some m at.2.0 same in
    (at.2.2, subst (λ (k : ℕ). slice_get keys k ≡ Some at.2.2) (sym is) at.2.3, at.2.4)

-- where numbers stand at places, every name has been numbered
pub IsNumbering-from : {K : Type 0} (eq : K → K → Bool) → IsEquivalence eq → (keys : List K) (names : List (Option K)) (numbers : List (Option ℕ)) → AreNumbered eq keys names numbers → IsNumbering eq names numbers
IsNumbering-from {K} eq laws keys names numbers so_far = record {
  size = so_far.size;
  below = λ place number numbered. is_below place number numbered (names_at place (omega (arith, so_far.size, slice_get_within numbers place (Some number) numbered)));
  unnamed = λ place there. let at = so_far.each place None there in at.1 ∙ ap Some at.2;
  named = λ place name there. let at = so_far.each place (Some name) there in (at.2.0, at.1 ∙ ap Some at.2.1);
  in_order = so_far.in_order;
  same = λ i j a b m n named_i named_j numbered_i numbered_j.
      let p = number_of eq keys names numbers so_far i a m named_i numbered_i in
      let q = number_of eq keys names numbers so_far j b n named_j numbered_j in (
        λ e.
            let one : p.0 ≡ q.0 = same_Some p.0 q.0 (sym p.1 ∙ (ap (slice_get keys) e ∙ q.1)) in
            laws.congr a p.0 b p.2 ∙ (ap (λ (k : K). eq k b) one ∙ (laws.symm q.0 b ∙ q.2)),
        λ e. one_place eq laws keys so_far.distinct m n p.0 q.0 p.1 q.1 (sym (laws.congr a p.0 q.0 p.2) ∙ (laws.congr a b q.0 e ∙ q.2)),
      );
}
  where
    names_at : (place : ℕ) → place < length names → (name : Option K) × (slice_get names place ≡ Some name)
    names_at place in_range = (get_or names place None, slice_get-get_or names place None in_range)

    by : (place number : ℕ) (name : Option K) → slice_get numbers place ≡ Some (Some number) → slice_get names place ≡ Some name → number < length names
    by place number None numbered there = absurd (let at = so_far.each place None there in let same : Some number ≡ at.0 = same_Some (Some number) at.0 (sym numbered ∙ at.1) in let gone : at.0 ≡ None = at.2 in cc)
    by place number (Some name) numbered there =
        let p = number_of eq keys names numbers so_far place name number there numbered in
        let standing : number < length keys = slice_get_within keys number p.0 p.1 in
        omega (arith, so_far.few)

    is_below : (place number : ℕ) → slice_get numbers place ≡ Some (Some number) → (name : Option K) × (slice_get names place ≡ Some name) → number < length names
    is_below place number numbered at = by place number at.0 numbered at.1

-- a place without a name
pub AreNumbered-none : {K : Type 0} (eq : K → K → Bool) (keys after : List K) (names : List (Option K)) (numbers new : List (Option ℕ)) (name : Option K) (number : Option ℕ)
    → after ≡ keys → name ≡ None → number ≡ None → new ≡ numbers ++ number ∷ [] → AreNumbered eq keys names numbers → AreNumbered eq after (names ++ name ∷ []) new
AreNumbered-none {K} eq keys after names numbers new name number same unnamed none pushed so_far =
    let here : IsNumbered eq keys name number = subst (λ (o : Option K). IsNumbered eq keys o number) (sym unnamed) none in
    let more = AreNumbered-push eq keys keys names numbers name number (λ n key there. there) (omega arith) so_far.distinct here (λ n past within. absurd (omega arith)) so_far in
    subst (λ (ks : List K). AreNumbered eq ks (names ++ name ∷ []) new) (sym same)
    (subst (λ (ns : List (Option ℕ)). AreNumbered eq keys (names ++ name ∷ []) ns) (sym pushed) more)

-- a place with a name, whose key stands at its number
pub AreNumbered-some : {K : Type 0} (eq : K → K → Bool) (keys after : List K) (names : List (Option K)) (numbers new : List (Option ℕ)) (name : Option K) (number : Option ℕ) (k : K) (n : ℕ)
    → after ≡ insert_key eq keys k → IsDistinct eq after → (key : K) × (slice_get after n ≡ Some key) × (eq k key ≡ true) → name ≡ Some k → number ≡ Some n → new ≡ numbers ++ number ∷ []
    → AreNumbered eq keys names numbers → AreNumbered eq after (names ++ name ∷ []) new
AreNumbered-some {K} eq keys after names numbers new name number k n inserted distinct stored named numbered pushed so_far =
    let here : IsNumbered eq after (Some k) number = (n, numbered, stored.0, stored.1, stored.2) in
    let stay = λ (m : ℕ) (key : K) (there : slice_get keys m ≡ Some key). ap (λ (ks : List K). slice_get ks m) inserted ∙ insert_key-stays eq keys k m key there in
    let few = subst (λ (ks : List K). length ks ≤ length keys + 1) (sym inserted) (insert_key-few eq keys k) in
    let new_used = λ (i : ℕ) (past : length keys ≤ i) (within : i < length after).
    numbered ∙ ap (λ (m : ℕ). Some m) (insert_key-new eq keys k n stored.0 (subst (λ (ks : List K). slice_get ks n ≡ Some stored.0) inserted stored.1) stored.2 i past (subst (λ (ks : List K). i < length ks) inserted within)) in
    let more = AreNumbered-push eq keys after names numbers name number stay few distinct (subst (λ (o : Option K). IsNumbered eq after o number) (sym named) here) new_used so_far in
    subst (λ (ns : List (Option ℕ)). AreNumbered eq after (names ++ name ∷ []) ns) (sym pushed) more

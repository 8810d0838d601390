-- How the tables of last and of previous places grow with each place.
use Rattle.std.proofs.Common.{◌≡◌, ℕ, ◌+◌, ◌<◌, Bool, true, false, cond, List, [], ◌∷◌, ◌++◌, Option, None, Some, length, get_or, refl, sym, ap, subst, ◌∙◌, arith, inl, inr, eq-eqb, add-one}
use Rattle.std.specs.Prelude.{replicate, slice_set, slice_get}
use Rattle.std.proofs.lemmas.Bool.{cases_eq, ne_eqb}
use Rattle.std.proofs.lemmas.List.{get_or-set_same, get_or-set_other, length-set, length-append, length-replicate, get_or-replicate, get_or_append_left, get_or_at}
use Rattle.std.proofs.lemmas.Option.{slice_get-get_or, slice_get_read, get_or_from_slice_get}
use Rattle.interning.specs.LastPlaces.{last_below, holds}
use Rattle.interning.specs.Places.{AreBelow, holds_at, last_before, previous_of, IsTable}

-- the table of the last places below this one
abbrev pub IsLastTable : ℕ → List (Option ℕ) → ℕ → List (Option ℕ) → Type 0
IsLastTable bound list place table = IsTable bound (λ number. last_below (holds_at list number) place) table

-- before the first place
pub IsLastTable-start : (bound : ℕ) (list table : List (Option ℕ)) → table ≡ replicate bound None → IsLastTable bound list 0 table
unfolding last_below
IsLastTable-start bound list table fresh = record {
  size = ap length fresh ∙ length-replicate bound None;
  entries = λ number below. ap (λ (l : List (Option ℕ)). get_or l number None) fresh ∙ get_or-replicate bound number None None below;
}

-- one more place
pub last_below-more : (test : ℕ → Bool) (n : ℕ) → last_below test (n + 1) ≡ cond (test n) (Some n) (last_below test n)
unfolding last_below
last_below-more test n = rw add-one

last_below-passes : (test : ℕ → Bool) (n : ℕ) → test n ≡ true → last_below test (n + 1) ≡ Some n
last_below-passes test n e = last_below-more test n ∙ ap (λ (b : Bool). cond b (Some n) (last_below test n)) e

last_below-fails : (test : ℕ → Bool) (n : ℕ) → test n ≡ false → last_below test (n + 1) ≡ last_below test n
last_below-fails test n e = last_below-more test n ∙ ap (λ (b : Bool). cond b (Some n) (last_below test n)) e

-- a place that holds none
pub IsLastTable-none : (bound : ℕ) (list : List (Option ℕ)) (place : ℕ) (table : List (Option ℕ)) → get_or list place None ≡ None → IsLastTable bound list place table → IsLastTable bound list (place + 1) table
IsLastTable-none bound list place table here so_far = record {
  size = so_far.size;
  entries = λ number below. so_far.entries number below ∙ sym (last_below-fails (holds_at list number) place (ap (λ (h : Option ℕ). holds h number) here));
}

-- a place that holds a number
pub IsLastTable-some : (bound : ℕ) (list : List (Option ℕ)) (place held : ℕ) (table : List (Option ℕ)) → get_or list place None ≡ Some held → held < bound → IsLastTable bound list place table → IsLastTable bound list (place + 1) (slice_set table held (Some place))
IsLastTable-some bound list place held table here in_range so_far = record {
  size = length-set table held (Some place) ∙ so_far.size;
  entries = λ number below. elim (cases_eq number held) [
    | inl e ↦
        subst (λ (k : ℕ). get_or (slice_set table held (Some place)) k None ≡ last_below (holds_at list k) (place + 1)) (sym e)
        (get_or-set_same table held (Some place) None (omega (arith, so_far.size))
        ∙ sym (last_below-passes (holds_at list held) place (ap (λ (h : Option ℕ). holds h held) here ∙ eq-eqb held held refl)))
    | inr differ ↦
        get_or-set_other table held number (Some place) None differ
        ∙ (so_far.entries number below
        ∙ sym (last_below-fails (holds_at list number) place (ap (λ (h : Option ℕ). holds h number) here ∙ ne_eqb held number (λ e. differ (sym e)))))
  ];
}

-- a table with one more entry
pub IsTable-push : (n : ℕ) (entry : ℕ → Option ℕ) (table : List (Option ℕ)) (x : Option ℕ) → x ≡ entry n → IsTable n entry table → IsTable (n + 1) entry (table ++ x ∷ [])
IsTable-push n entry table x here so_far = record {
  size = length-append table (x ∷ []) ∙ ap (λ (k : ℕ). k + 1) so_far.size;
  entries = λ k below. elim (cases_eq k n) [
    | inl e ↦ subst (λ (i : ℕ). get_or (table ++ x ∷ []) i None ≡ entry i) (sym e) (get_or_at table x [] None n so_far.size ∙ here)
    | inr differ ↦ get_or_append_left table (x ∷ []) None k (omega (arith, so_far.size)) ∙ so_far.entries k (omega arith)
  ];
}

-- what stood at a place the last time before, from the table of last places
pub previous_of-some : (bound : ℕ) (list : List (Option ℕ)) (place held : ℕ) (table : List (Option ℕ)) (x : Option ℕ) → get_or list place None ≡ Some held → held < bound → IsLastTable bound list place table → x ≡ get_or table held x → x ≡ previous_of list place
previous_of-some bound list place held table x here in_range so_far read =
    let there : slice_get table held ≡ Some x = slice_get_read table (length table) held x refl (omega (arith, so_far.size)) read in
    sym (get_or_from_slice_get table held x None there) ∙ (so_far.entries held in_range ∙ ap (λ (h : Option ℕ). last_before list h place) (sym here))

pub previous_of-none : (list : List (Option ℕ)) (place : ℕ) → get_or list place None ≡ None → None ≡ previous_of list place
previous_of-none list place here = ap (λ (h : Option ℕ). last_before list h place) (sym here)

-- a number that stands in the list is below the bound
pub held_below : (bound : ℕ) (list : List (Option ℕ)) (place held : ℕ) → AreBelow bound list → place < length list → get_or list place None ≡ Some held → held < bound
held_below bound list place held below in_range here = below place held (slice_get-get_or list place None in_range ∙ ap Some here)

-- before the first place, no entry is known
pub IsTable-start : (entry : ℕ → Option ℕ) (table : List (Option ℕ)) → table ≡ [] → IsTable 0 entry table
IsTable-start entry table empty = record { size = ap length empty; entries = λ k below. absurd (omega arith) }

-- The test whether a program is a narrowed one, place by place, and the other ways that are found,
-- send by send.
use Rattle.std.proofs.Common.{Option, ◌≡◌, ℕ, ◌+◌, ◌<◌, ◌≤◌, inl, inr, true, List, [], ◌∷◌, ◌++◌, Some, None, length, refl, sym, ap, ◌∙◌, subst, arith}
use Rattle.std.specs.Prelude.{Contains}
use Rattle.std.specs.Option.{option_map}
use Rattle.std.proofs.lemmas.Bool.{cases_eq, cases_lt}
use Rattle.std.proofs.lemmas.Option.{same_Some, slice_get_past}
use Rattle.callorder.specs.Programs.{MpiProgram, call_at, are_fit}
use Rattle.narrowing.specs.declared.taken.ChoiceTaken.{ChoiceTaken}
use Rattle.narrowing.specs.Narrowed.{narrowed_call, IsNarrowed, IsNarrowedAt}
use Rattle.std.proofs.lemmas.List.Elements.{Contains-push, Contains-append_left, All-push}
use Rattle.narrowing.specs.Ways.{way_to, way_to_call, IsOtherMessage, AreOtherMessages, AreOthersBelow}

pub one_more_place : (p q : MpiProgram) (call : ℕ) (way : ChoiceTaken) (i : ℕ) → ((k : ℕ) → k < i → IsNarrowedAt p call way q k) → IsNarrowedAt p call way q i → (k : ℕ) → k < i + 1 → IsNarrowedAt p call way q k
one_more_place p q call way i so here k below =
    elim (cases_eq k i) [
      | inl e ↦ subst (λ (z : ℕ). IsNarrowedAt p call way q z) (sym e) here
      | inr differ ↦ so k (omega arith)
    ]

-- past the end there is no call in either
past : (p q : MpiProgram) (call : ℕ) (way : ChoiceTaken) → length q.calls ≡ length p.calls → (k : ℕ) → length p.calls ≤ k → IsNarrowedAt p call way q k
past p q call way long k out =
    let old : call_at p k ≡ None = slice_get_past p.calls k out in
    let new : call_at q k ≡ None = slice_get_past q.calls k (omega arith) in
    record { same = λ differ. new ∙ sym old; narrowed = λ e. new ∙ sym (ap (option_map (narrowed_call way)) old) }

pub all_narrowed : (p q : MpiProgram) (call : ℕ) (way : ChoiceTaken) (i : ℕ) → q.policy ≡ p.policy → q.ranks ≡ p.ranks → length q.calls ≡ length p.calls → length p.calls ≤ i → ((k : ℕ) → k < i → IsNarrowedAt p call way q k) → IsNarrowed p call way q
all_narrowed p q call way i policy ranks long end so =
    record { policy = policy; ranks = ranks; length = long; there = (each call).narrowed refl; elsewhere = λ c. (each c).same }
  where
    each : (k : ℕ) → IsNarrowedAt p call way q k
    each k =
        elim (cases_lt k (length p.calls)) [
          | inl within ↦ so k (omega arith)
          | inr out ↦ past p q call way long k out
        ]

-- ---- the other ways

pub one_more_way : (p : MpiProgram) (call : ℕ) (taken : ChoiceTaken) (send : ℕ) (others : List ChoiceTaken) (way : ChoiceTaken) → are_fit p send call ≡ true → way_to p send ≡ Some way → (way ≡ taken → ⊥) → AreOthersBelow p call taken send others → AreOthersBelow p call taken (send + 1) (others ++ way ∷ [])
one_more_way p call taken send others way fit is other old =
    record {
      all = λ s w below fits said.
          elim (cases_eq s send) [
            | inl e ↦
                let same : way ≡ w = same_Some way w (sym is ∙ subst (λ (z : ℕ). way_to p z ≡ Some w) e said) in
                inr (subst (λ (z : ChoiceTaken). Contains (others ++ way ∷ []) z) same (Contains-push others way))
            | inr differ ↦
                elim (old.all s w (omega arith) fits said) [
                  | inl same ↦ inl same
                  | inr among ↦ inr (Contains-append_left others (way ∷ []) w among)
                ]
          ];
      each = All-push (λ w. IsOtherMessage p call taken w) others way old.each (record { send = send; fit = fit; is = is; other = other });
    }

-- past the end there is no send
pub all_other : (p : MpiProgram) (call : ℕ) (taken : ChoiceTaken) (count : ℕ) (others : List ChoiceTaken) → length p.calls ≤ count → AreOthersBelow p call taken count others → AreOtherMessages p call taken others
all_other p call taken count others end below =
    record {
      all = λ s w fits said.
          elim (cases_lt s (length p.calls)) [
            | inl within ↦ below.all s w (omega arith) fits said
            | inr out ↦
                let none : ◌≡◌ {A = Option ChoiceTaken} None (Some w) = sym (ap way_to_call (slice_get_past p.calls s out)) ∙ said in
                let never : ⊥ = cc in absurd never
          ];
      each = below.each;
    }

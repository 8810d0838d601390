-- A column that is made smaller, entry by entry.
use Rattle.std.proofs.Common.{◌≡◌, ℕ, zero, suc, ◌+◌, ◌<◌, ◌≤◌, ◌⊎◌, inl, inr, Bool, true, false, ◌&&◌, ◌||◌, ◌==◌, List, [], ◌∷◌, length, slice_set, replicate, Some, refl, sym, ap, ◌∙◌, subst, arith}
use Rattle.std.proofs.lemmas.Bool.{cases_eq, cases_lt, eqb-true, eq-eqb}
use Rattle.std.proofs.lemmas.List.{get_or-set_other, get_or-replicate}
use Rattle.std.proofs.lemmas.Option.{unwrap_or-slice_get, slice_get_within}
use Rattle.calltext.proofs.Conjunctions.{and_true, and_both}
use Rattle.callorder.specs.Programs.{MpiProgram, call_at, are_of_one_rank}
use Rattle.semantics.specs.Machine.{Configuration}
use Rattle.races.specs.Tells.{Table, tells_return_call, tells_issue, IsJustified}
use Rattle.races.proofs.Steps.{one_rank}
use Rattle.knowledge.specs.parts.Knowledge.{count_known, Covers, CoversJustified, FollowsFromColumn}
use Rattle.knowledge.specs.Knowledge.{entry_at, column_table, TablesOfColumnsAreJustified, table_of}
use Rattle.knowledge.proofs.Less.{issue_less}

pub entry_of : (finder : ℕ) (known : List Bool) (c : ℕ) → column_table finder known c finder ≡ true → entry_at known c ≡ true
entry_of finder known c h = (and_true (finder == finder) (entry_at known c) h).1

pub entry_made : (finder : ℕ) (known : List Bool) (c : ℕ) → entry_at known c ≡ true → column_table finder known c finder ≡ true
entry_made finder known c h = and_both (finder == finder) (entry_at known c) (eq-eqb finder finder refl) h

entry_other : (known : List Bool) (call c : ℕ) → (c ≡ call → ⊥) → entry_at (slice_set known call false) c ≡ entry_at known c
entry_other known call c ne =
    unwrap_or-slice_get (slice_set known call false) c false ∙ get_or-set_other known call c false false ne ∙ sym (unwrap_or-slice_get known c false)

entry_within : (known : List Bool) (c : ℕ) → entry_at known c ≡ true → c < length known
entry_within [] c h = absurd (cc)
entry_within (x ∷ known) zero h = omega arith
entry_within (x ∷ known) (suc c) h = let below = entry_within known c h in omega (arith, below)

pub fewer : (known : List Bool) (c : ℕ) → entry_at known c ≡ true → count_known (slice_set known c false) < count_known known
fewer [] c h = absurd (cc)
fewer (true ∷ known) zero h = omega arith
fewer (false ∷ known) zero h = absurd (cc)
fewer (true ∷ known) (suc c) h = let below = fewer known c h in omega (arith, below)
fewer (false ∷ known) (suc c) h = fewer known c h

-- a call that doesn't follow from the column is in no justified table
pub still_covers : (p : MpiProgram) (e : Configuration) (finder call : ℕ) (known : List Bool) → tells_issue p e (column_table finder known) call finder ≡ false → CoversJustified p e finder known → CoversJustified p e finder (slice_set known call false)
still_covers p e finder call known untold covers knows justified c h =
    elim (cases_eq c call) [
      | inl same ↦
          let told : tells_issue p e (column_table finder known) c finder ≡ true =
          issue_less p e knows (column_table finder known) finder (covers knows justified) c (justified c finder h) in
          let here : tells_issue p e (column_table finder known) call finder ≡ true =
          subst (λ (z : ℕ). tells_issue p e (column_table finder known) z finder ≡ true) same told in
          absurd (cc (here, untold))
      | inr ne ↦ entry_made finder (slice_set known call false) c (entry_other known call c ne ∙ entry_of finder known c (covers knows justified c h))
    ]

-- what is told is of a call of the program
issue_within : (p : MpiProgram) (e : Configuration) (knows : Table) (c f : ℕ) → tells_issue p e knows c f ≡ true → c < length p.calls
issue_within p e knows zero f h = absurd (cc)
issue_within p e knows (suc c) f h =
    let one = one_rank p c (suc c) (and_true (are_of_one_rank p c (suc c)) (knows c f || tells_return_call p e knows c (call_at p c) f) h).0 in
    slice_get_within p.calls (suc c) one.1 one.3

pub all_cover : (p : MpiProgram) (e : Configuration) (finder : ℕ) (known : List Bool) → known ≡ replicate (length p.calls) true → CoversJustified p e finder known
all_cover p e finder known is knows justified c h =
    let within : c < length p.calls = issue_within p e knows c finder (justified c finder h) in
    let there : entry_at (replicate (length p.calls) true) c ≡ true =
    unwrap_or-slice_get (replicate (length p.calls) true) c false ∙ get_or-replicate (length p.calls) c true false within in
    entry_made finder known c (subst (λ (z : List Bool). entry_at z c ≡ true) (sym is) there)

pub all_told_up_to : (p : MpiProgram) (e : Configuration) (finder : ℕ) (known : List Bool) (n : ℕ) → length known ≤ n → ((c : ℕ) → c < n → FollowsFromColumn p e finder known c) → (c : ℕ) → FollowsFromColumn p e finder known c
all_told_up_to p e finder known n all told c h = let within = entry_within known c h in told c (omega (arith, within, all)) h

pub told_justified : (p : MpiProgram) (e : Configuration) (finder : ℕ) (known : List Bool) → ((c : ℕ) → FollowsFromColumn p e finder known c) → IsJustified p e (column_table finder known)
told_justified p e finder known told c f h =
    let parts = and_true (f == finder) (entry_at known c) h in
    subst (λ (z : ℕ). tells_issue p e (column_table finder known) c z ≡ true) (sym (eqb-true f finder parts.0)) (told c parts.1)

pub table_of_columns_justified : TablesOfColumnsAreJustified
table_of_columns_justified p e columns justified c f h =
    issue_less p e (column_table f (columns f)) (table_of columns) f (λ d k. entry_of f (columns f) d k) c (justified f c f (entry_made f (columns f) c h))

-- ---- the rule at a call behind another one

joined : (x y z : Bool) → x ≡ true → y ≡ false → z ≡ (x && (y || z))
joined true true z one none = absurd (cc)
joined true false z one none = refl
joined false y z one none = absurd (cc)

pub issue_by : (p : MpiProgram) (e : Configuration) (knows : Table) (c b f : ℕ) (r : Bool) → c ≡ suc b → are_of_one_rank p b c ≡ true → knows b f ≡ false → r ≡ tells_return_call p e knows b (call_at p b) f → r ≡ tells_issue p e knows c f
issue_by p e knows c b f r at one none is = subst (λ (z : ℕ). are_of_one_rank p b z ≡ true → r ≡ tells_issue p e knows z f) (sym at) next one
  where
    next : are_of_one_rank p b (suc b) ≡ true → r ≡ tells_issue p e knows (suc b) f
    next same = is ∙ joined (are_of_one_rank p b (suc b)) (knows b f) (tells_return_call p e knows b (call_at p b) f) same none

-- ---- one pass

-- the column after a pass up to the call n: whether it is another than at the start
pub record IsPassed (p : MpiProgram) (e : Configuration) (finder : ℕ) (first now : List Bool) (changed : Bool) (n : ℕ) : Type 0 where
  pub covers : CoversJustified p e finder first → CoversJustified p e finder now
  pub fewer : changed ≡ true → count_known now < count_known first
  pub no_more : count_known now ≤ count_known first
  pub told : changed ≡ false → (c : ℕ) → c < n → FollowsFromColumn p e finder now c
  pub places : length now ≡ length first

pub none_passed : (p : MpiProgram) (e : Configuration) (finder : ℕ) (known : List Bool) → IsPassed p e finder known known false 0
none_passed p e finder known =
    record {
      covers = λ h. h;
      fewer = λ h. absurd (cc);
      no_more = omega arith;
      told = λ h c lt. absurd (omega (arith, lt));
      places = refl;
    }

-- the call n is looked at, and out of the column now or as it was
pub one_more : (p : MpiProgram) (e : Configuration) (finder : ℕ) (first now new : List Bool) (changed out : Bool) (n : ℕ) → IsPassed p e finder first now changed n → (CoversJustified p e finder now → CoversJustified p e finder new) → (out ≡ true → count_known new < count_known now) → (out ≡ false → new ≡ now) → (out ≡ false → FollowsFromColumn p e finder new n) → length new ≡ length now → IsPassed p e finder first new (changed || out) (n + 1)
one_more p e finder first now new changed out n passed covers less same told places =
    record {
      covers = λ h. covers (passed.covers h);
      fewer = fewer_by changed out passed.fewer less same;
      no_more = no_more_by out less same;
      told = told_by changed out passed.told same told;
      places = places ∙ passed.places;
    }
  where
    no_more_by : (out : Bool) → (out ≡ true → count_known new < count_known now) → (out ≡ false → new ≡ now) → count_known new ≤ count_known first
    no_more_by true less same = let below = less refl in let most = passed.no_more in omega (arith, below, most)
    no_more_by false less same = let most = passed.no_more in let equal = ap count_known (same refl) in omega (arith, equal, most)

    fewer_by : (changed out : Bool) → (changed ≡ true → count_known now < count_known first) → (out ≡ true → count_known new < count_known now) → (out ≡ false → new ≡ now) → (changed || out) ≡ true → count_known new < count_known first
    fewer_by changed true before less same h = let below = less refl in let most = passed.no_more in omega (arith, below, most)
    fewer_by true false before less same h = let below = before refl in let equal = ap count_known (same refl) in omega (arith, equal, below)
    fewer_by false false before less same h = absurd (cc)

    told_by : (changed out : Bool) → (changed ≡ false → (c : ℕ) → c < n → FollowsFromColumn p e finder now c) → (out ≡ false → new ≡ now) → (out ≡ false → FollowsFromColumn p e finder new n) → (changed || out) ≡ false → (c : ℕ) → c < n + 1 → FollowsFromColumn p e finder new c
    told_by true out before same told h c lt = absurd (cc)
    told_by false true before same told h c lt = absurd (cc)
    told_by false false before same told h c lt =
        elim (cases_lt c n) [
          | inl below ↦ subst (λ (z : List Bool). FollowsFromColumn p e finder z c) (sym (same refl)) (before refl c below)
          | inr ge ↦ let at : n ≡ c = omega (arith, ge, lt) in subst (λ (z : ℕ). FollowsFromColumn p e finder new z) at (told refl)
        ]

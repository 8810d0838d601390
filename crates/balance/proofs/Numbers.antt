-- How many: what is sent one to one below a bound is no more than that.
use Rattle.std.proofs.Common.{◌≡◌, ℕ, ◌<◌, ◌≤◌, inl, inr, true, refl, subst, arith}
use Rattle.std.proofs.lemmas.Bool.{cases_lt}
use Rattle.races.proofs.Pigeons.{no_pigeon}

record Sent (m n : ℕ) (Goes : ℕ → ℕ → Type 0) (i : ℕ) : Type 0 where
  to : ℕ
  goes : i < m → (to < n) × Goes i to

sent : (m n : ℕ) (Goes : ℕ → ℕ → Type 0) → ((i : ℕ) → i < m → (k : ℕ) × (k < n) × Goes i k) → (i : ℕ) → Sent m n Goes i
sent m n Goes f i =
    elim (cases_lt i m) [
      | inl below ↦ let w = f i below in record { to = w.0; goes = λ again. (w.1, w.2) }
      | inr past ↦ record { to = 0; goes = λ below. absurd (omega (arith, past, below)) }
    ]

pub no_more : (m n : ℕ) (Goes : ℕ → ℕ → Type 0) → ((i : ℕ) → i < m → (k : ℕ) × (k < n) × Goes i k) → ((i j k : ℕ) → i < m → j < m → Goes i k → Goes j k → i ≡ j) → m ≤ n
no_more m n Goes f once =
    elim (cases_lt n m) [
      | inr upto ↦ upto
      | inl more ↦
          absurd (no_pigeon (λ i. true) m n (λ i. (sent m n Goes f i).to) more refl (record {
            within = λ i l h. let w = (sent m n Goes f i).goes l in omega (arith, w.0, more);
            kept = λ i l h. refl;
            missed = λ i l h e. let w = (sent m n Goes f i).goes l in omega (arith, w.0, e);
            once = λ i j l h k g e. once i j (sent m n Goes f j).to l k (subst (Goes i) e ((sent m n Goes f i).goes l).1) ((sent m n Goes f j).goes k).1;
          }))
    ]

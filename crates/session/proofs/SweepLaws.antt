-- The law of runs of `decide` and `explain` for an SPMD text.
use Rattle.std.proofs.Common.{◌≡◌, ◌∙◌, ◌≤◌, arith, inl, inr, sym, subst, refl, ℕ, List, Bool, true, false, Some, Option}
use Rattle.std.specs.Prelude.{◌||◌, is_some}
use Rattle.std.proofs.lemmas.Option.{same_Some}
use Rattle.spmd_program.specs.Ranges.{IsRange}
use Rattle.clap.specs.Words.{Text}
use Rattle.session.specs.Endings.{EndsRanked}
use Rattle.session.specs.Sweeping.{IsRanked}
use Rattle.session.specs.SweepLaws.{IsSafeFor, UnrolledRunsAreRight}
use Rattle.session.specs.Runs.{SessionRun}
use Rattle.session.proofs.RunLaws.{page_printed}
use Rattle.session.proofs.SweptPages.{explained_hangs, explained_safe, swept_hangs, swept_safe}
use Rattle.session.proofs.TaskEnds.{task_ends}
use Rattle.session.proofs.UnrollLaws.{way_end}

-- the numbers are those that the text behind `--ranks` tells
pub ranges : (ranks : Text) (beside several : Bool) (first last : ℕ) → IsRanked (Some ranks) beside several first last → IsRange ranks first last
ranges ranks beside several first last is = subst (λ (t : List ℕ). IsRange t first last) (sym (same_Some ranks is.text is.given)) is.is_range

-- and a last one
pub rises : (text : List ℕ) (first last : ℕ) → IsRange text first last → first ≤ last
rises text first last (inl (undotted, count, same)) = omega (arith, same)
rises text first last (inr (dotted, ends)) = ends.rises

-- a run with a status below 4 ended for some numbers of ranks
ranked_end : (run : SessionRun) (ranks : Option (List ℕ)) (beside several : Bool) {EndsFor : ℕ → ℕ → Type 0}
    → EndsRanked run ranks beside several EndsFor → (own : ℕ) → run.status ≡ own → (own ≡ 6 → ⊥)
    → (first : ℕ) × (last : ℕ) × IsRanked ranks beside several first last × EndsFor first last
ranked_end run ranks beside several (inl (told, why, complains)) own is six = absurd (six (sym is ∙ complains.0))
ranked_end run ranks beside several (inr ends) own is six = ends

pub unrolled_runs : UnrolledRunsAreRight
unrolled_runs = record {
  safe = λ run p ranks settings way source ends asks held zero. elim asks [
    | inl decide ↦
        let by = way_end run way (task_ends run ends decide.2) 0 zero (λ e. omega (arith, e)) (λ e. omega (arith, e)) in
        let end = ranked_end run (Some ranks) decide.0 true by.2 0 zero (λ e. omega (arith, e)) in
        let page = page_printed 0 (omega arith) (inl end.3) zero in (
          by.0,
          by.1,
          end.0,
          end.1,
          ranges ranks _ true end.0 end.1 end.2,
          swept_safe (run.before p) p source settings by.0 decide.1 end.0 end.1 page.0 page.1 held,
        )
    | inr explain ↦
        let by = way_end run way (task_ends run ends explain.6) 0 zero (λ e. omega (arith, e)) (λ e. omega (arith, e)) in
        let end = ranked_end run (Some ranks) (is_some explain.0 || is_some explain.5) false by.2 0 zero (λ e. omega (arith, e)) in
        let page = page_printed 0 (omega arith) (inl end.3) zero in (
          by.0,
          by.1,
          end.0,
          end.1,
          ranges ranks _ false end.0 end.1 end.2,
          λ number above below. subst (IsSafeFor p source settings by.0) (omega (arith, above, below, end.2.one refl))
              (explained_safe (run.before p) p source settings by.0 explain.3 explain.4 end.0 page.0 page.1 held),
        )
  ];
  stuck = λ run p ranks settings way source ends asks held one. elim asks [
    | inl decide ↦
        let by = way_end run way (task_ends run ends decide.2) 1 one (λ e. omega (arith, e)) (λ e. omega (arith, e)) in
        let end = ranked_end run (Some ranks) decide.0 true by.2 1 one (λ e. omega (arith, e)) in
        let page = page_printed 1 (omega arith) (inl end.3) one in
        let hangs = swept_hangs (run.before p) p source settings by.0 decide.1 end.0 end.1 page.0 1 page.1 (inl refl) held in (
          by.0,
          by.1,
          hangs.number,
          record { first = end.0; last = end.1; is_range = ranges ranks _ true end.0 end.1 end.2; above = hangs.above; below = hangs.below },
          hangs.hangs,
        )
    | inr explain ↦
        let by = way_end run way (task_ends run ends explain.6) 1 one (λ e. omega (arith, e)) (λ e. omega (arith, e)) in
        let end = ranked_end run (Some ranks) (is_some explain.0 || is_some explain.5) false by.2 1 one (λ e. omega (arith, e)) in
        let page = page_printed 1 (omega arith) (inl end.3) one in
        let range = ranges ranks _ false end.0 end.1 end.2 in (
          by.0,
          by.1,
          end.0,
          record { first = end.0; last = end.1; is_range = range; above = omega arith; below = rises ranks end.0 end.1 range },
          explained_hangs (run.before p) p source settings by.0 explain.3 explain.4 end.0 page.0 1 page.1 (inl refl) held,
        )
  ];
}

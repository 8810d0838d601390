-- The law of runs of `unroll`.
use Rattle.std.proofs.Common.{◌≡◌, ◌∙◌, ◌⊎◌, arith, ap, inl, inr, subst, sym, refl, ℕ, List, [], Bool, true, false, Some, None, Option}
use Rattle.spmd_program.specs.Unrolling.{IsUnrolling}
use Rattle.session.specs.Endings.{EndsWay, FailsEarly}
use Rattle.session.specs.Runs.{PrintsAlone, SessionRun}
use Rattle.session.specs.Unrolling.{barriers_in}
use Rattle.session.specs.UnrollLaws.{UnrolledTextIsPrinted}
use Rattle.session.proofs.TaskEnds.{task_ends}
use Rattle.session.proofs.FileLaws.{map_keeps}
use Rattle.session.proofs.RunLaws.{page_printed}
use Rattle.session.proofs.UnrolledPages.{handed_over, own_status, refusal_told}

-- the map that was made, and that the file holds
one_map : (p source : List ℕ) (ranks : ℕ) (settings : List (List ℕ)) (barriers : Bool) (program : List ℕ) (made : Option (List ℕ))
    → IsUnrolling p source ranks settings barriers true program made → (places : List ℕ) × (made ≡ Some places)
one_map p source ranks settings barriers program made is = (_, is.made.is_map)

-- a run with a status below 4 ended with collective calls that wait in one of the ways
pub way_end : (run : SessionRun) (way : Option (List ℕ)) {EndsBy : Bool → Type 0} {X : Type 0}
    → (X × EndsWay run way EndsBy) ⊎ FailsEarly run → (own : ℕ) → run.status ≡ own → (own ≡ 4 → ⊥) → (own ≡ 6 → ⊥)
    → (barriers : Bool) × (barriers_in way ≡ Some barriers) × EndsBy barriers
way_end run way (inl (x, inl (none, complains))) own is four six = absurd (six (sym is ∙ complains.0))
way_end run way (inl (x, inr ends)) own is four six = ends
way_end run way (inr fails) own is four six = absurd (four (sym is ∙ fails.0))

pub unrolled : UnrolledTextIsPrinted
unrolled = record {
  printed = λ run p ranks settings way map source ends asks held zero.
      let end = way_end run way (task_ends run ends asks) 0 zero (λ e. omega (arith, e)) (λ e. omega (arith, e)) in
      let page = page_printed 0 (omega arith) (inl end.2) zero in
      let over = handed_over run.tells.writes run.before run.after p ranks settings end.0 None map source page.0 page.1 held in
      (end.0, end.1, over.program, over.made, over.unrolled, subst (λ (text : List ℕ). PrintsAlone run text 0) over.page page.2);
  written = λ run p file ranks settings way map source ends asks writes other held zero.
      let end = way_end run way (task_ends run ends asks) 0 zero (λ e. omega (arith, e)) (λ e. omega (arith, e)) in
      let page = page_printed 0 (omega arith) (inl end.2) zero in
      let over = handed_over run.tells.writes run.before run.after p ranks settings end.0 (Some file) map source page.0 page.1 held in (
        end.0,
        end.1,
        over.program,
        over.made,
        over.unrolled,
        map_keeps over.written.0 run.after map file over.written.2 other ∙ over.written.1 writes,
      );
  mapped = λ run p file ranks settings way out source ends asks writes held zero.
      let end = way_end run way (task_ends run ends asks) 0 zero (λ e. omega (arith, e)) (λ e. omega (arith, e)) in
      let page = page_printed 0 (omega arith) (inl end.2) zero in
      let over = handed_over run.tells.writes run.before run.after p ranks settings end.0 out (Some file) source page.0 page.1 held in
      let made = one_map p source ranks settings end.0 over.program over.made over.unrolled in (
        end.0,
        end.1,
        over.program,
        made.0,
        subst (λ (m : Option (List ℕ)). IsUnrolling p source ranks settings end.0 true over.program m) made.1 over.unrolled,
        over.written.3 made.0 made.1 writes,
      );
  refused = λ run p ranks settings way out map source ends asks held three.
      let end = way_end run way (task_ends run ends asks) 3 three (λ e. omega (arith, e)) (λ e. omega (arith, e)) in
      let page = page_printed 3 (omega arith) (inl end.2) three in
      let is = refusal_told run.tells.writes run.before run.after p ranks settings end.0 out map source page.0 page.1 held in
      (end.0, end.1, is.0, is.1, is.2, subst (λ (text : List ℕ). PrintsAlone run text 3) is.3 page.2);
  undecided = λ run p ranks settings way out map ends asks. (
    λ one.
        let end = way_end run way (task_ends run ends asks) 1 one (λ e. omega (arith, e)) (λ e. omega (arith, e)) in
        let page = page_printed 1 (omega arith) (inl end.2) one in
        (own_status run.tells.writes run.before run.after p ranks settings end.0 out map page.0 1 page.1).0 refl,
    λ two.
        let end = way_end run way (task_ends run ends asks) 2 two (λ e. omega (arith, e)) (λ e. omega (arith, e)) in
        let page = page_printed 2 (omega arith) (inl end.2) two in
        (own_status run.tells.writes run.before run.after p ranks settings end.0 out map page.0 2 page.1).1 refl,
  );
}

-- The law of any run that told a deadlock.
use Rattle.std.proofs.Common.{◌≡◌, arith, inl, inr, subst, ℕ, List, Bool, true, false, Some, None, Option}
use Rattle.clap.specs.Words.{Text}
use Rattle.clap.specs.declared.error.kind.ErrorKind.{ErrorKind}
use Rattle.formula.specs.Numbering.{formula_of}
use Rattle.command_line.specs.CommandLine.{version_line}
use Rattle.command_line.specs.Requests.{AskFor, Task, to_check, to_decide, to_decide_each, to_decide_phases, to_decide_unrolled, to_encode, to_explain, to_explain_each, to_explain_unrolled, to_export, to_join, to_phases, to_prove, to_replay, to_shrink, to_trim, to_unroll}
use Rattle.session.specs.AnyLaws.{IsRightlyTold, ToldDeadlockIsShown}
use Rattle.session.specs.Asking.{TellsDeadlock}
use Rattle.session.specs.Endings.{EndsUnasked, ExplainsUsage, TaskEnds}
use Rattle.session.specs.Explaining.{IsDecidedFirst, IsExplained}
use Rattle.session.specs.Lines.{early_line}
use Rattle.session.specs.Pages.{IsEncodedPage}
use Rattle.session.specs.Runs.{SessionRun}
use Rattle.session.specs.Several.{beside_each, beside_several}
use Rattle.session.specs.Sweeping.{form_of_answer}
use Rattle.session.specs.Unrolling.{no_way}
use Rattle.session.specs.declared.told.Outcome.TheVariants as told
use Rattle.session.proofs.DeadlockLines.{PageTells, deadlock_page, deadlock_printed, dimacs_untold, formula_untold, help_untold, line_tells, version_untold}
use Rattle.session.proofs.Deadlocks.{check_shows, explained_shows, exported_checked, prove_shows, replayed_shows}
use Rattle.session.proofs.MappedPages.{unmapped_told}
use Rattle.session.proofs.ExplainedPages.{first_shows}
use Rattle.session.proofs.DecidedPages.{decided_hangs}
use Rattle.session.proofs.PhaseLaws.{cut_hangs, joined_hangs}
use Rattle.session.proofs.RunLaws.{complaint_untold}
use Rattle.session.proofs.FileLaws.{shrunk_hangs, trimmed_untold}
use Rattle.session.proofs.SweepLaws.{rises}
use Rattle.session.proofs.SeveralPages.{decided_true, each_hangs, explained_true}
use Rattle.session.proofs.SweptPages.{explained_hangs, swept_hangs}
use Rattle.session.proofs.UnrolledPages.{unrolled_untold}

-- the page of `encode` tells no deadlock
encoded_untold : (dimacs : Bool) (file : Option (List ℕ)) (text : List ℕ) (status : ℕ) → IsEncodedPage dimacs file text status → PageTells text status → ⊥
encoded_untold false file text status (program, all, inl formula) tells =
    formula_untold (formula_of formula.0.p) text status formula.0.text_is formula.1 tells
encoded_untold true file text status (program, all, inl formula) tells = dimacs_untold formula.0.p text status formula.0.text_is formula.1 tells
encoded_untold dimacs file text status (program, all, inr (reason, why, line)) tells =
    let other : told.Refused reason ≡ told.Deadlock = line_tells (told.Refused reason) false text status line tells in cc

asked_told : (run : SessionRun) (task : Task) → AskFor run.words task → TaskEnds run task → TellsDeadlock run → IsRightlyTold run.words run.before
asked_told run (to_prove p out workers depth budget progress json) asks ends says =
    inl (
      p,
      (out, budget, progress, json, (workers, depth, asks)),
      λ program held.
          let page = deadlock_page ends.1.2 says in
          prove_shows run.tells.writes run.before run.after p out budget json page.0 page.1 program page.2 page.3 held,
    )
asked_told run (to_check p e pieces json) asks ends says =
    inr (inl (
      p,
      e,
      inl (json, (pieces, asks)),
      λ program evidence held_p held_e.
          let page = deadlock_page ends.1 says in
          check_shows (run.before p) (run.before e) json page.0 page.1 program evidence page.2 page.3 held_p held_e,
    ))
asked_told run (to_replay p e lines) asks ends says =
    inr (inl (
      p,
      e,
      inr (inl (lines, asks)),
      λ program evidence held_p held_e.
          let page = deadlock_page ends.1 says in
          replayed_shows lines (run.before p) (run.before e) page.0 page.1 program evidence page.2 page.3 held_p held_e,
    ))
asked_told run (to_explain p None workers depth budget form map) asks ends says =
    inr (inr (inr (inl (
      p,
      inr (inr (inr (budget, form, (workers, depth, map, asks)))),
      λ program held.
          let page = deadlock_page ends.1 says in
          let plain = unmapped_told run.before p form map (IsDecidedFirst (run.before p) budget form) page.0 page.1 page.2 page.3 in
          first_shows (run.before p) budget form plain.0 page.1 program plain.1 plain.2 held,
    ))))
asked_told run (to_explain p (Some e) workers depth budget form map) asks ends says =
    inr (inl (
      p,
      e,
      inr (inr (inl (form, (budget, (workers, depth, map, asks))))),
      λ program evidence held_p held_e.
          let page = deadlock_page ends.1 says in
          let plain = unmapped_told run.before p form map (IsExplained (run.before p) (run.before e) form) page.0 page.1 page.2 page.3 in
          explained_shows (run.before p) (run.before e) form plain.0 page.1 program evidence plain.1 plain.2 held_p held_e,
    ))
asked_told run (to_export p e out) asks ends says =
    inr (inl (
      p,
      e,
      inr (inr (inr (out, asks))),
      λ program evidence held_p held_e.
          let page = deadlock_page ends.1 says in
          check_shows (run.before p) (run.before e) false page.0 page.1 program evidence
          (exported_checked run.tells.writes run.before run.after p e out page.0 page.1 page.2) page.3 held_p held_e,
    ))
asked_told run (to_encode p dimacs) asks ends says =
    let page = deadlock_page ends.1 says in
    absurd (encoded_untold dimacs (run.before p) page.0 page.1 page.2 page.3)
asked_told run (to_trim e out as_json) asks ends says =
    let page = deadlock_page ends.1 says in
    absurd (trimmed_untold run.tells.writes run.before run.after e out as_json page.0 page.1 page.2 page.3)
asked_told run (to_shrink p out map) asks ends says =
    inr (inr (inl (
      p,
      out,
      map,
      asks,
      λ program held.
          let page = deadlock_page ends.1 says in
          shrunk_hangs run.tells.writes run.before run.after p out map page.0 page.1 program page.2 page.3 held,
    )))
asked_told run (to_decide p out progress as_json) asks ends says =
    inr (inr (inr (inl (
      p,
      inl (out, progress, as_json, asks),
      λ program held.
          let page = deadlock_page ends.1.2 says in
          decided_hangs run.tells.writes run.before run.after p out as_json page.0 page.1 program page.2 page.3 held,
    ))))
asked_told run (to_decide_phases p out progress as_json) asks ends says =
    inr (inr (inr (inl (
      p,
      inr (inl (out, inr (progress, as_json, asks))),
      λ program held.
          let page = deadlock_page ends.1.2 says in
          joined_hangs run.tells.writes run.before run.after out as_json p page.0 page.1 program page.2 page.3 held,
    ))))
asked_told run (to_join p folder out as_json) asks ends says =
    inr (inr (inr (inl (
      p,
      inr (inl (out, inl (folder, as_json, asks))),
      λ program held.
          let page = deadlock_page ends.1 says in
          joined_hangs run.tells.writes run.before run.after out as_json p page.0 page.1 program page.2 page.3 held,
    ))))
asked_told run (to_phases p folder) asks ends says =
    inr (inr (inr (inl (
      p,
      inr (inr (inl (folder, asks))),
      λ program held.
          let page = deadlock_page ends.1 says in
          cut_hangs run.tells.writes run.before run.after p folder page.0 page.1 program page.2 page.3 held,
    ))))
asked_told run (to_unroll p ranks settings way out map) asks (others, inl (none, complains)) says =
    absurd (complaint_untold run no_way 6 (λ one. omega (arith, one)) complains says)
asked_told run (to_unroll p ranks settings way out map) asks (others, inr (barriers, is, ends)) says =
    let page = deadlock_page ends says in
    absurd (unrolled_untold run.tells.writes run.before run.after p ranks settings barriers out map page.0 page.1 page.2 page.3)
asked_told run (to_decide_unrolled p ranks settings way beside as_json) asks (same, inl (none, complains)) says =
    absurd (complaint_untold run no_way 6 (λ one. omega (arith, one)) complains says)
asked_told run (to_decide_unrolled p ranks settings way beside as_json) asks (same, inr (barriers, is, inl (told, why, complains))) says =
    absurd (complaint_untold run told 6 (λ one. omega (arith, one)) complains says)
asked_told run (to_decide_unrolled p ranks settings way beside as_json) asks (same, inr (barriers, is, inr (first, last, ranked, ends))) says =
    let page = deadlock_page ends says in
    inr (inr (inr (inr (inr (
      p,
      ranked.text,
      settings,
      way,
      inl (beside, as_json, subst (λ (r : Option Text). AskFor run.words (to_decide_unrolled p r settings way beside as_json)) ranked.given asks),
      λ source held.
          let hangs = swept_hangs (run.before p) p source settings barriers as_json first last page.0 page.1 page.2 page.3 held in (
            barriers,
            is,
            hangs.number,
            record { first = first; last = last; is_range = ranked.is_range; above = hangs.above; below = hangs.below },
            hangs.hangs,
          ),
    )))))
asked_told run (to_explain_unrolled p ranks settings way evidence workers depth budget form map) asks (same, inl (none, complains)) says =
    absurd (complaint_untold run no_way 6 (λ one. omega (arith, one)) complains says)
asked_told run (to_explain_unrolled p ranks settings way evidence workers depth budget form map) asks (same, inr (barriers, is, inl (told, why, complains))) says =
    absurd (complaint_untold run told 6 (λ one. omega (arith, one)) complains says)
asked_told run (to_explain_unrolled p ranks settings way evidence workers depth budget form map) asks (same, inr (barriers, is, inr (first, last, ranked, ends))) says =
    let page = deadlock_page ends says in
    inr (inr (inr (inr (inr (
      p,
      ranked.text,
      settings,
      way,
      inr (
        evidence,
        workers,
        depth,
        budget,
        form,
        map,
        subst (λ (r : Option Text). AskFor run.words (to_explain_unrolled p r settings way evidence workers depth budget form map)) ranked.given asks,
      ),
      λ source held. (
        barriers,
        is,
        first,
        record { first = first; last = last; is_range = ranked.is_range; above = omega arith; below = rises ranked.text first last ranked.is_range },
        explained_hangs (run.before p) p source settings barriers budget form first page.0 page.1 page.2 page.3 held,
      ),
    )))))
asked_told run (to_decide_each programs junit beside as_json) asks (inl (stands, same, complains)) says =
    absurd (complaint_untold run beside_several 6 (λ one. omega (arith, one)) complains says)
asked_told run (to_decide_each programs junit beside as_json) asks (inr (alone, (others, ends))) says =
    let page = deadlock_page ends says in
    let hangs = each_hangs run.tells.writes run.before run.after (form_of_answer as_json) junit programs page.0 (decided_true run.before as_json) page.1 page.2 page.3 in
    inr (inr (inr (inr (inl (programs, junit, inl (beside, as_json, asks), (hangs.path, hangs.named, hangs.hangs))))))
asked_told run (to_explain_each programs junit workers depth budget form beside) asks (inl (stands, same, complains)) says =
    absurd (complaint_untold run beside_each 6 (λ one. omega (arith, one)) complains says)
asked_told run (to_explain_each programs junit workers depth budget form beside) asks (inr (alone, (others, ends))) says =
    let page = deadlock_page ends says in
    let hangs = each_hangs run.tells.writes run.before run.after form junit programs page.0 (explained_true run.before budget form) page.1 page.2 page.3 in
    inr (inr (inr (inr (inl (programs, junit, inr (workers, depth, budget, form, beside, asks), (hangs.path, hangs.named, hangs.hangs))))))

explained_untold : (run : SessionRun) (kind : ErrorKind) → ExplainsUsage run kind → TellsDeadlock run → ⊥
explained_untold run kind (inl usage) says = complaint_untold run usage.1.0 6 (λ one. omega (arith, one)) usage.1.1 says
explained_untold run kind (inr (inl help)) says = help_untold help.1.0 help.1.1 (deadlock_printed run help.1.0 0 help.1.2.0 says)
explained_untold run kind (inr (inr version)) says = version_untold (deadlock_printed run version_line 0 version.1.0 says)

unasked_untold : (run : SessionRun) → EndsUnasked run → TellsDeadlock run → ⊥
unasked_untold run ends says = elim ends.1 [
  | inl memory ↦ complaint_untold run early_line 4 (λ one. omega (arith, one)) memory says
  | inr explained ↦ explained_untold run explained.0 explained.2 says
]

pub any_told : ToldDeadlockIsShown
any_told run (inl asked) says = asked_told run asked.0 asked.1 asked.2 says
any_told run (inr unasked) says = absurd (unasked_untold run unasked says)

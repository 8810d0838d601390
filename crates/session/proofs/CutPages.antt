-- What is written of a cut, and the page of `phases`.
use Rattle.std.proofs.Common.{◌≡◌, ◌∙◌, ℕ, ◌+◌, ◌-◌, ◌<◌, Bool, true, List, [], ◌∷◌, ◌++◌, Some, None, Result, Ok, Err, IfOk, length, map, slice_get, arith, refl, sym, subst, ap, append_assoc, codes}
use Rattle.std.specs.Prelude.{Option, IsTrue, option_map, string_bytes}
use Rattle.std.specs.List.{AllByRecursion}
use Rattle.std.specs.Global.{Vec}
use Rattle.std.proofs.lemmas.List.{length-map}
use Rattle.std.proofs.lemmas.Option.{same_Some, slice_get-map}
use Rattle.calltext.specs.Grammar.{long}
use Rattle.callorder.specs.Programs.{MpiProgram}
use Rattle.callorder.specs.Resolving.{IsTextOfWithin}
use Rattle.files.specs.Contents.{AreAll}
use Rattle.deciding.specs.Decisions.{IsDecided}
use Rattle.deciding.specs.declared.decision.Decision.{Decision}
use Rattle.deciding.specs.declared.decision.Decision.TheVariants as decisions
use Rattle.deciding.specs.declared.texts.Undecided.{Undecided}
use Rattle.cutting.specs.Orders.{IsOrder}
use Rattle.cutting.specs.declared.whole.Phases.{Phases}
use Rattle.session.specs.parts.Phasing.{ArePathsApart, AreOutputs, AreTexts, IsPageOf, files_of}
use Rattle.session.specs.Phasing.{ChangesThese, ChangesWithin, FileText, HaveTexts, Hold, IsPhaseCut, IsCutDecision, IsCutPage, IsPartOfCut, IsWrittenCut, MakeUpProgram, Part, cut_line, is_race, job_lines, order_lines, path_in, text_files}
use Rattle.session.specs.Ties.{AreToldTies}
use Rattle.session.specs.declared.commands.Stop.{Stop}
use Rattle.session.specs.declared.cut_files.Outputs.{Outputs}
use Rattle.session.specs.declared.cut_files.Texts.{Texts}
use Rattle.session.specs.declared.page.Page.{Page}
use Rattle.session.proofs.CutNames.{apart, within}

-- ---- the numbers of a cut

one_before : (found : Option ℕ) (number : ℕ) → option_map (λ n. n + 1) found ≡ Some number → (n : ℕ) × (found ≡ Some n) × (number ≡ n + 1)
one_before None number e = cc
one_before (Some n) number e = (n, refl, sym (same_Some (n + 1) number e))

is_cut : (count : ℕ) (order : List ℕ) (parts : List Part) → IsOrder count order → length parts ≡ count → AllByRecursion IsPartOfCut parts
    → IsPhaseCut (record { parts = parts; order = map (λ n. n + 1) order })
is_cut count order parts is size all = record {
  parts = all;
  known = λ place number there.
      let from = one_before (slice_get order place) number (sym (slice_get-map (λ n. n + 1) order place) ∙ there) in
      let low = is.known place from.0 from.1 in
      (omega (arith, from.2), omega (arith, from.2, low, size));
  used = λ number above most.
      let at = is.used (number - 1) (omega (arith, above, most, size)) in
      let back : number - 1 + 1 ≡ number = omega (arith, above) in
      (at.0, slice_get-map (λ n. n + 1) order at.0 ∙ ap (option_map (λ n. n + 1)) at.1 ∙ ap (λ (n : ℕ). Some n) back);
}

-- as many phases differ as there are texts
pub as_many_texts : (parts : List Part) (texts : List (Vec ℕ)) → HaveTexts parts texts → length parts ≡ length texts
as_many_texts parts texts have = sym (length-map parts (λ part. part.text)) ∙ ap length have ∙ length-map texts (λ text. text.items)

pub outputs_are : (folder : List ℕ) (given : Phases) (parts : List Part) (texts : Texts) (outputs : Outputs) (list order : List ℕ)
    → IsOrder (length given.texts.items) given.order.items → AreTexts folder parts texts → HaveTexts parts given.texts.items
    → files_of outputs.files.items
    ≡ (files_of texts.files.items ++ record { path = path_in folder (codes "jobs"); text = list } ∷ []) ++ record { path = path_in folder (codes "phases"); text = order } ∷ []
    → list ≡ string_bytes texts.list → order ≡ order_lines (map (λ n. n + 1) given.order.items)
    → outputs.phases ≡ length given.order.items → outputs.different ≡ length given.texts.items → outputs.jobs ≡ texts.jobs → AreOutputs folder given outputs
outputs_are folder given parts texts outputs list order is are have files list_is order_is phases different jobs =
    let size = as_many_texts parts given.texts.items have in
    record {
      cut = record { parts = parts; order = map (λ n. n + 1) given.order.items };
      is = is_cut (length given.texts.items) given.order.items parts is size are.all;
      of = record { texts = have; order = refl };
      files =
          files
          ∙ (λ i. (are.files i ++ record { path = path_in folder (codes "jobs"); text = (list_is ∙ are.list) i } ∷ []) ++ record { path = path_in folder (codes "phases"); text = order_is i } ∷ [])
          ∙ append_assoc (text_files folder 1 parts) (record { path = path_in folder (codes "jobs"); text = job_lines folder 1 parts } ∷ [])
          (record { path = path_in folder (codes "phases"); text = order_lines (map (λ n. n + 1) given.order.items) } ∷ []);
      phases = phases ∙ sym (length-map given.order.items (λ n. n + 1));
      different = different ∙ sym size;
      jobs = jobs ∙ are.jobs;
    }

module _ (folder : List ℕ) (given : Phases) (outputs : Outputs) (are : AreOutputs folder given outputs) where
  -- no two files have one path
  pub files_apart : ArePathsApart (files_of outputs.files.items)
  files_apart =
      let few : length are.cut.parts < 18446744073709551615 = omega (arith, as_many_texts are.cut.parts given.texts.items are.of.texts, given.texts.ok.0) in
      subst ArePathsApart (sym are.files) (apart folder are.cut few)

  -- all are in the folder
  pub files_within : (old new : List ℕ → Option (List ℕ)) → ChangesThese (files_of outputs.files.items) old new → ChangesWithin folder old new
  files_within old new others =
      within folder are.cut old new (subst (λ (files : List FileText). ChangesThese files old new) are.files others)

-- ---- the page

pub is_written : (tells : Bool) (old new : List ℕ → Option (List ℕ)) (folder : List ℕ) (given : Phases) (outputs : Outputs) (program told text : List ℕ) (status : ℕ) (p : MpiProgram) (are : AreOutputs folder given outputs)
    → IsTextOfWithin long program p → MakeUpProgram p given → AreToldTies program p told → IsPageOf outputs told text status → (IsTrue tells → Hold (files_of outputs.files.items) new) → ChangesThese (files_of outputs.files.items) old new
    → IsWrittenCut tells old new folder program text status
is_written tells old new folder given outputs program told text status p are is made ties page held others = record {
  cut = are.cut;
  is = are.is;
  whole = record { p = p; phases = given; is_text = is; of = are.of; made = made };
  line = (told, ties, page.0 ∙ (λ i. cut_line (are.phases i) (are.different i) (are.jobs i) ++ told), page.1);
  files = λ t. subst (λ (files : List FileText). Hold files new) are.files (held t);
  others = subst (λ (files : List FileText). ChangesThese files old new) are.files others;
}

race_cut : (tells : Bool) (old new : List ℕ → Option (List ℕ)) (folder program : List ℕ) (d : Result Decision Undecided) (text : List ℕ) (status : ℕ)
    → is_race d ≡ true → IsWrittenCut tells old new folder program text status → IsCutDecision tells old new folder program d text status
race_cut tells old new folder program (Ok decisions.NoDeadlock) text status race cut = cc
race_cut tells old new folder program (Ok (decisions.Deadlock steps)) text status race cut = cc
race_cut tells old new folder program (Ok (decisions.Race found)) text status race cut = cut
race_cut tells old new folder program (Err why) text status race cut = cc

pub race_page_cut : (tells : Bool) (old between new : List ℕ → Option (List ℕ)) (path folder program given : List ℕ) (d : Result Decision Undecided) (page : Result Page Stop)
    → between ≡ old → given ≡ program → AreAll (old path) program → IsDecided program d → is_race d ≡ true
    → IfOk page (λ p. IsWrittenCut tells between new folder given p.text.items p.status) → IfOk page (λ p. IsCutPage tells old new path folder p.text.items p.status)
race_page_cut tells old between new path folder program given d (Ok page) same one all is race cut = (
  program,
  d,
  all,
  is,
  race_cut tells old new folder program d page.text.items page.status race
      (subst (λ (held : List ℕ → Option (List ℕ)). IsWrittenCut tells held new folder program page.text.items page.status) same
      (subst (λ (bytes : List ℕ). IsWrittenCut tells between new folder bytes page.text.items page.status) one cut)),
)
race_page_cut tells old between new path folder program given d (Err e) same one all is race cut = tt

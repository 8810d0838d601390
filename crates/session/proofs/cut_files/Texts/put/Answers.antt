-- The phase that is added has its text, and is a job or not.
use Rattle.std.proofs.Common.{◌∙◌, ℕ, ◌+◌, ◌<◌, cond, List, [], ◌∷◌, ◌++◌, codes, arith, subst}
use Rattle.std.specs.Prelude.{string_bytes}
use Rattle.session.specs.parts.Phasing.{files_of}
use Rattle.session.specs.Phasing.{IsPartOfCut, path_in}
use Rattle.session.proofs.CutTexts.{as_many, few_jobs, one_text}
use Rattle.session.proofs.cut_files.Texts.put.Goals as goal

pub returns : goal.returns
returns c = λ parts so_far.
    let folder = c.args.folder.now in
    let old = c.args.self.now in
    let text = c.args.text.items in
    let many = as_many folder parts old so_far in
    let few : old.jobs < 18446744073709551615 = omega (arith, few_jobs folder parts old so_far, many, c.len.ensures, old.files.ok.0) in
    let name_is = c.deref-2.ensures in (
      c.in_ok-job.job,
      one_text folder parts old so_far _ text (string_bytes c.in_ok-name.name) c.in_ok-job.job (c.len.result + 1) (omega (arith, c.len.ensures, many, old.files.ok.0)) c.in_ok-name.ensures
          (subst (λ (bytes : List ℕ). IsPartOfCut (record { text = bytes; job = c.in_ok-job.job })) c.deref.ensures.value c.in_ok-job.ensures)
          (c.in_ok-put_file.ensures ∙ (λ i. files_of (c.in_ok-note.ensures.files i).items ++ record { path = path_in folder (c.deref-3.ensures i); text = text } ∷ []))
          (c.in_ok-note.ensures.list ∙ (λ i. string_bytes old.list ++ cond c.in_ok-job.job (path_in folder (name_is i) ++ codes "\n") [])) (c.in_ok-note.ensures.jobs few),
    )

-- One phase more, of which a file is written.
use Rattle.std.proofs.Common.{◌≡◌, ◌∙◌, ℕ, suc, ◌+◌, ◌≤◌, Bool, true, false, cond, List, [], ◌∷◌, ◌++◌, length, map, arith, refl, sym, ap, append_assoc, codes}
use Rattle.std.specs.Prelude.{string_bytes}
use Rattle.std.specs.Global.{Vec}
use Rattle.std.proofs.lemmas.List.{append-nil, length-map, map-append}
use Rattle.std.proofs.lemmas.List.Sums.{count_by-le-length, sum_by-append, sum_by-cons}
use Rattle.callorder.proofs.Lookups.{All-append}
use Rattle.session.specs.parts.Phasing.{AreTexts, files_of}
use Rattle.session.specs.Phasing.{HaveTexts, IsPartOfCut, Part, count_jobs, file_name, job_line, job_lines, path_in, text_files, text_path}
use Rattle.session.specs.declared.cut_files.Texts.{Texts}
use Rattle.session.proofs.CutNames.{length-text_files}

job_lines_more : (folder : List ℕ) (number : ℕ) (parts : List Part) (part : Part)
    → job_lines folder number (parts ++ part ∷ []) ≡ job_lines folder number parts ++ job_line folder (number + length parts) part.job
job_lines_more folder number [] part =
    let here : number ≡ number + 0 = omega arith in append-nil (job_line folder number part.job) ∙ ap (λ (n : ℕ). job_line folder n part.job) here
job_lines_more folder number (first ∷ parts) part =
    let here : number + 1 + length parts ≡ number + suc (length parts) = omega arith in
    ap (λ (l : List ℕ). job_line folder number first.job ++ l) (job_lines_more folder (number + 1) parts part)
    ∙ sym (append_assoc (job_line folder number first.job) (job_lines folder (number + 1) parts) (job_line folder (number + 1 + length parts) part.job))
    ∙ ap (λ (n : ℕ). (job_line folder number first.job ++ job_lines folder (number + 1) parts) ++ job_line folder n part.job) here

text_files_more : (folder : List ℕ) (number : ℕ) (parts : List Part) (part : Part)
    → text_files folder number (parts ++ part ∷ []) ≡ text_files folder number parts ++ record { path = text_path folder (number + length parts); text = part.text } ∷ []
text_files_more folder number [] part =
    let here : number ≡ number + 0 = omega arith in λ i. record { path = text_path folder (here i); text = part.text } ∷ []
text_files_more folder number (first ∷ parts) part =
    let here : number + 1 + length parts ≡ number + suc (length parts) = omega arith in
    ap (λ l. record { path = text_path folder number; text = first.text } ∷ l) (text_files_more folder (number + 1) parts part)
    ∙ (λ i. record { path = text_path folder number; text = first.text } ∷ (text_files folder (number + 1) parts ++ record { path = text_path folder (here i); text = part.text } ∷ []))

line_of_job : (folder name : List ℕ) (number : ℕ) (job : Bool) → name ≡ file_name number (codes ".mpi")
    → cond job (path_in folder name ++ codes "\n") [] ≡ job_line folder number job
line_of_job folder name number true is = ap (λ (n : List ℕ). path_in folder n ++ codes "\n") is
line_of_job folder name number false is = refl

added : (job : Bool) (old new : ℕ) → new ≡ cond job (old + 1) old → new ≡ old + cond job 1 0
added true old new one = one
added false old new one = omega (arith, one)

jobs_more : (parts : List Part) (part : Part) (old new : ℕ) → old ≡ count_jobs parts → new ≡ cond part.job (old + 1) old → new ≡ count_jobs (parts ++ part ∷ [])
jobs_more parts part old new so_far one =
    let test : Part → ℕ = λ p. cond p.job 1 0 in
    omega (arith, added part.job old new one, so_far, sum_by-append test parts (part ∷ []), sum_by-cons test part [])

module _ (folder : List ℕ) (parts : List Part) (old : Texts) (so_far : AreTexts folder parts old) where
  pub as_many : length old.files.items ≡ length parts
  as_many = sym (length-map old.files.items _) ∙ ap length so_far.files ∙ length-text_files folder 1 parts

  pub few_jobs : old.jobs ≤ length parts
  few_jobs = omega (arith, so_far.jobs, count_by-le-length (λ part. part.job) parts)

  pub one_text : (new : Texts) (text name : List ℕ) (job : Bool) (number : ℕ) → number ≡ length parts + 1 → name ≡ file_name number (codes ".mpi")
      → IsPartOfCut (record { text = text; job = job })
      → files_of new.files.items ≡ files_of old.files.items ++ record { path = path_in folder name; text = text } ∷ []
      → string_bytes new.list ≡ string_bytes old.list ++ cond job (path_in folder name ++ codes "\n") []
      → new.jobs ≡ cond job (old.jobs + 1) old.jobs
      → AreTexts folder (parts ++ record { text = text; job = job } ∷ []) new
  one_text new text name job number at named is file line jobs =
      let part : Part = record { text = text; job = job } in
      let here : number ≡ 1 + length parts = omega (arith, at) in
      record {
        all = All-append IsPartOfCut parts (part ∷ []) so_far.all (is, tt);
        files =
            file ∙ (λ i. so_far.files i ++ record { path = path_in folder (named i); text = text } ∷ [])
            ∙ (λ i. text_files folder 1 parts ++ record { path = text_path folder (here i); text = text } ∷ []) ∙ sym (text_files_more folder 1 parts part);
        list =
            line ∙ (λ i. so_far.list i ++ line_of_job folder name number job named i)
            ∙ (λ i. job_lines folder 1 parts ++ job_line folder (here i) job) ∙ sym (job_lines_more folder 1 parts part);
        jobs = jobs_more parts part old.jobs new.jobs so_far.jobs jobs;
      }

-- the texts of one phase more
pub texts_more : (parts : List Part) (texts : List (Vec ℕ)) (text : Vec ℕ) (job : Bool) → HaveTexts parts texts
    → HaveTexts (parts ++ record { text = text.items; job = job } ∷ []) (texts ++ text ∷ [])
texts_more parts texts text job so_far =
    map-append (λ part. part.text) parts _ ∙ ap (λ (l : List (List ℕ)). l ++ text.items ∷ []) so_far ∙ sym (map-append (λ t. t.items) texts (text ∷ []))

-- The names of the files of a cut: no two have one path, and all are in the folder.
use Rattle.std.proofs.Common.{◌≡◌, ◌≢◌, ◌∙◌, ℕ, zero, suc, ◌+◌, ◌-◌, ◌<◌, ◌≤◌, inl, inr, List, [], ◌∷◌, ◌++◌, Some, length, replicate, get_or, slice_get, arith, refl, sym, subst, ap, codes, decimal, length-append, append_assoc}
use Rattle.std.specs.Prelude.{Option, ◌^◌}
use Rattle.std.proofs.lemmas.Fmt.{decimal_injective, first_decimal}
use Rattle.std.proofs.lemmas.List.{append_cancel_left, append_cancel_right, length-replicate}
use Rattle.std.proofs.lemmas.Option.{same_Some}
use Rattle.callorder.proofs.Lookups.{slice_get_of_append}
use Rattle.session.specs.parts.Phasing.{ArePathsApart}
use Rattle.session.specs.Phasing.{ChangesThese, ChangesWithin, PhaseCut, FileText, Hold, Part, cut_files, file_name, job_lines, order_lines, path_in, text_files, text_path}

-- ---- names

one_digits : (a b : ℕ) (m n : List ℕ) → 48 < get_or m 0 0 → 48 < get_or n 0 0 → replicate a 48 ++ m ≡ replicate b 48 ++ n → m ≡ n
one_digits zero zero m n low high e = e
one_digits zero (suc b) m n low high e = absurd (omega (arith, low, ap (λ (l : List ℕ). get_or l 0 0) e))
one_digits (suc a) zero m n low high e = absurd (omega (arith, high, ap (λ (l : List ℕ). get_or l 0 0) e))
one_digits (suc a) (suc b) m n low high e = one_digits a b m n low high (append_cancel_left (48 ∷ []) (replicate a 48 ++ m) (replicate b 48 ++ n) e)

one_number : (m n : ℕ) (end : List ℕ) → 0 < m → 0 < n → m < 2 ^ 64 → n < 2 ^ 64 → file_name m end ≡ file_name n end → m ≡ n
one_number m n end above over few least e =
    let zeros : ℕ → List ℕ = λ k. replicate (4 - length (decimal k)) 48 in
    let whole : (zeros m ++ decimal m) ++ end ≡ (zeros n ++ decimal n) ++ end =
    append_assoc (zeros m) (decimal m) end ∙ e ∙ sym (append_assoc (zeros n) (decimal n) end) in
    decimal_injective m n few least
    (one_digits (4 - length (decimal m)) (4 - length (decimal n)) (decimal m) (decimal n) (first_decimal m above few) (first_decimal n over least)
    (append_cancel_right (zeros m ++ decimal m) (zeros n ++ decimal n) end whole))

long_name : (n : ℕ) → 8 ≤ length (file_name n (codes ".mpi"))
long_name n =
    let zeros : List ℕ = replicate (4 - length (decimal n)) 48 in
    let size : length zeros ≡ 4 - length (decimal n) = length-replicate (4 - length (decimal n)) 48 in
    omega (arith, size, length-append zeros (decimal n ++ codes ".mpi"), length-append (decimal n) (codes ".mpi"))

one_name : (folder a b : List ℕ) → path_in folder a ≡ path_in folder b → a ≡ b
one_name folder a b e = append_cancel_left (codes "/") a b (append_cancel_left folder (codes "/" ++ a) (codes "/" ++ b) e)

-- ---- the files

text_at : (folder : List ℕ) (number : ℕ) (parts : List Part) (place : ℕ) (file : FileText) → slice_get (text_files folder number parts) place ≡ Some file
    → (place < length parts) × (file.path ≡ text_path folder (number + place))
text_at folder number [] place file e = cc
text_at folder number (part ∷ parts) zero file e =
    let same = same_Some _ file e in (omega arith, ap (λ (f : FileText). f.path) (sym same) ∙ ap (text_path folder) (omega arith))
text_at folder number (part ∷ parts) (suc place) file e =
    let rest = text_at folder (number + 1) parts place file e in (omega (arith, rest.0), rest.1 ∙ ap (text_path folder) (omega arith))

pub text_there : (folder : List ℕ) (number : ℕ) (parts : List Part) (place : ℕ) (part : Part) → slice_get parts place ≡ Some part
    → slice_get (text_files folder number parts) place ≡ Some (record { path = text_path folder (number + place); text = part.text })
text_there folder number [] place part e = cc
text_there folder number (first ∷ parts) zero part e =
    let here : number ≡ number + 0 = omega arith in
    let same = same_Some first part e in
    λ i. Some (record { path = text_path folder (here i); text = (same i).text })
text_there folder number (first ∷ parts) (suc place) part e =
    let here : number + 1 + place ≡ number + suc place = omega arith in
    subst (λ (n : ℕ). slice_get (text_files folder (number + 1) parts) place ≡ Some (record { path = text_path folder n; text = part.text })) here
    (text_there folder (number + 1) parts place part e)

pub length-text_files : (folder : List ℕ) (number : ℕ) (parts : List Part) → length (text_files folder number parts) ≡ length parts
length-text_files folder number [] = refl
length-text_files folder number (part ∷ parts) = ap suc (length-text_files folder (number + 1) parts)

pub in_front : {X : Type 0} (xs ys : List X) (i : ℕ) (x : X) → slice_get xs i ≡ Some x → slice_get (xs ++ ys) i ≡ Some x
in_front [] ys i x h = cc
in_front (y ∷ xs) ys zero x h = h
in_front (y ∷ xs) ys (suc i) x h = in_front xs ys i x h

behind : {X : Type 0} (xs : List X) (x y : X) → slice_get (xs ++ (x ∷ y ∷ [])) (length xs) ≡ Some x
behind [] x y = refl
behind (z ∷ xs) x y = behind xs x y

behind_one : {X : Type 0} (xs : List X) (x y : X) → slice_get (xs ++ (x ∷ y ∷ [])) (length xs + 1) ≡ Some y
behind_one [] x y = refl
behind_one (z ∷ xs) x y =
    let here : suc (length xs + 1) ≡ suc (length xs) + 1 = omega arith in
    subst (λ (n : ℕ). slice_get (z ∷ (xs ++ (x ∷ y ∷ []))) n ≡ Some y) here (behind_one xs x y)

-- what a file of the cut is called
pub data IsNamed (folder : List ℕ) (count place : ℕ) (path : List ℕ) : Type 0 where
  a_text : place < count → path ≡ text_path folder (place + 1) → IsNamed folder count place path
  the_jobs : place ≡ count → path ≡ path_in folder (codes "jobs") → IsNamed folder count place path
  the_order : place ≡ count + 1 → path ≡ path_in folder (codes "phases") → IsNamed folder count place path

module _ (folder : List ℕ) (cut : PhaseCut) where
  last_two : (place : ℕ) (file : FileText) (k : ℕ) → place ≡ length cut.parts + k
      → slice_get (record { path = path_in folder (codes "jobs"); text = job_lines folder 1 cut.parts } ∷ record { path = path_in folder (codes "phases"); text = order_lines cut.order } ∷ []) k ≡ Some file
      → IsNamed folder (length cut.parts) place file.path
  last_two place file zero at e = the_jobs (omega (arith, at)) (ap (λ (f : FileText). f.path) (sym (same_Some _ file e)))
  last_two place file (suc zero) at e = the_order (omega (arith, at)) (ap (λ (f : FileText). f.path) (sym (same_Some _ file e)))
  last_two place file (suc (suc k)) at e = cc

  pub named : (place : ℕ) (file : FileText) → slice_get (cut_files folder cut) place ≡ Some file → IsNamed folder (length cut.parts) place file.path
  named place file e = elim (slice_get_of_append (text_files folder 1 cut.parts) _ place file e) [
    | inl text ↦ let is = text_at folder 1 cut.parts place file text.0 in a_text is.0 (is.1 ∙ ap (text_path folder) (omega arith))
    | inr last ↦ last_two place file last.0 (omega (arith, last.1, length-text_files folder 1 cut.parts)) last.2
  ]

  other_names : (few : length cut.parts < 18446744073709551615) (i j : ℕ) (a b : List ℕ) → i < j
      → IsNamed folder (length cut.parts) i a → IsNamed folder (length cut.parts) j b → a ≢ b
  other_names few i j a b below (a_text low is) (a_text high other) same =
      let one = one_number (i + 1) (j + 1) (codes ".mpi") (omega arith) (omega arith) (omega (arith, low, few)) (omega (arith, high, few))
      (one_name folder _ _ (sym is ∙ same ∙ other)) in
      omega (arith, one, below)
  other_names few i j a b below (a_text low is) (the_jobs high other) same =
      let one = one_name folder (file_name (i + 1) (codes ".mpi")) (codes "jobs") (sym is ∙ same ∙ other) in
      omega (arith, long_name (i + 1), ap length one)
  other_names few i j a b below (a_text low is) (the_order high other) same =
      let one = one_name folder (file_name (i + 1) (codes ".mpi")) (codes "phases") (sym is ∙ same ∙ other) in
      omega (arith, long_name (i + 1), ap length one)
  other_names few i j a b below (the_jobs low is) (the_order high other) same =
      omega (arith, ap length (one_name folder (codes "jobs") (codes "phases") (sym is ∙ same ∙ other)))
  other_names few i j a b below (the_jobs low is) (a_text high other) same = omega (arith, low, high, below)
  other_names few i j a b below (the_jobs low is) (the_jobs high other) same = omega (arith, low, high, below)
  other_names few i j a b below (the_order low is) (a_text high other) same = omega (arith, low, high, below)
  other_names few i j a b below (the_order low is) (the_jobs high other) same = omega (arith, low, high, below)
  other_names few i j a b below (the_order low is) (the_order high other) same = omega (arith, low, high, below)

  pub apart : length cut.parts < 18446744073709551615 → ArePathsApart (cut_files folder cut)
  apart few i j a b below first second = other_names few i j a.path b.path below (named i a first) (named j b second)

  in_folder : (count place : ℕ) (path : List ℕ) → IsNamed folder count place path → (name : List ℕ) × (path ≡ path_in folder name)
  in_folder count place path (a_text low is) = (file_name (place + 1) (codes ".mpi"), is)
  in_folder count place path (the_jobs low is) = (codes "jobs", is)
  in_folder count place path (the_order low is) = (codes "phases", is)

  -- all are in the folder
  pub within : (old new : List ℕ → Option (List ℕ)) → ChangesThese (cut_files folder cut) old new → ChangesWithin folder old new
  within old new others path outside =
      others path (λ place file there same. let is = in_folder (length cut.parts) place file.path (named place file there) in outside is.0 (same ∙ is.1))

  -- what stands at each path
  module _ (new : List ℕ → Option (List ℕ)) (all : Hold (cut_files folder cut) new) where
    pub text_held : (place : ℕ) (part : Part) → slice_get cut.parts place ≡ Some part → new (text_path folder (place + 1)) ≡ Some part.text
    text_held place part there =
        let here : 1 + place ≡ place + 1 = omega arith in
        subst (λ (n : ℕ). new (text_path folder n) ≡ Some part.text) here
        (all place _ (in_front (text_files folder 1 cut.parts) _ place _ (text_there folder 1 cut.parts place part there)))

    pub jobs_held : new (path_in folder (codes "jobs")) ≡ Some (job_lines folder 1 cut.parts)
    jobs_held = all (length (text_files folder 1 cut.parts)) _ (behind (text_files folder 1 cut.parts) _ _)

    pub order_held : new (path_in folder (codes "phases")) ≡ Some (order_lines cut.order)
    order_held = all (length (text_files folder 1 cut.parts) + 1) _ (behind_one (text_files folder 1 cut.parts) _ _)

  pub others_kept : (old new : List ℕ → Option (List ℕ)) → ChangesThese (cut_files folder cut) old new → (path : List ℕ)
      → ((place : ℕ) → place < length cut.parts → path ≢ text_path folder (place + 1)) → path ≢ path_in folder (codes "jobs")
      → path ≢ path_in folder (codes "phases") → new path ≡ old path
  others_kept old new others path texts jobs order = others path (λ place file there. outside place file.path (named place file there))
    where
      outside : (place : ℕ) (other : List ℕ) → IsNamed folder (length cut.parts) place other → path ≢ other
      outside place other (a_text low is) same = texts place low (same ∙ is)
      outside place other (the_jobs low is) same = jobs (same ∙ is)
      outside place other (the_order low is) same = order (same ∙ is)

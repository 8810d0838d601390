-- The bytes of a text have one meaning.
use Rattle.std.proofs.Common.{◌≡◌, ℕ, ℤ, List, [], ◌∷◌, map, Option, Some, None, Result, Ok, Err, if◌then◌else◌, nat_eq, refl, ap, sym, ◌∙◌}
use Rattle.std.specs.List.{list_any}
use Rattle.std.specs.Global.{Vec}
use Rattle.spmd_text.specs.declared.reading.SpmdText.{SpmdText}
use Rattle.spmd_text.specs.Texts.{AreOneText}
use Rattle.spmd_text.specs.Tokens.{place_from}
use Rattle.spmd_text.proofs.OneText.{texts_are_one}
use Rattle.spmd_tree.specs.Plain.{Place}
use Rattle.unroll.specs.declared.value.Value.{Value}
use Rattle.unroll.specs.Statements.{text_run}
use Rattle.unroll.proofs.Meanings.{plain_forms_mean_the_same}
use Rattle.spmd_program.specs.declared.settings.SettingFault.TheVariants as fault
use Rattle.spmd_program.specs.Settings.{Unset, has_equals, name_in_setting, number_in_value, of_parameter, on_set, parameter_of, set_all, set_number, set_one, set_place, unset, value_in, values_of_settings}
use Rattle.spmd_program.specs.Unrolling.{OutcomesAreOne}

-- ---- settings

unset_names : (names : List (Vec ℕ)) → unset names ≡ map (λ _. None) (map (λ n. n.items) names)
unset_names [] = refl
unset_names (n ∷ ns) = ap (λ (l : List (Option Value)). None ∷ l) (unset_names ns)

module _ (t u : SpmdText) (same : AreOneText t u) where
  parameter_is : (o : Option ℕ) → of_parameter t o ≡ of_parameter u o
  parameter_is None = refl
  parameter_is (Some place) = ap (λ (l : List ℕ). if list_any (λ p. nat_eq p place) l then Some place else None) same.parameters

  place_is : (name : List ℕ) → parameter_of t name ≡ parameter_of u name
  place_is name = parameter_is (place_from name 0 (map (λ n. n.items) t.names.items)) ∙ ap (λ (l : List (List ℕ)). of_parameter u (place_from name 0 l)) same.names

  number_is : (values : List (Option Value)) (name : List ℕ) (number : Option ℤ) → set_number t values name number ≡ set_number u values name number
  number_is values name None = refl
  number_is values name (Some number) = ap (set_place values number) (place_is name)

  one_is : (values : List (Option Value)) (word : List ℕ) → set_one t values word ≡ set_one u values word
  one_is values word = λ i. if has_equals word then number_is values (name_in_setting word) (number_in_value (value_in word)) i else Err fault.NoEquals

  all_are : (values : List (Option Value)) (words : List (List ℕ)) → set_all t values words ≡ set_all u values words
  all_are values [] = refl
  all_are values (w ∷ ws) = λ i. on_set w (one_is values w i) (λ v. all_are v ws i)

  values_are : (words : List (List ℕ)) → values_of_settings t words ≡ values_of_settings u words
  values_are words =
      all_are (unset t.names.items) words
      ∙ ap (λ (values : List (Option Value)). set_all u values words) (unset_names t.names.items ∙ (ap (map (λ _. None)) same.names ∙ sym (unset_names u.names.items)))

same_values : (a b : List (Option Value)) → ◌≡◌ {A = Result (List (Option Value)) Unset} (Ok a) (Ok b) → a ≡ b
same_values a b e = ap inner e
  where
    inner : Result (List (Option Value)) Unset → List (Option Value)
    inner (Ok values) = values
    inner (Err bad) = a

-- ---- the law

pub outcomes_are_one : OutcomesAreOne
outcomes_are_one bytes ranks settings barriers t u one other m m' =
    let same = texts_are_one bytes t u m.is_text m'.is_text in
    let values = same_values m.values m'.values (sym m.set ∙ (values_are t u same settings ∙ m'.set)) in
    let p : Place = record { ptr = t.names.ptr; alloc = t.names.alloc; value = tt } in
    sym m.run
    ∙ (plain_forms_mean_the_same p t.program u.program (same.program p) m.values ranks barriers 18446744073709551615 10000000
    ∙ (ap (λ (v : List (Option Value)). text_run u.program v ranks barriers 18446744073709551615 10000000) values ∙ m'.run))

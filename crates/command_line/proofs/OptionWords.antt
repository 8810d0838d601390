-- Words in other orders, with all options.
use Rattle.std.proofs.Common.{◌∙◌, refl, true, false, List, [], ◌∷◌, Some, None, codes}
use Rattle.clap.specs.Words.{Text}
use Rattle.clap.proofs.OnLiterals.{clap_on_literals}
use Rattle.options.specs.declared.form.Form.TheVariants.{Graph}
use Rattle.command_line.specs.Requests.{spelled_number, to_check, to_explain, to_prove}
use Rattle.command_line.specs.UsualWords.{IsFree, OptionWordsAreRead, check_json_between, check_json_first, check_pieces, explain_options_last, prove_options_first, prove_options_last}
use Rattle.command_line.proofs.CommandNames.{check_is, explain_is, prove_is}
use Rattle.command_line.proofs.Parts.{Part, bare, fixed, given, read_by}

-- the four options of a search that have values, and then `--progress` and `--json`
abbrev option_parts : (file workers depth budget : Text) → IsFree file → IsFree workers → IsFree depth → IsFree budget → List Part → List Part
option_parts file workers depth budget ff fw fd fb rest =
    fixed (codes "--out") ∷ given file ff ∷ fixed (codes "--workers") ∷ given workers fw ∷ fixed (codes "--depth") ∷ given depth fd
    ∷ fixed (codes "--budget") ∷ given budget fb ∷ fixed (codes "--progress") ∷ fixed (codes "--json") ∷ rest

pub option_words_are_read : OptionWordsAreRead
unfolding clap_on_literals
option_words_are_read _ _ asked (check_json_first name p e fp fe) asks =
    read_by (fixed (codes "--json") ∷ given p fp ∷ given e fe ∷ []) check_is refl asks
option_words_are_read _ _ asked (check_json_between name p e fp fe) asks =
    read_by (given p fp ∷ fixed (codes "--json") ∷ given e fe ∷ []) check_is refl asks
option_words_are_read _ _ asked (check_pieces name p e pieces fp fe fn) asks =
    read_by (given p fp ∷ given e fe ∷ fixed (codes "--pieces") ∷ given pieces fn ∷ []) check_is refl asks
    ∙ (λ i. to_check p e (spelled_number (bare pieces fn i)) false)
option_words_are_read _ _ asked (prove_options_first name p file workers depth budget fp ff fw fd fb) asks =
    read_by (option_parts file workers depth budget ff fw fd fb (given p fp ∷ [])) prove_is refl asks
    ∙ (λ i. to_prove p (Some file) (spelled_number (bare workers fw i)) (spelled_number (bare depth fd i)) (spelled_number (bare budget fb i)) true true)
option_words_are_read _ _ asked (prove_options_last name p file workers depth budget fp ff fw fd fb) asks =
    read_by (given p fp ∷ option_parts file workers depth budget ff fw fd fb []) prove_is refl asks
    ∙ (λ i. to_prove p (Some file) (spelled_number (bare workers fw i)) (spelled_number (bare depth fd i)) (spelled_number (bare budget fb i)) true true)
option_words_are_read _ _ asked (explain_options_last name p workers depth budget fp fw fd fb) asks =
    read_by (given p fp ∷ fixed (codes "--workers") ∷ given workers fw ∷ fixed (codes "--depth") ∷ given depth fd ∷ fixed (codes "--budget") ∷ given budget fb
    ∷ fixed (codes "--dot") ∷ []) explain_is refl asks
    ∙ (λ i. to_explain p None (spelled_number (bare workers fw i)) (spelled_number (bare depth fd i)) (spelled_number (bare budget fb i)) Graph None)

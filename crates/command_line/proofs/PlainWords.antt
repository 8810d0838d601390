-- Words in their usual order ask for their task.
use Rattle.std.proofs.Common.{◌≡◌, ap, arith, refl, ℕ, Bool, [], ◌∷◌, Option, Some, codes}
use Rattle.std.specs.Prelude.{if◌then◌else◌}
use Rattle.std.specs.Str.Parse.{IsNumeral, without_leading_plus}
use Rattle.clap.specs.Kinds.{or_else}
use Rattle.clap.specs.Words.{Text}
use Rattle.clap.proofs.OnLiterals.{clap_on_literals}
use Rattle.clap.specs.declared.error.kind.ErrorKind.TheVariants.{ValueValidation}
use Rattle.options.specs.declared.form.Form.TheVariants.{Brief, Whole, Graph, Chart, Picture, Page, Object, Messages}
use Rattle.command_line.specs.Requests.{spelled_number}
use Rattle.command_line.specs.UsualWords.{PlainWordsAreRead, check_form, check_json_form, check_pieces_form, decide_both_form, decide_form, decide_phases_form, phases_form, join_form, join_json_form, join_out_form, decide_ranks_form, decide_ranks_set_form, decide_json_form, decide_junit_form, decide_out_form, explain_each_form, explain_three_form, encode_dimacs_form, encode_form, explain_alone_form, explain_form, explain_map_form, explain_ranks_form, export_form, prove_form, prove_json_form, prove_out_form, prove_progress_form, replay_form, replay_lines_form, shrink_form, shrink_map_form, shrink_out_form, trim_form, trim_json_form, unroll_collectives_form, unroll_form, unroll_map_form, unroll_set_form, unroll_sets_form}
use Rattle.command_line.proofs.CommandNames.{check_is, decide_is, encode_is, explain_is, export_is, prove_is, replay_is, shrink_is, trim_is, unroll_is, phases_is, join_is}
use Rattle.command_line.proofs.Parts.{asks_by, bare, fixed, given}
use Rattle.command_line.proofs.PieceWords.{pieces_are_free, pieces_pass, plusless}

-- what an option's text spells
abbrev Spells : Option Text → ℕ → Type 0
Spells o number = (text : Text) × (o ≡ Some text) × IsNumeral 10 (without_leading_plus text) × (number ≡ spelled_number text)

-- the usual numbers
four : {o : Option Text} → o ≡ Some (codes "4") → Spells o 4
four is = (codes "4", is, (omega arith, (omega arith, tt)), refl)

million : {o : Option Text} → o ≡ Some (codes "1000000") → Spells o 1000000
million is =
    (codes "1000000", is, (omega arith, (omega arith, (omega arith, (omega arith, (omega arith, (omega arith, (omega arith, (omega arith, tt)))))))), refl)

pub plain_words_are_read : PlainWordsAreRead
unfolding clap_on_literals
plain_words_are_read _ _ (check_form name p e fp fe) =
    asks_by (given p fp ∷ given e fe ∷ []) check_is refl refl refl (refl, refl, four refl, refl)
plain_words_are_read _ _ (check_json_form name p e fp fe) =
    asks_by (given p fp ∷ given e fe ∷ fixed (codes "--json") ∷ []) check_is refl refl refl (refl, refl, four refl, refl)
plain_words_are_read _ _ (replay_form name p e fp fe) =
    asks_by (given p fp ∷ given e fe ∷ []) replay_is refl refl refl (refl, refl, refl)
plain_words_are_read _ _ (replay_lines_form name p e fp fe) =
    asks_by (given p fp ∷ given e fe ∷ fixed (codes "--lines") ∷ []) replay_is refl refl refl (refl, refl, refl)
plain_words_are_read _ _ (encode_form name p fp) =
    asks_by (given p fp ∷ []) encode_is refl refl refl (refl, refl)
plain_words_are_read _ _ (encode_dimacs_form name p fp) =
    asks_by (given p fp ∷ fixed (codes "--dimacs") ∷ []) encode_is refl refl refl (refl, refl)
plain_words_are_read _ _ (explain_form name p e Brief fp fe) =
    asks_by (given p fp ∷ given e fe ∷ []) explain_is refl refl refl (refl, refl, four refl, four refl, million refl, refl, refl, refl, refl)
plain_words_are_read _ _ (explain_form name p e Whole fp fe) =
    asks_by (given p fp ∷ given e fe ∷ fixed (codes "--all") ∷ []) explain_is refl refl refl (refl, refl, four refl, four refl, million refl, refl, refl, refl, refl)
plain_words_are_read _ _ (explain_form name p e Graph fp fe) =
    asks_by (given p fp ∷ given e fe ∷ fixed (codes "--dot") ∷ []) explain_is refl refl refl (refl, refl, four refl, four refl, million refl, refl, refl, refl, refl)
plain_words_are_read _ _ (explain_form name p e Chart fp fe) =
    asks_by (given p fp ∷ given e fe ∷ fixed (codes "--chart") ∷ []) explain_is refl refl refl (refl, refl, four refl, four refl, million refl, refl, refl, refl, refl)
plain_words_are_read _ _ (explain_form name p e Picture fp fe) =
    asks_by (given p fp ∷ given e fe ∷ fixed (codes "--svg") ∷ []) explain_is refl refl refl (refl, refl, four refl, four refl, million refl, refl, refl, refl, refl)
plain_words_are_read _ _ (explain_form name p e Page fp fe) =
    asks_by (given p fp ∷ given e fe ∷ fixed (codes "--html") ∷ []) explain_is refl refl refl (refl, refl, four refl, four refl, million refl, refl, refl, refl, refl)
plain_words_are_read _ _ (explain_form name p e Object fp fe) =
    asks_by (given p fp ∷ given e fe ∷ fixed (codes "--json") ∷ []) explain_is refl refl refl (refl, refl, four refl, four refl, million refl, refl, refl, refl, refl)
plain_words_are_read _ _ (explain_form name p e Messages fp fe) =
    asks_by (given p fp ∷ given e fe ∷ fixed (codes "--messages") ∷ []) explain_is refl refl refl (refl, refl, four refl, four refl, million refl, refl, refl, refl, refl)
plain_words_are_read _ _ (explain_alone_form name p Brief fp) =
    asks_by (given p fp ∷ []) explain_is refl refl refl (refl, refl, four refl, four refl, million refl, refl, refl, refl, refl)
plain_words_are_read _ _ (explain_alone_form name p Whole fp) =
    asks_by (given p fp ∷ fixed (codes "--all") ∷ []) explain_is refl refl refl (refl, refl, four refl, four refl, million refl, refl, refl, refl, refl)
plain_words_are_read _ _ (explain_alone_form name p Graph fp) =
    asks_by (given p fp ∷ fixed (codes "--dot") ∷ []) explain_is refl refl refl (refl, refl, four refl, four refl, million refl, refl, refl, refl, refl)
plain_words_are_read _ _ (explain_alone_form name p Chart fp) =
    asks_by (given p fp ∷ fixed (codes "--chart") ∷ []) explain_is refl refl refl (refl, refl, four refl, four refl, million refl, refl, refl, refl, refl)
plain_words_are_read _ _ (explain_alone_form name p Picture fp) =
    asks_by (given p fp ∷ fixed (codes "--svg") ∷ []) explain_is refl refl refl (refl, refl, four refl, four refl, million refl, refl, refl, refl, refl)
plain_words_are_read _ _ (explain_alone_form name p Page fp) =
    asks_by (given p fp ∷ fixed (codes "--html") ∷ []) explain_is refl refl refl (refl, refl, four refl, four refl, million refl, refl, refl, refl, refl)
plain_words_are_read _ _ (explain_alone_form name p Object fp) =
    asks_by (given p fp ∷ fixed (codes "--json") ∷ []) explain_is refl refl refl (refl, refl, four refl, four refl, million refl, refl, refl, refl, refl)
plain_words_are_read _ _ (explain_alone_form name p Messages fp) =
    asks_by (given p fp ∷ fixed (codes "--messages") ∷ []) explain_is refl refl refl (refl, refl, four refl, four refl, million refl, refl, refl, refl, refl)
plain_words_are_read _ _ (explain_map_form name p file fp ff) =
    asks_by (given p fp ∷ fixed (codes "--map") ∷ given file ff ∷ []) explain_is refl refl refl (refl, refl, four refl, four refl, million refl, refl, refl, refl, refl)
plain_words_are_read _ _ (explain_each_form name p q fp fq) =
    asks_by (given p fp ∷ given q fq ∷ fixed (codes "--each") ∷ []) explain_is refl refl refl ((p, refl, refl), refl, four refl, four refl, million refl, refl, refl, refl)
plain_words_are_read _ _ (explain_three_form name p q r fp fq fr) =
    asks_by (given p fp ∷ given q fq ∷ given r fr ∷ []) explain_is refl refl refl ((p, refl, refl), refl, four refl, four refl, million refl, refl, refl, refl)
plain_words_are_read _ _ (export_form name p e file fp fe ff) =
    asks_by (given p fp ∷ given e fe ∷ fixed (codes "--out") ∷ given file ff ∷ []) export_is refl refl refl (refl, refl, refl)
plain_words_are_read _ _ (trim_form name e file fe ff) =
    asks_by (given e fe ∷ fixed (codes "--out") ∷ given file ff ∷ []) trim_is refl refl refl (refl, refl, refl)
plain_words_are_read _ _ (trim_json_form name e file fe ff) =
    asks_by (given e fe ∷ fixed (codes "--out") ∷ given file ff ∷ fixed (codes "--json") ∷ []) trim_is refl refl refl (refl, refl, refl)
plain_words_are_read _ _ (shrink_form name p fp) =
    asks_by (given p fp ∷ []) shrink_is refl refl refl (refl, refl, refl)
plain_words_are_read _ _ (shrink_out_form name p file fp ff) =
    asks_by (given p fp ∷ fixed (codes "--out") ∷ given file ff ∷ []) shrink_is refl refl refl (refl, refl, refl)
plain_words_are_read _ _ (shrink_map_form name p file map fp ff fm apart) =
    asks_by (given p fp ∷ fixed (codes "--out") ∷ given file ff ∷ fixed (codes "--map") ∷ given map fm ∷ []) shrink_is refl refl apart (refl, refl, refl)
plain_words_are_read _ _ (decide_form name p fp) =
    asks_by (given p fp ∷ []) decide_is refl refl refl (refl, refl, refl, refl, refl, refl, refl)
plain_words_are_read _ _ (decide_json_form name p fp) =
    asks_by (given p fp ∷ fixed (codes "--json") ∷ []) decide_is refl refl refl (refl, refl, refl, refl, refl, refl, refl)
plain_words_are_read _ _ (decide_out_form name p file fp ff) =
    asks_by (given p fp ∷ fixed (codes "--out") ∷ given file ff ∷ []) decide_is refl refl refl (refl, refl, refl, refl, refl, refl, refl)
plain_words_are_read _ _ (decide_phases_form name p fp) =
    asks_by (given p fp ∷ fixed (codes "--phases") ∷ []) decide_is refl refl refl (refl, refl, refl, refl, refl, refl, refl)
plain_words_are_read _ _ (phases_form name p folder fp ff) =
    asks_by (given p fp ∷ fixed (codes "--out") ∷ given folder ff ∷ []) phases_is refl refl refl (refl, refl)
plain_words_are_read _ _ (join_form name p folder fp ff) =
    asks_by (given p fp ∷ given folder ff ∷ []) join_is refl refl refl (refl, refl, refl, refl)
plain_words_are_read _ _ (join_json_form name p folder fp ff) =
    asks_by (given p fp ∷ given folder ff ∷ fixed (codes "--json") ∷ []) join_is refl refl refl (refl, refl, refl, refl)
plain_words_are_read _ _ (join_out_form name p folder file fp fd ff) =
    asks_by (given p fp ∷ given folder fd ∷ fixed (codes "--out") ∷ given file ff ∷ []) join_is refl refl refl (refl, refl, refl, refl)
plain_words_are_read _ _ (decide_both_form name p q fp fq) =
    asks_by (given p fp ∷ given q fq ∷ []) decide_is refl refl refl (refl, refl, refl, refl, refl)
plain_words_are_read _ _ (decide_junit_form name p file fp ff apart) =
    asks_by (given p fp ∷ fixed (codes "--junit") ∷ given file ff ∷ []) decide_is refl refl apart (refl, refl, refl, refl, refl)
plain_words_are_read _ _ (decide_ranks_form name p ranks fp fr) =
    asks_by (given p fp ∷ fixed (codes "--ranks") ∷ given ranks fr ∷ []) decide_is refl refl refl (refl, refl, refl, refl, refl, refl, refl, refl)
plain_words_are_read _ _ (decide_ranks_set_form name p ranks setting fp fr fs) =
    asks_by (given p fp ∷ fixed (codes "--ranks") ∷ given ranks fr ∷ fixed (codes "--set") ∷ given setting fs ∷ []) decide_is refl refl refl
    (refl, refl, refl, refl, refl, refl, refl, refl)
plain_words_are_read _ _ (explain_ranks_form name p ranks fp fr) =
    asks_by (given p fp ∷ fixed (codes "--ranks") ∷ given ranks fr ∷ []) explain_is refl refl refl
    (refl, refl, refl, refl, refl, four refl, four refl, million refl, refl, refl, refl, refl)
plain_words_are_read _ _ (prove_form name p fp) =
    asks_by (given p fp ∷ []) prove_is refl refl refl (refl, refl, four refl, four refl, million refl, refl, refl)
plain_words_are_read _ _ (prove_json_form name p fp) =
    asks_by (given p fp ∷ fixed (codes "--json") ∷ []) prove_is refl refl refl (refl, refl, four refl, four refl, million refl, refl, refl)
plain_words_are_read _ _ (prove_progress_form name p fp) =
    asks_by (given p fp ∷ fixed (codes "--progress") ∷ []) prove_is refl refl refl (refl, refl, four refl, four refl, million refl, refl, refl)
plain_words_are_read _ _ (prove_out_form name p file fp ff) =
    asks_by (given p fp ∷ fixed (codes "--out") ∷ given file ff ∷ []) prove_is refl refl refl (refl, refl, four refl, four refl, million refl, refl, refl)
plain_words_are_read _ _ (unroll_form name p fp) =
    asks_by (given p fp ∷ fixed (codes "--ranks") ∷ fixed (codes "4") ∷ []) unroll_is refl refl refl (refl, four refl, refl, refl, refl, refl)
plain_words_are_read _ _ (unroll_set_form name p setting fp fs) =
    asks_by (given p fp ∷ fixed (codes "--ranks") ∷ fixed (codes "4") ∷ fixed (codes "--set") ∷ given setting fs ∷ []) unroll_is refl refl refl (refl, four refl, refl, refl, refl, refl)
plain_words_are_read _ _ (unroll_sets_form name p one other fp fo fs) =
    asks_by (given p fp ∷ fixed (codes "--ranks") ∷ fixed (codes "4") ∷ fixed (codes "--set") ∷ given one fo ∷ fixed (codes "--set") ∷ given other fs ∷ [])
    unroll_is refl refl refl (refl, four refl, refl, refl, refl, refl)
plain_words_are_read _ _ (unroll_collectives_form name p way fp fw) =
    asks_by (given p fp ∷ fixed (codes "--ranks") ∷ fixed (codes "4") ∷ fixed (codes "--collectives") ∷ given way fw ∷ []) unroll_is refl refl refl
    (refl, four refl, refl, refl, refl, refl)
plain_words_are_read _ _ (unroll_map_form name p file map fp ff fm apart) =
    asks_by (given p fp ∷ fixed (codes "--ranks") ∷ fixed (codes "4") ∷ fixed (codes "--out") ∷ given file ff ∷ fixed (codes "--map") ∷ given map fm ∷ [])
    unroll_is refl refl apart (refl, four refl, refl, refl, refl, refl)
plain_words_are_read _ _ (check_pieces_form name p e pieces fp fe spells) =
    let free = pieces_are_free pieces spells in
    asks_by (given p fp ∷ given e fe ∷ fixed (codes "--pieces") ∷ given pieces free ∷ []) check_is
    (ap (λ (passes : Bool). or_else (or_else (if passes then [] else ValueValidation ∷ []) []) []) (pieces_pass pieces spells)) refl refl
    (refl, refl, (pieces, ap Some (bare pieces free), plusless pieces spells, refl), refl)

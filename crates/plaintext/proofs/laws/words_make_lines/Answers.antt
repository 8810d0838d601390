use Rattle.std.proofs.Common.{◌≡◌, ℕ, List, [], ◌∷◌, ◌++◌, map, refl, sym, ap, ◌∙◌}
use Rattle.std.specs.List.{AllByRecursion, flat_map}
use Rattle.std.proofs.lemmas.List.Concat.{flat_map-cons}
use Rattle.plaintext.specs.Plain.{line_of, IsPlain, text_lines}
use Rattle.plaintext.proofs.Texts.{IsLine, is_line, lines_joined}
use Rattle.plaintext.proofs.laws.words_make_lines.Goals as goal

joined : (lines : List (List (List ℕ))) → flat_map line_of lines ≡ flat_map (λ line. line) (map line_of lines)
joined [] = refl
joined (words ∷ lines) =
    flat_map-cons line_of words lines ∙ ap (λ (x : List ℕ). line_of words ++ x) (joined lines) ∙ sym (flat_map-cons (λ line. line) (line_of words) (map line_of lines))

each : (lines : List (List (List ℕ))) → AllByRecursion (AllByRecursion IsPlain) lines → AllByRecursion IsLine (map line_of lines)
each [] plain = tt
each (words ∷ lines) plain = (is_line words plain.0, each lines plain.1)

pub returns : goal.returns
returns c = λ lines plain. ap text_lines (joined lines) ∙ lines_joined (map line_of lines) (each lines plain)

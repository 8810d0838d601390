use Rattle.std.proofs.Common.{◌≡◌, ◌∙◌, ap, arith, map, refl, ℕ, List, [], ◌∷◌, length}
use Rattle.std.specs.Prelude.{nat_lt}
use Rattle.std.specs.Borrow.{Bor}
use Rattle.std.proofs.lemmas.Bool.{lt-ltb}
use Rattle.command_line.specs.Requests.{has_two}
use Rattle.command_line.proofs.CommandLines.{no_texts_by_rows, texts_by_rows}
use Rattle.command_line.proofs.request.has_two.Goals as goal

two_of : (texts : List (Bor (List ℕ))) → nat_lt 1 (length texts) ≡ has_two (map (λ t. t.now) texts)
two_of [] = refl
two_of (one ∷ []) = refl
two_of (one ∷ (other ∷ others)) = lt-ltb 1 (length (one ∷ (other ∷ others))) (omega arith)

pub returns-in-None : goal.returns-in-None
returns-in-None c = ap has_two (no_texts_by_rows c.args.matches.now _ c.get_strs.result c.get_strs.ensures c.in-None.is)

pub returns-in-Some : goal.returns-in-Some
returns-in-Some c =
    two_of c.in-Some.texts.now ∙ ap has_two (texts_by_rows c.args.matches.now _ c.get_strs.result c.in-Some.texts c.get_strs.ensures c.in-Some.is)

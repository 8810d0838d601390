use Rattle.std.proofs.Common.{◌≡◌, ◌∙◌, ◌||◌, Bool, Bor, List, [], ◌∷◌, ap, map, refl}
use Rattle.std.specs.List.{list_any}
use Rattle.clap.specs.Words.{Text}
use Rattle.command_line.specs.Requests.{is_file, path_of}
use Rattle.command_line.proofs.request.report_named_twice.Goals as goal

any_behind : (test : Text → Bool) (texts : List (Bor Text)) → list_any (λ text. test text.now) texts ≡ list_any test (map (λ text. text.now) texts)
any_behind test [] = refl
any_behind test (text ∷ texts) = ap (λ (b : Bool). test text.now || b) (any_behind test texts)

pub returns-then-is_one_named : goal.returns-then-is_one_named
returns-then-is_one_named c = c.if-is_one_named.ensures ∙ any_behind (is_file (path_of c.args.junit)) c.args.programs.now

pub returns-else-is_one_named : goal.returns-else-is_one_named
returns-else-is_one_named c = c.if-is_one_named.ensures ∙ any_behind (is_file (path_of c.args.junit)) c.args.programs.now

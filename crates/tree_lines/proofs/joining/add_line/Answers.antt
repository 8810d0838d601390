use Rattle.std.proofs.Common.{◌≡◌, ◌+◌, List, [], ◌∷◌, ◌++◌, length, Some, None, refl, ap, sym, ◌∙◌}
use Rattle.clauses.specs.Clauses.{Literal, rises}
use Rattle.refutations.specs.Proofs.{ProofLine, are_numbers}
use Rattle.tree_lines.proofs.Added.{tautology_entry, line_entry}
use Rattle.tree_lines.proofs.joining.add_line.Goals as goal

pub returns-in_default : goal.returns-in_default
returns-in_default c =
    let copied = c.in_ok-copy.ensures.items_if_clones_equal (λ x y e. e) ∙ c.as_slice.ensures.value in
    tautology_entry c.args.formula.now c.args.lines.now c.args.added.now.items c.args.literals.items c.in_ok-copy.copy.items (record { literals = c.args.literals; number = None }) (are_numbers c.args.hints.items) refl refl copied c.in_default.ensures.when.1 c.requires.hints c.requires.sorted c.requires.within c.requires.derived

pub returns : goal.returns
returns c =
    let copied = c.in_ok-copy.ensures.items_if_clones_equal (λ x y e. e) ∙ c.as_slice.ensures.value in
    let f = c.args.formula.now in
    let lines = c.args.lines.now in
    let old = c.args.added.now.items in
    let rising = sym (ap rises copied) ∙ (c.in-Some.ensures.when.0 refl).0 in
    let line : ProofLine = record { literals = c.args.literals.items; hints = c.args.hints.items } in
    let same : c.in-Some.line ≡ line =
    c.in-Some.ensures.made ∙ ap (λ (ls : List Literal). let l : ProofLine = record { literals = ls; hints = c.args.hints.items } in l) copied in
    line_entry f lines old c.push.new.self.items c.args.literals.items (record { literals = c.args.literals; number = Some c.in-Some-next_number.number }) line c.in-Some-next_number.number refl refl refl (c.in_ok-push.ensures.items ∙ ap (λ (l : ProofLine). old ++ l ∷ []) same) (c.in-Some-next_number.ensures.next ∙ ap (λ (ls : List ProofLine). length f.clauses + length lines + length ls + 1) c.as_slice-2.ensures.value) c.in-Some-next_number.ensures.number c.requires.sorted c.requires.within c.requires.derived (c.requires.derives rising)

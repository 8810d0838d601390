use Rattle.std.proofs.Common.{◌≡◌, ◌++◌, ◌⊎◌, None, refl, sym, ◌∙◌, inl, inr}
use Rattle.std.proofs.lemmas.Result.{IfOk-weaker}
use Rattle.tree_lines.proofs.Splits.{first_enough, second_enough, is_left, left_unnumbered, left_derives, left_within, left_added}
use Rattle.tree_lines.proofs.joining.split_entry.Goals as goal
use Rattle.tree_lines.proofs.joining.split_entry.Goals.{in_default-via-in-Some+in_default, in_default-via-in_default}

pub returns-then-is_enough : goal.returns-then-is_enough
returns-then-is_enough c =
    first_enough c.args.formula.now c.args.lines.now c.args.added.now.items c.args.literal.now c.negated.result c.args.first c.args.second c.requires.derived c.requires.first c.negated.ensures (sym c.is_enough.ensures ∙ c.if-is_enough.true)

pub returns-then-is_enough-2 : goal.returns-then-is_enough-2
returns-then-is_enough-2 c =
    second_enough c.args.formula.now c.args.lines.now c.args.added.now.items c.args.literal.now c.args.first c.args.second c.requires.derived c.requires.second (sym c.is_enough-2.ensures ∙ c.if-is_enough-2.true)

pub returns-in_default : goal.returns-in_default
returns-in_default c =
    let left = is_left c.args.formula.now (c.args.lines.now ++ c.args.added.now.items) c.args.literal.now c.negated.result c.args.first c.args.second c.as_slice.result.now c.as_slice-2.result.now c.in_ok-literals.literals.items c.requires.first c.requires.second c.negated.ensures (sym c.is_enough.ensures ∙ c.if-is_enough.false) (sym c.is_enough-2.ensures ∙ c.if-is_enough-2.false) c.as_slice.ensures.value c.as_slice-2.ensures.value c.in_ok-literals.ensures.sorted c.in_ok-literals.ensures.members in
    let none : (c.args.first.number ≡ None) ⊎ (c.args.second.number ≡ None) =
    elim c.in_default.branch [ in_default-via-in-Some+in_default w ↦ inr w.in_default.is-1 | in_default-via-in_default w ↦ inl w.in_default.is-0 ] in
    left_unnumbered c.args.formula.now c.args.lines.now c.args.added.now.items c.args.literal.now c.args.first c.args.second (record { literals = c.in_ok-literals.literals; number = None }) c.in_ok-literals.literals.items c.requires.derived left none refl refl

pub add_line-requires-clause-derives : goal.add_line-requires-clause-derives
add_line-requires-clause-derives c =
    let left = is_left c.args.formula.now (c.args.lines.now ++ c.args.added.now.items) c.args.literal.now c.negated.result c.args.first c.args.second c.as_slice.result.now c.as_slice-2.result.now c.in_ok-literals.literals.items c.requires.first c.requires.second c.negated.ensures (sym c.is_enough.ensures ∙ c.if-is_enough.false) (sym c.is_enough-2.ensures ∙ c.if-is_enough-2.false) c.as_slice.ensures.value c.as_slice-2.ensures.value c.in_ok-literals.ensures.sorted c.in_ok-literals.ensures.members in
    left_derives c.args.formula.now (c.args.lines.now ++ c.args.added.now.items) c.args.literal.now c.args.first c.args.second c.in_ok-literals.literals.items c.in_ok-hints.hints.items c.in-Some-Some.one c.in-Some-Some.other left c.in-Some-Some.is-0 c.in-Some-Some.is-1 c.in_ok-hints.ensures.items

pub add_line-requires-clause-within : goal.add_line-requires-clause-within
add_line-requires-clause-within c =
    let left = is_left c.args.formula.now (c.args.lines.now ++ c.args.added.now.items) c.args.literal.now c.negated.result c.args.first c.args.second c.as_slice.result.now c.as_slice-2.result.now c.in_ok-literals.literals.items c.requires.first c.requires.second c.negated.ensures (sym c.is_enough.ensures ∙ c.if-is_enough.false) (sym c.is_enough-2.ensures ∙ c.if-is_enough-2.false) c.as_slice.ensures.value c.as_slice-2.ensures.value c.in_ok-literals.ensures.sorted c.in_ok-literals.ensures.members in
    left_within c.args.formula.now (c.args.lines.now ++ c.args.added.now.items) c.args.literal.now c.args.first c.args.second c.in_ok-literals.literals.items left

pub returns : goal.returns
returns c =
    let left = is_left c.args.formula.now (c.args.lines.now ++ c.args.added.now.items) c.args.literal.now c.negated.result c.args.first c.args.second c.as_slice.result.now c.as_slice-2.result.now c.in_ok-literals.literals.items c.requires.first c.requires.second c.negated.ensures (sym c.is_enough.ensures ∙ c.if-is_enough.false) (sym c.is_enough-2.ensures ∙ c.if-is_enough-2.false) c.as_slice.ensures.value c.as_slice-2.ensures.value c.in_ok-literals.ensures.sorted c.in_ok-literals.ensures.members in
    IfOk-weaker c.add_line.result _ _ (λ entry added. left_added c.args.formula.now c.args.lines.now c.args.added.now.items c.add_line.new.added.items c.args.literal.now c.args.first c.args.second entry c.in_ok-literals.literals.items left added) c.add_line.ensures

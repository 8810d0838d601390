use Rattle.std.proofs.Common.{◌≡◌, refl, subst, ◌+◌, arith}
use Rattle.spmd_text.specs.declared.joints.Row.{Row}
use Rattle.spmd_text.specs.parts.Found.{IsLonger}
use Rattle.spmd_text.proofs.Alike.{ok_same}
use Rattle.spmd_text.proofs.Rows.{begins_longer, goes_longer, row_begins, row_full}
use Rattle.spmd_text.proofs.joints.longer.Goals as goal

pub returns-then-row-binding-clause-complete : goal.returns-then-row-binding-clause-complete
returns-then-row-binding-clause-complete c = λ a b p q is fit few.
    (record { binding = c.binding_of-binding.result; joints = 1; lone = c.is_lone-lone.result }, refl, row_begins c.args.row c.args.joint p a q b c.binding_of-binding.result c.is_lone-lone.result is c.if-row-binding.true c.binding_of-binding.ensures.binding c.is_lone-lone.ensures)

pub returns-then-row-ge255-clause-complete : goal.returns-then-row-ge255-clause-complete
returns-then-row-ge255-clause-complete c = λ a b p q is fit few.
    absurd (row_full c.args.row c.args.joint p a q b c.binding_of-binding.result is c.if-row-binding.false c.binding_of-binding.ensures.binding c.if-row-ge255.true few)

pub returns-then-row-binding-clause-sound : goal.returns-then-row-binding-clause-sound
returns-then-row-binding-clause-sound c = λ next a b p q is row_so.
    let row : Row = record { binding = c.binding_of-binding.result; joints = 1; lone = c.is_lone-lone.result } in
    let same : row ≡ next = ok_same row next is in
    subst (λ (r : Row). IsLonger c.args.row r c.args.joint p a q b) same
    (begins_longer c.args.row c.args.joint p a q b c.binding_of-binding.result c.is_lone-lone.result row_so c.if-row-binding.true c.binding_of-binding.ensures.binding c.is_lone-lone.ensures)

pub returns-clause-sound : goal.returns-clause-sound
returns-clause-sound c = λ next a b p q is row_so.
    let row : Row = record { binding = c.binding_of-binding.result; joints = c.args.row.joints + 1; lone = c.is_lone-lone.result } in
    let same : row ≡ next = ok_same row next is in
    subst (λ (r : Row). IsLonger c.args.row r c.args.joint p a q b) same
    (goes_longer c.args.row c.args.joint p a q b c.binding_of-binding.result c.is_lone-lone.result row_so c.if-row-binding.false c.binding_of-binding.ensures.binding c.is_lone-lone.ensures c.if-lone.false c.if-row.false (omega (arith, c.if-row-ge255.false)))

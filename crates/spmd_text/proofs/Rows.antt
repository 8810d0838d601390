-- How the row of a tree with one joint more stands together.
use Rattle.std.proofs.Common.{◌≡◌, ℕ, ◌+◌, ◌<◌, ◌≤◌, Bool, false, nat_eq, refl, ap, sym, ◌∙◌, arith, if◌then◌else◌}
use Rattle.std.proofs.lemmas.Bool.{eq-eqb}
use Rattle.std.proofs.lemmas.Bool.Decides.{nat_tests}
use Rattle.spmd_tree.specs.declared.tree.Expression.{Expression}
use Rattle.spmd_text.specs.declared.joints.Joint.{Joint}
use Rattle.spmd_text.specs.declared.joints.Joint.TheVariants as joint
use Rattle.spmd_text.specs.declared.joints.Row.{Row}
use Rattle.spmd_text.specs.parts.Joints.{binding_of, is_lone, Place, joined_parts}
use Rattle.spmd_text.specs.Joints.{closeness}
use Rattle.spmd_text.specs.Limits.{parts_in_row}
use Rattle.spmd_text.specs.parts.Growing.{IsJointRow, is_lone_tree}
use Rattle.spmd_text.specs.parts.Found.{IsLonger}
use Rattle.spmd_text.proofs.Growing.{closeness_joined, parts_joined}

lone_joined : (j : Joint) (p : Place) (a : Expression) (q : Place) (b : Expression) → is_lone_tree (joined_parts j p a q b) ≡ is_lone j
lone_joined joint.Or p a q b = refl
lone_joined j p a q b = refl

parts_same : (j : Joint) (p : Place) (a : Expression) (q : Place) (b : Expression) → closeness a ≡ binding_of j → parts_in_row (joined_parts j p a q b) ≡ parts_in_row a + 1
parts_same j p a q b e = parts_joined j p a q b ∙ ap (λ (t : Bool). (if t then parts_in_row a else 1) + 1) (eq-eqb (closeness a) (binding_of j) e)

parts_other : (j : Joint) (p : Place) (a : Expression) (q : Place) (b : Expression) → (closeness a ≡ binding_of j → ⊥) → parts_in_row (joined_parts j p a q b) ≡ 2
parts_other j p a q b ne =
    let other : nat_eq (closeness a) (binding_of j) ≡ false = grind (arith, nat_tests) in
    parts_joined j p a q b ∙ ap (λ (t : Bool). (if t then parts_in_row a else 1) + 1) other

-- another row begins
pub row_begins : (row : Row) (j : Joint) (p : Place) (a : Expression) (q : Place) (b : Expression) (binding : ℕ) (lone : Bool)
    → IsJointRow row a → (row.binding ≡ binding → ⊥) → binding ≡ binding_of j → lone ≡ is_lone j → IsJointRow (record { binding = binding; joints = 1; lone = lone }) (joined_parts j p a q b)
row_begins row j p a q b binding lone is ne e f = record {
  close = e ∙ sym (closeness_joined j p a q b);
  many = sym (parts_other j p a q b (λ same. ne (is.close ∙ (same ∙ sym e))));
  alone = f ∙ sym (lone_joined j p a q b);
}

-- the row goes on
pub row_longer : (row : Row) (j : Joint) (p : Place) (a : Expression) (q : Place) (b : Expression) (binding : ℕ) (lone : Bool)
    → IsJointRow row a → row.binding ≡ binding → binding ≡ binding_of j → lone ≡ is_lone j → IsJointRow (record { binding = binding; joints = row.joints + 1; lone = lone }) (joined_parts j p a q b)
row_longer row j p a q b binding lone is same e f = record {
  close = e ∙ sym (closeness_joined j p a q b);
  many = ap (λ n. n + 1) is.many ∙ sym (parts_same j p a q b (sym is.close ∙ (same ∙ e)));
  alone = f ∙ sym (lone_joined j p a q b);
}

-- a row of 256 parts goes on beyond the limit
pub row_full : (row : Row) (j : Joint) (p : Place) (a : Expression) (q : Place) (b : Expression) (binding : ℕ)
    → IsJointRow row a → row.binding ≡ binding → binding ≡ binding_of j → 255 ≤ row.joints → parts_in_row (joined_parts j p a q b) ≤ 256 → ⊥
row_full row j p a q b binding is same e many few =
    omega (arith, is.many, parts_same j p a q b (sym is.close ∙ (same ∙ e)))

pub begins_longer : (row : Row) (j : Joint) (p : Place) (a : Expression) (q : Place) (b : Expression) (binding : ℕ) (lone : Bool)
    → IsJointRow row a → (row.binding ≡ binding → ⊥) → binding ≡ binding_of j → lone ≡ is_lone j → IsLonger row (record { binding = binding; joints = 1; lone = lone }) j p a q b
begins_longer row j p a q b binding lone is ne e f = record {
  few = omega (arith, parts_other j p a q b (λ same. ne (is.close ∙ (same ∙ sym e))));
  row_so = row_begins row j p a q b binding lone is ne e f;
  joint_so = λ same. absurd (ne (is.close ∙ (same ∙ sym e)));
  left_so = λ same. absurd (ne (is.close ∙ (same ∙ sym e)));
}

pub goes_longer : (row : Row) (j : Joint) (p : Place) (a : Expression) (q : Place) (b : Expression) (binding : ℕ) (lone : Bool)
    → IsJointRow row a → row.binding ≡ binding → binding ≡ binding_of j → lone ≡ is_lone j → lone ≡ false → row.lone ≡ false → row.joints < 255
    → IsLonger row (record { binding = binding; joints = row.joints + 1; lone = lone }) j p a q b
goes_longer row j p a q b binding lone is same e f alone row_alone few = record {
  few = omega (arith, is.many, parts_same j p a q b (sym is.close ∙ (same ∙ e)));
  row_so = row_longer row j p a q b binding lone is same e f;
  joint_so = λ _. sym f ∙ alone;
  left_so = λ _. sym is.alone ∙ row_alone;
}

-- What may stand in labels, groups and calls of a text.
use Rattle.std.specs.Prelude.{◌≡◌, ℕ, ◌+◌, Bool, true, List, Option, Some, None}
use Rattle.std.specs.Global.{Vec}
use Rattle.spmd_tree.specs.declared.tree.Expression.{Expression}
use Rattle.spmd_tree.specs.declared.tree.LabelForm.{LabelForm}
use Rattle.spmd_tree.specs.declared.tree.GroupForm.{GroupForm}
use Rattle.spmd_tree.specs.declared.tree.Labels.{Labels}
use Rattle.spmd_tree.specs.declared.tree.Labels.TheVariants.{Last, More'}
use Rattle.spmd_tree.specs.declared.tree.Arguments.{Arguments}
use Rattle.spmd_tree.specs.declared.tree.Arguments.TheVariants as call
use Rattle.spmd_text.specs.Labels.{label_fits}
use Rattle.spmd_text.specs.Limits.{IsTreeWithin}

-- ---- parts

abbrev pub IfThere : {X : Type 0} → (X → Type 0) → Option X → Type 0
IfThere May None = Unit {0}
IfThere May (Some x) = May x

-- ---- values, where `in_parameter` tells that the value of a parameter is read

abbrev pub MayValue : Bool → Option Expression → Type 0
MayValue in_parameter = IfThere (IsTreeWithin 32 in_parameter)

-- ---- requests and handles

pub record MayLabel (in_parameter : Bool) (names : List (Vec ℕ)) (f : LabelForm) : Type 0 where
  pub fits : label_fits names f ≡ true
  pub index : MayValue in_parameter f.index

-- how many requests a list has
abbrev pub count_labels : Labels → ℕ
count_labels (Last f) = 1
count_labels (More' f p others) = count_labels others + 1

abbrev pub MayLabels : Bool → List (Vec ℕ) → Labels → Type 0
MayLabels in_parameter names (Last f) = MayLabel in_parameter names f
MayLabels in_parameter names (More' f p others) = MayLabel in_parameter names f × MayLabels in_parameter names others

-- ---- the parts of collective calls

pub record MayGroup (in_parameter : Bool) (g : GroupForm) : Type 0 where
  pub first : IsTreeWithin 32 in_parameter g.first
  pub last : IsTreeWithin 32 in_parameter g.last
  pub step : MayValue in_parameter g.step

-- ---- calls

abbrev pub MayCall : Bool → List (Vec ℕ) → Arguments → Type 0
MayCall in_parameter names (call.Send mode request d t c) =
    IfThere (MayLabel in_parameter names) request × IsTreeWithin 32 in_parameter d × IsTreeWithin 32 in_parameter t × MayValue in_parameter c
MayCall in_parameter names (call.Receive request s t c) =
    IfThere (MayLabel in_parameter names) request × MayValue in_parameter s × MayValue in_parameter t × MayValue in_parameter c
MayCall in_parameter names (call.MatchedProbe handle s t c) =
    MayLabel in_parameter names handle × MayValue in_parameter s × MayValue in_parameter t × MayValue in_parameter c
MayCall in_parameter names (call.Probe s t c) = MayValue in_parameter s × MayValue in_parameter t × MayValue in_parameter c
MayCall in_parameter names (call.MatchedReceive request handle) =
    IfThere (MayLabel in_parameter names) request × MayLabel in_parameter names handle
MayCall in_parameter names (call.Wait request) = MayLabel in_parameter names request
MayCall in_parameter names (call.SendReceive d t s u c) =
    IsTreeWithin 32 in_parameter d × IsTreeWithin 32 in_parameter t × MayValue in_parameter s × MayValue in_parameter u × MayValue in_parameter c
MayCall in_parameter names (call.Collective k root g c) =
    MayValue in_parameter root × IfThere (MayGroup in_parameter) g × MayValue in_parameter c

use Rattle.std.proofs.Common.{◌≡◌, ◌↔◌, IsTrue, ℕ, List, length, drop, slice_index, ap, ◌∙◌, subst}
use Rattle.semantics.specs.RunEnds.{IsFinished}
use Rattle.semantics.specs.Machine.{Configuration, opening}
use Rattle.scene.specs.declared.acts.Act.{Act}
use Rattle.scene.specs.Labels.{Label, call_labels, acts_from}
use Rattle.charts.specs.Columns.{AreColumns, column_of}
use Rattle.charts.specs.Chart.{undrawn}
use Rattle.charts.specs.Picture.{picture_at}
use Rattle.charts.proofs.Ended.{run_of}
use Rattle.charts.proofs.picturing.picture.Goals as goal

pub scene_of-requires : goal.scene_of-requires
scene_of-requires c = run_of c.args.program.now c.args.steps.now c.requires

pub play-requires : goal.play-requires
play-requires c = run_of c.args.program.now c.args.steps.now c.requires

pub marks_of-requires : goal.marks_of-requires
marks_of-requires c = run_of c.args.program.now c.args.steps.now c.requires

pub returns : goal.returns
returns c =
    let p = c.args.program.now in
    let calls = call_labels c.args.text.now c.args.source.now p in
    let acts = acts_from (opening p) c.args.steps.now in
    let before : ℕ = undrawn p (length acts) in
    let scene = c.in_ok-scene.scene in
    let placed = c.in_ok-placed.placed in
    let acts_are : c.as_slice-all.result.now ≡ acts = c.as_slice-all.ensures.value ∙ c.in_ok-played.ensures.acts in
    let before_is : c.undrawn-before.result ≡ before = c.undrawn-before.ensures.value ∙ ap (λ (n : ℕ). undrawn p n) (ap length acts_are) in
    let drawn_are : c.behind-acts.result.now ≡ drop before acts = c.behind-acts.ensures ∙ (λ i. drop (before_is i) (acts_are i)) in
    let labels_are : c.deref.result.now ≡ calls = c.deref.ensures.value ∙ c.in_ok-scene.ensures.labels in
    let same_labels : c.deref-2.result.now ≡ calls = c.deref-2.ensures.value ∙ c.in_ok-scene.ensures.labels in
    let at : slice_index placed.issues.items ≡ column_of placed.steps.items = λ i place. c.in_ok-placed.ensures.issues place i in
    record {
      well = c.ends_well.result;
      count = placed.count;
      placed = placed.steps.items;
      awaited = scene.awaited.items;
      cycle = scene.cycle.items;
      marks = c.in_ok-marks.marks.items;
      is_well = subst (λ (m : Configuration). IsTrue c.ends_well.result ↔ IsFinished p m) c.in_ok-scene.ensures.state c.ends_well.ensures;
      in_columns = subst (λ (xs : List Label). AreColumns p xs (drop before acts) placed.count placed.steps.items) labels_are (subst (λ (xs : List Act). AreColumns p c.deref.result.now xs placed.count placed.steps.items) drawn_are c.in_ok-placed.ensures.columns);
      edges = c.in_ok-scene.ensures.awaited;
      is_cycle = c.in_ok-scene.ensures.cycle;
      drawn = c.in_ok-out.ensures ∙ (λ i. picture_at c.ends_well.result p (c.in_ok-scene.ensures.state i) (same_labels i) placed.count (at i) placed.steps.items (c.deref-3.ensures.value i) (c.deref-4.ensures.value i) (before_is i));
    }

-- Sound pools stay sound, cover, and refute where they are closed.
use Rattle.std.proofs.Common.{List, [], ◌∷◌, Option, Some, None, Ok, IfSome, unwrap_or, refl, arith}
use Rattle.semantics.specs.declared.state.Step.{Step}
use Rattle.semantics.specs.Machine.{IsStuckRun}
use Rattle.callorder.specs.Programs.{MpiProgram}
use Rattle.refutations.specs.BinaryTrees.{preorder}
use Rattle.refutations.specs.Proofs.{ProofLine}
use Rattle.refutations.proofs.Covers.{accepted-refute}
use Rattle.trees.specs.parts.Preorders.{tree_below}
use Rattle.trees.proofs.Splits.{one_leaf_for_each}
use Rattle.trees.proofs.Written.{root_hangs}
use Rattle.pool.specs.declared.entry.Operation.{Operation}
use Rattle.pool.specs.declared.entry.Operation.TheVariants.{Publish, Close, Split, Found, Leave}
use Rattle.pool.specs.Laws.{LeavesCover, ClosedPoolsRefute, RunsStaySound}
use Rattle.pool.specs.States.{PoolState, IsSoundPool, IsReply, after_operation, after_item}
use Rattle.pool.proofs.Assembling.{accepts, all_refuted}
use Rattle.pool.proofs.Soundness.{sound_with, sound_publish, sound_close, sound_split}

first_stuck : (program : MpiProgram) (schedule : Option (List Step)) (steps : List Step) → IfSome schedule (IsStuckRun program) → IsStuckRun program steps → IsStuckRun program (unwrap_or schedule steps)
first_stuck program None steps kept stuck = stuck
first_stuck program (Some first) steps kept stuck = kept

sound_after : (h : PoolState) (operation : Operation) (lines : List ProofLine) (steps : List Step) → IsSoundPool h → IsReply h operation lines steps → IsSoundPool (after_operation h operation lines steps)
sound_after h (Publish count (Ok base)) lines steps s r = sound_publish h lines _ refl s r.2 (omega (arith, r.0, r.3))
sound_after h (Close leaf number (Ok _)) lines steps s r = sound_close h leaf number s r.0.1
sound_after h (Split leaf variable (Ok nodes)) lines steps s r = sound_split h leaf variable s r.0.0.0 r.0.3.0 r.0.3.1 r.0.2
sound_after h (Found count (Ok _)) lines steps s r =
    record {
      encoded = s.encoded;
      few_lines = s.few_lines;
      grown = s.grown;
      variables = s.variables;
      many = s.many;
      derived = s.derived;
      closed = s.closed;
      stuck = first_stuck h.program h.schedule steps s.stuck r.0;
    }
sound_after h (Leave why) lines steps s r = sound_with h _ s
sound_after h operation lines steps s r = s

pub stay_sound : RunsStaySound
stay_sound h [] s run = s
stay_sound h (item ∷ items) s run = stay_sound (after_item h item) items (sound_after h item.entry.operation item.lines item.steps s run.0) run.1

pub cover : LeavesCover
cover h a s = one_leaf_for_each h.tree.variables h.tree.nodes a s.grown.grows

pub closed_refute : ClosedPoolsRefute
closed_refute h s none =
    let tree = tree_below h.tree.nodes h.closed 0 in
    accepted-refute h.formula h.log (preorder tree)
    (accepts h.formula h.log h.tree h.closed (preorder tree) tree s.variables s.grown s.derived (all_refuted h s none) refl (root_hangs h.tree.variables h.tree.nodes h.closed s.grown.grows))

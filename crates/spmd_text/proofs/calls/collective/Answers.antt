use Rattle.spmd_text.specs.declared.piece.Piece.TheVariants as piece
use Rattle.spmd_text.specs.declared.piece.Word.TheVariants as word
use Rattle.spmd_text.specs.parts.Parts.{group_part}
use Rattle.spmd_text.specs.parts.Joints.{stops}
use Rattle.spmd_text.proofs.CallForms.{at_line_end, collective_as, comm_part}
use Rattle.spmd_text.proofs.Following.{and_left, communicator_ends, group_ends}
use Rattle.spmd_text.proofs.Optional.{before_group}
use Rattle.spmd_text.proofs.Parts.{on_flag, read_ended, reads_as, reads_then}
use Rattle.spmd_text.proofs.Strict.{group_strict, optional_strict}
use Rattle.spmd_text.proofs.calls.collective.Goals as goal

pub returns : goal.returns
returns c is_so =
    let one = c.root-root.ensures in
    let two = reads_then group_strict (λ g here rest may e ends. before_group g here rest e (and_left (stops 4 rest) _ ends)) one (on_flag group_part one.goes c.group-group.ensures) in
    let three = reads_then (optional_strict (piece.Word word.Comm)) (λ y here rest may e ends. group_ends y here rest e ends) two
    (read_ended at_line_end communicator_ends (on_flag comm_part two.goes c.optional-communicator.ensures)) in
    reads_as (collective_as c.args.parser.now c.args.kind c.args.rooted c.root-root.result c.group-group.result c.optional-communicator.result is_so) three

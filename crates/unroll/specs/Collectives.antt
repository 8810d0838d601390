-- What collective calls stand for (MPI 4.1, chapter 6): for each rank of the group a list of sends
-- and receives.
--
-- A rank comes when it makes its first call of the list, and goes on when the last one has
-- returned. Where all standard sends are buffered, each waits only for those whose data it needs:
-- that is the least that MPI guarantees. Where none is buffered, nobody goes on before all have
-- come. With policy `any` each standard send is free, so that both are among the runs, and some of
-- what lies between.
use Rattle.std.specs.Prelude.{ℕ, ◌+◌, ◌*◌, Bool, true, false, nat_eq, Option, Some, None, List, [], ◌∷◌, ◌++◌, map}
use Rattle.spmd_tree.specs.declared.tree.SendMode.{SendMode}
use Rattle.spmd_tree.specs.declared.tree.SendMode.TheVariants.{Standard, Buffered}
use Rattle.spmd_tree.specs.declared.tree.CollectiveKind.{CollectiveKind}
use Rattle.spmd_tree.specs.declared.tree.CollectiveKind.TheVariants as kind
use Rattle.unroll.specs.declared.call.Group.{Group}
use Rattle.unroll.specs.declared.call.UnrolledCall.{UnrolledCall}
use Rattle.unroll.specs.declared.call.UnrolledCall.TheVariants as call
use Rattle.unroll.specs.declared.collective.Way.{Way}
use Rattle.unroll.specs.Groups.{others, before, member_after}

abbrev pub kind_number : CollectiveKind → ℕ
kind_number kind.Barrier = 0
kind_number kind.Broadcast = 1
kind_number kind.Reduce = 2
kind_number kind.AllReduce = 3
kind_number kind.Gather = 4
kind_number kind.Scatter = 5
kind_number kind.AllGather = 6
kind_number kind.AllToAll = 7
kind_number kind.Scan = 8

-- Those who meet have a communicator of their own, from 128 on, by their number; the text's own
-- calls have those below. Messages of two collective calls of a rank with the same others have tags
-- of their own, and so have those of two kinds of call, and those of the two rounds. So calls match
-- in their order, and one of another kind, communicator or set of ranks matches none.
abbrev pub way_of : CollectiveKind → ℕ → ℕ → Way
way_of k earlier meeting = record { first = 32 * earlier + 2 * kind_number k; second = 32 * earlier + 2 * kind_number k + 1; communicator = 128 + meeting }

abbrev pub send : SendMode → ℕ → ℕ → ℕ → UnrolledCall
send mode tag c rank = call.Send mode None rank tag c

abbrev pub receive : ℕ → ℕ → ℕ → UnrolledCall
receive tag c rank = call.Receive None (Some rank) (Some tag) c

abbrev pub sends : SendMode → ℕ → ℕ → List ℕ → List UnrolledCall
sends mode tag c ranks = map (λ r. send mode tag c r) ranks

abbrev pub receives : ℕ → ℕ → List ℕ → List UnrolledCall
receives tag c ranks = map (λ r. receive tag c r) ranks

-- `barrier`, `allreduce`, `allgather`, `alltoall`: nobody goes on before all have come. The root
-- hears of each other rank, and then tells each.
abbrev pub meet : Bool → ℕ → List ℕ → Way → List UnrolledCall
meet true root ranks w = receives w.first w.communicator ranks ++ sends Buffered w.second w.communicator ranks
meet false root ranks w = send Buffered w.first w.communicator root ∷ receive w.second w.communicator root ∷ []

-- `bcast`, `scatter`: nobody goes on before the root has come. What the root sends first may hold
-- it until the others have come, and so may hold the others, who wait for what it sends then.
abbrev pub spread : Bool → ℕ → List ℕ → Way → List UnrolledCall
spread true root ranks w = sends Standard w.first w.communicator ranks ++ sends Buffered w.second w.communicator ranks
spread false root ranks w = receive w.first w.communicator root ∷ receive w.second w.communicator root ∷ []

-- `reduce`, `gather`: the root doesn't go on before all have come. What another rank sends then may
-- hold it until the root receives it, which is after all have come.
abbrev pub collect : Bool → ℕ → List ℕ → Way → List UnrolledCall
collect true root ranks w = receives w.first w.communicator ranks ++ receives w.second w.communicator ranks
collect false root ranks w = send Buffered w.first w.communicator root ∷ send Standard w.second w.communicator root ∷ []

-- `scan`: nobody goes on before those below it have come. What a rank sends second may hold it
-- until the next one receives it, which is after the next one's own second send.
abbrev pub chain : Option ℕ → Option ℕ → Way → List UnrolledCall
chain None None w = []
chain None (Some next) w = send Buffered w.first w.communicator next ∷ send Standard w.second w.communicator next ∷ []
chain (Some last) None w = receive w.first w.communicator last ∷ receive w.second w.communicator last ∷ []
chain (Some last) (Some next) w =
    receive w.first w.communicator last ∷ send Buffered w.first w.communicator next ∷ send Standard w.second w.communicator next ∷ receive w.second w.communicator last ∷ []

-- where collective calls are barriers, each is one, with tags of its own kind
abbrev pub kind_for : Bool → CollectiveKind → CollectiveKind
kind_for true k = kind.Barrier
kind_for false k = k

-- the calls that a collective call stands for, on this rank of so many
abbrev pub collective_calls : CollectiveKind → ℕ → Group → ℕ → ℕ → Way → List UnrolledCall
collective_calls kind.Barrier root g size rank w = meet (nat_eq rank root) root (others g size rank) w
collective_calls kind.Broadcast root g size rank w = spread (nat_eq rank root) root (others g size rank) w
collective_calls kind.Reduce root g size rank w = collect (nat_eq rank root) root (others g size rank) w
collective_calls kind.AllReduce root g size rank w = meet (nat_eq rank root) root (others g size rank) w
collective_calls kind.Gather root g size rank w = collect (nat_eq rank root) root (others g size rank) w
collective_calls kind.Scatter root g size rank w = spread (nat_eq rank root) root (others g size rank) w
collective_calls kind.AllGather root g size rank w = meet (nat_eq rank root) root (others g size rank) w
collective_calls kind.AllToAll root g size rank w = meet (nat_eq rank root) root (others g size rank) w
collective_calls kind.Scan root g size rank w = chain (before g rank) (member_after g rank) w

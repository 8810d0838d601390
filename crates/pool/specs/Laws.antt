-- Runs of a pool, which are lists of calls and what they are answered; and what holds of every
-- sound pool, and of every history.
use Rattle.std.specs.Prelude.{◌≡◌, ℕ, List, ◌≢◌, [], ◌∷◌, Err}
use Rattle.encode.specs.Encodings.{EncodedProgram}
use Rattle.clauses.specs.Clauses.{TruthAssignment, IsUnsatisfiable}
use Rattle.trees.specs.Laws.{IsReachedLeaf}
use Rattle.trees.specs.Trees.{TreeState}
use Rattle.pool.specs.declared.entry.LoggedCall.{LoggedCall}
use Rattle.pool.specs.declared.events.Event.{Event}
use Rattle.pool.specs.declared.events.Reply.{Reply}
use Rattle.pool.specs.States.{PoolState, PoolWithHistory, IsSoundPool, IsOpenLeaf, AreLegalReplies, IsLegal, opening_pool, after_items, noted, leave_item, IsPublished, IsFetched, IsClosed, IsSplit, IsFoundReply}
use Rattle.pool.specs.declared.entry.PublishFault.TheVariants as publish
use Rattle.pool.specs.declared.entry.FetchFault.TheVariants as fetch
use Rattle.pool.specs.declared.entry.CloseFault.TheVariants as close
use Rattle.pool.specs.declared.entry.SplitFault.TheVariants as split
use Rattle.pool.specs.declared.entry.FoundFault.TheVariants as found
use Rattle.pool.specs.declared.events.Event.TheVariants.{Publish, Fetch, Close, Split, Found, Leave}
use Rattle.pool.specs.declared.events.Reply.TheVariants as reply
use Rattle.pool.specs.Calls.{published, fetched, closed, after_split, after_found}

-- the call may be answered so at this point, and the answer is not want of memory
abbrev pub IsAnswered : PoolState → Event → Reply → Type 0
IsAnswered h (Publish worker batch) (reply.Publish given) = IsPublished h batch.lines.items given × (given ≢ Err publish.Memory)
IsAnswered h (Fetch worker from) (reply.Fetch given) = IsFetched h from given × (given ≢ Err fetch.Memory)
IsAnswered h (Close worker leaf number) (reply.Close given) = IsClosed h leaf number given × (given ≢ Err close.Memory)
IsAnswered h (Split worker leaf variable) (reply.Split given) = IsSplit h leaf variable given × (given ≢ Err split.Memory)
IsAnswered h (Found worker steps) (reply.Found given) = IsFoundReply h steps.items given × (given ≢ Err found.Memory)
IsAnswered h (Leave worker why) reply.Leave = Unit {0}
IsAnswered h event given = ⊥

-- what the call makes of the pool, where it is answered so
abbrev pub after_event : PoolWithHistory → Event → Reply → PoolWithHistory
after_event k (Publish worker batch) (reply.Publish given) = published k worker batch.lines.items given
after_event k (Fetch worker from) (reply.Fetch given) = fetched k worker from given
after_event k (Close worker leaf number) (reply.Close given) = closed k worker leaf number given
after_event k (Split worker leaf variable) (reply.Split given) = after_split k worker leaf variable given
after_event k (Found worker steps) (reply.Found given) = after_found k worker steps.items given
after_event k (Leave worker why) reply.Leave = noted k (leave_item worker why)
after_event k event given = k

-- the calls, made in order from this pool on, are answered so, one reply each, and leave the other
-- pool
abbrev pub AreAnswered : PoolWithHistory → List Event → PoolWithHistory → List Reply → Type 0
AreAnswered k [] pool [] = pool ≡ k
AreAnswered k [] pool (given ∷ replies) = ⊥
AreAnswered k (event ∷ events) pool [] = ⊥
AreAnswered k (event ∷ events) pool (given ∷ replies) = IsAnswered k.held event given × AreAnswered (after_event k event given) events pool replies

-- the same from the opening pool on
abbrev pub IsPoolRun : EncodedProgram → TreeState → List Event → PoolWithHistory → List Reply → Type 0
IsPoolRun encoded tree events pool replies = AreAnswered (opening_pool encoded tree) events pool replies

-- each assignment makes all literals of one leaf's path true, and those of no other
abbrev pub LeavesCover : Type 0
LeavesCover =
    (h : PoolState) (a : TruthAssignment) → IsSoundPool h
    → (leaf : ℕ) × IsReachedLeaf h.tree.nodes a leaf × ((other : ℕ) → IsReachedLeaf h.tree.nodes a other → other ≡ leaf)

-- where no leaf is open, no assignment satisfies the formula
abbrev pub ClosedPoolsRefute : Type 0
ClosedPoolsRefute = (h : PoolState) → IsSoundPool h → ((leaf : ℕ) → IsOpenLeaf h leaf → ⊥) → IsUnsatisfiable h.formula.clauses

-- whatever calls are made of a sound pool, with replies that may be given, it stays sound
abbrev pub RunsStaySound : Type 0
RunsStaySound = (h : PoolState) (items : List LoggedCall) → IsSoundPool h → AreLegalReplies h items → IsSoundPool (after_items h items)

-- after a run of calls the history, with its lines and its schedules, is legal from the opening
-- pool on
abbrev pub RunsAreLegal : Type 0
RunsAreLegal =
    (encoded : EncodedProgram) (tree : TreeState) (events : List Event) (pool : PoolWithHistory) (replies : List Reply) → IsPoolRun encoded tree events pool replies
    → (items : List LoggedCall) × IsLegal (opening_pool encoded tree).held items pool

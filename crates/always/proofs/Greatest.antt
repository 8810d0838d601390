-- What each run comes to is a part of what a run comes to that has all pairs and buffers all it
-- may.
use Rattle.std.proofs.Common.{◌≡◌, ℕ, ◌≤◌, true, false, List, [], ◌∷◌, slice_index}
use Rattle.callorder.specs.Programs.{MpiProgram}
use Rattle.semantics.specs.declared.state.Step.{Step}
use Rattle.semantics.specs.declared.state.Step.TheVariants.{Issue, Match, See}
use Rattle.semantics.specs.Machine.{Configuration, opening, after, after_all, IsEnabled, IsRun, is_buffered}
use Rattle.run_laws.specs.Laws.{IsInRankOrder}
use Rattle.races.specs.Races.{MatchesWithin}
use Rattle.always.specs.Always.{HasEnded, IsPartOf}
use Rattle.always.specs.Laws.{OneWayIsGreatest, UnfinishedInEveryRun, GreatestSticksAlways, OneWaySticksAlways}
use Rattle.races.proofs.Kept.{Part, Kept}
use Rattle.races.proofs.Passing.{kept_after, kept_opening, kept_run, part_all, none_issued}
use Rattle.races.proofs.Climb.{returned_before_more, issued_by_next}
use Rattle.always.proofs.Behind.{Behind, next_there, unfinished_too, sticks_always, ended_of}
use Rattle.always.proofs.Buffering.{AllBuffered, buffered_all}

pub is_part_of : (p : MpiProgram) (m e : Configuration) → Part p m e → IsPartOf p m e
is_part_of p m e part = record { next = part.next; partner = part.partner; buffered = part.buffered }

pub part_of : (p : MpiProgram) (m e : Configuration) → IsPartOf p m e → Part p m e
part_of p m e part = record { next = part.next; partner = part.partner; buffered = part.buffered }

pub behind_of : (p : MpiProgram) (m e : Configuration) → Part p m e → Behind p m e
behind_of p m e part = record { next = part.next; returned = λ rank c h. returned_before_more p m e rank c part h }

-- ---- a step

-- what is buffered after a step is so at the end: it is a standard send, and no policy that has
-- none buffered allows it
pub buffered_there : (p : MpiProgram) (n e : Configuration) → Kept p n → AllBuffered p e → ((k : ℕ) → slice_index n.next k ≤ slice_index e.next k) → (c : ℕ) → is_buffered n c ≡ true → is_buffered e c ≡ true
buffered_there p n e kept all next c h =
    let known = kept.buffered c h in
    all (λ never. absurd (let off : is_buffered n c ≡ false = kept.never never c in cc)) c known.1 (issued_by_next p n e c next known.0)

pub rise : (p : MpiProgram) (m e : Configuration) (x : Step) → Kept p m → Kept p e → HasEnded p e → AllBuffered p e → Part p m e → IsEnabled p m x → MatchesWithin (after m x) e → Part p (after m x) e
rise p m e (Match s t) kept kept_e ended all part enabled within = record { next = part.next; partner = within; buffered = part.buffered }
rise p m e (See s f) kept kept_e ended all part enabled within = record { next = part.next; partner = within; buffered = part.buffered }
rise p m e (Issue r b) kept kept_e ended all part enabled within =
    let next = next_there p m e r b kept kept_e ended (behind_of p m e part) enabled in
    record {
      next = next;
      partner = within;
      buffered = λ c h. buffered_there p (after m (Issue r b)) e (kept_after p m (Issue r b) kept enabled) all next c h;
    }

-- ---- where there is one way to match

rise_all : (p : MpiProgram) (e m : Configuration) (steps : List Step) → Kept p m → Kept p e → HasEnded p e → AllBuffered p e → Part p m e → IsRun p m steps → MatchesWithin (after_all m steps) e → Part p (after_all m steps) e
rise_all p e m [] kept kept_e ended all part run within = part
rise_all p e m (x ∷ xs) kept kept_e ended all part run within =
    let kept_x = kept_after p m x kept run.0 in
    let later : Part p (after m x) (after_all (after m x) xs) = part_all p (after m x) xs kept_x run.1 in
    rise_all p e (after m x) xs kept_x kept_e ended all
    (rise p m e x kept kept_e ended all part run.0 (λ c u h. within c u (later.partner c u h)))
    run.1 within

pub all_buffered_opening : (p : MpiProgram) → IsInRankOrder p → AllBuffered p (opening p)
all_buffered_opening p order not_never c standard issued = absurd (none_issued p c order issued)

pub one_way_is_greatest : OneWayIsGreatest
one_way_is_greatest p steps order ended choice one other run =
    let e = after_all (opening p) steps in
    let start = kept_opening p order in
    let all : AllBuffered p e = buffered_all p (opening p) steps start ended.run choice (all_buffered_opening p order) in
    is_part_of p (after_all (opening p) other) e
    (rise_all p e (opening p) other start (kept_run p steps order ended.run) ended.ended all (part_all p (opening p) steps start ended.run) run (one other run))

-- ---- what the greatest run doesn't finish

pub unfinished_in_every_run : UnfinishedInEveryRun
unfinished_in_every_run p steps rank order run greatest unfinished other also =
    unfinished_too p steps other rank order run also
    (behind_of p (after_all (opening p) other) (after_all (opening p) steps) (part_of p (after_all (opening p) other) (after_all (opening p) steps) (greatest other also))) unfinished

pub greatest_sticks_always : GreatestSticksAlways
greatest_sticks_always p steps order stuck greatest =
    sticks_always p steps order stuck
    (λ other run. behind_of p (after_all (opening p) other) (after_all (opening p) steps) (part_of p (after_all (opening p) other) (after_all (opening p) steps) (greatest other run)))

pub one_way_sticks_always : OneWaySticksAlways
one_way_sticks_always p steps order stuck choice one =
    greatest_sticks_always p steps order stuck (one_way_is_greatest p steps order (ended_of p steps stuck) choice one)

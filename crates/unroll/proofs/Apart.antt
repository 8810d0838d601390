-- The messages of collective calls are apart.
use Rattle.std.proofs.Common.{◌≡◌, ℕ, ◌+◌, Bool, true, false, Option, Some, None, List, [], ◌∷◌, ◌++◌, slice_get, nat_eq, nat_le, nat_lt, length, cond, not, ◌||◌, ◌&&◌, ◌==◌, ap, sym, ◌∙◌, subst, refl, suc, arith}
use Rattle.std.proofs.lemmas.Bool.{and_parts, eqb-true}
use Rattle.std.proofs.lemmas.List.{append-nil, append_assoc}
use Rattle.std.specs.List.{AllByRecursion, list_any}
use Rattle.std.specs.Prelude.{if◌then◌else◌}
use Rattle.spmd_tree.specs.declared.tree.SendMode.{SendMode}
use Rattle.spmd_tree.specs.declared.tree.CollectiveKind.{CollectiveKind}
use Rattle.spmd_tree.specs.declared.tree.CollectiveKind.TheVariants as kind
use Rattle.unroll.specs.declared.call.Group.{Group}
use Rattle.unroll.specs.declared.call.Meeting.{Meeting}
use Rattle.unroll.specs.declared.call.Placed.{Placed}
use Rattle.unroll.specs.declared.call.UnrolledCall.{UnrolledCall}
use Rattle.unroll.specs.declared.collective.Way.{Way}
use Rattle.unroll.specs.declared.machine.Scope.{Scope}
use Rattle.unroll.specs.Groups.{others, before, member_after, is_member, same_meeting, meeting_of, meeting_number, meetings_with, earlier_calls}
use Rattle.unroll.specs.Collectives.{sends, receives, meet, spread, collect, chain, collective_calls, kind_for, way_of}
use Rattle.unroll.specs.Runs.{TextRun, Outcome, Done, Failed, then_do, call_put, put_each, with_meeting, attendance_noted, meeting_run, collective_run}
use Rattle.unroll.specs.Apart.{IsWithin, AreOfThoseWhoMeet, CollectivesAreApart}

-- ---- the forms

all_of_both : (c : ℕ) (a b : List UnrolledCall) → AllByRecursion (IsWithin c) a → AllByRecursion (IsWithin c) b → AllByRecursion (IsWithin c) (a ++ b)
all_of_both c [] b p q = q
all_of_both c (x ∷ a) b p q = (p.0, all_of_both c a b p.1 q)

sends_within : (m : SendMode) (tag c : ℕ) (ranks : List ℕ) → AllByRecursion (IsWithin c) (sends m tag c ranks)
sends_within m tag c [] = tt
sends_within m tag c (r ∷ ranks) = (refl, sends_within m tag c ranks)

receives_within : (tag c : ℕ) (ranks : List ℕ) → AllByRecursion (IsWithin c) (receives tag c ranks)
receives_within tag c [] = tt
receives_within tag c (r ∷ ranks) = (refl, receives_within tag c ranks)

meet_within : (is : Bool) (root : ℕ) (ranks : List ℕ) (w : Way) → AllByRecursion (IsWithin w.communicator) (meet is root ranks w)
meet_within true root ranks w = all_of_both w.communicator (receives w.first w.communicator ranks) _ (receives_within w.first w.communicator ranks) (sends_within _ w.second w.communicator ranks)
meet_within false root ranks w = (refl, (refl, tt))

spread_within : (is : Bool) (root : ℕ) (ranks : List ℕ) (w : Way) → AllByRecursion (IsWithin w.communicator) (spread is root ranks w)
spread_within true root ranks w = all_of_both w.communicator (sends _ w.first w.communicator ranks) _ (sends_within _ w.first w.communicator ranks) (sends_within _ w.second w.communicator ranks)
spread_within false root ranks w = (refl, (refl, tt))

collect_within : (is : Bool) (root : ℕ) (ranks : List ℕ) (w : Way) → AllByRecursion (IsWithin w.communicator) (collect is root ranks w)
collect_within true root ranks w = all_of_both w.communicator (receives w.first w.communicator ranks) _ (receives_within w.first w.communicator ranks) (receives_within w.second w.communicator ranks)
collect_within false root ranks w = (refl, (refl, tt))

chain_within : (b a : Option ℕ) (w : Way) → AllByRecursion (IsWithin w.communicator) (chain b a w)
chain_within None None w = tt
chain_within None (Some next) w = (refl, (refl, tt))
chain_within (Some last) None w = (refl, (refl, tt))
chain_within (Some last) (Some next) w = (refl, (refl, (refl, (refl, tt))))

forms_within : (k : CollectiveKind) (root : ℕ) (g : Group) (size rank : ℕ) (w : Way) → AllByRecursion (IsWithin w.communicator) (collective_calls k root g size rank w)
forms_within kind.Barrier root g size rank w = meet_within (nat_eq rank root) root (others g size rank) w
forms_within kind.Broadcast root g size rank w = spread_within (nat_eq rank root) root (others g size rank) w
forms_within kind.Reduce root g size rank w = collect_within (nat_eq rank root) root (others g size rank) w
forms_within kind.AllReduce root g size rank w = meet_within (nat_eq rank root) root (others g size rank) w
forms_within kind.Gather root g size rank w = collect_within (nat_eq rank root) root (others g size rank) w
forms_within kind.Scatter root g size rank w = spread_within (nat_eq rank root) root (others g size rank) w
forms_within kind.AllGather root g size rank w = meet_within (nat_eq rank root) root (others g size rank) w
forms_within kind.AllToAll root g size rank w = meet_within (nat_eq rank root) root (others g size rank) w
forms_within kind.Scan root g size rank w = chain_within (before g rank) (member_after g rank) w

-- ---- who meets has a number

abbrev meeting_with : ℕ → ℕ → ℕ → ℕ → Meeting
meeting_with c first last step = record { communicator = c; group = record { first = first; last = last; step = step } }

meeting_is : (a b : Meeting) → same_meeting a b ≡ true → a ≡ b
meeting_is a b e =
    let one = and_parts (a.communicator == b.communicator) (a.group.first == b.group.first && (a.group.last == b.group.last && a.group.step == b.group.step)) e in
    let two = and_parts (a.group.first == b.group.first) (a.group.last == b.group.last && a.group.step == b.group.step) one.1 in
    let three = and_parts (a.group.last == b.group.last) (a.group.step == b.group.step) two.1 in
    ap (λ (z : ℕ). meeting_with z a.group.first a.group.last a.group.step) (eqb-true a.communicator b.communicator one.0)
    ∙ ap (λ (z : ℕ). meeting_with b.communicator z a.group.last a.group.step) (eqb-true a.group.first b.group.first two.0)
    ∙ ap (λ (z : ℕ). meeting_with b.communicator b.group.first z a.group.step) (eqb-true a.group.last b.group.last three.0)
    ∙ ap (λ (z : ℕ). meeting_with b.communicator b.group.first b.group.last z) (eqb-true a.group.step b.group.step three.1)

one_above : (k : ℕ) → 1 + k ≡ suc k
one_above k = omega arith

past_first : (b : Bool) (x : Meeting) (xs ys : List Meeting) (k : ℕ) → slice_get (if b then x ∷ xs else x ∷ ys) (1 + k) ≡ slice_get (if b then xs else ys) k
past_first true x xs ys k = ap (λ (n : ℕ). slice_get (x ∷ xs) n) (one_above k)
past_first false x xs ys k = ap (λ (n : ℕ). slice_get (x ∷ ys) n) (one_above k)

meets_here : (m : Meeting) (meetings : List Meeting) → slice_get (meetings_with meetings m) (meeting_number meetings m) ≡ Some m
meets_here m [] = refl
meets_here m (x ∷ xs) = by (same_meeting m x) refl (meets_here m xs)
  where
    by : (b : Bool) → same_meeting m x ≡ b → slice_get (meetings_with xs m) (meeting_number xs m) ≡ Some m → slice_get (meetings_with (x ∷ xs) m) (meeting_number (x ∷ xs) m) ≡ Some m
    by true e rest =
        subst (λ (b : Bool). slice_get (if b || list_any (same_meeting m) xs then x ∷ xs else (x ∷ xs) ++ m ∷ []) (cond (not b) (1 + meeting_number xs m) 0) ≡ Some m) (sym e)
        (ap Some (sym (meeting_is m x e)))
    by false e rest =
        subst (λ (b : Bool). slice_get (if b || list_any (same_meeting m) xs then x ∷ xs else (x ∷ xs) ++ m ∷ []) (cond (not b) (1 + meeting_number xs m) 0) ≡ Some m) (sym e)
        (past_first (list_any (same_meeting m) xs) x xs (xs ++ m ∷ []) (meeting_number xs m) ∙ rest)

-- ---- the calls that are put

-- what holds of the run that an outcome leaves, where it is done
abbrev pub OnDone : (TextRun → Type 0) → Outcome → Type 0
OnDone P (Done run) = P run
OnDone P (Failed fault run) = Unit {0}

pub then_on : (P Q : TextRun → Type 0) (o : Outcome) (go : TextRun → Outcome) → OnDone P o → ((r : TextRun) → P r → OnDone Q (go r)) → OnDone Q (then_do o go)
then_on P Q (Done run) go p next = next run p
then_on P Q (Failed fault run) go p next = tt

pub if_on : (P : TextRun → Type 0) (b : Bool) (x y : Outcome) → OnDone P x → OnDone P y → OnDone P (if b then x else y)
if_on P true x y p q = p
if_on P false x y p q = q

pub on_map : (P Q : TextRun → Type 0) (o : Outcome) → ((r : TextRun) → P r → Q r) → OnDone P o → OnDone Q o
on_map P Q (Done run) f p = f run p
on_map P Q (Failed fault run) f p = tt

pub on_done : (P : TextRun → Type 0) (o : Outcome) (after : TextRun) → OnDone P o → o ≡ Done after → P after
on_done P o after p e = subst (λ (x : Outcome). OnDone P x) e p

-- calls within a communicator are added, and nobody new meets
record Adds (c : ℕ) (run after : TextRun) : Type 0 where
  added : List Placed
  calls : after.calls ≡ run.calls ++ added
  are : AllByRecursion (λ p. IsWithin c p.call) added
  meetings : after.meetings ≡ run.meetings

one_more : (c : ℕ) (ps : List Placed) (p : Placed) → AllByRecursion (λ q. IsWithin c q.call) ps → IsWithin c p.call → AllByRecursion (λ q. IsWithin c q.call) (ps ++ p ∷ [])
one_more c [] p all is = (is, tt)
one_more c (x ∷ ps) p all is = (all.0, one_more c ps p all.1 is)

call_adds : (c : ℕ) (x : UnrolledCall) (scope : Scope) (line : ℕ) (start run : TextRun) → IsWithin c x → Adds c start run → OnDone (Adds c start) (call_put scope line x run)
call_adds c x scope line start run is so =
    let p : Placed = record { rank = scope.rank; line = line; turn = run.turn; call = x } in
    if_on (Adds c start) (nat_lt (length run.calls) scope.most_calls) _ _
    (record {
      added = so.added ++ p ∷ [];
      calls = ap (λ (l : List Placed). l ++ p ∷ []) so.calls ∙ append_assoc start.calls so.added (p ∷ []);
      are = one_more c so.added p so.are is;
      meetings = so.meetings;
    }) tt

put_adds : (c : ℕ) (xs : List UnrolledCall) (scope : Scope) (line : ℕ) (start run : TextRun) → AllByRecursion (IsWithin c) xs → Adds c start run → OnDone (Adds c start) (put_each xs scope line run)
put_adds c [] scope line start run all so = so
put_adds c (x ∷ xs) scope line start run all so =
    then_on (Adds c start) (Adds c start) (call_put scope line x run) (λ r. put_each xs scope line r) (call_adds c x scope line start run all.0 so) (λ r more. put_adds c xs scope line start r all.1 more)

meeting_adds : (scope : Scope) (line : ℕ) (k : CollectiveKind) (root : ℕ) (g : Group) (number : ℕ) (run : TextRun) → OnDone (Adds (128 + number) run) (meeting_run scope line k root g number run)
meeting_adds scope line k root g number run =
    let earlier = earlier_calls run.attended number scope.rank in
    let noted = attendance_noted number scope.rank (earlier + 1) run in
    let calls = collective_calls (kind_for scope.barriers k) root g scope.size scope.rank (way_of k earlier number) in
    if_on (Adds (128 + number) run) (nat_le 2147483520 number) _ _ tt
    (if_on (Adds (128 + number) run) (nat_le 67108864 earlier) _ _ tt
    (put_adds (128 + number) calls scope line run noted (forms_within (kind_for scope.barriers k) root g scope.size scope.rank (way_of k earlier number))
    (record { added = []; calls = sym (append-nil run.calls); are = tt; meetings = refl })))

of_those : (m : Meeting) (run after : TextRun) → Adds (128 + meeting_number run.meetings m) (with_meeting m run) after → AreOfThoseWhoMeet m run after
of_those m run after so =
    record {
      number = meeting_number run.meetings m;
      meet = ap (λ (ms : List Meeting). slice_get ms (meeting_number run.meetings m)) so.meetings ∙ meets_here m run.meetings;
      added = so.added;
      calls = so.calls;
      are = so.are;
    }

pub collectives_are_apart : CollectivesAreApart
collectives_are_apart scope line k root g c run after e =
    let m = meeting_of c g in
    let number = meeting_number run.meetings m in
    on_done (AreOfThoseWhoMeet m run) (collective_run scope line k root g c run) after
    (if_on (AreOfThoseWhoMeet m run) (is_member g scope.rank) _ _
    (if_on (AreOfThoseWhoMeet m run) (is_member g root) _ _
    (on_map (Adds (128 + number) (with_meeting m run)) (AreOfThoseWhoMeet m run) (meeting_run scope line k root g number (with_meeting m run)) (λ r so. of_those m run r so)
    (meeting_adds scope line k root g number (with_meeting m run))) tt) tt)
    e

-- Of what stands at one place one call is read.
use Rattle.std.proofs.Common.{◌≡◌, ℕ, Bool, true, false, List, Option, Some, None, is_some, refl, ap, sym, ◌∙◌, arith}
use Rattle.std.proofs.lemmas.Bool.{false≢true}
use Rattle.spmd_tree.specs.declared.tree.SendMode.{SendMode}
use Rattle.spmd_tree.specs.declared.tree.SendMode.TheVariants.{Standard, Synchronous, Buffered}
use Rattle.spmd_tree.specs.declared.tree.CollectiveKind.{CollectiveKind}
use Rattle.spmd_tree.specs.declared.tree.CollectiveKind.TheVariants as kind
use Rattle.spmd_tree.specs.declared.tree.Expression.{Expression}
use Rattle.spmd_tree.specs.declared.tree.LabelForm.{LabelForm}
use Rattle.spmd_tree.specs.declared.tree.GroupForm.{GroupForm}
use Rattle.spmd_tree.specs.declared.tree.Labels.{Labels}
use Rattle.spmd_tree.specs.declared.tree.Labels.TheVariants.{Last, More'}
use Rattle.spmd_tree.specs.declared.tree.Arguments.{Arguments}
use Rattle.spmd_tree.specs.declared.tree.Arguments.TheVariants as call
use Rattle.spmd_text.specs.declared.piece.Word.{Word}
use Rattle.spmd_text.specs.declared.piece.Word.TheVariants as word
use Rattle.spmd_text.specs.declared.piece.Piece.{Piece}
use Rattle.spmd_text.specs.declared.piece.Piece.TheVariants as piece
use Rattle.spmd_text.specs.declared.piece.Token.{Token}
use Rattle.spmd_text.specs.Spelling.{Rest, after_arguments, after_call_tree, after_communicator, after_group, after_index, after_label, after_labels, after_optional, after_piece, after_request, after_root, after_value, after_wild, call_word, has_root, is_rooted, kind_word, matched_word, only, receive_word, same, word_of_send}
use Rattle.spmd_text.proofs.NoStar.{only_left}
use Rattle.spmd_text.proofs.Strict.{labels_strict, only_none, value_strict}
use Rattle.spmd_tree.specs.Plain.{Place, put_call, put_expression, put_group, put_label, put_labels, put_optional, put_request}
use Rattle.spmd_text.proofs.OneExpression.{between_parts, next, next_is, no_star, quiet}
use Rattle.spmd_text.proofs.OnePart.{Flows, Meets, any, flows_as, meet_as, meet_within, never_meet, not_behind, nothing_flows, nothing_meets, optionals_meet, piece_flows, piece_meets, pieces_meet, then_flows, then_given, then_meet, value_flows, values_meet}

-- ---- what comes behind parts

abbrev pub at_end : Piece → Bool
at_end piece.LineEnd = true
at_end _ = false

abbrev at_communicator : Piece → Bool
at_communicator (piece.Word word.Comm) = true
at_communicator p = at_end p

pub end_quiet : (p : Piece) → at_end p ≡ true → quiet p ≡ true
end_quiet piece.LineEnd h = refl
end_quiet p h = absurd (false≢true h)

communicator_quiet : (p : Piece) → at_communicator p ≡ true → quiet p ≡ true
communicator_quiet (piece.Word word.Comm) h = refl
communicator_quiet piece.LineEnd h = refl
communicator_quiet p h = absurd (false≢true h)

end_communicator : (p : Piece) → at_end p ≡ true → at_communicator p ≡ true
end_communicator piece.LineEnd h = refl
end_communicator p h = absurd (false≢true h)

-- ---- requests and handles

index_flows : (e : Option Expression) → Flows (after_index e) any quiet
index_flows None = nothing_flows any quiet (λ q h. refl)
index_flows (Some e) = flows_as (λ q h. h) (λ q h. refl) (then_flows (then_flows (piece_flows piece.OpenIndex any refl) (value_flows e)) (piece_flows piece.CloseIndex quiet refl))

indices_meet : (n : Place) (c d : Option Expression) → Meets (after_index c) (after_index d) any quiet (put_optional n c ≡ put_optional n d)
indices_meet n None None = meet_as (λ t. refl) (nothing_meets any quiet (λ q h. refl))
indices_meet n (Some e) (Some f) =
    meet_as (λ t. ap Some t.0.1)
    (meet_within (λ q h. h) (λ q h. refl) (then_meet (then_meet (piece_meets piece.OpenIndex any refl) (values_meet n e f)) (piece_meets piece.CloseIndex quiet refl)))
indices_meet n None (Some f) =
    never_meet (index_flows None) (index_flows (Some f))
    (λ ts r s e e' h h'. not_behind piece.OpenIndex (λ z. after_piece piece.CloseIndex (after_value f z)) quiet refl (ap (after_piece piece.CloseIndex) (value_strict f)) ts r s e e' h)
indices_meet n (Some f) None =
    never_meet (index_flows (Some f)) (index_flows None)
    (λ ts r s e e' h h'. not_behind piece.OpenIndex (λ z. after_piece piece.CloseIndex (after_value f z)) quiet refl (ap (after_piece piece.CloseIndex) (value_strict f)) ts s r e' e h')

name_of : Piece → ℕ
name_of (piece.Name k) = k
name_of _ = 0

pub same_names : (j k : ℕ) → piece.Name j ≡ piece.Name k → j ≡ k
unfolding name_of
same_names j k e = ap name_of e

pub labels_one : (n : Place) (f g : LabelForm) → Meets (after_label f) (after_label g) any quiet (put_label n f ≡ put_label n g)
labels_one n f g =
    meet_as (λ t. let names = same_names f.name g.name t.0 in λ i. record { name = names i; index = t.1 i })
    (then_meet (pieces_meet (piece.Name f.name) (piece.Name g.name) any refl refl) (indices_meet n f.index g.index))

requests_meet : (n : Place) (f g : Option LabelForm) → is_some f ≡ is_some g → Meets (after_request f) (after_request g) any any (put_request n f ≡ put_request n g)
requests_meet n None None is = meet_as (λ t. refl) (nothing_meets any any (λ q h. refl))
requests_meet n (Some f) (Some g) is = meet_as (λ t. ap Some t.0) (then_meet (labels_one n f g) (piece_meets piece.Comma quiet refl))
requests_meet n None (Some g) is = absurd (false≢true is)
requests_meet n (Some f) None is = absurd (false≢true (sym is))

pub labels_flows : (l : Labels) → Flows (after_labels l) any at_end
labels_flows l = record { strict = labels_strict l; first = λ ts rest e h. refl }

-- a list of one request and a longer one never stand at one place
one_or_more : (n : Place) (f g : LabelForm) (others : Labels) (ts r s : List Token) → after_label f (Some ts) ≡ Some r
    → after_labels others (after_piece piece.Comma (after_label g (Some ts))) ≡ Some s → at_end (next r) ≡ true → ⊥
one_or_more n f g others ts r s e e' h =
    let m = between_parts (after_labels others) (labels_strict others) (after_piece piece.Comma (after_label g (Some ts))) s e' in
    let k = between_parts (after_piece piece.Comma) refl (after_label g (Some ts)) m.here m.is in
    let comma = next_is piece.Comma k.here m.here k.so in
    let one = (labels_one n f g).one ts r k.here e k.is (end_quiet (next r) h) (ap quiet comma) in
    false≢true (sym (ap (λ (l : List Token). at_end (next l)) one.1 ∙ ap at_end comma) ∙ h)

pub labels_meet : (n : Place) (l m : Labels) → Meets (after_labels l) (after_labels m) any at_end (put_labels n l ≡ put_labels n m)
labels_meet n (Last f) (Last g) = meet_as (λ t. ap Last t) (meet_within (λ q h. h) end_quiet (labels_one n f g))
labels_meet n (More' f p others) (More' g q rest) =
    meet_as (λ t. λ i. More' (t.0.0 i) n (t.1 i)) (then_meet (then_meet (labels_one n f g) (piece_meets piece.Comma quiet refl)) (labels_meet n others rest))
labels_meet n (Last f) (More' g q rest) =
    never_meet (labels_flows (Last f)) (labels_flows (More' g q rest)) (λ ts r s e e' h h'. one_or_more n f g rest ts r s e e' h)
labels_meet n (More' f p others) (Last g) =
    never_meet (labels_flows (More' f p others)) (labels_flows (Last g)) (λ ts r s e e' h h'. one_or_more n g f others ts s r e' e h')

-- ---- the other parts of calls

wild_flows : (e : Option Expression) → Flows (after_wild e) any quiet
wild_flows None = flows_as (λ q h. h) (λ q h. refl) (piece_flows piece.Star any refl)
wild_flows (Some e) = value_flows e

star_or_value : (n : Place) (f : Expression) (ts r s : List Token) → after_piece piece.Star (Some ts) ≡ Some r → after_value f (Some ts) ≡ Some s → quiet (next s) ≡ true → ⊥
star_or_value n f ts r s e e' h = no_star n f ts s (only_left _ _ s e').1 h (next_is piece.Star ts r e)

wilds_meet : (n : Place) (c d : Option Expression) → Meets (after_wild c) (after_wild d) any quiet (put_optional n c ≡ put_optional n d)
wilds_meet n None None = meet_as (λ t. refl) (meet_within (λ q h. h) (λ q h. refl) (piece_meets piece.Star any refl))
wilds_meet n (Some e) (Some f) = meet_as (λ t. ap Some t) (values_meet n e f)
wilds_meet n None (Some f) = never_meet (wild_flows None) (wild_flows (Some f)) (λ ts r s e e' h h'. star_or_value n f ts r s e e' h')
wilds_meet n (Some f) None = never_meet (wild_flows (Some f)) (wild_flows None) (λ ts r s e e' h h'. star_or_value n f ts s r e' e h)

roots_meet : (n : Place) (c d : Option Expression) → has_root c ≡ has_root d → Meets (after_root c) (after_root d) any quiet (put_optional n c ≡ put_optional n d)
roots_meet n None None is = meet_as (λ t. refl) (nothing_meets any quiet (λ q h. refl))
roots_meet n (Some e) (Some f) is = meet_as (λ t. ap Some t) (values_meet n e f)
roots_meet n None (Some f) is = absurd (false≢true is)
roots_meet n (Some f) None is = absurd (false≢true (sym is))

-- what stands behind the word
after_ranks : GroupForm → Rest → Rest
after_ranks g z = after_optional (piece.Word word.Step) g.step (after_value g.last (after_piece (piece.Word word.To) (after_value g.first z)))

ranks_meet : (n : Place) (g h : GroupForm) → Meets (after_ranks g) (after_ranks h) any at_communicator (put_group n (Some g) ≡ put_group n (Some h))
unfolding after_ranks
ranks_meet n g h =
    meet_as (λ t. λ i. Some (record { first = t.0.0.0 i; last = t.0.1 i; step = t.1 i }))
    (then_meet (then_meet (then_meet (values_meet n g.first h.first) (piece_meets (piece.Word word.To) quiet refl)) (values_meet n g.last h.last))
    (optionals_meet n (piece.Word word.Step) g.step h.step quiet at_communicator refl refl communicator_quiet communicator_quiet))

group_flows : (n : Place) (g : Option GroupForm) → Flows (after_group g) quiet at_communicator
unfolding after_ranks
group_flows n None = nothing_flows quiet at_communicator communicator_quiet
group_flows n (Some g) = then_flows (piece_flows (piece.Word word.Among) quiet refl) (ranks_meet n g g).left

groups_meet : (n : Place) (c d : Option GroupForm) → Meets (after_group c) (after_group d) quiet at_communicator (put_group n c ≡ put_group n d)
unfolding after_ranks
groups_meet n None None = meet_as (λ t. refl) (nothing_meets quiet at_communicator communicator_quiet)
groups_meet n (Some g) (Some h) = meet_as (λ t. t.1) (then_meet (piece_meets (piece.Word word.Among) quiet refl) (ranks_meet n g h))
groups_meet n None (Some h) =
    never_meet (group_flows n None) (group_flows n (Some h))
    (λ ts r s e e' k k'. not_behind (piece.Word word.Among) (after_ranks h) at_communicator refl (ranks_meet n h h).left.strict ts r s e e' k)
groups_meet n (Some h) None =
    never_meet (group_flows n (Some h)) (group_flows n None)
    (λ ts r s e e' k k'. not_behind (piece.Word word.Among) (after_ranks h) at_communicator refl (ranks_meet n h h).left.strict ts s r e' e k')

-- a communicator, up to the end of the line
communicators_meet : (n : Place) (c d : Option Expression) (before : Piece → Bool) → before (piece.Word word.Comm) ≡ true → ((q : Piece) → at_end q ≡ true → before q ≡ true)
    → Meets (after_communicator c) (after_communicator d) before at_end (put_optional n c ≡ put_optional n d)
communicators_meet n c d before so back = optionals_meet n (piece.Word word.Comm) c d before at_end so refl back end_quiet

-- ---- the words of calls

call_sort : Word → ℕ
call_sort word.Recv = 1
call_sort word.Irecv = 1
call_sort word.Mprobe = 2
call_sort word.Probe = 3
call_sort word.Mrecv = 4
call_sort word.Imrecv = 4
call_sort word.Wait = 5
call_sort word.Sendrecv = 6
call_sort word.Barrier = 7
call_sort word.Bcast = 7
call_sort word.Reduce = 7
call_sort word.Allreduce = 7
call_sort word.Gather = 7
call_sort word.Scatter = 7
call_sort word.Allgather = 7
call_sort word.Alltoall = 7
call_sort word.Scan = 7
call_sort _ = 0

sort_of : Arguments → ℕ
sort_of (call.Send mode request d t c) = 0
sort_of (call.Receive request s t c) = 1
sort_of (call.MatchedProbe handle s t c) = 2
sort_of (call.Probe s t c) = 3
sort_of (call.MatchedReceive request handle) = 4
sort_of (call.Wait request) = 5
sort_of (call.SendReceive d t s u c) = 6
sort_of (call.Collective k root g c) = 7

word_sort : (c : Arguments) → call_sort (call_word c) ≡ sort_of c
unfolding call_sort sort_of
word_sort (call.Send Standard None d t c) = refl
word_sort (call.Send mode None d t c) = refl
word_sort (call.Send Standard (Some f) d t c) = refl
word_sort (call.Send mode (Some f) d t c) = refl
word_sort (call.Receive None s t c) = refl
word_sort (call.Receive (Some f) s t c) = refl
word_sort (call.MatchedReceive None handle) = refl
word_sort (call.MatchedReceive (Some f) handle) = refl
word_sort (call.Collective kind.Barrier root g c) = refl
word_sort (call.Collective k root g c) = refl
word_sort c = refl

same_sort : (c d : Arguments) → call_word c ≡ call_word d → sort_of c ≡ sort_of d
same_sort c d e = sym (word_sort c) ∙ (ap call_sort e ∙ word_sort d)

starts : Word → Bool
starts word.Isend = true
starts word.Issend = true
starts word.Ibsend = true
starts word.Irecv = true
starts word.Imrecv = true
starts _ = false

mode_of_word : Word → SendMode
mode_of_word word.Ssend = Synchronous
mode_of_word word.Issend = Synchronous
mode_of_word word.Bsend = Buffered
mode_of_word word.Ibsend = Buffered
mode_of_word _ = Standard

send_back : (m : SendMode) (f : Option LabelForm) → (mode_of_word (word_of_send m f) ≡ m) × (starts (word_of_send m f) ≡ is_some f)
unfolding mode_of_word starts
send_back Standard None = (refl, refl)
send_back m None = (refl, refl)
send_back Standard (Some f) = (refl, refl)
send_back m (Some f) = (refl, refl)

receive_back : (f : Option LabelForm) → starts (receive_word f) ≡ is_some f
unfolding starts
receive_back None = refl
receive_back (Some f) = refl

matched_back : (f : Option LabelForm) → starts (matched_word f) ≡ is_some f
unfolding starts
matched_back None = refl
matched_back (Some f) = refl

kind_of_word : Word → CollectiveKind
kind_of_word word.Bcast = kind.Broadcast
kind_of_word word.Reduce = kind.Reduce
kind_of_word word.Allreduce = kind.AllReduce
kind_of_word word.Gather = kind.Gather
kind_of_word word.Scatter = kind.Scatter
kind_of_word word.Allgather = kind.AllGather
kind_of_word word.Alltoall = kind.AllToAll
kind_of_word word.Scan = kind.Scan
kind_of_word _ = kind.Barrier

kind_back : (k : CollectiveKind) → kind_of_word (kind_word k) ≡ k
unfolding kind_of_word
kind_back kind.Barrier = refl
kind_back k = refl

-- ---- calls

comma : Meets (after_piece piece.Comma) (after_piece piece.Comma) quiet any (piece.Comma ≡ piece.Comma)
comma = piece_meets piece.Comma quiet refl

-- a source, a comma and a tag, a communicator, and the end of the line
patterns_meet : (n : Place) (s t c s' t' c' : Option Expression) → Meets (λ z. after_communicator c (after_wild t (after_piece piece.Comma (after_wild s z)))) (λ z. after_communicator c' (after_wild t' (after_piece piece.Comma (after_wild s' z)))) any at_end
    ((put_optional n s ≡ put_optional n s') × (put_optional n t ≡ put_optional n t') × (put_optional n c ≡ put_optional n c'))
patterns_meet n s t c s' t' c' =
    meet_as (λ x. (x.0.0.0, x.0.1, x.1)) (then_meet (then_meet (then_meet (wilds_meet n s s') comma) (wilds_meet n t t')) (communicators_meet n c c' quiet refl end_quiet))

-- a destination, a comma and a tag
messages_meet : (n : Place) (d t d' t' : Expression) → Meets (λ z. after_value t (after_piece piece.Comma (after_value d z))) (λ z. after_value t' (after_piece piece.Comma (after_value d' z))) any quiet
    ((put_expression n d ≡ put_expression n d') × (put_expression n t ≡ put_expression n t'))
messages_meet n d t d' t' = meet_as (λ x. (x.0.0, x.1)) (then_meet (then_meet (values_meet n d d') comma) (values_meet n t t'))

pub only_flows : {f : Rest → Rest} {a b : Piece → Bool} (p : Bool) → Flows f a b → Flows (λ z. only p (f z)) a b
only_flows {f} p x = record {
  strict = ap (λ (z : Rest). only p z) x.strict ∙ only_none p;
  first = λ ts rest e h. x.first ts rest (only_left p (f (Some ts)) rest e).1 h;
}

-- what both tests tell is known
pub only_meet : {f g : Rest → Rest} {a b : Piece → Bool} {S : Type 0} (p q : Bool) → Flows f a b → Flows g a b → (p ≡ true → q ≡ true → Meets f g a b S)
    → Meets (λ z. only p (f z)) (λ z. only q (g z)) a b S
only_meet {f} {g} p q x y so = record {
  left = only_flows p x;
  right = only_flows q y;
  one = λ ts r s e e' h h'.
      let o = only_left p (f (Some ts)) r e in
      let o' = only_left q (g (Some ts)) s e' in
      (so o.0 o'.0).one ts r s o.1 o'.1 h h';
}

rooted_so : (a b : Bool) → same a b ≡ true → b ≡ a
rooted_so true b e = e
rooted_so false true e = absurd (false≢true e)
rooted_so false false e = refl

collectives_meet : (n : Place) (k : CollectiveKind) (root : Option Expression) (g : Option GroupForm) (c : Option Expression) (j : CollectiveKind) (root' : Option Expression) (g' : Option GroupForm) (c' : Option Expression) → k ≡ j
    → Meets (after_arguments (call.Collective k root g c)) (after_arguments (call.Collective j root' g' c')) any at_end (put_call n (call.Collective k root g c) ≡ put_call n (call.Collective j root' g' c'))
collectives_meet n k root g c j root' g' c' is =
    only_meet (same (is_rooted k) (has_root root)) (same (is_rooted j) (has_root root')) (behind root g c root g c refl).left (behind root' g' c' root' g' c' refl).left
    (λ e e'. meet_as (λ x. λ i. call.Collective (is i) (x.0.0 i) (x.0.1 i) (x.1 i))
    (behind root g c root' g' c' (rooted_so _ _ e ∙ (ap is_rooted is ∙ sym (rooted_so _ _ e')))))
  where
    behind : (r : Option Expression) (h : Option GroupForm) (d : Option Expression) (r' : Option Expression) (h' : Option GroupForm) (d' : Option Expression) → has_root r ≡ has_root r'
        → Meets (λ z. after_communicator d (after_group h (after_root r z))) (λ z. after_communicator d' (after_group h' (after_root r' z))) any at_end
        (((put_optional n r ≡ put_optional n r') × (put_group n h ≡ put_group n h')) × (put_optional n d ≡ put_optional n d'))
    behind r h d r' h' d' e = then_meet (then_meet (roots_meet n r r' e) (groups_meet n h h')) (communicators_meet n d d' at_communicator refl end_communicator)

pub arguments_meet : (n : Place) (c d : Arguments) → call_word c ≡ call_word d → Meets (after_arguments c) (after_arguments d) any at_end (put_call n c ≡ put_call n d)
unfolding sort_of
arguments_meet n (call.Send m f d t c) (call.Send m' f' d' t' c') is =
    let mode : m ≡ m' = sym (send_back m f).0 ∙ (ap mode_of_word is ∙ (send_back m' f').0) in
    let started : is_some f ≡ is_some f' = sym (send_back m f).1 ∙ (ap starts is ∙ (send_back m' f').1) in
    meet_as (λ x. λ i. call.Send (mode i) (x.0.0 i) (x.0.1.0 i) (x.0.1.1 i) (x.1 i))
    (then_meet (then_meet (requests_meet n f f' started) (messages_meet n d t d' t')) (communicators_meet n c c' quiet refl end_quiet))
arguments_meet n (call.Receive f s t c) (call.Receive f' s' t' c') is =
    let started : is_some f ≡ is_some f' = sym (receive_back f) ∙ (ap starts is ∙ receive_back f') in
    meet_as (λ x. λ i. call.Receive (x.0 i) (x.1.0 i) (x.1.1 i) (x.1.2 i)) (then_meet (requests_meet n f f' started) (patterns_meet n s t c s' t' c'))
arguments_meet n (call.MatchedProbe h s t c) (call.MatchedProbe h' s' t' c') is =
    meet_as (λ x. λ i. call.MatchedProbe (x.0.0 i) (x.1.0 i) (x.1.1 i) (x.1.2 i)) (then_meet (then_meet (labels_one n h h') comma) (patterns_meet n s t c s' t' c'))
arguments_meet n (call.Probe s t c) (call.Probe s' t' c') is =
    meet_as (λ x. λ i. call.Probe (x.0 i) (x.1 i) (x.2 i)) (patterns_meet n s t c s' t' c')
arguments_meet n (call.MatchedReceive f h) (call.MatchedReceive f' h') is =
    let started : is_some f ≡ is_some f' = sym (matched_back f) ∙ (ap starts is ∙ matched_back f') in
    meet_as (λ x. λ i. call.MatchedReceive (x.0 i) (x.1 i)) (then_meet (requests_meet n f f' started) (meet_within (λ q e. e) end_quiet (labels_one n h h')))
arguments_meet n (call.Wait f) (call.Wait f') is = meet_as (λ x. λ i. call.Wait (x i)) (meet_within (λ q e. e) end_quiet (labels_one n f f'))
arguments_meet n (call.SendReceive d t s u c) (call.SendReceive d' t' s' u' c') is =
    meet_as (λ x. λ i. call.SendReceive (x.0.0.0 i) (x.0.0.1 i) (x.1.0 i) (x.1.1 i) (x.1.2 i)) (then_meet (then_meet (messages_meet n d t d' t') comma) (patterns_meet n s u c s' u' c'))
arguments_meet n (call.Collective k root g c) (call.Collective j root' g' c') is =
    collectives_meet n k root g c j root' g' c' (sym (kind_back k) ∙ (ap kind_of_word is ∙ kind_back j))
arguments_meet n c d is = let sorts : sort_of c ≡ sort_of d = same_sort c d is in absurd (omega (arith, sorts))

word_in : Piece → Word
word_in (piece.Word w) = w
word_in _ = word.Spmd

pub same_words : (w v : Word) → piece.Word w ≡ piece.Word v → w ≡ v
unfolding word_in
same_words w v e = ap word_in e

-- a call with its word, up to the end of the line
pub calls_meet : (n : Place) (c d : Arguments) → Meets (after_call_tree c) (after_call_tree d) any at_end (put_call n c ≡ put_call n d)
calls_meet n c d =
    meet_as (λ x. x.1)
    (then_given (pieces_meet (piece.Word (call_word c)) (piece.Word (call_word d)) any refl refl) (arguments_meet n c c refl).left (arguments_meet n d d refl).left
    (λ e. arguments_meet n c d (same_words (call_word c) (call_word d) e)))

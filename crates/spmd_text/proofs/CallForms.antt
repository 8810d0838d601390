-- The arguments of a call, read one after another, are those of its form.
use Rattle.std.proofs.Common.{◌≡◌, Bool, true, false, List, Option, Some, None, is_some, refl, ap, sym, subst, ◌∙◌}
use Rattle.spmd_tree.specs.declared.tree.SendMode.{SendMode}
use Rattle.spmd_tree.specs.declared.tree.CollectiveKind.{CollectiveKind}
use Rattle.spmd_tree.specs.declared.tree.Expression.{Expression}
use Rattle.spmd_tree.specs.declared.tree.LabelForm.{LabelForm}
use Rattle.spmd_tree.specs.declared.tree.GroupForm.{GroupForm}
use Rattle.spmd_tree.specs.declared.tree.Arguments.{Arguments}
use Rattle.spmd_tree.specs.declared.tree.Arguments.TheVariants as call
use Rattle.spmd_text.specs.declared.parser.Parser.{Parser}
use Rattle.spmd_text.specs.declared.calls.Form.TheVariants as form
use Rattle.spmd_text.specs.declared.piece.Word.TheVariants as word
use Rattle.spmd_text.specs.declared.piece.Piece.TheVariants as piece
use Rattle.spmd_text.specs.declared.piece.Token.{Token}
use Rattle.spmd_text.specs.Spelling.{after_arguments, after_communicator, after_group, after_root, piece_begins, has_root, is_rooted, only, same}
use Rattle.spmd_text.specs.parts.Parts.{SyntaxPart, arguments_part, form_of_call, group_part, label_part, optional_part, piece_part, request_part, root_part, then_part, value_part, wild_part}
use Rattle.spmd_text.specs.Rules.{IfThere, MayCall, MayGroup, MayValue}
use Rattle.spmd_text.proofs.NoStar.{only_left}
use Rattle.spmd_text.proofs.Parts.{IsAs, ended}
use Rattle.spmd_text.proofs.Following.{communicator_ends, label_ends}

abbrev pub comm_part : Bool → SyntaxPart (Option Expression)
comm_part flag = optional_part flag word.Comm

abbrev pub comma_part : SyntaxPart (Unit {0})
comma_part = piece_part piece.Comma

-- a send of this mode, started or not
pub record IsSend (mode : SendMode) (started : Bool) (w : Arguments) : Type 0 where
  pub request : Option LabelForm
  pub d : Expression
  pub t : Expression
  pub c : Option Expression
  pub is : w ≡ call.Send mode request d t c
  pub starts : is_some request ≡ started

is_send : (mode : SendMode) (started : Bool) (w : Arguments) → form_of_call w ≡ form.Send mode started → IsSend mode started w
is_send mode started (call.Send other request d t c) e = record { request = request; d = d; t = t; c = c; is = ap (λ (m : SendMode). call.Send m request d t c) cc; starts = cc }
is_send mode started (call.Receive request s t c) e = absurd cc
is_send mode started (call.MatchedProbe handle s t c) e = absurd cc
is_send mode started (call.Probe s t c) e = absurd cc
is_send mode started (call.MatchedReceive request handle) e = absurd cc
is_send mode started (call.Wait request) e = absurd cc
is_send mode started (call.SendReceive d t s u c) e = absurd cc
is_send mode started (call.Collective k root g c) e = absurd cc

-- a receive, started or not
pub record IsReceive (started : Bool) (w : Arguments) : Type 0 where
  pub request : Option LabelForm
  pub s : Option Expression
  pub t : Option Expression
  pub c : Option Expression
  pub is : w ≡ call.Receive request s t c
  pub starts : is_some request ≡ started

is_receive : (started : Bool) (w : Arguments) → form_of_call w ≡ form.Receive started → IsReceive started w
is_receive started (call.Send mode request d t c) e = absurd cc
is_receive started (call.Receive request s t c) e = record { request = request; s = s; t = t; c = c; is = refl; starts = cc }
is_receive started (call.MatchedProbe handle s t c) e = absurd cc
is_receive started (call.Probe s t c) e = absurd cc
is_receive started (call.MatchedReceive request handle) e = absurd cc
is_receive started (call.Wait request) e = absurd cc
is_receive started (call.SendReceive d t s u c) e = absurd cc
is_receive started (call.Collective k root g c) e = absurd cc

-- a matched probe
pub record IsMatchedProbe (w : Arguments) : Type 0 where
  pub handle : LabelForm
  pub s : Option Expression
  pub t : Option Expression
  pub c : Option Expression
  pub is : w ≡ call.MatchedProbe handle s t c

is_matched_probe : (w : Arguments) → form_of_call w ≡ form.MatchedProbe → IsMatchedProbe w
is_matched_probe (call.Send mode request d t c) e = absurd cc
is_matched_probe (call.Receive request s t c) e = absurd cc
is_matched_probe (call.MatchedProbe handle s t c) e = record { handle = handle; s = s; t = t; c = c; is = refl }
is_matched_probe (call.Probe s t c) e = absurd cc
is_matched_probe (call.MatchedReceive request handle) e = absurd cc
is_matched_probe (call.Wait request) e = absurd cc
is_matched_probe (call.SendReceive d t s u c) e = absurd cc
is_matched_probe (call.Collective k root g c) e = absurd cc

-- a probe
pub record IsProbe (w : Arguments) : Type 0 where
  pub s : Option Expression
  pub t : Option Expression
  pub c : Option Expression
  pub is : w ≡ call.Probe s t c

is_probe : (w : Arguments) → form_of_call w ≡ form.Probe → IsProbe w
is_probe (call.Send mode request d t c) e = absurd cc
is_probe (call.Receive request s t c) e = absurd cc
is_probe (call.MatchedProbe handle s t c) e = absurd cc
is_probe (call.Probe s t c) e = record { s = s; t = t; c = c; is = refl }
is_probe (call.MatchedReceive request handle) e = absurd cc
is_probe (call.Wait request) e = absurd cc
is_probe (call.SendReceive d t s u c) e = absurd cc
is_probe (call.Collective k root g c) e = absurd cc

-- a receive on a handle, started or not
pub record IsMatchedReceive (started : Bool) (w : Arguments) : Type 0 where
  pub request : Option LabelForm
  pub handle : LabelForm
  pub is : w ≡ call.MatchedReceive request handle
  pub starts : is_some request ≡ started

is_matched_receive : (started : Bool) (w : Arguments) → form_of_call w ≡ form.MatchedReceive started → IsMatchedReceive started w
is_matched_receive started (call.Send mode request d t c) e = absurd cc
is_matched_receive started (call.Receive request s t c) e = absurd cc
is_matched_receive started (call.MatchedProbe handle s t c) e = absurd cc
is_matched_receive started (call.Probe s t c) e = absurd cc
is_matched_receive started (call.MatchedReceive request handle) e = record { request = request; handle = handle; is = refl; starts = cc }
is_matched_receive started (call.Wait request) e = absurd cc
is_matched_receive started (call.SendReceive d t s u c) e = absurd cc
is_matched_receive started (call.Collective k root g c) e = absurd cc

-- a wait
pub record IsWait (w : Arguments) : Type 0 where
  pub request : LabelForm
  pub is : w ≡ call.Wait request

is_wait : (w : Arguments) → form_of_call w ≡ form.Wait → IsWait w
is_wait (call.Send mode request d t c) e = absurd cc
is_wait (call.Receive request s t c) e = absurd cc
is_wait (call.MatchedProbe handle s t c) e = absurd cc
is_wait (call.Probe s t c) e = absurd cc
is_wait (call.MatchedReceive request handle) e = absurd cc
is_wait (call.Wait request) e = record { request = request; is = refl }
is_wait (call.SendReceive d t s u c) e = absurd cc
is_wait (call.Collective k root g c) e = absurd cc

-- a joined send and receive
pub record IsSendReceive (w : Arguments) : Type 0 where
  pub d : Expression
  pub t : Expression
  pub s : Option Expression
  pub u : Option Expression
  pub c : Option Expression
  pub is : w ≡ call.SendReceive d t s u c

is_send_receive : (w : Arguments) → form_of_call w ≡ form.SendReceive → IsSendReceive w
is_send_receive (call.Send mode request d t c) e = absurd cc
is_send_receive (call.Receive request s t c) e = absurd cc
is_send_receive (call.MatchedProbe handle s t c) e = absurd cc
is_send_receive (call.Probe s t c) e = absurd cc
is_send_receive (call.MatchedReceive request handle) e = absurd cc
is_send_receive (call.Wait request) e = absurd cc
is_send_receive (call.SendReceive d t s u c) e = record { d = d; t = t; s = s; u = u; c = c; is = refl }
is_send_receive (call.Collective k root g c) e = absurd cc

-- a collective call, with a root or without
pub record IsCollective (k : CollectiveKind) (rooted : Bool) (w : Arguments) : Type 0 where
  pub root : Option Expression
  pub g : Option GroupForm
  pub c : Option Expression
  pub is : w ≡ call.Collective k root g c
  pub is_so : is_rooted k ≡ rooted

collective_of : (k other : CollectiveKind) (rooted : Bool) (root : Option Expression) (g : Option GroupForm) (c : Option Expression)
    → other ≡ k → is_rooted other ≡ rooted → IsCollective k rooted (call.Collective other root g c)
collective_of k other rooted root g c e f =
    record { root = root; g = g; c = c; is = ap (λ (m : CollectiveKind). call.Collective m root g c) e; is_so = ap is_rooted (sym e) ∙ f }

is_collective : (k : CollectiveKind) (rooted : Bool) (w : Arguments) → form_of_call w ≡ form.Collective k rooted → IsCollective k rooted w
is_collective k rooted (call.Send mode request d t c) e = absurd cc
is_collective k rooted (call.Receive request s t c) e = absurd cc
is_collective k rooted (call.MatchedProbe handle s t c) e = absurd cc
is_collective k rooted (call.Probe s t c) e = absurd cc
is_collective k rooted (call.MatchedReceive request handle) e = absurd cc
is_collective k rooted (call.Wait request) e = absurd cc
is_collective k rooted (call.SendReceive d t s u c) e = absurd cc
is_collective k rooted (call.Collective other root g c) e =
    let same_kind : other ≡ k = cc in let same_root : is_rooted other ≡ rooted = cc in collective_of k other rooted root g c same_kind same_root

-- ---- the parts of a call, one after another

pub send_as : (old : Parser) (mode : SendMode) (started : Bool) (request : Option LabelForm) (d : Expression) (t : Expression) (c : Option Expression)
    → IsAs (then_part (then_part (then_part (then_part (request_part old.in_parameter old.names.now started) (value_part old.in_parameter)) (comma_part)) (value_part old.in_parameter)) (comm_part old.in_parameter)) (arguments_part old.in_parameter old.names.now (form.Send mode started)) old ((((request, d), tt), t), c) (call.Send mode request d t c)
send_as old mode started request d t c = record { back = back; stands = λ rest e may. e; may = λ m. (ap (form.Send mode) m.0.0.0.0.0, (m.0.0.0.0.1, m.0.0.0.1, m.0.1, m.1)) }
  where
    back : (w : Arguments) (rest : List Token) → old.fault ≡ None → (form_of_call w ≡ (form.Send mode started)) × MayCall old.in_parameter old.names.now w
        → after_arguments w (Some old.rest.now) ≡ Some rest → piece_begins piece.LineEnd (Some rest) ≡ true
        → (x : _) × SyntaxPart.May (then_part (then_part (then_part (then_part (request_part old.in_parameter old.names.now started) (value_part old.in_parameter)) (comma_part)) (value_part old.in_parameter)) (comm_part old.in_parameter)) x × (SyntaxPart.behind (then_part (then_part (then_part (then_part (request_part old.in_parameter old.names.now started) (value_part old.in_parameter)) (comma_part)) (value_part old.in_parameter)) (comm_part old.in_parameter)) x (Some old.rest.now) ≡ Some rest) × (SyntaxPart.ends (then_part (then_part (then_part (then_part (request_part old.in_parameter old.names.now started) (value_part old.in_parameter)) (comma_part)) (value_part old.in_parameter)) (comm_part old.in_parameter)) rest ≡ true) × (SyntaxPart.Same (then_part (then_part (then_part (then_part (request_part old.in_parameter old.names.now started) (value_part old.in_parameter)) (comma_part)) (value_part old.in_parameter)) (comm_part old.in_parameter)) ((((request, d), tt), t), c) x → Unit {0})
    back w rest sound may e ends =
        let s = is_send mode started w may.0 in
        let m = subst (MayCall old.in_parameter old.names.now) s.is may.1 in
        (((((s.request, s.d), tt), s.t), s.c), (((((s.starts, m.0), m.1), tt), m.2), m.3), subst (λ (z : Arguments). after_arguments z (Some old.rest.now) ≡ Some rest) s.is e, communicator_ends rest ends, λ same. tt)

pub receive_as : (old : Parser) (started : Bool) (request : Option LabelForm) (s : Option Expression) (t : Option Expression) (c : Option Expression)
    → IsAs (then_part (then_part (then_part (then_part (request_part old.in_parameter old.names.now started) (wild_part old.in_parameter)) (comma_part)) (wild_part old.in_parameter)) (comm_part old.in_parameter)) (arguments_part old.in_parameter old.names.now (form.Receive started)) old ((((request, s), tt), t), c) (call.Receive request s t c)
receive_as old started request s t c = record { back = back; stands = λ rest e may. e; may = λ m. (ap form.Receive m.0.0.0.0.0, (m.0.0.0.0.1, m.0.0.0.1, m.0.1, m.1)) }
  where
    back : (w : Arguments) (rest : List Token) → old.fault ≡ None → (form_of_call w ≡ (form.Receive started)) × MayCall old.in_parameter old.names.now w
        → after_arguments w (Some old.rest.now) ≡ Some rest → piece_begins piece.LineEnd (Some rest) ≡ true
        → (x : _) × SyntaxPart.May (then_part (then_part (then_part (then_part (request_part old.in_parameter old.names.now started) (wild_part old.in_parameter)) (comma_part)) (wild_part old.in_parameter)) (comm_part old.in_parameter)) x × (SyntaxPart.behind (then_part (then_part (then_part (then_part (request_part old.in_parameter old.names.now started) (wild_part old.in_parameter)) (comma_part)) (wild_part old.in_parameter)) (comm_part old.in_parameter)) x (Some old.rest.now) ≡ Some rest) × (SyntaxPart.ends (then_part (then_part (then_part (then_part (request_part old.in_parameter old.names.now started) (wild_part old.in_parameter)) (comma_part)) (wild_part old.in_parameter)) (comm_part old.in_parameter)) rest ≡ true) × (SyntaxPart.Same (then_part (then_part (then_part (then_part (request_part old.in_parameter old.names.now started) (wild_part old.in_parameter)) (comma_part)) (wild_part old.in_parameter)) (comm_part old.in_parameter)) ((((request, s), tt), t), c) x → Unit {0})
    back w rest sound may e ends =
        let s = is_receive started w may.0 in
        let m = subst (MayCall old.in_parameter old.names.now) s.is may.1 in
        (((((s.request, s.s), tt), s.t), s.c), (((((s.starts, m.0), m.1), tt), m.2), m.3), subst (λ (z : Arguments). after_arguments z (Some old.rest.now) ≡ Some rest) s.is e, communicator_ends rest ends, λ same. tt)

pub matched_probe_as : (old : Parser) (handle : LabelForm) (s : Option Expression) (t : Option Expression) (c : Option Expression)
    → IsAs (then_part (then_part (then_part (then_part (then_part (label_part old.in_parameter old.names.now) (comma_part)) (wild_part old.in_parameter)) (comma_part)) (wild_part old.in_parameter)) (comm_part old.in_parameter)) (arguments_part old.in_parameter old.names.now form.MatchedProbe) old (((((handle, tt), s), tt), t), c) (call.MatchedProbe handle s t c)
matched_probe_as old handle s t c = record { back = back; stands = λ rest e may. e; may = λ m. (refl, (m.0.0.0.0.0, m.0.0.0.1, m.0.1, m.1)) }
  where
    back : (w : Arguments) (rest : List Token) → old.fault ≡ None → (form_of_call w ≡ form.MatchedProbe) × MayCall old.in_parameter old.names.now w
        → after_arguments w (Some old.rest.now) ≡ Some rest → piece_begins piece.LineEnd (Some rest) ≡ true
        → (x : _) × SyntaxPart.May (then_part (then_part (then_part (then_part (then_part (label_part old.in_parameter old.names.now) (comma_part)) (wild_part old.in_parameter)) (comma_part)) (wild_part old.in_parameter)) (comm_part old.in_parameter)) x × (SyntaxPart.behind (then_part (then_part (then_part (then_part (then_part (label_part old.in_parameter old.names.now) (comma_part)) (wild_part old.in_parameter)) (comma_part)) (wild_part old.in_parameter)) (comm_part old.in_parameter)) x (Some old.rest.now) ≡ Some rest) × (SyntaxPart.ends (then_part (then_part (then_part (then_part (then_part (label_part old.in_parameter old.names.now) (comma_part)) (wild_part old.in_parameter)) (comma_part)) (wild_part old.in_parameter)) (comm_part old.in_parameter)) rest ≡ true) × (SyntaxPart.Same (then_part (then_part (then_part (then_part (then_part (label_part old.in_parameter old.names.now) (comma_part)) (wild_part old.in_parameter)) (comma_part)) (wild_part old.in_parameter)) (comm_part old.in_parameter)) (((((handle, tt), s), tt), t), c) x → Unit {0})
    back w rest sound may e ends =
        let s = is_matched_probe w may.0 in
        let m = subst (MayCall old.in_parameter old.names.now) s.is may.1 in
        ((((((s.handle, tt), s.s), tt), s.t), s.c), (((((m.0, tt), m.1), tt), m.2), m.3), subst (λ (z : Arguments). after_arguments z (Some old.rest.now) ≡ Some rest) s.is e, communicator_ends rest ends, λ same. tt)

pub probe_as : (old : Parser) (s : Option Expression) (t : Option Expression) (c : Option Expression)
    → IsAs (then_part (then_part (then_part (wild_part old.in_parameter) (comma_part)) (wild_part old.in_parameter)) (comm_part old.in_parameter)) (arguments_part old.in_parameter old.names.now form.Probe) old (((s, tt), t), c) (call.Probe s t c)
probe_as old s t c = record { back = back; stands = λ rest e may. e; may = λ m. (refl, (m.0.0.0, m.0.1, m.1)) }
  where
    back : (w : Arguments) (rest : List Token) → old.fault ≡ None → (form_of_call w ≡ form.Probe) × MayCall old.in_parameter old.names.now w
        → after_arguments w (Some old.rest.now) ≡ Some rest → piece_begins piece.LineEnd (Some rest) ≡ true
        → (x : _) × SyntaxPart.May (then_part (then_part (then_part (wild_part old.in_parameter) (comma_part)) (wild_part old.in_parameter)) (comm_part old.in_parameter)) x × (SyntaxPart.behind (then_part (then_part (then_part (wild_part old.in_parameter) (comma_part)) (wild_part old.in_parameter)) (comm_part old.in_parameter)) x (Some old.rest.now) ≡ Some rest) × (SyntaxPart.ends (then_part (then_part (then_part (wild_part old.in_parameter) (comma_part)) (wild_part old.in_parameter)) (comm_part old.in_parameter)) rest ≡ true) × (SyntaxPart.Same (then_part (then_part (then_part (wild_part old.in_parameter) (comma_part)) (wild_part old.in_parameter)) (comm_part old.in_parameter)) (((s, tt), t), c) x → Unit {0})
    back w rest sound may e ends =
        let s = is_probe w may.0 in
        let m = subst (MayCall old.in_parameter old.names.now) s.is may.1 in
        ((((s.s, tt), s.t), s.c), (((m.0, tt), m.1), m.2), subst (λ (z : Arguments). after_arguments z (Some old.rest.now) ≡ Some rest) s.is e, communicator_ends rest ends, λ same. tt)

pub matched_receive_as : (old : Parser) (started : Bool) (request : Option LabelForm) (handle : LabelForm)
    → IsAs (then_part (request_part old.in_parameter old.names.now started) (label_part old.in_parameter old.names.now)) (arguments_part old.in_parameter old.names.now (form.MatchedReceive started)) old (request, handle) (call.MatchedReceive request handle)
matched_receive_as old started request handle = record { back = back; stands = λ rest e may. e; may = λ m. (ap form.MatchedReceive m.0.0, (m.0.1, m.1)) }
  where
    back : (w : Arguments) (rest : List Token) → old.fault ≡ None → (form_of_call w ≡ (form.MatchedReceive started)) × MayCall old.in_parameter old.names.now w
        → after_arguments w (Some old.rest.now) ≡ Some rest → piece_begins piece.LineEnd (Some rest) ≡ true
        → (x : _) × SyntaxPart.May (then_part (request_part old.in_parameter old.names.now started) (label_part old.in_parameter old.names.now)) x × (SyntaxPart.behind (then_part (request_part old.in_parameter old.names.now started) (label_part old.in_parameter old.names.now)) x (Some old.rest.now) ≡ Some rest) × (SyntaxPart.ends (then_part (request_part old.in_parameter old.names.now started) (label_part old.in_parameter old.names.now)) rest ≡ true) × (SyntaxPart.Same (then_part (request_part old.in_parameter old.names.now started) (label_part old.in_parameter old.names.now)) (request, handle) x → Unit {0})
    back w rest sound may e ends =
        let s = is_matched_receive started w may.0 in
        let m = subst (MayCall old.in_parameter old.names.now) s.is may.1 in
        ((s.request, s.handle), ((s.starts, m.0), m.1), subst (λ (z : Arguments). after_arguments z (Some old.rest.now) ≡ Some rest) s.is e, label_ends rest ends, λ same. tt)

pub wait_as : (old : Parser) (request : LabelForm)
    → IsAs (label_part old.in_parameter old.names.now) (arguments_part old.in_parameter old.names.now form.Wait) old request (call.Wait request)
wait_as old request = record { back = back; stands = λ rest e may. e; may = λ m. (refl, m) }
  where
    back : (w : Arguments) (rest : List Token) → old.fault ≡ None → (form_of_call w ≡ form.Wait) × MayCall old.in_parameter old.names.now w
        → after_arguments w (Some old.rest.now) ≡ Some rest → piece_begins piece.LineEnd (Some rest) ≡ true
        → (x : _) × SyntaxPart.May (label_part old.in_parameter old.names.now) x × (SyntaxPart.behind (label_part old.in_parameter old.names.now) x (Some old.rest.now) ≡ Some rest) × (SyntaxPart.ends (label_part old.in_parameter old.names.now) rest ≡ true) × (SyntaxPart.Same (label_part old.in_parameter old.names.now) request x → Unit {0})
    back w rest sound may e ends =
        let s = is_wait w may.0 in
        let m = subst (MayCall old.in_parameter old.names.now) s.is may.1 in
        (s.request, m, subst (λ (z : Arguments). after_arguments z (Some old.rest.now) ≡ Some rest) s.is e, label_ends rest ends, λ same. tt)

pub send_receive_as : (old : Parser) (d : Expression) (t : Expression) (s : Option Expression) (u : Option Expression) (c : Option Expression)
    → IsAs (then_part (then_part (then_part (then_part (then_part (then_part (then_part (value_part old.in_parameter) (comma_part)) (value_part old.in_parameter)) (comma_part)) (wild_part old.in_parameter)) (comma_part)) (wild_part old.in_parameter)) (comm_part old.in_parameter)) (arguments_part old.in_parameter old.names.now form.SendReceive) old (((((((d, tt), t), tt), s), tt), u), c) (call.SendReceive d t s u c)
send_receive_as old d t s u c = record { back = back; stands = λ rest e may. e; may = λ m. (refl, (m.0.0.0.0.0.0.0, m.0.0.0.0.0.1, m.0.0.0.1, m.0.1, m.1)) }
  where
    back : (w : Arguments) (rest : List Token) → old.fault ≡ None → (form_of_call w ≡ form.SendReceive) × MayCall old.in_parameter old.names.now w
        → after_arguments w (Some old.rest.now) ≡ Some rest → piece_begins piece.LineEnd (Some rest) ≡ true
        → (x : _) × SyntaxPart.May (then_part (then_part (then_part (then_part (then_part (then_part (then_part (value_part old.in_parameter) (comma_part)) (value_part old.in_parameter)) (comma_part)) (wild_part old.in_parameter)) (comma_part)) (wild_part old.in_parameter)) (comm_part old.in_parameter)) x × (SyntaxPart.behind (then_part (then_part (then_part (then_part (then_part (then_part (then_part (value_part old.in_parameter) (comma_part)) (value_part old.in_parameter)) (comma_part)) (wild_part old.in_parameter)) (comma_part)) (wild_part old.in_parameter)) (comm_part old.in_parameter)) x (Some old.rest.now) ≡ Some rest) × (SyntaxPart.ends (then_part (then_part (then_part (then_part (then_part (then_part (then_part (value_part old.in_parameter) (comma_part)) (value_part old.in_parameter)) (comma_part)) (wild_part old.in_parameter)) (comma_part)) (wild_part old.in_parameter)) (comm_part old.in_parameter)) rest ≡ true) × (SyntaxPart.Same (then_part (then_part (then_part (then_part (then_part (then_part (then_part (value_part old.in_parameter) (comma_part)) (value_part old.in_parameter)) (comma_part)) (wild_part old.in_parameter)) (comma_part)) (wild_part old.in_parameter)) (comm_part old.in_parameter)) (((((((d, tt), t), tt), s), tt), u), c) x → Unit {0})
    back w rest sound may e ends =
        let s = is_send_receive w may.0 in
        let m = subst (MayCall old.in_parameter old.names.now) s.is may.1 in
        ((((((((s.d, tt), s.t), tt), s.s), tt), s.u), s.c), (((((((m.0, tt), m.1), tt), m.2), tt), m.3), m.4), subst (λ (z : Arguments). after_arguments z (Some old.rest.now) ≡ Some rest) s.is e, communicator_ends rest ends, λ same. tt)

same_so : (a b : Bool) → same a b ≡ true → b ≡ a
same_so true b e = e
same_so false true e = absurd cc
same_so false false e = refl

so_same : (a b : Bool) → b ≡ a → same a b ≡ true
so_same true b e = e
so_same false true e = absurd cc
so_same false false e = refl

abbrev pub at_line_end : List Token → Bool
at_line_end rest = piece_begins piece.LineEnd (Some rest)

pub collective_as : (old : Parser) (k : CollectiveKind) (rooted : Bool) (root : Option Expression) (g : Option GroupForm) (c : Option Expression) → rooted ≡ is_rooted k
    → IsAs (then_part (then_part (root_part old.in_parameter rooted) (group_part old.in_parameter)) (ended (comm_part old.in_parameter) at_line_end))
    (arguments_part old.in_parameter old.names.now (form.Collective k rooted)) old ((root, g), c) (call.Collective k root g c)
collective_as old k rooted root g c is_so = record {
  back = back;
  stands = λ rest e m.
      ap (λ (b : Bool). only b (after_communicator c (after_group g (after_root root (Some old.rest.now))))) (so_same (is_rooted k) (has_root root) (m.0.0.0 ∙ is_so)) ∙ e;
  may = λ m. (ap (form.Collective k) (sym is_so), (m.0.0.1, m.0.1, m.1));
}
  where
    back : (w : Arguments) (rest : List Token) → old.fault ≡ None → (form_of_call w ≡ form.Collective k rooted) × MayCall old.in_parameter old.names.now w
        → after_arguments w (Some old.rest.now) ≡ Some rest → piece_begins piece.LineEnd (Some rest) ≡ true
        → (x : (Option Expression × Option GroupForm) × Option Expression)
        × ((((has_root x.0.0 ≡ rooted) × MayValue old.in_parameter x.0.0) × IfThere (MayGroup old.in_parameter) x.0.1) × MayValue old.in_parameter x.1)
        × (after_communicator x.1 (after_group x.0.1 (after_root x.0.0 (Some old.rest.now))) ≡ Some rest) × (piece_begins piece.LineEnd (Some rest) ≡ true) × (((Unit {0} × Unit {0}) × Unit {0}) → Unit {0})
    back w rest sound may e ends =
        let s = is_collective k rooted w may.0 in
        let m = subst (MayCall old.in_parameter old.names.now) s.is may.1 in
        let f = subst (λ (z : Arguments). after_arguments z (Some old.rest.now) ≡ Some rest) s.is e in
        let o = only_left (same (is_rooted k) (has_root s.root)) (after_communicator s.c (after_group s.g (after_root s.root (Some old.rest.now)))) rest f in
        (((s.root, s.g), s.c), (((same_so (is_rooted k) (has_root s.root) o.0 ∙ sym is_so, m.0), m.1), m.2), o.1, ends, λ same. tt)

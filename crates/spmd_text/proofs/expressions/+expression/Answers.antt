use Rattle.std.proofs.Common.{◌≡◌, inr, ℕ, ◌-◌, ◌≤◌, Bool, true, List, Some, refl, ap, sym, subst, ◌∙◌, arith}
use Rattle.spmd_tree.specs.declared.tree.Expression.{Expression}
use Rattle.spmd_tree.specs.declared.tree.Expression.TheVariants as form
use Rattle.spmd_text.specs.declared.parser.Parser.{Parser}
use Rattle.spmd_text.specs.declared.piece.Piece.TheVariants as piece
use Rattle.spmd_text.specs.declared.piece.Word.TheVariants as word
use Rattle.spmd_text.specs.declared.piece.Token.{Token}
use Rattle.spmd_text.specs.Spelling.{after_piece}
use Rattle.spmd_text.specs.parts.Joints.{binding_of, joint_ahead, joint_of, stops}
use Rattle.spmd_text.specs.Joints.{closeness}
use Rattle.spmd_text.specs.parts.Growing.{beginning_of, begun, done, enclosed, Growing, Becomes, MayBegin}
use Rattle.spmd_text.specs.parts.Reading.{Ahead, Alike, Finds, Goes, MayStandAmongJoints}
use Rattle.spmd_text.proofs.Alike.{alike_condition}
use Rattle.spmd_text.proofs.Beginning.{begun_of, first_row}
use Rattle.spmd_text.proofs.Continuing.{may_lengthen, row_found, ended, grown, inner, opening_at, begun_prefix, begun_choice, least_ahead, choice_ahead, stepped, ahead_at}
use Rattle.spmd_text.specs.declared.expressions.Beginning.{Beginning}
use Rattle.spmd_text.specs.parts.Found.{WasBegun, WasRead}
use Rattle.spmd_text.proofs.Found.{choice_begun, one_more, prefix_begun, read_to_end, so_far_begun}
use Rattle.spmd_text.proofs.Going.{never_failed, sound_before, same_kind, failed_or, goes_failed, so_far, ended_or, goes_nowhere, goes_on, same_kind, stands_same, found_then}
use Rattle.spmd_text.proofs.Growing.{first, grown_close, grown_number, operand_stops}
use Rattle.spmd_text.proofs.expressions.+expression.Goals as goal

pub behind_prefix-returns-clause-complete : goal.behind_prefix-returns-clause-complete
behind_prefix-returns-clause-complete t c = λ a p rest ahead may.
    let old : Parser = c.args.parser.now in
    let i = inner c.args.prefix c.args.least c.args.depth old.in_parameter p a old.rest.now rest ahead.spelled ahead.within may in
    let stands = stepped old c.step.new.self i.begin i.first c.step.ensures.left c.step.ensures.fault ahead.sound i.begins in
    found_then c.expression-inner.new.parser c.put_prefix.new.parser i.behind rest (Alike c.expression-inner.result a) (Alike c.put_prefix.result (enclosed c.args.prefix p a))
    (c.expression-inner.ensures.complete a i.behind
    (ahead_at old c.step.new.self (c.args.depth - 1) a i.first i.behind c.step.ensures.goes stands i.spelled i.within)
    (subst (λ (k : ℕ). MayStandAmongJoints k a i.behind) (sym c.inside.ensures) i.stand))
    c.put_prefix.ensures.goes.sticks
    (λ stands alike. c.put_prefix.ensures.prefixed a p i.behind rest stands alike i.ends)

pub choice_at-returns-clause-complete : goal.choice_at-returns-clause-complete
choice_at-returns-clause-complete t c = λ d a b p q s rest ahead stop.
    let old : Parser = c.args.parser.now in
    let i = choice_ahead old c.args.depth p d q a s b rest ahead stop in
    let s0 : Parser = c.step.new.self in
    let s1 : Parser = c.expression-condition.new.parser in
    let s2 : Parser = c.want.new.parser in
    let s3 : Parser = c.expect.new.self in
    let s4 : Parser = c.expression-yes.new.parser in
    let s5 : Parser = c.expect-2.new.self in
    let s6 : Parser = c.expression-no.new.parser in
    let s7 : Parser = c.chosen.new.parser in
    let g3 : Goes old s3 = goes_on old s0 s3 c.step.ensures.goes (goes_on s0 s1 s3 c.expression-condition.ensures.goes (goes_on s1 s2 s3 c.want.ensures.goes c.expect.ensures.goes)) in
    let g5 : Goes old s5 = goes_on old s3 s5 g3 (goes_on s3 s4 s5 c.expression-yes.ensures.goes c.expect-2.ensures.goes) in
    let g67 : Goes s6 s7 = c.chosen.ensures.goes in
    let g47 : Goes s4 s7 = goes_on s4 s5 s7 c.expect-2.ensures.goes (goes_on s5 s6 s7 c.expression-no.ensures.goes g67) in
    let g17 : Goes s1 s7 = goes_on s1 s2 s7 c.want.ensures.goes (goes_on s2 s3 s7 c.expect.ensures.goes (goes_on s3 s4 s7 c.expression-yes.ensures.goes g47)) in
    let whole : Type 0 = Alike c.chosen.result (form.Choice' p d q a s b) in
    let parts = i.parts in
    let stands0 = stepped old s0 (piece.Word word.If) parts.first c.step.ensures.left c.step.ensures.fault ahead.sound parts.begins in
    found_then s1 s7 parts.condition_end rest (Alike c.expression-condition.result d) whole
    (c.expression-condition.ensures.complete d parts.condition_end (ahead_at old s0 (c.args.depth - 1) d parts.first parts.condition_end c.step.ensures.goes stands0 parts.condition i.condition) i.condition_stands)
    g17.sticks
    (λ stands1 alike1.
    let stands2 = stands_same s1 s2 parts.condition_end (c.want.ensures.right (alike_condition c.expression-condition.result d alike1 ∙ i.is_condition_so)) stands1 in
    let stands3 = c.expect.ensures.taken parts.second stands2.sound (ap (λ (x : List Token). after_piece (piece.Word word.Then) (Some x)) stands2.left ∙ parts.then_so) in
    found_then s4 s7 parts.yes_end rest (Alike c.expression-yes.result a) whole
    (c.expression-yes.ensures.complete a parts.yes_end (ahead_at old s3 (c.args.depth - 1) a parts.second parts.yes_end g3 stands3 parts.yes_so i.yes) i.yes_stands)
    g47.sticks
    (λ stands4 alike4.
    let stands5 = c.expect-2.ensures.taken parts.third stands4.sound (ap (λ (x : List Token). after_piece (piece.Word word.Else) (Some x)) stands4.left ∙ parts.else_so) in
    found_then s6 s7 rest rest (Alike c.expression-no.result b) whole
    (c.expression-no.ensures.complete b rest (ahead_at old s5 (c.args.depth - 1) b parts.third rest g5 stands5 parts.no_so i.no) i.no_stands)
    g67.sticks
    (λ stands6 alike6. c.chosen.ensures.chosen d a b p q s rest stands6 alike1 alike4 alike6 i.yes_number i.no_number)))

pub expression-returns-clause-complete : goal.expression-returns-clause-complete
expression-returns-clause-complete t c = λ e rest ahead may.
    let old : Parser = c.args.parser.now in
    let mid : Parser = c.operand-first.new.parser in
    let depth : ℕ = c.args.depth in
    let f = first depth old.in_parameter e rest e old.rest.now rest ahead.spelled ahead.within (done refl refl) in
    let close : c.args.least ≤ closeness f.part = omega (arith, may.close, grown_close depth old.in_parameter e rest f.part f.behind f.grows) in
    let is_next = c.piece.ensures ∙ opening_at old f.part f.behind ahead.sound f.spelled f.operand in
    let is_begun : c.beginning_of-beginning.result ≡ begun f.part =
    c.beginning_of-beginning.ensures ∙ (ap (λ (x : _). beginning_of x c.args.least) is_next ∙ begun_of f.part c.args.least f.operand close) in
    found_then mid c.joins.new.parser f.behind rest (Alike c.operand-first.result f.part) (Alike c.joins.result e)
    (c.operand-first.ensures.complete f.part f.behind (record { sound = ahead.sound; spelled = f.spelled; within = f.within }) f.operand is_begun
    (record {
      close = close;
      number = λ h. grown_number depth old.in_parameter e rest f.part f.behind f.grows (omega (arith, h, may.close)) (may.number h);
      ends = operand_stops depth old.in_parameter e rest f.part f.behind c.args.least f.grows f.operand may.close may.ends;
    }))
    c.joins.ensures.goes.sticks
    (λ stands alike. c.joins.ensures.complete e rest (record {
      sound = stands.sound;
      tree = f.part;
      alike = alike;
      row_so = first_row f.part c.beginning_of-beginning.result c.row_of.result f.operand is_begun c.row_of.ensures;
      grows = subst (λ (x : List Token). Becomes depth mid.in_parameter e rest f.part x) (sym stands.left)
          (subst (λ (k : Bool). Becomes depth k e rest f.part f.behind) (sym (same_kind old mid c.operand-first.ensures.goes)) f.grows);
      close = may.close;
      ends = may.ends;
    }))

pub joins-loop-joint-init : goal.joins-loop-joint-init
joins-loop-joint-init t c = record { goes = goes_nowhere c.args.parser.now; complete = λ e rest g. inr g; sound = λ here sound so. so }

pub joins-expression-right-requires : goal.joins-expression-right-requires
joins-expression-right-requires t c =
    let low : c.args.least ≤ binding_of c.in-Some.joint =
    least_ahead c.loop-joint.parser c.loop-joint.row.binding c.args.least c.in-Some.joint c.joint_ahead.result
    (c.joint_ahead.ensures ∙ ap (λ (x : _). joint_ahead (joint_of x) c.loop-joint.row.binding c.args.least) c.piece.ensures) c.in-Some.is in
    (omega (arith, low, c.binding_of.ensures.binding, c.binding_of.ensures.most), tt)

pub joins-loop-joint-preserved : goal.joins-loop-joint-preserved
joins-loop-joint-preserved t c =
    let s : Parser = c.loop-joint.parser in
    let s2 : Parser = c.want.new.parser in
    let s3 : Parser = c.step.new.self in
    let s4 : Parser = c.expression-right.new.parser in
    let s5 : Parser = c.put_joint-left.new.parser in
    let to3 : Goes s s3 = goes_on s s2 s3 c.want.ensures.goes c.step.ensures.goes in
    let to5 : Goes s s5 = goes_on s s3 s5 to3 (goes_on s3 s4 s5 c.expression-right.ensures.goes c.put_joint-left.ensures.goes) in
    record {
      goes = goes_on c.args.parser.now s s5 c.loop-joint.invariant.goes to5;
      complete = λ e rest g. so_far s s5 (Growing s c.loop-joint.left c.loop-joint.row c.args.least c.args.depth e rest) (Growing s5 c.put_joint-left.result c.in-Ok.longer c.args.least c.args.depth e rest) to5.sticks (c.loop-joint.invariant.complete e rest g)
          (λ at. grown s s2 s3 s4 s5 c.loop-joint.left c.expression-right.result c.put_joint-left.result c.loop-joint.row c.in-Ok.longer c.in-Some.joint c.args.least c.args.depth c.binding_of.result c.joins_conditions.result c.joint_ahead.result e rest
          (c.joint_ahead.ensures ∙ ap (λ (x : _). joint_ahead (joint_of x) c.loop-joint.row.binding c.args.least) c.piece.ensures) c.in-Some.is
          (row_found c.loop-joint.row c.in-Ok.longer c.in-Some.joint c.longer.result c.longer.ensures.complete c.in-Ok.is) c.joins_conditions.ensures c.want.ensures.right c.step.ensures.left c.step.ensures.fault to3 c.binding_of.ensures.binding
          c.expression-right.ensures.complete c.expression-right.ensures.goes c.put_joint-left.ensures.joined c.put_joint-left.ensures.goes at);
      sound = λ here sound so.
          let before = sound_before s s5 to5 sound in
          one_more here s s2 s3 s4 s5 c.loop-joint.left c.expression-right.result c.put_joint-left.result c.loop-joint.row c.in-Ok.longer c.in-Some.joint c.args.least c.args.depth c.binding_of.result c.joins_conditions.result c.joint_ahead.result
          sound (c.joint_ahead.ensures ∙ ap (λ (x : _). joint_ahead (joint_of x) c.loop-joint.row.binding c.args.least) c.piece.ensures) c.in-Some.is
          (λ a b p q row_so. c.longer.ensures.sound c.in-Ok.longer a b p q c.in-Ok.is row_so)
          c.joins_conditions.ensures c.want.ensures.goes c.want.ensures.sound c.step.ensures.left c.step.ensures.goes c.binding_of.ensures.binding c.binding_of.ensures.most
          c.expression-right.ensures.sound c.expression-right.ensures.goes c.put_joint-left.ensures.sound c.put_joint-left.ensures.goes
          (c.loop-joint.invariant.sound here before so);
    }

pub joins-returns-clause-goes : goal.joins-returns-clause-goes
joins-returns-clause-goes t c = c.loop-joint.invariant.goes

pub joins-returns-clause-complete : goal.joins-returns-clause-complete
joins-returns-clause-complete t c = λ e rest g.
    let s : Parser = c.loop-joint.parser in
    ended_or s rest (Growing s c.loop-joint.left c.loop-joint.row c.args.least c.args.depth e rest) (Alike c.loop-joint.left e) (c.loop-joint.invariant.complete e rest g)
    (λ at. ended s c.loop-joint.left c.loop-joint.row c.args.least c.args.depth e rest c.joint_ahead.result at
    (c.joint_ahead.ensures ∙ ap (λ (x : _). joint_ahead (joint_of x) c.loop-joint.row.binding c.args.least) c.piece.ensures) c.in_default.not-Some)

pub operand-returns-in-Leaf-clause-complete : goal.operand-returns-in-Leaf-clause-complete
operand-returns-in-Leaf-clause-complete t c = λ a rest ahead operand is may.
    inr (c.leaf.ensures.leaf c.args.depth a rest ahead operand (sym is ∙ c.in-Leaf.is))

pub operand-returns-in-Prefix-clause-complete : goal.operand-returns-in-Prefix-clause-complete
operand-returns-in-Prefix-clause-complete t c = λ a rest ahead operand is may.
    let so = begun_prefix a c.in-Prefix.prefix (sym is ∙ c.in-Prefix.is) in
    subst (λ (x : Expression). Finds c.behind_prefix.new.parser rest (Alike c.behind_prefix.result x)) (sym so.2)
    (c.behind_prefix.ensures.complete so.1 so.0 rest
    (subst (λ (x : Expression). Ahead c.args.parser.now c.args.depth x rest) so.2 ahead)
    (subst (λ (x : Expression). MayBegin c.args.least x rest) so.2 may))

pub operand-returns-in-Choice-clause-complete : goal.operand-returns-in-Choice-clause-complete
operand-returns-in-Choice-clause-complete t c = λ a rest ahead operand is may.
    let so = begun_choice a (sym is ∙ c.in-Choice.is) in
    let tree : Expression = form.Choice' so.p so.condition so.q so.yes so.s so.no in
    let stop : stops 4 rest ≡ true = ap (λ (x : Expression). stops (closeness x) rest) (sym so.is) ∙ may.ends in
    subst (λ (x : Expression). Finds c.choice_at.new.parser rest (Alike c.choice_at.result x)) (sym so.is)
    (c.choice_at.ensures.complete so.condition so.yes so.no so.p so.q so.s rest
    (subst (λ (x : Expression). Ahead c.args.parser.now c.args.depth x rest) so.is ahead) stop)

pub joins-returns-in-Err-clause-complete : goal.joins-returns-in-Err-clause-complete
joins-returns-in-Err-clause-complete t c = λ e rest g.
    let s : Parser = c.loop-joint.parser in
    failed_or s c.fail.new.self rest (Growing s c.loop-joint.left c.loop-joint.row c.args.least c.args.depth e rest) (Alike c.loop-joint.left e)
    (goes_failed s c.fail.new.self c.in-Err.reason c.fail.ensures).sticks (c.loop-joint.invariant.complete e rest g)
    (λ at. may_lengthen s c.loop-joint.left c.loop-joint.row c.in-Some.joint c.args.least c.args.depth c.joint_ahead.result c.longer.result c.in-Err.reason e rest
    (c.joint_ahead.ensures ∙ ap (λ (x : _). joint_ahead (joint_of x) c.loop-joint.row.binding c.args.least) c.piece.ensures) c.in-Some.is c.longer.ensures.complete c.in-Err.is at)

pub joins-returns-in-Err-clause-sound : goal.joins-returns-in-Err-clause-sound
joins-returns-in-Err-clause-sound t c = λ here sound so.
    absurd (never_failed c.loop-joint.parser c.fail.new.self c.in-Err.reason c.fail.ensures sound)

pub joins-returns-clause-sound : goal.joins-returns-clause-sound
joins-returns-clause-sound t c = λ here sound so.
    let s : Parser = c.loop-joint.parser in
    read_to_end here s c.args.parser.now.in_parameter c.loop-joint.left c.loop-joint.row c.args.least c.args.depth c.joint_ahead.result sound
    (same_kind c.args.parser.now s c.loop-joint.invariant.goes)
    (c.joint_ahead.ensures ∙ ap (λ (x : _). joint_ahead (joint_of x) c.loop-joint.row.binding c.args.least) c.piece.ensures) c.in_default.not-Some (c.loop-joint.invariant.sound here sound so)

pub expression-returns-clause-sound : goal.expression-returns-clause-sound
expression-returns-clause-sound t c = λ sound most.
    let old : Parser = c.args.parser.now in
    let mid : Parser = c.operand-first.new.parser in
    let is = c.beginning_of-beginning.ensures ∙ ap (λ (x : _). beginning_of x c.args.least) c.piece.ensures in
    let begun = c.operand-first.ensures.sound (sound_before mid c.joins.new.parser c.joins.ensures.goes sound) is in
    let read = c.joins.ensures.sound old.rest.now sound
    (so_far_begun old mid c.beginning_of-beginning.result c.row_of.result c.args.least c.args.depth c.operand-first.result begun c.operand-first.ensures.goes is c.row_of.ensures most) in
    subst (λ (k : Bool). WasRead old.rest.now k c.joins.new.parser c.args.least c.args.depth c.joins.result) (same_kind old mid c.operand-first.ensures.goes) read

pub behind_prefix-returns-clause-sound : goal.behind_prefix-returns-clause-sound
behind_prefix-returns-clause-sound t c = λ sound begins.
    prefix_begun c.args.parser.now c.step.new.self c.expression-inner.new.parser c.put_prefix.new.parser c.args.prefix c.args.least c.args.depth c.inside.result c.expression-inner.result c.put_prefix.result
    sound begins (omega (arith, c.if-depth-eq0.false)) c.step.ensures.left c.step.ensures.goes c.inside.ensures c.expression-inner.ensures.sound c.put_prefix.ensures.sound c.put_prefix.ensures.goes

pub choice_at-returns-clause-sound : goal.choice_at-returns-clause-sound
choice_at-returns-clause-sound t c = λ least sound begins.
    choice_begun c.args.parser.now c.step.new.self c.expression-condition.new.parser c.want.new.parser c.expect.new.self c.expression-yes.new.parser c.expect-2.new.self c.expression-no.new.parser c.chosen.new.parser
    c.expression-condition.result c.expression-yes.result c.expression-no.result c.chosen.result least c.args.depth sound begins (omega (arith, c.if-depth-eq0.false))
    c.step.ensures.left c.step.ensures.goes c.expression-condition.ensures.sound c.expression-condition.ensures.goes c.want.ensures.sound c.want.ensures.goes
    c.expect.ensures.passed c.expect.ensures.goes c.expression-yes.ensures.sound c.expression-yes.ensures.goes c.expect-2.ensures.passed c.expect-2.ensures.goes
    c.expression-no.ensures.sound c.expression-no.ensures.goes c.chosen.ensures.sound c.chosen.ensures.goes

pub operand-returns-in-Leaf-clause-sound : goal.operand-returns-in-Leaf-clause-sound
operand-returns-in-Leaf-clause-sound t c = λ sound begins.
    subst (λ (b : Beginning). WasBegun c.args.parser.now c.leaf.new.parser b c.args.least c.args.depth c.leaf.result) (sym c.in-Leaf.is) (c.leaf.ensures.sound c.args.least c.args.depth sound)

pub operand-returns-in-Prefix-clause-sound : goal.operand-returns-in-Prefix-clause-sound
operand-returns-in-Prefix-clause-sound t c = λ sound begins.
    subst (λ (b : Beginning). WasBegun c.args.parser.now c.behind_prefix.new.parser b c.args.least c.args.depth c.behind_prefix.result) (sym c.in-Prefix.is) (c.behind_prefix.ensures.sound sound (sym c.in-Prefix.is ∙ begins))

pub operand-returns-in-Choice-clause-sound : goal.operand-returns-in-Choice-clause-sound
operand-returns-in-Choice-clause-sound t c = λ sound begins.
    subst (λ (b : Beginning). WasBegun c.args.parser.now c.choice_at.new.parser b c.args.least c.args.depth c.choice_at.result) (sym c.in-Choice.is) (c.choice_at.ensures.sound c.args.least sound (sym c.in-Choice.is ∙ begins))

use Rattle.std.proofs.Common.{◌≡◌, ℕ, ◌+◌, ◌-◌, arith, refl, ap, subst}
use Rattle.spmd_text.specs.declared.parser.Parser.{Parser}
use Rattle.spmd_text.specs.parts.Parts.{HasRead, labels_part}
use Rattle.spmd_text.proofs.Following.{comma_unindexed, never_taken}
use Rattle.spmd_text.proofs.Going.{goes_failed}
use Rattle.spmd_text.proofs.LabelForms.{labels_last, labels_more, labels_too_long}
use Rattle.spmd_text.proofs.Parts.{keeps_of, keeps_on, on_names, reads_then}
use Rattle.spmd_text.proofs.Strict.{labels_strict}
use Rattle.spmd_text.proofs.calls.+labels.Goals as goal

pub returns-then-not-take : goal.returns-then-not-take
returns-then-not-take t c =
    labels_last c.label-form.result (c.args.most + 1) (omega arith) c.label-form.ensures (c.if-not-take.ensures.left refl)
    (λ rest sound e. never_taken (c.if-not-take.ensures.taken rest sound e).0)

pub returns-then-most-eq0 : goal.returns-then-most-eq0
returns-then-most-eq0 t c =
    labels_too_long c.label-form.result _ c.args.most c.if-most-eq0.true c.label-form.ensures
    (keeps_on (keeps_of c.if-not-take.ensures.goes) (keeps_of (goes_failed c.take.new.self c.fail.new.self _ c.fail.ensures)))
    (λ sound. c.if-not-take.ensures.there refl sound refl) c.take.new.self.fault (ap (λ (s : Parser). s.fault) c.fail.ensures)

pub returns : goal.returns
returns t c =
    let one = c.label-form.ensures in
    let comma = c.if-not-take.ensures.reads refl refl in
    let two = reads_then (λ y. refl) (λ y here rest may e ends. comma_unindexed here rest e) one comma in
    let as_many : (c.args.most - 1) + 1 ≡ c.args.most = omega (arith, c.if-most-eq0.false) in
    let others = subst (λ (n : ℕ). HasRead (labels_part c.take.new.self.in_parameter c.take.new.self.names.now n) c.take.new.self c.labels-others.new.parser c.labels-others.result) as_many c.labels-others.ensures in
    let three = reads_then labels_strict (λ y here rest may e ends. refl) two (on_names (λ flag names. labels_part flag names c.args.most) two.goes others) in
    labels_more c.label-form.result c.labels-others.result c.more.result c.args.most one
    (keeps_on comma.goes others.goes) (λ sound. c.if-not-take.ensures.there refl sound refl) three c.more.ensures

use Rattle.std.proofs.Common.{List, ◌∷◌, ◌++◌, [], Option, subst, ap, sym, ◌∙◌}
use Rattle.std.proofs.IntoIterSteps.{All-taken}
use Rattle.interning.specs.Places.{IsNumbering}
use Rattle.interning.proofs.Numbering.{AreNumbered, AreNumbered-none, AreNumbered-some, IsNumbering-from}
use Rattle.interning.proofs.numbers.number.Goals as goal
use Rattle.interning.proofs.numbers.number.Goals.{in-None-name, in-Some-name+in_ok-insert_full-in-Some-name}

pub loop-name-preserved : goal.loop-name-preserved
loop-name-preserved g c =
    elim c.match-name.branch [
      | in-None-name w ↦
          AreNumbered-none g.K.PartialEq.eq c.loop-name.seen.keys c.match-name.seen.keys c.loop-name.yielded c.loop-name.numbers.items c.push.new.self.items c.in-Some.name c.match-name.number
          (ap (λ s. s.keys) w.seen-is) w.in-None-name.is w.number-is c.in_ok-push.ensures.items c.loop-name.invariant
      | in-Some-name+in_ok-insert_full-in-Some-name w ↦
          let done = w.in_ok-insert_full-in-Some-name in
          let keys = ap (λ s. s.keys) w.seen-is in
          subst (λ (ks : List g.row.K.Denot). AreNumbered g.K.PartialEq.eq ks (c.loop-name.yielded ++ c.in-Some.name ∷ []) c.push.new.self.items) (sym keys)
          (AreNumbered-some g.K.PartialEq.eq c.loop-name.seen.keys w.insert_full.new.self.keys c.loop-name.yielded c.loop-name.numbers.items c.push.new.self.items c.in-Some.name c.match-name.number w.in-Some-name.name done.field-0.0
          done.ensures.keys done.ensures.unique done.ensures.stored w.in-Some-name.is w.number-is c.in_ok-push.ensures.items c.loop-name.invariant)
    ]

pub returns : goal.returns
returns g c =
    let all = All-taken c.into_iter-name-iterator.result c.loop-name.yielded (c.next.new.self, (c.loop-name.name-iterator, c.loop-name.yielded_by, c.in-None.ensures.steps)) in
    subst (λ (names : List (Option g.row.K.Denot)). IsNumbering g.K.PartialEq.eq names c.loop-name.numbers.items)
    (all ∙ c.into_iter-name-iterator.ensures.into_iter_gives.0)
    (IsNumbering-from g.K.PartialEq.eq g.met.K.Eq.laws c.loop-name.seen.keys c.loop-name.yielded c.loop-name.numbers.items c.loop-name.invariant)

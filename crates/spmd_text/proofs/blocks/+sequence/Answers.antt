use Rattle.std.proofs.Common.{◌≡◌, ℕ, ◌-◌, ◌/◌, arith, length, take, drop, List, [], ◌∷◌, ◌++◌, refl, ap, sym, ◌∙◌, inl}
use Rattle.std.proofs.lemmas.List.{append-nil, append_assoc, length-drop, length-take-le, map-append, same_from_push, take-append-drop}
use Rattle.spmd_text.specs.parts.Statements.{IsInTurn, KeptStatement, MakesOrLacksMemory, flat, flat_all, held, held_all}
use Rattle.spmd_text.proofs.Made.{made_as}
use Rattle.spmd_text.proofs.Sequences.{empty_of, in_turn_flat, made_then, one_of}
use Rattle.spmd_text.proofs.blocks.+sequence.Goals as goal

pub returns-then-count-eq0 : goal.returns-then-count-eq0
returns-then-count-eq0 t c before popped e many =
    let none = empty_of popped (many ∙ c.if-count-eq0.true) in (
      e ∙ (ap (λ (l : List KeptStatement). before ++ l) none ∙ append-nil before),
      made_as (λ is. ap flat is ∙ ap (λ (l : List KeptStatement). flat_all (held_all l)) (sym none)) c.keep.ensures,
    )

pub returns-in-Some : goal.returns-in-Some
returns-in-Some t c before popped e many =
    let one = one_of popped (many ∙ c.if-count-eq1.true) in
    let f : before ++ one.0 ∷ [] ≡ c.pop.new.self.items ++ c.in-Some.last ∷ [] = ap (λ (l : List KeptStatement). before ++ l) (sym one.1) ∙ (sym e ∙ c.in-Some.ensures.items) in
    let same = same_from_push before c.pop.new.self.items one.0 c.in-Some.last f in (
      sym same.0,
      inl (refl, ap (λ (k : KeptStatement). flat (held k)) (sym same.1) ∙ (sym (append-nil (flat (held one.0))) ∙ ap (λ (l : List KeptStatement). flat_all (held_all l)) (sym one.1))),
    )

pub returns : goal.returns
returns t c before popped e many =
    let half : ℕ = c.args.count - c.args.count / 2 in
    let front : List KeptStatement = take half popped in
    let back : List KeptStatement = drop half popped in
    let whole : front ++ back ≡ popped = take-append-drop half popped in
    let front_many : length front ≡ half = length-take-le half popped (omega (arith, many)) in
    let back_many : length back ≡ c.args.count / 2 = omega (arith, length-drop half popped, many) in
    let second = c.sequence-second.ensures (before ++ front) back (e ∙ (ap (λ (l : List KeptStatement). before ++ l) (sym whole) ∙ sym (append_assoc before front back))) back_many in
    let first = c.sequence-first.ensures before front second.0 front_many in
    let both : MakesOrLacksMemory c.sequence-second.new.parser c.in_turn.new.parser ((flat (held c.sequence-first.result) ≡ flat_all (held_all front)) × IsInTurn (held c.sequence-first.result) (held c.sequence-second.result) (held c.in_turn.result)) = made_then first.1 c.in_turn.ensures (λ a b. (a, b)) in
    (first.0, made_then second.1 both (λ y x. in_turn_flat (held c.sequence-first.result) (held c.sequence-second.result) (held c.in_turn.result) (held_all front) (held_all back) x.0 y x.1 ∙ ap flat_all (sym (map-append held front back) ∙ ap held_all whole)))

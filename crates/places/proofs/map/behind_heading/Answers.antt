-- The first line that may not stand there is the first or the second.
use Rattle.std.proofs.Common.{◌≡◌, ◌∙◌, ◌++◌, ◌∷◌, [], ℕ, List, ap, refl, subst, sym, arith, codes}
use Rattle.std.proofs.lemmas.List.{append_cancel_right}
use Rattle.plaintext.specs.Plain.{text_lines}
use Rattle.plaintext.proofs.Cuts.{no_line_of}
use Rattle.places.specs.Maps.{StartsWith, map_heading}
use Rattle.places.proofs.Faults.{false_true, first_faulty, second_faulty}
use Rattle.places.proofs.map.behind_heading.Goals as goal

-- a line that isn't this one is another with its LF too
other_line : (line wanted : List ℕ) → (line ≡ wanted → ⊥) → line ++ 10 ∷ [] ≡ wanted ++ 10 ∷ [] → ⊥
other_line line wanted other is = other (append_cancel_right line wanted (10 ∷ []) is)

-- the map's lines behind its first one
behind_first : (map first behind : List ℕ) (lines : List (List ℕ)) → text_lines map ≡ (first ++ 10 ∷ []) ∷ text_lines behind → first ≡ codes "map 1" → text_lines behind ≡ lines
    → text_lines map ≡ (codes "map 1" ++ 10 ∷ []) ∷ lines
behind_first map first behind lines is same more = is ∙ ap (λ (l : List ℕ). (l ++ 10 ∷ []) ∷ text_lines behind) same ∙ ap (λ (l : List (List ℕ)). (codes "map 1" ++ 10 ∷ []) ∷ l) more

pub returns-in_default-clause-fault : goal.returns-in_default-clause-fault
returns-in_default-clause-fault c = λ text is.
    let map = c.args.map.now in
    let one = c.in_default.ensures.none in
    (map, first_faulty text map map [] one (λ at. no_line_of map (codes "map 1" ∷ []) one (sym at)), λ e. omega (arith, e))

pub returns-then-not-are_same-clause-fault : goal.returns-then-not-are_same-clause-fault
returns-then-not-are_same-clause-fault c = λ text is.
    let map = c.args.map.now in
    let first = c.in-Some.first.now in (
      first ++ 10 ∷ [],
      first_faulty text map (first ++ 10 ∷ []) (text_lines c.in-Some.behind.now) c.in-Some.ensures.some
          (other_line first (codes "map 1") (λ e. false_true (c.if-not-are_same.ensures.1 e))),
      λ e. omega (arith, e),
    )

pub returns-in_default-next_line-clause-fault : goal.returns-in_default-next_line-clause-fault
returns-in_default-next_line-clause-fault c = λ text is.
    let map = c.args.map.now in
    let behind = c.in-Some.behind.now in
    let one = c.in_default-next_line.ensures.none in (
      behind,
      second_faulty text map behind [] (behind_first map c.in-Some.first.now behind (behind ∷ []) c.in-Some.ensures.some (c.if-not-are_same.ensures.0 refl) one)
          (λ at. no_line_of behind (map_heading text ∷ []) one (sym at)),
      λ e words ends begins. no_line_of behind (words ∷ []) one (sym ends),
    )

pub returns-then-is_begun-clause-fault : goal.returns-then-is_begun-clause-fault
returns-then-is_begun-clause-fault c = λ text is.
    let map = c.args.map.now in
    let second = c.in-Some-next_line.second.now in
    let lines = (second ++ 10 ∷ []) ∷ text_lines c.in-Some-next_line.behind.now in (
      second,
      second_faulty text map (second ++ 10 ∷ []) (text_lines c.in-Some-next_line.behind.now)
          (behind_first map c.in-Some.first.now c.in-Some.behind.now lines c.in-Some.ensures.some (c.if-not-are_same.ensures.0 refl) c.in-Some-next_line.ensures.some)
          (other_line second (map_heading text) (λ e. false_true (c.if-are_same.ensures.1 (e ∙ sym is)))),
      c.if-is_begun.ensures.0 refl,
    )

pub returns-else-is_begun-clause-fault : goal.returns-else-is_begun-clause-fault
returns-else-is_begun-clause-fault c = λ text is.
    let map = c.args.map.now in
    let second = c.in-Some-next_line.second.now in
    let lines = (second ++ 10 ∷ []) ∷ text_lines c.in-Some-next_line.behind.now in (
      second ++ 10 ∷ [],
      second_faulty text map (second ++ 10 ∷ []) (text_lines c.in-Some-next_line.behind.now)
          (behind_first map c.in-Some.first.now c.in-Some.behind.now lines c.in-Some.ensures.some (c.if-not-are_same.ensures.0 refl) c.in-Some-next_line.ensures.some)
          (other_line second (map_heading text) (λ e. false_true (c.if-are_same.ensures.1 (e ∙ sym is)))),
      λ e words ends begins. false_true (c.if-is_begun.ensures.1 (subst (λ (l : List ℕ). StartsWith (codes "of ") l) (sym (append_cancel_right second words (10 ∷ []) ends)) begins)),
    )

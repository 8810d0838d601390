use Rattle.std.proofs.Common.{rules, ◌+◌, Option, ◌≡◌, ◌∙◌, ◌++◌, ◌∷◌, [], ℕ, List, true, false, ◌==◌, ap, refl, sym, arith, codes, length}
use Rattle.std.specs.Prelude.{slice_get}
use Rattle.places.specs.declared.entries.MapEntry.{MapEntry}
use Rattle.plaintext.specs.Plain.{text_lines}
use Rattle.places.proofs.Faults.{false_true}
use Rattle.places.proofs.Mapping.{none_there}
use Rattle.places.proofs.Reading.{end_faulty, left_faulty, read_more, read_none, read_whole}
use Rattle.places.proofs.map.read_map.Goals as goal
use Rattle.places.proofs.map.read_map.Goals.{else-are_same-via-then-are_same+else-is_empty, else-are_same-via-else-are_same}

nothing : (l : List ℕ) → length l ≡ 0 → l ≡ []
nothing [] is = refl
nothing (b ∷ l) is = absurd (omega (arith, is))

empty_is : (l : List ℕ) → true ≡ (length l == 0) → l ≡ []
empty_is l is = nothing l (grind (arith, is))

full_is : (l : List ℕ) → l ≡ [] → false ≡ (length l == 0) → ⊥
full_is [] none is = false_true is
full_is (b ∷ l) none is = cc

pub loop-line-init : goal.loop-line-init
loop-line-init c =
    let all = c.in_ok-entries.ensures.items_if_clones_equal in
    let n = c.in_ok-entries.ensures.len in
    read_none c.args.text.now c.args.map.now c.in_ok-rest.rest.now c.in_ok-entries.entries.items
    (c.in_ok-rest.ensures.ok ∙ ap (λ (l : List ℕ). (codes "map 1" ++ 10 ∷ []) ∷ (l ++ 10 ∷ []) ∷ text_lines c.in_ok-rest.rest.now) (c.as_bytes.ensures.value ∙ c.in_ok-heading.ensures))
    c.in_ok-rest.ensures.shorter
    (λ m entry there. none_there (c.line_count.result + 1) m entry (sym (ap (λ (l : List (Option MapEntry)). slice_get l m) (all (search rules))) ∙ there))
    (omega (arith, c.in_ok-entries.entries.ok.0, n, c.line_count.ensures.count))

pub returns-then-not-put_line-clause-fault : goal.returns-then-not-put_line-clause-fault
returns-then-not-put_line-clause-fault c =
    left_faulty c.args.text.now c.args.map.now c.loop-line.rest.now c.loop-line.last.now c.in-Some.line.now c.in-Some.behind.now c.loop-line.number c.loop-line.entries.items
    c.loop-line.invariant c.in-Some.ensures.some c.if-not-put_line.ensures

pub loop-line-preserved : goal.loop-line-preserved
loop-line-preserved c =
    read_more c.args.text.now c.args.map.now c.loop-line.rest.now c.loop-line.last.now c.in-Some.line.now c.in-Some.behind.now c.loop-line.number c.loop-line.entries.items
    c.put_line.new.entries.items c.loop-line.invariant c.in-Some.ensures.some c.in-Some.ensures.shorter c.if-not-put_line.ensures

pub returns-then-is_empty-clause-places : goal.returns-then-is_empty-clause-places
returns-then-is_empty-clause-places c =
    (read_whole c.args.text.now c.args.map.now c.loop-line.rest.now c.loop-line.last.now c.loop-line.number c.loop-line.entries.items c.loop-line.invariant c.in_default.ensures.none
    (c.if-are_same.ensures.0 refl) (empty_is c.loop-line.rest.now c.if-is_empty.ensures)).1

pub returns-then-is_empty-clause-whole : goal.returns-then-is_empty-clause-whole
returns-then-is_empty-clause-whole c =
    (read_whole c.args.text.now c.args.map.now c.loop-line.rest.now c.loop-line.last.now c.loop-line.number c.loop-line.entries.items c.loop-line.invariant c.in_default.ensures.none
    (c.if-are_same.ensures.0 refl) (empty_is c.loop-line.rest.now c.if-is_empty.ensures)).0

pub returns-clause-fault : goal.returns-clause-fault
returns-clause-fault c =
    end_faulty c.args.text.now c.args.map.now c.loop-line.rest.now c.loop-line.last.now c.loop-line.number c.loop-line.entries.items c.loop-line.invariant c.in_default.ensures.none
    (λ end none. elim c.else-are_same.branch [
      | else-are_same-via-then-are_same+else-is_empty w ↦ full_is c.loop-line.rest.now none w.if-is_empty.ensures
      | else-are_same-via-else-are_same w ↦ false_true (w.if-are_same.ensures.1 end)
    ])

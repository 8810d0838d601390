-- The place of an entry is that of its number.
use Rattle.std.proofs.Common.{◌∙◌, arith, refl, sym}
use Rattle.plaintext.proofs.Numerals.{numeral_injective}
use Rattle.places.proofs.Mapping.{notes, occupied, there}
use Rattle.places.proofs.map.put_entry.Goals as goal

pub returns-then-number-eq0-clause-not : goal.returns-then-number-eq0-clause-not
returns-then-number-eq0-clause-not c = λ _ n is some small within.
    let found = c.in-Some.ensures.some in
    let same = numeral_injective found.0 n (found.1 ∙ sym is) in
    absurd (grind (arith, found.2, same, some, small, c.then-number-eq0.either))

pub returns-in_default-get_mut-clause-not : goal.returns-in_default-get_mut-clause-not
returns-in_default-get_mut-clause-not c = λ _ n is some small within.
    let found = c.in-Some.ensures.some in
    let same = numeral_injective found.0 n (found.1 ∙ sym is) in
    absurd (grind (arith, found.2, same, some, small, within, c.in_default-get_mut.ensures.variant))

pub returns-then-is_some-clause-not : goal.returns-then-is_some-clause-not
returns-then-is_some-clause-not c = λ _ n is some small within.
    let found = c.in-Some.ensures.some in
    let same = numeral_injective found.0 n (found.1 ∙ sym is) in
    occupied c.args.entries.now.items n c.in-Some.number c.in-Some-get_mut.slot.now (grind (arith, found.2, same, small)) (there c.args.entries.now.items c.in-Some.number c.in-Some-get_mut.slot.now (omega (arith, c.in-Some-get_mut.ensures.variant.0 refl, c.args.entries.now.ok.0)) c.in-Some-get_mut.ensures.value) (sym (c.if-is_some.ensures))

pub returns-clause-noted : goal.returns-clause-noted
returns-clause-noted c = λ _.
    let found = c.in-Some.ensures.some in
    notes c.args.entries.now.items c.args.entry found.0 c.in-Some.number c.in-Some-get_mut.slot.now (grind (arith, found.2, c.if-number-ge-MOST.false)) found.1
    (grind (arith, c.if-number-eq0.false)) c.if-number-ge-MOST.false (there c.args.entries.now.items c.in-Some.number c.in-Some-get_mut.slot.now (omega (arith, c.in-Some-get_mut.ensures.variant.0 refl, c.args.entries.now.ok.0)) c.in-Some-get_mut.ensures.value) (sym (c.if-is_some.ensures))

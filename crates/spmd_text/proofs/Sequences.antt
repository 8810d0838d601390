-- A list of statements becomes a tree of its halves.
use Rattle.std.proofs.Common.{◌≡◌, ℕ, ◌<◌, true, false, arith, length, List, [], ◌∷◌, ◌++◌, Option, Some, None, refl, ap, sym, ◌∙◌, inl, inr}
use Rattle.std.specs.Option.{IsSome, option_to_list}
use Rattle.std.proofs.lemmas.List.{length-append, same_from_push}
use Rattle.spmd_tree.specs.declared.tree.SpmdStatement.{SpmdStatement}
use Rattle.spmd_text.specs.declared.fault.ParseReason.{ParseReason}
use Rattle.spmd_text.specs.declared.fault.ParseReason.TheVariants.{Memory}
use Rattle.spmd_text.specs.declared.parser.Parser.{Parser}
use Rattle.spmd_text.specs.parts.Reading.{first_noted}
use Rattle.spmd_text.specs.parts.Statements.{IsInTurn, MakesOrLacksMemory, flat, flat_all}
use Rattle.spmd_text.proofs.Flat.{flat_append}

noted_twice : (fault : Option ParseReason) → first_noted (first_noted fault Memory) Memory ≡ first_noted fault Memory
noted_twice None = refl
noted_twice (Some why) = refl

pub made_then : {old mid new : Parser} {A B C : Type 0} → MakesOrLacksMemory old mid A → MakesOrLacksMemory mid new B → (A → B → C) → MakesOrLacksMemory old new C
made_then {old} {mid} {new} (inl (same, a)) (inl (again, b)) to = inl (again ∙ same, to a b)
made_then {old} {mid} {new} (inl (same, a)) (inr e) to = inr (e ∙ ap (λ (s : Parser). record s { fault = first_noted s.fault Memory }) same)
made_then {old} {mid} {new} (inr e) (inl (again, b)) to = inr (again ∙ e)
made_then {old} {mid} {new} (inr e) (inr f) to =
    inr (f ∙ (ap (λ (s : Parser). record s { fault = first_noted s.fault Memory }) e ∙ ap (λ (z : Option ParseReason). record old { fault = z }) (noted_twice old.fault)))

pub in_turn_flat : (a b made : SpmdStatement) (xs ys : List SpmdStatement) → flat a ≡ flat_all xs → flat b ≡ flat_all ys → IsInTurn a b made → flat made ≡ flat_all (xs ++ ys)
in_turn_flat a b made xs ys e f m =
    ap flat m.is
    ∙ (ap (λ (v : SpmdStatement). flat v ++ flat m.second.value) m.first_holds
    ∙ (ap (λ (v : SpmdStatement). flat a ++ flat v) m.second_holds
    ∙ (ap (λ (l : List SpmdStatement). l ++ flat b) e
    ∙ (ap (λ (l : List SpmdStatement). flat_all xs ++ l) f ∙ sym (flat_append xs ys)))))

pub empty_of : {A : Type 0} (xs : List A) → length xs ≡ 0 → xs ≡ []
empty_of [] e = refl
empty_of (x ∷ xs) e = absurd (omega (arith, e))

pub one_of : {A : Type 0} (xs : List A) → length xs ≡ 1 → (x : A) × (xs ≡ x ∷ [])
one_of [] e = absurd (omega (arith, e))
one_of {A} (x ∷ xs) e = let none : length xs ≡ 0 = omega (arith, e) in (x, ap (λ (l : List A). x ∷ l) (empty_of xs none))

-- what was taken from the end is the last item
pub taken_last : (mid new outer : List ℕ) (taken : Option ℕ) (name : ℕ) → mid ≡ new ++ option_to_list taken → (0 < length mid → IsSome taken) → mid ≡ outer ++ name ∷ [] → new ≡ outer
taken_last mid new outer None name e some f = absurd (let never : false ≡ true = some (omega (arith, ap length f, length-append outer (name ∷ []))) in cc)
taken_last mid new outer (Some last) name e some f = (same_from_push new outer last name (sym e ∙ f)).0

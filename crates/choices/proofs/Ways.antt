-- What is known of several other ways.
use Rattle.std.proofs.Common.{◌≡◌, ℕ, ◌+◌, ◌<◌, ◌≤◌, List, [], ◌∷◌, ◌++◌, length, get_or, take, sym, ◌∙◌, ap, subst, arith}
use Rattle.std.proofs.Math.Seq.{take-length}
use Rattle.std.proofs.lemmas.List.{take_more}
use Rattle.std.proofs.lemmas.List.Elements.{All-push}
use Rattle.callorder.specs.Programs.{MpiProgram}
use Rattle.choices.specs.declared.asking.Way.{Way}
use Rattle.choices.specs.declared.asking.Way.TheVariants.{Hangs, Never}
use Rattle.narrowing.specs.declared.taken.ChoiceTaken.{ChoiceTaken}
use Rattle.choices.specs.declared.items.Choice.{Choice}
use Rattle.choices.specs.declared.items.Weighed.{Weighed}
use Rattle.choices.specs.parts.Weights.{IsWayWith}
use Rattle.choices.specs.Weights.{AreNever, AreWeighed, HangsOtherwise, IsWeighed, NeverWith}

-- where a way is told to hang
pub hangs_so : (text : List ℕ) (p : MpiProgram) (choice : Choice) (taken : ChoiceTaken) (way : Way) → way ≡ Hangs → IsWayWith text p choice taken way → HangsOtherwise p choice
hangs_so text p choice taken way hangs known = subst (IsWayWith text p choice taken) hangs known

-- one more way never hangs
pub never_more : (text : List ℕ) (p : MpiProgram) (choice : Choice) (read others : List ChoiceTaken) (i : ℕ) (d : ChoiceTaken) (way : Way) → i < length others → read ≡ others → way ≡ Never
    → IsWayWith text p choice (get_or read i d) way → AreNever text p choice (take i others) → AreNever text p choice (take (i + 1) others)
never_more text p choice read others i d way within same never known before =
    let here : NeverWith text choice.line p choice.call (get_or others i d) =
    subst (λ (xs : List ChoiceTaken). NeverWith text choice.line p choice.call (get_or xs i d)) same (subst (IsWayWith text p choice (get_or read i d)) never known) in
    subst (AreNever text p choice) (sym (take_more others i d within)) (All-push (λ (x : ChoiceTaken). NeverWith text choice.line p choice.call x) (take i others) (get_or others i d) before here)

-- none of all ways hangs
pub never_any : (text : List ℕ) (p : MpiProgram) (choice : Choice) (others : List ChoiceTaken) (i : ℕ) → i ≤ length others → length others ≤ i → AreNever text p choice (take i others) → AreNever text p choice others
never_any text p choice others i within past all =
    let at : i ≡ length others = omega arith in
    subst (AreNever text p choice) (ap (λ (n : ℕ). take n others) at ∙ take-length others) all

-- one more choice of which what is told holds
pub weighed_more : (text : List ℕ) (all more : List Weighed) (next : Weighed) → more ≡ all ++ next ∷ [] → AreWeighed text all → IsWeighed text next.choice next.need → AreWeighed text more
weighed_more text all more next is before holds =
    subst (AreWeighed text) (sym is) (All-push (λ (weighed : Weighed). IsWeighed text weighed.choice weighed.need) all next before holds)

-- Lines on ranks that wait: one more, and each with a label.
use Rattle.std.proofs.Common.{◌≡◌, ◌∙◌, ◌+◌, ◌<◌, ℕ, zero, suc, List, [], ◌∷◌, ◌++◌, Option, Some, None, IsTrue, refl, sym, subst, ap, arith, length, slice_get, add-one, get_or, length-append}
use Rattle.std.proofs.lemmas.Option.{slice_get-get_or, slice_get_within}
use Rattle.calltext.specs.Grammar.{ProgramText}
use Rattle.callorder.specs.declared.calls.Call.{Call}
use Rattle.callorder.specs.Programs.{MpiProgram, call_at, is_of_rank}
use Rattle.semantics.specs.Machine.{Configuration}
use Rattle.waits.specs.declared.standings.Standing.{Standing}
use Rattle.waits.specs.declared.standings.Standing.TheVariants.{Finished, Waits, Ready}
use Rattle.waits.specs.Waiting.{Stands}
use Rattle.scene.specs.Labels.{Label, call_labels, label_at, labels, caller_rank}
use Rattle.explain.specs.Messages.{AreNotices, IsLabelled, IsNotice}

told_more : (ls : List Label) (p : MpiProgram) (m : Configuration) (standings : List Standing) (rank : ℕ) (above line new : List ℕ) → AreNotices ls p m standings rank above
    → IsNotice ls p m rank (slice_get standings rank) line → new ≡ above ++ line → AreNotices ls p m standings (rank + 1) new
told_more ls p m standings rank above line new are is both =
    subst (λ (n : ℕ). AreNotices ls p m standings n new) (sym (add-one rank)) (above, line, are, is, both)

-- one more rank, in a list that is the same
pub told_next : (ls : List Label) (p : MpiProgram) (m : Configuration) (standings items : List Standing) (rank : ℕ) (d : Standing) (above new : List ℕ) → items ≡ standings → rank < length items
    → AreNotices ls p m standings rank above → ((r : ℕ) (standing : Standing) → slice_get standings r ≡ Some standing → IsLabelled ls standing)
    → (IsLabelled ls (get_or items rank d) → (line : List ℕ) × IsNotice ls p m rank (Some (get_or items rank d)) line × (new ≡ above ++ line))
    → AreNotices ls p m standings (rank + 1) new
told_next ls p m standings items rank d above new same within are labelled told =
    let there : slice_get standings rank ≡ Some (get_or items rank d) =
    ap (λ (l : List Standing). slice_get l rank) (sym same) ∙ slice_get-get_or items rank d within in
    let (line, is, both) = told (labelled rank (get_or items rank d) there) in
    told_more ls p m standings rank above line new are (subst (λ (standing : Option Standing). IsNotice ls p m rank standing line) (sym there) is) both

length_labels : (lines : List (List ℕ)) (numbers : List ℕ) (calls : List Call) (count : ℕ) → length (labels lines numbers calls count) ≡ count
length_labels lines numbers calls zero = refl
length_labels lines numbers calls (suc count) =
    length-append (labels lines numbers calls count) (label_at lines numbers count (caller_rank (slice_get calls count)) ∷ [])
    ∙ ap (λ (n : ℕ). n + 1) (length_labels lines numbers calls count) ∙ add-one count

own_within : (p : MpiProgram) (rank call : ℕ) (known : Option Call) → call_at p call ≡ known → IsTrue (is_of_rank known rank) → call < length p.calls
own_within p rank call None is own = absurd cc
own_within p rank call (Some known) is own = slice_get_within p.calls call known is

-- where a rank stands so, the call that it waits in has a label
pub stands_labelled : (text : List ℕ) (source : ProgramText) (p : MpiProgram) (m : Configuration) (rank : ℕ) (standing : Standing) → Stands p m rank standing
    → IsLabelled (call_labels text source p) standing
stands_labelled text source p m rank Finished stands = tt
stands_labelled text source p m rank Ready stands = tt
stands_labelled text source p m rank (Waits call) stands =
    let none : Label = record { number = 0; rank = 0; line = 0; words = [] } in
    let all = call_labels text source p in
    let many : length all ≡ length p.calls = length_labels _ _ p.calls (length p.calls) in
    let within : call < length all = omega (arith, many, own_within p rank call (call_at p call) refl stands.own) in
    (get_or all call none, slice_get-get_or all call none within)

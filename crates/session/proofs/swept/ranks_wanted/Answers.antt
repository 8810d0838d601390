use Rattle.std.proofs.Common.{◌≡◌, ap, ℕ, List, Bool, false, Option, Some, sym, subst}
use Rattle.std.proofs.lemmas.Option.{same_Some}
use Rattle.spmd_program.specs.Ranges.{IsRange}
use Rattle.command_line.specs.Requests.{path_of}
use Rattle.session.specs.Sweeping.{IsRanked, IsUnranked, no_ranks}
use Rattle.session.proofs.swept.ranks_wanted.Goals as goal

-- a text that tells no numbers of ranks
no_range : (text : List ℕ) (several : Bool) → ((first last : ℕ) → IsRange text first last → ⊥) → (first last : ℕ) → IsRanked (Some text) false several first last → ⊥
no_range text several none first last ranked =
    none first last (subst (λ (t : List ℕ). IsRange t first last) (sym (same_Some text ranked.text ranked.given)) ranked.is_range)

-- and so is why there are none
unranked : (ranks : Option (List ℕ)) (text : List ℕ) (beside several : Bool) (told : List ℕ) → ranks ≡ Some text → beside ≡ false → told ≡ no_ranks several
    → ((first last : ℕ) → IsRange text first last → ⊥) → IsUnranked ranks beside several told
unranked ranks text beside several told is alone said none =
    subst (λ (r : Option (List ℕ)). IsUnranked r beside several told) (sym is)
    (subst (λ (b : Bool). IsUnranked (Some text) b several told) (sym alone) (no_range text several none, said))

pub returns-in_default-ranks_of-clause-unranked : goal.returns-in_default-ranks_of-clause-unranked
returns-in_default-ranks_of-clause-unranked c =
    unranked (path_of c.args.ranks) c.in-Some.text.now c.args.beside c.args.several c.no_ranks.result.now (ap path_of c.in-Some.is) c.if-beside.false c.no_ranks.ensures
    c.in_default-ranks_of.ensures.none

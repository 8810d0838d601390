-- The bytes of a text, one by one: what is left of them, from where the cutting stands, has this
-- outcome.
use Rattle.std.proofs.Common.{◌≡◌, ℕ, List, [], ◌∷◌, Ok, Err, ap, sym, ◌∙◌}
use Rattle.std.specs.Prelude.{Result}
use Rattle.spmd_text.specs.declared.fault.ParseFault.{ParseFault}
use Rattle.spmd_text.specs.declared.lexer.Halt.{Halt}
use Rattle.spmd_text.specs.declared.lexer.Halt.TheVariants.{Memory, Wrong}
use Rattle.spmd_text.specs.parts.Tokens.{Halts, GivesPieces, fault_of_halt}
use Rattle.spmd_text.specs.Tokens.{Cutting, Step, feed, feed_all, text_finished, lined}

-- a byte is fed
pub feed_goes : (bs rest : List ℕ) (b : ℕ) (s t : Cutting) (o : Result Cutting ParseFault)
    → feed_all bs s ≡ o → bs ≡ b ∷ rest → feed b s ≡ Ok t → feed_all rest t ≡ o
unfolding feed_all
feed_goes bs rest b s t o is e f =
    let go : Step → Result Cutting ParseFault = λ x. lined s.line x (λ u. feed_all rest u) in
    sym (ap go f) ∙ (sym (ap (λ xs. feed_all xs s) e) ∙ is)

-- a halt is told as the first fault
pub told : (h : Halt) (line : ℕ) (step : Step) (go : Cutting → Result Cutting ParseFault) (o : Result Cutting ParseFault)
    → lined line step go ≡ o → Halts {A = Cutting} h step → GivesPieces (Err (fault_of_halt h line)) o
told Memory line step go o is e = tt
told (Wrong why) line step go o is e = sym is ∙ ap (λ x. lined line x go) e

-- a byte halts
pub feed_halts : (bs rest : List ℕ) (b : ℕ) (s : Cutting) (h : Halt) (o : Result Cutting ParseFault)
    → feed_all bs s ≡ o → bs ≡ b ∷ rest → Halts {A = Cutting} h (feed b s) → GivesPieces (Err (fault_of_halt h s.line)) o
unfolding feed_all
feed_halts bs rest b s h o is e f = told h s.line (feed b s) (λ u. feed_all rest u) o (sym (ap (λ xs. feed_all xs s) e) ∙ is) f

-- all bytes are fed
pub feed_ends : (bs : List ℕ) (s : Cutting) (o : Result Cutting ParseFault)
    → feed_all bs s ≡ o → bs ≡ [] → lined s.line (text_finished s) (λ t. Ok t) ≡ o
unfolding feed_all
feed_ends bs s o is e = sym (ap (λ xs. feed_all xs s) e) ∙ is

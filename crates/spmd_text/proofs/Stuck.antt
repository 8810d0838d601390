-- Which line can't stand where it does: the first one here, or one behind lines that may stand.
use Rattle.std.proofs.Common.{◌≡◌, ℕ, Bool, true, false, ◌||◌, List, [], ◌∷◌, ◌++◌, append_assoc, append-nil, Option, Some, None, refl, ap, sym, subst, ◌∙◌, inl, inr}
use Rattle.spmd_text.specs.declared.fault.ParseReason.{ParseReason}
use Rattle.spmd_text.specs.declared.fault.ParseReason.TheVariants.{Memory}
use Rattle.spmd_text.specs.declared.parser.Parser.{Parser}
use Rattle.spmd_text.specs.declared.piece.Token.{Token}
use Rattle.spmd_text.specs.parts.Reading.{Finds, Sticks, first_noted}
use Rattle.spmd_text.specs.parts.Parts.{SyntaxPart, HasRead}
use Rattle.spmd_text.specs.parts.Statements.{MakesOrLacksMemory}
use Rattle.spmd_text.specs.Statements.{line_of_first_piece}
use Rattle.spmd_text.specs.parts.Lines as lines
use Rattle.spmd_text.specs.parts.Lines.{IsStuckAt, Level, Steps, TellsLine, has_text_end}
use Rattle.spmd_text.specs.Lines.{closes, is_line}
use Rattle.spmd_text.proofs.Framing.{longer_line, open_piece}
use Rattle.spmd_text.proofs.LineEnds.{end_before, runs_end}
use Rattle.spmd_text.proofs.LineKinds.{ByKind, Kind, by_kind, kind_at}
use Rattle.spmd_text.proofs.Parts.{none_some}
use Rattle.spmd_text.proofs.TreeLines.{RunsTo, runs_on}

pub never_true : false ≡ true → ⊥
never_true e = cc

-- the innermost levels are the same
pub first_same : (l m : Level) (ls ms : List Level) → l ∷ ls ≡ m ∷ ms → l ≡ m
first_same l m ls ms e = cc

-- ---- the first line

pub record FirstLine (here : List Token) : Type 0 where
  pub line : List Token
  pub beyond : List Token
  pub split : here ≡ line ++ beyond
  pub one : is_line line ≡ true
  pub kind : kind_at line ≡ kind_at here
  pub number : line_of_first_piece here ≡ line_of_first_piece line

pub first_line : (here : List Token) → has_text_end here ≡ true → FirstLine here
first_line [] ended = absurd (let never : false ≡ true = ended in cc)
first_line (t ∷ ts) ended = by_first (closes t.piece) refl (λ e. first_line ts e)
  where
    by_first : (b : Bool) → closes t.piece ≡ b → (has_text_end ts ≡ true → FirstLine ts) → FirstLine (t ∷ ts)
    by_first true is further = record { line = t ∷ []; beyond = ts; split = refl; one = is; kind = refl; number = refl }
    by_first false is further =
        let more = further (sym (ap (λ (b : Bool). b || has_text_end ts) (open_piece t.piece is)) ∙ ended) in
        record {
          line = t ∷ more.line;
          beyond = more.beyond;
          split = ap (λ (xs : List Token). t ∷ xs) more.split;
          one = longer_line t is more.line more.one;
          kind = refl;
          number = refl;
        }

-- ---- stuck

-- no line of the kind that its first piece tells may stand at these levels
pub stuck_here : (kind : Kind) (levels : List Level) (here : List Token) (number : ℕ) → has_text_end here ≡ true → kind_at here ≡ kind → number ≡ line_of_first_piece here
    → ((line beyond : List Token) (next : List Level) → here ≡ line ++ beyond → ByKind kind levels line next → ⊥) → IsStuckAt levels here number
stuck_here kind levels here number ended is told never = record {
  before = [];
  bad = f.line;
  beyond = f.beyond;
  reached = levels;
  split = f.split;
  runs = lines.done refl refl;
  one = f.one;
  stuck = λ next steps. never f.line f.beyond next f.split (subst (λ (k : Kind). ByKind k levels f.line next) (f.kind ∙ is) (by_kind levels f.line next steps));
  told = told ∙ f.number;
}
  where
    f : FirstLine here
    f = first_line here ended

pub stuck_behind : {a b : List Level} {here mid : List Token} {number : ℕ} → RunsTo a b here mid → IsStuckAt b mid number → IsStuckAt a here number
stuck_behind {a} {b} {here} {mid} {number} r s = record {
  before = r.read ++ s.before;
  bad = s.bad;
  beyond = s.beyond;
  reached = s.reached;
  split = r.split ∙ (ap (λ (xs : List Token). r.read ++ xs) s.split
      ∙ (sym (append_assoc r.read (s.before ++ s.bad) s.beyond) ∙ ap (λ (xs : List Token). xs ++ s.beyond) (sym (append_assoc r.read s.before s.bad))));
  runs = runs_on r.read s.before r.runs s.runs;
  one = s.one;
  stuck = s.stuck;
  told = s.told;
}

pub text_end_on : {a : List Level} {level : Level} {outer : List Level} {here mid : List Token} → RunsTo a (level ∷ outer) here mid → has_text_end here ≡ true → has_text_end mid ≡ true
text_end_on {a} {level} {outer} {here} {mid} r ended = sym (end_before r.read mid (runs_end r.runs)) ∙ (sym (ap has_text_end r.split) ∙ ended)

-- one line that may stand here
pub one_line : {a b : List Level} {here rest : List Token} (line : List Token) → here ≡ line ++ rest → Steps a line b → RunsTo a b here rest
one_line {a} {b} {here} {rest} line split steps = record {
  read = line;
  split = split;
  runs = lines.more (record { line = line; rest = []; next = b; split = sym (append-nil line); steps = steps }) (lines.done refl refl);
}

pub runs_nowhere : (a : List Level) (here : List Token) → RunsTo a a here here
runs_nowhere a here = record { read = []; split = refl; runs = lines.done refl refl }

-- ---- told

pub some_why : (a b : ParseReason) → Some a ≡ Some b → a ≡ b
some_why a b e = cc

-- where a fault of the grammar came up, no tree of the part stands
pub none_found : {X : Type 0} {part : SyntaxPart X} {old new : Parser} {a : X} → HasRead part old new a → (why : ParseReason) → old.fault ≡ None → new.fault ≡ Some why → (why ≡ Memory → ⊥)
    → (x : X) (rest : List Token) → part.behind x (Some old.rest.now) ≡ Some rest → part.May x → part.ends rest ≡ true → ⊥
none_found {X} {part} {old} {new} {a} r why sound wrong other x rest e may ends = by_found (r.finds x rest sound e may ends)
  where
    by_found : Finds new rest (part.Same a x) → ⊥
    by_found (inl memory) = other (some_why why Memory (sym wrong ∙ memory))
    by_found (inr (there, same)) = none_some why (sym there.sound ∙ wrong)

pub tells_here : (kind : Kind) (levels : List Level) (old new : Parser) (here : List Token) (number : ℕ) → kind_at here ≡ kind → (old.fault ≡ None → number ≡ line_of_first_piece here)
    → ((why : ParseReason) → old.fault ≡ None → new.fault ≡ Some why → (why ≡ Memory → ⊥) → (line beyond : List Token) (next : List Level) → here ≡ line ++ beyond → ByKind kind levels line next → ⊥)
    → TellsLine levels old new here number
tells_here kind levels old new here number is told never why sound wrong other ended =
    stuck_here kind levels here number ended is (told sound) (never why sound wrong other)

-- where nothing is wrong so far, lines were read, and what is wrong behind them is told
pub record GoesOn (levels : List Level) (mid new : Parser) (here : List Token) (number : ℕ) : Type 0 where
  pub level : Level
  pub outer : List Level
  pub there : List Token
  pub runs : RunsTo levels (level ∷ outer) here there
  pub tells : TellsLine (level ∷ outer) mid new there number

-- a fault came up before, or comes up now
pub tells_then : {levels : List Level} (old : Parser) {mid new : Parser} {here : List Token} {n m : ℕ} → TellsLine levels old mid here n → Sticks mid new
    → ((why : ParseReason) → mid.fault ≡ Some why → m ≡ n) → (mid.fault ≡ None → GoesOn levels mid new here m) → TellsLine levels old new here m
tells_then {levels} old {mid} {new} {here} {n} {m} before sticks stays on why sound wrong other ended = by_fault mid.fault refl
  where
    by_fault : (f : Option ParseReason) → mid.fault ≡ f → IsStuckAt levels here m
    by_fault None e = let g = on e in stuck_behind g.runs (g.tells why e wrong other (text_end_on g.runs ended))
    by_fault (Some w) e =
        subst (λ (k : ℕ). IsStuckAt levels here k) (sym (stays w e))
        (before w sound e (λ f. other (some_why why w (sym wrong ∙ sticks w e) ∙ f)) ended)

-- want of memory is no fault of the grammar
pub tells_made : {levels : List Level} (old : Parser) {mid new : Parser} {here : List Token} {n : ℕ} {Made : Type 0} → TellsLine levels old mid here n → MakesOrLacksMemory mid new Made → TellsLine levels old new here n
tells_made {levels} old {mid} {new} {here} {n} {Made} before makes why sound wrong other ended = before why sound (mid_wrong makes) other ended
  where
    of_noted : (f : Option ParseReason) → first_noted f Memory ≡ Some why → f ≡ Some why
    of_noted None e = absurd (other (sym (some_why Memory why e)))
    of_noted (Some first) e = e

    mid_wrong : MakesOrLacksMemory mid new Made → mid.fault ≡ Some why
    mid_wrong (inl (same, made)) = sym (ap (λ (s : Parser). s.fault) same) ∙ wrong
    mid_wrong (inr e) = of_noted mid.fault (sym (ap (λ (s : Parser). s.fault) e) ∙ wrong)

pub tells_none : (levels : List Level) (old new : Parser) (here : List Token) (n : ℕ) → new.fault ≡ old.fault → TellsLine levels old new here n
tells_none levels old new here n same why sound wrong other ended = absurd (none_some why (sym sound ∙ (sym same ∙ wrong)))

-- The lines that statements are written as may stand one after another where the statements may.
use Rattle.std.proofs.Common.{◌≡◌, ℕ, ◌-◌, pos, Bool, true, false, not, ◌&&◌, List, [], ◌∷◌, ◌++◌, Some, None, refl, ap, sym, subst, ◌∙◌, if◌then◌else◌}
use Rattle.std.proofs.lemmas.Bool.{false≢true}
use Rattle.std.proofs.lemmas.List.{append_assoc, append-nil}
use Rattle.std.proofs.lemmas.Option.{same_Some}
use Rattle.spmd_tree.specs.declared.tree.Expression.{Expression}
use Rattle.spmd_tree.specs.declared.tree.SpmdStatement.{SpmdStatement}
use Rattle.spmd_tree.specs.declared.tree.SpmdStatement.TheVariants as statement
use Rattle.spmd_text.specs.declared.calls.Form.{Form}
use Rattle.spmd_text.specs.declared.lines.Span.{Span}
use Rattle.spmd_text.specs.declared.piece.Word.{Word}
use Rattle.spmd_text.specs.declared.piece.Word.TheVariants as word
use Rattle.spmd_text.specs.declared.piece.Piece.TheVariants as piece
use Rattle.spmd_text.specs.declared.piece.Token.{Token}
use Rattle.spmd_text.specs.parts.Joints.{Place}
use Rattle.spmd_text.specs.Spelling.{Rest, after_piece, after_end, after_head, after_span, after_statement, after_variable, call_word, is_branch, is_tail}
use Rattle.spmd_text.specs.parts.Parts.{syntax_form, form_of_call}
use Rattle.spmd_text.specs.parts.Statements.{MayStatements, MayTail, first_word, is_one, is_simple}
use Rattle.spmd_text.specs.Statements.{Obeys, Scope, within_loop}
use Rattle.spmd_text.specs.parts.Lines.{Block, Level, Runs, Steps, behind_one, branch, chained, done, end, is_inner, is_open_tail, is_settled, last, loop, more, otherwise, plain, repeat, settled, simple, start, takes_statement, when}
use Rattle.spmd_text.proofs.BlockForms.{not_so}
use Rattle.spmd_text.proofs.BlockWords.{end_strict, statement_strict}
use Rattle.spmd_text.proofs.Following.{and_left, and_right}
use Rattle.spmd_text.proofs.NoStar.{left_before, only_left}
use Rattle.spmd_text.proofs.Starts.{form_of_word}
use Rattle.spmd_text.proofs.WholeLines.{Alone, IsLineTaker, else_line, end_line, head_line, loop_line, simple_line}

-- these pieces begin with lines that lead from levels to others
pub record RunsTo (levels next : List Level) (here rest : List Token) : Type 0 where
  pub read : List Token
  pub split : here ≡ read ++ rest
  pub runs : Runs next levels read

runs_append : {b c a : List Level} (xs ys : List Token) → Runs b a xs → Runs c b ys → Runs c a (xs ++ ys)
runs_append {b} {c} {a} xs ys (done here none) other =
    subst (λ (l : List Level). Runs c l (xs ++ ys)) (sym here) (subst (λ (zs : List Token). Runs c b (zs ++ ys)) (sym none) other)
runs_append {b} {c} {a} xs ys (more one others) other =
    more
    (record {
      line = one.line;
      rest = one.rest ++ ys;
      next = one.next;
      split = ap (λ (zs : List Token). zs ++ ys) one.split ∙ append_assoc one.line one.rest ys;
      steps = one.steps;
    })
    (runs_append one.rest ys others other)

pub runs_on : {a b c : List Level} (xs ys : List Token) → Runs b a xs → Runs c b ys → Runs c a (xs ++ ys)
runs_on {a} {b} {c} xs ys one other = runs_append xs ys one other

pub runs_to_on : {a b c : List Level} {here mid rest : List Token} → RunsTo a b here mid → RunsTo b c mid rest → RunsTo a c here rest
runs_to_on {a} {b} {c} {here} {mid} {rest} one other = record {
  read = one.read ++ other.read;
  split = one.split ∙ (ap (λ (zs : List Token). one.read ++ zs) other.split ∙ sym (append_assoc one.read other.read rest));
  runs = runs_on one.read other.read one.runs other.runs;
}

-- no line
runs_nowhere : (levels : List Level) (here rest : List Token) → Some here ≡ Some rest → RunsTo levels levels here rest
runs_nowhere levels here rest e = record { read = []; split = same_Some here rest e; runs = done refl refl }

-- one line
runs_one : {f : Rest → Rest} {levels next : List Level} {here rest : List Token} → IsLineTaker f → f (Some here) ≡ Some rest
    → ((line : List Token) → f (Some line) ≡ Some [] → Steps levels line next) → RunsTo levels next here rest
runs_one {f} {levels} {next} {here} {rest} takes_one e steps =
    let a : Alone f here rest = takes_one.alone here rest e in
    record {
      read = a.line;
      split = a.split;
      runs = more (record { line = a.line; rest = []; next = next; split = sym (append-nil a.line); steps = steps a.line a.spelled }) (done refl refl);
    }

abbrev pub block_behind : SpmdStatement → Block
block_behind s = if is_open_tail s then branch else last

-- what stands behind the statements of a branch leads to a branch, or to the last one
pub record TailRuns (scope : Scope) (depth : ℕ) (outer : List Level) (s : SpmdStatement) (here rest : List Token) : Type 0 where
  pub level : Level
  pub kind : level.block ≡ block_behind s
  pub runs : RunsTo (record { block = branch; scope = scope; depth = depth } ∷ outer) (level ∷ outer) here rest

-- ---- where statements stand

settled_same : (b : Block) → is_settled b ≡ true → settled b ≡ b
settled_same plain e = refl
settled_same loop e = refl
settled_same branch e = refl
settled_same last e = refl
settled_same b e = absurd (false≢true e)

settled_takes : (b : Block) → is_settled b ≡ true → takes_statement b ≡ true
settled_takes start e = absurd (false≢true e)
settled_takes b e = refl

open_inner : (b : Bool) → is_inner (if b then branch else last) ≡ true
open_inner true = refl
open_inner false = refl

simple_by : (w : Word) (f : Form) → syntax_form w ≡ Some f → is_simple w ≡ true
simple_by word.For f e = absurd (let never : None ≡ Some f = e in cc)
simple_by word.If f e = absurd (let never : None ≡ Some f = e in cc)
simple_by word.Elif f e = absurd (let never : None ≡ Some f = e in cc)
simple_by word.Else f e = absurd (let never : None ≡ Some f = e in cc)
simple_by w f e = refl

abbrev level_of : Block → Scope → ℕ → Level
level_of block scope depth = record { block = block; scope = scope; depth = depth }

behind_same : (block : Block) (scope : Scope) (depth : ℕ) (outer : List Level) → is_settled block ≡ true
    → level_of block scope depth ∷ outer ≡ behind_one (level_of block scope depth) ∷ outer
behind_same block scope depth outer is = ap (λ (b : Block). level_of b scope depth ∷ outer) (sym (settled_same block is))

-- ---- statements, and what stands behind those of a branch

abbrev Leads : SpmdStatement → Type 0
Leads s = (block : Block) (scope : Scope) (depth : ℕ) (outer : List Level) (here rest : List Token) → is_settled block ≡ true → MayStatements scope depth s
    → after_statement s (Some here) ≡ Some rest → RunsTo (level_of block scope depth ∷ outer) (level_of block scope depth ∷ outer) here rest

abbrev TailLeads : SpmdStatement → Type 0
TailLeads s = (scope : Scope) (depth : ℕ) (outer : List Level) (here rest : List Token) → MayTail scope depth s → after_statement s (Some here) ≡ Some rest
    → TailRuns scope depth outer s here rest

simple_leads : (s : SpmdStatement) → is_one s ≡ true → is_simple (first_word s) ≡ true → Leads s
simple_leads s one is_so block scope depth outer here rest is may e =
    runs_one (simple_line s one is_so) e
    (λ line f.
    simple
    (record {
      level = level_of block scope depth;
      outer = outer;
      here = refl;
      begun = settled_takes block is;
      statement = s;
      simple = is_so;
      may = record { one = one; plain = may.plain; obeys = may.obeys };
      spelled = f;
      is = behind_same block scope depth outer is;
    }))

end_leads : (level : Level) (outer : List Level) (here rest : List Token) → is_inner level.block ≡ true → after_end false (Some here) ≡ Some rest
    → RunsTo (level ∷ outer) outer here rest
end_leads level outer here rest inner e =
    runs_one end_line e (λ line f. end (record { level = level; outer = outer; here = refl; inner = inner; spelled = f; is = refl }))

-- two statements
pair_leads : (p q : Place) (a b : SpmdStatement) → Leads a → Leads b → Leads (statement.Sequence' p a q b)
pair_leads p q a b one two block scope depth outer here rest is may e =
    let o = only_left (not (is_branch a) && not (is_branch b)) (after_statement b (after_statement a (Some here))) rest e in
    let m = left_before (after_statement b) (statement_strict b) (after_statement a (Some here)) rest o.1 in
    runs_to_on
    (one block scope depth outer here m.0 is (record { plain = not_so (is_branch a) (and_left (not (is_branch a)) (not (is_branch b)) o.0); obeys = may.obeys.0 }) m.1)
    (two block scope depth outer m.0 rest is (record { plain = not_so (is_branch b) (and_right (not (is_branch a)) (not (is_branch b)) o.0); obeys = may.obeys.1 })
    (ap (after_statement b) (sym m.1) ∙ o.1))

loop_leads : (line name : ℕ) (span : Span) (p : Place) (a : SpmdStatement) → Leads a → Leads (statement.Repeat' line name span.first span.last span.step p a)
loop_leads line name span p a inside block scope depth outer here rest is may e =
    let level : Level = level_of block scope depth in
    let head : Rest = after_span span.first span.last (pos span.step) (after_variable line word.For name (Some here)) in
    let o = only_left (not (is_branch a)) (after_end false (after_statement a head)) rest e in
    let ended = left_before (after_end false) (end_strict false) (after_statement a head) rest o.1 in
    let begun = left_before (after_statement a) (statement_strict a) head ended.0 ended.1 in
    let body : Level = level_of loop (within_loop name scope) (depth - 1) in
    let first : RunsTo (level ∷ outer) (body ∷ level ∷ outer) here begun.0 =
    runs_one (loop_line line name span) begun.1
    (λ ts f.
    repeat
    (record {
      level = level;
      outer = outer;
      here = refl;
      begun = settled_takes block is;
      number = line;
      name = name;
      span = span;
      deep = may.obeys.0;
      free = may.obeys.1;
      may = record { first = may.obeys.2; last = may.obeys.3; step = may.obeys.4 };
      spelled = f;
      is = ap (λ (l : List Level). body ∷ l) (behind_same block scope depth outer is);
    })) in
    runs_to_on first
    (runs_to_on
    (inside loop (within_loop name scope) (depth - 1) (level ∷ outer) begun.0 ended.0 refl (record { plain = not_so (is_branch a) o.0; obeys = may.obeys.5 })
    (ap (after_statement a) (sym begun.1) ∙ ended.1))
    (end_leads body (level ∷ outer) ended.0 rest refl (ap (after_end false) (sym ended.1) ∙ o.1)))

-- a branch up to its end
record BranchRuns (levels outer : List Level) (is_chained : Bool) (b : SpmdStatement) (here rest : List Token) : Type 0 where
  before : List Token
  ended : after_end is_chained (Some before) ≡ Some rest
  level : Level
  kind : level.block ≡ block_behind b
  runs : RunsTo levels (level ∷ outer) here before

branch_leads : (line : ℕ) (is_chained : Bool) (c : Expression) (p q : Place) (a b : SpmdStatement) → Leads a → TailLeads b
    → (levels : List Level) (scope : Scope) (depth : ℕ) (outer : List Level) (here rest : List Token)
    → ((ts : List Token) → after_head line is_chained c (Some ts) ≡ Some [] → Steps levels ts (level_of branch scope depth ∷ outer))
    → Obeys scope depth a → Obeys scope depth b → after_statement (statement.When' line is_chained c p a q b) (Some here) ≡ Some rest
    → BranchRuns levels outer is_chained b here rest
branch_leads line is_chained c p q a b inside behind levels scope depth outer here rest step may_a may_b e =
    let head : Rest = after_head line is_chained c (Some here) in
    let o = only_left (not (is_branch a) && is_tail b) (after_end is_chained (after_statement b (after_statement a head))) rest e in
    let ended = left_before (after_end is_chained) (end_strict is_chained) (after_statement b (after_statement a head)) rest o.1 in
    let tail = left_before (after_statement b) (statement_strict b) (after_statement a head) ended.0 ended.1 in
    let begun = left_before (after_statement a) (statement_strict a) head tail.0 tail.1 in
    let others : TailRuns scope depth outer b tail.0 ended.0 =
    behind scope depth outer tail.0 ended.0 (record { tail = and_right (not (is_branch a)) (is_tail b) o.0; obeys = may_b })
    (ap (after_statement b) (sym tail.1) ∙ ended.1) in
    record {
      before = ended.0;
      ended = ap (after_end is_chained) (sym ended.1) ∙ o.1;
      level = others.level;
      kind = others.kind;
      runs =
          runs_to_on {c = others.level ∷ outer} (runs_one (head_line line is_chained c) begun.1 step)
          (runs_to_on {c = others.level ∷ outer}
          (inside branch scope depth outer begun.0 tail.0 refl
          (record { plain = not_so (is_branch a) (and_left (not (is_branch a)) (is_tail b) o.0); obeys = may_a })
          (ap (after_statement a) (sym begun.1) ∙ tail.1))
          others.runs);
    }

if_leads : (line : ℕ) (c : Expression) (p q : Place) (a b : SpmdStatement) → Leads a → TailLeads b → Leads (statement.When' line false c p a q b)
if_leads line c p q a b inside behind block scope depth outer here rest is may e =
    let level : Level = level_of block scope depth in
    let whole : BranchRuns (level ∷ outer) (level ∷ outer) false b here rest =
    branch_leads line false c p q a b inside behind (level ∷ outer) scope (depth - 1) (level ∷ outer) here rest
    (λ ts f.
    when
    (record {
      level = level;
      outer = outer;
      here = refl;
      begun = settled_takes block is;
      number = line;
      condition = c;
      deep = may.obeys.0;
      within = may.obeys.1;
      spelled = f;
      is = ap (λ (l : List Level). level_of branch scope (depth - 1) ∷ l) (behind_same block scope depth outer is);
    }))
    may.obeys.2 may.obeys.3 e in
    runs_to_on whole.runs (end_leads whole.level (level ∷ outer) whole.before rest (ap is_inner whole.kind ∙ open_inner (is_open_tail b)) whole.ended)

elif_leads : (line : ℕ) (c : Expression) (p q : Place) (a b : SpmdStatement) → Leads a → TailLeads b → TailLeads (statement.When' line true c p a q b)
elif_leads line c p q a b inside behind scope depth outer here rest may e =
    let level : Level = level_of branch scope depth in
    let whole : BranchRuns (level ∷ outer) outer true b here rest =
    branch_leads line true c p q a b inside behind (level ∷ outer) scope (depth - 1) outer here rest
    (λ ts f.
    chained
    (record {
      level = level;
      outer = outer;
      here = refl;
      open_branch = refl;
      number = line;
      condition = c;
      deep = may.obeys.0;
      within = may.obeys.1;
      spelled = f;
      is = refl;
    }))
    may.obeys.2 may.obeys.3 e in
    record { level = whole.level; kind = whole.kind; runs = runs_to_on whole.runs (runs_nowhere (whole.level ∷ outer) whole.before rest whole.ended) }

else_leads : (p : Place) (a : SpmdStatement) → Leads a → TailLeads (statement.Otherwise' p a)
else_leads p a inside scope depth outer here rest may e =
    let level : Level = level_of branch scope depth in
    let head : Rest = after_piece piece.LineEnd (after_piece (piece.Word word.Else) (Some here)) in
    let o = only_left (not (is_branch a)) (after_statement a head) rest e in
    let begun = left_before (after_statement a) (statement_strict a) head rest o.1 in
    record {
      level = level_of last scope depth;
      kind = refl;
      runs =
          runs_to_on
          (runs_one else_line begun.1 (λ ts f. otherwise (record { level = level; outer = outer; here = refl; open_branch = refl; spelled = f; is = refl })))
          (inside last scope depth outer begun.0 rest refl (record { plain = not_so (is_branch a) o.0; obeys = may.obeys }) (ap (after_statement a) (sym begun.1) ∙ o.1));
    }

no_tail : (s : SpmdStatement) → is_tail s ≡ false → TailLeads s
no_tail s none scope depth outer here rest may e = absurd (false≢true (sym none ∙ may.tail))

no_statement : (s : SpmdStatement) → is_branch s ≡ true → Leads s
no_statement s is_so block scope depth outer here rest is may e = absurd (false≢true (sym may.plain ∙ is_so))

leads : (s : SpmdStatement) → Leads s × TailLeads s
unfolding is_tail
leads statement.Nothing = (
  λ block scope depth outer here rest is may e. runs_nowhere (level_of block scope depth ∷ outer) here rest e,
  λ scope depth outer here rest may e.
      record { level = level_of branch scope depth; kind = refl; runs = runs_nowhere (level_of branch scope depth ∷ outer) here rest e },
)
leads (statement.Sequence' p a q b) = (pair_leads p q a b (leads a).0 (leads b).0, no_tail (statement.Sequence' p a q b) refl)
leads (statement.Parameter line name e) = (λ block scope depth outer here rest is may f. absurd may.obeys, no_tail (statement.Parameter line name e) refl)
leads (statement.Assign line name e) = (simple_leads (statement.Assign line name e) refl refl, no_tail (statement.Assign line name e) refl)
leads (statement.When' line true c p a q b) = (no_statement (statement.When' line true c p a q b) refl, elif_leads line c p q a b (leads a).0 (leads b).1)
leads (statement.When' line false c p a q b) = (if_leads line c p q a b (leads a).0 (leads b).1, no_tail (statement.When' line false c p a q b) refl)
leads (statement.Otherwise' p a) = (no_statement (statement.Otherwise' p a) refl, else_leads p a (leads a).0)
leads (statement.Repeat' line name low high step p a) =
    (loop_leads line name (record { first = low; last = high; step = step }) p a (leads a).0, no_tail (statement.Repeat' line name low high step p a) refl)
leads (statement.Call line c) =
    (simple_leads (statement.Call line c) refl (simple_by (call_word c) (form_of_call c) (form_of_word c)), no_tail (statement.Call line c) refl)
leads (statement.WaitAll line requests) = (simple_leads (statement.WaitAll line requests) refl refl, no_tail (statement.WaitAll line requests) refl)
leads (statement.Unreached line) = (simple_leads (statement.Unreached line) refl refl, no_tail (statement.Unreached line) refl)

-- statements lead back to where they began
pub statements_run : (s : SpmdStatement) (block : Block) (scope : Scope) (depth : ℕ) (outer : List Level) (here rest : List Token) → is_settled block ≡ true → MayStatements scope depth s
    → after_statement s (Some here) ≡ Some rest
    → RunsTo (record { block = block; scope = scope; depth = depth } ∷ outer) (record { block = block; scope = scope; depth = depth } ∷ outer) here rest
statements_run s block scope depth outer here rest is may e = (leads s).0 block scope depth outer here rest is may e

pub tail_runs : (s : SpmdStatement) (scope : Scope) (depth : ℕ) (outer : List Level) (here rest : List Token) → MayTail scope depth s → after_statement s (Some here) ≡ Some rest
    → TailRuns scope depth outer s here rest
tail_runs s scope depth outer here rest may e = (leads s).1 scope depth outer here rest may e

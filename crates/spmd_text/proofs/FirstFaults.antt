-- A text that can be read is lines that may stand one after another: so the line where none may
-- stand is the first that is wrong.
use Rattle.std.proofs.Common.{◌≡◌, ℕ, ◌≤◌, Bool, true, false, not, ◌&&◌, List, [], ◌∷◌, ◌++◌, Some, refl, ap, sym, subst, ◌∙◌}
use Rattle.std.proofs.lemmas.List.{append_assoc, append-nil}
use Rattle.std.proofs.lemmas.Option.{same_Some}
use Rattle.std.specs.Global.{Vec}
use Rattle.spmd_tree.specs.declared.tree.SpmdStatement.{SpmdStatement}
use Rattle.spmd_tree.specs.declared.tree.SpmdStatement.TheVariants as statement
use Rattle.spmd_text.specs.declared.piece.Word.TheVariants as word
use Rattle.spmd_text.specs.declared.piece.Piece.TheVariants as piece
use Rattle.spmd_text.specs.declared.piece.Token.{Token}
use Rattle.spmd_text.specs.declared.reading.SpmdPolicy.{SpmdPolicy}
use Rattle.spmd_text.specs.parts.Joints.{Place}
use Rattle.spmd_text.specs.Limits.{IsTreeWithin}
use Rattle.spmd_text.specs.Spelling.{Rest, after_piece, after_policy, after_statement, after_text, piece_begins, is_any, is_branch, is_ordered, only, word_of_policy}
use Rattle.spmd_text.specs.parts.Statements.{MayOne, MaySpan, MayStatements}
use Rattle.spmd_text.specs.Statements.{Scope, may_give}
use Rattle.spmd_text.specs.Programs.{ObeyParameters, ObeysText, behind_parameters, parameters_of}
use Rattle.spmd_text.specs.FirstFaults.{IsFirstWrongLine}
use Rattle.spmd_text.specs.parts.Lines.{Block, IsStuckAt, Level, Moves, Runs, Steps, begin, behind_one, in_block, in_loop, is_inner, lists, settled, takes_statement, with_block}
use Rattle.spmd_text.specs.Lines.{are_lines, closes, is_line}
use Rattle.spmd_text.specs.parts.Lines as lines
use Rattle.spmd_text.proofs.BlockForms.{not_so}
use Rattle.spmd_text.proofs.BlockWords.{statement_strict}
use Rattle.spmd_text.proofs.Closings.{begins_readable}
use Rattle.spmd_text.proofs.Following.{and_right}
use Rattle.spmd_text.proofs.LeftOut.{chosen, not_chosen, policy_line_strict}
use Rattle.spmd_text.proofs.LineKinds.{line_same, runs_same, step_is_line}
use Rattle.spmd_text.proofs.NoStar.{left_before, only_left}
use Rattle.spmd_text.proofs.OtherNames.{all_renamed, alike_first, alike_second, runs_alike, stuck_alike}
use Rattle.spmd_text.proofs.TreeLines.{RunsTo, runs_on, runs_to_on, statements_run}
use Rattle.spmd_text.proofs.WholeLines.{heading_line, parameter_line, policy_line}

-- ---- lines

line_before : (a b : List Token) → is_line a ≡ true → are_lines b ≡ true → are_lines (a ++ b) ≡ true
line_before [] b one others = absurd (let never : false ≡ true = one in cc)
line_before (t ∷ []) [] one others = one
line_before (t ∷ []) (u ∷ b) one others = others
line_before (t ∷ u ∷ a) b one others = line_before (u ∷ a) b (and_right (not (closes t.piece)) (is_line (u ∷ a)) one) others

runs_lines : (reached levels : List Level) (pieces : List Token) → Runs reached levels pieces → are_lines pieces ≡ true
runs_lines reached levels pieces (lines.done is none) = ap are_lines none
runs_lines reached levels pieces (lines.more m r) =
    ap are_lines m.split ∙ line_before m.line m.rest (step_is_line levels m.line m.next m.steps) (runs_lines reached m.next m.rest r)

-- ---- from the beginning of a text on

one_step : (levels next : List Level) (line here rest : List Token) → here ≡ line ++ rest → Steps levels line next → RunsTo levels next here rest
one_step levels next line here rest e s = record {
  read = line;
  split = e;
  runs = lines.more (record { line = line; rest = []; next = next; split = sym (append-nil line); steps = s }) (lines.done refl refl);
}

no_step : (levels : List Level) (here : List Token) → RunsTo levels levels here here
no_step levels here = record { read = []; split = refl; runs = lines.done refl refl }

-- one level, in no block
abbrev pub only_level : Block → Scope → ℕ → List Level
only_level b scope depth = record { block = b; scope = scope; depth = depth } ∷ []

-- up to where a parameter may stand
pub record RunsEarly (b : Block) (scope after_piece : Scope) (depth : ℕ) (here rest : List Token) : Type 0 where
  pub block : Block
  pub early : lists block ≡ true
  -- right behind the heading nothing was read
  pub kept : block ≡ lines.headed → (b ≡ lines.headed) × (here ≡ rest)
  pub runs : RunsTo (only_level b scope depth) (only_level block after_piece depth) here rest

-- where no line of the policy was read, none stands here
pub record PolicyRuns (scope : Scope) (depth : ℕ) (here rest : List Token) : Type 0 where
  pub runs : RunsEarly lines.headed scope scope depth here rest
  pub unsaid : runs.block ≡ lines.headed → piece_begins (piece.Word word.Policy) (Some rest) ≡ false

pub heading_runs : (scope : Scope) (depth : ℕ) (here rest : List Token) → after_piece piece.LineEnd (after_piece (piece.Word word.Spmd) (Some here)) ≡ Some rest
    → RunsTo (only_level lines.start scope depth) (only_level lines.headed scope depth) here rest
heading_runs scope depth here rest e =
    let a = heading_line.alone here rest e in
    one_step (only_level lines.start scope depth) (only_level lines.headed scope depth) a.line here rest a.split
    (lines.heading (record { level = record { block = lines.start; scope = scope; depth = depth }; outer = []; here = refl; first = refl; spelled = a.spelled; is = refl }))

pub policy_runs : (p : SpmdPolicy) (scope : Scope) (depth : ℕ) (here rest : List Token) → after_policy p (Some here) ≡ Some rest → PolicyRuns scope depth here rest
policy_runs p scope depth here rest e = by (piece_begins (piece.Word word.Policy) (Some here)) refl
  where
    by : (b : Bool) → piece_begins (piece.Word word.Policy) (Some here) ≡ b → PolicyRuns scope depth here rest
    by true is =
        let a = (policy_line p).alone here rest (sym (chosen (piece_begins (piece.Word word.Policy) (Some here)) (after_piece piece.LineEnd (after_piece (piece.Word (word_of_policy p)) (after_piece (piece.Word word.Policy) (Some here)))) (only (is_any p) (Some here)) is) ∙ e) in
        record {
          runs = record {
            block = lines.listed;
            early = refl;
            kept = λ f. absurd (let never : lines.listed ≡ lines.headed = f in cc);
            runs = one_step (only_level lines.headed scope depth) (only_level lines.listed scope depth) a.line here rest a.split
                (lines.policy (record { level = record { block = lines.headed; scope = scope; depth = depth }; outer = []; here = refl; second = refl; policy = p; spelled = a.spelled; is = refl }));
          };
          unsaid = λ f. absurd (let never : lines.listed ≡ lines.headed = f in cc);
        }
    by false is =
        let o = only_left (is_any p) (Some here) rest (sym (not_chosen (piece_begins (piece.Word word.Policy) (Some here)) (after_piece piece.LineEnd (after_piece (piece.Word (word_of_policy p)) (after_piece (piece.Word word.Policy) (Some here)))) (only (is_any p) (Some here)) is) ∙ e) in
        let same : here ≡ rest = same_Some here rest o.1 in
        record {
          runs = record {
            block = lines.headed;
            early = refl;
            kept = λ f. (refl, same);
            runs = subst (λ (xs : List Token). RunsTo (only_level lines.headed scope depth) (only_level lines.headed scope depth) here xs) same (no_step (only_level lines.headed scope depth) here);
          };
          unsaid = λ f. ap (λ (xs : List Token). piece_begins (piece.Word word.Policy) (Some xs)) (sym same) ∙ is;
        }

abbrev pub grown : List ℕ → Scope → Scope
grown names scope = record { in_parameter = scope.in_parameter; names = scope.names; parameters = scope.parameters ++ names; loops = scope.loops }

unfoldable pub with_parameters : Scope → List ℕ → Scope
with_parameters scope ps = record { in_parameter = scope.in_parameter; names = scope.names; parameters = ps; loops = scope.loops }

pub parameters_run : (s : SpmdStatement) (b : Block) (scope : Scope) (depth : ℕ) (here rest : List Token) → lists b ≡ true → ObeyParameters scope.parameters s → after_statement s (Some here) ≡ Some rest
    → RunsEarly b scope (grown (parameters_of s) scope) depth here rest
unfolding with_parameters
parameters_run statement.Nothing b scope depth here rest early o e =
    let same : here ≡ rest = same_Some here rest e in
    let scope_so : scope ≡ grown [] scope = ap (with_parameters scope) (sym (append-nil scope.parameters)) in
    record {
      block = b;
      early = early;
      kept = λ f. (f, same);
      runs = subst (λ (c : Scope). RunsTo (only_level b scope depth) (only_level b c depth) here rest) scope_so
          (subst (λ (xs : List Token). RunsTo (only_level b scope depth) (only_level b scope depth) here xs) same (no_step (only_level b scope depth) here));
    }
parameters_run (statement.Sequence' p x q y) b scope depth here rest early o e =
    let f = only_left (not (is_branch x) && not (is_branch y)) (after_statement y (after_statement x (Some here))) rest e in
    let m = left_before (after_statement y) (statement_strict y) (after_statement x (Some here)) rest f.1 in
    let one = parameters_run x b scope depth here m.0 early o.0 m.1 in
    let two = parameters_run y one.block (grown (parameters_of x) scope) depth m.0 rest one.early o.1 (ap (after_statement y) (sym m.1) ∙ f.1) in
    let scope_so : grown (parameters_of y) (grown (parameters_of x) scope) ≡ grown (parameters_of x ++ parameters_of y) scope =
    ap (with_parameters scope) (append_assoc scope.parameters (parameters_of x) (parameters_of y)) in
    record {
      block = two.block;
      early = two.early;
      kept = λ f. let g = two.kept f in let h = one.kept g.0 in (h.0, h.1 ∙ g.1);
      runs = subst (λ (c : Scope). RunsTo (only_level b scope depth) (only_level two.block c depth) here rest) scope_so (runs_to_on one.runs two.runs);
    }
parameters_run (statement.Parameter line name value) b scope depth here rest early o e =
    let a = (parameter_line line name value).alone here rest e in
    record {
      block = lines.listed;
      early = refl;
      kept = λ f. absurd (let never : lines.listed ≡ lines.headed = f in cc);
      runs = one_step (only_level b scope depth) (only_level lines.listed (grown (name ∷ []) scope) depth) a.line here rest a.split
          (lines.parameter (record {
            level = record { block = b; scope = scope; depth = depth };
            outer = [];
            here = refl;
            early = early;
            number = line;
            name = name;
            value = value;
            other = o.0;
            within = o.1;
            spelled = a.spelled;
            is = refl;
          }));
    }
parameters_run (statement.Assign line name v) b scope depth here rest early o e = absurd o
parameters_run (statement.When' line chained c p x q y) b scope depth here rest early o e = absurd o
parameters_run (statement.Otherwise' p x) b scope depth here rest early o e = absurd o
parameters_run (statement.Repeat' line name first final step p x) b scope depth here rest early o e = absurd o
parameters_run (statement.Call line c) b scope depth here rest early o e = absurd o
parameters_run (statement.WaitAll line requests) b scope depth here rest early o e = absurd o
parameters_run (statement.Unreached line) b scope depth here rest early o e = absurd o

-- ---- statements behind the heading and the parameters

lists_takes : (b : Block) → lists b ≡ true → takes_statement b ≡ true
lists_takes lines.headed e = refl
lists_takes lines.listed e = refl
lists_takes lines.start e = absurd (let never : false ≡ true = e in cc)
lists_takes lines.plain e = refl
lists_takes lines.loop e = refl
lists_takes lines.branch e = refl
lists_takes lines.last e = refl

lists_settled : (b : Block) → lists b ≡ true → settled b ≡ lines.plain
lists_settled lines.headed e = refl
lists_settled lines.listed e = refl
lists_settled lines.start e = absurd (let never : false ≡ true = e in cc)
lists_settled lines.plain e = refl
lists_settled lines.loop e = absurd (let never : false ≡ true = e in cc)
lists_settled lines.branch e = absurd (let never : false ≡ true = e in cc)
lists_settled lines.last e = absurd (let never : false ≡ true = e in cc)

pub lists_outermost : (b : Block) → lists b ≡ true → is_inner b ≡ false
lists_outermost lines.headed e = refl
lists_outermost lines.listed e = refl
lists_outermost lines.start e = refl
lists_outermost lines.plain e = refl
lists_outermost lines.loop e = absurd (let never : false ≡ true = e in cc)
lists_outermost lines.branch e = absurd (let never : false ≡ true = e in cc)
lists_outermost lines.last e = absurd (let never : false ≡ true = e in cc)

innermost : (l m : Level) (a b : List Level) → l ∷ a ≡ m ∷ b → (l ≡ m) × (a ≡ b)
innermost l m a b e =
    let same : l ∷ a ≡ m ∷ b = e in (let first : l ≡ m = cc in first, let others : a ≡ b = cc in others)

-- the block of a level that is none of these
not_block : (l m : Level) (a b : List Level) (block : Block) → l ∷ a ≡ m ∷ b → m.block ≡ block → l.block ≡ block
not_block l m a b block e is = ap (λ (x : Level). x.block) (innermost l m a b e).0 ∙ is

-- what may stand behind a statement may stand at its first place
pub step_early : (b : Block) (scope : Scope) (depth : ℕ) (line : List Token) (next : List Level) → lists b ≡ true → Steps (only_level lines.plain scope depth) line next → Steps (only_level b scope depth) line next
step_early b scope depth line next early (lines.heading h) = absurd (let never : lines.plain ≡ lines.start = not_block _ _ _ _ lines.start h.here h.first in cc)
step_early b scope depth line next early (lines.policy h) = absurd (let never : lines.plain ≡ lines.headed = not_block _ _ _ _ lines.headed h.here h.second in cc)
step_early b scope depth line next early (lines.parameter h) =
    absurd (let never : false ≡ true = ap (λ (x : Level). lists x.block) (innermost _ _ _ _ h.here).0 ∙ h.early in cc)
step_early b scope depth line next early (lines.simple h) =
    let i = innermost _ _ _ _ h.here in
    lines.simple (record {
      level = record { block = b; scope = scope; depth = depth };
      outer = [];
      here = refl;
      begun = lists_takes b early;
      statement = h.statement;
      simple = h.simple;
      may = subst (λ (l : Level). MayOne l.scope l.depth h.statement) (sym i.0) h.may;
      spelled = h.spelled;
      is = h.is ∙ (ap (λ (l : Level). behind_one l ∷ h.outer) (sym i.0) ∙ (ap (λ (ls : List Level). record { block = lines.plain; scope = scope; depth = depth } ∷ ls) (sym i.1)
          ∙ ap (λ (c : Block). only_level c scope depth) (sym (lists_settled b early))));
    })
step_early b scope depth line next early (lines.repeat h) =
    let i = innermost _ _ _ _ h.here in
    lines.repeat (record {
      level = record { block = b; scope = scope; depth = depth };
      outer = [];
      here = refl;
      begun = lists_takes b early;
      number = h.number;
      name = h.name;
      span = h.span;
      deep = subst (λ (l : Level). 1 ≤ l.depth) (sym i.0) h.deep;
      free = ap (λ (l : Level). may_give l.scope h.name) i.0 ∙ h.free;
      may = subst (λ (l : Level). MaySpan l.scope.in_parameter h.span) (sym i.0) h.may;
      spelled = h.spelled;
      is = h.is ∙ (ap (λ (l : Level). in_loop h.name l ∷ behind_one l ∷ h.outer) (sym i.0)
          ∙ (ap (λ (ls : List Level). in_loop h.name (record { block = lines.plain; scope = scope; depth = depth }) ∷ record { block = lines.plain; scope = scope; depth = depth } ∷ ls) (sym i.1)
          ∙ ap (λ (c : Block). in_loop h.name (record { block = b; scope = scope; depth = depth }) ∷ only_level c scope depth) (sym (lists_settled b early))));
    })
step_early b scope depth line next early (lines.when h) =
    let i = innermost _ _ _ _ h.here in
    lines.when (record {
      level = record { block = b; scope = scope; depth = depth };
      outer = [];
      here = refl;
      begun = lists_takes b early;
      number = h.number;
      condition = h.condition;
      deep = subst (λ (l : Level). 1 ≤ l.depth) (sym i.0) h.deep;
      within = subst (λ (l : Level). IsTreeWithin 32 l.scope.in_parameter h.condition) (sym i.0) h.within;
      spelled = h.spelled;
      is = h.is ∙ (ap (λ (l : Level). in_block lines.branch l ∷ behind_one l ∷ h.outer) (sym i.0)
          ∙ (ap (λ (ls : List Level). in_block lines.branch (record { block = lines.plain; scope = scope; depth = depth }) ∷ record { block = lines.plain; scope = scope; depth = depth } ∷ ls) (sym i.1)
          ∙ ap (λ (c : Block). in_block lines.branch (record { block = b; scope = scope; depth = depth }) ∷ only_level c scope depth) (sym (lists_settled b early))));
    })
step_early b scope depth line next early (lines.chained h) = absurd (let never : lines.plain ≡ lines.branch = not_block _ _ _ _ lines.branch h.here h.open_branch in cc)
step_early b scope depth line next early (lines.otherwise h) = absurd (let never : lines.plain ≡ lines.branch = not_block _ _ _ _ lines.branch h.here h.open_branch in cc)
step_early b scope depth line next early (lines.end h) =
    absurd (let never : false ≡ true = ap (λ (x : Level). is_inner x.block) (innermost _ _ _ _ h.here).0 ∙ h.inner in cc)
step_early b scope depth line next early (lines.text_end h) = lines.text_end (record {
  level = record { block = b; scope = scope; depth = depth };
  here = refl;
  begun = lists_takes b early;
  outermost = lists_outermost b early;
  spelled = h.spelled;
  is = h.is;
})

runs_early : (b : Block) (scope : Scope) (depth : ℕ) (here : List Token) → lists b ≡ true → Runs [] (only_level lines.plain scope depth) here → Runs [] (only_level b scope depth) here
runs_early b scope depth here early (lines.done is none) = absurd (let never : only_level lines.plain scope depth ≡ [] = is in cc)
runs_early b scope depth here early (lines.more m r) =
    lines.more (record { line = m.line; rest = m.rest; next = m.next; split = m.split; steps = step_early b scope depth m.line m.next early m.steps }) r

text_end_runs : (scope : Scope) (depth : ℕ) (here : List Token) → after_piece piece.TextEnd (Some here) ≡ Some [] → Runs [] (only_level lines.plain scope depth) here
text_end_runs scope depth here e =
    lines.more (record {
      line = here;
      rest = [];
      next = [];
      split = sym (append-nil here);
      steps = lines.text_end (record { level = record { block = lines.plain; scope = scope; depth = depth }; here = refl; begun = refl; outermost = refl; spelled = e; is = refl });
    }) (lines.done refl refl)

runs_from : {a b : List Level} {here rest : List Token} → RunsTo a b here rest → Runs [] b rest → Runs [] a here
runs_from {a} {b} {here} {rest} one others = subst (λ (xs : List Token). Runs [] a xs) (sym one.split) (runs_on one.read rest one.runs others)

-- ---- the whole text

-- what takes what is left takes these pieces
takes_left : (F : Rest → Rest) (z : Rest) (left rest : List Token) → z ≡ Some left → F z ≡ Some rest → F (Some left) ≡ Some rest
takes_left F z left rest is e = ap F (sym is) ∙ e

text_runs : (names : List (Vec ℕ)) (p : SpmdPolicy) (s : SpmdStatement) (here : List Token) → after_text p s (Some here) ≡ Some [] → ObeysText names s → Runs [] (begin names ∷ []) here
text_runs names p (statement.Sequence' q x r y) here e o =
    let s : SpmdStatement = statement.Sequence' q x r y in
    let start : Rest = after_piece piece.LineEnd (after_piece (piece.Word word.Spmd) (Some here)) in
    let whole = only_left (is_ordered s) (after_piece piece.TextEnd (after_statement s (after_policy p start))) [] e in
    let fourth = left_before (after_piece piece.TextEnd) refl (after_statement s (after_policy p start)) [] whole.1 in
    let both = only_left (not (is_branch x) && not (is_branch y)) (after_statement y (after_statement x (after_policy p start))) fourth.0 fourth.1 in
    let third = left_before (after_statement y) (statement_strict y) (after_statement x (after_policy p start)) fourth.0 both.1 in
    let second = left_before (after_statement x) (statement_strict x) (after_policy p start) third.0 third.1 in
    let first = left_before (after_policy p) (policy_line_strict p) start second.0 second.1 in
    let scope : Scope = record { in_parameter = false; names = names; parameters = []; loops = [] } in
    let heads = heading_runs scope 32 here first.0 first.1 in
    let lined = (policy_runs p scope 32 first.0 second.0 (takes_left (after_policy p) start first.0 second.0 first.1 second.1)).runs in
    let listed = parameters_run x lined.block scope 32 second.0 third.0 lined.early o.0 (takes_left (after_statement x) (after_policy p start) second.0 third.0 second.1 third.1) in
    let may : MayStatements (behind_parameters names x) 32 y = record { plain = plain_right x y both.0; obeys = o.1 } in
    let statements = statements_run y lines.plain (behind_parameters names x) 32 [] third.0 fourth.0 refl may (takes_left (after_statement y) (after_statement x (after_policy p start)) third.0 fourth.0 third.1 both.1) in
    let ends = text_end_runs (behind_parameters names x) 32 fourth.0 (takes_left (after_piece piece.TextEnd) (after_statement s (after_policy p start)) fourth.0 [] fourth.1 whole.1) in
    let behind_all = only_level lines.plain (behind_parameters names x) 32 in
    let behind_heads = runs_early listed.block (behind_parameters names x) 32 third.0 listed.early (runs_from {a = behind_all} {b = behind_all} {here = third.0} {rest = fourth.0} statements ends) in
    runs_from {a = only_level lines.start scope 32} {b = only_level lines.headed scope 32} {here = here} {rest = first.0} heads
    (runs_from {a = only_level lines.headed scope 32} {b = only_level lined.block scope 32} {here = first.0} {rest = second.0} lined.runs
    (runs_from {a = only_level lined.block scope 32} {b = only_level listed.block (behind_parameters names x) 32} {here = second.0} {rest = third.0} listed.runs behind_heads))
  where
    plain_right : (a b : SpmdStatement) → (not (is_branch a) && not (is_branch b)) ≡ true → is_branch b ≡ false
    plain_right a b both = not_so (is_branch b) (and_right (not (is_branch a)) (not (is_branch b)) both)
text_runs names p statement.Nothing here e o = absurd o
text_runs names p (statement.Parameter line name v) here e o = absurd o
text_runs names p (statement.Assign line name v) here e o = absurd o
text_runs names p (statement.When' line chained c q x r y) here e o = absurd o
text_runs names p (statement.Otherwise' q x) here e o = absurd o
text_runs names p (statement.Repeat' line name first final step q x) here e o = absurd o
text_runs names p (statement.Call line c) here e o = absurd o
text_runs names p (statement.WaitAll line requests) here e o = absurd o
text_runs names p (statement.Unreached line) here e o = absurd o

none_left : (a b : List Token) → is_line a ≡ true → a ++ b ≡ [] → ⊥
none_left [] b one e = let never : false ≡ true = one in cc
none_left (t ∷ a) b one e = let never : t ∷ a ++ b ≡ [] = e in cc

stuck_behind : (reached : List Level) (bad other : List Token) → is_line bad ≡ true → ((next : List Level) → Steps reached bad next → ⊥) → Runs [] reached (bad ++ other) → ⊥
stuck_behind reached bad other one stuck (lines.done is none) = none_left bad other one none
stuck_behind reached bad other one stuck (lines.more m r) =
    let first = line_same m.line bad m.rest other (step_is_line reached m.line m.next m.steps) one (sym m.split) in
    stuck m.next (subst (λ (xs : List Token). Steps reached xs m.next) first.0 m.steps)

-- The line where none may stand, behind lines that may, is the first that is wrong.
pub first_fault : (at : Place) (names : List (Vec ℕ)) (tokens : List Token) (number : ℕ) → IsStuckAt (begin names ∷ []) tokens number → IsFirstWrongLine names tokens number
first_fault at names tokens number s = record {
  before = s.before;
  bad = s.bad;
  beyond = s.beyond;
  split = s.split;
  whole = runs_lines s.reached (begin names ∷ []) s.before s.runs;
  one = s.one;
  told = s.told;
  some = begins_readable at names s.reached s.before s.runs;
  none = λ others other alike r.
      let runs = runs_alike names others s.reached (begin names ∷ []) s.before (refl, tt) (alike_first names others s.before s.bad alike) s.runs in
      stuck_behind (all_renamed others s.reached) s.bad other s.one
      (stuck_alike names others s.reached s.bad runs.0 (alike_second names others s.before s.bad alike) s.stuck)
      (runs_same (all_renamed others s.reached) (begin others ∷ []) [] s.before (s.bad ++ other) runs.1
      (subst (λ (xs : List Token). Runs [] (begin others ∷ []) xs) (append_assoc s.before s.bad other) (text_runs others r.policy r.program (s.before ++ s.bad ++ other) r.says.spelled r.says.obeys)));
}

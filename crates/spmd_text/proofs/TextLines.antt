-- The lines of a whole text: its heading, its parameters, its statements and its end.
use Rattle.std.proofs.Common.{◌≡◌, ℕ, ◌≤◌, Bool, true, false, not, nat_eq, List, [], ◌∷◌, ◌++◌, Option, Some, None, refl, ap, sym, subst, ◌∙◌, inl, inr}
use Rattle.std.proofs.lemmas.List.{append-nil, append_assoc}
use Rattle.std.proofs.lemmas.Option.{same_Some}
use Rattle.std.specs.List.{list_all}
use Rattle.std.specs.Global.{Vec}
use Rattle.spmd_tree.specs.declared.tree.SpmdStatement.{SpmdStatement}
use Rattle.spmd_tree.specs.declared.tree.SpmdStatement.TheVariants as statement
use Rattle.spmd_text.specs.declared.fault.ParseReason.{ParseReason}
use Rattle.spmd_text.specs.declared.fault.ParseReason.TheVariants.{Memory}
use Rattle.spmd_text.specs.declared.parser.Parser.{Parser}
use Rattle.spmd_text.specs.declared.piece.Word.TheVariants as word
use Rattle.spmd_text.specs.declared.piece.Piece.{Piece}
use Rattle.spmd_text.specs.declared.piece.Piece.TheVariants as piece
use Rattle.spmd_text.specs.declared.piece.Token.{Token}
use Rattle.spmd_text.specs.declared.reading.SpmdPolicy.{SpmdPolicy}
use Rattle.spmd_text.specs.declared.reading.SpmdPolicy.TheVariants as policy
use Rattle.spmd_text.specs.Limits.{IsTreeWithin}
use Rattle.spmd_text.specs.parts.Reading.{Finds, Sticks, next, next_of}
use Rattle.spmd_text.specs.Words.{code}
use Rattle.spmd_text.specs.Spelling.{after_piece, after_optional, after_parameter, after_policy, after_statement, piece_begins, is_any, is_piece, only, word_of_policy}
use Rattle.spmd_text.specs.parts.Parts.{HasRead}
use Rattle.spmd_text.specs.parts.Statements.{MakesOrLacksMemory, MayOne, MaySpan, behind_all, flat_all, heading_line_part, heading_part, is_end, policy_line_part, scope_of, statements_part}
use Rattle.spmd_text.specs.Statements.{Scope, is_one_of, line_of_first_piece, may_give}
use Rattle.spmd_text.specs.parts.Programs.{GrowsByParameters, ReadsParameters, is_all_read}
use Rattle.spmd_text.specs.Programs.{parameters_of}
use Rattle.spmd_text.specs.parts.Lines.{Block, IsEnded, IsStuckAt, Level, Moves, Runs, Steps, TellsLine, begin, behind_one, has_text_end, in_block, in_loop, is_inner, is_settled, is_text_end, level_at, lists, takes_statement}
use Rattle.spmd_text.specs.Lines.{is_line}
use Rattle.spmd_text.specs.parts.Lines as lines
use Rattle.spmd_text.proofs.FirstFaults.{RunsEarly, grown, heading_runs, lists_outermost, only_level, parameters_run, policy_runs, step_early, with_parameters}
use Rattle.spmd_text.proofs.BlockWords.{start_begins}
use Rattle.spmd_text.proofs.Flat.{all_strict}
use Rattle.spmd_text.proofs.Following.{and_left, and_right}
use Rattle.spmd_text.proofs.LeftOut.{chosen, not_chosen, policy_line_strict}
use Rattle.spmd_text.proofs.LineKinds.{ByKind, kind_at, kind_begins, kind_of, word_first}
use Rattle.spmd_text.proofs.LineKinds as kind
use Rattle.spmd_text.proofs.Meeting.{sound_by}
use Rattle.spmd_text.proofs.ParameterRows.{MayRow, ParametersSoFar, ReadsOne, names_of, next_here}
use Rattle.spmd_text.proofs.NoStar.{left_before}
use Rattle.spmd_text.proofs.Parts.{none_some}
use Rattle.spmd_text.proofs.Scopes.{scope_same}
use Rattle.spmd_text.proofs.Strict.{after_of, optional_strict}
use Rattle.spmd_text.proofs.Stuck.{FirstLine, GoesOn, first_line, none_found, runs_nowhere, some_why, stuck_here, tells_made, tells_none, tells_then}
use Rattle.spmd_text.proofs.TreeLines.{RunsTo, runs_to_on, statements_run}
use Rattle.spmd_text.proofs.WholeLines.{heading_line, parameter_line, policy_line}

never_true : false ≡ true → ⊥
never_true e = let never : false ≡ true = e in cc

-- ---- stuck at the first line

-- no line may stand at these levels
stuck_first : (levels : List Level) (here : List Token) (number : ℕ) → has_text_end here ≡ true → number ≡ line_of_first_piece here
    → ((line beyond : List Token) (next : List Level) → here ≡ line ++ beyond → Steps levels line next → ⊥) → IsStuckAt levels here number
stuck_first levels here number ended told never = record {
  before = [];
  bad = f.line;
  beyond = f.beyond;
  reached = levels;
  split = f.split;
  runs = lines.done refl refl;
  one = f.one;
  stuck = λ next steps. never f.line f.beyond next f.split steps;
  told = told ∙ f.number;
}
  where
    f : FirstLine here
    f = first_line here ended

first_level : (l m : Level) (a b : List Level) → l ∷ a ≡ m ∷ b → l ≡ m
first_level l m a b e = let same : l ∷ a ≡ m ∷ b = e in let first : l ≡ m = cc in first

-- ---- the heading

-- at the beginning of a text its heading may stand, and no other line
only_heading : (l : Level) (outer : List Level) (line : List Token) (next : List Level) → l.block ≡ lines.start → Steps (l ∷ outer) line next
    → after_piece piece.LineEnd (after_piece (piece.Word word.Spmd) (Some line)) ≡ Some []
only_heading l outer line next first (lines.heading h) = h.spelled
only_heading l outer line next first (lines.policy h) =
    absurd (let never : lines.start ≡ lines.headed = sym first ∙ (ap (λ (x : Level). x.block) (first_level l h.level outer h.outer h.here) ∙ h.second) in cc)
only_heading l outer line next first (lines.parameter h) =
    absurd (never_true (sym (ap lists (sym (ap (λ (x : Level). x.block) (first_level l h.level outer h.outer h.here)) ∙ first)) ∙ h.early))
only_heading l outer line next first (lines.simple h) =
    absurd (never_true (sym (ap takes_statement (sym (ap (λ (x : Level). x.block) (first_level l h.level outer h.outer h.here)) ∙ first)) ∙ h.begun))
only_heading l outer line next first (lines.repeat h) =
    absurd (never_true (sym (ap takes_statement (sym (ap (λ (x : Level). x.block) (first_level l h.level outer h.outer h.here)) ∙ first)) ∙ h.begun))
only_heading l outer line next first (lines.when h) =
    absurd (never_true (sym (ap takes_statement (sym (ap (λ (x : Level). x.block) (first_level l h.level outer h.outer h.here)) ∙ first)) ∙ h.begun))
only_heading l outer line next first (lines.chained h) =
    absurd (let never : lines.start ≡ lines.branch = sym first ∙ (ap (λ (x : Level). x.block) (first_level l h.level outer h.outer h.here) ∙ h.open_branch) in cc)
only_heading l outer line next first (lines.otherwise h) =
    absurd (let never : lines.start ≡ lines.branch = sym first ∙ (ap (λ (x : Level). x.block) (first_level l h.level outer h.outer h.here) ∙ h.open_branch) in cc)
only_heading l outer line next first (lines.end h) =
    absurd (never_true (sym (ap is_inner (sym (ap (λ (x : Level). x.block) (first_level l h.level outer h.outer h.here)) ∙ first)) ∙ h.inner))
only_heading l outer line next first (lines.text_end h) =
    absurd (never_true (sym (ap takes_statement (sym (ap (λ (x : Level). x.block) (first_level l h.level outer [] h.here)) ∙ first)) ∙ h.begun))

-- the line of the policy is wrong
policy_tells : (old new : Parser) (p : SpmdPolicy) (scope : Scope) (depth n : ℕ) → HasRead policy_line_part old new p → (old.fault ≡ None → n ≡ line_of_first_piece old.rest.now)
    → TellsLine (only_level lines.headed scope depth) old new old.rest.now n
policy_tells old new p scope depth n r told why sound wrong other ended =
    stuck_here kind.policy (only_level lines.headed scope depth) old.rest.now n ended (kind_begins (piece.Word word.Policy) old.rest.now said) (told sound)
    (λ line beyond next split h.
    none_found r why sound wrong other h.policy beyond (written h.policy beyond (ap (λ (xs : List Token). after_piece piece.LineEnd (after_piece (piece.Word (word_of_policy h.policy)) (after_piece (piece.Word word.Policy) (Some xs)))) split ∙ (policy_line h.policy).more line beyond h.spelled)) tt refl)
  where
    said : piece_begins (piece.Word word.Policy) (Some old.rest.now) ≡ true
    said = by (piece_begins (piece.Word word.Policy) (Some old.rest.now)) refl
      where
        by : (b : Bool) → piece_begins (piece.Word word.Policy) (Some old.rest.now) ≡ b → piece_begins (piece.Word word.Policy) (Some old.rest.now) ≡ true
        by true e = e
        by false e =
            absurd (none_found r why sound wrong other policy.Any old.rest.now
            (not_chosen (piece_begins (piece.Word word.Policy) (Some old.rest.now)) (after_piece piece.LineEnd (after_piece (piece.Word word.Any) (after_piece (piece.Word word.Policy) (Some old.rest.now)))) (Some old.rest.now) e) tt refl)

    written : (q : SpmdPolicy) (beyond : List Token) → after_piece piece.LineEnd (after_piece (piece.Word (word_of_policy q)) (after_piece (piece.Word word.Policy) (Some old.rest.now))) ≡ Some beyond
        → after_policy q (Some old.rest.now) ≡ Some beyond
    written q beyond e =
        chosen (piece_begins (piece.Word word.Policy) (Some old.rest.now)) (after_piece piece.LineEnd (after_piece (piece.Word (word_of_policy q)) (after_piece (piece.Word word.Policy) (Some old.rest.now)))) (only (is_any q) (Some old.rest.now)) said ∙ e

pub heading_tells : {old mid new : Parser} {p : SpmdPolicy} {n m : ℕ} (depth : ℕ) → HasRead heading_line_part old mid (tt {0}) → HasRead policy_line_part mid new p
    → (old.fault ≡ None → n ≡ line_of_first_piece old.rest.now) → (mid.fault ≡ None → m ≡ line_of_first_piece mid.rest.now) → ((why : ParseReason) → mid.fault ≡ Some why → m ≡ n)
    → TellsLine (level_at lines.start old depth ∷ []) old new old.rest.now m
heading_tells {old} {mid} {new} {p} {n} {m} depth one two told again stays =
    tells_then old heading two.goes.sticks stays on
  where
    heading : TellsLine (level_at lines.start old depth ∷ []) old mid old.rest.now n
    heading why sound wrong other ended =
        stuck_first (level_at lines.start old depth ∷ []) old.rest.now n ended (told sound)
        (λ line beyond next split steps.
        none_found one why sound wrong other tt beyond
        (ap (λ (xs : List Token). after_piece piece.LineEnd (after_piece (piece.Word word.Spmd) (Some xs))) split ∙ heading_line.more line beyond (only_heading (level_at lines.start old depth) [] line next refl steps)) tt refl)

    on : mid.fault ≡ None → GoesOn (level_at lines.start old depth ∷ []) mid new old.rest.now m
    on sound = record {
      level = record { block = lines.headed; scope = scope_of old; depth = depth };
      outer = [];
      there = mid.rest.now;
      runs = heading_runs (scope_of old) depth old.rest.now mid.rest.now (one.stands sound);
      tells = policy_tells mid new p (scope_of old) depth m two again;
    }

-- ---- the end of the text

-- what stands at the end of pieces that end so ends so
pub ended_on : (read rest : List Token) → IsEnded (read ++ rest) → has_text_end rest ≡ true → IsEnded rest
ended_on [] rest e ends = e
ended_on (t ∷ read) rest e ends = ended_on read rest (behind_first e.front e.split e.once) ends
  where
    behind_first : (front : List Token) → t ∷ read ++ rest ≡ front ++ e.token ∷ [] → list_all (λ (u : Token). not (is_text_end u.piece)) front ≡ true → IsEnded (read ++ rest)
    behind_first [] split once =
        let same : t ∷ read ++ rest ≡ e.token ∷ [] = split in
        let none : read ++ rest ≡ [] = cc in absurd (nothing read rest none ends)
      where
        nothing : (xs ys : List Token) → xs ++ ys ≡ [] → has_text_end ys ≡ true → ⊥
        nothing [] [] f g = never_true g
        nothing [] (y ∷ ys) f g = let never : y ∷ ys ≡ [] = f in cc
        nothing (x ∷ xs) ys f g = let never : x ∷ xs ++ ys ≡ [] = f in cc
    behind_first (u ∷ front) split once =
        let same : t ∷ read ++ rest ≡ u ∷ front ++ e.token ∷ [] = split in
        let others : read ++ rest ≡ front ++ e.token ∷ [] = cc in
        record { front = front; token = e.token; split = others; ends = e.ends; once = and_right (not (is_text_end u.piece)) (list_all (λ (v : Token). not (is_text_end v.piece)) front) once }

-- where the end of the text comes first, nothing else is left
text_end_alone : (t : Token) (ts : List Token) → IsEnded (t ∷ ts) → t.piece ≡ piece.TextEnd → is_all_read (t ∷ ts) ≡ true
text_end_alone t ts e is = by e.front e.split e.once
  where
    by : (front : List Token) → t ∷ ts ≡ front ++ e.token ∷ [] → list_all (λ (u : Token). not (is_text_end u.piece)) front ≡ true → is_all_read (t ∷ ts) ≡ true
    by [] split once =
        let same : t ∷ ts ≡ e.token ∷ [] = split in
        let none : ts ≡ [] = cc in ap (λ (xs : List Token). is_all_read (t ∷ xs)) none ∙ ap (is_piece piece.TextEnd) is
    by (u ∷ front) split once =
        let same : t ∷ ts ≡ u ∷ front ++ e.token ∷ [] = split in
        let first : t ≡ u = cc in
        absurd (never_true (sym (ap not (ap is_text_end (sym (ap (λ (v : Token). v.piece) first) ∙ is))) ∙ and_left (not (is_text_end u.piece)) (list_all (λ (v : Token). not (is_text_end v.piece)) front) once))

pub end_text_tells : (old new : Parser) (level : Level) (n : ℕ) → is_inner level.block ≡ false → is_end (next old) ≡ true → IsEnded old.rest.now → (old.fault ≡ None → n ≡ line_of_first_piece old.rest.now)
    → is_all_read old.rest.now ≡ false → TellsLine (level ∷ []) old new old.rest.now n
end_text_tells old new level n outermost ends once told others why sound wrong other ended =
    by_rest old.rest.now once (ap (λ (f : Option ParseReason). is_end (next_of f old.rest.now)) (sym sound) ∙ ends) (told sound) others ended
  where
    not_inner : (m : Level) (outer : List Level) → level ∷ [] ≡ m ∷ outer → is_inner m.block ≡ true → ⊥
    not_inner m outer e f = never_true (sym outermost ∙ (ap (λ (x : Level). is_inner x.block) (first_level level m [] outer e) ∙ f))

    by_rest : (here : List Token) → IsEnded here → is_end (next_of None here) ≡ true → n ≡ line_of_first_piece here → is_all_read here ≡ false → has_text_end here ≡ true
        → IsStuckAt (level ∷ []) here n
    by_rest [] e f g h i = absurd (never_true i)
    by_rest (t ∷ ts) e f g h i = by_piece t.piece refl f
      where
        by_piece : (p : Piece) → t.piece ≡ p → is_end p ≡ true → IsStuckAt (level ∷ []) (t ∷ ts) n
        by_piece (piece.Word word.End) is end =
            stuck_here kind.end (level ∷ []) (t ∷ ts) n i (ap kind_of is) g (λ line beyond next split m. not_inner m.level m.outer m.here m.inner)
        by_piece (piece.Word word.Else) is end =
            stuck_here kind.otherwise (level ∷ []) (t ∷ ts) n i (ap kind_of is) g (λ line beyond next split m. not_inner m.level m.outer m.here (ap is_inner m.open_branch))
        by_piece (piece.Word word.Elif) is end =
            stuck_here kind.chained (level ∷ []) (t ∷ ts) n i (ap kind_of is) g (λ line beyond next split m. not_inner m.level m.outer m.here (ap is_inner m.open_branch))
        by_piece piece.TextEnd is end = absurd (never_true (sym h ∙ text_end_alone t ts e is))
        by_piece p is end = absurd (never_true end)

-- ---- parameters

early_on : {b : Block} {scope mid last : Scope} {depth : ℕ} {here between rest : List Token} → (one : RunsEarly b scope mid depth here between) → RunsEarly one.block mid last depth between rest
    → RunsEarly b scope last depth here rest
early_on {b} {scope} {mid} {last} {depth} {here} {between} {rest} one other = record {
  block = other.block;
  early = other.early;
  kept = λ f. let g = other.kept f in let h = one.kept g.0 in (h.0, h.1 ∙ g.1);
  runs = runs_to_on one.runs other.runs;
}

rows_run : (xs : List SpmdStatement) (b : Block) (scope : Scope) (depth : ℕ) (here rest : List Token) → lists b ≡ true → MayRow scope.parameters xs → behind_all xs (Some here) ≡ Some rest
    → RunsEarly b scope (grown (names_of xs) scope) depth here rest
unfolding with_parameters
rows_run [] b scope depth here rest early may e =
    let same : here ≡ rest = same_Some here rest e in
    let none : scope ≡ grown [] scope = ap (with_parameters scope) (sym (append-nil scope.parameters)) in
    record {
      block = b;
      early = early;
      kept = λ f. (f, same);
      runs = subst (λ (c : Scope). RunsTo (only_level b scope depth) (only_level b c depth) here rest) none
          (subst (λ (xs : List Token). RunsTo (only_level b scope depth) (only_level b scope depth) here xs) same (runs_nowhere (only_level b scope depth) here));
    }
rows_run (x ∷ xs) b scope depth here rest early may e =
    let between = left_before (behind_all xs) (all_strict xs) (after_statement x (Some here)) rest e in
    let one = parameters_run x b scope depth here between.0 early may.0.obeys between.1 in
    let two = rows_run xs one.block (grown (parameters_of x) scope) depth between.0 rest one.early may.1 (ap (behind_all xs) (sym between.1) ∙ e) in
    let both : grown (names_of xs) (grown (parameters_of x) scope) ≡ grown (parameters_of x ++ names_of xs) scope = ap (with_parameters scope) (append_assoc scope.parameters (parameters_of x) (names_of xs)) in
    subst (λ (c : Scope). RunsEarly b scope c depth here rest) both (early_on one two)

-- the scope behind parameters
scope_grown : {old new : Parser} {names : List ℕ} → GrowsByParameters old new names → new.fault ≡ None → scope_of new ≡ grown names (scope_of old)
scope_grown {old} {new} {names} g sound =
    ap (λ (b : Bool). record { in_parameter = b; names = new.names.now; parameters = new.parameters.items; loops = new.loops.items }) g.in_parameter
    ∙ (ap (λ (ns : List (Vec ℕ)). record { in_parameter = old.in_parameter; names = ns; parameters = new.parameters.items; loops = new.loops.items }) g.names_same
    ∙ (ap (λ (ps : List ℕ). record { in_parameter = old.in_parameter; names = old.names.now; parameters = ps; loops = new.loops.items }) (g.parameters sound)
    ∙ ap (λ (ls : List ℕ). record { in_parameter = old.in_parameter; names = old.names.now; parameters = old.parameters.items ++ names; loops = ls }) g.loops))

parameter_tells : {s mid : Parser} {item : SpmdStatement} (block : Block) (depth n : ℕ) → ReadsOne s mid item → (s.fault ≡ None → piece_begins (piece.Word word.Param) (Some s.rest.now) ≡ true)
    → (s.fault ≡ None → n ≡ line_of_first_piece s.rest.now) → TellsLine (level_at block s depth ∷ []) s mid s.rest.now n
parameter_tells {s} {mid} {item} block depth n r said told why sound wrong other ended =
    stuck_here kind.parameter (level_at block s depth ∷ []) s.rest.now n ended (kind_begins (piece.Word word.Param) s.rest.now (said sound)) (told sound)
    (λ line beyond next split h.
    by_found beyond (r.meets.finds (statement.Parameter h.number h.name h.value) beyond sound
    (ap (λ (xs : List Token). after_parameter h.number h.name h.value (Some xs)) split ∙ (parameter_line h.number h.name h.value).more line beyond h.spelled)
    (record { one = refl; obeys = (ap (λ (l : Level). is_one_of l.scope.parameters h.name) (first_level (level_at block s depth) h.level [] h.outer h.here) ∙ h.other, h.within) }) refl))
  where
    by_found : {P : Type 0} (beyond : List Token) → Finds mid beyond P → ⊥
    by_found beyond (inl memory) = other (some_why why Memory (sym wrong ∙ memory))
    by_found beyond (inr (there, same)) = none_some why (sym there.sound ∙ wrong)

-- the line that is told of parameters so far
pub record ParameterLines (old s : Parser) (before after_piece : ℕ) : Type 0 where
  pub stays : (why : ParseReason) → old.fault ≡ Some why → after_piece ≡ before
  pub tells : (block : Block) (depth : ℕ) → lists block ≡ true → TellsLine (level_at block old depth ∷ []) old s old.rest.now after_piece

pub parameter_lines_begun : (old : Parser) (n : ℕ) → ParameterLines old old n n
parameter_lines_begun old n = record { stays = λ why e. refl; tells = λ block depth early. tells_none (level_at block old depth ∷ []) old old old.rest.now n refl }

pub parameter_lines_more : {old s mid new : Parser} {list : List SpmdStatement} {Made : Type 0} {before at n : ℕ} (item : SpmdStatement) → ParametersSoFar old s list → ParameterLines old s before at
    → nat_eq (code (next_of s.fault s.rest.now)) (code (piece.Word word.Param)) ≡ true → ReadsOne s mid item → (s.fault ≡ None → n ≡ line_of_first_piece s.rest.now)
    → ((why : ParseReason) → s.fault ≡ Some why → n ≡ at) → MakesOrLacksMemory mid new Made → ParameterLines old new before n
parameter_lines_more {old} {s} {mid} {new} {list} {Made} {before} {at} {n} item so_far lined is r told stays makes = record {
  stays = λ why e. stays why (so_far.goes.sticks why e) ∙ lined.stays why e;
  tells = λ block depth early. tells_made old (tells_then old (lined.tells block depth early) r.goes.sticks stays (on block depth early)) makes;
}
  where
    on : (block : Block) (depth : ℕ) → lists block ≡ true → s.fault ≡ None → GoesOn (level_at block old depth ∷ []) s mid old.rest.now n
    on block depth early sound =
        let e = rows_run (flat_all list) block (scope_of old) depth old.rest.now s.rest.now early (so_far.may sound) (so_far.stands sound) in
        record {
          level = level_at e.block s depth;
          outer = [];
          there = s.rest.now;
          runs = subst (λ (c : Scope). RunsTo (only_level block (scope_of old) depth) (only_level e.block c depth) old.rest.now s.rest.now) (sym (scope_grown so_far.goes sound)) e.runs;
          tells = parameter_tells e.block depth n r (next_here s.fault s.rest.now is) told;
        }

-- ---- statements behind the heading and the parameters

first_same : (p : Piece) (line beyond : List Token) → is_line line ≡ true → piece_begins p (Some (line ++ beyond)) ≡ piece_begins p (Some line)
first_same p [] beyond one = absurd (never_true one)
first_same p (t ∷ ts) beyond one = refl

-- what may stand first may stand behind a statement, but for the policy and parameters
step_late : (b : Block) (scope : Scope) (depth : ℕ) (line : List Token) (next : List Level) → lists b ≡ true → (b ≡ lines.headed → piece_begins (piece.Word word.Policy) (Some line) ≡ false)
    → piece_begins (piece.Word word.Param) (Some line) ≡ false → Steps (only_level b scope depth) line next → (behind : List Level) × Steps (only_level lines.plain scope depth) line behind
step_late b scope depth line next early unsaid unlisted (lines.heading h) =
    absurd (never_true (sym (ap lists (ap (λ (x : Level). x.block) (first_level _ h.level [] h.outer h.here) ∙ h.first)) ∙ early))
step_late b scope depth line next early unsaid unlisted (lines.policy h) =
    absurd (never_true (sym (unsaid (ap (λ (x : Level). x.block) (first_level _ h.level [] h.outer h.here) ∙ h.second))
    ∙ word_first (λ z. after_piece piece.LineEnd (after_piece (piece.Word (word_of_policy h.policy)) z)) refl word.Policy line [] h.spelled))
step_late b scope depth line next early unsaid unlisted (lines.parameter h) =
    absurd (never_true (sym unlisted
    ∙ start_begins (λ z. after_piece piece.LineEnd (after_optional piece.Equals h.value (after_piece (piece.Name h.name) z))) (after_of piece.LineEnd _ (optional_strict piece.Equals h.value)) h.number word.Param line [] h.spelled))
step_late b scope depth line next early unsaid unlisted (lines.simple h) =
    let l = first_level _ h.level [] h.outer h.here in (
      only_level lines.plain scope depth,
      lines.simple (record {
        level = record { block = lines.plain; scope = scope; depth = depth };
        outer = [];
        here = refl;
        begun = refl;
        statement = h.statement;
        simple = h.simple;
        may = subst (λ (x : Level). MayOne x.scope x.depth h.statement) (sym l) h.may;
        spelled = h.spelled;
        is = refl;
      }),
    )
step_late b scope depth line next early unsaid unlisted (lines.repeat h) =
    let l = first_level _ h.level [] h.outer h.here in
    let level : Level = record { block = lines.plain; scope = scope; depth = depth } in (
      in_loop h.name level ∷ behind_one level ∷ [],
      lines.repeat (record {
        level = level;
        outer = [];
        here = refl;
        begun = refl;
        number = h.number;
        name = h.name;
        span = h.span;
        deep = subst (λ (x : Level). 1 ≤ x.depth) (sym l) h.deep;
        free = ap (λ (x : Level). may_give x.scope h.name) l ∙ h.free;
        may = subst (λ (x : Level). MaySpan x.scope.in_parameter h.span) (sym l) h.may;
        spelled = h.spelled;
        is = refl;
      }),
    )
step_late b scope depth line next early unsaid unlisted (lines.when h) =
    let l = first_level _ h.level [] h.outer h.here in
    let level : Level = record { block = lines.plain; scope = scope; depth = depth } in (
      in_block lines.branch level ∷ behind_one level ∷ [],
      lines.when (record {
        level = level;
        outer = [];
        here = refl;
        begun = refl;
        number = h.number;
        condition = h.condition;
        deep = subst (λ (x : Level). 1 ≤ x.depth) (sym l) h.deep;
        within = subst (λ (x : Level). IsTreeWithin 32 x.scope.in_parameter h.condition) (sym l) h.within;
        spelled = h.spelled;
        is = refl;
      }),
    )
step_late b scope depth line next early unsaid unlisted (lines.chained h) =
    absurd (never_true (sym (ap lists (ap (λ (x : Level). x.block) (first_level _ h.level [] h.outer h.here) ∙ h.open_branch)) ∙ early))
step_late b scope depth line next early unsaid unlisted (lines.otherwise h) =
    absurd (never_true (sym (ap lists (ap (λ (x : Level). x.block) (first_level _ h.level [] h.outer h.here) ∙ h.open_branch)) ∙ early))
step_late b scope depth line next early unsaid unlisted (lines.end h) =
    absurd (never_true (sym (lists_outermost b early) ∙ (ap (λ (x : Level). is_inner x.block) (first_level _ h.level [] h.outer h.here) ∙ h.inner)))
step_late b scope depth line next early unsaid unlisted (lines.text_end h) = (
  [],
  lines.text_end (record { level = record { block = lines.plain; scope = scope; depth = depth }; here = refl; begun = refl; outermost = refl; spelled = h.spelled; is = refl }),
)

stuck_early : (b : Block) (scope : Scope) (depth : ℕ) (here : List Token) (n : ℕ) → lists b ≡ true → (b ≡ lines.headed → piece_begins (piece.Word word.Policy) (Some here) ≡ false)
    → piece_begins (piece.Word word.Param) (Some here) ≡ false → IsStuckAt (only_level lines.plain scope depth) here n → IsStuckAt (only_level b scope depth) here n
stuck_early b scope depth here n early unsaid unlisted s = by_runs s.runs
  where
    by_runs : Runs s.reached (only_level lines.plain scope depth) s.before → IsStuckAt (only_level b scope depth) here n
    by_runs (lines.done is none) =
        let at_bad : here ≡ s.bad ++ s.beyond = s.split ∙ ap (λ (xs : List Token). xs ++ s.bad ++ s.beyond) none in
        let same : (p : Piece) → piece_begins p (Some here) ≡ piece_begins p (Some s.bad) = λ p. ap (λ (xs : List Token). piece_begins p (Some xs)) at_bad ∙ first_same p s.bad s.beyond s.one in
        record {
          before = s.before;
          bad = s.bad;
          beyond = s.beyond;
          reached = only_level b scope depth;
          split = s.split;
          runs = lines.done refl none;
          one = s.one;
          stuck = λ next steps.
              let l = step_late b scope depth s.bad next early (λ f. sym (same (piece.Word word.Policy)) ∙ unsaid f) (sym (same (piece.Word word.Param)) ∙ unlisted) steps in
              s.stuck l.0 (subst (λ (ls : List Level). Steps ls s.bad l.0) is l.1);
          told = s.told;
        }
    by_runs (lines.more m r) = record {
      before = s.before;
      bad = s.bad;
      beyond = s.beyond;
      reached = s.reached;
      split = s.split;
      runs = lines.more (record { line = m.line; rest = m.rest; next = m.next; split = m.split; steps = step_early b scope depth m.line m.next early m.steps }) r;
      one = s.one;
      stuck = s.stuck;
      told = s.told;
    }

-- ---- the whole text

-- lines lead to where a parameter may stand, or a statement
record Led (levels : List Level) (s : Parser) (here : List Token) : Type 0 where
  pub block : Block
  pub early : lists block ≡ true
  pub unsaid : block ≡ lines.headed → piece_begins (piece.Word word.Policy) (Some s.rest.now) ≡ false
  pub runs : RunsTo levels (only_level block (scope_of s) 32) here s.rest.now

-- lines lead to where the text may end
record Ends (levels : List Level) (s : Parser) (here : List Token) : Type 0 where
  pub block : Block
  pub outermost : is_inner block ≡ false
  pub runs : RunsTo levels (only_level block (scope_of s) 32) here s.rest.now

led_heading : {old h : Parser} {p : SpmdPolicy} → HasRead heading_part old h p → h.fault ≡ None → Led (level_at lines.start old 32 ∷ []) h old.rest.now
led_heading {old} {h} {p} r sound =
    let e = r.stands sound in
    let mid = left_before (after_policy p) (policy_line_strict p) (after_piece piece.LineEnd (after_piece (piece.Word word.Spmd) (Some old.rest.now))) h.rest.now e in
    let f = heading_runs (scope_of old) 32 old.rest.now mid.0 mid.1 in
    let g = policy_runs p (scope_of old) 32 mid.0 h.rest.now (ap (after_policy p) (sym mid.1) ∙ e) in
    record {
      block = g.runs.block;
      early = g.runs.early;
      unsaid = g.unsaid;
      runs = subst (λ (c : Scope). RunsTo (level_at lines.start old 32 ∷ []) (only_level g.runs.block c 32) old.rest.now h.rest.now) (sym (scope_same r.goes)) (runs_to_on f g.runs.runs);
    }

led_parameters : {levels : List Level} {h p : Parser} {heads : SpmdStatement} {here : List Token} → Led levels h here → ReadsParameters h p heads → p.fault ≡ None → Led levels p here
led_parameters {levels} {h} {p} {heads} {here} led r sound =
    let e = parameters_run heads led.block (scope_of h) 32 h.rest.now p.rest.now led.early (r.meets.may sound) (r.meets.stands sound) in
    record {
      block = e.block;
      early = e.early;
      unsaid = λ f. let k = e.kept f in ap (λ (xs : List Token). piece_begins (piece.Word word.Policy) (Some xs)) (sym k.1) ∙ led.unsaid k.0;
      runs = subst (λ (c : Scope). RunsTo levels (only_level e.block c 32) here p.rest.now) (sym (scope_grown r.goes sound)) (runs_to_on led.runs e.runs);
    }

ends_statements : {levels : List Level} {p s : Parser} {all : SpmdStatement} {here : List Token} → Led levels p here → HasRead (statements_part (scope_of p) 32) p s all → s.fault ≡ None → Ends levels s here
ends_statements {levels} {p} {s} {all} {here} led r sound = by_runs run.runs
  where
    run : RunsTo (only_level lines.plain (scope_of p) 32) (only_level lines.plain (scope_of p) 32) p.rest.now s.rest.now
    run = statements_run all lines.plain (scope_of p) 32 [] p.rest.now s.rest.now refl (r.may sound) (r.stands sound)

    at : (b : Block) → is_inner b ≡ false → RunsTo levels (only_level b (scope_of p) 32) here s.rest.now → Ends levels s here
    at b outermost runs =
        record { block = b; outermost = outermost; runs = subst (λ (c : Scope). RunsTo levels (only_level b c 32) here s.rest.now) (sym (scope_same r.goes)) runs }

    by_runs : Runs (only_level lines.plain (scope_of p) 32) (only_level lines.plain (scope_of p) 32) run.read → Ends levels s here
    by_runs (lines.done is none) =
        at led.block (lists_outermost led.block led.early)
        (subst (λ (xs : List Token). RunsTo levels (only_level led.block (scope_of p) 32) here xs) (run.split ∙ ap (λ (xs : List Token). xs ++ s.rest.now) none) led.runs)
    by_runs (lines.more m q) =
        at lines.plain refl
        (runs_to_on led.runs (record {
          read = run.read;
          split = run.split;
          runs = lines.more (record { line = m.line; rest = m.rest; next = m.next; split = m.split; steps = step_early led.block (scope_of p) 32 m.line m.next led.early m.steps }) q;
        }))

begun_level : (old : Parser) → old.in_parameter ≡ false → old.parameters.items ≡ [] → old.loops.items ≡ [] → level_at lines.start old 32 ≡ begin old.names.now
begun_level old unset unnamed outside =
    ap (λ (b : Bool). record { block = lines.start; scope = record { in_parameter = b; names = old.names.now; parameters = old.parameters.items; loops = old.loops.items }; depth = 32 }) unset
    ∙ (ap (λ (ps : List ℕ). record { block = lines.start; scope = record { in_parameter = false; names = old.names.now; parameters = ps; loops = old.loops.items }; depth = 32 }) unnamed
    ∙ ap (λ (ls : List ℕ). record { block = lines.start; scope = record { in_parameter = false; names = old.names.now; parameters = []; loops = ls }; depth = 32 }) outside)

-- what each part of a text tells, from the parser before it to that behind it
pub record PartTells (old new : Parser) (before after_piece : ℕ) (Told : Type 0) : Type 0 where
  pub sticks : Sticks old new
  pub stays : (why : ParseReason) → old.fault ≡ Some why → after_piece ≡ before
  pub tells : Told

pub text_tells : {old h p s e n : Parser} {pol : SpmdPolicy} {heads all : SpmdStatement} {a b c d : ℕ} {Made : Type 0} → old.in_parameter ≡ false → old.parameters.items ≡ [] → old.loops.items ≡ []
    → IsEnded old.rest.now → HasRead heading_part old h pol → ((depth : ℕ) → TellsLine (level_at lines.start old depth ∷ []) old h old.rest.now a) → ReadsParameters h p heads
    → PartTells h p a b ((block : Block) (depth : ℕ) → lists block ≡ true → TellsLine (level_at block h depth ∷ []) h p h.rest.now b) → (p.fault ≡ None → piece_begins (piece.Word word.Param) (Some p.rest.now) ≡ false)
    → HasRead (statements_part (scope_of p) 32) p s all
    → PartTells p s b c ((block : Block) (outer : List Level) → is_settled block ≡ true → TellsLine (level_at block p 32 ∷ outer) p s p.rest.now c) → (s.fault ≡ None → is_end (next s) ≡ true)
    → PartTells s e c d ((level : Level) → is_inner level.block ≡ false → is_end (next s) ≡ true → IsEnded s.rest.now → TellsLine (level ∷ []) s e s.rest.now d)
    → MakesOrLacksMemory e n Made → TellsLine (begin old.names.now ∷ []) old n old.rest.now d
text_tells {old} {h} {p} {s} {e} {n} {pol} {heads} {all} {a} {b} {c} {d} unset unnamed outside once one first two second unlisted three third ends fourth makes =
    subst (λ (l : Level). TellsLine (l ∷ []) old n old.rest.now d) (begun_level old unset unnamed outside)
    (tells_made old (tells_then old (tells_then old (tells_then old (first 32) second.sticks second.stays on_parameters) third.sticks third.stays on_statements) fourth.sticks fourth.stays on_end) makes)
  where
    levels : List Level
    levels = level_at lines.start old 32 ∷ []

    heading : h.fault ≡ None → Led levels h old.rest.now
    heading sound = led_heading one sound

    parameters : p.fault ≡ None → Led levels p old.rest.now
    parameters sound = led_parameters (heading (sound_by h p second.sticks sound)) two sound

    on_parameters : h.fault ≡ None → GoesOn levels h p old.rest.now b
    on_parameters sound =
        let l = heading sound in
        record { level = level_at l.block h 32; outer = []; there = h.rest.now; runs = l.runs; tells = second.tells l.block 32 l.early }

    on_statements : p.fault ≡ None → GoesOn levels p s old.rest.now c
    on_statements sound =
        let l = parameters sound in
        record {
          level = level_at l.block p 32;
          outer = [];
          there = p.rest.now;
          runs = l.runs;
          tells = λ why f wrong other ended. stuck_early l.block (scope_of p) 32 p.rest.now c l.early l.unsaid (unlisted sound) (third.tells lines.plain [] refl why f wrong other ended);
        }

    on_end : s.fault ≡ None → GoesOn levels s e old.rest.now d
    on_end sound =
        let l = ends_statements (parameters (sound_by p s third.sticks sound)) three sound in
        record {
          level = level_at l.block s 32;
          outer = [];
          there = s.rest.now;
          runs = l.runs;
          tells = λ why f wrong other ended.
              fourth.tells (level_at l.block s 32) l.outermost (ends sound) (ended_on l.runs.read s.rest.now (subst IsEnded l.runs.split once) ended) why f wrong other ended;
        }

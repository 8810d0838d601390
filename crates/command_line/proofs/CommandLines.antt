-- Commands built up by rules, and what their matches give.
use Rattle.std.specs.Prelude.{unwrap_or, is_some, IfErr, IfOk, OnOk}
use Rattle.std.specs.Str.{bytes_eq}
use Rattle.std.specs.Str.Parse.{ExplainsUnsignedError, HasUnsignedDigitsIfOk, ParsesBool, ParsesUnsigned}
use Rattle.std.proofs.lemmas.Slice.Eq.{bytes_eq-Decides}
use Rattle.std.specs.declared.num.ParseIntError.{ParseIntError}
use Rattle.clap.specs.Matches.{ReadsOne}
use Rattle.std.proofs.Common.{ℕ, ◌≡◌, ◌∙◌, ◌||◌, ap, ap₂, sym, refl, map, Bool, true, false, Option, Some, None, codes, option_map}
use Rattle.std.specs.Borrow.{Bor}
use Rattle.clap.specs.Words.{AddsArg, AddsSubcommand, App, Rule, Text, all_of, found_of, first_of, first_value, matched_of, one_text, raw_values, rows_of, with_rule, with_subcommand}
use Rattle.clap.specs.declared.builder.arg.Arg.{Arg}
use Rattle.clap.specs.declared.builder.command.Command.{Command}
use Rattle.clap.specs.declared.parser.matches.ArgMatches.{ArgMatches}
use Rattle.clap.proofs.WalkLemmas.{first_value-rows, one_text-rows, raw_values-rows}
use Rattle.command_line.specs.CommandLine.{IsRuled, IsShapedAs, command_line}
use Rattle.command_line.specs.Requests.{is_true, names_twice, AskFor, Flags, IsRefusedBy, Makes, MakesSome, NamesTask, Reads, Task, path_of, task_of, texts_in}
use Rattle.command_line.specs.declared.request.Request.{Request}
use Rattle.std.specs.Prelude.{Box, List}
use Rattle.std.specs.Box.{box_value}
use Rattle.clap.specs.Words.{Row, is_simple, subcommand_name_of, subcommand_rows, subcommand_rows_of, subcommand_of, fault_of, kind_of, FailsBy, HasMatchesOf, IsAmong}
use Rattle.clap.specs.declared.error.Error.{Error}
use Rattle.clap.specs.declared.error.kind.ErrorKind.TheVariants.{ArgumentConflict, OutOfMemory}
use Rattle.std.proofs.Common.{Result, Ok, [], Err, ◌⊎◌, inl, inr}
use Rattle.clap.specs.Faults.{is_simple_and_free}
use Rattle.clap.specs.declared.parser.matches.ArgMatches.TheViews.{out-ArgMatches, out-SubCommand}
use Rattle.clap.specs.declared.parser.matches.SubCommand.{SubCommand}
use Rattle.clap.proofs.OnLiterals.{clap_on_literals}
use Rattle.std.proofs.Common.{subst}

-- one more argument
pub shaped_arg : (old new : Command) (a : Arg) (app : App) (rule : Rule) → IsShapedAs old app → IsRuled a rule → AddsArg old a new
    → IsShapedAs new (with_rule app rule)
shaped_arg old new a app rule shaped ruled adds = record {
  read_as = adds.shape ruled.own ∙ ap₂ with_rule shaped.read_as ruled.read_as;
  own = adds.globals ∙ ap₂ (λ b d. b || d) shaped.own ruled.own;
}

-- one more subcommand
pub shaped_subcommand : (old sub new : Command) (app below : App) → IsShapedAs old app → IsShapedAs sub below → AddsSubcommand old sub new
    → IsShapedAs new (with_subcommand app below.top)
shaped_subcommand old sub new app below shaped under adds = record {
  read_as = adds.shape under.own ∙ ap₂ with_subcommand shaped.read_as (ap (λ (a : App). a.top) under.read_as);
  own = adds.globals ∙ ap₂ (λ b d. b || d) shaped.own under.own;
}

-- a text that was asked for
pub given_by_rows : (m : ArgMatches) (id : Text) (given : Option (Bor Text)) → path_of given ≡ first_value (found_of m) id
    → first_of id (rows_of (found_of m)) ≡ path_of given
given_by_rows m id given e = sym (e ∙ first_value-rows (found_of m) id)

some_path : (given : Option (Bor Text)) → is_some given ≡ is_some (path_of given)
some_path None = refl
some_path (Some given) = refl

-- whether it is there
pub is_given_by_rows : (m : ArgMatches) (id : Text) (given : Option (Bor Text)) → path_of given ≡ first_value (found_of m) id
    → is_some given ≡ is_some (first_of id (rows_of (found_of m)))
is_given_by_rows m id given e = some_path given ∙ ap (λ (o : Option Text). is_some o) (sym (given_by_rows m id given e))

-- and is there
pub path_by_rows : (m : ArgMatches) (id : Text) (given : Option (Bor Text)) (path : Bor Text) → path_of given ≡ first_value (found_of m) id
    → given ≡ Some path → first_of id (rows_of (found_of m)) ≡ Some path.now
path_by_rows m id given path e is = given_by_rows m id given e ∙ ap path_of is

-- all texts of an argument that wasn't given
pub no_texts_by_rows : (m : ArgMatches) (id : Text) (given : Option (Bor (List (Bor Text))))
    → option_map (λ s. map (λ v. v.now) s.now) given ≡ option_map raw_values (matched_of (found_of m) id) → given ≡ None
    → [] ≡ texts_in (all_of id (rows_of (found_of m)))
no_texts_by_rows m id given e is =
    ap texts_in (sym (ap (λ (o : Option (Bor (List (Bor Text)))). option_map (λ s. map (λ v. v.now) s.now) o) is) ∙ e ∙ raw_values-rows (found_of m) id)

-- and of one that was
pub texts_by_rows : (m : ArgMatches) (id : Text) (given : Option (Bor (List (Bor Text)))) (texts : Bor (List (Bor Text)))
    → option_map (λ s. map (λ v. v.now) s.now) given ≡ option_map raw_values (matched_of (found_of m) id) → given ≡ Some texts
    → map (λ v. v.now) texts.now ≡ texts_in (all_of id (rows_of (found_of m)))
texts_by_rows m id given texts e is =
    ap texts_in (sym (ap (λ (o : Option (Bor (List (Bor Text)))). option_map (λ s. map (λ v. v.now) s.now) o) is) ∙ e ∙ raw_values-rows (found_of m) id)

-- a text that isn't `true`
other : (text : List ℕ) → (text ≡ codes "true" → ⊥) → bytes_eq text (codes "true") ≡ false
other text never = go (bytes_eq text (codes "true")) refl
  where
    go : (b : Bool) → bytes_eq text (codes "true") ≡ b → b ≡ false
    go false e = refl
    go true e = absurd (never ((bytes_eq-Decides text (codes "true")).0 e))

-- a flag that was asked for, by what its text is read as
pub flag_by_rows : (E : Type 0) (m : ArgMatches) (id : Text) (given : Option Bool) → (one_text (found_of m) id ≡ None → given ≡ None)
    → ((text : List ℕ) → one_text (found_of m) id ≡ Some text → ReadsOne {T = Bool} {E = E} ParsesBool text given)
    → Flags (rows_of (found_of m)) id (unwrap_or given false)
flag_by_rows E m id given absent reads = go (one_text (found_of m) id) refl ∙ ap is_true (one_text-rows (found_of m) id)
  where
    read : (text : List ℕ) (o : Option Bool) → ReadsOne {T = Bool} {E = E} ParsesBool text o → unwrap_or o false ≡ bytes_eq text (codes "true")
    read text None parsed = sym (other text parsed.1.0)
    read text (Some true) parsed = sym ((bytes_eq-Decides text (codes "true")).1 parsed)
    read text (Some false) parsed = ap (λ (t : List ℕ). bytes_eq t (codes "true")) (sym parsed)

    go : (o : Option Text) → one_text (found_of m) id ≡ o → unwrap_or given false ≡ is_true o
    go None e = ap (λ (o : Option Bool). unwrap_or o false) (absent e)
    go (Some text) e = read text given (reads text e)

names_agree : (m : ArgMatches) → subcommand_name_of m ≡ option_map (λ p. p.0) (subcommand_rows_of m)
names_agree m = go (out-ArgMatches m).subcommand
  where
    go : {Z : Type 0} (o : Option (Box SubCommand Z))
        → option_map (λ b. (out-SubCommand (box_value b)).name.now) o ≡ option_map (λ p. p.0) (subcommand_rows o)
    go None = refl
    go (Some b) = refl

some_made : (found : Option (Text × List Row)) (name : Text) (rows : List Row) (task : Task)
    → option_map (λ p. p.0) found ≡ Some name → option_map (λ p. p.1) found ≡ Some rows → Makes name rows task → MakesSome found task
some_made None name rows task named matched makes = cc
some_made (Some p) name rows task named matched makes =
    let name_is : name ≡ p.0 = cc in
    let rows_are : rows ≡ p.1 = cc in
    subst (λ (r : List Row). Makes p.0 r task) rows_are (subst (λ (n : Text). Makes n rows task) name_is makes)

-- what the matches have makes the task
pub made_by_matches : (m : ArgMatches) (name : Text) (rows : List Row) (task : Task) → Some name ≡ subcommand_name_of m
    → Some rows ≡ option_map (λ p. p.1) (subcommand_rows_of m) → Makes name rows task → MakesSome (subcommand_rows_of m) task
made_by_matches m name rows task named matched makes =
    some_made (subcommand_rows_of m) name rows task (sym (names_agree m) ∙ sym named) (sym matched) makes

pub is_simple_line : is_simple command_line ≡ true
unfolding clap_on_literals
is_simple_line = refl

pub is_free_line : is_simple_and_free command_line ≡ true
unfolding clap_on_literals
is_free_line = refl

-- what is so of a parse's matches is so of the words
pub by_parse : (P : Option (Text × List Row) → Type 0) (app : App) (words : List Text) (m : ArgMatches) → app ≡ command_line
    → HasMatchesOf app words m → P (subcommand_rows_of m) → P (subcommand_of command_line words)
by_parse P app words m is has holds =
    let matched = (has (ap is_simple is ∙ is_simple_line)).1 in
    subst P (matched ∙ ap (λ (a : App). subcommand_of a words) is) holds

-- the task that a parse's matches make is the one that the words name
pub names_by_parse : (app : App) (words : List Text) (m : ArgMatches) (task : Task) → app ≡ command_line → HasMatchesOf app words m
    → MakesSome (subcommand_rows_of m) task → NamesTask words task
names_by_parse app words m task is has makes = by_parse (λ found. MakesSome found task) app words m is has makes

-- what a request asks for that names no file twice
pub asked_apart : (words : List Text) (task : Task) (r : Result Request Error) → NamesTask words task → fault_of command_line words ≡ []
    → IfOk r (λ other. task_of other ≡ task) → OnOk r (names_twice task ≡ false) → IfOk r (λ request. AskFor words (task_of request))
asked_apart words task (Ok request) named none same apart =
    subst (λ (t : Task). AskFor words t) (sym same) (record { named = named; faultless = none; apart = apart })
asked_apart words task (Err e) named none same apart = same

-- and why one is refused that does
pub refused_apart : (words : List Text) (task : Task) (r : Result Request Error) → NamesTask words task
    → IfErr r (λ e. (kind_of e ≡ OutOfMemory) ⊎ ((kind_of e ≡ ArgumentConflict) × (names_twice task ≡ true)))
    → IfErr r (λ e. (kind_of e ≡ OutOfMemory) ⊎ IsRefusedBy words (kind_of e))
refused_apart words task (Ok request) named fault = fault
refused_apart words task (Err e) named (inl memory) = inl memory
refused_apart words task (Err e) named (inr twice) = inr (inr (twice.0, (task, named, twice.1)))

-- why a parse fails
pub fails_by_words : {T : Type 0} (app : App) (words : List Text) (r : Result T Error) (e : Error) → app ≡ command_line → r ≡ Err e
    → (is_simple_and_free app ≡ true → FailsBy (fault_of app words) r)
    → (kind_of e ≡ OutOfMemory) ⊎ IsRefusedBy words (kind_of e)
fails_by_words app words r e is failed fails =
    let all = subst (λ x. FailsBy (fault_of app words) x) failed (fails (ap is_simple_and_free is ∙ is_free_line)) in
    elim all [
      | inl memory ↦ inl memory
      | inr among ↦ inr (inl (subst (λ (a : App). IsAmong (kind_of e) (fault_of a words)) is among))
    ]

-- a parse that succeeds meets no fault
pub no_fault_of_words : {T : Type 0} (app : App) (words : List Text) (r : Result T Error) (m : T) → app ≡ command_line → r ≡ Ok m
    → (is_simple_and_free app ≡ true → FailsBy (fault_of app words) r) → fault_of command_line words ≡ []
no_fault_of_words app words r m is passed fails =
    let none : fault_of app words ≡ [] = subst (λ x. FailsBy (fault_of app words) x) passed (fails (ap is_simple_and_free is ∙ is_free_line)) in
    ap (λ (a : App). fault_of a words) (sym is) ∙ none

-- what is known of a text that was read as a `u32`
abbrev IsReadAs : List ℕ → Result ℕ ParseIntError → Type 0
IsReadAs text r = ParsesUnsigned 32 10 text r × ExplainsUnsignedError 10 text r × HasUnsignedDigitsIfOk text r

-- a number that was asked for, and that a test of its range kept
pub number_by_rows : (m : ArgMatches) (id : Text) (given : Option ℕ) (n kept : ℕ) → n ≡ kept → given ≡ Some n
    → (one_text (found_of m) id ≡ None → given ≡ None) → ((text : List ℕ) → one_text (found_of m) id ≡ Some text → ReadsOne IsReadAs text given)
    → Reads (rows_of (found_of m)) id kept
number_by_rows m id given n kept same is absent reads =
    subst (λ (k : ℕ). Reads (rows_of (found_of m)) id k) same (go (one_text (found_of m) id) refl)
  where
    go : (o : Option Text) → one_text (found_of m) id ≡ o → Reads (rows_of (found_of m)) id n
    go None e = let never : None ≡ Some n = sym (absent e) ∙ is in cc
    go (Some text) e =
        let parsed = subst (λ (o : Option ℕ). ReadsOne IsReadAs text o) is (reads text e) in
        (text, sym (one_text-rows (found_of m) id) ∙ e, parsed.0.0.0, parsed.0.1)

-- The commands of the whole command line: which word names one, and what is read after it.
use Rattle.std.proofs.Common.{◌≡◌, ◌∙◌, ◌⊎◌, ◌++◌, ap, ap₂, sym, refl, subst, inl, inr, Bool, true, false, List, [], ◌∷◌, Option, Some, None, codes}
use Rattle.std.specs.Prelude.{◌||◌, ⊤, find, fold, if◌then◌else◌, is_some, option_map}
use Rattle.std.specs.List.{list_any}
use Rattle.std.specs.Str.{bytes_eq}
use Rattle.std.proofs.lemmas.Slice.Eq.{bytes_eq-Decides}
use Rattle.std.proofs.lemmas.List.{append_assoc, append-nil}
use Rattle.clap.specs.Words.{Shape, Text, built, fault_of}
use Rattle.clap.specs.Simple.{entered, help_shape, label_of, names_of}
use Rattle.clap.specs.Kinds.{Kinds, or_else}
use Rattle.clap.specs.Walk.{Held, Names, Walk, answers_to, finished, idle, nothing_held, rows_after, settled, subcommand_met, walk_from, walked, walked_from}
use Rattle.clap.specs.Faults.{check_fault, defaults_fault, entered_fault, level_fault, settle_fault, turn_fault, walk_fault}
use Rattle.clap.proofs.OnLiterals.{clap_on_literals}
use Rattle.command_line.specs.CommandLine.{command_line}
use Rattle.command_line.specs.Requests.{Makes, MakesSome, NamesTask, Task}

abbrev pub top : Shape
top = (built command_line).top

abbrev pub names : Names
names = names_of (built command_line)

abbrev shape_in : Option Shape → Shape
shape_in None = help_shape
shape_in (Some s) = s

-- the command of this name
abbrev pub shape_of : Text → Shape
shape_of name = shape_in (find (λ s. answers_to name (label_of s)) (built command_line).subs)

-- the walk at the beginning of the words, and after the first of them
abbrev pub start : Walk
start = walk_from nothing_held

abbrev second : Text → Walk
second name = walked top.rules names start name

-- the word is the name of a command: the walk stops at it, and the words after it are the command's
pub record IsCommand (name : Text) : Type 0 where
  pub met : (second name).stopped ≡ Some (name, [])
  pub enters : (words : List Text) → entered (built command_line) (Some (name, words)) ≡ Some (name, rows_after (shape_of name).rules [] words)

-- the faults of a command's words
abbrev pub leaf_fault : Shape → List Text → Kinds
leaf_fault s words = level_fault s [] nothing_held words false []

-- the faults of the whole line, by those of its words, where its walk stopped, and what was held
-- there
abbrev line_fault : Text → Kinds → Option (Text × List Text) → Held → Kinds
line_fault name faults stop held =
    or_else (or_else (turn_fault top names start name) faults)
    (or_else (entered_fault (built command_line) stop)
    (or_else (settle_fault top.rules top.args_override_self held)
    (or_else (defaults_fault (settled top.rules held).rows top.rules)
    (check_fault top (finished top.rules held) (is_some (entered (built command_line) stop))))))

-- where a command's words have no fault, the whole line has none
abbrev IsSound : Text → Type 0
IsSound name = (words : List Text) → leaf_fault (shape_of name) words ≡ [] → line_fault name [] (Some (name, words)) (second name).held ≡ []

-- a command whose words may have no fault
pub record IsAskable (name : Text) : Type 0 where
  pub is : IsCommand name
  pub sound : IsSound name

only : {a : Kinds} → a ≡ [] → or_else a [] ≡ []
only none = ap (λ (k : Kinds). or_else k []) none

-- ---- the thirteen commands

pub prove_is : IsAskable (codes "prove")
unfolding clap_on_literals
prove_is = record { is = record { met = refl; enters = λ words. refl }; sound = λ words leaf. only leaf }

pub check_is : IsAskable (codes "check")
unfolding clap_on_literals
check_is = record { is = record { met = refl; enters = λ words. refl }; sound = λ words leaf. only leaf }

pub replay_is : IsAskable (codes "replay")
unfolding clap_on_literals
replay_is = record { is = record { met = refl; enters = λ words. refl }; sound = λ words leaf. only leaf }

pub encode_is : IsAskable (codes "encode")
unfolding clap_on_literals
encode_is = record { is = record { met = refl; enters = λ words. refl }; sound = λ words leaf. only leaf }

pub explain_is : IsAskable (codes "explain")
unfolding clap_on_literals
explain_is = record { is = record { met = refl; enters = λ words. refl }; sound = λ words leaf. only leaf }

pub export_is : IsAskable (codes "export")
unfolding clap_on_literals
export_is = record { is = record { met = refl; enters = λ words. refl }; sound = λ words leaf. only leaf }

pub trim_is : IsAskable (codes "trim")
unfolding clap_on_literals
trim_is = record { is = record { met = refl; enters = λ words. refl }; sound = λ words leaf. only leaf }

pub shrink_is : IsAskable (codes "shrink")
unfolding clap_on_literals
shrink_is = record { is = record { met = refl; enters = λ words. refl }; sound = λ words leaf. only leaf }

pub decide_is : IsAskable (codes "decide")
unfolding clap_on_literals
decide_is = record { is = record { met = refl; enters = λ words. refl }; sound = λ words leaf. only leaf }

pub unroll_is : IsAskable (codes "unroll")
unfolding clap_on_literals
unroll_is = record { is = record { met = refl; enters = λ words. refl }; sound = λ words leaf. only leaf }

pub phases_is : IsAskable (codes "phases")
unfolding clap_on_literals
phases_is = record { is = record { met = refl; enters = λ words. refl }; sound = λ words leaf. only leaf }

pub join_is : IsAskable (codes "join")
unfolding clap_on_literals
join_is = record { is = record { met = refl; enters = λ words. refl }; sound = λ words leaf. only leaf }

help_is : IsCommand (codes "help")
unfolding clap_on_literals
help_is = record { met = refl; enters = λ words. refl }

-- each of these labels is the name of a command, which has no other
abbrev AreCommands : Names → Type 0
AreCommands [] = ⊤
AreCommands (n ∷ ns) = IsCommand n.0 × (n.1 ≡ []) × AreCommands ns

all_are : AreCommands names
all_are = (
  prove_is.is,
  refl,
  (
    check_is.is,
    refl,
    (
      replay_is.is,
      refl,
      (
        encode_is.is,
        refl,
        (
          explain_is.is,
          refl,
          (export_is.is, refl, (trim_is.is, refl, (shrink_is.is, refl, (decide_is.is, refl, (unroll_is.is, refl, (phases_is.is, refl, (join_is.is, refl, (help_is, refl, tt)))))))),
        ),
      ),
    ),
  ),
)

-- a word is the name of one of these commands, or of none of them
named_or_not : (word : Text) (ns : Names) → AreCommands ns → IsCommand word ⊎ (find (answers_to word) ns ≡ None)
named_or_not word [] are = inr refl
named_or_not word (n ∷ ns) (is, alone, are) = go (bytes_eq n.0 word) refl (named_or_not word ns are)
  where
    go : (b : Bool) → bytes_eq n.0 word ≡ b → IsCommand word ⊎ (find (answers_to word) ns ≡ None)
        → IsCommand word ⊎ (find (answers_to word) (n ∷ ns) ≡ None)
    go true e others = inl (subst IsCommand ((bytes_eq-Decides n.0 word).0 e) is)
    go false e (inl other) = inl other
    go false e (inr none) =
        inr (ap₂ (λ (b : Bool) (aliases : List Text). if b || list_any (λ alias. bytes_eq alias word) aliases then Some n else find (answers_to word) ns) e alone ∙ none)

pub command_or_none : (word : Text) → IsCommand word ⊎ (subcommand_met names idle word ≡ None)
command_or_none word = elim (named_or_not word names all_are) [
  | inl is ↦ inl is
  | inr none ↦ inr (ap (option_map (λ s. s.0)) none)
]

-- ---- the words after a command

-- where a walk stopped, with the words after it
stopped_stays : (rest : List Text) (w : Walk) (p : Text × List Text) → w.stopped ≡ Some p
    → (fold (walked top.rules names) w rest).stopped ≡ Some (p.0, p.1 ++ rest)
unfolding walked
stopped_stays [] w p e = e ∙ ap (λ (l : List Text). Some (p.0, l)) (sym (append-nil p.1))
stopped_stays (word ∷ rest) w p e =
    stopped_stays rest (walked top.rules names w word) (p.0, p.1 ++ word ∷ []) (ap (λ (o : Option (Text × List Text)). (walked_from top.rules names o w word).stopped) e)
    ∙ ap (λ (l : List Text). Some (p.0, l)) (append_assoc p.1 (word ∷ []) rest)

-- nothing more is held
held_stays : (rest : List Text) (w : Walk) (p : Text × List Text) → w.stopped ≡ Some p → (fold (walked top.rules names) w rest).held ≡ w.held
unfolding walked
held_stays [] w p e = refl
held_stays (word ∷ rest) w p e =
    held_stays rest (walked top.rules names w word) (p.0, p.1 ++ word ∷ []) (ap (λ (o : Option (Text × List Text)). (walked_from top.rules names o w word).stopped) e)
    ∙ ap (λ (o : Option (Text × List Text)). (walked_from top.rules names o w word).held) e

-- and there is no more fault
faults_stay : (rest : List Text) (w : Walk) (p : Text × List Text) → w.stopped ≡ Some p → walk_fault top names w rest ≡ []
unfolding walked walk_fault
faults_stay [] w p e = refl
faults_stay (word ∷ rest) w p e =
    let passed : turn_fault top names w word ≡ [] = rw e refl in
    ap₂ or_else passed
    (faults_stay rest (walked top.rules names w word) (p.0, p.1 ++ word ∷ []) (ap (λ (o : Option (Text × List Text)). (walked_from top.rules names o w word).stopped) e))

-- what the words after a command's name make, is the task that the whole line names
abbrev pub MakesBy : Text → List Text → Task → Type 0
MakesBy name words task = Makes name (rows_after (shape_of name).rules [] words) task

entered_at : (w name : Text) (words : List Text) → IsCommand name
    → entered (built command_line) (fold (walked top.rules names) (second name) words).stopped ≡ Some (name, rows_after (shape_of name).rules [] words)
entered_at w name words is =
    ap (λ (o : Option (Text × List Text)). entered (built command_line) o) (stopped_stays words (second name) (name, []) is.met) ∙ is.enters words

pub made : (w name : Text) (words : List Text) (task : Task) → IsCommand name → NamesTask (w ∷ name ∷ words) task → MakesBy name words task
made w name words task is asks = subst (λ o. MakesSome o task) (entered_at w name words is) asks

pub names_by : (w name : Text) (words : List Text) (task : Task) → IsCommand name → MakesBy name words task → NamesTask (w ∷ name ∷ words) task
names_by w name words task is makes = subst (λ o. MakesSome o task) (sym (entered_at w name words is)) makes

-- so are its faults
pub faultless_by : (w name : Text) (words : List Text) → IsAskable name → leaf_fault (shape_of name) words ≡ []
    → fault_of command_line (w ∷ name ∷ words) ≡ []
unfolding walk_fault
faultless_by w name words ask leaf =
    let at = second name in
    let end = fold (walked top.rules names) at words in
    ap₂ (λ (faults : Kinds) (stop : Option (Text × List Text)). line_fault name faults stop end.held)
    (faults_stay words at (name, []) ask.is.met) (stopped_stays words at (name, []) ask.is.met)
    ∙ (ap (λ (held : Held). line_fault name [] (Some (name, words)) held) (held_stays words at (name, []) ask.is.met) ∙ ask.sound words leaf)

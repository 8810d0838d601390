-- The command is the second word.
use Rattle.std.proofs.Common.{◌≡◌, ◌∙◌, ◌⊎◌, ap, sym, refl, subst, inl, inr, ℕ, Bool, true, false, List, [], ◌∷◌, Option, Some, None, slice_get, length}
use Rattle.std.specs.Prelude.{◌&&◌, drop, encode_utf8, find, if◌then◌else◌, is_some, not}
use Rattle.std.specs.Option.{option_map_or}
use Rattle.std.specs.Str.{bytes_eq, chars}
use Rattle.std.proofs.lemmas.Slice.Eq.{bytes_eq-Decides}
use Rattle.clap.specs.Words.{Rule, Shape, Text, fault_of}
use Rattle.clap.specs.Simple.{help_rule}
use Rattle.clap.specs.Kinds.{Kinds, or_else}
use Rattle.clap.specs.Walk.{after_flag, bundle_met, bundle_step, finished, has_long, has_short, plain, settled, trailing, Held, Names, arg_by_long, arg_by_short, idle, long_or_other, nothing_held, short_or_plain, subcommand_met, subcommand_or_other, walk, walk_from, walked}
use Rattle.clap.specs.Lexer.{long_of, short_of}
use Rattle.clap.specs.Faults.{check_fault, defaults_fault, level_fault, settle_fault, bundle_fault, bundle_step_fault, flag_word_fault, flags_fault, long_fault, other_fault, short_fault, step_fault, turn_fault, walk_fault}
use Rattle.clap.proofs.OnLiterals.{clap_on_literals}
use Rattle.command_line.specs.CommandLine.{command_line}
use Rattle.command_line.specs.Requests.{NamesTask, Task, command_of}
use Rattle.command_line.proofs.CommandNames.{command_or_none, made, names, top}

first_none : (a b : Kinds) → or_else a b ≡ [] → a ≡ []
first_none [] b e = refl
first_none (k ∷ ks) b e = cc

second_none : (a b : Kinds) → or_else a b ≡ [] → b ≡ []
second_none [] b e = e
second_none (k ∷ ks) b e = cc

-- what is found in a list of two is one of them
find_two : {X : Type 0} (p : X → Bool) (x y : X) → (find p (x ∷ y ∷ []) ≡ None) ⊎ ((find p (x ∷ y ∷ []) ≡ Some x) ⊎ (find p (x ∷ y ∷ []) ≡ Some y))
find_two p x y = go (p x) (p y) refl refl
  where
    go : (a b : Bool) → p x ≡ a → p y ≡ b → (find p (x ∷ y ∷ []) ≡ None) ⊎ ((find p (x ∷ y ∷ []) ≡ Some x) ⊎ (find p (x ∷ y ∷ []) ≡ Some y))
    go true b e f = inr (inl (rw e refl))
    go false true e f = inr (inr (rw (e, f) refl))
    go false false e f = inl (rw (e, f) refl)

-- the two rules of the whole command line: `--help` and `--version`
abbrev first_rule : List Rule → Rule
first_rule [] = help_rule
first_rule (rule ∷ rules) = rule

abbrev other_rules : List Rule → List Rule
other_rules [] = []
other_rules (rule ∷ rules) = rules

abbrev help : Rule
help = first_rule top.rules

abbrev version : Rule
version = first_rule (other_rules top.rules)

-- no rule was found, or one of the two
abbrev IsOfTwo : Option Rule → Type 0
IsOfTwo o = (o ≡ None) ⊎ ((o ≡ Some help) ⊎ (o ≡ Some version))

abbrev is_none : Kinds → Bool
is_none [] = true
is_none (k ∷ ks) = false

clash : false ≡ true → ⊥
clash e = cc

-- a question is asked, or a flag isn't known
long_fails : (o : Option Rule) (v : Option Text) → (is_none (long_fault top.rules false o v nothing_held) ≡ false) → long_fault top.rules false o v nothing_held ≡ [] → ⊥
long_fails o v some e = clash (sym some ∙ ap is_none e)

long_case : (o : Option Rule) → IsOfTwo o → (v : Option Text) → long_fault top.rules false o v nothing_held ≡ [] → ⊥
unfolding clap_on_literals
long_case o (inl none) v e =
    long_fails None v refl (subst (λ (x : Option Rule). long_fault top.rules false x v nothing_held ≡ []) none e)
long_case o (inr (inl some)) (Some v) e =
    long_fails (Some help) (Some v) refl (subst (λ (x : Option Rule). long_fault top.rules false x (Some v) nothing_held ≡ []) some e)
long_case o (inr (inl some)) None e =
    long_fails (Some help) None refl (subst (λ (x : Option Rule). long_fault top.rules false x None nothing_held ≡ []) some e)
long_case o (inr (inr some)) (Some v) e =
    long_fails (Some version) (Some v) refl (subst (λ (x : Option Rule). long_fault top.rules false x (Some v) nothing_held ≡ []) some e)
long_case o (inr (inr some)) None e =
    long_fails (Some version) None refl (subst (λ (x : Option Rule). long_fault top.rules false x None nothing_held ≡ []) some e)

short_fails : (o : Option Rule) (rest : Text) (next : Held → Kinds) → (is_none (short_fault top.rules false o rest nothing_held next) ≡ false)
    → short_fault top.rules false o rest nothing_held next ≡ [] → ⊥
short_fails o rest next some e = clash (sym some ∙ ap is_none e)

short_case : (o : Option Rule) → IsOfTwo o → (rest : Text) (next : Held → Kinds) → short_fault top.rules false o rest nothing_held next ≡ [] → ⊥
unfolding clap_on_literals
short_case o (inl none) rest next e =
    short_fails None rest next refl (subst (λ (x : Option Rule). short_fault top.rules false x rest nothing_held next ≡ []) none e)
short_case o (inr (inl some)) rest next e =
    short_fails (Some help) rest next refl (subst (λ (x : Option Rule). short_fault top.rules false x rest nothing_held next ≡ []) some e)
short_case o (inr (inr some)) rest next e =
    short_fails (Some version) rest next refl (subst (λ (x : Option Rule). short_fault top.rules false x rest nothing_held next ≡ []) some e)

no_char : (word flags : Text) (c : Option ℕ) (k : ℕ) → bundle_step_fault top.rules false c flags 0 nothing_held (flags_fault top.rules false k) ≡ []
    → step_fault top 1 (after_flag top.rules idle word (bundle_step top.rules c flags 0 plain nothing_held (bundle_met top.rules k)).0 (bundle_step top.rules c flags 0 plain nothing_held (bundle_met top.rules k)).1).0
    (after_flag top.rules idle word (bundle_step top.rules c flags 0 plain nothing_held (bundle_met top.rules k)).0 (bundle_step top.rules c flags 0 plain nothing_held (bundle_met top.rules k)).1).1 ≡ []
    → ⊥
no_char word flags None k f s = clash (ap is_none s)
no_char word flags (Some x) k f s =
    short_case (arg_by_short top.rules x) (find_two (λ a. not (is_some a.index) && has_short a x) help version) (drop (length (encode_utf8 x)) flags) _ f

no_short : (word : Text) (o : Option Text) → option_map_or (λ flags. bundle_fault top.rules false flags nothing_held) o [] ≡ []
    → step_fault top 1 (short_or_plain top.rules idle word o nothing_held).0 (short_or_plain top.rules idle word o nothing_held).1 ≡ [] → ⊥
unfolding clap_on_literals
no_short word None f s = clash (ap is_none s)
no_short word (Some []) f s = clash (ap is_none s)
no_short word (Some (x ∷ xs)) f s = no_char word (x ∷ xs) (slice_get (chars (x ∷ xs)) 0) (length xs) f s

no_flag : (word : Text) (l : Option (Text × Option Text)) → flag_word_fault top.rules false l word nothing_held ≡ []
    → step_fault top 1 (long_or_other top.rules idle word l nothing_held).0 (long_or_other top.rules idle word l nothing_held).1 ≡ [] → ⊥
no_flag word (Some p) f s = long_case (arg_by_long top.rules p.0) (find_two (λ a. not (is_some a.index) && has_long a p.0) help version) p.1 f
no_flag word None f s = no_short word (short_of word) f s

abbrev dashes : Text
dashes = 45 ∷ 45 ∷ []

-- a first word that is no command and not `--` is refused
first_word : (word : Text) → subcommand_met names idle word ≡ None → bytes_eq word dashes ≡ false
    → turn_fault top names (walk_from nothing_held) word ≡ [] → ⊥
first_word word unmet other e =
    let one = subst (λ (o : Option Text). or_else (other_fault top o word nothing_held)
    (step_fault top 1 (subcommand_or_other top.rules o idle 1 word nothing_held).0 (subcommand_or_other top.rules o idle 1 word nothing_held).1) ≡ []) unmet e in
    let two : or_else (flag_word_fault top.rules false (long_of word) word nothing_held)
    (step_fault top 1 (long_or_other top.rules idle word (long_of word) nothing_held).0 (long_or_other top.rules idle word (long_of word) nothing_held).1) ≡ [] =
    subst (λ (b : Bool). or_else (if b then [] else flag_word_fault top.rules false (long_of word) word nothing_held)
    (step_fault top 1 (if b then (nothing_held, trailing 1) else long_or_other top.rules idle word (long_of word) nothing_held).0
    (if b then (nothing_held, trailing 1) else long_or_other top.rules idle word (long_of word) nothing_held).1) ≡ []) other one in
    no_flag word (long_of word) (first_none _ _ two) (second_none (flag_word_fault top.rules false (long_of word) word nothing_held) _ two)

level_none : (s : Shape) (n : Names) (h : Held) (words : List Text) (has : Bool) (below : Kinds) → level_fault s n h words has below ≡ []
    → walk_fault s n (walk_from h) words ≡ []
level_none s n h words has below e =
    let end = (walk s.rules n h words).held in
    first_none (walk_fault s n (walk_from h) words)
    (or_else below (or_else (settle_fault s.rules s.args_override_self end)
    (or_else (defaults_fault (settled s.rules end).rows s.rules) (check_fault s (finished s.rules end) has)))) e

walk_none : (w : Text) (words : List Text) → fault_of command_line (w ∷ words) ≡ [] → walk_fault top names (walk_from nothing_held) words ≡ []
walk_none w words sound = level_none top names nothing_held words _ _ sound

-- after `--` no command is met
at_dashes : (w : Text) (rest : List Text) (task : Task) → NamesTask (w ∷ dashes ∷ rest) task → fault_of command_line (w ∷ dashes ∷ rest) ≡ [] → ⊥
unfolding clap_on_literals
at_dashes w [] task asks sound = asks
at_dashes w (word ∷ rest) task asks sound =
    let f = walk_none w (dashes ∷ word ∷ rest) sound in
    clash (ap is_none f)

turn_none : (w word : Text) (rest : List Text) → fault_of command_line (w ∷ word ∷ rest) ≡ [] → turn_fault top names (walk_from nothing_held) word ≡ []
unfolding walk_fault
turn_none w word rest sound =
    first_none (turn_fault top names (walk_from nothing_held) word) (walk_fault top names (walked top.rules names (walk_from nothing_held) word) rest)
    (walk_none w (word ∷ rest) sound)

pub command_is_second : (words : List Text) (task : Task) → NamesTask words task → fault_of command_line words ≡ []
    → slice_get words 1 ≡ Some (command_of task)
command_is_second [] task asks sound = absurd asks
command_is_second (w ∷ []) task asks sound = absurd asks
command_is_second (w ∷ word ∷ rest) task asks sound = elim (command_or_none word) [
  | inl is ↦ ap Some ((made w word rest task is asks).command)
  | inr unmet ↦ absurd (by_dashes (bytes_eq word dashes) refl unmet)
]
  where
    by_dashes : (b : Bool) → bytes_eq word dashes ≡ b → subcommand_met names idle word ≡ None → ⊥
    by_dashes true e unmet =
        let same : word ≡ dashes = (bytes_eq-Decides word dashes).0 e in
        at_dashes w rest task (subst (λ (x : Text). NamesTask (w ∷ x ∷ rest) task) same asks)
        (subst (λ (x : Text). fault_of command_line (w ∷ x ∷ rest) ≡ []) same sound)
    by_dashes false e unmet = first_word word unmet e (turn_none w word rest sound)

-- The words of a command in parts, of which some may be any text: how they are read, and which
-- faults they have.
use Rattle.std.proofs.Common.{◌≡◌, ◌∙◌, ap, ap₂, refl, subst, sym, ℕ, Bool, true, false, List, [], ◌∷◌, Option, Some, None}
use Rattle.std.specs.Prelude.{◌&&◌, fold, if◌then◌else◌, is_some, option_and_then, unwrap_or}
use Rattle.std.specs.Option.{option_map_or}
use Rattle.std.specs.Str.{bytes_eq}
use Rattle.std.proofs.lemmas.Slice.Eq.{bytes_eq-Decides}
use Rattle.clap.specs.Words.{Rule, Shape, Text}
use Rattle.clap.specs.Kinds.{Kinds, or_else}
use Rattle.clap.specs.Lexer.{long_of, long_of_rest, short_of, short_of_rest, strip_byte, without_minus}
use Rattle.clap.specs.Faults.{bundle_fault, check_fault, defaults_fault, flag_word_fault, other_fault, settle_fault, step_fault, turn_fault, walk_fault, word_fault}
use Rattle.clap.specs.Walk.{Held, Step, Waiting, Walk, after_step, finished, idle, long_or_other, option, plain_word, positional, settled, short_or_plain, subcommand_met, subcommand_or_other, trailing, walked, walked_from, word_met}
use Rattle.clap.specs.declared.error.kind.ErrorKind.TheVariants.{UnknownArgument}
use Rattle.command_line.specs.Requests.{AskFor, HasValues, Makes, Task, command_of, names_twice}
use Rattle.command_line.specs.UsualWords.{IsFree, begins_with_hyphen}
use Rattle.command_line.proofs.CommandNames.{IsAskable, faultless_by, made, names_by, shape_of, start}
use Rattle.command_line.proofs.ReadTasks.{is_read, read}

-- ---- one free word

no_dashes : (word : Text) → IsFree word → bytes_eq word (45 ∷ 45 ∷ []) ≡ false
no_dashes word free = go (bytes_eq word (45 ∷ 45 ∷ [])) refl
  where
    go : (b : Bool) → bytes_eq word (45 ∷ 45 ∷ []) ≡ b → b ≡ false
    go false e = refl
    go true e =
        let same : word ≡ 45 ∷ 45 ∷ [] = (bytes_eq-Decides word (45 ∷ 45 ∷ [])).0 e in
        let bad : true ≡ false = subst (λ (t : Text). begins_with_hyphen t ≡ false) same free in
        absurd (cc)

unstripped : (word : Text) → IsFree word → strip_byte 45 word ≡ None
unstripped [] free = refl
unstripped (byte ∷ rest) free = ap (λ (b : Bool). if b then Some rest else None) free

-- and has no minus
pub bare : (text : Text) → IsFree text → without_minus text ≡ text
bare text free = ap (λ (o : Option Text). unwrap_or o text) (unstripped text free)

none_met : (waiting : Waiting) (word : Text) → subcommand_met [] waiting word ≡ None
none_met idle word = refl
none_met (option id) word = refl
none_met positional word = refl

no_long : (word : Text) → IsFree word → long_of word ≡ None
no_long word free = ap (λ (o : Option Text). option_and_then long_of_rest (option_and_then (strip_byte 45) o)) (unstripped word free)

no_short : (word : Text) → IsFree word → short_of word ≡ None
no_short word free = ap (λ (o : Option Text). option_and_then short_of_rest o) (unstripped word free)

-- a free word is no flag
free_met : (rules : List Rule) (waiting : Waiting) (position : ℕ) (word : Text) (h : Held) → IsFree word
    → word_met rules [] false waiting position word h ≡ plain_word rules waiting word h
free_met rules waiting position word h free =
    ap (λ (o : Option Text). subcommand_or_other rules o waiting position word h) (none_met waiting word)
    ∙ (ap (λ (b : Bool). if b then (h, trailing position) else long_or_other rules waiting word (long_of word) h) (no_dashes word free)
    ∙ (ap (λ (o : Option (Text × Option Text)). long_or_other rules waiting word o h) (no_long word free)
    ∙ ap (λ (o : Option Text). short_or_plain rules waiting word o h) (no_short word free)))

-- and no faulty one
unfaulted : (s : Shape) (word : Text) (h : Held) → IsFree word → other_fault s None word h ≡ []
unfaulted s word h free =
    ap (λ (b : Bool). if b then [] else flag_word_fault s.rules s.args_override_self (long_of word) word h) (no_dashes word free)
    ∙ (ap (λ (o : Option (Text × Option Text)). flag_word_fault s.rules s.args_override_self o word h) (no_long word free)
    ∙ ap (λ (o : Option Text). option_map_or (λ flags. bundle_fault s.rules s.args_override_self flags h) o []) (no_short word free))

-- the walk after one more free word, and its fault, which is that of the step to which it leads
abbrev after_free : List Rule → Walk → Text → Walk
after_free rules w word = after_step rules word w (plain_word rules w.waiting word w.held).0 (plain_word rules w.waiting word w.held).1

abbrev free_fault : Shape → Walk → Text → Kinds
free_fault s w word = step_fault s w.position (plain_word s.rules w.waiting word w.held).0 (plain_word s.rules w.waiting word w.held).1

walked_free : (rules : List Rule) (w : Walk) (word : Text) → w.stopped ≡ None → w.is_trailing ≡ false → IsFree word
    → walked rules [] w word ≡ after_free rules w word
unfolding walked
walked_free rules w word going early free =
    ap (λ (o : Option (Text × List Text)). walked_from rules [] o w word) going
    ∙ ap (λ (met : Held × Step). after_step rules word w met.0 met.1)
    (ap (λ (b : Bool). word_met rules [] b w.waiting w.position word w.held) early ∙ free_met rules w.waiting w.position word w.held free)

-- the fault of a word, by whether the walk stopped and what the word is
abbrev fault_by : Shape → Walk → Text → Bool → Kinds → Held × Step → Kinds
fault_by s w word stopped own met = if stopped then [] else or_else own (step_fault s w.position met.0 met.1)

turned_free : (s : Shape) (w : Walk) (word : Text) → w.stopped ≡ None → w.is_trailing ≡ false → IsFree word → turn_fault s [] w word ≡ free_fault s w word
turned_free s w word going early free =
    ap (λ (o : Option (Text × List Text)). fault_by s w word (is_some o) (word_fault s [] w.is_trailing w.waiting word w.held)
    (word_met s.rules [] w.is_trailing w.waiting w.position word w.held)) going
    ∙ (ap (λ (b : Bool). fault_by s w word false (word_fault s [] b w.waiting word w.held) (word_met s.rules [] b w.waiting w.position word w.held)) early
    ∙ ap₂ (λ (own : Kinds) (met : Held × Step). fault_by s w word false own met)
    (ap (λ (o : Option Text). other_fault s o word w.held) (none_met w.waiting word) ∙ unfaulted s word w.held free)
    (free_met s.rules w.waiting w.position word w.held free))

-- ---- parts

-- a word that may be any text that is no flag, or one that is written out
pub data Part : Type 0 where
  given : (word : Text) → IsFree word → Part
  fixed : Text → Part

abbrev pub words_of : List Part → List Text
words_of [] = []
words_of (given word is ∷ parts) = word ∷ words_of parts
words_of (fixed word ∷ parts) = word ∷ words_of parts

-- the walk over parts, from where it stands
abbrev pub end_from : List Rule → Walk → List Part → Walk
end_from rules w [] = w
end_from rules w (given word is ∷ parts) = end_from rules (after_free rules w word) parts
end_from rules w (fixed word ∷ parts) = end_from rules (walked rules [] w word) parts

-- nothing stopped the walk, and no `--` stood before
abbrev goes_on : Option (Text × List Text) → Bool → Bool
goes_on None false = true
goes_on _ _ = false

-- so at each free part
abbrev pub is_open : List Rule → Walk → List Part → Bool
is_open rules w [] = true
is_open rules w (given word is ∷ parts) = goes_on w.stopped w.is_trailing && is_open rules (after_free rules w word) parts
is_open rules w (fixed word ∷ parts) = is_open rules (walked rules [] w word) parts

abbrev faults_from : Shape → Walk → List Part → Kinds
faults_from s w [] = []
faults_from s w (given word is ∷ parts) = or_else (free_fault s w word) (faults_from s (after_free s.rules w word) parts)
faults_from s w (fixed word ∷ parts) = or_else (turn_fault s [] w word) (faults_from s (walked s.rules [] w word) parts)

both : (a b : Bool) → a && b ≡ true → (a ≡ true) × (b ≡ true)
both true b e = (refl, e)
both false b e = absurd (cc)

going : (stop : Option (Text × List Text)) (trails : Bool) → goes_on stop trails ≡ true → (stop ≡ None) × (trails ≡ false)
going None false e = (refl, refl)
going None true e = absurd (cc)
going (Some p) false e = absurd (cc)
going (Some p) true e = absurd (cc)

parts_walk : (rules : List Rule) (w : Walk) (parts : List Part) → is_open rules w parts ≡ true
    → fold (walked rules []) w (words_of parts) ≡ end_from rules w parts
parts_walk rules w [] goes = refl
parts_walk rules w (given word is ∷ parts) goes =
    let now = both (goes_on w.stopped w.is_trailing) (is_open rules (after_free rules w word) parts) goes in
    let here = going w.stopped w.is_trailing now.0 in
    ap (λ (x : Walk). fold (walked rules []) x (words_of parts)) (walked_free rules w word here.0 here.1 is)
    ∙ parts_walk rules (after_free rules w word) parts now.1
parts_walk rules w (fixed word ∷ parts) goes = parts_walk rules (walked rules [] w word) parts goes

parts_faults : (s : Shape) (w : Walk) (parts : List Part) → is_open s.rules w parts ≡ true
    → walk_fault s [] w (words_of parts) ≡ faults_from s w parts
unfolding walk_fault
parts_faults s w [] goes = refl
parts_faults s w (given word is ∷ parts) goes =
    let now = both (goes_on w.stopped w.is_trailing) (is_open s.rules (after_free s.rules w word) parts) goes in
    let here = going w.stopped w.is_trailing now.0 in
    ap₂ or_else (turned_free s w word here.0 here.1 is)
    (ap (λ (x : Walk). walk_fault s [] x (words_of parts)) (walked_free s.rules w word here.0 here.1 is)
    ∙ parts_faults s (after_free s.rules w word) parts now.1)
parts_faults s w (fixed word ∷ parts) goes = ap (or_else (turn_fault s [] w word)) (parts_faults s (walked s.rules [] w word) parts goes)

-- ---- the words of a command

-- where the walk over a command's parts ends
abbrev pub end_of : Text → List Part → Walk
end_of name parts = end_from (shape_of name).rules start parts

-- the faults at the end of a walk
abbrev end_fault : Shape → Walk → Kinds
end_fault s w =
    or_else (settle_fault s.rules s.args_override_self w.held)
    (or_else (defaults_fault (settled s.rules w.held).rows s.rules) (check_fault s (finished s.rules w.held) false))

abbrev fault_if : Bool → Kinds → Kinds
fault_if true faults = faults
fault_if false faults = UnknownArgument ∷ []

-- all faults of a command's parts; a part that isn't read as free counts as one too
abbrev pub parts_fault : Text → List Part → Kinds
parts_fault name parts =
    fault_if (is_open (shape_of name).rules start parts)
    (or_else (faults_from (shape_of name) start parts) (end_fault (shape_of name) (end_of name parts)))

open_if : (opened : Bool) (faults : Kinds) → fault_if opened faults ≡ [] → (opened ≡ true) × (faults ≡ [])
open_if true faults e = (refl, e)
open_if false faults e = absurd (cc)

-- parts without a fault, that make a task, ask for it
pub asks_by : {w name : Text} {task : Task} (parts : List Part) → IsAskable name → parts_fault name parts ≡ []
    → name ≡ command_of task → names_twice task ≡ false → HasValues (finished (shape_of name).rules (end_of name parts).held) task
    → AskFor (w ∷ name ∷ words_of parts) task
asks_by {w = w} {name = name} {task = task} parts ask none command apart values =
    let s = shape_of name in
    let passed = open_if (is_open s.rules start parts) (or_else (faults_from s start parts) (end_fault s (end_of name parts))) none in
    let walk = parts_walk s.rules start parts passed.0 in
    record {
      named = names_by w name (words_of parts) task ask.is
          (subst (λ (x : Walk). Makes name (finished s.rules x.held) task) (sym walk) (record { command = command; values = values }));
      faultless = faultless_by w name (words_of parts) ask
          (ap₂ (λ (k : Kinds) (x : Walk). or_else k (end_fault s x)) (parts_faults s start parts passed.0) walk ∙ passed.1);
      apart = apart;
    }

-- what parts ask for is what is read of their walk's end
pub read_by : {w name : Text} {task : Task} (parts : List Part) → IsAskable name → is_open (shape_of name).rules start parts ≡ true
    → AskFor (w ∷ name ∷ words_of parts) task → task ≡ read name (finished (shape_of name).rules (end_of name parts).held)
read_by {w = w} {name = name} {task = task} parts ask goes asks =
    let s = shape_of name in
    is_read name (finished s.rules (end_of name parts).held) task
    (subst (λ (x : Walk). Makes name (finished s.rules x.held) task) (parts_walk s.rules start parts goes) (made w name (words_of parts) task ask.is asks.named))

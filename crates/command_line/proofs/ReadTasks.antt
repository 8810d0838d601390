-- The task that a command's name and its matches make is one.
use Rattle.std.proofs.Common.{◌≡◌, ◌∙◌, inl, inr, ap, ap₂, subst, sym, ℕ, Bool, true, false, List, [], ◌∷◌, Some, None, Option, codes}
use Rattle.std.specs.Prelude.{if◌then◌else◌, unwrap_or}
use Rattle.std.specs.Str.{bytes_eq}
use Rattle.clap.specs.Words.{IsAmong, Kinds, Row, Text, first_of, one_of, subcommand_of}
use Rattle.clap.specs.declared.error.kind.ErrorKind.{ErrorKind}
use Rattle.clap.proofs.OnLiterals.{clap_on_literals}
use Rattle.command_line.specs.CommandLine.{command_line}
use Rattle.command_line.specs.Requests.{AskFor, IsRefusedBy, Makes, MakesSome, NamesTask, OneTaskIsAsked, Reads, Task, names_twice, form_in, further_in, is_beside_ranks, is_beside_each, is_beside_several, is_each, is_several, is_spmd_asked, is_true, spelled_number, programs_in, settings_in, to_check, to_decide, to_decide_each, to_decide_phases, to_decide_unrolled, to_encode, to_explain, to_explain_each, to_explain_unrolled, to_export, to_join, to_phases, to_prove, to_replay, to_shrink, to_trim, to_unroll}

abbrev text_in : Option Text → Text
text_in o = unwrap_or o []

abbrev number_in : Option Text → ℕ
number_in o = spelled_number (text_in o)

-- the task of the matches of `decide` with one program text, by phases or not
abbrev decided_one : Bool → List Row → Task
decided_one true rows =
    to_decide_phases (text_in (first_of (codes "PROGRAM") rows)) (first_of (codes "out") rows) (is_true (one_of (codes "progress") rows))
    (is_true (one_of (codes "json") rows))
decided_one false rows =
    to_decide (text_in (first_of (codes "PROGRAM") rows)) (first_of (codes "out") rows) (is_true (one_of (codes "progress") rows))
    (is_true (one_of (codes "json") rows))

-- the task of the matches of `decide`, where several programs are named, an SPMD text is asked for,
-- or neither
abbrev decided : Bool → Bool → List Row → Task
decided true spmd rows = to_decide_each (programs_in rows) (first_of (codes "junit") rows) (is_beside_several rows) (is_true (one_of (codes "json") rows))
decided false true rows =
    to_decide_unrolled (text_in (first_of (codes "PROGRAM") rows)) (first_of (codes "ranks") rows) (settings_in rows) (first_of (codes "collectives") rows)
    (is_beside_ranks rows) (is_true (one_of (codes "json") rows))
decided false false rows = decided_one (is_true (one_of (codes "phases") rows)) rows

-- and of those of `explain`
abbrev explained : Bool → Bool → List Row → Task
explained true spmd rows =
    to_explain_each (text_in (first_of (codes "PROGRAM") rows) ∷ further_in rows) (first_of (codes "junit") rows)
    (number_in (one_of (codes "workers") rows)) (number_in (one_of (codes "depth") rows)) (number_in (one_of (codes "budget") rows)) (form_in rows)
    (is_beside_each rows)
explained false true rows =
    to_explain_unrolled (text_in (first_of (codes "PROGRAM") rows)) (first_of (codes "ranks") rows) (settings_in rows)
    (first_of (codes "collectives") rows) (first_of (codes "EVIDENCE") rows) (number_in (one_of (codes "workers") rows)) (number_in (one_of (codes "depth") rows))
    (number_in (one_of (codes "budget") rows)) (form_in rows) (first_of (codes "map") rows)
explained false false rows =
    to_explain (text_in (first_of (codes "PROGRAM") rows)) (first_of (codes "EVIDENCE") rows) (number_in (one_of (codes "workers") rows))
    (number_in (one_of (codes "depth") rows)) (number_in (one_of (codes "budget") rows)) (form_in rows) (first_of (codes "map") rows)

-- the task of a command's name and its matches
abbrev pub read : Text → List Row → Task
read name rows =
    if bytes_eq name (codes "prove")
    then to_prove (text_in (first_of (codes "PROGRAM") rows)) (first_of (codes "out") rows) (number_in (one_of (codes "workers") rows))
    (number_in (one_of (codes "depth") rows)) (number_in (one_of (codes "budget") rows)) (is_true (one_of (codes "progress") rows))
    (is_true (one_of (codes "json") rows))
    else (if bytes_eq name (codes "check")
    then to_check (text_in (first_of (codes "PROGRAM") rows)) (text_in (first_of (codes "EVIDENCE") rows)) (number_in (one_of (codes "pieces") rows))
    (is_true (one_of (codes "json") rows))
    else (if bytes_eq name (codes "replay")
    then to_replay (text_in (first_of (codes "PROGRAM") rows)) (text_in (first_of (codes "EVIDENCE") rows)) (is_true (one_of (codes "lines") rows))
    else (if bytes_eq name (codes "encode")
    then to_encode (text_in (first_of (codes "PROGRAM") rows)) (is_true (one_of (codes "dimacs") rows))
    else (if bytes_eq name (codes "explain")
    then explained (is_each rows) (is_spmd_asked rows) rows
    else (if bytes_eq name (codes "export")
    then to_export (text_in (first_of (codes "PROGRAM") rows)) (text_in (first_of (codes "EVIDENCE") rows)) (text_in (first_of (codes "out") rows))
    else (if bytes_eq name (codes "trim")
    then to_trim (text_in (first_of (codes "EVIDENCE") rows)) (text_in (first_of (codes "out") rows)) (is_true (one_of (codes "json") rows))
    else (if bytes_eq name (codes "shrink")
    then to_shrink (text_in (first_of (codes "PROGRAM") rows)) (first_of (codes "out") rows) (first_of (codes "map") rows)
    else (if bytes_eq name (codes "decide")
    then decided (is_several rows) (is_spmd_asked rows) rows
    else (if bytes_eq name (codes "phases")
    then to_phases (text_in (first_of (codes "PROGRAM") rows)) (text_in (first_of (codes "out") rows))
    else (if bytes_eq name (codes "join")
    then to_join (text_in (first_of (codes "PROGRAM") rows)) (text_in (first_of (codes "FOLDER") rows)) (first_of (codes "out") rows)
    (is_true (one_of (codes "json") rows))
    else to_unroll (text_in (first_of (codes "PROGRAM") rows)) (number_in (one_of (codes "ranks") rows)) (settings_in rows) (first_of (codes "collectives") rows)
    (first_of (codes "out") rows) (first_of (codes "map") rows)))))))))))

given : (o : Option Text) (text : Text) → o ≡ Some text → text ≡ text_in o
given o text e = sym (ap text_in e)

spelled : (rows : List Row) (id : Text) (n : ℕ) → Reads rows id n → n ≡ number_in (one_of id rows)
spelled rows id n reads = reads.3 ∙ sym (ap number_in reads.1)

listed : (programs : List Text) (rows : List Row) → ((program : Text) × (first_of (codes "PROGRAM") rows ≡ Some program) × (programs ≡ program ∷ further_in rows))
    → programs ≡ text_in (first_of (codes "PROGRAM") rows) ∷ further_in rows
listed programs rows (program, given_is, is) = is ∙ ap (λ (t : Text). t ∷ further_in rows) (given _ program given_is)

pub is_read : (name : Text) (rows : List Row) (task : Task) → Makes name rows task → task ≡ read name rows
unfolding clap_on_literals
is_read name rows (to_prove p out w d b progress json) makes =
    let v = makes.values in
    (λ i. to_prove (given _ p v.0 i) (sym v.1 i) (spelled rows (codes "workers") w v.2 i) (spelled rows (codes "depth") d v.3 i)
    (spelled rows (codes "budget") b v.4 i) (v.5 i) (v.6 i))
    ∙ ap (λ (n : Text). read n rows) (sym makes.command)
is_read name rows (to_check p e n json) makes =
    let v = makes.values in
    (λ i. to_check (given _ p v.0 i) (given _ e v.1 i) (spelled rows (codes "pieces") n v.2 i) (v.3 i))
    ∙ ap (λ (n : Text). read n rows) (sym makes.command)
is_read name rows (to_replay p e lines) makes =
    let v = makes.values in
    (λ i. to_replay (given _ p v.0 i) (given _ e v.1 i) (v.2 i)) ∙ ap (λ (n : Text). read n rows) (sym makes.command)
is_read name rows (to_encode p dimacs) makes =
    let v = makes.values in
    (λ i. to_encode (given _ p v.0 i) (v.1 i)) ∙ ap (λ (n : Text). read n rows) (sym makes.command)
is_read name rows (to_explain p e w d b form map) makes =
    let v = makes.values in
    (λ i. to_explain (given _ p v.0 i) (sym v.1 i) (spelled rows (codes "workers") w v.2 i) (spelled rows (codes "depth") d v.3 i)
    (spelled rows (codes "budget") b v.4 i) (v.5 i) (sym v.6 i)) ∙ ap₂ (λ (each asked : Bool). explained each asked rows) (sym v.8) (sym v.7)
    ∙ ap (λ (n : Text). read n rows) (sym makes.command)
is_read name rows (to_export p e out) makes =
    let v = makes.values in
    (λ i. to_export (given _ p v.0 i) (given _ e v.1 i) (given _ out v.2 i)) ∙ ap (λ (n : Text). read n rows) (sym makes.command)
is_read name rows (to_trim e out json) makes =
    let v = makes.values in
    (λ i. to_trim (given _ e v.0 i) (given _ out v.1 i) (v.2 i)) ∙ ap (λ (n : Text). read n rows) (sym makes.command)
is_read name rows (to_shrink p out map) makes =
    let v = makes.values in
    (λ i. to_shrink (given _ p v.0 i) (sym v.1 i) (sym v.2 i)) ∙ ap (λ (n : Text). read n rows) (sym makes.command)
is_read name rows (to_decide p out progress json) makes =
    let v = makes.values in
    (λ i. to_decide (given _ p v.0 i) (sym v.1 i) (v.2 i) (v.3 i)) ∙ ap (λ (phases : Bool). decided_one phases rows) (sym v.6)
    ∙ ap₂ (λ (several asked : Bool). decided several asked rows) (sym v.5) (sym v.4)
    ∙ ap (λ (n : Text). read n rows) (sym makes.command)
is_read name rows (to_decide_phases p out progress json) makes =
    let v = makes.values in
    (λ i. to_decide_phases (given _ p v.0 i) (sym v.1 i) (v.2 i) (v.3 i)) ∙ ap (λ (phases : Bool). decided_one phases rows) (sym v.6)
    ∙ ap₂ (λ (several asked : Bool). decided several asked rows) (sym v.5) (sym v.4)
    ∙ ap (λ (n : Text). read n rows) (sym makes.command)
is_read name rows (to_phases p folder) makes =
    let v = makes.values in
    (λ i. to_phases (given _ p v.0 i) (given _ folder v.1 i)) ∙ ap (λ (n : Text). read n rows) (sym makes.command)
is_read name rows (to_join p folder out json) makes =
    let v = makes.values in
    (λ i. to_join (given _ p v.0 i) (given _ folder v.1 i) (sym v.2 i) (v.3 i)) ∙ ap (λ (n : Text). read n rows) (sym makes.command)
is_read name rows (to_unroll p n settings way out map) makes =
    let v = makes.values in
    (λ i. to_unroll (given _ p v.0 i) (spelled rows (codes "ranks") n v.1 i) (sym v.2 i) (sym v.3 i) (sym v.4 i) (sym v.5 i))
    ∙ ap (λ (n : Text). read n rows) (sym makes.command)
is_read name rows (to_decide_unrolled p ranks settings way beside json) makes =
    let v = makes.values in
    (λ i. to_decide_unrolled (given _ p v.0 i) (sym v.1 i) (sym v.2 i) (sym v.3 i) (v.4 i) (v.5 i)) ∙ ap₂ (λ (several asked : Bool). decided several asked rows) (sym v.7) (sym v.6)
    ∙ ap (λ (n : Text). read n rows) (sym makes.command)
is_read name rows (to_decide_each programs junit beside json) makes =
    let v = makes.values in
    (λ i. to_decide_each (sym v.0 i) (sym v.1 i) (v.2 i) (v.3 i)) ∙ ap (λ (several : Bool). decided several (is_spmd_asked rows) rows) (sym v.4)
    ∙ ap (λ (n : Text). read n rows) (sym makes.command)
is_read name rows (to_explain_each programs junit w d b form beside) makes =
    let v = makes.values in
    (λ i. to_explain_each (listed programs rows v.0 i) (sym v.1 i) (spelled rows (codes "workers") w v.2 i) (spelled rows (codes "depth") d v.3 i)
    (spelled rows (codes "budget") b v.4 i) (v.5 i) (v.6 i))
    ∙ ap (λ (each : Bool). explained each (is_spmd_asked rows) rows) (sym v.7)
    ∙ ap (λ (n : Text). read n rows) (sym makes.command)
is_read name rows (to_explain_unrolled p ranks settings way e w d b form map) makes =
    let v = makes.values in
    (λ i. to_explain_unrolled (given _ p v.0 i) (sym v.1 i) (sym v.2 i) (sym v.3 i) (sym v.4 i) (spelled rows (codes "workers") w v.5 i)
    (spelled rows (codes "depth") d v.6 i) (spelled rows (codes "budget") b v.7 i) (v.8 i) (sym v.9 i))
    ∙ ap₂ (λ (each asked : Bool). explained each asked rows) (sym v.11) (sym v.10)
    ∙ ap (λ (n : Text). read n rows) (sym makes.command)

same : (found : Option (Text × List Row)) (one other : Task) → MakesSome found one → MakesSome found other → one ≡ other
same None one other first second = absurd first
same (Some f) one other first second = is_read f.0 f.1 one first ∙ sym (is_read f.0 f.1 other second)

-- what words name is one
pub one_task_is_named : (words : List Text) (one other : Task) → NamesTask words one → NamesTask words other → one ≡ other
one_task_is_named words one other first second = same (subcommand_of command_line words) one other first second

pub one_task_is_asked : OneTaskIsAsked
one_task_is_asked words one other first second = one_task_is_named words one other first.named second.named

twice_apart : (task other : Task) → other ≡ task → names_twice task ≡ false → names_twice other ≡ true → ⊥
twice_apart task other same apart twice = let e : true ≡ false = sym twice ∙ ap names_twice same ∙ apart in cc

-- words that ask for something aren't refused
pub asked_unrefused : (words : List Text) (task : Task) (kind : ErrorKind) → AskFor words task → IsRefusedBy words kind → ⊥
asked_unrefused words task kind asks (inl among) = subst (λ (k : Kinds). IsAmong kind k) asks.faultless among
asked_unrefused words task kind asks (inr (is, (other, named, twice))) =
    twice_apart task other (one_task_is_named words other task named asks.named) asks.apart twice

-- What the pages of an SPMD text for numbers of ranks tell.
use Rattle.std.proofs.Common.{◌≡◌, ◌∙◌, ◌⊎◌, ◌<◌, ◌≤◌, ◌+◌, ◌==◌, arith, ap, inl, inr, sym, subst, refl, ℕ, suc, zero, List, [], ◌∷◌, ◌++◌, length, length-append, Bool, true, false, Some, None, Option, Result, Ok, Err, get_or, codes, append_assoc, map}
use Rattle.std.specs.Prelude.{if◌then◌else◌, nat_lt}
use Rattle.std.specs.List.{fold}
use Rattle.std.specs.Str.Lossy.{utf8_lossy}
use Rattle.std.proofs.lemmas.List.{append-nil}
use Rattle.std.proofs.lemmas.List.Sums.{fold-append}
use Rattle.std.proofs.lemmas.Bool.{eqb-false, eqb-true, lt-ltb, ltb-true}
use Rattle.calltext.specs.Grammar.{long}
use Rattle.semantics.specs.Headline.{IsNeverStuckWithin, IsStuckRunWithin}
use Rattle.deciding.specs.declared.decision.Decision.{Decision}
use Rattle.deciding.specs.declared.decision.Decision.TheVariants as decisions
use Rattle.deciding.specs.declared.texts.Undecided.{Undecided}
use Rattle.semantics.specs.declared.state.Step.{Step}
use Rattle.options.specs.declared.form.Form.{Form}
use Rattle.session.specs.Explaining.{is_object}
use Rattle.session.specs.Lines.{deadlock_line}
use Rattle.session.specs.Pages.{IsScheduled}
use Rattle.session.specs.Sweeping.{AreRowsForRanks, IsDecidedFor, IsDecidedUnrolled, IsExplainedUnrolled, IsPageFor, IsPageTable, Row, graver, gravest, gravity, refused_line, row_text, rows_text}
use Rattle.std.specs.Global.{Vec}
use Rattle.std.specs.Prelude.{IfOk}
use Rattle.std.specs.declared.alloc.AllocError.{AllocError}
use Rattle.spmd_program.specs.Unrolling.{IsRefusal, TellsRefusal}
use Rattle.spmd_program.specs.declared.unrolling.NotUnrolled.{NotUnrolled}
use Rattle.spmd_program.specs.declared.unrolling.NotUnrolled.TheVariants.{Refused}
use Rattle.session.specs.declared.page.Page.{Page}
use Rattle.session.specs.SweepLaws.{HangsFor, IsSafeFor}
use Rattle.session.proofs.DeadlockLines.{PageTells, deadlock_begins, plainly_differs}
use Rattle.session.proofs.Deadlocks.{all_are}
use Rattle.session.proofs.DecidedPages.{decided_hangs, decided_safe}
use Rattle.session.proofs.ExplainedPages.{decision_never, decision_shows}
use Rattle.session.proofs.MappedPages.{places_tell}

-- ---- the graver of two statuses

abbrev others : Bool → Bool → Bool → ℕ
others a b c = if a then 4 else (if b then 2 else (if c then 1 else 3))

above_zero : (a b c : Bool) → others a b c ≡ 0 → ⊥
above_zero true b c e = omega (arith, e)
above_zero false true c e = omega (arith, e)
above_zero false false true e = omega (arith, e)
above_zero false false false e = omega (arith, e)

gravity_zero : (status : ℕ) → gravity status ≡ 0 → status ≡ 0
gravity_zero status e = go (status == 0) refl
  where
    go : (b : Bool) → status == 0 ≡ b → status ≡ 0
    go true is = eqb-true status 0 is
    go false is =
        absurd (above_zero (status == 1) (status == 2) (status == 3)
        (sym (ap (λ (b : Bool). if b then 0 else others (status == 1) (status == 2) (status == 3)) is) ∙ e))

pub graver_zero : (one other : ℕ) → graver one other ≡ 0 → (one ≡ 0) × (other ≡ 0)
graver_zero one other e = go (nat_lt (gravity one) (gravity other)) refl
  where
    go : (b : Bool) → nat_lt (gravity one) (gravity other) ≡ b → (one ≡ 0) × (other ≡ 0)
    go true is =
        let none : other ≡ 0 = sym (ap (λ (b : Bool). if b then other else one) is) ∙ e in
        let less = ltb-true (gravity one) (gravity other) is in
        absurd (omega (arith, less, ap gravity none))
    go false is =
        let none : one ≡ 0 = sym (ap (λ (b : Bool). if b then other else one) is) ∙ e in
        (none, gravity_zero other (not_less (gravity other) (sym (ap (λ (s : ℕ). nat_lt (gravity s) (gravity other)) none) ∙ is)))
      where
        not_less : (n : ℕ) → nat_lt 0 n ≡ false → n ≡ 0
        not_less zero e = refl
        not_less (suc n) e = let never : true ≡ false = sym (lt-ltb 0 (suc n) (omega arith)) ∙ e in absurd cc

pub graver_one : (one other own : ℕ) → graver one other ≡ own → (one ≡ own) ⊎ (other ≡ own)
graver_one one other own e = go (nat_lt (gravity one) (gravity other)) refl
  where
    go : (b : Bool) → nat_lt (gravity one) (gravity other) ≡ b → (one ≡ own) ⊎ (other ≡ own)
    go true is = inr (sym (ap (λ (b : Bool). if b then other else one) is) ∙ e)
    go false is = inl (sym (ap (λ (b : Bool). if b then other else one) is) ∙ e)

abbrev pub worst_from : ℕ → List Row → ℕ
worst_from status rows = fold (λ status row. graver status row.status) status rows

-- a row for a number of ranks
record HasRow (IsPage : ℕ → List ℕ → ℕ → Type 0) (status low high : ℕ) : Type 0 where
  number : ℕ
  above : low ≤ number
  below : number < high
  page : List ℕ
  is_page : IsPage number page status

-- where one has the gravest status, a row of it is there
one_grave : (IsPage : ℕ → List ℕ → ℕ → Type 0) (own status ranks : ℕ) (rows : List Row) → AreRowsForRanks IsPage ranks rows → worst_from status rows ≡ own
    → (status ≡ own) ⊎ HasRow IsPage own ranks (ranks + length rows)
one_grave IsPage own status ranks [] are e = inl e
one_grave IsPage own status ranks (row ∷ rows) are e =
    elim (one_grave IsPage own (graver status row.status) (suc ranks) rows are.1 e) [
      | inl here ↦ elim (graver_one status row.status own here) [
        | inl before ↦ inl before
        | inr is ↦ inr (record {
          number = ranks;
          above = omega arith;
          below = omega arith;
          page = row.page;
          is_page = subst (IsPage ranks row.page) is are.0;
        })
      ]
      | inr behind ↦ inr (record {
        number = behind.number;
        above = omega (arith, behind.above);
        below = omega (arith, behind.below);
        page = behind.page;
        is_page = behind.is_page;
      })
    ]

-- where none is grave, each number has a row that isn't
none_grave : (IsPage : ℕ → List ℕ → ℕ → Type 0) (status ranks : ℕ) (rows : List Row) → AreRowsForRanks IsPage ranks rows → worst_from status rows ≡ 0
    → (status ≡ 0) × ((number : ℕ) → ranks ≤ number → number < ranks + length rows → (page : List ℕ) × IsPage number page 0)
none_grave IsPage status ranks [] are e = (e, λ number above below. absurd (omega (arith, above, below)))
none_grave IsPage status ranks (row ∷ rows) are e =
    let behind = none_grave IsPage (graver status row.status) (suc ranks) rows are.1 e in
    let here = graver_zero status row.status behind.0 in
    (here.0, λ number above below. go number above below here.1 behind.1 (ranks == number) refl)
  where
    go : (number : ℕ) → ranks ≤ number → number < ranks + suc (length rows) → row.status ≡ 0
        → ((n : ℕ) → suc ranks ≤ n → n < suc ranks + length rows → (page : List ℕ) × IsPage n page 0) → (b : Bool) → ranks == number ≡ b
        → (page : List ℕ) × IsPage number page 0
    go number above below none behind true is =
        (row.page, subst (λ (n : ℕ). IsPage n row.page 0) (eqb-true ranks number is) (subst (IsPage ranks row.page) none are.0))
    go number above below none behind false is =
        behind number (omega (arith, above, eqb-false ranks number is)) (omega (arith, below))

-- ---- rows, one by one

are_more : (IsPage : ℕ → List ℕ → ℕ → Type 0) (ranks : ℕ) (rows : List Row) (row : Row) → AreRowsForRanks IsPage ranks rows
    → IsPage (ranks + length rows) row.page row.status → AreRowsForRanks IsPage ranks (rows ++ row ∷ [])
are_more IsPage ranks [] row are page = (subst (λ (n : ℕ). IsPage n row.page row.status) (omega arith) page, tt)
are_more IsPage ranks (first ∷ rows) row are page =
    (are.0, are_more IsPage (suc ranks) rows row are.1 (subst (λ (n : ℕ). IsPage n row.page row.status) (omega arith) page))

text_more : (json : Bool) (ranks : ℕ) (rows : List Row) (row : Row)
    → rows_text json ranks (rows ++ row ∷ []) ≡ rows_text json ranks rows ++ row_text json (ranks + length rows) row.page
text_more json ranks [] row = append-nil (row_text json ranks row.page) ∙ ap (λ (n : ℕ). row_text json n row.page) (omega arith)
text_more json ranks (first ∷ rows) row =
    let here = row_text json ranks first.page in
    ap (λ (l : List ℕ). here ++ l) (text_more json (suc ranks) rows row ∙ ap (λ (n : ℕ). rows_text json (suc ranks) rows ++ row_text json n row.page) (omega arith))
    ∙ sym (append_assoc here (rows_text json (suc ranks) rows) (row_text json (ranks + suc (length rows)) row.page))

-- the rows of the numbers of ranks below one, their text and their gravest status
pub record AreSoFar (IsPage : ℕ → List ℕ → ℕ → Type 0) (json : Bool) (first ranks : ℕ) (text : List ℕ) (status : ℕ) : Type 0 where
  pub rows : List Row
  pub are : AreRowsForRanks IsPage first rows
  pub below : first + length rows ≡ ranks
  pub is_text : text ≡ rows_text json first rows
  pub is_status : status ≡ gravest rows

pub none_so_far : (IsPage : ℕ → List ℕ → ℕ → Type 0) (json : Bool) (first : ℕ) → AreSoFar IsPage json first first [] 0
none_so_far IsPage json first = record { rows = []; are = tt; below = omega arith; is_text = refl; is_status = refl }

pub one_more : (IsPage : ℕ → List ℕ → ℕ → Type 0) (json : Bool) (first ranks : ℕ) (text : List ℕ) (status : ℕ) (page : List ℕ) (own : ℕ) (more : List ℕ) (worse : ℕ)
    → AreSoFar IsPage json first ranks text status → IsPage ranks page own → more ≡ text ++ row_text json ranks page → worse ≡ graver status own
    → AreSoFar IsPage json first (ranks + 1) more worse
one_more IsPage json first ranks text status page own more worse far is added graved =
    let row : Row = record { page = page; status = own } in
    record {
      rows = far.rows ++ row ∷ [];
      are = are_more IsPage first far.rows row far.are (subst (λ (n : ℕ). IsPage n page own) (sym far.below) is);
      below = ap (λ (n : ℕ). first + n) (length-append far.rows (row ∷ [])) ∙ omega (arith, far.below);
      is_text = added ∙ ap (λ (l : List ℕ). l ++ row_text json ranks page) far.is_text
          ∙ ap (λ (n : ℕ). rows_text json first far.rows ++ row_text json n page) (sym far.below) ∙ sym (text_more json first far.rows row);
      is_status = graved ∙ ap (λ (s : ℕ). graver s own) far.is_status ∙ sym (fold-append (λ status row. graver status row.status) 0 far.rows (row ∷ []));
    }

pub whole_table : (IsPage : ℕ → List ℕ → ℕ → Type 0) (json : Bool) (first last ranks : ℕ) (text : List ℕ) (status : ℕ) → ranks ≡ last → AreSoFar IsPage json first (ranks + 1) text status
    → IsPageTable IsPage json first last text status
whole_table IsPage json first last ranks text status at far =
    record { rows = far.rows; are = far.are; all = far.below ∙ ap (λ (n : ℕ). n + 1) at; is_text = far.is_text; is_status = far.is_status }

-- ---- one number of ranks

pub unscheduled : (tells : Bool) (held : List ℕ → Option (List ℕ)) (d : Result Decision Undecided) → IsScheduled tells held held None d
unscheduled tells held (Ok decisions.NoDeadlock) = refl
unscheduled tells held (Ok (decisions.Deadlock steps)) = refl
unscheduled tells held (Ok (decisions.Race race)) = refl
unscheduled tells held (Err why) = refl

decided_for_hangs : (json : Bool) (program map text : List ℕ) (status : ℕ) → IsDecidedFor json program map text status → PageTells text status
    → (steps : List Step) × IsStuckRunWithin long program steps
decided_for_hangs json program map text status (d, plain, is, page, woven) tells =
    decided_hangs false (λ path. Some program) (λ path. Some program) [] None json plain status program
    (program, d, refl, is, unscheduled false (λ path. Some program) d, page) (places_tell _ map plain text status woven tells) refl

decided_for_safe : (json : Bool) (program map text : List ℕ) → IsDecidedFor json program map text 0 → IsNeverStuckWithin long program
decided_for_safe json program map text (d, plain, is, page, woven) =
    decided_safe false (λ path. Some program) (λ path. Some program) [] None json plain 0 program
    (program, d, refl, is, unscheduled false (λ path. Some program) d, page) (inl refl) refl

-- the page of a text that is wrong
pub refused_for : (path source : List ℕ) (settings : List (List ℕ)) (barriers json : Bool) (IsPage : List ℕ → List ℕ → List ℕ → ℕ → Type 0) (ranks : ℕ)
    (e : NotUnrolled) (told : Vec ℕ) (said : List ℕ) (page : Result Page AllocError) → e ≡ Refused told → said ≡ told.items
    → TellsRefusal (IsRefusal path source ranks settings barriers) e → IfOk page (λ p. p.text.items ≡ refused_line json said) → IfOk page (λ p. p.status ≡ 3)
    → IfOk page (λ p. IsPageFor path source settings barriers json IsPage ranks p.text.items p.status)
refused_for path source settings barriers json IsPage ranks e told said (Ok p) is same refusal text status =
    inr (said, subst (IsRefusal path source ranks settings barriers) (sym same) (subst (TellsRefusal (IsRefusal path source ranks settings barriers)) is refusal), text, status)
refused_for path source settings barriers json IsPage ranks e told said (Err x) is same refusal text status = text

-- the line of a text that is wrong tells no deadlock
wrong_untold : (json : Bool) (told text : List ℕ) (status : ℕ) → text ≡ refused_line json told → status ≡ 3 → PageTells text status → ⊥
wrong_untold json told text status is three (inl one) = omega (arith, three, one)
wrong_untold false told text status is three (inr begins) = third begins.0 (ap (λ (t : List ℕ). get_or t 2 0) (sym is ∙ begins.2))
  where
    third : (as_json : Bool) → 102 ≡ get_or (deadlock_line as_json ++ begins.1) 2 0 → ⊥
    third false e = omega (arith, e)
    third true e = omega (arith, e)
wrong_untold true told text status is three (inr begins) =
    plainly_differs (codes "efused " ++ utf8_lossy told) deadlock_line 100 deadlock_begins begins.0 true text (codes "refused " ++ utf8_lossy told) begins.1 refl is
    (λ e. omega (arith, e)) begins.2

decided_row_hangs : (path source : List ℕ) (settings : List (List ℕ)) (barriers json : Bool) (ranks : ℕ) (page : List ℕ) → IsPageFor path source settings barriers json (IsDecidedFor json) ranks page 1
    → HangsFor path source settings barriers ranks
decided_row_hangs path source settings barriers json ranks page (inl (program, map, unrolled, is)) =
    let stuck = decided_for_hangs json program map page 1 is (inl refl) in
    record { program = program; map = map; unrolled = unrolled; steps = stuck.0; stuck = stuck.1 }
decided_row_hangs path source settings barriers json ranks page (inr (told, refusal, is, three)) = absurd (omega (arith, three))

decided_row_safe : (path source : List ℕ) (settings : List (List ℕ)) (barriers json : Bool) (ranks : ℕ) (page : List ℕ) → IsPageFor path source settings barriers json (IsDecidedFor json) ranks page 0
    → IsSafeFor path source settings barriers ranks
decided_row_safe path source settings barriers json ranks page (inl (program, map, unrolled, is)) =
    record { program = program; map = map; unrolled = unrolled; never = decided_for_safe json program map page is }
decided_row_safe path source settings barriers json ranks page (inr (told, refusal, is, three)) = absurd (omega (arith, three))

-- ---- tables

-- the third byte of a table is another than that of a deadlock's line
third_of_rows : (json : Bool) (ranks : ℕ) (rows : List Row) → get_or (rows_text json ranks rows) 2 0 ≡ 97 → ⊥
third_of_rows json ranks [] e = omega (arith, e)
third_of_rows false ranks (row ∷ rows) e = omega (arith, e)
third_of_rows true ranks (row ∷ rows) e = omega (arith, e)

pub third_of_deadlock : (as_json : Bool) (rest : List ℕ) → get_or (deadlock_line as_json ++ rest) 2 0 ≡ 97
third_of_deadlock false rest = refl
third_of_deadlock true rest = refl

-- what a table of one with the status 1 tells
pub record HangsAmong (path source : List ℕ) (settings : List (List ℕ)) (barriers : Bool) (first last : ℕ) : Type 0 where
  pub number : ℕ
  pub above : first ≤ number
  pub below : number ≤ last
  pub hangs : HangsFor path source settings barriers number

table_hangs : (path source : List ℕ) (settings : List (List ℕ)) (barriers json : Bool) (first last : ℕ) (text : List ℕ) (status : ℕ)
    → IsPageTable (IsPageFor path source settings barriers json (IsDecidedFor json)) json first last text status → status ≡ 1
    → HangsAmong path source settings barriers first last
table_hangs path source settings barriers json first last text status table one =
    elim (one_grave (IsPageFor path source settings barriers json (IsDecidedFor json)) 1 0 first table.rows table.are (sym table.is_status ∙ one)) [
      | inl never ↦ absurd (omega (arith, never))
      | inr row ↦ record {
        number = row.number;
        above = row.above;
        below = omega (arith, row.below, table.all);
        hangs = decided_row_hangs path source settings barriers json row.number row.page row.is_page;
      }
    ]

pub swept_hangs : (file : Option (List ℕ)) (path source : List ℕ) (settings : List (List ℕ)) (barriers json : Bool) (first last : ℕ) (text : List ℕ) (status : ℕ)
    → IsDecidedUnrolled file path settings barriers json first last text status → PageTells text status → file ≡ Some source
    → HangsAmong path source settings barriers first last
swept_hangs file path source settings barriers json first last text status (given, all, table) (inl one) held =
    subst (λ (s : List ℕ). HangsAmong path s settings barriers first last) (all_are file given source all held)
    (table_hangs path given settings barriers json first last text status table one)
swept_hangs file path source settings barriers json first last text status (given, all, table) (inr begins) held =
    absurd (third_of_rows json first table.rows
    (ap (λ (t : List ℕ). get_or t 2 0) (sym table.is_text ∙ begins.2) ∙ third_of_deadlock begins.0 begins.1))

pub swept_safe : (file : Option (List ℕ)) (path source : List ℕ) (settings : List (List ℕ)) (barriers json : Bool) (first last : ℕ) (text : List ℕ)
    → IsDecidedUnrolled file path settings barriers json first last text 0 → file ≡ Some source
    → (number : ℕ) → first ≤ number → number ≤ last → IsSafeFor path source settings barriers number
swept_safe file path source settings barriers json first last text (given, all, table) held number above below =
    let rows = none_grave (IsPageFor path given settings barriers json (IsDecidedFor json)) 0 first table.rows table.are (sym table.is_status) in
    let row = rows.1 number above (omega (arith, below, table.all)) in
    subst (λ (s : List ℕ). IsSafeFor path s settings barriers number) (all_are file given source all held)
    (decided_row_safe path given settings barriers json number row.0 row.1)

-- ---- explanations

pub explained_hangs : (file : Option (List ℕ)) (path source : List ℕ) (settings : List (List ℕ)) (barriers : Bool) (budget : ℕ) (form : Form) (ranks : ℕ) (text : List ℕ) (status : ℕ)
    → IsExplainedUnrolled file path settings barriers budget form ranks text status → PageTells text status → file ≡ Some source → HangsFor path source settings barriers ranks
explained_hangs file path source settings barriers budget form ranks text status (given, all, inl (program, map, unrolled, (d, plain, is, page, woven))) tells held =
    let stuck = decision_shows form budget program d plain status is page (places_tell form map plain text status woven tells) in
    subst (λ (s : List ℕ). HangsFor path s settings barriers ranks) (all_are file given source all held)
    (record { program = program; map = map; unrolled = unrolled; steps = stuck.0; stuck = stuck.1 })
explained_hangs file path source settings barriers budget form ranks text status (given, all, inr (told, refusal, is, three)) tells held =
    absurd (wrong_untold (is_object form) told text status is three tells)

pub explained_safe : (file : Option (List ℕ)) (path source : List ℕ) (settings : List (List ℕ)) (barriers : Bool) (budget : ℕ) (form : Form) (ranks : ℕ) (text : List ℕ)
    → IsExplainedUnrolled file path settings barriers budget form ranks text 0 → file ≡ Some source → IsSafeFor path source settings barriers ranks
explained_safe file path source settings barriers budget form ranks text (given, all, inl (program, map, unrolled, (d, plain, is, page, woven))) held =
    subst (λ (s : List ℕ). IsSafeFor path s settings barriers ranks) (all_are file given source all held)
    (record { program = program; map = map; unrolled = unrolled; never = decision_never form budget program d plain is page })
explained_safe file path source settings barriers budget form ranks text (given, all, inr (told, refusal, is, three)) held = absurd (omega (arith, three))

-- The parts of a row, one behind the other.
use Rattle.std.proofs.Common.{◌≡◌, ◌∙◌, OnOk, ℕ, List, ◌++◌, Bool, Result, Ok, Err, ap, sym, append_assoc}
use Rattle.std.specs.Prelude.{if◌then◌else◌, codes}
use Rattle.std.specs.Result.{is_ok}
use Rattle.plaintext.specs.Plain.{numeral}
use Rattle.session.specs.Sweeping.{row_text}
use Rattle.session.proofs.swept.put_row.Goals as goal

joined : (a p q r s : List ℕ) → (((a ++ p) ++ q) ++ r) ++ s ≡ a ++ (p ++ (q ++ (r ++ s)))
joined a p q r s = append_assoc ((a ++ p) ++ q) r s ∙ append_assoc (a ++ p) q (r ++ s) ∙ append_assoc a p (q ++ (r ++ s))

-- the last part, where it was added
all_four : {T E : Type 0} (result : Result T E) (json : Bool) (ranks : ℕ) (page a b c d e p q r s : List ℕ) → b ≡ a ++ p → c ≡ b ++ q → d ≡ c ++ r
    → row_text json ranks page ≡ p ++ (q ++ (r ++ s)) → e ≡ (if is_ok result then d ++ s else d) → OnOk result (e ≡ a ++ row_text json ranks page)
all_four (Err x) json ranks page a b c d e p q r s one two three is last = tt
all_four (Ok x) json ranks page a b c d e p q r s one two three is last =
    last ∙ ap (λ (l : List ℕ). l ++ s) (three ∙ ap (λ (l : List ℕ). l ++ r) (two ∙ ap (λ (l : List ℕ). l ++ q) one)) ∙ joined a p q r s ∙ ap (λ (l : List ℕ). a ++ l) (sym is)

pub returns-then-json : goal.returns-then-json
returns-then-json c =
    all_four c.extend_from_slice-then-json.result c.args.json c.args.ranks c.args.page.now c.args.text.now.items _ _ _ _ (codes "{\"ranks\":") (numeral c.args.ranks)
    (codes ",") c.behind_first.result.now c.in_ok-extend_from_slice.ensures.items c.in_ok-put_number.ensures.written c.in_ok-push.ensures.items (ap (λ (j : Bool). row_text j c.args.ranks c.args.page.now) c.if-json.true
    ∙ ap (λ (b : List ℕ). codes "{\"ranks\":" ++ (numeral c.args.ranks ++ (codes "," ++ b))) (sym c.behind_first.ensures)) c.extend_from_slice-then-json.ensures.items

pub returns : goal.returns
returns c =
    all_four c.extend_from_slice-4.result c.args.json c.args.ranks c.args.page.now c.args.text.now.items _ _ _ _ (codes "ranks ") (numeral c.args.ranks) (codes ": ")
    c.args.page.now c.in_ok-extend_from_slice-2.ensures.items c.in_ok-put_number-2.ensures.written c.in_ok-extend_from_slice-3.ensures.items (ap (λ (j : Bool). row_text j c.args.ranks c.args.page.now) c.if-json.false) c.extend_from_slice-4.ensures.items

-- The two headings of an evidence, and what follows them.
use Rattle.std.proofs.Common.{◌≡◌, ◌≢◌, ℕ, ◌-◌, ◌≤◌, List, [], ◌∷◌, ◌++◌, map, refl, sym, ap, ◌∙◌, arith}
use Rattle.std.specs.Prelude.{codes}
use Rattle.std.proofs.lemmas.List.{append_cancel_right}
use Rattle.plaintext.specs.Plain.{text_lines}
use Rattle.plaintext.specs.Fronts.{to_end}
use Rattle.plaintext.proofs.Cuts.{no_line_of, words_are, line_is}
use Rattle.plaintext.proofs.FirstFaults.{heads}
use Rattle.plaintext.proofs.Texts.{text_joined}
use Rattle.semantics.specs.declared.state.Step.{Step}
use Rattle.refutations.specs.declared.tree.Node.TheVariants.{Leaf}
use Rattle.prooflog.specs.declared.evidence.Evidence.TheVariants.{Schedule, Refutation}
use Rattle.prooflog.specs.declared.fault.EvidenceFault.{EvidenceFault}
use Rattle.prooflog.specs.declared.fault.EvidenceFault.TheVariants.{Syntax, Range}
use Rattle.prooflog.specs.declared.refutation.Version.{Version}
use Rattle.prooflog.specs.declared.refutation.Version.TheVariants.{One, Two}
use Rattle.prooflog.specs.Steps.{written, step_line, IsSchedule, schedule_line}
use Rattle.prooflog.specs.Refutations.{ClaimedRefutation, IsSmallRefutation, IsRefutation, items, item_line}
use Rattle.prooflog.specs.Grammar.{Written, as_schedule, as_refutation, heading_line, refutation_line, written_lines, IsEvidenceText}
use Rattle.prooflog.specs.Fault.{HasEvidenceShape, IsInEvidenceRange, CanGoOnAsEvidence, HasEvidenceFault}
use Rattle.prooflog.specs.parts.Reading.{words_of, counts_words, opening_lines, HasFaultAfter}
use Rattle.prooflog.proofs.Fronts.{small_front, stops_syntax, stops_range, after_more, of_text}
use Rattle.prooflog.proofs.Exact.{plain_counts, same_counts, kinds_differ, below_heading}

-- the lines of an evidence are the first heading, one of its kind, and others
record Opened (w : Written) : Type 0 where
  pub version : Version
  pub second : List ℕ
  pub others : List (List ℕ)
  pub lines : to_end (written_lines w) ≡ heading_line version ∷ second ∷ others

opened : (w : Written) → Opened w
opened (as_schedule ss) = record { version = One; second = schedule_line; others = to_end (map step_line ss); lines = refl }
opened (as_refutation r) = record { version = r.version; second = refutation_line r.variables r.clauses; others = to_end (map item_line (items r)); lines = refl }

nothing_yet : CanGoOnAsEvidence []
nothing_yet = (as_schedule [], ((λ k d lt. absurd (omega arith)), omega arith), (to_end (written_lines (as_schedule [])), refl))

-- a refutation with a tree of one leaf
abbrev claim : Version → ℕ → ℕ → ClaimedRefutation
claim version v c = record { version = version; variables = v; clauses = c; lines = []; nodes = Leaf 1 ∷ [] }

one_heading : (version : Version) → CanGoOnAsEvidence (heading_line version ∷ [])
one_heading version =
    let small : IsSmallRefutation [] (Leaf 1 ∷ []) = record { few_lines = omega arith; few_nodes = omega arith; shallow = refl } in (
      as_refutation (claim version 0 0),
      (record { variables = omega arith; clauses = omega arith; lines = refl; numbered = refl; is_tree = refl }, small_front [] (Leaf 1 ∷ []) (1 - 2) (1 - 3) small),
      (refutation_line 0 0 ∷ to_end (map item_line (items (claim version 0 0))), refl),
    )

-- ---- the first line

pub first_faulty : (bytes line : List ℕ) (after : List (List ℕ)) → text_lines bytes ≡ line ∷ after → ((version : Version) → heading_line version ≢ line) → HasEvidenceFault bytes (Syntax 1)
first_faulty bytes line after cut other =
    of_text bytes (Syntax 1) (stops_syntax [] bytes [] line after cut nothing_yet 1 refl (λ (w, keeps, (more, e)).
    let o = opened w in
    other o.version (heads (heading_line o.version) line (o.second ∷ o.others) more (sym o.lines ∙ e)).0))

pub first_unended : (bytes : List ℕ) → text_lines bytes ≡ bytes ∷ [] → HasEvidenceFault bytes (Syntax 1)
first_unended bytes one = first_faulty bytes bytes [] one unended
  where
    unended : (version : Version) → heading_line version ≢ bytes
    unended One e = no_line_of bytes (codes "evidence" ∷ codes "1" ∷ []) one e
    unended Two e = no_line_of bytes (codes "evidence" ∷ codes "2" ∷ []) one e

pub no_heading : (line : List ℕ) → line ≢ codes "evidence 1" → line ≢ codes "evidence 2" → (version : Version) → heading_line version ≢ line ++ 10 ∷ []
no_heading line first second One e = first (sym (append_cancel_right (codes "evidence 1") line (10 ∷ []) e))
no_heading line first second Two e = second (sym (append_cancel_right (codes "evidence 2") line (10 ∷ []) e))

pub first_is : (bytes rest heading : List ℕ) (version : Version) → text_lines bytes ≡ (heading ++ 10 ∷ []) ∷ text_lines rest → heading_line version ≡ heading ++ 10 ∷ [] → text_lines bytes ≡ heading_line version ∷ text_lines rest
first_is bytes rest heading version cut e = cut ∙ ap (λ (line : List ℕ). line ∷ text_lines rest) (sym e)

-- ---- the second line

-- the second line of what begins so is of one of the two kinds, and a schedule's is only in version
-- 1
second_of : (version : Version) (line : List ℕ) (w : Written) (more : List (List ℕ)) → to_end (written_lines w) ≡ heading_line version ∷ line ∷ more → (version ≡ One → schedule_line ≢ line) → ((v c : ℕ) → refutation_line v c ≢ line) → ⊥
second_of version line (as_schedule ss) more e no_schedule no_refutation =
    let below = below_heading One version (to_end (map step_line ss)) more schedule_line line e in
    no_schedule (sym below.2) below.0
second_of version line (as_refutation r) more e no_schedule no_refutation =
    no_refutation r.variables r.clauses (below_heading r.version version (to_end (map item_line (items r))) more (refutation_line r.variables r.clauses) line e).0

pub second_faulty : (bytes rest line : List ℕ) (after : List (List ℕ)) (version : Version) → text_lines bytes ≡ heading_line version ∷ text_lines rest → text_lines rest ≡ line ∷ after → (version ≡ One → schedule_line ≢ line) → ((v c : ℕ) → refutation_line v c ≢ line) → HasEvidenceFault bytes (Syntax 2)
second_faulty bytes rest line after version first cut no_schedule no_refutation =
    let whole : text_lines bytes ≡ (heading_line version ∷ []) ++ line ∷ after = first ∙ ap (λ (ls : List (List ℕ)). heading_line version ∷ ls) cut in
    of_text bytes (Syntax 2) (stops_syntax [] bytes (heading_line version ∷ []) line after whole (one_heading version) 2 refl (λ (w, keeps, (more, e)). second_of version line w more e no_schedule no_refutation))

pub second_unended : (bytes rest : List ℕ) (version : Version) → text_lines bytes ≡ heading_line version ∷ text_lines rest → text_lines rest ≡ rest ∷ [] → HasEvidenceFault bytes (Syntax 2)
second_unended bytes rest version first one = second_faulty bytes rest rest [] version first one (λ is e. no_line_of rest (codes "schedule" ∷ []) one e) (λ v c e. no_line_of rest (counts_words v c) one e)

-- the counts of what begins with a refutation's heading are in range where all is
counts_in_range : (version : Version) (v c : ℕ) (w : Written) (more : List (List ℕ)) → to_end (written_lines w) ≡ heading_line version ∷ refutation_line v c ∷ more → Rattle.prooflog.specs.Fault.IsRanged w → (v ≤ 2147483647) × (c ≤ 2147483647)
counts_in_range version v c (as_schedule ss) more e ranged = absurd (kinds_differ v c (below_heading One version (to_end (map step_line ss)) more schedule_line (refutation_line v c) e).0)
counts_in_range version v c (as_refutation r) more e ranged =
    let same = same_counts r.variables r.clauses v c (below_heading r.version version (to_end (map item_line (items r))) more (refutation_line r.variables r.clauses) (refutation_line v c) e).0 in
    (omega (arith, same.0, ranged.variables), omega (arith, same.1, ranged.clauses))

pub second_over : (bytes rest line : List ℕ) (after : List (List ℕ)) (version : Version) (v c : ℕ) → text_lines bytes ≡ heading_line version ∷ text_lines rest → text_lines rest ≡ line ∷ after → refutation_line v c ≡ line → ((v ≤ 2147483647) × (c ≤ 2147483647) → ⊥) → HasEvidenceFault bytes (Range 2)
second_over bytes rest line after version v c first cut spelled over =
    let whole : text_lines bytes ≡ (heading_line version ∷ []) ++ line ∷ after = first ∙ ap (λ (ls : List (List ℕ)). heading_line version ∷ ls) cut in
    let below : List (List ℕ) = to_end (map item_line (items (claim version v c))) in
    let shape : HasEvidenceShape (heading_line version ∷ line ∷ []) = (as_refutation (claim version v c), refl, (below, ap (λ (l : List ℕ). heading_line version ∷ l ∷ below) spelled)) in
    of_text bytes (Range 2) (stops_range [] bytes (heading_line version ∷ []) line after whole (one_heading version) 2 refl shape (λ (w, keeps, (more, e)).
    over (counts_in_range version v c w more (e ∙ ap (λ (l : List ℕ). heading_line version ∷ l ∷ more) (sym spelled)) keeps)))

pub no_schedule : (line : List ℕ) → line ≢ codes "schedule" → schedule_line ≢ line ++ 10 ∷ []
no_schedule line other e = other (sym (append_cancel_right (codes "schedule") line (10 ∷ []) e))

pub no_counts : (line : List ℕ) → ((v c : ℕ) → counts_words v c ≢ words_of line) → (v c : ℕ) → refutation_line v c ≢ line ++ 10 ∷ []
no_counts line none v c e = none v c (words_are (counts_words v c) line (omega arith) (plain_counts v c) e)

pub counts_line : (line : List ℕ) (v c : ℕ) → counts_words v c ≡ words_of line → refutation_line v c ≡ line ++ 10 ∷ []
counts_line line v c e = line_is (counts_words v c) line e

-- ---- what follows the headings

pub second_is : (bytes rest rest2 second line : List ℕ) (version : Version) → text_lines bytes ≡ heading_line version ∷ text_lines rest → text_lines rest ≡ line ∷ text_lines rest2 → second ≡ line → text_lines bytes ≡ (heading_line version ∷ second ∷ []) ++ text_lines rest2
second_is bytes rest rest2 second line version first cut e = first ∙ ap (λ (lines : List (List ℕ)). heading_line version ∷ lines) (cut ∙ ap (λ (l : List ℕ). l ∷ text_lines rest2) (sym e))

-- a fault after the headings is the text's
pub after_headings : (bytes rest second : List ℕ) (version : Version) (fault : EvidenceFault) → text_lines bytes ≡ (heading_line version ∷ second ∷ []) ++ text_lines rest → HasFaultAfter (heading_line version ∷ second ∷ []) rest fault → HasEvidenceFault bytes fault
after_headings bytes rest second version fault cut has = of_text bytes fault (after_more [] (heading_line version ∷ second ∷ []) bytes rest fault cut has)

-- the whole text
pub is_schedule_text : (bytes rest : List ℕ) (steps : List Step) → text_lines bytes ≡ (heading_line One ∷ schedule_line ∷ []) ++ text_lines rest → IsSchedule steps
    → text_lines rest ≡ map step_line (map written steps) ++ [] ∷ [] → IsEvidenceText bytes (Schedule steps)
is_schedule_text bytes rest steps cut limits e = record {
  limits = limits;
  text = text_joined bytes (written_lines (as_schedule (map written steps))) (cut ∙ ap (λ (ls : List (List ℕ)). heading_line One ∷ schedule_line ∷ ls) e);
}

pub is_refutation_text : (bytes rest : List ℕ) (version : Version) (v c : ℕ) (r : ClaimedRefutation) → text_lines bytes ≡ opening_lines version v c ++ text_lines rest → (r.version ≡ version) × (r.variables ≡ v) × (r.clauses ≡ c) → IsRefutation r
    → text_lines rest ≡ to_end (map item_line (items r)) → IsEvidenceText bytes (Refutation r)
is_refutation_text bytes rest version v c r cut counts limits e = record {
  limits = limits;
  text = text_joined bytes (written_lines (as_refutation r)) (
      cut ∙ ap (λ (ls : List (List ℕ)). opening_lines version v c ++ ls) e
      ∙ (λ i. opening_lines (sym counts.0 i) (sym counts.1 i) (sym counts.2 i) ++ to_end (map item_line (items r)))
      );
}

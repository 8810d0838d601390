-- The lines on ranks that wait, as compilers tell faults.
use Rattle.std.specs.Prelude.{◌≡◌, ◌⊎◌, ℕ, zero, suc, List, [], ◌∷◌, ◌++◌, codes, Option, Some, slice_get}
use Rattle.plaintext.specs.Plain.{numeral}
use Rattle.calltext.specs.Grammar.{ProgramText}
use Rattle.callorder.specs.Programs.{MpiProgram}
use Rattle.semantics.specs.declared.state.Step.{Step}
use Rattle.semantics.specs.Machine.{Configuration, after_all, opening}
use Rattle.waits.specs.declared.standings.Standing.{Standing}
use Rattle.waits.specs.declared.standings.Standing.TheVariants.{Waits}
use Rattle.waits.specs.Waiting.{WaitsFor, operation_of_call}
use Rattle.scene.specs.Ends.{AreStandings, IsNeeded}
use Rattle.scene.specs.Labels.{Label, call_labels}

-- that a rank waits in a call
abbrev pub wait_words : Label → ℕ → List ℕ
wait_words label rank = codes "line " ++ (numeral label.line ++ (codes ": rank " ++ (numeral rank ++ (codes " waits in " ++ label.words))))

-- that a call of a rank is needed
abbrev pub need_words : Label → ℕ → List ℕ
need_words label rank = codes ", needs line " ++ (numeral label.line ++ (codes " of rank " ++ numeral rank))

-- the text names a call that is needed of a rank that this one waits for
pub record NamesNeeded (labels : List Label) (p : MpiProgram) (m : Configuration) (rank call : ℕ) (text : List ℕ) : Type 0 where
  pub other : ℕ
  pub needed : ℕ
  pub label : Label
  pub awaited : WaitsFor p m rank other
  pub is_needed : IsNeeded p m (operation_of_call p call) other needed
  pub is_label : slice_get labels needed ≡ Some label
  pub text_is : text ≡ need_words label other

-- the line on a rank that waits in this call
pub record IsMessage (labels : List Label) (p : MpiProgram) (m : Configuration) (rank call : ℕ) (text : List ℕ) : Type 0 where
  pub label : Label
  pub is_label : slice_get labels call ≡ Some label
  pub need : List ℕ
  pub needs : (need ≡ []) ⊎ NamesNeeded labels p m rank call need
  pub text_is : text ≡ wait_words label rank ++ (need ++ 10 ∷ [])

-- the call that a rank waits in, which stands so, has a label
abbrev pub IsLabelled : List Label → Standing → Type 0
IsLabelled labels (Waits call) = (label : Label) × (slice_get labels call ≡ Some label)
IsLabelled labels _ = Unit {0}

-- what is told of a rank that stands so: a line where it waits, else nothing
abbrev pub IsNotice : List Label → MpiProgram → Configuration → ℕ → Option Standing → List ℕ → Type 0
IsNotice labels p m rank (Some (Waits call)) text = IsMessage labels p m rank call text
IsNotice labels p m rank _ text = text ≡ []

-- what is told of the first ranks, so many, one behind the other
abbrev pub AreNotices : List Label → MpiProgram → Configuration → List Standing → ℕ → List ℕ → Type 0
AreNotices labels p m standings zero text = text ≡ []
AreNotices labels p m standings (suc rank) text =
    (above : List ℕ) × (line : List ℕ) × AreNotices labels p m standings rank above × IsNotice labels p m rank (slice_get standings rank) line × (text ≡ above ++ line)

-- At the end of the run each rank stands so, and the text has a line for each that waits, in rising
-- order, and nothing else.
pub record IsMessages (text : List ℕ) (source : ProgramText) (p : MpiProgram) (steps : List Step) (told : List ℕ) : Type 0 where
  pub standings : List Standing
  pub are : AreStandings p (after_all (opening p) steps) p.ranks standings
  pub lines : AreNotices (call_labels text source p) p (after_all (opening p) steps) standings p.ranks told

-- From what is shown of a program to what is told of its text.
use Rattle.std.proofs.Common.{◌≡◌, ◌⊎◌, ℕ, List, inl, inr}
use Rattle.calltext.specs.Grammar.{long}
use Rattle.callorder.specs.Programs.{MpiProgram}
use Rattle.callorder.specs.Resolving.{IsTextOfWithin}
use Rattle.phase_checker.specs.declared.phase.Phase.{Phase}
use Rattle.phase_checker.specs.declared.reason.NotJoined.{NotJoined}
use Rattle.phase_checker.specs.declared.reason.NotJoined.TheVariants as joins
use Rattle.phase_checker.specs.Dealing.{AreJoined, IsNotJoined}
use Rattle.phase_checker.specs.parts.Parts.{IsFirstWrong, MakeUp}

pub are_joined : (text : List ℕ) (phases : List Phase) (order : List ℕ) (p : MpiProgram) → IsTextOfWithin long text p → MakeUp phases order p → AreJoined text phases order
are_joined text phases order p of all = record { p = p; left = all.left; is_text = of; all = all.all; nothing = all.nothing }

-- the text isn't to blame
pub is_not_joined : (text : List ℕ) (phases : List Phase) (order : List ℕ) (p : MpiProgram) (why : NotJoined) → IsTextOfWithin long text p
    → (why ≡ joins.Memory) ⊎ IsFirstWrong phases order p why → IsNotJoined text phases order why
is_not_joined text phases order p joins.Memory of shown = tt
is_not_joined text phases order p (joins.Read fault) of (inl e) = absurd (cc)
is_not_joined text phases order p (joins.Read fault) of (inr found) = absurd found.wrong
is_not_joined text phases order p (joins.Resolve fault) of (inl e) = absurd (cc)
is_not_joined text phases order p (joins.Resolve fault) of (inr found) = absurd found.wrong
is_not_joined text phases order p (joins.NoPhase at) of (inl e) = absurd (cc)
is_not_joined text phases order p (joins.NoPhase at) of (inr found) = record { p = p; q = found.q; place = found.place; is_text = of; before = found.before; wrong = found.wrong }
is_not_joined text phases order p (joins.Other at) of (inl e) = absurd (cc)
is_not_joined text phases order p (joins.Other at) of (inr found) = record { p = p; q = found.q; place = found.place; is_text = of; before = found.before; wrong = found.wrong }
is_not_joined text phases order p (joins.Source at) of (inl e) = absurd (cc)
is_not_joined text phases order p (joins.Source at) of (inr found) = record { p = p; q = found.q; place = found.place; is_text = of; before = found.before; wrong = found.wrong }
is_not_joined text phases order p (joins.Uneven at) of (inl e) = absurd (cc)
is_not_joined text phases order p (joins.Uneven at) of (inr found) = record { p = p; q = found.q; place = found.place; is_text = of; before = found.before; wrong = found.wrong }
is_not_joined text phases order p joins.Left of (inl e) = absurd (cc)
is_not_joined text phases order p joins.Left of (inr found) = record { p = p; q = found.q; place = found.place; is_text = of; before = found.before; wrong = found.wrong }

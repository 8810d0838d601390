-- Which words stand behind a verb: the table of call lines. `call_words` is the definition; the law
-- says that the table agrees with it.
use Rattle.std.specs.Prelude.{◌≡◌, ◌↔◌, ℕ, Bool, true, false, List, [], ◌∷◌, Option, IsTrue}
use Rattle.plaintext.specs.Plain.{numeral}
use Rattle.calltext.specs.declared.call.CallLine.{CallLine}
use Rattle.calltext.specs.declared.verb.Slot.{Slot}
use Rattle.calltext.specs.declared.verb.Slot.TheVariants.{Request, Requests, Handle, Rank, RankOrStar, Tag, TagOrStar, Communicator}
use Rattle.calltext.specs.declared.verb.Verb.{Verb}
use Rattle.calltext.specs.declared.verb.Verb.TheVariants as verb
use Rattle.calltext.specs.Grammar.{call_words, communicator_words, or_star, HasNames}
use Rattle.calltext.specs.Names.{is_name, AreNames}
use Rattle.calltext.specs.Verbs.{verb_word}

-- The request of a call that is started stands first.
abbrev pub started_slots : Bool → List Slot → List Slot
started_slots false slots = slots
started_slots true slots = Request ∷ slots

abbrev pub slots_of : Verb → List Slot
slots_of (verb.Send mode started) = started_slots started (Rank ∷ Tag ∷ Communicator ∷ [])
slots_of (verb.Receive started) = started_slots started (RankOrStar ∷ TagOrStar ∷ Communicator ∷ [])
slots_of verb.MatchedProbe = Handle ∷ RankOrStar ∷ TagOrStar ∷ Communicator ∷ []
slots_of verb.Probe = RankOrStar ∷ TagOrStar ∷ Communicator ∷ []
slots_of (verb.MatchedReceive started) = started_slots started (Handle ∷ [])
slots_of verb.Wait = Request ∷ []
slots_of verb.WaitAll = Requests ∷ []
slots_of verb.SendReceive = Rank ∷ Tag ∷ RankOrStar ∷ TagOrStar ∷ Communicator ∷ []

-- The word may stand in this slot. Numbers may be of any size.
abbrev pub Fills : Slot → List ℕ → Type 0
Fills Request word = IsTrue (is_name word)
Fills Handle word = IsTrue (is_name word)
Fills Rank word = (n : ℕ) × (word ≡ numeral n)
Fills RankOrStar word = (n : Option ℕ) × (word ≡ or_star n)
Fills Tag word = (n : ℕ) × (word ≡ numeral n)
Fills TagOrStar word = (n : Option ℕ) × (word ≡ or_star n)
Fills slot word = ⊥

-- The first word is such a one, and the others are such.
abbrev pub BeginsBy : (List ℕ → Type 0) → (List (List ℕ) → Type 0) → List (List ℕ) → Type 0
BeginsBy IsOne AreOthers [] = ⊥
BeginsBy IsOne AreOthers (word ∷ words) = IsOne word × AreOthers words

-- The words fill these slots, one each. Names of requests fill the last slot together, and so do
-- the words of a communicator, which may be left out.
abbrev pub AreFilled : List Slot → List (List ℕ) → Type 0
AreFilled [] words = words ≡ []
AreFilled (Communicator ∷ slots) words = (n : Option ℕ) × (words ≡ communicator_words n)
AreFilled (Requests ∷ slots) words = AreNames words
AreFilled (slot ∷ slots) words = BeginsBy (Fills slot) (AreFilled slots) words

-- Words behind a verb fill its slots exactly where they and the verb are a call's.
abbrev pub WordsFillSlots : Type 0
WordsFillSlots = (v : Verb) (words : List (List ℕ)) → ((c : CallLine) × HasNames c × (call_words c ≡ verb_word v ∷ words)) ↔ AreFilled (slots_of v) words

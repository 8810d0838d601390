use Rattle.std.proofs.Common.{◌≡◌, ℕ, List, ◌++◌, None, OnOk, Result, Ok, Err, inr, refl}
use Rattle.places.specs.Maps.{AreFrom, HasEntry}
use Rattle.places.specs.Woven.{IsAtSource, source_text}
use Rattle.places.specs.declared.map.Places.{Places}
use Rattle.places.proofs.weaving.put_in_place.Goals as goal

unknown : {E : Type 0} (r : Result (Unit {0}) E) (digits old new : List ℕ) (places : Places) → ((map words : List ℕ) → AreFrom map places → HasEntry map digits words → ⊥)
    → OnOk r (new ≡ old ++ source_text None digits) → OnOk r ((map : List ℕ) → AreFrom map places → (named : List ℕ) × IsAtSource map digits named × (new ≡ old ++ named))
unknown (Ok x) digits old new places none is = λ map are. (source_text None digits, inr (λ words. none map words are, refl), is)
unknown (Err e) digits old new places none is = is

pub returns-in-None : goal.returns-in-None
returns-in-None c =
    unknown c.put_source-in-None.result c.args.digits.now c.args.out.now.items c.put_source-in-None.new.out.items c.args.places.now c.in-None.ensures.none c.put_source-in-None.ensures

-- What is added behind the number is the place of its line.
use Rattle.std.proofs.Common.{◌≡◌, ◌∙◌, ℕ, List, [], ◌++◌, OnOk, Result, Ok, Err, ap, inl, inr, refl, sym, append-nil, append_assoc}
use Rattle.options.specs.declared.form.Form.{Form}
use Rattle.places.specs.Maps.{AreFrom, HasEntry}
use Rattle.places.specs.Woven.{IsSaid, IsToldOfWords, marker, place_text}
use Rattle.places.specs.declared.map.Places.{Places}
use Rattle.places.proofs.weaving.put_beside.Goals as goal

-- two parts that were added one after another, and what was added behind them
more : (old one two now mark digits added : List ℕ) → one ≡ old ++ mark → two ≡ one ++ digits → now ≡ two ++ added → now ≡ old ++ (mark ++ (digits ++ added))
more old one two now mark digits added a b d = simp (append_assoc, d, b, a) refl

placed : {E : Type 0} (r : Result (Unit {0}) E) (form : Form) (digits words short : List ℕ) (places : Places) (old one mid new : List ℕ)
    → one ≡ old ++ marker form → mid ≡ one ++ digits → OnOk r (new ≡ mid ++ place_text form short) → IsToldOfWords form words short
    → ((map : List ℕ) → AreFrom map places → HasEntry map digits words)
    → OnOk r ((map : List ℕ) → AreFrom map places → (added : List ℕ) × IsSaid form map digits added × (new ≡ old ++ (marker form ++ (digits ++ added))))
placed (Ok x) form digits words short places old one mid new a b d part has =
    λ map are. (place_text form short, inl (words, short, has map are, part, refl), more old one mid new (marker form) digits (place_text form short) a b d)
placed (Err e) form digits words short places old one mid new a b d part has = d

pub returns-in-Some : goal.returns-in-Some
returns-in-Some c =
    placed c.put_place.result c.args.form c.args.digits.now c.in-Some.words.now c.told_of.result.now c.args.places.now c.args.out.now.items
    c.extend_from_slice.new.self.items c.extend_from_slice-2.new.self.items c.put_place.new.out.items
    (c.in_ok-extend_from_slice.ensures.items ∙ ap (λ l. c.args.out.now.items ++ l) c.marker.ensures)
    c.in_ok-extend_from_slice-2.ensures.items c.put_place.ensures c.told_of.ensures c.in-Some.ensures.some

pub returns-in-None : goal.returns-in-None
returns-in-None c = λ map are.
    let two = c.extend_from_slice-2.new.self.items in (
      [],
      inr (λ words has. c.in-None.ensures.none map words are has, refl),
      more c.args.out.now.items c.extend_from_slice.new.self.items two two (marker c.args.form) c.args.digits.now []
          (c.in_ok-extend_from_slice.ensures.items ∙ ap (λ l. c.args.out.now.items ++ l) c.marker.ensures)
          c.in_ok-extend_from_slice-2.ensures.items (sym (append-nil two)),
    )

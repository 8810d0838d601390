-- What was written before a part, and the part, is what was written after it.
use Rattle.std.proofs.Common.{◌≡◌, ◌∙◌, ◌+◌, ◌<◌, ap, arith, sym, inl, inr, ℕ, List, [], ◌∷◌, ◌++◌, Option, append-nil, append_assoc, drop, get_or, length, length-append, subst, take, take_all, take-append-drop}
use Rattle.std.specs.Prelude.{flat_map}
use Rattle.std.specs.Io.KnownBytes.{Appends}
use Rattle.std.proofs.KnownBytes.{Appends-trans}
use Rattle.std.proofs.lemmas.List.{take_more}
use Rattle.std.proofs.lemmas.List.Concat.{flat_map-append}
use Rattle.files.specs.Contents.{AppendsPart}
use Rattle.session.proofs.run.complain.Goals as goal

texts_next : {X : Type 0} (f : X → List ℕ) (parts : List X) (index : ℕ) (d : X) → index < length parts
    → flat_map f (take (index + 1) parts) ≡ flat_map f (take index parts) ++ f (get_or parts index d)
texts_next f parts index d below =
    ap (flat_map f) (take_more parts index d below) ∙ flat_map-append f (take index parts) (get_or parts index d ∷ [])
    ∙ ap (λ (l : List ℕ). flat_map f (take index parts) ++ l) (append-nil (f (get_or parts index d)))

texts_from : {X : Type 0} (f : X → List ℕ) (parts : List X) (index : ℕ) (d : X) → index < length parts
    → (flat_map f (take index parts) ++ f (get_or parts index d)) ++ flat_map f (drop (index + 1) parts) ≡ flat_map f parts
texts_from f parts index d below =
    ap (λ (l : List ℕ). l ++ flat_map f (drop (index + 1) parts)) (sym (texts_next f parts index d below))
    ∙ sym (flat_map-append f (take (index + 1) parts) (drop (index + 1) parts)) ∙ ap (flat_map f) (take-append-drop (index + 1) parts)

-- where only a beginning of a text was written, what stands before it and after it changes nothing
more_part : (old mid new : Option (List ℕ)) (front text rest : List ℕ) → Appends old mid front → AppendsPart mid new text
    → AppendsPart old new ((front ++ text) ++ rest)
more_part old mid new front text rest first (written, left, split, some, appended) = (
  front ++ written,
  left ++ rest,
  ap (λ (l : List ℕ). (front ++ l) ++ rest) split ∙ ap (λ (l : List ℕ). l ++ rest) (sym (append_assoc front written left)) ∙ append_assoc (front ++ written) left rest,
  omega (arith, some, length-append left rest),
  Appends-trans old mid new front written first appended,
)

pub loop-part-preserved : goal.loop-part-preserved
loop-part-preserved g c =
    let next = texts_next (λ part. part.now) c.args.parts.now c.loop-part.part-index _ c.loop-part-test.true in
    subst (Appends _ _) (sym next)
    (Appends-trans _ _ _ _ _ c.loop-part.invariant (subst (Appends _ _) c.as_bytes.ensures.value c.in-Ok.ensures.all))

pub returns-in_default : goal.returns-in_default
returns-in_default g c =
    let index = c.loop-part.part-index in
    let parts = c.args.parts.now in
    inr (subst (AppendsPart _ _) (texts_from (λ part. part.now) parts index _ c.loop-part-test.true)
    (more_part _ _ _ _ _ (flat_map (λ part. part.now) (drop (index + 1) parts)) c.loop-part.invariant
    (subst (AppendsPart _ _) c.as_bytes.ensures.value c.in_default.ensures.part)))

pub returns : goal.returns
returns g c =
    inl (subst (Appends _ _) (ap (flat_map (λ part. part.now)) (take_all c.loop-part.part-index c.args.parts.now c.loop-part-test.false))
    c.loop-part.invariant)

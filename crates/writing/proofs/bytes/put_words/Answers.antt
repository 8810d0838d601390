use Rattle.std.proofs.Common.{◌≡◌, ℕ, ◌+◌, ◌<◌, List, [], ◌∷◌, ◌++◌, Bor, length, map, take, get_or, sym, ap, ◌∙◌, append_assoc, refl}
use Rattle.std.specs.List.{join_with_byte}
use Rattle.std.proofs.lemmas.List.{append-nil, map-append, take_more, take_all}
use Rattle.plaintext.specs.Plain.{spaced}
use Rattle.plaintext.proofs.Spaced.{spaced-append, spaced-join}
use Rattle.writing.proofs.bytes.put_words.Goals as goal

-- one more word
spaced_more : (words : List (Bor (List ℕ))) (k : ℕ) (d : Bor (List ℕ)) → k < length words → spaced (map (λ w. w.now) (take (k + 1) words)) ≡ spaced (map (λ w. w.now) (take k words)) ++ 32 ∷ (get_or words k d).now
spaced_more words k d within =
    ap (λ (l : List (Bor (List ℕ))). spaced (map (λ w. w.now) l)) (take_more words k d within)
    ∙ ap spaced (map-append (λ w. w.now) (take k words) (get_or words k d ∷ []))
    ∙ spaced-append (map (λ w. w.now) (take k words)) ((get_or words k d).now ∷ [])
    ∙ ap (λ (t : List ℕ). spaced (map (λ w. w.now) (take k words)) ++ 32 ∷ t) (append-nil (get_or words k d).now)

one_more : (old part word out blank more : List ℕ) → out ≡ old ++ part → blank ≡ out ++ 32 ∷ [] → more ≡ blank ++ word → more ≡ old ++ (part ++ 32 ∷ word)
one_more old part word out blank more p q r = simp (append_assoc, r, q, p) refl

pub loop-word-preserved : goal.loop-word-preserved
loop-word-preserved c =
    one_more c.extend_from_slice.new.self.items _ _ c.loop-word.out.items c.push.new.self.items c.extend_from_slice-in-loop-word.new.self.items c.loop-word.invariant c.in_ok-push.ensures.items c.in_ok-extend_from_slice-2.ensures.items
    ∙ ap (λ (t : List ℕ). c.extend_from_slice.new.self.items ++ t) (sym (spaced_more c.in-Some.others.now c.loop-word.word-index _ c.loop-word-test.true))

pub returns : goal.returns
returns c =
    c.loop-word.invariant
    ∙ ap (λ (t : List ℕ). t ++ spaced (map (λ w. w.now) (take c.loop-word.word-index c.in-Some.others.now))) c.in_ok-extend_from_slice.ensures.items
    ∙ ap (λ (l : List (Bor (List ℕ))). (c.args.out.now.items ++ c.in-Some.first.now.now) ++ spaced (map (λ w. w.now) l)) (take_all c.loop-word.word-index c.in-Some.others.now c.loop-word-test.false)
    ∙ append_assoc c.args.out.now.items c.in-Some.first.now.now (spaced (map (λ w. w.now) c.in-Some.others.now))
    ∙ ap (λ (t : List ℕ). c.args.out.now.items ++ t) (sym (spaced-join c.in-Some.first.now.now (map (λ w. w.now) c.in-Some.others.now)))
    ∙ ap (λ (l : List (Bor (List ℕ))). c.args.out.now.items ++ join_with_byte 32 (map (λ w. w.now) l)) (sym c.in-Some.ensures.cases.0)

-- The table of slots agrees with the words of calls.
use Rattle.std.proofs.Common.{◌≡◌, ◌∙◌, ℕ, true, false, List, [], ◌∷◌, ◌++◌, Some, None, Option, refl, sym, subst, ap}
use Rattle.std.specs.Prelude.{codes, ◌↔◌}
use Rattle.std.proofs.lemmas.List.{append-nil}
use Rattle.plaintext.specs.Plain.{numeral}
use Rattle.plaintext.proofs.FirstFaults.{heads}
use Rattle.calltext.specs.declared.call.CallLine.{CallLine}
use Rattle.calltext.specs.declared.call.CallLine.TheVariants.{Send, Receive, MatchedProbe, Probe, MatchedReceive, Wait, WaitAll, SendReceive}
use Rattle.calltext.specs.declared.verb.Verb.{Verb}
use Rattle.calltext.specs.declared.verb.Verb.TheVariants as verb
use Rattle.calltext.specs.Grammar.{call_words, communicator_words, send_word, HasNames}
use Rattle.calltext.specs.Names.{AreNames}
use Rattle.calltext.specs.Slots.{AreFilled, slots_of, WordsFillSlots}
use Rattle.calltext.specs.parts.Verbs.{operands}
use Rattle.calltext.specs.Verbs.{verb_of, verb_word}
use Rattle.calltext.proofs.Verbs.{call_words_are, verb_word_injective}

filled : (c : CallLine) → HasNames c → AreFilled (slots_of (verb_of c)) (operands c)
filled (Send m None d t k) names = ((d, refl), ((t, refl), (k, refl)))
filled (Send m (Some r) d t k) names = (names, ((d, refl), ((t, refl), (k, refl))))
filled (Receive None s t k) names = ((s, refl), ((t, refl), (k, refl)))
filled (Receive (Some r) s t k) names = (names, ((s, refl), ((t, refl), (k, refl))))
filled (MatchedProbe h s t k) names = (names, ((s, refl), ((t, refl), (k, refl))))
filled (Probe s t k) names = ((s, refl), ((t, refl), (k, refl)))
filled (MatchedReceive None h) names = (names.1, refl)
filled (MatchedReceive (Some r) h) names = (names.0, (names.1, refl))
filled (Wait r) names = (names, refl)
filled (WaitAll rs) names = subst AreNames (sym (append-nil rs)) names
filled (SendReceive d t s u k) names = ((d, refl), ((t, refl), ((s, refl), ((u, refl), (k, refl)))))

-- some call has this verb and these words behind it
abbrev IsACall : Verb → List (List ℕ) → Type 0
IsACall v words = (c : CallLine) × HasNames c × (call_words c ≡ verb_word v ∷ words)

is_filled : (v : Verb) (words : List (List ℕ)) → IsACall v words → AreFilled (slots_of v) words
is_filled v words (c, names, e) =
    let h = heads (verb_word (verb_of c)) (verb_word v) (operands c) words (sym (call_words_are c) ∙ e) in
    let same : verb_of c ≡ v = verb_word_injective (verb_of c) v h.0 in
    subst (λ (ws : List (List ℕ)). AreFilled (slots_of v) ws) h.1
    (subst (λ (w : Verb). AreFilled (slots_of w) (operands c)) same (filled c names))

is_call : (v : Verb) (words : List (List ℕ)) → AreFilled (slots_of v) words → IsACall v words
is_call (verb.Send m false) (w ∷ x ∷ ws) ((d, e), ((t, f), (k, g))) = (Send m None d t k, tt, λ i. send_word m ∷ sym e i ∷ sym f i ∷ sym g i)
is_call (verb.Send m false) (w ∷ []) (one, filled) = absurd filled
is_call (verb.Send m false) [] filled = absurd filled
is_call (verb.Send m true) (r ∷ w ∷ x ∷ ws) (name, ((d, e), ((t, f), (k, g)))) =
    (Send m (Some r) d t k, name, λ i. (105 ∷ send_word m) ∷ r ∷ sym e i ∷ sym f i ∷ sym g i)
is_call (verb.Send m true) (r ∷ w ∷ []) (name, (one, filled)) = absurd filled
is_call (verb.Send m true) (r ∷ []) (name, filled) = absurd filled
is_call (verb.Send m true) [] filled = absurd filled
is_call (verb.Receive false) (w ∷ x ∷ ws) ((s, e), ((t, f), (k, g))) = (Receive None s t k, tt, λ i. codes "recv" ∷ sym e i ∷ sym f i ∷ sym g i)
is_call (verb.Receive false) (w ∷ []) (one, filled) = absurd filled
is_call (verb.Receive false) [] filled = absurd filled
is_call (verb.Receive true) (r ∷ w ∷ x ∷ ws) (name, ((s, e), ((t, f), (k, g)))) =
    (Receive (Some r) s t k, name, λ i. codes "irecv" ∷ r ∷ sym e i ∷ sym f i ∷ sym g i)
is_call (verb.Receive true) (r ∷ w ∷ []) (name, (one, filled)) = absurd filled
is_call (verb.Receive true) (r ∷ []) (name, filled) = absurd filled
is_call (verb.Receive true) [] filled = absurd filled
is_call verb.MatchedProbe (h ∷ w ∷ x ∷ ws) (name, ((s, e), ((t, f), (k, g)))) =
    (MatchedProbe h s t k, name, λ i. codes "mprobe" ∷ h ∷ sym e i ∷ sym f i ∷ sym g i)
is_call verb.MatchedProbe (h ∷ w ∷ []) (name, (one, filled)) = absurd filled
is_call verb.MatchedProbe (h ∷ []) (name, filled) = absurd filled
is_call verb.MatchedProbe [] filled = absurd filled
is_call verb.Probe (w ∷ x ∷ ws) ((s, e), ((t, f), (k, g))) = (Probe s t k, tt, λ i. codes "probe" ∷ sym e i ∷ sym f i ∷ sym g i)
is_call verb.Probe (w ∷ []) (one, filled) = absurd filled
is_call verb.Probe [] filled = absurd filled
is_call (verb.MatchedReceive false) (h ∷ ws) (name, e) = (MatchedReceive None h, (tt, name), λ i. codes "mrecv" ∷ h ∷ sym e i)
is_call (verb.MatchedReceive false) [] filled = absurd filled
is_call (verb.MatchedReceive true) (r ∷ h ∷ ws) (one, (name, e)) = (MatchedReceive (Some r) h, (one, name), λ i. codes "imrecv" ∷ r ∷ h ∷ sym e i)
is_call (verb.MatchedReceive true) (r ∷ []) (one, filled) = absurd filled
is_call (verb.MatchedReceive true) [] filled = absurd filled
is_call verb.Wait (r ∷ ws) (name, e) = (Wait r, name, λ i. codes "wait" ∷ r ∷ sym e i)
is_call verb.Wait [] filled = absurd filled
is_call verb.WaitAll words names = (WaitAll words, names, refl)
is_call verb.SendReceive (w ∷ x ∷ y ∷ z ∷ ws) ((d, e), ((t, f), ((s, g), ((u, h), (k, j))))) =
    (SendReceive d t s u k, tt, λ i. codes "sendrecv" ∷ sym e i ∷ sym f i ∷ sym g i ∷ sym h i ∷ sym j i)
is_call verb.SendReceive (w ∷ x ∷ y ∷ []) (a, (b, (c, filled))) = absurd filled
is_call verb.SendReceive (w ∷ x ∷ []) (a, (b, filled)) = absurd filled
is_call verb.SendReceive (w ∷ []) (a, filled) = absurd filled
is_call verb.SendReceive [] filled = absurd filled

pub words_fill_slots : WordsFillSlots
words_fill_slots v words = (is_filled v words, is_call v words)

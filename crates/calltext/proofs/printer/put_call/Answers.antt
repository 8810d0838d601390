use Rattle.std.proofs.Common.{◌≡◌, ◌++◌, ◌∷◌, [], List, ℕ, ap, ◌∙◌}
use Rattle.plaintext.specs.Plain.{spaced}
use Rattle.calltext.specs.parts.Verbs.{name_words, number_words}
use Rattle.calltext.specs.Verbs.{verb_of, verb_word}
use Rattle.calltext.proofs.PrintLaws.{call_line}
use Rattle.calltext.proofs.printer.put_call.Goals as goal

pub returns : goal.returns
returns c =
    let verb : c.as_bytes.result.now ≡ verb_word (verb_of c.args.call.now) = c.as_bytes.ensures.value ∙ c.text.ensures ∙ ap verb_word c.of-verb.ensures in
    let first : c.extend_from_slice.new.self.items ≡ c.args.out.now.items ++ verb_word (verb_of c.args.call.now) = c.in_ok-extend_from_slice.ensures.items ∙ ap (λ (w : List ℕ). c.args.out.now.items ++ w) verb in
    c.in_ok-push.ensures.items
    ∙ ap (λ (t : List ℕ). t ++ 10 ∷ []) (c.in_ok-put_call_numbers.ensures ∙ ap (λ (t : List ℕ). t ++ spaced (number_words c.args.call.now)) (c.in_ok-put_call_names.ensures ∙ ap (λ (t : List ℕ). t ++ spaced (name_words c.args.call.now)) first))
    ∙ call_line c.args.out.now.items c.args.call.now

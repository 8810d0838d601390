use Rattle.std.proofs.Common.{◌≡◌, ◌++◌, List, ℕ, ap, ◌∙◌}
use Rattle.plaintext.specs.Plain.{spaced}
use Rattle.calltext.specs.declared.call.CallLine.{CallLine}
use Rattle.calltext.specs.parts.Verbs.{name_words, number_words}
use Rattle.calltext.specs.Verbs.{verb_of, verb_word}
use Rattle.spmd_program.specs.Lines.{line_of_call}
use Rattle.spmd_program.proofs.Written.{line_written}
use Rattle.spmd_program.proofs.lines.put_line.Goals as goal

pub returns : goal.returns
returns c =
    let line : CallLine = line_of_call c.args.names.now c.args.call c.args.rest.now in
    let verb : c.as_bytes.result.now ≡ verb_word (verb_of line) =
    c.as_bytes.ensures.value ∙ c.text.ensures ∙ ap verb_word (c.verb_of-verb.ensures c.args.names.now c.args.rest.now) in
    let first : c.extend_from_slice.new.self.items ≡ c.args.out.now.items ++ verb_word (verb_of line) =
    c.in_ok-extend_from_slice.ensures.items ∙ ap (λ (w : List ℕ). c.args.out.now.items ++ w) verb in
    let text : c.put_numbers.new.out.items ≡ ((c.args.out.now.items ++ verb_word (verb_of line)) ++ spaced (name_words line)) ++ spaced (number_words line) =
    c.in_ok-put_numbers.ensures.text c.args.names.now c.args.rest.now
    ∙ ap (λ (t : List ℕ). t ++ spaced (number_words line)) (c.in_ok-put_names.ensures.text ∙ ap (λ (t : List ℕ). t ++ spaced (name_words line)) first) in
    line_written line c.args.out.now.items c.put_numbers.new.out.items c.push.new.self.items text c.in_ok-push.ensures.items
    c.in_ok-put_names.ensures.names (c.in_ok-put_numbers.ensures.range c.args.names.now c.args.rest.now)

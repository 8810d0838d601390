-- What the loop over the lines of the ranks keeps.
use Rattle.std.proofs.Common.{◌≡◌, ℕ, ◌+◌, ◌<◌, ◌≤◌, List, [], ◌∷◌, ◌++◌, length, refl, sym, ap, subst, ◌∙◌, append_assoc, arith}
use Rattle.std.proofs.lemmas.List.{length-append}
use Rattle.plaintext.specs.Plain.{line_of, text_lines}
use Rattle.plaintext.proofs.Cuts.{no_line_of}
use Rattle.calltext.specs.declared.call.CallLine.{CallLine}
use Rattle.calltext.specs.declared.line.CallLineFault.{CallLineFault}
use Rattle.calltext.specs.declared.line.CallLineFault.TheVariants as wrong
use Rattle.calltext.specs.Grammar.{call_words, rank_words, rank_lines, CallFits}
use Rattle.calltext.specs.RefusedWords.{refused_word}
use Rattle.calltext.specs.parts.Item.{IsWrong, IsUnended}
use Rattle.calltext.specs.parts.Body.{HasRanks, StopsAt, IsStopped}
use Rattle.calltext.specs.declared.limits.Limits.{Limits}
use Rattle.calltext.proofs.Blocks.{AllFit, rank_lines-call, rank_lines-rank}

pub record SoFar (l : Limits) (total : ℕ) (bytes rest : List ℕ) (number : ℕ) (ranks : List (List CallLine)) (calls : List CallLine) : Type 0 where
  pub cut : line_of (rank_words 0) ∷ text_lines bytes ≡ rank_lines 0 (ranks ++ calls ∷ []) ++ text_lines rest
  pub fit : AllFit l (ranks ++ calls ∷ [])
  pub count : length ranks + 1 ≤ total
  pub place : number ≡ 3 + length (rank_lines 0 (ranks ++ calls ∷ []))

pub begun : (l : Limits) (total : ℕ) (bytes : List ℕ) → 1 ≤ total → SoFar l total bytes bytes 4 [] []
begun l total bytes h = record { cut = refl; fit = (tt, tt); count = omega arith; place = refl }

push_fit : (l : Limits) (ranks : List (List CallLine)) (calls : List CallLine) (c : CallLine) → AllFit l (ranks ++ calls ∷ []) → CallFits l c → AllFit l (ranks ++ (calls ++ c ∷ []) ∷ [])
push_fit l [] [] c fit h = ((h, tt), tt)
push_fit l [] (d ∷ calls) c fit h = let x = push_fit l [] calls c (fit.0.1, tt) h in ((fit.0.0, x.0), tt)
push_fit l (r ∷ ranks) calls c fit h = (fit.0, push_fit l ranks calls c fit.1 h)

rank_fit : (l : Limits) (ranks : List (List CallLine)) → AllFit l ranks → AllFit l (ranks ++ [] ∷ [])
rank_fit l [] fit = (tt, tt)
rank_fit l (r ∷ ranks) fit = (fit.0, rank_fit l ranks fit.1)

pub SoFar-call : (l : Limits) (total : ℕ) (bytes rest after : List ℕ) (number : ℕ) (ranks : List (List CallLine)) (calls : List CallLine) (c : CallLine) (line : List ℕ)
    → SoFar l total bytes rest number ranks calls → text_lines rest ≡ line ∷ text_lines after → CallFits l c → line_of (call_words c) ≡ line
    → SoFar l total bytes after (number + 1) ranks (calls ++ c ∷ [])
SoFar-call l total bytes rest after number ranks calls c line so next fits spelled = record {
  cut = so.cut ∙ ap (λ (ls : List (List ℕ)). rank_lines 0 (ranks ++ calls ∷ []) ++ ls) (next ∙ ap (λ (l : List ℕ). l ∷ text_lines after) (sym spelled))
      ∙ sym (append_assoc (rank_lines 0 (ranks ++ calls ∷ [])) (line_of (call_words c) ∷ []) (text_lines after))
      ∙ ap (λ (ls : List (List ℕ)). ls ++ text_lines after) (sym (rank_lines-call ranks calls c));
  fit = push_fit l ranks calls c so.fit fits;
  count = so.count;
  place = omega (arith, so.place, ap length (rank_lines-call ranks calls c), length-append (rank_lines 0 (ranks ++ calls ∷ [])) (line_of (call_words c) ∷ []));
}

pub SoFar-rank : (l : Limits) (total : ℕ) (bytes rest after : List ℕ) (number : ℕ) (ranks : List (List CallLine)) (calls : List CallLine) (line : List ℕ)
    → SoFar l total bytes rest number ranks calls → text_lines rest ≡ line ∷ text_lines after → length ranks + 1 < total → line_of (rank_words (length ranks + 1)) ≡ line
    → SoFar l total bytes after (number + 1) (ranks ++ calls ∷ []) []
SoFar-rank l total bytes rest after number ranks calls line so next lt spelled =
    let done : List (List CallLine) = ranks ++ calls ∷ [] in
    let len : length done ≡ length ranks + 1 = length-append ranks (calls ∷ []) in
    let spelled' : line_of (rank_words (length done)) ≡ line = ap (λ (k : ℕ). line_of (rank_words k)) len ∙ spelled in
    record {
      cut = so.cut ∙ ap (λ (ls : List (List ℕ)). rank_lines 0 done ++ ls) (next ∙ ap (λ (l : List ℕ). l ∷ text_lines after) (sym spelled'))
          ∙ sym (append_assoc (rank_lines 0 done) (line_of (rank_words (length done)) ∷ []) (text_lines after))
          ∙ ap (λ (ls : List (List ℕ)). ls ++ text_lines after) (sym (rank_lines-rank done));
      fit = rank_fit l done so.fit;
      count = omega (arith, len);
      place = omega (arith, so.place, ap length (rank_lines-rank done), length-append (rank_lines 0 done) (line_of (rank_words (length done)) ∷ []));
    }

stop : (l : Limits) (fault : CallLineFault) (number total : ℕ) (bytes : List ℕ) → StopsAt l fault number total bytes → IsStopped l fault number total bytes
stop l wrong.Memory number total bytes h = tt
stop l wrong.NotAscii number total bytes h = h
stop l wrong.Syntax number total bytes h = h
stop l (wrong.OutOfProfile w) number total bytes h = h
stop l wrong.Range number total bytes h = h

pub SoFar-stop : (l : Limits) (fault : CallLineFault) (total : ℕ) (bytes rest : List ℕ) (number : ℕ) (ranks : List (List CallLine)) (calls : List CallLine) (line : List ℕ) (after : List (List ℕ))
    → SoFar l total bytes rest number ranks calls → text_lines rest ≡ line ∷ after → IsWrong l fault (length ranks + 1) total line → (line ≡ [] → length ranks + 1 < total)
    → IsStopped l fault number total bytes
SoFar-stop l fault total bytes rest number ranks calls line after so next why early =
    let done : List (List CallLine) = ranks ++ calls ∷ [] in
    let len : length done ≡ length ranks + 1 = length-append ranks (calls ∷ []) in
    stop l fault number total bytes (record {
      done = done;
      line = line;
      after = after;
      some = omega (arith, len);
      within = omega (arith, len, so.count);
      fit = so.fit;
      cut = so.cut ∙ ap (λ (ls : List (List ℕ)). rank_lines 0 done ++ ls) next;
      place = so.place;
      why = subst (λ (k : ℕ). IsWrong l fault k total line) (sym len) why;
      early = λ e. omega (arith, len, early e);
    })

no_wrong : (l : Limits) (fault : CallLineFault) (next total : ℕ) (bytes : List ℕ) → text_lines bytes ≡ bytes ∷ [] → IsUnended fault bytes → IsWrong l fault next total bytes
no_wrong l wrong.Memory next total bytes one u = absurd u
no_wrong l wrong.NotAscii next total bytes one u = u
no_wrong l wrong.Syntax next total bytes one u = (u, λ c names e. no_line_of bytes (call_words c) one e, λ lt e. no_line_of bytes (rank_words next) one e, λ w r. no_line_of bytes (refused_word w ∷ r.1) one (sym r.2))
no_wrong l (wrong.OutOfProfile w) next total bytes one u = absurd u
no_wrong l wrong.Range next total bytes one u = absurd u

-- a line that lacks its LF
pub SoFar-unended : (l : Limits) (fault : CallLineFault) (total : ℕ) (bytes rest : List ℕ) (number : ℕ) (ranks : List (List CallLine)) (calls : List CallLine)
    → SoFar l total bytes rest number ranks calls → text_lines rest ≡ rest ∷ [] → IsUnended fault rest → (rest ≡ [] → length ranks + 1 < total) → IsStopped l fault number total bytes
SoFar-unended l fault total bytes rest number ranks calls so one u early = SoFar-stop l fault total bytes rest number ranks calls rest [] so one (no_wrong l fault (length ranks + 1) total rest one u) early

pub SoFar-end : (l : Limits) (total : ℕ) (bytes rest : List ℕ) (number : ℕ) (ranks : List (List CallLine)) (calls : List CallLine)
    → SoFar l total bytes rest number ranks calls → rest ≡ [] → total ≤ length ranks + 1 → HasRanks l total bytes (ranks ++ calls ∷ [])
SoFar-end l total bytes rest number ranks calls so ended full = record {
  cut = so.cut ∙ ap (λ (r : List ℕ). rank_lines 0 (ranks ++ calls ∷ []) ++ text_lines r) ended;
  count = omega (arith, so.count, full, length-append ranks (calls ∷ []));
  fit = so.fit;
}

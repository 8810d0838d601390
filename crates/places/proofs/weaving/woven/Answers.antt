-- Part by part the text is woven.
use Rattle.std.proofs.Common.{◌∙◌, ℕ, List, [], ◌∷◌, ◌++◌, ap, subst}
use Rattle.places.specs.Marks.{IsFirstNaming, NamesNone}
use Rattle.places.specs.Woven.{AreCut, kept_of, marker}
use Rattle.places.proofs.Pieces.{cut_more, kept_more, placed_piece, told_more}
use Rattle.places.proofs.weaving.woven.Goals as goal

pub loop-front-preserved : goal.loop-front-preserved
loop-front-preserved c = λ map are.
    let form = c.args.form in
    let (pieces, cut, plain, out) = c.loop-front.invariant map are in
    let (named, names, put) = c.in_ok-put_named.ensures map are in
    let text = c.loop-front.rest.now in
    let front = c.in-Some.front.now in
    let behind = c.in-Some.behind.now in
    let digits = c.digits_of.result.0.now in
    let rest = c.digits_of.result.1.now in
    let at : IsFirstNaming (marker form) text front behind = subst (λ (m : List ℕ). IsFirstNaming m text front behind) c.marker.ensures c.in-Some.ensures.some in
    let (piece, placed, is, told) = placed_piece form map text front digits behind rest named at c.digits_of.ensures.parts c.digits_of.ensures.digits names in (
      pieces ++ piece ∷ [],
      cut_more form map pieces piece rest (subst (λ (l : List ℕ). AreCut form map pieces l) is cut) placed c.digits_of.ensures.all,
      plain ∙ ap (λ (l : List ℕ). kept_of pieces ++ l) is ∙ kept_more pieces piece rest,
      told_more pieces piece front named c.loop-front.out.items c.extend_from_slice.new.self.items c.put_named.new.out.items out c.in_ok-extend_from_slice.ensures.items put told,
    )

pub returns : goal.returns
returns c = λ map are.
    let form = c.args.form in
    let (pieces, cut, plain, out) = c.loop-front.invariant map are in
    let rest = c.loop-front.rest.now in
    record {
      pieces = pieces;
      rest = rest;
      cut = cut;
      last = subst (λ (m : List ℕ). NamesNone m rest) c.marker.ensures c.in_default.ensures.none;
      plain_is = plain;
      told_is = c.in_ok-extend_from_slice-2.ensures.items ∙ ap (λ (l : List ℕ). l ++ rest) out;
    }

-- What is wrong with a call for the names of one kind, as the tables tell it.
use Rattle.std.proofs.Common.{◌≡◌, ℕ, ◌<◌, Bool, false, ◌&&◌, not, List, Option, Some, None, slice_get, get_or, length, sym, ap, ◌∙◌}
use Rattle.std.proofs.lemmas.Option.{slice_get-get_or}
use Rattle.callorder.specs.declared.part.UnlinkedCall.{UnlinkedCall}
use Rattle.callorder.specs.declared.part.NameKind.{NameKind}
use Rattle.callorder.specs.declared.links.Links.{Links}
use Rattle.callorder.specs.declared.faults.NameFaults.{NameFaults}
use Rattle.callorder.specs.Calls.{holds_of}
use Rattle.callorder.specs.Names.{Uses, uses_of, starts, ends, previous, is_ended}
use Rattle.callorder.specs.parts.Tables.{AreLinks, name_faults}

pub name_faults_told : (kind : NameKind) (parts : List UnlinkedCall) (names : List (Option (List ℕ))) (links : Links) (k : ℕ) (d : UnlinkedCall) (starts_here ends_here follows ended : Bool) (before : Option ℕ) (earlier : List (Option ℕ)) (later : List Bool) (result : NameFaults)
    → k < length parts → AreLinks (uses_of kind parts names) links
    → starts_here ≡ starts kind (get_or parts k d).kind → ends_here ≡ ends kind (get_or parts k d).kind
    → earlier ≡ links.previous.items → before ≡ get_or earlier k None → follows ≡ holds_of (uses_of kind parts names).starts before
    → later ≡ links.ended.items → ended ≡ get_or later k false
    → result ≡ record { is_unknown = ends_here && not follows; is_open = starts_here && follows; is_left = starts_here && not ended }
    → result ≡ name_faults (uses_of kind parts names) k
name_faults_told kind parts names links k d starts_here ends_here follows ended before earlier later result within are_links of_start of_end of_earlier of_before of_follows of_later of_ended told =
    let u : Uses = uses_of kind parts names in
    let here : slice_get parts k ≡ Some (get_or parts k d) = slice_get-get_or parts k d within in
    let s : starts_here ≡ u.starts k = of_start ∙ sym (ap (holds_of (λ (part : UnlinkedCall). starts kind part.kind)) here) in
    let e : ends_here ≡ u.ends k = of_end ∙ sym (ap (holds_of (λ (part : UnlinkedCall). ends kind part.kind)) here) in
    let b : before ≡ previous u k = of_before ∙ ap (λ (l : List (Option ℕ)). get_or l k None) of_earlier ∙ are_links.previous.entries k within in
    let f : follows ≡ holds_of u.starts (previous u k) = of_follows ∙ ap (holds_of u.starts) b in
    let n : ended ≡ is_ended u k = of_ended ∙ ap (λ (l : List Bool). get_or l k false) of_later ∙ are_links.ended.entries k within in
    told ∙ (λ t. record { is_unknown = e t && not (f t); is_open = s t && f t; is_left = s t && not (n t) })

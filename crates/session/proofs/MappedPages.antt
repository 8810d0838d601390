-- What a page with the places of a map tells.
use Rattle.std.proofs.Common.{◌∙◌, ◌<◌, ℕ, Bool, true, false, List, ◌++◌, Option, Some, None, inl, inr, refl, sym, arith, codes, decimal}
use Rattle.options.specs.declared.form.Form.{Form}
use Rattle.options.specs.declared.form.Form.TheVariants as forms
use Rattle.places.specs.Woven.{HasPlaces, IsWoven}
use Rattle.places.specs.declared.map.MapFault.{MapFault}
use Rattle.places.specs.declared.map.MapFault.TheVariants as faults
use Rattle.session.specs.Explaining.{is_object}
use Rattle.session.specs.Lines.{deadlock_line}
use Rattle.session.specs.Mapping.{IsMapRefused, IsMapped}
use Rattle.session.proofs.DeadlockLines.{PageTells, deadlock_begins, plainly_differs}
use Rattle.session.proofs.PlacedTexts.{IsUnplaced, woven_begins}

deadlock_unplaced : (as_json : Bool) → IsUnplaced (deadlock_line as_json)
deadlock_unplaced false = record { unmarked = refl; unnamed = refl; ends = refl }
deadlock_unplaced true = record { unmarked = refl; unnamed = refl; ends = refl }

woven_tells : (form : Form) (map plain text : List ℕ) (status : ℕ) → IsWoven form map plain text → PageTells text status → PageTells plain status
woven_tells form map plain text status w (inl one) = inl one
woven_tells form map plain text status w (inr begins) =
    let is = woven_begins form map w.pieces w.rest (deadlock_line begins.0) begins.1 w.cut (deadlock_unplaced begins.0) (sym w.told_is ∙ begins.2) in
    inr (begins.0, is.0, w.plain_is ∙ is.1)

pub places_tell : (form : Form) (map plain text : List ℕ) (status : ℕ) → HasPlaces form map plain text → PageTells text status → PageTells plain status
places_tell forms.Object map plain text status (strings, first, then) tells =
    woven_tells forms.Graph map plain strings status first (woven_tells forms.Object map strings text status then tells)
places_tell forms.Brief map plain text status woven tells = woven_tells forms.Brief map plain text status woven tells
places_tell forms.Whole map plain text status woven tells = woven_tells forms.Whole map plain text status woven tells
places_tell forms.Graph map plain text status woven tells = woven_tells forms.Graph map plain text status woven tells
places_tell forms.Chart map plain text status woven tells = woven_tells forms.Chart map plain text status woven tells
places_tell forms.Picture map plain text status woven tells = woven_tells forms.Picture map plain text status woven tells
places_tell forms.Page map plain text status woven tells = woven_tells forms.Page map plain text status woven tells
places_tell forms.Messages map plain text status woven tells = woven_tells forms.Messages map plain text status woven tells

-- the words of a refused map begin as no deadlock's line does
refused_untold : (json : Bool) (fault : MapFault) (text : List ℕ) (status : ℕ) → IsMapRefused json fault text status → PageTells text status → ⊥
refused_untold json fault text status page (inl one) = omega (arith, page.1, one)
refused_untold json faults.Memory text status page (inr begins) =
    plainly_differs (codes "efused memory") deadlock_line 100 deadlock_begins begins.0 json text (codes "refused memory") begins.1 refl page.0 (λ e. omega (arith, e)) begins.2
refused_untold json faults.OtherText text status page (inr begins) =
    plainly_differs (codes "efused map of another text") deadlock_line 100 deadlock_begins begins.0 json text (codes "refused map of another text") begins.1 refl page.0 (λ e. omega (arith, e)) begins.2
refused_untold json (faults.Line line) text status page (inr begins) =
    plainly_differs (codes "efused map line " ++ decimal line) deadlock_line 100 deadlock_begins begins.0 json text (codes "refused map line " ++ decimal line) begins.1 refl page.0
    (λ e. omega (arith, e)) begins.2

-- a page that tells a deadlock is one without places that tells it
pub unmapped_told : (held : List ℕ → Option (List ℕ)) (program : List ℕ) (form : Form) (map : Option (List ℕ)) (IsPage : List ℕ → ℕ → Type 0) (text : List ℕ) (status : ℕ)
    → IsMapped held program form map IsPage text status → PageTells text status → (plain : List ℕ) × IsPage plain status × PageTells plain status
unmapped_told held program form None IsPage text status page tells = (text, page, tells)
unmapped_told held program form (Some path) IsPage text status (source, map, all, whole, inl refused) tells =
    absurd (refused_untold (is_object form) refused.0 text status refused.3 tells)
unmapped_told held program form (Some path) IsPage text status (source, map, all, whole, inr (of, (plain, page, woven))) tells =
    (plain, page, places_tell form map plain text status woven tells)

-- and so of one with a status below 3
pub unmapped_page : (held : List ℕ → Option (List ℕ)) (program : List ℕ) (form : Form) (map : Option (List ℕ)) (IsPage : List ℕ → ℕ → Type 0) (text : List ℕ) (status : ℕ)
    → IsMapped held program form map IsPage text status → status < 3 → (plain : List ℕ) × IsPage plain status
unmapped_page held program form None IsPage text status page low = (text, page)
unmapped_page held program form (Some path) IsPage text status (source, map, all, whole, inl refused) low = absurd (omega (arith, refused.3.1, low))
unmapped_page held program form (Some path) IsPage text status (source, map, all, whole, inr (of, (plain, page, woven))) low = (plain, page)

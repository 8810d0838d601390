-- The page of `explain` with a map.
use Rattle.std.specs.Prelude.{◌≡◌, ◌≢◌, ◌⊎◌, ℕ, Bool, List, ◌++◌, codes, decimal, Option, Some, None}
use Rattle.files.specs.Contents.{AreAll}
use Rattle.options.specs.declared.form.Form.{Form}
use Rattle.places.specs.Maps.{IsMapFault, IsMapOf}
use Rattle.places.specs.Woven.{HasPlaces}
use Rattle.places.specs.declared.map.MapFault.{MapFault}
use Rattle.places.specs.declared.map.MapFault.TheVariants as faults
use Rattle.session.specs.Explaining.{is_object}
use Rattle.session.specs.Lines.{line_text}
use Rattle.session.specs.Pages.{IsProgramFile}

-- the words that tell why a map is refused
abbrev pub map_words : MapFault → List ℕ
map_words faults.Memory = codes "refused memory"
map_words faults.OtherText = codes "refused map of another text"
map_words (faults.Line line) = codes "refused map line " ++ decimal line

-- the page that tells why a map is refused
abbrev pub IsMapRefused : Bool → MapFault → List ℕ → ℕ → Type 0
IsMapRefused json fault text status = (text ≡ line_text json (map_words fault) 3) × (status ≡ 3)

-- Of the program's text in the one file and the map in the other: the map is refused as none of
-- that text; or it is one, and the page is a plain one with the places that the map has for the
-- lines that it names.
abbrev pub IsPlacedPage : Option (List ℕ) → Option (List ℕ) → Form → (List ℕ → ℕ → Type 0) → List ℕ → ℕ → Type 0
IsPlacedPage program_file map_file form IsPage text status =
    (program : List ℕ) × (map : List ℕ) × AreAll program_file program × AreAll map_file map
    × (((fault : MapFault) × IsMapFault program map fault × (fault ≢ faults.Memory) × IsMapRefused (is_object form) fault text status)
    ⊎ (IsMapOf program map × ((plain : List ℕ) × IsPage plain status × HasPlaces form map plain text)))

-- so, where a map is named
abbrev pub IsMapped : (List ℕ → Option (List ℕ)) → List ℕ → Form → Option (List ℕ) → (List ℕ → ℕ → Type 0) → List ℕ → ℕ → Type 0
IsMapped held program form None IsPage = IsPage
IsMapped held program form (Some map) IsPage = IsPlacedPage (held program) (held map) form IsPage

-- the file that failed is the map's or the program's, and it isn't told to be read; or it is one of
-- the explanation's
abbrev pub IsPlacedFile : (List ℕ → Bool) → List ℕ → List ℕ → (List ℕ → Type 0) → List ℕ → Type 0
IsPlacedFile reads program map IsFile path = IsProgramFile reads map path ⊎ (IsProgramFile reads program path ⊎ IsFile path)

abbrev pub IsMappedFile : (List ℕ → Bool) → List ℕ → Option (List ℕ) → (List ℕ → Type 0) → List ℕ → Type 0
IsMappedFile reads program None IsFile = IsFile
IsMappedFile reads program (Some map) IsFile = IsPlacedFile reads program map IsFile

-- What is told, moment by moment.
use Rattle.std.proofs.Common.{◌≡◌, ◌∙◌, ◌<◌, ap, sym, inl, inr, refl, subst, ℕ, List, [], ◌∷◌, ◌++◌, Option, Some, None, append-nil, append_assoc}
use Rattle.std.specs.List.{flat_map}
use Rattle.std.specs.Io.KnownBytes.{Appends}
use Rattle.std.proofs.KnownBytes.{Appends-trans}
use Rattle.std.proofs.lemmas.List.Concat.{flat_map-append}
use Rattle.files.specs.Contents.{AppendsPart}
use Rattle.progress.specs.Telling.{Rises, TellsProgress, moment_line}
use Rattle.progress.specs.declared.moment.Moment.{Moment}

-- the seconds of the last moment, or these where there is none
abbrev pub last_of : ℕ → List Moment → ℕ
last_of seconds [] = seconds
last_of seconds (moment ∷ later) = last_of moment.seconds later

-- moments were told whole, the last of them after so many seconds
abbrev pub HasTold : Option (List ℕ) → Option (List ℕ) → ℕ → Type 0
HasTold old new last =
    (moments : List Moment) × Rises 0 moments × (last_of 0 moments ≡ last) × Appends old new (flat_map moment_line moments)

appends_nothing : (known : Option (List ℕ)) → Appends known known []
appends_nothing None = _
appends_nothing (Some bytes) = sym (append-nil bytes)

pub nothing_told : (known : Option (List ℕ)) → HasTold known known 0
nothing_told known = ([], _, refl, appends_nothing known)

pub told_whole : (old new : Option (List ℕ)) (last : ℕ) → HasTold old new last → TellsProgress old new
told_whole old new last (moments, rises, is, appends) = (moments, rises, inl appends)

-- where nothing is told, no progress is told amiss
pub none_told : (known : Option (List ℕ)) → TellsProgress known known
none_told known = told_whole known known 0 (nothing_told known)

rises_more : (seconds : ℕ) (moments : List Moment) (moment : Moment) → Rises seconds moments → last_of seconds moments < moment.seconds
    → Rises seconds (moments ++ moment ∷ [])
rises_more seconds [] moment rises later = (later, _)
rises_more seconds (first ∷ rest) moment rises later = (rises.0, rises_more first.seconds rest moment rises.1 later)

last_of_more : (seconds : ℕ) (moments : List Moment) (moment : Moment) → last_of seconds (moments ++ moment ∷ []) ≡ moment.seconds
last_of_more seconds [] moment = refl
last_of_more seconds (first ∷ rest) moment = last_of_more first.seconds rest moment

lines_more : (moments : List Moment) (moment : Moment) → flat_map moment_line moments ++ moment_line moment ≡ flat_map moment_line (moments ++ moment ∷ [])
lines_more moments moment =
    ap (λ (l : List ℕ). flat_map moment_line moments ++ l) (sym (append-nil (moment_line moment)))
    ∙ sym (flat_map-append moment_line moments (moment ∷ []))

-- one more moment is told
pub told_more : (old mid new : Option (List ℕ)) (last : ℕ) (moment : Moment) → HasTold old mid last → last < moment.seconds
    → Appends mid new (moment_line moment) → HasTold old new moment.seconds
told_more old mid new last moment (moments, rises, is, appends) later line = (
  moments ++ moment ∷ [],
  rises_more 0 moments moment rises (subst (λ (s : ℕ). s < moment.seconds) (sym is) later),
  last_of_more 0 moments moment,
  subst (Appends old new) (lines_more moments moment) (Appends-trans old mid new (flat_map moment_line moments) (moment_line moment) appends line),
)

-- or a beginning of its line, where the output failed
pub told_part : (old mid new : Option (List ℕ)) (last : ℕ) (moment : Moment) → HasTold old mid last → last < moment.seconds
    → AppendsPart mid new (moment_line moment) → TellsProgress old new
told_part old mid new last moment (moments, rises, is, appends) later (written, left, split, some, appended) =
    let front = flat_map moment_line moments in (
      moments ++ moment ∷ [],
      rises_more 0 moments moment rises (subst (λ (s : ℕ). s < moment.seconds) (sym is) later),
      inr (
        front ++ written,
        left,
        sym (lines_more moments moment) ∙ ap (λ (l : List ℕ). front ++ l) split ∙ sym (append_assoc front written left),
        some,
        Appends-trans old mid new front written appends appended,
      ),
    )

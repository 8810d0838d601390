-- Parts of which texts are put together.
use Rattle.std.specs.Prelude.{ℕ, List}
use Rattle.plaintext.specs.Plain.{numeral}
use Rattle.writing.specs.declared.parts.Part.{Part}
use Rattle.writing.specs.declared.parts.Part.TheVariants.{Text, Bytes, Number}

-- what a part stands for: a text itself, a number its numeral
abbrev pub part_text : Part → List ℕ
part_text (Text text) = text.now
part_text (Bytes bytes) = bytes.now
part_text (Number number) = numeral number

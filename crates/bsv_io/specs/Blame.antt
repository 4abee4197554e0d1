-- The name that the last failed call was about, which is kept where it stands.
use Rattle.std.specs.Prelude.{ℕ, List, Option, None, Some}
use Rattle.std.specs.Option.{option_map}
use Rattle.bsv_io.specs.Reading.{Current}
use Rattle.bsv_io.specs.declared.progress.Blamed.{Blamed}
use Rattle.bsv_io.specs.declared.progress.Blamed.TheVariants.{Nothing, CurrentFile, Former}

abbrev pub blamed_name : Blamed → Option Current → Option (List ℕ)
blamed_name Nothing at = None
blamed_name CurrentFile at = option_map (λ (c : Current). c.name) at
blamed_name (Former name) at = Some name

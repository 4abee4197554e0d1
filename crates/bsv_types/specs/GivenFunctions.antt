-- The functions that the language gives, and what a program calls each (Bluespec reference guide, "Data types": bit
-- extension and truncation, packing, literals and Maybe).
use Rattle.std.specs.Prelude.{ℕ, Bool, true, false, List, [], ◌∷◌, Option, codes}
use Rattle.std.specs.List.{find}
use Rattle.std.specs.Str.{bytes_eq}
use Rattle.bsv_types.specs.declared.given.GivenFunction.{GivenFunction}
use Rattle.bsv_types.specs.declared.given.GivenFunction.TheVariants as given

unfoldable pub functions : List GivenFunction
functions =
    given.Truncate ∷ given.ZeroExtend ∷ given.SignExtend ∷ given.Pack ∷ given.Unpack ∷ given.FromInteger ∷
    given.IsValid ∷ given.FromMaybe ∷ given.ValidValue ∷ []

abbrev pub function_name : GivenFunction → List ℕ
function_name given.Truncate = codes "truncate"
function_name given.ZeroExtend = codes "zeroExtend"
function_name given.SignExtend = codes "signExtend"
function_name given.Pack = codes "pack"
function_name given.Unpack = codes "unpack"
function_name given.FromInteger = codes "fromInteger"
function_name given.IsValid = codes "isValid"
function_name given.FromMaybe = codes "fromMaybe"
function_name given.ValidValue = codes "validValue"

-- the function of this name
unfoldable pub given_function : List ℕ → Option GivenFunction
given_function name = find (λ f. bytes_eq name (function_name f)) functions

-- those that take the expected type
abbrev pub has_open_type : GivenFunction → Bool
has_open_type given.Truncate = true
has_open_type given.ZeroExtend = true
has_open_type given.SignExtend = true
has_open_type given.Unpack = true
has_open_type given.FromInteger = true
has_open_type _ = false

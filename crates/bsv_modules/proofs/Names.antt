-- What names stand for where they are seen, and how many there are.
use Rattle.std.proofs.Common.{ℕ, ◌≡◌, Bool, true, false, List, [], ◌∷◌, Option, Some, map, option_map, refl, if◌then◌else◌}
use Rattle.std.specs.Str.{bytes_eq}
use Rattle.bsv_scopes.specs.Scopes.{Entries, found}
use Rattle.bsv_modules.specs.declared.site.Header as code_header
use Rattle.bsv_types.specs.declared.definitions.MethodResult.{MethodResult}
use Rattle.bsv_types.specs.declared.definitions.MethodResult.TheVariants as result
use Rattle.bsv_modules.specs.Modules.{Header}
use Rattle.bsv_modules.specs.Seen.{header, named_header}
use Rattle.bsv_modules.proofs.Listed.{result_back}
use Rattle.bsv_statements.proofs.Declaring.{count_seen}

one_header : (b : Bool) (h : code_header.Header) (rest : Option code_header.Header) (more : Option Header) → more ≡ option_map header rest →
    (if b then Some (header h) else more) ≡ option_map header (if b then Some h else rest)
one_header true h rest more is = refl
one_header false h rest more is = is

pub header_seen : (name : List ℕ) (es : Entries code_header.Header) → found name (map named_header es) ≡ option_map header (found name es)
header_seen name [] = refl
header_seen name (e ∷ es) = one_header (bytes_eq name e.0) e.1 (found name es) (found name (map named_header es)) (header_seen name es)

pub ruleset headers = (header_seen)

pub ruleset counts = (count_seen)

pub ruleset results = (result_back)

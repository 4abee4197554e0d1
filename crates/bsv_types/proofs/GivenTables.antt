-- The tables of the code are the lists of the definitions.
use Rattle.std.proofs.Common.{◌≡◌, refl}
use Rattle.bsv_types.specs.Makers.{makers}
use Rattle.bsv_types.specs.GivenFunctions.{functions}
use Rattle.bsv_types.specs.declared.makers.TheConstants.{MAKERS}
use Rattle.bsv_types.specs.declared.given.TheConstants.{FUNCTIONS}

pub makers_table : MAKERS ≡ makers
unfolding makers
makers_table = refl

pub functions_table : FUNCTIONS ≡ functions
unfolding functions
functions_table = refl

pub ruleset maker_tables = (makers_table)

pub ruleset function_tables = (functions_table)

-- A definition in one scope over all packages leaves the others as they are.
use Rattle.std.proofs.Common.{◌≡◌, ◌≢◌, ℕ, List}
use Rattle.bsv_scopes.specs.declared.definitions.Space.{Space}
use Rattle.bsv_scopes.specs.declared.definitions.Space.TheVariants.{Types, Labels, Functions, Modules}
use Rattle.bsv_scopes.specs.declared.definitions.Definitions.{Definitions}
use Rattle.bsv_scopes.specs.Scopes.{Entries}
use Rattle.bsv_scopes.specs.Given.{names_of, with_new_name}
use Rattle.bsv_names.specs.Known.{Known, with_definition}

abbrev pub known_of : Definitions → List (Entries (Unit {0})) → Known
known_of definitions variables = record {
  types = names_of Types definitions;
  labels = names_of Labels definitions;
  functions = names_of Functions definitions;
  modules = names_of Modules definitions;
  variables = variables;
}

pub by_space : (space : Space) (name : List ℕ) (old new : Definitions) (variables : List (Entries (Unit {0}))) → names_of space new ≡ with_new_name name (names_of space old)
    → ((other : Space) → other ≢ space → names_of other new ≡ names_of other old) → known_of new variables ≡ with_definition space name (known_of old variables)
by_space Types name old new variables here others =
    let labels : names_of Labels new ≡ names_of Labels old = others Labels (λ e. cc) in
    let functions : names_of Functions new ≡ names_of Functions old = others Functions (λ e. cc) in
    let modules : names_of Modules new ≡ names_of Modules old = others Modules (λ e. cc) in
    cc
by_space Labels name old new variables here others =
    let types : names_of Types new ≡ names_of Types old = others Types (λ e. cc) in
    let functions : names_of Functions new ≡ names_of Functions old = others Functions (λ e. cc) in
    let modules : names_of Modules new ≡ names_of Modules old = others Modules (λ e. cc) in
    cc
by_space Functions name old new variables here others =
    let types : names_of Types new ≡ names_of Types old = others Types (λ e. cc) in
    let labels : names_of Labels new ≡ names_of Labels old = others Labels (λ e. cc) in
    let modules : names_of Modules new ≡ names_of Modules old = others Modules (λ e. cc) in
    cc
by_space Modules name old new variables here others =
    let types : names_of Types new ≡ names_of Types old = others Types (λ e. cc) in
    let labels : names_of Labels new ≡ names_of Labels old = others Labels (λ e. cc) in
    let functions : names_of Functions new ≡ names_of Functions old = others Functions (λ e. cc) in
    cc

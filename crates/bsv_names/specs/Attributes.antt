-- The attributes of a program in the order of its text, and the first one that is malformed (Bluespec reference
-- guide, "Attributes").
use Rattle.std.specs.Prelude.{ℕ, ◌+◌, List, [], ◌∷◌, ◌++◌, map, Option, Some, None}
use Rattle.std.specs.List.{flat_map}
use Rattle.bsv_ast.specs.declared.modules.Attribute.{Attribute as Written}
use Rattle.bsv_ast.specs.declared.modules.AttributeGroup.{AttributeGroup}
use Rattle.bsv_ast.specs.declared.modules.Module.{Module}
use Rattle.bsv_ast.specs.declared.modules.ModuleStmt.{ModuleStmt, fold-ModuleStmt}
use Rattle.bsv_ast.specs.declared.modules.ModuleStmt.TheOpen.{ModuleStmt-F}
use Rattle.bsv_ast.specs.declared.modules.ModuleBranch.{ModuleBranch, fold-ModuleBranch}
use Rattle.bsv_ast.specs.declared.package.Item.{Item}
use Rattle.bsv_ast.specs.declared.package.Item.TheVariants as item
use Rattle.bsv_ast.specs.declared.package.Package.{Package}
use Rattle.bsv_ast.specs.declared.package.Package.TheVariants as whole
use Rattle.bsv_types.specs.declared.attributes.Attribute.{Attribute}
use Rattle.bsv_types.specs.declared.asked.Owner.{Owner}
use Rattle.bsv_types.specs.declared.asked.Owner.TheVariants as owner
use Rattle.bsv_types.specs.Asked.{attribute}
use Rattle.bsv_names.specs.declared.place.Place.{Place}

-- an attribute, where it stands
pub record Standing : Type 0 where
  -- of the package
  pub number : ℕ
  pub owner : Owner
  pub written : Written

abbrev pub standing : ℕ → Owner → Written → Standing
standing number owner written = record { number = number; owner = owner; written = written }

abbrev pub of_owner : ℕ → Owner → List AttributeGroup → List Standing
of_owner number owner groups = flat_map (λ group. map (standing number owner) group.attributes) groups

abbrev pub joined : List (List Standing) → List Standing
joined parts = flat_map (λ part. part) parts

abbrev pub of_otherwise : Option (List Standing) → List Standing
of_otherwise None = []
of_otherwise (Some part) = part

abbrev pub statement_step : ℕ → ModuleStmt-F (List Standing) (List Standing) → List Standing
statement_step number (ModuleStmt-F.Instance s t name make) = []
statement_step number (ModuleStmt-F.Array s t name size) = []
statement_step number (ModuleStmt-F.Place s name at make) = []
statement_step number (ModuleStmt-F.Declare s declaration) = []
statement_step number (ModuleStmt-F.Assign s name value) = []
statement_step number (ModuleStmt-F.Block s body) = joined body
statement_step number (ModuleStmt-F.If s branches otherwise) = joined branches ++ of_otherwise otherwise
statement_step number (ModuleStmt-F.For s head body) = body
statement_step number (ModuleStmt-F.Rule s rule) = of_owner number owner.Rule rule.attributes
statement_step number (ModuleStmt-F.Method s method) = []

-- those of the rules in a statement
abbrev pub in_statement : ℕ → ModuleStmt → List Standing
in_statement number = fold-ModuleStmt (List Standing) (List Standing) (statement_step number) (λ branch. branch.arm)

abbrev pub in_statements : ℕ → List ModuleStmt → List Standing
in_statements number statements = joined (map (in_statement number) statements)

-- those of the rules in the arms of an `if`
abbrev pub in_branch : ℕ → ModuleBranch → List Standing
in_branch number = fold-ModuleBranch (List Standing) (List Standing) (statement_step number) (λ branch. branch.arm)

abbrev pub in_branches : ℕ → List ModuleBranch → List Standing
in_branches number branches = joined (map (in_branch number) branches)

-- a module's own, and then those of its rules
abbrev pub in_module : ℕ → Module → List Standing
in_module number m = of_owner number owner.Module m.attributes ++ in_statements number m.body

abbrev pub in_item : ℕ → Item → List Standing
in_item number (item.Import s import) = []
in_item number (item.Typedef s definition) = []
in_item number (item.Interface s interface) = []
in_item number (item.Function s function) = []
in_item number (item.Module s m) = in_module number m

abbrev pub in_package : ℕ → Package → List Standing
in_package number (whole.Named s name items) = flat_map (in_item number) items
in_package number (whole.Bare s items) = flat_map (in_item number) items

-- those of the packages, of which the first has this number
abbrev pub in_packages : ℕ → List Package → List Standing
in_packages number [] = []
in_packages number (p ∷ ps) = in_package number p ++ in_packages (number + 1) ps

-- ---- the first one that is malformed

abbrev pub place_of : Standing → Place
place_of a = record { «package» = a.number; span = a.written.span }

abbrev pub if_malformed : Option Attribute → Place → Option Place → Option Place
if_malformed None place rest = Some place
if_malformed (Some asked) place rest = rest

abbrev pub first_malformed : List Standing → Option Place
first_malformed [] = None
first_malformed (a ∷ rest) = if_malformed (attribute a.owner a.written) (place_of a) (first_malformed rest)

-- in the order in which the packages were loaded, and of their texts
unfoldable pub first_bad_attribute : List Package → Option Place
first_bad_attribute packages = first_malformed (in_packages 0 packages)

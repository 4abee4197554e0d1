-- What the attributes of modules and of rules ask for (Bluespec reference guide, "Attributes").
use Rattle.std.specs.Prelude.{ℕ, if◌then◌else◌, List, Option, Some, None, option_map, codes}
use Rattle.std.specs.Str.{bytes_eq}
use Rattle.bsv_ast.specs.declared.modules.Attribute.{Attribute as Written}
use Rattle.bsv_types.specs.declared.attributes.Attribute.{Attribute}
use Rattle.bsv_types.specs.declared.attributes.Attribute.TheVariants as asks
use Rattle.bsv_types.specs.declared.asked.Owner.{Owner}
use Rattle.bsv_types.specs.declared.asked.Owner.TheVariants as owner
use Rattle.bsv_types.specs.AttributeTexts.{Sides, listed, sides}

-- without a text
abbrev pub without_text : Owner → List ℕ → Option Attribute
without_text owner.Module name = if bytes_eq name (codes "synthesize") then Some asks.Synthesize else None
without_text owner.Rule name =
    if bytes_eq name (codes "fire_when_enabled") then Some asks.FireWhenEnabled
    else if bytes_eq name (codes "no_implicit_conditions") then Some asks.NoImplicitConditions else None

abbrev pub preempts : Sides → Attribute
preempts names = asks.Preempts names.0 names.1

-- with a text, of a module and of a rule alike
abbrev pub with_text : List ℕ → List ℕ → Option Attribute
with_text name text =
    if bytes_eq name (codes "descending_urgency") then option_map asks.DescendingUrgency (listed text)
    else if bytes_eq name (codes "execution_order") then option_map asks.ExecutionOrder (listed text)
    else if bytes_eq name (codes "preempts") then option_map preempts (sides text) else None

abbrev pub meaning : Owner → List ℕ → Option (List ℕ) → Option Attribute
meaning owner name None = without_text owner name
meaning owner name (Some text) = with_text name text

-- what an attribute of this owner asks for; nothing where it is malformed
unfoldable pub attribute : Owner → Written → Option Attribute
attribute owner written = meaning owner written.name.name written.text

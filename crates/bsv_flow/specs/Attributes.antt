-- Attributes as they are written (Bluespec reference guide, "Scheduling attributes").
use Rattle.std.specs.Prelude.{ℕ, List, codes}
use Rattle.bsv_design.specs.declared.attributes.Attribute.{Attribute}
use Rattle.bsv_design.specs.declared.attributes.Attribute.TheVariants as attribute

abbrev pub attribute_word : Attribute → List ℕ
attribute_word attribute.DescendingUrgency = codes "descending_urgency"
attribute_word attribute.ExecutionOrder = codes "execution_order"
attribute_word attribute.Preempts = codes "preempts"

-- What a net of a design is made from.
use Rattle.std.specs.Prelude.{ℕ, List}
use Rattle.bsv_design.specs.declared.element.Element.{Element}
use Rattle.bsv_design.specs.declared.kind.Kind.{Kind}
use Rattle.bsv_design.specs.declared.schedule.Need.{Need}
use Rattle.bsv_ports.specs.declared.call_sites.CallSite.{CallSite}

-- what the pieces of parts are placed with
pub record Base : Type 0 where
  pub kinds : List Kind
  -- of each part the node of its first register
  pub registers : List ℕ
  -- the node that is 0; the one that is 1 comes after it
  pub none : ℕ

pub record Ground : Type 0 where
  pub base : Base
  pub elements : List Element
  -- the guards that elements need
  pub needs : List (List Need)
  -- of each element those that it stops
  pub stops : List (List ℕ)
  -- the call sites of methods that act, on each part
  pub call_sites : List (List CallSite)
  -- of each element the node of its first input
  pub inputs : List ℕ

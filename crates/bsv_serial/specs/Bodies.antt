-- What an element is computed from, where these calls were made on each part, and when it can be.
use Rattle.std.specs.Prelude.{◌≡◌, ℕ, Bool, true, false, ◌&&◌, List, [], ◌∷◌, map, slice_get, Some}
use Rattle.bsv_bits.specs.Words.{Bits}
use Rattle.bsv_prim.specs.declared.part.Part.{Part}
use Rattle.bsv_design.specs.declared.element.Call.{Call}
use Rattle.bsv_design.specs.declared.element.Element.{Element}
use Rattle.bsv_design.specs.declared.element.Port.{Port}
use Rattle.bsv_design.specs.declared.kind.Kind.{Kind}
use Rattle.bsv_design.specs.declared.node.Node.{Node}
use Rattle.bsv_design.specs.declared.schedule.Need.{Need}
use Rattle.bsv_design.specs.design.Bodies.{target, words}
use Rattle.bsv_design.specs.design.Designs.{HasWidths}
use Rattle.bsv_design.specs.design.Guards.{holds_at}
use Rattle.bsv_design.specs.scheme.Schemes.{Look, answers, is_open, all_hold}
use Rattle.bsv_design.specs.scheme.States.{FitLook, AreWordsOf}
use Rattle.bsv_design.specs.scheme.Traces.{demand_at}
use Rattle.bsv_design.specs.design.Widths.{node_width}
use Rattle.bsv_guard.specs.Fitting.{HaveWidths}
use Rattle.bsv_serial.specs.declared.calls_made.MadeCall.{MadeCall}
use Rattle.bsv_serial.specs.Sights.{CanLookAt, look_with}

-- the guards hold that are needed
unfoldable pub guards_hold : List Kind → Look → List Call → List Need → Bool
guards_hold ks look cs [] = true
guards_hold ks look cs (n ∷ ns) = holds_at ks look (slice_get cs n.call) && guards_hold ks look cs ns

-- the words of the nodes under a look
abbrev pub words_under : List Kind → Look → Element → List Bits → List Bits
words_under ks look e arguments = words e (answers ks look) arguments

-- every guard that is needed and every condition holds
unfoldable pub holds : List Kind → Look → Element → List Need → List Bits → Bool
holds ks look e needs arguments =
    guards_hold ks look e.calls needs && all_hold false (map (demand_at (words_under ks look e arguments)) e.conditions)

-- the method of each call is open
abbrev pub AreOpen : List Kind → Look → List Call → Type 0
AreOpen ks look cs = (k : ℕ) (c : Call) → slice_get cs k ≡ Some c → is_open ks look (target c) ≡ true

-- where these words stand, a node has the operands that its operator needs
pub record HasOperands (ks : List Kind) (ports : List Port) (cs : List Call) (ws : List Bits) (x : Node) : Type 0 where
  pub widths : List ℕ
  pub have : HaveWidths widths ws
  pub width : ℕ
  pub is : node_width ports ks cs widths x ≡ Some width

-- the words have their widths, each method can look at its part, and at one that fits
pub record CanBeComputed (ks : List Kind) (ps : List Part) (calls_made : List (List MadeCall)) (e : Element) (arguments : List Bits) : Type 0 where
  pub widths : HasWidths ks e
  pub given : AreWordsOf e.arguments arguments
  pub looks : (k : ℕ) (c : Call) → slice_get e.calls k ≡ Some c → CanLookAt ks ps calls_made (target c)
  pub seen : Look
  pub fits : FitLook ks seen
  pub same : (k : ℕ) (c : Call) → slice_get e.calls k ≡ Some c → look_with ks ps calls_made (target c) ≡ seen (target c)

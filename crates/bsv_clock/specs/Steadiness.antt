-- The law of steadiness: an element that is ready under the look after elements that go before it is ready after them.
use Rattle.std.specs.Prelude.{◌≡◌, ℕ, Bool, true, List, [], ◌∷◌}
use Rattle.bsv_prim.specs.declared.part.Part.{Part}
use Rattle.bsv_design.specs.design.Bodies.{Target}
use Rattle.bsv_design.specs.scheme.Relations.{goes}
use Rattle.bsv_design.specs.scheme.Schemes.{Scheme, Asking, Look, ready}
use Rattle.bsv_design.specs.scheme.Serial.{Serial}
use Rattle.bsv_design.specs.scheme.States.{emptied, plain}
use Rattle.bsv_graph.specs.Orders.{In}
use Rattle.bsv_guard.specs.ElementLaws.{IsUse, ActsAlike}
use Rattle.bsv_clock.specs.Grounds.{Fit}
use Rattle.bsv_clock.specs.Looks.{clock_look}

-- each goes before the element
abbrev pub AllGo : Scheme → List ℕ → ℕ → Type 0
AllGo S fired n = (f : ℕ) → In fired f → goes S f n ≡ true

-- each goes before each later one
abbrev pub GoInOrder : Scheme → List ℕ → Type 0
GoInOrder S [] = Unit {0}
GoInOrder S (f ∷ fired) = ((n : ℕ) → In fired n → goes S f n ≡ true) × GoInOrder S fired

-- Elements were run one after the other, each of which goes before each later one and before this element. Where it is
-- ready under the look after them, it is ready as things come after them, and does the same as under that look.
abbrev pub IsSteady : Bool → Scheme → Type 0
IsSteady aggressive S =
    (q : Asking) (s end : List Part) (fired : List ℕ) (n : ℕ) → Fit S q s
    → Serial aggressive S q (emptied S.kinds s) fired end → GoInOrder S fired → AllGo S fired n
    → ready aggressive S q n (clock_look S q s fired) ≡ true
    → ActsAlike aggressive S q n (clock_look S q s fired) (plain end)

-- Two looks that give the same part for each method that an element uses decide the same.
abbrev pub LooksDecide : Bool → Scheme → Type 0
LooksDecide aggressive S =
    (q : Asking) (n : ℕ) (a b : Look) → ((t : Target) → IsUse S n t → a t ≡ b t) → ActsAlike aggressive S q n a b

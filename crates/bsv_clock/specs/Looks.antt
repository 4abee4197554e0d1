-- What the methods of parts look at in a clock: the part as it was at the clock's start, after just those calls of this
-- clock that the method sees (Bluespec reference guide, "Wires", "SpecialFIFOs"; Hoe and Arvind 2004, "sequentially
-- composable rules").
use Rattle.std.specs.Prelude.{ℕ, List, [], ◌∷◌, ◌++◌, filter}
use Rattle.bsv_prim.specs.declared.part.Part.{Part}
use Rattle.bsv_design.specs.declared.kind.Kind.{Kind}
use Rattle.bsv_design.specs.design.Bodies.{Target}
use Rattle.bsv_design.specs.scheme.Relations.{is_seen}
use Rattle.bsv_design.specs.scheme.Schemes.{Scheme, Asking, Called, Look}
use Rattle.bsv_design.specs.scheme.Serial.{calls_made, run_whole}
use Rattle.bsv_design.specs.scheme.States.{emptied, part_at, after_calls}

-- those of the calls that the method sees, in their order
unfoldable pub seen_by : List Kind → Target → List Called → List Called
seen_by ks t cs = filter (λ c. is_seen ks c.target t) cs

-- each method looks at its part after just those of the calls that it sees
unfoldable pub look_after : List Kind → List Part → List Called → Look
look_after ks ps cs t = part_at (after_calls ks ps (seen_by ks t cs)) t.part

-- the calls of elements that are run whole on parts, one after the other
abbrev pub calls_in_turn : Scheme → Asking → List Part → List ℕ → List Called
calls_in_turn S q ps [] = []
calls_in_turn S q ps (n ∷ ns) = calls_made S q n ps ++ calls_in_turn S q (run_whole S q n ps) ns

-- the look of a clock from this state, in which these elements fire in this order
unfoldable pub clock_look : Scheme → Asking → List Part → List ℕ → Look
clock_look S q s fired = look_after S.kinds (emptied S.kinds s) (calls_in_turn S q (emptied S.kinds s) fired)

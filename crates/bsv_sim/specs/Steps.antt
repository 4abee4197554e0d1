-- One run of a net, in plain lists.
use Rattle.std.specs.Prelude.{◌≡◌, ◌<◌, ◌^◌, ℕ, List, map, length}
use Rattle.bsv_bits.specs.Words.{Bits}
use Rattle.bsv_design.specs.declared.fired.Fired.{Fired}
use Rattle.bsv_design.specs.declared.schedule.Schedule.{Schedule}
use Rattle.bsv_design.specs.design.Bodies.{at}
use Rattle.bsv_design.specs.scheme.Schemes.{Asking}
use Rattle.bsv_guard.specs.Fitting.{HaveWidths}
use Rattle.bsv_net.specs.declared.net.Net.{Net}
use Rattle.bsv_net.specs.Nets.{words}
use Rattle.bsv_sim.specs.declared.sim.Sim.{Sim}
use Rattle.bsv_sim.specs.Events as events
use Rattle.bsv_sim.specs.Inputs.{inputs}
use Rattle.bsv_sim.specs.Signals.{Signals}

-- what the nodes of the net tell, where they have these words
abbrev pub signals_of : Net → List Bits → Signals
signals_of n vs = record { words = vs; fires = n.fires; readies = n.readies; results = n.results; nodes = length n.nodes }

abbrev pub KeepsRoom : Fired → Fired → Type 0
KeepsRoom before after = events.KeepsRoom before after

-- the inputs of what is asked fit, and there is room
pub record CanStep (sim : Sim) (made : Schedule) (q : Asking) (f : Fired) : Type 0 where
  pub fit : HaveWidths sim.net.inputs (inputs q)
  pub few : length q.asked < 2 ^ 32
  pub room : events.HasRoomFor made q.asked f

-- what the words of the nodes tell is told, and the registers have their next words
pub record IsStepAt (n : Net) (vs : List Bits) (made : Schedule) (q : Asking) (ss : List ℕ) (f : Fired) (after : List Bits) : Type 0 where
  pub told : events.IsTold (signals_of n vs) made q.asked ss f
  pub nexts : after ≡ map (at vs) n.nexts

abbrev pub IsStep : Net → List Bits → Schedule → Asking → List ℕ → Fired → List Bits → Type 0
IsStep n ws made q ss f after = IsStepAt n (words n.nodes (inputs q) ws) made q ss f after

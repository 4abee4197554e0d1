-- The makers that the language gives, and what a program calls each (Bluespec reference guide, "Primitives": registers,
-- wires and FIFOs). What each makes is `made_part`, what it takes is `maker_params`, both of the methods.
use Rattle.std.specs.Prelude.{ℕ, List, [], ◌∷◌, Option, codes}
use Rattle.std.specs.List.{find}
use Rattle.std.specs.Str.{bytes_eq}
use Rattle.bsv_types.specs.declared.makers.GivenMaker.{GivenMaker}
use Rattle.bsv_types.specs.declared.makers.GivenMaker.TheVariants as maker

unfoldable pub makers : List GivenMaker
makers =
    maker.Reg ∷ maker.RegU ∷ maker.Wire ∷ maker.DWire ∷ maker.RWire ∷ maker.PulseWire ∷
    maker.Fifo ∷ maker.Fifo1 ∷ maker.SizedFifo ∷ maker.Fifof ∷ maker.Fifof1 ∷ maker.SizedFifof ∷
    maker.LFifo ∷ maker.PipelineFifo ∷ maker.LFifof ∷ maker.PipelineFifof ∷ maker.BypassFifo ∷ maker.BypassFifof ∷ []

abbrev pub maker_name : GivenMaker → List ℕ
maker_name maker.Reg = codes "mkReg"
maker_name maker.RegU = codes "mkRegU"
maker_name maker.Wire = codes "mkWire"
maker_name maker.DWire = codes "mkDWire"
maker_name maker.RWire = codes "mkRWire"
maker_name maker.PulseWire = codes "mkPulseWire"
maker_name maker.Fifo = codes "mkFIFO"
maker_name maker.Fifo1 = codes "mkFIFO1"
maker_name maker.SizedFifo = codes "mkSizedFIFO"
maker_name maker.Fifof = codes "mkFIFOF"
maker_name maker.Fifof1 = codes "mkFIFOF1"
maker_name maker.SizedFifof = codes "mkSizedFIFOF"
maker_name maker.LFifo = codes "mkLFIFO"
maker_name maker.PipelineFifo = codes "mkPipelineFIFO"
maker_name maker.LFifof = codes "mkLFIFOF"
maker_name maker.PipelineFifof = codes "mkPipelineFIFOF"
maker_name maker.BypassFifo = codes "mkBypassFIFO"
maker_name maker.BypassFifof = codes "mkBypassFIFOF"

-- the maker of this name
unfoldable pub given_maker : List ℕ → Option GivenMaker
given_maker name = find (λ m. bytes_eq name (maker_name m)) makers

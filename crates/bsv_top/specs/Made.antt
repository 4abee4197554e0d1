-- A made design of any size: the words that ask for it, the text that is compiled, and the summary of its run.
use Rattle.std.specs.Prelude.{◌≡◌, ◌≤◌, ℕ, ◌+◌, List, [], ◌∷◌, ◌++◌, length, replicate, Option, None, Some, if◌then◌else◌, bytes_eq, codes, decimal}
use Rattle.bsv_bits.specs.Words.{Bits}
use Rattle.bsv_bits.specs.Constants.{constant_text}
use Rattle.bsv_prim.specs.declared.part.Part.{Part}
use Rattle.bsv_prim.specs.declared.part.Part.TheVariants as part
use Rattle.bsv_design.specs.declared.design.NamedPart.{NamedPart}
use Rattle.bsv_design.specs.scheme.Schemes.{Scheme, Asking}
use Rattle.bsv_design.specs.scheme.States.{opening}
use Rattle.bsv_clock.specs.Runs.{Row}
use Rattle.bsv_clock.specs.Subjects.{Subject}
use Rattle.bsv_io.specs.InMemory.{contents_of}
use Rattle.bsv_trace.specs.Lines.{methods_among, nothing_of}
use Rattle.bsv_trace.specs.Texts.{line_feed}
use Rattle.bsv_run.specs.Reports.{state_after}

-- ---- words

-- `made N`
abbrev pub made_words : ℕ → List (List ℕ)
made_words n = codes "made" ∷ decimal n ∷ []

-- the words ask for the made design of a size from 1 to 400, which is written in decimal
pub record IsMade (words : List (List ℕ)) (n : ℕ) : Type 0 where
  pub words_are : words ≡ made_words n
  pub least : 1 ≤ n
  pub most : n ≤ 400

-- ---- the text

-- pieces of a text, one after the other
abbrev pub text_of : List (List ℕ) → List ℕ
text_of [] = []
text_of (piece ∷ pieces) = piece ++ text_of pieces

-- queues in a row, as many as the size: a counter goes into the first one, each rule moves a word on to the next queue and
-- adds to it, and what comes out of the last one is summed
unfoldable pub text_with : List ℕ → List ℕ
text_with size = text_of (
    codes "import FIFO::*;" ∷ line_feed
    ∷ codes "module mkMade(Empty);" ∷ line_feed
    ∷ codes "Reg#(Bit#(32)) c <- mkReg(0);" ∷ line_feed
    ∷ codes "Reg#(Bit#(32)) s <- mkReg(0);" ∷ line_feed
    ∷ codes "FIFO#(Bit#(32)) f[" ∷ size ∷ codes "];" ∷ line_feed
    ∷ codes "for (Integer i = 0; i < " ∷ size ∷ codes "; i = i + 1) f[i] <- mkFIFO;" ∷ line_feed
    ∷ codes "rule feed; f[0].enq(c); c <= c + 1; endrule" ∷ line_feed
    ∷ codes "for (Integer i = 1; i < " ∷ size ∷ codes "; i = i + 1) begin" ∷ line_feed
    ∷ codes "rule move; f[i].enq(f[i - 1].first + fromInteger(i)); f[i - 1].deq; endrule" ∷ line_feed
    ∷ codes "end" ∷ line_feed
    ∷ codes "rule drain; s <= s + f[" ∷ size ∷ codes " - 1].first; f[" ∷ size ∷ codes " - 1].deq; endrule" ∷ line_feed
    ∷ codes "endmodule" ∷ line_feed ∷ [])

-- with the size in decimal
unfoldable pub made_text : ℕ → List ℕ
made_text n = text_with (decimal n)

-- the one file that there is, and its module
unfoldable pub made_file : List ℕ
made_file = codes "made.bsv"

unfoldable pub made_top : List ℕ
made_top = codes "mkMade"

unfoldable pub made_contents : ℕ → List ℕ → List ℕ
made_contents n = contents_of ((made_file, made_text n) ∷ [])

-- ---- the run

-- so many clocks without requests
unfoldable pub nothing_for : ℕ → Scheme → List Asking
nothing_for clocks S = replicate clocks (nothing_of (methods_among S.elements))

-- how many elements fired, over all clocks
abbrev pub fired_count : List Row → ℕ
fired_count [] = 0
fired_count (row ∷ rows) = length row.fired.list.items + fired_count rows

-- ---- the summary

abbrev pub number_of : Part → Option Bits
number_of (part.Number word) = Some word
number_of (part.Queue queue) = None
number_of (part.Held held) = None

-- what the first instance of this path holds, where that is a number
abbrev pub held_at : List ℕ → List NamedPart → List Part → Option Bits
held_at path (instance ∷ instances) (held ∷ parts) = if bytes_eq instance.path path then number_of held else held_at path instances parts
held_at path _ _ = None

-- `s = 32'h00000000`
abbrev pub sum_line : Option Bits → List ℕ
sum_line None = []
sum_line (Some word) = codes "s = " ++ constant_text word ++ line_feed

-- six lines: the size, how many elements and primitive instances there are, the clocks, how many elements fired over all
-- of them, and the state of the register `s`
unfoldable pub summary_with : List ℕ → List ℕ → List ℕ → List ℕ → List ℕ → List ℕ
summary_with size elements instances fired sum = text_of (
    codes "made " ∷ size ∷ line_feed
    ∷ codes "elements " ∷ elements ∷ line_feed
    ∷ codes "instances " ∷ instances ∷ line_feed
    ∷ codes "clocks 100" ∷ line_feed
    ∷ codes "fired " ∷ fired ∷ line_feed
    ∷ sum ∷ [])

-- with the numbers in decimal
unfoldable pub summary_of : ℕ → ℕ → ℕ → ℕ → Option Bits → List ℕ
summary_of n elements instances fired sum = summary_with (decimal n) (decimal elements) (decimal instances) (decimal fired) (sum_line sum)

-- the summary of a run
abbrev pub summary : ℕ → Subject → List Row → List ℕ
summary n s rows =
    summary_of n (length s.scheme.elements) (length s.scheme.kinds) (fired_count rows)
    (held_at (codes "s") s.parts (state_after (opening s.scheme.kinds) rows))

-- What is printed of a part: one word, or the items of a queue from its front. A wire is not printed.
use Rattle.std.specs.Prelude.{◌≡◌, ℕ, List, length, Option, Some, None, false}
use Rattle.bsv_bits.specs.Words.{Bits, bit}
use Rattle.bsv_prim.specs.Table.{word_at}
use Rattle.bsv_prim.specs.declared.part.Part.{Part}
use Rattle.bsv_prim.specs.declared.part.Part.TheVariants.{Number, Held, Queue}
use Rattle.bsv_design.specs.declared.kind.Kind.{Kind}
use Rattle.bsv_design.specs.parts.Kinds.{kind_table}

-- the words of the registers of one instance show a part of its kind
pub record ShowPart (k : Kind) (registers : List Bits) (p : Part) : Type 0 where
  pub fits : (kind_table k).Fits p
  pub shows : (kind_table k).Shows p (word_at registers)

-- how many items there are; None where one word is printed, or none
abbrev pub items_in : Part → Option ℕ
items_in (Number w) = None
items_in (Held o) = None
items_in (Queue q) = Some (length q.items)

-- how many words are printed
abbrev pub words_in : Part → ℕ
words_in (Number w) = 1
words_in (Held o) = 0
words_in (Queue q) = length q.items

-- the word of this number
abbrev pub word_of : Part → ℕ → Bits
word_of (Number w) n = w
word_of (Held o) n = bit false
word_of (Queue q) n = word_at q.items n

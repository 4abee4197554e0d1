-- What is put of what was compiled where nothing is run: its schedule or its Verilog; and the words that ask for it.
use Rattle.std.specs.Prelude.{ℕ, List, [], ◌∷◌, codes}
use Rattle.bsv_trace.specs.Texts.{name_at, schedule_text}
use Rattle.bsv_vtext.specs.AtHand.{module_data}
use Rattle.bsv_vtext.specs.VText.{vtext}
use Rattle.bsv_flow.specs.declared.scheduling.Compiled.{Compiled}
use Rattle.bsv_top.specs.declared.form.Product.{Product}
use Rattle.bsv_top.specs.declared.form.Product.TheVariants as product

-- the first word
abbrev pub command_of : Product → List ℕ
command_of product.Schedule = codes "schedule"
command_of product.Verilog = codes "verilog"

-- all words
abbrev pub product_words : Product → List ℕ → List ℕ → List (List ℕ)
product_words p file top = command_of p ∷ file ∷ top ∷ []

-- the text that is put
abbrev pub product_text : Product → Compiled → List ℕ
product_text product.Schedule c = schedule_text (name_at c.design.elements) c.schedule
product_text product.Verilog c = vtext (module_data c.verilog)

-- The widths of nodes that are in order.
use Rattle.std.specs.Prelude.{ℕ, ◌+◌, ◌-◌, ◌^◌, min, List, [], ◌∷◌, ◌++◌, slice_index, if◌then◌else◌}
use Rattle.bsv_prim.specs.declared.primitive.RegisterInfo.{RegisterInfo}
use Rattle.bsv_design.specs.design.Widths.{gives_bit}
use Rattle.bsv_net.specs.Nets.{register_widths}
use Rattle.bsv_net.specs.declared.node.NetNode.{NetNode}
use Rattle.bsv_net.specs.declared.node.NetNode.TheVariants as net

-- of nodes that are not in order it is a number of 32 bits
abbrev pub width_of : List ℕ → List RegisterInfo → List ℕ → NetNode → ℕ
width_of inputs registers us (net.Input k) = slice_index inputs k
width_of inputs registers us (net.Register k) = slice_index (register_widths registers) k
width_of inputs registers us (net.Constant w) = w.width
width_of inputs registers us (net.Not a) = slice_index us a
width_of inputs registers us (net.Two o a b) = if gives_bit o then 1 else slice_index us a
width_of inputs registers us (net.Pick t a b) = slice_index us a
width_of inputs registers us (net.Slice a high low) = min (high - low + 1) (slice_index us a)
width_of inputs registers us (net.Join a b) = min (slice_index us a + slice_index us b) (2 ^ 32 - 1)
width_of inputs registers us (net.Extend a width) = width
width_of inputs registers us (net.SignExtend a width) = width

-- of nodes after nodes of these widths
abbrev pub widths_of : List ℕ → List RegisterInfo → List ℕ → List NetNode → List ℕ
widths_of inputs registers us [] = us
widths_of inputs registers us (x ∷ xs) = widths_of inputs registers (us ++ width_of inputs registers us x ∷ []) xs

-- An engine of the nodes of a net.
use Rattle.std.proofs.Common.{◌≡◌, ◌∙◌, true, List, [], length, sym, ap, subst}
use Rattle.std.specs.List.{list_all}
use Rattle.bsv_bits.specs.Words.{Bits}
use Rattle.bsv_guard.specs.Fitting.{HaveWidths}
use Rattle.bsv_net.specs.declared.net_data.NetData.{NetData}
use Rattle.bsv_net.specs.Nets.{is_within, register_widths, words, IsNet}
use Rattle.bsv_net.proofs.Solution.{same_length, words_have}
use Rattle.bsv_engine.specs.Cells.{IsSolved}
use Rattle.bsv_engine.specs.Codes.{Code, IsOfNet}
use Rattle.bsv_engine.specs.Widths.{widths_of}
use Rattle.bsv_engine.proofs.InOrder.{widths_are}
use Rattle.bsv_engine.proofs.Solving.{solved_where}

net_solved : (c : NetData) (right : IsNet c) (inputs registers : List Bits) → HaveWidths c.inputs inputs → HaveWidths (register_widths c.registers) registers
    → IsSolved inputs registers c.nodes right.widths (words c.nodes inputs registers)
net_solved c right inputs registers first second =
    let within : list_all (is_within (length inputs) (length c.registers)) c.nodes ≡ true =
    subst (λ n. list_all (is_within n (length c.registers)) c.nodes ≡ true) (same_length c.inputs inputs first) right.within in
    solved_where c.nodes inputs registers (length c.registers) within right.widths (words_have c right inputs registers first second)

pub code_solved : (c : Code) (o : IsOfNet c) (inputs registers : List Bits) → HaveWidths c.inputs inputs → HaveWidths (register_widths c.registers) registers
    → IsSolved inputs registers c.nodes o.right.widths (words c.nodes inputs registers)
code_solved c o inputs registers first second =
    subst (λ xs. IsSolved inputs registers xs o.right.widths (words xs inputs registers)) o.nodes
    (net_solved o.net o.right inputs registers (subst (λ us. HaveWidths us inputs) (sym o.inputs) first) (subst (λ rs. HaveWidths (register_widths rs) registers) (sym o.registers) second))

pub code_widths : (c : Code) (o : IsOfNet c) → widths_of c.inputs c.registers [] c.nodes ≡ o.right.widths
code_widths c o =
    ap (λ us. widths_of us c.registers [] c.nodes) (sym o.inputs)
    ∙ ap (λ rs. widths_of o.net.inputs rs [] c.nodes) (sym o.registers)
    ∙ ap (λ xs. widths_of o.net.inputs o.net.registers [] xs) (sym o.nodes)
    ∙ widths_are o.net.inputs o.net.registers [] o.right.widths o.net.nodes o.right.within o.right.nodes

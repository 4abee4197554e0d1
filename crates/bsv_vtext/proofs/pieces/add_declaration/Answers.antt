use Rattle.std.proofs.Common.{◌++◌, ◌-◌, ◌∙◌, List, ℕ, ap, sym, codes, decimal, append_assoc}
use Rattle.bsv_io.proofs.Adding.{adds_text}
use Rattle.bsv_vtext.proofs.pieces.add_declaration.Goals as goal

pub returns : goal.returns
returns g c =
    let front = c.args.name.front.now in
    let middle = c.args.name.middle.now in
    let back = c.args.name.back.now in
    let name = sym (append_assoc front (middle ++ back) (codes ";\n") ∙ ap (λ (t : List ℕ). front ++ t) (append_assoc middle back (codes ";\n"))) in
    adds_text
    (ap (λ (digits : List ℕ). c.args.word.now ++ (codes " [" ++ (digits ++ (codes ":0] " ++ (front ++ (middle ++ (back ++ codes ";\n"))))))) (c.as_bytes-last.ensures.value ∙ c.format.ensures.text ∙ ap decimal c.saturating_sub.ensures)
    ∙ ap (λ (t : List ℕ). c.args.word.now ++ (codes " [" ++ (decimal (c.args.width - 1) ++ (codes ":0] " ++ t)))) name)
    c.add_all.ensures

use Rattle.std.proofs.Common.{◌∙◌, [], ℕ, List, ap, map, sym, replicate}
use Rattle.std.proofs.lemmas.List.{length-map}
use Rattle.bsv_design.specs.declared.design.NamedPart.{NamedPart}
use Rattle.bsv_ports.specs.declared.call_sites.CallSite.{CallSite}
use Rattle.bsv_ports.specs.CallSites.{with_elements}
use Rattle.bsv_ports.proofs.CallSitesFound.{all_found}
use Rattle.bsv_ports.proofs.call_sites.all_call_sites.Goals as goal

pub returns : goal.returns
returns c =
    let ks = map (λ (p : NamedPart). p.kind) c.args.parts.now in
    c.in_ok-add_elements.ensures
    ∙ (ap (λ (ss : List (List CallSite)). with_elements ks c.args.elements.now ss c.args.execution.now)
    (c.in_ok-call_sites.ensures ∙ ap (λ (n : ℕ). replicate n []) (sym (length-map c.args.parts.now (λ (p : NamedPart). p.kind))))
    ∙ all_found ks c.args.elements.now c.args.execution.now)

use Rattle.std.proofs.Common.{◌≡◌, ◌∙◌}
use Rattle.bsv_design.specs.scheme.Seen.{design_data}
use Rattle.bsv_net.specs.AtHand.{net_data}
use Rattle.bsv_vtext.specs.AtHand.{module_data}
use Rattle.bsv_vgen.specs.AtHand as hand
use Rattle.bsv_vgen.specs.Modules.{module_of}
use Rattle.bsv_vgen.proofs.Promise.{is_module, is_its_module, carries_too, ignores_too, result_widths, runs_too, unasked_too, begins, resets_too}
use Rattle.bsv_vgen.proofs.generating.generate.Goals as goal
use Rattle.bsv_vtext.proofs.OneText.{same_contents}

pub new-requires : goal.new-requires
new-requires c =
    is_module c.args.design.now c.args.net.now (hand.parts c.in_ok-name.field-0) c.in_ok-name.ensures.parts c.requires.registers c.requires.inputs
    c.in_ok-name.ensures.registers c.in_ok-name.ensures.wires

pub returns-clause-module : goal.returns-clause-module
returns-clause-module c =
    let is : module_data c.new.result ≡ module_of (design_data c.args.design.now) (net_data c.args.net.now) =
    same_contents (module_data c.new.result) (hand.parts c.in_ok-name.field-0) c.new.ensures.name c.new.ensures.methods c.new.ensures.registers c.new.ensures.wires c.new.ensures.assigns c.new.ensures.nexts
    ∙ c.in_ok-name.ensures.parts in
    is_its_module c.args.design.now c.args.net.now (module_data c.new.result) is c.requires.registers c.requires.inputs

pub returns-clause-results : goal.returns-clause-results
returns-clause-results c =
    let is : module_data c.new.result ≡ module_of (design_data c.args.design.now) (net_data c.args.net.now) =
    same_contents (module_data c.new.result) (hand.parts c.in_ok-name.field-0) c.new.ensures.name c.new.ensures.methods c.new.ensures.registers c.new.ensures.wires c.new.ensures.assigns c.new.ensures.nexts
    ∙ c.in_ok-name.ensures.parts in
    result_widths c.args.design.now c.args.net.now (module_data c.new.result) is c.requires.registers c.requires.inputs c.in_ok-name.ensures.results

pub returns-clause-carries : goal.returns-clause-carries
returns-clause-carries c =
    let is : module_data c.new.result ≡ module_of (design_data c.args.design.now) (net_data c.args.net.now) =
    same_contents (module_data c.new.result) (hand.parts c.in_ok-name.field-0) c.new.ensures.name c.new.ensures.methods c.new.ensures.registers c.new.ensures.wires c.new.ensures.assigns c.new.ensures.nexts
    ∙ c.in_ok-name.ensures.parts in
    carries_too c.args.design.now c.args.net.now (module_data c.new.result) is c.requires.registers c.requires.inputs

pub returns-clause-ignores : goal.returns-clause-ignores
returns-clause-ignores c =
    let is : module_data c.new.result ≡ module_of (design_data c.args.design.now) (net_data c.args.net.now) =
    same_contents (module_data c.new.result) (hand.parts c.in_ok-name.field-0) c.new.ensures.name c.new.ensures.methods c.new.ensures.registers c.new.ensures.wires c.new.ensures.assigns c.new.ensures.nexts
    ∙ c.in_ok-name.ensures.parts in
    ignores_too c.args.design.now c.args.net.now (module_data c.new.result) is c.requires.registers c.requires.inputs

pub returns-clause-runs : goal.returns-clause-runs
returns-clause-runs c =
    let is : module_data c.new.result ≡ module_of (design_data c.args.design.now) (net_data c.args.net.now) =
    same_contents (module_data c.new.result) (hand.parts c.in_ok-name.field-0) c.new.ensures.name c.new.ensures.methods c.new.ensures.registers c.new.ensures.wires c.new.ensures.assigns c.new.ensures.nexts
    ∙ c.in_ok-name.ensures.parts in
    runs_too c.args.design.now c.args.net.now (module_data c.new.result) is c.requires.registers c.requires.inputs c.new.result.right

pub returns-clause-unasked : goal.returns-clause-unasked
returns-clause-unasked c =
    let is : module_data c.new.result ≡ module_of (design_data c.args.design.now) (net_data c.args.net.now) =
    same_contents (module_data c.new.result) (hand.parts c.in_ok-name.field-0) c.new.ensures.name c.new.ensures.methods c.new.ensures.registers c.new.ensures.wires c.new.ensures.assigns c.new.ensures.nexts
    ∙ c.in_ok-name.ensures.parts in
    unasked_too c.args.design.now c.args.net.now (module_data c.new.result) is c.requires.registers c.requires.inputs c.new.result.right

pub returns-clause-begins : goal.returns-clause-begins
returns-clause-begins c =
    let is : module_data c.new.result ≡ module_of (design_data c.args.design.now) (net_data c.args.net.now) =
    same_contents (module_data c.new.result) (hand.parts c.in_ok-name.field-0) c.new.ensures.name c.new.ensures.methods c.new.ensures.registers c.new.ensures.wires c.new.ensures.assigns c.new.ensures.nexts
    ∙ c.in_ok-name.ensures.parts in
    begins c.args.design.now c.args.net.now (module_data c.new.result) is c.requires.registers c.requires.inputs

pub returns-clause-resets : goal.returns-clause-resets
returns-clause-resets c =
    let is : module_data c.new.result ≡ module_of (design_data c.args.design.now) (net_data c.args.net.now) =
    same_contents (module_data c.new.result) (hand.parts c.in_ok-name.field-0) c.new.ensures.name c.new.ensures.methods c.new.ensures.registers c.new.ensures.wires c.new.ensures.assigns c.new.ensures.nexts
    ∙ c.in_ok-name.ensures.parts in
    resets_too c.args.design.now c.args.net.now (module_data c.new.result) is c.requires.registers c.requires.inputs

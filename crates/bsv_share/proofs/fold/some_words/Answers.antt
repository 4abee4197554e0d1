use Rattle.std.proofs.Common.{◌∙◌, ℕ, List, ap}
use Rattle.std.specs.List.{list_all}
use Rattle.bsv_net.specs.Nets.{width_fits}
use Rattle.bsv_share.proofs.InputsFit.{inputs_fit}
use Rattle.bsv_share.proofs.fold.some_words.Goals as goal

pub input_words-requires : goal.input_words-requires
input_words-requires c = ap (λ (us : List ℕ). list_all width_fits us) c.as_slice.ensures ∙ inputs_fit c.args.net.now

-- The inputs of a net have widths of words.
use Rattle.std.proofs.Common.{◌≡◌, ◌≤◌, ◌<◌, ◌&&◌, ℕ, Bool, true, List, get_or, length}
use Rattle.std.specs.Prelude.{nat_le}
use Rattle.std.specs.List.{list_all}
use Rattle.std.proofs.Math.Bool.{Bool-set}
use Rattle.std.proofs.Math.Logic.{∥∥₁_elim}
use Rattle.std.proofs.lemmas.Bool.{and_parts, leb-true}
use Rattle.std.proofs.lemmas.Option.{slice_get-get_or}
use Rattle.bsv_guard.proofs.Lists.{holds_at_all}
use Rattle.bsv_net.specs.declared.net.Net.{Net}
use Rattle.bsv_net.specs.declared.net_data.NetData.{NetData}
use Rattle.bsv_net.specs.AtHand.{net_data}
use Rattle.bsv_net.specs.Nets.{IsNet, is_bit, is_in_order, is_site, names, nexts_fit, width_fits}

inputs_in_order : (us : List ℕ) (c : NetData) → is_in_order us c ≡ true → list_all width_fits c.inputs ≡ true
inputs_in_order us c h =
    let inputs : Bool = list_all width_fits c.inputs in
    let nexts : Bool = nexts_fit us c.nexts c.registers in
    let fires : Bool = list_all (is_bit us) c.fires in
    let readies : Bool = list_all (is_bit us) c.readies in
    let results : Bool = list_all (names us) c.results in
    let sites : Bool = list_all (list_all (is_site us)) c.sites in
    let last = and_parts (inputs && nexts && fires && readies && results) sites h in
    let four = and_parts (inputs && nexts && fires && readies) results last.0 in
    let three = and_parts (inputs && nexts && fires) readies four.0 in
    let two = and_parts (inputs && nexts) fires three.0 in
    (and_parts inputs nexts two.0).0

pub inputs_fit : (n : Net) → list_all width_fits n.inputs ≡ true
inputs_fit n = ∥∥₁_elim n.right (Bool-set _ _) (λ (right : IsNet (net_data n)). inputs_in_order right.widths (net_data n) right.in_order)

pub input_fits : (us : List ℕ) (i : ℕ) → list_all width_fits us ≡ true → i < length us → (1 ≤ get_or us i 0) × (get_or us i 0 ≤ 128)
input_fits us i h l =
    let u = get_or us i 0 in
    let parts = and_parts (nat_le 1 u) (nat_le u 128) (holds_at_all width_fits us h i u (slice_get-get_or us i 0 l)) in
    (leb-true 1 u parts.0, leb-true u 128 parts.1)

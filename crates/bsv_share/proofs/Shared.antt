-- What is promised of a net that is folded and then put in order.
use Rattle.std.proofs.Common.{ℕ, List, Option, Some, None, Result, Ok, Err, ap}
use Rattle.std.specs.Prelude.{IfOk}
use Rattle.std.proofs.Math.Bool.{Bool-set}
use Rattle.std.proofs.Math.Nat.{ℕ_set}
use Rattle.std.proofs.Math.Bridge.{le_prop}
use Rattle.std.proofs.Math.Logic.{∥∥₁_elim}
use mathlib.Core.List.{is_set as list_set}
use Rattle.bsv_clock.specs.Shows.{Given}
use Rattle.bsv_clock.proofs.Propositions.{bits_set}
use Rattle.bsv_net.specs.declared.net.Net.{Net}
use Rattle.bsv_net.specs.declared.net_data.NetData.{NetData}
use Rattle.bsv_net.specs.declared.node.NetNode.{NetNode}
use Rattle.bsv_net.specs.AtHand.{net_data}
use Rattle.bsv_net.specs.Nets.{IsNet}
use Rattle.bsv_share.specs.Folding.{IsFoldOf}
use Rattle.bsv_share.specs.Moving.{IsMoveOf}
use Rattle.bsv_share.specs.Sharing.{GivesSame, IsDistinct, IsFolded, NamesSame, StaysNamed}
use Rattle.bsv_share.proofs.Alike.{Alike, alike_both}
use Rattle.bsv_share.proofs.FoldedNet.{Folded, folded_net}
use Rattle.bsv_share.proofs.MovedNet.{Moved, moved_net}

given_set : IsSet Given
given_set = hlevel (list_set bits_set)

gives_prop : (c d : NetData) → IsProp (GivesSame c d)
gives_prop c d = hlevel given_set

stays_prop : (c d : NetData) (k : ℕ) (o : Option ℕ) → IsProp (StaysNamed c d k o)
stays_prop c d k None = hlevel
stays_prop c d k (Some j) = hlevel (le_prop, ℕ_set)

names_prop : (c d : NetData) → IsProp (NamesSame c d)
names_prop c d = hlevel (stays_prop)

folded_prop : (xs : List NetNode) → IsProp (IsFolded xs)
folded_prop xs = hlevel Bool-set

distinct_prop : (xs : List NetNode) → IsProp (IsDistinct xs)
distinct_prop xs = hlevel ℕ_set

-- a fact of two nets that are in order
of_nets : (m n : Net) (P : Type 0) → IsProp P → (IsNet (net_data m) → IsNet (net_data n) → P) → P
of_nets m n P prop h = ∥∥₁_elim m.right prop (λ (before : IsNet (net_data m)). ∥∥₁_elim n.right prop (λ (after : IsNet (net_data n)). h before after))

pub fold_result : (m n : Net) → IsFoldOf (net_data m) (net_data n) → Folded (net_data m) (net_data n)
fold_result m n h = record {
  alike = record {
    inputs = ap (λ (c : NetData). c.inputs) h.is;
    registers = ap (λ (c : NetData). c.registers) h.is;
    gives_same = of_nets m n (GivesSame (net_data m) (net_data n)) (gives_prop (net_data m) (net_data n)) (λ before after. (folded_net (net_data m) (net_data n) h before after).alike.gives_same);
    names_same = of_nets m n (NamesSame (net_data m) (net_data n)) (names_prop (net_data m) (net_data n)) (λ before after. (folded_net (net_data m) (net_data n) h before after).alike.names_same);
  };
  folded = of_nets m n (IsFolded n.nodes) (folded_prop n.nodes) (λ before after. (folded_net (net_data m) (net_data n) h before after).folded);
  distinct = of_nets m n (IsDistinct n.nodes) (distinct_prop n.nodes) (λ before after. (folded_net (net_data m) (net_data n) h before after).distinct);
}

pub move_result : (from : List ℕ) (m n : Net) → IsMoveOf from (net_data m) (net_data n) → Moved (net_data m) (net_data n)
move_result from m n h = record {
  alike = record {
    inputs = ap (λ (c : NetData). c.inputs) h.is;
    registers = ap (λ (c : NetData). c.registers) h.is;
    gives_same =
        of_nets m n (GivesSame (net_data m) (net_data n)) (gives_prop (net_data m) (net_data n))
        (λ before after. (moved_net from (net_data m) (net_data n) h before after).alike.gives_same);
    names_same =
        of_nets m n (NamesSame (net_data m) (net_data n)) (names_prop (net_data m) (net_data n))
        (λ before after. (moved_net from (net_data m) (net_data n) h before after).alike.names_same);
  };
  folded = λ folded.
      of_nets m n (IsFolded n.nodes) (folded_prop n.nodes) (λ before after. (moved_net from (net_data m) (net_data n) h before after).folded folded);
  distinct = λ distinct.
      of_nets m n (IsDistinct n.nodes) (distinct_prop n.nodes) (λ before after. (moved_net from (net_data m) (net_data n) h before after).distinct distinct);
}

-- of both steps
pub record Shared (m n : Net) : Type 0 where
  pub alike : Alike (net_data m) (net_data n)
  pub folded : IsFolded n.nodes
  pub distinct : IsDistinct n.nodes

pub shared : (m f n : Net) (from : List ℕ) → IsFoldOf (net_data m) (net_data f) → IsMoveOf from (net_data f) (net_data n) → Shared m n
shared m f n from fold move =
    let first = fold_result m f fold in
    let second = move_result from f n move in
    record {
      alike = alike_both (net_data m) (net_data f) (net_data n) first.alike second.alike;
      folded = second.folded first.folded;
      distinct = second.distinct first.distinct;
    }

pub where_ok : {A E : Type 0} (r : Result A E) (P Q : A → Type 0) → ((x : A) → P x → Q x) → IfOk r P → IfOk r Q
where_ok (Ok x) P Q h p = h x p
where_ok (Err e) P Q h p = tt

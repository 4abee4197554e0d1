-- Runs: steps of one form, which stand for neighbouring nodes.
use Rattle.std.specs.Prelude.{ℕ, ◌≡◌, ◌+◌, ◌%◌, ◌^◌, ◌≤◌, Bool, true, false, List, [], ◌∷◌, map, length, take, drop}
use Rattle.std.specs.List.{All}
use Rattle.bsv_bits.specs.Words.{Bits}
use Rattle.bsv_design.specs.design.Bodies.{at}
use Rattle.bsv_net.specs.declared.node.NetNode.{NetNode}
use Rattle.bsv_net.specs.declared.node.NetNode.TheVariants as net
use Rattle.bsv_engine.specs.declared.run.Run.{Run}
use Rattle.bsv_engine.specs.declared.run.Run.TheVariants as run
use Rattle.bsv_engine.specs.Codes.{Code, IsOfNet}
use Rattle.bsv_engine.specs.Numbers as forms
use Rattle.bsv_engine.specs.Rights as fit

-- ---- what a run computes

-- how many words it writes
abbrev pub size : Run → ℕ
size run.One = 1
size (run.Input xs) = length xs
size (run.Register xs) = length xs
size (run.Not xs) = length xs
size (run.And xs) = length xs
size (run.Or xs) = length xs
size (run.Xor xs) = length xs
size (run.Add xs) = length xs
size (run.Sub xs) = length xs
size (run.Mul xs) = length xs
size (run.Same xs) = length xs
size (run.Less xs) = length xs
size (run.LessSigned xs) = length xs
size (run.Shl xs) = length xs
size (run.Shr xs) = length xs
size (run.Sar xs) = length xs
size (run.Known xs) = length xs
size (run.Pick xs) = length xs
size (run.Slice xs) = length xs
size (run.Join xs) = length xs
size (run.Extended xs) = length xs
size (run.SignExtended xs) = length xs

-- one node alone, of which a word may be wide
abbrev pub is_single : Run → Bool
is_single run.One = true
is_single _ = false

-- its places are among so many
abbrev pub Within : ℕ → Run → Type 0
Within n (run.Not xs) = All (forms.not_within n) xs
Within n (run.And xs) = All (forms.and_within n) xs
Within n (run.Or xs) = All (forms.or_within n) xs
Within n (run.Xor xs) = All (forms.xor_within n) xs
Within n (run.Add xs) = All (forms.add_within n) xs
Within n (run.Sub xs) = All (forms.sub_within n) xs
Within n (run.Mul xs) = All (forms.mul_within n) xs
Within n (run.Same xs) = All (forms.same_within n) xs
Within n (run.Less xs) = All (forms.less_within n) xs
Within n (run.LessSigned xs) = All (forms.less_signed_within n) xs
Within n (run.Shl xs) = All (forms.shl_within n) xs
Within n (run.Shr xs) = All (forms.shr_within n) xs
Within n (run.Sar xs) = All (forms.sar_within n) xs
Within n (run.Known xs) = All (forms.known_within n) xs
Within n (run.Pick xs) = All (forms.pick_within n) xs
Within n (run.Slice xs) = All (forms.slice_within n) xs
Within n (run.Join xs) = All (forms.join_within n) xs
Within n (run.Extended xs) = All (forms.extended_within n) xs
Within n (run.SignExtended xs) = All (forms.sign_extended_within n) xs
Within n _ = Unit {0}

-- of runs that write the words from this place on, of which there are so many in all
abbrev pub AllWithin : ℕ → ℕ → List Run → Type 0
AllWithin all place [] = Unit {0}
AllWithin all place (r ∷ rs) = Within place r × (place + size r ≤ all) × AllWithin all (place + size r) rs

-- a word as a machine loads it: the lower 64 bits
abbrev pub lower : List Bits → ℕ → ℕ
lower ws k = (at ws k).value % 2 ^ 64

-- the numbers that it writes, where inputs and registers have these words, after these numbers
abbrev pub numbers : List Bits → List Bits → List ℕ → Run → List ℕ
numbers inputs registers ns run.One = []
numbers inputs registers ns (run.Input xs) = map (lower inputs) xs
numbers inputs registers ns (run.Register xs) = map (lower registers) xs
numbers inputs registers ns (run.Not xs) = map (forms.not_number ns) xs
numbers inputs registers ns (run.And xs) = map (forms.and_number ns) xs
numbers inputs registers ns (run.Or xs) = map (forms.or_number ns) xs
numbers inputs registers ns (run.Xor xs) = map (forms.xor_number ns) xs
numbers inputs registers ns (run.Add xs) = map (forms.add_number ns) xs
numbers inputs registers ns (run.Sub xs) = map (forms.sub_number ns) xs
numbers inputs registers ns (run.Mul xs) = map (forms.mul_number ns) xs
numbers inputs registers ns (run.Same xs) = map (forms.same_number ns) xs
numbers inputs registers ns (run.Less xs) = map (forms.less_number ns) xs
numbers inputs registers ns (run.LessSigned xs) = map (forms.less_signed_number ns) xs
numbers inputs registers ns (run.Shl xs) = map (forms.shl_number ns) xs
numbers inputs registers ns (run.Shr xs) = map (forms.shr_number ns) xs
numbers inputs registers ns (run.Sar xs) = map (forms.sar_number ns) xs
numbers inputs registers ns (run.Known xs) = map (forms.known_number ns) xs
numbers inputs registers ns (run.Pick xs) = map (forms.pick_number ns) xs
numbers inputs registers ns (run.Slice xs) = map (forms.slice_number ns) xs
numbers inputs registers ns (run.Join xs) = map (forms.join_number ns) xs
numbers inputs registers ns (run.Extended xs) = map (forms.extended_number ns) xs
numbers inputs registers ns (run.SignExtended xs) = map (forms.sign_extended_number ns) xs

-- ---- which nodes it stands for

-- steps that stand for the nodes in front of these, which have these widths, after nodes of those widths
pub record Stand {S : Type 0} (fits : List ℕ → S → Type 0) (of : S → NetNode) (before own : List ℕ) (nodes : List NetNode) (steps : List S) : Type 0 where
  pub right : All (fits before) steps
  pub same : map of steps ≡ take (length steps) nodes
  pub narrow : All (λ u. u ≤ 64) (take (length steps) own)
  pub within : length steps ≤ length nodes

-- what is loaded reads no word before it
abbrev pub Loads : List ℕ → ℕ → Type 0
Loads before k = Unit {0}

-- and a run
abbrev pub Stands : List ℕ → List ℕ → List NetNode → Run → Type 0
Stands before own nodes run.One = 1 ≤ length nodes
Stands before own nodes (run.Input xs) = Stand Loads net.Input [] own nodes xs
Stands before own nodes (run.Register xs) = Stand Loads net.Register [] own nodes xs
Stands before own nodes (run.Not xs) = Stand fit.not_right fit.not_node before own nodes xs
Stands before own nodes (run.And xs) = Stand fit.and_right fit.and_node before own nodes xs
Stands before own nodes (run.Or xs) = Stand fit.or_right fit.or_node before own nodes xs
Stands before own nodes (run.Xor xs) = Stand fit.xor_right fit.xor_node before own nodes xs
Stands before own nodes (run.Add xs) = Stand fit.add_right fit.add_node before own nodes xs
Stands before own nodes (run.Sub xs) = Stand fit.sub_right fit.sub_node before own nodes xs
Stands before own nodes (run.Mul xs) = Stand fit.mul_right fit.mul_node before own nodes xs
Stands before own nodes (run.Same xs) = Stand fit.same_right fit.same_node before own nodes xs
Stands before own nodes (run.Less xs) = Stand fit.less_right fit.less_node before own nodes xs
Stands before own nodes (run.LessSigned xs) = Stand fit.less_signed_right fit.less_signed_node before own nodes xs
Stands before own nodes (run.Shl xs) = Stand fit.shl_right fit.shl_node before own nodes xs
Stands before own nodes (run.Shr xs) = Stand fit.shr_right fit.shr_node before own nodes xs
Stands before own nodes (run.Sar xs) = Stand fit.sar_right fit.sar_node before own nodes xs
Stands before own nodes (run.Known xs) = Stand fit.known_right fit.known_node before own nodes xs
Stands before own nodes (run.Pick xs) = Stand fit.pick_right fit.pick_node before own nodes xs
Stands before own nodes (run.Slice xs) = Stand fit.slice_right fit.slice_node before own nodes xs
Stands before own nodes (run.Join xs) = Stand fit.join_right fit.join_node before own nodes xs
Stands before own nodes (run.Extended xs) = Stand fit.extended_right fit.extended_node before own nodes xs
Stands before own nodes (run.SignExtended xs) = Stand fit.sign_extended_right fit.sign_extended_node before own nodes xs

-- the runs stand for the nodes from one place up to another
abbrev pub AllStand : List ℕ → List NetNode → ℕ → ℕ → List Run → Type 0
AllStand widths nodes from to [] = from ≡ to
AllStand widths nodes from to (r ∷ rs) =
    Stands (take from widths) (drop from widths) (drop from nodes) r
    × (from + size r ≤ length nodes)
    × AllStand widths nodes (from + size r) to rs

-- ---- what holds of an engine

pub record IsEngine (c : Code) (widths : List ℕ) (runs : List Run) : Type 0 where
  pub of_net : IsOfNet c
  pub widths_are : widths ≡ of_net.right.widths
  pub runs_stand : AllStand widths c.nodes 0 (length c.nodes) runs

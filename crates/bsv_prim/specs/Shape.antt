-- A piece as contracts see it: without its boxes.
use Rattle.std.specs.Prelude.{ℕ}
use Rattle.bsv_bits.specs.Words.{Bits}
use Rattle.bsv_bits.specs.declared.operator.Operator.{Operator}
use Rattle.bsv_prim.specs.declared.piece.Piece.{Piece}
use Rattle.bsv_prim.specs.declared.piece.Piece.TheVariants.{Register, Called, Argument, Constant, Not', Two', Pick', Slice', Join', Extend'}

pub data Shape : Type 0 where
  Given : (number : ℕ) → Shape
  IsCalled : (method : ℕ) → Shape
  ArgumentOf : (method number : ℕ) → Shape
  Fixed : (word : Bits) → Shape
  Inverted : (a : Shape) → Shape
  Both : (operator : Operator) (a b : Shape) → Shape
  Chosen : (choice a b : Shape) → Shape
  Cut : (a : Shape) (high low : ℕ) → Shape
  Joined : (a b : Shape) → Shape
  Extended : (a : Shape) (width : ℕ) → Shape

-- the names p, q and r are of the boxes
abbrev pub shape_of : Piece → Shape
shape_of (Register n) = Given n
shape_of (Called m) = IsCalled m
shape_of (Argument m k) = ArgumentOf m k
shape_of (Constant w) = Fixed w
shape_of (Not' p a) = Inverted (shape_of a)
shape_of (Two' o p a q b) = Both o (shape_of a) (shape_of b)
shape_of (Pick' p c q a r b) = Chosen (shape_of c) (shape_of a) (shape_of b)
shape_of (Slice' p a h l) = Cut (shape_of a) h l
shape_of (Join' p a q b) = Joined (shape_of a) (shape_of b)
shape_of (Extend' p a w) = Extended (shape_of a) w

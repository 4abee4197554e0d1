-- Nodes that read other nodes in place of those that they read.
use Rattle.std.specs.Prelude.{ℕ}
use Rattle.bsv_net.specs.declared.node.NetNode.{NetNode}
use Rattle.bsv_net.specs.declared.node.NetNode.TheVariants as net

abbrev pub renamed : (ℕ → ℕ) → NetNode → NetNode
renamed f (net.Input k) = net.Input k
renamed f (net.Register k) = net.Register k
renamed f (net.Constant w) = net.Constant w
renamed f (net.Not a) = net.Not (f a)
renamed f (net.Two o a b) = net.Two o (f a) (f b)
renamed f (net.Pick t a b) = net.Pick (f t) (f a) (f b)
renamed f (net.Slice a high low) = net.Slice (f a) high low
renamed f (net.Join a b) = net.Join (f a) (f b)
renamed f (net.Extend a width) = net.Extend (f a) width
renamed f (net.SignExtend a width) = net.SignExtend (f a) width

abbrev pub first_operand : NetNode → ℕ
first_operand (net.Input k) = 0
first_operand (net.Register k) = 0
first_operand (net.Constant w) = 0
first_operand (net.Not a) = a
first_operand (net.Two o a b) = a
first_operand (net.Pick t a b) = t
first_operand (net.Slice a high low) = a
first_operand (net.Join a b) = a
first_operand (net.Extend a width) = a
first_operand (net.SignExtend a width) = a

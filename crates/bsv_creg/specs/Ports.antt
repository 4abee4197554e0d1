-- A register with several ports (Bluespec libraries reference guide, mkCReg). Port i has two methods:
-- number 2i is `_readi`, number 2i+1 is `_writei`.
--
--   `_readi`: the number; `_writei(v)`, rank i+1: the number becomes v; both are always ready
--   `_readi` SB `_writej` for j ≥ i; `_writej` SB `_readi` for j < i, and `_readi` then sees `_writej`
--   `_writej` SB `_writei` for j < i; `_writei` C `_writei`; `_readi` CF `_readj`
use Rattle.std.specs.Prelude.{◌≡◌, ℕ, zero, suc, ◌+◌, ◌*◌, ◌/◌, ◌%◌, Bool, true, false, nat_eq, nat_lt, if◌then◌else◌, List}
use Rattle.bsv_bits.specs.Words.{Bits}
use Rattle.bsv_prim.specs.Shape.{Shape, Given, IsCalled, ArgumentOf, Chosen}
use Rattle.bsv_prim.specs.Registers.{FitsNumber, number_in, always}
use Rattle.bsv_prim.specs.Table.{Table, word_at}
use Rattle.bsv_prim.specs.declared.part.Part.{Part}
use Rattle.bsv_prim.specs.declared.part.Part.TheVariants.{Number}
use Rattle.bsv_prim.specs.declared.primitive.Rel.{Rel}
use Rattle.bsv_prim.specs.declared.primitive.Rel.TheVariants.{Cf, Sb, Sa, C}
use Rattle.bsv_creg.specs.declared.method.Method.{Method}
use Rattle.bsv_creg.specs.declared.method.Method.TheVariants.{Read, Write}

-- the method of a number
abbrev pub port_method : ℕ → Method
port_method m = if nat_eq (m % 2) 0 then Read (m / 2) else Write (m / 2)

abbrev pub port_arity : Method → ℕ
port_arity (Read i) = 0
port_arity (Write i) = 1

-- the methods that are actions
abbrev pub writes : Method → Bool
writes (Read i) = false
writes (Write i) = true

abbrev pub port_apply : Method → Part → List Bits → Part
port_apply (Read i) p args = p
port_apply (Write i) p args = Number (word_at args 0)

abbrev pub port_rank : Method → ℕ
port_rank (Read i) = 0
port_rank (Write i) = i + 1

-- a read comes before the writes of its own port and of those above it, and after those below it
abbrev pub port_relation : Method → Method → Rel
port_relation (Read i) (Read j) = Cf
port_relation (Read i) (Write j) = if nat_lt j i then Sa else Sb
port_relation (Write j) (Read i) = if nat_lt j i then Sb else Sa
port_relation (Write i) (Write j) = if nat_eq i j then C else (if nat_lt i j then Sb else Sa)

-- a read sees the writes of the ports below its own
abbrev pub port_sees : Method → Method → Bool
port_sees (Write j) (Read i) = nat_lt j i
port_sees (Write j) (Write i) = false
port_sees (Read j) n = false

-- the port of a method
abbrev pub port_of : Method → ℕ
port_of (Read i) = i
port_of (Write i) = i

-- what is written through the highest port below this one that is called, or else the register's number
abbrev pub number_below : ℕ → Shape
number_below zero = Given 0
number_below (suc j) =
    Chosen (IsCalled (2 * j + 1)) (ArgumentOf (2 * j + 1) 0) (number_below j)

-- a register of a width, with so many ports and its start
abbrev pub creg_table : ℕ → ℕ → Bits → Table
creg_table width ports start = record {
  methods = 2 * ports;
  arity = λ m. port_arity (port_method m);
  argument_width = λ m k. width;
  result_width = λ m. width;
  is_action = λ m. writes (port_method m);
  opening = Number start;
  Fits = FitsNumber width;
  emptied = λ p. p;
  guarded = λ m. false;
  guard = λ m p. true;
  result = λ m p args. number_in width p;
  apply = λ m p args. port_apply (port_method m) p args;
  rank = λ m. port_rank (port_method m);
  relation = λ m n. port_relation (port_method m) (port_method n);
  sees = λ m n. port_sees (port_method m) (port_method n);
  registers = 1;
  register_width = λ r. width;
  register_start = λ r. start;
  register_resets = λ r. true;
  Shows = λ p registers. registers 0 ≡ number_in width p;
  guard_piece = λ m. always;
  result_piece = λ m. number_below (port_of (port_method m));
  next_piece = λ r. number_below ports;
}

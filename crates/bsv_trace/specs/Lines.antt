-- What a line of a trace is, and what it asks for: calls of methods of the top, with a blank between each two, as in
-- `start(0x10,3) result()`. It is said of the outlines of elements, so of a design and of the source that it is made from.
use Rattle.std.specs.Prelude.{◌≡◌, ◌≢◌, ℕ, ◌^◌, ◌<◌, ◌≤◌, ◌==◌, Bool, true, false, cond, not, IsTrue, List, [], ◌∷◌, ◌++◌, map, length, slice_get, slice_set, Some, codes}
use Rattle.std.specs.List.{list_all, join_with_byte}
use Rattle.bsv_bits.specs.Words.{Bits}
use Rattle.bsv_design.specs.declared.element.Port.{Port}
use Rattle.bsv_design.specs.design.Roles.{is_rule}
use Rattle.bsv_design.specs.scheme.Schemes.{Asking, Outline}
use Rattle.bsv_design.specs.scheme.States.{zeros}
use Rattle.bsv_design.specs.design.Widths.{port_fits}
use Rattle.bsv_trace.specs.Numbers.{IsNumber}

-- ---- methods

-- the outlines before the first rule
abbrev pub methods_among : List Outline → List Outline
methods_among [] = []
methods_among (o ∷ os) = cond (is_rule o.role) [] (o ∷ methods_among os)

-- ---- arguments

-- the text is the number of a word that the argument can hold
pub record IsArgument (p : Port) (text : List ℕ) (w : Bits) : Type 0 where
  pub number : IsNumber text w.value
  pub width : w.width ≡ p.width
  pub below : w.value < 2 ^ p.width

-- a text and a word for each argument of a method
abbrev pub AreArguments : List Port → List (List ℕ) → List Bits → Type 0
AreArguments [] [] [] = Unit {0}
AreArguments (p ∷ ps) (text ∷ texts) (w ∷ ws) = IsArgument p text w × AreArguments ps texts ws
AreArguments _ _ _ = ⊥

-- ---- calls

-- a call of a method, by the method's place, with its arguments
pub record MethodCall : Type 0 where
  pub method : ℕ
  pub words : List Bits

-- the name of a method, and its arguments in brackets with a comma between each two
pub record IsCall (methods : List Outline) (text : List ℕ) (c : MethodCall) : Type 0 where
  pub outline : Outline
  pub at : slice_get methods c.method ≡ Some outline
  pub pieces : List (List ℕ)
  pub arguments : AreArguments outline.ports pieces c.words
  pub written : text ≡ outline.name ++ codes "(" ++ join_with_byte 44 pieces ++ codes ")"

abbrev pub AreCalls : List Outline → List (List ℕ) → List MethodCall → Type 0
AreCalls methods [] [] = Unit {0}
AreCalls methods (text ∷ texts) (c ∷ cs) = IsCall methods text c × AreCalls methods texts cs
AreCalls methods _ _ = ⊥

-- none of the calls is of this method
abbrev pub CallsNot : ℕ → List MethodCall → Type 0
CallsNot method [] = Unit {0}
CallsNot method (c ∷ cs) = (method ≢ c.method) × CallsNot method cs

-- no method is called twice
abbrev pub AreApart : List MethodCall → Type 0
AreApart [] = Unit {0}
AreApart (c ∷ cs) = CallsNot c.method cs × AreApart cs

-- ---- what is asked for

-- nothing is asked of these methods, and all arguments are 0
abbrev pub nothing_of : List Outline → Asking
nothing_of methods = record { asked = map (λ o. false) methods; args = map (λ o. zeros o.ports) methods }

-- one call more
abbrev pub asked_with : MethodCall → Asking → Asking
asked_with c q = record { asked = slice_set q.asked c.method true; args = slice_set q.args c.method c.words }

abbrev pub asked_with_all : List MethodCall → Asking → Asking
asked_with_all [] q = q
asked_with_all (c ∷ cs) q = asked_with_all cs (asked_with c q)

-- the line asks for its calls and for nothing else
pub record AsksFor (outlines : List Outline) (line : List ℕ) (q : Asking) : Type 0 where
  pub pieces : List (List ℕ)
  pub calls : List MethodCall
  pub each : AreCalls (methods_among outlines) pieces calls
  pub apart : AreApart calls
  pub written : line ≡ join_with_byte 32 pieces
  pub short : length line ≤ 4096
  pub asking : q ≡ asked_with_all calls (nothing_of (methods_among outlines))

-- ---- methods that can be told apart

-- the method at a place
abbrev pub IsMethod : List Outline → ℕ → Outline → Type 0
IsMethod outlines n o = slice_get (methods_among outlines) n ≡ Some o

-- a byte that may be in a name: any but an opening bracket
abbrev pub in_name : ℕ → Bool
in_name b = not (b == 40)

-- no two methods have one name, no name has an opening bracket, and every argument has 1 to 128 bits
pub record AreMethods (outlines : List Outline) : Type 0 where
  pub apart : (m n : ℕ) (o p : Outline) → IsMethod outlines m o → IsMethod outlines n p → o.name ≡ p.name → m ≡ n
  pub names : (n : ℕ) (o : Outline) → IsMethod outlines n o → IsTrue (list_all in_name o.name)
  pub ports : (n : ℕ) (o : Outline) → IsMethod outlines n o → IsTrue (list_all port_fits o.ports)

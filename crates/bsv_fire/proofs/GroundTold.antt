-- The first nodes of a net are what elements are made from: the inputs, the registers and both bits have their words.
use Rattle.std.proofs.Common.{◌≡◌, ◌∙◌, ◌<◌, ◌≤◌, ◌+◌, ℕ, zero, suc, Bool, true, false, cond, List, [], ◌∷◌, ◌++◌, Option, Some, refl, sym, ap, arith, length, map, length-append, drop, get_or}
use Rattle.std.specs.Prelude.{slice_get}
use Rattle.std.specs.List.{flat_map}
use Rattle.std.proofs.lemmas.List.{length-map}
use Rattle.std.proofs.lemmas.Option.{slice_get_within, slice_get-get_or}
use Rattle.bsv_lemmas.proofs.Places.{mapped_at, at_left, at_right}
use Rattle.bsv_bits.specs.Words.{Bits, bit}
use Rattle.bsv_prim.specs.Table.{word_at}
use Rattle.bsv_design.specs.declared.element.Element.{Element}
use Rattle.bsv_design.specs.declared.element.Role.{Role}
use Rattle.bsv_design.specs.declared.element.Role.TheVariants as role
use Rattle.bsv_design.specs.declared.kind.Kind.{Kind}
use Rattle.bsv_design.specs.declared.schedule.Need.{Need}
use Rattle.bsv_design.specs.design.Bodies.{at}
use Rattle.bsv_design.specs.design.Designs.{DesignData, IsDesign}
use Rattle.bsv_design.specs.design.Guards.{needs_of}
use Rattle.bsv_design.specs.parts.Kinds.{kind_table}
use Rattle.bsv_design.specs.design.Roles.{is_rule}
use Rattle.bsv_design.specs.design.Words.{or_zero}
use Rattle.bsv_design.specs.scheme.Schemes.{Outline, Asking, outline, ports_of, kinds_of, design_scheme}
use Rattle.bsv_design.specs.scheme.States.{part_at}
use Rattle.bsv_graph.specs.Edges.{numbers_below}
use Rattle.bsv_design.proofs.Elements.{length-words}
use Rattle.bsv_clock.specs.Shows.{Shows, cells_in, cells_of, input_widths_of}
use Rattle.bsv_clock.specs.Clocks.{is_asked}
use Rattle.bsv_clock.proofs.Requests.{rule_is}
use Rattle.bsv_net.specs.declared.node.NetNode.{NetNode}
use Rattle.bsv_net.specs.declared.node.NetNode.TheVariants as net
use Rattle.bsv_net.specs.Placing.{node_at}
use Rattle.bsv_net.specs.Unasked.{Arguments, inputs_with, inputs_with_from}
use Rattle.bsv_net.proofs.Grows.{Grows, kept}
use Rattle.bsv_net.proofs.Starts.{long_cells}
use Rattle.bsv_fire.specs.Nets as nets
use Rattle.bsv_ports.specs.Starts.{first_nodes}
use Rattle.bsv_fire.specs.Grounds.{Ground}
use Rattle.bsv_ports.proofs.FirstNodes.{MethodsFirst, argument_at, asked_at, inputs_before, part_shown, register_start, registers_before, start_of, word_after}
use Rattle.bsv_ports.proofs.Scene.{Scene, S}
use Rattle.bsv_fire.proofs.Frame.{IsGround}
use Rattle.bsv_net.proofs.Numbers.{number_at}
use Rattle.bsv_graph.proofs.Below.{count_below}

-- ---- which node is where

module _ (inputs registers : ℕ) where
  abbrev after_inputs : List NetNode
  after_inputs = map net.Register (numbers_below registers) ++ (net.Constant (bit false) ∷ net.Constant (bit true) ∷ [])

  many : length (map net.Input (numbers_below inputs)) ≡ inputs
  many = length-map (numbers_below inputs) net.Input ∙ count_below inputs

  many_registers : length (map net.Register (numbers_below registers)) ≡ registers
  many_registers = length-map (numbers_below registers) net.Register ∙ count_below registers

  pub input_there : (k : ℕ) → k < inputs → slice_get (first_nodes inputs registers) k ≡ Some (net.Input k)
  input_there k l =
      at_left (map net.Input (numbers_below inputs)) after_inputs k (omega (arith, many))
      ∙ mapped_at net.Input (numbers_below inputs) k k (number_at inputs k l)

  after_there : (k : ℕ) → slice_get (first_nodes inputs registers) (inputs + k) ≡ slice_get after_inputs k
  after_there k =
      ap (λ n. slice_get (first_nodes inputs registers) (n + k)) (sym many)
      ∙ at_right (map net.Input (numbers_below inputs)) after_inputs k

  pub register_there : (k : ℕ) → k < registers → slice_get (first_nodes inputs registers) (inputs + k) ≡ Some (net.Register k)
  register_there k l =
      after_there k
      ∙ (at_left (map net.Register (numbers_below registers)) (net.Constant (bit false) ∷ net.Constant (bit true) ∷ []) k (omega (arith, many_registers))
      ∙ mapped_at net.Register (numbers_below registers) k k (number_at registers k l))

  bits_there : (k : ℕ) → slice_get (first_nodes inputs registers) (inputs + registers + k) ≡ slice_get (net.Constant (bit false) ∷ net.Constant (bit true) ∷ []) k
  bits_there k =
      ap (slice_get (first_nodes inputs registers)) (omega arith)
      ∙ (after_there (registers + k)
      ∙ (ap (λ n. slice_get after_inputs (n + k)) (sym many_registers)
      ∙ at_right (map net.Register (numbers_below registers)) (net.Constant (bit false) ∷ net.Constant (bit true) ∷ []) k))

  pub none_there : slice_get (first_nodes inputs registers) (inputs + registers) ≡ Some (net.Constant (bit false))
  none_there = ap (slice_get (first_nodes inputs registers)) (omega arith) ∙ bits_there 0

  pub one_there : slice_get (first_nodes inputs registers) (inputs + registers + 1) ≡ Some (net.Constant (bit true))
  one_there = bits_there 1

-- ---- how many there are

abbrev LongAt : Arguments → ℕ → List Outline → Type 0
LongAt xs n os = (j : ℕ) (o : Outline) → slice_get os j ≡ Some o → length (xs (n + j)) ≡ length o.ports

inputs_more : (q : Asking) (xs : Arguments) (n : ℕ) (o : Outline) (os : List Outline) (b : Bool) → length (inputs_with_from q xs (n + 1) os) ≡ length (input_widths_of os)
    → length (xs n) ≡ length o.ports
    → length (cond b [] (xs n ++ (bit (is_asked q n) ∷ inputs_with_from q xs (n + 1) os)))
    ≡ length (cond b [] (map (λ p. p.width) o.ports ++ (1 ∷ input_widths_of os)))
inputs_more q xs n o os true rest first = refl
inputs_more q xs n o os false rest first =
    length-append (xs n) (bit (is_asked q n) ∷ inputs_with_from q xs (n + 1) os)
    ∙ (omega (arith, rest, first, length-map o.ports (λ p. p.width)) ∙ sym (length-append (map (λ p. p.width) o.ports) (1 ∷ input_widths_of os)))

pub long_inputs : (q : Asking) (xs : Arguments) (n : ℕ) (os : List Outline) → LongAt xs n os → length (inputs_with_from q xs n os) ≡ length (input_widths_of os)
long_inputs q xs n [] long = refl
long_inputs q xs n (o ∷ os) long =
    inputs_more q xs n o os (is_rule o.role)
    (long_inputs q xs (n + 1) os (λ j p there. ap (λ k. length (xs k)) (omega arith) ∙ long (suc j) p there))
    (ap (λ k. length (xs k)) (omega arith) ∙ long 0 o refl)

-- the registers of a part are among all of them
pub registers_within : (ks : List Kind) (i : ℕ) (k : Kind) → slice_get ks i ≡ Some k → registers_before ks i + (kind_table k).registers ≤ length (cells_of ks)
unfolding registers_before cells_of
registers_within [] i k there = absurd (let n : ⊥ = cc in n)
registers_within (x ∷ ks) zero k there =
    let same : x ≡ k = cc in
    omega (arith, length-append (cells_in x) (flat_map cells_in ks), long_cells x, ap (λ (y : Kind). (kind_table y).registers) same)
registers_within (x ∷ ks) (suc i) k there =
    omega (arith, registers_within ks i k there, length-append (cells_in x) (flat_map cells_in ks), long_cells x)

-- ---- the words

within_both : {X : Type 0} (xs ys : List X) (i j : ℕ) → slice_get xs i ≡ slice_get ys j → j < length ys → i < length xs
within_both xs [] i j same l = absurd (omega arith)
within_both xs (y ∷ ys) i j same l = slice_get_within xs i (get_or (y ∷ ys) j y) (same ∙ slice_get-get_or (y ∷ ys) j y l)

pub has_no_arguments : (b : DesignData) → IsDesign b → (n : ℕ) (e : Element) → slice_get b.elements n ≡ Some e → is_rule e.role ≡ true → length e.arguments ≡ 0
has_no_arguments b right n e there rule = of e.role refl rule
  where
    of : (r : Role) → e.role ≡ r → is_rule r ≡ true → length e.arguments ≡ 0
    of role.Rule h _ = ap length ((right.elements n e there).rule h)
    of role.Value h g = absurd (let f : ⊥ = cc in f)
    of role.Action h g = absurd (let f : ⊥ = cc in f)
    of role.ActionValue h g = absurd (let f : ⊥ = cc in f)

is_rule_again : (r : Role) → r ≡ role.Rule → is_rule r ≡ true
is_rule_again r h = ap is_rule h

pub methods_first : (b : DesignData) → IsDesign b → MethodsFirst b.elements
unfolding MethodsFirst
methods_first b right m n d e p q l h = is_rule_again e.role (right.methods_first m n d e p q l (rule_is d.role h))

outlined : (es : List Element) (n : ℕ) (e : Element) → slice_get es n ≡ Some e → slice_get (map outline es) n ≡ Some (outline e)
outlined es n e there = mapped_at outline es n e there

-- an element has as many words as arguments
words_long : (z : Scene) (n : ℕ) → length (z.xs n) ≡ length (ports_of (slice_get (S z).elements n))
words_long z n = length-words (ports_of (slice_get (S z).elements n)) (z.xs n) (z.stands n)

module _ (z : Scene) (needs : List (List Need)) (are : needs ≡ needs_of (kinds_of z.b) z.b.elements)
    (inputs_are : z.inputs ≡ inputs_with (S z) z.q z.xs) (shows : Shows (kinds_of z.b) z.s z.registers)
    (first : Grows (first_nodes (length (nets.inputs z.b needs z.made)) (nets.count z.b needs z.made)) z.full) where
  abbrev es : List Element
  es = z.b.elements

  abbrev count_inputs : ℕ
  count_inputs = length (nets.inputs z.b needs z.made)

  given_long : (n : ℕ) (e : Element) → slice_get es n ≡ Some e → length (z.xs n) ≡ length e.arguments
  unfolding design_scheme
  given_long n e there =
      words_long z n ∙ ap (λ (o : Option Outline). length (ports_of o)) (outlined es n e there)

  long_all : length z.inputs ≡ count_inputs
  unfolding design_scheme inputs_with
  long_all = ap length inputs_are ∙ long_inputs z.q z.xs 0 (map outline es) (λ j o there. ap (λ n. length (z.xs n)) (omega arith) ∙ (words_long z j ∙ ap (λ (x : Option Outline). length (ports_of x)) there))

  long_each : (j : ℕ) (e : Element) → slice_get es j ≡ Some e → length (z.xs (0 + j)) ≡ length e.arguments
  long_each j e there = ap (λ n. length (z.xs n)) (omega arith) ∙ given_long j e there

  argument_in : (n : ℕ) (e : Element) → slice_get es n ≡ Some e → is_rule e.role ≡ false → (k : ℕ) → k < length e.arguments
      → slice_get z.inputs (inputs_before es n + k) ≡ slice_get (z.xs n) k
  unfolding design_scheme inputs_with
  argument_in n e there rule k l =
      ap (λ (ws : List Bits). slice_get ws (inputs_before es n + k)) inputs_are
      ∙ (argument_at z.q z.xs 0 es (methods_first z.b z.right) long_each n e there rule k l
      ∙ ap (λ m. slice_get (z.xs m) k) (omega arith))

  asked_in : (n : ℕ) (e : Element) → slice_get es n ≡ Some e → is_rule e.role ≡ false
      → slice_get z.inputs (inputs_before es n + length e.arguments) ≡ slice_get (bit (is_asked z.q n) ∷ []) 0
  unfolding design_scheme inputs_with
  asked_in n e there rule =
      ap (λ (ws : List Bits). slice_get ws (inputs_before es n + length e.arguments)) inputs_are
      ∙ (asked_at z.q z.xs 0 es (methods_first z.b z.right) long_each n e there rule
      ∙ ap (λ m. Some (bit (is_asked z.q m))) (omega arith))

  -- a node that is an input has its word
  input_word : (k j : ℕ) (ws : List Bits) → slice_get z.inputs k ≡ slice_get ws j → j < length ws → z.V k ≡ at ws j
  input_word k j ws same l =
      let within = within_both z.inputs ws k j same l in
      z.solved.operates k (net.Input k) (kept first k (net.Input k) (input_there count_inputs (nets.count z.b needs z.made) k (omega (arith, long_all))))
      ∙ ap or_zero same

  register_word : (k : ℕ) → k < nets.count z.b needs z.made → z.V (count_inputs + k) ≡ at z.registers k
  register_word k l =
      z.solved.operates (count_inputs + k) (net.Register k) (kept first (count_inputs + k) (net.Register k) (register_there count_inputs (nets.count z.b needs z.made) k l))

  abbrev g : Ground
  g = nets.ground z.b needs z.made

  arguments_told : (n : ℕ) (e : Element) → slice_get es n ≡ Some e → (k : ℕ) → k < length e.arguments → (b : Bool) → is_rule e.role ≡ b
      → z.V (node_at g.inputs n + k) ≡ at (z.xs n) k
  arguments_told n e there k l true rule = absurd (omega (arith, l, has_no_arguments z.b z.right n e there rule))
  arguments_told n e there k l false rule =
      ap (λ m. z.V (m + k)) (start_of 0 es n (slice_get_within es n e there) ∙ omega arith)
      ∙ input_word (inputs_before es n + k) k (z.xs n)
      (argument_in n e there rule k l) (omega (arith, given_long n e there))

  shown_told : (i : ℕ) (k : Kind) → slice_get (kinds_of z.b) i ≡ Some k
      → (r : ℕ → Bits) × (kind_table k).Shows (part_at z.s i) r
      × ((n : ℕ) → n < (kind_table k).registers → z.V (node_at g.base.registers i + n) ≡ r n)
  shown_told i k there = (
    word_at (drop (registers_before (kinds_of z.b) i) z.registers),
    part_shown (kinds_of z.b) z.s z.registers shows i k there,
    λ n l. ap (λ m. z.V (m + n)) (register_start count_inputs (kinds_of z.b) i (slice_get_within (kinds_of z.b) i k there))
        ∙ (ap z.V (omega arith)
        ∙ (register_word (registers_before (kinds_of z.b) i + n) (omega (arith, registers_within (kinds_of z.b) i k there))
        ∙ sym (word_after z.registers (registers_before (kinds_of z.b) i) n))),
  )

  pub ground_told : IsGround z g
  ground_told = record {
    kinds = refl;
    elements = refl;
    needs = are;
    stops = refl;
    call_sites = refl;
    shown = shown_told;
    arguments = λ n e there k l. arguments_told n e there k l (is_rule e.role) refl;
    asked = λ n e there rule.
        ap (λ m. z.V (m + length e.arguments)) (start_of 0 es n (slice_get_within es n e there) ∙ omega arith)
        ∙ input_word (inputs_before es n + length e.arguments) 0 (bit (is_asked z.q n) ∷ []) (asked_in n e there rule) (omega arith);
    none = z.solved.operates (count_inputs + nets.count z.b needs z.made) (net.Constant (bit false))
        (kept first _ _ (none_there count_inputs (nets.count z.b needs z.made)));
    one = z.solved.operates (count_inputs + nets.count z.b needs z.made + 1) (net.Constant (bit true))
        (kept first _ _ (one_there count_inputs (nets.count z.b needs z.made)));
  }

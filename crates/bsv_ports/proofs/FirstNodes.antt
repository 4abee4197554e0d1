-- The first nodes of a net are the inputs, the registers and both bits: what is where.
use Rattle.std.proofs.Common.{◌≡◌, ◌∙◌, ◌<◌, ◌≤◌, ◌+◌, ℕ, zero, suc, Bool, true, false, cond, List, [], ◌∷◌, ◌++◌, Option, Some, None, refl, sym, ap, subst, arith, length, map, drop}
use Rattle.std.specs.Prelude.{slice_get, unwrap_or}
use Rattle.std.proofs.lemmas.List.{drop-drop, get_or-drop}
use Rattle.std.proofs.lemmas.Option.{unwrap_or-slice_get}
use Rattle.bsv_lemmas.proofs.Places.{at_left, at_right}
use Rattle.bsv_bits.specs.Words.{Bits, bit}
use Rattle.bsv_prim.specs.Table.{word_at}
use Rattle.bsv_prim.specs.declared.part.Part.{Part}
use Rattle.bsv_design.specs.declared.element.Element.{Element}
use Rattle.bsv_design.specs.declared.kind.Kind.{Kind}
use Rattle.bsv_design.specs.design.Bodies.{at}
use Rattle.bsv_design.specs.parts.Kinds.{kind_table}
use Rattle.bsv_design.specs.design.Roles.{is_rule}
use Rattle.bsv_design.specs.design.Words.{or_zero}
use Rattle.bsv_design.specs.scheme.Schemes.{Asking, outline}
use Rattle.bsv_design.specs.scheme.States.{part_at}
use Rattle.bsv_clock.specs.Shows.{Shows}
use Rattle.bsv_clock.specs.Clocks.{is_asked}
use Rattle.bsv_net.specs.Placing.{node_at}
use Rattle.bsv_net.specs.Unasked.{Arguments, inputs_with_from}
use Rattle.bsv_ports.specs.Starts.{input_count, input_starts, register_starts}

-- ---- inputs

-- how many inputs come before those of an element
unfoldable pub inputs_before : List Element → ℕ → ℕ
inputs_before [] j = 0
inputs_before (e ∷ es) zero = 0
inputs_before (e ∷ es) (suc j) = input_count e + inputs_before es j

pub start_of : (at : ℕ) (es : List Element) (j : ℕ) → j < length es → node_at (input_starts at es) j ≡ at + inputs_before es j
unfolding input_starts inputs_before
start_of at [] j l = absurd (omega arith)
start_of at (e ∷ es) zero l = omega arith
start_of at (e ∷ es) (suc j) l = start_of (at + input_count e) es j (omega arith) ∙ omega arith

-- no method comes after a rule
unfoldable pub MethodsFirst : List Element → Type 0
MethodsFirst es =
    (m n : ℕ) (d e : Element) → slice_get es m ≡ Some d → slice_get es n ≡ Some e → m ≤ n → is_rule d.role ≡ true → is_rule e.role ≡ true

abbrev LongEnough : Arguments → ℕ → List Element → Type 0
LongEnough xs base es = (j : ℕ) (e : Element) → slice_get es j ≡ Some e → length (xs (base + j)) ≡ length e.arguments

after_method : (q : Asking) (xs : Arguments) (base : ℕ) (e : Element) (es : List Element) (k : ℕ) → is_rule e.role ≡ false → length (xs base) ≡ length e.arguments
    → slice_get (inputs_with_from q xs base (map outline (e ∷ es))) (input_count e + k) ≡ slice_get (inputs_with_from q xs (base + 1) (map outline es)) k
after_method q xs base e es k rule long =
    let rest = inputs_with_from q xs (base + 1) (map outline es) in
    let ws = xs base in
    ap (λ (b : Bool). slice_get (cond b [] (ws ++ (bit (is_asked q base) ∷ rest))) (cond b 0 (length e.arguments + 1) + k)) rule
    ∙ (ap (slice_get (ws ++ (bit (is_asked q base) ∷ rest))) (omega (arith, long)) ∙ at_right ws (bit (is_asked q base) ∷ rest) (suc k))

of_method : (q : Asking) (xs : Arguments) (base : ℕ) (e : Element) (es : List Element) → is_rule e.role ≡ false
    → inputs_with_from q xs base (map outline (e ∷ es)) ≡ xs base ++ (bit (is_asked q base) ∷ inputs_with_from q xs (base + 1) (map outline es))
of_method q xs base e es rule = ap (λ (b : Bool). cond b [] (xs base ++ (bit (is_asked q base) ∷ inputs_with_from q xs (base + 1) (map outline es)))) rule

first_is_method : (e : Element) (es : List Element) (j : ℕ) (f : Element) → MethodsFirst (e ∷ es) → slice_get es j ≡ Some f → is_rule f.role ≡ false → is_rule e.role ≡ false
unfolding MethodsFirst
first_is_method e es j f first there rule = of (is_rule e.role) refl
  where
    of : (b : Bool) → is_rule e.role ≡ b → b ≡ false
    of false h = refl
    of true h = sym (first 0 (suc j) e f refl there (omega arith) h) ∙ rule

methods_after : (e : Element) (es : List Element) → MethodsFirst (e ∷ es) → MethodsFirst es
unfolding MethodsFirst
methods_after e es first m n d f p r l h = first (suc m) (suc n) d f p r (omega arith) h

-- the arguments of a method, and whether it is asked
pub argument_at : (q : Asking) (xs : Arguments) (base : ℕ) (es : List Element) → MethodsFirst es → LongEnough xs base es
    → (j : ℕ) (e : Element) → slice_get es j ≡ Some e → is_rule e.role ≡ false → (k : ℕ) → k < length e.arguments
    → slice_get (inputs_with_from q xs base (map outline es)) (inputs_before es j + k) ≡ slice_get (xs (base + j)) k
unfolding inputs_before
argument_at q xs base [] first long j e there rule k l = absurd (let n : ⊥ = cc in n)
argument_at q xs base (x ∷ es) first long zero e there rule k l =
    let same : x ≡ e = cc in
    let not_rule = ap (λ (y : Element). is_rule y.role) same ∙ rule in
    let len : length (xs base) ≡ length x.arguments = ap (λ n. length (xs n)) (omega arith) ∙ long 0 x refl in
    let many = ap (λ (y : Element). length y.arguments) same in
    ap (λ (xs : List Bits). slice_get xs (0 + k)) (of_method q xs base x es not_rule)
    ∙ (ap (slice_get (xs base ++ (bit (is_asked q base) ∷ inputs_with_from q xs (base + 1) (map outline es)))) (omega arith)
    ∙ (at_left (xs base) (bit (is_asked q base) ∷ inputs_with_from q xs (base + 1) (map outline es)) k (omega (arith, len, many))
    ∙ ap (λ n. slice_get (xs n) k) (omega arith)))
argument_at q xs base (x ∷ es) first long (suc j) e there rule k l =
    let not_rule = first_is_method x es j e first there rule in
    let len : length (xs base) ≡ length x.arguments = ap (λ n. length (xs n)) (omega arith) ∙ long 0 x refl in
    ap (slice_get (inputs_with_from q xs base (map outline (x ∷ es)))) (omega arith)
    ∙ (after_method q xs base x es (inputs_before es j + k) not_rule len
    ∙ (argument_at q xs (base + 1) es (methods_after x es first) (λ i f p. ap (λ n. length (xs n)) (omega arith) ∙ long (suc i) f p) j e there rule k l
    ∙ ap (λ n. slice_get (xs n) k) (omega arith)))

pub asked_at : (q : Asking) (xs : Arguments) (base : ℕ) (es : List Element) → MethodsFirst es → LongEnough xs base es
    → (j : ℕ) (e : Element) → slice_get es j ≡ Some e → is_rule e.role ≡ false
    → slice_get (inputs_with_from q xs base (map outline es)) (inputs_before es j + length e.arguments) ≡ Some (bit (is_asked q (base + j)))
unfolding inputs_before
asked_at q xs base [] first long j e there rule = absurd (let n : ⊥ = cc in n)
asked_at q xs base (x ∷ es) first long zero e there rule =
    let same : x ≡ e = cc in
    let not_rule = ap (λ (y : Element). is_rule y.role) same ∙ rule in
    let len : length (xs base) ≡ length x.arguments = ap (λ n. length (xs n)) (omega arith) ∙ long 0 x refl in
    let many = ap (λ (y : Element). length y.arguments) same in
    ap (λ (xs : List Bits). slice_get xs (0 + length e.arguments)) (of_method q xs base x es not_rule)
    ∙ (ap (slice_get (xs base ++ (bit (is_asked q base) ∷ inputs_with_from q xs (base + 1) (map outline es)))) (omega (arith, len, many))
    ∙ (at_right (xs base) (bit (is_asked q base) ∷ inputs_with_from q xs (base + 1) (map outline es)) 0
    ∙ ap (λ n. Some (bit (is_asked q n))) (omega arith)))
asked_at q xs base (x ∷ es) first long (suc j) e there rule =
    let not_rule = first_is_method x es j e first there rule in
    let len : length (xs base) ≡ length x.arguments = ap (λ n. length (xs n)) (omega arith) ∙ long 0 x refl in
    ap (slice_get (inputs_with_from q xs base (map outline (x ∷ es)))) (omega arith)
    ∙ (after_method q xs base x es (inputs_before es j + length e.arguments) not_rule len
    ∙ (asked_at q xs (base + 1) es (methods_after x es first) (λ i f p. ap (λ n. length (xs n)) (omega arith) ∙ long (suc i) f p) j e there rule
    ∙ ap (λ n. Some (bit (is_asked q n))) (omega arith)))

-- ---- registers

-- how many registers come before those of a part
unfoldable pub registers_before : List Kind → ℕ → ℕ
registers_before [] i = 0
registers_before (k ∷ ks) zero = 0
registers_before (k ∷ ks) (suc i) = (kind_table k).registers + registers_before ks i

pub register_start : (at : ℕ) (ks : List Kind) (i : ℕ) → i < length ks → node_at (register_starts at ks) i ≡ at + registers_before ks i
unfolding register_starts registers_before
register_start at [] i l = absurd (omega arith)
register_start at (k ∷ ks) zero l = omega arith
register_start at (k ∷ ks) (suc i) l = register_start (at + (kind_table k).registers) ks i (omega arith) ∙ omega arith

shown_part : (x k : Kind) (p : Part) (r : ℕ → Bits) → x ≡ k → (kind_table x).Shows p r → (kind_table k).Shows p r
shown_part x k p r e h = subst (λ (y : Kind). (kind_table y).Shows p r) e h

-- the words of a part's registers show it
pub part_shown : (ks : List Kind) (ps : List Part) (ws : List Bits) → Shows ks ps ws → (i : ℕ) (k : Kind) → slice_get ks i ≡ Some k
    → (kind_table k).Shows (part_at ps i) (word_at (drop (registers_before ks i) ws))
unfolding registers_before
part_shown [] ps ws h i k there = absurd (let n : ⊥ = cc in n)
part_shown (x ∷ ks) [] ws h i k there = absurd h
part_shown (x ∷ ks) (p ∷ ps) ws h zero k there =
    let same : x ≡ k = cc in
    shown_part x k p (word_at (drop 0 ws)) same h.0
part_shown (x ∷ ks) (p ∷ ps) ws h (suc i) k there =
    let rest = part_shown ks ps (drop (kind_table x).registers ws) h.1 i k there in
    subst (λ (vs : List Bits). (kind_table k).Shows (part_at ps i) (word_at vs)) (drop-drop (registers_before ks i) (kind_table x).registers ws) rest

or_zero-unwrap : (o : Option Bits) → or_zero o ≡ unwrap_or o (bit false)
or_zero-unwrap None = refl
or_zero-unwrap (Some w) = refl

pub word_is_at : (ws : List Bits) (k : ℕ) → word_at ws k ≡ at ws k
word_is_at ws k = sym (or_zero-unwrap (slice_get ws k) ∙ unwrap_or-slice_get ws k (bit false))

pub word_after : (ws : List Bits) (n k : ℕ) → word_at (drop n ws) k ≡ at ws (n + k)
word_after ws n k = get_or-drop n ws k (bit false) ∙ word_is_at ws (n + k)

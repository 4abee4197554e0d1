-- The ports of a module tell its methods.
use Rattle.std.proofs.Common.{◌≡◌, ◌∙◌, ℕ, Bool, true, false, not, ◌&&◌, List, [], ◌∷◌, ◌++◌, Option, Some, None, codes, refl, sym, ap, append_assoc, arith}
use Rattle.std.proofs.lemmas.Bool.Decides.{nat_tests}
use Rattle.std.proofs.lemmas.List.{append_cancel_left}
use Rattle.bsv_lemmas.proofs.Lists.{same_head, same_tail}
use Rattle.bsv_ast.specs.Names.{is_capital, is_word, begins_name}
use Rattle.bsv_vtext.specs.declared.tree.VMethod.{VMethod}
use Rattle.bsv_vtext.specs.declared.tree.VWire.{VWire}
use Rattle.bsv_vtext.specs.Signals.{Port, input, output, argument_name, enable_name, ready_name, argument_port, argument_ports, enable_ports, ready_port, result_ports, ports_of, ports}
use Rattle.bsv_vtext.specs.Modules.{IsMethod}
use Rattle.bsv_vtext.proofs.Runs.{Each, Passes, split}
use Rattle.bsv_vtext.proofs.SignalNames.{IsLower, lower_is}

-- ---- parts of ports

-- what a list of ports begins with
abbrev begins : (Port → Bool) → List Port → Bool
begins p [] = false
begins p (x ∷ xs) = p x

unlike : (p : Port → Bool) (xs ys : List Port) → xs ≡ ys → begins p xs ≡ true → begins p ys ≡ false → ⊥
unlike p xs ys same does fails = cc

-- a port of an argument, and one of what a method gives: their names begin with no capital letter
abbrev takes : Port → Bool
takes p = not p.output && not (is_capital p.name)

abbrev gives : Port → Bool
gives p = p.output && not (is_capital p.name)

lower_is_small : (name : List ℕ) → IsLower name → is_capital name ≡ false
lower_is_small [] is = refl
lower_is_small (b ∷ bs) is = is.1.0

longer_is_small : (name more : List ℕ) → IsLower name → is_capital (name ++ more) ≡ false
longer_is_small [] more is = absurd is
longer_is_small (b ∷ bs) more is = is.1.0

takes_argument : (m a : List ℕ) (width : ℕ) → IsLower m → takes (input (argument_name m a) width) ≡ true
takes_argument m a width is = let small : is_capital (m ++ 36 ∷ a) ≡ false = longer_is_small m (36 ∷ a) is in ap not small

gives_result : (m : List ℕ) (width : ℕ) → IsLower m → gives (output m width) ≡ true
gives_result m width is = ap not (lower_is_small m is)

-- ---- arguments

word_bytes : (name : List ℕ) → IsLower name → Each (Passes is_word) name
word_bytes [] is = tt
word_bytes (b ∷ bs) is = (first_is_word b is.0, is.1.1)
  where
    first_is_word : (b : ℕ) → begins_name b ≡ true → is_word b ≡ true
    first_is_word b e = grind (arith, nat_tests)

same_argument_name : (m n a b : List ℕ) → IsLower m → IsLower n → argument_name m a ≡ argument_name n b → a ≡ b
same_argument_name m n a b is other e =
    let parts = split is_word m n (36 ∷ a) (36 ∷ b) (word_bytes m is) (word_bytes n other) refl refl e in
    append_cancel_left (codes "$") a b parts.1

pub same_wire : (a b : VWire) → a.name ≡ b.name → a.width ≡ b.width → a ≡ b
same_wire a b e f = ap (λ (n : List ℕ). record { name = n; width = a.width }) e ∙ ap (λ (w : ℕ). record { name = b.name; width = w }) f

same_argument : (m n : List ℕ) (a b : VWire) → IsLower m → IsLower n → argument_port m a ≡ argument_port n b → a ≡ b
same_argument m n a b is other e = same_wire a b (same_argument_name m n a.name b.name is other (ap (λ (p : Port). p.name) e))
    (ap (λ (p : Port). p.width) e)

same_arguments : (m n : List ℕ) (xs ys : List VWire) (r s : List Port) → IsLower m → IsLower n → begins takes r ≡ false → begins takes s ≡ false
    → argument_ports m xs ++ r ≡ argument_ports n ys ++ s → (xs ≡ ys) × (r ≡ s)
same_arguments m n [] [] r s is other stop end e = (refl, e)
same_arguments m n [] (y ∷ ys) r s is other stop end e =
    absurd (unlike takes (argument_ports n (y ∷ ys) ++ s) r (sym e) (takes_argument n y.name y.width other) stop)
same_arguments m n (x ∷ xs) [] r s is other stop end e =
    absurd (unlike takes (argument_ports m (x ∷ xs) ++ r) s e (takes_argument m x.name x.width is) end)
same_arguments m n (x ∷ xs) (y ∷ ys) r s is other stop end e =
    let first : x ≡ y = same_argument m n x y is other (same_head (argument_port m x) (argument_port n y) (argument_ports m xs ++ r)
    (argument_ports n ys ++ s) e) in
    let more = same_arguments m n xs ys r s is other stop end (same_tail (argument_port m x) (argument_port n y) (argument_ports m xs ++ r)
    (argument_ports n ys ++ s) e) in
    let all : x ∷ xs ≡ y ∷ ys = cc (first, more.0) in
    (all, more.1)

-- ---- the other ports of a method

no_argument : (m : List ℕ) (action : Bool) (r : List Port) → begins takes (enable_ports m action ++ (ready_port m ∷ r)) ≡ false
no_argument m true r = refl
no_argument m false r = refl

same_ready : (m n : List ℕ) → ready_port m ≡ ready_port n → m ≡ n
same_ready m n e = append_cancel_left (codes "RDY_") m n (ap (λ (p : Port). p.name) e)

other_way : (a b : List ℕ) (v w : ℕ) → input a v ≡ output b w → ⊥
other_way a b v w e = let way : false ≡ true = ap (λ (p : Port). p.output) e in absurd cc

same_enable : (m n : List ℕ) (acts does : Bool) (r s : List Port)
    → enable_ports m acts ++ (ready_port m ∷ r) ≡ enable_ports n does ++ (ready_port n ∷ s)
    → (acts ≡ does) × ((m ≡ n) × (r ≡ s))
same_enable m n true true r s e =
    let behind = same_tail (input (enable_name m) 1) (input (enable_name n) 1) (ready_port m ∷ r) (ready_port n ∷ s) e in
    (refl, (same_ready m n (same_head (ready_port m) (ready_port n) r s behind), same_tail (ready_port m) (ready_port n) r s behind))
same_enable m n true false r s e = absurd (other_way (enable_name m) (ready_name n) 1 1
    (same_head (input (enable_name m) 1) (ready_port n) (ready_port m ∷ r) s e))
same_enable m n false true r s e = absurd (other_way (enable_name n) (ready_name m) 1 1
    (sym (same_head (ready_port m) (input (enable_name n) 1) r (ready_port n ∷ s) e)))
same_enable m n false false r s e = (
  refl,
  (
    same_ready m n (same_head (ready_port m) (ready_port n) r s e),
    same_tail (ready_port m) (ready_port n) r s
        e,
  ),
)

same_result : (m n : List ℕ) (o p : Option ℕ) (r s : List Port) → IsLower m → IsLower n → begins gives r ≡ false → begins gives s ≡ false
    → result_ports m o ++ r ≡ result_ports n p ++ s → (o ≡ p) × (r ≡ s)
same_result m n None None r s is other stop end e = (refl, e)
same_result m n None (Some w) r s is other stop end e = absurd (unlike gives (output n w ∷ s) r (sym e) (gives_result n w other) stop)
same_result m n (Some v) None r s is other stop end e = absurd (unlike gives (output m v ∷ r) s e (gives_result m v is) end)
same_result m n (Some v) (Some w) r s is other stop end e =
    (ap (λ (p : Port). Some p.width) (same_head (output m v) (output n w) r s e), same_tail (output m v) (output n w) r s e)

-- ---- methods

abbrev method : List ℕ → List VWire → Bool → Option ℕ → VMethod
method name args action result = record { name = name; args = args; action = action; result = result }

-- what a method gives comes after its readiness: the ports of a method begin with none of what a method gives
first_port : (m : List ℕ) (args : List VWire) (action : Bool) (o : Option ℕ) (r : List Port) → begins gives (ports_of m args action o ++ r) ≡ false
first_port m [] true o r = refl
first_port m [] false o r = refl
first_port m (a ∷ args) action o r = refl

gives_nothing : (ms : List VMethod) → begins gives (ports ms) ≡ false
gives_nothing [] = refl
gives_nothing (m ∷ ms) = first_port m.name m.args m.action m.result (ports ms)

some_port : (m : List ℕ) (args : List VWire) (action : Bool) (o : Option ℕ) (r : List Port) → [] ≡ ports_of m args action o ++ r → ⊥
some_port m [] true o r e = absurd cc
some_port m [] false o r e = absurd cc
some_port m (a ∷ args) action o r e = absurd cc

grouped : (a b c d : List Port) → (a ++ (b ++ c)) ++ d ≡ a ++ (b ++ (c ++ d))
grouped a b c d = simp append_assoc

pub same_methods : (ms ns : List VMethod) → Each IsMethod ms → Each IsMethod ns → ports ms ≡ ports ns → ms ≡ ns
same_methods [] [] good fine e = refl
same_methods [] (n ∷ ns) good fine e = absurd (some_port n.name n.args n.action n.result (ports ns) e)
same_methods (m ∷ ms) [] good fine e = absurd (some_port m.name m.args m.action m.result (ports ms) (sym e))
same_methods (m ∷ ms) (n ∷ ns) good fine e =
    let is = lower_is m.name good.0.name in
    let other = lower_is n.name fine.0.name in
    let whole = sym (grouped (argument_ports m.name m.args) (enable_ports m.name m.action) (ready_port m.name ∷ result_ports m.name m.result)
    (ports ms)) ∙ e
    ∙ grouped (argument_ports n.name n.args) (enable_ports n.name n.action) (ready_port n.name ∷ result_ports n.name n.result) (ports ns) in
    let args = same_arguments m.name n.name m.args n.args _ _ is other
    (no_argument m.name m.action (result_ports m.name m.result ++ ports ms))
    (no_argument n.name n.action (result_ports n.name n.result ++ ports ns)) whole in
    let mid = same_enable m.name n.name m.action n.action (result_ports m.name m.result ++ ports ms) (result_ports n.name n.result ++ ports ns) args.1
    in
    let back = same_result m.name n.name m.result n.result (ports ms) (ports ns) is other (gives_nothing ms) (gives_nothing ns) mid.1.1 in
    let first : method m.name m.args m.action m.result ≡ method n.name n.args n.action n.result = cc (args.0, mid.0, mid.1.0, back.0) in
    let more : ms ≡ ns = same_methods ms ns good.1 fine.1 back.1 in
    let all : method m.name m.args m.action m.result ∷ ms ≡ method n.name n.args n.action n.result ∷ ns = cc (first, more) in
    all

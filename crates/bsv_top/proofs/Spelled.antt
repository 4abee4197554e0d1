-- Words that have a form, and words that have none.
use Rattle.std.proofs.Common.{◌≡◌, ◌≤◌, ◌∙◌, ◌⊎◌, inl, inr, ℕ, zero, suc, Bool, true, false, List, [], ◌∷◌, codes, decimal, refl, sym, ap, subst, arith}
use Rattle.std.proofs.lemmas.Fmt.{decimal_injective}
use Rattle.std.specs.Str.{bytes_eq}
use Rattle.std.proofs.lemmas.Bool.{cases_lt}
use Rattle.std.proofs.lemmas.Slice.Eq.{bytes_eq-Decides}
use Rattle.bsv_io.specs.Reading.{Reading}
use Rattle.bsv_top.specs.declared.form.Product.{Product}
use Rattle.bsv_top.specs.declared.form.Product.TheVariants as product
use Rattle.bsv_top.specs.Places.{IsTraceWithin}
use Rattle.bsv_top.specs.Products.{command_of, product_words}
use Rattle.bsv_top.specs.Answers.{Asks, HasNoForm, schedule_words, sim_words, suite_words, verilog_words}
use Rattle.bsv_top.specs.Made.{IsMade, made_words}

-- the parts of words
second_of : List (List ℕ) → List ℕ
second_of [] = []
second_of (x ∷ []) = []
second_of (x ∷ y ∷ rest) = y

third_of : List (List ℕ) → List ℕ
third_of [] = []
third_of (x ∷ rest) = second_of rest

fourth_of : List (List ℕ) → List ℕ
fourth_of [] = []
fourth_of (x ∷ rest) = third_of rest

-- the words of a simulation ask for no product
pub forms_apart : (file top trace name asked : List ℕ) (p : Product) → sim_words file top trace ≡ product_words p name asked → ⊥
forms_apart file top trace name asked p e = cc

-- nor do those of a suite, and they ask for no simulation
pub suites_apart : (file top list name asked : List ℕ) (p : Product) → suite_words file top list ≡ product_words p name asked → ⊥
suites_apart file top list name asked p e = cc

pub runs_apart : (file top list name asked trace : List ℕ) → suite_words file top list ≡ sim_words name asked trace → ⊥
runs_apart file top list name asked trace e = cc

-- the words of a schedule ask for no Verilog
pub products_apart : (file top name asked : List ℕ) → schedule_words file top ≡ verilog_words name asked → ⊥
products_apart file top name asked e = cc

-- words name one file, one module and one trace
pub same_sim : (file top trace f t r : List ℕ) → sim_words file top trace ≡ sim_words f t r → (file ≡ f) × (top ≡ t) × (trace ≡ r)
unfolding second_of third_of fourth_of
same_sim file top trace f t r e = (ap second_of e, ap third_of e, ap fourth_of e)

pub same_list : (file top list f t l : List ℕ) → suite_words file top list ≡ suite_words f t l → list ≡ l
unfolding second_of third_of fourth_of
same_list file top list f t l e = ap fourth_of e

-- what was read of the trace of such words
pub same_trace : (file top trace f t u : List ℕ) → sim_words file top trace ≡ sim_words f t u → (contents : List ℕ → List ℕ) (r : Reading) → IsTraceWithin file top trace contents r
    → IsTraceWithin f t u contents r
same_trace file top trace f t u e contents r h =
    let same = same_sim file top trace f t u e in
    subst (λ (name : List ℕ). IsTraceWithin f t name contents r) same.2
    (subst (λ (name : List ℕ). IsTraceWithin f name trace contents r) same.1 (subst (λ (name : List ℕ). IsTraceWithin name top trace contents r) same.0 h))

-- the file and the module come after the first word
asked_parts : (words : List (List ℕ)) (file top : List ℕ) → Asks words file top → (second_of words ≡ file) × (third_of words ≡ top)
unfolding second_of third_of
asked_parts words file top (Asks.schedule is) = (ap second_of is, ap third_of is)
asked_parts words file top (Asks.verilog is) = (ap second_of is, ap third_of is)
asked_parts words file top (Asks.sim trace is) = (ap second_of is, ap third_of is)
asked_parts words file top (Asks.suite list is) = (ap second_of is, ap third_of is)

pub same_asked : (words : List (List ℕ)) (file top f t : List ℕ) → Asks words file top → Asks words f t → (file ≡ f) × (top ≡ t)
same_asked words file top f t one two =
    let here = asked_parts words file top one in
    let there = asked_parts words f t two in
    (sym here.0 ∙ there.0, sym here.1 ∙ there.1)

-- ---- words have a form or none

pub asks : (words : List (List ℕ)) (p : Product) (file top : List ℕ) → words ≡ product_words p file top → Asks words file top
asks words product.Schedule file top is = Asks.schedule is
asks words product.Verilog file top is = Asks.verilog is

pub asks_product : (p : Product) (file top : List ℕ) → Asks (product_words p file top) file top
asks_product p file top = asks (product_words p file top) p file top refl

pub no_form : (words : List (List ℕ)) → ((p : Product) (file top : List ℕ) → words ≡ product_words p file top → ⊥)
    → ((file top trace : List ℕ) → words ≡ sim_words file top trace → ⊥) → ((file top list : List ℕ) → words ≡ suite_words file top list → ⊥)
    → ((n : ℕ) → IsMade words n → ⊥) → HasNoForm words
no_form words no_plan no_sim no_suite no_made = record { asks_none = by; makes_none = no_made }
  where
    by : (file top : List ℕ) → Asks words file top → ⊥
    by file top (Asks.schedule h) = no_plan product.Schedule file top h
    by file top (Asks.verilog h) = no_plan product.Verilog file top h
    by file top (Asks.sim trace h) = no_sim file top trace h
    by file top (Asks.suite list h) = no_suite file top list h

-- words of a made design ask for no file
pub made_asks : (words : List (List ℕ)) (n : ℕ) (file top : List ℕ) → IsMade words n → Asks words file top → ⊥
made_asks words n file top h (Asks.schedule is) = let e : made_words n ≡ schedule_words file top = sym h.words_are ∙ is in cc
made_asks words n file top h (Asks.verilog is) = let e : made_words n ≡ verilog_words file top = sym h.words_are ∙ is in cc
made_asks words n file top h (Asks.sim trace is) = let e : made_words n ≡ sim_words file top trace = sym h.words_are ∙ is in cc
made_asks words n file top h (Asks.suite list is) = let e : made_words n ≡ suite_words file top list = sym h.words_are ∙ is in cc

-- and name one size
pub same_size : (words : List (List ℕ)) (m n : ℕ) → IsMade words m → IsMade words n → m ≡ n
unfolding second_of
same_size words m n h k = decimal_injective m n (omega (arith, h.most)) (omega (arith, k.most)) (ap second_of (sym h.words_are ∙ k.words_are))

-- a first word that is neither command is that of no product
no_command : (command : List ℕ) → (command ≡ codes "schedule" → ⊥) → (command ≡ codes "verilog" → ⊥) → (p : Product) → command ≡ command_of p → ⊥
no_command command no_schedule no_verilog product.Schedule = no_schedule
no_command command no_schedule no_verilog product.Verilog = no_verilog

pub data Spells (words : List (List ℕ)) : Type 0 where
  plan : (p : Product) (file top : List ℕ) → words ≡ product_words p file top → Spells words
  run : (file top trace : List ℕ) → words ≡ sim_words file top trace → Spells words
  listed : (file top list : List ℕ) → words ≡ suite_words file top list → Spells words
  make : (n : ℕ) → IsMade words n → Spells words
  none : HasNoForm words → Spells words

neither : (words : List (List ℕ)) → ((p : Product) (file top : List ℕ) → words ≡ product_words p file top → ⊥)
    → ((file top trace : List ℕ) → words ≡ sim_words file top trace → ⊥) → ((file top list : List ℕ) → words ≡ suite_words file top list → ⊥)
    → ((n : ℕ) → words ≡ made_words n → ⊥) → Spells words
neither words no_plan no_sim no_suite no_made = none (no_form words no_plan no_sim no_suite (λ n h. no_made n h.words_are))

-- another command
other : (command word : List ℕ) → bytes_eq command word ≡ false → command ≡ word → ⊥
other command word different e =
    let same = (bytes_eq-Decides command word).1 e in
    let no_value : ⊥ = cc in no_value

plans_as : (command file top : List ℕ) (p : Product) → bytes_eq command (command_of p) ≡ true → Spells (command ∷ file ∷ top ∷ [])
plans_as command file top p same =
    plan p file top (ap (λ (first : List ℕ). first ∷ file ∷ top ∷ []) ((bytes_eq-Decides command (command_of p)).0 same))

plans_by : (command file top : List ℕ) (b d : Bool) → bytes_eq command (codes "schedule") ≡ b → bytes_eq command (codes "verilog") ≡ d → Spells (command ∷ file ∷ top ∷ [])
plans_by command file top true d one two = plans_as command file top product.Schedule one
plans_by command file top false true one two = plans_as command file top product.Verilog two
plans_by command file top false false one two = neither (command ∷ file ∷ top ∷ [])
    (λ p f t h.
    let first : command ≡ command_of p = cc in
    no_command command (other command (codes "schedule") one) (other command (codes "verilog") two) p first)
    (λ f t r h. let no_value : ⊥ = cc in no_value)
    (λ f t l h. let no_value : ⊥ = cc in no_value)
    (λ n h. let no_value : ⊥ = cc in no_value)

runs_by : (command file top trace : List ℕ) (b d : Bool) → bytes_eq command (codes "sim") ≡ b → bytes_eq command (codes "suite") ≡ d → Spells (command ∷ file ∷ top ∷ trace ∷ [])
runs_by command file top trace true d same two =
    run file top trace (ap (λ (first : List ℕ). first ∷ file ∷ top ∷ trace ∷ []) ((bytes_eq-Decides command (codes "sim")).0 same))
runs_by command file top trace false true one same =
    listed file top trace (ap (λ (first : List ℕ). first ∷ file ∷ top ∷ trace ∷ []) ((bytes_eq-Decides command (codes "suite")).0 same))
runs_by command file top trace false false one two = neither (command ∷ file ∷ top ∷ trace ∷ [])
    (λ p f t h. let no_value : ⊥ = cc in no_value)
    (λ f t r h.
    let first : command ≡ codes "sim" = cc in
    other command (codes "sim") one first)
    (λ f t l h.
    let first : command ≡ codes "suite" = cc in
    other command (codes "suite") two first)
    (λ n h. let no_value : ⊥ = cc in no_value)

last_or : (n bound : ℕ) → n ≤ suc bound → (n ≡ suc bound) ⊎ (n ≤ bound)
last_or n bound most = elim (cases_lt bound n) [
  | inl above ↦ inl (omega (arith, above, most))
  | inr below ↦ inr (omega (arith, below))
]

-- a text is the decimal of a number up to a bound, or of none
sized : (text : List ℕ) (bound : ℕ) → ((n : ℕ) × (1 ≤ n) × (n ≤ bound) × (text ≡ decimal n)) ⊎ ((n : ℕ) → 1 ≤ n → n ≤ bound → text ≡ decimal n → ⊥)
sized text zero = inr (λ n least most is. let no_value : ⊥ = omega (arith, least, most) in no_value)
sized text (suc bound) = elim (sized text bound) [
  | inl found ↦ inl (found.0, found.1, omega (arith, found.2), found.3)
  | inr unsaid ↦ by unsaid (bytes_eq text (decimal (suc bound))) refl
]
  where
    by : ((n : ℕ) → 1 ≤ n → n ≤ bound → text ≡ decimal n → ⊥) → (b : Bool) → bytes_eq text (decimal (suc bound)) ≡ b
        → ((n : ℕ) × (1 ≤ n) × (n ≤ suc bound) × (text ≡ decimal n)) ⊎ ((n : ℕ) → 1 ≤ n → n ≤ suc bound → text ≡ decimal n → ⊥)
    by unsaid true same = inl (suc bound, omega arith, omega arith, (bytes_eq-Decides text (decimal (suc bound))).0 same)
    by unsaid false different = inr (λ n least most is. elim (last_or n bound most) [
      | inl e ↦ other text (decimal (suc bound)) different (is ∙ ap decimal e)
      | inr below ↦ unsaid n least below is
    ])

makes_by : (command size : List ℕ) (b : Bool) → bytes_eq command (codes "made") ≡ b → Spells (command ∷ size ∷ [])
unfolding second_of
makes_by command size true same = elim (sized size 400) [
  | inl found ↦ make found.0 (record {
    words_are = ap (λ (first : List ℕ). first ∷ size ∷ []) ((bytes_eq-Decides command (codes "made")).0 same) ∙ ap (λ (text : List ℕ). codes "made" ∷ text ∷ []) found.3;
    least = found.1;
    most = found.2;
  })
  | inr unsized ↦ none (no_form (command ∷ size ∷ []) (λ p f t h. let no_value : ⊥ = cc in no_value) (λ f t r h. let no_value : ⊥ = cc in no_value) (λ f t l h. let no_value : ⊥ = cc in no_value)
      (λ n h. unsized n h.least h.most (ap second_of h.words_are)))
]
makes_by command size false different = neither (command ∷ size ∷ [])
    (λ p f t h. let no_value : ⊥ = cc in no_value) (λ f t r h. let no_value : ⊥ = cc in no_value) (λ f t l h. let no_value : ⊥ = cc in no_value)
    (λ n h.
    let first : command ≡ codes "made" = cc in
    other command (codes "made") different first)

pub spells : (words : List (List ℕ)) → Spells words
spells [] = neither [] (λ p f t h. let no_value : ⊥ = cc in no_value) (λ f t r h. let no_value : ⊥ = cc in no_value) (λ f t l h. let no_value : ⊥ = cc in no_value) (λ n h. let no_value : ⊥ = cc in no_value)
spells (command ∷ []) =
    neither (command ∷ []) (λ p f t h. let no_value : ⊥ = cc in no_value) (λ f t r h. let no_value : ⊥ = cc in no_value) (λ f t l h. let no_value : ⊥ = cc in no_value) (λ n h. let no_value : ⊥ = cc in no_value)
spells (command ∷ size ∷ []) = makes_by command size (bytes_eq command (codes "made")) refl
spells (command ∷ file ∷ top ∷ []) = plans_by command file top (bytes_eq command (codes "schedule")) (bytes_eq command (codes "verilog")) refl refl
spells (command ∷ file ∷ top ∷ trace ∷ []) = runs_by command file top trace (bytes_eq command (codes "sim")) (bytes_eq command (codes "suite")) refl refl
spells (command ∷ file ∷ top ∷ trace ∷ more ∷ rest) = neither (command ∷ file ∷ top ∷ trace ∷ more ∷ rest)
    (λ p f t h. let no_value : ⊥ = cc in no_value) (λ f t r h. let no_value : ⊥ = cc in no_value) (λ f t l h. let no_value : ⊥ = cc in no_value) (λ n h. let no_value : ⊥ = cc in no_value)

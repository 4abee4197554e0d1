-- Rules that were carried out without a refusal, rule by rule and instance by instance: they stay accepted while the tree grows.
use Rattle.std.proofs.Common.{◌≡◌, ◌∙◌, ℕ, zero, suc, ◌+◌, ◌<◌, List, [], ◌∷◌, ◌++◌, length, Option, Some, None, sym, ap, subst, arith, append_assoc, append-nil, length-append}
use Rattle.std.specs.Prelude.{nat_lt, slice_get, slice_set, if◌then◌else◌}
use Rattle.std.proofs.lemmas.Bool.{lt-ltb, cond-true}
use Rattle.std.proofs.lemmas.List.{set_at}
use Rattle.std.proofs.lemmas.Option.{same_Some}
use Rattle.bsv_types.specs.declared.modules.Method.{Method}
use Rattle.bsv_types.specs.declared.modules.Module.{Module}
use Rattle.bsv_types.specs.declared.modules.Rule.{Rule}
use Rattle.bsv_tree.specs.declared.statics.Binding.{Binding}
use Rattle.bsv_tree.specs.declared.tree.BuiltRule.{BuiltRule}
use Rattle.bsv_tree.specs.declared.tree.Instance.{Instance}
use Rattle.bsv_tree.specs.declared.tree.Made.{Made}
use Rattle.bsv_tree.specs.declared.tree.Made.TheVariants as made
use Rattle.bsv_tree.specs.tree.Contexts.{Context, made_of}
use Rattle.bsv_tree.specs.carrying.Carrying as carrying
use Rattle.bsv_tree.specs.tree.Trees.{IsAccepted}
use Rattle.bsv_carry.specs.StaysAccepted.{Grows, weighing}
use Rattle.bsv_carry.proofs.StaysAccepted.{stays_accepted, grows_same}
use Rattle.bsv_elab.specs.Statics.{Here, put_at}

-- ---- lists of instances that go on

pub record Extends (xs ys : List Instance) : Type 0 where
  pub more : List Instance
  pub is : ys ≡ xs ++ more

pub extends_same : (xs : List Instance) → Extends xs xs
extends_same xs = record { more = []; is = sym (append-nil xs) }

pub extends_then : (xs ys zs : List Instance) → Extends xs ys → Extends ys zs → Extends xs zs
extends_then xs ys zs h k =
    record { more = h.more ++ k.more; is = k.is ∙ ap (λ (l : List Instance). l ++ k.more) h.is ∙ append_assoc xs h.more k.more }

pub put_is : (xs more l : List Instance) (u i : Instance) (n : ℕ) → n ≡ length xs → l ≡ xs ++ u ∷ more → put_at n i l ≡ xs ++ i ∷ more
unfolding put_at
put_is xs more l u i n number is =
    let many : length (xs ++ u ∷ more) ≡ length xs + length (u ∷ more) = length-append xs (u ∷ more) in
    let below : n < length (xs ++ u ∷ more) = omega arith in
    subst (λ z. (if nat_lt n (length z) then slice_set z n i else z) ≡ xs ++ i ∷ more) (sym is)
    (cond-true (nat_lt n (length (xs ++ u ∷ more))) (slice_set (xs ++ u ∷ more) n i) (xs ++ u ∷ more)
    (lt-ltb n (length (xs ++ u ∷ more)) below) ∙ set_at xs u more i n (sym number))

-- ---- accepted

abbrev pub site_at : Here → List Instance → ℕ → List Binding → Context
site_at here is number bs = record {
  shapes = here.shapes;
  functions = here.functions;
  modules = here.modules;
  instances = is;
  within = number;
  bindings = bs;
}

module _ (here : Here) where
  abbrev pub RuleGoes : List Instance → ℕ → List Binding → Rule → Type 0
  RuleGoes is number bs source = IsAccepted (carrying.rule (site_at here is number bs) source.condition source.body (weighing 0))

  abbrev pub RuleAccepted : List Instance → ℕ → BuiltRule → Type 0
  RuleAccepted is number r =
      (m : Module) → slice_get here.modules number ≡ Some m → (source : Rule) → slice_get m.rules r.rule ≡ Some source → RuleGoes is number r.bindings source

  abbrev pub EachAccepted : List Instance → ℕ → List BuiltRule → Type 0
  EachAccepted is number [] = Unit {0}
  EachAccepted is number (r ∷ rs) = RuleAccepted is number r × EachAccepted is number rs

  abbrev pub MadeAccepted : List Instance → Option Made → Type 0
  MadeAccepted is None = Unit {0}
  MadeAccepted is (Some (made.Primitive p k)) = Unit {0}
  MadeAccepted is (Some (made.Module b)) = EachAccepted is b.«module» b.rules

  -- over the first instances, the rules of the second ones
  abbrev pub TreeAccepted : List Instance → List Instance → Type 0
  TreeAccepted is xs = (n : ℕ) → MadeAccepted is (made_of (slice_get xs n))

  -- ---- later

  -- from any weight, and over later instances
  pub rule_later : (is js : List Instance) → Grows is js → (number : ℕ) (bs : List Binding) (source : Rule) (weight : ℕ)
      → IsAccepted (carrying.rule (site_at here is number bs) source.condition source.body (weighing weight))
      → RuleGoes js number bs source
  rule_later is js grows number bs source weight h =
      stays_accepted.rule (site_at here is number bs) js grows source.condition source.body weight h

  pub rule_lighter : (is : List Instance) (number : ℕ) (bs : List Binding) (source : Rule) (weight : ℕ)
      → IsAccepted (carrying.rule (site_at here is number bs) source.condition source.body (weighing weight))
      → RuleGoes is number bs source
  rule_lighter is number bs source weight h = rule_later is is (grows_same is) number bs source weight h

  pub each_later : (is js : List Instance) → Grows is js → (number : ℕ) (rs : List BuiltRule) → EachAccepted is number rs → EachAccepted js number rs
  each_later is js grows number [] h = tt
  each_later is js grows number (r ∷ rs) h =
      (λ m at source there. rule_later is js grows number r.bindings source 0 (h.0 m at source there), each_later is js grows number rs h.1)

  made_later : (is js : List Instance) → Grows is js → (x : Option Made) → MadeAccepted is x → MadeAccepted js x
  made_later is js grows None h = tt
  made_later is js grows (Some (made.Primitive p k)) h = tt
  made_later is js grows (Some (made.Module b)) h = each_later is js grows b.«module» b.rules h

  pub tree_later : (is js : List Instance) → Grows is js → (xs : List Instance) → TreeAccepted is xs → TreeAccepted js xs
  tree_later is js grows xs h n = made_later is js grows (made_of (slice_get xs n)) (h n)

  -- a method of the top
  pub method_later : (is js : List Instance) → Grows is js → (number : ℕ) (bs : List Binding) (m : Method) (weight : ℕ)
      → IsAccepted (carrying.top_method (site_at here is number bs) m weight) → IsAccepted (carrying.top_method (site_at here js number bs) m 0)
  method_later is js grows number bs m weight h = stays_accepted.method (site_at here is number bs) js grows m weight h

  -- ---- lists

  pub each_after : (is : List Instance) (number : ℕ) (rs : List BuiltRule) (r : BuiltRule) → EachAccepted is number rs → RuleAccepted is number r
      → EachAccepted is number (rs ++ r ∷ [])
  each_after is number [] r h k = (k, tt)
  each_after is number (x ∷ rs) r h k = (h.0, each_after is number rs r h.1 k)

  pub each_at : (is : List Instance) (number : ℕ) (rs : List BuiltRule) → EachAccepted is number rs → (place : ℕ) (r : BuiltRule)
      → slice_get rs place ≡ Some r → RuleAccepted is number r
  each_at is number [] h place r e = absurd cc
  each_at is number (x ∷ rs) h zero r e = subst (λ y. RuleAccepted is number y) (same_Some x r e) h.0
  each_at is number (x ∷ rs) h (suc place) r e = each_at is number rs h.1 place r e

  pub tree_after : (is xs : List Instance) (i : Instance) → TreeAccepted is xs → MadeAccepted is (Some i.made) → TreeAccepted is (xs ++ i ∷ [])
  tree_after is [] i h k zero = k
  tree_after is [] i h k (suc n) = tt
  tree_after is (x ∷ xs) i h k zero = h zero
  tree_after is (x ∷ xs) i h k (suc n) = tree_after is xs i (λ j. h (suc j)) k n

  pub tree_replaced : (is xs : List Instance) (u i : Instance) (more : List Instance) → TreeAccepted is (xs ++ u ∷ more)
      → MadeAccepted is (Some i.made) → TreeAccepted is (xs ++ i ∷ more)
  tree_replaced is [] u i more h k zero = k
  tree_replaced is [] u i more h k (suc n) = h (suc n)
  tree_replaced is (x ∷ xs) u i more h k zero = h zero
  tree_replaced is (x ∷ xs) u i more h k (suc n) = tree_replaced is xs u i more (λ j. h (suc j)) k n

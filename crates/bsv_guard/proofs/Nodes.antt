-- The words of a flat body rest on the answers to its own calls alone.
use Rattle.std.proofs.Common.{◌≡◌, ◌∙◌, ℕ, zero, suc, ◌+◌, ◌<◌, Bool, true, false, not, ◌&&◌, List, [], ◌∷◌, ◌++◌, length, map, Option, Some, None, refl, sym, ap, ap₂, subst, arith, length-append}
use Rattle.std.specs.Prelude.{slice_get, nat_lt}
use Rattle.std.specs.List.{AllByRecursion}
use Rattle.std.proofs.lemmas.Bool.{and_parts, not-true}
use Rattle.bsv_lemmas.proofs.Places.{at_left}
use Rattle.bsv_bits.specs.Words.{Bits}
use Rattle.bsv_prim.specs.Table.{Table}
use Rattle.bsv_design.specs.declared.element.Call.{Call}
use Rattle.bsv_design.specs.declared.element.Port.{Port}
use Rattle.bsv_design.specs.declared.kind.Kind.{Kind}
use Rattle.bsv_design.specs.declared.node.Node.{Node}
use Rattle.bsv_design.specs.declared.node.Node.TheVariants as node
use Rattle.bsv_design.specs.design.Bodies.{target, Answers, at, answer, node_word, of_parts, values, words_after}
use Rattle.bsv_design.specs.parts.Kinds.{kind_table}
use Rattle.bsv_design.proofs.Bodies.{words_grown}
use Rattle.bsv_design.specs.design.Words.{or_zero}
use Rattle.bsv_design.specs.scheme.Traces.{acts, kind_at}
use Rattle.bsv_design.specs.design.Widths.{has_width, if_width, args_fit, method_fits, gives_word, result_width, if_some, node_width, widths_from}

-- ---- what widths tell

-- a value that was worked out of another one
pub record Chained (o : Option ℕ) (f : ℕ → Option (List ℕ)) (us : List ℕ) : Type 0 where
  pub width : ℕ
  pub first : o ≡ Some width
  pub rest : f width ≡ Some us

pub chained : (o : Option ℕ) (f : ℕ → Option (List ℕ)) (us : List ℕ) → if_some o f ≡ Some us → Chained o f us
chained None f us e = absurd (let n : ⊥ = cc in n)
chained (Some w) f us e = record { width = w; first = refl; rest = e }

pub where_width : (b : Bool) (w v : ℕ) → if_width b w ≡ Some v → (b ≡ true) × (w ≡ v)
where_width true w v e = (refl, cc)
where_width false w v e = absurd (let n : ⊥ = cc in n)

pub has_one : (us : List ℕ) (k w : ℕ) → has_width (slice_get us k) w ≡ true → k < length us
has_one [] k w h = absurd (let n : ⊥ = cc in n)
has_one (u ∷ us) zero w h = omega arith
has_one (u ∷ us) (suc k) w h = let l = has_one us k w h in omega arith

-- the nodes of the arguments come before
pub arguments_before : (t : Table) (m : ℕ) (us : List ℕ) (k : ℕ) (args : List ℕ) → args_fit t m us k args ≡ true → AllByRecursion (λ a. a < length us) args
arguments_before t m us k [] h = tt
arguments_before t m us k (a ∷ args) h =
    let first = and_parts (nat_lt k (t.arity m) && has_width (slice_get us a) (t.argument_width m k)) (args_fit t m us (k + 1) args) h in
    let own = and_parts (nat_lt k (t.arity m)) (has_width (slice_get us a) (t.argument_width m k)) first.0 in
    (has_one us a (t.argument_width m k) own.1, arguments_before t m us (k + 1) args first.1)

-- ---- words stay

pub same_arguments : (vs more : List Bits) (args : List ℕ) → AllByRecursion (λ a. a < length vs) args → map (at (vs ++ more)) args ≡ map (at vs) args
same_arguments vs more [] h = refl
same_arguments vs more (a ∷ args) h = ap₂ (λ (x : Bits) (xs : List Bits). x ∷ xs) (ap or_zero (at_left vs more a h.0)) (same_arguments vs more args h.1)

module _ (ks : List Kind) (ports : List Port) (cs : List Call) (ws : List Bits) where
  abbrev pub next_word : Answers → List Bits → Node → Bits
  next_word r vs x = node_word r ws cs vs x

  pub grown : (r : Answers) (vs : List Bits) (ns : List Node) → (more : List Bits) × (values r ws cs vs ns ≡ vs ++ more)
  grown r vs ns = words_grown (of_parts r) ws cs vs ns

  -- the answers are the same for each call that gives a value, where these are the words of the body
  abbrev AgreeAt : Answers → Answers → List Bits → Type 0
  AgreeAt q r all =
      (c : ℕ) (y : Call) → slice_get cs c ≡ Some y → acts (kind_at ks (target y)) y.method ≡ false → q c (target y) (map (at all) y.args) ≡ r c (target y) (map (at all) y.args)

  result_same : (q r : Answers) (all vs more : List Bits) (us : List ℕ) → AgreeAt q r all → all ≡ vs ++ more → length vs ≡ length us → (c : ℕ) (w : ℕ) (o : Option Call) → slice_get cs c ≡ o → result_width ks us o ≡ Some w
      → answer q c vs o ≡ answer r c vs o
  result_same q r all vs more us h grow long c w None at_c e = refl
  result_same q r all vs more us h grow long c w (Some y) at_c e = of (slice_get ks y.part) refl e
    where
      of : (o : Option Kind) → slice_get ks y.part ≡ o → gives_word o us y ≡ Some w → q c (target y) (map (at vs) y.args) ≡ r c (target y) (map (at vs) y.args)
      of None k g = absurd (let n : ⊥ = cc in n)
      of (Some kind) k g =
          let fit = where_width (method_fits (Some kind) us y && not ((kind_table kind).is_action y.method)) ((kind_table kind).result_width y.method) w g in
          let parts = and_parts (method_fits (Some kind) us y) (not ((kind_table kind).is_action y.method)) fit.0 in
          let args = (and_parts (nat_lt y.method (kind_table kind).methods) (args_fit (kind_table kind) y.method us 0 y.args) parts.0).1 in
          let before = subst (λ (n : ℕ). AllByRecursion (λ a. a < n) y.args) (sym long) (arguments_before (kind_table kind) y.method us 0 y.args args) in
          let same : map (at all) y.args ≡ map (at vs) y.args = ap (λ (xs : List Bits). map (at xs) y.args) grow ∙ same_arguments vs more y.args before in
          let reads : acts (slice_get ks y.part) y.method ≡ false = ap (λ (o : Option Kind). acts o y.method) k ∙ not-true ((kind_table kind).is_action y.method) parts.1 in
          ap (q c (target y)) (sym same) ∙ h c y at_c reads ∙ ap (r c (target y)) same

  node_same : (q r : Answers) (all vs more : List Bits) (us : List ℕ) → AgreeAt q r all → all ≡ vs ++ more → length vs ≡ length us → (x : Node) (w : ℕ) → node_width ports ks cs us x ≡ Some w → next_word q vs x ≡ next_word r vs x
  node_same q r all vs more us h grow long (node.Constant v) w e = refl
  node_same q r all vs more us h grow long (node.Argument k) w e = refl
  node_same q r all vs more us h grow long (node.Result c) w e = result_same q r all vs more us h grow long c w (slice_get cs c) refl e
  node_same q r all vs more us h grow long (node.Not a) w e = refl
  node_same q r all vs more us h grow long (node.Two o a b) w e = refl
  node_same q r all vs more us h grow long (node.Pick t a b) w e = refl
  node_same q r all vs more us h grow long (node.Slice a high low) w e = refl
  node_same q r all vs more us h grow long (node.Join a b) w e = refl
  node_same q r all vs more us h grow long (node.Extend a width) w e = refl
  node_same q r all vs more us h grow long (node.SignExtend a width) w e = refl

  longer : (vs : List Bits) (v : Bits) (us : List ℕ) (u : ℕ) → length vs ≡ length us → length (vs ++ v ∷ []) ≡ length (us ++ u ∷ [])
  longer vs v us u e = omega (arith, length-append vs (v ∷ []), length-append us (u ∷ []))

  same_from : (q r : Answers) (all : List Bits) → AgreeAt q r all → (ns : List Node) (vs : List Bits) (us ends : List ℕ) → values q ws cs vs ns ≡ all → length vs ≡ length us → widths_from ports ks cs us ns ≡ Some ends
      → values q ws cs vs ns ≡ values r ws cs vs ns
  unfolding words_after widths_from
  same_from q r all h [] vs us ends is long e = refl
  same_from q r all h (x ∷ ns) vs us ends is long e =
      let c = chained (node_width ports ks cs us x) (λ w. widths_from ports ks cs (us ++ w ∷ []) ns) ends e in
      let g = grown q vs (x ∷ ns) in
      let same = node_same q r all vs g.0 us h (sym is ∙ g.1) long x c.width c.first in
      same_from q r all h ns (vs ++ next_word q vs x ∷ []) (us ++ c.width ∷ []) ends is (longer vs (next_word q vs x) us c.width long) c.rest
      ∙ ap (λ (v : Bits). values r ws cs (vs ++ v ∷ []) ns) same

  pub same_words : (q r : Answers) (ns : List Node) (ends : List ℕ) → widths_from ports ks cs [] ns ≡ Some ends → AgreeAt q r (values q ws cs [] ns) → values q ws cs [] ns ≡ values r ws cs [] ns
  same_words q r ns ends e h = same_from q r (values q ws cs [] ns) h ns [] [] ends refl refl e

-- The words of a flat body have their widths, and so its calls fit.
use Rattle.std.proofs.Common.{◌≡◌, ◌∙◌, ℕ, zero, suc, ◌+◌, ◌<◌, true, not, ◌&&◌, List, [], ◌∷◌, ◌++◌, length, map, Option, Some, None, refl, sym, ap, ap₂, subst, arith}
use Rattle.std.specs.Prelude.{slice_get, ◌==◌, nat_lt, option_map}
use Rattle.std.proofs.lemmas.Bool.{and_parts, not-true, eqb-true, ltb-true}
use Rattle.bsv_bits.specs.Words.{Bits}
use Rattle.bsv_bits.specs.declared.operator.Operator.{Operator}
use Rattle.bsv_prim.specs.Table.{Table, IsWordOf, word_at}
use Rattle.bsv_design.specs.declared.element.Call.{Call}
use Rattle.bsv_design.specs.declared.element.Port.{Port}
use Rattle.bsv_design.specs.declared.kind.Kind.{Kind}
use Rattle.bsv_design.specs.declared.node.Node.{Node}
use Rattle.bsv_design.specs.declared.node.Node.TheVariants as node
use Rattle.bsv_design.specs.design.Bodies.{target, Answers, at, answer, node_word, values, words_after}
use Rattle.bsv_design.specs.parts.Kinds.{kind_table}
use Rattle.bsv_design.specs.design.Words.{or_zero}
use Rattle.bsv_design.specs.scheme.States.{AreWordsOf}
use Rattle.bsv_design.specs.design.Widths.{has_width, args_fit, method_fits, gives_word, result_width, node_width, widths_from, two_width, pick_width, slice_width, join_width, extend_width}
use Rattle.bsv_guard.specs.Fitting.{HaveWidths, IsFitCall, IsFitAnswer, AnswersFit}
use Rattle.bsv_guard.proofs.Nodes.{chained, where_width}
use Rattle.bsv_guard.proofs.Words.{constant_fits, not_fits, two_fits, pick_fits, slice_fits, join_fits, extend_fits, sign_extend_fits}

-- ---- words of widths

pub word_there : (us : List ℕ) (vs : List Bits) → HaveWidths us vs → (k u : ℕ) → slice_get us k ≡ Some u → IsWordOf u (at vs k)
word_there [] vs h k u e = absurd (let n : ⊥ = cc in n)
word_there (w ∷ us) [] h k u e = absurd h
word_there (w ∷ us) (v ∷ vs) h zero u e = let same : w ≡ u = cc in subst (λ (x : ℕ). IsWordOf x v) same h.0
word_there (w ∷ us) (v ∷ vs) h (suc k) u e = word_there us vs h.1 k u e

one_more : (us : List ℕ) (vs : List Bits) (u : ℕ) (v : Bits) → HaveWidths us vs → IsWordOf u v → HaveWidths (us ++ u ∷ []) (vs ++ v ∷ [])
one_more [] [] u v h k = (k, tt)
one_more [] (y ∷ vs) u v h k = absurd h
one_more (x ∷ us) [] u v h k = absurd h
one_more (x ∷ us) (y ∷ vs) u v h k = (h.0, one_more us vs u v h.1 k)

pub width_is : (o : Option ℕ) (w : ℕ) → has_width o w ≡ true → o ≡ Some w
width_is None w h = absurd (let n : ⊥ = cc in n)
width_is (Some v) w h = ap Some (eqb-true v w h)

-- ---- calls

module _ (us : List ℕ) (vs : List Bits) (have : HaveWidths us vs) where
  -- so many arguments from the one of this number on, each of its width
  record ArgumentsFit (t : Table) (m k : ℕ) (args : List ℕ) : Type 0 where
    arity : k + length args ≡ t.arity m
    widths : (j : ℕ) → j < length args → IsWordOf (t.argument_width m (k + j)) (word_at (map (at vs) args) j)

  arguments_fit : (t : Table) (m k : ℕ) (args : List ℕ) → args_fit t m us k args ≡ true → ArgumentsFit t m k args
  arguments_fit t m k [] h = record { arity = let e = eqb-true k (t.arity m) h in omega arith; widths = λ j l. absurd (omega arith) }
  arguments_fit t m k (a ∷ args) h =
      let first = and_parts (nat_lt k (t.arity m) && has_width (slice_get us a) (t.argument_width m k)) (args_fit t m us (k + 1) args) h in
      let own = and_parts (nat_lt k (t.arity m)) (has_width (slice_get us a) (t.argument_width m k)) first.0 in
      let rest = arguments_fit t m (k + 1) args first.1 in
      let here = word_there us vs have a (t.argument_width m k) (width_is (slice_get us a) (t.argument_width m k) own.1) in
      record { arity = let e = rest.arity in omega arith; widths = each here rest.widths }
    where
      each : IsWordOf (t.argument_width m k) (at vs a) → ((j : ℕ) → j < length args → IsWordOf (t.argument_width m (k + 1 + j)) (word_at (map (at vs) args) j))
          → (j : ℕ) → j < length (a ∷ args) → IsWordOf (t.argument_width m (k + j)) (word_at (map (at vs) (a ∷ args)) j)
      each here rest zero l = let e : k ≡ k + 0 = omega arith in subst (λ (n : ℕ). IsWordOf (t.argument_width m n) (at vs a)) e here
      each here rest (suc j) l =
          let e : k + 1 + j ≡ k + suc j = omega arith in
          subst (λ (n : ℕ). IsWordOf (t.argument_width m n) (word_at (map (at vs) args) j)) e (rest j (omega arith))

  length-mapped : (args : List ℕ) → length (map (at vs) args) ≡ length args
  length-mapped [] = refl
  length-mapped (a ∷ args) = ap suc (length-mapped args)

  pub call_fit : (o : Option Kind) (c : Call) → method_fits o us c ≡ true → IsFitCall o c.method (map (at vs) c.args)
  call_fit None c h = absurd (let n : ⊥ = cc in n)
  call_fit (Some kind) c h =
      let parts = and_parts (nat_lt c.method (kind_table kind).methods) (args_fit (kind_table kind) c.method us 0 c.args) h in
      let fit = arguments_fit (kind_table kind) c.method 0 c.args parts.1 in
      let long : length c.args ≡ (kind_table kind).arity c.method = let e = fit.arity in omega arith in
      record {
        method = ltb-true c.method (kind_table kind).methods parts.0;
        args = record {
          arity = length-mapped c.args ∙ long;
          widths = λ j l.
              (let e : 0 + j ≡ j = omega arith in
              subst (λ (n : ℕ). IsWordOf ((kind_table kind).argument_width c.method n) (word_at (map (at vs) c.args) j)) e (fit.widths j (subst (λ (n : ℕ). j < n) (sym long) l)));
        };
      }

-- ---- operands

two_operands : (o : Operator) (x y : Option ℕ) (v : ℕ) → two_width o x y ≡ Some v → (u : ℕ) × (w : ℕ) × (x ≡ Some u) × (y ≡ Some w)
two_operands o None y v e = absurd (let n : ⊥ = cc in n)
two_operands o (Some u) None v e = absurd (let n : ⊥ = cc in n)
two_operands o (Some u) (Some w) v e = (u, w, refl, refl)

three_operands : (x y z : Option ℕ) (v : ℕ) → pick_width x y z ≡ Some v → (y ≡ Some v) × (z ≡ Some v)
three_operands None y z v e = absurd (let n : ⊥ = cc in n)
three_operands (Some t) None z v e = absurd (let n : ⊥ = cc in n)
three_operands (Some t) (Some a) None v e = absurd (let n : ⊥ = cc in n)
three_operands (Some t) (Some a) (Some b) v e =
    let given = where_width ((t == 1) && (a == b)) a v e in
    let same = eqb-true a b (and_parts (t == 1) (a == b) given.0).1 in
    (ap Some given.1, ap Some (sym same ∙ given.1))

join_operands : (x y : Option ℕ) (v : ℕ) → join_width x y ≡ Some v → (u : ℕ) × (w : ℕ) × (x ≡ Some u) × (y ≡ Some w)
join_operands None y v e = absurd (let n : ⊥ = cc in n)
join_operands (Some u) None v e = absurd (let n : ⊥ = cc in n)
join_operands (Some u) (Some w) v e = (u, w, refl, refl)

slice_operand : (x : Option ℕ) (high low v : ℕ) → slice_width x high low ≡ Some v → (u : ℕ) × (x ≡ Some u)
slice_operand None high low v e = absurd (let n : ⊥ = cc in n)
slice_operand (Some u) high low v e = (u, refl)

extend_operand : (x : Option ℕ) (width v : ℕ) → extend_width x width ≡ Some v → (u : ℕ) × (x ≡ Some u)
extend_operand None width v e = absurd (let n : ⊥ = cc in n)
extend_operand (Some u) width v e = (u, refl)

argument_fits : (ports : List Port) (ws : List Bits) → AreWordsOf ports ws → (k v : ℕ) → option_map (λ (p : Port). p.width) (slice_get ports k) ≡ Some v → IsWordOf v (or_zero (slice_get ws k))
argument_fits [] ws h k v e = absurd (let n : ⊥ = cc in n)
argument_fits (p ∷ ports) [] h k v e = absurd h
argument_fits (p ∷ ports) (w ∷ ws) h zero v e = let same : p.width ≡ v = cc in subst (λ (n : ℕ). IsWordOf n w) same h.0
argument_fits (p ∷ ports) (w ∷ ws) h (suc k) v e = argument_fits ports ws h.1 k v e

-- ---- nodes

module _ (ks : List Kind) (ports : List Port) (cs : List Call) (ws : List Bits) (given : AreWordsOf ports ws) (r : Answers) (fit : AnswersFit ks r) where
  result_fit : (us : List ℕ) (vs : List Bits) → HaveWidths us vs → (c v : ℕ) (o : Option Call) → result_width ks us o ≡ Some v → IsWordOf v (answer r c vs o)
  result_fit us vs have c v None e = absurd (let n : ⊥ = cc in n)
  result_fit us vs have c v (Some y) e = of (slice_get ks y.part) refl e
    where
      of : (o : Option Kind) → slice_get ks y.part ≡ o → gives_word o us y ≡ Some v → IsWordOf v (r c (target y) (map (at vs) y.args))
      of None k g = absurd (let n : ⊥ = cc in n)
      of (Some kind) k g =
          let width = where_width (method_fits (Some kind) us y && not ((kind_table kind).is_action y.method)) ((kind_table kind).result_width y.method) v g in
          let parts = and_parts (method_fits (Some kind) us y) (not ((kind_table kind).is_action y.method)) width.0 in
          let args = map (at vs) y.args in
          let fits = subst (λ (o : Option Kind). IsFitCall o y.method args) (sym k) (call_fit us vs have (Some kind) y parts.0) in
          let word = subst (λ (o : Option Kind). IsFitAnswer o y.method (r c (target y) args)) k (fit c (target y) args fits) in
          subst (λ (n : ℕ). IsWordOf n (r c (target y) args)) width.1 (word (not-true ((kind_table kind).is_action y.method) parts.1))

  node_fit : (us : List ℕ) (vs : List Bits) → HaveWidths us vs → (x : Node) (v : ℕ) → node_width ports ks cs us x ≡ Some v → IsWordOf v (node_word r ws cs vs x)
  node_fit us vs have (node.Constant w) v e = constant_fits w v e
  node_fit us vs have (node.Argument k) v e = argument_fits ports ws given k v e
  node_fit us vs have (node.Result c) v e = result_fit us vs have c v (slice_get cs c) e
  node_fit us vs have (node.Not a) v e = not_fits (at vs a) v (word_there us vs have a v e)
  node_fit us vs have (node.Two o a b) v e =
      let is = two_operands o (slice_get us a) (slice_get us b) v e in
      let x = word_there us vs have a is.0 is.2 in
      let y = word_there us vs have b is.1 is.3 in
      two_fits o (at vs a) (at vs b) v x.word y.word (ap₂ (λ p q. two_width o (Some p) (Some q)) x.same_width y.same_width ∙ ap₂ (λ p q. two_width o p q) (sym is.2) (sym is.3) ∙ e)
  node_fit us vs have (node.Pick t a b) v e =
      let is = three_operands (slice_get us t) (slice_get us a) (slice_get us b) v e in
      pick_fits (at vs t) (at vs a) (at vs b) v v (word_there us vs have a v is.0) (word_there us vs have b v is.1)
  node_fit us vs have (node.Slice a high low) v e =
      let is = slice_operand (slice_get us a) high low v e in
      let x = word_there us vs have a is.0 is.1 in
      slice_fits (at vs a) high low v x.word (ap (λ p. slice_width (Some p) high low) x.same_width ∙ ap (λ p. slice_width p high low) (sym is.1) ∙ e)
  node_fit us vs have (node.Join a b) v e =
      let is = join_operands (slice_get us a) (slice_get us b) v e in
      let x = word_there us vs have a is.0 is.2 in
      let y = word_there us vs have b is.1 is.3 in
      join_fits (at vs a) (at vs b) v x.word y.word (ap₂ (λ p q. join_width (Some p) (Some q)) x.same_width y.same_width ∙ ap₂ (λ p q. join_width p q) (sym is.2) (sym is.3) ∙ e)
  node_fit us vs have (node.Extend a width) v e =
      let is = extend_operand (slice_get us a) width v e in
      let x = word_there us vs have a is.0 is.1 in
      extend_fits (at vs a) width v x.word (ap (λ p. extend_width (Some p) width) x.same_width ∙ ap (λ p. extend_width p width) (sym is.1) ∙ e)
  node_fit us vs have (node.SignExtend a width) v e =
      let is = extend_operand (slice_get us a) width v e in
      let x = word_there us vs have a is.0 is.1 in
      sign_extend_fits (at vs a) width v x.word (ap (λ p. extend_width (Some p) width) x.same_width ∙ ap (λ p. extend_width p width) (sym is.1) ∙ e)

  words_from : (ns : List Node) (us ends : List ℕ) (vs : List Bits) → HaveWidths us vs → widths_from ports ks cs us ns ≡ Some ends → HaveWidths ends (values r ws cs vs ns)
  unfolding words_after widths_from
  words_from [] us ends vs have e = let same : us ≡ ends = cc in subst (λ (ms : List ℕ). HaveWidths ms vs) same have
  words_from (x ∷ ns) us ends vs have e =
      let c = chained (node_width ports ks cs us x) (λ w. widths_from ports ks cs (us ++ w ∷ []) ns) ends e in
      words_from ns (us ++ c.width ∷ []) ends (vs ++ node_word r ws cs vs x ∷ []) (one_more us vs c.width (node_word r ws cs vs x) have (node_fit us vs have x c.width c.first)) c.rest

  -- the words of all nodes
  pub words_fit : (ns : List Node) (ends : List ℕ) → widths_from ports ks cs [] ns ≡ Some ends → HaveWidths ends (values r ws cs [] ns)
  words_fit ns ends e = words_from ns [] ends [] tt e

-- The whole: rules and methods of the top do what they mean.
use Rattle.std.proofs.Common.{◌≡◌, ℕ, zero, suc, Bool, true, false, ◌&&◌, List, [], ◌∷◌, ◌++◌, length, map, Option, Some, None, Ok, Err, refl, sym, ap, ap₂, ◌∙◌, subst, append_assoc, append-nil, length-append, ◌+◌}
use Rattle.std.specs.Prelude.{slice_get, if◌then◌else◌}
use Rattle.bsv_lemmas.proofs.Choices.{same_ok}
use Rattle.bsv_fail.specs.Given.{◌>>=◌}
use Rattle.bsv_bits.specs.Words.{Bits, bit}
use Rattle.bsv_types.specs.declared.definitions.Body.{Body}
use Rattle.bsv_types.specs.declared.definitions.Body.TheVariants as body
use Rattle.bsv_types.specs.declared.expressions.Expr.{Expr}
use Rattle.bsv_types.specs.declared.definitions.Param.{Param}
use Rattle.bsv_types.specs.declared.modules.Method.{Method}
use Rattle.bsv_types.specs.declared.statements.Stmt.{Stmt}
use Rattle.bsv_tree.specs.declared.steps.Atom.TheVariants as atom
use Rattle.bsv_tree.specs.declared.steps.MethodPlace.{MethodPlace}
use Rattle.bsv_tree.specs.declared.steps.Step.TheVariants as step
use Rattle.bsv_tree.specs.declared.values.Constant.{Constant}
use Rattle.bsv_tree.specs.declared.values.Constant.TheVariants as constant
use Rattle.bsv_tree.specs.declared.values.Count.{Count}
use Rattle.bsv_tree.specs.declared.values.Local.{Local}
use Rattle.bsv_tree.specs.declared.values.Value.{Value}
use Rattle.bsv_tree.specs.declared.values.Value.TheVariants as value
use Rattle.bsv_tree.specs.declared.values.Work.{Work}
use Rattle.bsv_tree.specs.tree.Contexts.{Context, Callee}
use Rattle.bsv_tree.specs.carrying.Calls.{Caller, static_fault}
use Rattle.bsv_tree.specs.carrying.Carrying as carrying
use Rattle.bsv_tree.specs.carrying.Frames as frames
use Rattle.bsv_tree.specs.carrying.Running as running
use Rattle.bsv_tree.specs.meaning.Evaluation.{Results, Standing, SiteCall, Need}
use Rattle.bsv_tree.specs.carrying.Running.{Happening, Run, in_turn, happening, followed}
use Rattle.bsv_design.specs.design.Words.{is_one}
use Rattle.bsv_tree.specs.carrying.Values as values
use Rattle.bsv_tree.specs.carrying.Values.{atom_of}
use Rattle.bsv_tree.specs.carrying.Working.{Valued, no_steps, at_count, with_step, fresh}
use Rattle.bsv_tree.specs.meaning.Values.{word_of, Value as Val, static, nothing, is_static, is_true, Variables, variable, varying}
use Rattle.bsv_tree.specs.meaning.Evaluation as evaluation
use Rattle.bsv_tree.specs.meaning.Evaluation.{Evaluation, yields, needed}
use Rattle.bsv_tree.specs.meaning.Control as control
use Rattle.bsv_tree.specs.meaning.Meaning as meaning
use Rattle.bsv_tree.specs.meaning.Meaning.{Calling}
use Rattle.bsv_tree.proofs.meaning.Same.{got_after, Shows, AllShow, Holds, AllHold, ran, IsLong, Same, here, got, all_show_within, shows_word, all_show_append}
use Rattle.bsv_tree.proofs.meaning.Pieces.{bound, given, nothing_more, ran_more, fresh_is}
use Rattle.bsv_tree.proofs.meaning.Operating.{V}
use Rattle.bsv_tree.proofs.meaning.Nodes.{need_is}
use Rattle.bsv_tree.proofs.meaning.Expressions.{Carries, CallsSame, held_at}
use Rattle.bsv_tree.proofs.meaning.Trees.{ExprSame, expr_same}
use Rattle.bsv_tree.proofs.meaning.Statements.{AllDo, run_does, hold_new}
use Rattle.bsv_tree.proofs.meaning.Bodies.{stmt_does}

-- ---- the variables of a body as it begins

argument_holds : (W : List Bits) (x : Value) (y : Val) → Shows W x y → Holds W (carrying.argument x) (variable y)
argument_holds W (value.Static (constant.Number m)) y s = hold_new W (value.Static (constant.Number m)) y true s
argument_holds W (value.Static (constant.Bits m)) y s = hold_new W (value.Static (constant.Bits m)) y false s
argument_holds W (value.Open m) y s = hold_new W (value.Open m) y false s

arguments_hold : (W : List Bits) (xs : List Value) (ys : List Val) → AllShow W xs ys → AllHold W (map carrying.argument xs) (map variable ys)
arguments_hold W [] [] s = tt
arguments_hold W (x ∷ xs) (y ∷ ys) s = (argument_holds W x y s.0, arguments_hold W xs ys s.1)
arguments_hold W [] (y ∷ ys) s = absurd s
arguments_hold W (x ∷ xs) [] s = absurd s

begins : (W : List Bits) (b : Bool) (xs : List Value) (ys : List Val) → AllShow W xs ys → AllHold W (carrying.arguments b xs) (meaning.arguments ys)
begins W b xs ys s = (hold_new W (values.truth false) nothing b refl, arguments_hold W xs ys s)

module _ (r : Results) (call : Caller) (calling : Calling) (calls_same : CallsSame r call calling) (site : Context) where
  -- ---- conditions

  module _ (p : Standing) (ws : List Bits) (n k : ℕ) (w : Work) (long : IsLong r p ws n k w) where
    abbrev Evaluates_to : Work → Evaluation Val → Type 0
    Evaluates_to v m = Same r p ws n k (λ W y. Unit {0}) w v (here r p ws n k w m)

    -- the step of a need, which is before the steps of its condition
    need_told : (name : Option MethodPlace) (m : Evaluation Val) (x : Value) (u : Work)
        → Same r p (V r p ws n k w) (ran r p ws n k w).choices (ran r p ws n k w).sites (λ W y. Shows W x y) (no_steps w.count) u (m p (ran r p ws n k w).choices (ran r p ws n k w).sites)
        → (let y = (m p (ran r p ws n k w).choices (ran r p ws n k w).sites).gives in (is_static y && is_true y) ≡ false)
        → Evaluates_to (with_step w (step.Need name (atom_of x) u.steps) u.count) (needed name m)
    unfolding in_turn
    need_told name m x u same no_static =
        let W = V r p ws n k w in
        let N = (ran r p ws n k w).choices in
        let K = (ran r p ws n k w).sites in
        let inner = ran r p W N K u in
        let a = m p N K in
        let need : Need = record { name = name; truth = is_true a.gives; taken = p.taken } in
        let end : Happening = record { words = inner.words; choices = a.choices; sites = a.sites; calls = (ran r p ws n k w).calls ++ a.calls; needs = (ran r p ws n k w).needs ++ need ∷ a.needs } in
        let told : needed name m p N K ≡ record a { needs = need ∷ a.needs } =
        ap (λ (b : Bool). if b then yields a.gives p N K else record a { needs = need ∷ a.needs }) no_static in
        let it : ran r p ws n k (with_step w (step.Need name (atom_of x) u.steps) u.count) ≡ end =
        ran_more r p ws n k w (step.Need name (atom_of x) u.steps) u.count
        ∙ ap (followed (ran r p ws n k w)) (ap (λ (f : Run). f r p W N K) (need_is name (atom_of x) u.steps)
        ∙ ap (λ (o : Bits). let h : Happening = record inner { needs = record { name = name; truth = is_one o; taken = p.taken } ∷ inner.needs } in h) (shows_word inner.words x a.gives same.gives)
        ∙ ap₂ (λ (i j : ℕ). let h : Happening = record { words = inner.words; choices = i; sites = j; calls = inner.calls; needs = need ∷ inner.needs } in h) same.adds.choices same.adds.sites
        ∙ ap₂ (λ (i : List SiteCall) (j : List Need). let h : Happening = record { words = inner.words; choices = a.choices; sites = a.sites; calls = i; needs = need ∷ j } in h) same.adds.calls same.adds.needs) in
        subst (λ d. Same r p ws n k (λ W y. Unit {0}) w (with_step w (step.Need name (atom_of x) u.steps) u.count) d) (sym told)
        (record {
          adds = record {
            within = λ i y j. ap (λ (o : Happening). slice_get o.words i) it ∙ same.adds.within i y j;
            choices = ap (λ (o : Happening). o.choices) it;
            sites = ap (λ (o : Happening). o.sites) it;
            calls = ap (λ (o : Happening). o.calls) it;
            needs = ap (λ (o : Happening). o.needs) it;
          };
          long = ap (λ (o : Happening). length o.words) it ∙ same.long;
          gives = tt;
        })

    asking_is : (name : Option MethodPlace) (c : Option Expr) (v : Work) → carrying.asking call site name c w ≡ Ok v → Evaluates_to v (meaning.holds r calling site name c)
    unfolding carrying.asking meaning.holds ExprSame Carries in_turn
    asking_is name None v e =
        subst (λ u. Evaluates_to u (yields (static (constant.Bits (bit true))))) (same_ok w v e) (nothing_more r p ws n k (λ W y. Unit {0}) w long _ tt)
    asking_is name (Some c) v e =
        let g = got (carrying.expr call site c (frames.no_variables false) (no_steps w.count)) (λ o. Ok (carrying.needed name w o)) v e in
        let W = V r p ws n k w in
        let first = (expr_same r call calling calls_same site c).carries p W (ran r p ws n k w).choices (ran r p ws n k w).sites (frames.no_variables false) (meaning.arguments []) (no_steps w.count) long
        (begins W false [] [] tt) g.0.0 g.0.1 g.1 in
        subst (λ u. Evaluates_to u (needed name (meaning.expr r calling site c (meaning.arguments [])))) (same_ok (carrying.needed name w g.0) v g.2)
        (by g.0.0 g.0.1 first g.1) where
          m : Evaluation Val
          m = meaning.expr r calling site c (meaning.arguments [])

          y : Val
          y = (m p (ran r p ws n k w).choices (ran r p ws n k w).sites).gives

          Base : Value → Work → Type 0
          Base x u = Same r p (V r p ws n k w) (ran r p ws n k w).choices (ran r p ws n k w).sites (λ W y. Shows W x y) (no_steps w.count) u (m p (ran r p ws n k w).choices (ran r p ws n k w).sites)

          static_by : (i : Constant) (u : Work) → Base (value.Static i) u → carrying.expr call site c (frames.no_variables false) (no_steps w.count) ≡ Ok (value.Static i, u)
              → (is : Bool) → values.is_true (value.Static i) ≡ is
              → Evaluates_to (if is then at_count w (carrying.after_arm w.count u.count) else carrying.with_need name w (value.Static i, u)) (needed name m)
          static_by i u same f true j =
              let on : IsLong r p ws n k (at_count w (carrying.after_arm w.count u.count)) = long in
              let it = nothing_more r p ws n k (λ W y. Unit {0}) (at_count w (carrying.after_arm w.count u.count)) on y tt in
              let told : needed name m p (ran r p ws n k w).choices (ran r p ws n k w).sites ≡ yields y p (ran r p ws n k w).choices (ran r p ws n k w).sites =
              ap (λ (b : Bool). if b then yields y p (ran r p ws n k w).choices (ran r p ws n k w).sites else record (m p (ran r p ws n k w).choices (ran r p ws n k w).sites) { needs = record { name = name; truth = is_true y; taken = p.taken } ∷ (m p (ran r p ws n k w).choices (ran r p ws n k w).sites).needs })
              (ap (λ o. is_static o && is_true o) same.gives ∙ j) in
              subst (λ d. Same r p ws n k (λ W y. Unit {0}) w (at_count w (carrying.after_arm w.count u.count)) d) (sym told) (record { adds = it.adds; long = it.long; gives = tt })
          static_by i u same f false j = need_told name m (value.Static i) u same (ap (λ o. is_static o && is_true o) same.gives ∙ j)

          by : (x : Value) (u : Work) → Base x u → carrying.expr call site c (frames.no_variables false) (no_steps w.count) ≡ Ok (x, u) → Evaluates_to (carrying.needed name w (x, u)) (needed name m)
          by (value.Static i) u same f = static_by i u same f (values.is_true (value.Static i)) refl
          by (value.Open at) u same f = need_told name m (value.Open at) u same (ap (λ o. is_static o && is_true o) same.gives.2)

    -- ---- bodies

    abbrev One : Value → Work → Evaluation Val → Type 0
    One x v m = Same r p ws n k (λ W y. Shows W x y) w v (here r p ws n k w m)

    returned_is : (W : List Bits) (ts : List Local) (us : Variables) → AllHold W ts us → (o : Option Local) → slice_get ts 0 ≡ o → (u : Work) (x : Value) (v : Work) → carrying.returned call site o u ≡ Ok (x, v)
        → (u ≡ v) × Shows W x (meaning.value_in (slice_get us 0))
    returned_is W ts us h None e u x v f = absurd cc
    returned_is W ts us h (Some t) e u x v f =
        let it = held_at W ts us h 0 t e in
        let l = by t.lost f in
        (ap (λ (o : Value × Work). o.1) l.1, subst (λ o. Shows W x (meaning.value_in o)) (sym it.1) (subst (λ z. Shows W z it.0.value) (ap (λ (o : Value × Work). o.0) l.1) (it.2.shows l.0))) where
          by : (b : Bool) → ◌≡◌ {A = Valued} (if b then Err (static_fault site) else (let q : Valued = Ok (t.value, u) in q)) (Ok (x, v)) → (b ≡ false) × ◌≡◌ {A = Value × Work} (t.value, u) (x, v)
          by true q = absurd cc
          by false q = (refl, same_ok (t.value, u) (x, v) q)

    all_do : (ss : List Stmt) → AllDo r (map (carrying.stmt call site) ss) (map (meaning.stmt r calling site) ss)
    all_do [] = tt
    all_do (s ∷ ss) = (stmt_does r call calling calls_same site s, all_do ss)

    giving_is : (b : Body) (is_number : Bool) (xs : List Value) (ys : List Val) → AllShow (V r p ws n k w) xs ys → (x : Value) (v : Work)
        → carrying.giving call site b is_number xs w ≡ Ok (x, v) → One x v (meaning.body_of r calling site b ys)
    unfolding carrying.giving meaning.body_of ExprSame Carries
    giving_is (body.Value c) is_number xs ys s x v e =
        (expr_same r call calling calls_same site c).carries p ws n k (carrying.arguments is_number xs) (meaning.arguments ys) w long (begins (V r p ws n k w) is_number xs ys s) x v e
    giving_is (body.Statements ss) is_number xs ys s x v e =
        let g = got (carrying.run (map (carrying.stmt call site) ss) (carrying.arguments is_number xs) w) _ (x, v) e in
        let m = control.in_turn (map (meaning.stmt r calling site) ss) (meaning.arguments ys) in
        let first = (run_does r _ _ (all_do ss)).does p ws n k (carrying.arguments is_number xs) (meaning.arguments ys) w long (begins (V r p ws n k w) is_number xs ys s) g.0.0 g.0.1 g.1 in
        let it = returned_is (V r p ws n k g.0.1) g.0.0 (here r p ws n k w m).gives first.gives (slice_get g.0.0 0) refl g.0.1 x v g.2 in
        subst (λ u. One x u (evaluation.◌>>=◌ m (λ us. yields (meaning.value_in (slice_get us 0))))) it.0
        (given r p ws n k (λ W us. AllHold W g.0.0 us) (λ W y. Shows W x y) w g.0.1 m (λ us. meaning.value_in (slice_get us 0)) first it.1)

  pub called_is : (p : Standing) (ws : List Bits) (n k : ℕ) (c : Callee) (xs : List Value) (ys : List Val) (w : Work) → IsLong r p ws n k w → AllShow (V r p ws n k w) xs ys
      → (x : Value) (v : Work) → carrying.called call site c xs w ≡ Ok (x, v) → Same r p ws n k (λ W y. Shows W x y) w v (here r p ws n k w (meaning.callee r calling site c ys))
  unfolding carrying.called meaning.callee
  called_is p ws n k c xs ys w long s x v e =
      let g = got (carrying.asking call site c.name c.condition w) _ (x, v) e in
      let first = asking_is p ws n k w long c.name c.condition g.0 g.1 in
      bound r p ws n k (λ W y. Unit {0}) (λ W y. Shows W x y) w g.0 v (meaning.holds r calling site c.name c.condition) (λ y. meaning.body_of r calling site c.body ys) first
      (giving_is p ws n k g.0 first.long c.body c.integer xs ys (all_show_within (V r p ws n k w) (V r p ws n k g.0) first.adds.within xs ys s) x v g.2)

  pub rule_is : (p : Standing) (ws : List Bits) (n k : ℕ) (c : Option Expr) (ss : List Stmt) (w : Work) → IsLong r p ws n k w → (v : Work)
      → (carrying.asking call site None c w >>= λ w. carrying.run (map (carrying.stmt call site) ss) (frames.no_variables false) w >>= λ o. Ok o.1) ≡ Ok v
      → Same r p ws n k (λ W y. Unit {0}) w v (here r p ws n k w (evaluation.◌>>=◌ (meaning.holds r calling site None c) (λ x. control.in_turn (map (meaning.stmt r calling site) ss) (meaning.arguments []))))
  rule_is p ws n k c ss w long v e =
      let g = got (carrying.asking call site None c w) _ v e in
      let first = asking_is p ws n k w long None c g.0 g.1 in
      let l = got (carrying.run (map (carrying.stmt call site) ss) (frames.no_variables false) g.0) (λ o. Ok o.1) v g.2 in
      let m = control.in_turn (map (meaning.stmt r calling site) ss) (meaning.arguments []) in
      let second = (run_does r _ _ (all_do p ws n k g.0 first.long ss)).does p ws n k (frames.no_variables false) (meaning.arguments []) g.0 first.long (begins (V r p ws n k g.0) false [] [] tt) l.0.0 l.0.1 l.1 in
      let last : Same r p ws n k (λ W y. Unit {0}) g.0 v (here r p ws n k g.0 m) =
      subst (λ u. Same r p ws n k (λ W y. Unit {0}) g.0 u (here r p ws n k g.0 m)) (same_ok l.0.1 v l.2) (record { adds = second.adds; long = second.long; gives = tt }) in
      bound r p ws n k (λ W y. Unit {0}) (λ W y. Unit {0}) w g.0 v (meaning.holds r calling site None c) (λ x. m) first last

-- ---- calls in calls, and elements

-- what is called does what it means, however deep
pub calls_same_at : (r : Results) → (d : ℕ) → CallsSame r (carrying.call_at d) (meaning.call_at r d)
unfolding CallsSame carrying.call_at meaning.call_at
calls_same_at r zero p ws n k site c xs ys w long s x v e = absurd cc
calls_same_at r (suc d) p ws n k site c xs ys w long s x v e =
    called_is r (carrying.call_at d) (meaning.call_at r d) (calls_same_at r d) site p ws n k c xs ys w long s x v e

-- a rule's steps, run, do what the rule means: the same calls, and the same needs
pub rule_means : (r : Results) (site : Context) (c : Option Expr) (ss : List Stmt) (w : Work) → carrying.rule site c ss (no_steps (record { weight = 0; slots = 0 })) ≡ Ok w
    → (let h = happening w.steps r [] in let m = meaning.rule r site c ss (record { taken = true; branches = [] }) 0 0 in (h.calls ≡ m.calls) × (h.needs ≡ m.needs))
unfolding carrying.rule meaning.rule happening in_turn carrying.most_calls
rule_means r site c ss w e =
    let it = rule_is r (carrying.call_at 64) (meaning.call_at r 64) (calls_same_at r 64) site (record { taken = true; branches = [] }) [] 0 0 c ss
    (no_steps (record { weight = 0; slots = 0 })) refl w e in
    (it.adds.calls, it.adds.needs)

-- ---- methods of the top: their arguments are the first words

parameters_are : (ps : List Param) (W V ws : List Bits) → W ≡ V ++ ws → length ws ≡ length ps → (xs : List Value) (ys : List Val) → AllShow W xs ys → (c : Count) → c.slots ≡ length V
    → (o : List Value × Count) → carrying.parameters_from xs ps c ≡ Ok o → AllShow W o.0 (ys ++ map varying ws) × (length W ≡ o.1.slots)
unfolding carrying.parameters_from
parameters_are [] W V [] e l xs ys s c at o f =
    let it = same_ok (xs, c) o f in
    subst (λ (q : List Value × Count). AllShow W q.0 (ys ++ []) × (length W ≡ q.1.slots)) it
    (subst (AllShow W xs) (sym (append-nil ys)) s, ap (λ (q : List Bits). length q) (e ∙ append-nil V) ∙ sym at)
parameters_are (p ∷ ps) W V (w ∷ ws) e l xs ys s c at o f =
    let shorter : length ws ≡ length ps = cc in
    let g = got (fresh c 1) (λ next. carrying.parameters_from (xs ++ value.Open (atom.Slot c.slots) ∷ []) ps next) o f in
    let there : slice_get W c.slots ≡ Some w = ap₂ (λ (q : List Bits) i. slice_get q i) e at ∙ got_after V ws w in
    let it = parameters_are ps W (V ++ w ∷ []) ws (e ∙ sym (append_assoc V (w ∷ []) ws)) shorter (xs ++ value.Open (atom.Slot c.slots) ∷ []) (ys ++ varying w ∷ [])
    (all_show_append W xs (value.Open (atom.Slot c.slots) ∷ []) ys (varying w ∷ []) s ((w, there, refl), tt)) g.0
    (fresh_is c 1 g.0 g.1 ∙ ap (λ i. i + 1) at ∙ sym (length-append V (w ∷ []))) o g.2 in
    (subst (AllShow W o.0) (append_assoc ys (varying w ∷ []) (map varying ws)) it.0, it.1)
parameters_are [] W V (w ∷ ws) e l xs ys s c at o f = absurd cc
parameters_are (p ∷ ps) W V [] e l xs ys s c at o f = absurd cc

-- a method's steps, run with words for its arguments, do what it means, and its word is the value that is meant
pub method_means : (r : Results) (site : Context) (m : Method) (weight : ℕ) (x : Value) (v : Work) → carrying.top_method site m weight ≡ Ok (x, v) → (ws : List Bits) → length ws ≡ length m.params
    → (let h = happening v.steps r ws in let d = meaning.top_method r site m (map varying ws) (record { taken = true; branches = [] }) 0 0 in
    (h.calls ≡ d.calls) × (h.needs ≡ d.needs) × (running.word_of h.words (atom_of x) ≡ word_of d.gives))
unfolding carrying.top_method meaning.top_method happening in_turn carrying.most_calls
method_means r site m weight x v e ws long =
    let here' : Standing = record { taken = true; branches = [] } in
    let c : Count = record { weight = weight; slots = 0 } in
    let g = got (carrying.parameters_from [] m.params c) _ (x, v) e in
    let args = parameters_are m.params ws [] ws refl long [] [] tt c refl g.0 g.1 in
    let call = carrying.call_at 64 in
    let calling = meaning.call_at r 64 in
    let same = calls_same_at r 64 in
    let w = no_steps g.0.1 in
    let l = got (carrying.asking call site None m.condition w) _ (x, v) g.2 in
    let first = asking_is r call calling same site here' ws 0 0 w args.1 None m.condition l.0 l.1 in
    let second = giving_is r call calling same site here' ws 0 0 l.0 first.long m.body false g.0.0 (map varying ws)
    (all_show_within ws (V r here' ws 0 0 l.0) first.adds.within g.0.0 (map varying ws) args.0) x v l.2 in
    let it = bound r here' ws 0 0 (λ W y. Unit {0}) (λ W y. Shows W x y) w l.0 v (meaning.holds r calling site None m.condition) (λ y. meaning.body_of r calling site m.body (map varying ws)) first second in
    (it.adds.calls, it.adds.needs, shows_word (ran r here' ws 0 0 v).words x _ it.gives)

-- Calls of methods, of functions and at places give what they mean.
use Rattle.std.proofs.Common.{◌≡◌, ℕ, Bool, true, false, List, map, Option, Some, None, Ok, refl, sym, ap, ◌∙◌, subst}
use Rattle.std.specs.Prelude.{slice_get}
use Rattle.bsv_lemmas.proofs.Choices.{same_ok}
use Rattle.bsv_bits.specs.Words.{Bits}
use Rattle.bsv_types.specs.declared.definitions.Function.{Function}
use Rattle.bsv_types.specs.declared.modules.Method.{Method}
use Rattle.bsv_types.specs.declared.modules.Module.{Module}
use Rattle.bsv_tree.specs.declared.steps.Atom.{Atom}
use Rattle.bsv_tree.specs.declared.steps.MethodPlace.{MethodPlace}
use Rattle.bsv_tree.specs.declared.steps.Step.TheVariants as step
use Rattle.bsv_tree.specs.declared.tree.Built.{Built}
use Rattle.bsv_tree.specs.declared.tree.Made.{Made}
use Rattle.bsv_tree.specs.declared.tree.Made.TheVariants as made
use Rattle.bsv_tree.specs.declared.values.Value.{Value}
use Rattle.bsv_tree.specs.declared.values.Count.{Count}
use Rattle.bsv_tree.specs.declared.values.Local.{Local}
use Rattle.bsv_tree.specs.declared.values.Work.{Work}
use Rattle.bsv_tree.specs.carrying.Values as values
use Rattle.bsv_tree.specs.carrying.Values.{atom_of}
use Rattle.bsv_tree.specs.carrying.Calls as calls
use Rattle.bsv_tree.specs.tree.Contexts.{Context, made_of}
use Rattle.bsv_tree.specs.carrying.Calls.{Caller}
use Rattle.bsv_tree.specs.carrying.Carrying as carrying
use Rattle.bsv_tree.specs.carrying.Carrying.{Carried, Placing}
use Rattle.bsv_tree.specs.meaning.Evaluation.{Results, Standing}
use Rattle.bsv_tree.specs.carrying.Working.{Valued, counted, at_count, with_step, give}
use Rattle.bsv_tree.specs.meaning.Values.{Value as Val, varied, Variables}
use Rattle.bsv_tree.specs.meaning.Evaluation as evaluation
use Rattle.bsv_tree.specs.meaning.Evaluation.{Evaluation, Evaluated, yields, called, in_order}
use Rattle.bsv_tree.specs.meaning.Meaning as meaning
use Rattle.bsv_tree.specs.meaning.Meaning.{Meant, Calling}
use Rattle.bsv_tree.proofs.meaning.Same.{Shows, AllShow, AllHold, ran, IsLong, Same, here, got}
use Rattle.bsv_tree.proofs.meaning.Pieces.{counted_is, bound, given, from_alike, alike_long, alike_ran}
use Rattle.bsv_tree.proofs.meaning.Operating.{V}
use Rattle.bsv_tree.proofs.meaning.Expressions.{AllMatch, Places, CallsSame, all_is}
use Rattle.bsv_tree.proofs.meaning.Called.{opened_shows, primitive_is, read_called, act_called}
use Rattle.bsv_tree.specs.tree.Trees.{methods_of}

module _ (r : Results) (call : Caller) (calling : Calling) (calls_same : CallsSame r call calling) (site : Context) where
  module _ (p : Standing) (ws : List Bits) (n k : ℕ) where
    -- one value shown
    abbrev One : Value → Work → Work → Evaluation Val → Type 0
    One x w v m = Same r p ws n k (λ W y. Shows W x y) w v (here r p ws n k w m)

    -- ---- methods of modules, and functions

    method_at_is : (instance : ℕ) (b : Built) (number : ℕ) (m : Option Method) (levels : Option ℕ) (xs : List Value) (ys : List Val) (w : Work) → IsLong r p ws n k w → AllShow (V r p ws n k w) xs ys
        → (x : Value) (v : Work) → calls.method_at call site instance b number m levels xs w ≡ Ok (x, v) → One x w v (meaning.method r calling site instance b number m levels ys)
    unfolding CallsSame
    method_at_is instance b number (Some m) (Some levels) xs ys w long s x v e = calls_same p ws n k _ _ xs ys w long s x v e
    method_at_is instance b number (Some m) None xs ys w long s x v e = absurd cc
    method_at_is instance b number None levels xs ys w long s x v e = absurd cc

    method_in_is : (instance : ℕ) (b : Built) (number : ℕ) (o : Option Module) (xs : List Value) (ys : List Val) (w : Work) → IsLong r p ws n k w → AllShow (V r p ws n k w) xs ys
        → (x : Value) (v : Work) → calls.method_in call site instance b number o xs w ≡ Ok (x, v)
        → One x w v (meaning.method r calling site instance b number (slice_get (methods_of o) number) (slice_get b.methods number) ys)
    method_in_is instance b number None xs ys w long s x v e = absurd cc
    method_in_is instance b number (Some m) xs ys w long s x v e = method_at_is instance b number (slice_get m.methods number) (slice_get b.methods number) xs ys w long s x v e

    pub function_is : (o : Option Function) (xs : List Value) (ys : List Val) (w : Work) → IsLong r p ws n k w → AllShow (V r p ws n k w) xs ys
        → (x : Value) (v : Work) → calls.function_at call site o xs w ≡ Ok (x, v) → One x w v (meaning.function r calling site o ys)
    unfolding calls.function_at CallsSame
    function_is None xs ys w long s x v e = absurd cc
    function_is (Some f) xs ys w long s x v e = calls_same p ws n k _ _ xs ys w long s x v e

    module _ (cs : List Carried) (ms : List Meant) (match : AllMatch r cs ms) (vs : List Local) (us : Variables) where
      module_is : (w : Work) → IsLong r p ws n k w → AllHold (V r p ws n k w) vs us → (instance : ℕ) (b : Built) (number : ℕ)
          → (x : Value) (v : Work) → carrying.module_call call site instance b number cs vs w ≡ Ok (x, v)
          → (action : Bool) → One x w v (meaning.method_call r calling site action instance (Some (made.Module b)) number (meaning.all ms us))
      unfolding carrying.module_call calls.user_method
      module_is w long hold instance b number x v e action =
          let g = got (carrying.all cs vs w) _ (x, v) e in
          let all = all_is r cs ms match p ws n k vs us w long hold g.0.0 g.0.1 g.1 in
          let h = got (calls.user_method call site instance b number g.0.0 g.0.1) (λ q. Ok (values.opened q.0, q.1)) (x, v) g.2 in
          let ys = (here r p ws n k w (meaning.all ms us)).gives in
          let f : List Val → Evaluation Val = λ zs. meaning.method r calling site instance b number (slice_get (methods_of (slice_get site.modules b.«module»)) number) (slice_get b.methods number) zs in
          let one = method_in_is instance b number (slice_get site.modules b.«module») g.0.0 ys g.0.1 all.long all.gives h.0.0 h.0.1 h.1 in
          let it = bound r p ws n k (λ W zs. AllShow W g.0.0 zs) (λ W y. Shows W (values.opened h.0.0) y) w g.0.1 h.0.1 (meaning.all ms us) (λ zs. evaluation.◌>>=◌ (f zs) (λ y. yields (varied y))) all
          (given r p ws n k (λ W y. Shows W h.0.0 y) (λ W y. Shows W (values.opened h.0.0) y) g.0.1 h.0.1 (f ys) varied one
          (opened_shows (V r p ws n k h.0.1) h.0.0 _ one.gives)) in
          subst (λ (o : Value × Work). One o.0 w o.1 (meaning.method_call r calling site action instance (Some (made.Module b)) number (meaning.all ms us))) (same_ok (values.opened h.0.0, h.0.1) (x, v) h.2) it

      pub value_is : (w : Work) → IsLong r p ws n k w → AllHold (V r p ws n k w) vs us → (instance : ℕ) (o : Option Made) (number : ℕ)
          → (x : Value) (v : Work) → carrying.value_of call site instance o number cs vs w ≡ Ok (x, v)
          → One x w v (meaning.method_call r calling site false instance o number (meaning.all ms us))
      unfolding carrying.value_of
      value_is w long hold instance None number x v e = absurd cc
      value_is w long hold instance (Some (made.Module b)) number x v e = module_is w long hold instance b number x v e false
      value_is w long hold instance (Some (made.Primitive q kd)) number x v e =
          let g = got (carrying.primitive_call call site instance q kd number cs vs w.count) _ (x, v) e in
          let t = primitive_is r call calling calls_same site p ws n k cs ms match vs us w long hold instance q kd number w.count refl g.0 g.1 in
          let place : MethodPlace = record { instance = instance; method = t.0 } in
          let h : give (at_count w g.0.2.count) (step.Read place (map atom_of t.1) g.0.2.steps) ≡ Ok (x, v)
          = subst (λ (o : MethodPlace × List Atom × Work). give (at_count w o.2.count) (step.Read o.0 o.1 o.2.steps) ≡ Ok (x, v)) t.3 g.2 in
          subst (λ o. One x w v (meaning.part_call r calling site false instance o (meaning.all ms us))) (sym t.2)
          (read_called r call calling calls_same site p ws n k cs ms match vs us w long hold place w.count t.1 g.0.2 t.4 x v h)

      pub act_is : (w : Work) → IsLong r p ws n k w → AllHold (V r p ws n k w) vs us → (instance : ℕ) (o : Option Made) (number : ℕ)
          → (x : Value) (v : Work) → carrying.act_of call site instance o number cs vs w ≡ Ok (x, v)
          → One x w v (meaning.method_call r calling site true instance o number (meaning.all ms us))
      unfolding carrying.act_of
      act_is w long hold instance None number x v e = absurd cc
      act_is w long hold instance (Some (made.Module b)) number x v e = module_is w long hold instance b number x v e true
      act_is w long hold instance (Some (made.Primitive q kd)) number x v e =
          let g = got (carrying.primitive_call call site instance q kd number cs vs w.count) _ (x, v) e in
          let t = primitive_is r call calling calls_same site p ws n k cs ms match vs us w long hold instance q kd number w.count refl g.0 g.1 in
          let place : MethodPlace = record { instance = instance; method = t.0 } in
          let h : ◌≡◌ {A = Valued} (Ok (values.truth false, with_step w (step.Act place (map atom_of t.1) g.0.2.steps) g.0.2.count)) (Ok (x, v))
          = subst (λ (o : MethodPlace × List Atom × Work). ◌≡◌ {A = Valued} (Ok (values.truth false, with_step w (step.Act o.0 o.1 o.2.steps) o.2.count)) (Ok (x, v))) t.3 g.2 in
          subst (λ o. One x w v (meaning.part_call r calling site true instance o (meaning.all ms us))) (sym t.2)
          (subst (λ (o : Value × Work). One o.0 w o.1 (called r true place (meaning.all ms us))) (same_ok (values.truth false, with_step w (step.Act place (map atom_of t.1) g.0.2.steps) g.0.2.count) (x, v) h)
          (act_called r call calling calls_same site p ws n k cs ms match vs us w long hold place w.count t.1 g.0.2 t.4))

      -- ---- at a place

      at_place : (c : Placing) (m : Variables → Evaluation ℕ) → Places r c m → (w : Work) → IsLong r p ws n k w → AllHold (V r p ws n k w) vs us
          → (f : ℕ → Evaluation Val) (x : Value) (v : Work) (i : ℕ) (b : Count) → c vs w.count ≡ Ok (i, b)
          → (IsLong r p ws n k (at_count w b) → One x (at_count w b) v (f i)) → One x w v (evaluation.◌>>=◌ (m us) f)
      unfolding Places
      at_place c m same w long hold f x v i b e rest =
          let at = same p (V r p ws n k w) (ran r p ws n k w).choices (ran r p ws n k w).sites vs us w.count long hold i b e in
          let it = rest (long ∙ sym at.0) in
          let one : One x w v (f i) = record { adds = it.adds; long = it.long; gives = it.gives } in
          subst (λ (d : Evaluated ℕ). Same r p ws n k (λ W y. Shows W x y) w v (in_order d (f d.gives p d.choices d.sites))) (sym at.1) one

      pub method_is : (c : Placing) (m : Variables → Evaluation ℕ) → Places r c m → (number : ℕ) (w : Work) → IsLong r p ws n k w → AllHold (V r p ws n k w) vs us
          → (x : Value) (v : Work) → carrying.method call site c number cs vs w ≡ Ok (x, v) → One x w v (meaning.calls r calling site false m number ms us)
      unfolding carrying.method
      method_is c m same number w long hold x v e =
          let one = got (counted w 1) _ (x, v) e in
          let like = counted_is w 1 one.0 one.1 in
          let two = got (c vs one.0.count) _ (x, v) one.2 in
          let hold' = subst (λ W. AllHold W vs us) (ap (λ h. h.words) (sym (alike_ran r p ws n k w one.0 like))) hold in
          from_alike r p ws n k (λ W y. Shows W x y) w one.0 v (meaning.calls r calling site false m number ms us) like
          (at_place c m same one.0 (alike_long r p ws n k w one.0 like long) hold' (λ i. meaning.method_call r calling site false i (made_of (slice_get site.instances i)) number (meaning.all ms us)) x v two.0.0 two.0.1 two.1
          (λ l. value_is (at_count one.0 two.0.1) l hold' two.0.0 (made_of (slice_get site.instances two.0.0)) number x v two.2))

      pub acted_is : (c : Placing) (m : Variables → Evaluation ℕ) → Places r c m → (number : ℕ) (w : Work) → IsLong r p ws n k w → AllHold (V r p ws n k w) vs us
          → (x : Value) (v : Work) → carrying.act call site c number cs vs w ≡ Ok (x, v) → One x w v (meaning.calls r calling site true m number ms us)
      unfolding carrying.act
      acted_is c m same number w long hold x v e =
          let one = got (counted w 1) _ (x, v) e in
          let like = counted_is w 1 one.0 one.1 in
          let two = got (c vs one.0.count) _ (x, v) one.2 in
          let hold' = subst (λ W. AllHold W vs us) (ap (λ h. h.words) (sym (alike_ran r p ws n k w one.0 like))) hold in
          from_alike r p ws n k (λ W y. Shows W x y) w one.0 v (meaning.calls r calling site true m number ms us) like
          (at_place c m same one.0 (alike_long r p ws n k w one.0 like long) hold' (λ i. meaning.method_call r calling site true i (made_of (slice_get site.instances i)) number (meaning.all ms us)) x v two.0.0 two.0.1 two.1
          (λ l. act_is (at_count one.0 two.0.1) l hold' two.0.0 (made_of (slice_get site.instances two.0.0)) number x v two.2))

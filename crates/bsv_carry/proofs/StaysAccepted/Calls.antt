-- Calls give the same over later instances, and from less weight.
use Rattle.std.proofs.Common.{◌≡◌, ℕ, List, [], length, take, Option, Some, None, refl, sym, subst, inl, inr}
use Rattle.std.specs.Prelude.{slice_get}
use Rattle.bsv_types.specs.declared.definitions.Function.{Function}
use Rattle.bsv_types.specs.declared.modules.Module.{Module}
use Rattle.bsv_types.specs.declared.modules.Method.{Method}
use Rattle.bsv_types.specs.declared.operators.Op.{Op}
use Rattle.bsv_types.specs.declared.types.PartTy.{PartTy}
use Rattle.bsv_types.specs.Kinds.{Kind as Sort}
use Rattle.bsv_design.specs.declared.kind.Kind.{Kind}
use Rattle.bsv_tree.specs.declared.tree.Built.{Built}
use Rattle.bsv_tree.specs.declared.tree.Instance.{Instance}
use Rattle.bsv_tree.specs.declared.tree.Made.{Made}
use Rattle.bsv_tree.specs.declared.tree.Made.TheVariants as made
use Rattle.bsv_tree.specs.declared.values.Count.{Count}
use Rattle.bsv_tree.specs.declared.values.Local.{Local}
use Rattle.bsv_tree.specs.declared.values.Value.{Value}
use Rattle.bsv_tree.specs.declared.values.Work.{Work}
use Rattle.bsv_tree.specs.carrying.Calls as calls
use Rattle.bsv_tree.specs.tree.Contexts as contexts
use Rattle.bsv_tree.specs.tree.Contexts.{Context, made_of}
use Rattle.bsv_tree.specs.carrying.Calls.{Caller, static_fault}
use Rattle.bsv_tree.specs.tree.Methods.{part_method}
use Rattle.bsv_tree.specs.carrying.Working.{at_count}
use Rattle.bsv_tree.specs.carrying.Carrying as carrying
use Rattle.bsv_tree.specs.carrying.Carrying.{Carried, Placing, first_type}
use Rattle.bsv_carry.proofs.StaysAccepted.SideBySide.{Into, into_then, into_same, raised, heavier, both_heavier, at_heavier, counted_over, give_over}
use Rattle.bsv_carry.proofs.StaysAccepted.InTurn.{operated_into}
use Rattle.bsv_carry.specs.StaysAccepted.{Stays, Grows, over}
use Rattle.bsv_carry.proofs.StaysAccepted.Instances.{CarryInto, PlacingInto, EachCarried, CallsInto, all_into, first_same, Refused, refused_into, refused_then, refused_first}

-- a method of a module that is not built is not called
not_there : (m : ℕ) (levels : List ℕ) → levels ≡ [] → slice_get levels m ≡ None
not_there m levels e = subst (λ (x : List ℕ). slice_get x m ≡ None) (sym e) refl

module _ (call : Caller) (s : Context) where
  no_method_at : (instance : ℕ) (b : Built) (number : ℕ) (m : Option Method) (levels : Option ℕ) → levels ≡ None → (xs : List Value) (w : Work)
      → Refused (calls.method_at call s instance b number m levels xs w)
  no_method_at instance b number None levels e xs w = tt
  no_method_at instance b number (Some m) None e xs w = tt
  no_method_at instance b number (Some m) (Some n) e xs w = absurd cc

  no_method_in : (instance : ℕ) (b : Built) (number : ℕ) (m : Option Module) → b.methods ≡ [] → (xs : List Value) (w : Work)
      → Refused (calls.method_in call s instance b number m xs w)
  no_method_in instance b number None e xs w = tt
  no_method_in instance b number (Some m) e xs w =
      no_method_at instance b number (slice_get m.methods number) (slice_get b.methods number) (not_there number b.methods e) xs w

  pub unbuilt_refused : (instance : ℕ) (b : Built) (number : ℕ) → b.methods ≡ [] → (cs : List Carried) (vs : List Local) (w : Work)
      → Refused (carrying.module_call call s instance b number cs vs w)
  unfolding carrying.module_call calls.user_method
  unbuilt_refused instance b number e cs vs w =
      refused_then (carrying.all cs vs w) _ (λ r. refused_first (calls.method_in call s instance b number (slice_get s.modules b.«module») r.0 r.1) _
      (no_method_in instance b number (slice_get s.modules b.«module») e r.0 r.1))

module _ (d : ℕ) (is : List Instance) (call next : Caller) (s : Context) (grows : Grows s.instances is) (into : CallsInto d is call next) where
  abbrev t : Context
  t = over s is

  function_into : (o : Option Function) (xs : List Value) (w : Work)
      → Into (at_heavier d) (calls.function_at call s o xs (heavier d w)) (calls.function_at next t o xs w)
  unfolding calls.function_at
  function_into None xs w = record { seen = tt }
  function_into (Some f) xs w = into (record s { bindings = [] }) grows _ xs w

  method_at_into : (instance : ℕ) (b : Built) (number : ℕ) (m : Option Method) (levels : Option ℕ) (xs : List Value) (w : Work)
      → Into (at_heavier d) (calls.method_at call s instance b number m levels xs (heavier d w))
      (calls.method_at next t instance b number m levels xs w)
  method_at_into instance b number None levels xs w = record { seen = tt }
  method_at_into instance b number (Some m) None xs w = record { seen = tt }
  method_at_into instance b number (Some m) (Some levels) xs w =
      into (record s { within = b.«module»; bindings = take levels b.bindings }) grows _ xs w

  method_in_into : (instance : ℕ) (b : Built) (number : ℕ) (m : Option Module) (xs : List Value) (w : Work)
      → Into (at_heavier d) (calls.method_in call s instance b number m xs (heavier d w)) (calls.method_in next t instance b number m xs w)
  method_in_into instance b number None xs w = record { seen = tt }
  method_in_into instance b number (Some m) xs w = method_at_into instance b number (slice_get m.methods number) (slice_get b.methods number) xs w

  primitive_into : (instance : ℕ) (p : PartTy) (k : Kind) (number : ℕ) (cs es : List Carried) → EachCarried d cs es → (vs : List Local) (c : Count)
      → Into (both_heavier d) (carrying.primitive_call call s instance p k number cs vs (raised d c))
      (carrying.primitive_call next t instance p k number es vs c)
  unfolding carrying.primitive_call
  primitive_into instance p k number cs es h vs c =
      into_then _ _ (all_into d cs es h vs _) (λ r. into_then _ _ (into_same (calls.or_fault (static_fault s) (part_method p k number)))
      (λ m. record { seen = refl }))

  module_into : (instance : ℕ) (b : Built) (number : ℕ) (cs es : List Carried) → EachCarried d cs es → (vs : List Local) (w : Work)
      → Into (at_heavier d) (carrying.module_call call s instance b number cs vs (heavier d w))
      (carrying.module_call next t instance b number es vs w)
  unfolding carrying.module_call calls.user_method
  module_into instance b number cs es h vs w =
      into_then _ _ (all_into d cs es h vs w) (λ r. into_then _ _ (method_in_into instance b number (slice_get s.modules b.«module») r.0 r.1)
      (λ x. record { seen = refl }))

  value_into : (instance : ℕ) (x y : Option Made) → Stays x y → (number : ℕ) (cs es : List Carried) → EachCarried d cs es
      → (vs : List Local) (w : Work)
      → Into (at_heavier d) (carrying.value_of call s instance x number cs vs (heavier d w)) (carrying.value_of next t instance y number es vs w)
  unfolding carrying.value_of
  value_into instance None y stays number cs es h vs w = record { seen = tt }
  value_into instance (Some (made.Primitive p k)) y stays number cs es h vs w =
      subst (λ z. Into (at_heavier d) (carrying.value_of call s instance (Some (made.Primitive p k)) number cs vs (heavier d w))
      (carrying.value_of next t instance z number es vs w)) (sym stays)
      (into_then _ _ (primitive_into instance p k number cs es h vs w.count) (λ r. give_over d (at_count w r.2.count) _))
  value_into instance (Some (made.Module b)) y (inl e) number cs es h vs w =
      refused_into _ _ _ (unbuilt_refused call s instance b number e cs vs (heavier d w))
  value_into instance (Some (made.Module b)) y (inr stays) number cs es h vs w =
      subst (λ z. Into (at_heavier d) (carrying.value_of call s instance (Some (made.Module b)) number cs vs (heavier d w))
      (carrying.value_of next t instance z number es vs w)) (sym stays)
      (module_into instance b number cs es h vs w)

  pub method_into : (p q : Placing) → PlacingInto d p q → (number : ℕ) (cs es : List Carried) → EachCarried d cs es
      → CarryInto d (carrying.method call s p number cs) (carrying.method next t q number es)
  unfolding carrying.method
  method_into p q place number cs es h vs w =
      into_then _ _ (counted_over d w 1) (λ w. into_then _ _ (place vs w.count)
      (λ r. value_into r.0 (made_of (slice_get s.instances r.0)) (made_of (slice_get is r.0)) (grows.stays r.0) number cs es h vs (at_count w r.1)))

  action_into : (instance : ℕ) (x y : Option Made) → Stays x y → (number : ℕ) (cs es : List Carried) → EachCarried d cs es
      → (vs : List Local) (w : Work)
      → Into (at_heavier d) (carrying.act_of call s instance x number cs vs (heavier d w)) (carrying.act_of next t instance y number es vs w)
  unfolding carrying.act_of
  action_into instance None y stays number cs es h vs w = record { seen = tt }
  action_into instance (Some (made.Primitive p k)) y stays number cs es h vs w =
      subst (λ z. Into (at_heavier d) (carrying.act_of call s instance (Some (made.Primitive p k)) number cs vs (heavier d w))
      (carrying.act_of next t instance z number es vs w)) (sym stays)
      (into_then _ _ (primitive_into instance p k number cs es h vs w.count) (λ r. record { seen = refl }))
  action_into instance (Some (made.Module b)) y (inl e) number cs es h vs w =
      refused_into _ _ _ (unbuilt_refused call s instance b number e cs vs (heavier d w))
  action_into instance (Some (made.Module b)) y (inr stays) number cs es h vs w =
      subst (λ z. Into (at_heavier d) (carrying.act_of call s instance (Some (made.Module b)) number cs vs (heavier d w))
      (carrying.act_of next t instance z number es vs w)) (sym stays)
      (module_into instance b number cs es h vs w)

  pub act_into : (p q : Placing) → PlacingInto d p q → (number : ℕ) (cs es : List Carried) → EachCarried d cs es
      → CarryInto d (carrying.act call s p number cs) (carrying.act next t q number es)
  unfolding carrying.act
  act_into p q place number cs es h vs w =
      into_then _ _ (counted_over d w 1) (λ w. into_then _ _ (place vs w.count)
      (λ r. action_into r.0 (made_of (slice_get s.instances r.0)) (made_of (slice_get is r.0)) (grows.stays r.0) number cs es h vs (at_count w r.1)))

  pub apply_into : (k : Sort) (os : List Op) (cs es : List Carried) → EachCarried d cs es
      → CarryInto d (carrying.apply call s k os cs) (carrying.apply next t k os es)
  unfolding carrying.apply
  apply_into k os cs es h vs w =
      into_then _ _ (counted_over d w (length os))
      (λ w. subst (λ first. Into (at_heavier d) (carrying.operated s.shapes (static_fault s) k (first_type k cs) os cs vs (heavier d w))
      (carrying.operated s.shapes (static_fault s) k first os es vs w))
      (first_same d cs es h k) (operated_into d s.shapes (static_fault s) k (first_type k cs) os cs es h vs w))

  pub call_into : (number : ℕ) (cs es : List Carried) → EachCarried d cs es
      → CarryInto d (carrying.function call s number cs) (carrying.function next t number es)
  unfolding carrying.function
  call_into number cs es h vs w =
      into_then _ _ (counted_over d w 1) (λ w. into_then _ _ (all_into d cs es h vs w)
      (λ r. into_then _ _ (function_into (slice_get s.functions number) r.0 r.1) (λ x. record { seen = refl })))

  pub variable_into : (level : ℕ) (vs : List Local) → Into (λ r. r) (calls.variable s level vs) (calls.variable t level vs)
  unfolding calls.variable
  variable_into level vs =
      into_same (calls.in_module (static_fault s) (slice_get s.bindings level)
      (calls.in_body (static_fault s) (slice_get vs (contexts.place_in_body s level))))

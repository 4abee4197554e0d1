-- Making an instance keeps all rules accepted, where the bodies of modules do.
use Rattle.std.proofs.Common.{◌≡◌, ◌∙◌, ℕ, List, [], ◌∷◌, ◌++◌, length, refl, sym, subst, append_assoc}
use Rattle.std.specs.Prelude.{nat_lt, slice_get}
use Rattle.bsv_types.specs.declared.makers.Argument.{Argument}
use Rattle.bsv_types.specs.declared.makers.Argument.TheVariants as argument
use Rattle.bsv_types.specs.declared.makers.GivenMaker.{GivenMaker}
use Rattle.bsv_types.specs.declared.makers.Make.{Make}
use Rattle.bsv_types.specs.declared.makers.Maker.{Maker}
use Rattle.bsv_types.specs.declared.makers.Maker.TheVariants as maker
use Rattle.bsv_types.specs.declared.types.PartTy.{PartTy}
use Rattle.bsv_types.specs.Methods.{made_part}
use Rattle.bsv_design.specs.declared.kind.Kind.{Kind}
use Rattle.bsv_tree.specs.declared.statics.Binding.{Binding}
use Rattle.bsv_tree.specs.declared.statics.Static.{Static}
use Rattle.bsv_tree.specs.declared.tree.Instance.{Instance}
use Rattle.bsv_tree.specs.declared.tree.Made.TheVariants as made
use Rattle.bsv_elab.specs.declared.state.Done.{Done}
use Rattle.bsv_elab.specs.declared.state.Grown.{Grown}
use Rattle.bsv_elab.specs.declared.state.State.{State}
use Rattle.bsv_elab.specs.MadeKinds.{kind_of}
use Rattle.bsv_elab.specs.Names.{new_name}
use Rattle.bsv_elab.specs.Statics.{Here, static_fault, countable, put_at}
use Rattle.bsv_elab.specs.Making.{Bodies, argument_in, placed_in, arguments_from, arguments, named_instance, instance, next_number, with_instance, with_primitive, depth_of, at_least_one, start_of, within_limits, primitive, is_around, unbuilt, parameters, params_of, inner, behind, child, made_by, make}
use Rattle.bsv_elab.proofs.accepted.Gives.{Gives, gives_then, anything, gives_if}
use Rattle.bsv_carry.specs.StaysAccepted.{Grows}
use Rattle.bsv_carry.proofs.StaysAccepted.{grows_after, grows_replaced}
use Rattle.bsv_elab.proofs.accepted.Rules.{Extends, put_is, EachAccepted, TreeAccepted, each_later, tree_later, tree_after, tree_replaced}
use Rattle.bsv_elab.proofs.accepted.States.{Went, went_then, went_still, after_with, constant_went}

-- a body that was carried out: of the module of its place, after the instances that were there
pub record BodyWent (here : Here) (g : Grown) (d : Done) : Type 0 where
  pub of : d.built.«module» ≡ here.within
  pub extends : Extends g.instances d.grown.instances
  pub tree : TreeAccepted here g.instances g.instances → TreeAccepted here d.grown.instances d.grown.instances
  pub rules : TreeAccepted here g.instances g.instances → EachAccepted here d.grown.instances d.built.«module» d.built.rules

abbrev pub BodiesGo : Bodies → Type 0
BodiesGo bodies = (here : Here) (bs : List Binding) (g : Grown) → Gives (BodyWent here g) (bodies here bs g)

-- ---- what comes before, the module that is built, and what is inside it

pub record Placed (here : Here) (xs : List Instance) (number : ℕ) (path : List ℕ) (d : Done) : Type 0 where
  pub more : List Instance
  pub is : put_at number (instance path (made.Module d.built)) d.grown.instances ≡ xs ++ instance path (made.Module d.built) ∷ more
  pub tree : TreeAccepted here xs xs
      → TreeAccepted here (xs ++ instance path (made.Module d.built) ∷ more) (xs ++ instance path (made.Module d.built) ∷ more)
  pub later : Grows d.grown.instances (xs ++ instance path (made.Module d.built) ∷ more)

module _ (here : Here) where
  pub placed : (k : ℕ) (path : List ℕ) (g : Grown) (number : ℕ) (d : Done) → number ≡ length g.instances
      → BodyWent (inner here k path) (with_instance (instance path (unbuilt k)) g) d
      → Placed here g.instances number path d
  placed k path g number d count body =
      let u = instance path (unbuilt k) in
      let i = instance path (made.Module d.built) in
      let more = body.extends.more in
      let first : List Instance = g.instances ++ u ∷ more in
      let last : List Instance = g.instances ++ i ∷ more in
      let is : d.grown.instances ≡ g.instances ++ u ∷ more = body.extends.is ∙ append_assoc g.instances (u ∷ []) more in
      let grows : Grows first last = grows_replaced g.instances more path (record { «module» = k; bindings = []; rules = []; methods = [] }) i refl in
      record {
        more = more;
        is = put_is g.instances more d.grown.instances u i number count is;
        tree = λ h.
            let start : TreeAccepted here (g.instances ++ u ∷ []) (g.instances ++ u ∷ []) =
            tree_after here (g.instances ++ u ∷ []) g.instances u (tree_later here g.instances (g.instances ++ u ∷ [])
            (grows_after g.instances (u ∷ [])) g.instances h) tt in
            let tree : TreeAccepted here first first = subst (λ l. TreeAccepted here l l) is (body.tree start) in
            let rules : EachAccepted here first d.built.«module» d.built.rules = subst (λ l. EachAccepted here l d.built.«module» d.built.rules) is
            (body.rules start) in
            tree_replaced here last g.instances u i more (tree_later here first last grows first tree)
            (each_later here first last grows d.built.«module» d.built.rules rules);
        later = subst (λ l. Grows l last) (sym is) grows;
      }

  -- ---- arguments

  argument_went : (a : Argument) (s : State) → Gives (λ r. Went here s r.1) (argument_in here a s)
  argument_went (argument.Value e) s = gives_then _ (constant_went here e s) (λ r went. record { gives = went })
  argument_went (argument.Instance p) s = gives_then _ (anything (placed_in here p s)) (λ r u. record { gives = went_still here s _ refl refl })

  arguments_from_went : (more : List Argument) (xs : List Static) (s : State) → Gives (λ r. Went here s r.1) (arguments_from here xs more s)
  unfolding arguments_from
  arguments_from_went [] xs s = record { gives = went_still here s s refl refl }
  arguments_from_went (a ∷ more) xs s =
      gives_then _ (argument_went a s) (λ r went. after_with here s r.1 (arguments_from here (xs ++ r.0 ∷ []) more r.1) went
      (arguments_from_went more (xs ++ r.0 ∷ []) r.1))

  arguments_went : (more : List Argument) (s : State) → Gives (λ r. Went here s r.1) (arguments here more s)
  unfolding arguments
  arguments_went more s = arguments_from_went more [] s

  -- ---- primitives

  named_went : (name : List ℕ) (s : State) → Gives (λ n. Went here s n.1) (named_instance here name s)
  unfolding named_instance
  named_went name s = gives_then _ (anything (new_name here.path name s.scope.instances)) (λ n u. record { gives = went_still here s _ refl refl })

  abbrev primitive_made : List ℕ → PartTy → Kind → State → State
  primitive_made path p k s = record { grown = with_primitive (instance path (made.Primitive p k)) s.grown; scope = s.scope }

  primitive_stands : (path : List ℕ) (p : PartTy) (k : Kind) (s : State) → Went here s (primitive_made path p k s)
  primitive_stands path p k s =
      let xs = s.grown.instances in
      let i = instance path (made.Primitive p k) in
      let grows : Grows xs (xs ++ i ∷ []) = grows_after xs (i ∷ []) in
      record {
        extends = record { more = i ∷ []; is = refl };
        kept = λ h. record {
          tree = tree_after here (xs ++ i ∷ []) xs i (tree_later here xs (xs ++ i ∷ []) grows xs h.tree) tt;
          rules = each_later here xs (xs ++ i ∷ []) grows here.within s.scope.rules h.rules;
        };
      }

  primitive_went : (bits : ℕ) (name : List ℕ) (g : GivenMaker) (xs : List Static) (s : State)
      → Gives (λ r. Went here s r.1) (primitive here bits name g xs s)
  unfolding primitive
  primitive_went bits name g xs s =
      gives_then _ (anything (at_least_one (static_fault here) (depth_of g xs))) (λ depth u. gives_then _ (named_went name s)
      (λ n went. gives_then _ (anything (within_limits depth n.1.grown))
      (λ number u. record { gives = went_then here s n.1 _ went (primitive_stands n.0 (made_part g) (kind_of g bits depth (start_of xs)) n.1) })))

  -- ---- modules

  next_number_is : (g : Grown) → Gives (λ n. n ≡ length g.instances) (next_number g)
  unfolding countable
  next_number_is g = gives_if (nat_lt (length g.instances) 4294967296) (record { gives = refl }) (record { gives = tt })

  module_stands : (k : ℕ) (path : List ℕ) (s : State) (number : ℕ) (d : Done) → number ≡ length s.grown.instances
      → BodyWent (inner here k path) (with_instance (instance path (unbuilt k)) s.grown) d
      → Went here s (behind number (instance path (made.Module d.built)) d.grown d.marks s.scope)
  module_stands k path s number d count body =
      let p = placed k path s.grown number d count body in
      let xs = s.grown.instances in
      let i = instance path (made.Module d.built) in
      record {
        extends = record { more = i ∷ p.more; is = p.is };
        kept = λ h. record {
          tree = subst (λ l. TreeAccepted here l l) (sym p.is) (p.tree h.tree);
          rules =
              subst (λ l. EachAccepted here l here.within s.scope.rules) (sym p.is)
              (each_later here xs (xs ++ i ∷ p.more) (grows_after xs (i ∷ p.more)) here.within s.scope.rules h.rules);
        };
      }

  module _ (bodies : Bodies) (go : BodiesGo bodies) where
    child_went : (name : List ℕ) (k : ℕ) (xs : List Static) (s : State) → Gives (λ r. Went here s r.1) (child bodies here name k xs s)
    unfolding child
    child_went name k xs s =
        gives_if (is_around k here.around) (record { gives = tt })
        (gives_then _ (named_went name s) (λ n went. gives_then _ (next_number_is n.1.grown) (λ number is.
        gives_then _ (go (inner here k n.0) (parameters (params_of (slice_get here.modules k)) xs)
        (with_instance (instance n.0 (unbuilt k)) n.1.grown))
        (λ d body. record { gives = went_then here s n.1 _ went (module_stands k n.0 n.1 number d is body) }))))

    made_went : (bits : ℕ) (name : List ℕ) (m : Maker) (xs : List Static) (s : State)
        → Gives (λ r. Went here s r.1) (made_by bodies here bits name m xs s)
    made_went bits name (maker.Given g) xs s = primitive_went bits name g xs s
    made_went bits name (maker.Module k) xs s = child_went name k xs s

    pub make_went : (bits : ℕ) (name : List ℕ) (m : Make) (s : State) → Gives (λ r. Went here s r.1) (make bodies here bits name m s)
    unfolding make
    make_went bits name m s =
        gives_then _ (arguments_went m.arguments s) (λ r went. after_with here s r.1 (made_by bodies here bits name m.maker r.0 r.1) went
        (made_went bits name m.maker r.0 r.1))

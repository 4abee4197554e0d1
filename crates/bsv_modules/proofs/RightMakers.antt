-- What makers are handed is in order.
use Rattle.std.proofs.Common.{◌≡◌, ◌∙◌, Bool, true, false, cond, List, [], ◌∷◌, Option, Some, None, Ok, refl, sym, ap, subst}
use Rattle.std.specs.Prelude.{slice_get}
use Rattle.std.proofs.lemmas.Option.{same_Some}
use Rattle.std.proofs.lemmas.Bool.{and_from}
use Rattle.bsv_ast.specs.declared.text.Span.{Span}
use Rattle.bsv_ast.specs.declared.expressions.Expr.{Expr as Written}
use Rattle.bsv_ast.specs.declared.modules.Make.{Make as WrittenMake}
use Rattle.bsv_types.specs.declared.makers.Argument.{Argument}
use Rattle.bsv_types.specs.declared.makers.Argument.TheVariants as argument
use Rattle.bsv_types.specs.declared.makers.Make.{Make}
use Rattle.bsv_types.specs.declared.makers.Maker.TheVariants as maker
use Rattle.bsv_types.specs.declared.makers.GivenMaker.{GivenMaker}
use Rattle.bsv_types.specs.declared.modules.Rule.{Rule}
use Rattle.bsv_types.specs.declared.modules.Method.{Method}
use Rattle.bsv_types.specs.Kinds.{Kind, part, bare, is_interface, same_kind, same_part}
use Rattle.bsv_types.specs.Shapes.{is_value, is_instance}
use Rattle.bsv_types.specs.Operators.{◌>>=◌, is_kind}
use Rattle.bsv_types.specs.Methods.{Signature, made_part, maker_params}
use Rattle.bsv_types.specs.Expressions.{World, Frame, has_type, place_typing}
use Rattle.bsv_types.specs.Modules as rules
use Rattle.bsv_types.proofs.Same.{same_is, same_self}
use Rattle.bsv_typing.specs.Places.{Instance, Front, instance, the_instance, place_of}
use Rattle.bsv_typing.specs.Typing.{typed, term, instance_named}
use Rattle.bsv_statements.specs.Bodies.{at, Scopes, with_scopes}
use Rattle.bsv_statements.specs.Laws.{ScopesFit, frame_of}
use Rattle.bsv_typing.proofs.Bound.{taken, tested_step}
use Rattle.bsv_typing.proofs.Typings.{value_typed}
use Rattle.bsv_typing.proofs.RightPlaces.{GoodInstance, GoodFront}
use Rattle.bsv_typing.proofs.RightExpressions.{expressions_good, fronts_good}
use Rattle.bsv_statements.proofs.RightScopes.{scopes_fit}
use Rattle.bsv_statements.proofs.RightCalls.{has_true, at_is}
use Rattle.bsv_types.specs.Makers.{given_maker}
use Rattle.bsv_modules.specs.Modules.{Header, ModuleContext, if_instance_of, handed, all_handed, made_by, given_params, module_params, make_in, make_at}
use Rattle.bsv_modules.proofs.RightSites.{FitsSite}

-- what a statement of a typed module may name, where these are its rules and its methods
abbrev pub typed_site : World → List rules.Header → List Signature → List Rule → List Method → rules.ModuleContext
typed_site w headers wanted rs ms = record { world = w; headers = headers; rules = rs; methods = ms; wanted = wanted }

module _ (w : World) (frame : Frame) where
  instance_is : (f : Front) (i : Instance) → GoodFront w frame f → the_instance f ≡ Some i → GoodInstance w frame i
  instance_is (instance j) i good e = subst (GoodInstance w frame) (same_Some j i e) good
  instance_is _ i good e = absurd cc

  -- an instance in order, handed where one of its interface is wanted
  instance_handed : (i : Instance) (k : Kind) (x : Argument) → GoodInstance w frame i → if_instance_of k i ≡ Some x → rules.argument_right w frame x k ≡ true
  instance_handed i k x good e =
      let h = tested_step (same_kind i.kind k) (Some (argument.Instance (place_of i))) x e in
      let is = same_is i.kind k h.0 in
      let there = subst (λ j. is_instance w.shapes j ≡ true) is good.1 in
      let stands = ap (λ o. is_kind o k) (good.0 ∙ ap Some is) ∙ same_self k in
      subst (λ y. rules.argument_right w frame y k ≡ true) (same_Some (argument.Instance (place_of i)) x h.1)
      (and_from (is_instance w.shapes k) (is_kind (place_typing w (place_of i) frame) k) there stands)

module _ (site : ModuleContext) (w : World) (headers : List rules.Header) (fits : FitsSite site w headers) (ss : Scopes) (fit : ScopesFit w.shapes ss) where
  named_right : (e : Written) (i : Instance) → instance_named (term (with_scopes site.env ss) e) ≡ Some i → GoodInstance w (frame_of ss) i
  named_right e i is =
      let f = taken (term (with_scopes site.env ss) e).front the_instance i is in
      instance_is w (frame_of ss) f.0 i (fronts_good (with_scopes site.env ss) w (frame_of ss) (scopes_fit site.env w ss fits.world fit) e f.0 f.1) f.2

  handed_right : (e : Written) (k : Kind) (x : Argument) → handed site ss e k ≡ Some x → rules.argument_right w (frame_of ss) x k ≡ true
  handed_right e k x is = by (is_interface k) is where
    by : (b : Bool) → cond b (instance_named (term (with_scopes site.env ss) e) >>= if_instance_of k) (typed (with_scopes site.env ss) e (Some k) >>= λ m. Some (argument.Value m.expr)) ≡ Some x → rules.argument_right w (frame_of ss) x k ≡ true
    by true at =
        let i = taken (instance_named (term (with_scopes site.env ss) e)) (if_instance_of k) x at in
        instance_handed w (frame_of ss) i.0 k x (named_right e i.0 i.1) i.2
    by false at =
        let m = taken (typed (with_scopes site.env ss) e (Some k)) _ x at in
        let h = expressions_good (with_scopes site.env ss) w (frame_of ss) (scopes_fit site.env w ss fits.world fit) e (Some k) m.0 m.1 in
        let typing_is = h.0 ∙ ap Some h.1 in
        subst (λ y. rules.argument_right w (frame_of ss) y k ≡ true) (same_Some (argument.Value m.0.expr) x m.2)
        (and_from (is_value w.shapes k) (has_type w (frame_of ss) m.0.expr k) (value_typed w (frame_of ss) m.0.expr k typing_is) (has_true w (frame_of ss) m.0.expr k typing_is))

  all_right : (es : List Written) (ks : List Kind) (xs : List Argument) → all_handed site ss es ks ≡ Some xs → rules.arguments_right w (frame_of ss) xs ks ≡ true
  all_right [] [] xs e = subst (λ ys. rules.arguments_right w (frame_of ss) ys [] ≡ true) (same_Some [] xs e) refl
  all_right (x ∷ es) (k ∷ ks) xs e =
      let a = taken (handed site ss x k) _ xs e in
      let more = taken (all_handed site ss es ks) _ xs a.2 in
      subst (λ ys. rules.arguments_right w (frame_of ss) ys (k ∷ ks) ≡ true) (same_Some (a.0 ∷ more.0) xs more.2)
      (and_from (rules.argument_right w (frame_of ss) a.0 k) (rules.arguments_right w (frame_of ss) more.0 ks) (handed_right x k a.0 a.1) (all_right es ks more.0 more.1))
  all_right [] (k ∷ ks) xs e = absurd cc
  all_right (x ∷ es) [] xs e = absurd cc

  given_right : (g : GivenMaker) (k : Kind) (es : List Written) (xs : List Argument) → (given_params g k >>= all_handed site ss es) ≡ Some xs → rules.given_makes w (frame_of ss) g xs k ≡ true
  given_right g (part p t) es xs e =
      let ps = taken (given_params g (part p t)) (all_handed site ss es) xs e in
      let h = tested_step (same_part p (made_part g)) (Some (maker_params g t)) ps.0 ps.1 in
      let handed_is = subst (λ qs. rules.arguments_right w (frame_of ss) xs qs ≡ true) (sym (same_Some (maker_params g t) ps.0 h.1)) (all_right es ps.0 xs ps.2) in
      and_from (same_part p (made_part g)) (rules.arguments_right w (frame_of ss) xs (maker_params g t)) h.0 handed_is
  given_right g (bare p) es xs e =
      let ps = taken (given_params g (bare p)) (all_handed site ss es) xs e in
      let h = tested_step (same_part p (made_part g)) (Some []) ps.0 ps.1 in
      let handed_is = subst (λ qs. rules.arguments_right w (frame_of ss) xs qs ≡ true) (sym (same_Some [] ps.0 h.1)) (all_right es ps.0 xs ps.2) in
      and_from (same_part p (made_part g)) (rules.arguments_right w (frame_of ss) xs []) h.0 handed_is
  given_right g _ es xs e = absurd cc

  module_right : (h : Header) (k : Kind) (es : List Written) (xs : List Argument) → slice_get headers h.number ≡ Some (h.params, h.interface) → (module_params h k >>= all_handed site ss es) ≡ Some xs →
      rules.module_makes w (frame_of ss) (slice_get headers h.number) xs k ≡ true
  module_right h k es xs there e =
      let ps = taken (module_params h k) (all_handed site ss es) xs e in
      let t = tested_step (same_kind h.interface k) (Some h.params) ps.0 ps.1 in
      let handed_is = subst (λ qs. rules.arguments_right w (frame_of ss) xs qs ≡ true) (sym (same_Some h.params ps.0 t.1)) (all_right es ps.0 xs ps.2) in
      ap (λ o. rules.module_makes w (frame_of ss) o xs k) there ∙ and_from (same_kind h.interface k) (rules.arguments_right w (frame_of ss) xs h.params) t.0 handed_is

  module _ (wanted : List Signature) (rs : List Rule) (ms : List Method) where
    abbrev Makes : Make → Kind → Type 0
    Makes x k = rules.makes (typed_site w headers wanted rs ms) (frame_of ss) x k ≡ true

    made_right : (g : Option GivenMaker) (o : Option Header) (es : List Written) (k : Kind) (x : Make) → ((h : Header) → o ≡ Some h → slice_get headers h.number ≡ Some (h.params, h.interface)) → make_in site ss g o es k ≡ Some x → Makes x k
    made_right (Some g) o es k x there e =
        let xs = taken (given_params g k >>= all_handed site ss es) _ x e in
        subst (λ y. Makes y k) (same_Some (made_by (maker.Given g) xs.0) x xs.2) (given_right g k es xs.0 xs.1)
    made_right None None es k x there e = absurd cc
    made_right None (Some h) es k x there e =
        let xs = taken (module_params h k >>= all_handed site ss es) _ x e in
        subst (λ y. Makes y k) (same_Some (made_by (maker.Module h.number) xs.0) x xs.2) (module_right h k es xs.0 (there h refl) xs.1)

    pub make_right : (s : Span) (m : WrittenMake) (k : Kind) (x : Make) → make_at site ss s m k ≡ Ok x → Makes x k
    make_right s m k x e = made_right (given_maker m.maker.name) (site.modules m.maker.name) m.arguments k x (fits.modules m.maker.name) (at_is s _ x e)

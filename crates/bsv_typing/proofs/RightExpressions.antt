-- What an expression is typed as is in order.
use Rattle.std.proofs.Common.{◌≡◌, ◌∙◌, ℕ, ◌+◌, true, List, [], ◌∷◌, map, length, Option, Some, None, sym, ap₂, subst}
use Rattle.std.specs.Prelude.{◌==◌}
use Rattle.std.specs.List.{list_all}
use Rattle.std.proofs.lemmas.List.{length-map}
use Rattle.std.proofs.lemmas.Bool.{and_parts}
use Rattle.std.proofs.lemmas.Option.{same_Some}
use Rattle.bsv_ast.specs.declared.expressions.Expr.{Expr, roll-Expr, ind-Expr, map-Expr, fold-roll-Expr}
use Rattle.bsv_ast.specs.declared.expressions.Expr.TheOpen.{Expr-F, Suffix-F}
use Rattle.bsv_ast.specs.declared.expressions.Suffix.{Suffix, roll-Suffix, fold-Suffix, map-Suffix, fold-roll-Suffix}
use Rattle.bsv_ast.specs.declared.expressions.FieldValue.{FieldValue, roll-FieldValue, fold-FieldValue, fold-roll-FieldValue}
use Rattle.bsv_ast.specs.declared.expressions.Level.{Level}
use Rattle.bsv_ast.specs.declared.expressions.Operator.{Operator}
use Rattle.bsv_types.specs.Operators.{◌>>=◌}
use Rattle.bsv_types.specs.Shapes.{Shapes}
use Rattle.bsv_types.specs.Programs.{each_at, enum_right, struct_right, shapes_right}
use Rattle.bsv_types.specs.Expressions.{World, Frame}
use Rattle.bsv_typing.specs.Operands.{Check, Operand, only_if}
use Rattle.bsv_context.specs.Env.{Env}
use Rattle.bsv_typing.specs.Forms as forms
use Rattle.bsv_typing.specs.Places.{Front, whole, name_front, member_after, index_after, slice_after}
use Rattle.bsv_typing.specs.Typing.{Term, Suffixed, form_of, operator, is_chain, is_choice, chain_operand, choice_operand, literal_case, label_case, call_case, postfix_front, all_after, front_case, front_term, operands, step, suffix_step, field_step, term, typed}
use Rattle.bsv_typing.specs.Laws.{FitsWorld, Fits, Right}
use Rattle.bsv_typing.proofs.Bound.{taken, checked, has_kind}
use Rattle.bsv_typing.proofs.RightOperands.{strictly, TypedAs, Good, EachGood, ordered_good}
use Rattle.bsv_typing.proofs.RightForms.{concat_right, choice_right}
use Rattle.bsv_typing.proofs.RightChains.{chain_right, unary_right}
use Rattle.bsv_typing.proofs.RightStructs.{FieldsGood, construct_right}
use Rattle.bsv_typing.proofs.RightGiven.{literal_right, LabelRight, label_right, valid_right, invalid_right, FunctionRight, call_right}
use Rattle.bsv_typing.proofs.RightPlaces.{GoodFront, front_ordered}
use Rattle.bsv_typing.proofs.RightSuffixes.{VariableRight, name_good, member_formed, method_formed, index_formed, slice_formed, SuffixGood, EachSuffix, after_good, front_formed}

module _ (w : World) (frame : Frame) where
  abbrev pub TermGood : Term → Type 0
  TermGood t = Good w frame t.operand × ((f : Front) → t.front ≡ Some f → GoodFront w frame f)

  -- what a check gives, with nothing in front that a suffix could see
  alone_good : (check : Check) → TypedAs w frame check → TypedAs w frame check × ((f : Front) → (check None >>= λ m. Some (whole m)) ≡ Some f → GoodFront w frame f)
  alone_good check good = (good, λ f e. let t = taken (check None) _ f e in subst (GoodFront w frame) (same_Some (whole t.0) f t.2) (good None t.0 t.1).0)

  front_good : (o : Option Front) → ((f : Front) → o ≡ Some f → GoodFront w frame f) → TermGood (front_term (strictly w) o)
  front_good o good = (ordered_good w frame (front_case (strictly w) o) (front_formed w frame o good), good)

  postfix_good : (t : Term) (xs : List Suffixed) → TermGood t → EachSuffix w frame xs → TermGood (front_term (strictly w) (postfix_front t xs))
  postfix_good t xs good each = front_good (postfix_front t xs) (λ f e. let h = taken t.front (all_after xs) f e in after_good w frame xs h.0 f each (good.1 h.0 h.1) h.2)

  chain_good : (l : Level) (signs : List Operator) (ts : List Term) → EachGood w frame (operands ts) → Good w frame (only_if (is_chain l signs (length ts)) (chain_operand (strictly w) l (map operator signs) (operands ts)))
  chain_good l signs ts good = subst (λ n. Good w frame (only_if (is_chain l signs n) (chain_operand (strictly w) l (map operator signs) (operands ts)))) (length-map ts (λ t. t.operand)) (chain_right w frame l signs (operands ts) good)

  choice_good : (cs xs : List Term) → EachGood w frame (operands cs) → EachGood w frame (operands xs) → Good w frame (only_if (is_choice (length cs) (length xs)) (choice_operand (strictly w) (operands cs) (operands xs)))
  unfolding is_choice choice_operand
  choice_good cs xs good_cs good want m e =
      let check = (form_of (strictly w) (operands xs) (forms.choice_case (operands cs) (operands xs))).check in
      let h = checked (length xs == length cs + 1) check want m e in
      let many : length (operands xs) ≡ length xs = length-map xs (λ t. t.operand) in
      let tests : length (operands cs) ≡ length cs = length-map cs (λ t. t.operand) in
      ordered_good w frame (forms.choice_case (operands cs) (operands xs)) (choice_right w frame (operands cs) (operands xs) good_cs good (ap₂ (λ i j. i == j + 1) many tests ∙ h.0)) want m h.1

  module _ (env : Env) (structs : each_at (struct_right w.shapes) 0 w.shapes.structs ≡ true) (variables : (name : List ℕ) → VariableRight w frame (env.variable name)) (functions : (name : List ℕ) → FunctionRight w frame (env.function name)) (labels : (name : List ℕ) → LabelRight w frame (env.label name)) where
    abbrev strict : Env
    strict = record env { limits = strictly w }

    abbrev suffix : Suffix → Suffixed
    suffix = fold-Suffix Term Suffixed (List ℕ × Operand) (step strict) (suffix_step strict) field_step

    abbrev field : FieldValue → List ℕ × Operand
    field = fold-FieldValue Term Suffixed (List ℕ × Operand) (step strict) (suffix_step strict) field_step

    abbrev Child : Type 0
    Child = (e : Expr) × TermGood (term strict e)

    abbrev SuffixChild : Type 0
    SuffixChild = (x : Suffix) × SuffixGood w frame (suffix x)

    abbrev FieldChild : Type 0
    FieldChild = (f : FieldValue) × Good w frame (field f).1

    each : (xs : List Child) → EachGood w frame (operands (map (term strict) (map (λ x. x.0) xs)))
    each [] = tt
    each (x ∷ xs) = (x.1.0, each xs)

    each_suffix : (xs : List SuffixChild) → EachSuffix w frame (map suffix (map (λ (x : SuffixChild). x.0) xs))
    each_suffix [] = tt
    each_suffix (x ∷ xs) = (x.1, each_suffix xs)

    each_field : (xs : List FieldChild) → FieldsGood w frame (map field (map (λ (x : FieldChild). x.0) xs))
    each_field [] = tt
    each_field (x ∷ xs) = (x.1, each_field xs)

    -- one layer, whose parts are good
    layer : (y : Expr-F Child SuffixChild FieldChild) →
        TermGood (step strict (map-Expr Expr Suffix FieldValue Term Suffixed (List ℕ × Operand) (term strict) suffix field (map-Expr Child SuffixChild FieldChild Expr Suffix FieldValue (λ x. x.0) (λ x. x.0) (λ x. x.0) y)))
    layer (Expr-F.Number s number) = alone_good _ (ordered_good w frame (literal_case (strictly w) number) (literal_right w frame number))
    layer (Expr-F.Label s name) = alone_good _ (ordered_good w frame (label_case (env.label name.name) name.name) (label_right w frame (env.label name.name) name.name (labels name.name)))
    layer (Expr-F.Name s name) = front_good (name_front (env.variable name.name) (env.function name.name)) (λ f e. name_good w frame (env.variable name.name) (env.function name.name) f (variables name.name) (functions name.name) e)
    layer (Expr-F.Call s name xs) = alone_good _ (ordered_good w frame (call_case (strictly w) (env.function name.name) name.name _) (call_right w frame (env.function name.name) name.name _ (functions name.name) (each xs)))
    layer (Expr-F.Group s x) = alone_good (term strict x.0).operand.check x.1.0
    layer (Expr-F.Concat s xs) = alone_good _ (ordered_good w frame (forms.concat_case _) (concat_right w frame _ (each xs)))
    layer (Expr-F.Struct s name given) = alone_good _ (ordered_good w frame (forms.construct_case (strictly w) (env.structure name.name) _) (construct_right w frame (env.structure name.name) _ structs (each_field given)))
    layer (Expr-F.Postfix s x suffixes) = postfix_good (term strict x.0) _ x.1 (each_suffix suffixes)
    layer (Expr-F.Unary s o x) = alone_good _ (unary_right w frame o (term strict x.0).operand x.1.0)
    layer (Expr-F.Valid s x) = alone_good _ (ordered_good w frame (forms.valid_case (strictly w) (term strict x.0).operand) (valid_right w frame (term strict x.0).operand x.1.0))
    layer (Expr-F.Invalid s) = alone_good _ (ordered_good w frame forms.invalid_case (invalid_right w frame))
    layer (Expr-F.Chain s l signs xs) = alone_good _ (chain_good l signs _ (each xs))
    layer (Expr-F.Choice s cs xs) = alone_good _ (choice_good _ _ (each cs) (each xs))

    suffix_layer : (y : Suffix-F Child SuffixChild FieldChild) →
        SuffixGood w frame (suffix_step strict (map-Suffix Expr Suffix FieldValue Term Suffixed (List ℕ × Operand) (term strict) suffix field (map-Suffix Child SuffixChild FieldChild Expr Suffix FieldValue (λ x. x.0) (λ x. x.0) (λ x. x.0) y)))
    suffix_layer (Suffix-F.Member s name) f g good e = front_ordered w frame (member_after (strictly w) name.name f) g (λ h is. member_formed w frame name.name f h good is) e
    suffix_layer (Suffix-F.Method s name xs) f g good e = front_ordered w frame _ g (λ h is. method_formed w frame name.name _ f h (each xs) good is) e
    suffix_layer (Suffix-F.Index s x) f g good e = front_ordered w frame (index_after (strictly w) (term strict x.0).operand f) g (λ h is. index_formed w frame (term strict x.0).operand f h x.1.0 good is) e
    suffix_layer (Suffix-F.Slice s x y) f g good e =
        let high = (term strict x.0).operand.literal in
        let low = (term strict y.0).operand.literal in
        front_ordered w frame (slice_after (strictly w) high low f) g (λ h is. slice_formed w frame high low f h good is) e

    term_good : (e : Expr) → TermGood (term strict e)
    term_good = ind-Expr (λ e. TermGood (term strict e)) (λ x. SuffixGood w frame (suffix x)) (λ f. Good w frame (field f).1)
        (λ x y is. subst (λ z. TermGood (term strict (roll-Expr z))) is (subst TermGood (sym (fold-roll-Expr Term Suffixed (List ℕ × Operand) (step strict) (suffix_step strict) field_step _)) (layer y)))
        (λ x y is. subst (λ z. SuffixGood w frame (suffix (roll-Suffix z))) is (subst (SuffixGood w frame) (sym (fold-roll-Suffix Term Suffixed (List ℕ × Operand) (step strict) (suffix_step strict) field_step _)) (suffix_layer y)))
        (λ x y is. subst (λ z. Good w frame (field (roll-FieldValue z)).1) is (subst (λ (q : List ℕ × Operand). Good w frame q.1) (sym (fold-roll-FieldValue Term Suffixed (List ℕ × Operand) (step strict) (suffix_step strict) field_step _)) y.value.1.0))

structs_right : (s : Shapes) → shapes_right s ≡ true → each_at (struct_right s) 0 s.structs ≡ true
structs_right s right = (and_parts (list_all enum_right s.enums) (each_at (struct_right s) 0 s.structs) (and_parts _ _ (and_parts _ _ right).0).0).1

pub ground_is : (env : Env) (w : World) → FitsWorld env w → env.limits ≡ strictly w
ground_is env w fits = ap₂ (λ a b. record { strict = a; shapes = b }) fits.strict fits.shapes

pub terms_good : (env : Env) (w : World) (frame : Frame) → Fits env w frame → (e : Expr) → TermGood w frame (term env e)
terms_good env w frame fits e =
    let variables : (name : List ℕ) → VariableRight w frame (env.variable name) = λ name v at. (fits.variables name v at, fits.slots v.0 v.1 (fits.variables name v at)) in
    let functions : (name : List ℕ) → FunctionRight w frame (env.function name) = λ name f at. (fits.world.functions name f at, fits.world.results name f at) in
    let good = term_good w frame env (structs_right w.shapes fits.world.right) variables functions fits.world.labels e in
    subst (λ g. TermGood w frame (term (record env { limits = g }) e)) (sym (ground_is env w fits.world)) good

pub expressions_good : (env : Env) (w : World) (frame : Frame) → Fits env w frame → (e : Expr) → Good w frame (term env e).operand
expressions_good env w frame fits e = (terms_good env w frame fits e).0

-- what comes before a suffix is in order
pub fronts_good : (env : Env) (w : World) (frame : Frame) → Fits env w frame → (e : Expr) (f : Front) → (term env e).front ≡ Some f → GoodFront w frame f
fronts_good env w frame fits e = (terms_good env w frame fits e).1

pub expressions_right : (env : Env) (w : World) (frame : Frame) → Fits env w frame → (e : Expr) → Right w frame (typed env e)
expressions_right env w frame fits e want m is =
    let h = expressions_good env w frame fits e want m is in
    (h.0, has_kind want m.kind h.1)

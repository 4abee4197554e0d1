-- What is known of the inputs of the net: the ports of the methods, each with its width.
use Rattle.std.proofs.Common.{◌≡◌, ◌∙◌, ℕ, zero, suc, ◌+◌, Bool, true, false, cond, not, List, [], ◌∷◌, ◌++◌, map, Option, Some, None, refl, ap, subst, arith, append_assoc}
use Rattle.std.specs.Prelude.{slice_get, option_map, if◌then◌else◌}
use Rattle.std.proofs.lemmas.Option.{same_Some}
use Rattle.bsv_lemmas.proofs.Places.{mapped_at}
use Rattle.bsv_bits.specs.Words.{bit}
use Rattle.bsv_design.specs.declared.element.Element.{Element}
use Rattle.bsv_design.specs.declared.element.Port.{Port}
use Rattle.bsv_design.specs.declared.element.Role.{Role}
use Rattle.bsv_design.specs.design.Roles.{is_rule, is_value}
use Rattle.bsv_design.specs.scheme.Schemes.{outline}
use Rattle.bsv_design.specs.scheme.States.{methods_in}
use Rattle.bsv_clock.specs.Shows.{input_widths_of}
use Rattle.bsv_vtext.specs.declared.tree.Atom.TheVariants as atom
use Rattle.bsv_vtext.specs.declared.tree.VMethod.{VMethod}
use Rattle.bsv_vtext.specs.declared.tree.VWire.{VWire}
use Rattle.bsv_vtext.specs.Signals.{VModuleData, arguments_of}
use Rattle.bsv_vtext.specs.Widths.{enable_width}
use Rattle.bsv_vgen.specs.declared.known.Known.{Known}
use Rattle.bsv_vgen.specs.Interfaces.{argument_of}
use Rattle.bsv_vgen.specs.Lines.{known_at}
use Rattle.bsv_vgen.specs.Modules.{argument_inputs, asked_input, method_inputs, inputs_from}
use Rattle.bsv_vgen.proofs.Knowing.{IsKnownRight, constant_right}

module _ (m : VModuleData) where
  -- each of these has its width, wherever it stands
  abbrev pub Inner : List Known → List ℕ → Type 0
  Inner [] [] = Unit {0}
  Inner (x ∷ xs) (u ∷ us) = ((n : ℕ) → IsKnownRight m n x u) × Inner xs us
  Inner _ _ = ⊥

  inner_both : (xs ys : List Known) (us vs : List ℕ) → Inner xs us → Inner ys vs → Inner (xs ++ ys) (us ++ vs)
  inner_both [] ys [] vs h k = k
  inner_both [] ys (u ∷ us) vs h k = absurd h
  inner_both (x ∷ xs) ys [] vs h k = absurd h
  inner_both (x ∷ xs) ys (u ∷ us) vs h k = (h.0, inner_both xs ys us vs h.1 k)

  pub inner_at : (xs : List Known) (us : List ℕ) → Inner xs us → (n k u : ℕ) → slice_get us k ≡ Some u → IsKnownRight m n (known_at xs k) u
  inner_at [] [] h n k u e = absurd (let i : ⊥ = cc in i)
  inner_at [] (v ∷ us) h n k u e = absurd h
  inner_at (x ∷ xs) [] h n k u e = absurd h
  inner_at (x ∷ xs) (v ∷ us) h n zero u e = subst (IsKnownRight m n x) (same_Some v u e) (h.0 n)
  inner_at (x ∷ xs) (v ∷ us) h n (suc k) u e = inner_at xs us h.1 n k u e

  -- ---- the ports of a method

  -- the method of this number has these arguments from this one on
  abbrev HasArguments : ℕ → ℕ → List Port → Type 0
  HasArguments i k ps = (j : ℕ) (p : Port) → slice_get ps j ≡ Some p
      → (v : VMethod) × (slice_get m.methods i ≡ Some v) × (slice_get v.args (k + j) ≡ Some (argument_of p))

  argument_right : (i k n : ℕ) (p : Port) (v : VMethod) → slice_get m.methods i ≡ Some v → slice_get v.args k ≡ Some (argument_of p)
      → IsKnownRight m n (record { atom = atom.Argument i k; width = p.width }) p.width
  argument_right i k n p v there at = record {
    width = refl;
    stands = (
      record {
        has_width =
            ap (λ (o : Option VMethod). option_map (λ (a : VWire). a.width) (slice_get (arguments_of o) k)) there
            ∙ ap (option_map (λ (a : VWire). a.width)) at;
        word = tt;
      },
      tt,
    );
  }

  arguments_inner : (i k : ℕ) (ps : List Port) → HasArguments i k ps → Inner (argument_inputs i k ps) (map (λ (p : Port). p.width) ps)
  arguments_inner i k [] has = tt
  arguments_inner i k (p ∷ ps) has =
      let first = has 0 p refl in
      let place : k + 0 ≡ k = omega arith in (
        λ n. argument_right i k n p first.0 first.1 (subst (λ (x : ℕ). slice_get first.0.args x ≡ Some (argument_of p)) place first.2),
        arguments_inner i (k + 1) ps (λ j q there.
            let next = has (suc j) q there in
            let later : k + suc j ≡ k + 1 + j = omega arith in
            (next.0, next.1, subst (λ (x : ℕ). slice_get next.0.args x ≡ Some (argument_of q)) later next.2)),
      )

  asked_right : (i n : ℕ) (r : Role) (v : VMethod) → slice_get m.methods i ≡ Some v → v.action ≡ not (is_value r) → IsKnownRight m n (asked_input i r) 1
  asked_right i n r v there acts = of (is_value r) acts
    where
      of : (b : Bool) → v.action ≡ not b → IsKnownRight m n (record { atom = cond b (atom.Constant (bit true)) (atom.Enable i); width = 1 }) 1
      of true e = constant_right m n (bit true) 1 (record { word = record { some = omega arith; most = omega arith; below = omega arith }; same_width = refl })
      of false e = record {
        width = refl;
        stands = (record { has_width = ap enable_width there ∙ ap (λ (b : Bool). if b then Some 1 else None) e; word = tt }, tt);
      }

  -- the module has the ports of these methods from this number on
  abbrev pub HasPorts : ℕ → List Element → Type 0
  HasPorts i es =
      (j : ℕ) (e : Element) → slice_get es j ≡ Some e
      → (v : VMethod) × (slice_get m.methods (i + j) ≡ Some v) × (v.args ≡ map argument_of e.arguments) × (v.action ≡ not (is_value e.role))

  method_inner : (i : ℕ) (e : Element) (v : VMethod) → slice_get m.methods i ≡ Some v → v.args ≡ map argument_of e.arguments → v.action ≡ not (is_value e.role)
      → Inner (method_inputs i e) (map (λ (p : Port). p.width) e.arguments ++ 1 ∷ [])
  method_inner i e v there args acts =
      inner_both (argument_inputs i 0 e.arguments) (asked_input i e.role ∷ []) (map (λ (p : Port). p.width) e.arguments) (1 ∷ [])
      (arguments_inner i 0 e.arguments (λ j p at.
      let place : 0 + j ≡ j = omega arith in
      (v, there, ap (slice_get v.args) place ∙ ap (λ (vs : List VWire). slice_get vs j) args ∙ mapped_at argument_of e.arguments j p at)))
      ((λ n. asked_right i n e.role v there acts), tt)

  abbrev widths_after : Bool → Element → List Element → List ℕ
  widths_after b e es = cond b [] (map (λ (p : Port). p.width) e.arguments ++ 1 ∷ input_widths_of (map outline es))

  pub inputs_inner : (i : ℕ) (es : List Element) → HasPorts i (methods_in es) → Inner (inputs_from i (methods_in es)) (input_widths_of (map outline es))
  inputs_inner i [] has = tt
  inputs_inner i (e ∷ es) has = of (is_rule e.role) has (inputs_inner (i + 1) es)
    where
      of : (b : Bool) → HasPorts i (cond b [] (e ∷ methods_in es))
          → (HasPorts (i + 1) (methods_in es) → Inner (inputs_from (i + 1) (methods_in es)) (input_widths_of (map outline es)))
          → Inner (inputs_from i (cond b [] (e ∷ methods_in es))) (widths_after b e es)
      of true h behind = tt
      of false h behind =
          let first = h 0 e refl in
          let place : i + 0 ≡ i = omega arith in
          let own = method_inner i e first.0 (subst (λ (x : ℕ). slice_get m.methods x ≡ Some first.0) place first.1) first.2 first.3 in
          let rest = behind (λ j d there.
          let next = h (suc j) d there in
          let later : i + suc j ≡ i + 1 + j = omega arith in
          (next.0, subst (λ (x : ℕ). slice_get m.methods x ≡ Some next.0) later next.1, next.2, next.3)) in
          subst (Inner (method_inputs i e ++ inputs_from (i + 1) (methods_in es))) (append_assoc (map (λ (p : Port). p.width) e.arguments) (1 ∷ []) (input_widths_of (map outline es)))
          (inner_both (method_inputs i e) (inputs_from (i + 1) (methods_in es)) (map (λ (p : Port). p.width) e.arguments ++ 1 ∷ []) (input_widths_of (map outline es)) own rest)

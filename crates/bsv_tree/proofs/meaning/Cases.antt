-- A `case` does what it means, whatever its subject is.
use Rattle.std.proofs.Common.{◌≡◌, ℕ, Bool, false, List, [], ◌∷◌, map, Ok, refl, sym, ap, subst}
use Rattle.std.specs.Prelude.{if◌then◌else◌}
use Rattle.bsv_bits.specs.Words.{Bits}
use Rattle.bsv_types.specs.declared.expressions.Expr.{Expr}
use Rattle.bsv_tree.specs.declared.values.Value.{Value}
use Rattle.bsv_tree.specs.declared.values.Value.TheVariants as value
use Rattle.bsv_tree.specs.declared.values.Local.{Local}
use Rattle.bsv_tree.specs.declared.values.Work.{Work}
use Rattle.bsv_tree.specs.carrying.Calls.{Caller}
use Rattle.bsv_tree.specs.carrying.Carrying as carrying
use Rattle.bsv_tree.specs.carrying.Carrying.{Carry, Acts}
use Rattle.bsv_tree.specs.carrying.Values as values
use Rattle.bsv_tree.specs.meaning.Control as control
use Rattle.bsv_tree.specs.meaning.Control.{Means}
use Rattle.bsv_tree.specs.meaning.Evaluation.{Results, Standing, Evaluation}
use Rattle.bsv_tree.specs.meaning.Meaning as meaning
use Rattle.bsv_tree.specs.meaning.Meaning.{Calling}
use Rattle.bsv_tree.specs.meaning.Values.{Value as Val, is_static, Variables}
use Rattle.bsv_tree.specs.tree.Contexts.{Context}
use Rattle.bsv_tree.proofs.meaning.Expressions.{Carries, CallsSame}
use Rattle.bsv_tree.proofs.meaning.Labels.{AllCarry}
use Rattle.bsv_tree.proofs.meaning.OpenCases.{open_case_is, open_stays}
use Rattle.bsv_tree.proofs.meaning.Operating.{V}
use Rattle.bsv_tree.proofs.meaning.Pieces.{bound}
use Rattle.bsv_tree.proofs.meaning.Same.{Shows, AllHold, IsLong, Same, here, got, all_hold_within}
use Rattle.bsv_tree.proofs.meaning.StaticCases.{Labels, AllLabels, static_case_is, static_stays}
use Rattle.bsv_tree.proofs.meaning.Stays.{Stays}
use Rattle.bsv_tree.proofs.meaning.Tails.{Exactly}
use Rattle.bsv_tree.proofs.meaning.Trees.{ExprSame, expr_same}

module _ (r : Results) (call : Caller) (calling : Calling) (site : Context) where
  module _ (cs : List carrying.Labelled) (ms : List meaning.Labelled) (h : AllLabels r cs ms) (last : Acts) (mlast : control.Acts) (l : Exactly r last mlast) where
    -- what is carried out after the subject, and what is told after it
    abbrev carried_on : List Local → Value → Acts
    carried_on vs x us w = if values.is_static x then carrying.static_case call site x false cs last vs w else carrying.open_case call site x w [] cs last vs w.count

    abbrev told_on : Variables → Val → Evaluation Variables
    told_on us y = if is_static y then meaning.first_same r calling site y ms mlast us else control.choose (map (meaning.as_branch r calling site y) ms) mlast us

    -- the same variables are there
    stays : (vs : List Local) (x : Value) (w : Work) (ts : List Local) (v : Work) → carried_on vs x vs w ≡ Ok (ts, v) → Stays vs ts
    stays vs (value.Static i) w ts v e = static_stays r call calling site (value.Static i) cs ms h last mlast l false vs w ts v e
    stays vs (value.Open a) w ts v e = open_stays r call calling site (value.Open a) vs w cs [] last w.count ts v e

    cases_stay : (subject : Carry) (vs : List Local) (w : Work) (ts : List Local) (v : Work) → carrying.cases call site subject cs last vs w ≡ Ok (ts, v) → Stays vs ts
    unfolding carrying.cases
    cases_stay subject vs w ts v e =
        let g = got (subject vs w) (λ o. carried_on vs o.0 vs o.1) (ts, v) e in
        stays vs g.0.0 g.0.1 ts v g.2

    -- a `case` does what it means, where its subject and its labels carry what they mean, and its arms do
    pub case_does : (subject : Carry) (means : Means) → Carries r subject means → Exactly r (carrying.cases call site subject cs last) (meaning.cases r calling site means ms mlast)
    unfolding carrying.cases Carries
    case_does subject means s = record {
      does = record {
        kept = λ vs w ts v e. (cases_stay subject vs w ts v e).0;
        does = λ p ws n k vs us w long hold ts v e.
            let g = got (subject vs w) (λ o. carried_on vs o.0 vs o.1) (ts, v) e in
            let first = s p ws n k vs us w long hold g.0.0 g.0.1 g.1 in
            let hold' = all_hold_within (V r p ws n k w) (V r p ws n k g.0.1) first.adds.within vs us hold in
            bound r p ws n k (λ W y. Shows W g.0.0 y) (λ W xs. AllHold W ts xs) w g.0.1 v (means us) (told_on us) first
            (after p ws n k vs us g.0.0 g.0.1 first.long hold' (here r p ws n k w (means us)).gives first.gives ts v g.2);
      };
      exact = λ vs w ts v e. (cases_stay subject vs w ts v e).1;
    } where
      after : (p : Standing) (ws : List Bits) (n k : ℕ) (vs : List Local) (us : Variables) (x : Value) (w : Work) → IsLong r p ws n k w → AllHold (V r p ws n k w) vs us
          → (y : Val) → Shows (V r p ws n k w) x y → (ts : List Local) (v : Work) → carried_on vs x vs w ≡ Ok (ts, v)
          → Same r p ws n k (λ W xs. AllHold W ts xs) w v (here r p ws n k w (told_on us y))
      after p ws n k vs us (value.Static i) w long hold y s ts v e =
          subst (λ (b : Bool). Same r p ws n k (λ W xs. AllHold W ts xs) w v (here r p ws n k w (if b then meaning.first_same r calling site y ms mlast us else control.choose (map (meaning.as_branch r calling site y) ms) mlast us))) (sym (ap is_static s))
          (static_case_is r call calling site p ws n k i y s cs ms h last mlast l vs us w long hold ts v e)
      after p ws n k vs us (value.Open a) w long hold y s ts v e =
          subst (λ (b : Bool). Same r p ws n k (λ W xs. AllHold W ts xs) w v (here r p ws n k w (if b then meaning.first_same r calling site y ms mlast us else control.choose (map (meaning.as_branch r calling site y) ms) mlast us))) (sym (ap is_static s.2))
          (open_case_is r call calling site (value.Open a) y vs us p ws n k w long hold s cs ms h last mlast l ts v e)

  module _ (calls_same : CallsSame r call calling) where
    -- the labels of an arm are expressions, which carry what they mean
    pub labels_carry : (xs : List Expr) → AllCarry r (map (carrying.expr call site) xs) (map (meaning.expression r calling site) xs)
    unfolding ExprSame
    labels_carry [] = tt
    labels_carry (x ∷ xs) = ((expr_same r call calling calls_same site x).carries, labels_carry xs)

    -- an arm of a `case` in its text
    pub labels_same : (xs : List Expr) (a : Acts) (m : control.Acts) → Exactly r (carrying.inside a) (λ us. control.scoped m [] us)
        → Labels r (record { labels = map (carrying.expr call site) xs; arm = a }) (record { labels = meaning.all (map (meaning.expression r calling site) xs); arm = m })
    labels_same xs a m h = record { meant = map (meaning.expression r calling site) xs; carries = labels_carry xs; labels = refl; arm = h }

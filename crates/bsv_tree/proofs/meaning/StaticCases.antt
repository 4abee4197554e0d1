-- A `case` of a static subject does what it means: the arm of the first equal label.
use Rattle.std.proofs.Common.{◌≡◌, ℕ, Bool, true, false, not, ◌&&◌, List, [], ◌∷◌, Result, Ok, refl, sym, ap, ◌∙◌, subst}
use Rattle.std.specs.Prelude.{if◌then◌else◌}
use Rattle.bsv_lemmas.proofs.Choices.{same_ok}
use Rattle.bsv_fail.specs.Given.{◌>>=◌}
use Rattle.bsv_bits.specs.Words.{Bits}
use Rattle.bsv_tree.specs.declared.values.Value.{Value}
use Rattle.bsv_tree.specs.declared.values.Value.TheVariants as value
use Rattle.bsv_tree.specs.declared.values.Constant.{Constant}
use Rattle.bsv_tree.specs.declared.values.Count.{Count}
use Rattle.bsv_tree.specs.declared.values.Fault.{Fault}
use Rattle.bsv_tree.specs.declared.values.Local.{Local}
use Rattle.bsv_tree.specs.declared.values.Work.{Work}
use Rattle.bsv_tree.specs.carrying.Calls.{Caller}
use Rattle.bsv_tree.specs.carrying.Carrying as carrying
use Rattle.bsv_tree.specs.carrying.Carrying.{Acts}
use Rattle.bsv_tree.specs.carrying.Running.{in_turn}
use Rattle.bsv_tree.specs.carrying.Values as values
use Rattle.bsv_tree.specs.carrying.Working.{at_count}
use Rattle.bsv_tree.specs.meaning.Control as control
use Rattle.bsv_tree.specs.meaning.Evaluation.{Results, Standing, Evaluation}
use Rattle.bsv_tree.specs.meaning.Meaning as meaning
use Rattle.bsv_tree.specs.meaning.Meaning.{Meant, Calling}
use Rattle.bsv_tree.specs.meaning.Values.{Value as Val, static, is_true, Variables}
use Rattle.bsv_tree.specs.tree.Contexts.{Context}
use Rattle.bsv_tree.proofs.meaning.Tails.{Exactly}
use Rattle.bsv_tree.proofs.meaning.Labels.{AllCarry, labels_is, labels_static}
use Rattle.bsv_tree.proofs.meaning.Operating.{V}
use Rattle.bsv_tree.proofs.meaning.Pieces.{Alike, to_alike}
use Rattle.bsv_tree.proofs.meaning.Same.{Shows, AllHold, IsLong, ran, Same, here, got}
use Rattle.bsv_tree.proofs.meaning.Statements.{kept_all, kept_then}
use Rattle.bsv_tree.proofs.meaning.Stays.{Stays}

module _ (r : Results) where
  -- an arm of a `case`: its labels carry what they mean, and its statements do what they mean
  pub record Labels (c : carrying.Labelled) (m : meaning.Labelled) : Type 0 where
    pub meant : List Meant
    pub carries : AllCarry r c.labels meant
    pub labels : m.labels ≡ meaning.all meant
    pub arm : Exactly r (carrying.inside c.arm) (λ us. control.scoped m.arm [] us)

  abbrev pub AllLabels : List carrying.Labelled → List meaning.Labelled → Type 0
  AllLabels [] [] = Unit {0}
  AllLabels (c ∷ cs) (m ∷ ms) = Labels c m × AllLabels cs ms
  AllLabels _ _ = ⊥

-- what is static and True is so in its meaning
static_true : (W : List Bits) (x : Value) (y : Val) → values.is_static x ≡ true → Shows W x y → is_true y ≡ values.is_true x
static_true W (value.Static i) y h e = ap is_true e
static_true W (value.Open a) y h e = absurd cc

-- whether an arm is taken, and the variables and the work after it
abbrev Answer : Type 0
Answer = Result (Bool × List Local × Work) Fault

abbrev after_it : List Local × Work → Answer
after_it o = Ok (true, o.0, o.1)

abbrev passed_by : Bool → List Local → Work → Answer
passed_by taken vs w = Ok (taken, vs, w)

module _ (r : Results) (call : Caller) (calling : Calling) (site : Context) where
  -- after the arm that is taken all is as it was
  after_taken : (x : Value) (cs : List carrying.Labelled) (last : Acts) (vs : List Local) (w : Work) (ts : List Local) (v : Work)
      → carrying.static_case call site x true cs last vs w ≡ Ok (ts, v) → (ts ≡ vs) × Alike w v
  unfolding carrying.static_case carrying.static_arm
  after_taken x [] last vs w ts v e =
      let it = same_ok (vs, w) (ts, v) e in (
        ap (λ (o : List Local × Work). o.0) (sym it),
        record { steps = ap (λ (o : List Local × Work). o.1.steps) (sym it); slots = ap (λ (o : List Local × Work). o.1.count.slots) (sym it) },
      )
  after_taken x (c ∷ cs) last vs w ts v e =
      let g = got (carrying.static_arm call site x true c vs w) (λ o. carrying.static_case call site x o.0 cs last o.1 o.2) (ts, v) e in
      let t = got (carrying.labels call site x c.labels vs w.count) _ g.0 g.1 in
      let u = at_count w (carrying.after_arm w.count t.0.1.count) in
      let it = same_ok (true, vs, u) g.0 t.2 in
      let others = after_taken x cs last vs u ts v (subst (λ (o : Bool × List Local × Work). carrying.static_case call site x o.0 cs last o.1 o.2 ≡ Ok (ts, v)) (sym it) g.2) in
      (others.0, record { steps = others.1.steps; slots = others.1.slots })

  -- the same variables are there
  pub static_stays : (x : Value) (cs : List carrying.Labelled) (ms : List meaning.Labelled) → AllLabels r cs ms → (last : Acts) (mlast : control.Acts) → Exactly r last mlast
      → (taken : Bool) (vs : List Local) (w : Work) (ts : List Local) (v : Work) → carrying.static_case call site x taken cs last vs w ≡ Ok (ts, v) → Stays vs ts
  unfolding carrying.static_case carrying.static_arm
  static_stays x [] [] h last mlast l true vs w ts v e = subst (λ (o : List Local × Work). Stays vs o.0) (same_ok (vs, w) (ts, v) e) (kept_all vs, refl)
  static_stays x [] [] h last mlast l false vs w ts v e = (l.does.kept vs w ts v e, l.exact vs w ts v e)
  static_stays x (c ∷ cs) (m ∷ ms) h last mlast l taken vs w ts v e =
      let g = got (carrying.static_arm call site x taken c vs w) (λ o. carrying.static_case call site x o.0 cs last o.1 o.2) (ts, v) e in
      let t = got (carrying.labels call site x c.labels vs w.count) _ g.0 g.1 in
      let others = static_stays x cs ms h.1 last mlast l g.0.0 g.0.1 g.0.2 ts v g.2 in
      let one = by (not taken && values.is_true t.0.0) (at_count w (carrying.after_arm w.count t.0.1.count)) g.0 t.2 in
      (kept_then vs g.0.1 ts one.0 others.0, others.1 ∙ one.1) where
        by : (b : Bool) (u : Work) (o : Bool × List Local × Work) → (if b then (carrying.inside c.arm vs u >>= after_it) else passed_by taken vs u) ≡ Ok o → Stays vs o.1
        by true u o q =
            let a = got (carrying.inside c.arm vs u) after_it o q in
            subst (λ (o : Bool × List Local × Work). Stays vs o.1) (same_ok (true, a.0.0, a.0.1) o a.2)
            (h.0.arm.does.kept vs u a.0.0 a.0.1 a.1, h.0.arm.exact vs u a.0.0 a.0.1 a.1)
        by false u o q = subst (λ (o : Bool × List Local × Work). Stays vs o.1) (same_ok (taken, vs, u) o q) (kept_all vs, refl)
  static_stays x [] (m ∷ ms) h last mlast l taken vs w ts v e = absurd h
  static_stays x (c ∷ cs) [] h last mlast l taken vs w ts v e = absurd h

  module _ (p : Standing) (ws : List Bits) (n k : ℕ) where
    abbrev Vars : List Local → Work → Work → Evaluation Variables → Type 0
    Vars ts w v m = Same r p ws n k (λ W xs. AllHold W ts xs) w v (here r p ws n k w m)

    -- the arm of the first equal label, and what is carried out after it
    pub static_case_is : (i : Constant) (y : Val) → y ≡ static i → (cs : List carrying.Labelled) (ms : List meaning.Labelled) → AllLabels r cs ms
        → (last : Acts) (mlast : control.Acts) → Exactly r last mlast → (vs : List Local) (us : Variables) (w : Work) → IsLong r p ws n k w → AllHold (V r p ws n k w) vs us
        → (ts : List Local) (v : Work) → carrying.static_case call site (value.Static i) false cs last vs w ≡ Ok (ts, v) → Vars ts w v (meaning.first_same r calling site y ms mlast us)
    unfolding carrying.static_case carrying.static_arm meaning.first_same in_turn
    static_case_is i y s [] [] h last mlast l vs us w long hold ts v e = l.does.does p ws n k vs us w long hold ts v e
    static_case_is i y s (c ∷ cs) (m ∷ ms) h last mlast l vs us w long hold ts v e =
        let x = value.Static i in
        let W = V r p ws n k w in
        let N = (ran r p ws n k w).choices in
        let K = (ran r p ws n k w).sites in
        let g = got (carrying.static_arm call site x false c vs w) (λ o. carrying.static_case call site x o.0 cs last o.1 o.2) (ts, v) e in
        let t = got (carrying.labels call site x c.labels vs w.count) _ g.0 g.1 in
        let first = labels_is r call site p W N K x y c.labels h.0.meant h.0.carries vs us w.count long hold s t.0.0 t.0.1 t.1 in
        let told : is_true (meaning.one_of site.shapes y (m.labels us p N K).gives) ≡ values.is_true t.0.0 =
        ap (λ (a : Variables → Evaluation (List Val)). is_true (meaning.one_of site.shapes y (a us p N K).gives)) h.0.labels
        ∙ static_true (V r p W N K t.0.1) t.0.0 _ (labels_static r call site i c.labels vs w.count t.0.0 t.0.1 t.1) first.gives in
        subst (λ b. Vars ts w v (F b)) (sym told)
        (by (values.is_true t.0.0) (carrying.after_arm w.count t.0.1.count) refl g.0 t.2 g.2 (λ u j o q. static_case_is i y s cs ms h.1 last mlast l vs us u j o ts v q)) where
          F : Bool → Evaluation Variables
          F b = if b then control.scoped m.arm [] us else meaning.first_same r calling site y ms mlast us

          by : (b : Bool) (d : Count) → d.slots ≡ w.count.slots → (o : Bool × List Local × Work) → (if not false && b then (carrying.inside c.arm vs (at_count w d) >>= after_it) else passed_by false vs (at_count w d)) ≡ Ok o
              → carrying.static_case call site (value.Static i) o.0 cs last o.1 o.2 ≡ Ok (ts, v)
              → ((u : Work) → IsLong r p ws n k u → AllHold (V r p ws n k u) vs us → carrying.static_case call site (value.Static i) false cs last vs u ≡ Ok (ts, v) → Vars ts u v (meaning.first_same r calling site y ms mlast us))
              → Vars ts w v (F b)
          by true d slots o q e' ih =
              let a = got (carrying.inside c.arm vs (at_count w d)) after_it o q in
              let one = h.0.arm.does.does p ws n k vs us (at_count w d) (long ∙ sym slots) hold a.0.0 a.0.1 a.1 in
              let rest = after_taken (value.Static i) cs last a.0.0 a.0.1 ts v
              (subst (λ (o : Bool × List Local × Work). carrying.static_case call site (value.Static i) o.0 cs last o.1 o.2 ≡ Ok (ts, v)) (sym (same_ok (true, a.0.0, a.0.1) o a.2)) e') in
              subst (λ (o : List Local). Vars o w v (control.scoped m.arm [] us)) (sym rest.0)
              (to_alike r p ws n k (λ W xs. AllHold W a.0.0 xs) w a.0.1 v (here r p ws n k w (control.scoped m.arm [] us)) rest.1 (record { adds = one.adds; long = one.long; gives = one.gives }))
          by false d slots o q e' ih =
              let it = ih (at_count w d) (long ∙ sym slots) hold
              (subst (λ (o : Bool × List Local × Work). carrying.static_case call site (value.Static i) o.0 cs last o.1 o.2 ≡ Ok (ts, v)) (sym (same_ok (false, vs, at_count w d) o q)) e') in
              record { adds = it.adds; long = it.long; gives = it.gives }
    static_case_is i y s [] (m ∷ ms) h last mlast l vs us w long hold ts v e = absurd h
    static_case_is i y s (c ∷ cs) [] h last mlast l vs us w long hold ts v e = absurd h

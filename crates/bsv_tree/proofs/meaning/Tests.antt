-- The conditions of a chain of `if`, and what is told from a branch on.
use Rattle.std.proofs.Common.{◌≡◌, ℕ, ◌+◌, Bool, true, false, not, ◌&&◌, List, [], ◌∷◌, ◌++◌, length, map, Option, Some, None, Ok, refl, sym, ap, ap₂, ◌∙◌, subst, append-nil}
use Rattle.std.specs.Prelude.{if◌then◌else◌}
use Rattle.bsv_bits.specs.Words.{Bits}
use Rattle.bsv_tree.specs.declared.steps.Atom.{Atom}
use Rattle.bsv_tree.specs.declared.steps.Step.{Step}
use Rattle.bsv_tree.specs.declared.values.Value.{Value}
use Rattle.bsv_tree.specs.declared.values.Value.TheVariants as value
use Rattle.bsv_tree.specs.declared.values.Constant.{Constant}
use Rattle.bsv_tree.specs.declared.values.Count.{Count}
use Rattle.bsv_tree.specs.declared.values.Local.{Local}
use Rattle.bsv_tree.specs.declared.values.Pending.{Pending}
use Rattle.bsv_tree.specs.declared.values.Work.{Work}
use Rattle.bsv_tree.specs.carrying.Arms as carried
use Rattle.bsv_tree.specs.carrying.Frames as frames
use Rattle.bsv_tree.specs.carrying.Values as values
use Rattle.bsv_tree.specs.carrying.Carrying as carrying
use Rattle.bsv_tree.specs.carrying.Carrying.{Acts, Branched, Test}
use Rattle.bsv_tree.specs.meaning.Evaluation.{Results, Standing}
use Rattle.bsv_tree.specs.carrying.Running.{in_turn, run, arms_run}
use Rattle.bsv_tree.specs.carrying.Working.{no_steps}
use Rattle.bsv_tree.specs.meaning.Values.{Value as Val, static, varying, is_static, is_true, word_of, Variables, begun, joined}
use Rattle.bsv_tree.specs.meaning.Evaluation as evaluation
use Rattle.bsv_tree.specs.meaning.Evaluation.{Evaluation, Evaluated, yields, in_order, asked, within}
use Rattle.bsv_tree.specs.meaning.Control as control
use Rattle.bsv_tree.specs.meaning.Control.{Means}
use Rattle.bsv_tree.proofs.meaning.Same.{Shows, AllHold, Same, shows_word}
use Rattle.bsv_tree.proofs.meaning.Operating.{V}
use Rattle.bsv_tree.proofs.meaning.Nodes.{alternative}
use Rattle.bsv_tree.proofs.meaning.Joins.{AllPlain, Ends, Finishes, open_finishes, pend}
use Rattle.bsv_tree.proofs.meaning.Tails.{Exactly, ExactlyWhere, exactly_everywhere}

-- what a branch asks: a value that its condition makes of another one, with the variables that it binds
abbrev pub test : (Val → Val) → (Val → Variables) → Evaluation Val → Evaluation (Val × Variables)
test tag payload m = evaluation.◌>>=◌ (asked m) (λ x. yields (tag x, payload x))

module _ (tag : Val → Val) (payload : Val → Variables) (m : Evaluation Val) (f : Val × Variables → Evaluation Variables) (q : Standing) (n k : ℕ) where
  tested : (evaluation.◌>>=◌ (test tag payload m) f) q n k ≡ (let a = asked m q n k in in_order a (f (tag a.gives, payload a.gives) q a.choices a.sites))
  tested =
      let a = asked m q n k in
      let b = f (tag a.gives, payload a.gives) q a.choices a.sites in
      ap₂ (λ cs ns. let o : Evaluated Variables = record { gives = b.gives; choices = b.choices; sites = b.sites; calls = cs ++ b.calls; needs = ns ++ b.needs } in o) (append-nil a.calls) (append-nil a.needs)

  pub static_tested : (c : Constant) → (m q n k).gives ≡ static c → (evaluation.◌>>=◌ (test tag payload m) f) q n k ≡ f (tag (static c), payload (static c)) q n k
  static_tested c e =
      let a = m q n k in
      let it : asked m q n k ≡ yields (static c) q n k = subst (λ (x : Val). (if is_static x then yields x q n k else record a { gives = x }) ≡ yields (static c) q n k) (sym e) refl in
      tested ∙ ap (λ (b : Evaluated Val). in_order b (f (tag b.gives, payload b.gives) q b.choices b.sites)) it

  pub open_tested : is_static (m q n k).gives ≡ false → (evaluation.◌>>=◌ (test tag payload m) f) q n k ≡ (let a = m q n k in in_order a (f (tag a.gives, payload a.gives) q a.choices a.sites))
  open_tested e =
      let a = m q n k in
      let it : asked m q n k ≡ a = ap (λ (b : Bool). if b then yields a.gives q n k else a) e in
      tested ∙ ap (λ (b : Evaluated Val). in_order b (f (tag b.gives, payload b.gives) q b.choices b.sites)) it

  -- a condition that only decides tells nothing
  pub first_tested : (evaluation.◌>>=◌ (evaluation.decided (test tag payload m)) f) q n k ≡ (let y = (m q n k).gives in f (tag y, payload y) q n k)
  first_tested = ap (λ x. f (tag x, payload x) q n k) (by (is_static (m q n k).gives)) where
    by : (b : Bool) → (if b then yields (m q n k).gives q n k else m q n k).gives ≡ (m q n k).gives
    by true = refl
    by false = refl

-- the value that a branch asks about: that of its condition, or the Maybe whose payload it binds
abbrev pub asked_about : Value → Option (Value × ℕ) → Value
asked_about x None = x
asked_about x (Some m) = m.0

abbrev pub subject : Test → Value
subject t = asked_about t.0 t.1

module _ (r : Results) where
  -- a branch: what its condition is made of and binds, and what its arm does where the value that it asks about is there
  pub record Tests (b : Branched) (m : control.Branched) : Type 0 where
    pub means : Means
    pub tag : Val → Val
    pub payload : Val → Variables
    pub asked : m.asks ≡ (λ us. test tag payload (means us))
    pub tag_static : (x : Val) → is_static (tag x) ≡ is_static x
    pub subject_static : (vs : List Local) (c : Count) (t : Test) → b.asks vs c ≡ Ok t → values.is_static t.0 ≡ values.is_static (subject t)
    pub asks : (q : Standing) (W : List Bits) (n k : ℕ) (vs : List Local) (us : Variables) (c : Count) → length W ≡ c.slots → AllHold W vs us → (t : Test) → b.asks vs c ≡ Ok t
        → Same r q W n k (λ V y. Shows V (subject t) y × Shows V t.0 (tag y)) (no_steps c) t.2 (means us q n k)
    pub arm : (vs : List Local) (c : Count) (t : Test) → b.asks vs c ≡ Ok t → (y : Val) → ExactlyWhere r (λ V. Shows V (subject t) y) (carrying.branch_arm b.arm t.1) (λ us. control.scoped m.arm (payload y) us)

  abbrev pub AllTest : List Branched → List control.Branched → Type 0
  AllTest [] [] = Unit {0}
  AllTest (b ∷ bs) (m ∷ ms) = Tests b m × AllTest bs ms
  AllTest _ _ = ⊥

  -- where a branch is decided, what it asks about is one static value, and its arm does what it means with it, from all words
  pub record Decided (b : Branched) (m : control.Branched) (h : Tests b m) (t : Test) : Type 0 where
    pub constant : Constant
    pub is : (V : List Bits) (y : Val) → Shows V (subject t) y → y ≡ static constant
    pub arm : Exactly r (carrying.branch_arm b.arm t.1) (λ us. control.scoped m.arm (h.payload (static constant)) us)

  pub decided_is : (b : Branched) (m : control.Branched) → (h : Tests b m) → (vs : List Local) (c : Count) (t : Test) → b.asks vs c ≡ Ok t → values.is_static t.0 ≡ true → Decided b m h t
  decided_is b m h vs c t e i = by (subject t) refl (sym (h.subject_static vs c t e) ∙ i) where
    by : (x : Value) → subject t ≡ x → values.is_static x ≡ true → Decided b m h t
    by (value.Static j) f i = record {
      constant = j;
      is = λ V y s. subst (λ x. Shows V x y) f s;
      arm = exactly_everywhere r (λ V. Shows V (subject t) (static j)) (carrying.branch_arm b.arm t.1) (λ us. control.scoped m.arm (h.payload (static j)) us)
          (λ V. subst (λ x. Shows V x (static j)) (sym f) refl) (h.arm vs c t e (static j));
    }
    by (value.Open a) f i = absurd cc

  module _ (vs : List Local) (us : Variables) where
    -- what is told from a branch on
    abbrev pub From : control.Branched → List control.Branched → control.Acts → ℕ → ℕ → Bool → Val × Variables → Evaluation Variables
    From b bs last number arm left t =
        if is_static t.0 then (if is_true t.0 then within number arm left (control.scoped b.arm t.1 (begun us)) else control.arms number arm left bs last us)
        else evaluation.◌>>=◌ (within number arm (left && is_true t.0) (control.scoped b.arm t.1 (begun us)))
        (λ xs. evaluation.◌>>=◌ (control.arms number (arm + 1) (left && not (is_true t.0)) bs last us) (λ ys. yields (joined (is_true t.0) xs ys)))

    -- what is told of a branch is told from its condition on
    from_is : (b : Branched) (m : control.Branched) → (h : Tests b m) → (ms : List control.Branched) (last : control.Acts) (number arm : ℕ) (left : Bool) (q : Standing) (n k : ℕ)
        → (evaluation.◌>>=◌ (test h.tag h.payload (h.means us)) (From m ms last number arm left)) q n k ≡ control.arms number arm left (m ∷ ms) last us q n k
    unfolding control.arms
    from_is b m h ms last number arm left q n k = ap (λ (a : Variables → Evaluation (Val × Variables)). (evaluation.◌>>=◌ (a us) (From m ms last number arm left)) q n k) (sym h.asked)

    -- what a branch asks, where it is decided
    pub tag_decided : (b : Branched) (m : control.Branched) → (h : Tests b m) → (t : Test) (D : Decided b m h t) (i : Constant) → t.0 ≡ value.Static i → (V : List Bits) (y : Val)
        → Shows V (subject t) y → Shows V t.0 (h.tag y) → h.tag (static D.constant) ≡ static i
    tag_decided b m h t D i f V y s s' = ap h.tag (sym (D.is V y s)) ∙ subst (λ x. Shows V x (h.tag y)) f s'

    pub static_told : (b : Branched) (m : control.Branched) → (h : Tests b m) → (ms : List control.Branched) (last : control.Acts) (c : Count) (t : Test) → b.asks vs c ≡ Ok t
        → (D : Decided b m h t) (i : Constant) → t.0 ≡ value.Static i
        → (number arm : ℕ) (left : Bool) (q : Standing) (W : List Bits) (n k : ℕ) → length W ≡ c.slots → AllHold W vs us
        → From m ms last number arm left (static i, h.payload (static D.constant)) q n k ≡ control.arms number arm left (m ∷ ms) last us q n k
    static_told b m h ms last c t e D i f number arm left q W n k long hold =
        let first = h.asks q W n k vs us c long hold t e in
        let y = (h.means us q n k).gives in
        ap (λ x. From m ms last number arm left (x, h.payload (static D.constant)) q n k) (sym (tag_decided b m h t D i f _ y first.gives.0 first.gives.1))
        ∙ sym (static_tested h.tag h.payload (h.means us) (From m ms last number arm left) q n k D.constant (D.is _ y first.gives.0))
        ∙ from_is b m h ms last number arm left q n k

    -- a branch that is not decided, and the arms after it
    pub open_told : (b : Branched) (m : control.Branched) → (h : Tests b m) → (ms : List control.Branched) (last : control.Acts) (c : Count) (t : Test) → b.asks vs c ≡ Ok t
        → (at : Atom) → t.0 ≡ value.Open at
        → (lv : List Local) (lw : Work) → carrying.branch_arm b.arm t.1 (frames.untouched vs) (no_steps t.2.count) ≡ Ok (lv, lw)
        → (more : List Pending) (ll : List Step) (lvs : List Local) → (given : List ℕ) (plain : AllPlain vs given) (number arm : ℕ)
        → ((l : Bool) → Finishes r vs us given plain (λ W. Unit {0}) t.2.count.slots more ll lvs number (arm + 1) l (control.arms number (arm + 1) l ms last us))
        → (left : Bool) → Finishes r vs us given plain (λ W. Unit {0}) c.slots (carrying.pending (value.Open at) t.2 (lv, lw) ∷ more) ll lvs number arm left (control.arms number arm left (m ∷ ms) last us)
    unfolding in_turn pend
    open_told b m h ms last c t e at f lv lw e' more ll lvs given plain number arm finishes left q W n k long hold on =
        let first = h.asks q W n k vs us c long hold t e in
        let d = h.means us q n k in
        let y = d.gives in
        let H = in_turn (map run t.2.steps) r q W n k in
        let shown : Shows H.words (value.Open at) (h.tag y) = subst (λ x. Shows H.words x (h.tag y)) f first.gives.1 in
        let u = shown.0 in
        let arm_does = h.arm vs c t e y in
        let it = open_finishes r vs us given plain (λ W. Unit {0}) (λ V W i j. tt) (carrying.branch_arm b.arm t.1) at t.2 lv lw e' (arm_does.exact (frames.untouched vs) (no_steps t.2.count) lv lw e')
        more ll lvs number arm left (λ l. control.arms number (arm + 1) l ms last us) finishes (λ V. Shows V (subject t) y) (λ us. control.scoped m.arm (h.payload y) us) arm_does.does q W n k d u hold tt first.gives.0 first.adds.within first.long
        (shows_word H.words (value.Open at) (h.tag y) shown ∙ ap word_of shown.2) first.adds.choices first.adds.sites first.adds.calls first.adds.needs in
        let told : in_order d (From m ms last number arm left (varying u, h.payload y) q d.choices d.sites) ≡ control.arms number arm left (m ∷ ms) last us q n k =
        ap (λ x. in_order d (From m ms last number arm left (x, h.payload y) q d.choices d.sites)) (sym shown.2)
        ∙ sym (open_tested h.tag h.payload (h.means us) (From m ms last number arm left) q n k (sym (h.tag_static y) ∙ ap is_static shown.2))
        ∙ from_is b m h ms last number arm left q n k in
        subst (λ o. Ends r vs us given plain (carried.assigned (carrying.pending (value.Open at) t.2 (lv, lw) ∷ more) lvs)
        (arms_run (map run ll) (map (carried.given_by lvs) given) (map alternative (map (carried.arm_of given) (carrying.pending (value.Open at) t.2 (lv, lw) ∷ more))) number arm (q.taken && left) r q W n k) o) told it

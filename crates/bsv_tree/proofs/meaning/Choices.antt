-- A chain of `?:` gives what it means.
use Rattle.std.proofs.Common.{◌≡◌, ℕ, ◌+◌, Bool, true, false, not, ◌&&◌, cond, List, [], ◌∷◌, ◌++◌, length, map, Ok, refl, sym, ap, ap₂, ◌∙◌, subst, append_assoc, append-nil}
use Rattle.std.specs.Prelude.{if◌then◌else◌}
use Rattle.bsv_lemmas.proofs.Choices.{same_ok}
use Rattle.bsv_fail.specs.Given.{◌>>=◌}
use Rattle.bsv_bits.specs.Words.{Bits}
use Rattle.bsv_tree.specs.declared.steps.Arm.{Arm}
use Rattle.bsv_tree.specs.declared.steps.Atom.{Atom}
use Rattle.bsv_tree.specs.declared.steps.Choice.{roll-Choice}
use Rattle.bsv_tree.specs.declared.steps.Step.{Step}
use Rattle.bsv_tree.specs.declared.steps.Step.TheOpen.{Step-F}
use Rattle.bsv_tree.specs.declared.values.Value.{Value}
use Rattle.bsv_tree.specs.declared.values.Value.TheVariants as value
use Rattle.bsv_tree.specs.declared.values.Constant.{Constant}
use Rattle.bsv_tree.specs.declared.values.Count.{Count}
use Rattle.bsv_tree.specs.declared.values.Local.{Local}
use Rattle.bsv_tree.specs.declared.values.Work.{Work}
use Rattle.bsv_tree.specs.declared.values.Fault.{Fault}
use Rattle.bsv_tree.specs.carrying.Arms.{choice_of}
use Rattle.bsv_tree.specs.carrying.Values as values
use Rattle.bsv_tree.specs.carrying.Values.{atom_of}
use Rattle.bsv_tree.specs.carrying.Carrying as carrying
use Rattle.bsv_tree.specs.carrying.Carrying.{Carried}
use Rattle.bsv_tree.specs.carrying.Running as running
use Rattle.bsv_tree.specs.meaning.Evaluation.{Results, Standing, SiteCall, Need}
use Rattle.bsv_tree.specs.carrying.Running.{Happening, Run, in_turn, run, nested_run}
use Rattle.bsv_design.specs.design.Words.{is_one}
use Rattle.bsv_tree.specs.carrying.Working.{tick, no_steps, at_count, give}
use Rattle.bsv_tree.specs.meaning.Values.{Value as Val, static, varying, word_of, varied, is_static, is_true, Variables}
use Rattle.bsv_tree.specs.meaning.Evaluation as evaluation
use Rattle.bsv_tree.specs.meaning.Evaluation.{Evaluation, Evaluated, yields, in_order, asked, within}
use Rattle.bsv_tree.specs.meaning.Control.{chosen}
use Rattle.bsv_tree.specs.meaning.Meaning.{Meant}
use Rattle.bsv_tree.proofs.meaning.Same.{Shows, AllHold, ran, IsLong, Same, here, got, all_hold_within, shows_word}
use Rattle.bsv_tree.proofs.meaning.Pieces.{tick_is, pushed}
use Rattle.bsv_tree.proofs.meaning.Operating.{V}
use Rattle.bsv_tree.proofs.meaning.Nodes.{alternative, alternative_is, choose_is, choice_is}
use Rattle.bsv_tree.proofs.meaning.Expressions.{Matches, AllMatch, Carries}

-- what is told after a condition
abbrev pub Behind : Type 0
Behind = Val → Evaluation Val

-- a static condition tells nothing
pub static_asked : (m : Evaluation Val) (f : Behind) (p : Standing) (n k : ℕ) (c : Constant) → (m p n k).gives ≡ static c → (evaluation.◌>>=◌ (asked m) f) p n k ≡ f (static c) p n k
static_asked m f p n k c e =
    let a = m p n k in
    let it : asked m p n k ≡ yields (static c) p n k =
    subst (λ (x : Val). (if is_static x then yields x p n k else record a { gives = x }) ≡ yields (static c) p n k) (sym e) refl in
    ap (λ (b : Evaluated Val). in_order b (f b.gives p b.choices b.sites)) it

-- any other tells all that it meets
pub open_asked : (m : Evaluation Val) (p : Standing) (n k : ℕ) (w : Bits) → (m p n k).gives ≡ varying w → asked m p n k ≡ m p n k
open_asked m p n k w e =
    let a = m p n k in
    subst (λ (x : Val). (if is_static x then yields x p n k else record a { gives = x }) ≡ record a { gives = x }) (sym e) refl

module _ (r : Results) where
  -- what runs to the end of a choice with one word, and what is told
  pub record Closes (h : Happening) (d : Evaluated Val) : Type 0 where
    pub words : h.words ≡ word_of d.gives ∷ []
    pub choices : h.choices ≡ d.choices
    pub sites : h.sites ≡ d.sites
    pub calls : h.calls ≡ d.calls
    pub needs : h.needs ≡ d.needs

  module _ (vs : List Local) (us : Variables) where
    -- the rest of a choice, from words like these
    abbrev Finishes : ℕ → List Arm → List Step → Atom → (Evaluation Val) → Type 0
    Finishes slots more last g m =
        (q : Standing) (W : List Bits) (n k : ℕ) → length W ≡ slots → AllHold W vs us
        → Closes (nested_run (map run last) (g ∷ []) (map alternative more) r q W n k) (m q n k)

    -- the choice that is left of a chain after these arms
    record Tail (w : Work) (arms : List Arm) (slots : ℕ) (m : Evaluation Val) (x : Value) (v : Work) : Type 0 where
      more : List Arm
      last : List Step
      gives : Atom
      count : Count
      same : count.slots ≡ w.count.slots
      made : give (at_count w count) (choice_of true (arms ++ more) last (gives ∷ [])) ≡ Ok (x, v)
      closes : Finishes slots more last gives m

    -- the last value, after other arms
    last_closes : (c : Carried) (m : Meant) → Matches r c m → (a : Count) (x : Value) (u : Work) → c.carry vs (no_steps a) ≡ Ok (x, u) → Finishes a.slots [] u.steps (atom_of x) (m.means us)
    unfolding nested_run Carries in_turn
    last_closes c m h a x u e q W n k long hold =
        let it = h.carries q W n k vs us (no_steps a) long hold x u e in
        record {
          words = ap (λ (b : Bits). b ∷ []) (shows_word _ x _ it.gives);
          choices = it.adds.choices;
          sites = it.adds.sites;
          calls = it.adds.calls;
          needs = it.adds.needs;
        }

    last_tail : (w : Work) (a : Arm) (as' : List Arm) (c : Carried) (m : Meant) → Matches r c m → (b : Count) (x : Value) (v : Work)
        → carrying.last_value w (a ∷ as') c vs b ≡ Ok (x, v) → Tail w (a ∷ as') b.slots (m.means us) x v
    unfolding carrying.last_value
    last_tail w a as' c m h b x v e =
        let g = got (c.carry vs (no_steps b)) (λ o. carrying.value_choice w (a ∷ as') o) (x, v) e in
        record {
          more = [];
          last = g.0.1.steps;
          gives = atom_of g.0.0;
          count = carrying.after_arm w.count g.0.1.count;
          same = refl;
          made = subst (λ (o : List Arm). give (at_count w (carrying.after_arm w.count g.0.1.count)) (choice_of true o g.0.1.steps (atom_of g.0.0 ∷ [])) ≡ Ok (x, v)) (sym (append-nil (a ∷ as'))) g.2;
          closes = last_closes c m h b g.0.0 g.0.1 g.1;
        }

    pick_word : (t : Bool) (a b : Val) → cond t (word_of a) (word_of b) ≡ word_of (if t then a else b)
    pick_word true a b = refl
    pick_word false a b = refl

    -- after a condition that is not static: its arm, and the rest
    abbrev pub Branches : Evaluation Val → Evaluation Val → Behind
    Branches one rest t =
        if is_static t then (if is_true t then one else rest)
        else evaluation.choice λ i. evaluation.◌>>=◌ (within i 0 (is_true t) one) (λ a. evaluation.◌>>=◌ (within i 1 (not (is_true t)) rest) (λ b. yields (varied (if is_true t then a else b))))

    module _ (c : Carried) (m : Meant) (match : Matches r c m) (x : Carried) (z : Meant) (match' : Matches r x z) (a : Count)
        (at : Atom) (tw : Work) (e : c.carry vs (no_steps a) ≡ Ok (value.Open at, tw)) (xv : Value) (xw : Work) (e' : x.carry vs (no_steps tw.count) ≡ Ok (xv, xw))
        (more : List Arm) (last : List Step) (g : Atom) (rest : Evaluation Val) (finishes : Finishes tw.count.slots more last g rest) where
      arm : Arm
      arm = carrying.value_arm (value.Open at, tw) (xv, xw)

      open_closes : Finishes a.slots (arm ∷ more) last g (evaluation.◌>>=◌ (asked (m.means us)) (Branches (z.means us) rest))
      unfolding nested_run Carries in_turn arm
      open_closes q W n k long hold =
          let first = match.carries q W n k vs us (no_steps a) long hold (value.Open at) tw e in
          let d = m.means us q n k in
          let h = in_turn (map run tw.steps) r q W n k in
          let b = first.gives.0 in
          let t = is_one b in
          let N = h.choices in
          let K = h.sites in
          let hold' = all_hold_within W h.words first.adds.within vs us hold in
          let inside : Standing = running.inside q (q.taken && t) N 0 in
          let second = match'.carries inside h.words (N + 1) K vs us (no_steps tw.count) first.long hold' xv xw e' in
          let body = in_turn (map run xw.steps) r inside h.words (N + 1) K in
          let A = z.means us inside (N + 1) K in
          let other : Standing = running.inside q (q.taken && not t) N 1 in
          let R = nested_run (map run last) (g ∷ []) (map alternative more) r other h.words body.choices body.sites in
          let third = finishes other h.words body.choices body.sites first.long hold' in
          let B = rest other A.choices A.sites in
          let fourth : Closes R B = subst (λ i. Closes R (rest other i A.sites)) second.adds.choices (subst (λ j. Closes R (rest other body.choices j)) second.adds.sites third) in
          let E : Bits → Happening = λ w.
          running.either_run h (is_one w) (in_turn (map run xw.steps) r (running.inside q (q.taken && is_one w) N 0) h.words (N + 1) K) (atom_of xv ∷ [])
          (nested_run (map run last) (g ∷ []) (map alternative more) r (running.inside q (q.taken && not (is_one w)) N 1) h.words
          (in_turn (map run xw.steps) r (running.inside q (q.taken && is_one w) N 0) h.words (N + 1) K).choices
          (in_turn (map run xw.steps) r (running.inside q (q.taken && is_one w) N 0) h.words (N + 1) K).sites) in
          let D : Val → ℕ → ℕ → Evaluated Val = λ o i j. in_order d (Branches (z.means us) rest o q i j) in
          let whole : Closes (E b) (D (varying b) N K) = record {
            words = ap₂ (λ (u : Bits) (o : List Bits). running.picked t (u ∷ []) o) (shows_word body.words xv A.gives second.gives) fourth.words
                ∙ ap (λ (o : Bits). o ∷ []) (pick_word t A.gives B.gives);
            choices = fourth.choices;
            sites = fourth.sites;
            calls = ap₂ (λ (o u : List SiteCall). o ++ u) first.adds.calls (ap₂ (λ (o u : List SiteCall). o ++ u) second.adds.calls (fourth.calls ∙ sym (append-nil B.calls)));
            needs = ap₂ (λ (o u : List Need). o ++ u) first.adds.needs (ap₂ (λ (o u : List Need). o ++ u) second.adds.needs (fourth.needs ∙ sym (append-nil B.needs)));
          } in
          let run_is : nested_run (map run last) (g ∷ []) (map alternative (arm ∷ more)) r q W n k ≡ E b =
          ap (λ o. nested_run (map run last) (g ∷ []) (o ∷ map alternative more) r q W n k) (alternative_is tw.steps at xw.steps (atom_of xv ∷ []))
          ∙ ap E (shows_word h.words (value.Open at) d.gives first.gives ∙ ap word_of first.gives.2) in
          let told_is : (evaluation.◌>>=◌ (asked (m.means us)) (Branches (z.means us) rest)) q n k ≡ D (varying b) N K =
          ap (λ (o : Evaluated Val). in_order o (Branches (z.means us) rest o.gives q o.choices o.sites)) (open_asked (m.means us) q n k b first.gives.2)
          ∙ ap (λ o. D o d.choices d.sites) first.gives.2
          ∙ ap₂ (λ i j. D (varying b) i j) (sym first.adds.choices) (sym first.adds.sites) in
          subst (λ o. Closes o ((evaluation.◌>>=◌ (asked (m.means us)) (Branches (z.means us) rest)) q n k)) (sym run_is)
          (subst (λ o. Closes (E b) o) (sym told_is) whole)

    -- ---- all arms

    unfoldable pub means_of : List Meant → List (Variables → Evaluation Val)
    means_of ms = map (λ m. m.means) ms

    retold : (w : Work) (arms : List Arm) (s s' : ℕ) (m m' : Evaluation Val) (x : Value) (v : Work) → s ≡ s'
        → ((q : Standing) (W : List Bits) (n k : ℕ) → length W ≡ s' → AllHold W vs us → m q n k ≡ m' q n k) → Tail w arms s m x v → Tail w arms s' m' x v
    retold w arms s s' m m' x v e f t = record {
      more = t.more;
      last = t.last;
      gives = t.gives;
      count = t.count;
      same = t.same;
      made = t.made;
      closes = λ q W n k long hold. subst (λ d. Closes (nested_run (map run t.last) (t.gives ∷ []) (map alternative t.more) r q W n k) d) (f q W n k long hold) (t.closes q W n k (long ∙ sym e) hold);
    }

    -- a static condition: what is told is what is after it
    decided_told : (c : Carried) (m : Meant) → Matches r c m → (a : Count) (k : Constant) (tw : Work) → c.carry vs (no_steps a) ≡ Ok (value.Static k, tw) → (f : Behind)
        → (q : Standing) (W : List Bits) (n i : ℕ) → length W ≡ a.slots → AllHold W vs us → f (static k) q n i ≡ (evaluation.◌>>=◌ (asked (m.means us)) f) q n i
    unfolding Carries in_turn
    decided_told c m h a k tw e f q W n i long hold =
        sym (static_asked (m.means us) f q n i k (h.carries q W n i vs us (no_steps a) long hold (value.Static k) tw e).gives)

    tails : (ts xs : List Carried) (ms zs : List Meant) → AllMatch r ts ms → AllMatch r xs zs → (f : Fault) (w : Work) (a : Arm) (as' : List Arm) (c : Count) (x : Value) (v : Work)
        → carrying.choice_from f w (a ∷ as') ts xs vs c ≡ Ok (x, v) → Tail w (a ∷ as') c.slots (chosen (means_of ms) (means_of zs) us) x v
    unfolding carrying.choice_from carrying.value_asked carrying.value_kept chosen means_of arm
    tails [] (y ∷ xs) [] (z ∷ zs) h h' f w a as' c x v e = last_tail w a as' y z h'.0 c x v e
    tails (t ∷ ts) (y ∷ xs) (m ∷ ms) (z ∷ zs) h h' f w a as' c x v e =
        let g = got (tick c 1 >>= λ b. t.carry vs (no_steps b)) _ (x, v) e in
        let k = got (tick c 1) (λ b. t.carry vs (no_steps b)) g.0 g.1 in
        by g.0.0 g.0.1 k.0 (tick_is c 1 k.0 k.1) k.2 g.2 (λ o u s n q. tails ts xs ms zs h.1 h'.1 f w a o u s n q) where
          Goal : Type 0
          Goal = Tail w (a ∷ as') c.slots (chosen (means_of (m ∷ ms)) (means_of (z ∷ zs)) us) x v

          After : Value → Work → Type 0
          After tv tw = (if values.is_true tv then carrying.last_value w (a ∷ as') y vs (carrying.after_arm c tw.count)
              else (carrying.value_kept (a ∷ as') c (tv, tw) y vs >>= λ o. carrying.choice_from f w o.0 ts xs vs o.1)) ≡ Ok (x, v)

          Others : Type 0
          Others = (o : List Arm) (u : Count) (s : Value) (n : Work) → carrying.choice_from f w (a ∷ o) ts xs vs u ≡ Ok (s, n) → Tail w (a ∷ o) u.slots (chosen (means_of ms) (means_of zs) us) s n

          rest : Evaluation Val
          rest = chosen (means_of ms) (means_of zs) us

          by_static : (k : Constant) (tw : Work) (b : Count) → b.slots ≡ c.slots → t.carry vs (no_steps b) ≡ Ok (value.Static k, tw) → (is : Bool) → values.is_true (value.Static k) ≡ is
              → (if is then carrying.last_value w (a ∷ as') y vs (carrying.after_arm c tw.count) else carrying.choice_from f w (a ∷ as') ts xs vs (carrying.after_arm c tw.count)) ≡ Ok (x, v) → Others → Goal
          by_static k tw b s i true j q o =
              retold w (a ∷ as') c.slots c.slots (z.means us) (evaluation.◌>>=◌ (asked (m.means us)) (Branches (z.means us) rest)) x v refl
              (λ p W n l long hold. ap (λ (is : Bool). (if is then z.means us else rest) p n l) (sym j) ∙ decided_told t m h.0 b k tw i (Branches (z.means us) rest) p W n l (long ∙ sym s) hold)
              (last_tail w a as' y z h'.0 (carrying.after_arm c tw.count) x v q)
          by_static k tw b s i false j q o =
              retold w (a ∷ as') c.slots c.slots rest (evaluation.◌>>=◌ (asked (m.means us)) (Branches (z.means us) rest)) x v refl
              (λ p W n l long hold. ap (λ (is : Bool). (if is then z.means us else rest) p n l) (sym j) ∙ decided_told t m h.0 b k tw i (Branches (z.means us) rest) p W n l (long ∙ sym s) hold)
              (o as' (carrying.after_arm c tw.count) x v q)

          by : (tv : Value) (tw : Work) (b : Count) → b.slots ≡ c.slots → t.carry vs (no_steps b) ≡ Ok (tv, tw) → After tv tw → Others → Goal
          by (value.Static k) tw b s i q o = by_static k tw b s i (values.is_true (value.Static k)) refl q o
          by (value.Open at) tw b s i q o =
              let g = got (carrying.value_kept (a ∷ as') c (value.Open at, tw) y vs) (λ n. carrying.choice_from f w n.0 ts xs vs n.1) (x, v) q in
              let l = got (y.carry vs (no_steps tw.count)) _ g.0 g.1 in
              let new = carrying.value_arm (value.Open at, tw) l.0 in
              let T = o (as' ++ new ∷ []) (carrying.after_arm tw.count l.0.1.count) x v
              (subst (λ (n : List Arm × Count). carrying.choice_from f w n.0 ts xs vs n.1 ≡ Ok (x, v)) (sym (same_ok ((a ∷ as') ++ new ∷ [], carrying.after_arm tw.count l.0.1.count) g.0 l.2)) g.2) in
              record {
                more = new ∷ T.more;
                last = T.last;
                gives = T.gives;
                count = T.count;
                same = T.same;
                made = subst (λ (n : List Arm). give (at_count w T.count) (choice_of true n T.last (T.gives ∷ [])) ≡ Ok (x, v)) (append_assoc (a ∷ as') (new ∷ []) T.more) T.made;
                closes = λ p W n j long hold. open_closes t m h.0 y z h'.0 b at tw i l.0.0 l.0.1 l.1 T.more T.last T.gives rest T.closes p W n j (long ∙ sym s) hold;
              }
    tails ts [] ms zs h h' f w a as' c x v e = absurd cc
    tails [] (y ∷ xs) ms [] h h' f w a as' c x v e = absurd h'
    tails [] (y ∷ xs) (m ∷ ms) (z ∷ zs) h h' f w a as' c x v e = absurd h
    tails (t ∷ ts) (y ∷ xs) [] zs h h' f w a as' c x v e = absurd h
    tails (t ∷ ts) (y ∷ xs) (m ∷ ms) [] h h' f w a as' c x v e = absurd h'

    -- after a condition that is not static the value is not
    open_varies : (c : Carried) (m : Meant) → Matches r c m → (a : Count) (at : Atom) (tw : Work) → c.carry vs (no_steps a) ≡ Ok (value.Open at, tw) → (one rest : Evaluation Val)
        → (q : Standing) (W : List Bits) (n k : ℕ) → length W ≡ a.slots → AllHold W vs us
        → (let d = (evaluation.◌>>=◌ (asked (m.means us)) (Branches one rest)) q n k in d.gives ≡ varying (word_of d.gives))
    unfolding Carries in_turn
    open_varies c m h a at tw e one rest q W n k long hold =
        let first = h.carries q W n k vs us (no_steps a) long hold (value.Open at) tw e in
        let d = m.means us q n k in
        let told_is : (evaluation.◌>>=◌ (asked (m.means us)) (Branches one rest)) q n k ≡ in_order d (Branches one rest (varying first.gives.0) q d.choices d.sites) =
        ap (λ (o : Evaluated Val). in_order o (Branches one rest o.gives q o.choices o.sites)) (open_asked (m.means us) q n k first.gives.0 first.gives.2)
        ∙ ap (λ o. in_order d (Branches one rest o q d.choices d.sites)) first.gives.2 in
        subst (λ (o : Evaluated Val). o.gives ≡ varying (word_of o.gives)) (sym told_is) refl

    module _ (p : Standing) (ws : List Bits) (n k : ℕ) (w : Work) (long : IsLong r p ws n k w) (hold : AllHold (V r p ws n k w) vs us) where
      abbrev One : Value → Work → Evaluation Val → Type 0
      One x v m = Same r p ws n k (λ W y. Shows W x y) w v (here r p ws n k w m)

      alone_is : (c : Carried) (m : Meant) → Matches r c m → (a : Count) → a.slots ≡ w.count.slots → (x : Value) (v : Work) → c.carry vs (at_count w a) ≡ Ok (x, v) → One x v (m.means us)
      unfolding Carries
      alone_is c m h a s x v e =
          let it = h.carries p ws n k vs us (at_count w a) (long ∙ sym s) hold x v e in
          record { adds = it.adds; long = it.long; gives = it.gives }

      -- the step of the choice
      chosen_is : (a : Arm) (as' : List Arm) (last : List Step) (g : Atom) (b : Count) → b.slots ≡ w.count.slots → (x : Value) (v : Work)
          → give (at_count w b) (choice_of true (a ∷ as') last (g ∷ [])) ≡ Ok (x, v) → (m : Evaluation Val)
          → (let d = here r p ws n k w m in d.gives ≡ varying (word_of d.gives))
          → Closes (nested_run (map run last) (g ∷ []) (map alternative (a ∷ as')) r p (V r p ws n k w) (ran r p ws n k w).choices (ran r p ws n k w).sites) (here r p ws n k w m)
          → One x v m
      chosen_is a as' last g b s x v e m varies closes =
          let W = V r p ws n k w in
          let N = (ran r p ws n k w).choices in
          let K = (ran r p ws n k w).sites in
          let d = here r p ws n k w m in
          let h = nested_run (map run last) (g ∷ []) (map alternative (a ∷ as')) r p W N K in
          let run_is : run (choice_of true (a ∷ as') last (g ∷ [])) r p W N K ≡ record h { words = W ++ h.words } =
          ap (λ (o : Run). o r p W N K) (choose_is (roll-Choice (record { nested = true; arms = a ∷ as'; last = last; gives = g ∷ [] })))
          ∙ ap (λ (o : Run). running.step_run (Step-F.Choose o) r p W N K) (choice_is true (a ∷ as') last (g ∷ [])) in
          let told_is : ◌≡◌ {A = Happening} (record h { words = W ++ h.words }) (record { words = W ++ word_of d.gives ∷ []; choices = d.choices; sites = d.sites; calls = d.calls; needs = d.needs }) =
          ap (λ (o : List Bits). let u : Happening = record h { words = W ++ o } in u) closes.words
          ∙ ap₂ (λ (i j : ℕ). let u : Happening = record { words = W ++ word_of d.gives ∷ []; choices = i; sites = j; calls = h.calls; needs = h.needs } in u) closes.choices closes.sites
          ∙ ap₂ (λ (i : List SiteCall) (j : List Need). let u : Happening = record { words = W ++ word_of d.gives ∷ []; choices = d.choices; sites = d.sites; calls = i; needs = j } in u) closes.calls closes.needs in
          let it = pushed r p ws n k (at_count w b) W (λ i y j. j) (long ∙ sym s) (choice_of true (a ∷ as') last (g ∷ [])) x v e (word_of d.gives) d (varies, run_is ∙ told_is) in
          record { adds = it.adds; long = it.long; gives = it.gives }

      pub choice_from_is : (ts xs : List Carried) (ms zs : List Meant) → AllMatch r ts ms → AllMatch r xs zs → (f : Fault) (c : Count) → c.slots ≡ w.count.slots → (x : Value) (v : Work)
          → carrying.choice_from f w [] ts xs vs c ≡ Ok (x, v) → One x v (chosen (means_of ms) (means_of zs) us)
      unfolding carrying.choice_from carrying.value_asked carrying.value_kept carrying.last_value chosen means_of arm
      choice_from_is [] (y ∷ xs) [] (z ∷ zs) h h' f c s x v e = alone_is y z h'.0 c s x v e
      choice_from_is (t ∷ ts) (y ∷ xs) (m ∷ ms) (z ∷ zs) h h' f c s x v e =
          let g = got (tick c 1 >>= λ b. t.carry vs (no_steps b)) _ (x, v) e in
          let l = got (tick c 1) (λ b. t.carry vs (no_steps b)) g.0 g.1 in
          by g.0.0 g.0.1 l.0 (tick_is c 1 l.0 l.1 ∙ s) l.2 g.2 (λ u i q. choice_from_is ts xs ms zs h.1 h'.1 f u i x v q) where
            rest : Evaluation Val
            rest = chosen (means_of ms) (means_of zs) us

            whole : Evaluation Val
            whole = evaluation.◌>>=◌ (asked (m.means us)) (Branches (z.means us) rest)

            Others : Type 0
            Others = (u : Count) → u.slots ≡ w.count.slots → carrying.choice_from f w [] ts xs vs u ≡ Ok (x, v) → One x v rest

            by_static : (i : Constant) (tw : Work) (b : Count) → b.slots ≡ w.count.slots → t.carry vs (no_steps b) ≡ Ok (value.Static i, tw) → (is : Bool) → values.is_true (value.Static i) ≡ is
                → (if is then y.carry vs (at_count w (carrying.after_arm c tw.count)) else carrying.choice_from f w [] ts xs vs (carrying.after_arm c tw.count)) ≡ Ok (x, v) → Others → One x v whole
            by_static i tw b same q true j e' o =
                subst (λ d. Same r p ws n k (λ W y. Shows W x y) w v d)
                (ap (λ (is : Bool). (if is then z.means us else rest) p (ran r p ws n k w).choices (ran r p ws n k w).sites) (sym j)
                ∙ decided_told t m h.0 b i tw q (Branches (z.means us) rest) p (V r p ws n k w) (ran r p ws n k w).choices (ran r p ws n k w).sites (long ∙ sym same) hold)
                (alone_is y z h'.0 (carrying.after_arm c tw.count) s x v e')
            by_static i tw b same q false j e' o =
                subst (λ d. Same r p ws n k (λ W y. Shows W x y) w v d)
                (ap (λ (is : Bool). (if is then z.means us else rest) p (ran r p ws n k w).choices (ran r p ws n k w).sites) (sym j)
                ∙ decided_told t m h.0 b i tw q (Branches (z.means us) rest) p (V r p ws n k w) (ran r p ws n k w).choices (ran r p ws n k w).sites (long ∙ sym same) hold)
                (o (carrying.after_arm c tw.count) s e')

            by : (tv : Value) (tw : Work) (b : Count) → b.slots ≡ w.count.slots → t.carry vs (no_steps b) ≡ Ok (tv, tw)
                → (if values.is_true tv then y.carry vs (at_count w (carrying.after_arm c tw.count)) else (carrying.value_kept [] c (tv, tw) y vs >>= λ o. carrying.choice_from f w o.0 ts xs vs o.1)) ≡ Ok (x, v) → Others → One x v whole
            by (value.Static i) tw b same q e' o = by_static i tw b same q (values.is_true (value.Static i)) refl e' o
            by (value.Open at) tw b same q e' o =
                let g = got (carrying.value_kept [] c (value.Open at, tw) y vs) (λ i. carrying.choice_from f w i.0 ts xs vs i.1) (x, v) e' in
                let l = got (y.carry vs (no_steps tw.count)) _ g.0 g.1 in
                let new = carrying.value_arm (value.Open at, tw) l.0 in
                let T = tails ts xs ms zs h.1 h'.1 f w new [] (carrying.after_arm tw.count l.0.1.count) x v
                (subst (λ (i : List Arm × Count). carrying.choice_from f w i.0 ts xs vs i.1 ≡ Ok (x, v)) (sym (same_ok (new ∷ [], carrying.after_arm tw.count l.0.1.count) g.0 l.2)) g.2) in
                chosen_is new T.more T.last T.gives T.count T.same x v T.made whole
                (open_varies t m h.0 b at tw q (z.means us) rest p (V r p ws n k w) (ran r p ws n k w).choices (ran r p ws n k w).sites (long ∙ sym same) hold)
                (open_closes t m h.0 y z h'.0 b at tw q l.0.0 l.0.1 l.1 T.more T.last T.gives rest T.closes p (V r p ws n k w) (ran r p ws n k w).choices (ran r p ws n k w).sites (long ∙ sym same) hold)
      choice_from_is ts [] ms zs h h' f c s x v e = absurd cc
      choice_from_is [] (y ∷ xs) ms [] h h' f c s x v e = absurd h'
      choice_from_is [] (y ∷ xs) (m ∷ ms) (z ∷ zs) h h' f c s x v e = absurd h
      choice_from_is (t ∷ ts) (y ∷ xs) [] zs h h' f c s x v e = absurd h
      choice_from_is (t ∷ ts) (y ∷ xs) (m ∷ ms) [] h h' f c s x v e = absurd h'

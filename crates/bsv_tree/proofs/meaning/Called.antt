-- Calls give what they mean.
use Rattle.std.proofs.Common.{◌≡◌, ℕ, ◌+◌, Bool, true, false, List, [], ◌∷◌, ◌++◌, length, map, Option, Some, None, Ok, refl, sym, ap, ap₂, ◌∙◌, subst, append-nil}
use Rattle.std.specs.Prelude.{slice_get, if◌then◌else◌}
use Rattle.bsv_lemmas.proofs.Choices.{same_ok}
use Rattle.bsv_bits.specs.Words.{Bits}
use Rattle.bsv_types.specs.declared.types.PartTy.{PartTy}
use Rattle.bsv_design.specs.declared.kind.Kind.{Kind}
use Rattle.bsv_tree.specs.declared.steps.Atom.{Atom}
use Rattle.bsv_tree.specs.declared.steps.MethodPlace.{MethodPlace}
use Rattle.bsv_tree.specs.declared.steps.Step.TheVariants as step
use Rattle.bsv_tree.specs.declared.values.Value.{Value}
use Rattle.bsv_tree.specs.declared.values.Value.TheVariants as value
use Rattle.bsv_tree.specs.declared.values.Count.{Count}
use Rattle.bsv_tree.specs.declared.values.Local.{Local}
use Rattle.bsv_tree.specs.declared.values.Work.{Work}
use Rattle.bsv_tree.specs.declared.values.Fault.{Fault}
use Rattle.bsv_tree.specs.carrying.Values as values
use Rattle.bsv_tree.specs.carrying.Values.{atom_of}
use Rattle.bsv_tree.specs.carrying.Calls as calls
use Rattle.bsv_tree.specs.tree.Contexts.{Context}
use Rattle.bsv_tree.specs.carrying.Calls.{Caller, static_fault}
use Rattle.bsv_tree.specs.tree.Methods.{part_method}
use Rattle.bsv_tree.specs.carrying.Carrying as carrying
use Rattle.bsv_tree.specs.carrying.Carrying.{Carried}
use Rattle.bsv_tree.specs.carrying.Running as running
use Rattle.bsv_tree.specs.meaning.Evaluation.{Results, Standing, SiteCall, Need}
use Rattle.bsv_tree.specs.carrying.Running.{Happening, in_turn, words_of}
use Rattle.bsv_tree.specs.carrying.Working.{no_steps, at_count, with_step, give}
use Rattle.bsv_tree.specs.meaning.Values.{Value as Val, varying, word_of, varied, Variables, all_static}
use Rattle.bsv_tree.specs.meaning.Evaluation.{Evaluated, called}
use Rattle.bsv_tree.specs.meaning.Meaning as meaning
use Rattle.bsv_tree.specs.meaning.Meaning.{Meant, Calling}
use Rattle.bsv_tree.proofs.meaning.Same.{Names, Shows, AllShow, AllHold, ran, IsLong, Same, here, got, all_show_words, shows_static}
use Rattle.bsv_tree.proofs.meaning.Pieces.{pushed, ran_more}
use Rattle.bsv_tree.proofs.meaning.Operating.{V}
use Rattle.bsv_tree.proofs.meaning.Nodes.{read_is, act_is}
use Rattle.bsv_tree.proofs.meaning.Expressions.{AllMatch, CallsSame, all_is}

or_fault_is : {A : Type 0} (f : Fault) (o : Option A) (m : A) → calls.or_fault f o ≡ Ok m → o ≡ Some m
or_fault_is f None m e = absurd cc
or_fault_is f (Some x) m e = cc

-- ---- values that are loosened

pub opened_shows : (W : List Bits) (x : Value) (y : Val) → Shows W x y → Shows W (values.opened x) (varied y)
opened_shows W (value.Static c) y s = (word_of y, ap word_of (sym s), refl)
opened_shows W (value.Open a) y s = (word_of y, subst (Names W a) (ap word_of (sym s.2)) s.1, refl)

all_static_same : (W : List Bits) (xs : List Value) (ys : List Val) → AllShow W xs ys → values.all_static xs ≡ all_static ys
all_static_same W [] [] s = refl
all_static_same W (x ∷ xs) (y ∷ ys) s = ap₂ (λ (a b : Bool). if a then b else false) (shows_static W x y s.0) (all_static_same W xs ys s.1)
all_static_same W [] (y ∷ ys) s = absurd s
all_static_same W (x ∷ xs) [] s = absurd s

pub loosened_shows : (W U : List Bits) (xs : List Value) (ys : List Val) → AllShow U xs ys → (x : Value) (y : Val) → Shows W x y → Shows W (carrying.loosened xs x) (meaning.loosened ys y)
loosened_shows W U xs ys s x y t = subst (λ b. Shows W (if values.all_static xs then x else values.opened x) (if b then y else varied y)) (all_static_same U xs ys s) (by (values.all_static xs)) where
  by : (b : Bool) → Shows W (if b then x else values.opened x) (if b then y else varied y)
  by true = t
  by false = opened_shows W x y t

-- what happens at a call, part by part
call_happens : (W : List Bits) (c c' s s' : ℕ) (x x' : SiteCall) (cs cs' : List SiteCall) (ns ns' : List Need) → c ≡ c' → s ≡ s' → x ≡ x' → cs ≡ cs' → ns ≡ ns'
    → ◌≡◌ {A = Happening} (record { words = W; choices = c; sites = s; calls = x ∷ cs; needs = ns }) (record { words = W; choices = c'; sites = s'; calls = x' ∷ cs'; needs = ns' })
call_happens W c c' s s' x x' cs cs' ns ns' e f g h i =
    ap₂ (λ (a b : ℕ). let o : Happening = record { words = W; choices = a; sites = b; calls = x ∷ cs; needs = ns } in o) e f
    ∙ ap₂ (λ (a : SiteCall) (b : List SiteCall). let o : Happening = record { words = W; choices = c'; sites = s'; calls = a ∷ b; needs = ns } in o) g h
    ∙ ap (λ (a : List Need). let o : Happening = record { words = W; choices = c'; sites = s'; calls = x' ∷ cs'; needs = a } in o) i

module _ (r : Results) (call : Caller) (calling : Calling) (calls_same : CallsSame r call calling) (site : Context) where
  -- ---- calls of methods of primitives: the steps of the arguments stand inside the step of the call

  -- what is told of the arguments, one call after
  pub inner_at : (p : Standing) (ws : List Bits) (n k : ℕ) (w : Work) (ms : List Meant) (us : Variables) → Evaluated (List Val)
  inner_at p ws n k w ms us = meaning.all ms us p (ran r p ws n k w).choices ((ran r p ws n k w).sites + 1)

  module _ (p : Standing) (ws : List Bits) (n k : ℕ) (cs : List Carried) (ms : List Meant) (match : AllMatch r cs ms) (vs : List Local) (us : Variables) (w : Work)
      (long : IsLong r p ws n k w) (hold : AllHold (V r p ws n k w) vs us) where
    -- the arguments are carried out alone, from the words that stand
    inner_is : (c : Count) → c.slots ≡ w.count.slots → (xs : List Value) (u : Work) → carrying.all cs vs (no_steps c) ≡ Ok (xs, u)
        → Same r p (V r p ws n k w) (ran r p ws n k w).choices ((ran r p ws n k w).sites + 1) (λ W ys. AllShow W xs ys) (no_steps c) u (inner_at p ws n k w ms us)
    unfolding inner_at in_turn
    inner_is c e xs u g = all_is r cs ms match p (V r p ws n k w) (ran r p ws n k w).choices ((ran r p ws n k w).sites + 1) vs us (no_steps c) (long ∙ sym e) hold xs u g

    pub primitive_is : (instance : ℕ) (q : PartTy) (kd : Kind) (number : ℕ) (c : Count) → c.slots ≡ w.count.slots → (o : MethodPlace × List Atom × Work)
        → carrying.primitive_call call site instance q kd number cs vs c ≡ Ok o
        → (m : ℕ) × (xs : List Value) × (part_method q kd number ≡ Some m) × (o ≡ (record { instance = instance; method = m }, map atom_of xs, o.2))
        × Same r p (V r p ws n k w) (ran r p ws n k w).choices ((ran r p ws n k w).sites + 1) (λ W ys. AllShow W xs ys) (no_steps c) o.2 (inner_at p ws n k w ms us)
    unfolding carrying.primitive_call
    primitive_is instance q kd number c same o e =
        let g = got (carrying.all cs vs (no_steps c)) _ o e in
        let h = got (calls.or_fault (static_fault site) (part_method q kd number)) _ o g.2 in
        let it = same_ok (record { instance = instance; method = h.0 }, map atom_of g.0.0, g.0.1) o h.2 in
        let last : g.0.1 ≡ o.2 = ap (λ (a : MethodPlace × List Atom × Work). a.2) it in (
          h.0,
          g.0.0,
          or_fault_is (static_fault site) (part_method q kd number) h.0 h.1,
          sym it ∙ ap (λ (a : Work). let b : MethodPlace × List Atom × Work = (record { instance = instance; method = h.0 }, map atom_of g.0.0, a) in b) last,
          subst (λ (a : Work). Same r p (V r p ws n k w) (ran r p ws n k w).choices ((ran r p ws n k w).sites + 1) (λ W ys. AllShow W g.0.0 ys) (no_steps c) a (inner_at p ws n k w ms us)) last
              (inner_is c same g.0.0 g.0.1 g.1),
        )

    site_of : Bool → MethodPlace → List Bits → SiteCall
    site_of action m args = record { method = m; action = action; taken = p.taken; branches = p.branches; arguments = args }

    -- of the arguments, and of the call that is before them
    pub read_called : (m : MethodPlace) (c : Count) → (xs : List Value) (i : Work)
        → Same r p (V r p ws n k w) (ran r p ws n k w).choices ((ran r p ws n k w).sites + 1) (λ W ys. AllShow W xs ys) (no_steps c) i (inner_at p ws n k w ms us)
        → (x : Value) (v : Work) → give (at_count w i.count) (step.Read m (map atom_of xs) i.steps) ≡ Ok (x, v)
        → Same r p ws n k (λ W y. Shows W x y) w v (here r p ws n k w (called r false m (meaning.all ms us)))
    unfolding inner_at in_turn site_of
    read_called m c xs i same x v e =
        let W = V r p ws n k w in
        let N = (ran r p ws n k w).choices in
        let K = (ran r p ws n k w).sites in
        let inner = ran r p W N (K + 1) i in
        let asked = meaning.all ms us p N (K + 1) in
        let args : words_of inner.words (map atom_of xs) ≡ map word_of asked.gives = all_show_words inner.words xs asked.gives same.gives in
        let d = here r p ws n k w (called r false m (meaning.all ms us)) in
        let b = r K m (words_of inner.words (map atom_of xs)) in
        let it = pushed r p ws n k (at_count w i.count) inner.words same.adds.within same.long (step.Read m (map atom_of xs) i.steps) x v e b d (
          ap (λ o. varying (r K m o)) (sym args),
          ap (λ (f : running.Run). f r p W N K) (read_is m (map atom_of xs) i.steps)
              ∙ call_happens (inner.words ++ b ∷ []) inner.choices asked.choices inner.sites asked.sites
              (site_of false m (words_of inner.words (map atom_of xs))) (site_of false m (map word_of asked.gives))
              inner.calls asked.calls inner.needs asked.needs
              same.adds.choices same.adds.sites (ap (site_of false m) args) same.adds.calls same.adds.needs,
        ) in
        record { adds = it.adds; long = it.long; gives = it.gives }

    pub act_called : (m : MethodPlace) (c : Count) → (xs : List Value) (i : Work)
        → Same r p (V r p ws n k w) (ran r p ws n k w).choices ((ran r p ws n k w).sites + 1) (λ W ys. AllShow W xs ys) (no_steps c) i (inner_at p ws n k w ms us)
        → Same r p ws n k (λ W y. Shows W (values.truth false) y) w (with_step w (step.Act m (map atom_of xs) i.steps) i.count) (here r p ws n k w (called r true m (meaning.all ms us)))
    unfolding inner_at in_turn site_of
    act_called m c xs i same =
        let W = V r p ws n k w in
        let N = (ran r p ws n k w).choices in
        let K = (ran r p ws n k w).sites in
        let inner = ran r p W N (K + 1) i in
        let asked = meaning.all ms us p N (K + 1) in
        let args : words_of inner.words (map atom_of xs) ≡ map word_of asked.gives = all_show_words inner.words xs asked.gives same.gives in
        let d = here r p ws n k w (called r true m (meaning.all ms us)) in
        let end : Happening = record { words = inner.words ++ []; choices = d.choices; sites = d.sites; calls = (ran r p ws n k w).calls ++ d.calls; needs = (ran r p ws n k w).needs ++ d.needs } in
        let it : ran r p ws n k (with_step w (step.Act m (map atom_of xs) i.steps) i.count) ≡ end =
        ran_more r p ws n k w (step.Act m (map atom_of xs) i.steps) i.count
        ∙ ap (running.followed (ran r p ws n k w)) (ap (λ (f : running.Run). f r p W N K) (act_is m (map atom_of xs) i.steps)
        ∙ call_happens (inner.words ++ []) inner.choices asked.choices inner.sites asked.sites
        (site_of true m (words_of inner.words (map atom_of xs))) (site_of true m (map word_of asked.gives))
        inner.calls asked.calls inner.needs asked.needs
        same.adds.choices same.adds.sites (ap (site_of true m) args) same.adds.calls same.adds.needs) in
        record {
          adds = record {
            within = λ j x g. ap (λ (o : Happening). slice_get o.words j) it ∙ ap (λ o. slice_get o j) (append-nil inner.words) ∙ same.adds.within j x g;
            choices = ap (λ (o : Happening). o.choices) it;
            sites = ap (λ (o : Happening). o.sites) it;
            calls = ap (λ (o : Happening). o.calls) it;
            needs = ap (λ (o : Happening). o.needs) it;
          };
          long = ap (λ (o : Happening). length o.words) it ∙ ap (λ (o : List Bits). length o) (append-nil inner.words) ∙ same.long;
          gives = refl;
        }

-- Steps that are added one by one, and values that are settled at once.
use Rattle.std.proofs.Common.{◌≡◌, ℕ, ◌+◌, Bool, true, false, List, [], ◌∷◌, ◌++◌, length, map, Option, Some, None, Ok, Err, refl, sym, ap, ap₂, ◌∙◌, subst, append_assoc, append-nil, length-append}
use Rattle.std.specs.Prelude.{slice_get, option_map, if◌then◌else◌, nat_lt, nat_le}
use Rattle.std.proofs.lemmas.List.{map-append}
use Rattle.bsv_lemmas.proofs.Choices.{same_ok}
use Rattle.bsv_bits.specs.Words.{Bits}
use Rattle.bsv_tree.specs.declared.steps.Atom.TheVariants as atom
use Rattle.bsv_tree.specs.declared.steps.Compute.{Compute}
use Rattle.bsv_tree.specs.declared.steps.Step.{Step}
use Rattle.bsv_tree.specs.declared.steps.Step.TheVariants as step
use Rattle.bsv_tree.specs.declared.values.Value.{Value}
use Rattle.bsv_tree.specs.declared.values.Value.TheVariants as value
use Rattle.bsv_tree.specs.declared.values.Constant.TheVariants as constant
use Rattle.bsv_tree.specs.declared.values.Count.{Count}
use Rattle.bsv_tree.specs.declared.values.Work.{Work}
use Rattle.bsv_tree.specs.carrying.Values.{atom_of, known}
use Rattle.bsv_tree.specs.carrying.Running as running
use Rattle.bsv_tree.specs.meaning.Evaluation.{Results, Standing}
use Rattle.bsv_tree.specs.carrying.Running.{Happening, Run, in_turn, run, followed, computed}
use Rattle.bsv_tree.specs.carrying.Working.{Valued, with_step, at_count, fresh, give, settle, of_two, of_three, tick, counted}
use Rattle.bsv_tree.specs.meaning.Values.{constant_word, Value as Val, static, varying, word_of, one, two, three}
use Rattle.bsv_tree.specs.meaning.Evaluation as evaluation
use Rattle.bsv_tree.specs.meaning.Evaluation.{Evaluated, Evaluation, yields, in_order}
use Rattle.bsv_tree.proofs.meaning.Same.{Within, Shows, Adds, ran, IsLong, Same, here, one_more, got, within_append, at_end, shows_word}
use Rattle.bsv_tree.proofs.meaning.Nodes.{let_is}

-- ---- counts

pub by_if : {A E : Type 0} (b : Bool) (x : A) (e : E) (y : A) → (if b then Ok x else Err e) ≡ Ok y → x ≡ y
by_if true x e y h = same_ok x y h
by_if false x e y h = absurd cc

pub fresh_is : (c : Count) (more : ℕ) (d : Count) → fresh c more ≡ Ok d → d.slots ≡ c.slots + more
unfolding fresh
fresh_is c more d h = ap (λ (x : Count). x.slots) (sym (by_if (nat_lt (c.slots + more) 4294967296) (record { weight = c.weight; slots = c.slots + more }) _ d h))

pub tick_is : (c : Count) (more : ℕ) (d : Count) → tick c more ≡ Ok d → d.slots ≡ c.slots
unfolding tick
tick_is c more d h = ap (λ (x : Count). x.slots) (sym (by_if (nat_le (c.weight + more) 2000000) (record { weight = c.weight + more; slots = c.slots }) _ d h))

-- weight changes no steps and no slots
pub record Alike (w v : Work) : Type 0 where
  pub steps : v.steps ≡ w.steps
  pub slots : v.count.slots ≡ w.count.slots

pub counted_is : (w : Work) (more : ℕ) (v : Work) → counted w more ≡ Ok v → Alike w v
unfolding counted
counted_is w more v h =
    let g = got (tick w.count more) (λ c. Ok (at_count w c)) v h in
    let e = same_ok (at_count w g.0) v g.2 in
    record { steps = ap (λ (x : Work). x.steps) (sym e); slots = ap (λ (x : Work). x.count.slots) (sym e) ∙ tick_is w.count more g.0 g.1 }

module _ (r : Results) (p : Standing) (ws : List Bits) (n k : ℕ) where
  abbrev pub Gets : Value → Work → Work → Evaluated Val → Type 0
  Gets x w v d = Same r p ws n k (λ V y. Shows V x y) w v d

  -- ---- adding nothing, and one after the other

  pub adds_none : {A : Type 0} (a : Happening) (x : A) → Adds a a (record { gives = x; choices = a.choices; sites = a.sites; calls = []; needs = [] })
  adds_none a x = record { within = λ i w e. e; choices = refl; sites = refl; calls = sym (append-nil a.calls); needs = sym (append-nil a.needs) }

  pub adds_then : {A B : Type 0} (a b c : Happening) (d : Evaluated A) (e : Evaluated B) → Adds a b d → Adds b c e → Adds a c (in_order d e)
  adds_then a b c d e f g = record {
    within = λ i w h. g.within i w (f.within i w h);
    choices = g.choices;
    sites = g.sites;
    calls = g.calls ∙ ap (λ xs. xs ++ e.calls) f.calls ∙ append_assoc a.calls d.calls e.calls;
    needs = g.needs ∙ ap (λ xs. xs ++ e.needs) f.needs ∙ append_assoc a.needs d.needs e.needs;
  }

  -- the second is asked where the first one ended
  pub adds_on : {A B : Type 0} (w v u : Work) (m : Evaluated A) (f : Evaluation B) → Adds (ran r p ws n k w) (ran r p ws n k v) m
      → Adds (ran r p ws n k v) (ran r p ws n k u) (here r p ws n k v f) → Adds (ran r p ws n k w) (ran r p ws n k u) (in_order m (f p m.choices m.sites))
  adds_on w v u m f g h =
      subst (λ i. Adds (ran r p ws n k w) (ran r p ws n k u) (in_order m (f p i m.sites))) g.choices
      (subst (λ j. Adds (ran r p ws n k w) (ran r p ws n k u) (in_order m (f p (ran r p ws n k v).choices j))) g.sites (adds_then _ _ _ m _ g h))

  -- what is told in two parts
  pub bound : {A B : Type 0} (Q : List Bits → A → Type 0) (R : List Bits → B → Type 0) (w u v : Work) (m : Evaluation A) (f : A → Evaluation B)
      → Same r p ws n k Q w u (here r p ws n k w m) → Same r p ws n k R u v (here r p ws n k u (f (here r p ws n k w m).gives))
      → Same r p ws n k R w v (here r p ws n k w (evaluation.◌>>=◌ m f))
  bound Q R w u v m f g h =
      let d = here r p ws n k w m in
      record {
        adds = adds_on w u v d (f d.gives) g.adds h.adds;
        long = h.long;
        gives = subst (λ i. R (ran r p ws n k v).words (f d.gives p i d.sites).gives) g.adds.choices
            (subst (λ j. R (ran r p ws n k v).words (f d.gives p (ran r p ws n k u).choices j).gives) g.adds.sites h.gives);
      }

  pub given : {A B : Type 0} (Q : List Bits → A → Type 0) (R : List Bits → B → Type 0) (w v : Work) (m : Evaluation A) (f : A → B)
      → Same r p ws n k Q w v (here r p ws n k w m) → R (ran r p ws n k v).words (f (here r p ws n k w m).gives)
      → Same r p ws n k R w v (here r p ws n k w (evaluation.◌>>=◌ m (λ x. yields (f x))))
  given Q R w v m f g h =
      let d = here r p ws n k w m in
      record {
        adds = record {
          within = g.adds.within;
          choices = g.adds.choices;
          sites = g.adds.sites;
          calls = g.adds.calls ∙ ap (λ cs. (ran r p ws n k w).calls ++ cs) (sym (append-nil d.calls));
          needs = g.adds.needs ∙ ap (λ cs. (ran r p ws n k w).needs ++ cs) (sym (append-nil d.needs));
        };
        long = g.long;
        gives = h;
      }

  pub nothing_more : {A : Type 0} (Q : List Bits → A → Type 0) (w : Work) → IsLong r p ws n k w → (x : A) → Q (ran r p ws n k w).words x → Same r p ws n k Q w w (here r p ws n k w (yields x))
  nothing_more Q w long x q = record { adds = adds_none (ran r p ws n k w) x; long = long; gives = q }

  -- the same steps
  pub alike_long : (w v : Work) → Alike w v → IsLong r p ws n k w → IsLong r p ws n k v
  alike_long w v e h = ap (λ ss. length (in_turn (map run ss) r p ws n k).words) e.steps ∙ h ∙ sym e.slots

  pub alike_ran : (w v : Work) → Alike w v → ran r p ws n k v ≡ ran r p ws n k w
  alike_ran w v e = ap (λ ss. in_turn (map run ss) r p ws n k) e.steps

  pub from_alike : {A : Type 0} (Q : List Bits → A → Type 0) (w u v : Work) (m : Evaluation A) → Alike w u
      → Same r p ws n k Q u v (here r p ws n k u m) → Same r p ws n k Q w v (here r p ws n k w m)
  from_alike Q w u v m e g = record {
    adds = subst (λ (h : Happening). Adds h (ran r p ws n k v) (m p h.choices h.sites)) (alike_ran w u e) g.adds;
    long = g.long;
    gives = subst (λ (h : Happening). Q (ran r p ws n k v).words (m p h.choices h.sites).gives) (alike_ran w u e) g.gives;
  }

  -- the same at a later count
  pub to_alike : {A : Type 0} (Q : List Bits → A → Type 0) (w u v : Work) (d : Evaluated A) → Alike u v
      → Same r p ws n k Q w u d → Same r p ws n k Q w v d
  to_alike Q w u v d e g = record {
    adds = subst (λ (h : Happening). Adds (ran r p ws n k w) h d) (sym (alike_ran u v e)) g.adds;
    long = alike_long u v e g.long;
    gives = subst (λ (h : Happening). Q h.words d.gives) (sym (alike_ran u v e)) g.gives;
  }

  -- ---- a step that gives one value

  pub ran_more : (w : Work) (s : Step) (c : Count) → ran r p ws n k (with_step w s c) ≡ (let a = ran r p ws n k w in followed a (run s r p a.words a.choices a.sites))
  ran_more w s c = ap (λ xs. in_turn xs r p ws n k) (map-append run w.steps (s ∷ [])) ∙ one_more r p ws n k (map run w.steps) (run s)

  -- a step whose run ends with one value more, after these words
  abbrev pub Pushes : Work → List Bits → Step → Bits → Evaluated Val → Type 0
  Pushes w W s b d = (d.gives ≡ varying b)
      × (run s r p (ran r p ws n k w).words (ran r p ws n k w).choices (ran r p ws n k w).sites ≡ record { words = W ++ b ∷ []; choices = d.choices; sites = d.sites; calls = d.calls; needs = d.needs })

  pushed_at : (w : Work) (W : List Bits) → Within (ran r p ws n k w).words W → length W ≡ w.count.slots → (s : Step) (c : Count) → c.slots ≡ w.count.slots + 1 → (b : Bits) (d : Evaluated Val) → Pushes w W s b d
      → Gets (value.Open (atom.Slot w.count.slots)) w (with_step w s c) d
  pushed_at w W on long s c one b d h =
      let end : Happening = record { words = W ++ b ∷ []; choices = d.choices; sites = d.sites; calls = (ran r p ws n k w).calls ++ d.calls; needs = (ran r p ws n k w).needs ++ d.needs } in
      let it : ran r p ws n k (with_step w s c) ≡ end = ran_more w s c ∙ ap (followed (ran r p ws n k w)) h.1 in
      record {
        adds = record {
          within = λ i x j. ap (λ (o : Happening). slice_get o.words i) it ∙ within_append W (b ∷ []) i x (on i x j);
          choices = ap (λ (o : Happening). o.choices) it;
          sites = ap (λ (o : Happening). o.sites) it;
          calls = ap (λ (o : Happening). o.calls) it;
          needs = ap (λ (o : Happening). o.needs) it;
        };
        long = ap (λ (o : Happening). length o.words) it ∙ length-append W (b ∷ []) ∙ ap (λ i. i + 1) long ∙ sym one;
        gives = (b, ap (λ (o : Happening). slice_get o.words w.count.slots) it ∙ ap (slice_get (W ++ b ∷ [])) (sym long) ∙ at_end W b, h.0);
      }

  pub pushed : (w : Work) (W : List Bits) → Within (ran r p ws n k w).words W → length W ≡ w.count.slots → (s : Step) (x : Value) (v : Work) → give w s ≡ Ok (x, v)
      → (b : Bits) (d : Evaluated Val) → Pushes w W s b d → Gets x w v d
  unfolding give
  pushed w W on long s x v h b d does =
      let g = got (fresh w.count 1) (λ c. Ok (value.Open (atom.Slot w.count.slots), with_step w s c)) (x, v) h in
      let e = same_ok (value.Open (atom.Slot w.count.slots), with_step w s g.0) (x, v) g.2 in
      let at = pushed_at w W on long s g.0 (fresh_is w.count 1 g.0 g.1) b d does in
      subst (λ (o : Value × Work). Gets o.0 w o.1 d) e at

  module _ (w : Work) (long : IsLong r p ws n k w) where
    -- a value that is there at once
    pub at_once : (x y : Value) (v : Work) (z : Val) → ◌≡◌ {A = Valued} (Ok (x, w)) (Ok (y, v)) → Shows (ran r p ws n k w).words x z → Gets y w v (here r p ws n k w (yields z))
    at_once x y v z h s =
        subst (λ (o : Value × Work). Gets o.0 w o.1 (here r p ws n k w (yields z))) (same_ok (x, w) (y, v) h)
        (record { adds = adds_none (ran r p ws n k w) z; long = long; gives = s })

    let_gives : (c : Compute) (x : Value) (v : Work) → give w (step.Let c) ≡ Ok (x, v) → Gets x w v (here r p ws n k w (yields (varying (computed (ran r p ws n k w).words c))))
    let_gives c x v h =
        pushed w (ran r p ws n k w).words (λ i y j. j) long (step.Let c) x v h (computed (ran r p ws n k w).words c) _
        (refl, ap (λ (f : Run). f r p (ran r p ws n k w).words (ran r p ws n k w).choices (ran r p ws n k w).sites) (let_is c))

    settled : (o : Option Bits) (c : Compute) (x : Value) (v : Work) → settle w o c ≡ Ok (x, v) → (y : Val)
        → ((b : Bits) → o ≡ Some b → y ≡ static (constant.Bits b)) → (o ≡ None → y ≡ varying (computed (ran r p ws n k w).words c)) → Gets x w v (here r p ws n k w (yields y))
    settled (Some b) c x v h y f g = at_once (value.Static (constant.Bits b)) x v y h (f b refl)
    settled None c x v h y f g = subst (λ z. Gets x w v (here r p ws n k w (yields z))) (sym (g refl)) (let_gives c x v h)

    -- ---- what one, two and three operands give

    same_bits : (x b : Bits) → Some x ≡ Some b → static (constant.Bits x) ≡ static (constant.Bits b)
    same_bits x b e = let it : x ≡ b = cc in ap (λ z. static (constant.Bits z)) it

    pub one_gives : (f : Bits → Bits) (c : Compute) (x : Value) (y : Val) → Shows (ran r p ws n k w).words x y
        → computed (ran r p ws n k w).words c ≡ f (running.word_of (ran r p ws n k w).words (atom_of x))
        → (z : Value) (v : Work) → settle w (option_map f (known x)) c ≡ Ok (z, v) → Gets z w v (here r p ws n k w (yields (one f y)))
    one_gives f c (value.Static d) y s e z v h =
        settled (Some (f (constant_word d))) c z v h (one f y) (λ b i. ap (one f) s ∙ same_bits _ b i) (λ i. absurd cc)
    one_gives f c (value.Open d) y s e z v h =
        settled None c z v h (one f y) (λ b i. absurd cc)
        (λ i. ap (one f) s.2 ∙ ap varying (ap f (sym (shows_word (ran r p ws n k w).words (value.Open d) y s ∙ ap word_of s.2)) ∙ sym e))

    pub two_gives : (f : Bits → Bits → Bits) (c : Compute) (x x' : Value) (y y' : Val) → Shows (ran r p ws n k w).words x y → Shows (ran r p ws n k w).words x' y'
        → computed (ran r p ws n k w).words c ≡ f (running.word_of (ran r p ws n k w).words (atom_of x)) (running.word_of (ran r p ws n k w).words (atom_of x'))
        → (z : Value) (v : Work) → settle w (of_two f (known x) (known x')) c ≡ Ok (z, v) → Gets z w v (here r p ws n k w (yields (two f y y')))
    two_gives f c (value.Static d) (value.Static d') y y' s s' e z v h =
        settled (Some (f (constant_word d) (constant_word d'))) c z v h (two f y y') (λ b i. ap₂ (two f) s s' ∙ same_bits _ b i) (λ i. absurd cc)
    two_gives f c (value.Static d) (value.Open d') y y' s s' e z v h =
        settled None c z v h (two f y y') (λ b i. absurd cc)
        (λ i. ap₂ (two f) s s'.2 ∙ ap varying (ap (f (constant_word d)) (sym (shows_word (ran r p ws n k w).words (value.Open d') y' s' ∙ ap word_of s'.2)) ∙ sym e))
    two_gives f c (value.Open d) (value.Static d') y y' s s' e z v h =
        settled None c z v h (two f y y') (λ b i. absurd cc)
        (λ i. ap₂ (two f) s.2 s' ∙ ap varying (ap (λ u. f u (constant_word d')) (sym (shows_word (ran r p ws n k w).words (value.Open d) y s ∙ ap word_of s.2)) ∙ sym e))
    two_gives f c (value.Open d) (value.Open d') y y' s s' e z v h =
        settled None c z v h (two f y y') (λ b i. absurd cc)
        (λ i. ap₂ (two f) s.2 s'.2 ∙ ap varying (ap₂ f (sym (shows_word (ran r p ws n k w).words (value.Open d) y s ∙ ap word_of s.2)) (sym (shows_word (ran r p ws n k w).words (value.Open d') y' s' ∙ ap word_of s'.2)) ∙ sym e))

    word_is : (x : Value) (y : Val) → Shows (ran r p ws n k w).words x y → running.word_of (ran r p ws n k w).words (atom_of x) ≡ word_of y
    word_is x y s = shows_word (ran r p ws n k w).words x y s

    -- what three values give, one of which is not static
    open_three : (f : Bits → Bits → Bits → Bits) (c : Compute) (x x' x'' : Value) (y y' y'' : Val)
        → Shows (ran r p ws n k w).words x y → Shows (ran r p ws n k w).words x' y' → Shows (ran r p ws n k w).words x'' y''
        → computed (ran r p ws n k w).words c ≡ f (running.word_of (ran r p ws n k w).words (atom_of x)) (running.word_of (ran r p ws n k w).words (atom_of x')) (running.word_of (ran r p ws n k w).words (atom_of x''))
        → three f y y' y'' ≡ varying (f (word_of y) (word_of y') (word_of y''))
        → (z : Value) (v : Work) → settle w None c ≡ Ok (z, v) → Gets z w v (here r p ws n k w (yields (three f y y' y'')))
    open_three f c x x' x'' y y' y'' s s' s'' e g z v h =
        settled None c z v h (three f y y' y'') (λ b i. absurd cc)
        (λ i. g ∙ ap varying (ap₂ (λ (a b : Bits). f a b (word_of y'')) (sym (word_is x y s)) (sym (word_is x' y' s')) ∙ ap (f _ _) (sym (word_is x'' y'' s'')) ∙ sym e))

    pub three_gives : (f : Bits → Bits → Bits → Bits) (c : Compute) (x x' x'' : Value) (y y' y'' : Val)
        → Shows (ran r p ws n k w).words x y → Shows (ran r p ws n k w).words x' y' → Shows (ran r p ws n k w).words x'' y''
        → computed (ran r p ws n k w).words c ≡ f (running.word_of (ran r p ws n k w).words (atom_of x)) (running.word_of (ran r p ws n k w).words (atom_of x')) (running.word_of (ran r p ws n k w).words (atom_of x''))
        → (z : Value) (v : Work) → settle w (of_three f (known x) (known x') (known x'')) c ≡ Ok (z, v) → Gets z w v (here r p ws n k w (yields (three f y y' y'')))
    three_gives f c (value.Static d) (value.Static d') (value.Static d'') y y' y'' s s' s'' e z v h =
        settled (Some (f (constant_word d) (constant_word d') (constant_word d''))) c z v h (three f y y' y'')
        (λ b i. ap₂ (λ (a b : Val). three f a b y'') s s' ∙ ap (three f (static d) (static d')) s'' ∙ same_bits _ b i) (λ i. absurd cc)
    three_gives f c (value.Static d) (value.Static d') (value.Open d'') y y' y'' s s' s'' e z v h =
        open_three f c (value.Static d) (value.Static d') (value.Open d'') y y' y'' s s' s'' e
        (subst (λ a. three f a y' y'' ≡ varying (f (word_of a) (word_of y') (word_of y''))) (sym s) (subst (λ a. three f (static d) a y'' ≡ varying (f (word_of (static d)) (word_of a) (word_of y''))) (sym s') (subst (λ a. three f (static d) (static d') a ≡ varying (f (word_of (static d)) (word_of (static d')) (word_of a))) (sym s''.2) refl))) z v h
    three_gives f c (value.Static d) (value.Open d') x'' y y' y'' s s' s'' e z v h =
        open_three f c (value.Static d) (value.Open d') x'' y y' y'' s s' s'' e
        (subst (λ a. three f a y' y'' ≡ varying (f (word_of a) (word_of y') (word_of y''))) (sym s) (subst (λ a. three f (static d) a y'' ≡ varying (f (word_of (static d)) (word_of a) (word_of y''))) (sym s'.2) refl)) z v h
    three_gives f c (value.Open d) x' x'' y y' y'' s s' s'' e z v h =
        open_three f c (value.Open d) x' x'' y y' y'' s s' s'' e
        (subst (λ a. three f a y' y'' ≡ varying (f (word_of a) (word_of y') (word_of y''))) (sym s.2) refl) z v h

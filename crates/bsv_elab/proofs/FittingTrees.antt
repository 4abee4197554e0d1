-- What is in a tree is there too when more instances come after it, or an instance of a module is built.
use Rattle.std.proofs.Common.{◌≡◌, ◌∙◌, ℕ, zero, suc, List, [], ◌∷◌, ◌++◌, Option, Some, None, refl, sym, ap, subst, append-nil, append_assoc, ◌⊎◌, inl, inr}
use Rattle.std.specs.Prelude.{take, slice_get}
use Rattle.std.proofs.lemmas.Option.{same_Some}
use Rattle.bsv_types.specs.declared.modules.Module.{Module}
use Rattle.bsv_types.specs.declared.typed.Typed.{Typed}
use Rattle.bsv_types.specs.Expressions.{Slot, one, many, Frame}
use Rattle.bsv_types.specs.Kinds.{Kind as Sort}
use Rattle.bsv_tree.specs.declared.statics.Binding.{Binding}
use Rattle.bsv_tree.specs.declared.statics.Static.{Static}
use Rattle.bsv_tree.specs.declared.statics.Static.TheVariants as static
use Rattle.bsv_tree.specs.declared.tree.Built.{Built}
use Rattle.bsv_tree.specs.declared.tree.BuiltRule.{BuiltRule}
use Rattle.bsv_tree.specs.declared.tree.Instance.{Instance}
use Rattle.bsv_tree.specs.declared.tree.Made.{Made}
use Rattle.bsv_tree.specs.declared.tree.Made.TheVariants as made
use Rattle.bsv_tree.specs.tree.Contexts.{made_of}
use Rattle.bsv_tree.specs.tree.Trees.{Provides, Stands, MayStand, AllMayStand, Fits, AllFit, RuleAgrees, Agrees, interface_of}

-- the same thing is there with more after
pub made_front : (is more : List Instance) (n : ℕ) (what : Made) → made_of (slice_get is n) ≡ Some what → made_of (slice_get (is ++ more) n) ≡ Some what
made_front [] more n what e = absurd cc
made_front (i ∷ is) more zero what e = e
made_front (i ∷ is) more (suc n) what e = made_front is more n what e

-- an instance is put in the place of another one
made_put : (is more : List Instance) (u i : Instance) (n : ℕ) (what : Made) → made_of (slice_get (is ++ u ∷ more) n) ≡ Some what
    → (made_of (slice_get (is ++ i ∷ more) n) ≡ Some what) ⊎ ((u.made ≡ what) × (made_of (slice_get (is ++ i ∷ more) n) ≡ Some i.made))
made_put [] more u i zero what e = inr (same_Some u.made what e, refl)
made_put [] more u i (suc n) what e = inl e
made_put (x ∷ is) more u i zero what e = inl e
made_put (x ∷ is) more u i (suc n) what e = made_put is more u i n what e

module _ (t : Typed) where
  -- what is in the first tree is in the second one
  abbrev pub Keeps : List Instance → List Instance → Type 0
  Keeps is js = (k : Sort) (n : ℕ) → Stands t is k n → Stands t js k n

  pub front_keeps : (is more : List Instance) → Keeps is (is ++ more)
  front_keeps is more k n h = record { what = h.what; at = made_front is more n h.what h.at; provides = h.provides }

  provides_same : (k : Sort) (b c : Built) → c.«module» ≡ b.«module» → Provides t k (made.Module b) → Provides t k (made.Module c)
  provides_same k b c is h = subst (λ (j : ℕ). interface_of (slice_get t.modules j) ≡ Some k) (sym is) h

  -- a module that is built provides what it did before
  pub put_keeps : (is more : List Instance) (u i : Instance) (b c : Built) → u.made ≡ made.Module b → i.made ≡ made.Module c → c.«module» ≡ b.«module» → Keeps (is ++ u ∷ more) (is ++ i ∷ more)
  put_keeps is more u i b c before behind same k n h =
      elim (made_put is more u i n h.what h.at) [
        | inl e ↦ record { what = h.what; at = e; provides = h.provides }
        | inr e ↦ record {
          what = made.Module c;
          at = e.1 ∙ ap Some behind;
          provides = provides_same k b c same (subst (Provides t k) (sym e.0 ∙ before) h.provides);
        }
      ]

  -- rules agree with a module
  abbrev pub RulesAgree : List Instance → Module → List BuiltRule → Type 0
  RulesAgree is m [] = Unit {0}
  RulesAgree is m (r ∷ rs) = RuleAgrees t is m r × RulesAgree is m rs

  module _ (is js : List Instance) (keeps : Keeps is js) where
    may_kept : (k : Sort) (o : Option ℕ) → MayStand t is k o → MayStand t js k o
    may_kept k None h = tt
    may_kept k (Some n) h = keeps k n h

    all_may_kept : (k : Sort) (ns : List (Option ℕ)) → AllMayStand t is k ns → AllMayStand t js k ns
    all_may_kept k [] h = tt
    all_may_kept k (n ∷ ns) h = (may_kept k n h.0, all_may_kept k ns h.1)

    pub fits_kept : (s : Slot) (x : Static) → Fits t is s x → Fits t js s x
    fits_kept (one k) (static.Number n) h = h
    fits_kept (one k) (static.Bits w) h = h
    fits_kept (one k) (static.Truth b) h = h
    fits_kept (one k) (static.Place n) h = keeps k n h
    fits_kept (one k) (static.Places ns) h = h
    fits_kept (many k) (static.Number n) h = h
    fits_kept (many k) (static.Bits w) h = h
    fits_kept (many k) (static.Truth b) h = h
    fits_kept (many k) (static.Place n) h = h
    fits_kept (many k) (static.Places ns) h = all_may_kept k ns h

    pub all_fit_kept : (f : Frame) (bs : List Binding) → AllFit t is f bs → AllFit t js f bs
    all_fit_kept [] [] h = tt
    all_fit_kept [] (b ∷ bs) h = h
    all_fit_kept (s ∷ ss) [] h = h
    all_fit_kept (s ∷ ss) (b ∷ bs) h = (fits_kept s b.value h.0, all_fit_kept ss bs h.1)

    pub rule_kept : (m : Module) (r : BuiltRule) → RuleAgrees t is m r → RuleAgrees t js m r
    rule_kept m r h = record { frame = h.frame; typed = h.typed; fits = all_fit_kept h.frame r.bindings h.fits }

    pub agrees_kept : (b : Built) → Agrees t is b → Agrees t js b
    agrees_kept b h = record {
      «module» = h.«module»;
      of = h.of;
      rules = λ place r there. rule_kept h.«module» r (h.rules place r there);
      as_many = h.as_many;
      methods = λ number levels there.
          let g = h.methods number levels there in
          record { frame = g.frame; typed = g.typed; fits = all_fit_kept g.frame (take levels b.bindings) g.fits };
    }

    pub rules_kept : (m : Module) (rs : List BuiltRule) → RulesAgree is m rs → RulesAgree js m rs
    rules_kept m [] h = tt
    rules_kept m (r ∷ rs) h = (rule_kept m r h.0, rules_kept m rs h.1)

  -- what is made agrees
  abbrev pub MadeAgrees : List Instance → Made → Type 0
  MadeAgrees is (made.Primitive p k) = Unit {0}
  MadeAgrees is (made.Module b) = Agrees t is b

  abbrev pub AllAgree : List Instance → List Instance → Type 0
  AllAgree is [] = Unit {0}
  AllAgree is (i ∷ more) = MadeAgrees is i.made × AllAgree is more

  made_kept : (is js : List Instance) → Keeps is js → (what : Made) → MadeAgrees is what → MadeAgrees js what
  made_kept is js keeps (made.Primitive p k) h = tt
  made_kept is js keeps (made.Module b) h = agrees_kept is js keeps b h

  pub all_agree_kept : (is js : List Instance) → Keeps is js → (more : List Instance) → AllAgree is more → AllAgree js more
  all_agree_kept is js keeps [] h = tt
  all_agree_kept is js keeps (i ∷ more) h = (made_kept is js keeps i.made h.0, all_agree_kept is js keeps more h.1)

  pub all_agree_both : (is xs ys : List Instance) → AllAgree is xs → AllAgree is ys → AllAgree is (xs ++ ys)
  all_agree_both is [] ys h g = g
  all_agree_both is (i ∷ xs) ys h g = (h.0, all_agree_both is xs ys h.1 g)

  made_agrees : (is : List Instance) (x y : Made) → x ≡ y → MadeAgrees is x → MadeAgrees is y
  made_agrees is x y e h = subst (MadeAgrees is) e h

  -- one of them agrees
  pub agrees_at : (is xs : List Instance) (n : ℕ) (b : Built) → AllAgree is xs → made_of (slice_get xs n) ≡ Some (made.Module b) → Agrees t is b
  agrees_at is [] n b h e = absurd cc
  agrees_at is (i ∷ xs) zero b h e = made_agrees is i.made (made.Module b) (same_Some i.made (made.Module b) e) h.0
  agrees_at is (i ∷ xs) (suc n) b h e = agrees_at is xs n b h.1 e

  -- instances that agree come after
  pub record Grew (is js : List Instance) : Type 0 where
    pub more : List Instance
    pub are : js ≡ is ++ more
    pub agree : AllAgree js more

  pub grew_none : (is : List Instance) → Grew is is
  grew_none is = record { more = []; are = sym (append-nil is); agree = tt }

  pub grew_keeps : (is js : List Instance) → Grew is js → Keeps is js
  grew_keeps is js h = subst (Keeps is) (sym h.are) (front_keeps is h.more)

  pub grew_more : (is js ks : List Instance) → Grew is js → Grew js ks → Grew is ks
  grew_more is js ks h g = record {
    more = h.more ++ g.more;
    are = g.are ∙ ap (λ xs. xs ++ g.more) h.are ∙ append_assoc is h.more g.more;
    agree = all_agree_both ks h.more g.more (all_agree_kept js ks (grew_keeps js ks g) h.more h.agree) g.agree;
  }

-- The body of a module while it is carried out: its variables fit the scope in which the next statement is typed, and
-- its rules agree with their sources.
use Rattle.std.proofs.Common.{◌≡◌, ◌∙◌, ℕ, true, List, [], ◌∷◌, ◌++◌, length, take, Some, Ok, refl, sym, ap, subst, append-nil, append_assoc}
use Rattle.std.specs.Prelude.{slice_get}
use Rattle.bsv_lemmas.proofs.Choices.{same_ok}
use Rattle.bsv_lemmas.proofs.Lists.{left_empty, right_empty}
use Rattle.bsv_fail.specs.Given.{◌>>=◌}
use Rattle.bsv_types.specs.declared.modules.Module.{Module}
use Rattle.bsv_types.specs.declared.typed.Typed.{Typed}
use Rattle.bsv_types.specs.Expressions.{Slot, Frame}
use Rattle.bsv_types.specs.Statements.{Run, inner}
use Rattle.bsv_tree.specs.declared.statics.Binding.{Binding}
use Rattle.bsv_tree.specs.declared.statics.Static.{Static}
use Rattle.bsv_tree.specs.tree.Trees.{Fits, AllFit}
use Rattle.bsv_elab.specs.declared.state.State.{State}
use Rattle.bsv_elab.specs.Statics.{Builds, weigh, at_weight, bind, binding, with_binding, cut, inside}
use Rattle.bsv_elab.proofs.FittingTrees.{RulesAgree, Grew, grew_none, grew_more}
use Rattle.bsv_elab.proofs.FittingScopes.{fit_length, fit_more, fit_put, fit_cut, AllWide, Wide, wide_more, wide_cut}
use Rattle.bsv_elab.proofs.FittingSteps.{went, weigh_same, inner_is}

module _ (t : Typed) (m : Module) where
  pub record Fit (f : Frame) (s : State) : Type 0 where
    pub fits : AllFit t s.grown.instances f s.scope.bindings
    pub widths : AllWide t f s.scope.widths
    pub rules : RulesAgree t s.grown.instances m s.scope.rules

  -- carried out from a state that fits to another one; the numbers are those of the methods that were met
  pub record Moved (f : Frame) (s : State) (g : Frame) (r : State) (ns : List ℕ) : Type 0 where
    pub grew : Grew t s.grown.instances r.grown.instances
    pub fit : Fit g r
    pub more : Frame
    pub longer : g ≡ f ++ more
    pub quiet : ns ≡ [] → r.scope.levels ≡ s.scope.levels
    pub as_many : length r.scope.levels ≡ length s.scope.levels

  -- from a run of the typing to what is carried out
  abbrev pub Preserves : Builds → Run → List ℕ → Type 0
  Preserves a x ns = (s r : State) (f g : Frame) → Fit f s → x f ≡ Some g → a s ≡ Ok r → Moved f s g r ns

  -- the same for a part whose variables are cut after it
  abbrev pub PreservesInside : Builds → Run → List ℕ → Type 0
  PreservesInside a x ns = (s r : State) (f : Frame) → Fit f s → inner x f ≡ true → inside a s ≡ Ok r → Moved f s f r ns

  pub still : (f : Frame) (s : State) (ns : List ℕ) → Fit f s → Moved f s f s ns
  still f s ns h = record { grew = grew_none t s.grown.instances; fit = h; more = []; longer = sym (append-nil f); quiet = λ e. refl; as_many = refl }

  pub moved_more : (f g h : Frame) (s r q : State) (ns ms ks : List ℕ) → (ks ≡ [] → ns ≡ []) → (ks ≡ [] → ms ≡ []) → Moved f s g r ns → Moved g r h q ms → Moved f s h q ks
  moved_more f g h s r q ns ms ks left right a b = record {
    grew = grew_more t s.grown.instances r.grown.instances q.grown.instances a.grew b.grew;
    fit = b.fit;
    more = a.more ++ b.more;
    longer = b.longer ∙ ap (λ x. x ++ b.more) a.longer ∙ append_assoc f a.more b.more;
    quiet = λ e. b.quiet (right e) ∙ a.quiet (left e);
    as_many = b.as_many ∙ a.as_many;
  }

  pub moved_both : (f g h : Frame) (s r q : State) (ns ms : List ℕ) → Moved f s g r ns → Moved g r h q ms → Moved f s h q (ns ++ ms)
  moved_both f g h s r q ns ms a b = moved_more f g h s r q ns ms (ns ++ ms) (left_empty ns ms) (right_empty ns ms) a b

  pub moved_again : (f g h : Frame) (s r q : State) (ns : List ℕ) → Moved f s g r ns → Moved g r h q ns → Moved f s h q ns
  moved_again f g h s r q ns a b = moved_more f g h s r q ns ns ns (λ e. e) (λ e. e) a b

  -- ---- another weight

  pub fit_weighed : (w : ℕ) (f : Frame) (s : State) → Fit f s → Fit f (at_weight w s)
  fit_weighed w f s h = record { fits = h.fits; widths = h.widths; rules = h.rules }

  pub from_weighed : (w : ℕ) (f g : Frame) (s r : State) (ns : List ℕ) → Moved f (at_weight w s) g r ns → Moved f s g r ns
  from_weighed w f g s r ns h = record { grew = h.grew; fit = h.fit; more = h.more; longer = h.longer; quiet = h.quiet; as_many = h.as_many }

  pub after_weight : (f g : Frame) (s q r : State) (ns : List ℕ) → (w : ℕ) × (q ≡ at_weight w s) → Fit f s → (Fit f q → Moved f q g r ns) → Moved f s g r ns
  after_weight f g s q r ns same h next =
      from_weighed same.0 f g s r ns (subst (λ z. Moved f z g r ns) same.1 (next (subst (Fit f) (sym same.1) (fit_weighed same.0 f s h))))

  pub weighed_good : (a : Builds) (x : Run) (ns : List ℕ) → Preserves a x ns → Preserves (λ s. weigh 1 s >>= a) x ns
  weighed_good a x ns good s r f g h typed e =
      let q = went (weigh 1 s) a r e in
      after_weight f g s q.0 r ns (weigh_same s 1 q.0 q.1) h (λ k. good q.0 r f g k typed q.2)

  -- ---- variables

  pub bind_moved : (f : Frame) (s : State) (slot : Slot) (name : List ℕ) (x : Static) (width : ℕ) (ns : List ℕ) → Fit f s → Fits t s.grown.instances slot x → Wide t slot width → Moved f s (f ++ slot ∷ []) (bind name x width s) ns
  bind_moved f s slot name x width ns h fits is_wide = record {
    grew = grew_none t s.grown.instances;
    fit = record {
      fits = fit_more t s.grown.instances f s.scope.bindings slot (binding name x) h.fits fits;
      widths = wide_more t f s.scope.widths slot width h.widths is_wide;
      rules = h.rules;
    };
    more = slot ∷ [];
    longer = refl;
    quiet = λ e. refl;
    as_many = refl;
  }

  pub put_moved : (f : Frame) (s : State) (level : ℕ) (slot : Slot) (b : Binding) (ns : List ℕ) → Fit f s → slice_get f level ≡ Some slot → Fits t s.grown.instances slot b.value → Moved f s f (with_binding level b s) ns
  put_moved f s level slot b ns h there fits = record {
    grew = grew_none t s.grown.instances;
    fit = record { fits = fit_put t s.grown.instances f s.scope.bindings level slot b h.fits there fits; widths = h.widths; rules = h.rules };
    more = [];
    longer = sym (append-nil f);
    quiet = λ e. refl;
    as_many = refl;
  }

  -- ---- what is cut

  pub cut_moved : (f g : Frame) (s r : State) (ns : List ℕ) → Fit f s → Moved f s g r ns → Moved f s f (cut (length s.scope.bindings) r) ns
  cut_moved f g s r ns h a =
      let long = fit_length t s.grown.instances f s.scope.bindings h.fits in
      let fits = subst (λ z. AllFit t r.grown.instances z r.scope.bindings) a.longer a.fit.fits in
      let widths = subst (λ z. AllWide t z r.scope.widths) a.longer a.fit.widths in
      record {
        grew = a.grew;
        fit = record {
          fits = subst (λ n. AllFit t r.grown.instances f (take n r.scope.bindings)) (sym long) (fit_cut t r.grown.instances f a.more r.scope.bindings fits);
          widths = subst (λ n. AllWide t f (take n r.scope.widths)) (sym long) (wide_cut t f a.more r.scope.widths widths);
          rules = a.fit.rules;
        };
        more = [];
        longer = sym (append-nil f);
        quiet = a.quiet;
        as_many = a.as_many;
      }

  pub inside_good : (a : Builds) (x : Run) (ns : List ℕ) → Preserves a x ns → PreservesInside a x ns
  unfolding inside
  inside_good a x ns good s r f h typed e =
      let q = went (a s) _ r e in
      let g = inner_is x f typed in
      subst (λ z. Moved f s f z ns) (same_ok (cut (length s.scope.bindings) q.0) r q.2) (cut_moved f g.0 s q.0 ns h (good s q.0 f g.0 h g.1 q.1))

  -- a part that is cut, where the typing is that of a block
  pub cut_good : (a : Builds) (x : Run) (ns : List ℕ) → PreservesInside a x ns → (s r : State) (f g : Frame) → Fit f s → (inner x f ≡ true) × (f ≡ g) → inside a s ≡ Ok r → Moved f s g r ns
  cut_good a x ns good s r f g h typed e = subst (λ z. Moved f s z r ns) typed.1 (good s r f h typed.0 e)

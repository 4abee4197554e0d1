-- After a choice, a variable that an arm assigned is what the taken arm gives, and any other is as it was.
use Rattle.std.proofs.Common.{◌≡◌, ℕ, suc, ◌+◌, Bool, true, false, List, [], ◌∷◌, ◌++◌, length, Some, Ok, refl, sym, ap, ap₂, ◌∙◌, subst, arith, append_assoc, append-nil, length-append}
use Rattle.std.specs.Prelude.{slice_get, if◌then◌else◌}
use Rattle.bsv_lemmas.proofs.Choices.{same_ok}
use Rattle.bsv_fail.specs.Given.{◌>>=◌}
use Rattle.bsv_bits.specs.Words.{Bits}
use Rattle.bsv_tree.specs.declared.steps.Atom.TheVariants as atom
use Rattle.bsv_tree.specs.declared.values.Value.TheVariants as value
use Rattle.bsv_tree.specs.declared.values.Count.{Count}
use Rattle.bsv_tree.specs.declared.values.Local.{Local}
use Rattle.bsv_tree.specs.declared.values.Pending.{Pending}
use Rattle.bsv_tree.specs.carrying.Arms as carried
use Rattle.bsv_tree.specs.carrying.Arms.{joined_as, joined_from}
use Rattle.bsv_tree.specs.carrying.Working.{fresh}
use Rattle.bsv_tree.specs.meaning.Values.{word_of, varied, Variable, Variables, restored}
use Rattle.bsv_tree.proofs.meaning.Same.{got_after, Holds, AllHold, got}
use Rattle.bsv_tree.proofs.meaning.Pieces.{fresh_is}
use Rattle.bsv_tree.proofs.meaning.Statements.{Kept}
use Rattle.bsv_tree.proofs.meaning.Joins.{AllPlain, AllAt, flag_at}

-- these words stand from a place on
unfoldable pub Stand : List Bits → Variables → ℕ → List ℕ → Type 0
Stand W Y s [] = Unit {0}
Stand W Y s (at ∷ more) = ((y : Variable) × (slice_get Y at ≡ Some y) × (slice_get W s ≡ Some (word_of y.value))) × Stand W Y (s + 1) more

one_longer : (found : List Local) (x : Local) (at : ℕ) → length found ≡ at → length (found ++ x ∷ []) ≡ suc at
one_longer found x at e = length-append found (x ∷ []) ∙ omega (arith, e)

module _ (arms : List Pending) (last : List Local) (Y : Variables) (all : List Local) where
  -- the variables from a place on, before the choice and after its arms
  unfoldable pub Fit : ℕ → List Local → Variables → Type 0
  Fit at [] [] = Unit {0}
  Fit at (v ∷ vs) (y ∷ ys) = ((carried.assigned arms last at ≡ y.assigned) × (slice_get Y at ≡ Some y) × (slice_get all at ≡ Some v)) × Fit (suc at) vs ys
  Fit at _ _ = ⊥

  pub record Joins (vs : List Local) (us ys : Variables) (found : List Local) (given : List ℕ) (c : Count) (ts : List Local) (g : List ℕ) (d : Count) : Type 0 where
    pub rest : List Local
    pub more : List ℕ
    pub variables : ts ≡ found ++ rest
    pub numbers : g ≡ given ++ more
    pub slots : d.slots ≡ c.slots + length more
    pub plain : AllPlain all more
    pub kept : Kept vs rest
    pub holds : (W : List Bits) → AllHold W vs us → Stand W Y c.slots more → AllHold W rest (restored us ys)

  pub joins : (vs : List Local) (us ys : Variables) (at : ℕ) → Fit at vs ys → length vs ≡ length us → (found : List Local) → length found ≡ at → (given : List ℕ) (c : Count)
      → (ts : List Local) (g : List ℕ) (d : Count) → joined_from arms last found given vs c ≡ Ok (ts, g, d) → Joins vs us ys found given c ts g d
  unfolding Fit Stand AllPlain joined_from
  joins [] [] [] at fit long found e given c ts g d h =
      let it = same_ok (found, given, c) (ts, g, d) h in
      record {
        rest = [];
        more = [];
        variables = ap (λ (o : List Local × List ℕ × Count). o.0) (sym it) ∙ sym (append-nil found);
        numbers = ap (λ (o : List Local × List ℕ × Count). o.1) (sym it) ∙ sym (append-nil given);
        slots = ap (λ (o : List Local × List ℕ × Count). o.2.slots) (sym it) ∙ omega arith;
        plain = tt;
        kept = tt;
        holds = λ W i j. tt;
      }
  joins (v ∷ vs) (u ∷ us) (y ∷ ys) at fit long found e given c ts g d h =
      let shorter : length vs ≡ length us = cc in
      by (carried.assigned arms last (length found)) v.integer refl refl h
      (λ x gs b i. joins vs us ys (suc at) fit.1 shorter (found ++ x ∷ []) (one_longer found x at e) gs b ts g d i) where
        IH : Type 0
        IH = (x : Local) (gs : List ℕ) (b : Count) → joined_from arms last (found ++ x ∷ []) gs vs b ≡ Ok (ts, g, d) → Joins vs us ys (found ++ x ∷ []) gs b ts g d

        Goal : Type 0
        Goal = Joins (v ∷ vs) (u ∷ us) (y ∷ ys) found given c ts g d

        new : Local
        new = joined_as v c.slots

        after : Bool → Variable
        after b = if b then record { value = varied y.value; assigned = true } else u

        by : (b i : Bool) → carried.assigned arms last (length found) ≡ b → v.integer ≡ i
            → (if b then (if i then joined_from arms last (found ++ new ∷ []) given vs c else (fresh c 1 >>= λ next. joined_from arms last (found ++ new ∷ []) (given ++ length found ∷ []) vs next)) else joined_from arms last (found ++ v ∷ []) given vs c) ≡ Ok (ts, g, d) → IH → Goal
        by true true p q i ih =
            let R = ih new given c i in
            let is : new ≡ record { value = v.value; integer = true; lost = true; touched = true } = ap (λ (o : Bool). if o then (let a : Local = record { value = v.value; integer = true; lost = true; touched = true } in a) else record { value = value.Open (atom.Slot c.slots); integer = false; lost = false; touched = true }) q in
            let flag : true ≡ y.assigned = sym p ∙ ap (carried.assigned arms last) e ∙ fit.0.0 in
            record {
              rest = new ∷ R.rest;
              more = R.more;
              variables = R.variables ∙ append_assoc found (new ∷ []) R.rest;
              numbers = R.numbers;
              slots = R.slots;
              plain = R.plain;
              kept = (ap (λ (a : Local). a.integer) is ∙ sym q, R.kept);
              holds = λ W hold stand. (
                subst (λ (a : Local). Holds W a (after y.assigned)) (sym is) (subst (λ b. Holds W (record { value = v.value; integer = true; lost = true; touched = true }) (after b)) flag
                    (record { shows = λ j. absurd cc; lost = λ j. absurd cc; assigned = refl })),
                R.holds W hold.1 stand,
              );
            }
        by true false p q i ih =
            let n = got (fresh c 1) (λ next. joined_from arms last (found ++ new ∷ []) (given ++ length found ∷ []) vs next) (ts, g, d) i in
            let R = ih new (given ++ length found ∷ []) n.0 n.2 in
            let up : n.0.slots ≡ c.slots + 1 = fresh_is c 1 n.0 n.1 in
            let is : new ≡ record { value = value.Open (atom.Slot c.slots); integer = false; lost = false; touched = true } = ap (λ (o : Bool). if o then (let a : Local = record { value = v.value; integer = true; lost = true; touched = true } in a) else record { value = value.Open (atom.Slot c.slots); integer = false; lost = false; touched = true }) q in
            let flag : true ≡ y.assigned = sym p ∙ ap (carried.assigned arms last) e ∙ fit.0.0 in
            record {
              rest = new ∷ R.rest;
              more = length found ∷ R.more;
              variables = R.variables ∙ append_assoc found (new ∷ []) R.rest;
              numbers = R.numbers ∙ append_assoc given (length found ∷ []) R.more;
              slots = R.slots ∙ ap (λ o. o + length R.more) up ∙ omega arith;
              plain = ((v, ap (slice_get all) e ∙ fit.0.2, q), R.plain);
              kept = (ap (λ (a : Local). a.integer) is ∙ sym q, R.kept);
              holds = λ W hold stand.
                  let same : stand.0.0 ≡ y = some_same (sym stand.0.1 ∙ ap (slice_get Y) e ∙ fit.0.1) in (
                    subst (λ (a : Local). Holds W a (after y.assigned)) (sym is) (subst (λ b. Holds W (record { value = value.Open (atom.Slot c.slots); integer = false; lost = false; touched = true }) (after b)) flag
                        (record { shows = λ j. (word_of y.value, stand.0.2 ∙ ap (λ (o : Variable). Some (word_of o.value)) same, refl); lost = λ j. refl; assigned = refl })),
                    R.holds W hold.1 (subst (λ o. Stand W Y o R.more) (sym up) stand.1),
                  );
            } where
              some_same : {A : Type 0} {a b : A} → Some a ≡ Some b → a ≡ b
              some_same j = cc
        by false j p q i ih =
            let R = ih v given c i in
            let flag : false ≡ y.assigned = sym p ∙ ap (carried.assigned arms last) e ∙ fit.0.0 in
            record {
              rest = v ∷ R.rest;
              more = R.more;
              variables = R.variables ∙ append_assoc found (v ∷ []) R.rest;
              numbers = R.numbers;
              slots = R.slots;
              plain = R.plain;
              kept = (refl, R.kept);
              holds = λ W hold stand. (subst (λ b. Holds W v (after b)) flag hold.0, R.holds W hold.1 stand);
            }
  joins [] (u ∷ us) ys at fit long found e given c ts g d h = absurd cc
  joins (v ∷ vs) [] ys at fit long found e given c ts g d h = absurd cc
  joins [] [] (y ∷ ys) at fit long found e given c ts g d h = absurd fit
  joins (v ∷ vs) (u ∷ us) [] at fit long found e given c ts g d h = absurd fit

-- ---- the words after a choice

-- the words that a choice gives stand after those before it
stands : (V ws : List Bits) (Y : Variables) (more : List ℕ) → AllAt Y more ws → Stand (V ++ ws) Y (length V) more
unfolding Stand AllAt
stands V [] Y [] h = tt
stands V (w ∷ ws) Y (at ∷ more) h = (
  (h.0.0, h.0.1, got_after V ws w ∙ ap Some (sym h.0.2)),
  subst (λ (o : List Bits). Stand o Y (length V + 1) more) (append_assoc V (w ∷ []) ws)
      (subst (λ i. Stand ((V ++ w ∷ []) ++ ws) Y i more) (length-append V (w ∷ [])) (stands (V ++ w ∷ []) ws Y more h.1)),
)
stands V [] Y (at ∷ more) h = absurd h
stands V (w ∷ ws) Y [] h = absurd h

as_many : (Y : Variables) (more : List ℕ) (ws : List Bits) → AllAt Y more ws → length ws ≡ length more
unfolding AllAt
as_many Y [] [] h = refl
as_many Y (at ∷ more) (w ∷ ws) h = ap suc (as_many Y more ws h.1)
as_many Y [] (w ∷ ws) h = absurd h
as_many Y (at ∷ more) [] h = absurd h

module _ (arms : List Pending) (last : List Local) where
  flag_in : (xs ys : Variables) (y : Variable) → flag_at (xs ++ y ∷ ys) (length xs) ≡ y.assigned
  unfolding flag_at
  flag_in [] ys y = refl
  flag_in (x ∷ xs) ys y = flag_in xs ys y

  there_in : {A : Type 0} (xs ys : List A) (y : A) → slice_get (xs ++ y ∷ ys) (length xs) ≡ Some y
  there_in [] ys y = refl
  there_in (x ∷ xs) ys y = there_in xs ys y

  -- all variables fit, where the flags are those of the arms
  fits : (Y : Variables) (all : List Local) → ((i : ℕ) → carried.assigned arms last i ≡ flag_at Y i)
      → (us vs : List Local) (xs ys : Variables) → all ≡ us ++ vs → Y ≡ xs ++ ys → length us ≡ length xs → length vs ≡ length ys → Fit arms last Y all (length xs) vs ys
  unfolding Fit
  fits Y all flags us [] xs [] e f g h = tt
  fits Y all flags us (v ∷ vs) xs (y ∷ ys) e f g h =
      let shorter : length vs ≡ length ys = cc in (
        (
          flags (length xs) ∙ ap (λ o. flag_at o (length xs)) f ∙ flag_in xs ys y,
          ap (λ o. slice_get o (length xs)) f ∙ there_in xs ys y,
          ap₂ (λ (o : List Local) i. slice_get o i) e (sym g) ∙ there_in us vs v,
        ),
        subst (λ i. Fit arms last Y all i vs ys) (length-append xs (y ∷ []) ∙ omega arith)
            (fits Y all flags (us ++ v ∷ []) vs (xs ++ y ∷ []) ys (e ∙ sym (append_assoc us (v ∷ []) vs)) (f ∙ sym (append_assoc xs (y ∷ []) ys))
            (length-append us (v ∷ []) ∙ ap (λ i. i + 1) g ∙ sym (length-append xs (y ∷ []))) shorter),
      )
  fits Y all flags us [] xs (y ∷ ys) e f g h = absurd cc
  fits Y all flags us (v ∷ vs) xs [] e f g h = absurd cc

  -- the variables after the choice
  pub after_choice : (vs : List Local) (us Y : Variables) → ((i : ℕ) → carried.assigned arms last i ≡ flag_at Y i) → length vs ≡ length us → length Y ≡ length us
      → (c : Count) (ts : List Local) (g : List ℕ) (d : Count) → joined_from arms last [] [] vs c ≡ Ok (ts, g, d)
      → AllPlain vs g × Kept vs ts × ((V ws : List Bits) → length V ≡ c.slots → AllHold (V ++ ws) vs us → AllAt Y g ws → AllHold (V ++ ws) ts (restored us Y) × (length (V ++ ws) ≡ d.slots))
  after_choice vs us Y flags long same c ts g d e =
      let J = joins arms last Y vs vs us Y 0 (fits Y vs flags [] vs [] Y refl refl refl (long ∙ sym same)) long [] refl [] c ts g d e in (
        subst (AllPlain vs) (sym J.numbers) J.plain,
        subst (Kept vs) (sym J.variables) J.kept,
        λ V ws at hold words.
            let mine : AllAt Y J.more ws = subst (λ o. AllAt Y o ws) J.numbers words in (
              subst (λ o. AllHold (V ++ ws) o (restored us Y)) (sym J.variables)
                  (J.holds (V ++ ws) hold (subst (λ i. Stand (V ++ ws) Y i J.more) at (stands V ws Y J.more mine))),
              length-append V ws ∙ ap₂ (λ i j. i + j) at (as_many Y J.more ws mine) ∙ sym J.slots,
            ),
      )

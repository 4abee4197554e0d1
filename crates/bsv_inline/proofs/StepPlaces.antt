-- Where the calls of steps stand and what they call is the same in every run, and so are the names of the conditions.
use Rattle.std.proofs.Common.{◌≡◌, ℕ, zero, suc, ◌+◌, Bool, true, not, ◌&&◌, List, [], ◌∷◌, ◌++◌, map, Option, Some, refl, ap, ap₂, subst}
use Rattle.std.proofs.lemmas.Option.{none-some, same_Some}
use Rattle.std.specs.Prelude.{slice_get, option_map}
use Rattle.bsv_bits.specs.Words.{Bits}
use Rattle.bsv_types.specs.declared.modules.Module.{Module}
use Rattle.bsv_design.specs.declared.node.Branch.{Branch}
use Rattle.bsv_tree.specs.declared.steps.Atom.{Atom}
use Rattle.bsv_tree.specs.declared.steps.Step.{Step}
use Rattle.bsv_tree.specs.declared.tree.Instance.{Instance}
use Rattle.bsv_design.specs.design.Bodies.{Answers}
use Rattle.bsv_tree.specs.meaning.Evaluation.{Results, Standing, SiteCall, Need}
use Rattle.bsv_tree.specs.carrying.Running.{Happening, Run, Alternative, happening, either_run, in_turn, nested_run, arms_run, inside, word_of}
use Rattle.bsv_design.specs.design.Words.{is_one}
use Rattle.bsv_design.specs.scheme.Traces.{Site, Demand, Trace}
use Rattle.bsv_tree.specs.carrying.Sources.{step_trace}
use Rattle.bsv_tree.specs.meaning.Schemes.{site_of, demand_of}
use Rattle.bsv_tree.specs.tree.Elements.{target_of, place_name}
use Rattle.bsv_inline.proofs.Uses.{Methods}
use Rattle.bsv_inline.proofs.EachStep.{AllKeep, AllArms, IsKept, all_keep}

-- ---- calls and conditions of two runs

pub record IsSameCall (x y : SiteCall) : Type 0 where
  pub method : x.method ≡ y.method
  pub action : x.action ≡ y.action
  pub branches : x.branches ≡ y.branches

abbrev pub AreSameCalls : List SiteCall → List SiteCall → Type 0
AreSameCalls [] [] = Unit {0}
AreSameCalls (x ∷ xs) (y ∷ ys) = IsSameCall x y × AreSameCalls xs ys
AreSameCalls _ _ = ⊥

abbrev pub AreSameNeeds : List Need → List Need → Type 0
AreSameNeeds [] [] = Unit {0}
AreSameNeeds (x ∷ xs) (y ∷ ys) = (x.name ≡ y.name) × AreSameNeeds xs ys
AreSameNeeds _ _ = ⊥

calls_both : (xs ys us vs : List SiteCall) → AreSameCalls xs ys → AreSameCalls us vs → AreSameCalls (xs ++ us) (ys ++ vs)
calls_both [] [] us vs h i = i
calls_both (x ∷ xs) (y ∷ ys) us vs h i = (h.0, calls_both xs ys us vs h.1 i)
calls_both [] (y ∷ ys) us vs h i = absurd h
calls_both (x ∷ xs) [] us vs h i = absurd h

needs_both : (xs ys us vs : List Need) → AreSameNeeds xs ys → AreSameNeeds us vs → AreSameNeeds (xs ++ us) (ys ++ vs)
needs_both [] [] us vs h i = i
needs_both (x ∷ xs) (y ∷ ys) us vs h i = (h.0, needs_both xs ys us vs h.1 i)
needs_both [] (y ∷ ys) us vs h i = absurd h
needs_both (x ∷ xs) [] us vs h i = absurd h

record AreAlike (a b : Happening) : Type 0 where
  choices : a.choices ≡ b.choices
  calls : AreSameCalls a.calls b.calls
  needs : AreSameNeeds a.needs b.needs

-- ---- the constructs

abbrev Stays : Run → Methods → Type 0
Stays o u =
    (q r : Results) (p s : Standing) (ws vs : List Bits) (m n k l : ℕ) → p.branches ≡ s.branches → m ≡ n
    → AreAlike (o q p ws m k) (o r s vs n l)

in_turn_stays : (os : List Run) (us : List Methods) → AllKeep Stays os us → Stays (in_turn os) []
unfolding in_turn
in_turn_stays [] [] h q r p s ws vs m n k l e f = record { choices = f; calls = tt; needs = tt }
in_turn_stays (o ∷ os) (u ∷ us) h q r p s ws vs m n k l e f =
    let a = o q p ws m k in
    let b = o r s vs n l in
    let x = h.0 q r p s ws vs m n k l e f in
    let y = in_turn_stays os us h.1 q r p s a.words b.words a.choices b.choices a.sites b.sites e x.choices in
    record { choices = y.choices; calls = calls_both a.calls b.calls _ _ x.calls y.calls; needs = needs_both a.needs b.needs _ _ x.needs y.needs }
in_turn_stays [] (u ∷ us) h q r p s ws vs m n k l e f = absurd h
in_turn_stays (o ∷ os) [] h q r p s ws vs m n k l e f = absurd h

either_alike : (a b : Happening) (t w : Bool) (x y : Happening) (gives : List Atom) (c d : Happening) → AreAlike a b → AreAlike x y → AreAlike c d
    → AreAlike (either_run a t x gives c) (either_run b w y gives d)
either_alike a b t w x y gives c d f g h = record {
  choices = h.choices;
  calls = calls_both a.calls b.calls _ _ f.calls (calls_both x.calls y.calls _ _ g.calls h.calls);
  needs = needs_both a.needs b.needs _ _ f.needs (needs_both x.needs y.needs _ _ g.needs h.needs);
}

abbrev behind : ℕ → ℕ → List Branch → List Branch
behind choice arm bs = bs ++ record { choice = choice; arm = arm } ∷ []

module _ (last : List Run) (us : List Methods) (gives : List Atom) (all : AllKeep Stays last us) where
  arms_stay : (xs : List Alternative) (vs : List Methods) → AllArms Stays xs vs → (i j arm : ℕ) (left gone : Bool) → i ≡ j
      → (q r : Results) (p s : Standing) (ws zs : List Bits) (m n k l : ℕ) → p.branches ≡ s.branches → m ≡ n
      → AreAlike (arms_run last gives xs i arm left q p ws m k) (arms_run last gives xs j arm gone r s zs n l)
  unfolding arms_run
  arms_stay [] [] h i j arm left gone g q r p s ws zs m n k l e f =
      let x = in_turn_stays last us all q r (inside p left i arm) (inside s gone j arm) ws zs m n k l (ap₂ (λ (c : ℕ). behind c arm) g e) f in
      record { choices = x.choices; calls = x.calls; needs = x.needs }
  arms_stay (x ∷ xs) (v ∷ vs) h i j arm left gone g q r p s ws zs m n k l e f =
      let a = in_turn x.condition q p ws m k in
      let b = in_turn x.condition r s zs n l in
      let t = is_one (word_of a.words x.test) in
      let w = is_one (word_of b.words x.test) in
      let c = in_turn x.body q (inside p (left && t) i arm) a.words a.choices a.sites in
      let d = in_turn x.body r (inside s (gone && w) j arm) b.words b.choices b.sites in
      let first = in_turn_stays x.condition h.0.first h.0.condition q r p s ws zs m n k l e f in
      let second = in_turn_stays x.body h.0.second h.0.body q r (inside p (left && t) i arm) (inside s (gone && w) j arm) a.words b.words a.choices b.choices a.sites b.sites
      (ap₂ (λ (c : ℕ). behind c arm) g e) first.choices in
      let others = arms_stay xs vs h.1 i j (arm + 1) (left && not t) (gone && not w) g q r p s a.words b.words c.choices d.choices c.sites d.sites e second.choices in
      either_alike a b t w c d x.gives _ _ first second others
  arms_stay [] (v ∷ vs) h i j arm left gone g q r p s ws zs m n k l e f = absurd h
  arms_stay (x ∷ xs) [] h i j arm left gone g q r p s ws zs m n k l e f = absurd h

  nested_stays : (xs : List Alternative) (vs : List Methods) → AllArms Stays xs vs → Stays (nested_run last gives xs) []
  unfolding nested_run
  nested_stays [] [] h q r p s ws zs m n k l e f =
      let x = in_turn_stays last us all q r p s ws zs m n k l e f in
      record { choices = x.choices; calls = x.calls; needs = x.needs }
  nested_stays (x ∷ xs) (v ∷ vs) h q r p s ws zs m n k l e f =
      let a = in_turn x.condition q p ws m k in
      let b = in_turn x.condition r s zs n l in
      let t = is_one (word_of a.words x.test) in
      let w = is_one (word_of b.words x.test) in
      let c = in_turn x.body q (inside p (p.taken && t) a.choices 0) a.words (a.choices + 1) a.sites in
      let d = in_turn x.body r (inside s (s.taken && w) b.choices 0) b.words (b.choices + 1) b.sites in
      let first = in_turn_stays x.condition h.0.first h.0.condition q r p s ws zs m n k l e f in
      let second = in_turn_stays x.body h.0.second h.0.body q r (inside p (p.taken && t) a.choices 0) (inside s (s.taken && w) b.choices 0) a.words b.words (a.choices + 1) (b.choices + 1) a.sites b.sites
      (ap₂ (λ (c : ℕ). behind c 0) first.choices e) (ap (λ (c : ℕ). c + 1) first.choices) in
      let others = nested_stays xs vs h.1 q r (inside p (p.taken && not t) a.choices 1) (inside s (s.taken && not w) b.choices 1) a.words b.words c.choices d.choices c.sites d.sites
      (ap₂ (λ (c : ℕ). behind c 1) first.choices e) second.choices in
      either_alike a b t w c d x.gives _ _ first second others
  nested_stays [] (v ∷ vs) h q r p s ws zs m n k l e f = absurd h
  nested_stays (x ∷ xs) [] h q r p s ws zs m n k l e f = absurd h

all_stay : IsKept Stays
all_stay = record {
  bound = λ c q r p s ws vs m n k l e f. record { choices = f; calls = tt; needs = tt };
  read = λ w xs os us h q r p s ws vs m n k l e f.
      let x = in_turn_stays os us h q r p s ws vs m n (k + 1) (l + 1) e f in
      record { choices = x.choices; calls = (record { method = refl; action = refl; branches = e }, x.calls); needs = x.needs };
  act = λ w xs os us h q r p s ws vs m n k l e f.
      let x = in_turn_stays os us h q r p s ws vs m n (k + 1) (l + 1) e f in
      record { choices = x.choices; calls = (record { method = refl; action = refl; branches = e }, x.calls); needs = x.needs };
  need = λ name z os us h q r p s ws vs m n k l e f.
      let x = in_turn_stays os us h q r p s ws vs m n k l e f in
      record { choices = x.choices; calls = x.calls; needs = (refl, x.needs) };
  nested = λ arms us last ts gives h i q r p s ws vs m n k l e f.
      let x = nested_stays last ts gives i arms us h q r p s ws vs m n k l e f in
      record { choices = x.choices; calls = x.calls; needs = x.needs };
  chain = λ arms us last ts gives h i q r p s ws vs m n k l e f.
      let x = arms_stay last ts gives i arms us h m n 0 p.taken s.taken f q r p s ws vs (m + 1) (n + 1) k l e (ap (λ (c : ℕ). c + 1) f) in
      record { choices = x.choices; calls = x.calls; needs = x.needs };
}

happens_alike : (ss : List Step) (q r : Results) (ws vs : List Bits) → AreAlike (happening ss q ws) (happening ss r vs)
unfolding happening
happens_alike ss q r ws vs =
    let whole : Standing = record { taken = true; branches = [] } in
    in_turn_stays _ _ (all_keep Stays all_stay ss) q r whole whole ws vs 0 0 0 0 refl refl

pub same_calls : (ss : List Step) (q r : Results) (ws vs : List Bits) → AreSameCalls (happening ss q ws).calls (happening ss r vs).calls
same_calls ss q r ws vs = (happens_alike ss q r ws vs).calls

pub same_needs : (ss : List Step) (q r : Results) (ws vs : List Bits) → AreSameNeeds (happening ss q ws).needs (happening ss r vs).needs
same_needs ss q r ws vs = (happens_alike ss q r ws vs).needs

-- ---- two traces

pub record IsSameSpot (x y : Site) : Type 0 where
  pub target : x.target ≡ y.target
  pub action : x.action ≡ y.action
  pub branches : x.branches ≡ y.branches

abbrev pub AreSameSpots : List Site → List Site → Type 0
AreSameSpots [] [] = Unit {0}
AreSameSpots (x ∷ xs) (y ∷ ys) = IsSameSpot x y × AreSameSpots xs ys
AreSameSpots _ _ = ⊥

abbrev pub AreSameNames : List Demand → List Demand → Type 0
AreSameNames [] [] = Unit {0}
AreSameNames (x ∷ xs) (y ∷ ys) = (x.name ≡ y.name) × AreSameNames xs ys
AreSameNames _ _ = ⊥

-- two traces that call the same at the same places, and ask under the same names
pub record AreSamePlaces (a b : Trace) : Type 0 where
  pub sites : AreSameSpots a.sites b.sites
  pub demands : AreSameNames a.demands b.demands

spots_of : (is : List Instance) (xs ys : List SiteCall) → AreSameCalls xs ys → AreSameSpots (map (site_of is) xs) (map (site_of is) ys)
spots_of is [] [] h = tt
spots_of is (x ∷ xs) (y ∷ ys) h = (record { target = ap (target_of is) h.0.method; action = h.0.action; branches = h.0.branches }, spots_of is xs ys h.1)
spots_of is [] (y ∷ ys) h = absurd h
spots_of is (x ∷ xs) [] h = absurd h

names_of : (ms : List Module) (is : List Instance) (xs ys : List Need) → AreSameNeeds xs ys → AreSameNames (map (demand_of ms is) xs) (map (demand_of ms is) ys)
names_of ms is [] [] h = tt
names_of ms is (x ∷ xs) (y ∷ ys) h = (ap (option_map (place_name ms is)) h.0, names_of ms is xs ys h.1)
names_of ms is [] (y ∷ ys) h = absurd h
names_of ms is (x ∷ xs) [] h = absurd h

pub same_places : (ms : List Module) (is : List Instance) (ss : List Step) (gives : Option Atom) (q r : Answers) (ws vs : List Bits)
    → AreSamePlaces (step_trace ms is ss gives q ws) (step_trace ms is ss gives r vs)
unfolding step_trace
same_places ms is ss gives q r ws vs = record {
  sites = spots_of is _ _ (same_calls ss (λ k m. q k (target_of is m)) (λ k m. r k (target_of is m)) ws vs);
  demands = names_of ms is _ _ (same_needs ss (λ k m. q k (target_of is m)) (λ k m. r k (target_of is m)) ws vs);
}

-- a call of the one run is one of the other
pub spot_at : (xs ys : List Site) → AreSameSpots xs ys → (i : ℕ) (x : Site) → slice_get xs i ≡ Some x → (y : Site) × (slice_get ys i ≡ Some y) × IsSameSpot x y
spot_at [] ys h i x e = absurd (none-some x e)
spot_at (u ∷ xs) (v ∷ ys) h zero x e = (v, refl, subst (λ z. IsSameSpot z v) (same_Some u x e) h.0)
spot_at (u ∷ xs) (v ∷ ys) h (suc i) x e = spot_at xs ys h.1 i x e
spot_at (u ∷ xs) [] h i x e = absurd h

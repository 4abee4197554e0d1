-- An untaken call of steps decides nothing: two runs whose answers agree where calls are taken do the same there.
use Rattle.std.proofs.Common.{◌≡◌, ◌∙◌, ℕ, suc, ◌+◌, Bool, true, false, not, ◌&&◌, List, [], ◌∷◌, ◌++◌, length, map, Option, Some, refl, sym, ap, ap₂, subst, arith, length-append}
use Rattle.std.specs.Prelude.{slice_get, option_map}
use Rattle.std.proofs.lemmas.Bool.{and_parts, and_from}
use Rattle.std.proofs.lemmas.List.{length-map}
use Rattle.bsv_bits.specs.Words.{Bits}
use Rattle.bsv_types.specs.declared.modules.Module.{Module}
use Rattle.bsv_tree.specs.declared.steps.Atom.{Atom}
use Rattle.bsv_tree.specs.declared.steps.Step.{Step}
use Rattle.bsv_tree.specs.declared.tree.Instance.{Instance}
use Rattle.bsv_design.specs.design.Bodies.{Answers}
use Rattle.bsv_design.specs.design.Branches.{AgreeOnTaken, AreSameSites, AreSameDemands, AreSameWhereTaken}
use Rattle.bsv_tree.specs.meaning.Evaluation.{Results, Standing, SiteCall, Need}
use Rattle.bsv_tree.specs.carrying.Running.{Happening, Run, Alternative, happening, either_run, in_turn, nested_run, arms_run, last_run, inside, word_of, words_of, picked, computed}
use Rattle.bsv_design.specs.design.Words.{is_one}
use Rattle.bsv_design.specs.scheme.Traces.{Site}
use Rattle.bsv_tree.specs.carrying.Sources.{step_trace}
use Rattle.bsv_tree.specs.meaning.Schemes.{site_of, demand_of}
use Rattle.bsv_tree.specs.tree.Elements.{target_of, place_name}
use Rattle.bsv_inline.proofs.Uses.{Methods}
use Rattle.bsv_inline.proofs.EachStep.{AllKeep, AllArms, IsKept, all_keep}
use Rattle.bsv_inline.proofs.StepPlaces.{AreSameCalls, AreSameNeeds, same_calls, same_needs}

-- ---- calls and conditions of two runs

-- the answers are the same for each of these calls that is taken, of which the first has this number
abbrev Agree : Results → Results → ℕ → List SiteCall → Type 0
Agree q r k [] = Unit {0}
Agree q r k (c ∷ cs) = (c.taken ≡ true → q k c.method c.arguments ≡ r k c.method c.arguments) × Agree q r (k + 1) cs

agree_left : (q r : Results) (k : ℕ) (cs ds : List SiteCall) → Agree q r k (cs ++ ds) → Agree q r k cs
agree_left q r k [] ds h = tt
agree_left q r k (c ∷ cs) ds h = (h.0, agree_left q r (k + 1) cs ds h.1)

agree_right : (q r : Results) (k : ℕ) (cs ds : List SiteCall) → Agree q r k (cs ++ ds) → Agree q r (k + length cs) ds
agree_right q r k [] ds h = let e : k ≡ k + 0 = omega arith in subst (λ j. Agree q r j ds) e h
agree_right q r k (c ∷ cs) ds h = let e : k + 1 + length cs ≡ k + suc (length cs) = omega arith in subst (λ j. Agree q r j ds) e (agree_right q r (k + 1) cs ds h.1)

-- of the calls from number k to number l
agree_after : (q r : Results) (k l : ℕ) (cs ds : List SiteCall) → l ≡ k + length cs → Agree q r k (cs ++ ds) → Agree q r l ds
agree_after q r k l cs ds e h = subst (λ j. Agree q r j ds) (sym e) (agree_right q r k cs ds h)

abbrev IsDecidedCall : SiteCall → SiteCall → Type 0
IsDecidedCall x y = (x.taken ≡ y.taken) × (x.taken ≡ true → x.arguments ≡ y.arguments)

abbrev AreDecidedCalls : List SiteCall → List SiteCall → Type 0
AreDecidedCalls [] [] = Unit {0}
AreDecidedCalls (x ∷ xs) (y ∷ ys) = IsDecidedCall x y × AreDecidedCalls xs ys
AreDecidedCalls _ _ = ⊥

abbrev IsDecidedNeed : Need → Need → Type 0
IsDecidedNeed x y = (x.taken ≡ y.taken) × (x.taken ≡ true → x.truth ≡ y.truth)

abbrev AreDecidedNeeds : List Need → List Need → Type 0
AreDecidedNeeds [] [] = Unit {0}
AreDecidedNeeds (x ∷ xs) (y ∷ ys) = IsDecidedNeed x y × AreDecidedNeeds xs ys
AreDecidedNeeds _ _ = ⊥

calls_both : (xs ys us vs : List SiteCall) → AreDecidedCalls xs ys → AreDecidedCalls us vs → AreDecidedCalls (xs ++ us) (ys ++ vs)
calls_both [] [] us vs h i = i
calls_both (x ∷ xs) (y ∷ ys) us vs h i = (h.0, calls_both xs ys us vs h.1 i)
calls_both [] (y ∷ ys) us vs h i = absurd h
calls_both (x ∷ xs) [] us vs h i = absurd h

needs_both : (xs ys us vs : List Need) → AreDecidedNeeds xs ys → AreDecidedNeeds us vs → AreDecidedNeeds (xs ++ us) (ys ++ vs)
needs_both [] [] us vs h i = i
needs_both (x ∷ xs) (y ∷ ys) us vs h i = (h.0, needs_both xs ys us vs h.1 i)
needs_both [] (y ∷ ys) us vs h i = absurd h
needs_both (x ∷ xs) [] us vs h i = absurd h

-- two runs from call number k on, whose words are the same if this is taken
record AreDecided (taken : Bool) (k : ℕ) (a b : Happening) : Type 0 where
  counted : a.sites ≡ k + length a.calls
  sites : a.sites ≡ b.sites
  calls : AreDecidedCalls a.calls b.calls
  needs : AreDecidedNeeds a.needs b.needs
  words : taken ≡ true → a.words ≡ b.words

-- ---- the constructs

abbrev IsDecided : Run → Methods → Type 0
IsDecided o u =
    (q r : Results) (p s : Standing) (ws vs : List Bits) (m n k l : ℕ) → p.taken ≡ s.taken → k ≡ l → (p.taken ≡ true → ws ≡ vs)
    → Agree q r k (o q p ws m k).calls → AreDecided p.taken k (o q p ws m k) (o r s vs n l)

in_turn_decided : (os : List Run) (us : List Methods) → AllKeep IsDecided os us → IsDecided (in_turn os) []
unfolding in_turn
in_turn_decided [] [] h q r p s ws vs m n k l e f g t = record { counted = omega arith; sites = f; calls = tt; needs = tt; words = g }
in_turn_decided (o ∷ os) (u ∷ us) h q r p s ws vs m n k l e f g t =
    let a = o q p ws m k in
    let b = o r s vs n l in
    let c = in_turn os q p a.words a.choices a.sites in
    let d = in_turn os r s b.words b.choices b.sites in
    let x = h.0 q r p s ws vs m n k l e f g (agree_left q r k a.calls c.calls t) in
    let y = in_turn_decided os us h.1 q r p s a.words b.words a.choices b.choices a.sites b.sites e x.sites x.words (agree_after q r k a.sites a.calls c.calls x.counted t) in
    record {
      counted = omega (arith, x.counted, y.counted, length-append a.calls c.calls);
      sites = y.sites;
      calls = calls_both a.calls b.calls c.calls d.calls x.calls y.calls;
      needs = needs_both a.needs b.needs c.needs d.needs x.needs y.needs;
      words = y.words;
    }
in_turn_decided [] (u ∷ us) h q r p s ws vs m n k l e f g t = absurd h
in_turn_decided (o ∷ os) [] h q r p s ws vs m n k l e f g t = absurd h

-- ---- the words of arms

picked_long : (t w : Bool) (xs ys us vs : List Bits) → length xs ≡ length us → length ys ≡ length vs → length (picked t xs ys) ≡ length (picked w us vs)
picked_long t w [] ys [] vs e f = refl
picked_long t w (x ∷ xs) [] (u ∷ us) [] e f = refl
picked_long t w (x ∷ xs) (y ∷ ys) (u ∷ us) (v ∷ vs) e f = ap (λ n. suc n) (picked_long t w xs ys us vs (omega (arith, e)) (omega (arith, f)))
picked_long t w [] ys (u ∷ us) vs e f = absurd (omega (arith, e))
picked_long t w (x ∷ xs) ys [] vs e f = absurd (omega (arith, e))
picked_long t w (x ∷ xs) [] (u ∷ us) (v ∷ vs) e f = absurd (omega (arith, f))
picked_long t w (x ∷ xs) (y ∷ ys) (u ∷ us) [] e f = absurd (omega (arith, f))

picked_first : (xs ys vs : List Bits) → length ys ≡ length vs → picked true xs ys ≡ picked true xs vs
picked_first [] ys vs f = refl
picked_first (x ∷ xs) [] [] f = refl
picked_first (x ∷ xs) (y ∷ ys) (v ∷ vs) f = ap (λ (l : List Bits). x ∷ l) (picked_first xs ys vs (omega (arith, f)))
picked_first (x ∷ xs) [] (v ∷ vs) f = absurd (omega (arith, f))
picked_first (x ∷ xs) (y ∷ ys) [] f = absurd (omega (arith, f))

picked_second : (xs us ys : List Bits) → length xs ≡ length us → picked false xs ys ≡ picked false us ys
picked_second [] [] ys e = refl
picked_second (x ∷ xs) (u ∷ us) [] e = refl
picked_second (x ∷ xs) (u ∷ us) (y ∷ ys) e = ap (λ (l : List Bits). y ∷ l) (picked_second xs us ys (omega (arith, e)))
picked_second [] (u ∷ us) ys e = absurd (omega (arith, e))
picked_second (x ∷ xs) [] ys e = absurd (omega (arith, e))

picked_same : (t w : Bool) (xs ys us vs : List Bits) → t ≡ w → length xs ≡ length us → length ys ≡ length vs → (t ≡ true → xs ≡ us) → (not t ≡ true → ys ≡ vs)
    → picked t xs ys ≡ picked w us vs
picked_same true w xs ys us vs i e f g h = ap (λ (l : List Bits). picked true l ys) (g refl) ∙ picked_first us ys vs f ∙ ap (λ b. picked b us vs) i
picked_same false w xs ys us vs i e f g h = ap (picked false xs) (h refl) ∙ picked_second xs us vs e ∙ ap (λ b. picked b us vs) i

-- two runs of arms give the same number of words
record AreDecidedArms (taken : Bool) (k : ℕ) (a b : Happening) : Type 0 where
  both : AreDecided taken k a b
  long : length a.words ≡ length b.words

words_long : (ws vs : List Bits) (gives : List Atom) → length (words_of ws gives) ≡ length (words_of vs gives)
words_long ws vs gives = length-map gives (word_of ws) ∙ sym (length-map gives (word_of vs))

-- a test is the same where it is asked, and so is whether its arm is taken
same_and : (left gone t w : Bool) → left ≡ gone → (left ≡ true → t ≡ w) → (left && t) ≡ (gone && w)
same_and true gone t w e h = h refl ∙ ap (λ b. b && w) e
same_and false gone t w e h = ap (λ b. b && w) e

either_decided : (outer left : Bool) (k : ℕ) (a b : Happening) (t w : Bool) (x y : Happening) (gives : List Atom) (c d : Happening) → (left ≡ true → outer ≡ true)
    → (outer ≡ true → t ≡ w) → AreDecided outer k a b → AreDecided (left && t) a.sites x y → AreDecidedArms (left && not t) x.sites c d
    → AreDecidedArms left k (either_run a t x gives c) (either_run b w y gives d)
either_decided outer left k a b t w x y gives c d i same f g h = record {
  both = record {
    counted = omega (arith, f.counted, g.counted, h.both.counted, length-append a.calls (x.calls ++ c.calls), length-append x.calls c.calls);
    sites = h.both.sites;
    calls = calls_both a.calls b.calls _ _ f.calls (calls_both x.calls y.calls c.calls d.calls g.calls h.both.calls);
    needs = needs_both a.needs b.needs _ _ f.needs (needs_both x.needs y.needs c.needs d.needs g.needs h.both.needs);
    words = λ z.
        picked_same t w (words_of x.words gives) c.words (words_of y.words gives) d.words (same (i z)) (words_long x.words y.words gives) h.long
        (λ v. ap (λ (ws : List Bits). words_of ws gives) (g.words (and_from left t z v))) (λ v. h.both.words (and_from left (not t) z v));
  };
  long = picked_long t w (words_of x.words gives) c.words (words_of y.words gives) d.words (words_long x.words y.words gives) h.long;
}

module _ (last : List Run) (us : List Methods) (gives : List Atom) (all : AllKeep IsDecided last us) where
  last_decided : (q r : Results) (p s : Standing) (ws vs : List Bits) (m n k l : ℕ) → p.taken ≡ s.taken → k ≡ l → (p.taken ≡ true → ws ≡ vs)
      → Agree q r k (in_turn last q p ws m k).calls → AreDecidedArms p.taken k (last_run last gives q p ws m k) (last_run last gives r s vs n l)
  last_decided q r p s ws vs m n k l e f g t =
      let a = in_turn last q p ws m k in
      let b = in_turn last r s vs n l in
      let x = in_turn_decided last us all q r p s ws vs m n k l e f g t in
      record {
        both = record { counted = x.counted; sites = x.sites; calls = x.calls; needs = x.needs; words = λ z. ap (λ (l : List Bits). words_of l gives) (x.words z) };
        long = words_long a.words b.words gives;
      }

  arms_decided : (xs : List Alternative) (vs : List Methods) → AllArms IsDecided xs vs → (i j arm : ℕ) (left gone : Bool)
      → (q r : Results) (p s : Standing) (ws zs : List Bits) (m n k l : ℕ) → p.taken ≡ s.taken → left ≡ gone → (left ≡ true → p.taken ≡ true) → k ≡ l → (p.taken ≡ true → ws ≡ zs)
      → Agree q r k (arms_run last gives xs i arm left q p ws m k).calls
      → AreDecidedArms left k (arms_run last gives xs i arm left q p ws m k) (arms_run last gives xs j arm gone r s zs n l)
  unfolding arms_run
  arms_decided [] [] h i j arm left gone q r p s ws zs m n k l e same up f g t =
      last_decided q r (inside p left i arm) (inside s gone j arm) ws zs m n k l same f (λ z. g (up z)) t
  arms_decided (x ∷ xs) (v ∷ vs) h i j arm left gone q r p s ws zs m n k l e same up f g all =
      let a = in_turn x.condition q p ws m k in
      let b = in_turn x.condition r s zs n l in
      let t = is_one (word_of a.words x.test) in
      let w = is_one (word_of b.words x.test) in
      let c = in_turn x.body q (inside p (left && t) i arm) a.words a.choices a.sites in
      let d = in_turn x.body r (inside s (gone && w) j arm) b.words b.choices b.sites in
      let o = arms_run last gives xs i (arm + 1) (left && not t) q p a.words c.choices c.sites in
      let first = in_turn_decided x.condition h.0.first h.0.condition q r p s ws zs m n k l e f g (agree_left q r k a.calls (c.calls ++ o.calls) all) in
      let later : Agree q r a.sites (c.calls ++ o.calls) = agree_after q r k a.sites a.calls (c.calls ++ o.calls) first.counted all in
      let test : p.taken ≡ true → t ≡ w = λ z. ap (λ (l : List Bits). is_one (word_of l x.test)) (first.words z) in
      let second = in_turn_decided x.body h.0.second h.0.body q r (inside p (left && t) i arm) (inside s (gone && w) j arm) a.words b.words a.choices b.choices a.sites b.sites
      (same_and left gone t w same (λ z. test (up z))) first.sites (λ z. first.words (up (and_parts left t z).0)) (agree_left q r a.sites c.calls o.calls later) in
      let others = arms_decided xs vs h.1 i j (arm + 1) (left && not t) (gone && not w) q r p s a.words b.words c.choices d.choices c.sites d.sites
      e (same_and left gone (not t) (not w) same (λ z. ap not (test (up z)))) (λ z. up (and_parts left (not t) z).0) second.sites first.words
      (agree_after q r a.sites c.sites c.calls o.calls second.counted later) in
      either_decided p.taken left k a b t w c d x.gives o _ up test first second others
  arms_decided [] (v ∷ vs) h i j arm left gone q r p s ws zs m n k l e same up f g t = absurd h
  arms_decided (x ∷ xs) [] h i j arm left gone q r p s ws zs m n k l e same up f g t = absurd h

  nested_decided : (xs : List Alternative) (vs : List Methods) → AllArms IsDecided xs vs
      → (q r : Results) (p s : Standing) (ws zs : List Bits) (m n k l : ℕ) → p.taken ≡ s.taken → k ≡ l → (p.taken ≡ true → ws ≡ zs)
      → Agree q r k (nested_run last gives xs q p ws m k).calls → AreDecidedArms p.taken k (nested_run last gives xs q p ws m k) (nested_run last gives xs r s zs n l)
  unfolding nested_run
  nested_decided [] [] h q r p s ws zs m n k l e f g t = last_decided q r p s ws zs m n k l e f g t
  nested_decided (x ∷ xs) (v ∷ vs) h q r p s ws zs m n k l e f g all =
      let a = in_turn x.condition q p ws m k in
      let b = in_turn x.condition r s zs n l in
      let t = is_one (word_of a.words x.test) in
      let w = is_one (word_of b.words x.test) in
      let c = in_turn x.body q (inside p (p.taken && t) a.choices 0) a.words (a.choices + 1) a.sites in
      let d = in_turn x.body r (inside s (s.taken && w) b.choices 0) b.words (b.choices + 1) b.sites in
      let o = nested_run last gives xs q (inside p (p.taken && not t) a.choices 1) a.words c.choices c.sites in
      let first = in_turn_decided x.condition h.0.first h.0.condition q r p s ws zs m n k l e f g (agree_left q r k a.calls (c.calls ++ o.calls) all) in
      let later : Agree q r a.sites (c.calls ++ o.calls) = agree_after q r k a.sites a.calls (c.calls ++ o.calls) first.counted all in
      let test : p.taken ≡ true → t ≡ w = λ z. ap (λ (l : List Bits). is_one (word_of l x.test)) (first.words z) in
      let second = in_turn_decided x.body h.0.second h.0.body q r (inside p (p.taken && t) a.choices 0) (inside s (s.taken && w) b.choices 0) a.words b.words (a.choices + 1) (b.choices + 1) a.sites b.sites
      (same_and p.taken s.taken t w e test) first.sites (λ z. first.words (and_parts p.taken t z).0) (agree_left q r a.sites c.calls o.calls later) in
      let others = nested_decided xs vs h.1 q r (inside p (p.taken && not t) a.choices 1) (inside s (s.taken && not w) b.choices 1) a.words b.words c.choices d.choices c.sites d.sites
      (same_and p.taken s.taken (not t) (not w) e (λ z. ap not (test z))) second.sites (λ z. first.words (and_parts p.taken (not t) z).0)
      (agree_after q r a.sites c.sites c.calls o.calls second.counted later) in
      either_decided p.taken p.taken k a b t w c d x.gives o _ (λ z. z) test first second others
  nested_decided [] (v ∷ vs) h q r p s ws zs m n k l e f g t = absurd h
  nested_decided (x ∷ xs) [] h q r p s ws zs m n k l e f g t = absurd h

-- a choice, whose words come after those before it
after_words : (taken : Bool) (k : ℕ) (ws vs : List Bits) (a b : Happening) → (taken ≡ true → ws ≡ vs) → AreDecidedArms taken k a b
    → AreDecided taken k (record a { words = ws ++ a.words }) (record b { words = vs ++ b.words })
after_words taken k ws vs a b g x = record {
  counted = x.both.counted;
  sites = x.both.sites;
  calls = x.both.calls;
  needs = x.both.needs;
  words = λ z. ap₂ (λ (l j : List Bits). l ++ j) (g z) (x.both.words z);
}

all_decided : IsKept IsDecided
all_decided = record {
  bound = λ c q r p s ws vs m n k l e f g t. record { counted = omega arith; sites = f; calls = tt; needs = tt; words = λ z. ap (λ (ws : List Bits). ws ++ computed ws c ∷ []) (g z) };
  read = λ w xs os us h q r p s ws vs m n k l e f g t.
      let a = in_turn os q p ws m (k + 1) in
      let b = in_turn os r s vs n (l + 1) in
      let x = in_turn_decided os us h q r p s ws vs m n (k + 1) (l + 1) e (ap (λ (i : ℕ). i + 1) f) g t.1 in
      record {
        counted = omega (arith, x.counted);
        sites = x.sites;
        calls = ((e, λ z. ap (λ (i : List Bits). words_of i xs) (x.words z)), x.calls);
        needs = x.needs;
        words = λ z.
            ap (λ (i : Bits). a.words ++ i ∷ []) (t.0 z)
            ∙ ap₂ (λ (i : List Bits) (j : ℕ). i ++ r j w (words_of i xs) ∷ []) (x.words z) f;
      };
  act = λ w xs os us h q r p s ws vs m n k l e f g t.
      let x = in_turn_decided os us h q r p s ws vs m n (k + 1) (l + 1) e (ap (λ (i : ℕ). i + 1) f) g t.1 in
      record {
        counted = omega (arith, x.counted);
        sites = x.sites;
        calls = ((e, λ z. ap (λ (i : List Bits). words_of i xs) (x.words z)), x.calls);
        needs = x.needs;
        words = λ z. ap (λ (i : List Bits). i ++ []) (x.words z);
      };
  need = λ name y os us h q r p s ws vs m n k l e f g t.
      let x = in_turn_decided os us h q r p s ws vs m n k l e f g t in
      record {
        counted = x.counted;
        sites = x.sites;
        calls = x.calls;
        needs = ((e, λ z. ap (λ (i : List Bits). is_one (word_of i y)) (x.words z)), x.needs);
        words = x.words;
      };
  nested = λ arms us last ts gives h i q r p s ws vs m n k l e f g t.
      after_words p.taken k ws vs _ _ g (nested_decided last ts gives i arms us h q r p s ws vs m n k l e f g t);
  chain = λ arms us last ts gives h i q r p s ws vs m n k l e f g t.
      after_words p.taken k ws vs _ _ g (arms_decided last ts gives i arms us h m n 0 p.taken s.taken q r p s ws vs (m + 1) (n + 1) k l e e (λ z. z) f g t);
}

-- ---- two traces

agree_from : (is : List Instance) (q r : Answers) (k : ℕ) (cs : List SiteCall)
    → ((i n : ℕ) (x : Site) → n ≡ k + i → slice_get (map (site_of is) cs) i ≡ Some x → x.taken ≡ true → q n x.target x.arguments ≡ r n x.target x.arguments)
    → Agree (λ k m. q k (target_of is m)) (λ k m. r k (target_of is m)) k cs
agree_from is q r k [] h = tt
agree_from is q r k (c ∷ cs) h =
    ((λ t. h 0 k (site_of is c) (omega arith) refl t), agree_from is q r (k + 1) cs (λ i n x e. h (suc i) n x (omega (arith, e))))

sites_of : (is : List Instance) (xs ys : List SiteCall) → AreSameCalls xs ys → AreDecidedCalls xs ys → AreSameSites (map (site_of is) xs) (map (site_of is) ys)
sites_of is [] [] h k = tt
sites_of is (x ∷ xs) (y ∷ ys) h k =
    (record { target = ap (target_of is) h.0.method; action = h.0.action; branches = h.0.branches; taken = k.0.0; arguments = k.0.1 }, sites_of is xs ys h.1 k.1)
sites_of is [] (y ∷ ys) h k = absurd h
sites_of is (x ∷ xs) [] h k = absurd h

demands_of : (ms : List Module) (is : List Instance) (xs ys : List Need) → AreSameNeeds xs ys → AreDecidedNeeds xs ys → AreSameDemands (map (demand_of ms is) xs) (map (demand_of ms is) ys)
demands_of ms is [] [] h k = tt
demands_of ms is (x ∷ xs) (y ∷ ys) h k = (record { name = ap (option_map (place_name ms is)) h.0; taken = k.0.0; holds = k.0.1 }, demands_of ms is xs ys h.1 k.1)
demands_of ms is [] (y ∷ ys) h k = absurd h
demands_of ms is (x ∷ xs) [] h k = absurd h

happening_decided : (ss : List Step) (q r : Results) (ws : List Bits) → Agree q r 0 (happening ss q ws).calls → AreDecided true 0 (happening ss q ws) (happening ss r ws)
unfolding happening
happening_decided ss q r ws t =
    let whole : Standing = record { taken = true; branches = [] } in
    in_turn_decided _ _ (all_keep IsDecided all_decided ss) q r whole whole ws ws 0 0 0 0 refl refl (λ z. refl) t

-- an untaken call decides nothing
pub taken_decide : (ms : List Module) (is : List Instance) (ss : List Step) (gives : Option Atom) (q r : Answers) (ws : List Bits)
    → AgreeOnTaken q r (step_trace ms is ss gives q ws).sites → AreSameWhereTaken (step_trace ms is ss gives q ws) (step_trace ms is ss gives r ws)
unfolding step_trace
taken_decide ms is ss gives q r ws t =
    let u : Results = λ k m. q k (target_of is m) in
    let v : Results = λ k m. r k (target_of is m) in
    let a = happening ss u ws in
    let b = happening ss v ws in
    let d = happening_decided ss u v ws (agree_from is q r 0 a.calls (λ i n x e g h.
    let same : i ≡ n = omega (arith, e) in
    subst (λ (k : ℕ). q k x.target x.arguments ≡ r k x.target x.arguments) same (t i x g h))) in
    record {
      sites = sites_of is a.calls b.calls (same_calls ss u v ws ws) d.calls;
      demands = demands_of ms is a.needs b.needs (same_needs ss u v ws ws) d.needs;
      result = ap (λ (l : List Bits). option_map (word_of l) gives) (d.words refl);
    }

-- A list is split in one way where a test passes on its front and fails after it.
use Rattle.std.proofs.Common.{◌≡◌, ◌∙◌, ℕ, suc, Bool, true, false, if◌then◌else◌, List, [], ◌∷◌, ◌++◌, map, slice_get, flat_map, Some, refl, sym, ap, subst, append_assoc}
use Rattle.std.specs.List.{list_all, concat}
use Rattle.std.proofs.lemmas.Bool.{and_parts}
use Rattle.bsv_lemmas.proofs.Lists.{same_head, same_tail}

-- ---- what holds of each element

abbrev pub Each : {X : Type 0} → (X → Type 0) → List X → Type 0
Each P [] = Unit {0}
Each P (x ∷ xs) = P x × Each P xs

pub each_append : {X : Type 0} (P : X → Type 0) (xs ys : List X) → Each P xs → Each P ys → Each P (xs ++ ys)
each_append P [] ys none more = more
each_append P (x ∷ xs) ys some more = (some.0, each_append P xs ys some.1 more)

pub each_weaker : {X : Type 0} (P Q : X → Type 0) → ((x : X) → P x → Q x) → (xs : List X) → Each P xs → Each Q xs
each_weaker P Q weaker [] none = tt
each_weaker P Q weaker (x ∷ xs) some = (weaker x some.0, each_weaker P Q weaker xs some.1)

pub each_at : {X : Type 0} (P : X → Type 0) (xs : List X) → ((k : ℕ) (x : X) → slice_get xs k ≡ Some x → P x) → Each P xs
each_at P [] all = tt
each_at P (x ∷ xs) all = (all 0 x refl, each_at P xs (λ k y e. all (suc k) y e))

-- ---- bytes that pass a test

abbrev pub Passes : (ℕ → Bool) → ℕ → Type 0
Passes p b = p b ≡ true

pub each_passes : (p : ℕ → Bool) (xs : List ℕ) → list_all p xs ≡ true → Each (Passes p) xs
each_passes p [] e = tt
each_passes p (x ∷ xs) e = let parts = and_parts (p x) (list_all p xs) e in (parts.0, each_passes p xs parts.1)

-- the list goes on with a byte that fails the test
abbrev pub Stops : (ℕ → Bool) → List ℕ → Type 0
Stops p [] = ⊥
Stops p (b ∷ bs) = p b ≡ false

clash : (p : ℕ → Bool) (x y : ℕ) → x ≡ y → p x ≡ true → p y ≡ false → ⊥
clash p x y same passes fails = cc

longer : (x y : ℕ) (xs ys : List ℕ) → x ≡ y → xs ≡ ys → x ∷ xs ≡ y ∷ ys
longer x y xs ys e f = cc

-- fronts that pass, each before a byte that does not
pub split : (p : ℕ → Bool) (xs ys r s : List ℕ) → Each (Passes p) xs → Each (Passes p) ys → Stops p r → Stops p s → xs ++ r ≡ ys ++ s
    → (xs ≡ ys) × (r ≡ s)
split p [] [] r s some others stop end e = (refl, e)
split p [] (y ∷ ys) [] s some others stop end e = absurd stop
split p [] (y ∷ ys) (b ∷ r) s some others stop end e = absurd (clash p y b (sym (same_head b y r (ys ++ s) e)) others.0 stop)
split p (x ∷ xs) [] r [] some others stop end e = absurd end
split p (x ∷ xs) [] r (b ∷ s) some others stop end e = absurd (clash p x b (same_head x b (xs ++ r) s e) some.0 end)
split p (x ∷ xs) (y ∷ ys) r s some others stop end e =
    let more = split p xs ys r s some.1 others.1 stop end (same_tail x y (xs ++ r) (ys ++ s) e) in
    (longer x y xs ys (same_head x y (xs ++ r) (ys ++ s) e) more.0, more.1)

-- what comes after the front that passes
abbrev pub behind : (ℕ → Bool) → List ℕ → List ℕ
behind p [] = []
behind p (b ∷ bs) = if p b then behind p bs else b ∷ bs

pub after_is : (p : ℕ → Bool) (xs r : List ℕ) → Each (Passes p) xs → Stops p r → behind p (xs ++ r) ≡ r
after_is p [] [] some stop = refl
after_is p [] (b ∷ r) some stop = rw stop refl
after_is p (x ∷ xs) r some stop = rw some.0 (after_is p xs r some.1 stop)

-- ---- pieces

pub regrouped : (a b c x y z : List ℕ) → (a ++ b) ++ c ≡ (x ++ y) ++ z → a ++ (b ++ c) ≡ x ++ (y ++ z)
regrouped a b c x y z e = sym (append_assoc a b c) ∙ e ∙ append_assoc x y z

-- pieces one after the other, and what goes on after them
abbrev pub on : List (List ℕ) → List ℕ → List ℕ
on [] r = r
on (x ∷ xs) r = x ++ on xs r

pub concat_on : (ps : List (List ℕ)) (r : List ℕ) → concat ps ++ r ≡ on ps r
concat_on [] r = refl
concat_on (x ∷ xs) r = append_assoc x (concat xs) r ∙ ap (λ (t : List ℕ). x ++ t) (concat_on xs r)

pub pieces : (ps qs : List (List ℕ)) (r s : List ℕ) → concat ps ++ r ≡ concat qs ++ s → on ps r ≡ on qs s
pieces ps qs r s e = sym (concat_on ps r) ∙ e ∙ concat_on qs s

-- ---- lines

-- lines one after the other, each of which tells something and where it ends, tell that of each
module _ {X K : Type 0} (line other : X → List ℕ) (Good Fine : X → Type 0) (key : X → K) (starts : List ℕ → Bool) (After : List ℕ → Type 0)
    (first : (x : X) (r : List ℕ) → (starts (line x ++ r) ≡ true) × After (line x ++ r))
    (second : (x : X) (r : List ℕ) → (starts (other x ++ r) ≡ true) × After (other x ++ r))
    (one : (x y : X) (r s : List ℕ) → Good x → Fine y → After r → After s → line x ++ r ≡ other y ++ s → (key x ≡ key y) × (r ≡ s)) where
  started : (a b : List ℕ) → a ≡ b → starts a ≡ true → starts b ≡ false → ⊥
  started a b same begins ends = cc

  after_lines : (f : X → List ℕ) → ((x : X) (r : List ℕ) → (starts (f x ++ r) ≡ true) × After (f x ++ r))
      → (xs : List X) (r : List ℕ) → After r → After (flat_map f xs ++ r)
  after_lines f begins [] r after = after
  after_lines f begins (x ∷ xs) r after = subst After (sym (append_assoc (f x) (flat_map f xs) r)) (begins x (flat_map f xs ++ r)).1

  pub same_lines : (xs ys : List X) (r s : List ℕ) → Each Good xs → Each Fine ys → (starts r ≡ false) × After r → (starts s ≡ false) × After s
      → flat_map line xs ++ r ≡ flat_map other ys ++ s → (map key xs ≡ map key ys) × (r ≡ s)
  same_lines [] [] r s good fine stop end e = (refl, e)
  same_lines [] (y ∷ ys) r s good fine stop end e =
      absurd (started (other y ++ (flat_map other ys ++ s)) r (sym (append_assoc (other y) (flat_map other ys) s) ∙ sym e)
      (second y (flat_map other ys ++ s)).0 stop.0)
  same_lines (x ∷ xs) [] r s good fine stop end e =
      absurd (started (line x ++ (flat_map line xs ++ r)) s (sym (append_assoc (line x) (flat_map line xs) r) ∙ e) (first x (flat_map line xs ++ r)).0
      end.0)
  same_lines (x ∷ xs) (y ∷ ys) r s good fine stop end e =
      let now = one x y (flat_map line xs ++ r) (flat_map other ys ++ s) good.0 fine.0
      (after_lines line first xs r stop.1) (after_lines other second ys s end.1)
      (regrouped (line x) (flat_map line xs) r (other y) (flat_map other ys) s e) in
      let more = same_lines xs ys r s good.1 fine.1 stop end now.1 in
      let same : key x ∷ map key xs ≡ key y ∷ map key ys = cc (now.0, more.0) in
      (same, more.1)

-- A set of the keys of nodes tells whether a node is there, and where.
use Rattle.std.proofs.Common.{◌≡◌, ◌∙◌, inl, inr, ℕ, zero, suc, Bool, true, false, ◌&&◌, ◌||◌, List, [], ◌∷◌, ◌++◌, map, Some, refl, sym, ap, eqb}
use Rattle.std.specs.Prelude.{slice_get, if◌then◌else◌}
use Rattle.std.specs.List.{list_any}
use Rattle.std.proofs.lemmas.Bool.{and_parts, eqb-true, eq-eqb}
use Rattle.std.proofs.lemmas.List.{map-append}
use Rattle.indexmap.specs.IndexSet.{insert_key}
use Rattle.bsv_guard.proofs.Lists.{item_of}
use Rattle.bsv_lemmas.proofs.Places.{mapped_at}
use Rattle.bsv_net.specs.declared.node.NetNode.{NetNode}
use Rattle.bsv_share.specs.declared.key.Key.{Key}
use Rattle.bsv_share.specs.Keys.{key_of}
use Rattle.bsv_share.specs.Folding.{Added, IsNew}
use Rattle.bsv_share.proofs.Keys.{same_node}

-- as the set compares keys
abbrev pub key_eq : Key → Key → Bool
key_eq a b = eqb a.form b.form && (eqb a.first b.first && (eqb a.second b.second && (eqb a.third b.third && eqb a.value b.value)))

same_numbers : (a b : Key) → a.form ≡ b.form → a.first ≡ b.first → a.second ≡ b.second → a.third ≡ b.third → a.value ≡ b.value → a ≡ b
same_numbers a b e f g h i = λ j. record { form = e j; first = f j; second = g j; third = h j; value = i j }

same_key : (a b : Key) → key_eq a b ≡ true → a ≡ b
same_key a b h =
    let one = and_parts (eqb a.form b.form) (eqb a.first b.first && (eqb a.second b.second && (eqb a.third b.third && eqb a.value b.value))) h in
    let two = and_parts (eqb a.first b.first) (eqb a.second b.second && (eqb a.third b.third && eqb a.value b.value)) one.1 in
    let three = and_parts (eqb a.second b.second) (eqb a.third b.third && eqb a.value b.value) two.1 in
    let four = and_parts (eqb a.third b.third) (eqb a.value b.value) three.1 in
    same_numbers a b (eqb-true a.form b.form one.0) (eqb-true a.first b.first two.0) (eqb-true a.second b.second three.0) (eqb-true a.third b.third four.0) (eqb-true a.value b.value four.1)

both : (p q : Bool) → p ≡ true → q ≡ true → (p && q) ≡ true
both p q e f = ap (λ (b : Bool). b && q) e ∙ f

key_itself : (a : Key) → key_eq a a ≡ true
key_itself a =
    let same : (n : ℕ) → eqb n n ≡ true = λ n. eq-eqb n n refl in
    both (eqb a.form a.form) (eqb a.first a.first && (eqb a.second a.second && (eqb a.third a.third && eqb a.value a.value))) (same a.form)
    (both (eqb a.first a.first) (eqb a.second a.second && (eqb a.third a.third && eqb a.value a.value)) (same a.first)
    (both (eqb a.second a.second) (eqb a.third a.third && eqb a.value a.value) (same a.second)
    (both (eqb a.third a.third) (eqb a.value a.value) (same a.third) (same a.value))))

some_passes : {A : Type 0} (p : A → Bool) (xs : List A) (k : ℕ) (x : A) → slice_get xs k ≡ Some x → p x ≡ true → list_any p xs ≡ true
some_passes p [] k x e h = absurd (let n : ⊥ = cc in n)
some_passes p (y ∷ ys) zero x e h = let same : y ≡ x = cc in ap (λ (b : Bool). b || list_any p ys) (ap p same ∙ h)
some_passes p (y ∷ ys) (suc k) x e h = of (p y) (some_passes p ys k x e h)
  where
    of : (b : Bool) → list_any p ys ≡ true → (b || list_any p ys) ≡ true
    of true f = refl
    of false f = f

-- a node of which the key is not there is new
pub is_new : (xs : List NetNode) (x : NetNode) → list_any (key_eq (key_of x)) (map key_of xs) ≡ false → IsNew xs x
is_new xs x none k there =
    let h = some_passes (key_eq (key_of x)) (map key_of xs) k (key_of x) (mapped_at key_of xs k x there) (key_itself (key_of x)) in
    let n : ⊥ = cc in n

-- what is stored at a place is the node
pub stored_there : (xs : List NetNode) (x : NetNode) (k : Key) (i : ℕ) → slice_get (map key_of xs) i ≡ Some k → key_eq (key_of x) k ≡ true → slice_get xs i ≡ Some x
stored_there xs x k i there same =
    let found = item_of key_of xs i k there in
    found.is ∙ ap Some (same_node found.item x (found.gives ∙ sym (same_key (key_of x) k same)))

abbrev pub Stored : List Key → ℕ → Key → Type 0
Stored keys i a = (k : Key) × (slice_get keys i ≡ Some k) × (key_eq a k ≡ true)

-- the node is added where it is new
pub added_new : (xs : List NetNode) (x : NetNode) (keys more : List Key) (ys : List NetNode) (i : ℕ) → keys ≡ map key_of xs → list_any (key_eq (key_of x)) keys ≡ false
    → more ≡ insert_key key_eq keys (key_of x) → Stored more i (key_of x) → ys ≡ xs ++ x ∷ [] → Added xs x ys i
added_new xs x keys more ys i keyed none inserted stored is =
    let grown : more ≡ map key_of ys = inserted ∙ (ap (λ (b : Bool). if b then keys else keys ++ key_of x ∷ []) none ∙ (ap (λ (ks : List Key). ks ++ key_of x ∷ []) keyed ∙ (sym (map-append key_of xs (x ∷ [])) ∙ ap (map key_of) (sym is)))) in
    record {
      grows = inr (is, is_new xs x (ap (list_any (key_eq (key_of x))) (sym keyed) ∙ none));
      there = stored_there ys x stored.0 i (ap (λ (ks : List Key). slice_get ks i) (sym grown) ∙ stored.1) stored.2;
    }

pub added_known : (xs : List NetNode) (x : NetNode) (keys more : List Key) (i : ℕ) → keys ≡ map key_of xs → list_any (key_eq (key_of x)) keys ≡ true
    → more ≡ insert_key key_eq keys (key_of x) → Stored more i (key_of x) → Added xs x xs i
added_known xs x keys more i keyed known inserted stored =
    let same : more ≡ map key_of xs = inserted ∙ (ap (λ (b : Bool). if b then keys else keys ++ key_of x ∷ []) known ∙ keyed) in
    record {
      grows = inl refl;
      there = stored_there xs x stored.0 i (ap (λ (ks : List Key). slice_get ks i) (sym same) ∙ stored.1) stored.2;
    }

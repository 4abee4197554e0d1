-- What is marked in a row, use by use and user by user.
use Rattle.std.proofs.Common.{◌≡◌, ◌∙◌, ℕ, zero, suc, ◌<◌, ◌+◌, ◌⊎◌, inl, inr, Bool, true, false, List, [], ◌∷◌, ◌++◌, length, get_or, replicate, take, drop, refl, sym, ap, subst, arith, length-append, Some}
use Rattle.std.proofs.lemmas.Bool.{and_from, and_parts, cases_eq, cases_lt, eq-eqb, eqb-true}
use Rattle.std.proofs.Common.{append-nil, get_or-set_same, get_or-set_other}
use Rattle.std.proofs.lemmas.List.{drop_all, length-set, take_all}
use Rattle.std.proofs.lemmas.Option.{get_or_from_slice_get, same_Some, slice_get_within}
use Rattle.std.specs.Prelude.{All, IsTrue, ◌==◌, slice_get, slice_index_or, slice_set}
use Rattle.bsv_lemmas.proofs.Places.{at_left, at_middle, item_there}
use Rattle.bsv_design.specs.declared.kind.Kind.{Kind}
use Rattle.bsv_design.specs.design.Bodies.{Target}
use Rattle.bsv_schedule.specs.declared.relating.related.Relation.{Relation}
use Rattle.bsv_schedule.specs.declared.relating.usage.Use.{Use}
use Rattle.bsv_schedule.specs.declared.relating.usage.User.{User}
use Rattle.bsv_schedule.specs.relating.Related.{names_method, on_one_part, related}
use Rattle.bsv_schedule.specs.relating.Rows.{mark, AreMarks, AreMarksOf, Gains}
use Rattle.bsv_schedule.specs.relating.Users.{users_at, AreUsers, IsUserOf, MeetsSome, MeetsUser}
use Rattle.bsv_schedule.specs.relating.Uses.{AllNamed, Among, MeetAt, target_of, use_named, used}
use Rattle.bsv_schedule.proofs.UsesLemmas.{all_has, among_left, among_map, among_parts, among_right, of_map}

pub among_read : {X : Type 0} (xs : List X) (k : ℕ) (d : X) → k < length xs → Among xs (get_or xs k d)
among_read [] k d below = absurd (omega (arith, below))
among_read (x ∷ xs) zero d below = inl refl
among_read (x ∷ xs) (suc k) d below = inr (among_read xs k d (omega (arith, below)))

-- no mark among copies of `false`
none_marked : (n b : ℕ) → mark (replicate n false) b ≡ false
none_marked zero b = refl
none_marked (suc n) zero = refl
none_marked (suc n) (suc b) = none_marked n b

-- one item more
pub each_more : {X : Type 0} (xs : List X) (x : X) (P : ℕ → X → Type 0) → ((a : ℕ) (y : X) → slice_get xs a ≡ Some y → P a y) → P (length xs) x
    → (a : ℕ) (y : X) → slice_get (xs ++ x ∷ []) a ≡ Some y → P a y
each_more xs x P before last a y is = elim (cases_lt a (length xs)) [
  | inl less ↦ before a y (sym (at_left xs (x ∷ []) a less) ∙ is)
  | inr more ↦
      let below : a < length (xs ++ x ∷ []) = slice_get_within (xs ++ x ∷ []) a y is in
      let at : a ≡ length xs = omega (arith, length-append xs (x ∷ [])) in
      let same : x ≡ y = same_Some x y (sym (ap (slice_get (xs ++ x ∷ [])) at ∙ at_middle xs [] x) ∙ is) in
      subst (λ z. P a z) same (subst (λ n. P n x) (sym at) last)
]

-- one mark more
pub mark_more : (xs : List Bool) (x : Bool) (n : ℕ) (f : ℕ → Bool) → length xs ≡ n → ((m : ℕ) → m < n → mark xs m ≡ f m) → x ≡ f n
    → (m : ℕ) → m < n + 1 → mark (xs ++ x ∷ []) m ≡ f m
mark_more [] x zero f long before last zero below = last
mark_more [] x zero f long before last (suc m) below = absurd (omega (arith, below))
mark_more [] x (suc n) f long before last m below = absurd (omega (arith, long))
mark_more (y ∷ xs) x zero f long before last m below = absurd (omega (arith, long))
mark_more (y ∷ xs) x (suc n) f long before last zero below = before 0 (omega arith)
mark_more (y ∷ xs) x (suc n) f long before last (suc m) below =
    mark_more xs x n (λ k. f (suc k)) (omega (arith, long)) (λ k p. before (suc k) (omega (arith, p))) last m (omega (arith, below))

-- what is written back to the whole of a list
pub written_back : (old new : List Bool) (n : ℕ) → n ≡ length old → length new ≡ length old → take n (new ++ drop (length new) old) ≡ new
written_back old new n long same =
    ap (take n) (ap (λ xs. new ++ xs) (drop_all (length new) old (omega (arith, same))) ∙ append-nil new) ∙ take_all n new (omega (arith, long, same))

-- one step after another
module _ (t0 t1 t2 : List Bool) (P Q R : ℕ → Type 0) where
  pub gains_then : Gains t0 t1 P → Gains t1 t2 Q → ((b : ℕ) → R b → P b ⊎ Q b) → ((b : ℕ) → P b → R b) → ((b : ℕ) → Q b → R b) → Gains t0 t2 R
  gains_then g h split first second = record {
    count = h.count ∙ g.count;
    kept = λ b p k. h.kept b (omega (arith, p, g.count)) (g.kept b p k);
    added = λ b p r. elim (split b r) [
      | inl x ↦ h.kept b (omega (arith, p, g.count)) (g.added b p x)
      | inr x ↦ h.added b (omega (arith, p, g.count)) x
    ];
    only = λ b p k. elim (h.only b (omega (arith, p, g.count)) k) [
      | inl y ↦ elim (g.only b p y) [ inl z ↦ inl z | inr z ↦ inr (first b z) ]
      | inr y ↦ inr (second b y)
    ];
  }

-- marks of which one step more is made
pub marks_then : (n : ℕ) (old new : List Bool) (P Q R : ℕ → Type 0) → AreMarks n P old → Gains old new Q
    → ((b : ℕ) → R b → P b ⊎ Q b) → ((b : ℕ) → P b → R b) → ((b : ℕ) → Q b → R b) → AreMarks n R new
marks_then n old new P Q R are gains split first second = record {
  count = gains.count ∙ are.count;
  met = λ b p. (
    λ h. elim (gains.only b (omega (arith, p, are.count)) h) [ inl x ↦ first b ((are.met b p).0 x) | inr x ↦ second b x ],
    λ r. elim (split b r) [
      | inl x ↦ gains.kept b (omega (arith, p, are.count)) ((are.met b p).1 x)
      | inr x ↦ gains.added b (omega (arith, p, are.count)) x
    ],
  );
}

-- one mark
pub one_gained : (old : List Bool) (a : ℕ) → a < length old → Gains old (slice_set old a true) (λ b. IsTrue true × (b ≡ a))
one_gained old a within = record {
  count = length-set old a true;
  kept = λ b p h. elim (cases_eq b a) [
    | inl e ↦ subst (λ x. IsTrue (mark (slice_set old a true) x)) (sym e) (get_or-set_same old a true false within)
    | inr other ↦ get_or-set_other old a b true false other ∙ h
  ];
  added = λ b p h. subst (λ x. IsTrue (mark (slice_set old a true) x)) (sym h.1) (get_or-set_same old a true false within);
  only = λ b p h. elim (cases_eq b a) [
    | inl e ↦ inr (refl, e)
    | inr other ↦ inl (sym (get_or-set_other old a b true false other) ∙ h)
  ];
}

module _ (w : Relation) (ks : List Kind) where
  -- one user more
  pub user_step : (t0 t1 t2 : List Bool) (own : Use) (us vs : List User) (u : User) (meets : Bool) → vs ≡ us ++ u ∷ []
      → meets ≡ related w (slice_get ks own.part) own.method u.method
      → Gains t0 t1 (MeetsUser w ks own us) → Gains t1 t2 (λ y. IsTrue meets × (y ≡ u.element))
      → Gains t0 t2 (MeetsUser w ks own vs)
  user_step t0 t1 t2 own us vs u meets is test before added = subst (λ xs. Gains t0 t2 (MeetsUser w ks own xs)) (sym is)
      (gains_then t0 t1 t2 (MeetsUser w ks own us) (λ y. IsTrue meets × (y ≡ u.element)) (MeetsUser w ks own (us ++ u ∷ [])) before added
      (λ y h. elim (among_parts us (u ∷ []) (record { element = y; method = h.0 }) h.1) [
        | inl old ↦ inl (h.0, old, h.2)
        | inr (inl e) ↦ inr (
          subst IsTrue (sym test) (subst (λ m. IsTrue (related w (slice_get ks own.part) own.method m)) (ap (λ (v : User). v.method) e) h.2),
          ap (λ (v : User). v.element) e,
        )
        | inr (inr none) ↦ absurd none
      ])
      (λ y h. (h.0, among_left us (u ∷ []) (record { element = y; method = h.0 }) h.1, h.2))
      (λ y h. (
        u.method,
        among_right us (u ∷ []) (record { element = y; method = u.method }) (inl (λ i. record { element = h.1 i; method = u.method })),
        subst IsTrue test h.0,
      )))

  -- one use more
  pub use_step : (n : ℕ) (old new : List Bool) (owns more : List Use) (own : Use) (users : List (List User)) → more ≡ owns ++ own ∷ []
      → AreMarks n (MeetsSome w ks owns users) old → Gains old new (MeetsUser w ks own (users_at users own.part))
      → AreMarks n (MeetsSome w ks more users) new
  use_step n old new owns more own users is before added = subst (λ xs. AreMarks n (MeetsSome w ks xs users) new) (sym is)
      (marks_then n old new (MeetsSome w ks owns users) (MeetsUser w ks own (users_at users own.part)) (MeetsSome w ks (owns ++ own ∷ []) users) before added
      (λ y h. elim (among_parts owns (own ∷ []) h.0 h.1) [
        | inl k ↦ inl (h.0, k, h.2)
        | inr (inl e) ↦ inr (subst (λ (o : Use). MeetsUser w ks o (users_at users o.part) y) e h.2)
        | inr (inr none) ↦ absurd none
      ])
      (λ y h. (h.0, among_left owns (own ∷ []) h.0 h.1, h.2))
      (λ y h. (own, among_right owns (own ∷ []) own (inl refl), h)))

  -- without a use nothing is marked
  pub none_met : (n : ℕ) (marks : List Bool) (users : List (List User)) → marks ≡ replicate n false → length marks ≡ n → AreMarks n (MeetsSome w ks [] users) marks
  none_met n marks users is long = record {
    count = long;
    met = λ b p. (
      λ h. let k : false ≡ true = sym (none_marked n b) ∙ subst (λ ms. IsTrue (mark ms b)) is h in absurd (falsehood k),
      λ h. absurd h.1,
    );
  } where
    falsehood : false ≡ true → ⊥
    falsehood e = cc

module _ (w : Relation) (ks : List Kind) (uses : List (List Use)) (users : List (List User)) (are : AreUsers uses users) where
  -- a user that one of the uses meets uses what the element meets
  pub some_meets : (a y : ℕ) → MeetsSome w ks (slice_index_or uses a []) users y → MeetAt w ks uses a y
  some_meets a y h =
      let own = h.0 in
      let its = (are own.part (record { element = y; method = h.2.0 })).0 h.2.1 in
      record {
        first = target_of own;
        second = record { part = own.part; method = h.2.0 };
        in_first = among_map target_of (slice_index_or uses a []) own h.1;
        in_second = subst (λ us. Among (used us) (record { part = own.part; method = h.2.0 })) (sym (get_or_from_slice_get uses y its.0 [] its.1)) its.2;
        meet = and_from (own.part == own.part) (related w (slice_get ks own.part) own.method h.2.0) (eq-eqb own.part own.part refl) h.2.2;
      }

  pub meets_some : (a y : ℕ) → y < length uses → MeetAt w ks uses a y → MeetsSome w ks (slice_index_or uses a []) users y
  meets_some a y below h =
      let p = of_map target_of (slice_index_or uses a []) h.first h.in_first in
      let own = p.0 in
      let its = item_there uses y below in
      let met : IsTrue (on_one_part w ks (target_of own) h.second) = subst (λ t. IsTrue (on_one_part w ks t h.second)) p.2 h.meet in
      let b = and_parts (own.part == h.second.part) (related w (slice_get ks own.part) own.method h.second.method) met in
      let part : own.part ≡ h.second.part = eqb-true own.part h.second.part b.0 in
      let used_there : Among (used its.0) h.second = subst (λ us. Among (used us) h.second) (get_or_from_slice_get uses y its.0 [] its.1) h.in_second in (
        own,
        p.1,
        (
          h.second.method,
          (are own.part (record { element = y; method = h.second.method })).1
              (its.0, its.1, subst (λ q. Among (used its.0) (record { part = q; method = h.second.method })) (sym part) used_there),
          b.1,
        ),
      )

  -- who is noted is an element, and names a method
  pub users_within : AllNamed ks uses → (part count : ℕ) (us : List User) → count ≡ length uses → us ≡ users_at users part → All (IsUserOf count ks part) us
  users_within named part count us long is = λ k d h.
      let u = get_or us k d in
      let its = (are part u).0 (subst (λ vs. Among vs u) is (among_read us k d h)) in
      let t : Target = record { part = part; method = u.method } in
      let p = of_map target_of its.0 t its.2 in (
        subst (λ n. u.element < n) (sym long) (slice_get_within uses u.element its.0 its.1),
        subst (λ (x : Target). IsTrue (names_method ks x.part x.method)) (sym p.2) (all_has (use_named ks) its.0 p.0 (named u.element its.0 its.1) p.1),
      )

  -- the marks of a row are those of the elements that it meets
  pub row_met : (a : ℕ) (owns : List Use) (marks : List Bool) → owns ≡ slice_index_or uses a []
      → AreMarks (length uses) (MeetsSome w ks owns users) marks → AreMarksOf w ks uses a marks
  row_met a owns marks is marked = record {
    count = marked.count;
    met = λ y p. (
      λ h. some_meets a y (subst (λ us. MeetsSome w ks us users y) is ((marked.met y p).0 h)),
      λ h. (marked.met y p).1 (subst (λ us. MeetsSome w ks us users y) (sym is) (meets_some a y p h)),
    );
  }

-- What the files hold decides what is loaded, or what the first refusal is.
use Rattle.std.proofs.Common.{◌≡◌, ℕ, zero, suc, ◌+◌, ◌<◌, ◌≤◌, ◌⊎◌, inl, inr, List, [], ◌∷◌, ◌++◌, length, map, take, codes, Option, Some, Result, Ok, Err, refl, ap, subst, sym, ◌∙◌, add-one, arith}
use Rattle.std.specs.List.{slice_get}
use Rattle.std.proofs.lemmas.Bool.{cases_lt}
use Rattle.std.proofs.lemmas.List.{map-append, length_push}
use Rattle.std.proofs.lemmas.Option.{slice_get_within, slice_get_cases}
use Rattle.bsv_ast.specs.declared.package.Package.{Package}
use Rattle.bsv_flow.specs.declared.loading.Loaded.{Loaded}
use Rattle.bsv_flow.specs.declared.refusal.Refusal.{Refusal}
use Rattle.bsv_flow.specs.declared.refusal.Refusal.TheVariants as refusal
use Rattle.bsv_flow.specs.Loads.{Loads, Reaches, IsLoaded, Refuses, most_packages}
use Rattle.bsv_ast.specs.Packages.{items_of}
use Rattle.bsv_flow.specs.LoadOrder.{with_imports}
use Rattle.bsv_flow.specs.Yields.{Yields}
use Rattle.bsv_flow.proofs.Queued.{with_items_longer}
use Rattle.bsv_flow.proofs.Yielded.{found_once, found_or_refused, some_yield}

some_file : (x y : List ℕ) → ◌≡◌ {A = Option (List ℕ)} (Some x) (Some y) → x ≡ y
some_file x y e = cc

-- ---- the sources of the files that were loaded

take_next : (queue more : List (List ℕ)) (n : ℕ) (name : List ℕ) → slice_get queue n ≡ Some name → take (suc n) (queue ++ more) ≡ take n queue ++ name ∷ []
take_next [] more n name e = absurd cc
take_next (x ∷ queue) more zero name e = ap (λ (y : List ℕ). y ∷ []) (some_file x name e)
take_next (x ∷ queue) more (suc n) name e = ap (λ (ys : List (List ℕ)). x ∷ ys) (take_next queue more n name e)

-- the source of one file more
pub next_sources : (contents : List ℕ → List ℕ) (queue more : List (List ℕ)) (n : ℕ) (name : List ℕ) (sources : List (List ℕ))
    → sources ≡ map contents (take n queue) → slice_get queue n ≡ Some name → sources ++ contents name ∷ [] ≡ map contents (take (n + 1) (queue ++ more))
next_sources contents queue more n name sources are at =
    ap (λ (ss : List (List ℕ)). ss ++ contents name ∷ []) are
    ∙ sym (map-append contents (take n queue) (name ∷ []))
    ∙ ap (map contents) (sym (take_next queue more n name at))
    ∙ ap (λ k. map contents (take k (queue ++ more))) (sym (add-one n))

loaded_is : (files names : List (List ℕ)) (sources texts : List (List ℕ)) (packages trees : List Package) → files ≡ names → sources ≡ texts → packages ≡ trees
    → ◌≡◌ {A = Loaded} (record { files = files; sources = sources; packages = packages }) (record { files = names; sources = texts; packages = trees })
loaded_is files names sources texts packages trees e f g = cc

module _ (first : List ℕ) (contents : List ℕ → List ℕ) where
  -- no more packages are loaded than files are named, and those are no more than may be
  pub queue_within : (queue : List (List ℕ)) (packages : List Package) → Loads first contents queue packages → (length packages ≤ length queue) × (length queue ≤ 64)
  queue_within queue packages Loads.begin = (omega arith, omega arith)
  queue_within queue packages (Loads.next {queue = q} {packages = ps} {file = name} {x = x} before at yields le) =
      (omega (arith, length_push ps x, slice_get_within q (length ps) name at, with_items_longer first q (items_of x)), le)

  -- after so many packages, loading came to these files and packages, and to a file that is a package
  record Step (n : ℕ) : Type 0 where
    pub queue : List (List ℕ)
    pub packages : List Package
    pub name : List ℕ
    pub x : Package
    pub before : Loads first contents queue packages
    pub count : length packages ≡ n
    pub at : slice_get queue n ≡ Some name
    pub yields : Yields name (contents name) (Ok x)
    pub within : length (with_imports first queue x) ≤ most_packages

  -- each package that was loaded was a step
  continues : (queue : List (List ℕ)) (packages : List Package) → Loads first contents queue packages → (n : ℕ) → n < length packages → Step n
  continues queue packages Loads.begin n less = absurd (omega arith)
  continues queue packages (Loads.next {queue = q} {packages = ps} {file = name} {x = x} before at yields le) n less =
      elim (cases_lt n (length ps)) [
        | inl inside ↦ continues q ps before n inside
        | inr last ↦
            let is : length ps ≡ n = omega (arith, length_push ps x) in
            record { queue = q; packages = ps; name = name; x = x; before = before; count = is; at = subst (λ k. slice_get q k ≡ Some name) is at; yields = yields; within = le }
      ]

  -- so many packages are loaded in one way
  abbrev pub Same : List (List ℕ) → List (List ℕ) → List Package → List Package → Type 0
  Same queue other packages others = (queue ≡ other) × (packages ≡ others)

  pub same_file : (queue other : List (List ℕ)) (n m : ℕ) (name also : List ℕ) → queue ≡ other → n ≡ m → slice_get queue n ≡ Some name → slice_get other m ≡ Some also → name ≡ also
  same_file queue other n m name also e count at there = let one : slice_get queue n ≡ slice_get other m = cc in some_file name also (sym at ∙ one ∙ there)

  same_package : (name also : List ℕ) (x y : Package) → name ≡ also → Yields name (contents name) (Ok x) → Yields also (contents also) (Ok y) → x ≡ y
  same_package name also x y e yields too = found_once name (contents name) x y yields (subst (λ file. Yields file (contents file) (Ok y)) (sym e) too)

  same_next : (q r : List (List ℕ)) (ps others : List Package) (x y : Package) → Same q r ps others → x ≡ y → Same (with_imports first q x) (with_imports first r y) (ps ++ x ∷ []) (others ++ y ∷ [])
  same_next q r ps others x y same e = (ap (λ z. with_imports first q z) e ∙ ap (λ z. with_imports first z y) same.0, ap (λ z. ps ++ z ∷ []) e ∙ ap (λ (zs : List Package). zs ++ y ∷ []) same.1)

  pub once : (queue other : List (List ℕ)) (packages others : List Package) → Loads first contents queue packages → Loads first contents other others → length packages ≡ length others → Same queue other packages others
  once queue other packages others Loads.begin Loads.begin e = (refl, refl)
  once queue other packages others Loads.begin (Loads.next {packages = us} {x = y} before at yields le) e = absurd (omega (arith, length_push us y))
  once queue other packages others (Loads.next {packages = ps} {x = x} before at yields le) Loads.begin e = absurd (omega (arith, length_push ps x))
  once queue other packages others (Loads.next {queue = q} {packages = ps} {file = name} {x = x} before at yields le) (Loads.next {queue = r} {packages = us} {file = also} {x = y} earlier there too less) e =
      let count : length ps ≡ length us = omega (arith, length_push ps x, length_push us y) in
      let same : Same q r ps us = once q r ps us before earlier count in
      let file : name ≡ also = same_file q r (length ps) (length us) name also same.0 count at there in
      same_next q r ps us x y same (same_package name also x y file yields too)

  -- where all is loaded, nothing goes on
  stops : (l : Loaded) → IsLoaded first contents l → Step (length l.packages) → ⊥
  stops l all s =
      let same : Same l.files s.queue l.packages s.packages = once l.files s.queue l.packages s.packages all.all s.before (sym s.count) in
      let inside : length l.packages < length s.queue = slice_get_within s.queue (length l.packages) s.name s.at in
      omega (arith, ap length same.0, all.each)

  as_many : (l m : Loaded) → IsLoaded first contents l → IsLoaded first contents m → length m.packages ≤ length l.packages
  as_many l m all also =
      elim (cases_lt (length l.packages) (length m.packages)) [
        | inl less ↦ absurd (stops l all (continues m.files m.packages also.all (length l.packages) less))
        | inr le ↦ le
      ]

  -- what is loaded is one
  pub same : (l m : Loaded) → IsLoaded first contents l → IsLoaded first contents m → l ≡ m
  same l m all also =
      let count : length l.packages ≡ length m.packages = omega (arith, as_many l m all also, as_many m l also all) in
      let one : Same l.files m.files l.packages m.packages = once l.files m.files l.packages m.packages all.all also.all count in
      loaded_is l.files m.files l.sources m.sources l.packages m.packages one.0 (all.sources ∙ ap (map contents) one.0 ∙ sym also.sources) one.1

  -- ---- not both

  -- a file that is a package, with room for its imports
  pub record Passes (name : List ℕ) (queue : List (List ℕ)) : Type 0 where
    pub x : Package
    pub yields : Yields name (contents name) (Ok x)
    pub within : length (with_imports first queue x) ≤ most_packages

  passes_by : (name : List ℕ) (at : Reaches first contents name) → Step (length at.packages) → Passes name at.queue
  passes_by name at s =
      let same : Same s.queue at.queue s.packages at.packages = once s.queue at.queue s.packages at.packages s.before at.before s.count in
      let file : s.name ≡ name = same_file s.queue at.queue (length at.packages) (length at.packages) s.name name same.0 refl s.at at.at in
      record {
        x = s.x;
        yields = subst (λ n. Yields n (contents n) (Ok s.x)) file s.yields;
        within = subst (λ q. length (with_imports first q s.x) ≤ most_packages) same.0 s.within;
      }

  -- a file that loading reaches before another one was loaded
  pub passes_before : (name also : List ℕ) (at : Reaches first contents name) (there : Reaches first contents also) → length at.packages < length there.packages → Passes name at.queue
  passes_before name also at there less = passes_by name at (continues there.queue there.packages there.before (length at.packages) less)

  last_reached : (l : Loaded) (name : List ℕ) → IsLoaded first contents l → (at : Reaches first contents name) → length at.packages ≡ length l.packages → ⊥
  last_reached l name all at count =
      let same : Same at.queue l.files at.packages l.packages = once at.queue l.files at.packages l.packages at.before all.all count in
      let inside : length at.packages < length at.queue = slice_get_within at.queue (length at.packages) name at.at in
      omega (arith, ap length same.0, all.each)

  -- where all is loaded, each file that loading reaches was
  passes : (l : Loaded) (name : List ℕ) → IsLoaded first contents l → (at : Reaches first contents name) → Passes name at.queue
  passes l name all at =
      elim (cases_lt (length at.packages) (length l.packages)) [
        | inl less ↦ passes_by name at (continues l.files l.packages all.all (length at.packages) less)
        | inr le ↦
            elim (cases_lt (length l.packages) (length at.packages)) [
              | inl more ↦ absurd (stops l all (continues at.queue at.packages at.before (length l.packages) more))
              | inr last ↦ absurd (last_reached l name all at (omega arith))
            ]
      ]

  pub too_many : (name : List ℕ) (queue : List (List ℕ)) (x : Package) → Passes name queue → Yields name (contents name) (Ok x) → most_packages < length (with_imports first queue x) → ⊥
  too_many name queue x p yields more =
      let is : p.x ≡ x = found_once name (contents name) p.x x p.yields yields in
      let within : length (with_imports first queue x) ≤ most_packages = subst (λ y. length (with_imports first queue y) ≤ most_packages) is p.within in
      omega arith

  -- what is loaded is not refused
  pub apart : (l : Loaded) (r : Refusal) → IsLoaded first contents l → Refuses first contents r → ⊥
  apart l r all (Refuses.file {name = name} at yields) =
      let p : Passes name at.queue = passes l name all at in
      found_or_refused name (contents name) p.x r p.yields yields
  apart l r all (Refuses.packages {name = name} {x = x} at yields more) = too_many name at.queue x (passes l name all at) yields more

  -- ---- always one

  abbrev Outcome : Type 0
  Outcome = ((l : Loaded) × IsLoaded first contents l) ⊎ ((r : Refusal) × Refuses first contents r)

  ends : (queue : List (List ℕ)) (packages : List Package) → Loads first contents queue packages → length queue ≤ length packages → Outcome
  ends queue packages before le =
      let all : IsLoaded first contents (record { files = queue; sources = map contents queue; packages = packages }) =
      record { all = before; each = omega (arith, (queue_within queue packages before).0); sources = refl }
      in
      inl (record { files = queue; sources = map contents queue; packages = packages }, all)

  by_room : (name : List ℕ) (at : Reaches first contents name) (x : Package) → Yields name (contents name) (Ok x) → (Loads first contents (with_imports first at.queue x) (at.packages ++ x ∷ []) → Outcome) → Outcome
  by_room name at x yields go =
      elim (cases_lt most_packages (length (with_imports first at.queue x))) [
        | inl more ↦ inr (refusal.Limit (codes "packages") most_packages, Refuses.packages at yields more)
        | inr le ↦ go (Loads.next at.before at.at yields le)
      ]

  by_file : (name : List ℕ) (at : Reaches first contents name) (r : Result Package Refusal) → Yields name (contents name) r → ((x : Package) → Loads first contents (with_imports first at.queue x) (at.packages ++ x ∷ []) → Outcome) → Outcome
  by_file name at (Err r) yields go = inr (r, Refuses.file at yields)
  by_file name at (Ok x) yields go = by_room name at x yields (go x)

  at_file : (name : List ℕ) (at : Reaches first contents name) → ((x : Package) → Loads first contents (with_imports first at.queue x) (at.packages ++ x ∷ []) → Outcome) → Outcome
  at_file name at go = let found = some_yield name (contents name) in by_file name at found.0 found.1 go

  goes_on : (n : ℕ) (queue : List (List ℕ)) (packages : List Package) → Loads first contents queue packages → 64 ≤ length packages + n → Outcome
  goes_on zero queue packages before enough = let within = queue_within queue packages before in ends queue packages before (omega (arith, within.1))
  goes_on (suc n) queue packages before enough =
      elim (slice_get_cases queue (length packages)).1 [
        | inl found ↦
            at_file found.0 (record { queue = queue; packages = packages; before = before; at = found.2 })
            (λ x more. goes_on n (with_imports first queue x) (packages ++ x ∷ []) more (omega (arith, length_push packages x)))
        | inr past ↦ ends queue packages before past.0
      ]

  -- there is what is loaded, or a refusal
  pub some : ((l : Loaded) × IsLoaded first contents l) ⊎ ((r : Refusal) × Refuses first contents r)
  some = goes_on 64 (first ∷ []) [] Loads.begin (omega arith)

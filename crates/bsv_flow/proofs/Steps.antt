-- One file more is loaded, or is refused.
use Rattle.std.proofs.Common.{◌≡◌, ℕ, ◌<◌, ◌≤◌, List, [], ◌∷◌, ◌++◌, length, map, min, take, codes, inl, inr, Option, None, Some, Result, Ok, Err, refl, ap, subst, sym, ◌∙◌, arith}
use Rattle.std.specs.List.{slice_get}
use Rattle.std.specs.Option.{option_map}
use Rattle.std.proofs.lemmas.Option.{slice_get_cases}
use Rattle.std.proofs.lemmas.List.{take_all, length-take}
use Rattle.bsv_ast.specs.declared.package.Package.{Package}
use Rattle.bsv_flow.specs.declared.refusal.Refusal.{Refusal}
use Rattle.bsv_flow.specs.declared.refusal.Refusal.TheVariants as refusal
use Rattle.bsv_flow.specs.Loads.{Loads, Reaches, IsLoaded, Refuses, most_packages}
use Rattle.bsv_flow.specs.LoadOrder.{with_imports}
use Rattle.bsv_flow.specs.Sources.{read_limit}
use Rattle.bsv_flow.specs.Yields.{Yields, most_bytes}
use Rattle.bsv_flow.proofs.Yielded.{yields_of_front}

-- what was found of the bytes that were read is what the file yields
pub yields_whole : (contents : List ℕ → List ℕ) (name asked read source given : List ℕ) (r : Result Package Refusal)
    → asked ≡ name → read ≡ name → given ≡ source → source ≡ take read_limit (contents read) → Yields asked given r → Yields name (contents name) r
yields_whole contents name asked read source given r same named is taken yields =
    let front : source ≡ take read_limit (contents name) = taken ∙ ap (λ n. take read_limit (contents n)) named in
    yields_of_front name (contents name) source r front
    (subst (λ n. Yields n source r) same (subst (λ bytes. Yields asked bytes r) is yields))

module _ (first : List ℕ) (contents : List ℕ → List ℕ) (queue : List (List ℕ)) (packages : List Package) (turn : ℕ) (name : List ℕ)
    (before : Loads first contents queue packages) (count : length packages ≡ turn) (at : slice_get queue turn ≡ Some name) where
  here : slice_get queue (length packages) ≡ Some name
  here = ap (slice_get queue) count ∙ at

  -- loading comes to the file
  pub reached : Reaches first contents name
  reached = record { queue = queue; packages = packages; before = before; at = here }

  -- it is refused
  pub refused_here : (r : Refusal) → Yields name (contents name) (Err r) → Refuses first contents r
  refused_here r yields = Refuses.file reached yields

  -- its imports name too many packages
  pub refused_after : (x : Package) (r : Refusal) → Yields name (contents name) (Ok x) → r ≡ refusal.Limit (codes "packages") most_packages → most_packages < length (with_imports first queue x) → Refuses first contents r
  unfolding reached
  refused_after x r yields is many = subst (Refuses first contents) (sym is) (Refuses.packages reached yields many)

  -- it is loaded
  pub loads_more : (x : Package) (after : List (List ℕ)) → Yields name (contents name) (Ok x) → after ≡ with_imports first queue x → length after ≤ most_packages → Loads first contents after (packages ++ x ∷ [])
  loads_more x after yields is few =
      subst (λ files. Loads first contents files (packages ++ x ∷ [])) (sym is)
      (Loads.next before here yields (subst (λ (files : List (List ℕ)). length files ≤ most_packages) is few))

tree_small : (file bytes : List ℕ) (x : Package) → Yields file bytes (Ok x) → length bytes ≤ most_bytes
tree_small file bytes x (Yields.tree small are shallow reads) = small

-- a source that is a package was read whole
pub read_whole_tree : (file text source : List ℕ) (x : Package) → source ≡ take read_limit text → Yields file source (Ok x) → source ≡ text
read_whole_tree file text source x taken yields =
    let small : length source ≤ most_bytes = tree_small file source x yields in
    let front : length source ≡ min read_limit (length text) = ap length taken ∙ length-take read_limit text in
    taken ∙ take_all read_limit text (omega (arith, small, front))

one_file : (first : List ℕ) (queue none : List (List ℕ)) (file : List ℕ) → queue ≡ none ++ file ∷ [] → none ≡ [] → file ≡ first → queue ≡ first ∷ []
one_file first queue none file is empty same = is ∙ ap (λ (files : List (List ℕ)). files ++ file ∷ []) empty ∙ ap (λ f. f ∷ []) same

-- at the start the first file alone is named
pub loads_first : (first : List ℕ) (contents : List ℕ → List ℕ) (queue none : List (List ℕ)) (file : List ℕ) (packages : List Package)
    → queue ≡ none ++ file ∷ [] → none ≡ [] → file ≡ first → packages ≡ [] → Loads first contents queue packages
loads_first first contents queue none file packages is empty same nothing =
    subst (λ files. Loads first contents files packages) (sym (one_file first queue none file is empty same))
    (subst (λ ps. Loads first contents (first ∷ []) ps) (sym nothing) Loads.begin)

pub one_long : (first : List ℕ) (queue none : List (List ℕ)) (file : List ℕ) → queue ≡ none ++ file ∷ [] → none ≡ [] → file ≡ first → length queue ≡ 1
one_long first queue none file is empty same = ap length (one_file first queue none file is empty same)

past : (queue : List (List ℕ)) (turn : ℕ) → None ≡ slice_get queue turn → length queue ≤ turn
past queue turn none =
    elim (slice_get_cases queue turn).1 [
      | inl found ↦ let never : ◌≡◌ {A = Option (List ℕ)} None (Some found.0) = none ∙ found.2 in absurd cc
      | inr behind ↦ behind.0
    ]

-- where a file was asked for and none was given, none is left
pub none_left : {B : Type 0} (now : B → List ℕ) (asked : Option B) (queue : List (List ℕ)) (turn : ℕ) → option_map now asked ≡ slice_get queue turn → ((x : B) → asked ≡ Some x → ⊥) → length queue ≤ turn
none_left {B} now None queue turn is never = past queue turn is
none_left {B} now (Some x) queue turn is never = absurd (never x refl)

-- where no file is left, all are loaded
pub all_loaded : (first name : List ℕ) (contents : List ℕ → List ℕ) (queue sources : List (List ℕ)) (packages : List Package) (turn : ℕ)
    → first ≡ name → Loads first contents queue packages → length packages ≡ turn → turn ≡ length queue → sources ≡ map contents (take turn queue)
    → IsLoaded name contents (record { files = queue; sources = sources; packages = packages })
all_loaded first name contents queue sources packages turn same all count end are =
    record {
      all = subst (λ n. Loads n contents queue packages) same all;
      each = count ∙ end;
      sources = are ∙ ap (map contents) (ap (λ n. take n queue) end ∙ take_all (length queue) queue (omega arith));
    }

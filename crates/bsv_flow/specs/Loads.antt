-- Loading: the first file, and the file of each package that is imported, each whole before the next. Here `contents`
-- gives the bytes of each file, and a missing file has none.
use Rattle.std.specs.Prelude.{◌≡◌, ℕ, ◌<◌, ◌≤◌, List, [], ◌∷◌, ◌++◌, length, map, slice_get, Some, Ok, Err, codes}
use Rattle.bsv_ast.specs.declared.package.Package.{Package}
use Rattle.bsv_flow.specs.declared.loading.Loaded.{Loaded}
use Rattle.bsv_flow.specs.declared.refusal.Refusal.{Refusal}
use Rattle.bsv_flow.specs.declared.refusal.Refusal.TheVariants as refusal
use Rattle.bsv_flow.specs.LoadOrder.{with_imports}
use Rattle.bsv_flow.specs.Yields.{Yields}

-- at most so many packages are loaded
abbrev pub most_packages : ℕ
most_packages = 64

module _ (first : List ℕ) (contents : List ℕ → List ℕ) where
  -- these files are named so far, and the first ones of them were loaded as these packages
  pub data Loads : List (List ℕ) → List Package → Type 0 where
    begin : Loads (first ∷ []) []
    next : {queue : List (List ℕ)} {packages : List Package} {file : List ℕ} {x : Package} → Loads queue packages → slice_get queue (length packages) ≡ Some file → Yields file (contents file) (Ok x)
        → length (with_imports first queue x) ≤ most_packages → Loads (with_imports first queue x) (packages ++ x ∷ [])

  -- loading comes to this file, and nothing was refused before
  pub record Reaches (file : List ℕ) : Type 0 where
    pub queue : List (List ℕ)
    pub packages : List Package
    pub before : Loads queue packages
    pub at : slice_get queue (length packages) ≡ Some file

  -- all files that are named were loaded
  pub record IsLoaded (l : Loaded) : Type 0 where
    pub all : Loads l.files l.packages
    pub each : length l.packages ≡ length l.files
    pub sources : l.sources ≡ map contents l.files

  -- the first refusal: of a file that loading reaches, or where its imports name one package too many
  pub data Refuses : Refusal → Type 0 where
    file : {name : List ℕ} {r : Refusal} → Reaches name → Yields name (contents name) (Err r) → Refuses r
    packages : {name : List ℕ} {x : Package} (at : Reaches name) → Yields name (contents name) (Ok x) → most_packages < length (with_imports first at.queue x) → Refuses (refusal.Limit (codes "packages") most_packages)

-- What is told of a suite: of each trace of its list, in their order and each once, the section of its report.
use Rattle.std.specs.Prelude.{◌≡◌, ℕ, ◌+◌, ◌==◌, ◌*◌, List, [], ◌∷◌, ◌++◌, length, take, Contains, if◌then◌else◌}
use Rattle.bsv_design.specs.declared.schedule.Schedule.{Schedule}
use Rattle.bsv_io.specs.Writing.{Writing, appended, AppendsPrefix}
use Rattle.bsv_clock.specs.Subjects.{Subject}
use Rattle.bsv_suite.specs.Sections.{IsReported}
use Rattle.bsv_suite.specs.Texts.{Told, section_text}

-- the text of what is told
abbrev pub suite_text : List Told → List ℕ
suite_text [] = []
suite_text (t ∷ ts) = section_text t ++ suite_text ts

-- how many of the traces have a bad line
abbrev pub bad_traces : List Told → ℕ
bad_traces [] = 0
bad_traces (t ∷ ts) = (if t.bad == 0 then 0 else 1) + bad_traces ts

module _ (s : Subject) (made : Schedule) (contents : List ℕ → List ℕ) where
  -- of each of these names in turn is told what its file is reported as
  abbrev pub AreTold : List (List ℕ) → List Told → Type 0
  AreTold [] [] = Unit {0}
  AreTold (name ∷ names) (t ∷ ts) = (t.name ≡ name) × IsReported s made (contents name) t.text t.bad × AreTold names ts
  AreTold _ _ = ⊥

  -- all that is told of the names is put
  pub record IsSuite (names : List (List ℕ)) (start w : Writing) (bad : ℕ) : Type 0 where
    pub tolds : List Told
    pub told : AreTold names tolds
    pub put : w ≡ appended (suite_text tolds) start
    pub bad_is : bad ≡ bad_traces tolds

  -- a prefix of what is told of some first names is put
  pub record IsSuiteStarted (names : List (List ℕ)) (start w : Writing) : Type 0 where
    pub front : List (List ℕ)
    pub rest : List (List ℕ)
    pub tolds : List Told
    pub names_are : names ≡ front ++ rest
    pub told : AreTold front tolds
    pub prefix : AppendsPrefix (suite_text tolds) start w

  -- The names go in groups of eight, and a group is read whole before any of it is put: where the file of this name can be read no
  -- further, all that is told of the groups before its own is put, and nothing more.
  pub record IsSuiteCut (names : List (List ℕ)) (name : List ℕ) (start w : Writing) : Type 0 where
    pub groups : ℕ
    pub front : List (List ℕ)
    pub rest : List (List ℕ)
    pub tolds : List Told
    pub names_are : names ≡ front ++ rest
    pub whole : length front ≡ 8 * groups
    pub in_group : Contains (take 8 rest) name
    pub told : AreTold front tolds
    pub put : w ≡ appended (suite_text tolds) start

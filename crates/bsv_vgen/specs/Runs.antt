-- Whole runs of a module: from its initial words, without a reset, each clock goes from the registers after the clock before
-- it; and what such a run tells of a run of a scheme.
use Rattle.std.specs.Prelude.{Bool, true, List, [], ◌∷◌, length}
use Rattle.bsv_bits.specs.Words.{Bits}
use Rattle.bsv_prim.specs.declared.part.Part.{Part}
use Rattle.bsv_design.specs.declared.schedule.Schedule.{Schedule}
use Rattle.bsv_design.specs.scheme.Schemes.{Scheme, Asking}
use Rattle.bsv_design.specs.scheme.States.{opening}
use Rattle.bsv_clock.specs.Runs.{Row, Runs, AllFit}
use Rattle.bsv_net.specs.Unasked.{Arguments, MayBeArguments}
use Rattle.bsv_vtext.specs.Signals.{VModuleData}
use Rattle.bsv_vtext.specs.VClock.{Nets, VClock, initial}
use Rattle.bsv_vgen.specs.ShowsByModule.{TellsModule, TellsOthersByModule, inputs, inputs_with}

-- a clock of a module: the words of its nets, and the registers after it
pub record ModuleRow : Type 0 where
  pub nets : Nets
  pub nexts : List Bits

-- the clocks after these registers, one for each of the requests
abbrev pub ModuleContinues : Scheme → VModuleData → List Bits → List Asking → List ModuleRow → Type 0
ModuleContinues S c ws [] [] = Unit {0}
ModuleContinues S c ws (q ∷ qs) (row ∷ rows) =
    VClock c ws (inputs S q (length c.methods)) true row.nets row.nexts × ModuleContinues S c row.nexts qs rows
ModuleContinues S c ws _ _ = ⊥

-- the clocks of a module, which begins with its initial words
abbrev pub ModuleRuns : Scheme → VModuleData → List Asking → List ModuleRow → Type 0
ModuleRuns S c qs rows = ModuleContinues S c (initial c) qs rows

-- there are such clocks
pub record HasModuleRun (S : Scheme) (c : VModuleData) (qs : List Asking) : Type 0 where
  pub rows : List ModuleRow
  pub runs : ModuleRuns S c qs rows

-- clock by clock the module tells what happens, and its registers show the state after it
abbrev pub TellsFrom : Bool → Scheme → VModuleData → List Part → List Asking → List Row → List ModuleRow → Type 0
TellsFrom aggressive S c s [] [] [] = Unit {0}
TellsFrom aggressive S c s (q ∷ qs) (row ∷ rows) (told ∷ tolds) =
    TellsModule aggressive S q s row.fired.list.items row.after c told.nets told.nexts × TellsFrom aggressive S c row.after qs rows tolds
TellsFrom aggressive S c s _ _ _ = ⊥

-- the module runs for all requests that fit, and whatever words solve its assignments, it tells the run of the scheme
pub record RunsAs (aggressive : Bool) (S : Scheme) (made : Schedule) (c : VModuleData) : Type 0 where
  pub some : (qs : List Asking) → AllFit S qs → ∥ HasModuleRun S c qs ∥₁
  pub told : (qs : List Asking) (rows : List Row) (tolds : List ModuleRow) → AllFit S qs → Runs aggressive S made qs rows
      → ModuleRuns S c qs tolds → TellsFrom aggressive S c (opening S.kinds) qs rows tolds

-- ---- whatever words are at arguments that are not asked for

-- words that may be at the arguments, clock by clock
abbrev pub AllMayBeArguments : Scheme → List Asking → List Arguments → Type 0
AllMayBeArguments S [] [] = Unit {0}
AllMayBeArguments S (q ∷ qs) (xs ∷ more) = MayBeArguments S q xs × AllMayBeArguments S qs more
AllMayBeArguments S _ _ = ⊥

-- the clocks after these registers, with these words at the arguments
abbrev pub ContinuesWith : VModuleData → List Bits → List Asking → List Arguments → List ModuleRow → Type 0
ContinuesWith c ws [] [] [] = Unit {0}
ContinuesWith c ws (q ∷ qs) (xs ∷ more) (row ∷ rows) =
    VClock c ws (inputs_with q xs (length c.methods)) true row.nets row.nexts × ContinuesWith c row.nexts qs more rows
ContinuesWith c ws _ _ _ = ⊥

-- there are such clocks
pub record HasRunWith (c : VModuleData) (qs : List Asking) (more : List Arguments) : Type 0 where
  pub rows : List ModuleRow
  pub runs : ContinuesWith c (initial c) qs more rows

-- clock by clock the module tells what happens to all but the methods that act and are not asked
abbrev pub TellsOthersFrom : Bool → Scheme → VModuleData → List Part → List Asking → List Row → List ModuleRow → Type 0
TellsOthersFrom aggressive S c s [] [] [] = Unit {0}
TellsOthersFrom aggressive S c s (q ∷ qs) (row ∷ rows) (told ∷ tolds) =
    TellsOthersByModule aggressive S q s row.fired.list.items row.after c told.nets told.nexts
    × TellsOthersFrom aggressive S c row.after qs rows tolds
TellsOthersFrom aggressive S c s _ _ _ = ⊥

-- the module runs so, too, and tells the same run of the scheme
pub record RunsUnasked (aggressive : Bool) (S : Scheme) (made : Schedule) (c : VModuleData) : Type 0 where
  pub some : (qs : List Asking) (more : List Arguments) → AllFit S qs → AllMayBeArguments S qs more → ∥ HasRunWith c qs more ∥₁
  pub told : (qs : List Asking) (more : List Arguments) (rows : List Row) (tolds : List ModuleRow) → AllFit S qs
      → AllMayBeArguments S qs more → Runs aggressive S made qs rows → ContinuesWith c (initial c) qs more tolds
      → TellsOthersFrom aggressive S c (opening S.kinds) qs rows tolds

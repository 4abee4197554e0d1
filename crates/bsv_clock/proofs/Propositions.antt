-- What is asked of a scheme is a proposition: there is at most one proof of it.
use Rattle.std.proofs.Common.{ℕ, List, [], ◌∷◌, Option, Some, None}
use Rattle.std.proofs.Math.Bool.{Bool-set}
use Rattle.std.proofs.Math.Nat.{ℕ_set}
use Rattle.std.proofs.Math.Bridge.{le_prop}
use Rattle.bsv_lemmas.proofs.Choices.{option_set}
use mathlib.Core.List.{is_set as list_set}
use Rattle.bsv_bits.specs.Words.{Bits}
use Rattle.bsv_design.specs.design.Branches.{AreSameSites, AreSameDemands}
use Rattle.bsv_design.specs.declared.node.Branch.{Branch}
use Rattle.bsv_design.specs.declared.kind.Kind.{Kind}
use Rattle.bsv_design.specs.design.Bodies.{Target}
use Rattle.bsv_design.specs.scheme.Schemes.{Scheme}
use Rattle.bsv_design.specs.scheme.Traces.{Site, Demand, Trace}
use Rattle.bsv_guard.specs.Fitting.{IsFitting, IsMethodOf, IsFitCall}
use Rattle.bsv_guard.specs.Sound.{IsSound, Place}
use Rattle.bsv_clock.specs.Grounds.{IsLawful}

pub bits_set : IsSet Bits
bits_set = hlevel ℕ_set

words_set : IsSet (List Bits)
words_set = list_set bits_set

branches_set : IsSet (List Branch)
branches_set = list_set (hlevel ℕ_set)

names_set : IsSet (Option (List ℕ))
names_set = option_set (list_set ℕ_set)

targets_set : IsSet (List Target)
targets_set = list_set (hlevel ℕ_set)

places_set : IsSet (List Place)
places_set = list_set (hlevel (ℕ_set, Bool-set, branches_set))

site_set : IsSet Site
site_set = hlevel (ℕ_set, Bool-set, branches_set, words_set)

demand_set : IsSet Demand
demand_set = hlevel (names_set, Bool-set)

result_set : IsSet (Option Bits)
result_set = option_set bits_set

trace_set : IsSet Trace
trace_set = hlevel (list_set site_set, list_set demand_set, result_set)

same_sites_prop : (xs ys : List Site) → IsProp (AreSameSites xs ys)
same_sites_prop [] [] = hlevel
same_sites_prop [] (y ∷ ys) = hlevel
same_sites_prop (x ∷ xs) [] = hlevel
same_sites_prop (x ∷ xs) (y ∷ ys) = hlevel (ℕ_set, Bool-set, branches_set, words_set, same_sites_prop xs ys)

same_demands_prop : (xs ys : List Demand) → IsProp (AreSameDemands xs ys)
same_demands_prop [] [] = hlevel
same_demands_prop [] (y ∷ ys) = hlevel
same_demands_prop (x ∷ xs) [] = hlevel
same_demands_prop (x ∷ xs) (y ∷ ys) = hlevel (names_set, Bool-set, same_demands_prop xs ys)

sound_prop : (S : Scheme) → IsProp (IsSound S)
sound_prop S =
    hlevel (targets_set, places_set, list_set names_set, trace_set, result_set, Bool-set, same_sites_prop, same_demands_prop)

method_prop : (o : Option Kind) (m : ℕ) → IsProp (IsMethodOf o m)
method_prop None m = hlevel
method_prop (Some k) m = hlevel le_prop

fit_call_prop : (o : Option Kind) (m : ℕ) (args : List Bits) → IsProp (IsFitCall o m args)
fit_call_prop None m args = hlevel
fit_call_prop (Some k) m args = hlevel (le_prop, ℕ_set)

fitting_prop : (S : Scheme) → IsProp (IsFitting S)
fitting_prop S = hlevel (method_prop, fit_call_prop, le_prop, ℕ_set)

pub lawful_prop : (S : Scheme) → IsProp (IsLawful S)
lawful_prop S = hlevel (sound_prop, fitting_prop)

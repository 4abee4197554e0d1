-- The contents of the files decide what is typed or refused.
use Rattle.std.proofs.Common.{◌≡◌, ℕ, ◌⊎◌, inl, inr, List, Result, Ok, Err, refl, sym, ◌∙◌, ap}
use Rattle.bsv_check.specs.Checked.{ProgramParts}
use Rattle.bsv_flow.specs.declared.loading.Loaded.{Loaded}
use Rattle.bsv_flow.specs.declared.refusal.Refusal.{Refusal}
use Rattle.bsv_flow.specs.Loads.{IsLoaded}
use Rattle.bsv_flow.specs.Typings.{typing_of, IsTyped, IsUntyped}
use Rattle.bsv_flow.proofs.Decided as loading

module _ (first : List ℕ) (contents : List ℕ → List ℕ) where
  pub same : (l m : Loaded) → IsTyped first contents l → IsTyped first contents m → l ≡ m
  same l m one two = loading.same first contents l m one.loaded two.loaded

  not_both : (given : Result ProgramParts Refusal) (made : ProgramParts) (r : Refusal) → given ≡ Ok made → given ≡ Err r → ⊥
  not_both given made r one two = let e = sym one ∙ two in let no_value : ⊥ = cc in no_value

  pub apart : (l : Loaded) (r : Refusal) → IsTyped first contents l → IsUntyped first contents r → ⊥
  apart l r typed (IsUntyped.loading refused) = loading.apart first contents l r typed.loaded refused
  apart l r typed (IsUntyped.typing m loaded refused) =
      not_both (typing_of l) typed.made r typed.typed (ap typing_of (loading.same first contents l m typed.loaded loaded) ∙ refused)

  abbrev Outcome : Type 0
  Outcome = ((l : Loaded) × IsTyped first contents l) ⊎ ((r : Refusal) × IsUntyped first contents r)

  by_typing : (l : Loaded) → IsLoaded first contents l → (given : Result ProgramParts Refusal) → typing_of l ≡ given → Outcome
  by_typing l loaded (Ok m) is = inl (l, record { loaded = loaded; made = m; typed = is })
  by_typing l loaded (Err r) is = inr (r, IsUntyped.typing l loaded is)

  pub some : ((l : Loaded) × IsTyped first contents l) ⊎ ((r : Refusal) × IsUntyped first contents r)
  some =
      elim (loading.some first contents) [
        | inl found ↦ by_typing found.0 found.1 (typing_of found.0) refl
        | inr refused ↦ inr (refused.0, IsUntyped.loading refused.1)
      ]

-- What is asked of a design fits it; and a role that is a rule's is `Rule`.
use Rattle.std.proofs.Common.{◌≡◌, ℕ, true, List, [], ◌∷◌, refl}
use Rattle.std.proofs.Math.Bridge.{le_prop}
use Rattle.std.proofs.Math.Logic.{∥∥₁_elim}
use Rattle.std.proofs.Math.Nat.{ℕ_set}
use Rattle.bsv_bits.specs.Words.{Bits}
use Rattle.bsv_design.specs.declared.design.Design.{Design}
use Rattle.bsv_design.specs.declared.element.Port.{Port}
use Rattle.bsv_design.specs.declared.element.Role.{Role}
use Rattle.bsv_design.specs.declared.element.Role.TheVariants as role
use Rattle.bsv_design.specs.design.Designs.{IsDesign}
use Rattle.bsv_design.specs.design.Roles.{is_rule}
use Rattle.bsv_design.specs.scheme.Schemes.{Asking, design_scheme}
use Rattle.bsv_design.specs.scheme.Seen.{design_data}
use Rattle.bsv_design.specs.scheme.States.{AreWordsOf, AskingFits}
use Rattle.bsv_guard.specs.Fitting.{RequestFits}
use Rattle.bsv_guard.proofs.DesignFits.{request_fits}

pub words_prop : (ps : List Port) (ws : List Bits) → IsProp (AreWordsOf ps ws)
words_prop [] [] = hlevel
words_prop [] (w ∷ ws) = hlevel
words_prop (p ∷ ps) [] = hlevel
words_prop (p ∷ ps) (w ∷ ws) = hlevel (le_prop, ℕ_set, words_prop ps ws)

pub requests_fit : (d : Design) (q : Asking) → AskingFits d.elements q → (n : ℕ) → RequestFits (design_scheme (design_data d)) q n
requests_fit d q asking n =
    ∥∥₁_elim d.right (words_prop _ _) (λ (right : IsDesign (design_data d)). request_fits (design_data d) right q asking n)

pub rule_is : (r : Role) → is_rule r ≡ true → r ≡ role.Rule
rule_is role.Rule h = refl
rule_is role.Value h = absurd (let f : ⊥ = cc in f)
rule_is role.Action h = absurd (let f : ⊥ = cc in f)
rule_is role.ActionValue h = absurd (let f : ⊥ = cc in f)

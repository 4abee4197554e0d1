-- The test of widths is what is said of an element.
use Rattle.std.proofs.Common.{◌≡◌, ◌∙◌, ◌↔◌, ℕ, Bool, true, false, ◌&&◌, ◌||◌, not, List, [], Some, None, refl, sym, subst}
use Rattle.std.specs.Prelude.{IsTrue}
use Rattle.std.specs.List.{list_all}
use Rattle.std.proofs.lemmas.Bool.{and_parts, and_from}
use Rattle.bsv_design.specs.declared.element.Element.{Element}
use Rattle.bsv_design.specs.declared.element.Role.{Role}
use Rattle.bsv_design.specs.declared.element.Role.TheVariants as role
use Rattle.bsv_design.specs.declared.kind.Kind.{Kind}
use Rattle.bsv_design.specs.design.Designs.{HasWidths}
use Rattle.bsv_design.specs.design.Roles.{gives_value, is_value}
use Rattle.bsv_design.specs.design.Widths.{widths_from, call_fits, condition_fits, port_fits, result_fits}
use Rattle.bsv_widths.specs.Fitting.{fits}

some_is : (v w : List ℕ) → Some v ≡ Some w → v ≡ w
some_is v w e = cc

fit : (ks : List Kind) (e : Element) (ws : List ℕ) → Some ws ≡ widths_from e.arguments ks e.calls [] e.nodes → fits ks e ws ≡ true → HasWidths ks e
fit ks e ws found h =
    let calls : Bool = list_all (call_fits ks ws) e.calls in
    let conditions : Bool = list_all (condition_fits ws) e.conditions in
    let last = and_parts (calls && conditions && result_fits ws (gives_value e.role) e.result) (list_all port_fits e.arguments) h in
    let third = and_parts (calls && conditions) (result_fits ws (gives_value e.role) e.result) last.0 in
    let second = and_parts calls conditions third.0 in
    record { widths = ws; nodes = sym found; calls = second.0; conditions = second.1; result = third.1; ports = last.1 }

fit_of : (ks : List Kind) (e : Element) (ws : List ℕ) → Some ws ≡ widths_from e.arguments ks e.calls [] e.nodes → HasWidths ks e → fits ks e ws ≡ true
fit_of ks e ws found has =
    let same : has.widths ≡ ws = some_is has.widths ws (sym has.nodes ∙ sym found) in
    subst (λ (vs : List ℕ). fits ks e vs ≡ true) same
    (and_from (list_all (call_fits ks has.widths) e.calls && list_all (condition_fits has.widths) e.conditions && result_fits has.widths (gives_value e.role) e.result) (list_all port_fits e.arguments)
    (and_from (list_all (call_fits ks has.widths) e.calls && list_all (condition_fits has.widths) e.conditions) (result_fits has.widths (gives_value e.role) e.result)
    (and_from (list_all (call_fits ks has.widths) e.calls) (list_all (condition_fits has.widths) e.conditions) has.calls has.conditions) has.result) has.ports)

pub when_found : (ks : List Kind) (e : Element) (ws : List ℕ) (b : Bool) → Some ws ≡ widths_from e.arguments ks e.calls [] e.nodes → b ≡ fits ks e ws
    → (b ≡ true) ↔ HasWidths ks e
when_found ks e ws b found is = (λ h. fit ks e ws found (sym is ∙ h), λ has. is ∙ fit_of ks e ws found has)

pub when_none : (ks : List Kind) (e : Element) → None ≡ widths_from e.arguments ks e.calls [] e.nodes → (false ≡ true) ↔ HasWidths ks e
when_none ks e none = (λ h. absurd cc, λ has. let never : None ≡ Some has.widths = none ∙ has.nodes in absurd cc)

-- ---- values

pub where_value : (r : Role) (b : Bool) → ((not (is_value r) || b) ≡ true) ↔ (r ≡ role.Value → IsTrue b)
where_value role.Rule b = (λ h e. absurd cc, λ h. refl)
where_value role.Value b = (λ h e. h, λ h. h refl)
where_value role.Action b = (λ h e. absurd cc, λ h. refl)
where_value role.ActionValue b = (λ h e. absurd cc, λ h. refl)

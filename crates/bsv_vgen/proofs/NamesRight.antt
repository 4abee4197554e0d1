-- The names of a module that is that of a design are names in Verilog: the module's own, those of its methods and their
-- arguments, of its registers and of its wires.
use Rattle.std.proofs.Common.{◌≡◌, ◌∙◌, ℕ, ◌+◌, ◌^◌, ◌<◌, true, false, IsTrue, List, ◌∷◌, ◌++◌, map, length, Some, sym, ap, subst, arith, codes}
use Rattle.std.specs.Prelude.{slice_get, decimal}
use Rattle.std.specs.List.{list_all}
use Rattle.std.proofs.lemmas.Bool.{and_parts, not-true}
use Rattle.std.proofs.lemmas.Option.{slice_get_within, same_Some}
use Rattle.bsv_lemmas.proofs.Places.{at_right, mapped_at, passes_at}
use Rattle.bsv_ast.specs.Names.{is_lower}
use Rattle.bsv_types.specs.Names.{distinct}
use Rattle.bsv_design.specs.declared.design.NamedPart.{NamedPart}
use Rattle.bsv_design.specs.declared.element.Element.{Element}
use Rattle.bsv_design.specs.declared.element.Role.{Role}
use Rattle.bsv_design.specs.declared.element.Role.TheVariants as role
use Rattle.bsv_design.specs.design.Designs.{DesignData, IsDesign, IsNamed}
use Rattle.bsv_design.specs.design.Roles.{is_rule, is_value}
use Rattle.bsv_design.specs.scheme.Schemes.{Outline, outline}
use Rattle.bsv_design.specs.design.Widths.{port_fits}
use Rattle.bsv_vtext.specs.declared.tree.VMethod.{VMethod}
use Rattle.bsv_vtext.specs.declared.tree.VRegister.{VRegister}
use Rattle.bsv_vtext.specs.declared.tree.VWire.{VWire}
use Rattle.bsv_vtext.specs.Modules.{is_signal_name, IsArgument, HasFire}
use Rattle.bsv_vtext.specs.Signals.{VModuleData, fire_name}
use Rattle.bsv_vgen.specs.Interfaces.{IsModuleOf, IsMethodOf, argument_of}
use Rattle.bsv_vgen.specs.Names.{register_names, part_names, suffixes, verilog_name, numbered_from, fire_wire, fire_wires}
use Rattle.bsv_vgen.proofs.VerilogPaths.{IsRoute, lower_route, dotted_route, lower_stays}
use Rattle.bsv_vgen.proofs.Spellings.{fire_named, numbered_named, register_named, numbered_or_fire}
use Rattle.bsv_vgen.proofs.Places.{Found, in_first, in_second, found, made_of, before, from_one, numbered_at, IsFire, fire_at, fire_of}
use Rattle.bsv_vgen.proofs.Suffixes.{suffix_at, IsAfter, suffix_after}

-- ---- elements

named_lower : (r : Role) (name : List ℕ) → IsNamed r name → is_rule r ≡ false → is_lower name ≡ true
named_lower role.Rule name h e = absurd cc
named_lower role.Value name h e = h
named_lower role.Action name h e = h
named_lower role.ActionValue name h e = h

pub named_route : (r : Role) (name : List ℕ) → IsNamed r name → IsRoute name
named_route role.Rule name h = dotted_route name h
named_route role.Value name h = lower_route name h
named_route role.Action name h = lower_route name h
named_route role.ActionValue name h = lower_route name h

-- the element that a method of the module is
pub record MethodOf (es : List Element) (k : ℕ) (v : VMethod) : Type 0 where
  pub element : Element
  pub at : slice_get es k ≡ Some element
  pub method : is_rule element.role ≡ false
  pub is : IsMethodOf (outline element) v

-- the part of a register, and what comes after its path
pub record RegisterOf (ps : List NamedPart) (k : ℕ) (name : List ℕ) : Type 0 where
  pub number : ℕ
  pub part : NamedPart
  pub at : slice_get ps number ≡ Some part
  pub inner : ℕ
  pub suffix : List ℕ
  pub has : slice_get (suffixes part.kind) inner ≡ Some suffix
  pub is : verilog_name part.path ++ suffix ≡ name
  pub place : k ≡ before part_names ps number + inner

register_of : (ps : List NamedPart) (k : ℕ) (name : List ℕ) → slice_get (register_names ps) k ≡ Some name → RegisterOf ps k name
unfolding register_names
register_of ps k name e =
    let o = from_one part_names ps k name e in
    let m = made_of (λ s. verilog_name o.one.path ++ s) (suffixes o.one.kind) o.inner name o.has in
    record { number = o.number; part = o.one; at = o.at; inner = o.inner; suffix = m.from; has = m.at; is = m.is; place = o.place }

-- ---- the names

module _ (b : DesignData) (right : IsDesign b) (m : VModuleData) (made : IsModuleOf b.name b.parts (map outline b.elements) m)
    (few_registers : length m.registers < 2 ^ 64) (few_wires : length m.wires < 2 ^ 64) where
  pub name_right : IsTrue (is_lower m.name)
  name_right = ap is_lower made.name_is ∙ right.name

  pub method_of : (k : ℕ) (v : VMethod) → slice_get m.methods k ≡ Some v → MethodOf b.elements k v
  method_of k v e =
      let at = made.no_more k v e in
      let from = made_of outline b.elements k at.outline at.at in
      let has = made.methods k at.outline at.at at.method in
      let same : has.method ≡ v = same_Some has.method v (sym has.at ∙ e) in
      record {
        element = from.from;
        at = from.at;
        method = ap (λ (o : Outline). is_rule o.role) from.is ∙ at.method;
        is = subst (λ (o : Outline). IsMethodOf o v) (sym from.is) (subst (IsMethodOf at.outline) same has.is);
      }

  pub method_right : (k : ℕ) (v : VMethod) → slice_get m.methods k ≡ Some v → IsTrue (is_lower v.name)
  method_right k v e =
      let o = method_of k v e in
      ap is_lower o.is.name ∙ named_lower o.element.role o.element.name (right.named k o.element o.at) o.method

  pub argument_right : (k j : ℕ) (v : VMethod) (a : VWire) → slice_get m.methods k ≡ Some v → slice_get v.args j ≡ Some a → IsArgument a
  argument_right k j v a e f =
      let o = method_of k v e in
      let is = right.elements k o.element o.at in
      let p = made_of argument_of o.element.arguments j a (ap (λ xs. slice_get xs j) (sym o.is.arguments) ∙ f) in
      let own = map (λ p. p.name) o.element.arguments in
      let names = and_parts (list_all is_lower own) (distinct own) is.arguments in
      let lower = passes_at is_lower own j p.from.name names.0 (mapped_at (λ p. p.name) o.element.arguments j p.from p.at) in
      subst IsArgument p.is (record { name = lower; width = passes_at port_fits o.element.arguments j p.from is.fits.ports p.at })

  -- ---- registers

  pub register_at : (k : ℕ) (r : VRegister) → slice_get m.registers k ≡ Some r → RegisterOf b.parts k r.name
  register_at k r e =
      register_of b.parts k r.name (ap (λ xs. slice_get xs k) (sym made.registers) ∙ mapped_at (λ (x : VRegister). x.name) m.registers k r e)

  pub register_small : (k : ℕ) (r : VRegister) → slice_get m.registers k ≡ Some r → (o : RegisterOf b.parts k r.name) → o.inner < 2 ^ 64
  register_small k r e o = omega (arith, o.place, slice_get_within m.registers k r e)

  pub register_after : (k : ℕ) (r : VRegister) → slice_get m.registers k ≡ Some r → (o : RegisterOf b.parts k r.name) → IsAfter o.suffix
  register_after k r e o = suffix_after o.inner o.suffix (register_small k r e o) (suffix_at o.part.kind o.inner o.suffix o.has)

  pub register_right : (k : ℕ) (r : VRegister) → slice_get m.registers k ≡ Some r → IsTrue (is_signal_name r.name)
  register_right k r e =
      let o = register_at k r e in
      let s = register_after k r e o in
      let whole : r.name ≡ verilog_name o.part.path ++ 36 ∷ s.rest = sym o.is ∙ ap (λ (t : List ℕ). verilog_name o.part.path ++ t) s.is in
      ap is_signal_name whole ∙ register_named o.part.path s.rest (dotted_route o.part.path (right.paths o.number o.part o.at)) s.bytes

  -- ---- wires

  pub wire_at : (k : ℕ) (w : VWire) → slice_get m.wires k ≡ Some w → Found (numbered_from 0 made.widths) (fire_wires (map outline b.elements)) k w
  wire_at k w e = found (numbered_from 0 made.widths) (fire_wires (map outline b.elements)) k w (ap (λ xs. slice_get xs k) (sym made.wires) ∙ e)

  pub wire_numbered : (k : ℕ) (w : VWire) → slice_get (numbered_from 0 made.widths) k ≡ Some w → w.name ≡ codes "N" ++ decimal k
  wire_numbered k w e = (numbered_at 0 made.widths k w e).is ∙ ap (λ n. codes "N" ++ decimal n) (omega arith)

  -- the element that a wire tells of has this path
  pub wire_route : (k : ℕ) (w : VWire) (h : IsFire (map outline b.elements) k w) → IsRoute h.outline.name
  wire_route k w h =
      let f = made_of outline b.elements h.number h.outline h.at in
      subst (λ (o : Outline). IsRoute o.name) f.is (named_route f.from.role f.from.name (right.named h.number f.from f.at))

  pub wire_right : (k : ℕ) (w : VWire) → slice_get m.wires k ≡ Some w → IsTrue (is_signal_name w.name)
  wire_right k w e = by (wire_at k w e) where
    by : Found (numbered_from 0 made.widths) (fire_wires (map outline b.elements)) k w → is_signal_name w.name ≡ true
    by (in_first f) = ap is_signal_name (wire_numbered k w f) ∙ numbered_named k (omega (arith, slice_get_within m.wires k w e))
    by (in_second j is f) =
        let h = fire_at (map outline b.elements) j w f in
        ap (λ (x : VWire). is_signal_name x.name) (sym h.is) ∙ fire_named h.outline.name (wire_route j w h)

  pub wire_fires : (k : ℕ) (w : VWire) (name : List ℕ) → slice_get m.wires k ≡ Some w → w.name ≡ fire_name name → w.width ≡ 1
  wire_fires k w name e same = by (wire_at k w e) where
    by : Found (numbered_from 0 made.widths) (fire_wires (map outline b.elements)) k w → w.width ≡ 1
    by (in_first f) = absurd (numbered_or_fire (decimal k) name (sym (wire_numbered k w f) ∙ same))
    by (in_second j is f) = ap (λ (x : VWire). x.width) (sym (fire_at (map outline b.elements) j w f).is)

  -- a method that acts has a wire
  pub fires : (k : ℕ) (v : VMethod) → slice_get m.methods k ≡ Some v → v.action ≡ true → HasFire m v
  fires k v e acts =
      let o = method_of k v e in
      let value : is_value o.element.role ≡ false = not-true (is_value o.element.role) (sym o.is.action ∙ acts) in
      let h = fire_of (map outline b.elements) k (outline o.element) (mapped_at outline b.elements k o.element o.at) value in
      let lower : is_lower o.element.name ≡ true = named_lower o.element.role o.element.name (right.named k o.element o.at) o.method in
      record {
        place = length (numbered_from 0 made.widths) + h.place;
        wire = fire_wire o.element.name;
        at = ap (λ xs. slice_get xs (length (numbered_from 0 made.widths) + h.place)) made.wires
            ∙ at_right (numbered_from 0 made.widths) (fire_wires (map outline b.elements)) h.place ∙ h.at;
        name_is = ap fire_name (lower_stays o.element.name lower ∙ sym o.is.name);
      }

-- Types stay in order where definitions come after.
use Rattle.std.proofs.Common.{◌≡◌, ◌∙◌, ℕ, ◌≤◌, true, List, [], ◌∷◌, ◌++◌, length, option_map, Option, Some, None, refl, sym, ap, subst, arith}
use Rattle.std.specs.Prelude.{nat_lt, slice_get}
use Rattle.std.specs.List.{list_all}
use Rattle.std.proofs.lemmas.Bool.{ltb-true, lt-ltb, and_parts, and_from}
use Rattle.std.proofs.lemmas.List.{length-append}
use Rattle.bsv_lemmas.proofs.Choices.{was_there}
use Rattle.bsv_lemmas.proofs.Places.{stays_left}
use Rattle.bsv_types.specs.declared.types.PartTy.TheVariants as part_type
use Rattle.bsv_types.specs.declared.definitions.Enum.{Enum}
use Rattle.bsv_types.specs.declared.definitions.Struct.{Struct}
use Rattle.bsv_types.specs.Kinds.{Kind, bit, down, uint, int, bool, enum, struct, maybe, integer, interface, part, bare}
use Rattle.bsv_types.specs.Shapes.{Shapes, plus, width_by, widths_by, has_range, is_bits, has_bits, is_value, is_instance}
use Rattle.bsv_types.specs.Methods.{Effect, value, action, action_value}
use Rattle.bsv_types.specs.Programs.{effect_right}
use Rattle.bsv_modules.specs.Growing.{Grows}

within_more : {A : Type 0} (xs ys : List A) (i : ℕ) → nat_lt i (length xs) ≡ true → nat_lt i (length (xs ++ ys)) ≡ true
within_more xs ys i e = lt-ltb i (length (xs ++ ys)) (omega (arith, ltb-true i (length xs) e, length-append xs ys))

added : (a b : Option ℕ) (n : ℕ) → plus a b ≡ Some n → (i : ℕ) × (j : ℕ) × (a ≡ Some i) × (b ≡ Some j)
added None b n e = absurd cc
added (Some i) None n e = absurd cc
added (Some i) (Some j) n e = (i, j, refl, refl)

module _ (s z : Shapes) (more : Grows s z) where
  abbrev width_in : Shapes → Kind → Option ℕ
  width_in x k = width_by x.enums x.structs k

  pub width_kept : (k : Kind) (n : ℕ) → width_in s k ≡ Some n → width_in z k ≡ Some n
  width_kept (bit m) n e = e
  width_kept (down m) n e = absurd cc
  width_kept (uint m) n e = e
  width_kept (int m) n e = e
  width_kept bool n e = e
  width_kept (enum k) n e =
      let h = was_there (λ (d : Enum). d.width) (slice_get s.enums k) n e in
      ap (λ ds. option_map (λ (d : Enum). d.width) (slice_get ds k)) more.enums_are
      ∙ ap (option_map (λ (d : Enum). d.width)) (stays_left s.enums more.enums k h.0 h.1) ∙ ap Some h.2
  width_kept (struct k) n e =
      let h = was_there (λ (d : Struct). d.width) (slice_get s.structs k) n e in
      ap (λ ds. option_map (λ (d : Struct). d.width) (slice_get ds k)) more.structs_are
      ∙ ap (option_map (λ (d : Struct). d.width)) (stays_left s.structs more.structs k h.0 h.1) ∙ ap Some h.2
  width_kept (maybe k) n e =
      let h = added (Some 1) (width_in s k) n e in
      ap (plus (Some 1)) (width_kept k h.1 h.3) ∙ sym (ap (plus (Some 1)) h.3) ∙ e
  width_kept integer n e = absurd cc
  width_kept (interface k) n e = absurd cc
  width_kept (part p k) n e = absurd cc
  width_kept (bare p) n e = absurd cc

  pub widths_kept : (ks : List Kind) (n : ℕ) → widths_by s.enums s.structs ks ≡ Some n → widths_by z.enums z.structs ks ≡ Some n
  widths_kept [] n e = e
  widths_kept (k ∷ ks) n e =
      let h = added (width_in s k) (widths_by s.enums s.structs ks) n e in
      ap (λ o. plus o (widths_by z.enums z.structs ks)) (width_kept k h.0 h.2) ∙ ap (plus (Some h.0)) (widths_kept ks h.1 h.3)
      ∙ sym (ap (λ o. plus o (widths_by s.enums s.structs ks)) h.2 ∙ ap (plus (Some h.0)) h.3) ∙ e

  has_width : (o : Option ℕ) → has_range o ≡ true → (n : ℕ) × (o ≡ Some n)
  has_width None e = absurd cc
  has_width (Some n) e = (n, refl)

  pub bits_kept : (limit above : ℕ) (k : Kind) → limit ≤ above → is_bits s limit k ≡ true → is_bits z above k ≡ true
  bits_kept limit above (bit m) le e = e
  bits_kept limit above (down m) le e = absurd cc
  bits_kept limit above (uint m) le e = e
  bits_kept limit above (int m) le e = e
  bits_kept limit above bool le e = e
  bits_kept limit above (enum k) le e = subst (λ ds. nat_lt k (length ds) ≡ true) (sym more.enums_are) (within_more s.enums more.enums k e)
  bits_kept limit above (struct k) le e = lt-ltb k above (omega (arith, le, ltb-true k limit e))
  bits_kept limit above (maybe k) le e =
      let h = and_parts (is_bits s limit k) (has_range (width_in s (maybe k))) e in
      let w = has_width (width_in s (maybe k)) h.1 in
      and_from (is_bits z above k) (has_range (width_in z (maybe k))) (bits_kept limit above k le h.0)
      (ap has_range (width_kept (maybe k) w.0 w.1 ∙ sym w.1) ∙ h.1)
  bits_kept limit above integer le e = absurd cc
  bits_kept limit above (interface k) le e = absurd cc
  bits_kept limit above (part p k) le e = absurd cc
  bits_kept limit above (bare p) le e = absurd cc

  structs_more : length s.structs ≤ length z.structs
  structs_more = omega (arith, ap length more.structs_are, length-append s.structs more.structs)

  pub has_bits_kept : (k : Kind) → has_bits s k ≡ true → has_bits z k ≡ true
  has_bits_kept k e = bits_kept (length s.structs) (length z.structs) k structs_more e

  pub value_kept : (k : Kind) → is_value s k ≡ true → is_value z k ≡ true
  value_kept integer e = e
  value_kept (bit m) e = has_bits_kept (bit m) e
  value_kept (down m) e = has_bits_kept (down m) e
  value_kept (uint m) e = has_bits_kept (uint m) e
  value_kept (int m) e = has_bits_kept (int m) e
  value_kept bool e = e
  value_kept (enum k) e = has_bits_kept (enum k) e
  value_kept (struct k) e = has_bits_kept (struct k) e
  value_kept (maybe k) e = has_bits_kept (maybe k) e
  value_kept (interface k) e = absurd cc
  value_kept (part p k) e = absurd cc
  value_kept (bare p) e = absurd cc

  pub instance_kept : (k : Kind) → is_instance s k ≡ true → is_instance z k ≡ true
  instance_kept (interface k) e = subst (λ ds. nat_lt k (length ds) ≡ true) (sym more.interfaces_are) (within_more s.interfaces more.interfaces k e)
  instance_kept (part part_type.Reg k) e = has_bits_kept k e
  instance_kept (part part_type.Wire k) e = has_bits_kept k e
  instance_kept (part part_type.RWire k) e = has_bits_kept (maybe k) e
  instance_kept (part part_type.PulseWire k) e = absurd cc
  instance_kept (part part_type.Fifo k) e = has_bits_kept k e
  instance_kept (part part_type.Fifof k) e = has_bits_kept k e
  instance_kept (bare part_type.PulseWire) e = refl
  instance_kept (bare part_type.Reg) e = absurd cc
  instance_kept (bare part_type.Wire) e = absurd cc
  instance_kept (bare part_type.RWire) e = absurd cc
  instance_kept (bare part_type.Fifo) e = absurd cc
  instance_kept (bare part_type.Fifof) e = absurd cc
  instance_kept (bit m) e = absurd cc
  instance_kept (down m) e = absurd cc
  instance_kept (uint m) e = absurd cc
  instance_kept (int m) e = absurd cc
  instance_kept bool e = absurd cc
  instance_kept (enum k) e = absurd cc
  instance_kept (struct k) e = absurd cc
  instance_kept (maybe k) e = absurd cc
  instance_kept integer e = absurd cc

  pub all_kept : (ks : List Kind) → list_all (has_bits s) ks ≡ true → list_all (has_bits z) ks ≡ true
  all_kept [] e = refl
  all_kept (k ∷ ks) e = let h = and_parts (has_bits s k) (list_all (has_bits s) ks) e in and_from (has_bits z k) (list_all (has_bits z) ks) (has_bits_kept k h.0) (all_kept ks h.1)

  pub effect_kept : (e : Effect) → effect_right s e ≡ true → effect_right z e ≡ true
  effect_kept (value k) e = has_bits_kept k e
  effect_kept action e = refl
  effect_kept (action_value k) e = has_bits_kept k e

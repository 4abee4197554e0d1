-- The width of an enum is the least that holds its last label.
use Rattle.std.proofs.Common.{◌≡◌, ℕ, zero, suc, ◌+◌, ◌-◌, ◌^◌, ◌<◌, ◌≤◌, Bool, true, false, cond, ◌&&◌, ◌⊎◌, inl, inr, length, refl, sym, subst, arith}
use Rattle.std.specs.Prelude.{◌==◌, nat_le, nat_lt}
use Rattle.std.specs.List.{list_all}
use Rattle.std.proofs.lemmas.Bool.{ltb-true, ltb-false, lt-ltb, leb-true, le-leb, eqb-true, and_parts, and_from}
use Rattle.bsv_ast.specs.Names.{is_upper}
use Rattle.bsv_types.specs.declared.definitions.Enum.{Enum}
use Rattle.bsv_types.specs.Shapes.{is_enum_width}
use Rattle.bsv_types.specs.Names.{countable}
use Rattle.bsv_types.specs.Programs.{enum_right}
use Rattle.bsv_modules.specs.Programs.{width_from, enum_width}

-- an enum in order, but for how many labels it has
abbrev pub enum_kept : Enum → Bool
enum_kept e = is_upper e.name && nat_le 2 (length e.labels) && list_all is_upper e.labels && e.width == enum_width (length e.labels)

-- a width that holds the number, and the one before it does not
record Holds (width number found : ℕ) : Type 0 where
  least : width ≤ found
  holds : number < 2 ^ found
  before : (found ≡ width) ⊎ ((less : ℕ) × (less + 1 ≡ found) × (2 ^ less ≤ number))

width_found : (more width number : ℕ) → number < 2 ^ (width + more) → Holds width number (width_from more width number)
width_found zero width number lt =
    let same : width + 0 ≡ width = omega arith in
    record { least = omega arith; holds = subst (λ n. number < 2 ^ n) same lt; before = inl refl }
width_found (suc more) width number lt =
    let next : width + suc more ≡ width + 1 + more = omega arith in
    by (nat_lt number (2 ^ width)) refl (width_found more (width + 1) number (subst (λ n. number < 2 ^ n) next lt)) where
      by : (b : Bool) → nat_lt number (2 ^ width) ≡ b → Holds (width + 1) number (width_from more (width + 1) number) → Holds width number (cond b width (width_from more (width + 1) number))
      by true is h = record { least = omega arith; holds = ltb-true number (2 ^ width) is; before = inl refl }
      by false is h = record {
        least = omega (arith, h.least);
        holds = h.holds;
        before = elim h.before [
          | inl same ↦ inr (width, sym same, ltb-false number (2 ^ width) is)
          | inr larger ↦ inr larger
        ];
      }

few_labels : (n : ℕ) → n < 2 ^ 32 → n - 1 < 2 ^ (0 + 64)
few_labels n lt = omega (arith, lt)

width_is : (n w : ℕ) → nat_le 2 n ≡ true → Holds 0 (n - 1) w → is_enum_width w n ≡ true
width_is n w least h = by (leb-true 2 n least) h.before where
  by : 2 ≤ n → (w ≡ 0) ⊎ ((less : ℕ) × (less + 1 ≡ w) × (2 ^ less ≤ n - 1)) → is_enum_width w n ≡ true
  by two (inl none) =
      let one : n - 1 < 1 = subst (λ k. n - 1 < 2 ^ k) none h.holds in
      absurd (omega (arith, two, one))
  by two (inr (less, is, le)) =
      let before : w - 1 ≡ less = omega (arith, is) in
      let some : 1 ≤ w = omega (arith, is) in
      and_from (nat_le 2 n && nat_le 1 w && nat_lt (n - 1) (2 ^ w)) (nat_le (2 ^ (w - 1)) (n - 1))
      (and_from (nat_le 2 n && nat_le 1 w) (nat_lt (n - 1) (2 ^ w)) (and_from (nat_le 2 n) (nat_le 1 w) least (le-leb 1 w some)) (lt-ltb (n - 1) (2 ^ w) h.holds))
      (le-leb (2 ^ (w - 1)) (n - 1) (subst (λ k. 2 ^ k ≤ n - 1) (sym before) le))

width_right : (n : ℕ) → nat_le 2 n ≡ true → n < 2 ^ 32 → is_enum_width (width_from 64 0 (n - 1)) n ≡ true
width_right n least lt = width_is n (width_from 64 0 (n - 1)) least (width_found 64 0 (n - 1) (few_labels n lt))

pub enum_is_right : (e : Enum) → enum_kept e ≡ true → countable e.labels ≡ true → enum_right e ≡ true
unfolding enum_width
enum_is_right e kept few =
    let front = is_upper e.name && nat_le 2 (length e.labels) in
    let c = and_parts (front && list_all is_upper e.labels) (e.width == enum_width (length e.labels)) kept in
    let b = and_parts front (list_all is_upper e.labels) c.0 in
    let a = and_parts (is_upper e.name) (nat_le 2 (length e.labels)) b.0 in
    let lt : length e.labels < 2 ^ 32 = ltb-true (length e.labels) (2 ^ 32) few in
    and_from (is_upper e.name && list_all is_upper e.labels && countable e.labels) (is_enum_width e.width (length e.labels))
    (and_from (is_upper e.name && list_all is_upper e.labels) (countable e.labels) (and_from (is_upper e.name) (list_all is_upper e.labels) a.0 b.1) few)
    (subst (λ n. is_enum_width n (length e.labels) ≡ true) (sym (eqb-true e.width (enum_width (length e.labels)) c.1)) (width_right (length e.labels) a.1 lt))

-- Rules that are marked (Bluespec reference guide, "fire_when_enabled", "no_implicit_conditions"), and pairs that are
-- listed.
use Rattle.std.specs.Prelude.{◌≡◌, ℕ, Bool, List, slice_get, Some}
use Rattle.bsv_design.specs.declared.attributes.Assert.{Assert}
use Rattle.bsv_design.specs.declared.attributes.Attribute.{Attribute}
use Rattle.bsv_design.specs.declared.attributes.Pair.{Pair}

-- the mark is one of the element: of `fire_when_enabled` at true, of `no_implicit_conditions` at false
pub record IsMarkOf (fires : Bool) (n : ℕ) (mark : Assert) : Type 0 where
  pub rule : mark.rule ≡ n
  pub kind : mark.fires ≡ fires

-- the element is marked
pub record IsMarked (marks : List Assert) (fires : Bool) (n : ℕ) : Type 0 where
  pub place : ℕ
  pub mark : Assert
  pub at : slice_get marks place ≡ Some mark
  pub is : IsMarkOf fires n mark

-- a list of the attribute has a directly before b
pub record IsPaired (pairs : List Pair) (attribute : Attribute) (a b : ℕ) : Type 0 where
  pub place : ℕ
  pub pair : Pair
  pub at : slice_get pairs place ≡ Some pair
  pub kind : pair.attribute ≡ attribute
  pub before : pair.before ≡ a
  pub after : pair.after ≡ b

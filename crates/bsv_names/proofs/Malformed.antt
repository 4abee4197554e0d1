-- The first malformed attribute of two lists, one after the other.
use Rattle.std.proofs.Common.{◌≡◌, List, [], ◌∷◌, ◌++◌, Option, Some, None, refl, ap, ◌∙◌}
use Rattle.std.proofs.lemmas.List.{append-nil}
use Rattle.std.specs.Option.{option_or}
use Rattle.bsv_types.specs.declared.attributes.Attribute.{Attribute}
use Rattle.bsv_names.specs.declared.place.Place.{Place}
use Rattle.bsv_types.specs.Asked.{attribute}
use Rattle.bsv_names.specs.Attributes.{Standing, place_of, if_malformed, first_malformed}

parted : (o : Option Attribute) (place : Place) (p q : Option Place) → if_malformed o place (option_or p q) ≡ option_or (if_malformed o place p) q
parted None place p q = refl
parted (Some asked) place p q = refl

pub first_of_both : (xs ys : List Standing) → first_malformed (xs ++ ys) ≡ option_or (first_malformed xs) (first_malformed ys)
first_of_both [] ys = refl
first_of_both (x ∷ xs) ys =
    ap (if_malformed (attribute x.owner x.written) (place_of x)) (first_of_both xs ys)
    ∙ parted (attribute x.owner x.written) (place_of x) (first_malformed xs) (first_malformed ys)

pub ruleset malformed = (first_of_both, append-nil)

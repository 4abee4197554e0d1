-- Operators that are applied from left to right give the same over later instances, and from less weight.
use Rattle.std.proofs.Common.{ℕ, ◌+◌, ◌-◌, List, [], ◌∷◌, refl}
use Rattle.std.specs.Prelude.{slice_get}
use Rattle.bsv_types.specs.declared.operators.Op.{Op}
use Rattle.bsv_types.specs.declared.operators.Op.TheVariants as op
use Rattle.bsv_types.specs.declared.definitions.Field.{Field}
use Rattle.bsv_types.specs.Kinds.{Kind}
use Rattle.bsv_types.specs.Shapes.{Shapes, counted}
use Rattle.bsv_fail.specs.Given.{◌>>=◌}
use Rattle.bsv_tree.specs.declared.values.Fault.{Fault}
use Rattle.bsv_tree.specs.declared.values.Local.{Local}
use Rattle.bsv_tree.specs.declared.values.Value.{Value}
use Rattle.bsv_tree.specs.declared.values.Work.{Work}
use Rattle.bsv_tree.specs.carrying.Applied as applied
use Rattle.bsv_tree.specs.carrying.Operated.{BitRange, field_part, are_suffixes, from_left}
use Rattle.bsv_tree.specs.carrying.Carrying as carrying
use Rattle.bsv_tree.specs.carrying.Carrying.{Carried}
use Rattle.bsv_tree.specs.carrying.Working as work
use Rattle.bsv_tree.specs.carrying.Working.{Valued}
use Rattle.bsv_carry.proofs.StaysAccepted.SideBySide.{into_then, into_twice, into_if, into_same, sliced_over}
use Rattle.bsv_carry.proofs.StaysAccepted.Operators.{two_over, applied_over}
use Rattle.bsv_carry.proofs.StaysAccepted.Instances.{CarryInto, EachCarried, all_into}

module _ (d : ℕ) (s : Shapes) (f : Fault) where
  chained_into : (os : List Op) (k : Kind) (x : Value) (cs es : List Carried) → EachCarried d cs es
      → CarryInto d (carrying.chained s f os k x cs) (carrying.chained s f os k x es)
  unfolding carrying.chained
  chained_into [] k x [] [] h vs w = record { seen = refl }
  chained_into [] k x (c ∷ cs) es h vs w = record { seen = tt }
  chained_into (o ∷ os) k x [] es h vs w = record { seen = tt }
  chained_into (o ∷ os) k x (c ∷ cs) (e ∷ es) h vs w =
      into_then _ _ (h.0.carry vs w) (λ y. into_then _ _ (two_over d s f o k x y.0 y.1) (λ r. chained_into os k r.0 cs es h.1 vs r.1))
  chained_into [] k x [] (e ∷ es) h vs w = absurd h
  chained_into (o ∷ os) k x (c ∷ cs) [] h vs w = absurd h

  -- ---- suffixes

  abbrev SuffixesInto : List Op → Type 0
  SuffixesInto os = (bits : ℕ) (fs : List Field) (x : Value) (cs es : List Carried) → EachCarried d cs es
      → CarryInto d (carrying.suffixed s f bits fs os x cs) (carrying.suffixed s f bits fs os x es)

  -- the rest of the suffixes, after a part
  abbrev after : List Op → BitRange → Value → List Carried → List Local → Work → Valued
  after os b x cs vs w = work.sliced w x b.high b.low >>= λ r. carrying.suffixed s f (counted (b.high - b.low + 1)) b.inner os r.0 cs vs r.1

  after_into : (os : List Op) → SuffixesInto os → (b : BitRange) (x : Value) (cs es : List Carried) → EachCarried d cs es
      → CarryInto d (after os b x cs) (after os b x es)
  after_into os rest b x cs es h vs w = into_then _ _ (sliced_over d w x b.high b.low) (λ r. rest _ _ r.0 cs es h vs r.1)

  suffix_into : (o : Op) (os : List Op) → SuffixesInto os → SuffixesInto (o ∷ os)
  unfolding carrying.suffixed carrying.part_of
  suffix_into op.Index os rest bits fs x (c ∷ cs) (e ∷ es) h vs w =
      into_twice _ _ _ _ (h.0.carry vs w) (λ i. into_twice _ _ _ _ (into_same (applied.number_below s f bits i.0))
      (λ n. after_into os rest _ x cs es h.1 vs i.1))
  suffix_into op.Index os rest bits fs x [] es h vs w = record { seen = tt }
  suffix_into op.Index os rest bits fs x (c ∷ cs) [] h vs w = absurd h
  suffix_into (op.Slice high low) os rest bits fs x cs es h vs w = after_into os rest _ x cs es h vs w
  suffix_into (op.Field number) os rest bits fs x cs es h vs w = after_into os rest (field_part s f fs number (slice_get fs number)) x cs es h vs w
  suffix_into _ os rest bits fs x cs es h vs w = record { seen = tt }

  suffixed_into : (os : List Op) → SuffixesInto os
  unfolding carrying.suffixed
  suffixed_into [] bits fs x [] [] h vs w = record { seen = refl }
  suffixed_into [] bits fs x (c ∷ cs) es h vs w = record { seen = tt }
  suffixed_into [] bits fs x [] (e ∷ es) h vs w = absurd h
  suffixed_into (o ∷ os) bits fs x cs es h vs w = suffix_into o os (suffixed_into os) bits fs x cs es h vs w

  -- ---- all operators

  in_turn_into : (k : Kind) (os : List Op) (cs es : List Carried) → EachCarried d cs es
      → CarryInto d (carrying.in_turn s f k os cs) (carrying.in_turn s f k os es)
  unfolding carrying.in_turn
  in_turn_into k os [] es h vs w = record { seen = tt }
  in_turn_into k os (c ∷ cs) [] h vs w = absurd h
  in_turn_into k os (c ∷ cs) (e ∷ es) h vs w =
      into_then _ _ (h.0.carry vs w)
      (λ x. into_if (are_suffixes os) (suffixed_into os _ _ x.0 cs es h.1 vs x.1) (chained_into os k x.0 cs es h.1 vs x.1))

  pub operated_into : (t k : Kind) (os : List Op) (cs es : List Carried) → EachCarried d cs es
      → CarryInto d (carrying.operated s f t k os cs) (carrying.operated s f t k os es)
  operated_into t k os cs es h vs w =
      into_if (from_left os) (in_turn_into k os cs es h vs w) (into_then _ _ (all_into d cs es h vs w) (λ r. applied_over d s f t k os r.0 r.1))

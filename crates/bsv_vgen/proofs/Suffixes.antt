-- What comes after the path of a part in the names of its registers: `$` and a capital letter, and each suffix once.
use Rattle.std.proofs.Common.{◌≡◌, ◌∙◌, ℕ, zero, suc, ◌^◌, ◌<◌, Bool, true, false, List, [], ◌∷◌, Some, refl, sym, ap, arith, codes}
use Rattle.std.specs.Prelude.{◌==◌, slice_get, decimal}
use Rattle.std.specs.List.{list_all}
use Rattle.std.proofs.lemmas.Bool.{false≢true}
use Rattle.std.proofs.lemmas.Fmt.{decimal_injective}
use Rattle.std.proofs.lemmas.List.{append_cancel_left}
use Rattle.std.proofs.lemmas.Option.{same_Some}
use Rattle.bsv_ast.specs.Names.{is_capital}
use Rattle.bsv_ast.proofs.Names.{decimal_words}
use Rattle.bsv_graph.specs.Edges.{numbers_below}
use Rattle.bsv_design.specs.declared.kind.Kind.{Kind}
use Rattle.bsv_design.specs.declared.kind.Kind.TheVariants.{Reg, RegU, Wire, DWire, RWire, Pulse, Plain, Pipeline, Bypass}
use Rattle.bsv_vtext.specs.Modules.{is_name_byte}
use Rattle.bsv_vgen.specs.Names.{item_suffix, queue_suffixes, suffixes}
use Rattle.bsv_vgen.proofs.Spellings.{words_named}
use Rattle.bsv_vgen.proofs.Places.{made_of, number_at}

-- the suffix at a place
pub data SuffixAt (i : ℕ) (s : List ℕ) : Type 0 where
  whole : i ≡ 0 → s ≡ codes "$Q" → SuffixAt i s
  count : i ≡ 0 → s ≡ codes "$N" → SuffixAt i s
  item : (k : ℕ) → i ≡ suc k → s ≡ item_suffix k → SuffixAt i s

queue_at : (depth i : ℕ) (s : List ℕ) → slice_get (queue_suffixes depth) i ≡ Some s → SuffixAt i s
queue_at depth zero s e = count refl (sym (same_Some (codes "$N") s e))
queue_at depth (suc i) s e =
    let m = made_of item_suffix (numbers_below depth) i s e in
    item i refl (sym m.is ∙ ap item_suffix (number_at depth i m.from m.at))

whole_at : (i : ℕ) (s : List ℕ) → slice_get (codes "$Q" ∷ []) i ≡ Some s → SuffixAt i s
whole_at zero s e = whole refl (sym (same_Some (codes "$Q") s e))
whole_at (suc i) s e = absurd cc

pub suffix_at : (k : Kind) (i : ℕ) (s : List ℕ) → slice_get (suffixes k) i ≡ Some s → SuffixAt i s
suffix_at (Reg k) i s e = whole_at i s e
suffix_at (RegU k) i s e = whole_at i s e
suffix_at (Wire k) i s e = absurd cc
suffix_at (DWire k) i s e = absurd cc
suffix_at (RWire k) i s e = absurd cc
suffix_at (Pulse k) i s e = absurd cc
suffix_at (Plain k) i s e = queue_at k.depth i s e
suffix_at (Pipeline k) i s e = queue_at 1 i s e
suffix_at (Bypass k) i s e = queue_at 1 i s e

item_same : (k l : ℕ) → k < 2 ^ 64 → l < 2 ^ 64 → item_suffix k ≡ item_suffix l → k ≡ l
item_same k l p q e = decimal_injective k l p q (append_cancel_left (codes "$D") (decimal k) (decimal l) e)

abbrev is_item : List ℕ → Bool
is_item (b ∷ c ∷ bytes) = c == 68
is_item _ = false

whole_or_item : (k : ℕ) → codes "$Q" ≡ item_suffix k → ⊥
whole_or_item k e = false≢true (ap is_item e)

count_or_item : (k : ℕ) → codes "$N" ≡ item_suffix k → ⊥
count_or_item k e = false≢true (ap is_item e)

-- a place is told by its suffix
pub suffix_same : (i j : ℕ) (s : List ℕ) → i < 2 ^ 64 → j < 2 ^ 64 → SuffixAt i s → SuffixAt j s → i ≡ j
suffix_same i j s p q (whole a e) (whole b f) = a ∙ sym b
suffix_same i j s p q (whole a e) (count b f) = a ∙ sym b
suffix_same i j s p q (whole a e) (item l b f) = absurd (whole_or_item l (sym e ∙ f))
suffix_same i j s p q (count a e) (whole b f) = a ∙ sym b
suffix_same i j s p q (count a e) (count b f) = a ∙ sym b
suffix_same i j s p q (count a e) (item l b f) = absurd (count_or_item l (sym e ∙ f))
suffix_same i j s p q (item k a e) (whole b f) = absurd (whole_or_item k (sym f ∙ e))
suffix_same i j s p q (item k a e) (count b f) = absurd (count_or_item k (sym f ∙ e))
suffix_same i j s p q (item k a e) (item l b f) = a ∙ ap suc (item_same k l (omega arith) (omega arith) (sym e ∙ f)) ∙ sym b

pub record IsAfter (s : List ℕ) : Type 0 where
  pub rest : List ℕ
  pub is : s ≡ 36 ∷ rest
  pub capital : is_capital rest ≡ true
  pub bytes : list_all is_name_byte rest ≡ true

pub suffix_after : (i : ℕ) (s : List ℕ) → i < 2 ^ 64 → SuffixAt i s → IsAfter s
suffix_after i s p (whole a e) = record { rest = codes "Q"; is = e; capital = refl; bytes = refl }
suffix_after i s p (count a e) = record { rest = codes "N"; is = e; capital = refl; bytes = refl }
suffix_after i s p (item k a e) = record {
  rest = 68 ∷ decimal k;
  is = e;
  capital = refl;
  bytes = words_named (decimal k) (decimal_words k (omega arith));
}

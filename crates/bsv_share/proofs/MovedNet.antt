-- The net of nodes in another order gives the same; operators that do not read constants alone stay so, and no nodes become equal.
use Rattle.std.proofs.Common.{◌≡◌, ◌∙◌, ◌<◌, ◌≤◌, ◌+◌, ℕ, zero, suc, Bool, true, false, not, ◌&&◌, ◌||◌, List, [], ◌∷◌, Some, None, Option, map, length, refl, sym, ap, ap₂, subst, arith}
use Rattle.std.specs.Prelude.{slice_get, nat_lt}
use Rattle.std.specs.List.{AllByRecursion, list_all}
use Rattle.std.proofs.lemmas.Bool.{and_parts, eqb-true, ltb-true, ltb-false}
use Rattle.std.proofs.lemmas.Option.{same_Some, slice_get_past, slice_get_within}
use Rattle.bsv_lemmas.proofs.Places.{item_there}
use Rattle.bsv_bits.specs.Words.{Bits}
use Rattle.bsv_design.specs.design.Bodies.{at}
use Rattle.bsv_net.specs.declared.net_data.NetData.{NetData}
use Rattle.bsv_net.specs.declared.node.NetNode.{NetNode}
use Rattle.bsv_net.specs.declared.node.NetNode.TheVariants as net
use Rattle.bsv_net.specs.Equations.{Values}
use Rattle.bsv_net.specs.Nets.{IsNet, words}
use Rattle.bsv_net.specs.Placing.{node_at, or_first}
use Rattle.bsv_share.specs.Moving.{AreMoved, Comes, IsMoveOf, before_as, goes_before, is_number, keeps, reads_before}
use Rattle.bsv_share.specs.Operands.{renamed}
use Rattle.bsv_share.specs.Outputs.{or_none, place_or, with_nodes}
use Rattle.bsv_share.specs.Sharing.{IsDistinct, IsFolded, is_constant, operands}
use Rattle.bsv_share.proofs.Alike.{Alike}
use Rattle.bsv_share.proofs.Placing.{Stays, alike_with, past_nodes, solved}
use Rattle.bsv_share.proofs.Renaming.{Agree, computes_same, operands_renamed}
use Rattle.bsv_share.proofs.Rules.{Solved}

-- ---- nodes that are renamed

pub renamed_back : (f g : ℕ → ℕ) (x : NetNode) → AllByRecursion (λ a. g (f a) ≡ a) (operands x) → renamed g (renamed f x) ≡ x
renamed_back f g (net.Input k) h = refl
renamed_back f g (net.Register k) h = refl
renamed_back f g (net.Constant w) h = refl
renamed_back f g (net.Not a) h = ap net.Not h.0
renamed_back f g (net.Two o a b) h = ap₂ (net.Two o) h.0 h.1.0
renamed_back f g (net.Pick t a b) h = ap₂ (λ (i k : ℕ). net.Pick i k (g (f b))) h.0 h.1.0 ∙ ap (net.Pick t a) h.1.1.0
renamed_back f g (net.Slice a high low) h = ap (λ (k : ℕ). net.Slice k high low) h.0
renamed_back f g (net.Join a b) h = ap₂ net.Join h.0 h.1.0
renamed_back f g (net.Extend a width) h = ap (λ (k : ℕ). net.Extend k width) h.0
renamed_back f g (net.SignExtend a width) h = ap (λ (k : ℕ). net.SignExtend k width) h.0

constant_renamed : (f : ℕ → ℕ) (x : NetNode) → is_constant (Some (renamed f x)) ≡ is_constant (Some x)
constant_renamed f (net.Input k) = refl
constant_renamed f (net.Register k) = refl
constant_renamed f (net.Constant w) = refl
constant_renamed f (net.Not a) = refl
constant_renamed f (net.Two o a b) = refl
constant_renamed f (net.Pick t a b) = refl
constant_renamed f (net.Slice a high low) = refl
constant_renamed f (net.Join a b) = refl
constant_renamed f (net.Extend a width) = refl
constant_renamed f (net.SignExtend a width) = refl

-- ---- nodes that go to places

module _ (from to : List ℕ) where
  -- where a node goes
  pub record Goes (count n : ℕ) : Type 0 where
    pub place : ℕ
    pub goes : slice_get to n ≡ Some place
    pub below : place < count
    pub comes : slice_get from place ≡ Some n
    pub is : node_at to n ≡ place

  number_is : (o : Option ℕ) (n : ℕ) → is_number o n ≡ true → o ≡ Some n
  number_is None n h = absurd (let e : ⊥ = cc in e)
  number_is (Some m) n h = ap Some (eqb-true m n h)

  pub goes_there : (count n : ℕ) → goes_before from to count n ≡ true → Goes count n
  goes_there count n h = of (slice_get to n) refl h
    where
      of : (o : Option ℕ) → slice_get to n ≡ o → before_as from to n count o ≡ true → Goes count n
      of None e f = absurd (let x : ⊥ = cc in x)
      of (Some p) e f =
          let parts = and_parts (nat_lt p count) (is_number (slice_get from p) n) f in
          record {
            place = p;
            goes = e;
            below = ltb-true p count parts.0;
            comes = number_is (slice_get from p) n parts.1;
            is = ap or_first e;
          }

  pub each_goes : (P : ℕ → Type 0) (count : ℕ) → ((a : ℕ) → Goes count a → P a) → (x : NetNode) → reads_before from to count x ≡ true → AllByRecursion P (operands x)
  each_goes P count h (net.Input k) e = tt
  each_goes P count h (net.Register k) e = tt
  each_goes P count h (net.Constant w) e = tt
  each_goes P count h (net.Not a) e = (h a (goes_there count a e), tt)
  each_goes P count h (net.Two o a b) e =
      let parts = and_parts (goes_before from to count a) (goes_before from to count b) e in
      (h a (goes_there count a parts.0), (h b (goes_there count b parts.1), tt))
  each_goes P count h (net.Pick t a b) e =
      let parts = and_parts (goes_before from to count t && goes_before from to count a) (goes_before from to count b) e in
      let first = and_parts (goes_before from to count t) (goes_before from to count a) parts.0 in
      (h t (goes_there count t first.0), (h a (goes_there count a first.1), (h b (goes_there count b parts.1), tt)))
  each_goes P count h (net.Slice a high low) e = (h a (goes_there count a e), tt)
  each_goes P count h (net.Join a b) e =
      let parts = and_parts (goes_before from to count a) (goes_before from to count b) e in
      (h a (goes_there count a parts.0), (h b (goes_there count b parts.1), tt))
  each_goes P count h (net.Extend a width) e = (h a (goes_there count a e), tt)
  each_goes P count h (net.SignExtend a width) e = (h a (goes_there count a e), tt)

  module _ (xs ys : List NetNode) (moved : AreMoved from to xs ys) where
    -- the node at a place
    pub record At (k : ℕ) (y : NetNode) : Type 0 where
      pub old : ℕ
      pub from_old : slice_get from k ≡ Some old
      pub comes : Comes from to xs old k y

    pub at_place : (k : ℕ) (y : NetNode) → slice_get ys k ≡ Some y → At k y
    at_place k y there =
        let below : k < length from = (let l = slice_get_within ys k y there in let long = moved.long in omega (arith, l, long)) in
        let f = item_there from k below in
        let m = moved.each k f.0 f.1 in
        let same : m.0 ≡ y = same_Some m.0 y (sym m.1 ∙ there) in
        record { old = f.0; from_old = f.1; comes = subst (Comes from to xs f.0 k) same m.2 }

    -- ---- words

    module _ (inputs registers : List Bits) (V U : Values) (after : Solved inputs registers V ys) (before : Solved inputs registers U xs) where
      word_below : (n k old : ℕ) → k < n → slice_get from k ≡ Some old → V k ≡ U old
      word_below zero k old l e = absurd (omega arith)
      word_below (suc n) k old l e = of (moved.each k old e) (word_below n)
        where
          of : (y : NetNode) × (slice_get ys k ≡ Some y) × Comes from to xs old k y → ((j o : ℕ) → j < n → slice_get from j ≡ Some o → V j ≡ U o) → V k ≡ U old
          of m earlier =
              let x = m.2.node in
              let agree : Agree V U (node_at to) x =
              each_goes (λ a. V (node_at to a) ≡ U a) k (λ a g. ap V g.is ∙ earlier g.place a (let b = g.below in omega (arith, b, l)) g.comes) x m.2.reads in
              after.computes k (renamed (node_at to) x) (m.1 ∙ ap Some m.2.is)
              ∙ (computes_same inputs registers V U (node_at to) x agree ∙ sym (before.computes old x m.2.there))

      pub moved_word : (k old : ℕ) → slice_get from k ≡ Some old → V k ≡ U old
      moved_word k old e = word_below (k + 1) k old (omega arith) e

    -- ---- nodes

    stays_constant : (count a : ℕ) → Goes count a → is_constant (slice_get ys (node_at to a)) ≡ is_constant (slice_get xs a)
    stays_constant count a g =
        let m = moved.each g.place a g.comes in
        ap is_constant (ap (slice_get ys) g.is ∙ (m.1 ∙ ap Some m.2.is))
        ∙ (constant_renamed (node_at to) m.2.node ∙ ap is_constant (sym m.2.there))

    same_constants : (count : ℕ) (ns : List ℕ) → AllByRecursion (λ a. is_constant (slice_get ys (node_at to a)) ≡ is_constant (slice_get xs a)) ns
        → list_all (λ a. is_constant (slice_get ys a)) (map (node_at to) ns) ≡ list_all (λ a. is_constant (slice_get xs a)) ns
    same_constants count [] h = refl
    same_constants count (a ∷ ns) h = ap₂ (λ (p q : Bool). p && q) h.0 (same_constants count ns h.1)

    same_count : (f : ℕ → ℕ) (ns : List ℕ) → length (map f ns) ≡ length ns
    same_count f [] = refl
    same_count f (n ∷ ns) = ap suc (same_count f ns)

    pub moved_folded : IsFolded xs → IsFolded ys
    moved_folded folded k y there l =
        let h = at_place k y there in
        let x = h.comes.node in
        let reads : operands y ≡ map (node_at to) (operands x) = ap operands h.comes.is ∙ operands_renamed (node_at to) x in
        let some : 0 < length (operands x) = (let m = ap length reads in let n = same_count (node_at to) (operands x) in omega (arith, l, m, n)) in
        ap (list_all (λ a. is_constant (slice_get ys a))) reads
        ∙ (same_constants k (operands x) (each_goes (λ a. is_constant (slice_get ys (node_at to a)) ≡ is_constant (slice_get xs a)) k (λ a g. stays_constant k a g) x h.comes.reads)
        ∙ folded h.old x h.comes.there some)

    -- a node as it was
    goes_back : (k : ℕ) (y : NetNode) (h : At k y) → renamed (node_at from) y ≡ h.comes.node
    goes_back k y h =
        let x = h.comes.node in
        ap (renamed (node_at from)) h.comes.is
        ∙ renamed_back (node_at to) (node_at from) x
        (each_goes (λ a. node_at from (node_at to a) ≡ a) k (λ a g. ap (node_at from) g.is ∙ ap or_first g.comes) x h.comes.reads)

    pub moved_distinct : IsDistinct xs → IsDistinct ys
    moved_distinct distinct i k y e f =
        let h = at_place i y e in
        let j = at_place k y f in
        let same : h.comes.node ≡ j.comes.node = sym (goes_back i y h) ∙ goes_back k y j in
        let old : h.old ≡ j.old = distinct h.old j.old j.comes.node (h.comes.there ∙ ap Some same) j.comes.there in
        same_Some i k (sym h.comes.goes ∙ (ap (slice_get to) old ∙ j.comes.goes))

-- ---- the net

module _ (c : NetData) (from to : List ℕ) (nodes : List NetNode) (moved : AreMoved from to c.nodes nodes) (all : length to ≡ length c.nodes)
    (before : IsNet c) (after : IsNet (with_nodes c nodes to)) where
  stays_as : (k : ℕ) → (b : Bool) → nat_lt k (length to) ≡ b → (not b || goes_before from to (length from) k) ≡ true → Stays c nodes to k
  stays_as k true l h =
      let g = goes_there from to (length from) k h in
      let place : place_or to (length nodes) k ≡ g.place = ap (or_none (length nodes)) g.goes in
      let below : g.place < length nodes = (let b = g.below in let long = moved.long in omega (arith, b, long)) in
      record {
        word = λ inputs registers first second.
            ap (at (words nodes inputs registers)) place
            ∙ moved_word from to c.nodes nodes moved inputs registers (at (words nodes inputs registers)) (at (words c.nodes inputs registers))
            (solved (with_nodes c nodes to) after inputs registers first second) (solved c before inputs registers first second) g.place k g.comes;
        within = λ m. subst (λ (n : ℕ). n < length nodes) (sym place) below;
        past = λ m. absurd (let b = ltb-true k (length to) l in omega (arith, b, all, m));
      }
  stays_as k false l h =
      let past : length to ≤ k = ltb-false k (length to) l in
      let beyond : length c.nodes ≤ k = omega (arith, past, all) in
      let place : place_or to (length nodes) k ≡ length nodes = ap (or_none (length nodes)) (slice_get_past to k past) in
      record {
        word = λ inputs registers first second.
            ap (at (words nodes inputs registers)) place
            ∙ (past_nodes nodes inputs registers (length nodes) (omega arith) ∙ sym (past_nodes c.nodes inputs registers k beyond));
        within = λ m. absurd (omega (arith, beyond, m));
        past = λ m. place;
      }

  all_stay : (ns : List ℕ) → list_all (keeps from to (length from)) ns ≡ true → AllByRecursion (Stays c nodes to) ns
  all_stay [] h = tt
  all_stay (n ∷ ns) h =
      let parts = and_parts (keeps from to (length from) n) (list_all (keeps from to (length from)) ns) h in
      (stays_as n (nat_lt n (length to)) refl parts.0, all_stay ns parts.1)

-- what is promised of the net in another order
pub record Moved (c d : NetData) : Type 0 where
  pub alike : Alike c d
  pub folded : IsFolded c.nodes → IsFolded d.nodes
  pub distinct : IsDistinct c.nodes → IsDistinct d.nodes

pub moved_net : (from : List ℕ) (c d : NetData) → IsMoveOf from c d → IsNet c → IsNet d → Moved c d
moved_net from c d h before after =
    let ordered : IsNet (with_nodes c h.nodes h.to) = subst IsNet h.is after in
    let stay : (ns : List ℕ) → list_all (keeps from h.to (length from)) ns ≡ true → AllByRecursion (Stays c h.nodes h.to) ns =
    all_stay c from h.to h.nodes h.moved h.all before ordered in
    subst (Moved c) (sym h.is) (record {
      alike = alike_with c h.nodes h.to (record {
        nexts = stay c.nexts h.nexts;
        fires = stay c.fires h.fires;
        readies = stay c.readies h.readies;
        results = stay c.results h.results;
      });
      folded = moved_folded from h.to c.nodes h.nodes h.moved;
      distinct = moved_distinct from h.to c.nodes h.nodes h.moved;
    })

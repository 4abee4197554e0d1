-- The net of folded nodes gives the same, has no operator of constants alone, and no two equal nodes.
use Rattle.std.proofs.Common.{◌≡◌, ◌∙◌, ◌⊎◌, inl, inr, ◌<◌, ◌≤◌, ℕ, List, [], ◌∷◌, Some, length, sym, ap, subst, arith}
use Rattle.std.specs.Prelude.{slice_get}
use Rattle.std.specs.List.{AllByRecursion}
use Rattle.std.proofs.lemmas.Bool.{cases_lt}
use Rattle.std.proofs.lemmas.Option.{slice_get_past}
use Rattle.bsv_lemmas.proofs.Places.{item_there}
use Rattle.bsv_bits.specs.Words.{Bits}
use Rattle.bsv_design.specs.design.Bodies.{at}
use Rattle.bsv_guard.specs.Fitting.{HaveWidths}
use Rattle.bsv_net.specs.declared.net_data.NetData.{NetData}
use Rattle.bsv_net.specs.declared.node.NetNode.{NetNode}
use Rattle.bsv_net.specs.Nets.{IsNet, ports, register_widths, words}
use Rattle.bsv_net.proofs.Solution.{words_have}
use Rattle.bsv_share.specs.Folding.{AreSomeWords, Folds, IsFoldOf}
use Rattle.bsv_share.specs.Outputs.{or_none, place_or, with_nodes}
use Rattle.bsv_share.specs.Sharing.{IsDistinct, IsFolded}
use Rattle.bsv_share.proofs.Alike.{Alike}
use Rattle.bsv_share.proofs.Folded.{Kept, ReadsEarlier, kept}
use Rattle.bsv_share.proofs.Following.{Old, follows}
use Rattle.bsv_share.proofs.NodesAt.{node_of, reads_below, sizes_of}
use Rattle.bsv_share.proofs.Placing.{Stays, alike_with, past_nodes, same_widths, solved}

pub reads_earlier : (c : NetData) → IsNet c → ReadsEarlier c.nodes
reads_earlier c right k x there = reads_below (length c.inputs) k x (node_of c right k x there).below

pub all_of : (P : ℕ → Type 0) → ((k : ℕ) → P k) → (ns : List ℕ) → AllByRecursion P ns
all_of P h [] = tt
all_of P h (n ∷ ns) = (h n, all_of P h ns)

module _ (c : NetData) (vs : List Bits) (nodes : List NetNode) (places : List ℕ) (some : AreSomeWords c vs) (folds : Folds vs c.nodes nodes places)
    (before : IsNet c) (after : IsNet (with_nodes c nodes places)) where
  keeps : Kept c.nodes nodes places
  keeps = kept vs folds (reads_earlier c before)

  module _ (inputs registers : List Bits) (first : HaveWidths c.inputs inputs) (second : HaveWidths (register_widths c.registers) registers) where
    abbrev us : List Bits
    us = words c.nodes inputs registers

    have : HaveWidths before.widths us
    have = words_have c before inputs registers first second

    have_some : HaveWidths before.widths vs
    have_some = subst (HaveWidths before.widths) (sym some.are) (words_have c before some.inputs some.registers some.inputs_fit some.registers_fit)

    old : Old inputs registers vs (at us) c.nodes
    old =
        let s = solved c before inputs registers first second in
        record {
          operates = s.operates;
          computes = s.computes;
          sizes = λ k x there.
              (let h = node_of c before k x there in
              sizes_of before.widths us have (ports c.inputs c.registers) (length c.inputs) x h.width h.has);
          widths = same_widths before.widths us vs have have_some;
        }

    same_word : (k p : ℕ) → slice_get places k ≡ Some p → at (words nodes inputs registers) p ≡ at us k
    same_word =
        follows inputs registers vs (at us) (at (words nodes inputs registers)) folds (reads_earlier c before) old
        (solved (with_nodes c nodes places) after inputs registers first second)

  stays : (k : ℕ) → Stays c nodes places k
  stays k = of (cases_lt k (length places))
    where
      of : (k < length places) ⊎ (length places ≤ k) → Stays c nodes places k
      of (inl l) =
          let f = item_there places k l in
          let place : place_or places (length nodes) k ≡ f.0 = ap (or_none (length nodes)) f.1 in
          record {
            word = λ inputs registers first second. ap (at (words nodes inputs registers)) place ∙ same_word inputs registers first second k f.0 f.1;
            within = λ m. subst (λ (n : ℕ). n < length nodes) (sym place) (keeps.within k f.0 f.1);
            past = λ m. absurd (let long = keeps.long in omega (arith, long, l, m));
          }
      of (inr l) =
          let place : place_or places (length nodes) k ≡ length nodes = ap (or_none (length nodes)) (slice_get_past places k l) in
          let past : length c.nodes ≤ k = (let long = keeps.long in omega (arith, long, l)) in
          record {
            word = λ inputs registers first second.
                ap (at (words nodes inputs registers)) place
                ∙ (past_nodes nodes inputs registers (length nodes) (omega arith) ∙ sym (past_nodes c.nodes inputs registers k past));
            within = λ m. absurd (omega (arith, past, m));
            past = λ m. place;
          }

  pub fold_alike : Alike c (with_nodes c nodes places)
  fold_alike = alike_with c nodes places (record {
    nexts = all_of (Stays c nodes places) stays c.nexts;
    fires = all_of (Stays c nodes places) stays c.fires;
    readies = all_of (Stays c nodes places) stays c.readies;
    results = all_of (Stays c nodes places) stays c.results;
  })

  pub fold_folded : IsFolded nodes
  fold_folded = keeps.sound.folded

  pub fold_distinct : IsDistinct nodes
  fold_distinct = keeps.sound.distinct

-- what is promised of the folded net
pub record Folded (c d : NetData) : Type 0 where
  pub alike : Alike c d
  pub folded : IsFolded d.nodes
  pub distinct : IsDistinct d.nodes

pub folded_net : (c d : NetData) → IsFoldOf c d → IsNet c → IsNet d → Folded c d
folded_net c d h before after =
    let ordered : IsNet (with_nodes c h.nodes h.places) = subst IsNet h.is after in
    subst (Folded c) (sym h.is) (record {
      alike = fold_alike c h.words h.nodes h.places h.some h.folds before ordered;
      folded = fold_folded c h.words h.nodes h.places h.some h.folds before ordered;
      distinct = fold_distinct c h.words h.nodes h.places h.some h.folds before ordered;
    })

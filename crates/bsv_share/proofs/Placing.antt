-- A net with other nodes gives the same where each output is at a place of the same word.
use Rattle.std.proofs.Common.{◌≡◌, ◌∙◌, ◌<◌, ◌≤◌, ◌+◌, ℕ, zero, suc, List, [], ◌∷◌, ◌++◌, None, map, length, refl, sym, ap, ap₂, subst, arith}
use Rattle.std.specs.List.{AllByRecursion}
use Rattle.std.proofs.lemmas.Option.{slice_get_past}
use Rattle.bsv_lemmas.proofs.Places.{all_at, mapped_at}
use Rattle.bsv_bits.specs.Words.{Bits, IsWord}
use Rattle.bsv_design.specs.design.Bodies.{at}
use Rattle.bsv_design.specs.design.Words.{or_zero}
use Rattle.bsv_guard.specs.Fitting.{HaveWidths}
use Rattle.bsv_net.specs.declared.net_data.NetData.{NetData}
use Rattle.bsv_net.specs.declared.node.NetNode.{NetNode}
use Rattle.bsv_net.specs.Nets.{IsNet, register_widths, words}
use Rattle.bsv_net.proofs.Evaluating.{words_long}
use Rattle.bsv_net.proofs.Solution.{satisfies, words_have}
use Rattle.bsv_share.specs.Outputs.{place_or, with_nodes}
use Rattle.bsv_share.specs.Sharing.{GivesSame, StaysNamed}
use Rattle.bsv_share.proofs.Alike.{Alike}
use Rattle.bsv_share.proofs.Rules.{Solved}

-- ---- words

pub past_nodes : (ns : List NetNode) (inputs registers : List Bits) (k : ℕ) → length ns ≤ k → at (words ns inputs registers) k ≡ or_zero None
past_nodes ns inputs registers k l =
    ap or_zero (slice_get_past (words ns inputs registers) k (let long = words_long ns inputs registers in omega (arith, long, l)))

all_words : (us : List ℕ) (vs : List Bits) → HaveWidths us vs → (k : ℕ) → IsWord (at vs k)
all_words [] [] h k = record { some = omega arith; most = omega arith; below = omega arith }
all_words [] (v ∷ vs) h k = absurd h
all_words (u ∷ us) [] h k = absurd h
all_words (u ∷ us) (v ∷ vs) h zero = h.0.word
all_words (u ∷ us) (v ∷ vs) h (suc k) = all_words us vs h.1 k

pub same_widths : (us : List ℕ) (vs ws : List Bits) → HaveWidths us vs → HaveWidths us ws → (k : ℕ) → (at vs k).width ≡ (at ws k).width
same_widths [] [] [] h i k = refl
same_widths [] [] (w ∷ ws) h i k = absurd i
same_widths [] (v ∷ vs) ws h i k = absurd h
same_widths (u ∷ us) [] ws h i k = absurd h
same_widths (u ∷ us) (v ∷ vs) [] h i k = absurd i
same_widths (u ∷ us) (v ∷ vs) (w ∷ ws) h i zero = h.0.same_width ∙ sym i.0.same_width
same_widths (u ∷ us) (v ∷ vs) (w ∷ ws) h i (suc k) = same_widths us vs ws h.1 i.1 k

-- the words of the nodes of a net satisfy them
pub solved : (c : NetData) → IsNet c → (inputs registers : List Bits) → HaveWidths c.inputs inputs → HaveWidths (register_widths c.registers) registers
    → Solved inputs registers (at (words c.nodes inputs registers)) c.nodes
solved c right inputs registers first second =
    let s = satisfies c right inputs registers first second in
    record {
      operates = s.operates;
      computes = s.computes;
      words = all_words right.widths (words c.nodes inputs registers) (words_have c right inputs registers first second);
    }

-- ---- outputs

module _ (c : NetData) (nodes : List NetNode) (places : List ℕ) where
  abbrev pub there : ℕ → ℕ
  there k = place_or places (length nodes) k

  -- a number of an output has a place of the same word
  pub record Stays (k : ℕ) : Type 0 where
    pub word : (inputs registers : List Bits) → HaveWidths c.inputs inputs → HaveWidths (register_widths c.registers) registers
        → at (words nodes inputs registers) (there k) ≡ at (words c.nodes inputs registers) k
    pub within : k < length c.nodes → there k < length nodes
    pub past : length c.nodes ≤ k → there k ≡ length nodes

  module _ (inputs registers : List Bits) (first : HaveWidths c.inputs inputs) (second : HaveWidths (register_widths c.registers) registers) where
    words_stay : (ns : List ℕ) → AllByRecursion Stays ns → map (at (words nodes inputs registers)) (map there ns) ≡ map (at (words c.nodes inputs registers)) ns
    words_stay [] h = refl
    words_stay (n ∷ ns) h = ap₂ (λ (w : Bits) (ws : List Bits). w ∷ ws) (h.0.word inputs registers first second) (words_stay ns h.1)

  pub record AllStay : Type 0 where
    pub nexts : AllByRecursion Stays c.nexts
    pub fires : AllByRecursion Stays c.fires
    pub readies : AllByRecursion Stays c.readies
    pub results : AllByRecursion Stays c.results

  gives_stay : AllStay → GivesSame c (with_nodes c nodes places)
  gives_stay h inputs registers first second = λ j. record {
    fires = words_stay inputs registers first second c.fires h.fires j;
    readies = words_stay inputs registers first second c.readies h.readies j;
    results = words_stay inputs registers first second c.results h.results j;
    nexts = words_stay inputs registers first second c.nexts h.nexts j;
  }

  pub alike_with : AllStay → Alike c (with_nodes c nodes places)
  alike_with h = record {
    inputs = refl;
    registers = refl;
    gives_same = gives_stay h;
    names_same = λ n k e.
        (let s = all_at Stays c.results h.results n k e in
        subst (StaysNamed c (with_nodes c nodes places) k) (sym (mapped_at there c.results n k e)) (s.within, s.past));
  }

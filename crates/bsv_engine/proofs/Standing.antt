-- One step more, which stands for the next node.
use Rattle.std.proofs.Common.{◌≡◌, ◌∙◌, ℕ, ◌<◌, ◌≤◌, List, [], ◌∷◌, ◌++◌, length, get_or, take, sym, ap, ap₂, subst, arith, refl}
use Rattle.std.specs.List.{All}
use Rattle.std.proofs.lemmas.List.{map-append, take_more, length_push}
use Rattle.std.proofs.lemmas.List.Elements.{All-nil, All-cons, All-append}
use Rattle.bsv_net.specs.declared.node.NetNode.{NetNode}
use Rattle.bsv_engine.specs.Runs.{Stand}

module _ {S : Type 0} (fits : List ℕ → S → Type 0) (of : S → NetNode) (before own : List ℕ) (nodes : List NetNode) where
  pub stand_none : Stand fits of before own nodes []
  stand_none = record { right = All-nil (fits before); same = refl; narrow = All-nil (λ u. u ≤ 64); within = omega arith }

  pub stand_more : (steps : List S) (x : S) (node : NetNode) → Stand fits of before own nodes steps → length own ≡ length nodes → length steps < length nodes
      → node ≡ get_or nodes (length steps) node → of x ≡ node → fits before x → get_or own (length steps) 0 ≤ 64
      → Stand fits of before own nodes (steps ++ x ∷ [])
  stand_more steps x node all long there is node_is fit small =
      let count = length_push steps x in
      let n : ℕ = length steps in
      record {
        right = All-append (fits before) steps (x ∷ []) all.right (All-cons (fits before) x [] fit (All-nil (fits before)));
        same =
            map-append of steps (x ∷ [])
            ∙ ap₂ (λ xs y. xs ++ y ∷ []) all.same (node_is ∙ is)
            ∙ sym (take_more nodes n node there)
            ∙ ap (λ k. take k nodes) (sym count);
        narrow =
            subst (λ (k : ℕ). All (λ u. u ≤ 64) (take k own)) (sym count)
            (subst (λ (us : List ℕ). All (λ u. u ≤ 64) us) (sym (take_more own n 0 (omega arith)))
            (All-append (λ u. u ≤ 64) (take n own) (get_or own n 0 ∷ []) all.narrow (All-cons (λ u. u ≤ 64) (get_or own n 0) [] small (All-nil (λ u. u ≤ 64)))));
        within = omega arith;
      }

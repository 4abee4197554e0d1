-- The words of the nodes, one after the other.
use Rattle.std.proofs.Common.{◌≡◌, ◌∙◌, ℕ, ◌+◌, cond, List, [], ◌∷◌, ◌++◌, take, drop, Option, Some, None, refl, sym, ap, subst}
use Rattle.std.specs.Prelude.{slice_get}
use Rattle.bsv_lemmas.proofs.Places.{take_one}
use Rattle.bsv_bits.specs.Words.{Bits}
use Rattle.bsv_prim.specs.declared.part.Part.{Part}
use Rattle.bsv_design.specs.declared.element.Call.{Call}
use Rattle.bsv_design.specs.declared.element.Element.{Element}
use Rattle.bsv_design.specs.declared.element.Port.{Port}
use Rattle.bsv_design.specs.declared.kind.Kind.{Kind}
use Rattle.bsv_design.specs.declared.node.Node.{Node}
use Rattle.bsv_design.specs.declared.node.Node.TheVariants as node
use Rattle.bsv_design.specs.design.Bodies.{target, Answers, answer, node_word, of_parts, values, words_after}
use Rattle.bsv_design.specs.scheme.Schemes.{answers, guard_of, result_of, no_result}
use Rattle.bsv_design.proofs.Bodies.{words_one}
use Rattle.bsv_design.specs.scheme.Traces.{kind_at}
use Rattle.bsv_design.specs.design.Widths.{if_some, node_width, widths_from}
use Rattle.bsv_guard.specs.Fitting.{HaveWidths}
use Rattle.bsv_guard.proofs.BodyFits.{words_fit}
use Rattle.bsv_guard.proofs.Fits.{answers_fit}
use Rattle.bsv_guard.proofs.Nodes.{chained}
use Rattle.bsv_serial.specs.declared.calls_made.MadeCall.{MadeCall}
use Rattle.bsv_serial.proofs.Lists.{split_at}
use Rattle.bsv_serial.specs.Bodies.{HasOperands, CanBeComputed}
use Rattle.bsv_serial.specs.Sights.{look_with}

-- ---- words

module _ (r : Answers) (arguments : List Bits) (cs : List Call) where
  -- one node more
  pub values_more : (ns : List Node) (i : ℕ) (x : Node) → slice_get ns i ≡ Some x
      → values r arguments cs [] (take (i + 1) ns) ≡ values r arguments cs [] (take i ns) ++ node_word r arguments cs (values r arguments cs [] (take i ns)) x ∷ []
  values_more ns i x e = ap (values r arguments cs []) (take_one ns i x e) ∙ words_one (of_parts r) arguments cs [] (take i ns) x

  -- the words rest on the answers to the calls of the body
  module _ (q : Answers) (same : (k : ℕ) (c : Call) → slice_get cs k ≡ Some c → (args : List Bits) → r k (target c) args ≡ q k (target c) args) where
    answer_same : (k : ℕ) (ws : List Bits) (o : Option Call) → slice_get cs k ≡ o → answer r k ws o ≡ answer q k ws o
    answer_same k ws None e = refl
    answer_same k ws (Some c) e = same k c e _

    word_same : (ws : List Bits) (x : Node) → node_word r arguments cs ws x ≡ node_word q arguments cs ws x
    word_same ws (node.Constant v) = refl
    word_same ws (node.Argument k) = refl
    word_same ws (node.Result k) = answer_same k ws (slice_get cs k) refl
    word_same ws (node.Not a) = refl
    word_same ws (node.Two o a b) = refl
    word_same ws (node.Pick t a b) = refl
    word_same ws (node.Slice a high low) = refl
    word_same ws (node.Join a b) = refl
    word_same ws (node.Extend a width) = refl
    word_same ws (node.SignExtend a width) = refl

    pub values_same : (ws : List Bits) (ns : List Node) → values r arguments cs ws ns ≡ values q arguments cs ws ns
    unfolding words_after
    values_same ws [] = refl
    values_same ws (x ∷ ns) =
        ap (λ (v : Bits). values r arguments cs (ws ++ v ∷ []) ns) (word_same ws x)
        ∙ values_same (ws ++ node_word q arguments cs ws x ∷ []) ns

-- ---- widths

record Parted (ports : List Port) (ks : List Kind) (cs : List Call) (us : List ℕ) (xs ys : List Node) (ends : List ℕ) : Type 0 where
  between : List ℕ
  first : widths_from ports ks cs us xs ≡ Some between
  rest : widths_from ports ks cs between ys ≡ Some ends

parted : (ports : List Port) (ks : List Kind) (cs : List Call) (us : List ℕ) (xs ys : List Node) (ends : List ℕ) → widths_from ports ks cs us (xs ++ ys) ≡ Some ends → Parted ports ks cs us xs ys ends
unfolding widths_from
parted ports ks cs us [] ys ends e = record { between = us; first = refl; rest = e }
parted ports ks cs us (x ∷ xs) ys ends e =
    let c = chained (node_width ports ks cs us x) (λ w. widths_from ports ks cs (us ++ w ∷ []) (xs ++ ys)) ends e in
    let p = parted ports ks cs (us ++ c.width ∷ []) xs ys ends c.rest in
    record {
      between = p.between;
      first = ap (λ (o : Option ℕ). if_some o (λ w. widths_from ports ks cs (us ++ w ∷ []) xs)) c.first ∙ p.first;
      rest = p.rest;
    }

module _ (ks : List Kind) (ps : List Part) (calls_made : List (List MadeCall)) (e : Element) (arguments : List Bits) (h : CanBeComputed ks ps calls_made e arguments) where
  -- the answers under the look are those under one of parts that fit
  same_answers : (k : ℕ) (c : Call) → slice_get e.calls k ≡ Some c → (args : List Bits) → answers ks (look_with ks ps calls_made) k (target c) args ≡ answers ks h.seen k (target c) args
  unfolding answers
  same_answers k c at args =
      ap (λ (p : Part). cond (guard_of (kind_at ks (target c)) c.method p) (result_of (kind_at ks (target c)) c.method p args) (no_result (kind_at ks (target c)) c.method)) (h.same k c at)

  pub same_words : (ns : List Node) → values (answers ks (look_with ks ps calls_made)) arguments e.calls [] ns ≡ values (answers ks h.seen) arguments e.calls [] ns
  same_words ns = values_same (answers ks (look_with ks ps calls_made)) arguments e.calls (answers ks h.seen) same_answers [] ns

  -- each node has its operands where those before it stand
  pub operands_at : (i : ℕ) (x : Node) → slice_get e.nodes i ≡ Some x → HasOperands ks e.arguments e.calls (values (answers ks (look_with ks ps calls_made)) arguments e.calls [] (take i e.nodes)) x
  unfolding widths_from
  operands_at i x at =
      let w = h.widths in
      let whole = ap (widths_from e.arguments ks e.calls []) (sym (split_at e.nodes i x at)) ∙ w.nodes in
      let p = parted e.arguments ks e.calls [] (take i e.nodes) (x ∷ drop (i + 1) e.nodes) w.widths whole in
      let c = chained (node_width e.arguments ks e.calls p.between x) (λ v. widths_from e.arguments ks e.calls (p.between ++ v ∷ []) (drop (i + 1) e.nodes)) w.widths p.rest in
      record {
        widths = p.between;
        have = subst (HaveWidths p.between) (sym (same_words (take i e.nodes)))
            (words_fit ks e.arguments e.calls arguments h.given (answers ks h.seen) (answers_fit ks h.seen h.fits) (take i e.nodes) p.between p.first);
        width = c.width;
        is = c.first;
      }

-- The arms of a choice that are left after some of them.
use Rattle.std.proofs.Common.{◌≡◌, ℕ, Bool, ◌&&◌, List, [], ◌∷◌, ◌++◌, length, map, Ok, sym, ◌∙◌, subst, append-nil}
use Rattle.bsv_bits.specs.Words.{Bits}
use Rattle.bsv_tree.specs.declared.values.Count.{Count}
use Rattle.bsv_tree.specs.declared.values.Local.{Local}
use Rattle.bsv_tree.specs.declared.values.Pending.{Pending}
use Rattle.bsv_tree.specs.declared.values.Work.{Work}
use Rattle.bsv_tree.specs.carrying.Arms as carried
use Rattle.bsv_tree.specs.carrying.Frames as frames
use Rattle.bsv_tree.specs.carrying.Carrying as carrying
use Rattle.bsv_tree.specs.carrying.Carrying.{Acts}
use Rattle.bsv_tree.specs.meaning.Evaluation.{Results, Standing}
use Rattle.bsv_tree.specs.carrying.Running.{run, arms_run}
use Rattle.bsv_tree.specs.carrying.Working.{no_steps}
use Rattle.bsv_tree.specs.meaning.Values.{Variables, begun}
use Rattle.bsv_tree.specs.meaning.Evaluation.{Evaluation, within}
use Rattle.bsv_tree.specs.meaning.Control as control
use Rattle.bsv_tree.proofs.meaning.Same.{AllHold, got}
use Rattle.bsv_tree.proofs.meaning.Operating.{V}
use Rattle.bsv_tree.proofs.meaning.Nodes.{alternative}
use Rattle.bsv_tree.proofs.meaning.Statements.{Does, DoesWhere}
use Rattle.bsv_tree.proofs.meaning.Joins.{AllPlain, Ends, Finishes, last_finishes}

module _ (r : Results) where
  -- statements that keep the scope
  pub record Exactly (a : Acts) (m : control.Acts) : Type 0 where
    pub does : Does r a m
    pub exact : (vs : List Local) (w : Work) (ts : List Local) (v : Work) → a vs w ≡ Ok (ts, v) → length ts ≡ length vs

  -- the same of runs whose words are such
  pub record ExactlyWhere (R : List Bits → Type 0) (a : Acts) (m : control.Acts) : Type 0 where
    pub does : DoesWhere r R a m
    pub exact : (vs : List Local) (w : Work) (ts : List Local) (v : Work) → a vs w ≡ Ok (ts, v) → length ts ≡ length vs

  -- what is asked of words holds of all
  pub exactly_everywhere : (R : List Bits → Type 0) (a : Acts) (m : control.Acts) → ((W : List Bits) → R W) → ExactlyWhere R a m → Exactly a m
  exactly_everywhere R a m on h = record {
    does = record { kept = h.does.kept; does = λ p ws n k vs us w long hold ts v e. h.does.does p ws n k vs us w long (on (V r p ws n k w)) hold ts v e };
    exact = h.exact;
  }

  module _ (P : List Bits → Type 0) (vs : List Local) (us : Variables) where
    -- the arms that are left of a choice
    pub record Tail (w : Work) (ps : List Pending) (slots : ℕ) (m : ℕ → ℕ → Bool → Evaluation Variables) (ts : List Local) (v : Work) : Type 0 where
      pub more : List Pending
      pub locals : List Local
      pub last : Work
      pub made : carried.close vs w (ps ++ more) locals last ≡ Ok (ts, v)
      pub finishes : (given : List ℕ) (plain : AllPlain vs given) (number arm : ℕ) (left : Bool) → Finishes r vs us given plain P slots more last.steps locals number arm left (m number arm left)

    -- none but the last one
    pub last_tail : (w : Work) (p : Pending) (ps : List Pending) (a : Acts) (m : control.Acts) → Exactly a m → (c : Count) (ts : List Local) (v : Work)
        → carrying.last_arm w (p ∷ ps) a vs c ≡ Ok (ts, v) → Tail w (p ∷ ps) c.slots (λ number arm left. within number arm left (m (begun us))) ts v
    unfolding carrying.last_arm
    last_tail w p ps a m h c ts v e =
        let g = got (a (frames.untouched vs) (no_steps c)) (λ o. carried.close vs w (p ∷ ps) o.0 o.1) (ts, v) e in
        record {
          more = [];
          locals = g.0.0;
          last = g.0.1;
          made = subst (λ o. carried.close vs w o g.0.0 g.0.1 ≡ Ok (ts, v)) (sym (append-nil (p ∷ ps))) g.2;
          finishes = λ given plain number arm left.
              last_finishes r vs us given plain P a m h.does c g.0.0 g.0.1 g.1 (h.exact (frames.untouched vs) (no_steps c) g.0.0 g.0.1 g.1) number arm left;
        }

    -- what is told may be said in another way
    pub retold : (w : Work) (ps : List Pending) (s s' : ℕ) (m m' : ℕ → ℕ → Bool → Evaluation Variables) (ts : List Local) (v : Work) → s ≡ s'
        → ((number arm : ℕ) (left : Bool) (q : Standing) (W : List Bits) (n k : ℕ) → length W ≡ s' → AllHold W vs us → P W → m number arm left q n k ≡ m' number arm left q n k) → Tail w ps s m ts v → Tail w ps s' m' ts v
    retold w ps s s' m m' ts v e f t = record {
      more = t.more;
      locals = t.locals;
      last = t.last;
      made = t.made;
      finishes = λ given plain number arm left q W n k long hold on.
          subst (λ d. Ends r vs us given plain (carried.assigned t.more t.locals) (arms_run (map run t.last.steps) (map (carried.given_by t.locals) given) (map alternative (map (carried.arm_of given) t.more)) number arm (q.taken && left) r q W n k) d) (f number arm left q W n k long hold on) (t.finishes given plain number arm left q W n k (long ∙ sym e) hold on);
    }

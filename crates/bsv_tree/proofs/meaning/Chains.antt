-- A chain of `if` gives what it means.
use Rattle.std.proofs.Common.{◌≡◌, ℕ, ◌+◌, Bool, true, false, List, [], ◌∷◌, ◌++◌, Ok, refl, sym, ap, ap₂, ◌∙◌, subst, append_assoc}
use Rattle.std.specs.Prelude.{if◌then◌else◌}
use Rattle.bsv_lemmas.proofs.Choices.{same_ok}
use Rattle.bsv_fail.specs.Given.{◌>>=◌}
use Rattle.bsv_bits.specs.Words.{Bits}
use Rattle.bsv_tree.specs.declared.steps.Step.{Step}
use Rattle.bsv_tree.specs.declared.values.Value.{Value}
use Rattle.bsv_tree.specs.declared.values.Value.TheVariants as value
use Rattle.bsv_tree.specs.declared.values.Constant.{Constant}
use Rattle.bsv_tree.specs.declared.values.Count.{Count}
use Rattle.bsv_tree.specs.declared.values.Local.{Local}
use Rattle.bsv_tree.specs.declared.values.Pending.{Pending}
use Rattle.bsv_tree.specs.declared.values.Work.{Work}
use Rattle.bsv_tree.specs.carrying.Arms as carried
use Rattle.bsv_tree.specs.carrying.Frames as frames
use Rattle.bsv_tree.specs.carrying.Values as values
use Rattle.bsv_tree.specs.carrying.Carrying as carrying
use Rattle.bsv_tree.specs.carrying.Carrying.{Acts, Branched, Test}
use Rattle.bsv_tree.specs.meaning.Evaluation.{Results, Standing}
use Rattle.bsv_tree.specs.carrying.Running.{in_turn}
use Rattle.bsv_tree.specs.carrying.Working.{no_steps, at_count}
use Rattle.bsv_tree.specs.meaning.Values.{Value as Val, static, varying, is_static, is_true, Variables, begun}
use Rattle.bsv_tree.specs.meaning.Evaluation as evaluation
use Rattle.bsv_tree.specs.meaning.Evaluation.{Evaluation, asked, within}
use Rattle.bsv_tree.specs.meaning.Control as control
use Rattle.bsv_tree.proofs.meaning.Same.{Shows, AllHold, Same, IsLong, ran, here, got}
use Rattle.bsv_tree.proofs.meaning.Operating.{V}
use Rattle.bsv_tree.proofs.meaning.Joins.{AllPlain, Finishes}
use Rattle.bsv_tree.proofs.meaning.Tails.{Exactly, Tail, last_tail, retold}
use Rattle.bsv_tree.proofs.meaning.Closing.{alone_is, closed_is}
use Rattle.bsv_tree.proofs.meaning.Tests.{subject, AllTest, Decided, decided_is, tag_decided, static_told, open_told, first_tested}

module _ (r : Results) (vs : List Local) (us : Variables) where
  tails : (bs : List Branched) (ms : List control.Branched) → AllTest r bs ms → (last : Acts) (mlast : control.Acts) → Exactly r last mlast
      → (w : Work) (p : Pending) (ps : List Pending) (c : Count) (ts : List Local) (v : Work)
      → carrying.chain_from w (p ∷ ps) bs last vs c ≡ Ok (ts, v) → Tail r (λ W. Unit {0}) vs us w (p ∷ ps) c.slots (λ number arm left. control.arms number arm left ms mlast us) ts v
  unfolding carrying.chain_from control.arms carrying.kept
  tails [] [] h last mlast k w p ps c ts v e = last_tail r (λ W. Unit {0}) vs us w p ps last mlast k c ts v e
  tails (b ∷ bs) (m ∷ ms) h last mlast k w p ps c ts v e =
      let g = got (b.asks vs c) _ (ts, v) e in
      by g.0 g.1 g.0.0 refl g.2 (λ o u f. tails bs ms h.1 last mlast k w p o u ts v f) where
        After : Value → Test → Type 0
        After x t = (if values.is_true x then carrying.last_arm w (p ∷ ps) (carrying.branch_arm b.arm t.1) vs (carrying.after_arm c t.2.count)
            else (carrying.kept (p ∷ ps) c (x, t.1, t.2) b.arm vs >>= λ o. carrying.chain_from w o.0 bs last vs o.1)) ≡ Ok (ts, v)

        Goal : Type 0
        Goal = Tail r (λ W. Unit {0}) vs us w (p ∷ ps) c.slots (λ number arm left. control.arms number arm left (m ∷ ms) mlast us) ts v

        Others : Type 0
        Others = (o : List Pending) (u : Count) → carrying.chain_from w (p ∷ o) bs last vs u ≡ Ok (ts, v) → Tail r (λ W. Unit {0}) vs us w (p ∷ o) u.slots (λ number arm left. control.arms number arm left ms mlast us) ts v

        by_static : (t : Test) (e' : b.asks vs c ≡ Ok t) (D : Decided r b m h.0 t) (i : Constant) → t.0 ≡ value.Static i → (is : Bool) → values.is_true (value.Static i) ≡ is
            → (if is then carrying.last_arm w (p ∷ ps) (carrying.branch_arm b.arm t.1) vs (carrying.after_arm c t.2.count) else carrying.chain_from w (p ∷ ps) bs last vs (carrying.after_arm c t.2.count)) ≡ Ok (ts, v) → Others → Goal
        by_static t e' D i f true j q o =
            let A : control.Acts = λ us. control.scoped m.arm (h.0.payload (static D.constant)) us in
            retold r (λ W. Unit {0}) vs us w (p ∷ ps) c.slots c.slots (λ number arm left. within number arm left (A (begun us))) (λ number arm left. control.arms number arm left (m ∷ ms) mlast us) ts v
            refl
            (λ number arm left q W n l long hold on.
            ap (λ (is : Bool). (if is then within number arm left (A (begun us)) else control.arms number arm left ms mlast us) q n l) (sym j)
            ∙ static_told r vs us b m h.0 ms mlast c t e' D i f number arm left q W n l long hold)
            (last_tail r (λ W. Unit {0}) vs us w p ps (carrying.branch_arm b.arm t.1) A D.arm (carrying.after_arm c t.2.count) ts v q)
        by_static t e' D i f false j q o =
            let A : control.Acts = λ us. control.scoped m.arm (h.0.payload (static D.constant)) us in
            retold r (λ W. Unit {0}) vs us w (p ∷ ps) c.slots c.slots (λ number arm left. control.arms number arm left ms mlast us) (λ number arm left. control.arms number arm left (m ∷ ms) mlast us) ts v
            refl
            (λ number arm left q W n l long hold on.
            ap (λ (is : Bool). (if is then within number arm left (A (begun us)) else control.arms number arm left ms mlast us) q n l) (sym j)
            ∙ static_told r vs us b m h.0 ms mlast c t e' D i f number arm left q W n l long hold)
            (o ps (carrying.after_arm c t.2.count) q)

        by : (t : Test) (e' : b.asks vs c ≡ Ok t) (x : Value) → t.0 ≡ x → After x t → Others → Goal
        by t e' (value.Static i) f q o = by_static t e' (decided_is r b m h.0 vs c t e' (ap values.is_static f)) i f (values.is_true (value.Static i)) refl q o
        by t e' (value.Open at) f q o =
            let g = got (carrying.kept (p ∷ ps) c (value.Open at, t.1, t.2) b.arm vs) (λ n. carrying.chain_from w n.0 bs last vs n.1) (ts, v) q in
            let l = got (carrying.branch_arm b.arm t.1 (frames.untouched vs) (no_steps t.2.count)) _ g.0 g.1 in
            let new = carrying.pending (value.Open at) t.2 l.0 in
            let T = o (ps ++ new ∷ []) (carrying.after_arm t.2.count l.0.1.count)
            (subst (λ (n : List Pending × Count). carrying.chain_from w n.0 bs last vs n.1 ≡ Ok (ts, v)) (sym (same_ok ((p ∷ ps) ++ new ∷ [], carrying.after_arm t.2.count l.0.1.count) g.0 l.2)) g.2) in
            record {
              more = new ∷ T.more;
              locals = T.locals;
              last = T.last;
              made = subst (λ (n : List Pending). carried.close vs w n T.locals T.last ≡ Ok (ts, v)) (append_assoc (p ∷ ps) (new ∷ []) T.more) T.made;
              finishes = λ given plain number arm left. open_told r vs us b m h.0 ms mlast c t e' at f l.0.0 l.0.1 l.1 T.more T.last.steps T.locals given plain number arm
                  (λ n. T.finishes given plain number (arm + 1) n) left;
            }
  tails [] (m ∷ ms) h last mlast k w p ps c ts v e = absurd h
  tails (b ∷ bs) [] h last mlast k w p ps c ts v e = absurd h

  -- ---- the whole chain

  module _ (p : Standing) (ws : List Bits) (n k : ℕ) (w : Work) (long : IsLong r p ws n k w) (hold : AllHold (V r p ws n k w) vs us) where
    abbrev Vars : List Local → Work → Evaluation Variables → Type 0
    Vars ts v m = Same r p ws n k (λ W xs. AllHold W ts xs) w v (here r p ws n k w m)

    abbrev N : ℕ
    N = (ran r p ws n k w).choices

    abbrev K : ℕ
    K = (ran r p ws n k w).sites

    pub chain_from_is : (bs : List Branched) (ms : List control.Branched) → AllTest r bs ms → (last : Acts) (mlast : control.Acts) → Exactly r last mlast
        → (c : Count) → c.slots ≡ w.count.slots → (ts : List Local) (v : Work) → carrying.chain_from w [] bs last vs c ≡ Ok (ts, v) → Vars ts v (control.chain ms mlast us)
    unfolding carrying.chain_from carrying.last_arm carrying.kept control.chain in_turn
    chain_from_is [] [] h last mlast x c s ts v e = alone_is r (λ W. Unit {0}) vs us p ws n k w long hold tt last mlast x.does c s ts v e
    chain_from_is (b ∷ bs) (m ∷ ms) h last mlast x c s ts v e =
        let g = got (b.asks vs c) _ (ts, v) e in
        by g.0 g.1 g.0.0 refl g.2 (λ u f q. chain_from_is bs ms h.1 last mlast x u f ts v q) where
          After : Value → Test → Type 0
          After y t = (if values.is_true y then carrying.last_arm w [] (carrying.branch_arm b.arm t.1) vs (carrying.after_arm c t.2.count)
              else (carrying.kept [] c (y, t.1, t.2) b.arm vs >>= λ o. carrying.chain_from w o.0 bs last vs o.1)) ≡ Ok (ts, v)

          Others : Type 0
          Others = (u : Count) → u.slots ≡ w.count.slots → carrying.chain_from w [] bs last vs u ≡ Ok (ts, v) → Vars ts v (control.chain ms mlast us)

          Rest : Val × Variables → Evaluation Variables
          Rest t = if is_static t.0 then (if is_true t.0 then control.scoped m.arm t.1 us else control.chain ms mlast us) else control.choose (m ∷ ms) mlast us

          Goal : Type 0
          Goal = Vars ts v (evaluation.◌>>=◌ (evaluation.decided (m.asks us)) Rest)

          asked_here : (t : Test) → b.asks vs c ≡ Ok t → Same r p (V r p ws n k w) N K (λ V y. Shows V (subject t) y × Shows V t.0 (h.0.tag y)) (no_steps c) t.2 (h.0.means us p N K)
          asked_here t e' = h.0.asks p (V r p ws n k w) N K vs us c (long ∙ sym s) hold t e'

          told : (y : Val) (z : Val) (a : Variables) → (h.0.means us p N K).gives ≡ y → h.0.tag y ≡ z → h.0.payload y ≡ a
              → Same r p ws n k (λ W xs. AllHold W ts xs) w v (here r p ws n k w (Rest (z, a))) → Goal
          told y z a f i j same =
              subst (λ d. Same r p ws n k (λ W xs. AllHold W ts xs) w v d)
              (ap₂ (λ z a. Rest (z, a) p N K) (sym (ap h.0.tag f ∙ i)) (sym (ap h.0.payload f ∙ j))
              ∙ sym (first_tested h.0.tag h.0.payload (h.0.means us) Rest p N K)
              ∙ ap (λ (a : Variables → Evaluation (Val × Variables)). (evaluation.◌>>=◌ (evaluation.decided (a us)) Rest) p N K) (sym h.0.asked)) same

          by_static : (t : Test) (e' : b.asks vs c ≡ Ok t) (D : Decided r b m h.0 t) (i : Constant) → t.0 ≡ value.Static i → (is : Bool) → values.is_true (value.Static i) ≡ is
              → (if is then carrying.branch_arm b.arm t.1 vs (at_count w (carrying.after_arm c t.2.count)) else carrying.chain_from w [] bs last vs (carrying.after_arm c t.2.count)) ≡ Ok (ts, v) → Others → Goal
          by_static t e' D i f is j q o =
              let first = asked_here t e' in
              let y = (h.0.means us p N K).gives in
              let A : control.Acts = λ us. control.scoped m.arm (h.0.payload (static D.constant)) us in
              told (static D.constant) (static i) (h.0.payload (static D.constant)) (D.is _ y first.gives.0) (tag_decided r vs us b m h.0 t D i f _ y first.gives.0 first.gives.1) refl
              (subst (λ (is : Bool). Vars ts v (if is then A us else control.chain ms mlast us)) (sym j) (one is q)) where
                one : (is : Bool) → (if is then carrying.branch_arm b.arm t.1 vs (at_count w (carrying.after_arm c t.2.count)) else carrying.chain_from w [] bs last vs (carrying.after_arm c t.2.count)) ≡ Ok (ts, v)
                    → Vars ts v (if is then control.scoped m.arm (h.0.payload (static D.constant)) us else control.chain ms mlast us)
                one true q =
                    alone_is r (λ W. Unit {0}) vs us p ws n k w long hold tt (carrying.branch_arm b.arm t.1) (λ us. control.scoped m.arm (h.0.payload (static D.constant)) us) D.arm.does (carrying.after_arm c t.2.count) s ts v q
                one false q = o (carrying.after_arm c t.2.count) s q

          by : (t : Test) (e' : b.asks vs c ≡ Ok t) (y : Value) → t.0 ≡ y → After y t → Others → Goal
          by t e' (value.Static i) f q o = by_static t e' (decided_is r b m h.0 vs c t e' (ap values.is_static f)) i f (values.is_true (value.Static i)) refl q o
          by t e' (value.Open at) f q o =
              let g = got (carrying.kept [] c (value.Open at, t.1, t.2) b.arm vs) (λ i. carrying.chain_from w i.0 bs last vs i.1) (ts, v) q in
              let l = got (carrying.branch_arm b.arm t.1 (frames.untouched vs) (no_steps t.2.count)) _ g.0 g.1 in
              let new = carrying.pending (value.Open at) t.2 l.0 in
              let T = tails bs ms h.1 last mlast x w new [] (carrying.after_arm t.2.count l.0.1.count) ts v
              (subst (λ (i : List Pending × Count). carrying.chain_from w i.0 bs last vs i.1 ≡ Ok (ts, v)) (sym (same_ok (new ∷ [], carrying.after_arm t.2.count l.0.1.count) g.0 l.2)) g.2) in
              let first = asked_here t e' in
              let y = (h.0.means us p N K).gives in
              let shown : Shows (ran r p (V r p ws n k w) N K t.2).words (value.Open at) (h.0.tag y) = subst (λ x. Shows (ran r p (V r p ws n k w) N K t.2).words x (h.0.tag y)) f first.gives.1 in
              told y (varying shown.0) (h.0.payload y) refl shown.2 refl
              (closed_is r (λ W. Unit {0}) vs us p ws n k w long hold tt (new ∷ T.more) T.locals T.last (λ number arm left. control.arms number arm left (m ∷ ms) mlast us)
              (λ given plain number arm left. at_slots given plain (new ∷ T.more) T.last.steps T.locals number arm left (control.arms number arm left (m ∷ ms) mlast us)
              (open_told r vs us b m h.0 ms mlast c t e' at f l.0.0 l.0.1 l.1 T.more T.last.steps T.locals given plain number arm (λ i. T.finishes given plain number (arm + 1) i) left)) ts v T.made) where
                at_slots : (given : List ℕ) (plain : AllPlain vs given) (more : List Pending) (last : List Step) (lv : List Local) (number arm : ℕ) (left : Bool) (M : Evaluation Variables)
                    → Finishes r vs us given plain (λ W. Unit {0}) c.slots more last lv number arm left M → Finishes r vs us given plain (λ W. Unit {0}) w.count.slots more last lv number arm left M
                at_slots given plain more last lv number arm left M f = subst (λ i. Finishes r vs us given plain (λ W. Unit {0}) i more last lv number arm left M) s f
    chain_from_is [] (m ∷ ms) h last mlast x c s ts v e = absurd h
    chain_from_is (b ∷ bs) [] h last mlast x c s ts v e = absurd h
